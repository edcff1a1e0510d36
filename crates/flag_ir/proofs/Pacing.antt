-- What a move takes of what is left of its turn.
use Rattle.std.proofs.Common.{◌≡◌, ℕ, ◌+◌, ◌≤◌, ◌==◌, Bool, true, false, cond, List, [], ◌∷◌, slice_get, Contains, Option, Some, None, Result, Ok, Err, refl, sym, subst, arith}
use Rattle.std.proofs.lemmas.Bool.{cond_both, eqb-true}
use Rattle.traces.specs.Trace.{Label, End, Move, Stand, Go, Halt}
use Rattle.traces.specs.Machines.{marked}
use Rattle.traces.specs.Moves.{PacedMove, Unturned}
use Rattle.memory.specs.CallLaws.{CallLaws}
use Rattle.flag_ir.specs.declared.operation.Op.{Op}
use Rattle.flag_ir.specs.declared.block.Block.{Block}
use Rattle.flag_ir.specs.declared.block.Exit.{Exit}
use Rattle.flag_ir.specs.declared.block.Exit.TheVariants as exit
use Rattle.flag_ir.specs.Storage.{Storage}
use Rattle.flag_ir.specs.Operations.{perform, shown_by}
use Rattle.flag_ir.specs.Entering.{CodeUnit, Onward, index_of_number, leave}
use Rattle.flag_ir.specs.UnitRun.{Point, Before, Within, Over, UnitState, state_at, performed, left_for, within, fresh, begun, next}
use Rattle.flag_ir.specs.Shape.{Part, IsPart, part_blocks, IsBlock, named_by}
use Rattle.flag_ir.specs.Costs.{Costing, list_cost, block_cost, first_cost, entry_cost, step_cost, allowed, BoundsTurns}
use Rattle.flag_ir.specs.Reached.{Opening, openings, part_of, HasExit, IsBack, AreOpenings, IsReached}
use Rattle.flag_ir.proofs.UnitMoves.{ShowsLittle, no_turn_first, shows_little}
use Rattle.flag_ir.proofs.Openings.{Kept, perform_kept}
use Rattle.flag_ir.proofs.Leaving.{blocks_same, left_of, left_before, left_at, left_by, left_back, left_returned, left_behind, Lands, leave_lands}

pub part_member : (unit : CodeUnit) (os : List Opening) → AreOpenings unit os → IsPart unit (part_of os)
part_member unit [] h = tt
part_member unit (o ∷ more) h = h.0

module _ (unit : CodeUnit) (c : Costing) (w : ℕ) (rest : Part → ℕ → ℕ) where
  -- ---- what is left in a state
  abbrev left_point : Point → List Opening → ℕ
  left_point (Before k) os = left_before unit rest os k
  left_point (Within ops e) os = list_cost c ops e + left_behind unit rest os e
  left_point (Over e) os = 0

  abbrev pub left_in : UnitState → ℕ
  left_in s = left_point s.point (openings s.storage.frames)

  -- ---- the beginning of a block: its own cost and what may follow it are within what is allowed
  goes_within : (os : List Opening) (n x y : ℕ) → x ≤ y → ((j : ℕ) (d : Block) → index_of_number n (part_blocks unit (part_of os)) ≡ Some j → slice_get (part_blocks unit (part_of os)) j ≡ Some d → d.at ≡ 0 → x + rest (part_of os) j ≤ y) → x + left_by unit rest os n ≤ y
  goes_within os n x y own onward = go (index_of_number n (part_blocks unit (part_of os))) refl
    where
      at : (j : ℕ) (d : Option Block) → index_of_number n (part_blocks unit (part_of os)) ≡ Some j → slice_get (part_blocks unit (part_of os)) j ≡ d → x + left_of (rest (part_of os) j) d ≤ y
      at j None there is = omega (arith, own)
      at j (Some d) there is = cond_both (d.at == 0) (rest (part_of os) j) 0 (λ (r : ℕ). x + r ≤ y) (λ z. onward j d there is (eqb-true d.at 0 z)) (λ z. omega (arith, own))

      go : (o : Option ℕ) → index_of_number n (part_blocks unit (part_of os)) ≡ o → x + left_at unit rest os o ≤ y
      go None there = omega (arith, own)
      go (Some j) there = at j _ there refl

  module _ (bounds : BoundsTurns c w rest unit) where
    named_within : (os : List Opening) (k : ℕ) (b : Block) (n : ℕ) → AreOpenings unit os → IsBlock unit (part_of os) k b → Contains (named_by b.exit) n → block_cost c b + left_by unit rest os n ≤ allowed w rest (part_of os) k b
    named_within os k b n are is named =
        goes_within os n _ _ (bounds.block (part_of os) k b is)
        (λ j d there at zero_at. bounds.onward (part_of os) k b j d (record { from = is; to = (part_member unit os are, at); number = n; named = named; there = there }) zero_at)

    back_within : (o : Opening) (more : List Opening) (back : Option ℕ) (k : ℕ) (b : Block) → AreOpenings unit more → IsBack unit (part_of more) o.proc back → IsBlock unit (Some o.proc) k b → b.exit ≡ exit.Return
        → block_cost c b + left_back unit rest more back ≤ allowed w rest (Some o.proc) k b
    back_within o more None k b are from is returns = omega (arith, bounds.block (Some o.proc) k b is)
    back_within o more (Some n) k b are from is returns =
        goes_within more n _ _ (bounds.block (Some o.proc) k b is)
        (λ j d there at zero_at. bounds.return o.proc k b (part_of more) j d
        (record { from = is; to = (part_member unit more are, at); returns = returns; call = from.index; caller = from.block; calls = from.there; back = n; names = from.is; there = there }) zero_at)

    returned_within : (os : List Opening) (k : ℕ) (b : Block) → AreOpenings unit os → IsBlock unit (part_of os) k b → b.exit ≡ exit.Return → block_cost c b + left_returned unit rest os ≤ allowed w rest (part_of os) k b
    returned_within [] k b are is returns = omega (arith, bounds.block None k b is)
    returned_within (o ∷ more) k b are is returns = back_within o more o.back k b are.2 are.1 is returns

    behind_within : (os : List Opening) (k : ℕ) (b : Block) (e : Exit) → AreOpenings unit os → IsBlock unit (part_of os) k b → b.exit ≡ e → block_cost c b + left_behind unit rest os e ≤ allowed w rest (part_of os) k b
    behind_within os k b (exit.Go n) are is same = named_within os k b n are is (subst (λ (e : Exit). Contains (named_by e) n) (sym same) (0, omega arith, refl))
    behind_within os k b (exit.Branch test m n) are is same =
        let yes : block_cost c b + left_by unit rest os m ≤ allowed w rest (part_of os) k b = named_within os k b m are is (subst (λ (e : Exit). Contains (named_by e) m) (sym same) (0, omega arith, refl)) in
        let no : block_cost c b + left_by unit rest os n ≤ allowed w rest (part_of os) k b = named_within os k b n are is (subst (λ (e : Exit). Contains (named_by e) n) (sym same) (1, omega arith, refl)) in
        omega (arith, yes, no)
    behind_within os k b (exit.Jump to) are is same = omega (arith, bounds.block (part_of os) k b is)
    behind_within os k b (exit.CallProc entry back) are is same = omega (arith, bounds.block (part_of os) k b is)
    behind_within os k b exit.Return are is same = returned_within os k b are is same
    behind_within os k b exit.Fault are is same = omega (arith, bounds.block (part_of os) k b is)
    behind_within os k b exit.Stop are is same = omega (arith, bounds.block (part_of os) k b is)

  -- ---- moves
  module _ (calls : CallLaws) where
    left_paced : (l turn cost most : ℕ) (r : Onward) → Lands unit rest most r → cost + most ≤ l → PacedMove w left_in l cost (left_for turn r)
    left_paced l turn cost most (Ok p) lands few = record { one_turn = tt; left = omega (arith, lands.1, few) }
    left_paced l turn cost most (Err e) lands few = record { one_turn = tt; left = omega (arith, few) }

    performed_paced : (l turn cost : ℕ) (labels : List Label) (r : Result Storage End) (ops : List Op) (e : Exit) (os : List Opening) → ShowsLittle labels → Kept os r → cost + (list_cost c ops e + left_behind unit rest os e) ≤ l
        → PacedMove w left_in l cost (performed turn labels r ops e)
    performed_paced l turn cost labels (Ok v) ops e os shows kept few = record {
      one_turn = no_turn_first labels shows.turns;
      left = rw kept (omega (arith, few));
    }
    performed_paced l turn cost labels (Err x) ops e os shows kept few = record { one_turn = tt; left = omega (arith, few) }

    within_paced : (l turn : ℕ) (ops : List Op) (e : Exit) (u : Storage) → AreOpenings unit (openings u.frames) → HasExit unit (part_of (openings u.frames)) e → list_cost c ops e + left_behind unit rest (openings u.frames) e ≤ l
        → PacedMove w left_in l (first_cost c ops e) (within unit turn ops e u)
    unfolding list_cost
    within_paced l turn [] e u are has few = left_paced l turn (c.exit e) _ (leave unit turn e u) (leave_lands unit rest turn e u are has) few
    within_paced l turn (o ∷ ops) e u are has few = performed_paced l turn (c.op o) (shown_by o u) (perform turn o u) ops e (openings u.frames) (shows_little calls o u) (perform_kept calls turn o u) (omega (arith, few))

    marked_paced : (a cost : ℕ) (m : Move UnitState) → Unturned m → PacedMove w left_in w cost m → PacedMove w left_in 0 cost (marked a m)
    marked_paced a cost (Stand ls e) h k = k
    marked_paced a cost (Go ls s) h k = record { one_turn = h; left = omega (arith, k.left) }
    marked_paced a cost (Halt ls e) h k = record { one_turn = h; left = omega (arith, k.left) }

    performed_unturned : (turn : ℕ) (labels : List Label) (r : Result Storage End) (ops : List Op) (e : Exit) → ShowsLittle labels → Unturned (performed turn labels r ops e)
    performed_unturned turn labels (Ok v) ops e h = h.turns
    performed_unturned turn labels (Err x) ops e h = refl

    left_unturned : (turn : ℕ) (r : Onward) → Unturned (left_for turn r)
    left_unturned turn (Ok p) = refl
    left_unturned turn (Err e) = refl

    within_unturned : (turn : ℕ) (ops : List Op) (e : Exit) (u : Storage) → Unturned (within unit turn ops e u)
    within_unturned turn [] e u = left_unturned turn (leave unit turn e u)
    within_unturned turn (o ∷ ops) e u = performed_unturned turn (shown_by o u) (perform turn o u) ops e (shows_little calls o u)

    module _ (bounds : BoundsTurns c w rest unit) where
      block_paced : (t : Bool) (r a cost : ℕ) (m n : Move UnitState) → Unturned n → PacedMove w left_in (cond t r w) cost m → PacedMove w left_in (cond t r w) cost n → PacedMove w left_in (cond t r 0) cost (cond t m (marked a n))
      block_paced true r a cost m n h k l = k
      block_paced false r a cost m n h k l = marked_paced a cost n h l

      begun_paced : (turn k : ℕ) (o : Option Block) (u : Storage) → AreOpenings unit (openings u.frames) → slice_get (part_blocks unit (part_of (openings u.frames))) k ≡ o
          → PacedMove w left_in (left_of (rest (part_of (openings u.frames)) k) o) (entry_cost c o) (begun unit turn o u)
      begun_paced turn k None u are there = refl
      begun_paced turn k (Some b) u are there =
          let os = openings u.frames in
          let is : IsBlock unit (part_of os) k b = (part_member unit os are, there) in
          let has : HasExit unit (part_of os) b.exit = record { index = k; block = b; there = is; is = refl } in
          let few : list_cost c b.ops b.exit + left_behind unit rest os b.exit ≤ allowed w rest (part_of os) k b = behind_within bounds os k b b.exit are is refl in
          block_paced (b.at == 0) (rest (part_of os) k) b.at _ _ _ (within_unturned b.at b.ops b.exit (fresh u)) (within_paced _ turn b.ops b.exit (fresh u) are has few) (within_paced _ b.at b.ops b.exit (fresh u) are has few)

      point_paced : (p : Point) (turn : ℕ) (u : Storage) → IsReached unit (state_at turn p u) → PacedMove w left_in (left_in (state_at turn p u)) (step_cost c unit (state_at turn p u)) (next unit (state_at turn p u))
      unfolding next
      point_paced (Before k) turn u h =
          subst (λ (bs : List Block). PacedMove w left_in (left_before unit rest (openings u.frames) k) (entry_cost c (slice_get bs k)) (begun unit turn (slice_get bs k) u)) (sym (blocks_same unit u.frames))
          (begun_paced turn k _ u h.frames refl)
      point_paced (Within ops e) turn u h = within_paced _ turn ops e u h.frames h.point (omega arith)
      point_paced (Over e) turn u h = refl

      pub next_paced : (s : UnitState) → IsReached unit s → PacedMove w left_in (left_in s) (step_cost c unit s) (next unit s)
      next_paced s h = point_paced s.point s.turn s.storage h
