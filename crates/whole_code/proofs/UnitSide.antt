-- What a unit does from within a block: it goes through the operations and leaves by the exit.
use Rattle.std.proofs.Common.{◌≡◌, ◌⊎◌, ℕ, suc, ◌+◌, ◌<◌, ◌≤◌, ◌==◌, Bool, true, false, cond, List, [], ◌++◌, length, Option, Some, None, Ok, Err, refl, sym, ap, ◌∙◌, subst, subst₂, inl, inr, arith}
use Rattle.std.specs.List.{slice_get}
use Rattle.std.proofs.lemmas.List.{append-nil}
use Rattle.x86_values.specs.Words.{known}
use Rattle.x86_values.specs.WordLaws.{WordLaws}
use Rattle.traces.specs.Trace.{Label, End, Outside, Stopped, seen, before, Move, Stand, Go, Halt, run}
use Rattle.traces.specs.Steps.{Goes, Reaches, EndsFrom}
use Rattle.traces.specs.RunLaws.{RunLaws}
use Rattle.flag_ir.specs.declared.variable.Term.{Term}
use Rattle.flag_ir.specs.declared.variable.Term.TheVariants as term
use Rattle.flag_ir.specs.declared.operation.Op.{Op}
use Rattle.flag_ir.specs.declared.block.Block.{Block}
use Rattle.flag_ir.specs.declared.block.Exit.{Exit}
use Rattle.flag_ir.specs.declared.block.Exit.TheVariants as exit
use Rattle.flag_ir.specs.declared.procedure.Proc.{Proc}
use Rattle.flag_ir.specs.Storage.{Storage, term_in}
use Rattle.flag_ir.specs.Operations.{and_then, needed, performs, shown_by_all}
use Rattle.flag_ir.specs.Entering.{CodeUnit, before_block, blocks_of, index_of_number, index_at, procedure_at, to_number, jump, jump_by, jump_with, leave}
use Rattle.flag_ir.specs.UnitRun.{Before, Within, UnitState, state_at, left_for, fresh, within, next}
use Rattle.flag_ir.specs.UnitLaws.{UnitLaws}
use Rattle.lift_core.specs.Whole.{LeadsTo, NumberLeadsTo, BranchesTo, OnlyJumps}

-- ---- several steps, and one more
module _ {S : Type 0} (runs : RunLaws S) (machine : S → Move S) where
  one_more : (n : ℕ) → n + 1 ≡ suc n
  one_more n = omega arith

  pub reach_go : (s t w : S) (n : ℕ) (ls : List Label) → Reaches machine s n ls t → machine t ≡ Go [] w → Goes machine s (suc n) ls w
  reach_go s t w n ls r e =
      let both = runs.reaches_then machine s n ls t 1 [] w r (runs.reaches_step machine t [] w e) in
      runs.reaches_goes machine s n ls w (subst₂ (λ k ks. Reaches machine s k ks w) (one_more n) (append-nil ls) both)

  pub reach_halt : (s t : S) (n : ℕ) (ls : List Label) (e : End) → Reaches machine s n ls t → machine t ≡ Halt [] e → run machine s (n + 1) ≡ seen ls (Some e)
  reach_halt s t n ls e r h = runs.reaches_run machine s n ls t r 1 ∙ (ap (before ls) (runs.run_halt machine t [] e h 0) ∙ ap (λ ks. seen ks (Some e)) (append-nil ls))

-- the state in which a unit runs the block of an address, or its stop where none has it
pub record ArrivesAt (unit : CodeUnit) (k : ℕ) (c : UnitState) (ls : List Label) (v : Storage) : Type 0 where
  pub turn : ℕ
  pub steps : ℕ
  pub goes : Goes (next unit) c steps ls (state_at turn (Before k) v)

pub record EndsWith (unit : CodeUnit) (c : UnitState) (ls : List Label) (e : End) : Type 0 where
  pub steps : ℕ
  pub ends : run (next unit) c steps ≡ seen ls (Some e)

abbrev pub ArrivesBy : Option ℕ → CodeUnit → UnitState → List Label → ℕ → Storage → Type 0
ArrivesBy (Some k) unit c ls a v = ArrivesAt unit k c ls v
ArrivesBy None unit c ls a v = EndsWith unit c ls (Stopped a)

-- the storage is that one, or that one with other temporaries
pub record Arrives (unit : CodeUnit) (c : UnitState) (ls : List Label) (a : ℕ) (v : Storage) : Type 0 where
  pub storage : Storage
  pub same : (storage ≡ v) ⊎ (storage ≡ fresh v)
  pub by : ArrivesBy (index_at a unit.whole) unit c ls a storage

module _ (runs : RunLaws UnitState) (units : UnitLaws) (words : WordLaws) (unit : CodeUnit) (alone : unit.procs ≡ []) where
  inside : ℕ → List Op → Exit → Storage → UnitState
  inside turn ops e u = state_at turn (Within ops e) u

  -- ---- lists
  list_goes : (turn : ℕ) (ops : List Op) (e : Exit) (u v : Storage) → performs turn ops u ≡ Ok v → Reaches (next unit) (state_at turn (Within ops e) u) (length ops) (shown_by_all turn ops u) (state_at turn (Within [] e) v)
  list_goes turn ops e u v h =
      subst (λ xs. Reaches (next unit) (state_at turn (Within xs e) u) (length ops) (shown_by_all turn ops u) (state_at turn (Within [] e) v)) (append-nil ops) (units.lists.goes_through unit turn ops [] e u v h)

  pub list_ends : (turn : ℕ) (ops : List Op) (e : Exit) (u : Storage) (f : End) → performs turn ops u ≡ Err f → EndsWith unit (state_at turn (Within ops e) u) (shown_by_all turn ops u) f
  list_ends turn ops e u f h = cases r.by
    where
      c : UnitState
      c = state_at turn (Within ops e) u

      r : EndsFrom (next unit) (state_at turn (Within ops e) u) (length ops) (shown_by_all turn ops u) f
      r = subst (λ xs. EndsFrom (next unit) (state_at turn (Within xs e) u) (length ops) (shown_by_all turn ops u) f) (append-nil ops) (units.lists.ends_within unit turn ops [] e u f h)

      by_last : run (next unit) r.state 1 ≡ seen r.last (Some f) → EndsWith unit (state_at turn (Within ops e) u) (shown_by_all turn ops u) f
      by_last last = record {
        steps = r.steps + 1;
        ends = runs.reaches_run (next unit) (state_at turn (Within ops e) u) r.steps r.first r.state r.reaches 1 ∙ (ap (before r.first) last ∙ ap (λ ls. seen ls (Some f)) (sym r.trace));
      }

      cases : ((next unit r.state ≡ Stand r.last f) × (r.steps ≤ length ops)) ⊎ ((next unit r.state ≡ Halt r.last f) × (r.steps < length ops)) → EndsWith unit (state_at turn (Within ops e) u) (shown_by_all turn ops u) f
      cases (inl stands) = by_last (runs.run_stand (next unit) r.state r.last f stands.0 1)
      cases (inr halts) = by_last (runs.run_halt (next unit) r.state r.last f halts.0 0)

  -- ---- exits
  pub exit_goes : (turn : ℕ) (ops : List Op) (e : Exit) (u v w : Storage) (k : ℕ) → performs turn ops u ≡ Ok v → leave unit turn e v ≡ Ok (k, w) → Goes (next unit) (state_at turn (Within ops e) u) (suc (length ops)) (shown_by_all turn ops u) (state_at turn (Before k) w)
  exit_goes turn ops e u v w k h l = reach_go runs (next unit) _ _ _ (length ops) _ (list_goes turn ops e u v h) (units.moves.by_within unit turn [] e v ∙ ap (left_for turn) l)

  pub exit_ends : (turn : ℕ) (ops : List Op) (e : Exit) (u v : Storage) (f : End) → performs turn ops u ≡ Ok v → leave unit turn e v ≡ Err f → EndsWith unit (state_at turn (Within ops e) u) (shown_by_all turn ops u) f
  exit_ends turn ops e u v f h l = record { steps = length ops + 1; ends = reach_halt runs (next unit) _ _ (length ops) _ f (list_goes turn ops e u v h) (units.moves.by_within unit turn [] e v ∙ ap (left_for turn) l) }

  by_index : (turn : ℕ) (ops : List Op) (e : Exit) (u v : Storage) (a : ℕ) (o : Option ℕ) → performs turn ops u ≡ Ok v → leave unit turn e v ≡ before_block o (Stopped a) v → ArrivesBy o unit (state_at turn (Within ops e) u) (shown_by_all turn ops u) a v
  by_index turn ops e u v a None h l = exit_ends turn ops e u v (Stopped a) h l
  by_index turn ops e u v a (Some k) h l = record { turn = turn; steps = suc (length ops); goes = exit_goes turn ops e u v v k h l }

  -- ---- jumps, where no frame is open
  no_procedure : (a : ℕ) → procedure_at a [] ≡ None
  unfolding procedure_at
  no_procedure a = elim (a == 0) as (λ z. cond z (let o : Option Proc = None in o) None ≡ None) [ true ↦ refl | false ↦ refl ]

  pub jump_is : (a : ℕ) (v : Storage) → v.frames ≡ [] → jump unit a v ≡ before_block (index_at a unit.whole) (Stopped a) v
  unfolding jump
  jump_is a v closed =
      ap (λ frames. jump_with frames unit a v) closed
      ∙ (ap (λ procs. jump_by (procedure_at a procs) unit a v) alone ∙ ap (λ o. jump_by o unit a v) (no_procedure a))

  number_is : (n : ℕ) (v : Storage) → v.frames ≡ [] → to_number unit n v ≡ before_block (index_of_number n unit.whole) Outside v
  number_is n v closed = ap (λ frames. before_block (index_of_number n (blocks_of unit frames)) Outside v) closed

  jumps_to : (turn a : ℕ) (v : Storage) → v.frames ≡ [] → a < 4294967296 → leave unit turn (exit.Jump (term.Word a)) v ≡ before_block (index_at a unit.whole) (Stopped a) v
  unfolding leave
  jumps_to turn a v closed small = ap (λ o. and_then (needed o) (λ b. jump unit b v)) (words.known_word a small) ∙ jump_is a v closed

  leads_to : (turn a : ℕ) (e : Exit) (v : Storage) → v.frames ≡ [] → a < 4294967296 → LeadsTo unit.whole e a → leave unit turn e v ≡ before_block (index_at a unit.whole) (Stopped a) v
  unfolding leave
  leads_to turn a e v closed small (inl g) =
      ap (λ x. leave unit turn x v) g.goes
      ∙ (number_is g.number v closed ∙ (ap (λ o. before_block o Outside v) g.numbered ∙ sym (ap (λ o. before_block o (Stopped a) v) g.there)))
  leads_to turn a e v closed small (inr g) = ap (λ x. leave unit turn x v) g ∙ jumps_to turn a v closed small

  pub list_leads : (turn : ℕ) (ops : List Op) (e : Exit) (u v : Storage) (a : ℕ) → performs turn ops u ≡ Ok v → v.frames ≡ [] → a < 4294967296 → LeadsTo unit.whole e a → Arrives unit (state_at turn (Within ops e) u) (shown_by_all turn ops u) a v
  list_leads turn ops e u v a h closed small l = record { storage = v; same = inl refl; by = by_index turn ops e u v a (index_at a unit.whole) h (leads_to turn a e v closed small l) }

  -- ---- by a number, from a state before its block on
  after_by : (c d : UnitState) (n : ℕ) (ls ks : List Label) (a : ℕ) (v : Storage) (o : Option ℕ) → Goes (next unit) c n ls d → ArrivesBy o unit d ks a v → ArrivesBy o unit c (ls ++ ks) a v
  after_by c d n ls ks a v None g r = record { steps = n + r.steps; ends = g.by r.steps ∙ ap (before ls) r.ends }
  after_by c d n ls ks a v (Some k) g r = record { turn = r.turn; steps = n + r.steps; goes = runs.goes_then (next unit) c n ls d r.steps ks (state_at r.turn (Before k) v) g r.goes }

  pub after_goes : (c d : UnitState) (n : ℕ) (ls ks : List Label) (a : ℕ) (v : Storage) → Goes (next unit) c n ls d → Arrives unit d ks a v → Arrives unit c (ls ++ ks) a v
  after_goes c d n ls ks a v g r = record { storage = r.storage; same = r.same; by = after_by c d n ls ks a r.storage (index_at a unit.whole) g r.by }

  pub ends_after : (c d : UnitState) (n : ℕ) (ls ks : List Label) (f : End) → Goes (next unit) c n ls d → EndsWith unit d ks f → EndsWith unit c (ls ++ ks) f
  ends_after c d n ls ks f g r = record { steps = n + r.steps; ends = g.by r.steps ∙ ap (before ls) r.ends }

  -- a block that only jumps
  only_jumps : (turn index a : ℕ) (b : Block) (v : Storage) (c : UnitState) (n : ℕ) (ls : List Label) → Goes (next unit) c n ls (state_at turn (Before index) v) → slice_get unit.whole index ≡ Some b → OnlyJumps a b → v.frames ≡ [] → a < 4294967296 → Arrives unit c ls a v
  only_jumps turn index a b v c n ls g is only closed small = record { storage = fresh v; same = inr refl; by = subst (λ ks. ArrivesBy (index_at a unit.whole) unit c ks a (fresh v)) (append-nil ls) (after_by c (state_at turn (Before index) v) n ls [] a (fresh v) (index_at a unit.whole) g (by_move (index_at a unit.whole) refl)) }
    where
      there : slice_get (blocks_of unit v.frames) index ≡ Some b
      there = ap (λ frames. slice_get (blocks_of unit frames) index) closed ∙ is

      move : next unit (state_at turn (Before index) v) ≡ left_for turn (before_block (index_at a unit.whole) (Stopped a) (fresh v))
      move =
          units.moves.goes_on unit turn index b v there only.at
          ∙ (ap (λ ops. within unit turn ops b.exit (fresh v)) only.ops
          ∙ (ap (λ x. left_for turn (leave unit turn x (fresh v))) only.exit ∙ ap (left_for turn) (jumps_to turn a (fresh v) closed small)))

      by_move : (o : Option ℕ) → index_at a unit.whole ≡ o → ArrivesBy o unit (state_at turn (Before index) v) [] a (fresh v)
      by_move None e = record { steps = 1; ends = runs.run_halt (next unit) (state_at turn (Before index) v) [] (Stopped a) (move ∙ ap (λ o. left_for turn (before_block o (Stopped a) (fresh v))) e) 0 }
      by_move (Some k) e = record { turn = turn; steps = 1; goes = runs.goes_step (next unit) (state_at turn (Before index) v) [] (state_at turn (Before k) (fresh v)) (move ∙ ap (λ o. left_for turn (before_block o (Stopped a) (fresh v))) e) }

  number_leads : (turn number index a : ℕ) (b : Block) (v : Storage) (c : UnitState) (n : ℕ) (ls : List Label) → Goes (next unit) c n ls (state_at turn (Before index) v) → slice_get unit.whole index ≡ Some b → ((index_at a unit.whole ≡ Some index) ⊎ OnlyJumps a b) → v.frames ≡ [] → a < 4294967296 → Arrives unit c ls a v
  number_leads turn number index a b v c n ls g is (inl there) closed small = record { storage = v; same = inl refl; by = subst (λ o. ArrivesBy o unit c ls a v) (sym there) (let r : ArrivesAt unit index c ls v = record { turn = turn; steps = n; goes = g } in r) }
  number_leads turn number index a b v c n ls g is (inr only) closed small = only_jumps turn index a b v c n ls g is only closed small

  -- ---- branches
  pub branch_is : (turn number index : ℕ) (v : Storage) → v.frames ≡ [] → index_of_number number unit.whole ≡ Some index → to_number unit number v ≡ Ok (index, v)
  branch_is turn number index v closed e = number_is number v closed ∙ ap (λ o. before_block o Outside v) e

  pub list_leads_by_number : (turn : ℕ) (ops : List Op) (e : Exit) (u v : Storage) (number a : ℕ) → performs turn ops u ≡ Ok v → leave unit turn e v ≡ to_number unit number v → v.frames ≡ [] → a < 4294967296 → NumberLeadsTo unit.whole number a → Arrives unit (state_at turn (Within ops e) u) (shown_by_all turn ops u) a v
  list_leads_by_number turn ops e u v number a h l closed small r =
      number_leads turn number r.index a r.block v (state_at turn (Within ops e) u) (suc (length ops)) (shown_by_all turn ops u)
      (exit_goes turn ops e u v v r.index h (l ∙ branch_is turn number r.index v closed r.numbered.index)) r.numbered.block r.leads closed small

  pub leave_branch : (turn : ℕ) (e : Exit) (test : Term) (first second n : ℕ) (v : Storage) → e ≡ exit.Branch test first second → known (term_in test v) ≡ Some n → leave unit turn e v ≡ to_number unit (cond (n == 0) second first) v
  unfolding leave
  leave_branch turn e test first second n v is k = ap (λ x. leave unit turn x v) is ∙ ap (λ o. and_then (needed o) (λ m. to_number unit (cond (m == 0) second first) v)) k

  pub leave_unknown : (turn : ℕ) (e : Exit) (test : Term) (first second : ℕ) (v : Storage) → e ≡ exit.Branch test first second → known (term_in test v) ≡ None → leave unit turn e v ≡ needed None
  unfolding leave
  leave_unknown turn e test first second v is k = ap (λ x. leave unit turn x v) is ∙ ap (λ o. and_then (needed o) (λ m. to_number unit (cond (m == 0) second first) v)) k

  pub list_branches : (turn : ℕ) (ops : List Op) (e : Exit) (test : Term) (u v : Storage) (a b n : ℕ) → performs turn ops u ≡ Ok v → known (term_in test v) ≡ Some n → v.frames ≡ [] → a < 4294967296 → b < 4294967296 → BranchesTo unit.whole e test a b → Arrives unit (state_at turn (Within ops e) u) (shown_by_all turn ops u) (cond (n == 0) b a) v
  list_branches turn ops e test u v a b n h k closed smalla smallb br = cases (n == 0) (leave_branch turn e test br.yes br.no n v br.branches k)
    where
      cases : (z : Bool) → leave unit turn e v ≡ to_number unit (cond z br.no br.yes) v → Arrives unit (state_at turn (Within ops e) u) (shown_by_all turn ops u) (cond z b a) v
      cases true l = list_leads_by_number turn ops e u v br.no b h l closed smallb br.second
      cases false l = list_leads_by_number turn ops e u v br.yes a h l closed smalla br.first

  -- ---- jumps by a term
  jumped : (turn : ℕ) (e : Exit) (target : Term) (v : Storage) (a : ℕ) → known (term_in target v) ≡ Some a → v.frames ≡ [] → e ≡ exit.Jump target → leave unit turn e v ≡ before_block (index_at a unit.whole) (Stopped a) v
  unfolding leave
  jumped turn e target v a k closed is = ap (λ x. leave unit turn x v) is ∙ (ap (λ o. and_then (needed o) (λ b. jump unit b v)) k ∙ jump_is a v closed)

  pub list_jumps : (turn : ℕ) (ops : List Op) (e : Exit) (target : Term) (u v : Storage) (a : ℕ) → performs turn ops u ≡ Ok v → known (term_in target v) ≡ Some a → v.frames ≡ [] → e ≡ exit.Jump target → Arrives unit (state_at turn (Within ops e) u) (shown_by_all turn ops u) a v
  list_jumps turn ops e target u v a h k closed is = record { storage = v; same = inl refl; by = by_index turn ops e u v a (index_at a unit.whole) h leaves }
    where
      leaves : leave unit turn e v ≡ before_block (index_at a unit.whole) (Stopped a) v
      leaves = jumped turn e target v a k closed is

  pub jump_unknown : (turn : ℕ) (e : Exit) (target : Term) (v : Storage) → known (term_in target v) ≡ None → e ≡ exit.Jump target → leave unit turn e v ≡ needed None
  unfolding leave
  jump_unknown turn e target v k is = ap (λ x. leave unit turn x v) is ∙ ap (λ o. and_then (needed o) (λ b. jump unit b v)) k
