-- The steps of a turn, from the unit's operations to what is written for the code that is chosen for them.
use Rattle.std.proofs.Common.{◌≡◌, ℕ, ◌+◌, ◌*◌, ◌≤◌, ◌==◌, Bool, true, false, cond, List, [], ◌∷◌, map, refl, subst, arith, Some, None}
use Rattle.std.proofs.Math.Nat.{mul-le-mul_left, one-mul}
use Rattle.x86_types.specs.declared.instr.Instr.{Instr}
use Rattle.x86_types.specs.declared.instr.Instr.TheVariants as instr
use Rattle.flag_ir.specs.declared.operation.Op.{Op}
use Rattle.flag_ir.specs.declared.block.Block.{Block}
use Rattle.flag_ir.specs.declared.block.Exit.{Exit}
use Rattle.flag_ir.specs.Entering.{CodeUnit}
use Rattle.flag_ir.specs.Shape.{Part}
use Rattle.flag_ir.specs.Costs.{Costing, one_each, list_cost, block_cost, allowed, BoundsTurns}
use Rattle.guards.specs.Guarding.{lowered_costing}
use Rattle.guards.specs.Lowering.{Lowers}
use Rattle.named_code.specs.declared.named.VBlock.{VBlock}
use Rattle.named_code.specs.declared.placed.Placed.{Placed}
use Rattle.named_code.specs.Items.{Item, named_item, named_blocks}
use Rattle.named_code.specs.Weight.{items_cost, BoundsCode}
use Rattle.name_cells.specs.Cells.{name_count}
use Rattle.name_cells.specs.PlacesCode.{PlacesCode}
use Rattle.instr_choose.specs.Lists.{choose_op}
use Rattle.instr_choose.specs.Blocks.{choose_exit}
use Rattle.instr_choose.specs.Marks.{marks_of}
use Rattle.instr_choose.specs.Choosing.{chosen_costing, Chooses}
use Rattle.laid_code.specs.LaidRun.{instr_steps, laid_steps}
use Rattle.code_bounds.specs.Steps.{steps}
use Rattle.code_bounds.specs.Operations.{op_steps, store_steps}
use Rattle.code_bounds.specs.Turns.{turn_steps, HasTurnBounds, TurnBounds}
use Rattle.code_bounds.proofs.Placed.{steps_within}
use Rattle.code_bounds.proofs.Chosen.{exit_priced}
use Rattle.code_bounds.proofs.Classes.{class_costing, ignores_temps, op_within, lowered_within}

-- ---- where by d each operation and each exit costs at most m times what it costs by c, so does a turn
module _ (c d : Costing) (m : ℕ) (ops : (o : Op) → d.op o ≤ m * c.op o) (exits : (e : Exit) → d.exit e ≤ m * c.exit e) where
  list_scaled : (os : List Op) (e : Exit) → list_cost d os e ≤ m * list_cost c os e
  unfolding list_cost
  list_scaled [] e = exits e
  list_scaled (o ∷ os) e = let l : list_cost d os e ≤ m * list_cost c os e = list_scaled os e in omega (arith, ops o, l)

  module _ (u : CodeUnit) (w : ℕ) (rest : Part → ℕ → ℕ) where
    abbrev scaled_rest : Part → ℕ → ℕ
    scaled_rest part k = m * rest part k

    allowed_scaled : (part : Part) (k : ℕ) (b : Block) → m * allowed w rest part k b ≡ allowed (m * w) scaled_rest part k b
    allowed_scaled part k b = by (b.at == 0)
      where
        by : (z : Bool) → m * cond z (rest part k) w ≡ cond z (m * rest part k) (m * w)
        by true = refl
        by false = refl

    block_scaled : (part : Part) (k : ℕ) (b : Block) (left : ℕ) → block_cost c b + left ≤ allowed w rest part k b → block_cost d b + m * left ≤ allowed (m * w) scaled_rest part k b
    block_scaled part k b left h = omega (arith, list_scaled b.ops b.exit, mul-le-mul_left m h, allowed_scaled part k b)

    alone_scaled : (part : Part) (k : ℕ) (b : Block) → block_cost c b ≤ allowed w rest part k b → block_cost d b ≤ allowed (m * w) scaled_rest part k b
    alone_scaled part k b h = omega (arith, list_scaled b.ops b.exit, mul-le-mul_left m h, allowed_scaled part k b)

    turns_scaled : BoundsTurns c w rest u → BoundsTurns d (m * w) scaled_rest u
    turns_scaled h = record {
      block = λ part k b is. alone_scaled part k b (h.block part k b is);
      onward = λ part k b j e goes none. block_scaled part k b (rest part j) (h.onward part k b j e goes none);
      return = λ p k b part j e back none. block_scaled (Some p) k b (rest part j) (h.return p k b part j e back none);
    }

-- ---- costs of items that are within their steps
module _ (cost : Item → ℕ) (within : (x : Item) → cost x ≤ steps x) where
  items_within : (xs : List Item) → items_cost cost xs ≤ items_cost steps xs
  items_within [] = omega arith
  items_within (x ∷ xs) = omega (arith, within x, items_within xs)

  chosen_op : (o : Op) → (chosen_costing cost).op o ≤ 1 * class_costing.op o
  chosen_op o = omega (arith, items_within (map named_item (choose_op o)), op_within o)

  chosen_exit : (e : Exit) → (chosen_costing cost).exit e ≤ 1 * class_costing.exit e
  chosen_exit e = omega (arith, items_within (map named_item (choose_exit e)), (exit_priced e).in_steps)

  module _ (u v : CodeUnit) (code : List VBlock) (w : ℕ) (rest : Part → ℕ → ℕ) (turns : BoundsTurns one_each w rest u) (lowers : Lowers u v) (chooses : Chooses v code) where
    abbrev left : Part → ℕ → ℕ
    left part k = op_steps * rest part k

    lowered_bounded : BoundsTurns class_costing (turn_steps w) left v
    lowered_bounded =
        lowers.costs class_costing (op_steps * w) store_steps left ignores_temps (λ at. omega arith)
        (turns_scaled one_each (lowered_costing class_costing) op_steps (λ o. omega (arith, lowered_within o)) (λ e. omega arith) u w rest turns)

    chosen_bounded : BoundsTurns (chosen_costing cost) (turn_steps w) (λ part k. 1 * left part k) v
    chosen_bounded =
        subst (λ (n : ℕ). BoundsTurns (chosen_costing cost) n (λ part k. 1 * left part k) v) (one-mul (turn_steps w))
        (turns_scaled class_costing (chosen_costing cost) 1 chosen_op chosen_exit v (turn_steps w) left lowered_bounded)

    code_bounded : BoundsCode (marks_of v) cost (λ k. 1 * left None k) (turn_steps w) (named_blocks code)
    code_bounded = chooses.costs cost (turn_steps w) (λ part k. 1 * left part k) chosen_bounded

-- ---- from a unit to placed code
module _ (u v : CodeUnit) (code : List VBlock) (p : Placed) (w : ℕ) (rest : Part → ℕ → ℕ) (turns : BoundsTurns one_each w rest u) (lowers : Lowers u v) (chooses : Chooses v code) (places : PlacesCode code p) where
  abbrev least : ℕ → ℕ
  least k = 1 * (op_steps * rest None k)

  one_step : (x : Item) → 1 ≤ steps x
  one_step x = omega (arith, own x.instr)
    where
      own : (i : Instr) → 1 ≤ instr_steps i
      own (instr.JmpTo to) = omega arith
      own i = omega arith

  bounds : HasTurnBounds v code p w
  bounds = record {
    short = (least, turn_steps w, code_bounded (λ x. 1) one_step u v code w rest turns lowers chooses);
    laid = (
      least,
      places.costs (marks_of v) laid_steps steps least (turn_steps w) (λ x placeable. steps_within p.homes (name_count code) x placeable.few)
          (code_bounded steps (λ x. omega arith) u v code w rest turns lowers chooses),
    );
  }

pub turn_bounds : TurnBounds
turn_bounds u v code p w rest turns lowers chooses places = bounds u v code p w rest turns lowers chooses places
