-- What each operation, each block and a unit become where nothing may reach the private area. All of this is own.
use Rattle.std.specs.Prelude.{ℕ, ◌+◌, ◌^◌, ◌<◌, ◌==◌, ◌&&◌, ◌||◌, Bool, true, false, not, cond, List, [], ◌∷◌, ◌++◌, map, flat_map, All}
use Rattle.memory.specs.Memory.{wrapped}
use Rattle.flag_ir.specs.declared.variable.Var.{Var}
use Rattle.flag_ir.specs.declared.variable.Var.TheVariants as var
use Rattle.flag_ir.specs.declared.variable.Term.{Term}
use Rattle.flag_ir.specs.declared.variable.Term.TheVariants as term
use Rattle.flag_ir.specs.declared.operation.Op.{Op}
use Rattle.flag_ir.specs.declared.operation.Op.TheVariants as op
use Rattle.flag_ir.specs.declared.operation.Calc.TheVariants as calc
use Rattle.flag_ir.specs.declared.block.Block.{Block}
use Rattle.flag_ir.specs.declared.block.Exit.{Exit}
use Rattle.flag_ir.specs.declared.block.Exit.TheVariants as exit
use Rattle.flag_ir.specs.Entering.{CodeUnit}
use Rattle.flag_ir.specs.Costs.{Costing}
use Rattle.private_memory.specs.PrivateArea.{is_private}

-- ---- addresses
-- how far the address lies above the start of the area, whether that is below its size, and then 0 in its place
abbrev pub tested : Var → Term → List Op
tested to at =
    op.Calc (var.Temp 1399997) calc.Sub at (term.Word 0x60000000) ∷
    op.Calc (var.Temp 1399998) calc.Ltu (term.Var (var.Temp 1399997)) (term.Word 0x1C000000) ∷
    op.Pick to (term.Var (var.Temp 1399998)) (term.Word 0) at ∷ []

-- one that is written out
unfoldable pub literal : ℕ → Term
literal n = cond (is_private (wrapped n)) (term.Word 0) (term.Word n)

-- ---- operations
abbrev pub guarded_load : Var → ℕ → Term → List Op
guarded_load to size (term.Var x) = tested (var.Temp 1399999) (term.Var x) ++ (op.Load to size (term.Var (var.Temp 1399999)) ∷ [])
guarded_load to size (term.Word n) = op.Load to size (literal n) ∷ []

abbrev pub guarded_store : ℕ → Term → Term → List Op
guarded_store size (term.Var x) from = tested (var.Temp 1399999) (term.Var x) ++ (op.Store size (term.Var (var.Temp 1399999)) from ∷ [])
guarded_store size (term.Word n) from = op.Store size (literal n) from ∷ []

-- ecx holds the address of the buffer, and is put back behind the call
abbrev pub guarded_system : List Op
guarded_system = (op.Set (var.Temp 1399999) (term.Var (var.Reg 1)) ∷ tested (var.Reg 1) (term.Var (var.Reg 1))) ++ (op.System ∷ op.Set (var.Reg 1) (term.Var (var.Temp 1399999)) ∷ [])

abbrev pub guarded : Op → List Op
guarded (op.Load to size at) = guarded_load to size at
guarded (op.Store size at from) = guarded_store size at from
guarded op.System = guarded_system
guarded o = o ∷ []

abbrev pub guarded_ops : List Op → List Op
guarded_ops ops = flat_map guarded ops

-- ---- stops
abbrev pub is_stop : Exit → Bool
is_stop exit.Stop = true
is_stop _ = false

-- some block that begins no turn stops
abbrev pub has_loose_stop : List Block → Bool
has_loose_stop [] = false
has_loose_stop (b ∷ bs) = (b.at == 0 && is_stop b.exit) || has_loose_stop bs

-- the old address of the turn is stored where a stop finds it
abbrev pub turn_store : ℕ → Op
turn_store at = op.Store 4 (term.Word 0x75000004) (term.Word at)

abbrev pub turn_stores : Bool → ℕ → Exit → List Op
turn_stores loose at e = cond (not (at == 0) && (loose || is_stop e)) (turn_store at ∷ []) []

-- ---- blocks and units
abbrev pub guarded_block : Bool → Block → Block
guarded_block loose b = record b { ops = turn_stores loose b.at b.exit ++ guarded_ops b.ops }

abbrev pub guarded_unit : CodeUnit → CodeUnit
guarded_unit u = record { lowered = true; whole = map (guarded_block (has_loose_stop u.whole)) u.whole; procs = [] }

-- addresses are below 2^32
abbrev pub AreAddresses : List Block → Type 0
AreAddresses blocks = All (λ (b : Block). b.at < 2 ^ 32) blocks

-- ---- costs: an operation costs what its list costs
abbrev pub ops_cost : Costing → List Op → ℕ
ops_cost c [] = 0
ops_cost c (o ∷ os) = c.op o + ops_cost c os

abbrev pub lowered_costing : Costing → Costing
lowered_costing c = record { op = λ o. ops_cost c (guarded o); exit = c.exit }
