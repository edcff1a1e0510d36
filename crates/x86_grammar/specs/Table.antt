-- What an opcode says, by the map, and which row of a group ModRM's reg field names.
use Rattle.std.specs.Prelude.{ℕ, zero, suc, ◌/◌, ◌%◌, [], slice_index_or, Option, Some, None, Bool, true}
use Rattle.x86_types.specs.declared.operation.ShiftOp.{ShiftOp}
use Rattle.x86_types.specs.Numbers.{shift_of}
use Rattle.x86_grammar.specs.declared.row.Row.{Row}
use Rattle.x86_grammar.specs.declared.row.Row.TheVariants as row
use Rattle.x86_grammar.specs.declared.row.Group.{Group}
use Rattle.x86_grammar.specs.declared.row.Group.TheVariants as group
use Rattle.x86_grammar.specs.declared.row.Entry.{Entry}
use Rattle.x86_grammar.specs.declared.row.Entry.TheVariants as entry
use Rattle.x86_grammar.specs.declared.opcode_map.TheConstants.{ENTRIES}

-- entries below 256 stand for one byte, those from 256 on for 0F and a byte
unfoldable pub entry_of : ℕ → Entry
entry_of opcode = slice_index_or (slice_index_or ENTRIES (opcode / 8) []) (opcode % 8) entry.Nothing

-- F6 and F7; /1 names none
abbrev pub unit_row : Bool → ℕ → Option Row
unit_row w zero = Some (row.TestImm w)
unit_row w (suc (suc zero)) = Some (row.Not w)
unit_row w (suc (suc (suc zero))) = Some (row.Neg w)
unit_row w (suc (suc (suc (suc zero)))) = Some (row.Mul w)
unit_row w (suc (suc (suc (suc (suc zero))))) = Some (row.ImulWide w)
unit_row w (suc (suc (suc (suc (suc (suc zero)))))) = Some (row.Div w)
unit_row w (suc (suc (suc (suc (suc (suc (suc zero))))))) = Some (row.Idiv w)
unit_row w _ = None

-- FE and FF
abbrev pub step_row : Bool → ℕ → Option Row
step_row w zero = Some (row.Inc w)
step_row w (suc zero) = Some (row.Dec w)
step_row true (suc (suc zero)) = Some row.CallTo
step_row true (suc (suc (suc (suc zero)))) = Some row.JmpTo
step_row true (suc (suc (suc (suc (suc (suc zero)))))) = Some row.Push
step_row w _ = None

-- the row of a shift, where one is
abbrev pub shift_row : Option ShiftOp → (ShiftOp → Row) → Option Row
shift_row None f = None
shift_row (Some op) f = Some (f op)

-- a group with one row, at 0
abbrev pub first_row : Row → ℕ → Option Row
first_row r zero = Some r
first_row r (suc n) = None

-- the row of a group at that reg field
abbrev pub member_of : Group → ℕ → Option Row
member_of group.Pops n = first_row row.Pop n
member_of (group.Moves w) n = first_row (row.MovImm w) n
member_of (group.Units w) n = unit_row w n
member_of (group.Steps w) n = step_row w n
member_of (group.ShiftsImm w) n = shift_row (shift_of n) (λ op. row.ShiftImm op w)
member_of (group.ShiftsOne w) n = shift_row (shift_of n) (λ op. row.ShiftOne op w)
member_of (group.ShiftsCl w) n = shift_row (shift_of n) (λ op. row.ShiftCl op w)
member_of (group.Sets c) n = first_row (row.Setcc c) n
member_of group.Nops n = first_row row.NopLong n

-- the row of an entry at that reg field
abbrev pub row_in : Entry → ℕ → Option Row
row_in entry.Nothing n = None
row_in (entry.One r) n = Some r
row_in (entry.By g) n = member_of g n

-- the row of an opcode at that reg field
abbrev pub row_at : ℕ → ℕ → Option Row
row_at opcode n = row_in (entry_of opcode) n
