-- Table jumps, and the table of one in a straight run. All of it is own.
use Rattle.std.specs.Prelude.{ℕ, zero, suc, ◌+◌, ◌==◌, ◌||◌, Bool, true, false, cond, min, List, [], ◌∷◌, reverse, take, Option, Some, None}
use Rattle.byte_lists.specs.LittleEndian.{word_from}
use Rattle.image.specs.declared.image.Image.{Image}
use Rattle.image.specs.Addresses.{byte_at, can_write, can_run}
use Rattle.x86_types.specs.declared.operand.Reg.{Reg}
use Rattle.x86_types.specs.declared.operand.Rm.TheVariants as rm
use Rattle.x86_types.specs.declared.operand.Src.TheVariants as src
use Rattle.x86_types.specs.declared.operation.AluOp.TheVariants.{Cmp}
use Rattle.x86_types.specs.declared.operation.Cond.TheVariants.{A}
use Rattle.x86_types.specs.declared.width.Width.TheVariants.{Four}
use Rattle.x86_types.specs.declared.instr.Instr.{Instr}
use Rattle.x86_types.specs.declared.instr.Instr.TheVariants.{Alu, Jcc, JmpTo}
use Rattle.x86_types.specs.Numbers.{number_of_reg}
use Rattle.plan_types.specs.declared.place.Place.{Place}
use Rattle.plan_types.specs.declared.table.Table.{Table}

-- ---- the words of a table
-- a byte that no run changes: it is mapped, and can't be written
abbrev pub constant_byte : Image → ℕ → Option ℕ
constant_byte image a = cond (can_write image a) None (byte_at image a)

abbrev pub word_with : Option ℕ → Option ℕ → Option ℕ → Option ℕ → Option ℕ
word_with (Some b0) (Some b1) (Some b2) (Some b3) = Some (word_from b0 b1 b2 b3)
word_with _ _ _ _ = None

-- a word of which no run changes a byte
abbrev pub constant_word : Image → ℕ → Option ℕ
constant_word image a = word_with (constant_byte image a) (constant_byte image (a + 1)) (constant_byte image (a + 2)) (constant_byte image (a + 3))

-- a word that a test lets pass, and what follows it
abbrev pub if_passed : Bool → ℕ → (ℕ → List ℕ) → ℕ → List ℕ
if_passed true word rest next = word ∷ rest next
if_passed false word rest next = []

abbrev pub words_by : (ℕ → Bool) → Option ℕ → (ℕ → List ℕ) → ℕ → List ℕ
words_by test None rest next = []
words_by test (Some word) rest next = if_passed (test word) word rest next

-- The words from an address on, at most n of them, up to the first that isn't constant or that the test doesn't let pass.
unfoldable pub table_words : Image → (ℕ → Bool) → ℕ → ℕ → List ℕ
table_words image test zero at = []
table_words image test (suc n) at = words_by test (constant_word image at) (λ next. table_words image test n next) (at + 4)

-- ---- how many there are
-- two registers are one
abbrev pub same_register : Reg → Reg → Bool
same_register r q = number_of_reg r == number_of_reg q

-- the constant with which CMP compares a register: CMP r32, imm
abbrev pub compared_with : Reg → Instr → Option ℕ
compared_with r (Alu Cmp Four (rm.Reg q) (src.Imm n)) = cond (same_register r q) (Some n) None
compared_with r _ = None

-- JA rel
abbrev pub is_above : Instr → Bool
is_above (Jcc A by) = true
is_above _ = false

abbrev pub or_else : Option ℕ → Option ℕ → Option ℕ
or_else None y = y
or_else (Some x) y = Some x

-- Of some places, the nearest first, the constant of the nearest CMP of the register that has a JA between it and the jump; `above`
-- says whether a JA stands nearer.
abbrev pub bound_behind : Reg → Bool → List Place → Option ℕ
bound_behind r above [] = None
bound_behind r above (p ∷ more) = or_else (cond above (compared_with r p.instr) None) (bound_behind r (above || is_above p.instr) more)

-- The words of a table: as many as the bound lets the index have, 1,024 at most; without a bound, up to the first that leads to no
-- byte that can be run.
abbrev pub targets_by : Image → ℕ → Option ℕ → List ℕ
targets_by image start None = table_words image (can_run image) 1024 start
targets_by image start (Some bound) = table_words image (λ word. true) (min (bound + 1) 1024) start

-- ---- table jumps
-- the index register of a table jump and the address of its table: JMP [T + r*4], without a base
abbrev pub table_operand : Option Reg → Option Reg → ℕ → ℕ → Option (Reg × ℕ)
table_operand None (Some r) scale start = cond (scale == 4) (Some (r, start)) None
table_operand _ _ scale start = None

abbrev pub table_jump : Instr → Option (Reg × ℕ)
table_jump (JmpTo (rm.Mem a)) = table_operand a.base a.index a.scale a.disp
table_jump _ = None

abbrev pub table_of : Image → ℕ → List Place → Option (Reg × ℕ) → Option Table
table_of image jump before None = None
table_of image jump before (Some t) = Some (record { jump = jump; start = t.1; targets = targets_by image t.1 (bound_behind t.0 false (take 8 before)) })

-- of a run whose places stand from the last to the first
abbrev pub table_at_head : Image → List Place → Option Table
table_at_head image [] = None
table_at_head image (p ∷ before) = table_of image p.at before (table_jump p.instr)

-- The table of a run that ends in a table jump. Its length is bounded by the eight instructions before the jump.
unfoldable pub table_in : Image → List Place → Option Table
table_in image run = table_at_head image (reverse run)
