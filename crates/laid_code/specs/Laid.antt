-- What it is for code to be laid: its items stand one behind the other in the code of the processor. Nothing here knows bytes, so how long
-- a spelling is, and whether a jump is short or long, makes no difference. All of this is own.
use Rattle.std.specs.Prelude.{◌≡◌, ◌≢◌, ℕ, ◌+◌, ◌*◌, ◌<◌, ◌≤◌, ◌||◌, Bool, true, cond, leb, ltb, List, [], ◌∷◌, map, All, Option, Some, None}
use Rattle.x86_types.specs.declared.operand.Reg.TheVariants.{Eax, Esp}
use Rattle.x86_types.specs.declared.operand.Rm.{Rm}
use Rattle.x86_types.specs.declared.operand.Rm.TheVariants as rm
use Rattle.x86_types.specs.declared.operand.Src.{Src}
use Rattle.x86_types.specs.declared.operand.Src.TheVariants as src
use Rattle.x86_types.specs.declared.operand.Address.{Address}
use Rattle.x86_types.specs.declared.operation.AluOp.TheVariants as alu
use Rattle.x86_types.specs.declared.operation.Cond.TheVariants as condition
use Rattle.x86_types.specs.declared.width.Width.TheVariants.{Four}
use Rattle.x86_types.specs.declared.instr.Instr.{Instr}
use Rattle.x86_types.specs.declared.instr.Instr.TheVariants as instr
use Rattle.memory.specs.Memory.{wrapped}
use Rattle.x86_code.specs.Code.{Code}
use Rattle.x86_meaning.specs.Registers.{machine_naming}
use Rattle.named_code.specs.declared.placed.Placed.{Placed}
use Rattle.named_code.specs.Items.{Item, CodeBlock, placed_blocks}
use Rattle.named_code.specs.Running.{block_of_number, block_at}
use Rattle.field_places.specs.Fields.{fields}
use Rattle.named_code.specs.Form.{IsStackless, NamesBlock}
use Rattle.named_code.specs.PlacedForm.{IsPlacedInForm}
use Rattle.named_code.specs.Weight.{IsOnce}

-- The places that are found last: of the blocks by number, of the old addresses from `span` on, so many of them, and of a stop, where nothing
-- stands; and where the table of the old addresses lies.
pub record Places : Type 0 where
  pub by_number : ℕ → ℕ
  pub by_address : ℕ → ℕ
  pub stop : ℕ
  pub table : ℕ
  pub span : ℕ
  pub count : ℕ

-- an instruction stands at a place, before the next place
pub record Stands (code : Code) (q : ℕ) (i : Instr) (r : ℕ) : Type 0 where
  pub len : ℕ
  pub is : code q ≡ Some (i, len)
  pub after : r ≡ q + len
  pub within : r < 4294967296

-- a jump that leads to a place
pub record Leads (code : Code) (q : ℕ) (jump : ℕ → Instr) (r to : ℕ) : Type 0 where
  pub by : ℕ
  pub stands : Stands code q (jump by) r
  pub leads : wrapped (r + by) ≡ to

-- ---- a jump to an old address
abbrev pub eax : Rm
eax = rm.Reg Eax

abbrev pub as_source : Rm → Src
as_source (rm.Reg r) = src.Reg r
as_source (rm.Mem a) = src.Mem a

-- the word of the table for the address that eax holds, less the beginning of the span
abbrev pub table_word : Places → Address
table_word l = record { base = None; index = Some Eax; scale = 4; disp = l.table }

-- the address goes to eax, less the beginning of the span; where it lies outside the span the run stops, and else it goes to the place in
-- the table. Addresses below the span are great numbers then, so that one comparison serves
pub record JumpsByTable (l : Places) (code : Code) (q : ℕ) (to : Rm) (r : ℕ) : Type 0 where
  pub q1 : ℕ
  pub takes : Stands code q (instr.Mov Four eax (as_source to)) q1
  pub q2 : ℕ
  pub less : Stands code q1 (instr.Alu alu.Sub Four eax (src.Imm l.span)) q2
  pub q3 : ℕ
  pub compares : Stands code q2 (instr.Alu alu.Cmp Four eax (src.Imm l.count)) q3
  pub q4 : ℕ
  pub tests : Leads code q3 (instr.Jcc condition.Ae) q4 l.stop
  pub q5 : ℕ
  pub looks : Stands code q4 (instr.Mov Four eax (src.Mem (table_word l))) q5
  pub jumps : Stands code q5 (instr.JmpTo eax) r

-- ---- items
abbrev pub InstrStands : Places → Code → ℕ → Instr → ℕ → Type 0
InstrStands l code q (instr.Jmp n) r = Leads code q instr.Jmp r (l.by_number n)
InstrStands l code q (instr.Jcc c n) r = Leads code q (instr.Jcc c) r (l.by_number n)
InstrStands l code q (instr.JmpTo to) r = JumpsByTable l code q to r
InstrStands l code q i r = Stands code q i r

-- the items stand one behind the other, and nothing stands behind the last
abbrev pub Lies : Places → Code → ℕ → List Item → Type 0
Lies l code q [] = code q ≡ None
Lies l code q (x ∷ items) = (r : ℕ) × InstrStands l code q x.instr r × Lies l code r items

-- where an old address has no block, nothing stands at its place
abbrev pub FoundAt : Places → Code → ℕ → Option CodeBlock → Type 0
FoundAt l code q None = code q ≡ None
FoundAt l code q (Some b) = Lies l code q b.items

-- ---- blocks
abbrev pub is_outside : Places → ℕ → Bool
is_outside l a = ltb a l.span || leb (l.span + l.count) a

-- the place to which a jump to an old address comes
abbrev pub place_of_old : Places → ℕ → ℕ
place_of_old l a = cond (is_outside l a) l.stop (l.by_address a)

pub record IsLaid (l : Places) (code : Code) (blocks : List CodeBlock) : Type 0 where
  pub numbers : (n : ℕ) (b : CodeBlock) → block_of_number n blocks ≡ Some b → Lies l code (l.by_number n) b.items
  pub addresses : (a : ℕ) → l.span ≤ a → a < l.span + l.count → FoundAt l code (l.by_address a) (block_at a blocks)
  pub outside : (a : ℕ) → is_outside l a ≡ true → block_at a blocks ≡ None
  pub addresses_fit : (a : ℕ) → l.by_address a < 4294967296
  pub stops : code l.stop ≡ None
  pub span_fits : l.span + l.count < 4294967296
  pub table_fits : l.table + 4 * l.count < 4294967296

-- ---- what can be laid: instructions of the processor that don't use esp, jump to blocks that are there, and don't repeat
pub record IsLayable (numbers : List ℕ) (x : Item) : Type 0 where
  pub own : x.naming ≡ machine_naming
  pub no_esp : All (λ f. f.register ≢ Esp) (fields x.instr)
  pub stackless : IsStackless x.instr
  pub target : NamesBlock numbers x.instr
  pub once : IsOnce x

abbrev pub AreLayable : List CodeBlock → Type 0
AreLayable blocks = All (λ (b : CodeBlock). All (IsLayable (map (λ (c : CodeBlock). c.number) blocks)) b.items) blocks

-- ---- placed code in form can be laid, where no string instruction repeats
abbrev pub FormIsLayable : Type 0
FormIsLayable = (p : Placed) → IsPlacedInForm p → All (λ (b : CodeBlock). All IsOnce b.items) (placed_blocks p) → AreLayable (placed_blocks p)
