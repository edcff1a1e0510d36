-- The places that a run can meet, and which files are rewritten so far.
use Rattle.std.specs.Prelude.{◌≡◌, ◌⊎◌, ℕ, ◌+◌, ◌%◌, ◌<◌, ◌≤◌, ◌==◌, ◌&&◌, ◌||◌, Bool, true, leb, List, Some}
use Rattle.image.specs.declared.image.Image.{Image}
use Rattle.image.specs.Addresses.{code_byte_at}
use Rattle.elf_image.specs.Fields.{has_magic}
use Rattle.elf_image.specs.Plain.{is_plain, plain_image}
use Rattle.x86_types.specs.declared.operand.Reg.{Reg}
use Rattle.x86_types.specs.declared.instr.Instr.TheVariants.{Mov, Jmp, Int80}
use Rattle.x86_types.specs.declared.operand.Rm.TheVariants as rm
use Rattle.x86_types.specs.declared.operand.Src.TheVariants as src
use Rattle.x86_types.specs.declared.width.Width.TheVariants.{Four}
use Rattle.x86_types.specs.declared.instr.Instr.{Instr}
use Rattle.x86_code.specs.Code.{code_of}

-- a move of a constant to a register
abbrev pub mov_word : Reg → ℕ → Instr
mov_word to from = Mov Four (rm.Reg to) (src.Imm from)

-- A place is met where it is the entry, the place after a met MOV or `int 0x80`, or the target of a met JMP.
pub data Met (image : Image) : ℕ → Type 0 where
  entry : Met image image.entry
  after_mov : {a : ℕ} → (to : Reg) → (from len : ℕ) → Met image a → code_of image a ≡ Some (mov_word to from, len) → Met image (a + len)
  after_call : {a : ℕ} → (len : ℕ) → Met image a → code_of image a ≡ Some (Int80, len) → Met image (a + len)
  target : {a : ℕ} → (by len : ℕ) → Met image a → code_of image a ≡ Some (Jmp by, len) → Met image ((a + len + by) % 4294967296)

-- B8 to BF begin a MOV, CD begins a call, E9 and EB a jump, and F4 no instruction of the list
abbrev pub is_taken_byte : ℕ → Bool
is_taken_byte b = (leb 0xB8 b && leb b 0xBF) || b == 0xCD || b == 0xE9 || b == 0xEB || b == 0xF4

-- a constant that is no address of the written file's own
abbrev pub IsFree : ℕ → Type 0
IsFree n = (n < 0x60000000) ⊎ (0x7C000000 ≤ n)

-- What is rewritten so far: each met place that can be run begins so, and no met MOV moves such an address. (own)
pub record IsTaken (image : Image) : Type 0 where
  pub begins : (a b : ℕ) → Met image a → code_byte_at image a ≡ Some b → is_taken_byte b ≡ true
  pub apart : (a : ℕ) (to : Reg) (from len : ℕ) → Met image a → code_of image a ≡ Some (mov_word to from, len) → IsFree from

-- a file that is rewritten
pub record IsRewritable (file : List ℕ) : Type 0 where
  pub magic : has_magic file ≡ true
  pub plain : is_plain file ≡ true
  pub taken : IsTaken (plain_image file)
