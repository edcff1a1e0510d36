-- What holds of `front`: it is the relation of spellings, and these are its values at the opcodes of the instructions that
-- only move a constant, jump or call the kernel.
use Rattle.std.specs.Prelude.{◌≡◌, ◌≢◌, ◌↔◌, ℕ, ◌+◌, ◌<◌, ◌≤◌, List, [], ◌∷◌, ◌++◌, length, take, Option, Some, None, All}
use Rattle.std.specs.List.{AllByRecursion}
use Rattle.x86_types.specs.declared.operand.Reg.{Reg}
use Rattle.x86_types.specs.declared.operand.Reg.TheVariants as reg
use Rattle.x86_types.specs.declared.operand.Rm.TheVariants as rm
use Rattle.x86_types.specs.declared.operand.Src.TheVariants as src
use Rattle.x86_types.specs.declared.operation.AluOp.TheVariants as alu
use Rattle.x86_types.specs.declared.width.Width.TheVariants.{One, Two, Four}
use Rattle.x86_types.specs.declared.instr.Instr.{Instr}
use Rattle.x86_types.specs.declared.instr.Instr.TheVariants as instr
use Rattle.x86_types.specs.Numbers.{number_of_reg}
use Rattle.byte_lists.specs.LittleEndian.{from_le}
use Rattle.x86_grammar.specs.Parts.{signed}
use Rattle.x86_grammar.specs.Spells.{Spells}
use Rattle.x86_grammar.specs.Fronts.{FrontSpells, NoFrontSpells}
use Rattle.x86_grammar.specs.Front.{front}
use Rattle.x86_grammar.specs.Worked.{at}

-- each number of the list is below 256
abbrev pub AreAllBytes : List ℕ → Type 0
AreAllBytes bytes = All (λ b. b < 0x100) bytes

-- The computed instruction is the one that a front spells, with the length of that front.
pub record FrontIsSpelling : Type 0 where
  -- exactly where the front of that length spells the instruction
  pub exact : (bytes : List ℕ) → AreAllBytes bytes → (i : Instr) (len : ℕ) → (front bytes ≡ Some (i, len)) ↔ FrontSpells bytes i len
  -- none exactly where no front spells one
  pub none : (bytes : List ℕ) → AreAllBytes bytes → (front bytes ≡ None) ↔ NoFrontSpells bytes
  -- a spelling is found, whatever stands behind it
  pub found : (bytes rest : List ℕ) (i : Instr) → Spells bytes i → front (bytes ++ rest) ≡ Some (i, length bytes)
  -- what isn't found isn't spelled, in any list of numbers
  pub not_found : (bytes : List ℕ) → front bytes ≡ None → NoFrontSpells bytes
  -- what stands behind fifteen bytes makes no difference
  pub fifteen : (bytes : List ℕ) → front (take 15 bytes) ≡ front bytes
  -- so each front of at least fifteen bytes gives the same
  pub longer : (bytes : List ℕ) (n : ℕ) → 15 ≤ n → front (take n bytes) ≡ front bytes
  -- an instruction has 1 to 15 bytes, which are there
  pub some : (bytes : List ℕ) (i : Instr) (len : ℕ) → AreAllBytes bytes → front bytes ≡ Some (i, len) → 0 < len
  pub few : (bytes : List ℕ) (i : Instr) (len : ℕ) → front bytes ≡ Some (i, len) → len ≤ 15
  pub there : (bytes : List ℕ) (i : Instr) (len : ℕ) → front bytes ≡ Some (i, len) → len ≤ length bytes
  -- its own bytes alone give it
  pub own_bytes : (bytes : List ℕ) (i : Instr) (len : ℕ) → AreAllBytes bytes → front bytes ≡ Some (i, len) → front (take len bytes) ≡ Some (i, len)

-- The values at B8 to BF, E9, EB, CD, F4 and 0F 0B, whatever stands behind. Intel SDM volume 2, "MOV", "JMP", "INT n", "HLT", "UD".
pub record FrontEquations : Type 0 where
  pub nothing : front [] ≡ None
  -- B8+r and four bytes, lowest first
  pub mov : (r : Reg) (a b c d : ℕ) (rest : List ℕ) → front ((0xB8 + number_of_reg r) ∷ a ∷ b ∷ c ∷ d ∷ rest) ≡ Some (instr.Mov Four (rm.Reg r) (src.Imm (from_le 4 (a ∷ b ∷ c ∷ d ∷ []))), 5)
  pub mov_cut : (r : Reg) (rest : List ℕ) → length rest < 4 → front ((0xB8 + number_of_reg r) ∷ rest) ≡ None
  -- E9 and four bytes
  pub jmp_near : (a b c d : ℕ) (rest : List ℕ) → front (0xE9 ∷ a ∷ b ∷ c ∷ d ∷ rest) ≡ Some (instr.Jmp (from_le 4 (a ∷ b ∷ c ∷ d ∷ [])), 5)
  pub jmp_near_cut : (rest : List ℕ) → length rest < 4 → front (0xE9 ∷ rest) ≡ None
  -- EB and a byte with its sign
  pub jmp_short : (b : ℕ) (rest : List ℕ) → front (0xEB ∷ b ∷ rest) ≡ Some (instr.Jmp (signed Four b), 2)
  pub jmp_short_cut : front (0xEB ∷ []) ≡ None
  -- CD 80, and CD with any other number
  pub int80 : (rest : List ℕ) → front (0xCD ∷ 0x80 ∷ rest) ≡ Some (instr.Int80, 2)
  pub other_int : (n : ℕ) (rest : List ℕ) → n ≢ 0x80 → front (0xCD ∷ n ∷ rest) ≡ None
  pub int_cut : front (0xCD ∷ []) ≡ None
  -- F4 and 0F 0B (UD2) are not in the list
  pub hlt : (rest : List ℕ) → front (0xF4 ∷ rest) ≡ None
  pub ud2 : (rest : List ℕ) → front (0x0F ∷ 0x0B ∷ rest) ≡ None

-- Worked fronts: bytes with the instruction and its length, or nothing.
abbrev pub worked_fronts : List (List ℕ × Option (Instr × ℕ))
worked_fronts =
    -- 66 C7 44 8D FC 34 12 90
    (0x66 ∷ 0xC7 ∷ 0x44 ∷ 0x8D ∷ 0xFC ∷ 0x34 ∷ 0x12 ∷ 0x90 ∷ [], Some (instr.Mov Two (rm.Mem (at (Some reg.Ebp) (Some reg.Ecx) 4 0xFFFFFFFC)) (src.Imm 0x1234), 7)) ∷
    -- 03 84 91 00 00 01 00 and what stands behind it
    (0x03 ∷ 0x84 ∷ 0x91 ∷ 0x00 ∷ 0x00 ∷ 0x01 ∷ 0x00 ∷ 0xF3 ∷ 0xA5 ∷ [], Some (instr.Alu alu.Add Four (rm.Reg reg.Eax) (src.Mem (at (Some reg.Ecx) (Some reg.Edx) 4 0x10000)), 7)) ∷
    -- 0F B6 C4
    (0x0F ∷ 0xB6 ∷ 0xC4 ∷ [], Some (instr.Movzx Four One reg.Eax (rm.Reg reg.Esp), 3)) ∷
    -- fourteen 66 before 90, and fifteen
    (0x66 ∷ 0x66 ∷ 0x66 ∷ 0x66 ∷ 0x66 ∷ 0x66 ∷ 0x66 ∷ 0x66 ∷ 0x66 ∷ 0x66 ∷ 0x66 ∷ 0x66 ∷ 0x66 ∷ 0x66 ∷ 0x90 ∷ [], Some (instr.Nop, 15)) ∷
    (0x66 ∷ 0x66 ∷ 0x66 ∷ 0x66 ∷ 0x66 ∷ 0x66 ∷ 0x66 ∷ 0x66 ∷ 0x66 ∷ 0x66 ∷ 0x66 ∷ 0x66 ∷ 0x66 ∷ 0x66 ∷ 0x66 ∷ 0x90 ∷ [], None) ∷
    -- 0F B6 is short of its operand
    (0x0F ∷ 0xB6 ∷ [], None) ∷
    -- 0F 28 and 82 begin nothing
    (0x0F ∷ 0x28 ∷ 0xC1 ∷ [], None) ∷
    (0x82 ∷ 0xC0 ∷ 0x01 ∷ [], None) ∷
    []

-- each row's bytes begin as it says
abbrev pub FrontsAreWorked : Type 0
FrontsAreWorked = AllByRecursion (λ (row : List ℕ × Option (Instr × ℕ)). front row.0 ≡ row.1) worked_fronts
