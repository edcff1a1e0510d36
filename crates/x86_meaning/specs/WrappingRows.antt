-- Worked steps where addresses wrap at 2^32: the instruction stands at 0xFFFFFFFE, so that the next one stands at 0, and bytes from
-- 0xFFFFFFF8 on to 7 are mapped, which no system does. (Intel SDM volume 2, "Operation" of each instruction, with
-- addresses of 32 bits.)
use Rattle.std.specs.Prelude.{◌≡◌, ℕ, ◌+◌, ◌-◌, ◌&&◌, true, false, cond, leb, ltb, List, [], ◌∷◌, Some, None}
use Rattle.x86_values.specs.declared.byte.Byte.TheVariants.{Known}
use Rattle.x86_values.specs.declared.word.Word.{Word}
use Rattle.memory.specs.Memory.{Memory}
use Rattle.x86_types.specs.declared.instr.Instr.{Instr}
use Rattle.x86_types.specs.declared.instr.Instr.TheVariants.{Mov, Push, Pop, Leave, Call, Ret, Jmp, Movs, Stos, Nop}
use Rattle.x86_types.specs.declared.operand.Rm.TheVariants as rm
use Rattle.x86_types.specs.declared.operand.Src.TheVariants as src
use Rattle.x86_types.specs.declared.operand.Reg.TheVariants.{Eax, Ecx, Esp}
use Rattle.x86_types.specs.declared.width.Width.TheVariants.{Two, Four}
use Rattle.x86_meaning.specs.Step.{State, step}
use Rattle.x86_meaning.specs.StepRows.{all_cleared, bytes_of, Shown, Now, shown, row_state}
use Rattle.x86_meaning.specs.RowParts.{absolute, based, distinct, with_value}

-- 0xE0 at 0xFFFFFFF8, up to 0xEF at 7
abbrev pub wrapping_memory : Memory
wrapping_memory a =
    cond (leb 0xFFFFFFF8 a && ltb a 0x100000000) (Some (record { byte = Known (0xE0 + (a - 0xFFFFFFF8)); can_write = true; on_stack = false }))
    (cond (ltb a 8) (Some (record { byte = Known (0xE8 + a); can_write = true; on_stack = false })) None)

abbrev pub wrapping_state : List Word → State
wrapping_state regs = record (row_state regs all_cleared) { eip = 0xFFFFFFFE; memory = wrapping_memory }

-- n bytes from an address on are asked for
abbrev pub see_wrapped : Instr → List Word → ℕ → ℕ → Shown
see_wrapped i regs at n = shown at n (step i 2 (wrapping_state regs))

pub record WrappingRows : Type 0 where
  pub next : see_wrapped Nop distinct 0 0 ≡ Now distinct all_cleared 0 []
  pub jump : see_wrapped (Jmp 0x10) distinct 0 0 ≡ Now distinct all_cleared 0x10 []
  -- bytes of one access
  pub load : see_wrapped (Mov Four (rm.Reg Eax) (src.Mem (absolute 0xFFFFFFFD))) distinct 0 0 ≡ Now (with_value 0 0xE8E7E6E5 distinct) all_cleared 0 []
  pub store : see_wrapped (Mov Four (rm.Mem (absolute 0xFFFFFFFD)) (src.Reg Ecx)) distinct 0xFFFFFFFC 6 ≡ Now distinct all_cleared 0 (bytes_of (0xE4 ∷ 0x24 ∷ 0x23 ∷ 0x22 ∷ 0x21 ∷ 0xE9 ∷ []))
  -- the stack
  pub push : see_wrapped (Push (src.Reg Eax)) (with_value 4 2 distinct) 0xFFFFFFFD 6 ≡ Now (with_value 4 0xFFFFFFFE distinct) all_cleared 0 (bytes_of (0xE5 ∷ 0x14 ∷ 0x13 ∷ 0x12 ∷ 0x11 ∷ 0xEA ∷ []))
  pub push_to_0 : see_wrapped (Push (src.Reg Eax)) (with_value 4 4 distinct) 0 5 ≡ Now (with_value 4 0 distinct) all_cleared 0 (bytes_of (0x14 ∷ 0x13 ∷ 0x12 ∷ 0x11 ∷ 0xEC ∷ []))
  pub pop : see_wrapped (Pop (rm.Reg Eax)) (with_value 4 0xFFFFFFFE distinct) 0 0 ≡ Now (with_value 0 0xE9E8E7E6 (with_value 4 2 distinct)) all_cleared 0 []
  -- [esp + 1], by the raised esp
  pub pop_by_esp : see_wrapped (Pop (rm.Mem (based Esp 1))) (with_value 4 0xFFFFFFFC distinct) 0 6 ≡ Now (with_value 4 0 distinct) all_cleared 0 (bytes_of (0xE8 ∷ 0xE4 ∷ 0xE5 ∷ 0xE6 ∷ 0xE7 ∷ 0xED ∷ []))
  pub leave : see_wrapped Leave (with_value 5 0xFFFFFFFF distinct) 0 0 ≡ Now (with_value 4 3 (with_value 5 0xEAE9E8E7 distinct)) all_cleared 0 []
  -- the return address is 0
  pub call : see_wrapped (Call 0x20) (with_value 4 0 distinct) 0xFFFFFFFB 6 ≡ Now (with_value 4 0xFFFFFFFC distinct) all_cleared 0x20 (bytes_of (0xE3 ∷ 0 ∷ 0 ∷ 0 ∷ 0 ∷ 0xE8 ∷ []))
  pub return : see_wrapped (Ret 0x10) (with_value 4 0xFFFFFFF8 distinct) 0 0 ≡ Now (with_value 4 0xC distinct) all_cleared 0xE3E2E1E0 []
  -- strings
  pub movs : see_wrapped (Movs Four false) (with_value 6 0xFFFFFFFF (with_value 7 0xFFFFFFFC distinct)) 0xFFFFFFFB 6 ≡ Now (with_value 6 3 (with_value 7 0 distinct)) all_cleared 0 (bytes_of (0xE3 ∷ 0xE7 ∷ 0xE8 ∷ 0xE9 ∷ 0xEA ∷ 0xE8 ∷ []))
  pub stos : see_wrapped (Stos Two false) (with_value 7 0xFFFFFFFF distinct) 0xFFFFFFFE 4 ≡ Now (with_value 7 1 distinct) all_cleared 0 (bytes_of (0xE6 ∷ 0x14 ∷ 0x13 ∷ 0xE9 ∷ []))
  -- at the same place again
  pub repeated : see_wrapped (Stos Four true) (with_value 1 5 (with_value 7 0 distinct)) 0 4 ≡ Now (with_value 1 4 (with_value 7 4 distinct)) all_cleared 0xFFFFFFFE (bytes_of (0x14 ∷ 0x13 ∷ 0x12 ∷ 0x11 ∷ []))
