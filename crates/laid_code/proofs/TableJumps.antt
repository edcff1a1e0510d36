-- A jump to an old address is met by the six instructions of a jump by the table.
use Rattle.std.proofs.Common.{◌≡◌, ◌≢◌, ◌⊎◌, inl, inr, ℕ, Bool, true, false, List, [], ◌∷◌, All, Option, Some, None, refl}
use Rattle.std.specs.Option.{option_map}
use Rattle.std.proofs.lemmas.List.Elements.{All-cons}
use Rattle.x86_values.specs.declared.word.Word.{Word}
use Rattle.x86_values.specs.Words.{known}
use Rattle.traces.specs.Trace.{End, Move, Go, Halt, run, seen}
use Rattle.traces.specs.Trace as trace
use Rattle.memory.specs.Memory.{Load, allows_all}
use Rattle.x86_types.specs.declared.operand.Reg.{Reg}
use Rattle.x86_types.specs.declared.operand.Reg.TheVariants.{Eax, Esp}
use Rattle.x86_types.specs.declared.operand.Address.{Address}
use Rattle.x86_types.specs.Numbers.{number_of_reg}
use Rattle.x86_types.specs.declared.operand.Rm.{Rm}
use Rattle.x86_types.specs.declared.operand.Rm.TheVariants as rm
use Rattle.x86_types.specs.declared.width.Width.TheVariants.{Four}
use Rattle.x86_types.specs.declared.instr.Instr.{Instr}
use Rattle.x86_types.specs.declared.instr.Instr.TheVariants as instr
use Rattle.x86_meaning.specs.Registers.{Registers, with_register, machine_naming}
use Rattle.x86_meaning.specs.Operands.{Location, InRegister, InMemory, Access, operand, value_in, effective_address}
use Rattle.x86_meaning.specs.TransferShapes.{read_transfer, move_transfer, by_one, by_two}
use Rattle.x86_meaning.specs.Transfers.{transfer}
use Rattle.x86_meaning.specs.Computing.{compute}
use Rattle.x86_meaning.specs.Effect.{transfer_accesses, accesses, effect}
use Rattle.field_places.specs.Fields.{Field, fields, sized_field, address_fields}
use Rattle.named_code.specs.Items.{Item, own_item}
use Rattle.named_code.specs.Running.{CodeState, AtOld, Inside, CodePosition, standing_at, lost, act}
use Rattle.laid_code.specs.Laid.{eax, as_source}

-- ---- what the jump does, and the MOV that takes its operand
abbrev pub value : CodeState → Location → Word
value s x = value_in (operand 4 x) s.cpu.regs s.memory

abbrev reads : Location → List Access
reads x = transfer_accesses (by_one (read_transfer 4) (Some x))

abbrev pub takes : Rm → Instr
takes to = instr.Mov Four eax (as_source to)

-- eax holds the operand
abbrev pub taken : CodeState → Word → CodeState
taken s w = record s { cpu = record s.cpu { regs = with_register 0 w s.cpu.regs } }

module _ (rest : List Item) (s : CodeState) where
  -- by whether the load is allowed, and what the operand is known to be
  abbrev pub jumped : Bool → Option ℕ → Move CodePosition
  jumped false o = Halt [] trace.MemoryFault
  jumped true None = Halt [] trace.Unspecified
  jumped true (Some a) = Go [] (standing_at (AtOld a) (lost s))

  abbrev pub moved : Bool → Word → Move CodePosition
  moved false w = Halt [] trace.MemoryFault
  moved true w = Go [] (standing_at (Inside rest) (taken s w))

  -- both moves: the run ends at an unknown address, or both take the word that stands there
  pub record TakesWord (to : Rm) : Type 0 where
    pub allowed : Bool
    pub word : Word
    pub jump : act (own_item (instr.JmpTo to)) rest s ≡ jumped allowed (known word)
    pub move : act (own_item (takes to)) rest s ≡ moved allowed word

  abbrev pub BothTake : Rm → Type 0
  BothTake to = ((act (own_item (instr.JmpTo to)) rest s ≡ Halt [] trace.Unspecified) × (act (own_item (takes to)) rest s ≡ Halt [] trace.Unspecified)) ⊎ TakesWord to

  in_register : (r : Reg) (o : Option ℕ) → known (value s (InRegister (number_of_reg r) 0)) ≡ o → act (own_item (instr.JmpTo (rm.Reg r))) rest s ≡ jumped true o
  unfolding act accesses transfer effect compute
  in_register r None e = rw e refl
  in_register r (Some a) e = rw e refl

  register_moved : (r : Reg) → act (own_item (takes (rm.Reg r))) rest s ≡ moved true (value s (InRegister (number_of_reg r) 0))
  unfolding act accesses transfer effect compute
  register_moved r = refl

  in_memory : (a : Address) (at : ℕ) (b : Bool) (o : Option ℕ) → effective_address machine_naming s.cpu.regs a ≡ Some at → allows_all Load s.memory at 4 ≡ b → known (value s (InMemory at)) ≡ o → act (own_item (instr.JmpTo (rm.Mem a))) rest s ≡ jumped b o
  unfolding act accesses transfer effect compute
  in_memory a at false o is all e = rw (is, all) refl
  in_memory a at true None is all e = rw (is, all, e) refl
  in_memory a at true (Some n) is all e = rw (is, all, e) refl

  memory_moved : (a : Address) (at : ℕ) (b : Bool) → effective_address machine_naming s.cpu.regs a ≡ Some at → allows_all Load s.memory at 4 ≡ b → act (own_item (takes (rm.Mem a))) rest s ≡ moved b (value s (InMemory at))
  unfolding act accesses transfer effect compute
  memory_moved a at false is all = rw (is, all) refl
  memory_moved a at true is all = rw (is, all) refl

  unknown_jump : (a : Address) → effective_address machine_naming s.cpu.regs a ≡ None → act (own_item (instr.JmpTo (rm.Mem a))) rest s ≡ Halt [] trace.Unspecified
  unfolding act accesses transfer effect compute
  unknown_jump a is = rw is refl

  unknown_move : (a : Address) → effective_address machine_naming s.cpu.regs a ≡ None → act (own_item (takes (rm.Mem a))) rest s ≡ Halt [] trace.Unspecified
  unfolding act accesses transfer effect compute
  unknown_move a is = rw is refl

  pub both_take : (to : Rm) → BothTake to
  both_take (rm.Reg r) =
      let w = value s (InRegister (number_of_reg r) 0) in
      inr (record { allowed = true; word = w; jump = in_register r (known w) refl; move = register_moved r })
  both_take (rm.Mem a) = by (effective_address machine_naming s.cpu.regs a) refl
    where
      by : (o : Option ℕ) → effective_address machine_naming s.cpu.regs a ≡ o → BothTake (rm.Mem a)
      by None is = inl (unknown_jump a is, unknown_move a is)
      by (Some at) is =
          let w = value s (InMemory at) in
          let b = allows_all Load s.memory at 4 in
          inr (record { allowed = b; word = w; jump = in_memory a at b (known w) is refl refl; move = memory_moved a at b is refl })

-- ---- the MOV accesses what the jump does, and uses no esp where the jump doesn't
pub same_reads : (to : Rm) (regs : Registers) → accesses machine_naming (takes to) regs ≡ accesses machine_naming (instr.JmpTo to) regs
unfolding accesses transfer
same_reads (rm.Reg r) regs = refl
same_reads (rm.Mem a) regs = by (effective_address machine_naming regs a)
  where
    by : (o : Option ℕ) → transfer_accesses (by_two (move_transfer 4 4) (Some (InRegister 0 0)) (option_map InMemory o)) ≡ transfer_accesses (by_one (read_transfer 4) (option_map InMemory o))
    by None = refl
    by (Some at) = refl

pub fields_of_move : (to : Rm) → All (λ f. f.register ≢ Esp) (fields (instr.JmpTo to)) → All (λ f. f.register ≢ Esp) (fields (takes to))
unfolding fields
fields_of_move (rm.Reg r) h = All-cons (λ (f : Field). f.register ≢ Esp) (sized_field Four Eax) (sized_field Four r ∷ []) (λ e. absurd (cc e)) h
fields_of_move (rm.Mem a) h = All-cons (λ (f : Field). f.register ≢ Esp) (sized_field Four Eax) (address_fields a) (λ e. absurd (cc e)) h
