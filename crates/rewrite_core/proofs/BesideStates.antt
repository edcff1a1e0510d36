-- Steps of two states beside each other. Each instruction has one lemma; how the addresses are related is its user's.
use Rattle.std.proofs.Common.{◌≡◌, ◌↔◌, ℕ, ◌+◌, ◌^◌, ◌<◌, Bool, true, false, List, [], Option, Some, None, refl, sym, ap, ◌∙◌, subst, inl, inr, arith}
use Rattle.std.proofs.lemmas.Bool.Decides.{eqb_tells, leb_tells}
use Rattle.x86_values.specs.declared.byte.Byte.TheVariants.{Unspecified as unspecified}
use Rattle.x86_values.specs.declared.word.Word.{Word}
use Rattle.x86_values.specs.Words.{word_of, known}
use Rattle.x86_values.specs.WordLaws.{WordLaws}
use Rattle.traces.specs.Trace.{Label, End, Exited, MemoryFault, DivideFault, Outside, OtherCall, Unspecified, Guard, Stopped, Move, Stand, Go, Halt}
use Rattle.traces.specs.Agree.{outside}
use Rattle.memory.specs.Memory.{Place, Memory, wrapped, store_all, forgotten, forget_below}
use Rattle.memory.specs.MemoryLaws.{MemoryLaws}
use Rattle.memory.specs.CallLaws.{CallLaws, is_own_end, IsPlainCall}
use Rattle.memory.specs.SystemCall.{Called, Ends, Gives, system_call}
use Rattle.x86_types.specs.declared.operand.Reg.{Reg}
use Rattle.x86_types.specs.declared.instr.Instr.{Instr}
use Rattle.x86_types.specs.declared.instr.Instr.TheVariants.{Jmp, Int80}
use Rattle.x86_types.specs.Numbers.{number_of_reg}
use Rattle.x86_code.specs.Code.{Code}
use Rattle.x86_meaning.specs.Registers.{Registers, with_register}
use Rattle.x86_meaning.specs.Step.{State, at_address, settled_by, settled, request_of, with_result, after_call, step, next}
use Rattle.x86_meaning.specs.StepLaws.{IsForgotten, StepLaws, StateLaws, with_moved}
use Rattle.x86_meaning.specs.RunLaws.{ProgramLaws}
use Rattle.x86_grammar.specs.Fields.{fields_fit, HasSpelling}
use Rattle.x86_grammar.specs.FrontLaws.{FrontEquations, FrontIsSpelling}
use Rattle.byte_lists.specs.Laws.{LittleEndianLaws}
use Rattle.rewrite_core.specs.Met.{mov_word}
use Rattle.rewrite_core.specs.Agreement.{HasMore}
use Rattle.rewrite_core.specs.Beside.{Away, IsAway, beside, Beside}
use Rattle.rewrite_core.proofs.MoreMemory.{more_forget, more_stored, same_call}

-- what the lemmas take from the crates below
pub record LawsBelow : Type 0 where
  pub words : WordLaws
  pub memory : MemoryLaws
  pub calls : CallLaws
  pub steps : StepLaws
  pub states : StateLaws
  pub programs : ProgramLaws
  pub spelling : FrontIsSpelling
  pub equations : FrontEquations
  pub numbers : LittleEndianLaws
  pub fields : (i : Instr) → (fields_fit i ≡ true) ↔ HasSpelling i

-- two moves with the same labels: to states that are related, or to one end, which no guard event is
pub data Alike (R : State → State → Type 0) : Move State → Move State → Type 0 where
  stands : (ls : List Label) → (e : End) → outside e ≡ e → Alike R (Stand ls e) (Stand ls e)
  goes : (ls : List Label) → (s t : State) → R s t → Alike R (Go ls s) (Go ls t)
  halts : (ls : List Label) → (e : End) → outside e ≡ e → Alike R (Halt ls e) (Halt ls e)

own_outside : (e : End) → is_own_end e ≡ true → outside e ≡ e
own_outside (Exited status) h = refl
own_outside MemoryFault h = refl
own_outside DivideFault h = refl
own_outside Outside h = refl
own_outside (OtherCall number) h = refl
own_outside Unspecified h = refl
own_outside (Guard k a) h = cc
own_outside (Stopped a) h = cc

-- a register after one is set is what was set, or what it was
set_either : StepLaws → (P : Word → Type 0) (regs : Registers) (i j : ℕ) (w : Word) → P w → P (regs j) → P (with_register i w regs j)
set_either laws P regs i j w p q = elim (eqb_tells j i) [
  | inr other ↦ subst P (sym (laws.set_elsewhere i w regs j other.1)) q
  | inl same ↦ subst (λ (k : ℕ). P (with_register i w regs k)) (sym same.1) (subst P (sym (laws.set_there i w regs)) p)
]

pub constant_away : WordLaws → (low high n : ℕ) → n < 2 ^ 32 → Away low high n → IsAway low high (word_of n)
constant_away laws low high n below h a e =
    let same : n ≡ a = let f : Some n ≡ Some a = sym (laws.known_word n below) ∙ e in cc in
    subst (Away low high) same h

module _ (laws : LawsBelow) (low high : ℕ) (Places : ℕ → ℕ → Type 0) where
  abbrev Two : State → State → Type 0
  Two s t = Beside low high Places s t

  -- what is forgotten after a step
  settled_alike : (ls : List Label) (s : State) (a : ℕ) (m : Memory) → Places s.eip a → HasMore low high s.memory m → IsAway low high (s.cpu.regs 1) → Alike Two (settled ls s) (settled ls (beside a m s))
  unfolding settled
  settled_alike ls s a m places memory buffer = cases (known (s.cpu.regs 4))
    where
      cases : (o : Option ℕ) → Alike Two (settled_by o ls s) (settled_by o ls (beside a m s))
      cases None = halts ls Unspecified refl
      cases (Some esp) = goes ls _ _ (record { same = refl; places = places; memory = more_forget low high s.memory m memory laws.memory esp; buffer = buffer })

  module _ (s : State) (a : ℕ) (m : Memory) (memory : HasMore low high s.memory m) (buffer : IsAway low high (s.cpu.regs 1)) where
    -- MOV of a constant that is no address in the range
    mov_beside : (to : Reg) (from len : ℕ) → Places (wrapped (s.eip + len)) (wrapped (a + len)) → IsAway low high (word_of from) → Alike Two (step (mov_word to from) len s) (step (mov_word to from) len (beside a m s))
    mov_beside to from len places constant =
        let n : ℕ = number_of_reg to in
        rw (laws.steps.move to from len s, laws.steps.move to from len (beside a m s))
        (settled_alike [] (with_moved n from (s.eip + len) s) (wrapped (a + len)) m places memory (set_either laws.steps (IsAway low high) s.cpu.regs n 1 (word_of from) constant buffer))

    -- a jump, by one distance here and by another there
    jump_beside : (by len by' len' : ℕ) → Places (wrapped (s.eip + len + by)) (wrapped (a + len' + by')) → Alike Two (step (Jmp by) len s) (step (Jmp by') len' (beside a m s))
    jump_beside by len by' len' places =
        rw (laws.steps.jump by len s, laws.steps.jump by' len' (beside a m s)) (settled_alike [] (at_address (s.eip + len + by) s) (wrapped (a + len' + by')) m places memory buffer)

    after_alike : (x : Called) (b c : ℕ) → IsPlainCall x → Places (wrapped b) (wrapped c) → Alike Two (after_call x (at_address b s)) (after_call x (at_address c (beside a m s)))
    after_alike (Ends e) b c own places = halts [] e (own_outside e own)
    after_alike (Gives ls result stores left) b c own places =
        settled_alike ls (record { cpu = with_result result s.cpu; eip = wrapped b; memory = store_all stores s.memory; left = left }) (wrapped c) (store_all stores m) places
        (more_stored laws.memory low high stores s.memory m memory)
        (subst (IsAway low high) (sym (laws.steps.set_elsewhere 0 (word_of result) s.cpu.regs 1 (λ e. omega (arith, e)))) buffer)

    -- a system call
    call_beside : (len : ℕ) → Places (wrapped (s.eip + len)) (wrapped (a + len)) → Alike Two (step Int80 len s) (step Int80 len (beside a m s))
    call_beside len places =
        let q = request_of s.cpu in
        let same = same_call laws.calls low high s.memory m memory q s.left buffer in
        rw (laws.steps.call len s, laws.steps.call len (beside a m s))
        (subst (λ (x : Called). Alike Two (after_call (system_call q s.memory s.left) (at_address (s.eip + len) s)) (after_call x (at_address (a + len) (beside a m s)))) same
        (after_alike (system_call q s.memory s.left) (s.eip + len) (a + len) (laws.calls.are_plain q s.memory s.left) places))

  -- what stands at the two addresses: the same instruction, or none, or two jumps
  pub none_alike : (old new : Code) (s t : State) → old s.eip ≡ None → new t.eip ≡ None → Alike Two (next old s) (next new t)
  none_alike old new s t p q = rw (laws.steps.at_none old s p, laws.steps.at_none new t q) (stands [] Outside refl)

  both_step : (old new : Code) (s t : State) (i j : Instr) (k l : ℕ) → old s.eip ≡ Some (i, k) → new t.eip ≡ Some (j, l) → Alike Two (step i k s) (step j l t) → Alike Two (next old s) (next new t)
  both_step old new s t i j k l p q h = rw (laws.steps.at_instruction old s i k p, laws.steps.at_instruction new t j l q) h

  module _ (old new : Code) (s t : State) (memory : HasMore low high s.memory t.memory) (buffer : IsAway low high (s.cpu.regs 1)) (same : beside t.eip t.memory s ≡ t) where
    pub mov_alike : (to : Reg) (from len : ℕ) → old s.eip ≡ Some (mov_word to from, len) → new t.eip ≡ Some (mov_word to from, len) → Places (wrapped (s.eip + len)) (wrapped (t.eip + len)) → IsAway low high (word_of from) → Alike Two (next old s) (next new t)
    mov_alike to from len p q places constant =
        both_step old new s t (mov_word to from) (mov_word to from) len len p q
        (subst (λ (u : State). Alike Two (step (mov_word to from) len s) (step (mov_word to from) len u)) same (mov_beside s t.eip t.memory memory buffer to from len places constant))

    pub call_alike : (len : ℕ) → old s.eip ≡ Some (Int80, len) → new t.eip ≡ Some (Int80, len) → Places (wrapped (s.eip + len)) (wrapped (t.eip + len)) → Alike Two (next old s) (next new t)
    call_alike len p q places =
        both_step old new s t Int80 Int80 len len p q (subst (λ (u : State). Alike Two (step Int80 len s) (step Int80 len u)) same (call_beside s t.eip t.memory memory buffer len places))

    pub jump_alike : (by len by' len' : ℕ) → old s.eip ≡ Some (Jmp by, len) → new t.eip ≡ Some (Jmp by', len') → Places (wrapped (s.eip + len + by)) (wrapped (t.eip + len' + by')) → Alike Two (next old s) (next new t)
    jump_alike by len by' len' p q places =
        both_step old new s t (Jmp by) (Jmp by') len len' p q (subst (λ (u : State). Alike Two (step (Jmp by) len s) (step (Jmp by') len' u)) same (jump_beside s t.eip t.memory memory buffer by len by' len' places))

-- the addresses of two states may be related otherwise
pub at_places : (low high : ℕ) (P Q : ℕ → ℕ → Type 0) (s t : State) → Beside low high P s t → Q s.eip t.eip → Beside low high Q s t
at_places low high P Q s t p places = record { same = p.same; places = places; memory = p.memory; buffer = p.buffer }

-- ---- one more jump of the second
forgotten_place : (esp a : ℕ) (o : Option Place) → ((p : Place) → a < esp → o ≡ Some p → p.on_stack ≡ true → p.byte ≡ unspecified) → a < esp → forgotten o ≡ o
forgotten_place esp a None h k = refl
forgotten_place esp a (Some p) h k = by_stack p.on_stack refl
  where
    by_stack : (b : Bool) → p.on_stack ≡ b → forgotten (Some p) ≡ Some p
    by_stack true e = let q = h p k refl e in rw (e, q) refl
    by_stack false e = rw e refl

-- what is forgotten stays so
forgotten_stays : MemoryLaws → (t : State) (f : IsForgotten t) (a : ℕ) → forget_below f.esp t.memory a ≡ t.memory a
forgotten_stays laws t f a = elim (leb_tells f.esp a) [
  | inl above ↦ laws.forget_above f.esp t.memory a above.1
  | inr below ↦ laws.forget_below f.esp t.memory a below.1 ∙ forgotten_place f.esp a (t.memory a) (λ p l e k. f.below a p l e k) below.1
]

abbrev pub jumped : (t : State) → IsForgotten t → ℕ → State
jumped t f a = beside (wrapped a) (forget_below f.esp t.memory) t

pub jump_goes : StepLaws → (new : Code) (t : State) (f : IsForgotten t) (by len : ℕ) → new t.eip ≡ Some (Jmp by, len) → next new t ≡ Go [] (jumped t f (t.eip + len + by))
unfolding settled
jump_goes laws new t f by len e =
    laws.at_instruction new t (Jmp by) len e ∙ laws.jump by len t ∙ ap (λ (o : Option ℕ). settled_by o [] (at_address (t.eip + len + by) t)) f.is_esp

-- after it the second is beside the first still
pub beside_jumped : MemoryLaws → (low high : ℕ) (P Q : ℕ → ℕ → Type 0) (s t : State) (f : IsForgotten t) (a : ℕ) → Beside low high P s t → Q s.eip (wrapped a) → Beside low high Q s (jumped t f a)
beside_jumped laws low high P Q s t f a p places = record {
  same = ap (beside (wrapped a) (forget_below f.esp t.memory)) p.same;
  places = places;
  memory = record {
    free = p.memory.free;
    edge = p.memory.edge;
    below = λ k h. p.memory.below k h ∙ sym (forgotten_stays laws t f k);
    above = λ k h. p.memory.above k h ∙ sym (forgotten_stays laws t f k);
  };
  buffer = p.buffer;
}
