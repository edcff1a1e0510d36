-- A step that halts shows nothing, where esp is known: a system call alone shows something, and it keeps esp.
use Rattle.std.proofs.Common.{◌≡◌, ℕ, ◌+◌, ◌⊎◌, inl, inr, Bool, true, false, List, [], ◌∷◌, Option, Some, None, Result, Ok, Err, refl, sym, ◌∙◌, ap, subst}
use Rattle.x86_values.specs.declared.word.Word.{Word}
use Rattle.x86_values.specs.declared.word.Flags.{Flags}
use Rattle.x86_values.specs.declared.divided.Divided.{Divided}
use Rattle.x86_values.specs.declared.divided.Divided.TheVariants as divided
use Rattle.x86_values.specs.Words.{known}
use Rattle.traces.specs.Trace.{Label, End, Move, Stand, Go, Halt, turns}
use Rattle.traces.specs.Moves.{Unturned}
use Rattle.memory.specs.CallLaws.{CallLaws, IsPlainCall}
use Rattle.memory.specs.SystemCall.{Called, Ends, Gives, system_call}
use Rattle.x86_types.specs.declared.instr.Instr.{Instr}
use Rattle.x86_types.specs.declared.instr.Instr.TheVariants as instr
use Rattle.x86_types.specs.declared.operation.AluOp.{AluOp}
use Rattle.x86_types.specs.declared.operation.AluOp.TheVariants as alu
use Rattle.x86_meaning.specs.declared.stop.Stop.{Stop}
use Rattle.x86_meaning.specs.Registers.{Registers, machine_naming, with_register}
use Rattle.x86_meaning.specs.Operands.{Location, InRegister, InMemory, Constant, SizedOperand, values_in}
use Rattle.x86_meaning.specs.TransferShapes.{Transfer}
use Rattle.x86_meaning.specs.Transfers.{transfer}
use Rattle.x86_meaning.specs.Outcomes.{Way, Falls, JumpsBy, JumpsTo, Repeats, Calls, Computation, on_one, on_two, on_three, alu_computed, goes_to, quotient_and_remainder, movs_computed, stos_computed, jump_computed}
use Rattle.x86_meaning.specs.Computing.{compute}
use Rattle.x86_meaning.specs.Effect.{Effect, effect, effect_by, effect_of, all_written, written_to}
use Rattle.x86_meaning.specs.Step.{State, at_address, settled, settled_by, request_of, after_call, finish, performed, by_loads, step}
use Rattle.x86_meaning.specs.StepLaws.{StepLaws}

-- ---- ways that make no call
abbrev pub calls : Way → Bool
calls Falls = false
calls (JumpsBy by) = false
calls (JumpsTo target) = false
calls Repeats = false
calls Calls = true

abbrev pub IsQuiet : Computation → Type 0
IsQuiet (Err x) = Unit {0}
IsQuiet (Ok c) = calls c.way ≡ false

quiet_one : (f : Word → Computation) → ((x : Word) → IsQuiet (f x)) → (xs : List Word) → IsQuiet (on_one f xs)
quiet_one f h [] = tt
quiet_one f h (x ∷ []) = h x
quiet_one f h (x ∷ y ∷ xs) = tt

quiet_two : (f : Word → Word → Computation) → ((x y : Word) → IsQuiet (f x y)) → (xs : List Word) → IsQuiet (on_two f xs)
quiet_two f h [] = tt
quiet_two f h (x ∷ []) = tt
quiet_two f h (x ∷ y ∷ []) = h x y
quiet_two f h (x ∷ y ∷ z ∷ xs) = tt

quiet_three : (f : Word → Word → Word → Computation) → ((x y z : Word) → IsQuiet (f x y z)) → (xs : List Word) → IsQuiet (on_three f xs)
quiet_three f h [] = tt
quiet_three f h (x ∷ []) = tt
quiet_three f h (x ∷ y ∷ []) = tt
quiet_three f h (x ∷ y ∷ z ∷ []) = h x y z
quiet_three f h (x ∷ y ∷ z ∷ w ∷ xs) = tt

quiet_alu : (op : AluOp) (size : ℕ) (f : Flags) (x y : Word) → IsQuiet (alu_computed op size f x y)
quiet_alu alu.Add size f x y = refl
quiet_alu alu.Or size f x y = refl
quiet_alu alu.Adc size f x y = refl
quiet_alu alu.Sbb size f x y = refl
quiet_alu alu.And size f x y = refl
quiet_alu alu.Sub size f x y = refl
quiet_alu alu.Xor size f x y = refl
quiet_alu alu.Cmp size f x y = refl

quiet_division : (d : Divided) → IsQuiet (quotient_and_remainder d)
quiet_division (divided.Got q r) = refl
quiet_division divided.Fault = tt
quiet_division divided.Unspecified = tt

quiet_target : (values : List Word) (target : Option ℕ) (f : Flags) → IsQuiet (goes_to values target f)
quiet_target values None f = tt
quiet_target values (Some a) f = refl

quiet_condition : (holds : Option Bool) (by : ℕ) (f : Flags) → IsQuiet (jump_computed holds by f)
quiet_condition None by f = tt
quiet_condition (Some true) by f = refl
quiet_condition (Some false) by f = refl

quiet_movs : (size : ℕ) (f : Flags) (xs : List Word) → IsQuiet (movs_computed size f xs)
quiet_movs size f [] = refl
quiet_movs size f (a ∷ []) = refl
quiet_movs size f (a ∷ b ∷ []) = refl
quiet_movs size f (a ∷ b ∷ c ∷ []) = refl
quiet_movs size f (a ∷ b ∷ c ∷ d ∷ []) = refl
quiet_movs size f (a ∷ b ∷ c ∷ d ∷ e ∷ xs) = refl

quiet_stos : (size : ℕ) (f : Flags) (xs : List Word) → IsQuiet (stos_computed size f xs)
quiet_stos size f [] = refl
quiet_stos size f (a ∷ []) = refl
quiet_stos size f (a ∷ b ∷ []) = refl
quiet_stos size f (a ∷ b ∷ c ∷ []) = refl
quiet_stos size f (a ∷ b ∷ c ∷ d ∷ xs) = refl

-- ---- each instruction but INT 80h makes no call
abbrev pub MakesNoCall : Instr → Type 0
MakesNoCall i = (next : ℕ) (f : Flags) (xs : List Word) → IsQuiet (compute i next f xs)

quiet : (i : Instr) → MakesNoCall i ⊎ (i ≡ instr.Int80)
unfolding compute
quiet (instr.Alu op w to from) = inl (λ n f xs. quiet_two _ (quiet_alu op _ f) xs)
quiet (instr.Test w to from) = inl (λ n f xs. quiet_two _ (λ x y. refl) xs)
quiet (instr.Mov w to from) = inl (λ n f xs. quiet_one _ (λ x. refl) xs)
quiet (instr.Lea w to at) = inl (λ n f xs. quiet_one _ (λ x. refl) xs)
quiet (instr.Inc w to) = inl (λ n f xs. quiet_one _ (λ x. refl) xs)
quiet (instr.Dec w to) = inl (λ n f xs. quiet_one _ (λ x. refl) xs)
quiet (instr.Not w to) = inl (λ n f xs. quiet_one _ (λ x. refl) xs)
quiet (instr.Neg w to) = inl (λ n f xs. quiet_one _ (λ x. refl) xs)
quiet (instr.Mul w from) = inl (λ n f xs. quiet_two _ (λ x y. refl) xs)
quiet (instr.ImulWide w from) = inl (λ n f xs. quiet_two _ (λ x y. refl) xs)
quiet (instr.Div w from) = inl (λ n f xs. quiet_three _ (λ x y z. quiet_division _) xs)
quiet (instr.Idiv w from) = inl (λ n f xs. quiet_three _ (λ x y z. quiet_division _) xs)
quiet (instr.Imul w to from) = inl (λ n f xs. quiet_two _ (λ x y. refl) xs)
quiet (instr.ImulBy w to from by) = inl (λ n f xs. quiet_two _ (λ x y. refl) xs)
quiet (instr.Shift op w to c) = inl (λ n f xs. quiet_two _ (λ x y. refl) xs)
quiet (instr.Shld to from c) = inl (λ n f xs. quiet_three _ (λ x y z. refl) xs)
quiet (instr.Shrd to from c) = inl (λ n f xs. quiet_three _ (λ x y z. refl) xs)
quiet (instr.Push from) = inl (λ n f xs. quiet_two _ (λ x y. refl) xs)
quiet (instr.Pop to) = inl (λ n f xs. quiet_two _ (λ x y. refl) xs)
quiet (instr.Xchg w to from) = inl (λ n f xs. quiet_two _ (λ x y. refl) xs)
quiet (instr.Movzx wide w to from) = inl (λ n f xs. quiet_one _ (λ x. refl) xs)
quiet (instr.Movsx wide w to from) = inl (λ n f xs. quiet_one _ (λ x. refl) xs)
quiet (instr.Cmov c w to from) = inl (λ n f xs. quiet_two _ (λ x y. refl) xs)
quiet (instr.Setcc c to) = inl (λ n f xs. refl)
quiet (instr.Extend w) = inl (λ n f xs. quiet_one _ (λ x. refl) xs)
quiet (instr.Spread w) = inl (λ n f xs. quiet_one _ (λ x. refl) xs)
quiet (instr.Bsf w to from) = inl (λ n f xs. quiet_one _ (λ x. refl) xs)
quiet (instr.Bsr w to from) = inl (λ n f xs. quiet_one _ (λ x. refl) xs)
quiet (instr.Bswap to) = inl (λ n f xs. quiet_one _ (λ x. refl) xs)
quiet (instr.Movs w repeat) = inl (λ n f xs. quiet_movs _ f xs)
quiet (instr.Stos w repeat) = inl (λ n f xs. quiet_stos _ f xs)
quiet (instr.Jmp by) = inl (λ n f xs. refl)
quiet (instr.JmpTo to) = inl (λ n f xs. quiet_one _ (λ x. quiet_target [] (known x) f) xs)
quiet (instr.CallTo to) = inl (λ n f xs. quiet_two _ (λ x y. quiet_target _ (known y) f) xs)
quiet (instr.Jcc c by) = inl (λ n f xs. quiet_condition _ by f)
quiet (instr.Call by) = inl (λ n f xs. quiet_one _ (λ x. refl) xs)
quiet (instr.Ret drop) = inl (λ n f xs. quiet_two _ (λ x y. quiet_target _ (known y) f) xs)
quiet instr.Leave = inl (λ n f xs. quiet_two _ (λ x y. refl) xs)
quiet instr.Int80 = inr refl
quiet instr.Cld = inl (λ n f xs. refl)
quiet instr.Nop = inl (λ n f xs. refl)

-- ---- the labels of a move
abbrev pub move_labels : Move State → List Label
move_labels (Stand ls e) = ls
move_labels (Go ls s) = ls
move_labels (Halt ls e) = ls

settled_labels : (o : Option ℕ) (s : State) → move_labels (settled_by o [] s) ≡ []
settled_labels None s = refl
settled_labels (Some esp) s = refl

finish_labels : (w : Way) (n : ℕ) (s : State) → calls w ≡ false → move_labels (finish w n s) ≡ []
unfolding finish settled
finish_labels Falls n s h = settled_labels (known (s.cpu.regs 4)) (at_address n s)
finish_labels (JumpsBy by) n s h = settled_labels (known (s.cpu.regs 4)) (at_address (n + by) s)
finish_labels (JumpsTo target) n s h = settled_labels (known (s.cpu.regs 4)) (at_address target s)
finish_labels Repeats n s h = settled_labels (known (s.cpu.regs 4)) s
finish_labels Calls n s h = cc

-- writing keeps the way
written_way : (size : ℕ) (l : Location) (w : Word) (e : Effect) → (written_to size l w e).way ≡ e.way
written_way size (InRegister p i) w e = refl
written_way size (InMemory at) w e = refl
written_way size (Constant n) w e = refl

all_written_way : (os : List SizedOperand) (ws : List Word) (e : Effect) → (all_written os ws e).way ≡ e.way
all_written_way [] ws e = refl
all_written_way (o ∷ os) [] e = refl
all_written_way (o ∷ os) (w ∷ ws) e = all_written_way os ws (written_to o.size o.location w e) ∙ written_way o.size o.location w e

abbrev pub EffectIsQuiet : Result Effect Stop → Type 0
EffectIsQuiet (Err x) = Unit {0}
EffectIsQuiet (Ok e) = calls e.way ≡ false

quiet_effect_of : (os : List SizedOperand) (regs : Registers) (c : Computation) → IsQuiet c → EffectIsQuiet (effect_of os regs c)
quiet_effect_of os regs (Err x) h = tt
quiet_effect_of os regs (Ok c) h = ap calls (all_written_way os c.values _) ∙ h

quiet_effect_by : (t : Option Transfer) (i : Instr) (n : ℕ) (s : State) → MakesNoCall i → EffectIsQuiet (effect_by t i n s.cpu s.memory)
quiet_effect_by None i n s h = tt
quiet_effect_by (Some t) i n s h = quiet_effect_of t.writes s.cpu.regs (compute i n s.cpu.flags (values_in t.reads s.cpu.regs s.memory)) (h n s.cpu.flags (values_in t.reads s.cpu.regs s.memory))

by_loads_labels : (b c : Bool) (r : Result Effect Stop) (n : ℕ) (s : State) → EffectIsQuiet r → move_labels (by_loads b c r n s) ≡ []
by_loads_labels false c r n s h = refl
by_loads_labels true c (Err x) n s h = refl
by_loads_labels true false (Ok e) n s h = refl
by_loads_labels true true (Ok e) n s h = finish_labels e.way n (performed e s) h

step_labels : (i : Instr) (len : ℕ) (s : State) → MakesNoCall i → move_labels (step i len s) ≡ []
unfolding step effect
step_labels i len s h = by_loads_labels _ _ (effect_by (transfer machine_naming i s.cpu.regs) i _ s.cpu s.memory) (s.eip + len) s (quiet_effect_by (transfer machine_naming i s.cpu.regs) i _ s h)

-- ---- a call
settled_go : (ls : List Label) (esp : ℕ) (s : State) (ks : List Label) (e : End) (o : Option ℕ) → o ≡ Some esp → settled_by o ls s ≡ Halt ks e → ⊥
settled_go ls esp s ks e None h g = cc
settled_go ls esp s ks e (Some x) h g = cc

call_labels : (c : Called) (esp : ℕ) (s : State) (ls : List Label) (e : End) → known (s.cpu.regs 4) ≡ Some esp → after_call c s ≡ Halt ls e → ls ≡ []
unfolding settled with_register
call_labels (Ends f) esp s ls e h g = sym (ap move_labels g)
call_labels (Gives ks result stores left) esp s ls e h g = absurd (settled_go ks esp _ ls e (known (s.cpu.regs 4)) h g)

pub quiet_halt : StepLaws → (i : Instr) (len esp : ℕ) (s : State) (ls : List Label) (e : End) → known (s.cpu.regs 4) ≡ Some esp → step i len s ≡ Halt ls e → ls ≡ []
quiet_halt laws i len esp s ls e h g = cases (quiet i)
  where
    cases : MakesNoCall i ⊎ (i ≡ instr.Int80) → ls ≡ []
    cases (inl q) = sym (ap move_labels g) ∙ step_labels i len s q
    cases (inr q) =
        let is_call = sym (laws.call len s) ∙ (ap (λ j. step j len s) (sym q) ∙ g) in
        call_labels (system_call (request_of s.cpu) s.memory s.left) esp (at_address (s.eip + len) s) ls e h is_call

-- ---- a step begins no turn of its own
labels_unturned : (m : Move State) (ls : List Label) → move_labels m ≡ ls → turns ls ≡ 0 → Unturned m
labels_unturned (Stand ks e) ls h t = ap turns h ∙ t
labels_unturned (Go ks s) ls h t = ap turns h ∙ t
labels_unturned (Halt ks e) ls h t = ap turns h ∙ t

all_settled_labels : (o : Option ℕ) (ls : List Label) (s : State) → move_labels (settled_by o ls s) ≡ ls
all_settled_labels None ls s = refl
all_settled_labels (Some esp) ls s = refl

call_unturned : (c : Called) (s : State) → IsPlainCall c → Unturned (after_call c s)
unfolding settled
call_unturned (Ends e) s h = refl
call_unturned (Gives ls result stores left) s h = labels_unturned (after_call (Gives ls result stores left) s) ls (all_settled_labels _ ls _) h

pub unturned_step : StepLaws → CallLaws → (i : Instr) (len : ℕ) (s : State) → Unturned (step i len s)
unturned_step laws calls i len s = cases (quiet i)
  where
    cases : MakesNoCall i ⊎ (i ≡ instr.Int80) → Unturned (step i len s)
    cases (inl q) = labels_unturned (step i len s) [] (step_labels i len s q) refl
    cases (inr q) =
        let u : Unturned (step instr.Int80 len s) = subst Unturned (sym (laws.call len s)) (call_unturned (system_call (request_of s.cpu) s.memory s.left) (at_address (s.eip + len) s) (calls.are_plain (request_of s.cpu) s.memory s.left)) in
        subst (λ j. Unturned (step j len s)) (sym q) u
