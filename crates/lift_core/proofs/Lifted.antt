-- The list and the way of each instruction do what its step does.
use Rattle.std.proofs.Common.{◌≡◌, ℕ, zero, suc, ◌+◌, Bool, true, false, List, [], ◌∷◌, ◌++◌, Option, Some, None, Result, Ok, refl, sym, ◌∙◌, ap, subst, append-nil, lit<}
use Rattle.x86_values.specs.Words.{word_of, known, padded}
use Rattle.x86_values.specs.Sizes.{cut}
use Rattle.x86_values.specs.Extensions.{sign_extended}
use Rattle.traces.specs.Trace.{Label, End}
use Rattle.memory.specs.Memory.{wrapped, Load, Store}
use Rattle.memory.specs.MemoryLaws.{MemoryLaws}
use Rattle.memory.specs.CallLaws.{CallLaws}
use Rattle.memory.specs.LessSpecifiedLaws.{LessSpecifiedMemoryLaws}
use Rattle.x86_types.specs.declared.width.Width.{Width}
use Rattle.x86_types.specs.declared.width.Width.TheVariants.{One, Two, Four}
use Rattle.x86_types.specs.declared.instr.Instr.{Instr}
use Rattle.x86_types.specs.declared.instr.Instr.TheVariants as instr
use Rattle.x86_types.specs.Numbers.{size_of}
use Rattle.x86_meaning.specs.Registers.{with_register, machine_naming}
use Rattle.x86_meaning.specs.Operands.{Location, InRegister, operand as sized, field, location_of, source_of}
use Rattle.x86_meaning.specs.TransferShapes.{Transfer, double_shift_transfer, read_transfer, push_of, push_transfer, pop_to, pop_transfer, esp_raised, up, leave_transfer, if_counted, movs_transfer, stos_transfer, no_transfer}
use Rattle.x86_meaning.specs.Transfers.{transfer}
use Rattle.x86_meaning.specs.Outcomes.{Way as Goes, Falls, JumpsBy, Computed, Computation, computed, extend_computed}
use Rattle.x86_meaning.specs.Computing.{compute}
use Rattle.x86_meaning.specs.Effect.{transfer_accesses, accesses, effect_of, effect_by, effect}
use Rattle.x86_meaning.specs.Step.{State, all_allowed, by_loads, step}
use Rattle.x86_meaning.specs.StepLaws.{StepLaws}
use Rattle.flag_ir.specs.declared.operation.Op.{Op}
use Rattle.flag_ir.specs.Storage.{Storage, put_word}
use Rattle.flag_ir.specs.Operations.{and_then, needed, perform, performs, shown_by_all}
use Rattle.lift_relation.specs.Matching.{StateMatches, MoveMatches}
use Rattle.lift_relation.specs.Cores.{CutMatches}
use Rattle.lift_values.specs.CoreLaws.{CoreLaws}
use Rattle.lift_values.specs.ShiftLaws.{ShiftCoreLaws}
use Rattle.lift_values.specs.Conditions.{condition_ops}
use Rattle.lift_core.specs.declared.way.Way.{Way}
use Rattle.lift_core.specs.declared.way.Way.TheVariants as way
use Rattle.lift_core.specs.declared.operand.Operand.TheVariants as operand
use Rattle.lift_core.specs.Lifting.{Lifts, goes_to, listed, unless_counted, lifted, shown_if_counted, shown_lifted}
use Rattle.lift_values.specs.Terms.{temp, word}
use Rattle.lift_core.specs.Pieces.{reg, source_of_rm, field_operand, source_ops}
use Rattle.lift_core.specs.Lists.{accumulator_operand, extend_ops, double_shift_ops, call_ops, pop_ops, movs_ops, stos_ops, string_way, lift_of, way_of}
use Rattle.lift_core.proofs.Meeting.{leads_to, IsNoCall, EffectMeets, TransferMeets, by_one_meets, by_two_meets, step_meets}
use Rattle.lift_core.proofs.Reading.{Stands, some_location, field_stands}
use Rattle.lift_core.proofs.Cores.{begun_matches}
use Rattle.lift_core.proofs.Raising.{AddingLaws}
use Rattle.lift_core.proofs.Words.{known_in, known_less}
use Rattle.lift_core.proofs.Plain.{IsShort, list_shows_nothing}
use Rattle.lift_core.proofs.PlainForms.{list_short}
use Rattle.lift_core.proofs.Addresses.{with_temps, temps_match}
use Rattle.lift_core.proofs.Written.{Written, moved}
use Rattle.lift_core.proofs.UpdateForms.{update_meets}
use Rattle.lift_core.proofs.TwoForms.{mov_meets, test_meets, alu_meets}
use Rattle.lift_core.proofs.SourceForms.{rm_source, accumulator_stands, source_meets, operand_meets, combine_meets, constant_meets, multiply_meets, divide_meets}
use Rattle.lift_core.proofs.TargetForms.{shift_meets, double_meets, set_meets, exchange_meets}
use Rattle.lift_core.proofs.MoveForms.{lea_meets, movzx_meets}
use Rattle.lift_core.proofs.StackForms.{push_meets, call_meets, call_to_meets, jump_to_meets, ret_meets, pop_meets, leave_meets}
use Rattle.lift_core.proofs.StringForms.{counter, movs_meets, stos_meets}
use Rattle.lift_core.proofs.FlowForms.{jcc_meets, call_meets as system_meets}

-- the laws on which this stands
pub record LawsBelow : Type 0 where
  pub memory : MemoryLaws
  pub memories : LessSpecifiedMemoryLaws
  pub calls : CallLaws
  pub steps : StepLaws
  pub adding : AddingLaws
  pub cores : CoreLaws
  pub shifts : ShiftCoreLaws

-- by what may not be known, where nothing is read and written then
by_option : {A : Type 0} (F : Option A → Option Transfer) (o : Option A) (i : Instr) (len : ℕ) (s : State) (w : Way) (y : Result Storage End) → F None ≡ None → ((a : A) → o ≡ Some a → TransferMeets (F (Some a)) i len s w y) → TransferMeets (F o) i len s w y
by_option F None i len s w y e f = subst (λ (t : Option Transfer). TransferMeets t i len s w y) (sym e) tt
by_option F (Some a) i len s w y e f = f a refl

no_pop : (o : Option Location) → pop_to o None ≡ None
no_pop None = refl
no_pop (Some l) = refl

-- a step that reads and writes nothing, since an address isn't known, is excused
excused : (i : Instr) (len : ℕ) (s : State) (ks : List Label) (y : Result (ℕ × Storage) End) → transfer machine_naming i s.cpu.regs ≡ None → MoveMatches (step i len s) ks y
unfolding step accesses effect
excused i len s ks y e =
    subst (λ (o : Option Transfer). MoveMatches (by_loads (all_allowed Load (transfer_accesses o) s.memory) (all_allowed Store (transfer_accesses o) s.memory) (effect_by o i (wrapped (s.eip + len)) s.cpu s.memory) (s.eip + len) s) ks y) (sym e) tt

zero_extended : CutMatches 1 (cut 1 (sign_extended 0 (padded []))) (word_of 0)
unfolding cut sign_extended word_of
zero_extended = record { b0 = (refl, lit< tt); b1 = (refl, lit< tt); b2 = (refl, lit< tt); b3 = (refl, lit< tt) }

second_stands : (w : Width) (u : Storage) → Stands w (operand.Register 2 0) (InRegister 2 0) u
second_stands One u = record { is = refl; small = lit< tt; index = tt }
second_stands Two u = record { is = refl; small = lit< tt; index = tt }
second_stands Four u = record { is = refl; small = lit< tt; index = tt }

module _ (laws : LawsBelow) (turn len : ℕ) (s : State) (u : Storage) (h : StateMatches s u) where
  -- the list and the way of an instruction, as its step is made
  abbrev Does : Instr → Way → List Op → Type 0
  Does i w ops = TransferMeets (transfer machine_naming i s.cpu.regs) i len s w (performs turn ops u)

  abbrev Matches : Instr → Way → List Op → Type 0
  Matches i w ops = MoveMatches (step i len s) (shown_lifted turn w ops u) (lifted turn w ops u)

  abbrev on : Way
  on = way.On (wrapped (s.eip + len))

  goes_on : (i : Instr) (a : ℕ) (ops : List Op) (n : ℕ) → IsShort n ops → Does i (way.On a) ops → Matches i (way.On a) ops
  goes_on i a ops n p d = step_meets laws.memories i len turn ops (way.On a) s u (list_shows_nothing turn ops u p.plain) d

  -- ---- a repeat, by its count
  no_iteration : (i : Instr) → transfer machine_naming i s.cpu.regs ≡ no_transfer → compute i (wrapped (s.eip + len)) s.cpu.flags [] ≡ computed [] s.cpu.flags Falls → MoveMatches (step i len s) [] (Ok (wrapped (s.eip + len), u))
  unfolding performs shown_by_all
  no_iteration i e c =
      let d : Computed = record { values = []; flags = s.cpu.flags; way = Falls } in
      step_meets laws.memories i len turn [] on s u refl
      (subst (λ (o : Option Transfer). TransferMeets o i len s on (Ok u)) (sym e)
      (subst (λ (c : Computation). EffectMeets (effect_of [] s.cpu.regs c) true (s.eip + len) s on (Ok u)) (sym c)
      (record { state = begun_matches d s u h h.flags; goes = refl; no_call = tt })))

  counted_meets : (i : Instr) (t : Option Transfer) (ops : List Op) (n : ℕ) → IsShort n ops → transfer machine_naming i s.cpu.regs ≡ if_counted (known (s.cpu.regs 1)) t → compute i (wrapped (s.eip + len)) s.cpu.flags [] ≡ computed [] s.cpu.flags Falls →
      TransferMeets t i len s (way.Repeat (reg 1) (word 1) s.eip (wrapped (s.eip + len))) (performs turn ops u) → Matches i (way.Repeat (reg 1) (word 1) s.eip (wrapped (s.eip + len))) ops
  counted_meets i t ops n p e c d = go (known (s.cpu.regs 1)) refl
    where
      again : Way
      again = way.Repeat (reg 1) (word 1) s.eip (wrapped (s.eip + len))

      by_count : (o : Option ℕ) → known (u.regs 1) ≡ o → MoveMatches (step i len s) (shown_if_counted o (shown_by_all turn ops u)) (and_then (needed o) (λ k. unless_counted k (Ok (wrapped (s.eip + len), u)) (listed turn (way.Repeat (reg 1) (word 1) s.eip (wrapped (s.eip + len))) ops u))) →
          Matches i (way.Repeat (reg 1) (word 1) s.eip (wrapped (s.eip + len))) ops
      by_count o q m = subst (λ (o : Option ℕ). MoveMatches (step i len s) (shown_if_counted o (shown_by_all turn ops u)) (and_then (needed o) (λ k. unless_counted k (Ok (wrapped (s.eip + len), u)) (listed turn (way.Repeat (reg 1) (word 1) s.eip (wrapped (s.eip + len))) ops u)))) (sym q) m

      count_is : (k : ℕ) → known (s.cpu.regs 1) ≡ Some k → known (u.regs 1) ≡ Some k
      count_is k q = known_in k (u.regs 1) (known_less (s.cpu.regs 1) k (u.regs 1) q (h.regs 1 (lit< tt)))

      go : (o : Option ℕ) → known (s.cpu.regs 1) ≡ o → Matches i (way.Repeat (reg 1) (word 1) s.eip (wrapped (s.eip + len))) ops
      go None q = excused i len s _ _ (e ∙ ap (λ o. if_counted o t) q)
      go (Some zero) q = by_count (Some zero) (count_is zero q) (no_iteration i (e ∙ ap (λ o. if_counted o t) q) c)
      go (Some (suc k)) q = by_count (Some (suc k)) (count_is (suc k) q)
          (step_meets laws.memories i len turn ops (way.Repeat (reg 1) (word 1) s.eip (wrapped (s.eip + len))) s u (list_shows_nothing turn ops u p.plain)
          (subst (λ (o : Option Transfer). TransferMeets o i len s (way.Repeat (reg 1) (word 1) s.eip (wrapped (s.eip + len))) (performs turn ops u)) (sym (e ∙ ap (λ o. if_counted o t) q)) d))

  -- ---- MOVS and STOS, single or repeated
  movs_does : (w : Width) (repeat : Bool) → TransferMeets (movs_transfer (size_of w) (known (s.cpu.regs 6)) (known (s.cpu.regs 7)) (counter repeat)) (instr.Movs w repeat) len s (string_way repeat s.eip (wrapped (s.eip + len))) (performs turn (movs_ops w repeat) u)
  unfolding compute
  movs_does w false =
      by_option (λ a. movs_transfer (size_of w) a (known (s.cpu.regs 7)) []) (known (s.cpu.regs 6)) (instr.Movs w false) len s _ _ refl
      (λ from e6. by_option (λ b. movs_transfer (size_of w) (Some from) b []) (known (s.cpu.regs 7)) (instr.Movs w false) len s _ _ refl
      (λ to e7. movs_meets turn laws.memory laws.memories laws.adding len s u h w false from to e6 e7))
  movs_does w true =
      by_option (λ a. movs_transfer (size_of w) a (known (s.cpu.regs 7)) (counter true)) (known (s.cpu.regs 6)) (instr.Movs w true) len s _ _ refl
      (λ from e6. by_option (λ b. movs_transfer (size_of w) (Some from) b (counter true)) (known (s.cpu.regs 7)) (instr.Movs w true) len s _ _ refl
      (λ to e7. movs_meets turn laws.memory laws.memories laws.adding len s u h w true from to e6 e7))

  stos_does : (w : Width) (repeat : Bool) → TransferMeets (stos_transfer w (known (s.cpu.regs 7)) (counter repeat)) (instr.Stos w repeat) len s (string_way repeat s.eip (wrapped (s.eip + len))) (performs turn (stos_ops w repeat) u)
  unfolding compute
  stos_does w false = by_option (λ a. stos_transfer w a []) (known (s.cpu.regs 7)) (instr.Stos w false) len s _ _ refl (λ to e7. stos_meets turn laws.memory laws.memories laws.adding len s u h w false to e7)
  stos_does w true = by_option (λ a. stos_transfer w a (counter true)) (known (s.cpu.regs 7)) (instr.Stos w true) len s _ _ refl (λ to e7. stos_meets turn laws.memory laws.memories laws.adding len s u h w true to e7)

  -- ---- an instruction that does nothing but go on
  going_on : (i : Instr) (go : Goes) (w : Way) → transfer machine_naming i s.cpu.regs ≡ no_transfer → compute i (wrapped (s.eip + len)) s.cpu.flags [] ≡ computed [] s.cpu.flags go → IsNoCall go → goes_to w u ≡ Ok (leads_to go (s.eip + len) s.eip) → Does i w []
  unfolding performs
  going_on i go w e c n g =
      let d : Computed = record { values = []; flags = s.cpu.flags; way = go } in
      subst (λ (o : Option Transfer). TransferMeets o i len s w (Ok u)) (sym e)
      (subst (λ (c : Computation). EffectMeets (effect_of [] s.cpu.regs c) true (s.eip + len) s w (Ok u)) (sym c)
      (record { state = begun_matches d s u h h.flags; goes = g; no_call = n }))

  -- a byte isn't extended to itself: CBW of one byte, which no bytes spell, has no operand
  byte_extended : Written turn laws.memory laws.memories len s (sized 1 (InRegister 0 0) ∷ []) (extend_computed 1 0 s.cpu.flags (padded [])) (performs turn (extend_ops One) u)
  unfolding performs perform
  byte_extended =
      let t = put_word 4 (word_of 0) u.temps in
      moved turn laws.memory laws.memories len s One accumulator_operand (InRegister 0 0) _ (with_temps t u) (temps_match s u t h) (accumulator_stands One (with_temps t u)) zero_extended

  -- ---- each instruction
  lifts_here : (i : Instr) → Matches i (way_of i s.eip len) (lift_of i s.eip len)
  unfolding transfer compute lift_of way_of
  lifts_here (instr.Alu op w to from) = let i = instr.Alu op w to from in goes_on i _ _ _ (list_short i s.eip len) (by_two_meets _ _ _ i len s _ _ (λ l k e g. alu_meets turn laws.memory laws.memories len s u h laws.cores op w to from l k e g))
  lifts_here (instr.Test w to from) = let i = instr.Test w to from in goes_on i _ _ _ (list_short i s.eip len) (by_two_meets _ _ _ i len s _ _ (λ l k e g. test_meets turn laws.memory laws.memories len s u h laws.cores w to from l k e g))
  lifts_here (instr.Mov w to from) = let i = instr.Mov w to from in goes_on i _ _ _ (list_short i s.eip len) (by_two_meets _ _ _ i len s _ _ (λ l k e g. mov_meets turn laws.memory laws.memories len s u h w to from l k e g))
  lifts_here (instr.Lea w to a) = let i = instr.Lea w to a in goes_on i _ _ _ (list_short i s.eip len) (lea_meets turn laws.memory laws.memories len s u h w to a)
  lifts_here (instr.Inc w to) = let i = instr.Inc w to in goes_on i _ _ _ (list_short i s.eip len) (update_meets turn laws.memory laws.memories len s u h i w to _ _ (laws.cores.inc w) (λ f x. record { value = _; flags = _; is = refl }) (λ n f x. refl))
  lifts_here (instr.Dec w to) = let i = instr.Dec w to in goes_on i _ _ _ (list_short i s.eip len) (update_meets turn laws.memory laws.memories len s u h i w to _ _ (laws.cores.dec w) (λ f x. record { value = _; flags = _; is = refl }) (λ n f x. refl))
  lifts_here (instr.Not w to) = let i = instr.Not w to in goes_on i _ _ _ (list_short i s.eip len) (update_meets turn laws.memory laws.memories len s u h i w to _ _ (laws.cores.not w) (λ f x. record { value = _; flags = _; is = refl }) (λ n f x. refl))
  lifts_here (instr.Neg w to) = let i = instr.Neg w to in goes_on i _ _ _ (list_short i s.eip len) (update_meets turn laws.memory laws.memories len s u h i w to _ _ (laws.cores.neg w) (λ f x. record { value = _; flags = _; is = refl }) (λ n f x. refl))
  lifts_here (instr.Mul w from) = let i = instr.Mul w from in goes_on i _ _ _ (list_short i s.eip len) (by_one_meets _ _ i len s _ _ (λ k e. multiply_meets turn laws.memory laws.memories len s u h laws.cores false w from k e))
  lifts_here (instr.ImulWide w from) = let i = instr.ImulWide w from in goes_on i _ _ _ (list_short i s.eip len) (by_one_meets _ _ i len s _ _ (λ k e. multiply_meets turn laws.memory laws.memories len s u h laws.cores true w from k e))
  lifts_here (instr.Div w from) = let i = instr.Div w from in goes_on i _ _ _ (list_short i s.eip len) (by_one_meets _ _ i len s _ _ (λ k e. divide_meets turn laws.memory laws.memories len s u h laws.cores false w from k e))
  lifts_here (instr.Idiv w from) = let i = instr.Idiv w from in goes_on i _ _ _ (list_short i s.eip len) (by_one_meets _ _ i len s _ _ (λ k e. divide_meets turn laws.memory laws.memories len s u h laws.cores true w from k e))
  lifts_here (instr.Imul w to from) = let i = instr.Imul w to from in goes_on i _ _ _ (list_short i s.eip len) (by_one_meets _ _ i len s _ _ (λ k e. combine_meets turn laws.memory laws.memories len s u h w (source_of_rm from) to k _ _ (laws.cores.imul w) (record { value = _; flags = _; is = refl }) (rm_source s w from ∙ e)))
  lifts_here (instr.ImulBy w to from by) = let i = instr.ImulBy w to from by in goes_on i _ _ _ (list_short i s.eip len) (by_one_meets _ _ i len s _ _ (λ k e. constant_meets turn laws.memory laws.memories len s u h w (source_of_rm from) to by k _ _ (laws.cores.imul w) (record { value = _; flags = _; is = refl }) (rm_source s w from ∙ e)))
  lifts_here (instr.Shift op w to n) = let i = instr.Shift op w to n in goes_on i _ _ _ (list_short i s.eip len) (by_one_meets _ _ i len s _ _ (λ l e. shift_meets turn laws.memory laws.memories len s u h laws.shifts op w to n l e))
  lifts_here (instr.Shld to from n) = let i = instr.Shld to from n in goes_on i _ _ _ (list_short i s.eip len) (by_two_meets _ _ _ i len s _ _ (λ l k e g. subst (λ (k : Location). TransferMeets (Some (double_shift_transfer n l k)) i len s on (performs turn (double_shift_ops false to from n) u)) (some_location _ _ (sym g)) (double_meets turn laws.memory laws.memories len s u h laws.shifts false to from n l e)))
  lifts_here (instr.Shrd to from n) = let i = instr.Shrd to from n in goes_on i _ _ _ (list_short i s.eip len) (by_two_meets _ _ _ i len s _ _ (λ l k e g. subst (λ (k : Location). TransferMeets (Some (double_shift_transfer n l k)) i len s on (performs turn (double_shift_ops true to from n) u)) (some_location _ _ (sym g)) (double_meets turn laws.memory laws.memories len s u h laws.shifts true to from n l e)))
  lifts_here (instr.Push from) = let i = instr.Push from in goes_on i _ _ _ (list_short i s.eip len) (by_option (λ o. push_of o (known (s.cpu.regs 4))) (source_of machine_naming s.cpu.regs Four from) i len s _ _ refl (λ k e. by_option (λ a. push_of (Some k) a) (known (s.cpu.regs 4)) i len s _ _ refl (λ at g. push_meets turn laws.memory laws.memories laws.adding len s u h from k at e g)))
  lifts_here (instr.Pop to) = let i = instr.Pop to in goes_on i _ _ _ (list_short i s.eip len) (by_option (λ a. pop_to (location_of machine_naming (esp_raised a s.cpu.regs) Four to) a) (known (s.cpu.regs 4)) i len s _ _ (no_pop _) (λ at g. by_option (λ o. pop_to o (Some at)) (location_of machine_naming (with_register 4 (word_of (up 4 at)) s.cpu.regs) Four to) i len s _ _ refl (λ l e. pop_meets turn laws.memory laws.memories laws.adding len s u h to l at g e)))
  lifts_here (instr.Xchg w to from) = let i = instr.Xchg w to from in goes_on i _ _ _ (list_short i s.eip len) (by_one_meets _ _ i len s _ _ (λ l e. exchange_meets turn laws.memory laws.memories len s u h w to from l e))
  lifts_here (instr.Movzx wide w to from) = let i = instr.Movzx wide w to from in goes_on i _ _ _ (list_short i s.eip len) (by_one_meets _ _ i len s _ _ (λ k e. movzx_meets turn laws.memory laws.memories len s u h wide w (source_of_rm from) to k (rm_source s w from ∙ e)))
  lifts_here (instr.Movsx wide w to from) = let i = instr.Movsx wide w to from in goes_on i _ _ _ (list_short i s.eip len) (by_one_meets _ _ i len s _ _ (λ k e. source_meets turn laws.memory laws.memories len s u h w wide (source_of_rm from) to k _ _ (laws.cores.extend wide w) (record { value = _; flags = _; is = refl }) (rm_source s w from ∙ e)))
  lifts_here (instr.Cmov c w to from) = let i = instr.Cmov c w to from in goes_on i _ _ _ (list_short i s.eip len) (by_one_meets _ _ i len s _ _ (λ k e. combine_meets turn laws.memory laws.memories len s u h w (source_of_rm from) to k _ _ (laws.cores.cmov c w) (record { value = _; flags = _; is = refl }) (rm_source s w from ∙ e)))
  lifts_here (instr.Setcc c to) = let i = instr.Setcc c to in goes_on i _ _ _ (list_short i s.eip len) (by_one_meets _ _ i len s _ _ (λ l e. set_meets turn laws.memory laws.memories len s u h laws.cores c to l e))
  lifts_here (instr.Extend One) = let i = instr.Extend One in goes_on i _ _ _ (list_short i s.eip len) byte_extended
  lifts_here (instr.Extend Two) = let i = instr.Extend Two in goes_on i _ _ _ (list_short i s.eip len) (operand_meets turn laws.memory laws.memories len s u h One Two accumulator_operand accumulator_operand (InRegister 0 0) (InRegister 0 0) _ _ (laws.cores.extend Two One) (record { value = _; flags = _; is = refl }) (accumulator_stands One) (accumulator_stands Two))
  lifts_here (instr.Extend Four) = let i = instr.Extend Four in goes_on i _ _ _ (list_short i s.eip len) (operand_meets turn laws.memory laws.memories len s u h Two Four accumulator_operand accumulator_operand (InRegister 0 0) (InRegister 0 0) _ _ (laws.cores.extend Four Two) (record { value = _; flags = _; is = refl }) (accumulator_stands Two) (accumulator_stands Four))
  lifts_here (instr.Spread w) = let i = instr.Spread w in goes_on i _ _ _ (list_short i s.eip len) (operand_meets turn laws.memory laws.memories len s u h w w accumulator_operand (operand.Register 2 0) (InRegister 0 0) (InRegister 2 0) _ _ (laws.cores.spread w) (record { value = _; flags = _; is = refl }) (accumulator_stands w) (second_stands w))
  lifts_here (instr.Bsf w to from) = let i = instr.Bsf w to from in goes_on i _ _ _ (list_short i s.eip len) (by_one_meets _ _ i len s _ _ (λ k e. source_meets turn laws.memory laws.memories len s u h w w (source_of_rm from) to k _ _ (laws.cores.scan false w) (record { value = _; flags = _; is = refl }) (rm_source s w from ∙ e)))
  lifts_here (instr.Bsr w to from) = let i = instr.Bsr w to from in goes_on i _ _ _ (list_short i s.eip len) (by_one_meets _ _ i len s _ _ (λ k e. source_meets turn laws.memory laws.memories len s u h w w (source_of_rm from) to k _ _ (laws.cores.scan true w) (record { value = _; flags = _; is = refl }) (rm_source s w from ∙ e)))
  lifts_here (instr.Bswap to) = let i = instr.Bswap to in goes_on i _ _ _ (list_short i s.eip len) (operand_meets turn laws.memory laws.memories len s u h Four Four (field_operand Four to) (field_operand Four to) (field machine_naming Four to) (field machine_naming Four to) _ _ laws.cores.swap (record { value = _; flags = _; is = refl }) (field_stands Four to) (field_stands Four to))
  lifts_here (instr.Movs w false) = let i = instr.Movs w false in goes_on i _ _ _ (list_short i s.eip len) (movs_does w false)
  lifts_here (instr.Movs w true) = let i = instr.Movs w true in counted_meets i _ _ _ (list_short i s.eip len) refl refl (movs_does w true)
  lifts_here (instr.Stos w false) = let i = instr.Stos w false in goes_on i _ _ _ (list_short i s.eip len) (stos_does w false)
  lifts_here (instr.Stos w true) = let i = instr.Stos w true in counted_meets i _ _ _ (list_short i s.eip len) refl refl (stos_does w true)
  lifts_here (instr.Jmp by) = let i = instr.Jmp by in goes_on i _ _ _ (list_short i s.eip len) (going_on i (JumpsBy by) (way.On (wrapped (s.eip + len + by))) refl refl tt refl)
  lifts_here (instr.JmpTo to) = let i = instr.JmpTo to in step_meets laws.memories i len turn (source_ops 4 Four (source_of_rm to)) (way.To (temp 4)) s u (list_shows_nothing turn _ u (list_short i s.eip len).plain) (by_one_meets _ _ i len s _ _ (λ k e. subst (λ (ops : List Op). TransferMeets (Some (read_transfer 4 k)) i len s (way.To (temp 4)) (performs turn ops u)) (append-nil (source_ops 4 Four (source_of_rm to))) (jump_to_meets turn laws.memory laws.memories laws.adding len s u h (source_of_rm to) k (rm_source s Four to ∙ e))))
  lifts_here (instr.CallTo to) = let i = instr.CallTo to in step_meets laws.memories i len turn (source_ops 4 Four (source_of_rm to) ++ call_ops (wrapped (s.eip + len))) (way.To (temp 4)) s u (list_shows_nothing turn _ u (list_short i s.eip len).plain) (by_option (λ o. push_of o (known (s.cpu.regs 4))) (location_of machine_naming s.cpu.regs Four to) i len s _ _ refl (λ k e. by_option (λ a. push_of (Some k) a) (known (s.cpu.regs 4)) i len s _ _ refl (λ at g. call_to_meets turn laws.memory laws.memories laws.adding len s u h (source_of_rm to) k at (rm_source s Four to ∙ e) g)))
  lifts_here (instr.Jcc c by) = let i = instr.Jcc c by in step_meets laws.memories i len turn (condition_ops c) (way.Either (temp 4) (wrapped (s.eip + len + by)) (wrapped (s.eip + len))) s u (list_shows_nothing turn _ u (list_short i s.eip len).plain) (jcc_meets turn laws.memory laws.memories laws.adding len s u h c by (laws.cores.conditions c))
  lifts_here (instr.Call by) = let i = instr.Call by in goes_on i _ _ _ (list_short i s.eip len) (by_option (push_transfer []) (known (s.cpu.regs 4)) i len s _ _ refl (λ at g. call_meets turn laws.memory laws.memories laws.adding len s u h by at g))
  lifts_here (instr.Ret drop) = let i = instr.Ret drop in step_meets laws.memories i len turn (pop_ops (4 + drop)) (way.Back (temp 4)) s u (list_shows_nothing turn _ u (list_short i s.eip len).plain) (by_option (pop_transfer []) (known (s.cpu.regs 4)) i len s _ _ refl (λ at g. ret_meets turn laws.memory laws.memories laws.adding len s u h drop at g))
  lifts_here instr.Leave = let i = instr.Leave in goes_on i _ _ _ (list_short i s.eip len) (by_option leave_transfer (known (s.cpu.regs 5)) i len s _ _ refl (λ at g. leave_meets turn laws.memory laws.memories laws.adding len s u h at g))
  lifts_here instr.Int80 = system_meets laws.memories laws.calls turn len s u h laws.steps
  lifts_here instr.Cld = let i = instr.Cld in goes_on i _ _ _ (list_short i s.eip len) (going_on i Falls (on) refl refl tt refl)
  lifts_here instr.Nop = let i = instr.Nop in goes_on i _ _ _ (list_short i s.eip len) (going_on i Falls (on) refl refl tt refl)

-- ---- at the address of the instruction
pub lifts : LawsBelow → (i : Instr) (at len : ℕ) → Lifts i at len (lift_of i at len) (way_of i at len)
lifts laws i at len = record {
  lifts = λ turn s u e h. subst (λ (a : ℕ). MoveMatches (step i len s) (shown_lifted turn (way_of i a len) (lift_of i a len) u) (lifted turn (way_of i a len) (lift_of i a len) u)) e (lifts_here laws turn len s u h i);
}
