-- MOVS and STOS, single and repeated.
use Rattle.std.proofs.Common.{◌≡◌, ℕ, ◌+◌, ◌&&◌, Bool, true, false, List, [], ◌∷◌, Some, Ok, refl, ◌∙◌, subst, lit<}
use Rattle.x86_values.specs.declared.word.Word.{Word}
use Rattle.x86_values.specs.Words.{word_of, known}
use Rattle.memory.specs.Memory.{wrapped, Load, Store, allows_all}
use Rattle.memory.specs.MemoryLaws.{MemoryLaws}
use Rattle.memory.specs.LessSpecifiedLaws.{LessSpecifiedMemoryLaws}
use Rattle.x86_types.specs.declared.width.Width.{Width}
use Rattle.x86_types.specs.Numbers.{size_of}
use Rattle.x86_meaning.specs.Registers.{with_register}
use Rattle.x86_meaning.specs.Operands.{InRegister, InMemory, SizedOperand, operand as sized, value_in}
use Rattle.x86_meaning.specs.TransferShapes.{register, accumulator}
use Rattle.x86_meaning.specs.Outcomes.{Way, Falls, Repeats, Computed, raised_by, lowered_by}
use Rattle.x86_meaning.specs.Effect.{Effect, written_to}
use Rattle.x86_meaning.specs.Step.{State, performed}
use Rattle.flag_ir.specs.declared.operation.Op.TheVariants as op
use Rattle.flag_ir.specs.declared.operation.Calc.TheVariants as calc
use Rattle.flag_ir.specs.Calculations.{sum_of, difference_of}
use Rattle.flag_ir.specs.Storage.{Storage, put_word}
use Rattle.flag_ir.specs.Operations.{performs}
use Rattle.lift_relation.specs.Matching.{StateMatches}
use Rattle.lift_values.specs.Terms.{temp, word}
use Rattle.lift_core.specs.declared.way.Way.TheVariants as way
use Rattle.lift_core.specs.declared.operand.Operand.TheVariants as operand
use Rattle.lift_core.specs.Lifting.{goes_to}
use Rattle.lift_core.specs.Pieces.{reg, to_reg}
use Rattle.lift_core.specs.Lists.{accumulator_operand, counted_ops, movs_ops, stos_ops, string_way}
use Rattle.lift_core.proofs.Addresses.{with_temps, temps_match}
use Rattle.lift_core.proofs.Meeting.{StoresMeet, LoadsMeet}
use Rattle.lift_core.proofs.Reading.{read_then}
use Rattle.lift_core.proofs.Writing.{store_term_then}
use Rattle.lift_core.proofs.Cores.{begun, begun_matches, list_ends}
use Rattle.lift_core.proofs.Raising.{AddingLaws, raised_matches, raised_then, lowered_matches, lowered_then, register_number}
use Rattle.lift_core.proofs.SourceForms.{accumulator_stands}
use Rattle.lift_core.proofs.StackForms.{ReadAndGone}

-- ecx is read and written with a repeat
abbrev pub counter : Bool → List SizedOperand
counter false = []
counter true = register 4 1 ∷ []

abbrev pub counted : Bool → State → List Word
counted false s = []
counted true s = lowered_by 1 (s.cpu.regs 1) ∷ []

abbrev pub string_goes : Bool → Way
string_goes false = Falls
string_goes true = Repeats

-- after an iteration a repeat goes to its own address
goes_again : (at next : ℕ) (u : Storage) → goes_to (way.Repeat (reg 1) (word 1) at next) u ≡ Ok at
unfolding known word_of
goes_again at next u = refl

-- what the count adds to an effect
abbrev pub with_count : Bool → Effect → State → Effect
with_count false e s = e
with_count true e s = written_to 4 (InRegister 1 0) (lowered_by 1 (s.cpu.regs 1)) e

module _ (turn : ℕ) (laws : MemoryLaws) (memories : LessSpecifiedMemoryLaws) (adding : AddingLaws) (len : ℕ) (s : State) where
  -- the count falls, and the list ends
  count_ends : (repeat : Bool) (e : Effect) (u : Storage) → e.way ≡ string_goes repeat → e.cpu.regs 1 ≡ s.cpu.regs 1 → StateMatches (performed e s) u →
      StoresMeet true (with_count repeat e s) (s.eip + len) s (string_way repeat s.eip (wrapped (s.eip + len))) (performs turn (counted_ops repeat) u)
  count_ends false e u q r h = list_ends turn s e (s.eip + len) (way.On (wrapped (s.eip + len))) u (record { state = h; goes = rw q refl; no_call = rw q tt })
  count_ends true e u q r h =
      let w = way.Repeat (reg 1) (word 1) s.eip (wrapped (s.eip + len)) in
      let e1 = written_to 4 (InRegister 1 0) (lowered_by 1 (s.cpu.regs 1)) e in
      let u1 : Storage = record u { regs = put_word 1 (difference_of (u.regs 1) (word_of 1)) u.regs } in
      let h1 : StateMatches (performed e1 s) u1 = subst (λ (x : Word). StateMatches (performed (written_to 4 (InRegister 1 0) (lowered_by 1 x) e) s) u1) r (lowered_matches adding e s u 1 1 1 h (lit< tt)) in
      lowered_then adding turn 1 1 1 u [] (λ y. StoresMeet true e1 (s.eip + len) s w y)
      (list_ends turn s e1 (s.eip + len) w u1 (record { state = h1; goes = goes_again s.eip (wrapped (s.eip + len)) u1 ∙ rw q refl; no_call = rw q tt }))

  -- one of esi and edi rises, or both in order
  module _ (u : Storage) (h : StateMatches s u) (w : Width) where
    -- ---- MOVS, where esi and edi are known
    abbrev movs_made : Bool → Word → Computed
    movs_made repeat x = record { values = x ∷ raised_by (size_of w) (s.cpu.regs 6) ∷ raised_by (size_of w) (s.cpu.regs 7) ∷ counted repeat s; flags = s.cpu.flags; way = string_goes repeat }

    -- both registers have risen
    abbrev movs_effect : Bool → ℕ → Word → Effect
    movs_effect repeat to x =
        written_to 4 (InRegister 7 0) (raised_by (size_of w) (s.cpu.regs 7)) (written_to 4 (InRegister 6 0) (raised_by (size_of w) (s.cpu.regs 6)) (written_to (size_of w) (InMemory to) x (begun (movs_made repeat x) s)))

    movs_iteration : (repeat : Bool) (from to : ℕ) → known (s.cpu.regs 6) ≡ Some from → known (s.cpu.regs 7) ≡ Some to →
        LoadsMeet (allows_all Load s.memory from (size_of w) && true) (allows_all Store s.memory to (size_of w) && true) (Ok (with_count repeat (movs_effect repeat to (value_in (sized (size_of w) (InMemory from)) s.cpu.regs s.memory)) s)) (s.eip + len) s (string_way repeat s.eip (wrapped (s.eip + len))) (performs turn (movs_ops w repeat) u)
    unfolding with_register
    movs_iteration repeat from to e6 e7 =
        let n = size_of w in
        let x = value_in (sized n (InMemory from)) s.cpu.regs s.memory in
        let go = string_way repeat s.eip (wrapped (s.eip + len)) in
        let last = with_count repeat (movs_effect repeat to x) s in
        let tail = to_reg 6 calc.Add (reg 6) (word n) ∷ to_reg 7 calc.Add (reg 7) (word n) ∷ counted_ops repeat in
        let e0 = begun (movs_made repeat x) s in
        let e1 = written_to n (InMemory to) x e0 in
        let e2 = written_to 4 (InRegister 6 0) (raised_by n (s.cpu.regs 6)) e1 in
        let e3 = movs_effect repeat to x in
        read_then turn memories s 4 w (operand.Memory (reg 6)) (InMemory from) [] _ (Ok last) (s.eip + len) go u (op.Store n (reg 7) (temp 4) ∷ tail) h (record { at = from; is = refl; number = register_number adding s u 6 from h (lit< tt) e6 })
        (λ t k1 c. store_term_then turn laws memories s w (reg 7) (temp 4) to [] e0 last (s.eip + len) go x (with_temps t u) tail (begun_matches (movs_made repeat x) s (with_temps t u) (temps_match s u t h) h.flags) (register_number adding s u 7 to h (lit< tt) e7) c
        (λ z g kept.
        let z1 : Storage = record z { regs = put_word 6 (sum_of (z.regs 6) (word_of n)) z.regs } in
        let z2 : Storage = record z1 { regs = put_word 7 (sum_of (z1.regs 7) (word_of n)) z1.regs } in
        let g1 : StateMatches (performed e2 s) z1 = raised_matches adding e1 s z 6 6 n g (lit< tt) in
        let g2 : StateMatches (performed e3 s) z2 = raised_matches adding e2 s z1 7 7 n g1 (lit< tt) in
        raised_then adding turn 6 6 n z (to_reg 7 calc.Add (reg 7) (word n) ∷ counted_ops repeat) (λ y. StoresMeet true last (s.eip + len) s go y)
        (raised_then adding turn 7 7 n z1 (counted_ops repeat) (λ y. StoresMeet true last (s.eip + len) s go y) (count_ends repeat e3 z2 refl refl g2))))

    pub movs_meets : (repeat : Bool) (from to : ℕ) → known (s.cpu.regs 6) ≡ Some from → known (s.cpu.regs 7) ≡ Some to →
        ReadAndGone turn laws memories adding len s (sized (size_of w) (InMemory from) ∷ register 4 6 ∷ register 4 7 ∷ counter repeat) (sized (size_of w) (InMemory to) ∷ register 4 6 ∷ register 4 7 ∷ counter repeat)
        (Ok (movs_made repeat (value_in (sized (size_of w) (InMemory from)) s.cpu.regs s.memory))) (string_way repeat s.eip (wrapped (s.eip + len))) (performs turn (movs_ops w repeat) u)
    movs_meets false from to e6 e7 = movs_iteration false from to e6 e7
    movs_meets true from to e6 e7 = movs_iteration true from to e6 e7

    -- ---- STOS, where edi is known
    abbrev stos_made : Bool → Word → Computed
    stos_made repeat x = record { values = x ∷ raised_by (size_of w) (s.cpu.regs 7) ∷ counted repeat s; flags = s.cpu.flags; way = string_goes repeat }

    abbrev stos_effect : Bool → ℕ → Word → Effect
    stos_effect repeat to x = written_to 4 (InRegister 7 0) (raised_by (size_of w) (s.cpu.regs 7)) (written_to (size_of w) (InMemory to) x (begun (stos_made repeat x) s))

    stos_iteration : (repeat : Bool) (to : ℕ) → known (s.cpu.regs 7) ≡ Some to →
        LoadsMeet true (allows_all Store s.memory to (size_of w) && true) (Ok (with_count repeat (stos_effect repeat to (value_in (accumulator w) s.cpu.regs s.memory)) s)) (s.eip + len) s (string_way repeat s.eip (wrapped (s.eip + len))) (performs turn (stos_ops w repeat) u)
    unfolding with_register
    stos_iteration repeat to e7 =
        let n = size_of w in
        let x = value_in (accumulator w) s.cpu.regs s.memory in
        let go = string_way repeat s.eip (wrapped (s.eip + len)) in
        let last = with_count repeat (stos_effect repeat to x) s in
        let tail = to_reg 7 calc.Add (reg 7) (word n) ∷ counted_ops repeat in
        let e0 = begun (stos_made repeat x) s in
        let e1 = written_to n (InMemory to) x e0 in
        let e2 = stos_effect repeat to x in
        read_then turn memories s 4 w accumulator_operand (InRegister 0 0) [] _ (Ok last) (s.eip + len) go u (op.Store n (reg 7) (temp 4) ∷ tail) h (accumulator_stands w u)
        (λ t k1 c. store_term_then turn laws memories s w (reg 7) (temp 4) to [] e0 last (s.eip + len) go x (with_temps t u) tail (begun_matches (stos_made repeat x) s (with_temps t u) (temps_match s u t h) h.flags) (register_number adding s u 7 to h (lit< tt) e7) c
        (λ z g kept.
        let z1 : Storage = record z { regs = put_word 7 (sum_of (z.regs 7) (word_of n)) z.regs } in
        let g1 : StateMatches (performed e2 s) z1 = raised_matches adding e1 s z 7 7 n g (lit< tt) in
        raised_then adding turn 7 7 n z (counted_ops repeat) (λ y. StoresMeet true last (s.eip + len) s go y) (count_ends repeat e2 z1 refl refl g1)))

    pub stos_meets : (repeat : Bool) (to : ℕ) → known (s.cpu.regs 7) ≡ Some to →
        ReadAndGone turn laws memories adding len s (accumulator w ∷ register 4 7 ∷ counter repeat) (sized (size_of w) (InMemory to) ∷ register 4 7 ∷ counter repeat)
        (Ok (stos_made repeat (value_in (accumulator w) s.cpu.regs s.memory))) (string_way repeat s.eip (wrapped (s.eip + len))) (performs turn (stos_ops w repeat) u)
    stos_meets false to e7 = stos_iteration false to e7
    stos_meets true to e7 = stos_iteration true to e7
