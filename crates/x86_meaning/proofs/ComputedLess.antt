-- What an instruction computes is monotone in what is specified of its operands and of the flags.
use Rattle.std.proofs.Common.{◌≡◌, ℕ, ◌+◌, ◌/◌, Bool, true, false, List, [], ◌∷◌, Option, Some, None, Ok, Err, refl}
use Rattle.x86_values.specs.declared.word.Word.{Word}
use Rattle.x86_values.specs.declared.word.Flags.{Flags}
use Rattle.x86_values.specs.declared.answered.Answered.{Answered}
use Rattle.x86_values.specs.declared.logic.Bit.TheVariants as bit
use Rattle.x86_values.specs.declared.product.Product.{Product}
use Rattle.x86_values.specs.declared.divided.Divided.{Divided}
use Rattle.x86_values.specs.declared.divided.Divided.TheVariants as divided
use Rattle.x86_values.specs.Words.{word_of, known}
use Rattle.x86_values.specs.Sizes.{IsSize}
use Rattle.x86_values.specs.WordLaws.{WordLaws}
use Rattle.x86_values.specs.LessSpecified.{FlagLessSpecified, WordLessSpecified, FlagsLessSpecified, AnsweredLessSpecified, ProductLessSpecified, DividedLessSpecified}
use Rattle.x86_values.specs.LessSpecifiedLaws.{LessSpecifiedLaws}
use Rattle.x86_values.specs.SumLaws.{SumLaws}
use Rattle.x86_values.specs.LogicLaws.{LogicLaws}
use Rattle.x86_values.specs.ShiftLaws.{ShiftLaws}
use Rattle.x86_values.specs.DoubleShiftLaws.{DoubleShiftLaws}
use Rattle.x86_values.specs.ProductLaws.{ProductLaws}
use Rattle.x86_values.specs.DivisionLaws.{DivisionLaws}
use Rattle.x86_values.specs.ScanLaws.{ScanLaws}
use Rattle.x86_values.specs.ExtensionLaws.{ExtensionLaws}
use Rattle.x86_values.specs.ConditionLaws.{ConditionLaws}
use Rattle.x86_types.specs.declared.instr.Instr.{Instr}
use Rattle.x86_types.specs.declared.instr.Instr.TheVariants as instr
use Rattle.x86_types.specs.declared.operation.AluOp.{AluOp}
use Rattle.x86_types.specs.declared.operation.AluOp.TheVariants as alu
use Rattle.x86_types.specs.declared.width.Width.{Width}
use Rattle.x86_types.specs.declared.width.Width.TheVariants.{One, Two, Four}
use Rattle.x86_types.specs.Numbers.{size_of}
use Rattle.x86_meaning.specs.declared.stop.Stop.TheVariants.{MemoryFault, DivideFault, Unspecified}
use Rattle.x86_meaning.specs.Outcomes.{Computed, Computation, value_and_flags, flags_alone, values_alone, goes_to, on_one, on_two, on_three, raised_by, lowered_by, alu_computed, with_carry, both_halves, lower_half, quotient_and_remainder, chosen, picked, jump_computed, movs_computed, stos_computed}
use Rattle.x86_meaning.specs.Computing.{compute}
use Rattle.x86_meaning.proofs.SameTransfers.{SameWhere, known_same}

-- the laws of values, all together
pub record ValueLaws : Type 0 where
  pub words : WordLaws
  pub less : LessSpecifiedLaws
  pub sums : SumLaws
  pub logic : LogicLaws
  pub shifts : ShiftLaws
  pub double_shifts : DoubleShiftLaws
  pub products : ProductLaws
  pub divisions : DivisionLaws
  pub scans : ScanLaws
  pub extensions : ExtensionLaws
  pub conditions : ConditionLaws

abbrev pub WordsLessSpecified : List Word → List Word → Type 0
WordsLessSpecified [] us = us ≡ []
WordsLessSpecified (x ∷ xs) [] = ⊥
WordsLessSpecified (x ∷ xs) (u ∷ us) = WordLessSpecified x u × WordsLessSpecified xs us

pub record ComputedLess (c d : Computed) : Type 0 where
  pub values : WordsLessSpecified c.values d.values
  pub flags : FlagsLessSpecified c.flags d.flags
  pub way : c.way ≡ d.way

abbrev pub OutcomeLess : Computation → Computation → Type 0
OutcomeLess (Ok c) (Ok d) = ComputedLess c d
OutcomeLess (Ok c) (Err x) = ⊥
OutcomeLess (Err Unspecified) r = Unit {0}
OutcomeLess (Err MemoryFault) r = r ≡ Err MemoryFault
OutcomeLess (Err DivideFault) r = r ≡ Err DivideFault

-- ---- the shapes of outcomes
value_less : (a b : Answered) → AnsweredLessSpecified a b → OutcomeLess (value_and_flags a) (value_and_flags b)
value_less a b h = record { values = (h.value, refl); flags = h.flags; way = refl }

flags_less : (a b : Answered) → AnsweredLessSpecified a b → OutcomeLess (flags_alone a) (flags_alone b)
flags_less a b h = record { values = refl; flags = h.flags; way = refl }

alone_less : (f g : Flags) (xs us : List Word) → FlagsLessSpecified f g → WordsLessSpecified xs us → OutcomeLess (values_alone xs f) (values_alone us g)
alone_less f g xs us h k = record { values = k; flags = h; way = refl }

target_less : (xs us : List Word) (o u : Option ℕ) (f g : Flags) → WordsLessSpecified xs us → SameWhere o u → FlagsLessSpecified f g → OutcomeLess (goes_to xs o f) (goes_to us u g)
target_less xs us None u f g h k l = tt
target_less xs us (Some a) u f g h k l = rw k (record { values = h; flags = l; way = refl })

halves_less : (p q : Product) → ProductLessSpecified p q → OutcomeLess (both_halves p) (both_halves q)
halves_less p q h = record { values = (h.low, (h.high, refl)); flags = h.flags; way = refl }

lower_less : (p q : Product) → ProductLessSpecified p q → OutcomeLess (lower_half p) (lower_half q)
lower_less p q h = record { values = (h.low, refl); flags = h.flags; way = refl }

quotient_less : (d e : Divided) → DividedLessSpecified d e → OutcomeLess (quotient_and_remainder d) (quotient_and_remainder e)
quotient_less (divided.Got q r) (divided.Got s t) h = record { values = (h.0, (h.1, refl)); flags = record { cf = tt; pf = tt; zf = tt; sf = tt; of = tt }; way = refl }
quotient_less (divided.Got q r) divided.Fault h = absurd h
quotient_less (divided.Got q r) divided.Unspecified h = absurd h
quotient_less divided.Fault (divided.Got s t) h = absurd h
quotient_less divided.Fault divided.Fault h = refl
quotient_less divided.Fault divided.Unspecified h = absurd h
quotient_less divided.Unspecified e h = tt

jump_less : (o u : Option Bool) (by : ℕ) (f g : Flags) → FlagLessSpecified o u → FlagsLessSpecified f g → OutcomeLess (jump_computed o by f) (jump_computed u by g)
jump_less None u by f g h k = tt
jump_less (Some true) u by f g h k = rw h (record { values = refl; flags = k; way = refl })
jump_less (Some false) u by f g h k = rw h (record { values = refl; flags = k; way = refl })

-- ---- by how many operands
one_less : (f g : Word → Computation) → ((x u : Word) → WordLessSpecified x u → OutcomeLess (f x) (g u)) → (xs us : List Word) → WordsLessSpecified xs us → OutcomeLess (on_one f xs) (on_one g us)
one_less f g h [] us k = tt
one_less f g h (x ∷ []) [] k = absurd k
one_less f g h (x ∷ []) (u ∷ []) k = h x u k.0
one_less f g h (x ∷ []) (u ∷ v ∷ us) k = absurd cc
one_less f g h (x ∷ y ∷ xs) us k = tt

two_less : (f g : Word → Word → Computation) → ((x u y v : Word) → WordLessSpecified x u → WordLessSpecified y v → OutcomeLess (f x y) (g u v)) → (xs us : List Word) → WordsLessSpecified xs us → OutcomeLess (on_two f xs) (on_two g us)
two_less f g h [] us k = tt
two_less f g h (x ∷ []) us k = tt
two_less f g h (x ∷ y ∷ []) [] k = absurd k
two_less f g h (x ∷ y ∷ []) (u ∷ []) k = absurd k.1
two_less f g h (x ∷ y ∷ []) (u ∷ v ∷ []) k = h x u y v k.0 k.1.0
two_less f g h (x ∷ y ∷ []) (u ∷ v ∷ w ∷ us) k = absurd (let e : w ∷ us ≡ [] = k.1.1 in cc)
two_less f g h (x ∷ y ∷ z ∷ xs) us k = tt

three_less : (f g : Word → Word → Word → Computation) → ((x u y v z w : Word) → WordLessSpecified x u → WordLessSpecified y v → WordLessSpecified z w → OutcomeLess (f x y z) (g u v w)) → (xs us : List Word) → WordsLessSpecified xs us → OutcomeLess (on_three f xs) (on_three g us)
three_less f g h [] us k = tt
three_less f g h (x ∷ []) us k = tt
three_less f g h (x ∷ y ∷ []) us k = tt
three_less f g h (x ∷ y ∷ z ∷ []) [] k = absurd k
three_less f g h (x ∷ y ∷ z ∷ []) (u ∷ []) k = absurd k.1
three_less f g h (x ∷ y ∷ z ∷ []) (u ∷ v ∷ []) k = absurd k.1.1
three_less f g h (x ∷ y ∷ z ∷ []) (u ∷ v ∷ w ∷ []) k = h x u y v z w k.0 k.1.0 k.1.1.0
three_less f g h (x ∷ y ∷ z ∷ []) (u ∷ v ∷ w ∷ t ∷ us) k = absurd (let e : t ∷ us ≡ [] = k.1.1.1 in cc)
three_less f g h (x ∷ y ∷ z ∷ t ∷ xs) us k = tt

is_size : (w : Width) → IsSize (size_of w)
is_size One = refl
is_size Two = refl
is_size Four = refl

module _ (laws : ValueLaws) where
  number_itself : (n : ℕ) → WordLessSpecified (word_of n) (word_of n)
  number_itself n = laws.less.itself (word_of n) (laws.words.word_of_bytes n)

  raised_less : (n : ℕ) (x u : Word) → WordLessSpecified x u → WordLessSpecified (raised_by n x) (raised_by n u)
  raised_less n x u h = (laws.sums.add_less 4 x (word_of n) u (word_of n) (Some false) (Some false) refl h (number_itself n) refl).value

  lowered_less : (n : ℕ) (x u : Word) → WordLessSpecified x u → WordLessSpecified (lowered_by n x) (lowered_by n u)
  lowered_less n x u h = (laws.sums.sub_less 4 x (word_of n) u (word_of n) (Some false) (Some false) refl h (number_itself n) refl).value

  carry_less : (c d : Option Bool) (a b : Answered) → FlagLessSpecified c d → AnsweredLessSpecified a b → AnsweredLessSpecified (with_carry c a) (with_carry d b)
  carry_less c d a b h k = record { value = k.value; flags = record { cf = h; pf = k.flags.pf; zf = k.flags.zf; sf = k.flags.sf; of = k.flags.of } }

  chosen_less : (o p : Option Bool) (x u y v : Word) → FlagLessSpecified o p → WordLessSpecified x u → WordLessSpecified y v → WordLessSpecified (chosen o x y) (chosen p u v)
  chosen_less None p x u y v h k l = record { b0 = tt; b1 = tt; b2 = tt; b3 = tt }
  chosen_less (Some true) p x u y v h k l = rw h l
  chosen_less (Some false) p x u y v h k l = rw h k

  picked_less : (size : ℕ) (o p : Option Bool) (x u y v : Word) → FlagLessSpecified o p → WordLessSpecified x u → WordLessSpecified y v → WordLessSpecified (picked size o x y) (picked size p u v)
  picked_less size o p x u y v h k l = laws.less.lowest size (chosen o x y) (chosen p u v) (chosen_less o p x u y v h k l)

  module _ (f g : Flags) (h : FlagsLessSpecified f g) where
    alu_less : (op : AluOp) (w : Width) (x u y v : Word) → WordLessSpecified x u → WordLessSpecified y v → OutcomeLess (alu_computed op (size_of w) f x y) (alu_computed op (size_of w) g u v)
    alu_less alu.Add w x u y v k l = value_less _ _ (laws.sums.add_less (size_of w) x y u v (Some false) (Some false) (is_size w) k l refl)
    alu_less alu.Or w x u y v k l = value_less _ _ (laws.logic.bitwise_less bit.Or (size_of w) x y u v (is_size w) k l)
    alu_less alu.Adc w x u y v k l = value_less _ _ (laws.sums.add_less (size_of w) x y u v f.cf g.cf (is_size w) k l h.cf)
    alu_less alu.Sbb w x u y v k l = value_less _ _ (laws.sums.sub_less (size_of w) x y u v f.cf g.cf (is_size w) k l h.cf)
    alu_less alu.And w x u y v k l = value_less _ _ (laws.logic.bitwise_less bit.And (size_of w) x y u v (is_size w) k l)
    alu_less alu.Sub w x u y v k l = value_less _ _ (laws.sums.sub_less (size_of w) x y u v (Some false) (Some false) (is_size w) k l refl)
    alu_less alu.Xor w x u y v k l = value_less _ _ (laws.logic.bitwise_less bit.Xor (size_of w) x y u v (is_size w) k l)
    alu_less alu.Cmp w x u y v k l = flags_less _ _ (laws.sums.sub_less (size_of w) x y u v (Some false) (Some false) (is_size w) k l refl)

    alone : (x u : Word) → WordLessSpecified x u → OutcomeLess (values_alone (x ∷ []) f) (values_alone (u ∷ []) g)
    alone x u k = alone_less f g (x ∷ []) (u ∷ []) h (k, refl)

    two_alone : (x u y v : Word) → WordLessSpecified x u → WordLessSpecified y v → OutcomeLess (values_alone (x ∷ y ∷ []) f) (values_alone (u ∷ v ∷ []) g)
    two_alone x u y v k l = alone_less f g (x ∷ y ∷ []) (u ∷ v ∷ []) h (k, (l, refl))

    movs_less : (size : ℕ) (xs us : List Word) → WordsLessSpecified xs us → OutcomeLess (movs_computed size f xs) (movs_computed size g us)
    movs_less size [] us k = rw k (alone_less f g [] [] h refl)
    movs_less size (x ∷ []) [] k = absurd k
    movs_less size (x ∷ []) (u ∷ us) k = rw k.1 (alone_less f g [] [] h refl)
    movs_less size (x ∷ y ∷ []) [] k = absurd k
    movs_less size (x ∷ y ∷ []) (u ∷ []) k = absurd k.1
    movs_less size (x ∷ y ∷ []) (u ∷ v ∷ us) k = rw k.1.1 (alone_less f g [] [] h refl)
    movs_less size (x ∷ y ∷ z ∷ []) [] k = absurd k
    movs_less size (x ∷ y ∷ z ∷ []) (u ∷ []) k = absurd k.1
    movs_less size (x ∷ y ∷ z ∷ []) (u ∷ v ∷ []) k = absurd k.1.1
    movs_less size (x ∷ y ∷ z ∷ []) (u ∷ v ∷ w ∷ us) k = rw k.1.1.1 (alone_less f g _ _ h (k.0, (raised_less size y v k.1.0, (raised_less size z w k.1.1.0, refl))))
    movs_less size (x ∷ y ∷ z ∷ n ∷ []) [] k = absurd k
    movs_less size (x ∷ y ∷ z ∷ n ∷ []) (u ∷ []) k = absurd k.1
    movs_less size (x ∷ y ∷ z ∷ n ∷ []) (u ∷ v ∷ []) k = absurd k.1.1
    movs_less size (x ∷ y ∷ z ∷ n ∷ []) (u ∷ v ∷ w ∷ []) k = absurd k.1.1.1
    movs_less size (x ∷ y ∷ z ∷ n ∷ []) (u ∷ v ∷ w ∷ m ∷ us) k =
        rw k.1.1.1.1 (record { values = (k.0, (raised_less size y v k.1.0, (raised_less size z w k.1.1.0, (lowered_less 1 n m k.1.1.1.0, refl)))); flags = h; way = refl })
    movs_less size (x ∷ y ∷ z ∷ n ∷ o ∷ xs) [] k = absurd k
    movs_less size (x ∷ y ∷ z ∷ n ∷ o ∷ xs) (u ∷ []) k = absurd k.1
    movs_less size (x ∷ y ∷ z ∷ n ∷ o ∷ xs) (u ∷ v ∷ []) k = absurd k.1.1
    movs_less size (x ∷ y ∷ z ∷ n ∷ o ∷ xs) (u ∷ v ∷ w ∷ []) k = absurd k.1.1.1
    movs_less size (x ∷ y ∷ z ∷ n ∷ o ∷ xs) (u ∷ v ∷ w ∷ m ∷ []) k = absurd k.1.1.1.1
    movs_less size (x ∷ y ∷ z ∷ n ∷ o ∷ xs) (u ∷ v ∷ w ∷ m ∷ p ∷ us) k = alone_less f g [] [] h refl

    stos_less : (size : ℕ) (xs us : List Word) → WordsLessSpecified xs us → OutcomeLess (stos_computed size f xs) (stos_computed size g us)
    stos_less size [] us k = rw k (alone_less f g [] [] h refl)
    stos_less size (x ∷ []) [] k = absurd k
    stos_less size (x ∷ []) (u ∷ us) k = rw k.1 (alone_less f g [] [] h refl)
    stos_less size (x ∷ y ∷ []) [] k = absurd k
    stos_less size (x ∷ y ∷ []) (u ∷ []) k = absurd k.1
    stos_less size (x ∷ y ∷ []) (u ∷ v ∷ us) k = rw k.1.1 (alone_less f g _ _ h (k.0, (raised_less size y v k.1.0, refl)))
    stos_less size (x ∷ y ∷ z ∷ []) [] k = absurd k
    stos_less size (x ∷ y ∷ z ∷ []) (u ∷ []) k = absurd k.1
    stos_less size (x ∷ y ∷ z ∷ []) (u ∷ v ∷ []) k = absurd k.1.1
    stos_less size (x ∷ y ∷ z ∷ []) (u ∷ v ∷ w ∷ us) k =
        rw k.1.1.1 (record { values = (k.0, (raised_less size y v k.1.0, (lowered_less 1 z w k.1.1.0, refl))); flags = h; way = refl })
    stos_less size (x ∷ y ∷ z ∷ n ∷ xs) [] k = absurd k
    stos_less size (x ∷ y ∷ z ∷ n ∷ xs) (u ∷ []) k = absurd k.1
    stos_less size (x ∷ y ∷ z ∷ n ∷ xs) (u ∷ v ∷ []) k = absurd k.1.1
    stos_less size (x ∷ y ∷ z ∷ n ∷ xs) (u ∷ v ∷ w ∷ []) k = absurd k.1.1.1
    stos_less size (x ∷ y ∷ z ∷ n ∷ xs) (u ∷ v ∷ w ∷ m ∷ us) k = alone_less f g [] [] h refl

    known_less : (x u : Word) → WordLessSpecified x u → SameWhere (known x) (known u)
    known_less = known_same laws.less laws.words

    pub compute_less : (i : Instr) (n : ℕ) (xs us : List Word) → WordsLessSpecified xs us → OutcomeLess (compute i n f xs) (compute i n g us)
    unfolding compute
    compute_less (instr.Alu op w to from) n = two_less _ _ (λ x u y v k l. alu_less op w x u y v k l)
    compute_less (instr.Test w to from) n = two_less _ _ (λ x u y v k l. flags_less _ _ (laws.logic.bitwise_less bit.And (size_of w) x y u v (is_size w) k l))
    compute_less (instr.Mov w to from) n = one_less _ _ (λ x u k. alone x u k)
    compute_less (instr.Lea w to at) n = one_less _ _ (λ x u k. alone x u k)
    compute_less (instr.Inc w to) n = one_less _ _ (λ x u k. value_less _ _ (carry_less f.cf g.cf _ _ h.cf (laws.sums.add_less (size_of w) x (word_of 1) u (word_of 1) (Some false) (Some false) (is_size w) k (number_itself 1) refl)))
    compute_less (instr.Dec w to) n = one_less _ _ (λ x u k. value_less _ _ (carry_less f.cf g.cf _ _ h.cf (laws.sums.sub_less (size_of w) x (word_of 1) u (word_of 1) (Some false) (Some false) (is_size w) k (number_itself 1) refl)))
    compute_less (instr.Not w to) n = one_less _ _ (λ x u k. alone _ _ (laws.logic.bitwise_less bit.Xor (size_of w) x (word_of 0xFFFFFFFF) u (word_of 0xFFFFFFFF) (is_size w) k (number_itself 0xFFFFFFFF)).value)
    compute_less (instr.Neg w to) n = one_less _ _ (λ x u k. value_less _ _ (laws.sums.sub_less (size_of w) (word_of 0) x (word_of 0) u (Some false) (Some false) (is_size w) (number_itself 0) k refl))
    compute_less (instr.Mul w from) n = two_less _ _ (λ x u y v k l. halves_less _ _ (laws.products.multiply_less false (size_of w) x y u v (is_size w) k l))
    compute_less (instr.ImulWide w from) n = two_less _ _ (λ x u y v k l. halves_less _ _ (laws.products.multiply_less true (size_of w) x y u v (is_size w) k l))
    compute_less (instr.Div w from) n = three_less _ _ (λ x u y v z t k l j. quotient_less _ _ (laws.divisions.divide_less false (size_of w) x y z u v t (is_size w) k l j))
    compute_less (instr.Idiv w from) n = three_less _ _ (λ x u y v z t k l j. quotient_less _ _ (laws.divisions.divide_less true (size_of w) x y z u v t (is_size w) k l j))
    compute_less (instr.Imul w to from) n = two_less _ _ (λ x u y v k l. lower_less _ _ (laws.products.multiply_less true (size_of w) x y u v (is_size w) k l))
    compute_less (instr.ImulBy w to from by) n = two_less _ _ (λ x u y v k l. lower_less _ _ (laws.products.multiply_less true (size_of w) x y u v (is_size w) k l))
    compute_less (instr.Shift op w to c) n = two_less _ _ (λ x u y v k l. value_less _ _ (laws.shifts.shift_less op (size_of w) x u y.b0 v.b0 f g (is_size w) k l.b0 h))
    compute_less (instr.Shld to from c) n = three_less _ _ (λ x u y v z t k l j. value_less _ _ (laws.double_shifts.double_shift_less false x y u v z.b0 t.b0 f g k l j.b0 h))
    compute_less (instr.Shrd to from c) n = three_less _ _ (λ x u y v z t k l j. value_less _ _ (laws.double_shifts.double_shift_less true x y u v z.b0 t.b0 f g k l j.b0 h))
    compute_less (instr.Push from) n = two_less _ _ (λ x u y v k l. two_alone _ _ _ _ l (lowered_less 4 x u k))
    compute_less (instr.Pop to) n = two_less _ _ (λ x u y v k l. two_alone _ _ _ _ (raised_less 4 x u k) l)
    compute_less (instr.Xchg w to from) n = two_less _ _ (λ x u y v k l. two_alone _ _ _ _ l k)
    compute_less (instr.Movzx wide w to from) n = one_less _ _ (λ x u k. alone x u k)
    compute_less (instr.Movsx wide w to from) n = one_less _ _ (λ x u k. alone _ _ (laws.less.lowest (size_of wide) _ _ (laws.extensions.sign_extended_less (size_of w) x u k)))
    compute_less (instr.Cmov c w to from) n = two_less _ _ (λ x u y v k l. alone _ _ (picked_less (size_of w) _ _ x u y v (laws.conditions.condition_less c f g h) k l))
    compute_less (instr.Setcc c to) n = λ xs us k. alone _ _ (picked_less 1 _ _ (word_of 0) (word_of 0) (word_of 1) (word_of 1) (laws.conditions.condition_less c f g h) (number_itself 0) (number_itself 1))
    compute_less (instr.Extend w) n = one_less _ _ (λ x u k. alone _ _ (laws.less.lowest (size_of w) _ _ (laws.extensions.sign_extended_less (size_of w / 2) x u k)))
    compute_less (instr.Spread w) n = one_less _ _ (λ x u k. alone _ _ (laws.extensions.sign_word_less (size_of w) x u k))
    compute_less (instr.Bsf w to from) n = one_less _ _ (λ x u k. value_less _ _ (laws.scans.scan_less false (size_of w) x u (is_size w) k))
    compute_less (instr.Bsr w to from) n = one_less _ _ (λ x u k. value_less _ _ (laws.scans.scan_less true (size_of w) x u (is_size w) k))
    compute_less (instr.Bswap to) n = one_less _ _ (λ x u k. alone _ _ (laws.extensions.bytes_swapped_less x u k))
    compute_less (instr.Movs w repeat) n = movs_less (size_of w)
    compute_less (instr.Stos w repeat) n = stos_less (size_of w)
    compute_less (instr.Jmp by) n = λ xs us k. record { values = refl; flags = h; way = refl }
    compute_less (instr.JmpTo to) n = one_less _ _ (λ x u k. target_less [] [] _ _ f g refl (known_less x u k) h)
    compute_less (instr.CallTo to) n = two_less _ _ (λ x u y v k l. target_less _ _ _ _ f g (number_itself n, (lowered_less 4 x u k, refl)) (known_less y v l) h)
    compute_less (instr.Jcc c by) n = λ xs us k. jump_less _ _ by f g (laws.conditions.condition_less c f g h) h
    compute_less (instr.Call by) n = one_less _ _ (λ x u k. record { values = (number_itself n, (lowered_less 4 x u k, refl)); flags = h; way = refl })
    compute_less (instr.Ret drop) n = two_less _ _ (λ x u y v k l. target_less _ _ _ _ f g (raised_less (4 + drop) x u k, refl) (known_less y v l) h)
    compute_less instr.Leave n = two_less _ _ (λ x u y v k l. two_alone _ _ _ _ (raised_less 4 x u k) l)
    compute_less instr.Int80 n = λ xs us k. record { values = refl; flags = h; way = refl }
    compute_less instr.Cld n = λ xs us k. record { values = refl; flags = h; way = refl }
    compute_less instr.Nop n = λ xs us k. record { values = refl; flags = h; way = refl }
