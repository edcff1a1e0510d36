-- Calculations, variables and terms are monotone in what is specified.
use Rattle.std.proofs.Common.{◌≡◌, ℕ, zero, suc, ◌+◌, ◌*◌, ◌/◌, ◌%◌, ◌==◌, Bool, true, false, cond, leb, ltb, List, [], ◌∷◌, take, slice_get, Option, Some, None, refl, subst, arith}
use Rattle.std.proofs.lemmas.Bool.{cond_both}
use Rattle.x86_values.specs.declared.byte.Byte.{Byte}
use Rattle.x86_values.specs.declared.byte.Byte.TheVariants.{Known}
use Rattle.x86_values.specs.declared.word.Word.{Word}
use Rattle.x86_values.specs.declared.logic.Bit.TheVariants as bit
use Rattle.x86_values.specs.declared.divided.Divided.{Divided}
use Rattle.x86_values.specs.declared.divided.Divided.TheVariants as divided
use Rattle.x86_values.specs.Words.{word_of, known, word_list, padded}
use Rattle.x86_values.specs.Sizes.{cut, no_word, number, full, half, is_negative}
use Rattle.x86_values.specs.Results.{no_flags, differ}
use Rattle.x86_values.specs.Sums.{raised}
use Rattle.x86_values.specs.Divisions.{unsigned_quotient, with_sign, too_great, signed_quotient, quotient, quotient_of, divide}
use Rattle.x86_values.specs.WordLaws.{WordLaws}
use Rattle.x86_values.specs.LessSpecified.{ByteLessSpecified, WordLessSpecified, FlagsLessSpecified, BytesLessSpecified, DividedLessSpecified}
use Rattle.x86_values.specs.LessSpecifiedLaws.{LessSpecifiedLaws}
use Rattle.x86_values.specs.SumLaws.{SumLaws}
use Rattle.x86_values.specs.LogicLaws.{LogicLaws}
use Rattle.x86_values.specs.ShiftLaws.{ShiftLaws}
use Rattle.x86_values.specs.ProductLaws.{ProductLaws}
use Rattle.x86_types.specs.declared.operation.ShiftOp.{ShiftOp}
use Rattle.x86_types.specs.declared.operation.ShiftOp.TheVariants as shiftop
use Rattle.flag_ir.specs.declared.variable.Var.{Var}
use Rattle.flag_ir.specs.declared.variable.Var.TheVariants as var
use Rattle.flag_ir.specs.declared.variable.Term.{Term}
use Rattle.flag_ir.specs.declared.variable.Term.TheVariants as term
use Rattle.flag_ir.specs.declared.operation.Calc.{Calc}
use Rattle.flag_ir.specs.declared.operation.Calc.TheVariants as calc
use Rattle.flag_ir.specs.declared.procedure.LocalSlot.{LocalSlot}
use Rattle.flag_ir.specs.declared.procedure.Proc.{Proc}
use Rattle.flag_ir.specs.Calculations.{sum_of, difference_of, and_of, or_of, xor_of, product_of, upper_product_of, shifted_of, compared, equal_of, below_of, less_of, calculate}
use Rattle.flag_ir.specs.Storage.{Frame, Storage, put_word, cut_to, with_local, local_in, put_var, var_in, term_in}
use Rattle.flag_ir.specs.Operations.{picked}
use Rattle.flag_ir.specs.LessSpecified.{FramesLessSpecified, WordsLessSpecified, StorageLessSpecified}

-- the laws of values, all together
pub record ValueLaws : Type 0 where
  pub words : WordLaws
  pub less : LessSpecifiedLaws
  pub sums : SumLaws
  pub logic : LogicLaws
  pub shifts : ShiftLaws
  pub products : ProductLaws

-- ---- bytes and words
zero_less : ByteLessSpecified (Known 0) (Known 0)
zero_less = (refl, omega arith)

pub bytes_taken : (n : ℕ) (bs cs : List Byte) → BytesLessSpecified bs cs → BytesLessSpecified (take n bs) (take n cs)
bytes_taken zero bs cs h = refl
bytes_taken (suc n) [] cs h = rw h refl
bytes_taken (suc n) (b ∷ bs) [] h = absurd h
bytes_taken (suc n) (b ∷ bs) (c ∷ cs) h = (h.0, bytes_taken n bs cs h.1)

pub listed : (x u : Word) → WordLessSpecified x u → BytesLessSpecified (word_list x) (word_list u)
listed x u h = (h.b0, (h.b1, (h.b2, (h.b3, refl))))

pub padded_less : (bs cs : List Byte) → BytesLessSpecified bs cs → WordLessSpecified (padded bs) (padded cs)
padded_less [] cs h = rw h (record { b0 = zero_less; b1 = zero_less; b2 = zero_less; b3 = zero_less })
padded_less (a ∷ []) [] h = absurd h
padded_less (a ∷ []) (e ∷ cs) h = rw h.1 (record { b0 = h.0; b1 = zero_less; b2 = zero_less; b3 = zero_less })
padded_less (a ∷ b ∷ []) [] h = absurd h
padded_less (a ∷ b ∷ []) (e ∷ []) h = absurd h.1
padded_less (a ∷ b ∷ []) (e ∷ f ∷ cs) h = rw h.1.1 (record { b0 = h.0; b1 = h.1.0; b2 = zero_less; b3 = zero_less })
padded_less (a ∷ b ∷ c ∷ []) [] h = absurd h
padded_less (a ∷ b ∷ c ∷ []) (e ∷ []) h = absurd h.1
padded_less (a ∷ b ∷ c ∷ []) (e ∷ f ∷ []) h = absurd h.1.1
padded_less (a ∷ b ∷ c ∷ []) (e ∷ f ∷ g ∷ cs) h = rw h.1.1.1 (record { b0 = h.0; b1 = h.1.0; b2 = h.1.1.0; b3 = zero_less })
padded_less (a ∷ b ∷ c ∷ d ∷ bs) [] h = absurd h
padded_less (a ∷ b ∷ c ∷ d ∷ bs) (e ∷ []) h = absurd h.1
padded_less (a ∷ b ∷ c ∷ d ∷ bs) (e ∷ f ∷ []) h = absurd h.1.1
padded_less (a ∷ b ∷ c ∷ d ∷ bs) (e ∷ f ∷ g ∷ []) h = absurd h.1.1.1
padded_less (a ∷ b ∷ c ∷ d ∷ bs) (e ∷ f ∷ g ∷ i ∷ cs) h = record { b0 = h.0; b1 = h.1.0; b2 = h.1.1.0; b3 = h.1.1.1.0 }

pub nothing_less : (y : Word) → WordLessSpecified no_word y
nothing_less y = record { b0 = tt; b1 = tt; b2 = tt; b3 = tt }

pub either_less : (t : Bool) (x y u v : Word) → WordLessSpecified x u → WordLessSpecified y v → WordLessSpecified (cond t x y) (cond t u v)
either_less true x y u v h k = h
either_less false x y u v h k = k

pub byte_either : (t : Bool) (x y u v : Byte) → ByteLessSpecified x u → ByteLessSpecified y v → ByteLessSpecified (cond t x y) (cond t u v)
byte_either true x y u v h k = h
byte_either false x y u v h k = k

-- what is known on the left is the same on the right
abbrev pub SameWhere : {A : Type 0} → Option A → Option A → Type 0
SameWhere None o = Unit {0}
SameWhere (Some a) o = o ≡ Some a

same_where : (o u : Option ℕ) → ((a : ℕ) → o ≡ Some a → u ≡ Some a) → SameWhere o u
same_where None u h = tt
same_where (Some a) u h = h a refl

module _ (laws : ValueLaws) where
  pub known_less : (x y : Word) → WordLessSpecified x y → SameWhere (known x) (known y)
  known_less x y h = same_where (known x) (known y) (λ a e. laws.less.same_word x y a h e)

  pub number_less : (size : ℕ) (x y : Word) → WordLessSpecified x y → SameWhere (number size x) (number size y)
  unfolding number
  number_less size x y h = known_less (cut size x) (cut size y) (laws.less.lowest size x y h)

  pub number_itself : (n : ℕ) → WordLessSpecified (word_of n) (word_of n)
  number_itself n = laws.less.itself (word_of n) (laws.words.word_of_bytes n)

  -- ---- calculations
  compared_less : (test : ℕ → ℕ → Bool) (a b c d : Option ℕ) → SameWhere a c → SameWhere b d → WordLessSpecified (compared test a b) (compared test c d)
  compared_less test None b c d h k = nothing_less _
  compared_less test (Some a) None c d h k = nothing_less _
  compared_less test (Some a) (Some b) c d h k = rw (h, k) (number_itself _)

  no_flags_less : FlagsLessSpecified no_flags no_flags
  no_flags_less = record { cf = tt; pf = tt; zf = tt; sf = tt; of = tt }

  shifted_less : (kind : ShiftOp) (x y u v : Word) → WordLessSpecified x u → WordLessSpecified y v → WordLessSpecified (shifted_of kind x y) (shifted_of kind u v)
  unfolding shifted_of
  shifted_less kind x y u v h k = (laws.shifts.shift_less kind 4 x u y.b0 v.b0 no_flags no_flags refl h k.b0 no_flags_less).value

  pub sum_less : (x y u v : Word) → WordLessSpecified x u → WordLessSpecified y v → WordLessSpecified (sum_of x y) (sum_of u v)
  unfolding sum_of
  sum_less x y u v h k = (laws.sums.add_less 4 x y u v (Some false) (Some false) refl h k refl).value

  pub calculate_less : (c : Calc) (x y u v : Word) → WordLessSpecified x u → WordLessSpecified y v → WordLessSpecified (calculate c x y) (calculate c u v)
  unfolding difference_of and_of or_of xor_of product_of upper_product_of equal_of below_of less_of
  calculate_less calc.Add x y u v h k = sum_less x y u v h k
  calculate_less calc.Sub x y u v h k = (laws.sums.sub_less 4 x y u v (Some false) (Some false) refl h k refl).value
  calculate_less calc.And x y u v h k = (laws.logic.bitwise_less bit.And 4 x y u v refl h k).value
  calculate_less calc.Or x y u v h k = (laws.logic.bitwise_less bit.Or 4 x y u v refl h k).value
  calculate_less calc.Xor x y u v h k = (laws.logic.bitwise_less bit.Xor 4 x y u v refl h k).value
  calculate_less calc.Mul x y u v h k = (laws.products.multiply_less false 4 x y u v refl h k).low
  calculate_less calc.Mulhu x y u v h k = (laws.products.multiply_less false 4 x y u v refl h k).high
  calculate_less calc.Mulhs x y u v h k = (laws.products.multiply_less true 4 x y u v refl h k).high
  calculate_less calc.Shl x y u v h k = shifted_less shiftop.Shl x y u v h k
  calculate_less calc.Shr x y u v h k = shifted_less shiftop.Shr x y u v h k
  calculate_less calc.Sar x y u v h k = shifted_less shiftop.Sar x y u v h k
  calculate_less calc.Eq x y u v h k = compared_less (λ a b. a == b) (known x) (known y) (known u) (known v) (known_less x u h) (known_less y v k)
  calculate_less calc.Ltu x y u v h k = compared_less ltb (known x) (known y) (known u) (known v) (known_less x u h) (known_less y v k)
  calculate_less calc.Lts x y u v h k = compared_less (λ a b. ltb (raised 4 a) (raised 4 b)) (known x) (known y) (known u) (known v) (known_less x u h) (known_less y v k)

  pub picked_less : (o p : Option ℕ) (x y u v : Word) → SameWhere o p → WordLessSpecified x u → WordLessSpecified y v → WordLessSpecified (picked o x y) (picked p u v)
  picked_less None p x y u v e h k = nothing_less _
  picked_less (Some n) p x y u v e h k = rw e (either_less (n == 0) y x v u k h)

  -- ---- divisions, of any size
  unsigned_itself : (size n d : ℕ) → DividedLessSpecified (unsigned_quotient size n d) (unsigned_quotient size n d)
  unsigned_itself size n d = cond_both (leb (full size) (n / d)) divided.Fault _ (λ (x : Divided). DividedLessSpecified x x) (λ h. tt) (λ h. (number_itself (n / d), number_itself (n % d)))

  signed_itself : (size : ℕ) (s t : Bool) (n d : ℕ) → DividedLessSpecified (signed_quotient size s t n d) (signed_quotient size s t n d)
  signed_itself size s t n d = cond_both (too_great size (differ s t) (n / d)) divided.Fault _ (λ (x : Divided). DividedLessSpecified x x) (λ h. tt) (λ h. (number_itself _, number_itself _))

  quotient_itself : (signed : Bool) (size n d : ℕ) → DividedLessSpecified (quotient signed size n d) (quotient signed size n d)
  quotient_itself false size n d = unsigned_itself size n d
  quotient_itself true size n d =
      let s = leb (full size * half size) n in
      let t = is_negative size d in
      signed_itself size s t (with_sign (full size * full size) s n) (with_sign (full size) t d)

  quotient_less : (signed : Bool) (size : ℕ) (a b c d e f : Option ℕ) → SameWhere a d → SameWhere b e → SameWhere c f → DividedLessSpecified (quotient_of signed size a b c) (quotient_of signed size d e f)
  quotient_less signed size None b c d e f h k l = tt
  quotient_less signed size (Some a) None c d e f h k l = tt
  quotient_less signed size (Some a) (Some b) None d e f h k l = tt
  quotient_less signed size (Some a) (Some b) (Some c) d e f h k l =
      rw (h, k, l) (cond_both (c == 0) divided.Fault _ (λ (x : Divided). DividedLessSpecified x x) (λ h. tt) (λ h. quotient_itself signed size (a * full size + b) c))

  pub divide_less : (signed : Bool) (size : ℕ) (x y z u v w : Word) → WordLessSpecified x u → WordLessSpecified y v → WordLessSpecified z w → DividedLessSpecified (divide signed size x y z) (divide signed size u v w)
  unfolding divide
  divide_less signed size x y z u v w h k l = quotient_less signed size (number size x) (number size y) (number size z) (number size u) (number size v) (number size w) (number_less size x u h) (number_less size y v k) (number_less size z w l)

  -- ---- variables and terms
  pub put_words_less : (n : ℕ) (w x : Word) (v y : ℕ → Word) → WordLessSpecified w x → WordsLessSpecified v y → WordsLessSpecified (put_word n w v) (put_word n x y)
  put_words_less n w x v y h k m = either_less (m == n) w (v m) x (y m) h (k m)

  cut_less : (o : Option LocalSlot) (w x : Word) → WordLessSpecified w x → WordLessSpecified (cut_to o w) (cut_to o x)
  cut_less None w x h = h
  cut_less (Some s) w x h = laws.less.lowest s.size w x h

  local_put : (n : ℕ) (w x : Word) (fs gs : List Frame) → WordLessSpecified w x → FramesLessSpecified fs gs → FramesLessSpecified (with_local n w fs) (with_local n x gs)
  local_put n w x [] gs h k = rw k refl
  local_put n w x (f ∷ fs) [] h k = absurd k
  local_put n w x (f ∷ fs) (g ∷ gs) h k =
      let cut_same : WordLessSpecified (cut_to (slice_get f.proc.locals n) w) (cut_to (slice_get g.proc.locals n) x) =
      subst (λ (p : Proc). WordLessSpecified (cut_to (slice_get f.proc.locals n) w) (cut_to (slice_get p.locals n) x)) k.0.proc (cut_less (slice_get f.proc.locals n) w x h) in
      (record { proc = k.0.proc; height = k.0.height; word = k.0.word; ebp = k.0.ebp; back = k.0.back; image = k.0.image; locals = put_words_less n _ _ f.locals g.locals cut_same k.0.locals }, k.1)

  pub put_var_less : (to : Var) (w x : Word) (u v : Storage) → WordLessSpecified w x → StorageLessSpecified u v → StorageLessSpecified (put_var to w u) (put_var to x v)
  put_var_less (var.Reg n) w x u v h k = record { regs = put_words_less n w x u.regs v.regs h k.regs; flags = k.flags; temps = k.temps; memory = k.memory; left = k.left; environment = k.environment; frames = k.frames; esp0 = k.esp0 }
  put_var_less (var.Flag n) w x u v h k = record { regs = k.regs; flags = put_words_less n w x u.flags v.flags h k.flags; temps = k.temps; memory = k.memory; left = k.left; environment = k.environment; frames = k.frames; esp0 = k.esp0 }
  put_var_less (var.Temp n) w x u v h k = record { regs = k.regs; flags = k.flags; temps = put_words_less n w x u.temps v.temps h k.temps; memory = k.memory; left = k.left; environment = k.environment; frames = k.frames; esp0 = k.esp0 }
  put_var_less (var.Local n) w x u v h k = record { regs = k.regs; flags = k.flags; temps = k.temps; memory = k.memory; left = k.left; environment = k.environment; frames = local_put n w x u.frames v.frames h k.frames; esp0 = k.esp0 }

  local_less : (n : ℕ) (fs gs : List Frame) → FramesLessSpecified fs gs → WordLessSpecified (local_in n fs) (local_in n gs)
  local_less n [] gs h = rw h (nothing_less no_word)
  local_less n (f ∷ fs) [] h = absurd h
  local_less n (f ∷ fs) (g ∷ gs) h = h.0.locals n

  pub var_less : (x : Var) (u v : Storage) → StorageLessSpecified u v → WordLessSpecified (var_in x u) (var_in x v)
  var_less (var.Reg n) u v h = h.regs n
  var_less (var.Flag n) u v h = h.flags n
  var_less (var.Temp n) u v h = h.temps n
  var_less (var.Local n) u v h = local_less n u.frames v.frames h.frames

  pub term_less : (t : Term) (u v : Storage) → StorageLessSpecified u v → WordLessSpecified (term_in t u) (term_in t v)
  term_less (term.Var x) u v h = var_less x u v h
  term_less (term.Word n) u v h = number_itself n

  pub known_term : (t : Term) (u v : Storage) → StorageLessSpecified u v → SameWhere (known (term_in t u)) (known (term_in t v))
  known_term t u v h = known_less (term_in t u) (term_in t v) (term_less t u v h)
