-- What a core with one result has to come to, by what is known of its operands.
use Rattle.std.proofs.Common.{◌≡◌, ℕ, ◌<◌, Bool, true, false, cond, [], ◌∷◌, Option, Some, None, refl, ◌∙◌, ap}
use Rattle.x86_types.specs.declared.operation.ShiftOp.TheVariants as shiftop
use Rattle.x86_types.specs.declared.width.Width.{Width}
use Rattle.x86_types.specs.Numbers.{size_of}
use Rattle.x86_values.specs.declared.word.Word.{Word}
use Rattle.x86_values.specs.declared.answered.Answered.{Answered}
use Rattle.x86_values.specs.Words.{word_of, known}
use Rattle.x86_values.specs.Sizes.{number, full}
use Rattle.x86_values.specs.Results.{carry_number, no_result, result_of}
use Rattle.x86_values.specs.Sums.{of_known}
use Rattle.x86_meaning.specs.Outcomes.{Falls, with_carry}
use Rattle.flag_ir.specs.Calculations.{one_if, and_of, shifted_of, equal_of}
use Rattle.flag_ir.specs.Storage.{Storage}
use Rattle.flag_ir.specs.Operations.{picked}
use Rattle.lift_relation.specs.Matching.{FlagMatches}
use Rattle.lift_relation.specs.Cores.{CutMatches, IsChangedByCore, IsComputed}
use Rattle.lift_values.specs.Terms.{mask, top}
use Rattle.lift_values.proofs.WordLemmas.{IsNumber, number_below, known_matches, nothing_matches}
use Rattle.lift_values.proofs.FlagLemmas.{parity_made, flags_match, changed}

abbrev pub Answers : Width → Answered → Storage → Storage → Type 0
Answers w a u v = IsComputed (size_of w) (record { values = a.value ∷ []; flags = a.flags; way = Falls }) u v

-- the flags alone
abbrev pub FlagAnswers : Width → Answered → Storage → Storage → Type 0
FlagAnswers w a u v = IsComputed (size_of w) (record { values = []; flags = a.flags; way = Falls }) u v

pub flags_alone : (w : Width) (a : Answered) (u v : Storage) → Answers w a u v → FlagAnswers w a u v
flags_alone w a u v h = record { change = h.change; values = tt; flags = h.flags }

-- what a list with one result z and the overflow o comes to
pub record ResultShape (w : Width) (z o : Word) (u v : Storage) : Type 0 where
  pub change : IsChangedByCore u v
  pub result : v.temps 4 ≡ z
  pub pf : v.flags 1 ≡ parity_made (v.temps 4)
  pub zf : v.flags 2 ≡ equal_of (v.temps 4) (word_of 0)
  pub sf : v.flags 3 ≡ shifted_of shiftop.Shr (v.temps 4) (word_of (top w))
  pub of : v.flags 4 ≡ o

pub result_shape : (w : Width) (z o : Word) (u v : Storage) → v ≡ record u { flags = v.flags; temps = v.temps } → v.temps 0 ≡ u.temps 0 → v.temps 1 ≡ u.temps 1 → v.temps 2 ≡ u.temps 2 → v.temps 3 ≡ u.temps 3 → v.temps 4 ≡ z →
    v.flags 1 ≡ parity_made (v.temps 4) → v.flags 2 ≡ equal_of (v.temps 4) (word_of 0) → v.flags 3 ≡ shifted_of shiftop.Shr (v.temps 4) (word_of (top w)) → v.flags 4 ≡ o → ResultShape w z o u v
result_shape w z o u v same a b c d e p zero s over = record { change = changed u v same a b c d; result = e; pf = p; zf = zero; sf = s; of = over }

pub known_answer : (w : Width) (r : ℕ) (c o : Option Bool) (u v : Storage) → IsChangedByCore u v → r < full (size_of w) → v.temps 4 ≡ word_of r → v.flags 1 ≡ parity_made (v.temps 4) → v.flags 2 ≡ equal_of (v.temps 4) (word_of 0) →
    v.flags 3 ≡ shifted_of shiftop.Shr (v.temps 4) (word_of (top w)) → FlagMatches c (v.flags 0) → FlagMatches o (v.flags 4) → Answers w (result_of (size_of w) r c o) u v
known_answer w r c o u v change l e p z s hc ho = record { change = change; values = (known_matches w r (v.temps 4) e l, tt); flags = flags_match w r c o (v.temps 4) v.flags l e p z s hc ho }

pub no_answer : (w : Width) (k : Option Bool) (X : Word) (u v : Storage) → IsChangedByCore u v → v.temps 4 ≡ and_of X (word_of (mask w)) → FlagMatches k (v.flags 0) → Answers w (with_carry k (no_result (size_of w))) u v
no_answer w k X u v change e h = record { change = change; values = (nothing_matches w X (v.temps 4) e, tt); flags = record { cf = h; pf = tt; zf = tt; sf = tt; of = tt } }

-- ---- two operands and a carry: each is known, or nothing is asked but what is said of that
pub by_numbers : (w : Width) (f : ℕ → ℕ → Bool → Answered) (a b x y : Word) (c : Option Bool) (P : Answered → Type 0) → CutMatches (size_of w) a x → CutMatches (size_of w) b y → P (no_result (size_of w)) →
    ((n m : ℕ) (d : Bool) → IsNumber w n x → IsNumber w m y → c ≡ Some d → P (f n m d)) → P (of_known f (no_result (size_of w)) (number (size_of w) a) (number (size_of w) b) c)
by_numbers w f a b x y c P h k none all = cases (number (size_of w) a) (number (size_of w) b) c refl refl refl
  where
    cases : (p q : Option ℕ) (o : Option Bool) → number (size_of w) a ≡ p → number (size_of w) b ≡ q → c ≡ o → P (of_known f (no_result (size_of w)) p q o)
    cases None q o e g i = none
    cases (Some n) None o e g i = none
    cases (Some n) (Some m) None e g i = none
    cases (Some n) (Some m) (Some d) e g i = all n m d (number_below w a n x e h) (number_below w b m y g k) i

pub some_bool : (a b : Bool) → Some a ≡ Some b → a ≡ b
some_bool a b e = cc

-- ---- carries
pub is_carry : (c : Option Bool) (d : Bool) (z : Word) → c ≡ Some d → FlagMatches c z → z ≡ word_of (one_if d)
is_carry None d z e h = cc
is_carry (Some b) d z e h = h ∙ ap (λ b. word_of (one_if b)) (some_bool b d e)

pub carry_bit : (c : Bool) → one_if c ≡ carry_number c
carry_bit true = refl
carry_bit false = refl

pub picked_bit : (c : Bool) (x y : Word) → picked (known (word_of (one_if c))) x y ≡ cond c x y
unfolding known word_of
picked_bit true x y = refl
picked_bit false x y = refl
