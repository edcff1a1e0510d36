-- The conditions, and the cores of SETcc and CMOV.
use Rattle.std.proofs.Common.{◌≡◌, ℕ, ◌<◌, Bool, true, false, not, List, [], ◌∷◌, ◌++◌, Option, Some, None, Result, Ok, Err, refl, sym, ◌∙◌, ap, ap₂, subst, lit<}
use Rattle.std.specs.Option.{option_map}
use Rattle.x86_types.specs.declared.operation.Cond.{Cond}
use Rattle.x86_types.specs.declared.operation.Cond.TheVariants as conditions
use Rattle.x86_types.specs.declared.width.Width.{Width}
use Rattle.x86_types.specs.declared.width.Width.TheVariants.{One}
use Rattle.x86_types.specs.Numbers.{size_of}
use Rattle.x86_values.specs.declared.word.Word.{Word}
use Rattle.x86_values.specs.declared.word.Flags.{Flags}
use Rattle.x86_values.specs.Words.{word_of, known}
use Rattle.x86_values.specs.Sizes.{cut}
use Rattle.x86_values.specs.Results.{differ}
use Rattle.x86_values.specs.Conditions.{of_two, of_three, is_below_or_equal, is_less_or_equal, condition}
use Rattle.x86_values.specs.LessSpecified.{WordLessSpecified}
use Rattle.traces.specs.Trace.{End}
use Rattle.x86_meaning.specs.Outcomes.{chosen, cmov_computed, set_computed}
use Rattle.flag_ir.specs.Calculations.{one_if, and_of, or_of, xor_of}
use Rattle.flag_ir.specs.declared.operation.Calc.TheVariants as calc
use Rattle.flag_ir.specs.declared.operation.Op.{Op}
use Rattle.flag_ir.specs.Storage.{Storage}
use Rattle.flag_ir.specs.Operations.{and_then, picked, perform, performs}
use Rattle.lift_relation.specs.Matching.{FlagMatches, FlagsMatch}
use Rattle.lift_relation.specs.Cores.{CutMatches, ComputesOne, ComputesTwo, ComputationMatches, Tests}
use Rattle.lift_values.specs.Terms.{mask, temp, word, to_temp, pick_temp}
use Rattle.lift_values.specs.Conditions.{condition_ops, set_core, cmov_core}
use Rattle.lift_values.proofs.WordLemmas.{known_matches, mask_matches, nothing_matches, xor_bits, or_bits}
use Rattle.lift_values.proofs.FlagLemmas.{kept_by}
use Rattle.lift_values.proofs.AnswerLemmas.{picked_bit}

-- ---- a list is its parts, one behind the other
pub performs_append : (turn : ℕ) (xs ys : List Op) (u : Storage) → performs turn (xs ++ ys) u ≡ and_then (performs turn xs u) (performs turn ys)
unfolding performs
performs_append turn [] ys u = refl
performs_append turn (o ∷ os) ys u = cases (perform turn o u) (λ v. performs_append turn os ys v)
  where
    cases : (r : Result Storage End) → ((v : Storage) → performs turn (os ++ ys) v ≡ and_then (performs turn os v) (performs turn ys)) → and_then r (performs turn (os ++ ys)) ≡ and_then (and_then r (performs turn os)) (performs turn ys)
    cases (Ok v) h = h v
    cases (Err e) h = refl

-- ---- tests of flags
contrary_matches : (o : Option Bool) (y : Word) → FlagMatches o y → FlagMatches (option_map not o) (xor_of y (word_of 1))
contrary_matches None y h = tt
contrary_matches (Some b) y h = ap (λ z. xor_of z (word_of 1)) h ∙ xor_bits b true ∙ ap (λ c. word_of (one_if c)) (contrary b)
  where
    contrary : (b : Bool) → differ b true ≡ not b
    contrary true = refl
    contrary false = refl

either_matches : (o q : Option Bool) (x y : Word) → FlagMatches o x → FlagMatches q y → FlagMatches (of_two is_below_or_equal o q) (or_of x y)
either_matches None q x y h k = tt
either_matches (Some a) None x y h k = tt
either_matches (Some a) (Some b) x y h k = ap₂ or_of h k ∙ or_bits a b

unlike_matches : (o q : Option Bool) (x y : Word) → FlagMatches o x → FlagMatches q y → FlagMatches (of_two differ o q) (xor_of x y)
unlike_matches None q x y h k = tt
unlike_matches (Some a) None x y h k = tt
unlike_matches (Some a) (Some b) x y h k = ap₂ xor_of h k ∙ xor_bits a b

less_matches : (o p q : Option Bool) (x y z : Word) → FlagMatches o x → FlagMatches p y → FlagMatches q z → FlagMatches (of_three is_less_or_equal o p q) (or_of x (xor_of y z))
less_matches None p q x y z h k l = tt
less_matches (Some a) None q x y z h k l = tt
less_matches (Some a) (Some b) None x y z h k l = tt
less_matches (Some a) (Some b) (Some c) x y z h k l = ap₂ or_of h (ap₂ xor_of k l ∙ xor_bits b c) ∙ or_bits a (differ b c)

-- ---- only temporaries are changed, and temporary 4 holds the test where it is known
pub record IsTested (test : Option Bool) (u : Storage) (y : Result Storage End) : Type 0 where
  pub temps : ℕ → Word
  pub is : y ≡ Ok (record u { temps = temps })
  pub kept : (j : ℕ) → j < 4 → temps j ≡ u.temps j
  pub value : FlagMatches test (temps 4)

tested : (test : Option Bool) (u : Storage) (y : Result Storage End) (temps : ℕ → Word) → y ≡ Ok (record u { temps = temps }) → temps 0 ≡ u.temps 0 → temps 1 ≡ u.temps 1 → temps 2 ≡ u.temps 2 → temps 3 ≡ u.temps 3 → FlagMatches test (temps 4) → IsTested test u y
tested test u y temps e a b c d h = record { temps = temps; is = e; kept = kept_by u.temps temps a b c d; value = h }

pub condition_tested : (turn : ℕ) (c : Cond) (f : Flags) (u : Storage) → FlagsMatch f u.flags → IsTested (condition c f) u (performs turn (condition_ops c) u)
unfolding perform performs
condition_tested turn conditions.O f u h = tested f.of u _ _ refl refl refl refl refl h.of
condition_tested turn conditions.No f u h = tested (option_map not f.of) u _ _ refl refl refl refl refl (contrary_matches f.of _ h.of)
condition_tested turn conditions.B f u h = tested f.cf u _ _ refl refl refl refl refl h.cf
condition_tested turn conditions.Ae f u h = tested (option_map not f.cf) u _ _ refl refl refl refl refl (contrary_matches f.cf _ h.cf)
condition_tested turn conditions.E f u h = tested f.zf u _ _ refl refl refl refl refl h.zf
condition_tested turn conditions.Ne f u h = tested (option_map not f.zf) u _ _ refl refl refl refl refl (contrary_matches f.zf _ h.zf)
condition_tested turn conditions.Be f u h = tested (of_two is_below_or_equal f.cf f.zf) u _ _ refl refl refl refl refl (either_matches f.cf f.zf _ _ h.cf h.zf)
condition_tested turn conditions.A f u h = tested (option_map not (of_two is_below_or_equal f.cf f.zf)) u _ _ refl refl refl refl refl (contrary_matches (of_two is_below_or_equal f.cf f.zf) _ (either_matches f.cf f.zf _ _ h.cf h.zf))
condition_tested turn conditions.S f u h = tested f.sf u _ _ refl refl refl refl refl h.sf
condition_tested turn conditions.Ns f u h = tested (option_map not f.sf) u _ _ refl refl refl refl refl (contrary_matches f.sf _ h.sf)
condition_tested turn conditions.P f u h = tested f.pf u _ _ refl refl refl refl refl h.pf
condition_tested turn conditions.Np f u h = tested (option_map not f.pf) u _ _ refl refl refl refl refl (contrary_matches f.pf _ h.pf)
condition_tested turn conditions.L f u h = tested (of_two differ f.sf f.of) u _ _ refl refl refl refl refl (unlike_matches f.sf f.of _ _ h.sf h.of)
condition_tested turn conditions.Ge f u h = tested (option_map not (of_two differ f.sf f.of)) u _ _ refl refl refl refl refl (contrary_matches (of_two differ f.sf f.of) _ (unlike_matches f.sf f.of _ _ h.sf h.of))
condition_tested turn conditions.Le f u h = tested (of_three is_less_or_equal f.zf f.sf f.of) u _ _ refl refl refl refl refl (less_matches f.zf f.sf f.of _ _ _ h.zf h.sf h.of)
condition_tested turn conditions.G f u h = tested (option_map not (of_three is_less_or_equal f.zf f.sf f.of)) u _ _ refl refl refl refl refl (contrary_matches (of_three is_less_or_equal f.zf f.sf f.of) _ (less_matches f.zf f.sf f.of _ _ _ h.zf h.sf h.of))

pub condition_tests : (c : Cond) → Tests (condition c) (condition_ops c)
condition_tests c = record { tests = λ turn f u h. let t = condition_tested turn c f u h in (record u { temps = t.temps }, t.is, refl, t.kept, t.value) }

-- ---- SETcc
set_matches : (o : Option Bool) (y : Word) → FlagMatches o y → CutMatches 1 (cut 1 (chosen o (word_of 0) (word_of 1))) (and_of y (word_of 0xFF))
set_matches None y h = nothing_matches One y _ refl
set_matches (Some true) y h = mask_matches One (cut 1 (word_of 1)) y (known_matches One 1 y h (lit< tt))
set_matches (Some false) y h = mask_matches One (cut 1 (word_of 0)) y (known_matches One 0 y h (lit< tt))

abbrev set_end : List Op
set_end = to_temp 4 calc.And (temp 4) (word 0xFF) ∷ []

set_behind : (turn : ℕ) (o : Option Bool) (f : Flags) (u : Storage) (y : Result Storage End) → FlagsMatch f u.flags → IsTested o u y → ComputationMatches 1 (set_computed o f) u (and_then y (performs turn set_end))
unfolding perform performs
set_behind turn o f u y g t = subst (λ y. ComputationMatches 1 (set_computed o f) u (and_then y (performs turn set_end))) (sym t.is)
    (record { change = record { same = refl; kept = kept_by u.temps _ (t.kept 0 (lit< tt)) (t.kept 1 (lit< tt)) (t.kept 2 (lit< tt)) (t.kept 3 (lit< tt)) }; values = (set_matches o (t.temps 4) t.value, tt); flags = g })

pub set_computes : (c : Cond) → ComputesOne 4 1 (λ f x. set_computed (condition c f) f) (set_core c)
set_computes c = record { computes = λ turn x f u h g. subst (ComputationMatches 1 (set_computed (condition c f) f) u) (sym (performs_append turn (condition_ops c) set_end u)) (set_behind turn (condition c f) f u (performs turn (condition_ops c) u) g (condition_tested turn c f u g)) }

-- ---- CMOV
cmov_matches : (w : Width) (o : Option Bool) (a b x y t : Word) → CutMatches (size_of w) a x → CutMatches (size_of w) b y → FlagMatches o t → CutMatches (size_of w) (cut (size_of w) (chosen o a b)) (and_of (picked (known t) y x) (word_of (mask w)))
cmov_matches w None a b x y t h k l = nothing_matches w (picked (known t) y x) _ refl
cmov_matches w (Some true) a b x y t h k l = mask_matches w (cut (size_of w) b) (picked (known t) y x) (subst (WordLessSpecified (cut (size_of w) b)) (sym (ap (λ t. picked (known t) y x) l ∙ picked_bit true y x)) k)
cmov_matches w (Some false) a b x y t h k l = mask_matches w (cut (size_of w) a) (picked (known t) y x) (subst (WordLessSpecified (cut (size_of w) a)) (sym (ap (λ t. picked (known t) y x) l ∙ picked_bit false y x)) h)

abbrev cmov_end : Width → List Op
cmov_end w = pick_temp 4 (temp 4) (temp 2) (temp 1) ∷ to_temp 4 calc.And (temp 4) (word (mask w)) ∷ []

cmov_behind : (turn : ℕ) (w : Width) (o : Option Bool) (f : Flags) (a b : Word) (u : Storage) (y : Result Storage End) → CutMatches (size_of w) a (u.temps 1) → CutMatches (size_of w) b (u.temps 2) → FlagsMatch f u.flags → IsTested o u y →
    ComputationMatches (size_of w) (cmov_computed (size_of w) o f a b) u (and_then y (performs turn (cmov_end w)))
unfolding perform performs
cmov_behind turn w o f a b u y h k g t = subst (λ y. ComputationMatches (size_of w) (cmov_computed (size_of w) o f a b) u (and_then y (performs turn (cmov_end w)))) (sym t.is)
    (record {
      change = record { same = refl; kept = kept_by u.temps _ (t.kept 0 (lit< tt)) (t.kept 1 (lit< tt)) (t.kept 2 (lit< tt)) (t.kept 3 (lit< tt)) };
      values = (cmov_matches w o a b (t.temps 1) (t.temps 2) (t.temps 4) (subst (CutMatches (size_of w) a) (sym (t.kept 1 (lit< tt))) h) (subst (CutMatches (size_of w) b) (sym (t.kept 2 (lit< tt))) k) t.value, tt);
      flags = g;
    })

pub cmov_computes : (c : Cond) (w : Width) → ComputesTwo (size_of w) (size_of w) (size_of w) (λ f x y. cmov_computed (size_of w) (condition c f) f x y) (cmov_core c w)
cmov_computes c w = record {
  computes = λ turn a b f u h k g.
      subst (ComputationMatches (size_of w) (cmov_computed (size_of w) (condition c f) f a b) u) (sym (performs_append turn (condition_ops c) (cmov_end w) u)) (cmov_behind turn w (condition c f) f a b u (performs turn (condition_ops c) u) h k g (condition_tested turn c f u g));
}
