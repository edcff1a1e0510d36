-- Sums and differences are monotone in what is specified.
use Rattle.std.proofs.Common.{◌≡◌, ℕ, ◌+◌, ◌-◌, ◌%◌, ◌<◌, Bool, ltb, leb, Option, Some, None, refl, arith}
use Rattle.x86_values.specs.declared.word.Word.{Word}
use Rattle.x86_values.specs.declared.answered.Answered.{Answered}
use Rattle.x86_values.specs.Sizes.{IsSize, number, full}
use Rattle.x86_values.specs.Results.{carry_number, no_result}
use Rattle.x86_values.specs.Sums.{of_known, sum, difference, sum_overflows, difference_overflows, add, sub}
use Rattle.x86_values.specs.SumLaws.{SumLaws}
use Rattle.x86_values.specs.LessSpecified.{WordLessSpecified, FlagLessSpecified, AnsweredLessSpecified}
use Rattle.x86_values.proofs.LessSpecified.{same_number}
use Rattle.x86_values.proofs.SizeLemmas.{full_bounds}
use Rattle.x86_values.proofs.ResultsLess.{result_itself, no_result_itself, no_result_less}

-- a function of two numbers and a carry that comes to a result of the size
record GivesResult (size : ℕ) (f : ℕ → ℕ → Bool → Answered) : Type 0 where
  itself : (a b : ℕ) (c : Bool) → AnsweredLessSpecified (f a b c) (f a b c)
  nothing : (a b : ℕ) (c : Bool) → AnsweredLessSpecified (no_result size) (f a b c)

nothing_less : (size : ℕ) (f : ℕ → ℕ → Bool → Answered) (a b : Option ℕ) (c : Option Bool) → GivesResult size f → AnsweredLessSpecified (no_result size) (of_known f (no_result size) a b c)
nothing_less size f (Some a) (Some b) (Some c) g = g.nothing a b c
nothing_less size f (Some a) (Some b) None g = no_result_itself size
nothing_less size f (Some a) None c g = no_result_itself size
nothing_less size f None b c g = no_result_itself size

known_less : (size : ℕ) (f : ℕ → ℕ → Bool → Answered) (x y u v : Word) (c d : Option Bool) → GivesResult size f → IsSize size → WordLessSpecified x u → WordLessSpecified y v → FlagLessSpecified c d → AnsweredLessSpecified (of_known f (no_result size) (number size x) (number size y) c) (of_known f (no_result size) (number size u) (number size v) d)
known_less size f x y u v c d g s h k l = go (number size x) (number size y) c refl refl l
  where
    go : (a b : Option ℕ) (c : Option Bool) → number size x ≡ a → number size y ≡ b → FlagLessSpecified c d → AnsweredLessSpecified (of_known f (no_result size) a b c) (of_known f (no_result size) (number size u) (number size v) d)
    go (Some a) (Some b) (Some c) p q r = rw ((same_number size a x u s h p).0, (same_number size b y v s k q).0, r) (g.itself a b c)
    go (Some a) (Some b) None p q r = nothing_less size f (number size u) (number size v) d g
    go (Some a) None c p q r = nothing_less size f (number size u) (number size v) d g
    go None b c p q r = nothing_less size f (number size u) (number size v) d g

rest_less : (size n : ℕ) → IsSize size → n % full size < full size
rest_less size n s = let b = full_bounds size s in omega arith

sum_gives : (size : ℕ) → IsSize size → GivesResult size (sum size)
unfolding sum
sum_gives size s = record {
  itself = λ a b c. result_itself size ((a + b + carry_number c) % full size) (Some (leb (full size) (a + b + carry_number c))) (Some (sum_overflows size a b c));
  nothing = λ a b c. no_result_less size ((a + b + carry_number c) % full size) (Some (leb (full size) (a + b + carry_number c))) (Some (sum_overflows size a b c)) s (rest_less size (a + b + carry_number c) s);
}

difference_gives : (size : ℕ) → IsSize size → GivesResult size (difference size)
unfolding difference
difference_gives size s = record {
  itself = λ a b c. result_itself size ((full size + a - (b + carry_number c)) % full size) (Some (ltb a (b + carry_number c))) (Some (difference_overflows size a b c));
  nothing = λ a b c. no_result_less size ((full size + a - (b + carry_number c)) % full size) (Some (ltb a (b + carry_number c))) (Some (difference_overflows size a b c)) s (rest_less size (full size + a - (b + carry_number c)) s);
}

add_less : (size : ℕ) (x y u v : Word) (c d : Option Bool) → IsSize size → WordLessSpecified x u → WordLessSpecified y v → FlagLessSpecified c d → AnsweredLessSpecified (add size x y c) (add size u v d)
unfolding add
add_less size x y u v c d s = known_less size (sum size) x y u v c d (sum_gives size s) s

sub_less : (size : ℕ) (x y u v : Word) (c d : Option Bool) → IsSize size → WordLessSpecified x u → WordLessSpecified y v → FlagLessSpecified c d → AnsweredLessSpecified (sub size x y c) (sub size u v d)
unfolding sub
sub_less size x y u v c d s = known_less size (difference size) x y u v c d (difference_gives size s) s

pub sum_laws : SumLaws
sum_laws = record { add_less = add_less; sub_less = sub_less }
