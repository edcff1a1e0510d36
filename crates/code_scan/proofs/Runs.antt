-- A straight run, one instruction after the other.
use Rattle.std.proofs.Common.{◌≡◌, ℕ, suc, ◌+◌, ◌-◌, ◌<◌, Bool, true, false, List, [], ◌∷◌, ◌++◌, Option, Some, None, refl, sym, ap, ◌∙◌, append_assoc, append-nil, arith}
use Rattle.image.specs.declared.image.Image.{Image}
use Rattle.x86_types.specs.declared.instr.Instr.{Instr}
use Rattle.x86_code.specs.Code.{Code, code_of}
use Rattle.plan_types.specs.declared.place.Place.{Place}
use Rattle.plan_types.specs.Straight.{straight_run, straight_by, unless_ended, ends_run, place_with}
use Rattle.code_scan.specs.Places.{placed, standing_place}

one_more : (n : ℕ) → 0 < n → n ≡ suc (n - 1)
one_more n some = omega arith

run_from : (code : Code) (n at : ℕ) → straight_run code (suc n) at ≡ straight_by (code at) at (λ next. straight_run code n next)
unfolding straight_run
run_from code n at = refl

run_of_none : (code : Code) (at : ℕ) → straight_run code 0 at ≡ []
unfolding straight_run
run_of_none code at = refl

-- by what stands at its address
by_place : (o : Option (Instr × ℕ)) (at : ℕ) (rest : ℕ → List Place) (p : Place) → Some p ≡ placed at o → straight_by o at rest ≡ p ∷ unless_ended (ends_run p.instr) rest (at + p.len)
by_place None at rest p is = absurd cc
by_place (Some x) at rest p is =
    let same : p ≡ place_with at x.0 x.1 = cc in
    ap (λ q. q ∷ unless_ended (ends_run q.instr) rest (at + q.len)) (sym same)

by_none : (o : Option (Instr × ℕ)) (at : ℕ) (rest : ℕ → List Place) → None ≡ placed at o → straight_by o at rest ≡ []
by_none None at rest is = refl
by_none (Some x) at rest is = absurd cc

module _ (image : Image) (at left : ℕ) (all xs : List Place) (some : 0 < left) (is : all ≡ xs ++ straight_run (code_of image) left at) where
  step : straight_run (code_of image) left at ≡ straight_by (code_of image at) at (λ next. straight_run (code_of image) (left - 1) next)
  step = ap (λ n. straight_run (code_of image) n at) (one_more left some) ∙ run_from (code_of image) (left - 1) at

  pub run_stops : None ≡ standing_place image at → xs ≡ all
  run_stops none = sym (is ∙ ap (λ ys. xs ++ ys) (step ∙ by_none (code_of image at) at (λ next. straight_run (code_of image) (left - 1) next) none) ∙ append-nil xs)

  goes : (p : Place) (b : Bool) → Some p ≡ standing_place image at → ends_run p.instr ≡ b → all ≡ xs ++ p ∷ unless_ended b (λ next. straight_run (code_of image) (left - 1) next) (at + p.len)
  goes p b there e = is ∙ ap (λ ys. xs ++ ys) (step ∙ by_place (code_of image at) at (λ next. straight_run (code_of image) (left - 1) next) p there ∙ ap (λ c. p ∷ unless_ended c (λ next. straight_run (code_of image) (left - 1) next) (at + p.len)) e)

  pub run_ends : (p : Place) → Some p ≡ standing_place image at → ends_run p.instr ≡ true → xs ++ p ∷ [] ≡ all
  run_ends p there e = sym (goes p true there e)

  pub run_goes_on : (p : Place) → Some p ≡ standing_place image at → ends_run p.instr ≡ false → all ≡ (xs ++ p ∷ []) ++ straight_run (code_of image) (left - 1) (at + p.len)
  run_goes_on p there e = goes p false there e ∙ sym (append_assoc xs (p ∷ []) (straight_run (code_of image) (left - 1) (at + p.len)))

-- no more of it
pub run_is_full : (code : Code) (at left : ℕ) (all xs : List Place) → left ≡ 0 → all ≡ xs ++ straight_run code left at → xs ≡ all
run_is_full code at left all xs none is = sym (is ∙ ap (λ n. xs ++ straight_run code n at) none ∙ ap (λ ys. xs ++ ys) (run_of_none code at) ∙ append-nil xs)
