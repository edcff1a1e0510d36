-- How long what stands at a place is, and how far a jump leads.
use Rattle.std.proofs.Common.{◌≡◌, ℕ, suc, ◌+◌, ◌%◌, ◌≤◌, Bool, true, false, cond, List, [], ◌∷◌, length, drop, refl, subst, arith, length-drop}
use Rattle.std.proofs.lemmas.Bool.Decides.{nat_tests}
use Rattle.x86_grammar.specs.Front.{front}
use Rattle.x86_grammar.specs.FrontLaws.{FrontEquations}
use Rattle.rewrite_core.specs.declared.places.Judgement.{Judgement}
use Rattle.rewrite_core.specs.declared.places.Judgement.TheVariants.{GoesOn, Jumps, Ends, LeftOut}
use Rattle.rewrite_core.specs.Met.{is_taken_byte}
use Rattle.rewrite_core.specs.Places.{is_apart, page_start, place_of, judged_by, judged_from, judged_at}
use Rattle.rewrite_core.proofs.Fronts.{Found, Short, TakenFound, none, moves, jumps, calls, taken_front}

-- a place of a jump is one of the page, or its end
abbrev JudgedShort : ℕ → Judgement → Type 0
JudgedShort n (GoesOn len) = Short n len
JudgedShort n (Jumps to) = to ≤ 4096
JudgedShort n Ends = Unit {0}
JudgedShort n LeftOut = Unit {0}

if_short : (n : ℕ) (b : Bool) (x y : Judgement) → JudgedShort n x → JudgedShort n y → JudgedShort n (cond b x y)
if_short n true x y p q = p
if_short n false x y p q = q

place_within : (a : ℕ) → place_of a ≤ 4096
place_within a = grind (arith, nat_tests)

taken_short : (n p : ℕ) (o : Found) → TakenFound n o → JudgedShort n (judged_by p o)
taken_short n p _ none = tt
taken_short n p _ (moves to from len h) = if_short n (is_apart from) (GoesOn len) LeftOut h tt
taken_short n p _ (jumps by len h) = place_within ((page_start + (p + len) + by) % 4294967296)
taken_short n p _ (calls len h) = h

from_short : FrontEquations → (p : ℕ) (bs : List ℕ) → JudgedShort (length bs) (judged_from p bs)
unfolding judged_from
from_short laws p [] = tt
from_short laws p (b ∷ bs) = either (is_taken_byte b) refl
  where
    either : (t : Bool) → is_taken_byte b ≡ t → JudgedShort (suc (length bs)) (cond t (judged_by p (front (b ∷ bs))) LeftOut)
    either true h = taken_short (suc (length bs)) p (front (b ∷ bs)) (taken_front laws b bs h)
    either false h = tt

pub goes_short : FrontEquations → (page : List ℕ) (p len : ℕ) → judged_at page p ≡ GoesOn len → p ≤ length page → (1 ≤ len) × (len ≤ 5) × (p + len ≤ length page)
goes_short laws page p len e h =
    let s : Short (length (drop p page)) len = subst (JudgedShort (length (drop p page))) e (from_short laws p (drop p page)) in
    (s.0, s.1, omega (arith, s.2, length-drop p page))

pub jumps_within : FrontEquations → (page : List ℕ) (p to : ℕ) → judged_at page p ≡ Jumps to → to ≤ 4096
jumps_within laws page p to e = subst (JudgedShort (length (drop p page))) e (from_short laws p (drop p page))
