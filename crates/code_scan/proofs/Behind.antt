-- The places before a table jump, from the nearest back.
use Rattle.std.proofs.Common.{◌≡◌, ℕ, ◌+◌, ◌-◌, ◌<◌, ◌≤◌, ◌||◌, Bool, false, cond, List, [], ◌∷◌, ◌++◌, length, take, drop, reverse, get_or, Some, None, refl, sym, ap, ◌∙◌, arith, inl, inr}
use Rattle.std.proofs.lemmas.List.{take_more, reverse-append, length-reverse, length-drop, take-append-drop, take-append-le, take_all, take_at}
use Rattle.std.proofs.lemmas.Bool.{cases_lt}
use Rattle.image.specs.declared.image.Image.{Image}
use Rattle.x86_types.specs.declared.operand.Reg.{Reg}
use Rattle.plan_types.specs.declared.place.Place.{Place}
use Rattle.plan_types.specs.Tables.{compared_with, is_above, or_else, bound_behind, targets_by, table_jump, table_of, table_at_head, table_in}

-- one place more, from the last to the first
pub one_back : (r : Reg) (above : Bool) (before : List Place) (k : ℕ) (p : Place) → k < length before → p ≡ get_or before k p → bound_behind r above (reverse (take (k + 1) before)) ≡ or_else (cond above (compared_with r p.instr) None) (bound_behind r (above || is_above p.instr) (reverse (take k before)))
one_back r above before k p within is =
    let t : take (k + 1) before ≡ take k before ++ p ∷ [] = take_more before k p within ∙ ap (λ q. take k before ++ q ∷ []) (sym is) in
    ap (λ ps. bound_behind r above (reverse ps)) t ∙ ap (bound_behind r above) (reverse-append (take k before) (p ∷ []))

-- the last n places of a list
pub last_places : (n : ℕ) (before : List Place) → reverse (drop (length before - n) before) ≡ take n (reverse before)
last_places n before = elim (cases_lt n (length before)) [
  | inl more ↦
      let back : List Place = reverse (drop (length before - n) before) in
      let l : length back ≡ n = length-reverse (drop (length before - n) before) ∙ length-drop (length before - n) before ∙ omega arith in
      let whole : reverse before ≡ back ++ reverse (take (length before - n) before) = ap reverse (sym (take-append-drop (length before - n) before)) ∙ reverse-append (take (length before - n) before) (drop (length before - n) before) in
      sym (ap (take n) whole ∙ take_at back (reverse (take (length before - n) before)) n l)
  | inr fewer ↦
      let z : length before - n ≡ 0 = omega arith in
      ap (λ k. reverse (drop k before)) z ∙ sym (take_all n (reverse before) (omega (arith, length-reverse before)))
]

-- what stands before the last eight doesn't count
pub earlier_places : (n : ℕ) (earlier before : List Place) → n ≤ length before → take n (reverse (earlier ++ before)) ≡ take n (reverse before)
earlier_places n earlier before enough = ap (take n) (reverse-append earlier before) ∙ take-append-le n (reverse before) (reverse earlier) (omega (arith, length-reverse before))

-- the table of a run whose last place is known
table_by : (image : Image) (before : List Place) (jump : Place) → table_in image (before ++ jump ∷ []) ≡ table_of image jump.at (reverse before) (table_jump jump.instr)
unfolding table_in
table_by image before jump = ap (table_at_head image) (reverse-append before (jump ∷ []))

pub no_table : (image : Image) (before : List Place) (jump : Place) → None ≡ table_jump jump.instr → None ≡ table_in image (before ++ jump ∷ [])
no_table image before jump none = ap (table_of image jump.at (reverse before)) none ∙ sym (table_by image before jump)

pub one_table : (image : Image) (before near : List Place) (jump : Place) (r : Reg) (start : ℕ) (targets : List ℕ) → Some (r, start) ≡ table_jump jump.instr → reverse near ≡ take 8 (reverse before) → targets ≡ targets_by image start (bound_behind r false (reverse near)) → Some (record { jump = jump.at; start = start; targets = targets }) ≡ table_in image (before ++ jump ∷ [])
one_table image before near jump r start targets is few words =
    ap (λ ws. Some (record { jump = jump.at; start = start; targets = ws })) (words ∙ ap (λ ps. targets_by image start (bound_behind r false ps)) few)
    ∙ ap (table_of image jump.at (reverse before)) is ∙ sym (table_by image before jump)

-- of no places
pub no_run : (image : Image) → None ≡ table_in image []
unfolding table_in
no_run image = refl

pub is_empty : (ps : List Place) → length ps ≡ 0 → ps ≡ []
is_empty [] e = refl
is_empty (p ∷ ps) e = absurd (omega arith)
