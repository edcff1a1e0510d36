-- What is placed stays placed as parts are added.
use Rattle.std.proofs.Common.{◌≡◌, ◌⊎◌, ℕ, ◌+◌, ◌*◌, ◌<◌, ◌≤◌, List, [], ◌∷◌, ◌++◌, length, take, get_or, set, Option, Some, None, Bool, true, false, not, refl, sym, ap, ◌∙◌, subst, inl, inr, arith}
use Rattle.std.proofs.lemmas.List.{length-set, length_push, get_or-set_same, get_or-set_other, get_or_past, take_at, take_all, take-take, length-take, get_or_read}
use Rattle.std.specs.Option.{is_some}
use Rattle.std.proofs.lemmas.List.Elements.{All-push}
use Rattle.std.proofs.lemmas.List.Sums.{sum_by-set}
use Rattle.std.proofs.lemmas.Bool.{cases_eq, cases_lt}
use Rattle.rewrite_core.specs.declared.places.Judgement.{Judgement}
use Rattle.rewrite_core.specs.declared.places.Judgement.TheVariants.{GoesOn, Jumps, Ends, LeftOut}
use Rattle.rewrite_core.specs.declared.placing.Part.{Part}
use Rattle.rewrite_core.specs.declared.placing.Part.TheVariants.{Kept, Leads, Stops}
use Rattle.rewrite_core.specs.Places.{judged_at, Reached}
use Rattle.rewrite_core.specs.Placing.{place_at, part_size, IsFine, Leaves, Settled, is_wanting, wanting, ArePlaced, IsNext, PlacingGrows, HasPlace}
use Rattle.rewrite_core.proofs.PartCodes.{has_more, has_last, size_push}

module _ (page : List ℕ) (places new : List (Option ℕ)) (parts : List Part) (size : ℕ) (part : Part) (at : ℕ) (next : Option ℕ) (keeps : (p q : ℕ) → place_at places p ≡ Some q → place_at new p ≡ Some q)
    (here : Leaves new (parts ++ part ∷ []) (size + part_size part) next size at) where
  abbrev NewLeaves : ℕ → ℕ → Type 0
  NewLeaves q p = Leaves new (parts ++ part ∷ []) (size + part_size part) next q p

  abbrev NewSettled : ℕ → ℕ → Judgement → Type 0
  NewSettled p q j = Settled new (parts ++ part ∷ []) (size + part_size part) next p q j

  leaves_more : (q p : ℕ) → Leaves places parts size (Some at) q p → NewLeaves q p
  leaves_more q p h =
      elim h [
        | inl e ↦ inl (keeps p q e)
        | inr k ↦ elim k [
          | inl has ↦ inr (inl (has_more parts q (Leads p) part has))
          | inr e ↦
              let same : at ≡ p = let f : Some at ≡ Some p = e.0 in cc in
              subst (λ (n : ℕ). NewLeaves q n) same (subst (λ (n : ℕ). NewLeaves n at) (sym e.1) here)
        ]
      ]

  settled_more : (p q : ℕ) (j : Judgement) → Settled places parts size (Some at) p q j → NewSettled p q j
  settled_more p q (GoesOn len) h = (has_more parts q (Kept p len) part h.0, leaves_more (q + len) (p + len) h.1)
  settled_more p q (Jumps to) h = has_more parts q (Leads to) part h
  settled_more p q Ends h = has_more parts q Stops part h
  settled_more p q LeftOut h = h

  extended : ArePlaced page places parts size (Some at) → length new ≡ length places → ((p q : ℕ) → place_at new p ≡ Some q → (place_at places p ≡ Some q) ⊎ NewSettled p q (judged_at page p)) → IsFine page part → part_size part ≤ 5
      → length parts + 1 + 2 * wanting new ≤ 2 * (length page + 1) → ArePlaced page new (parts ++ part ∷ []) (size + part_size part) next
  extended s all news fine short room = record {
    all = all ∙ s.all;
    settled = λ p q e. elim (news p q e) [ inl f ↦ settled_more p q (judged_at page p) (s.settled p q f) | inr h ↦ h ];
    fine = All-push (IsFine page) parts part s.fine fine;
    sized = ap (λ (n : ℕ). n + part_size part) s.sized ∙ sym (size_push parts part);
    small = let e = s.small in omega (arith, length_push parts part);
    room = omega (arith, length_push parts part);
  }

-- ---- a place is placed at the end
pub place_within : (places : List (Option ℕ)) (p q : ℕ) → place_at places p ≡ Some q → p < length places
place_within places p q e = elim (cases_lt p (length places)) [ inl h ↦ h | inr h ↦ let n : None ≡ Some q = sym (get_or_past places p None h) ∙ e in cc ]

pub keeps_set : (places : List (Option ℕ)) (at size : ℕ) → place_at places at ≡ None → (p q : ℕ) → place_at places p ≡ Some q → place_at (set places at (Some size)) p ≡ Some q
keeps_set places at size free p q e =
    elim (cases_eq p at) [
      | inl same ↦ let n : None ≡ Some q = sym free ∙ ap (place_at places) (sym same) ∙ e in cc
      | inr other ↦ get_or-set_other places at p (Some size) None other ∙ e
    ]

pub placed_at : (places : List (Option ℕ)) (at size : ℕ) → at < length places → place_at (set places at (Some size)) at ≡ Some size
placed_at places at size h = get_or-set_same places at (Some size) None h

wanting_set : (places : List (Option ℕ)) (at size : ℕ) → place_at places at ≡ None → at < length places → wanting (set places at (Some size)) + 1 ≡ wanting places
wanting_set places at size free h =
    let e = sum_by-set is_wanting places at (Some size) None h in
    let f : is_wanting (place_at places at) ≡ 1 = ap is_wanting free in
    omega arith

module _ (page : List ℕ) (places : List (Option ℕ)) (parts : List Part) (size at : ℕ) (s : IsNext page places parts size at) (part : Part) (next : Option ℕ) where
  abbrev After : List (Option ℕ)
  After = set places at (Some size)

  pub at_within : at < length places
  at_within = let e = s.placed.all in let h = s.within in omega arith

  pub settle : Settled After (parts ++ part ∷ []) (size + part_size part) next at size (judged_at page at) → IsFine page part → part_size part ≤ 5 → ArePlaced page After (parts ++ part ∷ []) (size + part_size part) next
  settle h fine short =
      extended page places After parts size part at next (keeps_set places at size s.free) (inl (placed_at places at size at_within)) s.placed (length-set places at (Some size))
      (λ p q e. elim (cases_eq p at) [
        | inl same ↦
            let e' : place_at After at ≡ Some q = ap (place_at After) (sym same) ∙ e in
            let e'' : Some size ≡ Some q = sym (placed_at places at size at_within) ∙ e' in
            let is_q : size ≡ q = cc in
            inr (subst (λ (n : ℕ). Settled After (parts ++ part ∷ []) (size + part_size part) next n q (judged_at page n)) (sym same)
            (subst (λ (n : ℕ). Settled After (parts ++ part ∷ []) (size + part_size part) next at n (judged_at page at)) is_q h))
        | inr other ↦ inl (sym (get_or-set_other places at p (Some size) None other) ∙ e)
      ])
      fine short (let r = s.placed.room in omega (arith, wanting_set places at size s.free at_within))

  pub spare : length (parts ++ part ∷ []) + 1 + 2 * wanting After ≤ 2 * (length page + 1)
  spare = let r = s.placed.room in omega (arith, wanting_set places at size s.free at_within, length_push parts part)

  pub grows : PlacingGrows places parts After (parts ++ part ∷ [])
  grows = record { keeps = keeps_set places at size s.free; begins = take_at parts (part ∷ []) (length parts) refl }

-- a run goes on where a place has its new place elsewhere already
pub linked : (page : List ℕ) (places : List (Option ℕ)) (parts : List Part) (size at : ℕ) → ArePlaced page places parts size (Some at) → at ≤ length page → Reached page at → length parts + 1 + 2 * wanting places ≤ 2 * (length page + 1)
    → ArePlaced page places (parts ++ Leads at ∷ []) (size + 5) None
linked page places parts size at s h r room =
    extended page places places parts size (Leads at) at None (λ p q e. e) (inr (inl (has_last parts size (Leads at) s.sized))) s refl (λ p q e. inl e) (h, r) (omega arith) room

pub grows_same : (places : List (Option ℕ)) (parts : List Part) → PlacingGrows places parts places parts
grows_same places parts = record { keeps = λ p q e. e; begins = take_all (length parts) parts (omega arith) }

pub grows_on : (p1 p2 p3 : List (Option ℕ)) (a b c : List Part) → PlacingGrows p1 a p2 b → PlacingGrows p2 b p3 c → PlacingGrows p1 a p3 c
grows_on p1 p2 p3 a b c g h = record {
  keeps = λ p q e. h.keeps p q (g.keeps p q e);
  begins =
      let short : length a ≤ length b = omega (arith, ap length g.begins, length-take (length a) b) in
      sym (take-take (length a) (length b) c short) ∙ ap (take (length a)) h.begins ∙ g.begins;
}

-- ---- what a place of the table holds
some_or_none : (o : Option ℕ) → (o ≡ None) ⊎ ((q : ℕ) × (o ≡ Some q))
some_or_none None = inl refl
some_or_none (Some q) = inr (q, refl)

not-not : (b : Bool) → not (not b) ≡ b
not-not true = refl
not-not false = refl

pub none_read : (places : List (Option ℕ)) (p : ℕ) (x : Option ℕ) (b : Bool) → p < length places → x ≡ get_or places p x → is_some x ≡ not b → b ≡ true → place_at places p ≡ None
none_read places p x b h e f g =
    elim (some_or_none x) [
      | inl n ↦ sym (get_or_read places p x h e None) ∙ n
      | inr s ↦ let z : true ≡ false = sym (ap is_some s.1) ∙ f ∙ ap not g in cc
    ]

pub some_read : (places : List (Option ℕ)) (p : ℕ) (x : Option ℕ) (b : Bool) → p < length places → x ≡ get_or places p x → is_some x ≡ not b → b ≡ false → HasPlace places p
some_read places p x b h e f g =
    elim (some_or_none x) [
      | inl n ↦ let z : false ≡ true = sym (ap is_some n) ∙ f ∙ ap not g in cc
      | inr s ↦ (s.0, sym (get_or_read places p x h e None) ∙ s.1)
    ]

pub there_read : (places : List (Option ℕ)) (p : ℕ) (x : Option ℕ) (b : Bool) → p < length places → x ≡ get_or places p x → b ≡ is_some x → b ≡ true → HasPlace places p
there_read places p x b h e f g = some_read places p x (not b) h e (sym f ∙ sym (not-not b)) (ap not g)

pub wanting_read : (places : List (Option ℕ)) (p : ℕ) (x : Option ℕ) (b : Bool) → p < length places → x ≡ get_or places p x → b ≡ is_some x → b ≡ false → place_at places p ≡ None
wanting_read places p x b h e f g = none_read places p x (not b) h e (sym f ∙ sym (not-not b)) (ap not g)
