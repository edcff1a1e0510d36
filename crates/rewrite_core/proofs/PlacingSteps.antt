-- What the placing of a place leaves.
use Rattle.std.proofs.Common.{◌≡◌, ℕ, ◌+◌, ◌*◌, ◌<◌, ◌≤◌, List, [], ◌∷◌, ◌++◌, length, take, drop, set, Option, Some, None, refl, sym, ap, ◌∙◌, subst, inl, inr, arith}
use Rattle.std.proofs.Math.Seq.{take-add}
use Rattle.std.proofs.lemmas.List.{get_or-set_other, take_at, take_all, length-set}
use Rattle.std.proofs.lemmas.List.Elements.{All-push}
use Rattle.std.proofs.lemmas.Bool.{cases_eq}
use Rattle.x86_grammar.specs.FrontLaws.{FrontEquations}
use Rattle.rewrite_core.specs.declared.places.Judgement.{Judgement}
use Rattle.rewrite_core.specs.declared.places.Judgement.TheVariants.{GoesOn, Jumps, Ends, LeftOut}
use Rattle.rewrite_core.specs.declared.placing.Part.{Part}
use Rattle.rewrite_core.specs.declared.placing.Part.TheVariants.{Kept, Leads, Stops}
use Rattle.rewrite_core.specs.declared.placing.Next.TheVariants.{On, Done, Refused}
use Rattle.rewrite_core.specs.declared.placing.Placing.{Placing}
use Rattle.rewrite_core.specs.Places.{judged_at, on, jump, Straight, then_on, stop}
use Rattle.rewrite_core.specs.Placing.{place_at, part_size, IsFine, ArePlaced, IsOpenPlace, IsAdded, PlacingGrows, HasPlace, IsNoJump, IsFront, IsWhole, IsPlaced, wanting, Settled}
use Rattle.rewrite_core.proofs.JudgedPlaces.{goes_short, jumps_within}
use Rattle.rewrite_core.proofs.Chains.{one_end, ends_is_end, jumps_is_end}
use Rattle.rewrite_core.proofs.PartCodes.{code_push, has_last}
use Rattle.rewrite_core.proofs.PlacedParts.{placed_at, at_within, settle, spare, keeps_set, grows, grows_on, linked}

-- ---- the straight list
module _ (page : List ℕ) (places : List (Option ℕ)) (parts : List Part) (at : ℕ) (f : IsFront page places parts at) where
  front_on : (size len : ℕ) → judged_at page at ≡ GoesOn len → 1 ≤ len → IsFront page (set places at (Some size)) (parts ++ Kept at len ∷ []) (at + len)
  front_on size len e one = record {
    straight = then_on len f.straight e;
    code = λ table.
        code_push page table parts (Kept at len)
        ∙ ap (λ (bs : List ℕ). bs ++ take len (drop at page)) (f.code table)
        ∙ sym (take-add at len page);
    no_jump = All-push IsNoJump parts (Kept at len) f.no_jump tt;
    below = λ p q g. elim (cases_eq p at) [
      | inl same ↦ omega arith
      | inr other ↦ let h = f.below p q (sym (get_or-set_other places at p (Some size) None other) ∙ g) in omega arith
    ];
  }

  list_stops : judged_at page at ≡ Ends → (n : ℕ) → Straight page n → judged_at page n ≡ Ends → IsWhole page (parts ++ Stops ∷ []) n
  list_stops e n s g =
      let same = one_end page at n f.straight s (ends_is_end page at e) (ends_is_end page n g) in
      record {
        code = λ table.
            code_push page table parts Stops
            ∙ ap (λ (bs : List ℕ). bs ++ stop) (f.code table)
            ∙ ap (λ (k : ℕ). take k page ++ stop) same;
        no_jump = All-push IsNoJump parts Stops f.no_jump tt;
      }

  not_jumps : (to : ℕ) → judged_at page at ≡ Jumps to → (n : ℕ) → Straight page n → judged_at page n ≡ Ends → ⊥
  not_jumps to e n s g =
      let same = one_end page at n f.straight s (jumps_is_end page at to e) (ends_is_end page n g) in
      let z : Jumps to ≡ Ends = sym e ∙ ap (judged_at page) same ∙ g in
      cc

  not_linked : HasPlace places at → ⊥
  not_linked (q, e) = let h = f.below at q e in absurd (omega arith)

-- ---- the state after a step
along : (P : List (Option ℕ) → List Part → ℕ → Type 0) (places places' : List (Option ℕ)) (parts parts' : List Part) (size size' : ℕ) → places' ≡ places → parts' ≡ parts → size' ≡ size → P places parts size → P places' parts' size'
along P places places' parts parts' size size' e f g h =
    subst (λ (z : List (Option ℕ)). P z parts' size') (sym e) (subst (λ (z : List Part). P places z size') (sym f) (subst (λ (z : ℕ). P places parts z) (sym g) h))

-- a place is placed at the end, where a part is added
pub record IsPut (s t : Placing) (at : ℕ) (part : Part) : Type 0 where
  pub places : t.places.items ≡ set s.places.items at (Some s.size)
  pub parts : t.parts.items ≡ s.parts.items ++ part ∷ []
  pub size : t.size ≡ s.size + part_size part

module _ (page : List ℕ) (s t : Placing) (at : ℕ) (o : IsOpenPlace page s at) (part : Part) (put : IsPut s t at part) where
  abbrev After : (List (Option ℕ) → List Part → ℕ → Type 0) → Type 0
  After P = P (set s.places.items at (Some s.size)) (s.parts.items ++ part ∷ []) (s.size + part_size part)

  after : (P : List (Option ℕ) → List Part → ℕ → Type 0) → After P → P t.places.items t.parts.items t.size
  after P h = along P (set s.places.items at (Some s.size)) t.places.items (s.parts.items ++ part ∷ []) t.parts.items (s.size + part_size part) t.size put.places put.parts put.size h

  put_placed : (next : Option ℕ) → Settled (set s.places.items at (Some s.size)) (s.parts.items ++ part ∷ []) (s.size + part_size part) next at s.size (judged_at page at) → IsFine page part → part_size part ≤ 5
      → ArePlaced page t.places.items t.parts.items t.size next
  put_placed next h fine short = after (λ a b n. ArePlaced page a b n next) (settle page s.places.items s.parts.items s.size at o part next h fine short)

  put_spare : length t.parts.items + 1 + 2 * wanting t.places.items ≤ 2 * (length page + 1)
  put_spare = after (λ a b n. length b + 1 + 2 * wanting a ≤ 2 * (length page + 1)) (spare page s.places.items s.parts.items s.size at o part None)

  put_grows : PlacingGrows s.places.items s.parts.items t.places.items t.parts.items
  put_grows = after (λ a b n. PlacingGrows s.places.items s.parts.items a b) (grows page s.places.items s.parts.items s.size at o part None)

  put_at : place_at t.places.items at ≡ Some s.size
  put_at = after (λ a b n. place_at a at ≡ Some s.size) (placed_at s.places.items at s.size (at_within page s.places.items s.parts.items s.size at o part None))

-- ---- what a step leaves
pub jumps_step : FrontEquations → (page : List ℕ) (s t : Placing) (at to : ℕ) → length page ≡ 4096 → IsOpenPlace page s at → judged_at page at ≡ Jumps to → IsPut s t at (Leads to) → IsPlaced page s t at Done
jumps_step laws page s t at to l o e put = record {
  goes =
      let settled = subst (λ (j : Judgement). Settled (set s.places.items at (Some s.size)) (s.parts.items ++ Leads to ∷ []) (s.size + 5) None at s.size j) (sym e) (has_last s.parts.items s.size (Leads to) o.placed.sized) in
      put_placed page s t at o (Leads to) put None settled (omega (arith, jumps_within laws page at to e), jump to o.reached e) (omega arith);
  grew = put_grows page s t at o (Leads to) put;
  placed = put_at page s t at o (Leads to) put;
  list = λ f n r g. absurd (not_jumps page s.places.items s.parts.items at f to e n r g);
}

pub ends_step : (page : List ℕ) (s t : Placing) (at : ℕ) → IsOpenPlace page s at → judged_at page at ≡ Ends → IsPut s t at Stops → IsPlaced page s t at Done
ends_step page s t at o e put = record {
  goes =
      let settled = subst (λ (j : Judgement). Settled (set s.places.items at (Some s.size)) (s.parts.items ++ Stops ∷ []) (s.size + 2) None at s.size j) (sym e) (has_last s.parts.items s.size Stops o.placed.sized) in
      put_placed page s t at o Stops put None settled tt (omega arith);
  grew = put_grows page s t at o Stops put;
  placed = put_at page s t at o Stops put;
  list = λ f n r g. after page s t at o Stops put (λ a b k. IsWhole page b n) (list_stops page s.places.items s.parts.items at f e n r g);
}

module _ (laws : FrontEquations) (page : List ℕ) (s t : Placing) (at len : ℕ) (o : IsOpenPlace page s at) (e : judged_at page at ≡ GoesOn len) (put : IsPut s t at (Kept at len)) where
  short : (1 ≤ len) × (len ≤ 5) × (at + len ≤ length page)
  short = goes_short laws page at len e o.within

  ahead : ArePlaced page t.places.items t.parts.items t.size (Some (at + len))
  ahead =
      let has = has_last s.parts.items s.size (Kept at len) o.placed.sized in
      let settled = subst (λ (j : Judgement). Settled (set s.places.items at (Some s.size)) (s.parts.items ++ Kept at len ∷ []) (s.size + len) (Some (at + len)) at s.size j) (sym e) (has, inr (inr (refl, refl))) in
      put_placed page s t at o (Kept at len) put (Some (at + len)) settled (short.2, short.1) short.1

  fronts_on : IsFront page s.places.items s.parts.items at → IsFront page t.places.items t.parts.items (at + len)
  fronts_on f = after page s t at o (Kept at len) put (λ a b n. IsFront page a b (at + len)) (front_on page s.places.items s.parts.items at f s.size len e short.0)

  pub on_step : place_at t.places.items (at + len) ≡ None → IsPlaced page s t at (On (at + len))
  on_step free = record {
    goes = (omega (arith, short.0), record { placed = ahead; free = free; reached = on len o.reached e; within = short.2 });
    grew = put_grows page s t at o (Kept at len) put;
    placed = put_at page s t at o (Kept at len) put;
    list = fronts_on;
  }

  pub linked_step : (u : Placing) → HasPlace t.places.items (at + len) → IsAdded t u (Leads (at + len)) → IsPlaced page s u at Done
  linked_step u there a =
      let P : (List (Option ℕ) → List Part → ℕ → Type 0) → Type 0 = λ Q. Q u.places.items u.parts.items u.size in
      let to_u = λ (Q : List (Option ℕ) → List Part → ℕ → Type 0) (h : Q t.places.items (t.parts.items ++ Leads (at + len) ∷ []) (t.size + 5)).
      along Q t.places.items u.places.items (t.parts.items ++ Leads (at + len) ∷ []) u.parts.items (t.size + 5) u.size a.places a.parts a.size h in
      record {
        goes = to_u (λ x y n. ArePlaced page x y n None) (linked page t.places.items t.parts.items t.size (at + len) ahead short.2 (on len o.reached e) (put_spare page s t at o (Kept at len) put));
        grew = to_u (λ x y n. PlacingGrows s.places.items s.parts.items x y) (grows_on s.places.items t.places.items t.places.items s.parts.items t.parts.items (t.parts.items ++ Leads (at + len) ∷ [])
            (put_grows page s t at o (Kept at len) put) (record { keeps = λ p q f. f; begins = take_at t.parts.items (Leads (at + len) ∷ []) (length t.parts.items) refl }));
        placed = to_u (λ x y n. place_at x at ≡ Some s.size) (put_at page s t at o (Kept at len) put);
        list = λ f. absurd (not_linked page t.places.items t.parts.items (at + len) (fronts_on f) there);
      }

pub left_out_step : (page : List ℕ) (s t : Placing) (at : ℕ) → IsOpenPlace page s at → judged_at page at ≡ LeftOut → t.places.items ≡ set s.places.items at (Some s.size) → t.parts.items ≡ s.parts.items → IsPlaced page s t at Refused
left_out_step page s t at o e f g =
    let to_t = λ (Q : List (Option ℕ) → List Part → ℕ → Type 0) (h : Q (set s.places.items at (Some s.size)) s.parts.items 0). along Q (set s.places.items at (Some s.size)) t.places.items s.parts.items t.parts.items 0 0 f g refl h in
    record {
      goes = record { at = at; reached = o.reached; left_out = e };
      grew = to_t (λ x y n. PlacingGrows s.places.items s.parts.items x y) (record { keeps = keeps_set s.places.items at s.size o.free; begins = take_all (length s.parts.items) s.parts.items (omega arith) });
      placed = to_t (λ x y n. place_at x at ≡ Some s.size) (placed_at s.places.items at s.size (at_within page s.places.items s.parts.items s.size at o Stops None));
      list = λ h. tt;
    }

-- ---- the bounds on the way
pub small_size : (page : List ℕ) (s : Placing) (next : Option ℕ) → length page ≡ 4096 → ArePlaced page s.places.items s.parts.items s.size next → s.size ≤ 40970
small_size page s next l a = let r = a.room in let h = a.small in omega arith

pub goes_within : FrontEquations → (page : List ℕ) (s t : Placing) (at len : ℕ) → length page ≡ 4096 → IsOpenPlace page s at → judged_at page at ≡ GoesOn len → t.places.items ≡ set s.places.items at (Some s.size) → (len ≤ 5) × (at + len ≤ 4096) × (at + len < length t.places.items)
goes_within laws page s t at len l o e put =
    let h = goes_short laws page at len e o.within in
    let a = o.placed.all in
    (h.1, omega (arith, h.2), omega (arith, h.2, ap length put, length-set s.places.items at (Some s.size)))
