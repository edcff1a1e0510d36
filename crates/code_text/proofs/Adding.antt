-- The places of blocks, of which one after the other is added.
use Rattle.std.proofs.Common.{◌≡◌, ℕ, ◌+◌, ◌<◌, ◌==◌, ◌&&◌, Bool, true, false, not, cond, List, [], ◌∷◌, length, refl, sym, ap, ap₂, ◌∙◌, subst, arith}
use Rattle.std.proofs.lemmas.Bool.Decides.{nat_tests}
use Rattle.named_code.specs.Items.{Item, CodeBlock}
use Rattle.laid_code.specs.Laid.{Places}
use Rattle.code_text.specs.declared.places.CodePlaces.{CodePlaces}
use Rattle.code_text.specs.KeptPlaces.{code_start, table_start, first_place, places_in, sized, HasNoPlaces, AddsPlace, GoesOn, ArePlacesOf}
use Rattle.code_text.specs.Placing.{items_size, beginning_size, numbered_from, addressed_from}
use Rattle.code_text.specs.Sizes.{SizeLaws}
use Rattle.code_text.specs.Texts.{stores_text}

-- ---- the first of two places, and of a third
then_more : (p q r : ℕ) (t : Bool) → 0 < q → first_place (first_place p (cond t q 0)) r ≡ first_place p (cond t q r)
then_more p q r true some = grind (arith, nat_tests, some)
then_more p q r false some = grind (arith, nat_tests, some)

then_none : (p : ℕ) → first_place p 0 ≡ p
then_none p = grind (arith, nat_tests)

-- ---- what is kept so far, and what is left
pub record Keeps (before now : Places) (first place : ℕ) (all rest : List CodeBlock) : Type 0 where
  pub numbers : (n : ℕ) → first_place (now.by_number n) (numbered_from (sized before.span before.count) place n rest) ≡ first_place (before.by_number n) (numbered_from (sized before.span before.count) first n all)
  pub addresses : (a : ℕ) → first_place (now.by_address a) (addressed_from (sized before.span before.count) place a rest) ≡ first_place (before.by_address a) (addressed_from (sized before.span before.count) first a all)
  pub span : now.span ≡ before.span
  pub count : now.count ≡ before.count
  pub stop : now.stop ≡ before.stop

pub keeps_first : (l : Places) (first : ℕ) (all : List CodeBlock) → Keeps l l first first all all
keeps_first l first all = record { numbers = λ n. refl; addresses = λ a. refl; span = refl; count = refl; stop = refl }

module _ (before mid now : Places) (first place size : ℕ) (all : List CodeBlock) (b : CodeBlock) (rest : List CodeBlock) where
  pub keeps_more : Keeps before mid first place all (b ∷ rest) → AddsPlace mid now b.number b.at place → 0 < place → size ≡ items_size (sized before.span before.count) b.items → Keeps before now first (place + size) all rest
  unfolding numbered_from addressed_from
  keeps_more h adds some is =
      let l = sized before.span before.count in
      record {
        numbers = λ n.
            let r = numbered_from l (place + items_size l b.items) n rest in
            ap₂ first_place (adds.numbers n) (ap (λ s. numbered_from l (place + s) n rest) is) ∙ (then_more (mid.by_number n) place r (b.number == n) some ∙ h.numbers n);
        addresses = λ a.
            let r = addressed_from l (place + items_size l b.items) a rest in
            ap₂ first_place (adds.addresses a) (ap (λ s. addressed_from l (place + s) a rest) is) ∙ (then_more (mid.by_address a) place r (not (a == 0) && (b.at == a)) some ∙ h.addresses a);
        span = adds.span ∙ h.span;
        count = adds.count ∙ h.count;
        stop = adds.stop ∙ h.stop;
      }

keeps_nil : (before now : Places) (first place : ℕ) (all : List CodeBlock) → Keeps before now first place all [] → GoesOn before now first all
unfolding numbered_from addressed_from
keeps_nil before now first place all k = record {
  numbers = λ n. sym (then_none (now.by_number n)) ∙ k.numbers n;
  addresses = λ a. sym (then_none (now.by_address a)) ∙ k.addresses a;
  span = k.span;
  count = k.count;
  stop = k.stop;
}

pub keeps_all : (before now : Places) (first place : ℕ) (all rest : List CodeBlock) → rest ≡ [] → Keeps before now first place all rest → GoesOn before now first all
keeps_all before now first place all rest end h = keeps_nil before now first place all (subst (Keeps before now first place all) end h)

-- ---- sizes hang on the span and the table alone
module _ (laws : SizeLaws) (l : Places) (table : l.table ≡ table_start) where
  abbrev plain : Places
  plain = sized l.span l.count

  items_same : (xs : List Item) → items_size l xs ≡ items_size plain xs
  unfolding items_size
  items_same [] = refl
  items_same (x ∷ xs) = ap₂ (λ n m. n + m) (laws.same l x.instr table) (items_same xs)

  numbered_same : (q n : ℕ) (bs : List CodeBlock) → numbered_from plain q n bs ≡ numbered_from l q n bs
  unfolding numbered_from
  numbered_same q n [] = refl
  numbered_same q n (b ∷ bs) = ap (cond (b.number == n) q) (numbered_same (q + items_size plain b.items) n bs ∙ ap (λ s. numbered_from l (q + s) n bs) (sym (items_same b.items)))

  addressed_same : (q a : ℕ) (bs : List CodeBlock) → addressed_from plain q a bs ≡ addressed_from l q a bs
  unfolding addressed_from
  addressed_same q a [] = refl
  addressed_same q a (b ∷ bs) = ap (cond (not (a == 0) && (b.at == a)) q) (addressed_same (q + items_size plain b.items) a bs ∙ ap (λ s. addressed_from l (q + s) a bs) (sym (items_same b.items)))

-- ---- the places of all blocks, added to none
module _ (laws : SizeLaws) (empty new : CodePlaces) (cell span count stop : ℕ) (blocks : List CodeBlock) where
  pub placed_all : HasNoPlaces span count stop empty → GoesOn (places_in empty) (places_in new) (stop + 2) blocks → stop ≡ code_start + length (stores_text cell) + 5 → ArePlacesOf blocks cell span count (places_in new)
  placed_all none goes at =
      let l = places_in new in
      let e = places_in empty in
      let first : stop + 2 ≡ code_start + beginning_size cell = omega (arith, at) in
      let same : sized e.span e.count ≡ sized l.span l.count = ap₂ sized (sym goes.span) (sym goes.count) in
      record {
        places = record {
          by_number = λ n.
              goes.numbers n ∙ (ap₂ first_place (none.numbers n) (ap (λ m. numbered_from m (stop + 2) n blocks) same) ∙ (numbered_same laws l refl (stop + 2) n blocks ∙ ap (λ q. numbered_from l q n blocks) first));
          by_address = λ a.
              goes.addresses a ∙ (ap₂ first_place (none.addresses a) (ap (λ m. addressed_from m (stop + 2) a blocks) same) ∙ (addressed_same laws l refl (stop + 2) a blocks ∙ ap (λ q. addressed_from l q a blocks) first));
          stop = goes.stop ∙ (none.stop ∙ at);
        };
        span = goes.span ∙ none.span;
        count = goes.count ∙ none.count;
        table = refl;
      }
