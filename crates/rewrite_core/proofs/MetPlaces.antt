-- Which places a run can meet: those that can be reached in the page.
use Rattle.std.proofs.Common.{◌≡◌, ◌≢◌, ℕ, suc, ◌+◌, ◌%◌, ◌<◌, ◌≤◌, ◌&&◌, true, false, not, leb, List, length, drop, All, Option, Some, refl, sym, ap, ◌∙◌, subst, inl, inr, arith, length-drop}
use Rattle.std.proofs.lemmas.Bool.Decides.{leb_tells}
use Rattle.std.proofs.lemmas.List.Elements.{All-drop}
use Rattle.image.specs.declared.image.Image.{Image}
use Rattle.x86_types.specs.declared.instr.Instr.{Instr}
use Rattle.x86_types.specs.declared.instr.Instr.TheVariants.{Jmp, Int80}
use Rattle.x86_grammar.specs.Front.{front}
use Rattle.x86_grammar.specs.FrontLaws.{FrontIsSpelling, FrontEquations}
use Rattle.x86_code.specs.Code.{code_of}
use Rattle.rewrite_core.specs.declared.places.Judgement.{Judgement}
use Rattle.rewrite_core.specs.declared.places.Judgement.TheVariants.{GoesOn, Jumps, LeftOut}
use Rattle.rewrite_core.specs.Met.{mov_word, Met, entry, after_mov, after_call, target, IsFree, IsTaken}
use Rattle.rewrite_core.specs.Places.{is_apart, place_of, target_of, judged_at, Reached, first, on, jump, IsLeftOut, JumpsTo, Continues, StandsFor, IsLaid}
use Rattle.rewrite_core.proofs.Fronts.{taken_first, goes_mov, goes_call, goes_jump, Stood, by_none, by_mov, by_call, by_jump, by_first, by_constant, stood_as}
use Rattle.rewrite_core.proofs.PageAddresses.{place_after, place_jumped}
use Rattle.rewrite_core.proofs.PlainPage.{HasPage}

-- the tests of a constant
pub apart-true : (n : ℕ) → is_apart n ≡ true → IsFree n
apart-true n e = elim (leb_tells 0x60000000 n) [
  | inr h ↦ inl h.1
  | inl h ↦ elim (leb_tells (suc n) 0x7C000000) [
    | inr k ↦ inr (omega (arith, k.1))
    | inl k ↦ let bad : not (leb 0x60000000 n && leb (suc n) 0x7C000000) ≡ false = rw (h.0, k.0) refl in absurd (let z = sym e ∙ bad in cc)
  ]
]

true-apart : (n : ℕ) → IsFree n → is_apart n ≡ true
true-apart n (inl h) = elim (leb_tells 0x60000000 n) [ inl k ↦ absurd (omega (arith, k.1, h)) | inr k ↦ rw k.0 refl ]
true-apart n (inr h) = elim (leb_tells 0x60000000 n) [
  | inr k ↦ rw k.0 refl
  | inl k ↦ elim (leb_tells (suc n) 0x7C000000) [ inl q ↦ absurd (omega (arith, q.1, h)) | inr q ↦ rw (k.0, q.0) refl ]
]

-- an instruction stands and ends in the page
pub record IsWithin (p len : ℕ) : Type 0 where
  pub some : 1 ≤ len
  pub inside : p < 4096
  pub ends : p + len ≤ 4096

pub stands_within : FrontIsSpelling → (page : List ℕ) (p : ℕ) (i : Instr) (len : ℕ) → length page ≡ 4096 → All (λ b. b < 256) page → front (drop p page) ≡ Some (i, len) → IsWithin p len
stands_within spelling page p i len whole bytes e =
    let some = spelling.some (drop p page) i len (All-drop (λ b. b < 256) p page bytes) e in
    let there = spelling.there (drop p page) i len e in
    record { some = omega (arith, some); inside = omega (arith, some, there, length-drop p page); ends = omega (arith, some, there, length-drop p page) }

-- ---- what has a new place
module _ (page code : List ℕ) (laid : IsLaid page code) where
  pub stands_for : (p q : ℕ) (j : Judgement) → laid.table p ≡ Some q → judged_at page p ≡ j → StandsFor page code laid.table p q j
  stands_for p q j at e = subst (StandsFor page code laid.table p q) e (laid.stands p q at).1

  not_left_out : (p q : ℕ) → laid.table p ≡ Some q → judged_at page p ≢ LeftOut
  not_left_out p q at e = stands_for p q LeftOut at e

  goes_placed : (p q len : ℕ) → laid.table p ≡ Some q → judged_at page p ≡ GoesOn len → (to : ℕ) × (laid.table (p + len) ≡ Some to)
  goes_placed p q len at e = continues (stands_for p q (GoesOn len) at e).1
    where
      continues : Continues code laid.table (q + len) (p + len) → (to : ℕ) × (laid.table (p + len) ≡ Some to)
      continues (inl h) = (q + len, h)
      continues (inr j) = (j.to, j.at)

  jumps_placed : (p q to : ℕ) → laid.table p ≡ Some q → judged_at page p ≡ Jumps to → (r : ℕ) × (laid.table to ≡ Some r)
  jumps_placed p q to at e = let j : JumpsTo code laid.table q to = stands_for p q (Jumps to) at e in (j.to, j.at)

-- ---- an image whose code is a page
module _ (spelling : FrontIsSpelling) (equations : FrontEquations) (image : Image) (page : List ℕ) (has : HasPage image page) where
  spelled_at : (a : ℕ) (o : Option (Instr × ℕ)) → code_of image a ≡ o → front (drop (place_of a) page) ≡ o
  spelled_at a o e = sym (has.stands a) ∙ e

  within_at : (a : ℕ) (i : Instr) (len : ℕ) → code_of image a ≡ Some (i, len) → IsWithin (place_of a) len
  within_at a i len e = stands_within spelling page (place_of a) i len has.whole has.bytes (spelled_at a (Some (i, len)) e)

  module _ (code : List ℕ) (laid : IsLaid page code) where
    abbrev HasNew : ℕ → Type 0
    HasNew p = (q : ℕ) × (laid.table p ≡ Some q)

    -- a run that goes on from a place that has a new one comes to one that has
    next_placed : (a q : ℕ) (i : Instr) (len : ℕ) → laid.table (place_of a) ≡ Some q → code_of image a ≡ Some (i, len) → judged_at page (place_of a) ≡ GoesOn len → HasNew (place_of (a + len))
    next_placed a q i len at e g =
        let w = within_at a i len e in
        let next = goes_placed page code laid (place_of a) q len at g in
        (next.0, ap laid.table (place_after a len w.inside w.ends) ∙ next.1)

    -- each met place has a new one
    met_placed : {a : ℕ} → Met image a → HasNew (place_of a)
    met_placed entry = (0, ap (λ (x : ℕ). laid.table (place_of x)) has.entry_is ∙ laid.first)
    met_placed (after_mov {a} to from len m e) =
        let at = met_placed m in
        let left = not_left_out page code laid (place_of a) at.0 at.1 in
        next_placed a at.0 (mov_word to from) len at.1 e (goes_mov equations (place_of a) (drop (place_of a) page) to from len left (spelled_at a _ e)).0
    met_placed (after_call {a} len m e) =
        let at = met_placed m in
        let left = not_left_out page code laid (place_of a) at.0 at.1 in
        next_placed a at.0 Int80 len at.1 e (goes_call equations (place_of a) (drop (place_of a) page) len left (spelled_at a _ e))
    met_placed (target {a} by len m e) =
        let at = met_placed m in
        let left = not_left_out page code laid (place_of a) at.0 at.1 in
        let w = within_at a (Jmp by) len e in
        let g = goes_jump equations (place_of a) (drop (place_of a) page) by len left (spelled_at a _ e) in
        let next = jumps_placed page code laid (place_of a) at.0 (target_of (place_of a + len) by) at.1 g in
        (next.0, ap laid.table (sym (place_jumped a len by w.inside)) ∙ next.1)

    -- so a page that has new code is taken
    pub laid_is_taken : IsTaken image
    laid_is_taken = record {
      begins = λ a b m e.
          let at = met_placed m in
          taken_first (place_of a) (drop (place_of a) page) b (not_left_out page code laid (place_of a) at.0 at.1) (sym (has.byte_is a) ∙ e);
      apart = λ a to from len m e.
          let at = met_placed m in
          let left = not_left_out page code laid (place_of a) at.0 at.1 in
          apart-true from (goes_mov equations (place_of a) (drop (place_of a) page) to from len left (spelled_at a _ e)).1;
    }

  -- ---- what is left out
  -- a place of a met address
  record IsMet (p : ℕ) : Type 0 where
    address : ℕ
    met : Met image address
    place : place_of address ≡ p

  stood_at : (p : ℕ) (j : Judgement) (m : IsMet p) → judged_at page p ≡ j → Stood (place_of m.address) (drop (place_of m.address) page) j
  stood_at p j m e = stood_as equations (place_of m.address) (drop (place_of m.address) page) j (ap (judged_at page) m.place ∙ e)

  code_at : (a : ℕ) (o : Option (Instr × ℕ)) → front (drop (place_of a) page) ≡ o → code_of image a ≡ o
  code_at a o e = has.stands a ∙ e

  on_met : (p a len : ℕ) (i : Instr) → place_of a ≡ p → code_of image a ≡ Some (i, len) → Met image (a + len) → IsMet (p + len)
  on_met p a len i e c m =
      let w = within_at a i len c in
      record { address = a + len; met = m; place = place_after a len w.inside w.ends ∙ ap (λ (k : ℕ). k + len) e }

  goes_met : (p a n : ℕ) (j : Judgement) → place_of a ≡ p → Met image a → Stood (place_of a) (drop (place_of a) page) j → j ≡ GoesOn n → IsMet (p + n)
  goes_met p a n _ e m (by_none c) q = cc
  goes_met p a n _ e m (by_mov to from len c h) q =
      let same : len ≡ n = cc in
      let s = code_at a _ c in
      subst (λ (k : ℕ). IsMet (p + k)) same (on_met p a len (mov_word to from) e s (after_mov to from len m s))
  goes_met p a n _ e m (by_call len c) q =
      let same : len ≡ n = cc in
      let s = code_at a _ c in
      subst (λ (k : ℕ). IsMet (p + k)) same (on_met p a len Int80 e s (after_call len m s))
  goes_met p a n _ e m (by_jump by len c) q = cc
  goes_met p a n _ e m (by_first b c h) q = cc
  goes_met p a n _ e m (by_constant to from len c h) q = cc

  jumps_met : (a to : ℕ) (j : Judgement) → Met image a → Stood (place_of a) (drop (place_of a) page) j → j ≡ Jumps to → IsMet to
  jumps_met a to _ m (by_none c) q = cc
  jumps_met a to _ m (by_mov r from len c h) q = cc
  jumps_met a to _ m (by_call len c) q = cc
  jumps_met a to _ m (by_jump by len c) q =
      let same : target_of (place_of a + len) by ≡ to = cc in
      let s = code_at a _ c in
      let w = within_at a (Jmp by) len s in
      record { address = (a + len + by) % 4294967296; met = target by len m s; place = sym (place_jumped a len by w.inside) ∙ same }
  jumps_met a to _ m (by_first b c h) q = cc
  jumps_met a to _ m (by_constant r from len c h) q = cc

  -- each place that can be reached is that of a met address
  reached_met : {p : ℕ} → Reached page p → IsMet p
  reached_met first = record { address = image.entry; met = entry; place = ap place_of has.entry_is }
  reached_met (on {p} len r e) = let m = reached_met r in goes_met p m.address len _ m.place m.met (stood_at p (GoesOn len) m e) refl
  reached_met (jump {p} to r e) = let m = reached_met r in jumps_met m.address to _ m.met (stood_at p (Jumps to) m e) refl

  never_left : (a : ℕ) (j : Judgement) → IsTaken image → Met image a → Stood (place_of a) (drop (place_of a) page) j → j ≡ LeftOut → ⊥
  never_left a _ t m (by_none c) q = cc
  never_left a _ t m (by_mov to from len c h) q = cc
  never_left a _ t m (by_call len c) q = cc
  never_left a _ t m (by_jump by len c) q = cc
  never_left a _ t m (by_first b c h) q = let z = t.begins a b m (has.byte_is a ∙ c) in cc
  never_left a _ t m (by_constant to from len c h) q = let z = true-apart from (t.apart a to from len m (code_at a _ c)) in cc

  -- so a page that has a place that is left out isn't taken
  pub left_out_is_not_taken : IsLeftOut page → IsTaken image → ⊥
  left_out_is_not_taken l t =
      let m = reached_met l.reached in
      never_left m.address LeftOut t m.met (stood_at l.at LeftOut m l.left_out) refl
