-- A run that is followed, and the parts that are met one after another.
use Rattle.std.proofs.Common.{◌≡◌, ◌⊎◌, ℕ, ◌+◌, ◌<◌, ◌≤◌, List, [], length, take, replicate, get_or, All, Bool, true, false, Option, Some, None, Result, Ok, Err, IfOk, refl, sym, ap, ◌∙◌, subst, inl, inr, arith}
use Rattle.std.proofs.lemmas.List.{take-take, length-take, take_all, length-replicate, get_or-replicate, get_or_past}
use Rattle.std.proofs.lemmas.Bool.{cases_lt}
use Rattle.std.proofs.lemmas.List.Folds.{sum_by-replicate}
use Rattle.std.proofs.lemmas.List.Elements.{All-more, All-weaker, All-nil}
use Rattle.std.specs.Bool.{MatchBool}
use Rattle.rewrite_core.specs.declared.places.Judgement.{Judgement}
use Rattle.rewrite_core.specs.declared.places.Judgement.TheVariants.{GoesOn, Jumps, Ends, LeftOut}
use Rattle.rewrite_core.specs.declared.placing.Part.{Part}
use Rattle.rewrite_core.specs.declared.placing.Part.TheVariants.{Kept, Leads, Stops}
use Rattle.rewrite_core.specs.declared.placing.Next.TheVariants.{On, Done}
use Rattle.rewrite_core.specs.declared.placing.Placing.{Placing}
use Rattle.rewrite_core.specs.Places.{judged_at, Reached, first, first_of}
use Rattle.rewrite_core.proofs.PartCodes.{code-nil}
use Rattle.rewrite_core.specs.Placing.{place_at, parts_size, parts_code, is_wanting, wanting, IsFinished, Leaves, Settled, ArePlaced, IsNoJump, IsMetBy, IsOpenPlace, IsSettled, Grew, HasPlace, Begins, IsList, IsPlaced, IsFollowed, IsFine, IsMet}
use Rattle.rewrite_core.proofs.PlacedParts.{grows_same, grows_on}

pub grew_on : (s t u : Placing) → Grew s t → Grew t u → Grew s u
grew_on s t u g h = grows_on s.places.items t.places.items u.places.items s.parts.items t.parts.items u.parts.items g h

-- ---- a run that has come from one place to another
pub record IsFollowing (page : List ℕ) (s t : Placing) (from at : ℕ) : Type 0 where
  pub opened : IsOpenPlace page t at
  pub grew : Grew s t
  pub placed : ((at ≡ from) × (t.size ≡ s.size)) ⊎ (place_at t.places.items from ≡ Some s.size)
  pub begins : Begins page s from → Begins page t at

pub following_none : (page : List ℕ) (s : Placing) (from : ℕ) → IsOpenPlace page s from → IsFollowing page s s from from
following_none page s from o = record { opened = o; grew = grows_same s.places.items s.parts.items; placed = inl (refl, refl); begins = λ b. b }

from_placed : (s t u : Placing) (from at : ℕ) → ((at ≡ from) × (t.size ≡ s.size)) ⊎ (place_at t.places.items from ≡ Some s.size) → Grew t u → place_at u.places.items at ≡ Some t.size → place_at u.places.items from ≡ Some s.size
from_placed s t u from at h g p = elim h [ inl e ↦ ap (place_at u.places.items) (sym e.0) ∙ p ∙ ap (λ (n : ℕ). Some n) e.1 | inr k ↦ g.keeps from s.size k ]

pub following_more : (page : List ℕ) (s t u : Placing) (from at next : ℕ) → IsFollowing page s t from at → IsPlaced page t u at (On next) → IsFollowing page s u from next
following_more page s t u from at next f p = record {
  opened = p.goes.1;
  grew = grew_on s t u f.grew p.grew;
  placed = inr (from_placed s t u from at f.placed p.grew p.placed);
  begins = λ b. p.list (f.begins b);
}

pub followed : (page : List ℕ) (s t u : Placing) (from at : ℕ) → IsFollowing page s t from at → IsPlaced page t u at Done → IsFollowed page s u from
followed page s t u from at f p = record {
  settled = p.goes;
  grew = grew_on s t u f.grew p.grew;
  placed = from_placed s t u from at f.placed p.grew p.placed;
  list = λ b. p.list (f.begins b);
}

-- ---- the parts that are met
leaves_any : (places : List (Option ℕ)) (parts : List Part) (size : ℕ) (next : Option ℕ) (q p : ℕ) → Leaves places parts size None q p → Leaves places parts size next q p
leaves_any places parts size next q p h =
    elim h [
      | inl e ↦ inl e
      | inr k ↦ elim k [ inl has ↦ inr (inl has) | inr e ↦ let z : None ≡ Some p = e.0 in cc ]
    ]

settled_any : (places : List (Option ℕ)) (parts : List Part) (size : ℕ) (next : Option ℕ) (p q : ℕ) (j : Judgement) → Settled places parts size None p q j → Settled places parts size next p q j
settled_any places parts size next p q (GoesOn len) h = (h.0, leaves_any places parts size next (q + len) (p + len) h.1)
settled_any places parts size next p q (Jumps to) h = h
settled_any places parts size next p q Ends h = h
settled_any places parts size next p q LeftOut h = h

any_next : (page : List ℕ) (places : List (Option ℕ)) (parts : List Part) (size : ℕ) (next : Option ℕ) → ArePlaced page places parts size None → ArePlaced page places parts size next
any_next page places parts size next s = record {
  all = s.all;
  settled = λ p q e. settled_any places parts size next p q (judged_at page p) (s.settled p q e);
  fine = s.fine;
  sized = s.sized;
  small = s.small;
  room = s.room;
}

module _ (page : List ℕ) (s : Placing) (settled : IsSettled page s) (index : ℕ) (h : index < length s.parts.items) where
  pub part_fine : IsFine page (get_or s.parts.items index Stops)
  part_fine = settled.fine index Stops h

  module _ (to : ℕ) (is : get_or s.parts.items index Stops ≡ Leads to) where
    lead_fine : (to ≤ length page) × Reached page to
    lead_fine = subst (IsFine page) is part_fine

    pub lead_within : to < length s.places.items
    lead_within = let a = settled.all in omega (arith, lead_fine.0)

    pub lead_open : place_at s.places.items to ≡ None → IsOpenPlace page s to
    lead_open free = record { placed = any_next page s.places.items s.parts.items s.size (Some to) settled; free = free; reached = lead_fine.1; within = lead_fine.0 }

    pub met_there : HasPlace s.places.items to → IsMetBy page s s index
    met_there there = record { settled = settled; grew = grows_same s.places.items s.parts.items; met = subst (IsMet s.places.items) (sym is) there; list = λ l. l }

    pub met_by_run : (t : Placing) → IsFollowed page s t to → IsMetBy page s t index
    met_by_run t f = record {
      settled = f.settled;
      grew = f.grew;
      met = subst (IsMet t.places.items) (sym is) (s.size, f.placed);
      list = λ l n r e. absurd (subst IsNoJump is ((l n r e).no_jump index Stops h));
    }

  pub met_else : ((to : ℕ) → get_or s.parts.items index Stops ≡ Leads to → ⊥) → IsMetBy page s s index
  met_else other = record { settled = settled; grew = grows_same s.places.items s.parts.items; met = met_of (get_or s.parts.items index Stops) other; list = λ l. l }
    where
      met_of : (part : Part) → ((to : ℕ) → part ≡ Leads to → ⊥) → IsMet s.places.items part
      met_of (Kept from len) f = tt
      met_of (Leads to) f = absurd (f to refl)
      met_of Stops f = tt

-- what holds where a run is followed
pub where_true : {E P Q : Type 0} (R : Type 0) (f : P → Q) (r : Result Bool E) → IfOk r (λ b. MatchBool b P R) → IfOk r (λ b. MatchBool b Q R)
where_true R f (Ok true) h = f h
where_true R f (Ok false) h = h
where_true R f (Err e) h = h

-- the parts before one of them are met
pub record IsMeeting (page : List ℕ) (s : Placing) (index : ℕ) : Type 0 where
  pub settled : IsSettled page s
  pub first : place_at s.places.items 0 ≡ Some 0
  pub met : All (IsMet s.places.items) (take index s.parts.items)
  pub list : IsList page s

met_still : (places new : List (Option ℕ)) → ((p q : ℕ) → place_at places p ≡ Some q → place_at new p ≡ Some q) → (part : Part) → IsMet places part → IsMet new part
met_still places new keeps (Kept from len) h = tt
met_still places new keeps (Leads to) h = (h.0, keeps to h.0 h.1)
met_still places new keeps Stops h = tt

pub meeting_more : (page : List ℕ) (s t : Placing) (index : ℕ) → index < length s.parts.items → IsMeeting page s index → IsMetBy page s t index → IsMeeting page t (index + 1)
meeting_more page s t index h m by = record {
  settled = by.settled;
  first = by.grew.keeps 0 0 m.first;
  met =
      let before = All-weaker (IsMet s.places.items) (IsMet t.places.items) (met_still s.places.items t.places.items by.grew.keeps) (take index s.parts.items) m.met in
      let through = All-more (IsMet t.places.items) s.parts.items index Stops h before by.met in
      let more : length s.parts.items ≤ length t.parts.items = omega (arith, ap length by.grew.begins, length-take (length s.parts.items) t.parts.items) in
      let same : take (index + 1) s.parts.items ≡ take (index + 1) t.parts.items = ap (take (index + 1)) (sym by.grew.begins) ∙ take-take (index + 1) (length s.parts.items) t.parts.items (omega arith) in
      subst (All (IsMet t.places.items)) same through;
  list = by.list m.list;
}

pub meeting_all : (page : List ℕ) (s : Placing) (index : ℕ) → length s.parts.items ≤ index → IsMeeting page s index → IsFinished page s
meeting_all page s index h m = record { settled = m.settled; first = m.first; met = subst (All (IsMet s.places.items)) (take_all index s.parts.items h) m.met; list = m.list }

pub meeting_room : (page : List ℕ) (s : Placing) (index : ℕ) → length page ≡ 4096 → IsMeeting page s index → length s.parts.items ≤ 8194
meeting_room page s index l m = let r = m.settled.room in omega arith

-- ---- the start: nothing is placed yet
abbrev no_place : Option ℕ
no_place = None

none_placed : (n p : ℕ) → place_at (replicate n None) p ≡ None
none_placed n p = elim (cases_lt p n) [ inl h ↦ get_or-replicate n p None None h | inr h ↦ get_or_past (replicate n no_place) p None (omega (arith, length-replicate n no_place)) ]

pub open_first : (page : List ℕ) (s : Placing) → length page ≡ 4096 → s.places.items ≡ replicate 4097 None → s.parts.items ≡ [] → s.size ≡ 0 → IsOpenPlace page s 0
open_first page s l p e z =
    let none : (q : ℕ) → place_at s.places.items q ≡ None = λ q. ap (λ (x : List (Option ℕ)). place_at x q) p ∙ none_placed 4097 q in
    record {
      placed = record {
        all = omega (arith, ap length p, length-replicate 4097 no_place);
        settled = λ a q f. let n : None ≡ Some q = sym (none a) ∙ f in cc;
        fine = subst (All (IsFine page)) (sym e) (All-nil (IsFine page));
        sized = z ∙ sym (ap parts_size e);
        small = omega arith;
        room = omega (arith, ap length e, ap wanting p, sum_by-replicate is_wanting 4097 no_place);
      };
      free = none 0;
      reached = first;
      within = omega arith;
    }

pub begins_first : (page : List ℕ) (s : Placing) → s.places.items ≡ replicate 4097 None → s.parts.items ≡ [] → Begins page s 0
begins_first page s p e = record {
  straight = first_of;
  code = λ table. ap (parts_code page table 0) e ∙ code-nil page table 0;
  no_jump = subst (All IsNoJump) (sym e) (All-nil IsNoJump);
  below = λ a q f. let n : None ≡ Some q = sym (ap (λ (x : List (Option ℕ)). place_at x a) p ∙ none_placed 4097 a) ∙ f in cc;
}

pub meeting_none : (page : List ℕ) (s t : Placing) → IsFollowed page s t 0 → Begins page s 0 → s.size ≡ 0 → IsMeeting page t 0
meeting_none page s t f b z = record { settled = f.settled; first = f.placed ∙ ap (λ (n : ℕ). Some n) z; met = All-nil (IsMet t.places.items); list = f.list b }
