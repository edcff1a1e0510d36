-- The bytes of the parts are the new code of the page.
use Rattle.std.proofs.Common.{◌≡◌, ℕ, ◌+◌, ◌<◌, ◌≤◌, List, ◌∷◌, length, take, drop, get_or, Option, Some, None, refl, sym, ap, ◌∙◌, subst, inl, inr, arith, length-append, length-drop}
use Rattle.std.proofs.lemmas.List.{length-take, length-take-le}
use Rattle.rewrite_core.proofs.JudgedPlaces.{goes_short}
use Rattle.std.specs.Option.{unwrap_or}
use Rattle.std.proofs.Math.Seq.{get_or-append_seam}
use Rattle.x86_grammar.specs.FrontLaws.{FrontEquations}
use Rattle.rewrite_core.specs.declared.places.Judgement.{Judgement}
use Rattle.rewrite_core.specs.declared.places.Judgement.TheVariants.{GoesOn, Jumps, Ends, LeftOut}
use Rattle.rewrite_core.specs.declared.placing.Part.{Part}
use Rattle.rewrite_core.specs.declared.placing.Part.TheVariants.{Kept, Leads, Stops}
use Rattle.rewrite_core.specs.declared.placing.Placing.{Placing}
use Rattle.rewrite_core.specs.Places.{Table, judged_at, JumpsTo, Continues, StandsFor, IsLaid}
use Rattle.rewrite_core.specs.Placing.{place_at, part_size, jump_bytes, part_code, parts_code, Has, Leaves, Settled, HasPlace, IsMet, IsFinished}
use Rattle.rewrite_core.proofs.PartCodes.{length-code, has_code}
use Rattle.rewrite_core.proofs.PlacedParts.{place_within}

module _ (laws : FrontEquations) (page code : List ℕ) (small : length page ≡ 4096) (s : Placing) (f : IsFinished page s) (is : code ≡ parts_code page (place_at s.places.items) 0 s.parts.items) where
  abbrev TheTable : Table
  TheTable = place_at s.places.items

  stands_code : (q : ℕ) (part : Part) → Has s.parts.items q part → take (part_size part) (drop q code) ≡ part_code page TheTable q part
  stands_code q part h = ap (λ (bs : List ℕ). take (part_size part) (drop q bs)) is ∙ has_code page TheTable s.parts.items f.settled.fine q part h

  lead_met : (q to : ℕ) → Has s.parts.items q (Leads to) → HasPlace s.places.items to
  lead_met q to h =
      let l : length h.before < length s.parts.items = omega (arith, ap length h.is, length-append h.before (Leads to ∷ h.after)) in
      let there : get_or s.parts.items (length h.before) Stops ≡ Leads to = ap (λ (xs : List Part). get_or xs (length h.before) Stops) h.is ∙ get_or-append_seam h.before (Leads to) h.after Stops in
      subst (IsMet s.places.items) there (f.met (length h.before) Stops l)

  lead_jumps : (q to : ℕ) → Has s.parts.items q (Leads to) → JumpsTo code TheTable q to
  lead_jumps q to h =
      let m = lead_met q to h in
      record {
        to = m.0;
        at = m.1;
        jump = stands_code q (Leads to) h ∙ ap (λ (o : Option ℕ). jump_bytes q (unwrap_or o 0)) m.1;
      }

  continues : (q p : ℕ) → Leaves s.places.items s.parts.items s.size None q p → Continues code TheTable q p
  continues q p h =
      elim h [
        | inl e ↦ inl e
        | inr k ↦ elim k [ inl has ↦ inr (lead_jumps q p has) | inr e ↦ let z : None ≡ Some p = e.0 in cc ]
      ]

  stands_for : (p q : ℕ) (j : Judgement) → Settled s.places.items s.parts.items s.size None p q j → StandsFor page code TheTable p q j
  stands_for p q (GoesOn len) h = (stands_code q (Kept p len) h.0, continues (q + len) (p + len) h.1)
  stands_for p q (Jumps to) h = lead_jumps q to h
  stands_for p q Ends h = stands_code q Stops h
  stands_for p q LeftOut h = h

  code_length : length code ≡ s.size
  code_length = ap length is ∙ length-code page TheTable 0 s.parts.items f.settled.fine ∙ sym f.settled.sized

  part_there : (q : ℕ) (part : Part) → Has s.parts.items q part → 1 ≤ length (part_code page TheTable q part) → 1 ≤ length code
  part_there q part h l = omega (arith, ap length (stands_code q part h), length-take (part_size part) (drop q code), length-drop q code)

  first_there : (j : Judgement) → judged_at page 0 ≡ j → Settled s.places.items s.parts.items s.size None 0 0 j → 1 ≤ length code
  first_there (GoesOn len) e h =
      let short = goes_short laws page 0 len e (omega arith) in
      part_there 0 (Kept 0 len) h.0 (omega (arith, short.0, short.2, length-take-le len (drop 0 page) (omega (arith, short.2, length-drop 0 page))))
  first_there (Jumps to) e h = part_there 0 (Leads to) h (omega arith)
  first_there Ends e h = part_there 0 Stops h (omega arith)
  first_there LeftOut e h = absurd h

  pub laid : IsLaid page code
  laid = record {
    table = TheTable;
    first = f.first;
    stands = λ p q e.
        let w = place_within s.places.items p q e in
        let a = f.settled.all in
        (omega (arith, w), stands_for p q (judged_at page p) (f.settled.settled p q e));
    straight = λ n r e. is ∙ (f.list n r e).code TheTable;
    some = first_there (judged_at page 0) refl (f.settled.settled 0 0 f.first);
    few = let r = f.settled.room in let h = f.settled.small in omega (arith, code_length);
  }
