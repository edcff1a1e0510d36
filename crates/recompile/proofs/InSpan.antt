-- Found code lies in the span of the code.
use Rattle.std.proofs.Common.{◌≡◌, ◌≢◌, ℕ, ◌+◌, ◌-◌, ◌<◌, ◌≤◌, ◌&&◌, Bool, true, false, max, min, cond, leb, ltb, List, [], ◌∷◌, map, filter, find, Option, Some, None, refl, sym, ap, ◌∙◌, subst, arith}
use Rattle.std.proofs.lemmas.Bool.{and_parts, leb-true, ltb-true}
use Rattle.image.specs.declared.image.Segment.{Segment}
use Rattle.image.specs.declared.image.Image.{Image}
use Rattle.image.specs.Addresses.{holds, segment_at, code_byte_in, code_byte_at}
use Rattle.image.specs.Rooms.{greatest, least}
use Rattle.image.specs.Wanted.{segment_end, is_code, span_of_code}
use Rattle.x86_types.specs.declared.instr.Instr.{Instr}
use Rattle.x86_code.specs.Code.{code_of}
use Rattle.x86_code.specs.CodeLaws.{CodeLaws}
use Rattle.code_layout.specs.Layouts.{span_start}

abbrev start_of : Segment → ℕ
start_of s = s.start

-- an address lies between the least start and the greatest end
pub record LiesAmong (a : ℕ) (ss : List Segment) : Type 0 where
  pub from : least (map start_of ss) ≤ a
  pub to : a < greatest (map segment_end ss)

among_first : (a : ℕ) (s : Segment) (ss : List Segment) → holds a s ≡ true → LiesAmong a (s ∷ ss)
among_first a s ss h =
    let parts = and_parts (leb s.start a) (ltb a (s.start + s.size)) h in
    let low = leb-true s.start a parts.0 in
    let high = ltb-true a (s.start + s.size) parts.1 in
    record { from = from ss low; to = omega (arith, high) }
  where
    from : (ss : List Segment) → s.start ≤ a → least (map start_of (s ∷ ss)) ≤ a
    from [] low = low
    from (t ∷ ss) low = omega (arith, low)

among_more : (a : ℕ) (s : Segment) (ss : List Segment) → LiesAmong a ss → LiesAmong a (s ∷ ss)
among_more a s [] h = let to = h.to in absurd (omega (arith, to))
among_more a s (t ∷ ss) h = let from = h.from in let to = h.to in record { from = omega (arith, from); to = omega (arith, to) }

-- the segment at an address is among those that can be run, where it can be
in_codes : (a : ℕ) (ss : List Segment) (s : Segment) → find (holds a) ss ≡ Some s → is_code s ≡ true → LiesAmong a (filter is_code ss)
in_codes a [] s e code = absurd (cc e)
in_codes a (t ∷ ss) s e code = by (holds a t) (is_code t) refl refl (λ f. in_codes a ss s f code)
  where
    by : (h c : Bool) → holds a t ≡ h → is_code t ≡ c → (find (holds a) ss ≡ Some s → LiesAmong a (filter is_code ss)) → LiesAmong a (filter is_code (t ∷ ss))
    by true true h c rest = rw c (among_first a t (filter is_code ss) h)
    by true false h c rest =
        let same : Some t ≡ Some s = rw h at e in
        let is : t ≡ s = cc same in
        let no : true ≡ false = sym code ∙ (ap is_code (sym is) ∙ c) in
        absurd (cc no)
    by false true h c rest = rw c (among_more a t (filter is_code ss) (rest (rw h at e)))
    by false false h c rest = rw c (rest (rw h at e))

module _ (laws : CodeLaws) (image : Image) where
  byte_in_codes : (a : ℕ) → code_byte_at image a ≢ None → LiesAmong a (filter is_code image.segments)
  unfolding segment_at
  byte_in_codes a some = by (find (holds a) image.segments) refl
    where
      by_code : (s : Segment) (b : Bool) → find (holds a) image.segments ≡ Some s → is_code s ≡ b → LiesAmong a (filter is_code image.segments)
      by_code s true e c = in_codes a image.segments s e c
      by_code s false e c = absurd (some (ap (code_byte_in a) e ∙ (rw c refl)))

      by : (o : Option Segment) → find (holds a) image.segments ≡ o → LiesAmong a (filter is_code image.segments)
      by None e = absurd (some (ap (code_byte_in a) e))
      by (Some s) e = by_code s (is_code s) e refl

  stands_in_codes : (a : ℕ) (i : Instr) (len : ℕ) → code_of image a ≡ Some (i, len) → LiesAmong a (filter is_code image.segments)
  stands_in_codes a i len is = byte_in_codes a (λ none. let no : None ≡ Some (i, len) = sym (laws.none image a none) ∙ is in absurd (cc no))

  pub in_span : (a : ℕ) (i : Instr) (len : ℕ) → code_of image a ≡ Some (i, len) → (span_start image.segments ≤ a) × (a < span_start image.segments + span_of_code image.segments)
  in_span a i len is =
      let among = stands_in_codes a i len is in
      let from = among.from in
      let to = among.to in
      (from, omega (arith, from, to))
