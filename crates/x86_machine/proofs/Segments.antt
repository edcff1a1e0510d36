-- The first segment that has an address, found one by one, and in segments without the bytes that can't be run.
use Rattle.std.proofs.Common.{◌≡◌, ℕ, zero, suc, ◌+◌, ◌<◌, ◌≤◌, Bool, true, false, cond, List, [], ◌∷◌, map, length, drop, get_or, find, Option, Some, None, refl, sym, ap, ◌∙◌}
use Rattle.std.proofs.lemmas.List.{at_drop_more, at_drop_all}
use Rattle.std.specs.Option.{option_map}
use Rattle.image.specs.declared.image.Segment.{Segment}
use Rattle.image.specs.declared.image.Image.{Image}
use Rattle.image.specs.Addresses.{has, holds, segment_at, segment_byte, code_byte_in, code_byte_at, code_bytes, then_code}
use Rattle.image.specs.Wanted.{image_with}
use Rattle.x86_grammar.specs.Front.{front}
use Rattle.x86_code.specs.Code.{code_of}
use Rattle.x86_machine.specs.Kept.{code_segment, code_by}

module _ (p : Segment → Bool) where
  pub find_more : (ss : List Segment) (i : ℕ) (s : Segment) → i < length ss → s ≡ get_or ss i s → find p (drop i ss) ≡ cond (p s) (Some s) (find p (drop (i + 1) ss))
  find_more ss i s within is = at_drop_more (find p) ss i s within ∙ ap (λ k. cond (p k) (Some k) (find p (drop (i + 1) ss))) (sym is)

  pub find_none : (ss : List Segment) (i : ℕ) → length ss ≤ i → find p (drop i ss) ≡ None
  find_none ss i past = at_drop_all (find p) ss i past

-- the same is found
found_by : (f : Segment → Segment) (a : ℕ) (s : Segment) (o p : Option Segment) (b : Bool) → o ≡ option_map f p → cond b (Some (f s)) o ≡ option_map f (cond b (Some s) p)
found_by f a s o p true e = refl
found_by f a s o p false e = e

find-code : (a : ℕ) (ss : List Segment) → find (holds a) (map code_segment ss) ≡ option_map code_segment (find (holds a) ss)
find-code a [] = refl
find-code a (s ∷ ss) = found_by code_segment a s (find (holds a) (map code_segment ss)) (find (holds a) ss) (holds a s) (find-code a ss)

-- and so is its byte
byte_by : (a : ℕ) (s : Segment) (b : Bool) → cond b (Some (segment_byte a (record s { bytes = cond b s.bytes [] }))) None ≡ cond b (Some (segment_byte a s)) None
byte_by a s true = refl
byte_by a s false = refl

code_byte-code : (a : ℕ) (o : Option Segment) → code_byte_in a (option_map code_segment o) ≡ code_byte_in a o
code_byte-code a None = refl
code_byte-code a (Some s) = byte_by a s (has s.perm.0 1)

code_byte-same : (image : Image) (entry a : ℕ) → code_byte_at (image_with (map code_segment image.segments) entry) a ≡ code_byte_at image a
unfolding segment_at
code_byte-same image entry a = ap (code_byte_in a) (find-code a image.segments) ∙ code_byte-code a (find (holds a) image.segments)

code_bytes-same : (image : Image) (entry a n : ℕ) → code_bytes (image_with (map code_segment image.segments) entry) a n ≡ code_bytes image a n
unfolding code_bytes
code_bytes-same image entry a zero = refl
code_bytes-same image entry a (suc n) = ap (λ b. then_code b (code_bytes (image_with (map code_segment image.segments) entry) (a + 1) n)) (code_byte-same image entry a) ∙ ap (then_code (code_byte_at image a)) (code_bytes-same image entry (a + 1) n)

-- so they have the same instructions
pub code_same : (image : Image) → code_by (map code_segment image.segments) ≡ code_of image
unfolding code_by code_of
code_same image = λ i a. ap front (code_bytes-same image 0 a 15) i
