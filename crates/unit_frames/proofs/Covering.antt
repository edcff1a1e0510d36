-- What is found among frames, by what is kept of them.
use Rattle.std.proofs.Common.{◌≡◌, ℕ, ◌+◌, ◌<◌, ◌^◌, ◌==◌, ◌&&◌, ◌||◌, Bool, true, false, cond, List, [], ◌∷◌, take, Option, Some, None, refl, sym, ap, ◌∙◌, arith}
use Rattle.std.specs.List.{find}
use Rattle.std.specs.Option.{option_map, is_some}
use Rattle.std.proofs.lemmas.Bool.{eqb-true}
use Rattle.std.proofs.lemmas.List.{take-map}
use Rattle.x86_values.specs.declared.byte.Byte.{Byte}
use Rattle.x86_values.specs.declared.byte.Byte.TheVariants.{Known}
use Rattle.x86_values.specs.declared.word.Word.{Word}
use Rattle.x86_values.specs.Sizes.{IsSize}
use Rattle.memory.specs.Memory.{Memory, wrapped}
use Rattle.flag_ir.specs.declared.procedure.Proc.{Proc}
use Rattle.flag_ir.specs.Storage.{Frame}
use Rattle.flag_ir.specs.Frames.{covers, all_covered, byte_by, bytes_in}
use Rattle.unit_frames.specs.declared.frame.OpenFrame.{OpenFrame}
use Rattle.unit_frames.specs.Kept.{is_in, image_of, frame_of, frames_of}
use Rattle.unit_frames.specs.Looking.{byte_kept, joined, zero_byte, word_kept, loaded_in}

-- ---- what is found
abbrev pub looked : List Frame → ℕ → Option Byte
looked frames a = option_map (λ f. f.image a) (find (covers a) frames)

find_map : (procs : List Proc) (a : ℕ) (fs : List OpenFrame) → find (covers a) (frames_of procs fs) ≡ option_map (frame_of procs) (find (is_in a) fs)
find_map procs a [] = refl
find_map procs a (f ∷ more) = by (is_in a f) (find_map procs a more)
  where
    by : (t : Bool) → find (covers a) (frames_of procs more) ≡ option_map (frame_of procs) (find (is_in a) more) → cond t (Some (frame_of procs f)) (find (covers a) (frames_of procs more)) ≡ option_map (frame_of procs) (cond t (Some f) (find (is_in a) more))
    by true h = refl
    by false h = h

pub found_kept : (procs : List Proc) (count a : ℕ) (fs : List OpenFrame) → find (covers a) (take count (frames_of procs fs)) ≡ option_map (frame_of procs) (find (is_in a) (take count fs))
found_kept procs count a fs = ap (find (covers a)) (take-map (frame_of procs) count fs) ∙ find_map procs a (take count fs)

pub looked_kept : (procs : List Proc) (count a : ℕ) (fs : List OpenFrame) → looked (take count (frames_of procs fs)) a ≡ byte_kept count a fs
looked_kept procs count a fs = ap (option_map (λ (f : Frame). f.image a)) (found_kept procs count a fs) ∙ by (find (is_in a) (take count fs))
  where
    by : (o : Option OpenFrame) → option_map (λ (f : Frame). f.image a) (option_map (frame_of procs) o) ≡ option_map (λ f. image_of f a) o
    by None = refl
    by (Some f) = refl

-- ---- loads
abbrev seen_by : ℕ → Option Frame → Option Byte
seen_by a o = option_map (λ f. f.image a) o

module _ (m : Memory) where
  one : (o : Option Frame) (a : ℕ) → joined (seen_by a o) zero_byte zero_byte zero_byte ≡ cond (is_some o && true) (Some (record { b0 = byte_by o a m; b1 = Known 0; b2 = Known 0; b3 = Known 0 })) None
  one None a = refl
  one (Some f) a = refl

  two : (o p : Option Frame) (a b : ℕ) → joined (seen_by a o) (seen_by b p) zero_byte zero_byte ≡ cond (is_some o && (is_some p && true)) (Some (record { b0 = byte_by o a m; b1 = byte_by p b m; b2 = Known 0; b3 = Known 0 })) None
  two None p a b = refl
  two (Some f) None a b = refl
  two (Some f) (Some g) a b = refl

  four : (o p q r : Option Frame) (a b c d : ℕ) → joined (seen_by a o) (seen_by b p) (seen_by c q) (seen_by d r) ≡ cond (is_some o && (is_some p && (is_some q && (is_some r && true)))) (Some (record { b0 = byte_by o a m; b1 = byte_by p b m; b2 = byte_by q c m; b3 = byte_by r d m })) None
  four None p q r a b c d = refl
  four (Some f) None q r a b c d = refl
  four (Some f) (Some g) None r a b c d = refl
  four (Some f) (Some g) (Some h) None a b c d = refl
  four (Some f) (Some g) (Some h) (Some i) a b c d = refl

  module _ (fs : List Frame) (at : ℕ) where
    loads_one : joined (looked fs (wrapped at)) zero_byte zero_byte zero_byte ≡ loaded_in fs m at 1
    unfolding all_covered bytes_in
    loads_one = one (find (covers (wrapped at)) fs) (wrapped at)

    loads_two : joined (looked fs (wrapped at)) (looked fs (wrapped (at + 1))) zero_byte zero_byte ≡ loaded_in fs m at 2
    unfolding all_covered bytes_in
    loads_two = two (find (covers (wrapped at)) fs) (find (covers (wrapped (at + 1))) fs) (wrapped at) (wrapped (at + 1))

    loads_four : joined (looked fs (wrapped at)) (looked fs (wrapped (at + 1))) (looked fs (wrapped (at + 2))) (looked fs (wrapped (at + 3))) ≡ loaded_in fs m at 4
    unfolding all_covered bytes_in
    loads_four =
        let e : at + 2 ≡ at + 1 + 1 = omega arith in
        let f : at + 3 ≡ at + 1 + 1 + 1 = omega arith in
        let o : ℕ → Option Frame = λ a. find (covers a) fs in
        rw (e, f) (four (o (wrapped at)) (o (wrapped (at + 1))) (o (wrapped (at + 1 + 1))) (o (wrapped (at + 1 + 1 + 1))) (wrapped at) (wrapped (at + 1)) (wrapped (at + 1 + 1)) (wrapped (at + 1 + 1 + 1)))

-- a load from what is kept
by_size : (x y z : Option Word) (r : ℕ → Option Word) (size : ℕ) → IsSize size → x ≡ r 1 → y ≡ r 2 → z ≡ r 4 → cond (size == 1) x (cond (size == 2) y z) ≡ r size
by_size x y z r size h one two four = cases (size == 1) (size == 2) (size == 4) refl refl refl h
  where
    cases : (a b c : Bool) → (size == 1) ≡ a → (size == 2) ≡ b → (size == 4) ≡ c → (a || b || c) ≡ true → cond a x (cond b y z) ≡ r size
    cases true b c is_one is_two is_four e = one ∙ ap r (sym (eqb-true size 1 is_one))
    cases false true c is_one is_two is_four e = two ∙ ap r (sym (eqb-true size 2 is_two))
    cases false false true is_one is_two is_four e = four ∙ ap r (sym (eqb-true size 4 is_four))
    cases false false false is_one is_two is_four e = absurd (cc e)

joins : {o p q r s t u v : Option Byte} → o ≡ s → p ≡ t → q ≡ u → r ≡ v → joined o p q r ≡ joined s t u v
joins a b c d = rw (a, b, c, d) refl

pub word_loaded : (procs : List Proc) (m : Memory) (count at size : ℕ) (fs : List OpenFrame) → IsSize size → at < 2 ^ 32 → word_kept count at size fs ≡ loaded_in (take count (frames_of procs fs)) m at size
unfolding word_kept
word_loaded procs m count at size fs is_size small =
    let gs : List Frame = take count (frames_of procs fs) in
    let here : wrapped at ≡ at = omega (arith, small) in
    let kept : (a : ℕ) → byte_kept count a fs ≡ looked gs a = λ a. sym (looked_kept procs count a fs) in
    let first : byte_kept count at fs ≡ looked gs (wrapped at) = kept at ∙ ap (looked gs) (sym here) in
    by_size _ _ _ (loaded_in gs m at) size is_size
    (joins first refl refl refl ∙ loads_one m gs at)
    (joins first (kept (wrapped (at + 1))) refl refl ∙ loads_two m gs at)
    (joins first (kept (wrapped (at + 1))) (kept (wrapped (at + 2))) (kept (wrapped (at + 3))) ∙ loads_four m gs at)
