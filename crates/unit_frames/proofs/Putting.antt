-- A byte that is put into the first of so many frames that covers it.
use Rattle.std.proofs.Common.{◌≡◌, ℕ, zero, suc, ◌+◌, ◌<◌, ◌≤◌, not, Bool, true, false, cond, List, [], ◌∷◌, ◌++◌, length, get_or, set, take, position, Some, None, refl, sym, ap, ◌∙◌, arith}
use Rattle.std.specs.List.{find, position_or_len}
use Rattle.std.proofs.lemmas.List.{map-set, length-take-le, take_more, take_all}
use Rattle.std.proofs.lemmas.List.Sums.{sum_by-cons}
use Rattle.x86_values.specs.declared.byte.Byte.{Byte}
use Rattle.memory.specs.Memory.{wrapped}
use Rattle.flag_ir.specs.declared.procedure.Proc.{Proc}
use Rattle.flag_ir.specs.Storage.{Frame}
use Rattle.flag_ir.specs.Frames.{with_image}
use Rattle.unit_frames.specs.declared.frame.OpenFrame.{OpenFrame}
use Rattle.unit_frames.specs.Kept.{is_in, frame_of, frames_of, takes, taken_of, IsTaken}
use Rattle.unit_frames.specs.Looking.{put_in, put_all_in}
use Rattle.unit_frames.proofs.Looking.{none_found, is_covered}

module _ (procs : List Proc) (a : ℕ) (b : Byte) where
  put_none : (count : ℕ) (fs : List OpenFrame) → find (is_in a) (take count fs) ≡ None → put_in count a b (frames_of procs fs) ≡ frames_of procs fs
  put_none zero fs h = refl
  put_none (suc n) [] h = refl
  put_none (suc n) (f ∷ more) h = by (is_in a f) h (put_none n more)
    where
      by : (t : Bool) → cond t (Some f) (find (is_in a) (take n more)) ≡ None → (find (is_in a) (take n more) ≡ None → put_in n a b (frames_of procs more) ≡ frames_of procs more) → cond t (with_image a b (frame_of procs f) ∷ frames_of procs more) (frame_of procs f ∷ put_in n a b (frames_of procs more)) ≡ frame_of procs f ∷ frames_of procs more
      by true e rest = absurd (cc e)
      by false e rest = ap (λ (x : List Frame). frame_of procs f ∷ x) (rest e)

  put_first : (count : ℕ) (fs : List OpenFrame) (d : OpenFrame) → position_or_len (is_in a) (take count fs) < length (take count fs) → put_in count a b (frames_of procs fs) ≡ set (frames_of procs fs) (position_or_len (is_in a) (take count fs)) (with_image a b (frame_of procs (get_or fs (position_or_len (is_in a) (take count fs)) d)))
  put_first zero fs d h = absurd (omega arith)
  put_first (suc n) [] d h = absurd (omega arith)
  put_first (suc n) (f ∷ more) d h = by (is_in a f) h (put_first n more d)
    where
      by : (t : Bool) → cond (not t) (1 + position_or_len (is_in a) (take n more)) 0 < suc (length (take n more)) → (position_or_len (is_in a) (take n more) < length (take n more) → put_in n a b (frames_of procs more) ≡ set (frames_of procs more) (position_or_len (is_in a) (take n more)) (with_image a b (frame_of procs (get_or more (position_or_len (is_in a) (take n more)) d)))) → cond t (with_image a b (frame_of procs f) ∷ frames_of procs more) (frame_of procs f ∷ put_in n a b (frames_of procs more)) ≡ set (frame_of procs f ∷ frames_of procs more) (cond (not t) (1 + position_or_len (is_in a) (take n more)) 0) (with_image a b (frame_of procs (get_or (f ∷ more) (cond (not t) (1 + position_or_len (is_in a) (take n more)) 0) d)))
      by true e rest = refl
      by false e rest =
          let s : 1 + position_or_len (is_in a) (take n more) ≡ suc (position_or_len (is_in a) (take n more)) = omega arith in
          rw s (ap (λ (x : List Frame). frame_of procs f ∷ x) (rest (omega (arith, e))))

  pub put_nowhere : (count : ℕ) (fs : List OpenFrame) → position (λ f. is_in a f) (take count fs) ≡ None → frames_of procs fs ≡ put_in count a b (frames_of procs fs)
  put_nowhere count fs h = sym (put_none count fs (none_found (is_in a) (take count fs) h))

  pub put_there : (count place : ℕ) (fs : List OpenFrame) (f g : OpenFrame) → position (λ x. is_in a x) (take count fs) ≡ Some place → f ≡ get_or fs place f → frame_of procs g ≡ with_image a b (frame_of procs f) → frames_of procs (set fs place g) ≡ put_in count a b (frames_of procs fs)
  put_there count place fs f g h is put =
      let c = is_covered count a place fs h in
      let e = c.first.first in
      let less : position_or_len (is_in a) (take count fs) < length (take count fs) = omega (arith, e, c.first.within) in
      map-set (frame_of procs) fs place g ∙ ap (set (frames_of procs fs) place) (put ∙ ap (λ (x : OpenFrame). with_image a b (frame_of procs x)) is)
      ∙ sym (put_first count fs f less ∙ ap (λ (k : ℕ). set (frames_of procs fs) k (with_image a b (frame_of procs (get_or fs k f)))) e)

-- bytes one behind the other
pub put_push : (n at : ℕ) (bs : List Byte) (b : Byte) (fs : List Frame) → put_all_in n at (bs ++ b ∷ []) fs ≡ put_in n (wrapped (at + length bs)) b (put_all_in n at bs fs)
unfolding put_all_in
put_push n at [] b fs = let e : at + 0 ≡ at = omega arith in rw e refl
put_push n at (c ∷ bs) b fs = let e : at + 1 + length bs ≡ at + suc (length bs) = omega arith in put_push n (at + 1) bs b (put_in n (wrapped at) c fs) ∙ ap (λ (k : ℕ). put_in n (wrapped k) b (put_all_in n (at + 1) bs (put_in n (wrapped at) c fs))) e

pub put_zero : (n at : ℕ) (bs : List Byte) (fs : List Frame) → fs ≡ put_all_in n at (take 0 bs) fs
unfolding put_all_in
put_zero n at bs fs = refl

pub put_more : (n at k : ℕ) (bs : List Byte) (b d : Byte) (there : ℕ) (fs gs hs : List Frame) → k < length bs → b ≡ get_or bs k d → there ≡ wrapped (at + k) → hs ≡ put_in n there b gs → gs ≡ put_all_in n at (take k bs) fs → hs ≡ put_all_in n at (take (k + 1) bs) fs
put_more n at k bs b d there fs gs hs less is place put done =
    let len : length (take k bs) ≡ k = length-take-le k bs (omega (arith, less)) in
    let e : at + k ≡ at + length (take k bs) = omega (arith, len) in
    put ∙ ap (put_in n there b) done ∙ ap (λ (a : ℕ). put_in n a b (put_all_in n at (take k bs) fs)) (place ∙ ap wrapped e) ∙ sym (put_push n at (take k bs) b fs)
    ∙ ap (λ (x : List Byte). put_all_in n at x fs) (ap (λ (x : Byte). take k bs ++ x ∷ []) is ∙ sym (take_more bs k d less))

pub put_whole : (n at k : ℕ) (bs : List Byte) (fs gs : List Frame) → length bs ≤ k → gs ≡ put_all_in n at (take k bs) fs → gs ≡ put_all_in n at bs fs
put_whole n at k bs fs gs long done = done ∙ ap (λ (x : List Byte). put_all_in n at x fs) (take_all k bs long)

-- ---- what the frames take up stays
abbrev taken_by : OpenFrame → ℕ
taken_by f = takes f.depth f.args

taken_set : (fs : List OpenFrame) (k : ℕ) (f g : OpenFrame) → f ≡ get_or fs k f → takes g.depth g.args ≡ takes f.depth f.args → taken_of (set fs k g) ≡ taken_of fs
taken_set [] k f g is same = refl
taken_set (x ∷ xs) zero f g is same = sum_by-cons taken_by g xs ∙ ap (λ (n : ℕ). n + taken_of xs) (same ∙ ap taken_by is) ∙ sym (sum_by-cons taken_by x xs)
taken_set (x ∷ xs) (suc k) f g is same = sum_by-cons taken_by x (set xs k g) ∙ ap (λ (n : ℕ). taken_by x + n) (taken_set xs k f g is same) ∙ sym (sum_by-cons taken_by x xs)

pub taken_same : (fs : List OpenFrame) (k : ℕ) (f g : OpenFrame) (taken : ℕ) → f ≡ get_or fs k f → g.depth ≡ f.depth → g.args ≡ f.args → IsTaken taken fs → IsTaken taken (set fs k g)
taken_same fs k f g taken is depth args h = (h.0 ∙ sym (taken_set fs k f g is (ap (λ (d : ℕ). takes d g.args) depth ∙ ap (takes f.depth) args)), h.1)

pub taken_put : (fs : List OpenFrame) (k a : ℕ) (b : Byte) (f g : OpenFrame) (taken : ℕ) → f ≡ get_or fs k f → frame_of [] g ≡ with_image a b (frame_of [] f) → IsTaken taken fs → IsTaken taken (set fs k g)
taken_put fs k a b f g taken is put h = taken_same fs k f g taken is (ap (λ (x : Frame). x.proc.depth) put) (ap (λ (x : Frame). x.proc.args) put) h
