-- What the closing of a frame makes unspecified.
use Rattle.std.proofs.Common.{◌≡◌, ℕ, zero, suc, ◌+◌, ◌-◌, ◌*◌, ◌<◌, ◌≤◌, min, max, ◌&&◌, not, Bool, true, false, cond, leb, ltb, List, [], ◌∷◌, length, get_or, set, inl, inr, refl, sym, ap, ◌∙◌, arith}
use Rattle.std.proofs.lemmas.Bool.{cases_lt}
use Rattle.std.proofs.lemmas.Bool.Decides.{nat_tests}
use Rattle.std.proofs.lemmas.List.{map-set, get_or_past}
use Rattle.std.proofs.lemmas.List.Sums.{sum_by-cons}
use Rattle.x86_values.specs.declared.byte.Byte.{Byte}
use Rattle.x86_values.specs.declared.byte.Byte.TheVariants.{Unspecified}
use Rattle.flag_ir.specs.declared.procedure.FrameKind.{FrameKind}
use Rattle.flag_ir.specs.declared.procedure.FrameKind.TheVariants.{Sealed, Guarded, Shared}
use Rattle.flag_ir.specs.declared.procedure.Proc.{Proc}
use Rattle.flag_ir.specs.Storage.{Frame}
use Rattle.flag_ir.specs.Frames.{is_shared, forgotten_in, forget_chain, forget_by}
use Rattle.unit_frames.specs.declared.frame.OpenFrame.{OpenFrame}
use Rattle.unit_frames.specs.Kept.{low_of, byte_from, frame_of, frames_of, takes, taken_of, IsTaken}
use Rattle.unit_frames.specs.Looking.{shared_count}
use Rattle.unit_frames.specs.Closed.{forgotten_between, forget_first}

both_unspecified : (t : Bool) → cond t Unspecified Unspecified ≡ Unspecified
both_unspecified true = refl
both_unspecified false = refl

-- ---- the bytes of one frame
module _ (low from to : ℕ) (bs cs : List Byte) (h : (k : ℕ) → get_or cs k Unspecified ≡ cond (leb (from - low) k && ltb k (min (to - low) (length bs))) Unspecified (get_or bs k Unspecified)) where
  below : (a : ℕ) → a < low → byte_from low cs a ≡ cond (leb from a && ltb a to) Unspecified (byte_from low bs a)
  below a less =
      let t : leb low a ≡ false = grind (arith, nat_tests) in
      ap (λ (x : Bool). cond x (get_or cs (a - low) Unspecified) Unspecified) t
      ∙ sym (ap (λ (x : Bool). cond (leb from a && ltb a to) Unspecified (cond x (get_or bs (a - low) Unspecified) Unspecified)) t ∙ both_unspecified (leb from a && ltb a to))

  there : (a : ℕ) → low ≤ a → get_or cs (a - low) Unspecified ≡ cond (leb from a && ltb a to) Unspecified (get_or bs (a - low) Unspecified)
  there a order = elim (cases_lt (a - low) (length bs)) [
    | inl less ↦
        let t : (leb (from - low) (a - low) && ltb (a - low) (min (to - low) (length bs))) ≡ (leb from a && ltb a to) = grind (arith, nat_tests) in
        h (a - low) ∙ ap (λ (x : Bool). cond x Unspecified (get_or bs (a - low) Unspecified)) t
    | inr past ↦
        let none : get_or bs (a - low) Unspecified ≡ Unspecified = get_or_past bs (a - low) Unspecified past in
        h (a - low) ∙ ap (λ (x : Byte). cond (leb (from - low) (a - low) && ltb (a - low) (min (to - low) (length bs))) Unspecified x) none ∙ both_unspecified (leb (from - low) (a - low) && ltb (a - low) (min (to - low) (length bs)))
        ∙ sym (ap (λ (x : Byte). cond (leb from a && ltb a to) Unspecified x) none ∙ both_unspecified (leb from a && ltb a to))
  ]

  pub byte_forgotten : (a : ℕ) → byte_from low cs a ≡ cond (leb from a && ltb a to) Unspecified (byte_from low bs a)
  byte_forgotten a = elim (cases_lt a low) [
    | inl less ↦ below a less
    | inr order ↦
        let t : leb low a ≡ true = grind (arith, nat_tests) in
        ap (λ (x : Bool). cond x (get_or cs (a - low) Unspecified) Unspecified) t ∙ there a order
        ∙ sym (ap (λ (x : Bool). cond (leb from a && ltb a to) Unspecified (cond x (get_or bs (a - low) Unspecified) Unspecified)) t)
  ]

-- ---- one frame after another
forget_more : (i from to : ℕ) (fs : List Frame) (d : Frame) → i < length fs → set (forget_first i from to fs) i (forgotten_between from to (get_or (forget_first i from to fs) i d)) ≡ forget_first (i + 1) from to fs
forget_more i from to [] d less = absurd (omega arith)
forget_more zero from to (f ∷ more) d less = refl
forget_more (suc i) from to (f ∷ more) d less =
    let e : suc i + 1 ≡ suc (i + 1) = omega arith in
    rw e (ap (λ (x : List Frame). forgotten_between from to f ∷ x) (forget_more i from to more d (omega arith)))

get_mapped : (procs : List Proc) (fs : List OpenFrame) (i : ℕ) (f : OpenFrame) → f ≡ get_or fs i f → frame_of procs f ≡ get_or (frames_of procs fs) i (frame_of procs f)
get_mapped procs [] i f is = refl
get_mapped procs (g ∷ more) zero f is = ap (frame_of procs) is
get_mapped procs (g ∷ more) (suc i) f is = get_mapped procs more i f is

pub forgot_one : (procs : List Proc) (i from to : ℕ) (fs : List Frame) (gs : List OpenFrame) (f g : OpenFrame) → i < length fs → frames_of procs gs ≡ forget_first i from to fs → f ≡ get_or gs i f → frame_of procs g ≡ forgotten_between from to (frame_of procs f)
    → frames_of procs (set gs i g) ≡ forget_first (i + 1) from to fs
forgot_one procs i from to fs gs f g less done is put =
    let here : frame_of procs f ≡ get_or (forget_first i from to fs) i (frame_of procs f) = get_mapped procs gs i f is ∙ ap (λ (x : List Frame). get_or x i (frame_of procs f)) done in
    map-set (frame_of procs) gs i g ∙ ap (λ (x : Frame). set (frames_of procs gs) i x) (put ∙ ap (forgotten_between from to) here)
    ∙ ap (λ (x : List Frame). set x i (forgotten_between from to (get_or (forget_first i from to fs) i (frame_of procs f)))) done
    ∙ forget_more i from to fs (frame_of procs f) less

-- ---- a chain
tests_agree : (t u v : Bool) (x : Byte) → (v ≡ false → u ≡ true) → cond (t && u) (cond (v && u) x Unspecified) x ≡ cond (t && not v) Unspecified x
tests_agree true true true x h = refl
tests_agree true true false x h = refl
tests_agree true false true x h = refl
tests_agree true false false x h = absurd (cc (h refl))
tests_agree false u v x h = refl

one_frame : (procs : List Proc) (c f : OpenFrame) → forgotten_in (frame_of procs c) (frame_of procs f) ≡ forgotten_between (low_of c) (c.height + 4) (frame_of procs f)
one_frame procs c f = ap (λ (x : ℕ → Byte). record (frame_of procs f) { image = x }) (λ i a. at a i)
  where
    at : (a : ℕ) → (forgotten_in (frame_of procs c) (frame_of procs f)).image a ≡ (forgotten_between (low_of c) (c.height + 4) (frame_of procs f)).image a
    at a =
        let top : ℕ = c.height + 4 + 4 * c.args in
        let x : Byte = (frame_of procs f).image a in
        let low : leb c.height (a + c.depth) ≡ leb (c.height - c.depth) a = grind (arith, nat_tests) in
        let word : not (leb (c.height + 4) a) ≡ ltb a (c.height + 4) = grind (arith, nat_tests) in
        let within : leb (c.height + 4) a ≡ false → ltb a top ≡ true = λ h. grind (arith, nat_tests) in
        tests_agree (leb c.height (a + c.depth)) (ltb a top) (leb (c.height + 4) a) x within
        ∙ ap (λ (t : Bool). cond (t && not (leb (c.height + 4) a)) Unspecified x) low ∙ ap (λ (t : Bool). cond (leb (c.height - c.depth) a && t) Unspecified x) word

pub forgets_chain : (procs : List Proc) (c : OpenFrame) (fs : List OpenFrame) → forget_chain (frame_of procs c) (frames_of procs fs) ≡ forget_first (shared_count fs) (low_of c) (c.height + 4) (frames_of procs fs)
unfolding forget_chain
forgets_chain procs c [] = refl
forgets_chain procs c (f ∷ more) = by (is_shared f.kind) (forgets_chain procs c more)
  where
    by : (t : Bool) → forget_chain (frame_of procs c) (frames_of procs more) ≡ forget_first (shared_count more) (low_of c) (c.height + 4) (frames_of procs more)
        → cond t (forgotten_in (frame_of procs c) (frame_of procs f) ∷ forget_chain (frame_of procs c) (frames_of procs more)) (frame_of procs f ∷ frames_of procs more) ≡ forget_first (cond (not (not t)) (1 + shared_count more) 0) (low_of c) (c.height + 4) (frame_of procs f ∷ frames_of procs more)
    by false h = refl
    by true h =
        let e : 1 + shared_count more ≡ suc (shared_count more) = omega arith in
        ap (λ (x : List Frame). forgotten_in (frame_of procs c) (frame_of procs f) ∷ x) h
        ∙ ap (λ (x : Frame). x ∷ forget_first (shared_count more) (low_of c) (c.height + 4) (frames_of procs more)) (one_frame procs c f)
        ∙ sym (ap (λ (n : ℕ). forget_first n (low_of c) (c.height + 4) (frame_of procs f ∷ frames_of procs more)) e)

-- ---- what the frames take up, without the innermost
pub popped : (taken : ℕ) (f : OpenFrame) (fs : List OpenFrame) → IsTaken taken (f ∷ fs) → IsTaken (taken - takes f.depth f.args) fs × (takes f.depth f.args ≤ taken)
popped taken f fs h =
    let e : taken_of (f ∷ fs) ≡ takes f.depth f.args + taken_of fs = sum_by-cons (λ g. takes g.depth g.args) f fs in
    ((omega (arith, e, h.0), omega (arith, h.1)), omega (arith, e, h.0))

-- ---- kinds
pub forgets_none : (procs : List Proc) (c : OpenFrame) (k : FrameKind) (fs : List OpenFrame) → c.kind ≡ k → is_shared k ≡ false → frames_of procs fs ≡ forget_by c.kind (frame_of procs c) (frames_of procs fs)
forgets_none procs c Sealed fs is h = sym (ap (λ (k : FrameKind). forget_by k (frame_of procs c) (frames_of procs fs)) is)
forgets_none procs c Guarded fs is h = sym (ap (λ (k : FrameKind). forget_by k (frame_of procs c) (frames_of procs fs)) is)
forgets_none procs c Shared fs is h = absurd (cc h)

pub forgets_shared : (procs : List Proc) (c : OpenFrame) (fs : List OpenFrame) → c.kind ≡ Shared → forget_first (shared_count fs) (low_of c) (c.height + 4) (frames_of procs fs) ≡ forget_by c.kind (frame_of procs c) (frames_of procs fs)
forgets_shared procs c fs is = sym (ap (λ (k : FrameKind). forget_by k (frame_of procs c) (frames_of procs fs)) is ∙ forgets_chain procs c fs)

-- ---- a slice
pub same_range : (first k last j : ℕ) → last ≤ k → k ≤ max first last → (leb first j && ltb j k) ≡ (leb first j && ltb j last)
same_range first k last j long bound = grind (arith, nat_tests)
