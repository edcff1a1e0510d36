-- A frame that opens, and one that would be too deep.
use Rattle.std.proofs.Common.{◌≡◌, ℕ, ◌+◌, ◌*◌, ◌||◌, Bool, true, false, cond, ltb, List, [], ◌∷◌, Ok, Err, refl, sym, ap, ◌∙◌}
use Rattle.std.proofs.lemmas.List.Sums.{sum_by-cons}
use Rattle.memory.specs.Memory.{Memory}
use Rattle.traces.specs.Trace.{Outside, Stopped}
use Rattle.flag_ir.specs.declared.procedure.Proc.{Proc}
use Rattle.flag_ir.specs.Storage.{Frame, Storage}
use Rattle.flag_ir.specs.Frames.{frame_size}
use Rattle.flag_ir.specs.Entering.{taken_up, is_too_deep, before_block, index_at, with_new_frame}
use Rattle.unit_frames.specs.declared.frame.OpenFrame.{OpenFrame}
use Rattle.unit_frames.specs.declared.opening.FrameStart.{FrameStart}
use Rattle.unit_frames.specs.Kept.{frame_of, frames_of, takes, taken_of}
use Rattle.unit_frames.specs.Opened.{IsOpener, IsNewFrame, started, frame_started, goes_too_deep, Opens}

abbrev frame_takes : Frame → ℕ
frame_takes f = 2 * frame_size f + 256

taken_kept : (procs : List Proc) (fs : List OpenFrame) → taken_up (frames_of procs fs) ≡ taken_of fs
taken_kept procs [] = refl
taken_kept procs (f ∷ more) = sum_by-cons frame_takes (frame_of procs f) (frames_of procs more) ∙ ap (λ (n : ℕ). takes f.depth f.args + n) (taken_kept procs more) ∙ sym (sum_by-cons (λ g. takes g.depth g.args) f more)

module _ (procs : List Proc) (s : FrameStart) (first : ℕ) (m : Memory) (fs : List OpenFrame) where
  same_test : (u : Storage) → IsOpener u (frames_of procs fs) m s.ebp first → is_too_deep u.esp0 (frame_started procs s u) u.frames ≡ goes_too_deep first s.height (started procs s).depth (started procs s).args (taken_of fs)
  same_test u o =
      let p : Proc = started procs s in
      let taken : taken_up u.frames ≡ taken_of fs = ap taken_up o.frames ∙ taken_kept procs fs in
      ap (λ (n : ℕ). ltb (s.height + 4194304) (u.esp0 + p.depth) || ltb u.esp0 s.height || ltb 50331648 n) (sum_by-cons frame_takes (frame_started procs s u) u.frames)
      ∙ ap (λ (n : ℕ). goes_too_deep u.esp0 s.height p.depth p.args n) taken ∙ ap (λ (e : ℕ). goes_too_deep e s.height p.depth p.args (taken_of fs)) o.esp0

  pub tests_depth : (p : Proc) (t : Bool) → p ≡ started procs s → t ≡ goes_too_deep first s.height p.depth p.args (taken_of fs) → (u : Storage) → IsOpener u (frames_of procs fs) m s.ebp first → t ≡ is_too_deep u.esp0 (frame_started procs s u) u.frames
  tests_depth p t is deep u o = deep ∙ ap (λ (x : Proc). goes_too_deep first s.height x.depth x.args (taken_of fs)) is ∙ sym (same_test u o)

  pub refuses_frame : (p : Proc) → p ≡ started procs s → true ≡ goes_too_deep first s.height p.depth p.args (taken_of fs) → Opens procs s first m (Ok false) fs fs
  refuses_frame p is deep = (
    λ u o. let t = same_test u o ∙ ap (λ (x : Proc). goes_too_deep first s.height x.depth x.args (taken_of fs)) (sym is) ∙ sym deep in
        ap (λ (b : Bool). cond b (Err (Stopped (started procs s).entry)) (before_block (index_at (started procs s).entry (started procs s).blocks) Outside (with_new_frame (frame_started procs s u) u))) t,
    refl,
  )

  pub opens_frame : (p : Proc) (f : OpenFrame) → p ≡ started procs s → false ≡ goes_too_deep first s.height p.depth p.args (taken_of fs) → IsNewFrame procs s fs m f → Opens procs s first m (Ok true) fs (f ∷ fs)
  opens_frame p f is deep new u o =
      let t = same_test u o ∙ ap (λ (x : Proc). goes_too_deep first s.height x.depth x.args (taken_of fs)) (sym is) ∙ sym deep in
      let q : Proc = started procs s in
      ap (λ (b : Bool). cond b (Err (Stopped q.entry)) (before_block (index_at q.entry q.blocks) Outside (with_new_frame (frame_started procs s u) u))) t
      ∙ ap (λ (x : List Frame). before_block (index_at q.entry q.blocks) Outside (record u { frames = x }))
      (ap (λ (x : List Frame). frame_started procs s u ∷ x) o.frames ∙ ap (λ (x : Frame). x ∷ frames_of procs fs) (sym (new u first o)))
