-- The outermost frame is the last.
use Rattle.std.proofs.Common.{◌≡◌, ℕ, ◌+◌, List, [], ◌∷◌, length, get_or, refl, ap, ◌∙◌, arith}
use Rattle.flag_ir.specs.declared.procedure.Proc.{Proc}
use Rattle.flag_ir.specs.Frames.{outermost_top}
use Rattle.unit_frames.specs.declared.frame.OpenFrame.{OpenFrame}
use Rattle.unit_frames.specs.Kept.{end_of, frames_of}

pub outermost_none : (procs : List Proc) (fs : List OpenFrame) → length fs ≡ 0 → 0 ≡ outermost_top (frames_of procs fs)
outermost_none procs [] h = refl
outermost_none procs (f ∷ more) h = absurd (omega arith)

last_top : (procs : List Proc) (f : OpenFrame) (more : List OpenFrame) (d : OpenFrame) → end_of (get_or (f ∷ more) (length more) d) ≡ outermost_top (frames_of procs (f ∷ more))
last_top procs f [] d = refl
last_top procs f (g ∷ more) d = last_top procs g more d

pub outermost_last : (procs : List Proc) (fs : List OpenFrame) (f : OpenFrame) (k : ℕ) → k + 1 ≡ length fs → f ≡ get_or fs k f → end_of f ≡ outermost_top (frames_of procs fs)
outermost_last procs [] f k h is = absurd (omega arith)
outermost_last procs (g ∷ more) f k h is =
    let e : k ≡ length more = omega (arith, h) in
    ap end_of (is ∙ ap (λ (j : ℕ). get_or (g ∷ more) j f) e) ∙ last_top procs g more f
