-- The frames that are reached are the innermost ones, so many.
use Rattle.std.proofs.Common.{◌≡◌, ℕ, suc, ◌+◌, not, Bool, true, false, cond, List, [], ◌∷◌, length, take, ◌≤◌, refl, sym, ap, ◌∙◌, arith}
use Rattle.flag_ir.specs.declared.procedure.FrameKind.{FrameKind}
use Rattle.flag_ir.specs.declared.procedure.FrameKind.TheVariants.{Sealed, Guarded, Shared}
use Rattle.flag_ir.specs.declared.procedure.Proc.{Proc}
use Rattle.flag_ir.specs.Storage.{Frame}
use Rattle.flag_ir.specs.Frames.{is_shared, shared_chain, reached_by, reached_frames}
use Rattle.unit_frames.specs.declared.frame.OpenFrame.{OpenFrame}
use Rattle.unit_frames.specs.Kept.{frame_of, frames_of}
use Rattle.unit_frames.specs.Looking.{shared_count, count_by, reached_count}

take_more : (f : Frame) (n : ℕ) (fs : List Frame) → take (1 + n) (f ∷ fs) ≡ f ∷ take n fs
take_more f n fs = let e : 1 + n ≡ suc n = omega arith in rw e refl

pub chain : (procs : List Proc) (fs : List OpenFrame) → shared_chain (frames_of procs fs) ≡ take (shared_count fs) (frames_of procs fs)
unfolding shared_chain
chain procs [] = refl
chain procs (f ∷ more) = by (is_shared f.kind) (chain procs more)
  where
    by : (b : Bool) → shared_chain (frames_of procs more) ≡ take (shared_count more) (frames_of procs more) → cond b (frame_of procs f ∷ shared_chain (frames_of procs more)) [] ≡ take (cond (not (not b)) (1 + shared_count more) 0) (frame_of procs f ∷ frames_of procs more)
    by true h = ap (λ (x : List Frame). frame_of procs f ∷ x) h ∙ sym (take_more (frame_of procs f) (shared_count more) (frames_of procs more))
    by false h = refl

chain_of : (procs : List Proc) (f : OpenFrame) (more : List OpenFrame) (k : FrameKind) → f.kind ≡ k → reached_by k (frame_of procs f) (frames_of procs more) ≡ take (count_by (Rattle.std.proofs.Common.Some k) (f ∷ more)) (frames_of procs (f ∷ more))
chain_of procs f more Sealed is = refl
chain_of procs f more Guarded is = refl
chain_of procs f more Shared is =
    ap (λ (x : List Frame). frame_of procs f ∷ x) (chain procs more) ∙ sym (take_more (frame_of procs f) (shared_count more) (frames_of procs more))
    ∙ ap (λ (k : FrameKind). take (cond (not (not (is_shared k))) (1 + shared_count more) 0) (frames_of procs (f ∷ more))) (sym is)

pub reached_are : (procs : List Proc) (fs : List OpenFrame) → reached_frames (frames_of procs fs) ≡ take (reached_count fs) (frames_of procs fs)
reached_are procs [] = refl
reached_are procs (f ∷ more) = chain_of procs f more f.kind refl
