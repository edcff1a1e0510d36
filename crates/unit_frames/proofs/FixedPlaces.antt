-- Fixed places of the innermost frame.
use Rattle.std.proofs.Common.{◌≡◌, ℕ, ◌<◌, ◌^◌, ℤ, pos, negsuc, Bool, true, false, cond, List, [], ◌∷◌, length, take, Some, None, Result, Ok, Err, refl, sym, ap, ◌∙◌, arith}
use Rattle.x86_values.specs.declared.byte.Byte.{Byte}
use Rattle.x86_values.specs.declared.word.Word.{Word}
use Rattle.x86_values.specs.Words.{word_list, padded}
use Rattle.x86_values.specs.Sizes.{IsSize}
use Rattle.traces.specs.Trace.{End, Outside}
use Rattle.memory.specs.Memory.{Memory}
use Rattle.flag_ir.specs.declared.procedure.Proc.{Proc}
use Rattle.flag_ir.specs.Storage.{Frame, Storage}
use Rattle.flag_ir.specs.Frames.{all_covered, bytes_in}
use Rattle.flag_ir.specs.Operations.{at_offset, get_of, put_of, with_bytes}
use Rattle.unit_frames.specs.declared.frame.OpenFrame.{OpenFrame}
use Rattle.unit_frames.specs.Kept.{frame_of, frames_of}
use Rattle.unit_frames.specs.Looking.{word_kept, put_all_in}
use Rattle.unit_frames.specs.Places.{innermost_height, got, put_comes}
use Rattle.unit_frames.proofs.Covering.{word_loaded}
use Rattle.unit_frames.proofs.Accesses.{word_size}
use Rattle.unit_frames.proofs.Storing.{fixed_all}

pub offset_small : (height : ℕ) (offset : ℤ) → at_offset height offset < 2 ^ 32
offset_small height (pos n) = omega arith
offset_small height (negsuc n) = omega arith

pub got_nowhere : (procs : List Proc) (m : Memory) (size : ℕ) (offset : ℤ) (fs : List OpenFrame) → innermost_height fs ≡ None → get_of size offset m (frames_of procs fs) ≡ got None
got_nowhere procs m size offset [] h = refl
got_nowhere procs m size offset (f ∷ more) h = absurd (cc h)

pub got_there : (procs : List Proc) (m : Memory) (size : ℕ) (offset : ℤ) (height : ℕ) (fs : List OpenFrame) → innermost_height fs ≡ Some height → IsSize size → at_offset height offset < 2 ^ 32 → get_of size offset m (frames_of procs fs) ≡ got (word_kept 1 (at_offset height offset) size fs)
got_there procs m size offset height [] h is_size small = absurd (cc h)
got_there procs m size offset height (f ∷ more) h is_size small =
    let same : f.height ≡ height = cc h in
    let at = at_offset height offset in
    let one : List Frame = frame_of procs f ∷ [] in
    ap (λ (k : ℕ). cond (all_covered one (at_offset k offset) size) (Ok (padded (bytes_in one m (at_offset k offset) size))) (Err Outside)) same
    ∙ by (all_covered one at size) ∙ sym (ap got (word_loaded procs m 1 at size (f ∷ more) is_size small))
  where
    by : (t : Bool) → cond t (Ok (padded (bytes_in (frame_of procs f ∷ []) m (at_offset height offset) size))) (Err Outside) ≡ got (cond t (Some (padded (bytes_in (frame_of procs f ∷ []) m (at_offset height offset) size))) None)
    by true = refl
    by false = refl

pub put_outside : (procs : List Proc) (u : Storage) (size : ℕ) (offset : ℤ) (w : Word) (fs : List OpenFrame) (frames : List Frame) → innermost_height fs ≡ None → put_of size offset w u (frames_of procs fs) ≡ put_comes false u frames
put_outside procs u size offset w [] frames h = refl
put_outside procs u size offset w (f ∷ more) frames h = absurd (cc h)

pub put_uncovered : (procs : List Proc) (u : Storage) (size : ℕ) (offset : ℤ) (w : Word) (height : ℕ) (fs : List OpenFrame) (frames : List Frame) → innermost_height fs ≡ Some height → all_covered (take 1 (frames_of procs fs)) (at_offset height offset) size ≡ false → put_of size offset w u (frames_of procs fs) ≡ put_comes false u frames
put_uncovered procs u size offset w height [] frames h out = absurd (cc h)
put_uncovered procs u size offset w height (f ∷ more) frames h out =
    let same : f.height ≡ height = cc h in
    let one : List Frame = frame_of procs f ∷ [] in
    let put : ℕ → Result Storage End = λ at. Ok (record u { frames = with_bytes at (take size (word_list w)) (frame_of procs f) ∷ frames_of procs more }) in
    ap (λ (k : ℕ). cond (all_covered one (at_offset k offset) size) (put (at_offset k offset)) (Err Outside)) same ∙ ap (λ (t : Bool). cond t (put (at_offset height offset)) (Err Outside)) out

pub put_covered : (procs : List Proc) (u : Storage) (size : ℕ) (offset : ℤ) (w : Word) (height : ℕ) (fs : List OpenFrame) (frames : List Frame) → innermost_height fs ≡ Some height → IsSize size → all_covered (take 1 (frames_of procs fs)) (at_offset height offset) size ≡ true
    → frames ≡ put_all_in 1 (at_offset height offset) (take size (word_list w)) (frames_of procs fs) → put_of size offset w u (frames_of procs fs) ≡ put_comes true u frames
put_covered procs u size offset w height [] frames h is_size all put = absurd (cc h)
put_covered procs u size offset w height (f ∷ more) frames h is_size all put =
    let same : f.height ≡ height = cc h in
    let at = at_offset height offset in
    let bs : List Byte = take size (word_list w) in
    let one : List Frame = frame_of procs f ∷ [] in
    let stored : ℕ → Result Storage End = λ k. Ok (record u { frames = with_bytes k bs (frame_of procs f) ∷ frames_of procs more }) in
    let covered : all_covered one at (length bs) ≡ true = ap (λ (n : ℕ). all_covered one at n) (word_size size w is_size) ∙ all in
    ap (λ (k : ℕ). cond (all_covered one (at_offset k offset) size) (stored (at_offset k offset)) (Err Outside)) same ∙ ap (λ (t : Bool). cond t (stored at) (Err Outside)) all
    ∙ ap (λ (x : List Frame). Ok (record u { frames = x })) (sym (put ∙ fixed_all bs at (frame_of procs f) (frames_of procs more) covered))
