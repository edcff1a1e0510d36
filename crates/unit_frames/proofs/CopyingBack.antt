-- Bytes that a closed frame gives back.
use Rattle.std.proofs.Common.{◌≡◌, ℕ, zero, suc, ◌+◌, Bool, true, false, cond, List, [], ◌∷◌, ◌++◌, ◌*◌, length, take, Some, None, refl, sym, ap, ◌∙◌, subst, arith}
use Rattle.std.specs.List.{find}
use Rattle.std.specs.Option.{is_some}
use Rattle.x86_values.specs.declared.byte.Byte.{Byte}
use Rattle.memory.specs.Memory.{Memory, wrapped, put}
use Rattle.flag_ir.specs.declared.procedure.Proc.{Proc}
use Rattle.x86_values.specs.declared.word.Word.{Word}
use Rattle.x86_values.specs.Words.{word_of}
use Rattle.flag_ir.specs.Calculations.{sum_of}
use Rattle.flag_ir.specs.Storage.{Frame, Storage, put_word}
use Rattle.flag_ir.specs.Frames.{covers, with_image, with_caller_byte, copied_back, forget_by}
use Rattle.unit_frames.specs.declared.frame.OpenFrame.{OpenFrame}
use Rattle.unit_frames.specs.Kept.{is_in, frame_of, frames_of}
use Rattle.unit_frames.specs.Looking.{put_in}
use Rattle.unit_frames.specs.Closed.{with_kept, Closes}

covers_first : (t : Bool) (f : Frame) → is_some (cond t (Some f) None) ≡ t
covers_first true f = refl
covers_first false f = refl

pub put_in_frame : (procs : List Proc) (u : Storage) (m : Memory) (at : ℕ) (b : Byte) (fs gs : List OpenFrame) → true ≡ is_some (find (covers at) (take 1 (frames_of procs fs))) → frames_of procs gs ≡ put_in 1 at b (frames_of procs fs) → with_caller_byte at b (with_kept procs fs m u) (frames_of procs fs) ≡ with_kept procs gs m u
put_in_frame procs u m at b [] gs found is = absurd (cc found)
put_in_frame procs u m at b (f ∷ more) gs found is =
    let t : is_in at f ≡ true = sym (covers_first (is_in at f) (frame_of procs f)) ∙ sym found in
    let rest : List Frame = frames_of procs more in
    ap (λ (x : Bool). cond x (record (with_kept procs (f ∷ more) m u) { frames = with_image at b (frame_of procs f) ∷ rest }) (record (with_kept procs (f ∷ more) m u) { memory = put at b m })) t
    ∙ ap (λ (x : List Frame). record u { frames = x; memory = m }) (sym (is ∙ ap (λ (x : Bool). cond x (with_image at b (frame_of procs f) ∷ rest) (frame_of procs f ∷ rest)) t))

pub put_in_memory : (procs : List Proc) (u : Storage) (m n : Memory) (at : ℕ) (b : Byte) (fs : List OpenFrame) → false ≡ is_some (find (covers at) (take 1 (frames_of procs fs))) → n ≡ put at b m → with_caller_byte at b (with_kept procs fs m u) (frames_of procs fs) ≡ with_kept procs fs n u
put_in_memory procs u m n at b [] found is = ap (λ (x : Memory). record u { frames = []; memory = x }) (sym is)
put_in_memory procs u m n at b (f ∷ more) found is =
    let t : is_in at f ≡ false = sym (covers_first (is_in at f) (frame_of procs f)) ∙ sym found in
    let rest : List Frame = frames_of procs more in
    ap (λ (x : Bool). cond x (record (with_kept procs (f ∷ more) m u) { frames = with_image at b (frame_of procs f) ∷ rest }) (record (with_kept procs (f ∷ more) m u) { memory = put at b m })) t
    ∙ ap (λ (x : Memory). record u { frames = frames_of procs (f ∷ more); memory = x }) (sym is)

-- one byte more
copied_more : (f : Frame) (at n : ℕ) (u : Storage) → copied_back f at (n + 1) u ≡ with_caller_byte (wrapped (at + n)) (f.image (wrapped (at + n))) (copied_back f at n u) (copied_back f at n u).frames
unfolding copied_back
copied_more f at zero u = let e : at + 0 ≡ at = omega arith in rw e refl
copied_more f at (suc n) u =
    let e : suc n + 1 ≡ suc (n + 1) = omega arith in
    let z : at + 1 + n ≡ at + suc n = omega arith in
    let v : Storage = copied_back f (at + 1) n (with_caller_byte (wrapped at) (f.image (wrapped at)) u u.frames) in
    ap (λ (k : ℕ). copied_back f at k u) e ∙ copied_more f (at + 1) n (with_caller_byte (wrapped at) (f.image (wrapped at)) u u.frames)
    ∙ ap (λ (a : ℕ). with_caller_byte (wrapped a) (f.image (wrapped a)) v v.frames) z

pub none_back : (f : Frame) (at : ℕ) (u : Storage) → copied_back f at 0 u ≡ u
unfolding copied_back
none_back f at u = refl

pub more_back : (f : Frame) (at k there : ℕ) (b : Byte) (u v w : Storage) → there ≡ wrapped (at + k) → b ≡ f.image there → copied_back f at k u ≡ v → with_caller_byte there b v v.frames ≡ w → copied_back f at (k + 1) u ≡ w
more_back f at k there b u v w place is done put =
    copied_more f at k u ∙ ap (λ (x : Storage). with_caller_byte (wrapped (at + k)) (f.image (wrapped (at + k))) x x.frames) done
    ∙ ap (λ (a : ℕ). with_caller_byte a (f.image a) v v.frames) (sym place) ∙ ap (λ (x : Byte). with_caller_byte there x v v.frames) (sym is) ∙ put

pub all_back : (f : Frame) (at k n : ℕ) (u v : Storage) → k ≡ n → copied_back f at k u ≡ v → copied_back f at n u ≡ v
all_back f at k n u v e done = ap (λ (x : ℕ). copied_back f at x u) (sym e) ∙ done

-- ---- a frame is closed
pub none_left : (fs : List OpenFrame) → length fs ≡ 0 → fs ≡ []
none_left [] h = refl
none_left (f ∷ more) h = absurd (omega arith)

pub closes_none : (fs gs : List OpenFrame) (m : Memory) → fs ≡ [] → fs ≡ [] ++ gs → Closes None fs m gs m
closes_none [] gs m none h = (refl, sym h, refl)
closes_none (f ∷ more) gs m none h = absurd (cc none)

closes_first : (f : OpenFrame) (more gs hs : List OpenFrame) (m n : Memory)
    → ((procs : List Proc) → frames_of procs gs ≡ forget_by f.kind (frame_of procs f) (frames_of procs more))
    → ((procs : List Proc) (u : Storage) → copied_back (frame_of procs f) (f.height + 4) (4 * f.args) (with_kept procs gs m u) ≡ with_kept procs hs n u)
    → Closes (Some (record { back = f.back; word = f.word })) (f ∷ more) m hs n
closes_first f more gs hs m n forgot back = (
  refl,
  λ procs u memory.
      let regs : ℕ → Word = put_word 4 (sum_of (u.regs 4) (word_of 4)) u.regs in
      ap (copied_back (frame_of procs f) (f.height + 4) (4 * f.args))
      (ap (λ (x : List Frame). record u { frames = x; regs = regs }) (sym (forgot procs)) ∙ ap (λ (k : Memory). record u { frames = frames_of procs gs; regs = regs; memory = k }) memory)
      ∙ back procs (record u { regs = regs }),
)

pub closes_one : (f : OpenFrame) (fs more gs hs : List OpenFrame) (m n : Memory) → fs ≡ (f ∷ []) ++ more
    → ((procs : List Proc) → frames_of procs gs ≡ forget_by f.kind (frame_of procs f) (frames_of procs more))
    → ((procs : List Proc) (u : Storage) → copied_back (frame_of procs f) (f.height + 4) (4 * f.args) (with_kept procs gs m u) ≡ with_kept procs hs n u)
    → Closes (Some (record { back = f.back; word = f.word })) fs m hs n
closes_one f fs more gs hs m n h forgot back = subst (λ (x : List OpenFrame). Closes (Some (record { back = f.back; word = f.word })) x m hs n) (sym h) (closes_first f more gs hs m n forgot back)
