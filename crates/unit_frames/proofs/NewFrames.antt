-- A new frame, as it is kept, is that of the definitions.
use Rattle.std.proofs.Common.{◌≡◌, ℕ, zero, suc, ◌+◌, ◌-◌, ◌*◌, ◌<◌, ◌≤◌, ◌&&◌, Bool, true, false, cond, leb, ltb, List, [], ◌∷◌, length, map, get_or, Some, None, refl, sym, ap, ◌∙◌, arith}
use Rattle.std.specs.List.{slice_get}
use Rattle.std.proofs.lemmas.Bool.Decides.{nat_tests}
use Rattle.std.proofs.lemmas.List.{get_or_default}
use Rattle.x86_values.specs.declared.byte.Byte.{Byte}
use Rattle.x86_values.specs.declared.byte.Byte.TheVariants.{Unspecified}
use Rattle.x86_values.specs.declared.word.Word.{Word}
use Rattle.x86_values.specs.Sizes.{cut, no_word}
use Rattle.memory.specs.Memory.{Memory, byte_of}
use Rattle.flag_ir.specs.declared.procedure.LocalSlot.{LocalSlot}
use Rattle.flag_ir.specs.declared.procedure.Proc.{Proc}
use Rattle.flag_ir.specs.Storage.{Frame, Storage}
use Rattle.flag_ir.specs.Frames.{caller_byte}
use Rattle.flag_ir.specs.Entering.{no_local, bare_frame, image_from_caller, word_in}
use Rattle.unit_frames.specs.declared.frame.OpenFrame.{OpenFrame}
use Rattle.unit_frames.specs.declared.opening.FrameStart.{FrameStart}
use Rattle.unit_frames.specs.Kept.{is_in, image_of, no_proc, byte_from, frames_of}
use Rattle.unit_frames.specs.Opened.{or_memory, from_caller, fresh_byte, IsOpener, started, frame_started}

-- ---- the caller's bytes
caller_kept : (procs : List Proc) (m : Memory) (a : ℕ) (fs : List OpenFrame) → from_caller fs m a ≡ caller_byte (frames_of procs fs) m a
caller_kept procs m a [] = refl
caller_kept procs m a (f ∷ more) = by (is_in a f)
  where
    by : (t : Bool) → or_memory (cond t (Some (image_of f a)) None) m a ≡ cond t (image_of f a) (byte_of (m a))
    by true = refl
    by false = refl

-- ---- locals
local_fresh : (slots : List LocalSlot) (n : ℕ) → get_or (map (λ s. cut s.size no_word) slots) n no_word ≡ no_local (slice_get slots n)
local_fresh [] n = refl
local_fresh (s ∷ slots) zero = refl
local_fresh (s ∷ slots) (suc n) = local_fresh slots n

-- ---- the return word
byte_there : (low : ℕ) (bytes : List Byte) (a k : ℕ) → low ≤ a → k ≡ a - low → get_or bytes k Unspecified ≡ byte_from low bytes a
byte_there low bytes a k from is =
    let t : leb low a ≡ true = grind (arith, nat_tests) in
    ap (λ (j : ℕ). get_or bytes j Unspecified) is ∙ sym (ap (λ (x : Bool). cond x (get_or bytes (a - low) Unspecified) Unspecified) t)

same_word : (w x : Word) → w.b0 ≡ x.b0 → w.b1 ≡ x.b1 → w.b2 ≡ x.b2 → w.b3 ≡ x.b3 → w ≡ x
same_word w x a b c d = λ i. record { b0 = a i; b1 = b i; b2 = c i; b3 = d i }

pub word_there : (low height k : ℕ) (bytes : List Byte) (w : Word) → low ≤ height → k ≡ height - low → w.b0 ≡ get_or bytes k Unspecified → w.b1 ≡ get_or bytes (k + 1) Unspecified → w.b2 ≡ get_or bytes (k + 2) Unspecified → w.b3 ≡ get_or bytes (k + 3) Unspecified → w ≡ word_in (byte_from low bytes) height
word_there low height k bytes w order is a b c d =
    same_word w (word_in (byte_from low bytes) height)
    (a ∙ byte_there low bytes height k order is)
    (b ∙ byte_there low bytes (height + 1) (k + 1) (omega arith) (omega arith))
    (c ∙ byte_there low bytes (height + 2) (k + 2) (omega arith) (omega arith))
    (d ∙ byte_there low bytes (height + 3) (k + 3) (omega arith) (omega arith))

-- ---- the frame
abbrev made : FrameStart → Proc → Word → Word → (ℕ → Byte) → (ℕ → Word) → Frame
made s p w ebp image locals = record { proc = p; height = s.height; word = w; ebp = ebp; back = s.back; image = image; locals = locals }

module _ (procs : List Proc) (fs : List OpenFrame) (m : Memory) (s : FrameStart) (p : Proc) (low : ℕ) (bytes : List Byte) (w : Word) (locals : List Word) where
  pub new_is : p ≡ get_or procs s.proc p → s.proc < length procs → low ≡ s.height - p.depth
      → ((a : ℕ) → byte_from low bytes a ≡ fresh_byte s.height (s.height + 4 + 4 * p.args) (from_caller fs m) a)
      → w ≡ word_in (byte_from low bytes) s.height → locals ≡ map (λ t. cut t.size no_word) p.locals
      → (u : Storage) (esp0 : ℕ) → IsOpener u (frames_of procs fs) m s.ebp esp0
      → made s (record (get_or procs s.proc no_proc) { kind = p.kind; depth = p.depth; args = p.args }) w s.ebp (byte_from (s.height - p.depth) bytes) (λ n. get_or locals n no_word) ≡ frame_started procs s u
  new_is is less start image word slots u esp0 o =
      let q : Proc = started procs s in
      let e : p ≡ q = is ∙ get_or_default procs s.proc p no_proc less in
      let bare : Frame = bare_frame q s.height s.back u in
      let byte : (a : ℕ) → from_caller fs m a ≡ caller_byte u.frames u.memory a = λ a. caller_kept procs m a fs ∙ ap (λ (x : List Frame). caller_byte x m a) (sym o.frames) ∙ ap (λ (x : Memory). caller_byte u.frames x a) (sym o.memory) in
      let image_at : (a : ℕ) → byte_from low bytes a ≡ image_from_caller bare u a = λ a.
      image a ∙ ap (λ (x : Proc). fresh_byte s.height (s.height + 4 + 4 * x.args) (from_caller fs m) a) e
      ∙ ap (λ (b : Byte). cond (leb s.height a && ltb a (s.height + 4 + 4 * q.args)) b Unspecified) (byte a) in
      let images : byte_from low bytes ≡ image_from_caller bare u = λ i a. image_at a i in
      let local_at : (n : ℕ) → get_or locals n no_word ≡ no_local (slice_get q.locals n) = λ n. ap (λ (x : List Word). get_or x n no_word) slots ∙ local_fresh p.locals n ∙ ap (λ (x : Proc). no_local (slice_get x.locals n)) e in
      let kept : ℕ → Word = λ n. get_or locals n no_word in
      let all_locals : kept ≡ (λ n. no_local (slice_get q.locals n)) = λ i n. local_at n i in
      let img : ℕ → Byte = byte_from (s.height - p.depth) bytes in
      let same : img ≡ image_from_caller bare u = ap (λ (l : ℕ). byte_from l bytes) (sym start) ∙ images in
      ap (λ (x : Proc). made s (record q { kind = x.kind; depth = x.depth; args = x.args }) w s.ebp img kept) e
      ∙ ap (λ (x : Word). made s q x s.ebp img kept) (word ∙ ap (λ (x : ℕ → Byte). word_in x s.height) images)
      ∙ ap (λ (x : Word). made s q (word_in (image_from_caller bare u) s.height) x img kept) (sym o.ebp)
      ∙ ap (λ (x : ℕ → Byte). made s q (word_in (image_from_caller bare u) s.height) (u.regs 5) x kept) same
      ∙ ap (λ (x : ℕ → Word). made s q (word_in (image_from_caller bare u) s.height) (u.regs 5) (image_from_caller bare u) x) all_locals
