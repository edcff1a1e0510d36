-- How a return finds the return word and ebp.
use Rattle.std.proofs.Common.{◌≡◌, ℕ, ◌+◌, Bool, true, false, cond, List, [], ◌∷◌, Some, None, Result, refl, sym, ap, ◌∙◌, subst, arith}
use Rattle.std.specs.List.{slice_get}
use Rattle.x86_values.specs.declared.word.Word.{Word}
use Rattle.x86_values.specs.Words.{known}
use Rattle.traces.specs.Trace.{End}
use Rattle.memory.specs.Memory.{Memory, wrapped}
use Rattle.flag_ir.specs.declared.procedure.FrameKind.{FrameKind}
use Rattle.flag_ir.specs.declared.procedure.FrameKind.TheVariants.{Sealed, Guarded, Shared}
use Rattle.flag_ir.specs.declared.procedure.Proc.{Proc}
use Rattle.flag_ir.specs.Storage.{Frame, Storage}
use Rattle.flag_ir.specs.Frames.{byte_in, byte_by, bytes_in}
use Rattle.flag_ir.specs.Entering.{Onward, are_equal, checked, unless_changed, word_of_frame}
use Rattle.unit_frames.specs.declared.frame.OpenFrame.{OpenFrame}
use Rattle.unit_frames.specs.declared.returning.ReturnCheck.{ReturnCheck}
use Rattle.unit_frames.specs.declared.returning.ReturnCheck.TheVariants as check
use Rattle.unit_frames.specs.Kept.{is_in, image_of, frame_of}
use Rattle.unit_frames.specs.Opened.{or_memory, from_caller}
use Rattle.unit_frames.specs.Returned.{comparison_of, word_around, Checks}

byte_same : (procs : List Proc) (f : OpenFrame) (more : List OpenFrame) (m : Memory) (a : ℕ) → byte_in (frame_of procs f ∷ []) m a ≡ from_caller (f ∷ more) m a
byte_same procs f more m a = by (is_in a f)
  where
    by : (t : Bool) → byte_by (cond t (Some (frame_of procs f)) None) a m ≡ or_memory (cond t (Some (image_of f a)) None) m a
    by true = refl
    by false = refl

word_same : (procs : List Proc) (f : OpenFrame) (more : List OpenFrame) (m : Memory) → word_of_frame (frame_of procs f) m ≡ word_around (f ∷ more) m f.height
unfolding bytes_in
word_same procs f more m =
    let two : f.height + 1 + 1 ≡ f.height + 2 = omega arith in
    let three : f.height + 1 + 1 + 1 ≡ f.height + 3 = omega arith in
    let at : (a : ℕ) → byte_in (frame_of procs f ∷ []) m (wrapped a) ≡ from_caller (f ∷ more) m (wrapped a) = λ a. byte_same procs f more m (wrapped a) in
    let third : byte_in (frame_of procs f ∷ []) m (wrapped (f.height + 1 + 1)) ≡ from_caller (f ∷ more) m (wrapped (f.height + 2)) = at (f.height + 1 + 1) ∙ ap (λ (a : ℕ). from_caller (f ∷ more) m (wrapped a)) two in
    let last : byte_in (frame_of procs f ∷ []) m (wrapped (f.height + 1 + 1 + 1)) ≡ from_caller (f ∷ more) m (wrapped (f.height + 3)) = at (f.height + 1 + 1 + 1) ∙ ap (λ (a : ℕ). from_caller (f ∷ more) m (wrapped a)) three in
    λ i. record { b0 = at f.height i; b1 = at (f.height + 1) i; b2 = third i; b3 = last i }

pub no_return : (r : ReturnCheck) (fs : List OpenFrame) (m : Memory) (w : Word) → slice_get fs 0 ≡ None → Checks r fs m w
no_return r [] m w h = tt
no_return r (f ∷ more) m w h = absurd (cc h)

pub sealed_return : (fs : List OpenFrame) (f : OpenFrame) (m : Memory) (w : Word) → slice_get fs 0 ≡ Some f → f.kind ≡ Sealed → Checks check.Kept fs m w
sealed_return [] f m w h is = absurd (cc h)
sealed_return (g ∷ more) f m w h is = λ procs turn u done memory ebp.
    let same : g ≡ f = cc h in
    let kind : g.kind ≡ Sealed = ap (λ (x : OpenFrame). x.kind) same ∙ is in
    ap (λ (k : FrameKind). checked turn k (frame_of procs g) u done) kind

abbrev IsChecking : FrameKind → Type 0
IsChecking Sealed = ⊥
IsChecking Guarded = Unit {0}
IsChecking Shared = Unit {0}

checks_word : (k : FrameKind) (turn : ℕ) (f : Frame) (u : Storage) (done : Onward) → IsChecking k → checked turn k f u done ≡ unless_changed turn (are_equal (known (word_of_frame f u.memory)) (known f.word) (known (u.regs 5)) (known f.ebp)) done
checks_word Sealed turn f u done h = absurd h
checks_word Guarded turn f u done h = refl
checks_word Shared turn f u done h = refl

pub checked_return : (r : ReturnCheck) (fs : List OpenFrame) (f : OpenFrame) (m : Memory) (w : Word) → slice_get fs 0 ≡ Some f → IsChecking f.kind → comparison_of r ≡ are_equal (known (word_around fs m f.height)) (known f.word) (known w) (known f.ebp) → Checks r fs m w
checked_return r [] f m w h is equal = absurd (cc h)
checked_return r (g ∷ more) f m w h is equal = λ procs turn u done memory ebp.
    let same : f ≡ g = cc h in
    let kind : IsChecking g.kind = subst (λ (x : OpenFrame). IsChecking x.kind) same is in
    let here : comparison_of r ≡ are_equal (known (word_around (g ∷ more) m g.height)) (known g.word) (known w) (known g.ebp) = equal ∙ ap (λ (x : OpenFrame). are_equal (known (word_around (g ∷ more) m x.height)) (known x.word) (known w) (known x.ebp)) same in
    checks_word g.kind turn (frame_of procs g) u done kind
    ∙ ap (λ (n : Memory). unless_changed turn (are_equal (known (word_of_frame (frame_of procs g) n)) (known g.word) (known (u.regs 5)) (known g.ebp)) done) memory
    ∙ ap (λ (x : Word). unless_changed turn (are_equal (known x) (known g.word) (known (u.regs 5)) (known g.ebp)) done) (word_same procs g more m)
    ∙ ap (λ (x : Word). unless_changed turn (are_equal (known (word_around (g ∷ more) m g.height)) (known g.word) (known x) (known g.ebp)) done) ebp
    ∙ ap (λ (x : Result Bool End). unless_changed turn x done) (sym here)
