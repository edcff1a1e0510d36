-- An exit with other numbers of temporaries goes on in the same way.
use Rattle.std.proofs.Common.{◌≡◌, ℕ, zero, suc, ◌+◌, ◌*◌, ◌==◌, Bool, true, false, cond, List, [], ◌∷◌, map, Option, Some, None, Result, Ok, Err, refl, sym, ap, ◌∙◌}
use Rattle.x86_values.specs.declared.word.Word.{Word}
use Rattle.x86_values.specs.declared.byte.Byte.{Byte}
use Rattle.x86_values.specs.Words.{known, padded, word_of}
use Rattle.traces.specs.Trace.{End, Outside, Stopped}
use Rattle.memory.specs.Memory.{wrapped, bytes_at, put}
use Rattle.flag_ir.specs.declared.block.Block.{Block}
use Rattle.flag_ir.specs.declared.block.Exit.{Exit}
use Rattle.flag_ir.specs.declared.block.Exit.TheVariants as exit
use Rattle.flag_ir.specs.declared.procedure.FrameKind.{FrameKind}
use Rattle.flag_ir.specs.declared.procedure.FrameKind.TheVariants.{Sealed, Guarded, Shared}
use Rattle.flag_ir.specs.declared.procedure.Proc.{Proc}
use Rattle.flag_ir.specs.Calculations.{sum_of}
use Rattle.flag_ir.specs.Storage.{Frame, Storage, put_word, term_in}
use Rattle.flag_ir.specs.Frames.{covers, with_image, with_caller_byte, copied_back, forget_by}
use Rattle.flag_ir.specs.Operations.{and_then, needed}
use Rattle.flag_ir.specs.Entering.{CodeUnit, Onward, blocks_of, index_of_number, index_at, procedure_at, before_block, to_number, is_too_deep, new_frame, with_new_frame, opened, jump_by, jump_with, jump, is_within_caller, call_from, call_by, word_of_frame, are_equal, unless_changed, checked, closed, back_to, return_from, stop_at, leave}
use Rattle.guards.specs.Renumbering.{renumbered_term, renumbered_exit, renumbered_block, renumbered_unit}
use Rattle.guards.proofs.GuardedBlocks.{position_mapped}
use Rattle.guards.proofs.RenumberedOps.{mapped, then_mapped, cond_mapped, renamed, term_read}

-- ---- blocks by number and by address
pub number_same : (n : ℕ) (bs : List Block) → index_of_number n (map renumbered_block bs) ≡ index_of_number n bs
unfolding index_of_number
number_same n bs = position_mapped (λ b. b.number == n) renumbered_block (λ b. refl) bs

pub address_same : (a : ℕ) (bs : List Block) → index_at a (map renumbered_block bs) ≡ index_at a bs
unfolding index_at
address_same a bs = ap (cond (a == 0) None) (position_mapped (λ b. b.at == a) renumbered_block (λ b. refl) bs)

in_part : (u : CodeUnit) (n : ℕ) (frames : List Frame) → index_of_number n (blocks_of u frames) ≡ index_of_number n (blocks_of (renumbered_unit u) frames)
in_part u n [] = sym (number_same n u.whole)
in_part u n (x ∷ xs) = refl

-- ---- ways on
abbrev pub renamed_onward : (ℕ → ℕ) → ℕ × Storage → ℕ × Storage
renamed_onward f p = (p.0, renamed f p.1)

module _ (f : ℕ → ℕ) where
  abbrev OnwardSame : Onward → Onward → Type 0
  OnwardSame p r = p ≡ mapped (renamed_onward f) r

  before_same : (o : Option ℕ) (e : End) (v : Storage) → OnwardSame (before_block o e (renamed f v)) (before_block o e v)
  before_same None e v = refl
  before_same (Some k) e v = refl

  opened_same : (x : Frame) (v : Storage) → OnwardSame (opened x (renamed f v)) (opened x v)
  opened_same x v =
      cond_mapped (renamed_onward f) (is_too_deep v.esp0 x v.frames) (Err (Stopped x.proc.entry)) (before_block (index_at x.proc.entry x.proc.blocks) Outside (with_new_frame x (renamed f v))) (Err (Stopped x.proc.entry))
      (before_block (index_at x.proc.entry x.proc.blocks) Outside (with_new_frame x v)) refl (before_same (index_at x.proc.entry x.proc.blocks) Outside (with_new_frame x v))

  -- ---- a closed frame
  byte_same : (a : ℕ) (b : Byte) (v : Storage) (frames : List Frame) → with_caller_byte a b (renamed f v) frames ≡ renamed f (with_caller_byte a b v frames)
  byte_same a b v [] = refl
  byte_same a b v (x ∷ xs) = by (covers a x)
    where
      by : (c : Bool) → cond c (let u : Storage = record (renamed f v) { frames = with_image a b x ∷ xs } in u) (record (renamed f v) { memory = put a b v.memory }) ≡ renamed f (cond c (let u : Storage = record v { frames = with_image a b x ∷ xs } in u) (record v { memory = put a b v.memory }))
      by true = refl
      by false = refl

  copied_same : (x : Frame) (at n : ℕ) (v : Storage) → copied_back x at n (renamed f v) ≡ renamed f (copied_back x at n v)
  unfolding copied_back
  copied_same x at zero v = refl
  copied_same x at (suc n) v = ap (copied_back x (at + 1) n) (byte_same (wrapped at) (x.image (wrapped at)) v v.frames) ∙ copied_same x (at + 1) n (with_caller_byte (wrapped at) (x.image (wrapped at)) v v.frames)

  closed_same : (x : Frame) (more : List Frame) (v : Storage) → closed x more (renamed f v) ≡ renamed f (closed x more v)
  closed_same x more v = copied_same x (x.height + 4) (4 * x.proc.args) (record v { frames = forget_by x.proc.kind x more; regs = put_word 4 (sum_of (v.regs 4) (word_of 4)) v.regs })

  unless_same : (turn : ℕ) (b : Result Bool End) (p r : Onward) → OnwardSame p r → OnwardSame (unless_changed turn b p) (unless_changed turn b r)
  unless_same turn (Ok true) p r h = h
  unless_same turn (Ok false) p r h = refl
  unless_same turn (Err e) p r h = refl

  checked_same : (turn : ℕ) (kind : FrameKind) (x : Frame) (v : Storage) (p r : Onward) → OnwardSame p r → OnwardSame (checked turn kind x (renamed f v) p) (checked turn kind x v r)
  checked_same turn Sealed x v p r h = h
  checked_same turn Guarded x v p r h = unless_same turn (are_equal (known (word_of_frame x v.memory)) (known x.word) (known (v.regs 5)) (known x.ebp)) p r h
  checked_same turn Shared x v p r h = unless_same turn (are_equal (known (word_of_frame x v.memory)) (known x.word) (known (v.regs 5)) (known x.ebp)) p r h

  stop_same : (lowered : Bool) (turn : ℕ) (v : Storage) → OnwardSame (stop_at lowered turn (renamed f v)) (stop_at lowered turn v)
  stop_same false turn v = refl
  stop_same true turn v = then_mapped (renamed_onward f) (needed (known (padded (bytes_at v.memory 0x75000004 4)))) (λ a. Err (Stopped a)) (λ a. Err (Stopped a)) (λ a. refl)

  module _ (u : CodeUnit) where
    number_on : (n : ℕ) (v : Storage) → OnwardSame (to_number u n (renamed f v)) (to_number (renumbered_unit u) n v)
    number_on n v = ap (λ o. before_block o Outside (renamed f v)) (in_part u n v.frames) ∙ before_same (index_of_number n (blocks_of (renumbered_unit u) v.frames)) Outside v

    procedure_on : (o : Option Proc) (a : ℕ) (v : Storage) → OnwardSame (jump_by o u a (renamed f v)) (jump_by o (renumbered_unit u) a v)
    procedure_on (Some p) a v = then_mapped (renamed_onward f) (needed (known (v.regs 4))) (λ h. opened (new_frame p h None (renamed f v)) (renamed f v)) (λ h. opened (new_frame p h None v) v) (λ h. opened_same (new_frame p h None v) v)
    procedure_on None a v = ap (λ o. before_block o (Stopped a) (renamed f v)) (sym (address_same a u.whole)) ∙ before_same (index_at a (map renumbered_block u.whole)) (Stopped a) v

    frames_on : (frames : List Frame) (a : ℕ) (v : Storage) → OnwardSame (jump_with frames u a (renamed f v)) (jump_with frames (renumbered_unit u) a v)
    frames_on [] a v = procedure_on (procedure_at a u.procs) a v
    frames_on (x ∷ xs) a v = refl

    pub jump_on : (a : ℕ) (v : Storage) → OnwardSame (jump u a (renamed f v)) (jump (renumbered_unit u) a v)
    unfolding jump
    jump_on a v = frames_on v.frames a v

    call_on : (frames : List Frame) (o : Option Proc) (back : ℕ) (v : Storage) → OnwardSame (call_by frames o back (renamed f v)) (call_by frames o back v)
    call_on [] o back v = refl
    call_on (x ∷ xs) None back v = refl
    call_on (x ∷ xs) (Some p) back v =
        then_mapped (renamed_onward f) (needed (known (v.regs 4))) (λ h. call_from x p back h (renamed f v)) (λ h. call_from x p back h v)
        (λ h. cond_mapped (renamed_onward f) (is_within_caller h p x) (opened (new_frame p h (Some back) v) (renamed f v)) (Err (Stopped p.entry)) (opened (new_frame p h (Some back) v) v) (Err (Stopped p.entry)) (opened_same (new_frame p h (Some back) v) v) refl)

    back_on : (o : Option ℕ) (w : Word) (v : Storage) → OnwardSame (back_to u o w (renamed f v)) (back_to (renumbered_unit u) o w v)
    back_on (Some n) w v = number_on n v
    back_on None w v = then_mapped (renamed_onward f) (needed (known w)) (λ a. jump u a (renamed f v)) (λ a. jump (renumbered_unit u) a v) (λ a. jump_on a v)

    return_on : (turn : ℕ) (frames : List Frame) (v : Storage) → OnwardSame (return_from u turn frames (renamed f v)) (return_from (renumbered_unit u) turn frames v)
    return_on turn [] v = refl
    return_on turn (x ∷ xs) v =
        checked_same turn x.proc.kind x v (back_to u x.back x.word (closed x xs (renamed f v))) (back_to (renumbered_unit u) x.back x.word (closed x xs v))
        (ap (back_to u x.back x.word) (closed_same x xs v) ∙ back_on x.back x.word (closed x xs v))

    -- ---- exits
    pub exit_same : (turn : ℕ) (e : Exit) (v : Storage) → OnwardSame (leave u turn e (renamed f v)) (leave (renumbered_unit u) turn (renumbered_exit f e) v)
    unfolding leave
    exit_same turn (exit.Go n) v = number_on n v
    exit_same turn (exit.Branch test m n) v =
        ap (λ w. and_then (needed (known w)) (λ k. to_number u (cond (k == 0) n m) (renamed f v))) (term_read f test v)
        ∙ then_mapped (renamed_onward f) (needed (known (term_in (renumbered_term f test) v))) (λ k. to_number u (cond (k == 0) n m) (renamed f v)) (λ k. to_number (renumbered_unit u) (cond (k == 0) n m) v) (λ k. number_on (cond (k == 0) n m) v)
    exit_same turn (exit.Jump to) v =
        ap (λ w. and_then (needed (known w)) (λ a. jump u a (renamed f v))) (term_read f to v)
        ∙ then_mapped (renamed_onward f) (needed (known (term_in (renumbered_term f to) v))) (λ a. jump u a (renamed f v)) (λ a. jump (renumbered_unit u) a v) (λ a. jump_on a v)
    exit_same turn (exit.CallProc entry back) v = call_on v.frames (procedure_at entry u.procs) back v
    exit_same turn exit.Return v = return_on turn v.frames v
    exit_same turn exit.Fault v = refl
    exit_same turn exit.Stop v = stop_same u.lowered turn v
