-- Exits and moves are monotone in what is specified.
use Rattle.std.proofs.Common.{◌≡◌, ℕ, ◌+◌, ◌*◌, ◌==◌, ◌||◌, Bool, true, false, cond, ltb, List, [], ◌∷◌, slice_get, fold, Option, Some, None, Result, Ok, Err, refl, ap, ◌∙◌, subst}
use Rattle.x86_values.specs.declared.byte.Byte.{Byte}
use Rattle.x86_values.specs.declared.byte.Byte.TheVariants as byte
use Rattle.x86_values.specs.declared.word.Word.{Word}
use Rattle.x86_values.specs.Words.{word_of, known, padded}
use Rattle.x86_values.specs.Sizes.{no_word}
use Rattle.x86_values.specs.LessSpecified.{ByteLessSpecified, WordLessSpecified}
use Rattle.traces.specs.Trace.{Label, Turn, End, Outside, Stopped, Move, Stand, Go, Halt}
use Rattle.traces.specs.Machines.{marked}
use Rattle.memory.specs.Memory.{Memory}
use Rattle.memory.specs.CallLaws.{CallLaws}
use Rattle.memory.specs.LessSpecified.{MemoryLessSpecified}
use Rattle.memory.specs.LessSpecifiedLaws.{LessSpecifiedMemoryLaws}
use Rattle.flag_ir.specs.declared.operation.Op.{Op}
use Rattle.flag_ir.specs.declared.block.Block.{Block}
use Rattle.flag_ir.specs.declared.block.Exit.{Exit}
use Rattle.flag_ir.specs.declared.block.Exit.TheVariants as exit
use Rattle.flag_ir.specs.declared.procedure.FrameKind.{FrameKind}
use Rattle.flag_ir.specs.declared.procedure.FrameKind.TheVariants.{Sealed, Guarded, Shared}
use Rattle.flag_ir.specs.declared.procedure.LocalSlot.{LocalSlot}
use Rattle.flag_ir.specs.declared.procedure.Proc.{Proc}
use Rattle.flag_ir.specs.Calculations.{sum_of}
use Rattle.flag_ir.specs.Storage.{Frame, Storage, put_word}
use Rattle.flag_ir.specs.Frames.{frame_size, is_from_caller, bytes_in, copied_back, forget_by}
use Rattle.flag_ir.specs.Entering.{CodeUnit, Onward, blocks_of, index_of_number, index_at, procedure_at, before_block, to_number, taken_up, is_too_deep, no_local, bare_frame, image_from_caller, word_in, new_frame, with_new_frame, opened, jump_by, jump_with, jump, is_within_caller, call_by, word_of_frame, are_equal, unless_changed, checked, closed, back_to, return_from, stop_at, leave}
use Rattle.flag_ir.specs.UnitRun.{Point, Before, Within, Over, UnitState, state_at, performed, left_for, within, fresh, begun, next}
use Rattle.flag_ir.specs.LessSpecified.{FrameLessSpecified, FramesLessSpecified, StorageLessSpecified, ResultLessSpecified, OnwardLessSpecified, UnitStateLessSpecified, MoveLessSpecified}
use Rattle.flag_ir.proofs.ValuesLess.{ValueLaws, SameWhere, byte_either, nothing_less, padded_less, known_less, number_itself, sum_less, put_words_less, known_term}
use Rattle.flag_ir.proofs.FramesLess.{bytes_less, caller_byte_less, copied_less, forget_by_less}
use Rattle.flag_ir.proofs.OperationsLess.{GivesLess, end_behind, end_itself, needed_less, result_either, perform_less, shown_same}

-- ---- where a run goes on
abbrev pub PlacesLess : (ℕ × Storage) → (ℕ × Storage) → Type 0
PlacesLess p q = (p.0 ≡ q.0) × StorageLessSpecified p.1 q.1

abbrev pub OnwardLess : Onward → Onward → Type 0
OnwardLess r s = GivesLess PlacesLess r s

as_onward : (r s : Onward) → OnwardLess r s → OnwardLessSpecified r s
as_onward (Ok p) (Ok q) h = h
as_onward (Ok p) (Err e) h = h
as_onward (Err e) s h = h

block_less : (o p : Option ℕ) (e : End) (u v : Storage) → o ≡ p → StorageLessSpecified u v → OnwardLess (before_block o e u) (before_block p e v)
block_less o p e u v same h = rw same (go p)
  where
    go : (p : Option ℕ) → OnwardLess (before_block p e u) (before_block p e v)
    go None = end_itself e (Err e)
    go (Some k) = (refl, h)

blocks_alike : (unit : CodeUnit) (fs gs : List Frame) → FramesLessSpecified fs gs → blocks_of unit fs ≡ blocks_of unit gs
blocks_alike unit [] gs h = rw h refl
blocks_alike unit (f ∷ fs) [] h = absurd h
blocks_alike unit (f ∷ fs) (g ∷ gs) h = ap (λ (p : Proc). p.blocks) h.0.proc

number_less : (unit : CodeUnit) (n : ℕ) (u v : Storage) → StorageLessSpecified u v → OnwardLess (to_number unit n u) (to_number unit n v)
number_less unit n u v h = block_less _ _ Outside u v (ap (index_of_number n) (blocks_alike unit u.frames v.frames h.frames)) h

-- ---- frames that are opened
taken_from : (fs gs : List Frame) (n : ℕ) → FramesLessSpecified fs gs → fold (λ a f. a + (2 * frame_size f + 256)) n fs ≡ fold (λ a f. a + (2 * frame_size f + 256)) n gs
taken_from [] gs n h = rw h refl
taken_from (f ∷ fs) [] n h = absurd h
taken_from (f ∷ fs) (g ∷ gs) n h =
    let size : frame_size f ≡ frame_size g = ap (λ (p : Proc). p.depth + 4 + 4 * p.args) h.0.proc in
    ap (λ (m : ℕ). fold (λ a x. a + (2 * frame_size x + 256)) (n + (2 * m + 256)) fs) size ∙ taken_from fs gs (n + (2 * frame_size g + 256)) h.1

taken_same : (fs gs : List Frame) → FramesLessSpecified fs gs → taken_up fs ≡ taken_up gs
taken_same fs gs h = taken_from fs gs 0 h

any_same : (a b c d e f : Bool) → a ≡ d → b ≡ e → c ≡ f → (a || b || c) ≡ (d || e || f)
any_same a b c d e f h k l = rw (h, k, l) refl

too_deep_same : (u v : Storage) (f g : Frame) → FrameLessSpecified f g → StorageLessSpecified u v → is_too_deep u.esp0 f u.frames ≡ is_too_deep v.esp0 g v.frames
too_deep_same u v f g h k =
    let low : ltb (f.height + 4194304) (u.esp0 + f.proc.depth) ≡ ltb (g.height + 4194304) (v.esp0 + g.proc.depth) = rw (k.esp0, h.height, h.proc) refl in
    let high : ltb u.esp0 f.height ≡ ltb v.esp0 g.height = rw (k.esp0, h.height) refl in
    let much : ltb 50331648 (taken_up (f ∷ u.frames)) ≡ ltb 50331648 (taken_up (g ∷ v.frames)) = ap (ltb 50331648) (taken_same (f ∷ u.frames) (g ∷ v.frames) (h, k.frames)) in
    any_same _ _ _ _ _ _ low high much

opened_less : (f g : Frame) (u v : Storage) → FrameLessSpecified f g → StorageLessSpecified u v → OnwardLess (opened f u) (opened g v)
opened_less f g u v h k =
    let with_frames : StorageLessSpecified (with_new_frame f u) (with_new_frame g v) = record { regs = k.regs; flags = k.flags; temps = k.temps; memory = k.memory; left = k.left; environment = k.environment; frames = (h, k.frames); esp0 = k.esp0 } in
    let same_entry : OnwardLess (Err (Stopped f.proc.entry)) (Err (Stopped g.proc.entry)) = ap (λ (p : Proc). Err (Stopped p.entry)) h.proc in
    result_either PlacesLess _ _ _ _ _ _ (too_deep_same u v f g h k) same_entry (block_less _ _ Outside _ _ (ap (λ (p : Proc). index_at p.entry p.blocks) h.proc) with_frames)

no_local_less : ValueLaws → (o : Option LocalSlot) → WordLessSpecified (no_local o) (no_local o)
no_local_less laws None = nothing_less _
no_local_less laws (Some s) = laws.less.nothing s.size no_word

word_in_less : (f g : ℕ → Byte) (a : ℕ) → ((b : ℕ) → ByteLessSpecified (f b) (g b)) → WordLessSpecified (word_in f a) (word_in g a)
word_in_less f g a h = record { b0 = h a; b1 = h (a + 1); b2 = h (a + 2); b3 = h (a + 3) }

from_caller_less : (p : Proc) (height : ℕ) (back : Option ℕ) (u v : Storage) (a : ℕ) → StorageLessSpecified u v → ByteLessSpecified (image_from_caller (bare_frame p height back u) u a) (image_from_caller (bare_frame p height back v) v a)
from_caller_less p height back u v a h = byte_either (is_from_caller a (bare_frame p height back u)) _ byte.Unspecified _ byte.Unspecified (caller_byte_less u.frames v.frames u.memory v.memory a h.frames h.memory) tt

new_frame_less : ValueLaws → (p : Proc) (height : ℕ) (back : Option ℕ) (u v : Storage) → StorageLessSpecified u v → FrameLessSpecified (new_frame p height back u) (new_frame p height back v)
new_frame_less laws p height back u v h = record {
  proc = refl;
  height = refl;
  word = word_in_less _ _ height (λ a. from_caller_less p height back u v a h);
  ebp = h.regs 5;
  back = refl;
  image = λ a. from_caller_less p height back u v a h;
  locals = λ n. no_local_less laws (slice_get p.locals n);
}

module _ (laws : ValueLaws) (memories : LessSpecifiedMemoryLaws) (unit : CodeUnit) where
  -- ---- jumps and calls
  jump_by_less : (o : Option Proc) (a : ℕ) (u v : Storage) → StorageLessSpecified u v → OnwardLess (jump_by o unit a u) (jump_by o unit a v)
  jump_by_less (Some p) a u v h = needed_less PlacesLess _ _ _ _ (known_less laws _ _ (h.regs 4)) (λ height. opened_less _ _ u v (new_frame_less laws p height None u v h) h)
  jump_by_less None a u v h = block_less _ _ (Stopped a) u v refl h

  jump_with_less : (fs gs : List Frame) (a : ℕ) (u v : Storage) → FramesLessSpecified fs gs → StorageLessSpecified u v → OnwardLess (jump_with fs unit a u) (jump_with gs unit a v)
  jump_with_less [] gs a u v h k = rw h (jump_by_less (procedure_at a unit.procs) a u v k)
  jump_with_less (f ∷ fs) [] a u v h k = absurd h
  jump_with_less (f ∷ fs) (g ∷ gs) a u v h k = refl

  jump_less : (a : ℕ) (u v : Storage) → StorageLessSpecified u v → OnwardLess (jump unit a u) (jump unit a v)
  unfolding jump
  jump_less a u v h = jump_with_less u.frames v.frames a u v h.frames h

  within_caller_same : (height : ℕ) (p : Proc) (f g : Frame) → FrameLessSpecified f g → is_within_caller height p f ≡ is_within_caller height p g
  within_caller_same height p f g h = rw (h.height, h.proc) refl

  call_by_less : (fs gs : List Frame) (o : Option Proc) (back : ℕ) (u v : Storage) → FramesLessSpecified fs gs → StorageLessSpecified u v → OnwardLess (call_by fs o back u) (call_by gs o back v)
  call_by_less [] gs o back u v h k = rw h refl
  call_by_less (f ∷ fs) [] o back u v h k = absurd h
  call_by_less (f ∷ fs) (g ∷ gs) None back u v h k = refl
  call_by_less (f ∷ fs) (g ∷ gs) (Some p) back u v h k =
      needed_less PlacesLess _ _ _ _ (known_less laws _ _ (k.regs 4)) (λ height. result_either PlacesLess _ _ _ _ _ _ (within_caller_same height p f g h.0) (opened_less _ _ u v (new_frame_less laws p height (Some back) u v k) k) refl)

  -- ---- a return
  equal_less : (a b c d e f g h : Option ℕ) → SameWhere a e → SameWhere b f → SameWhere c g → SameWhere d h → GivesLess (λ x y. x ≡ y) (are_equal a b c d) (are_equal e f g h)
  equal_less None b c d e f g h k l m n = tt
  equal_less (Some a) None c d e f g h k l m n = tt
  equal_less (Some a) (Some b) None d e f g h k l m n = tt
  equal_less (Some a) (Some b) (Some c) None e f g h k l m n = tt
  equal_less (Some a) (Some b) (Some c) (Some d) e f g h k l m n = rw (k, l, m, n) refl

  unless_less : (turn : ℕ) (r s : Result Bool End) (x y : Onward) → GivesLess (λ a b. a ≡ b) r s → OnwardLess x y → OnwardLess (unless_changed turn r x) (unless_changed turn s y)
  unless_less turn (Ok a) (Ok b) x y h k = rw h (go b)
    where
      go : (b : Bool) → OnwardLess (unless_changed turn (Ok b) x) (unless_changed turn (Ok b) y)
      go true = k
      go false = refl
  unless_less turn (Ok a) (Err e) x y h k = absurd h
  unless_less turn (Err e) s x y h k = end_behind (λ r. unless_changed turn r y) e (Err e) s h

  frame_word_less : (f g : Frame) (m n : Memory) → FrameLessSpecified f g → MemoryLessSpecified m n → WordLessSpecified (word_of_frame f m) (word_of_frame g n)
  frame_word_less f g m n h k = subst (λ (at : ℕ). WordLessSpecified (word_of_frame f m) (padded (bytes_in (g ∷ []) n at 4))) h.height (padded_less _ _ (bytes_less (f ∷ []) (g ∷ []) m n f.height 4 (h, refl) k))

  return_word_less : (turn : ℕ) (f g : Frame) (u v : Storage) (x y : Onward) → FrameLessSpecified f g → StorageLessSpecified u v → OnwardLess x y
      → OnwardLess (unless_changed turn (are_equal (known (word_of_frame f u.memory)) (known f.word) (known (u.regs 5)) (known f.ebp)) x) (unless_changed turn (are_equal (known (word_of_frame g v.memory)) (known g.word) (known (v.regs 5)) (known g.ebp)) y)
  return_word_less turn f g u v x y h k l =
      unless_less turn _ _ x y (equal_less _ _ _ _ _ _ _ _ (known_less laws _ _ (frame_word_less f g u.memory v.memory h k.memory)) (known_less laws _ _ h.word) (known_less laws _ _ (k.regs 5)) (known_less laws _ _ h.ebp)) l

  checked_less : (turn : ℕ) (kind : FrameKind) (f g : Frame) (u v : Storage) (x y : Onward) → FrameLessSpecified f g → StorageLessSpecified u v → OnwardLess x y → OnwardLess (checked turn kind f u x) (checked turn kind g v y)
  checked_less turn Sealed f g u v x y h k l = l
  checked_less turn Guarded f g u v x y h k l = return_word_less turn f g u v x y h k l
  checked_less turn Shared f g u v x y h k l = return_word_less turn f g u v x y h k l

  -- the frame closed, for a kind, a height and argument words
  abbrev closed_by : Frame → FrameKind → ℕ → ℕ → List Frame → Storage → Storage
  closed_by f kind height args more u = copied_back f (height + 4) (4 * args) (record u { frames = forget_by kind f more; regs = put_word 4 (sum_of (u.regs 4) (word_of 4)) u.regs })

  closed_by_less : (f g : Frame) (kind : FrameKind) (height args : ℕ) (fs gs : List Frame) (u v : Storage) → FrameLessSpecified f g → FramesLessSpecified fs gs → StorageLessSpecified u v → StorageLessSpecified (closed_by f kind height args fs u) (closed_by g kind height args gs v)
  closed_by_less f g kind height args fs gs u v h k l =
      copied_less f g (height + 4) (4 * args) _ _ h
      (record {
        regs = put_words_less laws 4 _ _ u.regs v.regs (sum_less laws _ _ _ _ (l.regs 4) (number_itself laws 4)) l.regs;
        flags = l.flags;
        temps = l.temps;
        memory = l.memory;
        left = l.left;
        environment = l.environment;
        frames = forget_by_less kind f g fs gs h k;
        esp0 = l.esp0;
      })

  closed_less : (f g : Frame) (fs gs : List Frame) (u v : Storage) → FrameLessSpecified f g → FramesLessSpecified fs gs → StorageLessSpecified u v → StorageLessSpecified (closed f fs u) (closed g gs v)
  closed_less f g fs gs u v h k l =
      let left = closed_by f f.proc.kind f.height f.proc.args fs u in
      let moved : StorageLessSpecified left (closed_by g f.proc.kind f.height f.proc.args gs v) = closed_by_less f g f.proc.kind f.height f.proc.args fs gs u v h k l in
      let by_height : StorageLessSpecified left (closed_by g f.proc.kind g.height f.proc.args gs v) = subst (λ (n : ℕ). StorageLessSpecified left (closed_by g f.proc.kind n f.proc.args gs v)) h.height moved in
      subst (λ (p : Proc). StorageLessSpecified left (closed_by g p.kind g.height p.args gs v)) h.proc by_height

  back_less : (o : Option ℕ) (w x : Word) (u v : Storage) → WordLessSpecified w x → StorageLessSpecified u v → OnwardLess (back_to unit o w u) (back_to unit o x v)
  back_less (Some n) w x u v h k = number_less unit n u v k
  back_less None w x u v h k = needed_less PlacesLess _ _ _ _ (known_less laws w x h) (λ a. jump_less a u v k)

  return_less : (turn : ℕ) (fs gs : List Frame) (u v : Storage) → FramesLessSpecified fs gs → StorageLessSpecified u v → OnwardLess (return_from unit turn fs u) (return_from unit turn gs v)
  return_less turn [] gs u v h k = rw h refl
  return_less turn (f ∷ fs) [] u v h k = absurd h
  return_less turn (f ∷ fs) (g ∷ gs) u v h k =
      let left = return_from unit turn (f ∷ fs) u in
      let back : OnwardLess (back_to unit f.back f.word (closed f fs u)) (back_to unit f.back g.word (closed g gs v)) = back_less f.back f.word g.word _ _ h.0.word (closed_less f g fs gs u v h.0 h.1 k) in
      let same_back : OnwardLess (back_to unit f.back f.word (closed f fs u)) (back_to unit g.back g.word (closed g gs v)) = subst (λ (o : Option ℕ). OnwardLess (back_to unit f.back f.word (closed f fs u)) (back_to unit o g.word (closed g gs v))) h.0.back back in
      subst (λ (p : Proc). OnwardLess left (checked turn p.kind g v (back_to unit g.back g.word (closed g gs v)))) h.0.proc (checked_less turn f.proc.kind f g u v _ _ h.0 k same_back)

  stop_less : (lowered : Bool) (turn : ℕ) (u v : Storage) → StorageLessSpecified u v → OnwardLess (stop_at lowered turn u) (stop_at lowered turn v)
  stop_less false turn u v h = refl
  stop_less true turn u v h = needed_less PlacesLess _ _ _ _ (known_less laws _ _ (padded_less _ _ (memories.bytes u.memory v.memory 0x75000004 4 h.memory))) (λ a. refl)

  -- ---- the exits
  exit_less : (turn : ℕ) (e : Exit) (u v : Storage) → StorageLessSpecified u v → OnwardLess (leave unit turn e u) (leave unit turn e v)
  unfolding leave
  exit_less turn (exit.Go n) u v h = number_less unit n u v h
  exit_less turn (exit.Branch test m n) u v h = needed_less PlacesLess _ _ _ _ (known_term laws test u v h) (λ a. number_less unit (cond (a == 0) n m) u v h)
  exit_less turn (exit.Jump to) u v h = needed_less PlacesLess _ _ _ _ (known_term laws to u v h) (λ a. jump_less a u v h)
  exit_less turn (exit.CallProc entry back) u v h = call_by_less u.frames v.frames (procedure_at entry unit.procs) back u v h.frames h
  exit_less turn exit.Return u v h = return_less turn u.frames v.frames u v h.frames h
  exit_less turn exit.Fault u v h = refl
  exit_less turn exit.Stop u v h = stop_less unit.lowered turn u v h

  pub leave_less : (turn : ℕ) (e : Exit) (u v : Storage) → StorageLessSpecified u v → OnwardLessSpecified (leave unit turn e u) (leave unit turn e v)
  leave_less turn e u v h = as_onward (leave unit turn e u) (leave unit turn e v) (exit_less turn e u v h)

  -- ---- moves
  left_less : (turn : ℕ) (r s : Onward) → OnwardLess r s → MoveLessSpecified (left_for turn r) (left_for turn s)
  left_less turn (Ok p) (Ok q) h = (refl, record { storage = h.1; turn = refl; point = ap Before h.0 })
  left_less turn (Ok p) (Err e) h = absurd h
  left_less turn (Err e) s h = end_behind (left_for turn) e (Err e) s h

  performed_less : (turn : ℕ) (ls ks : List Label) (r s : Result Storage End) (ops : List Op) (e : Exit) → ResultLessSpecified r s → ((w : Storage) → r ≡ Ok w → ls ≡ ks) → MoveLessSpecified (performed turn ls r ops e) (performed turn ks s ops e)
  performed_less turn ls ks (Ok u) (Ok v) ops e h same = (same u refl, record { storage = h; turn = refl; point = refl })
  performed_less turn ls ks (Ok u) (Err x) ops e h same = absurd h
  performed_less turn ls ks (Err x) s ops e h same = end_behind (λ r. performed turn ks r ops e) x (Err x) s h

  module _ (calls : CallLaws) where
    within_less : (turn : ℕ) (ops : List Op) (e : Exit) (u v : Storage) → StorageLessSpecified u v → MoveLessSpecified (within unit turn ops e u) (within unit turn ops e v)
    within_less turn [] e u v h = left_less turn _ _ (exit_less turn e u v h)
    within_less turn (o ∷ ops) e u v h = performed_less turn _ _ _ _ ops e (perform_less laws memories calls turn o u v h) (λ w. shown_same laws memories calls turn o u v w h)

    marked_less : (a : ℕ) (m n : Move UnitState) → MoveLessSpecified m n → MoveLessSpecified (marked a m) (marked a n)
    marked_less a (Go ls s) (Go ks t) h = (ap (λ (x : List Label). Turn a ∷ x) h.0, h.1)
    marked_less a (Go ls s) (Stand ks e) h = absurd h
    marked_less a (Go ls s) (Halt ks e) h = absurd h
    marked_less a (Stand ls e) n h = end_behind (marked a) e (Stand ls e) n h
    marked_less a (Halt ls e) n h = end_behind (marked a) e (Halt ls e) n h

    fresh_less : (u v : Storage) → StorageLessSpecified u v → StorageLessSpecified (fresh u) (fresh v)
    fresh_less u v h = record { regs = h.regs; flags = h.flags; temps = λ k. nothing_less _; memory = h.memory; left = h.left; environment = h.environment; frames = h.frames; esp0 = h.esp0 }

    block_move_less : (t : Bool) (x y u v : Move UnitState) → MoveLessSpecified x u → MoveLessSpecified y v → MoveLessSpecified (cond t x y) (cond t u v)
    block_move_less true x y u v h k = h
    block_move_less false x y u v h k = k

    begun_less : (turn : ℕ) (o : Option Block) (u v : Storage) → StorageLessSpecified u v → MoveLessSpecified (begun unit turn o u) (begun unit turn o v)
    begun_less turn None u v h = refl
    begun_less turn (Some b) u v h =
        block_move_less (b.at == 0) _ _ _ _ (within_less turn b.ops b.exit (fresh u) (fresh v) (fresh_less u v h)) (marked_less b.at _ _ (within_less b.at b.ops b.exit (fresh u) (fresh v) (fresh_less u v h)))

    point_less : (p : Point) (turn : ℕ) (u v : Storage) → StorageLessSpecified u v → MoveLessSpecified (next unit (state_at turn p u)) (next unit (state_at turn p v))
    unfolding next
    point_less (Before k) turn u v h =
        subst (λ (bs : List Block). MoveLessSpecified (begun unit turn (slice_get (blocks_of unit u.frames) k) u) (begun unit turn (slice_get bs k) v)) (blocks_alike unit u.frames v.frames h.frames)
        (begun_less turn (slice_get (blocks_of unit u.frames) k) u v h)
    point_less (Within ops e) turn u v h = within_less turn ops e u v h
    point_less (Over e) turn u v h = end_itself e (Stand [] e)

    pub next_less : (s t : UnitState) → UnitStateLessSpecified s t → MoveLessSpecified (next unit s) (next unit t)
    next_less s t h =
        let start : MoveLessSpecified (next unit s) (next unit (state_at s.turn s.point t.storage)) = point_less s.point s.turn s.storage t.storage h.storage in
        let turned : MoveLessSpecified (next unit s) (next unit (state_at t.turn s.point t.storage)) = subst (λ (n : ℕ). MoveLessSpecified (next unit s) (next unit (state_at n s.point t.storage))) h.turn start in
        subst (λ (p : Point). MoveLessSpecified (next unit s) (next unit (state_at t.turn p t.storage))) h.point turned
