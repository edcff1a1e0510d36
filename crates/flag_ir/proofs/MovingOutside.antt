-- Exits and moves over memories that differ in a range come to the same where they access nothing there.
use Rattle.std.proofs.Common.{◌≡◌, ◌≢◌, ℕ, zero, suc, ◌+◌, ◌-◌, ◌*◌, ◌<◌, ◌≤◌, ◌==◌, ◌&&◌, Bool, true, false, cond, leb, ltb, List, [], ◌∷◌, find, slice_get, Option, Some, None, Result, Ok, Err, refl, sym, ap, ◌∙◌, subst, arith}
use Rattle.std.proofs.Math.Nat.{mod-mod}
use Rattle.std.proofs.lemmas.Bool.{leb-true, ltb-true}
use Rattle.x86_values.specs.declared.byte.Byte.{Byte}
use Rattle.x86_values.specs.declared.byte.Byte.TheVariants as byte
use Rattle.x86_values.specs.declared.word.Word.{Word}
use Rattle.x86_values.specs.Words.{word_of, known, padded}
use Rattle.traces.specs.Trace.{Label, Turn, End, Outside, Stopped, Move, Stand, Go, Halt}
use Rattle.traces.specs.Machines.{marked}
use Rattle.memory.specs.Memory.{Memory, Load, wrapped, SameOutside, AreApart, byte_of, bytes_at, put, put_all}
use Rattle.memory.specs.MemoryLaws.{MemoryLaws}
use Rattle.memory.specs.CallLaws.{CallLaws}
use Rattle.x86_meaning.specs.AccessLaws.{AllApart}
use Rattle.flag_ir.specs.declared.operation.Op.{Op}
use Rattle.flag_ir.specs.declared.block.Block.{Block}
use Rattle.flag_ir.specs.declared.block.Exit.{Exit}
use Rattle.flag_ir.specs.declared.block.Exit.TheVariants as exit
use Rattle.flag_ir.specs.declared.procedure.FrameKind.{FrameKind}
use Rattle.flag_ir.specs.declared.procedure.FrameKind.TheVariants.{Sealed, Guarded, Shared}
use Rattle.flag_ir.specs.declared.procedure.Proc.{Proc}
use Rattle.flag_ir.specs.Calculations.{sum_of}
use Rattle.flag_ir.specs.Storage.{Frame, Storage, put_word, term_in}
use Rattle.flag_ir.specs.Frames.{covers, with_image, byte_by, bytes_in, caller_byte, with_caller_byte, copied_back, forget_by}
use Rattle.flag_ir.specs.Operations.{and_then, needed, with_memory, perform, shown_by}
use Rattle.flag_ir.specs.Entering.{CodeUnit, Onward, blocks_of, index_of_number, index_at, procedure_at, before_block, to_number, is_too_deep, bare_frame, image_from_caller, filled_from, new_frame, with_new_frame, opened, jump_by, jump_with, jump, is_within_caller, call_by, word_of_frame, are_equal, unless_changed, checked, closed, back_to, return_from, stop_at, leave}
use Rattle.flag_ir.specs.UnitRun.{Point, Before, Within, Over, UnitState, state_at, performed, left_for, within, fresh, begun, next}
use Rattle.flag_ir.specs.Accesses.{StoragesAlike, ResultsAlike}
use Rattle.flag_ir.specs.MoveAccesses.{opening_loads, jump_loads, compared_loads, back_loads, return_loads, stop_loads, exit_loads, within_accesses, begun_accesses, point_accesses, move_accesses, OnwardAlike, StatesAlike, UnitMovesAlike}
use Rattle.flag_ir.proofs.Accessing.{known_beside, apart_at, first_apart, rest_apart, perform_outside, shown_outside}

module _ (at count : ℕ) where
  -- ---- places that are apart from the range; an address may be greater than 2^32
  place_same : (from n a : ℕ) (m l : Memory) → AreApart from n at count → SameOutside at count m l → from ≤ a → a < from + n → m a ≡ l a
  place_same from n a m l h k low high = k.places a away
    where
      away : (i : ℕ) → i < count → a ≢ wrapped (at + i)
      away i small e =
          let j : from + (a - from) ≡ a = omega (arith, low) in
          let same : wrapped (from + (a - from)) ≡ wrapped (at + i) = ap wrapped (j ∙ e) ∙ mod-mod (at + i) 4294967296 in
          h.apart (a - from) i (omega (arith, low, high)) small same

  byte_same : (o : Option Frame) (a : ℕ) (m l : Memory) → m a ≡ l a → byte_by o a m ≡ byte_by o a l
  byte_same None a m l h = ap byte_of h
  byte_same (Some f) a m l h = refl

  bytes_same : (fs : List Frame) (m l : Memory) (from n : ℕ) → ((k : ℕ) → k < n → m (wrapped (from + k)) ≡ l (wrapped (from + k))) → bytes_in fs m from n ≡ bytes_in fs l from n
  unfolding bytes_in
  bytes_same fs m l from zero h = refl
  bytes_same fs m l from (suc n) h =
      let start : from + 0 ≡ from = omega arith in
      let here : m (wrapped from) ≡ l (wrapped from) = subst (λ (x : ℕ). m (wrapped x) ≡ l (wrapped x)) start (h 0 (omega arith)) in
      let others : (k : ℕ) → k < n → m (wrapped (from + 1 + k)) ≡ l (wrapped (from + 1 + k)) = λ k less. let e : from + suc k ≡ from + 1 + k = omega arith in subst (λ (x : ℕ). m (wrapped x) ≡ l (wrapped x)) e (h (suc k) (omega (arith, less))) in
      ap (λ (b : Byte). b ∷ bytes_in fs m (from + 1) n) (byte_same (find (covers (wrapped from)) fs) (wrapped from) m l here) ∙ ap (λ (bs : List Byte). byte_by (find (covers (wrapped from)) fs) (wrapped from) l ∷ bs) (bytes_same fs m l (from + 1) n others)

  -- ---- frames that are opened
  caller_same : (fs : List Frame) (m l : Memory) (a : ℕ) → m a ≡ l a → caller_byte fs m a ≡ caller_byte fs l a
  caller_same [] m l a h = ap byte_of h
  caller_same (f ∷ fs) m l a h = ap (λ (b : Byte). cond (covers a f) (f.image a) b) (ap byte_of h)

  from_caller_by : (t s : Bool) (x y : Byte) → (t ≡ true → s ≡ true → x ≡ y) → cond (t && s) x byte.Unspecified ≡ cond (t && s) y byte.Unspecified
  from_caller_by true true x y h = h refl refl
  from_caller_by true false x y h = refl
  from_caller_by false s x y h = refl

  module _ (laws : MemoryLaws) where
    -- ---- where a run goes on
    block_alike : (o : Option ℕ) (e : End) (u : Storage) (n : Memory) → SameOutside at count u.memory n → OnwardAlike at count (before_block o e u) (before_block o e (with_memory u n))
    block_alike None e u n h = refl
    block_alike (Some k) e u n h = (refl, record { same = refl; memory = h })

    onward_either : (t : Bool) (x y p q : Onward) → OnwardAlike at count x p → OnwardAlike at count y q → OnwardAlike at count (cond t x y) (cond t p q)
    onward_either true x y p q h k = h
    onward_either false x y p q h k = k

    needed_onward : (o p : Option ℕ) (f g : ℕ → Onward) → p ≡ o → ((a : ℕ) → o ≡ Some a → OnwardAlike at count (f a) (g a)) → OnwardAlike at count (and_then (needed o) f) (and_then (needed p) g)
    needed_onward o p f g e h = subst (λ (q : Option ℕ). OnwardAlike at count (and_then (needed o) f) (and_then (needed q) g)) (sym e) (go o refl)
      where
        go : (q : Option ℕ) → o ≡ q → OnwardAlike at count (and_then (needed q) f) (and_then (needed q) g)
        go None is = refl
        go (Some a) is = h a is

    module _ (u : Storage) (n : Memory) (same : SameOutside at count u.memory n) where
      new_frame_same : (p : Proc) (height : ℕ) (back : Option ℕ) → AreApart height (4 + 4 * p.args) at count → new_frame p height back u ≡ new_frame p height back (with_memory u n)
      new_frame_same p height back apart = ap (filled_from (bare_frame p height back u)) (λ i a. image a i)
        where
          image : (a : ℕ) → image_from_caller (bare_frame p height back u) u a ≡ image_from_caller (bare_frame p height back u) (with_memory u n) a
          image a =
              from_caller_by (leb height a) (ltb a (height + 4 + 4 * p.args)) _ _
              (λ low high. let below : a < height + 4 + 4 * p.args = ltb-true a (height + 4 + 4 * p.args) high in caller_same u.frames u.memory n a (place_same height (4 + 4 * p.args) a u.memory n apart same (leb-true height a low) (omega (arith, below))))

      opened_same : (f : Frame) → OnwardAlike at count (opened f u) (opened f (with_memory u n))
      opened_same f = onward_either (is_too_deep u.esp0 f u.frames) _ _ _ _ refl (block_alike (index_at f.proc.entry f.proc.blocks) Outside (with_new_frame f u) n same)

      opened_alike : (p : Proc) (height : ℕ) (back : Option ℕ) → AreApart height (4 + 4 * p.args) at count → OnwardAlike at count (opened (new_frame p height back u) u) (opened (new_frame p height back (with_memory u n)) (with_memory u n))
      opened_alike p height back apart = subst (λ (f : Frame). OnwardAlike at count (opened (new_frame p height back u) u) (opened f (with_memory u n))) (new_frame_same p height back apart) (opened_same (new_frame p height back u))

      jump_by_alike : (unit : CodeUnit) (o : Option Proc) (a : ℕ) → AllApart (opening_loads o u) at count → OnwardAlike at count (jump_by o unit a u) (jump_by o unit a (with_memory u n))
      jump_by_alike unit (Some p) a h = needed_onward (known (u.regs 4)) (known (u.regs 4)) _ _ refl (λ height is. opened_alike p height None (apart_at at count Load (4 + 4 * p.args) (known (u.regs 4)) height is h))
      jump_by_alike unit None a h = block_alike (index_at a unit.whole) (Stopped a) u n same

      jump_with_alike : (unit : CodeUnit) (fs : List Frame) (a : ℕ) → AllApart (opening_loads (procedure_at a unit.procs) u) at count → OnwardAlike at count (jump_with fs unit a u) (jump_with fs unit a (with_memory u n))
      jump_with_alike unit [] a h = jump_by_alike unit (procedure_at a unit.procs) a h
      jump_with_alike unit (f ∷ fs) a h = refl

      jump_alike : (unit : CodeUnit) (a : ℕ) → AllApart (opening_loads (procedure_at a unit.procs) u) at count → OnwardAlike at count (jump unit a u) (jump unit a (with_memory u n))
      unfolding jump
      jump_alike unit a h = jump_with_alike unit u.frames a h

      -- a jump to a word
      to_word_alike : (unit : CodeUnit) (o p : Option ℕ) → p ≡ o → AllApart (jump_loads unit o u) at count → OnwardAlike at count (and_then (needed o) (λ a. jump unit a u)) (and_then (needed p) (λ a. jump unit a (with_memory u n)))
      to_word_alike unit o p e h = needed_onward o p _ _ e (λ a is. jump_alike unit a (subst (λ (q : Option ℕ). AllApart (jump_loads unit q u) at count) is h))

      call_alike : (fs : List Frame) (o : Option Proc) (back : ℕ) → AllApart (opening_loads o u) at count → OnwardAlike at count (call_by fs o back u) (call_by fs o back (with_memory u n))
      call_alike [] o back h = refl
      call_alike (f ∷ fs) None back h = refl
      call_alike (f ∷ fs) (Some p) back h =
          needed_onward (known (u.regs 4)) (known (u.regs 4)) _ _ refl (λ height is. onward_either (is_within_caller height p f) _ _ _ _ (opened_alike p height (Some back) (apart_at at count Load (4 + 4 * p.args) (known (u.regs 4)) height is h)) refl)

    -- ---- a frame that is closed
    caller_put_alike : (a : ℕ) (b : Byte) (u : Storage) (n : Memory) (fs : List Frame) → SameOutside at count u.memory n → StoragesAlike at count (with_caller_byte (wrapped a) b u fs) (with_caller_byte (wrapped a) b (with_memory u n) fs)
    unfolding put_all
    caller_put_alike a b u n [] h = record { same = refl; memory = laws.same_outside_put at count a (b ∷ []) u.memory n h }
    caller_put_alike a b u n (f ∷ fs) h = go (covers (wrapped a) f)
      where
        go : (t : Bool) → StoragesAlike at count (cond t (record u { frames = with_image (wrapped a) b f ∷ fs }) (record u { memory = put (wrapped a) b u.memory })) (cond t (record (with_memory u n) { frames = with_image (wrapped a) b f ∷ fs }) (record u { memory = put (wrapped a) b n }))
        go true = record { same = refl; memory = h }
        go false = record { same = refl; memory = laws.same_outside_put at count a (b ∷ []) u.memory n h }

    copied_alike : (f : Frame) (from k : ℕ) (u v : Storage) → StoragesAlike at count u v → StoragesAlike at count (copied_back f from k u) (copied_back f from k v)
    unfolding copied_back
    copied_alike f from zero u v h = h
    copied_alike f from (suc k) u v h =
        copied_alike f (from + 1) k (with_caller_byte (wrapped from) (f.image (wrapped from)) u u.frames) (with_caller_byte (wrapped from) (f.image (wrapped from)) v v.frames)
        (subst (λ (t : Storage). StoragesAlike at count (with_caller_byte (wrapped from) (f.image (wrapped from)) u u.frames) (with_caller_byte (wrapped from) (f.image (wrapped from)) t t.frames)) h.same (caller_put_alike from (f.image (wrapped from)) u v.memory u.frames h.memory))

    closed_alike : (f : Frame) (more : List Frame) (u : Storage) (n : Memory) → SameOutside at count u.memory n → StoragesAlike at count (closed f more u) (closed f more (with_memory u n))
    closed_alike f more u n h =
        let v : Storage = record u { frames = forget_by f.proc.kind f more; regs = put_word 4 (sum_of (u.regs 4) (word_of 4)) u.regs } in
        copied_alike f (f.height + 4) (4 * f.proc.args) v (with_memory v n) (record { same = refl; memory = h })

    -- ---- a return
    word_same : (f : Frame) (m l : Memory) → AreApart f.height 4 at count → SameOutside at count m l → word_of_frame f m ≡ word_of_frame f l
    word_same f m l apart h = ap padded (bytes_same (f ∷ []) m l f.height 4 (λ k less. h.places (wrapped (f.height + k)) (λ i small. apart.apart k i less small)))

    unless_alike : (turn : ℕ) (r : Result Bool End) (x y : Onward) → OnwardAlike at count x y → OnwardAlike at count (unless_changed turn r x) (unless_changed turn r y)
    unless_alike turn (Ok true) x y h = h
    unless_alike turn (Ok false) x y h = refl
    unless_alike turn (Err e) x y h = refl

    compared_alike : (turn : ℕ) (f : Frame) (u : Storage) (n : Memory) (x y : Onward) → SameOutside at count u.memory n → AreApart f.height 4 at count → OnwardAlike at count x y
        → OnwardAlike at count (unless_changed turn (are_equal (known (word_of_frame f u.memory)) (known f.word) (known (u.regs 5)) (known f.ebp)) x) (unless_changed turn (are_equal (known (word_of_frame f n)) (known f.word) (known (u.regs 5)) (known f.ebp)) y)
    compared_alike turn f u n x y h apart k =
        let left : Onward = unless_changed turn (are_equal (known (word_of_frame f u.memory)) (known f.word) (known (u.regs 5)) (known f.ebp)) x in
        subst (λ (w : Word). OnwardAlike at count left (unless_changed turn (are_equal (known w) (known f.word) (known (u.regs 5)) (known f.ebp)) y)) (word_same f u.memory n apart h)
        (unless_alike turn (are_equal (known (word_of_frame f u.memory)) (known f.word) (known (u.regs 5)) (known f.ebp)) x y k)

    checked_alike : (turn : ℕ) (kind : FrameKind) (f : Frame) (u : Storage) (n : Memory) (x y : Onward) → SameOutside at count u.memory n → AllApart (compared_loads kind f.height) at count → OnwardAlike at count x y → OnwardAlike at count (checked turn kind f u x) (checked turn kind f (with_memory u n) y)
    checked_alike turn Sealed f u n x y h apart k = k
    checked_alike turn Guarded f u n x y h apart k = compared_alike turn f u n x y h apart.0 k
    checked_alike turn Shared f u n x y h apart k = compared_alike turn f u n x y h apart.0 k

    number_alike : (unit : CodeUnit) (k : ℕ) (u : Storage) (n : Memory) → SameOutside at count u.memory n → OnwardAlike at count (to_number unit k u) (to_number unit k (with_memory u n))
    number_alike unit k u n h = block_alike (index_of_number k (blocks_of unit u.frames)) Outside u n h

    back_beside : (unit : CodeUnit) (o : Option ℕ) (w : Word) (u : Storage) (n : Memory) → SameOutside at count u.memory n → AllApart (back_loads unit o w u) at count → OnwardAlike at count (back_to unit o w u) (back_to unit o w (with_memory u n))
    back_beside unit (Some k) w u n h apart = number_alike unit k u n h
    back_beside unit None w u n h apart = to_word_alike u n h unit (known w) (known w) refl apart

    back_alike : (unit : CodeUnit) (o : Option ℕ) (w : Word) (u v : Storage) → StoragesAlike at count u v → AllApart (back_loads unit o w u) at count → OnwardAlike at count (back_to unit o w u) (back_to unit o w v)
    back_alike unit o w u v h apart = subst (λ (t : Storage). OnwardAlike at count (back_to unit o w u) (back_to unit o w t)) h.same (back_beside unit o w u v.memory h.memory apart)

    return_alike : (unit : CodeUnit) (turn : ℕ) (fs : List Frame) (u : Storage) (n : Memory) → SameOutside at count u.memory n → AllApart (return_loads unit fs u) at count → OnwardAlike at count (return_from unit turn fs u) (return_from unit turn fs (with_memory u n))
    return_alike unit turn [] u n h apart = refl
    return_alike unit turn (f ∷ more) u n h apart =
        let word : AllApart (compared_loads f.proc.kind f.height) at count = first_apart at count (compared_loads f.proc.kind f.height) (back_loads unit f.back f.word (closed f more u)) apart in
        let back : AllApart (back_loads unit f.back f.word (closed f more u)) at count = rest_apart at count (compared_loads f.proc.kind f.height) (back_loads unit f.back f.word (closed f more u)) apart in
        checked_alike turn f.proc.kind f u n _ _ h word (back_alike unit f.back f.word (closed f more u) (closed f more (with_memory u n)) (closed_alike f more u n h) back)

    stop_alike : (lowered : Bool) (turn : ℕ) (u : Storage) (n : Memory) → SameOutside at count u.memory n → AllApart (stop_loads lowered) at count → OnwardAlike at count (stop_at lowered turn u) (stop_at lowered turn (with_memory u n))
    stop_alike false turn u n h apart = refl
    stop_alike true turn u n h apart =
        let bytes : bytes_at u.memory 0x75000004 4 ≡ bytes_at n 0x75000004 4 = laws.bytes_outside at count 0x75000004 4 u.memory n apart.0 h in
        needed_onward (known (padded (bytes_at u.memory 0x75000004 4))) (known (padded (bytes_at n 0x75000004 4))) _ _ (ap (λ (bs : List Byte). known (padded bs)) (sym bytes)) (λ a is. refl)

    -- ---- the exits
    exit_alike : (unit : CodeUnit) (turn : ℕ) (e : Exit) (u : Storage) (n : Memory) → SameOutside at count u.memory n → AllApart (exit_loads unit e u) at count → OnwardAlike at count (leave unit turn e u) (leave unit turn e (with_memory u n))
    unfolding leave
    exit_alike unit turn (exit.Go k) u n h apart = number_alike unit k u n h
    exit_alike unit turn (exit.Branch test k l) u n h apart = needed_onward (known (term_in test u)) _ _ _ (known_beside test u n) (λ a is. number_alike unit (cond (a == 0) l k) u n h)
    exit_alike unit turn (exit.Jump to) u n h apart = to_word_alike u n h unit (known (term_in to u)) _ (known_beside to u n) apart
    exit_alike unit turn (exit.CallProc entry back) u n h apart = call_alike u n h u.frames (procedure_at entry unit.procs) back apart
    exit_alike unit turn exit.Return u n h apart = return_alike unit turn u.frames u n h apart
    exit_alike unit turn exit.Fault u n h apart = refl
    exit_alike unit turn exit.Stop u n h apart = stop_alike unit.lowered turn u n h apart

    pub leave_outside : (unit : CodeUnit) (turn : ℕ) (e : Exit) (u v : Storage) → StoragesAlike at count u v → AllApart (exit_loads unit e u) at count → OnwardAlike at count (leave unit turn e u) (leave unit turn e v)
    leave_outside unit turn e u v h apart = subst (λ (t : Storage). OnwardAlike at count (leave unit turn e u) (leave unit turn e t)) h.same (exit_alike unit turn e u v.memory h.memory apart)

    -- ---- moves
    left_alike : (turn : ℕ) (r s : Onward) → OnwardAlike at count r s → UnitMovesAlike at count (left_for turn r) (left_for turn s)
    left_alike turn (Ok p) (Ok q) h = (refl, record { storage = h.1; turn = refl; point = ap Before h.0 })
    left_alike turn (Ok p) (Err e) h = absurd h
    left_alike turn (Err e) s h = ap (left_for turn) h

    performed_alike : (turn : ℕ) (ls ks : List Label) (r s : Result Storage End) (ops : List Op) (e : Exit) → ResultsAlike at count r s → ((w : Storage) → r ≡ Ok w → ls ≡ ks) → UnitMovesAlike at count (performed turn ls r ops e) (performed turn ks s ops e)
    performed_alike turn ls ks (Ok u) (Ok v) ops e h same = (same u refl, record { storage = h; turn = refl; point = refl })
    performed_alike turn ls ks (Ok u) (Err x) ops e h same = absurd h
    performed_alike turn ls ks (Err x) s ops e h same = ap (λ (r : Result Storage End). performed turn ks r ops e) h

    module _ (calls : CallLaws) (unit : CodeUnit) where
      within_alike : (turn : ℕ) (ops : List Op) (e : Exit) (u v : Storage) → StoragesAlike at count u v → AllApart (within_accesses unit ops e u) at count → UnitMovesAlike at count (within unit turn ops e u) (within unit turn ops e v)
      within_alike turn [] e u v h apart = left_alike turn (leave unit turn e u) (leave unit turn e v) (leave_outside unit turn e u v h apart)
      within_alike turn (o ∷ ops) e u v h apart =
          performed_alike turn (shown_by o u) (shown_by o v) (perform turn o u) (perform turn o v) ops e (perform_outside at count laws calls turn o u v h apart) (λ w done. shown_outside at count laws calls turn o u v w h apart done)

      marked_alike : (a : ℕ) (m l : Move UnitState) → UnitMovesAlike at count m l → UnitMovesAlike at count (marked a m) (marked a l)
      marked_alike a (Go ls s) (Go ks t) h = (ap (λ (x : List Label). Turn a ∷ x) h.0, h.1)
      marked_alike a (Go ls s) (Stand ks e) h = absurd h
      marked_alike a (Go ls s) (Halt ks e) h = absurd h
      marked_alike a (Stand ls e) l h = ap (marked a) h
      marked_alike a (Halt ls e) l h = ap (marked a) h

      fresh_alike : (u v : Storage) → StoragesAlike at count u v → StoragesAlike at count (fresh u) (fresh v)
      fresh_alike u v h = record { same = ap fresh h.same; memory = h.memory }

      begun_either : (t : Bool) (x y p q : Move UnitState) → UnitMovesAlike at count x p → UnitMovesAlike at count y q → UnitMovesAlike at count (cond t x y) (cond t p q)
      begun_either true x y p q h k = h
      begun_either false x y p q h k = k

      begun_alike : (turn : ℕ) (o : Option Block) (u v : Storage) → StoragesAlike at count u v → AllApart (begun_accesses unit o u) at count → UnitMovesAlike at count (begun unit turn o u) (begun unit turn o v)
      begun_alike turn None u v h apart = refl
      begun_alike turn (Some b) u v h apart =
          begun_either (b.at == 0) _ _ _ _ (within_alike turn b.ops b.exit (fresh u) (fresh v) (fresh_alike u v h) apart) (marked_alike b.at _ _ (within_alike b.at b.ops b.exit (fresh u) (fresh v) (fresh_alike u v h) apart))

      point_alike : (p : Point) (turn : ℕ) (u v : Storage) → StoragesAlike at count u v → AllApart (point_accesses unit p u) at count → UnitMovesAlike at count (next unit (state_at turn p u)) (next unit (state_at turn p v))
      unfolding next
      point_alike (Before k) turn u v h apart =
          let frames : u.frames ≡ v.frames = ap (λ (t : Storage). t.frames) h.same in
          subst (λ (fs : List Frame). UnitMovesAlike at count (begun unit turn (slice_get (blocks_of unit u.frames) k) u) (begun unit turn (slice_get (blocks_of unit fs) k) v)) frames (begun_alike turn (slice_get (blocks_of unit u.frames) k) u v h apart)
      point_alike (Within ops e) turn u v h apart = within_alike turn ops e u v h apart
      point_alike (Over e) turn u v h apart = refl

      pub next_outside : (s t : UnitState) → StatesAlike at count s t → AllApart (move_accesses unit s) at count → UnitMovesAlike at count (next unit s) (next unit t)
      next_outside s t h apart =
          let start : UnitMovesAlike at count (next unit s) (next unit (state_at s.turn s.point t.storage)) = point_alike s.point s.turn s.storage t.storage h.storage apart in
          let turned : UnitMovesAlike at count (next unit s) (next unit (state_at t.turn s.point t.storage)) = subst (λ (n : ℕ). UnitMovesAlike at count (next unit s) (next unit (state_at n s.point t.storage))) h.turn start in
          subst (λ (p : Point). UnitMovesAlike at count (next unit s) (next unit (state_at t.turn p t.storage))) h.point turned
