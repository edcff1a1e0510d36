-- Where an exit goes: the frames that are then open, and what is left of the turn there.
use Rattle.std.proofs.Common.{◌≡◌, ℕ, zero, suc, ◌+◌, ◌*◌, ◌≤◌, ◌==◌, max, Bool, true, false, cond, List, [], ◌∷◌, get_or, slice_get, position, find, Contains, Option, Some, None, Result, Ok, Err, refl, sym, ap, ◌∙◌, subst, arith}
use Rattle.std.proofs.Math.Nat.{le-max_left, le-max_right}
use Rattle.std.proofs.lemmas.Bool.{cond_both, eqb-true, eqb-false}
use Rattle.std.proofs.lemmas.List.Quantifiers.{position-Some}
use Rattle.std.proofs.lemmas.Option.{get_or_from_slice_get}
use Rattle.x86_values.specs.declared.byte.Byte.{Byte}
use Rattle.x86_values.specs.declared.word.Word.{Word}
use Rattle.x86_values.specs.Words.{word_of, known, padded}
use Rattle.traces.specs.Trace.{End, Outside, Stopped}
use Rattle.memory.specs.Memory.{bytes_at, wrapped}
use Rattle.flag_ir.specs.declared.block.Block.{Block}
use Rattle.flag_ir.specs.declared.block.Exit.{Exit}
use Rattle.flag_ir.specs.declared.block.Exit.TheVariants as exit
use Rattle.flag_ir.specs.declared.procedure.FrameKind.{FrameKind}
use Rattle.flag_ir.specs.declared.procedure.FrameKind.TheVariants.{Sealed, Guarded, Shared}
use Rattle.flag_ir.specs.declared.procedure.Proc.{Proc}
use Rattle.flag_ir.specs.Calculations.{sum_of}
use Rattle.flag_ir.specs.Storage.{Frame, Storage, put_word, term_in}
use Rattle.flag_ir.specs.Frames.{is_shared, covers, with_caller_byte, copied_back, forget_chain, forget_by}
use Rattle.flag_ir.specs.Entering.{CodeUnit, Onward, blocks_of, index_of_number, index_at, procedure_at, before_block, to_number, is_too_deep, new_frame, with_new_frame, opened, jump_by, jump_with, jump, is_within_caller, call_from, call_by, word_of_frame, are_equal, unless_changed, checked, closed, back_to, return_from, stop_at, leave}
use Rattle.flag_ir.specs.Shape.{Part, part_blocks}
use Rattle.flag_ir.specs.Reached.{Opening, opening, openings, part_of, HasExit, AreOpenings, is_guard}
use Rattle.flag_ir.proofs.Openings.{after_needed, EndsPlainly}

-- ---- what is found
pub blocks_same : (unit : CodeUnit) (frames : List Frame) → blocks_of unit frames ≡ part_blocks unit (part_of (openings frames))
blocks_same unit [] = refl
blocks_same unit (f ∷ more) = refl

-- a procedure that is found by its entry is one of the unit's
record IsFound (a : ℕ) (procs : List Proc) (p : Proc) : Type 0 where
  member : Contains procs p
  entry : p.entry ≡ a

found_later : (a : ℕ) (q : Proc) (more : List Proc) (p : Proc) → IsFound a more p → IsFound a (q ∷ more) p
found_later a q more p h = record { member = (suc (h.member.0), omega (arith, h.member.1), h.member.2); entry = h.entry }

find_found : (a : ℕ) (procs : List Proc) (p : Proc) → find (λ q. q.entry == a) procs ≡ Some p → IsFound a procs p
find_found a [] p h = absurd cc
find_found a (q ∷ more) p h = go (q.entry == a) refl h (λ k. find_found a more p k)
  where
    go : (t : Bool) → (q.entry == a) ≡ t → cond t (Some q) (find (λ r. r.entry == a) more) ≡ Some p → (find (λ r. r.entry == a) more ≡ Some p → IsFound a more p) → IsFound a (q ∷ more) p
    go true is h later = let same : q ≡ p = cc in record { member = (0, omega arith, same); entry = ap (λ (r : Proc). r.entry) (sym same) ∙ eqb-true q.entry a is }
    go false is h later = found_later a q more p (later h)

-- neither a procedure nor a block is found at 0
unless_zero : {A : Type 0} (t : Bool) (o : Option A) (x : A) → cond t None o ≡ Some x → (t ≡ false) × (o ≡ Some x)
unless_zero true o x h = absurd cc
unless_zero false o x h = (refl, h)

procedure_found : (a : ℕ) (procs : List Proc) (p : Proc) → procedure_at a procs ≡ Some p → IsFound a procs p
unfolding procedure_at
procedure_found a procs p h = find_found a procs p (unless_zero (a == 0) _ p h).1

-- ---- what is left of a turn
-- before a block: what is given for it, where it begins no turn
abbrev pub left_of : ℕ → Option Block → ℕ
left_of r None = 0
left_of r (Some b) = cond (b.at == 0) r 0

-- a block that is entered by an old address begins one
entered : (a : ℕ) (blocks : List Block) (k r : ℕ) (o : Option Block) → index_at a blocks ≡ Some k → slice_get blocks k ≡ o → left_of r o ≤ 0
unfolding index_at
entered a blocks k r None h there = omega arith
entered a blocks k r (Some b) h there =
    let found : ((a == 0) ≡ false) × (position (λ d. d.at == a) blocks ≡ Some k) = unless_zero (a == 0) _ k h in
    let passes : ((get_or blocks k b).at == a) ≡ true = (position-Some (λ d. d.at == a) blocks k b found.1).1 in
    let same : get_or blocks k b ≡ b = get_or_from_slice_get blocks k b b there in
    let at : b.at ≡ a = eqb-true b.at a (ap (λ (d : Block). d.at == a) (sym same) ∙ passes) in
    cond_both (b.at == 0) r 0 (λ (n : ℕ). n ≤ 0) (λ z. absurd (eqb-false a 0 found.0 (sym at ∙ eqb-true b.at 0 z))) (λ z. omega arith)

-- ---- frames that are closed
caller_kept : (a : ℕ) (b : Byte) (u : Storage) (frames : List Frame) → u.frames ≡ frames → openings (with_caller_byte a b u frames).frames ≡ openings frames
caller_kept a b u [] h = ap openings h
caller_kept a b u (f ∷ more) h = cond_both (covers a f) _ _ (λ (v : Storage). openings v.frames ≡ openings (f ∷ more)) (λ k. refl) (λ k. ap openings h)

copied_kept : (f : Frame) (at n : ℕ) (u : Storage) → openings (copied_back f at n u).frames ≡ openings u.frames
unfolding copied_back
copied_kept f at zero u = refl
copied_kept f at (suc n) u = copied_kept f (at + 1) n (with_caller_byte (wrapped at) (f.image (wrapped at)) u u.frames) ∙ caller_kept (wrapped at) (f.image (wrapped at)) u u.frames refl

chain_kept : (closed : Frame) (frames : List Frame) → openings (forget_chain closed frames) ≡ openings frames
unfolding forget_chain
chain_kept closed [] = refl
chain_kept closed (f ∷ more) = cond_both (is_shared f.proc.kind) _ _ (λ (xs : List Frame). openings xs ≡ openings (f ∷ more)) (λ h. ap (λ os. opening f ∷ os) (chain_kept closed more)) (λ h. refl)

forget_kept : (kind : FrameKind) (closed : Frame) (frames : List Frame) → openings (forget_by kind closed frames) ≡ openings frames
forget_kept Sealed closed frames = refl
forget_kept Guarded closed frames = refl
forget_kept Shared closed frames = chain_kept closed frames

closed_kept : (f : Frame) (more : List Frame) (u : Storage) → openings (closed f more u).frames ≡ openings more
closed_kept f more u =
    copied_kept f (f.height + 4) (4 * f.proc.args) (record u { frames = forget_by f.proc.kind f more; regs = put_word 4 (sum_of (u.regs 4) (word_of 4)) u.regs }) ∙ forget_kept f.proc.kind f more

equal_plain : (a b c d : Option ℕ) → EndsPlainly (are_equal a b c d)
equal_plain (Some a) (Some b) (Some c) (Some d) = tt
equal_plain (Some a) (Some b) (Some c) None = refl
equal_plain (Some a) (Some b) None d = refl
equal_plain (Some a) None c d = refl
equal_plain None b c d = refl

module _ (unit : CodeUnit) (rest : Part → ℕ → ℕ) where
  abbrev pub left_before : List Opening → ℕ → ℕ
  left_before os k = left_of (rest (part_of os) k) (slice_get (part_blocks unit (part_of os)) k)

  -- behind an exit: the most that is left where it may go on in the turn
  abbrev pub left_at : List Opening → Option ℕ → ℕ
  left_at os None = 0
  left_at os (Some k) = left_before os k

  abbrev pub left_by : List Opening → ℕ → ℕ
  left_by os n = left_at os (index_of_number n (part_blocks unit (part_of os)))

  abbrev pub left_back : List Opening → Option ℕ → ℕ
  left_back more None = 0
  left_back more (Some n) = left_by more n

  abbrev pub left_returned : List Opening → ℕ
  left_returned [] = 0
  left_returned (o ∷ more) = left_back more o.back

  abbrev pub left_behind : List Opening → Exit → ℕ
  left_behind os (exit.Go n) = left_by os n
  left_behind os (exit.Branch test m n) = max (left_by os m) (left_by os n)
  left_behind os (exit.Jump to) = 0
  left_behind os (exit.CallProc entry back) = 0
  left_behind os exit.Return = left_returned os
  left_behind os exit.Fault = 0
  left_behind os exit.Stop = 0

  -- ---- where an exit comes to, and that at most so much is left there
  abbrev pub Lands : ℕ → Onward → Type 0
  Lands most (Ok p) = AreOpenings unit (openings p.1.frames) × (left_before (openings p.1.frames) p.0 ≤ most)
  Lands most (Err e) = is_guard e ≡ false

  block_lands : (most : ℕ) (o : Option ℕ) (e : End) (u : Storage) → is_guard e ≡ false → AreOpenings unit (openings u.frames) → ((k : ℕ) → o ≡ Some k → left_before (openings u.frames) k ≤ most) → Lands most (before_block o e u)
  block_lands most None e u plain are few = plain
  block_lands most (Some k) e u plain are few = (are, few k refl)

  number_lands : (most n : ℕ) (u : Storage) → AreOpenings unit (openings u.frames) → left_by (openings u.frames) n ≤ most → Lands most (to_number unit n u)
  number_lands most n u are few =
      block_lands most (index_of_number n (blocks_of unit u.frames)) Outside u refl are
      (λ k h. let there : index_of_number n (part_blocks unit (part_of (openings u.frames))) ≡ Some k = ap (index_of_number n) (sym (blocks_same unit u.frames)) ∙ h in subst (λ (o : Option ℕ). left_at (openings u.frames) o ≤ most) there few)

  opened_lands : (f : Frame) (u : Storage) → AreOpenings unit (openings (f ∷ u.frames)) → Lands 0 (opened f u)
  opened_lands f u are =
      cond_both (is_too_deep u.esp0 f u.frames) _ _ (Lands 0) (λ h. refl) (λ h. block_lands 0 (index_at f.proc.entry f.proc.blocks) Outside (with_new_frame f u) refl are (λ k there. entered f.proc.entry f.proc.blocks k (rest (Some f.proc) k) _ there refl))

  jumped_lands : (o : Option Proc) (a : ℕ) (u : Storage) → procedure_at a unit.procs ≡ o → u.frames ≡ [] → Lands 0 (jump_by o unit a u)
  jumped_lands (Some p) a u found none =
      let are : AreOpenings unit (openings u.frames) = subst (λ (fs : List Frame). AreOpenings unit (openings fs)) (sym none) tt in
      after_needed (Lands 0) (known (u.regs 4)) _ refl (λ height h. opened_lands (new_frame p height None u) u ((procedure_found a unit.procs p found).member, tt, are))
  jumped_lands None a u found none =
      let are : AreOpenings unit (openings u.frames) = subst (λ (fs : List Frame). AreOpenings unit (openings fs)) (sym none) tt in
      block_lands 0 (index_at a unit.whole) (Stopped a) u refl are (λ k there. subst (λ (fs : List Frame). left_before (openings fs) k ≤ 0) (sym none) (entered a unit.whole k (rest None k) _ there refl))

  jump_lands_by : (frames : List Frame) (a : ℕ) (u : Storage) → u.frames ≡ frames → Lands 0 (jump_with frames unit a u)
  jump_lands_by [] a u is = jumped_lands (procedure_at a unit.procs) a u refl is
  jump_lands_by (f ∷ more) a u is = refl

  pub jump_lands : (a : ℕ) (u : Storage) → Lands 0 (jump unit a u)
  unfolding jump
  jump_lands a u = jump_lands_by u.frames a u refl

  called_lands : (f : Frame) (p : Proc) (back height : ℕ) (u : Storage) → Contains unit.procs p → HasExit unit (part_of (openings u.frames)) (exit.CallProc p.entry back) → AreOpenings unit (openings u.frames) → Lands 0 (call_from f p back height u)
  called_lands f p back height u member from are = cond_both (is_within_caller height p f) _ _ (Lands 0) (λ h. opened_lands (new_frame p height (Some back) u) u (member, from, are)) (λ h. refl)

  call_lands : (frames : List Frame) (o : Option Proc) (entry back : ℕ) (u : Storage) → procedure_at entry unit.procs ≡ o → HasExit unit (part_of (openings u.frames)) (exit.CallProc entry back) → AreOpenings unit (openings u.frames) → Lands 0 (call_by frames o back u)
  call_lands [] o entry back u found from are = refl
  call_lands (f ∷ more) None entry back u found from are = refl
  call_lands (f ∷ more) (Some p) entry back u found from are =
      let is : IsFound entry unit.procs p = procedure_found entry unit.procs p found in
      let named : HasExit unit (part_of (openings u.frames)) (exit.CallProc p.entry back) = subst (λ (a : ℕ). HasExit unit (part_of (openings u.frames)) (exit.CallProc a back)) (sym is.entry) from in
      after_needed (Lands 0) (known (u.regs 4)) _ refl (λ height h. called_lands f p back height u is.member named are)

  -- ---- a return
  unless_lands : (most turn : ℕ) (r : Result Bool End) (done : Onward) → EndsPlainly r → Lands most done → Lands most (unless_changed turn r done)
  unless_lands most turn (Ok true) done plain h = h
  unless_lands most turn (Ok false) done plain h = refl
  unless_lands most turn (Err e) done plain h = plain

  checked_lands : (most turn : ℕ) (kind : FrameKind) (f : Frame) (u : Storage) (done : Onward) → Lands most done → Lands most (checked turn kind f u done)
  checked_lands most turn Sealed f u done h = h
  checked_lands most turn Guarded f u done h = unless_lands most turn _ done (equal_plain (known (word_of_frame f u.memory)) (known f.word) (known (u.regs 5)) (known f.ebp)) h
  checked_lands most turn Shared f u done h = unless_lands most turn _ done (equal_plain (known (word_of_frame f u.memory)) (known f.word) (known (u.regs 5)) (known f.ebp)) h

  back_lands : (o : Option ℕ) (w : Word) (u : Storage) → AreOpenings unit (openings u.frames) → Lands (left_back (openings u.frames) o) (back_to unit o w u)
  back_lands (Some n) w u are = number_lands (left_by (openings u.frames) n) n u are (omega arith)
  back_lands None w u are = after_needed (Lands 0) (known w) _ refl (λ a h. jump_lands a u)

  return_lands : (turn : ℕ) (frames : List Frame) (u : Storage) → AreOpenings unit (openings frames) → Lands (left_returned (openings frames)) (return_from unit turn frames u)
  return_lands turn [] u are = refl
  return_lands turn (f ∷ more) u are =
      let kept : openings (closed f more u).frames ≡ openings more = closed_kept f more u in
      let back : Lands (left_back (openings (closed f more u).frames) f.back) (back_to unit f.back f.word (closed f more u)) = back_lands f.back f.word (closed f more u) (subst (AreOpenings unit) (sym kept) are.2) in
      checked_lands _ turn f.proc.kind f u _ (subst (λ (os : List Opening). Lands (left_back os f.back) (back_to unit f.back f.word (closed f more u))) kept back)

  stop_lands : (lowered : Bool) (turn : ℕ) (u : Storage) → Lands 0 (stop_at lowered turn u)
  stop_lands false turn u = refl
  stop_lands true turn u = after_needed (Lands 0) (known (padded (bytes_at u.memory 0x75000004 4))) _ refl (λ a h. refl)

  -- ---- the exits
  pub leave_lands : (turn : ℕ) (e : Exit) (u : Storage) → AreOpenings unit (openings u.frames) → HasExit unit (part_of (openings u.frames)) e → Lands (left_behind (openings u.frames) e) (leave unit turn e u)
  unfolding leave
  leave_lands turn (exit.Go n) u are has = number_lands _ n u are (omega arith)
  leave_lands turn (exit.Branch test m n) u are has =
      let os = openings u.frames in
      let most : ℕ = max (left_by os m) (left_by os n) in
      after_needed (Lands most) (known (term_in test u)) _ refl
      (λ v h. cond_both (v == 0) n m (λ (k : ℕ). Lands most (to_number unit k u)) (λ z. number_lands most n u are (le-max_right (left_by os m) (left_by os n))) (λ z. number_lands most m u are (le-max_left (left_by os m) (left_by os n))))
  leave_lands turn (exit.Jump to) u are has = after_needed (Lands 0) (known (term_in to u)) _ refl (λ a h. jump_lands a u)
  leave_lands turn (exit.CallProc entry back) u are has = call_lands u.frames (procedure_at entry unit.procs) entry back u refl has are
  leave_lands turn exit.Return u are has = return_lands turn u.frames u are
  leave_lands turn exit.Fault u are has = refl
  leave_lands turn exit.Stop u are has = stop_lands unit.lowered turn u
