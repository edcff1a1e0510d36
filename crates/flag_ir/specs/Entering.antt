-- How blocks are left: to another block of the part, to an old address, into a procedure and out of it. All of this is own.
use Rattle.std.specs.Prelude.{ℕ, ◌+◌, ◌*◌, ◌==◌, ◌&&◌, ◌||◌, Bool, true, false, cond, leb, ltb, List, [], ◌∷◌, slice_get, sum_by, position, find, Option, Some, None, Result, Ok, Err}
use Rattle.x86_values.specs.declared.byte.Byte.{Byte}
use Rattle.x86_values.specs.declared.byte.Byte.TheVariants as byte
use Rattle.x86_values.specs.declared.word.Word.{Word}
use Rattle.x86_values.specs.Words.{word_of, known, padded}
use Rattle.x86_values.specs.Sizes.{cut, no_word}
use Rattle.traces.specs.Trace.{End, MemoryFault, Outside, Stopped}
use Rattle.memory.specs.Memory.{Memory, bytes_at}
use Rattle.flag_ir.specs.declared.block.Block.{Block}
use Rattle.flag_ir.specs.declared.block.Exit.{Exit}
use Rattle.flag_ir.specs.declared.block.Exit.TheVariants as exit
use Rattle.flag_ir.specs.declared.procedure.FrameKind.{FrameKind}
use Rattle.flag_ir.specs.declared.procedure.FrameKind.TheVariants.{Sealed, Guarded, Shared}
use Rattle.flag_ir.specs.declared.procedure.LocalSlot.{LocalSlot}
use Rattle.flag_ir.specs.declared.procedure.Proc.{Proc}
use Rattle.flag_ir.specs.declared.unit.Unit as unit
use Rattle.flag_ir.specs.Calculations.{sum_of}
use Rattle.flag_ir.specs.Storage.{Frame, Storage, put_word, term_in}
use Rattle.flag_ir.specs.Frames.{frame_size, is_from_caller, bytes_in, caller_byte, copied_back, forget_by}
use Rattle.flag_ir.specs.Operations.{and_then, needed}

abbrev pub CodeUnit : Type 0
CodeUnit = unit.Unit

-- ---- the part that runs: that of the innermost frame's procedure, and the whole part where none is open
abbrev pub blocks_of : CodeUnit → List Frame → List Block
blocks_of u [] = u.whole
blocks_of u (f ∷ more) = f.proc.blocks

-- the first block of a number, and the first of an old address; no block has the address 0
unfoldable pub index_of_number : ℕ → List Block → Option ℕ
index_of_number n blocks = position (λ b. b.number == n) blocks

unfoldable pub index_at : ℕ → List Block → Option ℕ
index_at a blocks = cond (a == 0) None (position (λ b. b.at == a) blocks)

-- the first procedure of an entry; none has the entry 0
unfoldable pub procedure_at : ℕ → List Proc → Option Proc
procedure_at a procs = cond (a == 0) None (find (λ p. p.entry == a) procs)

-- where a run goes on: before the block with this index in the part that then runs
abbrev pub Onward : Type 0
Onward = Result (ℕ × Storage) End

abbrev pub before_block : Option ℕ → End → Storage → Onward
before_block None e u = Err e
before_block (Some k) e u = Ok (k, u)

abbrev pub to_number : CodeUnit → ℕ → Storage → Onward
to_number unit n u = before_block (index_of_number n (blocks_of unit u.frames)) Outside u

-- ---- a frame is opened, by esp
-- the sum of what the open frames take up, at most 48 MiB
abbrev pub taken_up : List Frame → ℕ
taken_up frames = sum_by (λ f. 2 * frame_size f + 256) frames

-- its height is above esp0, it goes further than 4 MiB below esp0, or the frames take up too much
abbrev pub is_too_deep : ℕ → Frame → List Frame → Bool
is_too_deep esp0 f frames = ltb (f.height + 4194304) (esp0 + f.proc.depth) || ltb esp0 f.height || ltb 50331648 (taken_up (f ∷ frames))

-- of a new frame only the return word and the argument words are known, from where they stood before; its locals are unspecified
abbrev pub no_local : Option LocalSlot → Word
no_local None = no_word
no_local (Some s) = cut s.size no_word

-- before anything is copied into it
abbrev pub bare_frame : Proc → ℕ → Option ℕ → Storage → Frame
bare_frame p height back u = record { proc = p; height = height; word = no_word; ebp = u.regs 5; back = back; image = λ a. byte.Unspecified; locals = λ n. no_local (slice_get p.locals n) }

abbrev pub image_from_caller : Frame → Storage → ℕ → Byte
image_from_caller f u a = cond (is_from_caller a f) (caller_byte u.frames u.memory a) byte.Unspecified

abbrev pub word_in : (ℕ → Byte) → ℕ → Word
word_in image a = padded (image a ∷ image (a + 1) ∷ image (a + 2) ∷ image (a + 3) ∷ [])

abbrev pub filled_from : Frame → (ℕ → Byte) → Frame
filled_from f image = record f { word = word_in image f.height; image = image }

abbrev pub new_frame : Proc → ℕ → Option ℕ → Storage → Frame
new_frame p height back u = filled_from (bare_frame p height back u) (image_from_caller (bare_frame p height back u) u)

abbrev pub with_new_frame : Frame → Storage → Storage
with_new_frame f u = record u { frames = f ∷ u.frames }

-- the run goes on at the block of the entry
abbrev pub opened : Frame → Storage → Onward
opened f u = cond (is_too_deep u.esp0 f u.frames) (Err (Stopped f.proc.entry)) (before_block (index_at f.proc.entry f.proc.blocks) Outside (with_new_frame f u))

abbrev pub open_frame : Proc → Option ℕ → Storage → Onward
open_frame p back u = and_then (needed (known (u.regs 4))) (λ height. opened (new_frame p height back u) u)

-- ---- a jump to an old address: into a procedure with this entry, else to a block of the whole part
abbrev pub jump_by : Option Proc → CodeUnit → ℕ → Storage → Onward
jump_by (Some p) unit a u = open_frame p None u
jump_by None unit a u = before_block (index_at a unit.whole) (Stopped a) u

abbrev pub jump_with : List Frame → CodeUnit → ℕ → Storage → Onward
jump_with [] unit a u = jump_by (procedure_at a unit.procs) unit a u
jump_with (f ∷ more) unit a u = Err (Stopped a)

-- none is made while a frame is open
unfoldable pub jump : CodeUnit → ℕ → Storage → Onward
jump unit a u = jump_with u.frames unit a u

-- ---- a call: its words from the caller have to stand in the caller's frame
abbrev pub is_within_caller : ℕ → Proc → Frame → Bool
is_within_caller height p f = leb f.height (height + 4 + f.proc.depth) && leb (height + 4 + 4 * p.args) f.height

abbrev pub call_from : Frame → Proc → ℕ → ℕ → Storage → Onward
call_from f p back height u = cond (is_within_caller height p f) (opened (new_frame p height (Some back) u) u) (Err (Stopped p.entry))

abbrev pub call_by : List Frame → Option Proc → ℕ → Storage → Onward
call_by (f ∷ more) (Some p) back u = and_then (needed (known (u.regs 4))) (λ height. call_from f p back height u)
call_by _ _ back u = Err Outside

-- ---- a return. A Guarded or Shared procedure has to find its return word and ebp as they were.
abbrev pub word_of_frame : Frame → Memory → Word
word_of_frame f m = padded (bytes_in (f ∷ []) m f.height 4)

abbrev pub are_equal : Option ℕ → Option ℕ → Option ℕ → Option ℕ → Result Bool End
are_equal (Some a) (Some b) (Some c) (Some d) = Ok (a == b && c == d)
are_equal _ _ _ _ = needed None

abbrev pub unless_changed : ℕ → Result Bool End → Onward → Onward
unless_changed turn (Ok true) done = done
unless_changed turn (Ok false) done = Err (Stopped turn)
unless_changed turn (Err e) done = Err e

abbrev pub checked : ℕ → FrameKind → Frame → Storage → Onward → Onward
checked turn Sealed f u done = done
checked turn Guarded f u done = unless_changed turn (are_equal (known (word_of_frame f u.memory)) (known f.word) (known (u.regs 5)) (known f.ebp)) done
checked turn Shared f u done = unless_changed turn (are_equal (known (word_of_frame f u.memory)) (known f.word) (known (u.regs 5)) (known f.ebp)) done

-- the frame is closed, its argument words are copied back, and esp rises over the return word
abbrev pub closed : Frame → List Frame → Storage → Storage
closed f more u =
    let v = record u { frames = forget_by f.proc.kind f more; regs = put_word 4 (sum_of (u.regs 4) (word_of 4)) u.regs } in
    copied_back f (f.height + 4) (4 * f.proc.args) v

abbrev pub back_to : CodeUnit → Option ℕ → Word → Storage → Onward
back_to unit (Some n) word u = to_number unit n u
back_to unit None word u = and_then (needed (known word)) (λ a. jump unit a u)

abbrev pub return_from : CodeUnit → ℕ → List Frame → Storage → Onward
return_from unit turn [] u = Err Outside
return_from unit turn (f ∷ more) u = checked turn f.proc.kind f u (back_to unit f.back f.word (closed f more u))

-- ---- a stop: at the turn's old address, and in a lowered unit at the address that the word of memory at 0x75000004 names
abbrev pub stop_at : Bool → ℕ → Storage → Onward
stop_at false turn u = Err (Stopped turn)
stop_at true turn u = and_then (needed (known (padded (bytes_at u.memory 0x75000004 4)))) (λ a. Err (Stopped a))

-- ---- the exits. `turn` is the old address of the block that began the turn
unfoldable pub leave : CodeUnit → ℕ → Exit → Storage → Onward
leave unit turn (exit.Go n) u = to_number unit n u
leave unit turn (exit.Branch test m n) u = and_then (needed (known (term_in test u))) (λ v. to_number unit (cond (v == 0) n m) u)
leave unit turn (exit.Jump to) u = and_then (needed (known (term_in to u))) (λ a. jump unit a u)
leave unit turn (exit.CallProc entry back) u = call_by u.frames (procedure_at entry unit.procs) back u
leave unit turn exit.Return u = return_from unit turn u.frames u
leave unit turn exit.Fault u = Err MemoryFault
leave unit turn exit.Stop u = stop_at unit.lowered turn u
