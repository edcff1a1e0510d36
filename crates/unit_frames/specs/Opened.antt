-- What a new frame takes from its caller, by what is kept of the caller. All of this is own.
use Rattle.std.specs.Prelude.{◌≡◌, ℕ, ◌+◌, ◌&&◌, ◌||◌, Bool, true, false, cond, leb, ltb, List, slice_get, slice_index_or, Option, Some, None, Result, Ok, Err}
use Rattle.std.specs.declared.alloc.AllocError.{AllocError}
use Rattle.x86_values.specs.declared.byte.Byte.{Byte}
use Rattle.x86_values.specs.declared.byte.Byte.TheVariants.{Unspecified}
use Rattle.x86_values.specs.declared.word.Word.{Word}
use Rattle.traces.specs.Trace.{Outside, Stopped}
use Rattle.memory.specs.Memory.{Memory, byte_of}
use Rattle.flag_ir.specs.declared.procedure.Proc.{Proc}
use Rattle.flag_ir.specs.Storage.{Frame, Storage}
use Rattle.flag_ir.specs.Entering.{new_frame, opened, before_block, index_at}
use Rattle.unit_frames.specs.declared.frame.OpenFrame.{OpenFrame}
use Rattle.unit_frames.specs.declared.opening.FrameStart.{FrameStart}
use Rattle.unit_frames.specs.Kept.{is_in, image_of, takes, no_proc, frame_of, frames_of}

abbrev pub byte_if : OpenFrame → ℕ → Option Byte
byte_if f a = cond (is_in a f) (Some (image_of f a)) None

-- the byte of the caller's frame, else of memory
abbrev pub or_memory : Option Byte → Memory → ℕ → Byte
or_memory None m a = byte_of (m a)
or_memory (Some b) m a = b

abbrev pub byte_by : Option OpenFrame → Memory → ℕ → Byte
byte_by None m a = byte_of (m a)
byte_by (Some f) m a = or_memory (byte_if f a) m a

abbrev pub from_caller : List OpenFrame → Memory → ℕ → Byte
from_caller fs m a = byte_by (slice_get fs 0) m a

-- the bytes from the height on come from the caller, up to an end
abbrev pub fresh_byte : ℕ → ℕ → (ℕ → Byte) → ℕ → Byte
fresh_byte height end byte a = cond (leb height a && ltb a end) (byte a) Unspecified

-- ---- a frame opens in this storage
pub record IsOpener (u : Storage) (fs : List Frame) (m : Memory) (w : Word) (first : ℕ) : Type 0 where
  pub frames : u.frames ≡ fs
  pub memory : u.memory ≡ m
  pub ebp : u.regs 5 ≡ w
  pub esp0 : u.esp0 ≡ first

-- with which it begins: its procedure, by its index, its height, the block of the caller behind the call, and ebp
abbrev pub started : List Proc → FrameStart → Proc
started procs s = slice_index_or procs s.proc no_proc

abbrev pub frame_started : List Proc → FrameStart → Storage → Frame
frame_started procs s u = new_frame (started procs s) s.height s.back u

abbrev pub IsNewFrame : List Proc → FrameStart → List OpenFrame → Memory → OpenFrame → Type 0
IsNewFrame procs s fs m f = (u : Storage) (esp0 : ℕ) → IsOpener u (frames_of procs fs) m s.ebp esp0 → frame_of procs f ≡ frame_started procs s u

-- the test of `is_too_deep`, by what the open frames take up
abbrev pub goes_too_deep : ℕ → ℕ → ℕ → ℕ → ℕ → Bool
goes_too_deep esp0 height depth args taken = ltb (height + 4194304) (esp0 + depth) || ltb esp0 height || ltb 50331648 (takes depth args + taken)

-- The frame is open, and the run goes on at the block of the entry; or it would be too deep; or memory is wanting. Only the first changes the frames.
abbrev pub Opens : List Proc → FrameStart → ℕ → Memory → Result Bool AllocError → List OpenFrame → List OpenFrame → Type 0
Opens procs s esp0 m (Ok true) fs gs =
    (u : Storage) → IsOpener u (frames_of procs fs) m s.ebp esp0
    → opened (frame_started procs s u) u ≡ before_block (index_at (started procs s).entry (started procs s).blocks) Outside (record u { frames = frames_of procs gs })
Opens procs s esp0 m (Ok false) fs gs =
    ((u : Storage) → IsOpener u (frames_of procs fs) m s.ebp esp0 → opened (frame_started procs s u) u ≡ Err (Stopped (started procs s).entry)) × (gs ≡ fs)
Opens procs s esp0 m (Err e) fs gs = gs ≡ fs
