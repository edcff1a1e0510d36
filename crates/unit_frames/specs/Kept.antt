-- What is kept of open frames, and the frames that it stands for. All of this is own.
use Rattle.std.specs.Prelude.{◌≡◌, ◌≤◌, ℕ, ◌+◌, ◌-◌, ◌*◌, ◌&&◌, Bool, cond, leb, ltb, List, [], map, slice_get, slice_index_or, sum_by}
use Rattle.x86_values.specs.declared.byte.Byte.{Byte}
use Rattle.x86_values.specs.declared.byte.Byte.TheVariants.{Unspecified}
use Rattle.x86_values.specs.declared.word.Word.{Word}
use Rattle.x86_values.specs.Sizes.{no_word}
use Rattle.flag_ir.specs.declared.procedure.FrameKind.TheVariants.{Sealed}
use Rattle.flag_ir.specs.declared.procedure.Proc.{Proc}
use Rattle.flag_ir.specs.Storage.{Frame, put_word, cut_to}
use Rattle.unit_frames.specs.declared.frame.OpenFrame.{OpenFrame}

-- the lowest address that it covers
abbrev pub low_of : OpenFrame → ℕ
low_of f = f.height - f.depth

-- the end of its argument words
abbrev pub end_of : OpenFrame → ℕ
end_of f = f.height + 4 + 4 * f.args

abbrev pub is_in : ℕ → OpenFrame → Bool
is_in a f = leb f.height (a + f.depth) && ltb a (end_of f)

-- the byte at an address, of bytes that stand from a lowest address on; beside them it is unspecified
abbrev pub byte_from : ℕ → List Byte → ℕ → Byte
byte_from low bytes a = cond (leb low a) (slice_index_or bytes (a - low) Unspecified) Unspecified

abbrev pub image_of : OpenFrame → ℕ → Byte
image_of f a = byte_from (low_of f) f.bytes.items a

-- the word of a local; a further one is unspecified
abbrev pub local_of : OpenFrame → ℕ → Word
local_of f n = slice_index_or f.locals.items n no_word

abbrev pub no_proc : Proc
no_proc = record { entry = 0; kind = Sealed; depth = 0; args = 0; locals = []; blocks = [] }

-- its procedure, with what the frame keeps of it
abbrev pub proc_of : List Proc → OpenFrame → Proc
proc_of procs f = record (slice_index_or procs f.proc no_proc) { kind = f.kind; depth = f.depth; args = f.args }

-- the frame of the definitions, over the procedures of a unit
abbrev pub frame_of : List Proc → OpenFrame → Frame
frame_of procs f = record { proc = proc_of procs f; height = f.height; word = f.word; ebp = f.ebp; back = f.back; image = image_of f; locals = local_of f }

abbrev pub frames_of : List Proc → List OpenFrame → List Frame
frames_of procs fs = map (frame_of procs) fs

-- a local of a frame becomes a word
abbrev pub with_word : ℕ → Word → Frame → Frame
with_word n w f = record f { locals = put_word n (cut_to (slice_get f.proc.locals n) w) f.locals }

-- what the frames take up
abbrev pub takes : ℕ → ℕ → ℕ
takes depth args = 2 * (depth + 4 + 4 * args) + 256

abbrev pub taken_of : List OpenFrame → ℕ
taken_of fs = sum_by (λ f. takes f.depth f.args) fs

abbrev pub IsTaken : ℕ → List OpenFrame → Type 0
IsTaken taken fs = (taken ≡ taken_of fs) × (taken ≤ 50331648)
