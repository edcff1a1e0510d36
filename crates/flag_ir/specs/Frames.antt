-- Open frames: which bytes they have, and which of them the addresses of the running procedure reach. All of this is own.
use Rattle.std.specs.Prelude.{ℕ, zero, suc, ◌+◌, ◌-◌, ◌*◌, ◌==◌, ◌&&◌, Bool, true, false, cond, leb, ltb, List, [], ◌∷◌, find, Option, Some, None, is_some}
use Rattle.x86_values.specs.declared.byte.Byte.{Byte}
use Rattle.x86_values.specs.declared.byte.Byte.TheVariants.{Unspecified}
use Rattle.memory.specs.Memory.{Place, Memory, Stored, wrapped, byte_of, put}
use Rattle.flag_ir.specs.declared.procedure.FrameKind.{FrameKind}
use Rattle.flag_ir.specs.declared.procedure.FrameKind.TheVariants.{Sealed, Guarded, Shared}
use Rattle.flag_ir.specs.Storage.{Frame, Storage}

-- a frame goes from `depth` bytes below its height to the end of the argument words, which stand above the return word
abbrev pub top_of : Frame → ℕ
top_of f = f.height + 4 + 4 * f.proc.args

abbrev pub covers : ℕ → Frame → Bool
covers a f = leb f.height (a + f.proc.depth) && ltb a (top_of f)

-- how many bytes it has
abbrev pub frame_size : Frame → ℕ
frame_size f = f.proc.depth + 4 + 4 * f.proc.args

abbrev pub is_argument : ℕ → Frame → Bool
is_argument a f = leb (f.height + 4) a && ltb a (top_of f)

-- the argument words and the return word
abbrev pub is_from_caller : ℕ → Frame → Bool
is_from_caller a f = leb f.height a && ltb a (top_of f)

-- one byte of a frame is another
abbrev pub with_image : ℕ → Byte → Frame → Frame
with_image a b f = record f { image = λ c. cond (c == a) b (f.image c) }

-- ---- the frames that an address reaches: none from a Sealed one, a Guarded one alone, and of Shared ones the chain of neighbours
abbrev pub is_shared : FrameKind → Bool
is_shared Sealed = false
is_shared Guarded = false
is_shared Shared = true

unfoldable pub shared_chain : List Frame → List Frame
shared_chain [] = []
shared_chain (f ∷ more) = cond (is_shared f.proc.kind) (f ∷ shared_chain more) []

abbrev pub reached_by : FrameKind → Frame → List Frame → List Frame
reached_by Sealed f more = []
reached_by Guarded f more = f ∷ []
reached_by Shared f more = f ∷ shared_chain more

abbrev pub reached_frames : List Frame → List Frame
reached_frames [] = []
reached_frames (f ∷ more) = reached_by f.proc.kind f more

-- each of n bytes from an address on stands in one of some frames
unfoldable pub all_covered : List Frame → ℕ → ℕ → Bool
all_covered frames at zero = true
all_covered frames at (suc n) = is_some (find (covers (wrapped at)) frames) && all_covered frames (at + 1) n

-- ---- reading: the innermost frame that has the byte, else memory
abbrev pub byte_by : Option Frame → ℕ → Memory → Byte
byte_by None a m = byte_of (m a)
byte_by (Some f) a m = f.image a

abbrev pub byte_in : List Frame → Memory → ℕ → Byte
byte_in frames m a = byte_by (find (covers a) frames) a m

unfoldable pub bytes_in : List Frame → Memory → ℕ → ℕ → List Byte
bytes_in frames m at zero = []
bytes_in frames m at (suc n) = byte_in frames m (wrapped at) ∷ bytes_in frames m (at + 1) n

-- ---- writing
unfoldable pub put_shared : ℕ → Byte → List Frame → List Frame
put_shared a b [] = []
put_shared a b (f ∷ more) = cond (is_shared f.proc.kind) (cond (covers a f) (with_image a b f ∷ more) (f ∷ put_shared a b more)) (f ∷ more)

abbrev pub put_by : FrameKind → ℕ → Byte → Frame → List Frame → List Frame
put_by Sealed a b f more = f ∷ more
put_by Guarded a b f more = with_image a b f ∷ more
put_by Shared a b f more = put_shared a b (f ∷ more)

-- a byte of the frames that are reached
abbrev pub put_near : ℕ → Byte → List Frame → List Frame
put_near a b [] = []
put_near a b (f ∷ more) = put_by f.proc.kind a b f more

unfoldable pub put_near_all : ℕ → List Byte → List Frame → List Frame
put_near_all at [] frames = frames
put_near_all at (b ∷ bs) frames = put_near_all (at + 1) bs (put_near (wrapped at) b frames)

abbrev pub store_near_all : List Stored → List Frame → List Frame
store_near_all [] frames = frames
store_near_all (s ∷ more) frames = store_near_all more (put_near_all s.at s.bytes frames)

-- ---- which accesses are judged: those that start on the stack below the end of the outermost frame. The stack counts here from 8 MiB and a page
-- below esp0 on.
abbrev pub outermost_top : List Frame → ℕ
outermost_top [] = 0
outermost_top (f ∷ []) = top_of f
outermost_top (f ∷ g ∷ more) = outermost_top (g ∷ more)

abbrev pub is_judged : ℕ → Storage → Bool
is_judged at u = leb (u.esp0 - 8392704) at && ltb at (outermost_top u.frames)

-- ---- memory as the running procedure sees it: the bytes of the frames that are reached stand in it
abbrev pub seen_place : Option Frame → ℕ → Memory → Option Place
seen_place None a m = m a
seen_place (Some f) a m = Some (record { byte = f.image a; can_write = true; on_stack = true })

unfoldable pub seen_memory : List Frame → Memory → Memory
seen_memory frames m a = seen_place (find (covers a) frames) a m

-- ---- bytes that pass between a frame and its caller
-- the byte of the caller's frame, where it has the address, else of memory
abbrev pub caller_byte : List Frame → Memory → ℕ → Byte
caller_byte [] m a = byte_of (m a)
caller_byte (f ∷ more) m a = cond (covers a f) (f.image a) (byte_of (m a))

-- a byte is put there
abbrev pub with_caller_byte : ℕ → Byte → Storage → List Frame → Storage
with_caller_byte a b u [] = record u { memory = put a b u.memory }
with_caller_byte a b u (f ∷ more) = cond (covers a f) (record u { frames = with_image a b f ∷ more }) (record u { memory = put a b u.memory })

-- so are the bytes of a closed frame from an address on, n of them
unfoldable pub copied_back : Frame → ℕ → ℕ → Storage → Storage
copied_back f at zero u = u
copied_back f at (suc n) u = copied_back f (at + 1) n (with_caller_byte (wrapped at) (f.image (wrapped at)) u u.frames)

-- A Shared frame is closed: what it covered in the other frames of its chain is unspecified, its argument words aside.
abbrev pub forgotten_in : Frame → Frame → Frame
forgotten_in closed f = record f { image = λ a. cond (covers a closed) (cond (is_argument a closed) (f.image a) Unspecified) (f.image a) }

unfoldable pub forget_chain : Frame → List Frame → List Frame
forget_chain closed [] = []
forget_chain closed (f ∷ more) = cond (is_shared f.proc.kind) (forgotten_in closed f ∷ forget_chain closed more) (f ∷ more)

abbrev pub forget_by : FrameKind → Frame → List Frame → List Frame
forget_by Sealed closed frames = frames
forget_by Guarded closed frames = frames
forget_by Shared closed frames = forget_chain closed frames
