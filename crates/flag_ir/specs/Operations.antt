-- What operations do. The run ends where one comes to an end. All of this is own; a division is that of the processor (Intel SDM volume 2,
-- "DIV", "IDIV"), a call that of Linux.
use Rattle.std.specs.Prelude.{ℕ, ◌+◌, ◌==◌, ◌&&◌, ◌||◌, ℤ, pos, negsuc, ◌-◌, Bool, not, cond, List, [], ◌∷◌, ◌++◌, take, Option, Some, None, Result, Ok, Err}
use Rattle.x86_values.specs.declared.byte.Byte.{Byte}
use Rattle.x86_values.specs.declared.word.Word.{Word}
use Rattle.x86_values.specs.declared.divided.Divided.{Divided}
use Rattle.x86_values.specs.declared.divided.Divided.TheVariants as divided
use Rattle.x86_values.specs.Words.{word_of, known, word_list, padded}
use Rattle.x86_values.specs.Sizes.{no_word}
use Rattle.x86_values.specs.Divisions.{divide}
use Rattle.traces.specs.Trace.{Label, End, MemoryFault, DivideFault, Outside, Unspecified, Stopped}
use Rattle.memory.specs.Memory.{Memory, wrapped, Load, Store, allows_all, bytes_at, put_all, store_all}
use Rattle.memory.specs.SystemCall.{Request, Called, Ends, Gives, system_call}
use Rattle.flag_ir.specs.declared.variable.Var.{Var}
use Rattle.flag_ir.specs.declared.operation.Op.{Op}
use Rattle.flag_ir.specs.declared.operation.Op.TheVariants as op
use Rattle.flag_ir.specs.Calculations.{calculate}
use Rattle.flag_ir.specs.Storage.{Frame, Storage, put_word, put_var, term_in}
use Rattle.flag_ir.specs.Frames.{reached_frames, all_covered, bytes_in, put_near_all, store_near_all, is_judged, seen_memory, with_image}

-- ---- one thing after another, up to an end
abbrev pub and_then : {A B : Type 0} → Result A End → (A → Result B End) → Result B End
and_then (Ok a) f = f a
and_then (Err e) f = Err e

-- what has to be known
abbrev pub needed : {A : Type 0} → Option A → Result A End
needed None = Err Unspecified
needed (Some a) = Ok a

-- ---- memory, by sizes
abbrev pub load : ℕ → Memory → ℕ → Result Word End
load size m at = cond (allows_all Load m at size) (Ok (padded (bytes_at m at size))) (Err MemoryFault)

abbrev pub store : ℕ → Word → Memory → ℕ → Result Memory End
store size w m at = cond (allows_all Store m at size) (Ok (put_all at (take size (word_list w)) m)) (Err MemoryFault)

-- the storage with another memory
abbrev pub with_memory : Storage → Memory → Storage
with_memory u m = record u { memory = m }

-- ---- guarded addresses: an access that is judged has to stand in the frames that are reached, else the run stops
abbrev pub in_frames : {A : Type 0} → ℕ → Storage → ℕ → ℕ → Result A End → Result A End
in_frames turn u at size done = cond (all_covered (reached_frames u.frames) at size) done (Err (Stopped turn))

-- by the open frames, of which there has to be one
abbrev pub with_frame : {A : Type 0} → List Frame → Result A End → Result A End
with_frame [] done = Err Outside
with_frame (f ∷ more) done = done

abbrev pub near_load : ℕ → ℕ → Storage → ℕ → Result Word End
near_load turn size u at = with_frame u.frames (cond (is_judged at u) (in_frames turn u at size (Ok (padded (bytes_in (reached_frames u.frames) u.memory at size)))) (load size u.memory at))

abbrev pub near_store : ℕ → ℕ → Word → Storage → ℕ → Result Storage End
near_store turn size w u at =
    with_frame u.frames (cond (is_judged at u) (in_frames turn u at size (Ok (record u { frames = put_near_all at (take size (word_list w)) u.frames })))
    (and_then (store size w u.memory at) (λ m. Ok (with_memory u m))))

-- ---- fixed places of the innermost frame; offsets count from its height, modulo 2^32
abbrev pub at_offset : ℕ → ℤ → ℕ
at_offset height (pos n) = wrapped (height + n)
at_offset height (negsuc n) = wrapped (height + (4294967295 - n))

abbrev pub get_of : ℕ → ℤ → Memory → List Frame → Result Word End
get_of size offset m [] = Err Outside
get_of size offset m (f ∷ more) = let at = at_offset f.height offset in cond (all_covered (f ∷ []) at size) (Ok (padded (bytes_in (f ∷ []) m at size))) (Err Outside)

unfoldable pub with_bytes : ℕ → List Byte → Frame → Frame
with_bytes at [] f = f
with_bytes at (b ∷ bs) f = with_bytes (at + 1) bs (with_image (wrapped at) b f)

abbrev pub put_of : ℕ → ℤ → Word → Storage → List Frame → Result Storage End
put_of size offset w u [] = Err Outside
put_of size offset w u (f ∷ more) =
    let at = at_offset f.height offset in cond (all_covered (f ∷ []) at size) (Ok (record u { frames = with_bytes at (take size (word_list w)) f ∷ more })) (Err Outside)

-- ---- system calls: asked by the registers 0, 3, 1 and 2; the result goes to register 0
abbrev pub request_in : Storage → Request
request_in u = record { number = u.regs 0; fd = u.regs 3; at = u.regs 1; count = u.regs 2 }

abbrev pub called : Called → Storage → Result Storage End
called (Ends e) u = Err e
called (Gives labels result stores left) u = Ok (record u { regs = put_word 0 (word_of result) u.regs; memory = store_all stores u.memory; left = left })

abbrev pub labels_of : Called → List Label
labels_of (Ends e) = []
labels_of (Gives labels result stores left) = labels

abbrev pub call_in : Storage → Called
call_in u = system_call (request_in u) u.memory u.left

-- whether a read or a write of n bytes looks at its buffer
abbrev pub has_buffer : ℕ → ℕ → ℕ → Bool
has_buffer number fd n = not (n == 0) && ((number == 3 && fd == 0) || (number == 4 && (fd == 1 || fd == 2)))

-- the call's buffer is judged, and stands at this address with so many bytes
abbrev pub judged_buffer : Storage → Option ℕ → Option ℕ → Option ℕ → Option ℕ → Option (ℕ × ℕ)
judged_buffer u (Some number) (Some fd) (Some at) (Some n) = cond (has_buffer number fd n && is_judged at u) (Some (at, n)) None
judged_buffer u _ _ _ _ = None

abbrev pub buffer_in : Storage → Option (ℕ × ℕ)
buffer_in u = let q = request_in u in judged_buffer u (known q.number) (known q.fd) (known q.at) (known q.count)

-- the call over the memory that the procedure sees
abbrev pub near_call_in : Storage → Called
near_call_in u = system_call (request_in u) (seen_memory (reached_frames u.frames) u.memory) u.left

abbrev pub called_near : Called → Storage → Result Storage End
called_near (Ends e) u = Err e
called_near (Gives labels result stores left) u = Ok (record u { regs = put_word 0 (word_of result) u.regs; frames = store_near_all stores u.frames; left = left })

abbrev pub near_system : ℕ → Option (ℕ × ℕ) → Storage → Result Storage End
near_system turn None u = called (call_in u) u
near_system turn (Some p) u = in_frames turn u p.0 p.1 (called_near (near_call_in u) u)

abbrev pub near_call_by : Option (ℕ × ℕ) → Storage → Called
near_call_by None u = call_in u
near_call_by (Some p) u = near_call_in u

-- ---- the operations. `turn` is the old address of the block that began the turn
abbrev pub picked : Option ℕ → Word → Word → Word
picked None x y = no_word
picked (Some n) x y = cond (n == 0) y x

abbrev pub divided_into : Divided → Var → Var → Storage → Result Storage End
divided_into (divided.Got q r) quotient remainder u = Ok (put_var remainder r (put_var quotient q u))
divided_into divided.Fault quotient remainder u = Err DivideFault
divided_into divided.Unspecified quotient remainder u = Err Unspecified

unfoldable pub perform : ℕ → Op → Storage → Result Storage End
perform turn (op.Set to from) u = Ok (put_var to (term_in from u) u)
perform turn (op.Calc to calc left right) u = Ok (put_var to (calculate calc (term_in left u) (term_in right u)) u)
perform turn (op.Forget to) u = Ok (put_var to no_word u)
perform turn (op.Pick to test x y) u = Ok (put_var to (picked (known (term_in test u)) (term_in x u) (term_in y u)) u)
perform turn (op.Need from) u = and_then (needed (known (term_in from u))) (λ n. Ok u)
perform turn (op.Divide quotient remainder high low by size signed) u = divided_into (divide signed size (term_in high u) (term_in low u) (term_in by u)) quotient remainder u
perform turn (op.Load to size at) u = and_then (needed (known (term_in at u))) (λ a. and_then (load size u.memory a) (λ w. Ok (put_var to w u)))
perform turn (op.Store size at from) u = and_then (needed (known (term_in at u))) (λ a. and_then (store size (term_in from u) u.memory a) (λ m. Ok (with_memory u m)))
perform turn (op.NearLoad to size at) u = and_then (needed (known (term_in at u))) (λ a. and_then (near_load turn size u a) (λ w. Ok (put_var to w u)))
perform turn (op.NearStore size at from) u = and_then (needed (known (term_in at u))) (λ a. near_store turn size (term_in from u) u a)
perform turn (op.Get to size offset) u = and_then (get_of size offset u.memory u.frames) (λ w. Ok (put_var to w u))
perform turn (op.Put size offset from) u = put_of size offset (term_in from u) u u.frames
perform turn op.System u = called (call_in u) u
perform turn op.NearSystem u = with_frame u.frames (near_system turn (buffer_in u) u)

-- what one shows where it doesn't come to an end: that of its call
abbrev pub shown_by : Op → Storage → List Label
shown_by op.System u = labels_of (call_in u)
shown_by op.NearSystem u = labels_of (near_call_by (buffer_in u) u)
shown_by _ u = []

-- ---- a list of them, in order
unfoldable pub performs : ℕ → List Op → Storage → Result Storage End
performs turn [] u = Ok u
performs turn (o ∷ os) u = and_then (perform turn o u) (performs turn os)

abbrev pub shown_with : Result Storage End → List Label → (Storage → List Label) → List Label
shown_with (Ok v) labels rest = labels ++ rest v
shown_with (Err e) labels rest = []

-- what it shows; an operation that comes to an end shows nothing
unfoldable pub shown_by_all : ℕ → List Op → Storage → List Label
shown_by_all turn [] u = []
shown_by_all turn (o ∷ os) u = shown_with (perform turn o u) (shown_by o u) (shown_by_all turn os)
