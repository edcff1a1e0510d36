-- What the closing of a frame makes unspecified in others. All of this is own.
use Rattle.std.specs.Prelude.{◌≡◌, ℕ, zero, suc, ◌&&◌, cond, leb, ltb, List, [], ◌∷◌, Option, Some, None}
use Rattle.x86_values.specs.declared.byte.Byte.TheVariants.{Unspecified}
use Rattle.memory.specs.Memory.{Memory}
use Rattle.flag_ir.specs.declared.procedure.Proc.{Proc}
use Rattle.flag_ir.specs.Storage.{Frame, Storage, put_word}
use Rattle.flag_ir.specs.Calculations.{sum_of}
use Rattle.flag_ir.specs.Entering.{closed}
use Rattle.x86_values.specs.Words.{word_of}
use Rattle.unit_frames.specs.declared.frame.OpenFrame.{OpenFrame}
use Rattle.unit_frames.specs.Kept.{frame_of, frames_of}
use Rattle.unit_frames.specs.declared.closing.ReturnPlace.{ReturnPlace}

-- the bytes from an address up to but not with another are unspecified
abbrev pub forgotten_between : ℕ → ℕ → Frame → Frame
forgotten_between from to f = record f { image = λ a. cond (leb from a && ltb a to) Unspecified (f.image a) }

-- in so many of the innermost frames
abbrev pub forget_first : ℕ → ℕ → ℕ → List Frame → List Frame
forget_first zero from to fs = fs
forget_first (suc n) from to [] = []
forget_first (suc n) from to (f ∷ more) = forgotten_between from to f ∷ forget_first n from to more

-- the storage with what is kept
abbrev pub with_kept : List Proc → List OpenFrame → Memory → Storage → Storage
with_kept procs fs m u = record u { frames = frames_of procs fs; memory = m }

-- The innermost frame is closed, over the procedures of any unit: what is left is the storage of `closed`, and the answer says where its return goes.
abbrev pub Closes : Option ReturnPlace → List OpenFrame → Memory → List OpenFrame → Memory → Type 0
Closes r [] m gs n = (r ≡ None) × (gs ≡ []) × (n ≡ m)
Closes r (f ∷ more) m gs n =
    (r ≡ Some (record { back = f.back; word = f.word }))
    × ((procs : List Proc) (u : Storage) → u.memory ≡ m → closed (frame_of procs f) (frames_of procs more) u ≡ with_kept procs gs n (record u { regs = put_word 4 (sum_of (u.regs 4) (word_of 4)) u.regs }))
