-- Which of the frames that are kept an address finds. All of this is own.
use Rattle.std.specs.Prelude.{ℕ, zero, suc, ◌+◌, ◌==◌, not, cond, List, [], ◌∷◌, take, find, Option, Some, None}
use Rattle.std.specs.Option.{option_map}
use Rattle.std.specs.List.{position_or_len}
use Rattle.x86_values.specs.declared.byte.Byte.{Byte}
use Rattle.x86_values.specs.declared.byte.Byte.TheVariants.{Known}
use Rattle.x86_values.specs.declared.word.Word.{Word}
use Rattle.x86_values.specs.Words.{known_byte, padded}
use Rattle.memory.specs.Memory.{Memory, wrapped}
use Rattle.flag_ir.specs.declared.procedure.FrameKind.{FrameKind}
use Rattle.flag_ir.specs.declared.procedure.FrameKind.TheVariants.{Sealed, Guarded, Shared}
use Rattle.flag_ir.specs.Storage.{Frame}
use Rattle.flag_ir.specs.Frames.{covers, is_shared, all_covered, bytes_in, with_image}
use Rattle.unit_frames.specs.declared.frame.OpenFrame.{OpenFrame}
use Rattle.unit_frames.specs.Kept.{is_in, image_of}

abbrev pub innermost_kind : List OpenFrame → Option FrameKind
innermost_kind [] = None
innermost_kind (f ∷ more) = Some f.kind

-- how many of the innermost frames are Shared
abbrev pub shared_count : List OpenFrame → ℕ
shared_count fs = position_or_len (λ f. not (is_shared f.kind)) fs

-- how many the addresses of the running procedure reach
abbrev pub count_by : Option FrameKind → List OpenFrame → ℕ
count_by None fs = 0
count_by (Some Sealed) fs = 0
count_by (Some Guarded) fs = 1
count_by (Some Shared) fs = shared_count fs

abbrev pub reached_count : List OpenFrame → ℕ
reached_count fs = count_by (innermost_kind fs) fs

-- the byte at an address in the first of so many frames that covers it
abbrev pub byte_kept : ℕ → ℕ → List OpenFrame → Option Byte
byte_kept count a fs = option_map (λ f. image_of f a) (find (is_in a) (take count fs))

-- the word of four bytes, the lowest first, where each is there
abbrev pub joined : Option Byte → Option Byte → Option Byte → Option Byte → Option Word
joined (Some a) (Some b) (Some c) (Some d) = Some (record { b0 = a; b1 = b; b2 = c; b3 = d })
joined _ _ _ _ = None

-- the number of a byte that is there and known
abbrev pub number_kept : Option Byte → Option ℕ
number_kept None = None
number_kept (Some b) = known_byte b

-- a word of 1, 2 or 4 bytes in the first frames that cover them, where each is covered
abbrev pub zero_byte : Option Byte
zero_byte = Some (Known 0)

unfoldable pub word_kept : ℕ → ℕ → ℕ → List OpenFrame → Option Word
word_kept count a size fs =
    let second = byte_kept count (wrapped (a + 1)) fs in
    cond (size == 1) (joined (byte_kept count a fs) zero_byte zero_byte zero_byte)
    (cond (size == 2) (joined (byte_kept count a fs) second zero_byte zero_byte)
    (joined (byte_kept count a fs) second (byte_kept count (wrapped (a + 2)) fs) (byte_kept count (wrapped (a + 3)) fs)))

-- what a load from some frames comes to: none where a byte isn't covered, and then memory is read nowhere
abbrev pub loaded_in : List Frame → Memory → ℕ → ℕ → Option Word
loaded_in frames m at size = cond (all_covered frames at size) (Some (padded (bytes_in frames m at size))) None

-- the byte of the first of so many frames that covers it is another
abbrev pub put_in : ℕ → ℕ → Byte → List Frame → List Frame
put_in zero a b fs = fs
put_in (suc n) a b [] = []
put_in (suc n) a b (f ∷ more) = cond (covers a f) (with_image a b f ∷ more) (f ∷ put_in n a b more)

-- so are the bytes from an address on
unfoldable pub put_all_in : ℕ → ℕ → List Byte → List Frame → List Frame
put_all_in n at [] fs = fs
put_all_in n at (b ∷ bs) fs = put_all_in n (at + 1) bs (put_in n (wrapped at) b fs)
