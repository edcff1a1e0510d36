-- What holds of the image of a written file. All of this is own.
use Rattle.std.specs.Prelude.{◌≡◌, ℕ, ◌%◌, ◌<◌, List, length, All, None, slice_get}
use Rattle.std.specs.Option.{option_map_or}
use Rattle.image.specs.declared.image.Segment.{Segment}
use Rattle.image.specs.Wanted.{image_with}
use Rattle.elf_writer.specs.Wanted.{CanBeWritten}
use Rattle.memory.specs.Memory.{HasBytes, memory_of}
use Rattle.x86_code.specs.Code.{code_of}
use Rattle.private_memory.specs.PrivateArea.{IsOfProgram, with_private}
use Rattle.named_code.specs.declared.placed.Home.{Home}
use Rattle.named_code.specs.Items.{cell_of}
use Rattle.named_code.specs.PlacedForm.{IsCell}
use Rattle.laid_code.specs.Laid.{Places}
use Rattle.laid_code.specs.LaidRun.{HasAddressTable}
use Rattle.laid_code.specs.Beginning.{CanBegin}
use Rattle.code_text.specs.KeptPlaces.{code_start, table_start, AreTableWords}
use Rattle.code_text.specs.Placing.{HasBytesFrom}
use Rattle.laid_image.specs.NewImage.{in_pages, whole_pages, new_segments, new_image, FitsSourceRoom, HasNewRoom, HasPagesOf}

-- each segment's bytes are bytes
abbrev pub HoldsBytes : List Segment → Type 0
HoldsBytes segments = All (λ (s : Segment). All (λ b. b < 256) s.bytes) segments

-- ---- the cells of names are words, each apart from the others
pub record AreCells (homes : List Home) : Type 0 where
  pub cells : All IsCell homes
  pub words : All (λ (h : Home). h.cell % 4 ≡ 0) homes
  pub apart : (n m : ℕ) → n < length homes → m < length homes → cell_of homes n ≡ cell_of homes m → n ≡ m

-- the cell of name 4, where there is one, and else the first cell, which holds esp too
abbrev pub esp_cell : List Home → ℕ
esp_cell homes = option_map_or (λ (h : Home). h.cell) (slice_get homes 4) 0x75000000

pub record ImageLaws : Type 0 where
  -- it can be written
  pub can_be_written : (old : List Segment) (entry size : ℕ) (code words : List ℕ) → FitsSourceRoom old entry → HasNewRoom size code words → CanBeWritten (new_segments old size code words) code_start
  -- in its code stand the bytes of the code, with zeros behind them, and at address 0 nothing does
  pub code : (old : List Segment) (entry : ℕ) (code words : List ℕ) → FitsSourceRoom old entry → HasNewRoom (whole_pages (length code)) (in_pages code) words →
      HasBytesFrom (code_of (new_image old (whole_pages (length code)) (in_pages code) words)) code_start (in_pages code)
  pub none : (old : List Segment) (entry size : ℕ) (code words : List ℕ) → FitsSourceRoom old entry → HasNewRoom size code words → code_of (new_image old size code words) 0 ≡ None
  -- its table is that of the places
  pub table : (old : List Segment) (entry size : ℕ) (code words : List ℕ) (l : Places) → FitsSourceRoom old entry → HasNewRoom size code words → l.table ≡ table_start → AreTableWords l words →
      ((a : ℕ) → l.by_address a < 4294967296) → HasAddressTable l (memory_of (new_image old size code words))
  -- its memory is that with which laid code begins, beside the memory of the old segments
  pub begins : (old : List Segment) (entry size : ℕ) (code words : List ℕ) (homes : List Home) (esp0 : ℕ) → FitsSourceRoom old entry → HasNewRoom size code words →
      HoldsBytes old → All (λ b. b < 256) code → AreCells homes → CanBegin homes (esp_cell homes) esp0 (with_private esp0 (memory_of (image_with old entry))) (memory_of (new_image old size code words))
  -- the old memory is that of a program
  pub program : (old : List Segment) (entry : ℕ) → FitsSourceRoom old entry → IsOfProgram (memory_of (image_with old entry))
  pub bytes : (old : List Segment) (entry : ℕ) → HoldsBytes old → HasBytes (memory_of (image_with old entry))
  -- other bytes in the same pages
  pub other_bytes : (old others : List Segment) (entry : ℕ) → FitsSourceRoom old entry → HasPagesOf old others → FitsSourceRoom others entry
