-- Images that are written out, and what stands at their first and last addresses.
use Rattle.std.specs.Prelude.{◌≡◌, ℕ, true, false, List, [], ◌∷◌, ◌++◌, map, Some, None}
use Rattle.byte_lists.specs.LittleEndian.{zeros}
use Rattle.image.specs.declared.image.Segment.{Segment}
use Rattle.image.specs.declared.image.Image.{Image}
use Rattle.image.specs.Addresses.{has, byte_at, can_write, can_run, code_byte_at, code_bytes}

-- a segment of these permissions
abbrev pub segment_with : ℕ → ℕ → ℕ → List ℕ → Segment
segment_with start size flags bytes = record { start = start; size = size; perm = record { 0 = flags }; bytes = bytes }

-- code of two pages (R and X), the first of them with bytes of the file, 0xB8 the first and 0xC3 the last; and right behind it a
-- page of data (R and W)
unfoldable pub code_and_data : Image
code_and_data = record { segments = segment_with 0x1000 0x2000 5 (0xB8 ∷ zeros 4094 ++ 0xC3 ∷ []) ∷ segment_with 0x3000 0x1000 6 (0xDD ∷ []) ∷ []; entry = 0x1000 }

-- two segments with code; the first address of the second one, 0x2000, is in the first one too
unfoldable pub code_twice : Image
code_twice = record { segments = segment_with 0x1000 0x1001 1 (zeros 4095 ++ 0xC3 ∷ 0x90 ∷ []) ∷ segment_with 0x2000 0x1000 7 (0xCC ∷ 0xF4 ∷ []) ∷ []; entry = 0x1000 }

-- the eight sets of permissions (gABI, "Segment Permissions": PF_X 1, PF_W 2, PF_R 4); higher bits are none of the three
pub record Permissions : Type 0 where
  pub run : map (λ flags. has flags 1) (0 ∷ 1 ∷ 2 ∷ 3 ∷ 4 ∷ 5 ∷ 6 ∷ 7 ∷ []) ≡ false ∷ true ∷ false ∷ true ∷ false ∷ true ∷ false ∷ true ∷ []
  pub write : map (λ flags. has flags 2) (0 ∷ 1 ∷ 2 ∷ 3 ∷ 4 ∷ 5 ∷ 6 ∷ 7 ∷ []) ≡ false ∷ false ∷ true ∷ true ∷ false ∷ false ∷ true ∷ true ∷ []
  pub read : map (λ flags. has flags 4) (0 ∷ 1 ∷ 2 ∷ 3 ∷ 4 ∷ 5 ∷ 6 ∷ 7 ∷ []) ≡ false ∷ false ∷ false ∷ false ∷ true ∷ true ∷ true ∷ true ∷ []
  pub higher : map (has 0xFFFFFFF8) (1 ∷ 2 ∷ 4 ∷ []) ≡ false ∷ false ∷ false ∷ []

-- the addresses that are asked for: before the code, the first and the last byte of each of its pages, those of the data, and
-- behind them
abbrev pub asked : List ℕ
asked = 0x0FFF ∷ 0x1000 ∷ 0x1FFF ∷ 0x2000 ∷ 0x2FFF ∷ 0x3000 ∷ 0x3FFF ∷ 0x4000 ∷ []

pub record AtAddresses : Type 0 where
  pub bytes : map (byte_at code_and_data) asked ≡ None ∷ Some 0xB8 ∷ Some 0xC3 ∷ Some 0 ∷ Some 0 ∷ Some 0xDD ∷ Some 0 ∷ None ∷ []
  pub run : map (can_run code_and_data) asked ≡ false ∷ true ∷ true ∷ true ∷ true ∷ false ∷ false ∷ false ∷ []
  pub write : map (can_write code_and_data) asked ≡ false ∷ false ∷ false ∷ false ∷ false ∷ true ∷ true ∷ false ∷ []
  pub code : map (code_byte_at code_and_data) asked ≡ None ∷ Some 0xB8 ∷ Some 0xC3 ∷ Some 0 ∷ Some 0 ∷ None ∷ None ∷ None ∷ []

-- the bytes that can be run: none of no bytes, none before the code, from one page to the next, and none past its end
pub record CodeBytes : Type 0 where
  pub none : code_bytes code_and_data 0x1000 0 ≡ []
  pub one : code_bytes code_and_data 0x1000 1 ≡ 0xB8 ∷ []
  pub before : code_bytes code_and_data 0x0FFF 3 ≡ []
  pub two_pages : code_bytes code_and_data 0x1FFE 4 ≡ 0 ∷ 0xC3 ∷ 0 ∷ 0 ∷ []
  pub at_the_end : code_bytes code_and_data 0x2FFE 5 ≡ 0 ∷ 0 ∷ []
  pub data_page : code_bytes code_and_data 0x3000 2 ≡ []
  pub two_segments : code_bytes code_twice 0x1FFF 4 ≡ 0xC3 ∷ 0x90 ∷ 0xF4 ∷ 0 ∷ []

-- where two segments have an address, the first of the list is meant
pub record FirstSegment : Type 0 where
  pub byte : map (byte_at code_twice) (0x1FFF ∷ 0x2000 ∷ 0x2001 ∷ []) ≡ Some 0xC3 ∷ Some 0x90 ∷ Some 0xF4 ∷ []
  pub write : map (can_write code_twice) (0x1FFF ∷ 0x2000 ∷ 0x2001 ∷ []) ≡ false ∷ false ∷ true ∷ []
