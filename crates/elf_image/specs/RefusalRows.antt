-- The causes of a refusal in their order, and their printed names.
use Rattle.std.specs.Prelude.{◌≡◌, ℕ, List, [], ◌∷◌, map, codes}
use Rattle.image.specs.declared.room.Room.{Room}
use Rattle.elf_image.specs.declared.refusal.Refusal.TheVariants.{Short, Magic, Class, Order, Version, Kind, Machine, HeaderSize, HeaderTable, Dynamic, SegmentFile, SegmentSize, SegmentAlign, Permission, Range, SharedPage, Entry, CodeSpan, ImageSize, NotYet}
use Rattle.elf_image.specs.Names.{refusal_name}
use Rattle.elf_image.specs.Refusals.{tests}

-- the nineteen causes, as they are judged of every file in both rooms
abbrev pub OrderOfCauses : Type 0
OrderOfCauses = (file : List ℕ) (room : Room) → map (λ t. t.1) (tests file room)
    ≡ Short ∷ Magic ∷ Class ∷ Order ∷ Version ∷ Kind ∷ Machine ∷ HeaderSize ∷ HeaderTable ∷ Dynamic ∷ SegmentFile ∷ SegmentSize ∷ SegmentAlign ∷ Permission ∷ Range ∷ SharedPage ∷ Entry ∷ CodeSpan ∷ ImageSize ∷ []

-- the twenty names
pub record PrintedNames : Type 0 where
  pub short : refusal_name Short ≡ codes "Short"
  pub magic : refusal_name Magic ≡ codes "Magic"
  pub class : refusal_name Class ≡ codes "Class"
  pub order : refusal_name Order ≡ codes "Order"
  pub version : refusal_name Version ≡ codes "Version"
  pub kind : refusal_name Kind ≡ codes "Kind"
  pub machine : refusal_name Machine ≡ codes "Machine"
  pub header_size : refusal_name HeaderSize ≡ codes "HeaderSize"
  pub header_table : refusal_name HeaderTable ≡ codes "HeaderTable"
  pub dynamic : refusal_name Dynamic ≡ codes "Dynamic"
  pub segment_file : refusal_name SegmentFile ≡ codes "SegmentFile"
  pub segment_size : refusal_name SegmentSize ≡ codes "SegmentSize"
  pub segment_align : refusal_name SegmentAlign ≡ codes "SegmentAlign"
  pub permission : refusal_name Permission ≡ codes "Permission"
  pub range : refusal_name Range ≡ codes "Range"
  pub shared_page : refusal_name SharedPage ≡ codes "SharedPage"
  pub entry : refusal_name Entry ≡ codes "Entry"
  pub code_span : refusal_name CodeSpan ≡ codes "CodeSpan"
  pub image_size : refusal_name ImageSize ≡ codes "ImageSize"
  pub not_yet : refusal_name NotYet ≡ codes "NotYet"
