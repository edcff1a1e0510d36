-- The names of the refusals, as they are printed. (own)
use Rattle.std.specs.Prelude.{ℕ, List, codes}
use Rattle.elf_image.specs.declared.refusal.Refusal.{Refusal}
use Rattle.elf_image.specs.declared.refusal.Refusal.TheVariants.{Short, Magic, Class, Order, Version, Kind, Machine, HeaderSize, HeaderTable, Dynamic, SegmentFile, SegmentSize, SegmentAlign, Permission, Range, SharedPage, Entry, CodeSpan, ImageSize, NotYet}

-- a refusal's name is that of its variant
abbrev pub refusal_name : Refusal → List ℕ
refusal_name Short = codes "Short"
refusal_name Magic = codes "Magic"
refusal_name Class = codes "Class"
refusal_name Order = codes "Order"
refusal_name Version = codes "Version"
refusal_name Kind = codes "Kind"
refusal_name Machine = codes "Machine"
refusal_name HeaderSize = codes "HeaderSize"
refusal_name HeaderTable = codes "HeaderTable"
refusal_name Dynamic = codes "Dynamic"
refusal_name SegmentFile = codes "SegmentFile"
refusal_name SegmentSize = codes "SegmentSize"
refusal_name SegmentAlign = codes "SegmentAlign"
refusal_name Permission = codes "Permission"
refusal_name Range = codes "Range"
refusal_name SharedPage = codes "SharedPage"
refusal_name Entry = codes "Entry"
refusal_name CodeSpan = codes "CodeSpan"
refusal_name ImageSize = codes "ImageSize"
refusal_name NotYet = codes "NotYet"
