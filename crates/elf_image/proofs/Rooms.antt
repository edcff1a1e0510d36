-- What lies in the source room lies in the wide one.
use Rattle.std.proofs.Common.{◌≡◌, ℕ, ◌+◌, ◌≤◌, false, ltb, List, [], ◌∷◌, refl, arith}
use Rattle.std.proofs.lemmas.Bool.{or_parts, or_from, ltb-false, le-ltb}
use Rattle.std.specs.List.{list_any}
use Rattle.elf_image.specs.declared.header.ProgramHeader.{ProgramHeader}
use Rattle.image.specs.declared.room.Room.{Room}
use Rattle.image.specs.declared.room.Room.TheVariants.{Source, Any}
use Rattle.elf_image.specs.Refusals.{is_out_of_room}
use Rattle.image.specs.Rooms.{room_end}

wider : (small large : ℕ) (hs : List ProgramHeader) → small ≤ large → list_any (is_out_of_room small) hs ≡ false → list_any (is_out_of_room large) hs ≡ false
wider small large [] up e = refl
wider small large (h ∷ hs) up e =
    let parts = or_parts (is_out_of_room small h) (list_any (is_out_of_room small) hs) e in
    let low = or_parts (ltb h.p_vaddr 4096) (ltb small (h.p_vaddr + h.p_memsz)) parts.0 in
    let end : h.p_vaddr + h.p_memsz ≤ small = ltb-false _ _ low.1 in
    or_from _ _ (or_from _ _ low.0 (le-ltb large (h.p_vaddr + h.p_memsz) (omega arith))) (wider small large hs up parts.1)

pub within_any : (room : Room) (hs : List ProgramHeader) → list_any (is_out_of_room (room_end room)) hs ≡ false → list_any (is_out_of_room 0x7C000000) hs ≡ false
within_any Source hs e = wider 0x50000000 0x7C000000 hs (omega arith) e
within_any Any hs e = e
