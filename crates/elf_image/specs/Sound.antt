-- A segment's program header that has passed the tests of one segment.
use Rattle.std.specs.Prelude.{◌≡◌, true, false}
use Rattle.image.specs.declared.room.Room.TheVariants.{Any}
use Rattle.image.specs.Rooms.{room_end}
use Rattle.elf_image.specs.declared.header.ProgramHeader.{ProgramHeader}
use Rattle.elf_image.specs.Pages.{is_segment}
use Rattle.elf_image.specs.Refusals.{is_too_small, is_forbidden, is_out_of_room}

-- none of these tests holds of it in the wide room
pub record IsSound (h : ProgramHeader) : Type 0 where
  pub segment : is_segment h ≡ true
  pub small : is_too_small h ≡ false
  pub forbidden : is_forbidden h ≡ false
  pub room : is_out_of_room (room_end Any) h ≡ false
