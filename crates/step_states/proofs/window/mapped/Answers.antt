use Rattle.std.proofs.Common.{ap, ◌∙◌, true}
use Rattle.x86_values.specs.declared.byte.Byte.TheVariants.{Known}
use Rattle.mem_pages.specs.Regions.{with_region}
use Rattle.step_states.proofs.Room.{room_behind}
use Rattle.step_states.proofs.window.mapped.Goals as goal

pub add_region-requires-2-clause-room : goal.add_region-requires-2-clause-room
add_region-requires-2-clause-room c = room_behind _ (Known 0) (c.in_ok-add_region.ensures.ok ∙ ap (with_region 0x20000000 0x20001000 true (Known 0)) c.new-pages.ensures)
