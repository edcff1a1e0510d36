use Rattle.std.proofs.Common.{sym, ◌+◌, length, subst}
use Rattle.memory.specs.Memory.{Memory, stack_start}
use Rattle.mem_pages.specs.Regions.{HasRoom}
use Rattle.x86_machine.proofs.Rooms.{stack_room}
use Rattle.x86_machine.proofs.start.first_pages.Goals as goal

pub add_stack-requires-clause-room : goal.add_stack-requires-clause-room
add_stack-requires-clause-room c = subst (λ (m : Memory). HasRoom (stack_start c.args.esp0) (c.args.esp0 + length c.args.stack.now) m) (sym c.in_ok-load.ensures) (stack_room c.args.image.now c.args.esp0 _ c.fits_wide_room.ensures c.requires.high)
