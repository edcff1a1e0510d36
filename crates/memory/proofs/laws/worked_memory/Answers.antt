use Rattle.std.proofs.Common.{refl}
use Rattle.memory.specs.Memory.{put, put_all, allows_all, bytes_at, forget_below}
use Rattle.memory.proofs.laws.worked_memory.Goals as goal

pub returns : goal.returns
unfolding put put_all allows_all bytes_at forget_below
returns c = record {
  keeps_unspecified = refl;
  wraps = (refl, refl);
  maps_nothing = (refl, refl);
  allows = (refl, refl, refl, refl, refl, refl, refl);
  forgets = refl;
  forgets_stack_alone = refl;
  ends_below = (refl, refl);
}
