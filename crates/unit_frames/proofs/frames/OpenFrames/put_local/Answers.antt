use Rattle.unit_frames.proofs.Putting.{taken_same}
use Rattle.unit_frames.proofs.frames.OpenFrames.put_local.Goals as goal

pub invariant_of-self : goal.invariant_of-self
invariant_of-self c = taken_same c.self.inside.frames.items 0 c.index_mut.result.now c.put_local.new.self c.self.inside.taken c.index_mut.ensures.value c.put_local.ensures.depth c.put_local.ensures.args c.self.invariant
