use Rattle.lift_core.proofs.Lifted.{lifts}
use Rattle.lift_core.proofs.PlainForms.{ops_short, ops_in_form, ops_frameless, way_in_form}
use Rattle.lift_core.proofs.laws.lifting_laws.Goals as goal

pub returns : goal.returns
returns c = record {
  lifts = lifts (record {
    memory = c.memory_laws.ensures;
    memories = c.less_specified_memory_laws.ensures;
    calls = c.call_laws.ensures;
    steps = c.step_laws.ensures;
    adding = record { less = c.less_specified_laws.ensures; sums = c.sum_laws.ensures };
    cores = c.core_laws.ensures;
    shifts = c.shift_core_laws.ensures;
  });
  short = ops_short;
  ops = ops_in_form;
  frameless = ops_frameless;
  way = way_in_form;
}
