use Rattle.flag_ir.proofs.Composing.{keeps_then, passes_then}
use Rattle.flag_ir.proofs.Counting.{has_weight, keeps_itself}
use Rattle.flag_ir.proofs.soundness.pass_laws.Goals as goal

pub returns : goal.returns
returns c = record {
  keeps_then = keeps_then c.composition_laws.ensures c.run_laws.ensures;
  passes_then = passes_then c.composition_laws.ensures c.run_laws.ensures;
  shape_has_weight = λ u shape. has_weight c.run_laws.ensures c.clock_laws.ensures u c.unit_laws.ensures.runs shape;
  weight_keeps = keeps_itself c.composition_laws.ensures;
  sound_passes = λ u sound. record { sound = sound; keeps = keeps_itself c.composition_laws.ensures u (has_weight c.run_laws.ensures c.clock_laws.ensures u c.unit_laws.ensures.runs sound.shape) };
}
