use Rattle.guards.proofs.Lowered.{lowers}
use Rattle.guards.proofs.laws.lowering_law.Goals as goal

pub returns : goal.returns
returns c =
    lowers (record {
      words = c.word_laws.ensures;
      less = c.less_specified_laws.ensures;
      memory = c.memory_laws.ensures;
      memory_less = c.less_specified_memory_laws.ensures;
      usual = c.usual_laws.ensures;
      area = c.private_access_laws.ensures;
      meetings = c.meeting_laws.ensures;
      runs = c.run_laws.ensures;
      simulation = c.simulation_laws.ensures;
      invariants = c.invariant_laws.ensures tt;
      units = c.unit_laws.ensures;
      passes = c.pass_laws.ensures;
    })
