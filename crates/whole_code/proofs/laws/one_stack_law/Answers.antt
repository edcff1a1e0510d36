use Rattle.whole_code.proofs.Beside.{whole_is_one_stack}
use Rattle.whole_code.proofs.laws.one_stack_law.Goals as goal

pub returns : goal.returns
returns c =
    whole_is_one_stack (record {
      words = c.word_laws.ensures;
      less = c.less_specified_laws.ensures;
      memory = c.memory_laws.ensures;
      memory_less = c.less_specified_memory_laws.ensures;
      calls = c.call_laws.ensures;
      steps = c.step_laws.ensures;
      states = c.state_laws.ensures;
      programs = c.program_laws.ensures;
      meetings = c.meeting_laws.ensures;
      machine_runs = c.run_laws.ensures;
      machine_moves = c.move_laws.ensures;
      unit_runs = c.run_laws-2.ensures;
      simulation = c.simulation_laws.ensures tt;
      units = c.unit_laws.ensures;
      passes = c.pass_laws.ensures;
    })
