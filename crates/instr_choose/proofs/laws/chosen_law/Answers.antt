use Rattle.instr_choose.proofs.Chosen as made
use Rattle.instr_choose.proofs.laws.chosen_law.Goals as goal

pub returns : goal.returns
returns c =
    made.chosen
    (record {
      below = record {
        less = c.less_specified_laws.ensures;
        words = c.word_laws.ensures;
        sums = c.sum_laws.ensures;
        logic = c.logic_laws.ensures;
        shifts = c.shift_laws.ensures;
        products = c.product_laws.ensures;
        divisions = c.division_laws.ensures;
        memory = c.less_specified_memory_laws.ensures;
        calls = c.call_laws.ensures;
      };
      choosing = c.choosing_laws.ensures;
      spelling = c.spelled_fields_fit.ensures.fields;
      memory = c.memory_laws.ensures;
      area = c.private_access_laws.ensures;
      meetings = c.meeting_laws.ensures;
      units = c.unit_laws.ensures;
      code = c.code_laws.ensures;
      tested = c.tested_laws.ensures;
      traces = c.trace_laws.ensures;
      unit_runs = c.run_laws.ensures;
      unit_moves = c.move_laws.ensures;
      code_runs = c.run_laws-2.ensures;
      code_moves = c.move_laws-2.ensures;
      simulation = c.simulation_laws.ensures;
    })
