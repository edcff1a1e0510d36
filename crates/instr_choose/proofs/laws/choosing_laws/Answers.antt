use Rattle.instr_choose.proofs.Meeting as meeting
use Rattle.instr_choose.proofs.laws.choosing_laws.Goals as goal

pub returns : goal.returns
returns c =
    meeting.choosing_laws
    (record {
      less = c.less_specified_laws.ensures;
      words = c.word_laws.ensures;
      sums = c.sum_laws.ensures;
      logic = c.logic_laws.ensures;
      shifts = c.shift_laws.ensures;
      products = c.product_laws.ensures;
      divisions = c.division_laws.ensures;
      memory = c.less_specified_memory_laws.ensures;
      calls = c.call_laws.ensures;
    })
