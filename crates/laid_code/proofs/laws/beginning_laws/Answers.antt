use Rattle.laid_code.proofs.Beginnings as beginnings
use Rattle.laid_code.proofs.laws.beginning_laws.Goals as goal

pub returns : goal.returns
returns c =
    beginnings.beginning_laws
    (record {
      words = c.word_laws.ensures;
      less_words = c.less_specified_laws.ensures;
      memory = c.memory_laws.ensures;
      less_memory = c.less_specified_memory_laws.ensures;
      calls = c.call_laws.ensures;
      steps = c.step_laws.ensures;
      monotone = c.monotone_laws.ensures;
      access = c.access_laws.ensures;
      field_places = c.field_place_laws.ensures;
      code = c.code_laws.ensures;
      tested = c.tested_laws.ensures;
      runs = c.run_laws.ensures;
    })
