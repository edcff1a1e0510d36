use Rattle.rewrite_core.proofs.BesideStates.{LawsBelow}
use Rattle.rewrite_core.proofs.Agreements.{RunLawsBelow, new_code_agrees, new_file_agrees}
use Rattle.rewrite_core.proofs.Loops.{loops_never_end}
use Rattle.rewrite_core.proofs.laws.agreement_laws.Goals as goal

laws : goal.After-program_laws → LawsBelow
laws c = record {
  words = c.word_laws.ensures;
  memory = c.memory_laws.ensures;
  calls = c.call_laws.ensures;
  steps = c.step_laws.ensures;
  states = c.state_laws.ensures;
  programs = c.program_laws.ensures;
  spelling = c.front_laws.ensures.spelling;
  equations = c.front_laws.ensures.equations;
  numbers = c.little_endian_laws.ensures.laws;
  fields = c.spelled_fields_fit.ensures.fields;
}

below : goal.After-program_laws → RunLawsBelow
below c = record { runs = c.run_laws.ensures; simulation = c.simulation_laws.ensures; agreement = c.agreement_laws.ensures }

pub returns-clause-new_code : goal.returns-clause-new_code
returns-clause-new_code c = new_code_agrees (laws c) (below c)

pub returns-clause-new_file : goal.returns-clause-new_file
returns-clause-new_file c = new_file_agrees (laws c) (below c)

pub returns-clause-loops : goal.returns-clause-loops
returns-clause-loops c = loops_never_end (laws c) (below c) (c.invariant_laws.ensures tt)
