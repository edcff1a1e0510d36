use Rattle.x86_grammar.proofs.FrontLaws.{front_is_spelling, front_equations, worked}
use Rattle.x86_grammar.proofs.fronts.front_laws.Goals as goal

pub returns-clause-spelling : goal.returns-clause-spelling
returns-clause-spelling c = front_is_spelling

pub returns-clause-equations : goal.returns-clause-equations
returns-clause-equations c = front_equations

pub returns-clause-worked : goal.returns-clause-worked
returns-clause-worked c = worked
