use Rattle.plan_types.proofs.FoundLemmas.{listed, stands_of, goes_there, procedure_there, called_there, table_is, jump_has_table, only_one, place_within}
use Rattle.plan_types.specs.FoundCode as spec
use Rattle.plan_types.proofs.laws.found_laws.Goals as goal

pub returns : goal.returns
returns c = record {
  stands = λ image found p is in_code. stands_of image p (listed image found is p in_code);
  within = λ image found p fits is in_code. place_within image fits c.front_laws.ensures.spelling.there c.code_laws.ensures.none p (listed image found is p in_code);
  successors = λ image found p a is in_code s stands. goes_there image found is p a in_code s stands;
  procedures = λ image found a is in_procs. procedure_there image found is a ((is.procs a).0 in_procs);
  entry = λ image found is stands. (is.procs image.entry).1 (spec.entry stands);
  called = λ image found p by is in_code e stands. called_there image found is p by in_code e stands;
  tables = λ image found t is in_tables. table_is image found is t in_tables;
  jumps = λ image found p index start is in_code e. jump_has_table image found is p (index, start) in_code e;
  one = only_one;
}
