use Rattle.x86_code.specs.Code.{code_of}
use Rattle.plan_types.proofs.Runs.{stands_in, goes_on}
use Rattle.plan_types.proofs.Tables.{in_run, jump_ends}
use Rattle.plan_types.proofs.laws.run_laws.Goals as goal

pub returns : goal.returns
returns c = record {
  stands = λ image n at p in_run. stands_in (code_of image) n at p in_run;
  goes_on = λ image n at p i len in_run. goes_on (code_of image) n at p (i, len) in_run;
  jumps = λ i index start e. jump_ends i (index, start) e;
  tables = λ image run t e. let h = in_run image run t e in record {
    place = h.place;
    there = h.there;
    at = h.at;
    index = h.index;
    jump = h.jump;
    few = h.few.0;
    words = h.few.1;
  };
}
