use Rattle.image.specs.Addresses.{code_bytes}
use Rattle.x86_code.specs.Code.{code_of}
use Rattle.x86_code.proofs.Bytes.{by_bytes, none_there}
use Rattle.x86_code.proofs.laws.code_laws.Goals as goal

pub returns : goal.returns
unfolding code_of
returns c = record {
  by_bytes = by_bytes c.front_laws.ensures.spelling.fifteen;
  few = λ image a i len h. c.front_laws.ensures.spelling.few (code_bytes image a 15) i len h;
  none = none_there c.front_laws.ensures.equations.nothing;
}
