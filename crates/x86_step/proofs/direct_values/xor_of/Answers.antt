use Rattle.x86_step.proofs.direct_values.xor_of.Goals as goal
use Rattle.x86_step.proofs.FourBytes.{xored}

pub returns-in-Some-Some : goal.returns-in-Some-Some
returns-in-Some-Some c = let p = c.in-Some-Some.p in let q = c.in-Some-Some.q in xored c.args.x c.args.y p.0 p.1 p.2 p.3 q.0 q.1 q.2 q.3 c.logic_answer.result c.in-Some-Some.ensures c.in-Some-Some.ensures' c.logic_answer.ensures.value c.logic_answer.ensures.flags
