use Rattle.std.proofs.Common.{arith}
use Rattle.mem_pages.proofs.exposed.Exposed.take_below.Goals as goal
use Rattle.mem_pages.proofs.Listed.{takes_rest, lists_nothing, lists_above, takes_out}

pub returns-then-self-end-clause-taken : goal.returns-then-self-end-clause-taken
returns-then-self-end-clause-taken c = takes_rest c.args.end c.args.self.now c.if-self-end.true

pub returns-in-None-clause-none : goal.returns-in-None-clause-none
returns-in-None-clause-none c = lists_nothing c.args.end c.args.self.now (omega arith) c.in-None.ensures.variant.1

pub returns-then-end-first-clause-none : goal.returns-then-end-first-clause-none
returns-then-end-first-clause-none c = lists_above c.args.end c.in-Some.first.now c.args.self.now (omega arith) c.if-end-first.true c.in-Some.ensures.least

pub returns-clause-taken : goal.returns-clause-taken
returns-clause-taken c = takes_out c.pop_first.result c.args.end c.in-Some.first.now c.args.self.now c.pop_first.new.self (omega arith) c.in-Some.ensures.member c.pop_first.ensures.least c.pop_first.ensures.updates c.pop_first.ensures.len
