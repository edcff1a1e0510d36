use Rattle.std.proofs.Common.{sym, ◌∙◌}
use Rattle.unit_machine.proofs.Computing.{need_none, need_some}
use Rattle.unit_machine.proofs.compute.need.Goals as goal

pub returns-in-None : goal.returns-in-None
returns-in-None c m = need_none c.args.values.now m c.args.from c.term.result c.term.ensures (sym c.known.ensures ∙ c.in-None.is)

pub returns-in-Some : goal.returns-in-Some
returns-in-Some c m = need_some c.args.values.now m c.args.from c.term.result c.term.ensures c.in-Some.field-0 (sym c.known.ensures ∙ c.in-Some.is)
