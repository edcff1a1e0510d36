use Rattle.std.proofs.Common.{arith, sym, ◌∙◌}
use Rattle.sw_host.specs.Chains.{tells_map, tells_none}
use Rattle.system_calls.proofs.Reading.{read_refused, asks_for_room, asked_result}
use Rattle.system_calls.proofs.read.read.Goals as goal

pub returns-in-Refused-clause-makes : goal.returns-in-Refused-clause-makes
returns-in-Refused-clause-makes g c = tells_none _ _ (λ a. read_refused c.args.fd c.args.at c.args.count c.in-Refused.result _ a (sym c.in-Refused.ensures))

pub ask-requires-clause-allowed : goal.ask-requires-clause-allowed
ask-requires-clause-allowed g c = (asks_for_room c.args.fd c.args.at c.args.count c.in-Asks.room _ (sym c.in-Asks.ensures)).0

pub ask-requires-clause-within : goal.ask-requires-clause-within
ask-requires-clause-within g c = (asks_for_room c.args.fd c.args.at c.args.count c.in-Asks.room _ (sym c.in-Asks.ensures)).1

pub returns-in-Asks-clause-makes : goal.returns-in-Asks-clause-makes
returns-in-Asks-clause-makes g c =
    tells_map _ _ _ _ c.ask.ensures.makes (λ a b made. asked_result c.args.fd c.args.at c.args.count c.in-Asks.room _ _ a b c.ask.result (sym c.in-Asks.ensures) made)
