use Rattle.code_discovery.proofs.Settle.{found_there, settled_there}
use Rattle.code_discovery.proofs.kept.Kept.settle_code.Goals as goal

pub settle_place-requires-clause-found : goal.settle_place-requires-clause-found
settle_place-requires-clause-found c = found_there c.args.scan.now c.run_laws.ensures c.args.self.now.stored c.args.at c.in-Some.place c.requires.found c.in-Some.ensures.place

pub returns-in_ok-settle_place-in-Some-clause-settled : goal.returns-in_ok-settle_place-in-Some-clause-settled
returns-in_ok-settle_place-in-Some-clause-settled c =
    settled_there c.args.scan.now c.settle_place.new.self c.args.at c.in-Some.place c.in-Some.ensures.place c.in_ok-settle_place-in-Some.ensures.settled
