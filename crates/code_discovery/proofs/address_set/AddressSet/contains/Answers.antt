use Rattle.code_discovery.proofs.Sets.{by_keys}
use Rattle.code_discovery.proofs.address_set.AddressSet.contains.Goals as goal

pub returns : goal.returns
returns c = by_keys c.self.inside.addresses c.args.at c.contains.result c.args.self.now c.contains.ensures c.self.view_is
