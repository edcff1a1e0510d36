use Rattle.code_discovery.proofs.Settle.{found_then, place_settled}
use Rattle.code_discovery.proofs.Growth.{more_then}
use Rattle.code_discovery.proofs.kept.Kept.settle_place.Goals as goal

pub add_procedure_of-requires-clause-found : goal.add_procedure_of-requires-clause-found
add_procedure_of-requires-clause-found c = found_then c.args.scan.now c.args.self.now c.add_leader_of.new.self c.in_ok-add_leader_of.ensures.more c.args.place.now c.requires.found

pub add_next-requires-clause-found : goal.add_next-requires-clause-found
add_next-requires-clause-found c = found_then c.args.scan.now c.add_leader_of.new.self c.add_procedure_of.new.self c.in_ok-add_procedure_of.ensures.more c.args.place.now
    (found_then c.args.scan.now c.args.self.now c.add_leader_of.new.self c.in_ok-add_leader_of.ensures.more c.args.place.now c.requires.found)

pub add_table_behind-requires-clause-found : goal.add_table_behind-requires-clause-found
add_table_behind-requires-clause-found c = found_then c.args.scan.now c.add_procedure_of.new.self c.add_next.new.self c.in_ok-add_next.ensures.more c.args.place.now
    (found_then c.args.scan.now c.add_leader_of.new.self c.add_procedure_of.new.self c.in_ok-add_procedure_of.ensures.more c.args.place.now
    (found_then c.args.scan.now c.args.self.now c.add_leader_of.new.self c.in_ok-add_leader_of.ensures.more c.args.place.now c.requires.found))

pub returns-clause-more : goal.returns-clause-more
returns-clause-more c =
    more_then c.args.scan.now c.args.self.now c.add_leader_of.new.self c.add_table_behind.new.self c.in_ok-add_leader_of.ensures.more
    (more_then c.args.scan.now c.add_leader_of.new.self c.add_procedure_of.new.self c.add_table_behind.new.self c.in_ok-add_procedure_of.ensures.more
    (more_then c.args.scan.now c.add_procedure_of.new.self c.add_next.new.self c.add_table_behind.new.self c.in_ok-add_next.ensures.more c.in_ok-add_table_behind.ensures.more))

pub returns-clause-settled : goal.returns-clause-settled
returns-clause-settled c =
    place_settled c.args.scan.now c.args.place.now c.add_leader_of.new.self c.add_procedure_of.new.self c.add_next.new.self c.add_table_behind.new.self
    c.in_ok-add_procedure_of.ensures.more c.in_ok-add_next.ensures.more c.in_ok-add_table_behind.ensures.more
    c.in_ok-add_leader_of.ensures.leads c.in_ok-add_procedure_of.ensures.names c.in_ok-add_next.ensures.next c.in_ok-add_table_behind.ensures.covered
