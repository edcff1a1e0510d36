use Rattle.std.proofs.Common.{sym, ◌∙◌}
use Rattle.mem_pages.specs.Contents.{memory_in}
use Rattle.unit_machine.proofs.Computing.{load_unknown, load_fault, load_word}
use Rattle.unit_machine.proofs.compute.load.Goals as goal

pub returns-in-None : goal.returns-in-None
returns-in-None c = load_unknown c.args.values.now (memory_in c.args.pages.now) c.args.to c.args.size c.args.at c.term.result c.term.ensures (sym c.known.ensures ∙ c.in-None.is) c.args.values.now

pub returns-in-None-load : goal.returns-in-None-load
returns-in-None-load c = load_fault c.args.values.now (memory_in c.args.pages.now) c.args.to c.args.size c.args.at c.term.result c.term.ensures c.in-Some.at (sym c.known.ensures ∙ c.in-Some.is) (sym c.load.ensures ∙ c.in-None-load.is) c.args.values.now

pub returns-in_ok-put-in-Some-load : goal.returns-in_ok-put-in-Some-load
returns-in_ok-put-in-Some-load c = load_word c.args.values.now (memory_in c.args.pages.now) c.args.to c.args.size c.args.at c.term.result c.term.ensures c.in-Some.at c.in-Some-load.word c.put.new.self (sym c.known.ensures ∙ c.in-Some.is) (sym c.load.ensures ∙ c.in-Some-load.is) c.in_ok-put-in-Some-load.ensures
