use Rattle.mem_pages.proofs.sweep.sweep.Goals as goal
use Rattle.mem_pages.proofs.Swept.{none_swept, more_swept, all_swept}

pub pages-init : goal.pages-init
pages-init c = none_swept c.args.end c.args.exposed.now c.args.directory.now c.requires.quiet

pub pages-preserved : goal.pages-preserved
pages-preserved c = more_swept c.args.end c.in-Some.number c.args.directory.now c.pages.exposed c.take_below.new.self c.pages.directory c.forget_part.new.self c.in-Some.ensures.taken c.forget_part.ensures.places c.forget_part.ensures.keeps c.pages.invariant

pub returns-clause-places : goal.returns-clause-places
returns-clause-places c = all_swept c.args.end c.args.directory.now c.pages.exposed c.pages.directory c.in_default.ensures.none c.pages.invariant
