use Rattle.std.proofs.Common.{arith, refl, ◌/◌}
use Rattle.mem_pages.proofs.pages.Pages.store_part.Goals as goal
use Rattle.mem_pages.specs.Exposed.{lists}
use Rattle.mem_pages.specs.Page.{IsOffStack}
use Rattle.mem_pages.specs.Directory.{contents}
use Rattle.mem_pages.proofs.Shown.{same_places, keeps_pages}
use Rattle.mem_pages.proofs.StoredThere.{stored_in, ready_if, off_unless, quiet_either}

pub returns-clause-stored : goal.returns-clause-stored
returns-clause-stored c e = stored_in c.args.self.now _ c.args.at c.args.size c.args.word c.requires.size (omega arith) c.requires.in_page refl (ready_if c.hides-hidden.result c.args.self.now c.args.at c.hides-hidden.ensures.low (c.store.ensures.off e)) (c.store.ensures.places e) (c.store.ensures.allowed e)

pub returns-clause-same : goal.returns-clause-same
returns-clause-same c e = record { memory = same_places c.args.self.now _ refl (c.store.ensures.same e) }

pub returns-clause-keeps : goal.returns-clause-keeps
returns-clause-keeps c = keeps_pages c.args.self.now _ c.store.ensures.keeps

pub invariant_of-self : goal.invariant_of-self
invariant_of-self c = record { quiet = quiet_either c.store.result c.args.self.now.exposed c.args.self.now.directory c.store.new.self c.args.at c.args.size c.args.word c.requires.size c.requires.in_page (λ e. off_unless c.hides-hidden.result (lists c.args.self.now.exposed (c.args.at / 4096)) (IsOffStack c.args.at (contents c.args.self.now.directory)) c.hides-hidden.ensures.listed (c.store.ensures.off e)) c.store.ensures.places c.store.ensures.same c.args.self.now.quiet }
