use Rattle.std.proofs.Common.{refl}
use Rattle.mem_pages.proofs.pages.Pages.add_region.Goals as goal
use Rattle.mem_pages.proofs.PageSteps.{on_error}
use Rattle.mem_pages.proofs.Parts as parts
use Rattle.mem_pages.proofs.Shown.{same_places, keeps_pages, has_room, region_added}
use Rattle.mem_pages.proofs.Swept.{quiet_places, quiet_mapped}

pub returns-in_err-grow_range-clause-err : goal.returns-in_err-grow_range-clause-err
returns-in_err-grow_range-clause-err c = on_error c.from_residual.result (same_places c.args.self.now _ refl c.grow_range.ensures.places)

pub returns-in_err-grow_range-clause-keeps : goal.returns-in_err-grow_range-clause-keeps
returns-in_err-grow_range-clause-keeps c = keeps_pages c.args.self.now _ c.grow_range.ensures.keeps

pub map-requires-clause-room : goal.map-requires-clause-room
map-requires-clause-room c = has_room c.args.self.now c.grow_range.new.self c.args.start c.args.end c.grow_range.ensures.places c.requires.room

pub returns-clause-ok : goal.returns-clause-ok
returns-clause-ok c = region_added c.args.self.now _ c.grow_range.new.self c.args.start c.args.end c.args.can_write c.args.unset refl c.grow_range.ensures.places c.map.ensures.places

pub returns-clause-keeps : goal.returns-clause-keeps
returns-clause-keeps c = keeps_pages c.args.self.now _ (parts.keeps_then c.args.self.now.directory c.grow_range.new.self c.map.new.self c.grow_range.ensures.keeps c.map.ensures.keeps)

pub invariant_of-self-2 : goal.invariant_of-self-2
invariant_of-self-2 c = record { quiet = quiet_mapped c.args.self.now.exposed c.grow_range.new.self c.map.new.self c.args.start c.args.end c.args.can_write c.args.unset c.map.ensures.places (quiet_places c.args.self.now.exposed c.args.self.now.directory c.grow_range.new.self c.grow_range.ensures.places c.args.self.now.quiet) }
