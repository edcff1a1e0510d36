use Rattle.std.proofs.Common.{arith, sym, ◌∙◌}
use Rattle.mem_pages.specs.Page.{kind_of_access}
use Rattle.mem_pages.specs.Contents.{memory_in}
use Rattle.mem_pages.proofs.pages.Pages.allows.Goals as goal
use Rattle.mem_pages.proofs.Runs.{part_allowed, part_refused, none_left}

pub returns-then-not-allows_part : goal.returns-then-not-allows_part
returns-then-not-allows_part c = sym (c.parts.invariant ∙ part_refused c.allows_part.result (kind_of_access c.args.store) (memory_in c.args.self.now) c.parts.next c.in_page-part.result c.parts.left c.if-not-allows_part.true (omega arith) c.in_page-part.ensures.in_page c.in_page-part.ensures.within c.allows_part.ensures)

pub parts-preserved : goal.parts-preserved
parts-preserved c = c.parts.invariant ∙ part_allowed c.allows_part.result (kind_of_access c.args.store) (memory_in c.args.self.now) c.parts.next c.in_page-part.result c.parts.left c.if-not-allows_part.false (omega arith) c.in_page-part.ensures.in_page c.in_page-part.ensures.within c.allows_part.ensures

pub returns : goal.returns
returns c = sym (c.parts.invariant ∙ none_left (kind_of_access c.args.store) (memory_in c.args.self.now) c.parts.next c.parts.left (omega arith))
