use Rattle.mem_pages.proofs.pages.Pages.new.Goals as goal
use Rattle.mem_pages.proofs.Shown.{nothing_in}
use Rattle.mem_pages.proofs.Swept.{quiet_nothing}

pub returns : goal.returns
returns c = nothing_in _ c.empty.ensures

pub invariant_of-result : goal.invariant_of-result
invariant_of-result c = record { quiet = quiet_nothing c.none.result c.empty.result c.empty.ensures }
