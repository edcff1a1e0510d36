use Rattle.mem_pages.proofs.exposed.Exposed.none.Goals as goal
use Rattle.mem_pages.proofs.Listed.{lists_no_page}

pub returns : goal.returns
returns c n l = lists_no_page c.new.result n c.new.ensures.empty l
