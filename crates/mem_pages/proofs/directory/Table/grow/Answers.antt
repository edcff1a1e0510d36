use Rattle.mem_pages.proofs.directory.Table.grow.Goals as goal
use Rattle.mem_pages.proofs.Tables.{same_pages, one_more_page}

pub pages-init : goal.pages-init
pages-init c = same_pages c.args.self.now.pages.items

pub pages-preserved : goal.pages-preserved
pages-preserved c = one_more_page c.args.self.now.pages.items _ _ c.blank.result c.blank.ensures c.in_ok-push.ensures.items c.pages.invariant
