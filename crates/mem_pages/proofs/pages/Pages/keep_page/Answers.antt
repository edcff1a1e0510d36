use Rattle.std.proofs.Common.{refl}
use Rattle.mem_pages.proofs.pages.Pages.keep_page.Goals as goal
use Rattle.mem_pages.proofs.Shown.{same_places, keeps_pages, kept_pages, not_kept}

pub returns-clause-same : goal.returns-clause-same
returns-clause-same c = record { memory = same_places c.args.self.now _ refl c.keep.ensures.places }

pub returns-clause-keeps : goal.returns-clause-keeps
returns-clause-keeps c = keeps_pages c.args.self.now _ c.keep.ensures.keeps

pub returns-clause-kept : goal.returns-clause-kept
returns-clause-kept c = kept_pages c.keep.result c.args.self.now _ c.args.at c.keep.ensures.kept

pub returns-clause-missing : goal.returns-clause-missing
returns-clause-missing c = not_kept c.keep.result c.args.self.now c.args.at c.keep.ensures.missing
