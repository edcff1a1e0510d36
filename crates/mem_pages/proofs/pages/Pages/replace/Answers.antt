use Rattle.std.proofs.Common.{not, ap, ◌∙◌}
use Rattle.mem_pages.specs.Contents.{memory_in}
use Rattle.mem_pages.proofs.Unmapped.{put_nowhere}
use Rattle.mem_pages.proofs.pages.Pages.replace.Goals as goal

pub returns-then-is_none-clause-replaced : goal.returns-then-is_none-clause-replaced
returns-then-is_none-clause-replaced c = put_nowhere (memory_in c.args.self.now) c.args.at c.args.byte c.writable.result c.writable.ensures (c.is_none.ensures ∙ ap not c.if-is_none.true)
