use Rattle.std.proofs.Common.{arith}
use Rattle.mem_pages.proofs.pages.Pages.word.Goals as goal
use Rattle.mem_pages.proofs.LoadedWord.{word_in}

pub returns : goal.returns
returns c = word_in c.word.result c.args.self.now c.args.at c.args.size (omega arith) c.requires.in_page c.word.ensures.word c.word.ensures.off
