use Rattle.std.proofs.Common.{arith}
use Rattle.mem_pages.proofs.directory.Directory.word.Goals as goal
use Rattle.mem_pages.proofs.LoadedWord.{word_there, off_there}

pub returns-in-Some-clause-word : goal.returns-in-Some-clause-word
returns-in-Some-clause-word c = word_there c.word.result c.args.self.now c.args.at c.args.size c.in-Some.page.now (omega arith) c.requires.in_page c.in-Some.ensures c.word.ensures.word

pub returns-in-Some-clause-off : goal.returns-in-Some-clause-off
returns-in-Some-clause-off c = off_there c.word.result c.args.hidden c.args.self.now c.args.at c.in-Some.page.now c.in-Some.ensures c.word.ensures.off
