use Rattle.rewrite_core.proofs.LayoutLemmas.{new_file_accepted}
use Rattle.rewrite_core.proofs.CodeLemmas.{new_code_there, new_code_all, new_code_in_pages, row_written}
use Rattle.rewrite_core.proofs.laws.layout_laws.Goals as goal

pub returns-clause-accepted : goal.returns-clause-accepted
returns-clause-accepted c = new_file_accepted c.writer_laws.ensures.accepted

pub returns-clause-there : goal.returns-clause-there
returns-clause-there c = new_code_there

pub returns-clause-all : goal.returns-clause-all
returns-clause-all c = new_code_all

pub returns-clause-in_pages : goal.returns-clause-in_pages
returns-clause-in_pages c = new_code_in_pages

pub returns-clause-row : goal.returns-clause-row
returns-clause-row c = row_written
