use Rattle.std.proofs.Common.{◌∙◌, ◌/◌, refl}
use Rattle.mem_pages.proofs.directory.Directory.page_mut.Goals as goal
use Rattle.mem_pages.proofs.Tables.{page_found, no_page_found, page_lent, table_as_it_was, on_some}

pub returns-in-Some : goal.returns-in-Some
returns-in-Some c =
    let e = c.in-Some.ensures.value in
    ((refl, (λ w. on_some c.page_mut.result (λ g. g.now) _ _ c.page_mut.ensures.value (λ g f. page_lent c.args.self.now c.args.number c.in-Some.table.now g w e f)), table_as_it_was c.args.self.now (c.args.number / 1024) c.in-Some.table.now e), record { writes_back = tt; value = c.page_mut.ensures.value ∙ page_found c.args.self.now c.args.number c.in-Some.table.now e })

pub returns-in-None : goal.returns-in-None
returns-in-None c = ((refl, (λ w. tt), (λ m. refl)), record { writes_back = tt; value = no_page_found c.args.self.now c.args.number c.in-None.ensures.value })
