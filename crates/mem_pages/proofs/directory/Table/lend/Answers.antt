use Rattle.std.proofs.Common.{refl}
use Rattle.mem_pages.proofs.directory.Table.lend.Goals as goal
use Rattle.mem_pages.proofs.LentThere.{page_there, table_with_part_is, shown_there}

pub returns : goal.returns
returns c =
    let e = page_there c.args.self.now.pages.items c.args.index c.args.at _ c.index_mut-page.result.now c.index_mut-page.ensures.value c.requires.open in
    ((refl, λ w. table_with_part_is c.args.self.now c.args.index c.args.at w c.index_mut-page.result.now e), record { writes_back = tt; shown = shown_there _ c.index_mut-page.result.now c.args.at c.args.count c.lend.result.now e c.lend.ensures.shown })
