use Rattle.std.proofs.Common.{arith, refl}
use Rattle.mem_pages.proofs.directory.Directory.lend.Goals as goal
use Rattle.mem_pages.proofs.LentThere.{table_found, table_in, can_lend_in, with_part_is, shown_in}

pub index_mut-table-requires : goal.index_mut-table-requires
index_mut-table-requires c = let h = table_in c.args.self.now c.args.at c.requires.open in omega (arith, h)

pub lend-requires-clause-open : goal.lend-requires-clause-open
lend-requires-clause-open c = can_lend_in c.args.self.now c.args.at c.index_mut-table.result.now (table_found c.args.self.now c.args.at _ c.index_mut-table.result.now c.index_mut-table.ensures.value c.requires.open) c.requires.open

pub returns : goal.returns
returns c =
    let e = table_found c.args.self.now c.args.at _ c.index_mut-table.result.now c.index_mut-table.ensures.value c.requires.open in
    ((refl, λ w. with_part_is c.args.self.now c.args.at w c.index_mut-table.result.now e), record { writes_back = tt; shown = shown_in c.args.self.now c.args.at c.args.count c.index_mut-table.result.now c.lend.result.now c.requires.in_page e c.requires.open c.lend.ensures.shown })
