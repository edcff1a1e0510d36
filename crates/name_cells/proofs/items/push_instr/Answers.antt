use Rattle.name_cells.proofs.Growing.{parts_placed}
use Rattle.name_cells.proofs.items.push_instr.Goals as goal

pub returns : goal.returns
returns c =
    parts_placed c.args.spare c.args.instr.now c.as_slice-slots.result.now c.has_byte_field-byte.result c.last_name-last.result c.borrows-borrows.result c.field_registers-regs.result c.renamed.result c.args.items.now.items _ _ _ _ _
    c.as_slice-slots.ensures c.has_byte_field-byte.ensures c.last_name-last.ensures c.borrows-borrows.ensures c.field_registers-regs.ensures c.renamed.ensures
    c.in_ok-push_lend.ensures c.in_ok-push_fetches.ensures c.in_ok-push.ensures.items c.in_ok-push_keeps.ensures c.in_ok-push_give_back.ensures
