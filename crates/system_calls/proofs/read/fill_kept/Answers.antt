use Rattle.system_calls.proofs.Kept.{fills_kept}
use Rattle.system_calls.proofs.read.fill_kept.Goals as goal

pub unreachable-requires : goal.unreachable-requires
unreachable-requires c = fills_kept c.args.at c.args.bytes.now c.in-Err.field-0 c.args.pages.now c.fill.new.self c.requires.kept c.in-Err.ensures.fills
