use Rattle.elf_image.proofs.Windows.{window_made}
use Rattle.elf_image.proofs.segment.window.Goals as goal

pub returns : goal.returns
returns c =
    window_made c.args.bytes.now _ _ _ _ _ _ _ _ _ c.min-start.ensures c.min-kept.ensures c.in_ok-window.ensures.items c.in_ok-extend_from_slice.ensures.items c.in_ok-window.ensures.len
    c.in_ok-extend_from_slice.ensures.len c.in_ok-resize.ensures.items
