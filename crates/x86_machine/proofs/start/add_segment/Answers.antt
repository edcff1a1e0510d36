use Rattle.std.proofs.Common.{arith}
use Rattle.image.specs.declared.image.Segment.{Segment}
use Rattle.mem_pages.specs.Contents.{memory_in}
use Rattle.x86_machine.proofs.Filling.{segment_loaded, on_ok}
use Rattle.x86_machine.proofs.start.add_segment.Goals as goal

pub returns : goal.returns
returns c =
    let t : Segment = record { start = c.segment.inside.start; size = c.segment.inside.size; perm = c.segment.inside.perm; bytes = c.segment.inside.bytes } in
    on_ok c.add_filled.result (memory_in c.add_filled.new.pages) _ _
    (segment_loaded c.memory_laws.ensures c.args.segment.now t c.can_write.result c.as_slice-bytes.result.now (memory_in c.args.pages.now) c.segment.view_is c.can_write.ensures c.as_slice-bytes.ensures c.has_its_place.ensures.within (omega (arith, c.has_its_place.ensures.to)))
    c.add_filled.ensures
