use Rattle.std.proofs.Common.{◌≡◌, List, [], ◌∷◌, ◌++◌, arith, ap, ◌∙◌}
use Rattle.x86_values.specs.declared.byte.Byte.{Byte}
use Rattle.mem_pages.specs.Contents.{memory_in}
use Rattle.unit_frames.specs.Kept.{byte_from}
use Rattle.unit_frames.specs.Opened.{from_caller}
use Rattle.unit_frames.proofs.Fresh.{more_fresh}
use Rattle.unit_frames.proofs.frames.OpenFrames.fresh_bytes.Goals as goal

pub loop-at-preserved : goal.loop-at-preserved
loop-at-preserved c =
    let old : List Byte = c.loop-at.bytes.items in
    let e : c.push.new.self.items ≡ old ++ c.fresh_byte.result ∷ [] = c.in_ok-push.ensures.items in
    record {
      len = omega (arith, c.in_ok-push.ensures.len, c.push.new.self.ok, c.loop-at.bytes.ok);
      bytes = λ a. ap (λ (x : List Byte). byte_from c.args.low x a) e ∙ more_fresh c.args.low c.args.height c.loop-at.at (from_caller c.args.self.now (memory_in c.args.pages.now)) old c.fresh_byte.result c.loop-at.invariant.len c.fresh_byte.ensures c.loop-at.invariant.bytes a;
    }
