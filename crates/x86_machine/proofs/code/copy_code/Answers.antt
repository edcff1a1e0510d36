use Rattle.std.proofs.Common.{◌≡◌, ◌∙◌, ap, length, arith, Some, None}
use Rattle.image.specs.declared.image.Image.{Image}
use Rattle.image.specs.Addresses.{code_byte_at, code_bytes}
use Rattle.image.specs.Wanted.{image_with}
use Rattle.x86_machine.proofs.Copying.{no_byte, one_byte, no_more, byte_found}
use Rattle.x86_machine.proofs.code.copy_code.Goals as goal

pub returns-in-None-clause-bytes : goal.returns-in-None-clause-bytes
returns-in-None-clause-bytes c =
    let image : Image = image_with c.args.segments.now 0 in
    let none : code_byte_at image c.loop-i.next ≡ None = byte_found c.args.segments.now c.loop-i.next None c.in-None.ensures in
    no_byte image (code_bytes image c.args.at (length c.loop-i.to)) c.loop-i.to c.loop-i.next (length c.loop-i.to) c.loop-i.i (omega arith) none c.loop-i.invariant.bytes ∙ ap (code_bytes image c.args.at) c.loop-i.auto.to

pub loop-i-preserved : goal.loop-i-preserved
loop-i-preserved c = record {
  next = omega arith;
  bytes =
      let image : Image = image_with c.args.segments.now 0 in
      let some : code_byte_at image c.loop-i.next ≡ Some c.in-Some.byte = byte_found c.args.segments.now c.loop-i.next (Some c.in-Some.byte) c.in-Some.ensures in
      one_byte image c.args.at c.loop-i.to c.loop-i.next c.loop-i.i c.in-Some.byte (omega arith) some c.loop-i.invariant.bytes;
}

pub returns-clause-bytes : goal.returns-clause-bytes
returns-clause-bytes c =
    let image : Image = image_with c.args.segments.now 0 in
    no_more image c.args.at c.loop-i.to c.loop-i.next c.loop-i.i (omega arith) (omega arith) c.loop-i.invariant.bytes ∙ ap (code_bytes image c.args.at) c.loop-i.auto.to
