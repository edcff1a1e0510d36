use Rattle.std.proofs.Common.{◌∙◌, ap, length, arith}
use Rattle.image.specs.Addresses.{code_bytes}
use Rattle.code_scan.proofs.Copying.{no_byte, one_byte, no_more}
use Rattle.code_scan.proofs.indexed.IndexedImage.copy_each.Goals as goal

pub returns-in-None-clause-bytes : goal.returns-in-None-clause-bytes
returns-in-None-clause-bytes c = no_byte c.args.self.now (code_bytes c.args.self.now c.args.at (length c.loop-i.to)) c.loop-i.to c.loop-i.next (length c.loop-i.to) c.loop-i.i (omega arith) c.in-None.ensures.byte c.loop-i.invariant.bytes ∙ ap (code_bytes c.args.self.now c.args.at) c.loop-i.auto.to

pub loop-i-preserved : goal.loop-i-preserved
loop-i-preserved c = record {
  next = omega arith;
  within = λ _. omega (arith, c.in-Some.ensures.within);
  bytes = one_byte c.args.self.now c.args.at c.loop-i.to c.loop-i.next c.loop-i.i c.in-Some.byte (omega arith) c.in-Some.ensures.byte c.loop-i.invariant.bytes;
}

pub returns-clause-bytes : goal.returns-clause-bytes
returns-clause-bytes c = no_more c.args.self.now c.args.at c.loop-i.to c.loop-i.next c.loop-i.i (omega arith) (omega arith) c.loop-i.invariant.bytes ∙ ap (code_bytes c.args.self.now c.args.at) c.loop-i.auto.to
