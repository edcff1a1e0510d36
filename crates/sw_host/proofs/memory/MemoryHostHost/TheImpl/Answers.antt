use Rattle.std.proofs.Common.{arith}
use Rattle.sw_host.specs.Calls.{Loads, Stores, Takes, Puts, Lines}
use Rattle.sw_host.specs.Memory.{told_by, faults_of}
use Rattle.sw_host.proofs.MemoryLemmas.{HasCause-counted, plainly_tells}
use Rattle.sw_host.proofs.memory.MemoryHostHost.TheImpl.Goals as goal

pub load-tells : goal.load-tells
load-tells c = record {
  told = plainly_tells (told_by c.args.self.now) (told_by c.new.self.now) (Loads c.args.name.now c.args.limit c.result) c.ensures.told;
  cause = HasCause-counted (faults_of c.args.self.now) (faults_of c.new.self.now) c.result c.ensures.faults;
}

pub store-tells : goal.store-tells
store-tells c = record {
  told = plainly_tells (told_by c.args.self.now) (told_by c.new.self.now) (Stores c.args.name.now c.args.bytes.now c.result) c.ensures.told;
  cause = HasCause-counted (faults_of c.args.self.now) (faults_of c.new.self.now) c.result c.ensures.faults;
}

pub take-tells : goal.take-tells
take-tells c = record {
  told = plainly_tells (told_by c.args.self.now) (told_by c.new.self.now) (Takes c.args.buf.now c.new.buf.now c.result) c.ensures.told;
  answer = c.ensures.answer;
  faults = omega (arith, c.ensures.faults);
}

pub put-tells : goal.put-tells
put-tells c = record {
  told = plainly_tells (told_by c.args.self.now) (told_by c.new.self.now) (Puts c.args.fd c.args.bytes.now c.result) c.ensures.told;
  answer = c.ensures.answer;
  faults = omega (arith, c.ensures.faults);
}

pub line-tells : goal.line-tells
line-tells c = record {
  told = plainly_tells (told_by c.args.self.now) (told_by c.new.self.now) (Lines c.args.text.now c.result) c.ensures.told;
  cause = HasCause-counted (faults_of c.args.self.now) (faults_of c.new.self.now) c.result c.ensures.faults;
}
