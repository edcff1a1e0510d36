use Rattle.std.proofs.Common.{◌≡◌, take}
use Rattle.flag_ir.proofs.copies.copy_procs.Given as goal

abbrev pub invariant-loop-proc : goal.invariant-loop-proc
invariant-loop-proc l = l.copy.items ≡ take l.proc-index l.procs
