-- No byte was written by a write that was cut short.
use Rattle.std.specs.Io.KnownBytes.{Keeps}
use Rattle.sw_cli.proofs.streams.put_to.Given as goal

abbrev pub invariant-loop : goal.invariant-loop
invariant-loop g l = Keeps (g.W.Write.contents l.initial.writer) (g.W.Write.contents l.writer)
