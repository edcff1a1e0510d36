use Rattle.std.proofs.Common.{◌≡◌, length}
use Rattle.unit_machine.specs.Standing.{words_of}
use Rattle.unit_machine.proofs.values.lengthen.Given as goal

abbrev pub invariant-loop : goal.invariant-loop
invariant-loop l = record { words : words_of l.temps.items ≡ words_of l.fn.temps.items; len : length l.temps.items ≡ l.counter }
