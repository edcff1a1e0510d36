use Rattle.std.proofs.Common.{◌≡◌, drop}
use Rattle.sw_host.specs.Memory.{find_file}
use Rattle.sw_host.proofs.memory.find.Given as goal

abbrev pub invariant-loop-file : goal.invariant-loop-file
invariant-loop-file l = find_file l.files l.name ≡ find_file (drop l.file-index l.files) l.name
