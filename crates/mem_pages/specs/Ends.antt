-- The ends of runs, as a program has them.
use Rattle.std.specs.Prelude.{Option, Some, None}
use Rattle.traces.specs.Trace.{End}
use Rattle.traces.specs.Trace as trace
use Rattle.mem_pages.specs.declared.end.RunEnd.{RunEnd}
use Rattle.mem_pages.specs.declared.end.RunEnd.TheVariants as run

-- the end of a run that has ended; `Spent` says that it hasn't
abbrev pub end_of_run : RunEnd → Option End
end_of_run (run.Exited status) = Some (trace.Exited status)
end_of_run run.MemoryFault = Some trace.MemoryFault
end_of_run run.DivideFault = Some trace.DivideFault
end_of_run run.Outside = Some trace.Outside
end_of_run (run.OtherCall number) = Some (trace.OtherCall number)
end_of_run run.Unspecified = Some trace.Unspecified
end_of_run run.Spent = None
