-- Values of functions of traces.
use Rattle.std.proofs.Common.{refl}
use Rattle.traces.specs.Steps.{clock_of}
use Rattle.trace_checks.specs.RowChecks.{ChargesEachStep}

pub charges_each_step : ChargesEachStep
unfolding clock_of
charges_each_step byte = (refl, refl, refl, refl, refl, refl, refl, refl)
