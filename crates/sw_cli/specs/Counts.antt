-- How a count of faults goes on in a call.
use Rattle.std.specs.Prelude.{◌≡◌, ◌↔◌, ℕ, ◌+◌, min, Result, Ok, Err}
use Rattle.std.specs.IoError.{error_kind}
use Rattle.std.specs.declared.io.Error.{Error}
use Rattle.std.specs.declared.io.ErrorKind.TheVariants.{OutOfMemory}
use Rattle.sw_host.specs.declared.host.HostFault.{HostFault}
use Rattle.sw_host.specs.declared.host.HostFault.TheVariants.{Memory}
use Rattle.sw_host.specs.Told.{last_count}

-- it rises by one at an `Err`, up to its last value, and else stays
abbrev pub CountsErr : {T E : Type 0} → ℕ → ℕ → Result T E → Type 0
CountsErr before now (Ok _) = now ≡ before
CountsErr before now (Err _) = now ≡ min (before + 1) last_count

-- the fault that an error is answered as: want of memory is `Memory`, and anything else is `Failed`
abbrev pub IsFaultOf : Error → HostFault → Type 0
IsFaultOf error fault = (fault ≡ Memory) ↔ (error_kind error ≡ OutOfMemory)
