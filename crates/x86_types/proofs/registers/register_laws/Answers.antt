use Rattle.x86_types.proofs.Renamings.{byte_number, renaming_laws}
use Rattle.x86_types.proofs.registers.register_laws.Goals as goal

pub returns-clause-bytes : goal.returns-clause-bytes
returns-clause-bytes c = byte_number

pub returns-clause-renaming : goal.returns-clause-renaming
returns-clause-renaming c = renaming_laws
