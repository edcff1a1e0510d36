-- What the operands of the code stand for.
use Rattle.std.specs.Prelude.{ℕ, List, [], ◌∷◌}
use Rattle.x86_types.specs.Numbers.{number_of_reg}
use Rattle.x86_meaning.specs.Operands as spec
use Rattle.x86_meaning.specs.Operands.{InRegister, InMemory, SizedOperand, operand}
use Rattle.x86_meaning.specs.TransferShapes as shapes
use Rattle.x86_meaning.specs.TransferShapes.{esp}
use Rattle.x86_step.specs.declared.operand.Size.{Size}
use Rattle.x86_step.specs.declared.operand.Size.TheVariants as size
use Rattle.x86_step.specs.declared.operand.Place.{Place}
use Rattle.x86_step.specs.declared.operand.Place.TheVariants.{Lowest, Second}
use Rattle.x86_step.specs.declared.operand.Location.{Location}
use Rattle.x86_step.specs.declared.operand.Location.TheVariants.{Register, Memory, Constant}
use Rattle.x86_step.specs.declared.operands.Operand.{Operand}
use Rattle.x86_step.specs.declared.operands.Field.{Field}
use Rattle.x86_step.specs.declared.operands.Reads.{Reads}
use Rattle.x86_step.specs.declared.operands.Reads.TheVariants as reads
use Rattle.x86_step.specs.declared.operands.Fields.{Fields}
use Rattle.x86_step.specs.declared.operands.Fields.TheVariants as fields
use Rattle.x86_step.specs.declared.operands.Writes.{Writes}
use Rattle.x86_step.specs.declared.operands.Writes.TheVariants as writes
use Rattle.x86_step.specs.declared.operands.Transfer.{Transfer}

-- how many bytes a size is
abbrev pub bytes_in_size : Size → ℕ
bytes_in_size size.Zero = 0
bytes_in_size size.One = 1
bytes_in_size size.Two = 2
bytes_in_size size.Four = 4

-- where an operand stands
abbrev pub as_place : Place → spec.Location
as_place (Lowest r) = InRegister (number_of_reg r) 0
as_place (Second r) = InRegister (number_of_reg r) 1

abbrev pub as_location : Location → spec.Location
as_location (Register p) = as_place p
as_location (Memory at) = InMemory at
as_location (Constant n) = spec.Constant n

abbrev pub operand_of : Operand → SizedOperand
operand_of o = operand (bytes_in_size o.size) (as_location o.location)

abbrev pub as_field : Field → SizedOperand
as_field f = operand (bytes_in_size f.size) (as_place f.place)

-- operands, in order
abbrev pub reads_of : Reads → List SizedOperand
reads_of reads.Zero = []
reads_of (reads.One a) = operand_of a ∷ []
reads_of (reads.Two a b) = operand_of a ∷ operand_of b ∷ []
reads_of (reads.Three a b c) = operand_of a ∷ operand_of b ∷ operand_of c ∷ []
reads_of (reads.Four a b c d) = operand_of a ∷ operand_of b ∷ operand_of c ∷ operand_of d ∷ []

abbrev pub fields_of : Fields → List SizedOperand
fields_of fields.Zero = []
fields_of (fields.One a) = as_field a ∷ []
fields_of (fields.Two a b) = as_field a ∷ as_field b ∷ []
fields_of (fields.Three a b c) = as_field a ∷ as_field b ∷ as_field c ∷ []

abbrev pub writes_of : Writes → List SizedOperand
writes_of (writes.Fields fs) = fields_of fs
writes_of (writes.Then o fs) = operand_of o ∷ fields_of fs
writes_of (writes.EspThen o) = esp ∷ operand_of o ∷ []

abbrev pub transfer_of : Transfer → shapes.Transfer
transfer_of t = record { reads = reads_of t.reads; writes = writes_of t.writes }
