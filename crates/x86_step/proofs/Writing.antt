-- What is written where no value is left.
use Rattle.std.proofs.Common.{◌≡◌, List, [], ◌∷◌, refl, sym}
use Rattle.x86_meaning.specs.Operands.{SizedOperand}
use Rattle.x86_meaning.specs.Effect.{Effect, all_written}

nothing : (os : List SizedOperand) (e : Effect) → all_written os [] e ≡ e
nothing [] e = refl
nothing (o ∷ os) e = refl

pub nothing_next : (o : SizedOperand) (more : List SizedOperand) (e : Effect) → all_written (o ∷ more) [] e ≡ all_written more [] e
nothing_next o more e = sym (nothing more e)
