use Rattle.x86_encode.proofs.Lengths.{best_lengths_hold}
use Rattle.x86_encode.proofs.laws.best_lengths.Goals as goal

pub returns : goal.returns
returns c = record { lengths = best_lengths_hold }
