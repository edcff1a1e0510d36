-- The worked rows, computed.
use Rattle.std.proofs.Common.{refl}
use Rattle.x86_encode.specs.Choice.{best_at}
use Rattle.x86_encode.specs.Worked.{WorkedBest}

pub worked_rows : WorkedBest
unfolding best_at
worked_rows = record {
  fit = (refl, (refl, (refl, (refl, (refl, (refl, (refl, (refl, (refl, (refl, (refl, (refl, (refl, (refl, (refl, (refl, (refl, (refl, (refl, (refl, (refl, (refl, (refl, (refl, (refl, (refl, (refl, (refl, (refl, (refl, (refl, tt)))))))))))))))))))))))))))))));
  fit_wide = (refl, (refl, (refl, (refl, (refl, tt)))));
  computed = (refl, (refl, (refl, (refl, (refl, (refl, (refl, (refl, (refl, (refl, (refl, (refl, (refl, (refl, (refl, (refl, (refl, (refl, (refl, (refl, (refl, (refl, (refl, (refl, (refl, (refl, (refl, (refl, (refl, (refl, (refl, tt)))))))))))))))))))))))))))))));
  computed_wide = (refl, (refl, (refl, (refl, (refl, tt)))));
}
