-- At first nothing is kept.
use Rattle.std.proofs.Common.{false, [], None}
use Rattle.image.specs.declared.image.Image.{Image}
use Rattle.code_discovery.specs.Kept.{FoundSoFar, IsSoundSoFar}
use Rattle.code_discovery.specs.Settled.{IsSettling}
use Rattle.code_discovery.proofs.Members.{none_in}

abbrev pub nothing : FoundSoFar
nothing = record { code = []; leaders = []; procs = []; tables = []; todo = []; stored = false }

pub nothing_sound : (image : Image) → IsSoundSoFar image nothing
nothing_sound image = record {
  code = λ a c. absurd (none_in a c);
  leaders = λ a c. absurd (none_in a c);
  procs = λ a c. absurd (none_in a c);
  tables = λ t c. absurd (none_in t c);
  todo = λ w c. absurd (none_in w c);
}

pub nothing_settling : (image : Image) → IsSettling image nothing None
nothing_settling image = record { code = λ a c. absurd (none_in a c); leaders = λ a c. absurd (none_in a c) }
