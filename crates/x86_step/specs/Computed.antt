-- What the values, the ways and the outcomes of the code stand for.
use Rattle.std.specs.Prelude.{List, [], ◌∷◌, Result, Ok, Err}
use Rattle.x86_values.specs.declared.word.Word.{Word}
use Rattle.x86_meaning.specs.declared.stop.Stop.{Stop}
use Rattle.x86_meaning.specs.Outcomes as spec
use Rattle.x86_meaning.specs.Outcomes.{Computation}
use Rattle.x86_step.specs.declared.values.Values.{Values}
use Rattle.x86_step.specs.declared.values.Values.TheVariants.{Zero, One, Two, Three, Four}
use Rattle.x86_step.specs.declared.outcome.Way.{Way}
use Rattle.x86_step.specs.declared.outcome.Way.TheVariants.{Falls, JumpsBy, JumpsTo, Repeats, Calls}
use Rattle.x86_step.specs.declared.outcome.Computed.{Computed}

-- the words, in order
abbrev pub values_of : Values → List Word
values_of Zero = []
values_of (One x) = x ∷ []
values_of (Two x y) = x ∷ y ∷ []
values_of (Three x y z) = x ∷ y ∷ z ∷ []
values_of (Four x y z t) = x ∷ y ∷ z ∷ t ∷ []

abbrev pub way_of : Way → spec.Way
way_of Falls = spec.Falls
way_of (JumpsBy by) = spec.JumpsBy by
way_of (JumpsTo target) = spec.JumpsTo target
way_of Repeats = spec.Repeats
way_of Calls = spec.Calls

abbrev pub computed_of : Computed → spec.Computed
computed_of c = record { values = values_of c.values; flags = c.flags; way = way_of c.way }

-- an outcome, or the same stop
abbrev pub computation_of : Result Computed Stop → Computation
computation_of (Ok c) = Ok (computed_of c)
computation_of (Err stop) = Err stop
