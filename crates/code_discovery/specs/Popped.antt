-- The last of what is to be looked at is taken.
use Rattle.std.specs.Prelude.{◌≡◌, List, [], ◌∷◌, ◌++◌, Option, Some, None}
use Rattle.code_discovery.specs.declared.work.Work.{Work}
use Rattle.code_discovery.specs.Kept.{FoundSoFar}

abbrev pub with_todo : FoundSoFar → List Work → FoundSoFar
with_todo k todo = record k { todo = todo }

pub record IsWithout (old : FoundSoFar) (w : Work) (new : FoundSoFar) : Type 0 where
  pub rest : List Work
  pub was : old.todo ≡ rest ++ w ∷ []
  pub is : new ≡ with_todo old rest

abbrev pub IsPopped : FoundSoFar → Option Work → FoundSoFar → Type 0
IsPopped old None new = (old.todo ≡ []) × (new ≡ old)
IsPopped old (Some w) new = IsWithout old w new
