-- The body of a procedure: the found code that is reached from its first instruction without entering a call.
use Rattle.std.specs.Prelude.{◌↔◌, ℕ, ◌==◌, List, [], ◌∷◌, find, Contains, Option, Some, None}
use Rattle.std.specs.List.Sorted.{IsStrictlyIncreasing}
use Rattle.x86_types.specs.declared.instr.Instr.{Instr}
use Rattle.x86_types.specs.declared.instr.Instr.TheVariants.{Jmp, Jcc, JmpTo, Ret}
use Rattle.plan_types.specs.declared.place.Place.{Place}
use Rattle.plan_types.specs.declared.table.Table.{Table}
use Rattle.plan_types.specs.Contents.{FoundContents}
use Rattle.plan_types.specs.Ascending.{addresses_of}
use Rattle.plan_types.specs.Leading.{next_of, target_of}

-- the targets of a table, none where there is no table
abbrev pub targets_in : Option Table → List ℕ
targets_in None = []
targets_in (Some t) = t.targets

-- those of the table of the jump at an address
abbrev pub targets_at : FoundContents → ℕ → List ℕ
targets_at found a = targets_in (find (λ t. t.jump == a) found.tables)

-- where the code goes on after an instruction: at the next one, behind a CALL too, since a call is not entered; at the target of a jump;
-- at the targets of its table; and nowhere after RET (own)
abbrev pub successors_in : FoundContents → Place → Instr → List ℕ
successors_in found p (Jmp by) = target_of p by ∷ []
successors_in found p (Jcc c by) = next_of p ∷ target_of p by ∷ []
successors_in found p (JmpTo to) = targets_at found p.at
successors_in found p (Ret drop) = []
successors_in found p _ = next_of p ∷ []

abbrev pub successors_of : FoundContents → Place → List ℕ
successors_of found p = successors_in found p p.instr

-- an instruction is found at an address
abbrev pub HasPlace : FoundContents → ℕ → Type 0
HasPlace found a = Contains (addresses_of found.code) a

pub data IsInBody (found : FoundContents) (entry : ℕ) : ℕ → Type 0 where
  first : HasPlace found entry → IsInBody found entry entry
  after : {a : ℕ} → (p : Place) → IsInBody found entry p.at → Contains found.code p → Contains (successors_of found p) a → HasPlace found a → IsInBody found entry a

-- addresses are those of the body, ascending, each once
pub record IsBody (found : FoundContents) (entry : ℕ) (body : List ℕ) : Type 0 where
  pub ascending : IsStrictlyIncreasing body
  pub members : (a : ℕ) → Contains body a ↔ IsInBody found entry a
