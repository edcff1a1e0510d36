-- How a list meets an operation, an instruction at a time.
use Rattle.std.proofs.Common.{◌≡◌, ◌≢◌, ℕ, ◌==◌, ◌||◌, List, [], ◌∷◌, ◌++◌, Option, Some, None, Result, Ok, Err, refl, sym, subst, inl, inr}
use Rattle.std.proofs.lemmas.Bool.{eqb-true, or_cases}
use Rattle.traces.specs.Trace.{Label, End, Go, Halt, Unspecified}
use Rattle.x86_values.specs.Sizes.{IsSize}
use Rattle.flag_ir.specs.Storage.{Storage}
use Rattle.flag_ir.specs.Operations.{and_then, needed}
use Rattle.named_code.specs.Items.{Item}
use Rattle.named_code.specs.Running.{CodeState, CodePoint, standing_at, act}
use Rattle.instr_choose.specs.Relation.{IsBelow, done, more, here, later, IsMetByList}

-- a record, so that its parts are found
pub record Comes (r : Result Storage End) (ls : List Label) (xs : List Item) (s : CodeState) : Type 0 where
  pub met : IsMetByList r ls xs s

-- an instruction that goes on
then_by : (r : Result Storage End) (ls : List Label) (x : Item) (xs : List Item) (s t : CodeState) → ((rest : List Item) → act x rest s ≡ Go [] (standing_at (CodePoint.Inside rest) t)) → IsMetByList r ls xs t → IsMetByList r ls (x ∷ xs) s
then_by (Ok u) ls x xs s t h k = record { state = k.state; passes = more x xs s [] t ls k.state h k.passes; below = k.below }
then_by (Err e) ls x xs s t h k = λ defined. later x xs s t e h (k defined)

pub then : {r : Result Storage End} {ls : List Label} {x : Item} {xs : List Item} {s : CodeState} (t : CodeState) → ((rest : List Item) → act x rest s ≡ Go [] (standing_at (CodePoint.Inside rest) t)) → Comes r ls xs t → Comes r ls (x ∷ xs) s
then {r} {ls} {x} {xs} {s} t h k = record { met = then_by r ls x xs s t h k.met }

-- one that shows something
pub shows : {u : Storage} {ls : List Label} {x : Item} {xs : List Item} {s : CodeState} (t : CodeState) → ((rest : List Item) → act x rest s ≡ Go ls (standing_at (CodePoint.Inside rest) t)) → Comes (Ok u) [] xs t → Comes (Ok u) (ls ++ []) (x ∷ xs) s
shows {u} {ls} {x} {xs} {s} t h k = record { met = record { state = k.met.state; passes = more x xs s ls t [] k.met.state h k.met.passes; below = k.met.below } }

-- one that comes to the end
pub fails : {e : End} {ls : List Label} {x : Item} {xs : List Item} {s : CodeState} → ((e ≢ Unspecified) → (rest : List Item) → act x rest s ≡ Halt [] e) → Comes (Err e) ls (x ∷ xs) s
fails {e} {ls} {x} {xs} {s} h = record { met = λ defined. here x xs s e (h defined) }

pub excused : {ls : List Label} {xs : List Item} {s : CodeState} → Comes (Err Unspecified) ls xs s
excused = record { met = λ defined. absurd (defined refl) }

-- the end of the list
pub ends : {u : Storage} {s : CodeState} → IsBelow u s → Comes (Ok u) [] [] s
ends {u} {s} h = record { met = record { state = s; passes = done s; below = h } }

-- what has to be known
pub needs : {f : ℕ → Result Storage End} {ls : List Label} {xs : List Item} {s : CodeState} (o : Option ℕ) → ((n : ℕ) → o ≡ Some n → Comes (f n) ls xs s) → Comes (and_then (needed o) f) ls xs s
needs None h = excused
needs (Some n) h = h n refl

-- what holds at each size
pub each_size : (P : ℕ → Type 0) → P 1 → P 2 → P 4 → (size : ℕ) → IsSize size → P size
each_size P a b c size h = elim (or_cases (size == 1 || size == 2) (size == 4) h) [
  | inl one ↦ elim (or_cases (size == 1) (size == 2) one) [
    | inl e ↦ subst P (sym (eqb-true size 1 e)) a
    | inr e ↦ subst P (sym (eqb-true size 2 e)) b
  ]
  | inr e ↦ subst P (sym (eqb-true size 4 e)) c
]
