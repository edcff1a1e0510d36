-- The bytes of tables, in order.
use Rattle.std.specs.Prelude.{◌↔◌, ◌⊎◌, ℕ, ◌+◌, ◌*◌, ◌≤◌, max, Bool, ltb, List, [], ◌∷◌, length, Contains}
use Rattle.std.specs.List.Sorted.{IsNonDecreasingBy}
use Rattle.plan_types.specs.declared.table.Table.{Table}
use Rattle.code_discovery.specs.declared.table_extents.TableExtent.{TableExtent}
use Rattle.code_discovery.specs.Whole.{AreTablesApart}

unfoldable pub extent_of : Table → TableExtent
extent_of t = record { start = t.start; end = t.start + 4 * length t.targets }

-- each with the greatest end up to it
abbrev pub raised : ℕ → List TableExtent → List TableExtent
raised end [] = []
raised end (e ∷ more) = record { start = e.start; end = max e.end end } ∷ raised (max e.end end) more

pub record AreInOrder (extents : List TableExtent) : Type 0 where
  pub starts : IsNonDecreasingBy (λ e. e.start) extents
  pub ends : IsNonDecreasingBy (λ e. e.end) extents

-- one starts below the end of a word
abbrev pub starts_before : ℕ → TableExtent → Bool
starts_before at e = ltb e.start (at + 4)

-- none shares a byte with a word
abbrev pub IsClear : List TableExtent → ℕ → Type 0
IsClear extents at = (e : TableExtent) → Contains extents e → (at + 4 ≤ e.start) ⊎ (e.end ≤ at)

-- extents share bytes with the words that tables share bytes with
abbrev pub TellsOf : List Table → List TableExtent → Type 0
TellsOf tables extents = (at : ℕ) → IsClear extents at ↔ AreTablesApart tables at
