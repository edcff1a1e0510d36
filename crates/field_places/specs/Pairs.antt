-- Places of two sides in pairs: which of them an instruction uses, and when its effects over both sides are alike. All of this is own.
use Rattle.std.specs.Prelude.{◌≡◌, ◌⊎◌, ℕ, List, [], ◌∷◌, Result, Ok, Err}
use Rattle.x86_types.specs.declared.instr.Instr.{Instr}
use Rattle.x86_types.specs.declared.operand.Reg.{Reg}
use Rattle.x86_types.specs.Registers.{RegisterField, Index, Whole, Byte, Renaming}
use Rattle.x86_meaning.specs.declared.stop.Stop.{Stop}
use Rattle.x86_meaning.specs.Registers.{Registers, Naming}
use Rattle.x86_meaning.specs.Effect.{Effect}
use Rattle.field_places.specs.Fields.{Field, fields, implicit_registers}

-- ---- pairs of a place of the left side and one of the right
abbrev pub Pairs : Type 0
Pairs = List (ℕ × ℕ)

abbrev pub ArePaired : Pairs → ℕ → ℕ → Type 0
ArePaired [] p q = ⊥
ArePaired (x ∷ xs) p q = ((p ≡ x.0) × (q ≡ x.1)) ⊎ ArePaired xs p q

-- no place is in two pairs
pub record IsOneToOne (pairs : Pairs) : Type 0 where
  pub to_right : (p q r : ℕ) → ArePaired pairs p q → ArePaired pairs p r → q ≡ r
  pub to_left : (p q r : ℕ) → ArePaired pairs p r → ArePaired pairs q r → p ≡ q

-- places that are paired hold the same words
abbrev pub HoldTheSame : Pairs → Registers → Registers → Type 0
HoldTheSame pairs r q = (a b : ℕ) → ArePaired pairs a b → r a ≡ q b

-- ---- the places that an instruction uses
-- a field names places that are paired, and if it is one of a byte the same byte there
abbrev pub KindIsPaired : Pairs → Naming → Naming → RegisterField → Reg → Type 0
KindIsPaired pairs v w Index r = ArePaired pairs (v.whole r) (w.whole r)
KindIsPaired pairs v w Whole r = ArePaired pairs (v.whole r) (w.whole r)
KindIsPaired pairs v w Byte r = ArePaired pairs (v.byte r).0 (w.byte r).0 × ((v.byte r).1 ≡ (w.byte r).1)

abbrev pub FieldsArePaired : Pairs → Naming → Naming → List Field → Type 0
FieldsArePaired pairs v w [] = Unit {0}
FieldsArePaired pairs v w (x ∷ xs) = KindIsPaired pairs v w x.kind x.register × FieldsArePaired pairs v w xs

-- these places are paired with themselves
abbrev pub PairedWithThemselves : Pairs → List ℕ → Type 0
PairedWithThemselves pairs [] = Unit {0}
PairedWithThemselves pairs (n ∷ ns) = ArePaired pairs n n × PairedWithThemselves pairs ns

-- each place that the instruction uses is paired, and what is paired holds the same
pub record UsesPairs (pairs : Pairs) (v w : Naming) (i : Instr) (r q : Registers) : Type 0 where
  pub one_to_one : IsOneToOne pairs
  pub by_field : FieldsArePaired pairs v w (fields i)
  pub implicit : PairedWithThemselves pairs (implicit_registers i)
  pub words : HoldTheSame pairs r q

-- ---- effects
-- from the registers r and q, both effects store the same and go on alike, paired places hold the same again, and each place that is in
-- no pair holds what it held
pub record EffectsAlike (pairs : Pairs) (r q : Registers) (d e : Effect) : Type 0 where
  pub stores : d.stores ≡ e.stores
  pub flags : d.cpu.flags ≡ e.cpu.flags
  pub way : d.way ≡ e.way
  pub words : HoldTheSame pairs d.cpu.regs e.cpu.regs
  pub others_left : (a : ℕ) → ((b : ℕ) → ArePaired pairs a b → ⊥) → d.cpu.regs a ≡ r a
  pub others_right : (b : ℕ) → ((a : ℕ) → ArePaired pairs a b → ⊥) → e.cpu.regs b ≡ q b

-- or both come to the same stop
abbrev pub ResultsAlike : Pairs → Registers → Registers → Result Effect Stop → Result Effect Stop → Type 0
ResultsAlike pairs r q (Ok d) (Ok e) = EffectsAlike pairs r q d e
ResultsAlike pairs r q (Ok d) (Err x) = ⊥
ResultsAlike pairs r q (Err x) (Ok e) = ⊥
ResultsAlike pairs r q (Err x) (Err y) = x ≡ y

-- ---- other registers in the fields
-- the field of an index becomes what a whole register becomes
abbrev pub KnowsNoIndex : Renaming → Type 0
KnowsNoIndex f = (r : Reg) → f Index r ≡ f Whole r

-- the places that fields name where they hold other registers
abbrev pub renamed_naming : Renaming → Naming → Naming
renamed_naming f v = record { whole = λ r. v.whole (f Whole r); byte = λ r. v.byte (f Byte r) }
