-- An instruction does the same over places that are paired.
use Rattle.std.specs.Prelude.{◌≡◌, ℕ}
use Rattle.x86_values.specs.declared.word.Flags.{Flags}
use Rattle.memory.specs.Memory.{Memory}
use Rattle.x86_types.specs.declared.instr.Instr.{Instr}
use Rattle.x86_types.specs.Registers.{Renaming, renamed}
use Rattle.x86_meaning.specs.Registers.{Registers, Processor, Naming}
use Rattle.x86_meaning.specs.Effect.{accesses, effect}
use Rattle.field_places.specs.Pairs.{Pairs, UsesPairs, ResultsAlike, KnowsNoIndex, renamed_naming}

abbrev pub processor : Registers → Flags → Processor
processor regs flags = record { regs = regs; flags = flags }

pub record FieldPlaceLaws : Type 0 where
  -- it makes the same accesses, and its effects are alike
  pub same_accesses : (pairs : Pairs) (v w : Naming) (i : Instr) (r q : Registers) → UsesPairs pairs v w i r q → accesses v i r ≡ accesses w i q
  pub same_effect : (pairs : Pairs) (v w : Naming) (i : Instr) (next : ℕ) (flags : Flags) (r q : Registers) (m : Memory) → UsesPairs pairs v w i r q
      → ResultsAlike pairs r q (effect v i next (processor r flags) m) (effect w i next (processor q flags) m)
  -- with other registers in its fields it does what it does where the fields name their places
  pub renamed_accesses : (f : Renaming) (v : Naming) (i : Instr) (r : Registers) → KnowsNoIndex f → accesses v (renamed f i) r ≡ accesses (renamed_naming f v) i r
  pub renamed_effect : (f : Renaming) (v : Naming) (i : Instr) (next : ℕ) (cpu : Processor) (m : Memory) → KnowsNoIndex f → effect v (renamed f i) next cpu m ≡ effect (renamed_naming f v) i next cpu m
