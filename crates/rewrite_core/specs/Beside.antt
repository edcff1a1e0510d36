-- Two states beside each other: of the old code at a place, and of the new code at its new place.
use Rattle.std.specs.Prelude.{◌≡◌, ◌⊎◌, ℕ, ◌+◌, ◌<◌, ◌≤◌, List, All, Some}
use Rattle.x86_values.specs.declared.word.Word.{Word}
use Rattle.x86_values.specs.Words.{known}
use Rattle.image.specs.declared.image.Image.{Image}
use Rattle.memory.specs.Memory.{Memory}
use Rattle.x86_code.specs.Code.{code_of}
use Rattle.x86_grammar.specs.Front.{front}
use Rattle.x86_meaning.specs.Step.{State}
use Rattle.rewrite_core.specs.Met.{IsFree}
use Rattle.rewrite_core.specs.Places.{place_of, IsLaid}
use Rattle.rewrite_core.specs.Layout.{code_start}
use Rattle.rewrite_core.specs.Agreement.{HasMore}

-- an address outside [low, high)
abbrev pub Away : ℕ → ℕ → ℕ → Type 0
Away low high a = (a < low) ⊎ (high ≤ a)

-- a word that is known, if it is, as an address outside [low, high)
abbrev pub IsAway : ℕ → ℕ → Word → Type 0
IsAway low high w = (a : ℕ) → known w ≡ Some a → Away low high a

-- a state at another address, with another memory
abbrev pub beside : ℕ → Memory → State → State
beside a m s = record s { eip = a; memory = m }

-- all registers and flags are the same, and what is left of the outside; the second memory has more in a range, and a buffer of a
-- call begins outside that range. How the addresses are related is the user's.
pub record Beside (low high : ℕ) (Places : ℕ → ℕ → Type 0) (s t : State) : Type 0 where
  pub same : beside t.eip t.memory s ≡ t
  pub places : Places s.eip t.eip
  pub memory : HasMore low high s.memory t.memory
  pub buffer : IsAway low high (s.cpu.regs 1)

-- new code of a page, and the end of the addresses that are the new code's
pub record NewCode : Type 0 where
  pub page : List ℕ
  pub code : List ℕ
  pub laid : IsLaid page code
  pub high : ℕ

-- two addresses: of a place, and of its new place
pub record IsNew (x : NewCode) (a b : ℕ) : Type 0 where
  pub new : ℕ
  pub at : x.laid.table (place_of a) ≡ Some new
  pub is : b ≡ code_start + new

-- a state of the old code, and one of the new code at its new place
pub record Pair (x : NewCode) : Type 0 where
  pub old : State
  pub new : State
  pub beside : Beside code_start x.high (IsNew x) old new
