-- What a rewriting does to what a host tells: the load of IN, the store of OUT and the store of MAP, in this order.
use Rattle.std.specs.Prelude.{◌≡◌, ℕ, true, false, List, ◌++◌, [], ◌∷◌, Option, None, codes}
use Rattle.elf_image.specs.declared.refusal.Refusal.{Refusal}
use Rattle.rewrite_core.specs.Rewrites.{IsWritten, IsRefused}
use Rattle.sw_host.specs.Told.{Told}
use Rattle.sw_host.specs.Calls.{called, fails, with_file, Spoils}
use Rattle.sw_top.specs.Loading.{front_of, IsLoadedWhole, IsLonger}
use Rattle.sw_top.specs.declared.command.Names.{Names}
use Rattle.sw_top.specs.declared.end.End.{End}
use Rattle.sw_top.specs.declared.end.End.TheVariants.{Done, Ran, Usage, TooLong, Refused, Host, Memory}

-- The most bytes of a file that is rewritten: 16 MiB. (own)
abbrev pub greatest_size : ℕ
greatest_size = 16777216

-- The most bytes that the load asks for: one more, so that a longer file shows.
abbrev pub limit : ℕ
limit = 16777217

-- The text of a map without entries. (own)
abbrev pub map_text : List ℕ
map_text = codes "secondwrite-map 1" ++ 0x0A ∷ []

-- What the load of IN gives.
abbrev pub input : Names → Told → Option (List ℕ)
input names a = front_of greatest_size names.from a

-- The host after the load of IN and the store of these bytes as OUT.
abbrev pub stored_out : Names → List ℕ → Told → Told
stored_out names out a = with_file (called (called a)) names.to out

-- The host after that and the store of the map.
abbrev pub stored_both : Names → List ℕ → Told → Told
stored_both names out a = with_file (called (stored_out names out a)) names.map map_text

-- The load of IN gave at most 16 MiB, which is the whole file.
abbrev pub IsInput : Names → Told → List ℕ → Type 0
IsInput names a file = IsLoadedWhole greatest_size names.from a file

-- The load of IN gave all bytes that it asked for, since the file has more than 16 MiB.
abbrev pub IsOverlong : Names → Told → Type 0
IsOverlong names a = IsLonger greatest_size names.from a

-- IN was loaded, and `out` is a file that is written for it.
pub record IsLoaded (names : Names) (a : Told) (out : List ℕ) : Type 0 where
  pub file : List ℕ
  pub is_input : IsInput names a file
  pub written : IsWritten file out

-- Done: all three calls were made, and OUT and MAP are the stated files.
pub record Finishes (names : Names) (a b : Told) : Type 0 where
  pub out : List ℕ
  pub is_loaded : IsLoaded names a out
  pub first_store : fails (called (called a)) ≡ false
  pub second_store : fails (called (stored_out names out a)) ≡ false
  pub after : b ≡ stored_both names out a

-- TooLong: IN has more than 16 MiB, and nothing was stored.
pub record PassesLimit (names : Names) (a b : Told) : Type 0 where
  pub overlong : IsOverlong names a
  pub after : b ≡ called a

-- Refused: IN was loaded as a file that is refused, and nothing was stored.
pub record Refuses (names : Names) (r : Refusal) (a b : Told) : Type 0 where
  pub file : List ℕ
  pub is_input : IsInput names a file
  pub refused : IsRefused file r
  pub after : b ≡ called a

-- The store of OUT was made, OUT holds anything, and nothing else changed.
pub record SpoilsOut (names : Names) (a b : Told) : Type 0 where
  pub out : List ℕ
  pub is_loaded : IsLoaded names a out
  pub after : Spoils names.to (called (called a)) b

-- OUT was stored and the store of MAP was made. MAP holds anything, and nothing else changed after the store of OUT.
pub record SpoilsMap (names : Names) (a b : Told) : Type 0 where
  pub out : List ℕ
  pub is_loaded : IsLoaded names a out
  pub first_store : fails (called (called a)) ≡ false
  pub after : Spoils names.map (called (stored_out names out a)) b

-- Host: one of the three calls failed, and it was the last.
pub data Fails (names : Names) (a b : Told) : Type 0 where
  load_fails : input names a ≡ None → b ≡ called a → Fails names a b
  out_fails : SpoilsOut names a b → fails (called (called a)) ≡ true → Fails names a b
  map_fails : (s : SpoilsMap names a b) → fails (called (stored_out names s.out a)) ≡ true → Fails names a b

-- Memory: memory was wanting before the first store, in the store of OUT, or in the store of MAP.
pub data WantsMemory (names : Names) (a b : Told) : Type 0 where
  before_stores : b ≡ called a → WantsMemory names a b
  in_out : SpoilsOut names a b → WantsMemory names a b
  in_map : SpoilsMap names a b → WantsMemory names a b

-- The calls of a rewriting that ends so. No rewriting ends with Usage or Ran.
abbrev pub PerformsRewrite : Names → End → Told → Told → Type 0
PerformsRewrite names Done a b = Finishes names a b
PerformsRewrite names (Ran end) a b = ⊥
PerformsRewrite names TooLong a b = PassesLimit names a b
PerformsRewrite names (Refused r) a b = Refuses names r a b
PerformsRewrite names Host a b = Fails names a b
PerformsRewrite names Memory a b = WantsMemory names a b
PerformsRewrite names Usage a b = ⊥
