-- What the load of IN gives, where a file of at most so many bytes is wanted.
use Rattle.std.specs.Prelude.{◌≡◌, ◌≤◌, ◌<◌, ℕ, ◌+◌, false, List, length, Option, Some}
use Rattle.std.specs.FinMap.{get}
use Rattle.sw_host.specs.Told.{Told}
use Rattle.sw_host.specs.Calls.{called, fails, loaded}

-- What the load gives, which asks for one byte more than is wanted, so that a longer file shows.
abbrev pub front_of : ℕ → List ℕ → Told → Option (List ℕ)
front_of most name a = loaded (called a) name (most + 1)

-- It gave at most as many bytes as are wanted, which are the whole file.
pub record IsLoadedWhole (most : ℕ) (name : List ℕ) (a : Told) (file : List ℕ) : Type 0 where
  pub gave : front_of most name a ≡ Some file
  pub fits : length file ≤ most
  pub whole : get a.files name ≡ Some file

-- It gave all bytes that it asked for, since the file has more than are wanted.
pub record IsLonger (most : ℕ) (name : List ℕ) (a : Told) : Type 0 where
  pub front : List ℕ
  pub gave : front_of most name a ≡ Some front
  pub full : length front ≡ most + 1
  pub file : List ℕ
  pub whole : get a.files name ≡ Some file
  pub over : most < length file

-- IN is that file, and the next call, its load, isn't to fail.
pub record HasFile (name : List ℕ) (a : Told) (file : List ℕ) : Type 0 where
  pub loads : fails (called a) ≡ false
  pub whole : get a.files name ≡ Some file
