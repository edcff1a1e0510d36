-- What follows from the words of the calls, whatever the host.
use Rattle.std.specs.Prelude.{◌≡◌, ◌≢◌, ℕ, List, Some}
use Rattle.std.specs.FinMap.{get}
use Rattle.sw_host.specs.Told.{Told}
use Rattle.sw_host.specs.Calls.{called, fails, with_file}

-- A file that was stored is those bytes.
abbrev pub StoredFile : Type 0
StoredFile = (a : Told) (name bytes : List ℕ) → get (with_file a name bytes).files name ≡ Some bytes

-- Other files stay.
abbrev pub OtherFiles : Type 0
OtherFiles = (a : Told) (name bytes q : List ℕ) → q ≢ name → get (with_file a name bytes).files q ≡ get a.files q

-- Whether the next call is to fail depends on the count of calls and on which calls are to fail, not on files and lines.
abbrev pub FailsAlike : Type 0
FailsAlike = (a b : Told) → b.calls ≡ a.calls → b.failing ≡ a.failing → fails (called b) ≡ fails (called a)
