-- What a host in memory tells.
use Rattle.std.specs.Prelude.{◌≡◌, ◌≤◌, ℕ, ◌+◌, ◌==◌, ◌||◌, min, Bool, false, List, [], map, drop, Option, Result, Ok, Err}
use Rattle.std.specs.List.{list_any}
use Rattle.std.specs.Ordering.{nat_cmp}
use Rattle.std.specs.Bool.{nat_eq}
use Rattle.std.specs.Cmp.Lexicographic.{slice_cmp}
use Rattle.std.specs.FinMap.{empty, from_entries, find}
use Rattle.outside.specs.declared.answer.Answer.{Answer}
use Rattle.sw_host.specs.Told.{Told, Files, last_count}
use Rattle.sw_host.specs.declared.host.HostFault.{HostFault}
use Rattle.sw_host.specs.declared.host.HostFault.TheVariants.{Failed, Memory}
use Rattle.sw_host.specs.declared.memory.MemoryHost.{MemoryHost}
use Rattle.sw_host.specs.declared.memory.File.{File}

-- What a new host tells: no file, no input, no answer, no write, no line, no call, and no call that is to fail.
unfoldable pub nothing_told : Told
nothing_told = record {
  files = empty;
  left = [];
  given = [];
  moved = [];
  lines = [];
  calls = 0;
  failing = λ n. false;
}

-- The host whose call of that number is to fail, beside those that were to fail before. Nothing else changes.
unfoldable pub with_failing : Told → ℕ → Told
with_failing a number = record a { failing = λ n. a.failing n || (number == n) }

-- The host whose input left is these bytes. Nothing else changes.
unfoldable pub with_input : Told → List ℕ → Told
with_input a bytes = record a { left = bytes }

-- A count of faults rises by one at `Failed`, up to its last value, and otherwise stays.
abbrev pub CountsFault : {T : Type 0} → ℕ → ℕ → Result T HostFault → Type 0
CountsFault before now (Err Failed) = (before ≤ last_count) × (now ≡ min (before + 1) last_count)
CountsFault before now (Err Memory) = now ≡ before
CountsFault before now (Ok _) = now ≡ before

-- A file as an entry of a map: its name and its bytes.
abbrev pub entry : File → List ℕ × List ℕ
entry f = (f.name.items, f.bytes.items)

-- A list of files as a map. Of files of one name the newest counts, which stands first.
abbrev pub files_of : List File → Files
files_of files = from_entries (map entry files)

-- The bytes of the first file of that name in a list.
abbrev pub find_file : List File → List ℕ → Option (List ℕ)
find_file files name = find (slice_cmp nat_cmp) name (map entry files)

-- The call of that number is among those that are to fail.
abbrev pub fails_at : List ℕ → ℕ → Bool
fails_at failing call = list_any (λ n. nat_eq n call) failing

-- What a host in memory tells.
unfoldable pub told_by : MemoryHost → Told
told_by m = record {
  files = files_of m.files.items;
  left = drop m.taken m.input.items;
  given = m.given.items;
  moved = m.moved;
  lines = m.lines;
  calls = m.calls;
  failing = fails_at m.failing.items;
}

-- How many calls of a host in memory failed.
abbrev pub faults_of : MemoryHost → ℕ
faults_of m = m.faults

-- The answers that a host in memory is still to give to takes and puts, before it takes all that is there.
abbrev pub scripted_in : MemoryHost → List Answer
scripted_in m = m.script
