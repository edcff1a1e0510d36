-- Rows of the definitions, worked by hand: words, sizes, statuses, lines, the text of the map, and the order of the calls.
use Rattle.std.specs.Prelude.{◌≡◌, ℕ, ◌+◌, ◌^◌, ◌==◌, List, [], ◌∷◌, length, codes, Some, None}
use Rattle.std.specs.FinMap.{empty, get, insert}
use Rattle.elf_image.specs.declared.refusal.Refusal.{Refusal}
use Rattle.elf_image.specs.declared.refusal.Refusal.TheVariants.{SegmentAlign, NotYet}
use Rattle.sw_host.specs.Told.{Told}
use Rattle.sw_host.specs.Calls.{with_file}
use Rattle.sw_top.specs.declared.command.Names.{Names}
use Rattle.sw_top.specs.declared.command.Command.TheVariants.{Rewrite}
use Rattle.sw_top.specs.declared.end.End.TheVariants.{Done, Usage, TooLong, Refused, Host, Memory}
use Rattle.sw_top.specs.Commands.{command_of}
use Rattle.sw_top.specs.Ends.{status_of, line_of}
use Rattle.sw_top.specs.Rewriting.{greatest_size, limit, map_text, IsInput, IsLoaded, Finishes, PassesLimit, Fails}

-- The files of `rewrite in out map`.
abbrev pub row_names : Names
row_names = record { from = codes "in"; to = codes "out"; map = codes "map" }

-- The files of `rewrite "" out map`.
abbrev pub unnamed_in : Names
unnamed_in = record { from = []; to = codes "out"; map = codes "map" }

-- What words spell.
pub record CommandRows : Type 0 where
  pub form : command_of (codes "rewrite" ∷ codes "in" ∷ codes "out" ∷ codes "map" ∷ []) ≡ Some (Rewrite row_names)
  pub three_words : command_of (codes "rewrite" ∷ codes "in" ∷ codes "out" ∷ []) ≡ None
  pub five_words : command_of (codes "rewrite" ∷ codes "in" ∷ codes "out" ∷ codes "map" ∷ codes "map" ∷ []) ≡ None
  pub another_command : command_of (codes "copy" ∷ codes "in" ∷ codes "out" ∷ codes "map" ∷ []) ≡ None
  pub another_case : command_of (codes "Rewrite" ∷ codes "in" ∷ codes "out" ∷ codes "map" ∷ []) ≡ None
  pub one_file : command_of (codes "rewrite" ∷ codes "in" ∷ codes "out" ∷ codes "out" ∷ []) ≡ None
  pub no_words : command_of [] ≡ None
  pub empty_command : command_of ([] ∷ codes "in" ∷ codes "out" ∷ codes "map" ∷ []) ≡ None
  pub empty_name : command_of (codes "rewrite" ∷ [] ∷ codes "out" ∷ codes "map" ∷ []) ≡ Some (Rewrite unnamed_in)

-- 16 MiB: a file of 16,777,216 bytes is judged, and one of 16,777,217 bytes is too long and nothing else.
pub record SizeRows : Type 0 where
  pub greatest : greatest_size ≡ 2 ^ 24
  pub asked : limit ≡ 2 ^ 24 + 1
  pub judged : (names : Names) (a b : Told) (file : List ℕ) → get a.files names.from ≡ Some file → length file ≡ 16777216 → PassesLimit names a b → ⊥
  pub too_long : (names : Names) (a : Told) (file front : List ℕ) → get a.files names.from ≡ Some file → length file ≡ 16777217 → IsInput names a front → ⊥

-- The status of each end.
pub record StatusRows : Type 0 where
  pub done : status_of Done ≡ 0
  pub memory : status_of Memory ≡ 120
  pub host : status_of Host ≡ 121
  pub too_long : status_of TooLong ≡ 122
  pub refused : (r : Refusal) → status_of (Refused r) ≡ 124
  pub usage : status_of Usage ≡ 125

-- The line of each end, of two refusals in place of all.
pub record LineRows : Type 0 where
  pub done : line_of Done ≡ None
  pub memory : line_of Memory ≡ Some (codes "sw: no memory")
  pub host : line_of Host ≡ Some (codes "sw: host fault")
  pub too_long : line_of TooLong ≡ Some (codes "sw: file too long")
  pub segment_align : line_of (Refused SegmentAlign) ≡ Some (codes "sw: refused SegmentAlign")
  pub not_yet : line_of (Refused NotYet) ≡ Some (codes "sw: refused NotYet")
  pub usage : line_of Usage ≡ Some (codes "sw: usage")

-- `secondwrite-map 1` and a newline, in ASCII.
abbrev pub MapRow : Type 0
MapRow =
    map_text
    ≡ 0x73 ∷ 0x65 ∷ 0x63 ∷ 0x6F ∷ 0x6E ∷ 0x64 ∷ 0x77 ∷ 0x72 ∷ 0x69 ∷ 0x74 ∷ 0x65 ∷ 0x2D ∷ 0x6D ∷ 0x61 ∷ 0x70 ∷ 0x20 ∷ 0x31 ∷ 0x0A ∷ []

-- A host without files. The call of that number is to fail, where the first call has number 1.
abbrev pub empty_host : ℕ → Told
empty_host failing = record {
  files = empty;
  left = [];
  given = [];
  moved = [];
  lines = [];
  calls = 0;
  failing = λ n. failing == n;
}

-- That host with this file as IN.
abbrev pub row_host : List ℕ → ℕ → Told
row_host file failing = with_file (empty_host failing) (codes "in") file

-- That host after three calls, the last two of which stored OUT and then MAP; no call was to fail.
abbrev pub row_host_after : List ℕ → List ℕ → Told
row_host_after file out = record {
  files = insert (insert (insert empty (codes "in") file) (codes "out") out) (codes "map") map_text;
  left = [];
  given = [];
  moved = [];
  lines = [];
  calls = 3;
  failing = λ n. 0 == n;
}

-- The load of IN is the first call, the store of OUT the second and the store of MAP the third. After Done the host is as
-- written out. Where the second call fails, MAP isn't there; where the third fails, OUT is a file that is written for IN.
pub record OrderRows : Type 0 where
  pub done : (file : List ℕ) (b : Told) → (f : Finishes row_names (row_host file 0) b) → b ≡ row_host_after file f.out
  pub first_fails : (file : List ℕ) (b : Told) → Fails row_names (row_host file 1) b → b ≡ record (row_host file 1) { calls = 1 }
  pub second_fails : (file : List ℕ) (b : Told) → Fails row_names (row_host file 2) b → (b.calls ≡ 2) × (get b.files (codes "map") ≡ None)
  pub third_fails : (file : List ℕ) (b : Told) → Fails row_names (row_host file 3) b → (out : List ℕ) × IsLoaded row_names (row_host file 3) out × (get b.files (codes "out") ≡ Some out) × (b.calls ≡ 3)
