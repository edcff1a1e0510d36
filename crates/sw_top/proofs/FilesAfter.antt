-- The files, the number of calls and the lines after a rewriting, read off its calls.
use Rattle.std.proofs.Common.{◌≡◌, ◌≢◌, ℕ, ◌+◌, ◌<◌, ◌^◌, min, true, false, List, Some, Result, Ok, Err, sym, ap, subst, ◌∙◌, arith}
use Rattle.std.specs.FinMap.{get}
use Rattle.sw_host.specs.declared.host.HostFault.{HostFault}
use Rattle.sw_host.specs.declared.host.HostFault.TheVariants.{Failed, Memory}
use Rattle.sw_host.specs.Told.{Told, last_count}
use Rattle.sw_host.specs.Calls.{called, fails, with_file, with_line, Lines}
use Rattle.sw_top.specs.declared.command.Names.{Names}
use Rattle.sw_top.specs.declared.end.End.{End}
use Rattle.sw_top.specs.declared.end.End.TheVariants.{Done, Ran, Usage, TooLong, Refused, Host, Memory as NoMemory}
use Rattle.sw_top.specs.Ends.{line_of}
use Rattle.sw_top.specs.Rewriting.{SpoilsOut, SpoilsMap, Finishes, Fails, load_fails, out_fails, map_fails, WantsMemory, before_stores as wants_before, in_out as wants_out, in_map as wants_map, PerformsRewrite}
use Rattle.sw_top.specs.Serves.{SaysLine}
use Rattle.sw_top.specs.RewriteOutcome.{KeepsFiles, LosesOut, LosesMap, HasBoth, AfterFault, before_stores, in_out, in_map, RewriteLeaves}
use Rattle.sw_top.specs.Outcome.{LineAnswered, LineAfter}
use Rattle.sw_top.proofs.StoredFiles.{FileLaws, has_map, has_out, keeps}

-- one more call, up to the last number
abbrev pub next : ℕ → ℕ
next n = min (n + 1) last_count

pub once : (n m : ℕ) → m ≡ next n → n < 2 ^ 63 → m ≡ n + 1
once n m e h = omega (arith, e, h)

pub twice : (n m : ℕ) → m ≡ next (next n) → n < 2 ^ 63 → m ≡ n + 2
twice n m e h = omega (arith, e, h)

three_times : (n m : ℕ) → m ≡ next (next (next n)) → n < 2 ^ 63 → m ≡ n + 3
three_times n m e h = omega (arith, e, h)

four_times : (n m : ℕ) → m ≡ next (next (next (next n))) → n < 2 ^ 63 → m ≡ n + 4
four_times n m e h = omega (arith, e, h)

-- the last call is a line
pub record AddsLine (text : List ℕ) (m b : Told) : Type 0 where
  pub files : b.files ≡ m.files
  pub calls : b.calls ≡ next m.calls
  pub left : b.left ≡ m.left
  pub given : b.given ≡ m.given
  pub moved : b.moved ≡ m.moved
  pub answer : Result (Unit {0}) HostFault
  pub lines : LineAnswered text answer m.lines b

pub adds_line : (text : List ℕ) (answer : Result (Unit {0}) HostFault) (m b : Told) → Lines text answer m b → AddsLine text m b
unfolding called with_line
adds_line text (Ok v) m b p =
    record { files = ap (λ t. t.files) p.0; calls = ap (λ t. t.calls) p.0; left = ap (λ t. t.left) p.0; given = ap (λ t. t.given) p.0; moved = ap (λ t. t.moved) p.0; answer = Ok v; lines = (ap (λ t. t.lines) p.0, subst (λ t. fails t ≡ false) (sym p.0) p.1) }
adds_line text (Err Failed) m b p =
    record { files = ap (λ t. t.files) p.0; calls = ap (λ t. t.calls) p.0; left = ap (λ t. t.left) p.0; given = ap (λ t. t.given) p.0; moved = ap (λ t. t.moved) p.0; answer = Err Failed; lines = (ap (λ t. t.lines) p.0, subst (λ t. fails t ≡ true) (sym p.0) p.1) }
adds_line text (Err Memory) m b p =
    record { files = ap (λ t. t.files) p; calls = ap (λ t. t.calls) p; left = ap (λ t. t.left) p; given = ap (λ t. t.given) p; moved = ap (λ t. t.moved) p; answer = Err Memory; lines = ap (λ t. t.lines) p }

-- words without a command: the line alone
pub line_alone : (text : List ℕ) (answer : Result (Unit {0}) HostFault) (a b : Told) → Lines text answer a b → KeepsFiles 1 a b × LineAfter (Some text) a b
line_alone text answer a b p =
    let line = adds_line text answer a b p in
    (record { calls = once a.calls b.calls line.calls; files = line.files }, (line.answer, line.lines))

module _ (text : List ℕ) (a m b : Told) (line : AddsLine text m b) where
  pub lines_from : m.lines ≡ a.lines → LineAfter (Some text) a b
  lines_from e = (line.answer, subst (λ ls. LineAnswered text line.answer ls b) e line.lines)

  calls_from : (n : ℕ) → m.calls ≡ n → b.calls ≡ next n
  calls_from n e = line.calls ∙ ap next e

  file_from : (q : List ℕ) → get b.files q ≡ get m.files q
  file_from q = ap (λ f. get f q) line.files

-- the load alone
module _ (a m : Told) (after : m ≡ called a) where
  pub loaded_calls : m.calls ≡ next a.calls
  unfolding called
  loaded_calls = ap (λ t. t.calls) after

  pub loaded_files : m.files ≡ a.files
  unfolding called
  loaded_files = ap (λ t. t.files) after

  pub loaded_lines : m.lines ≡ a.lines
  unfolding called
  loaded_lines = ap (λ t. t.lines) after

  pub keeps_files : (text : List ℕ) (b : Told) → AddsLine text m b → KeepsFiles 2 a b
  keeps_files text b line = record { calls = twice a.calls b.calls (calls_from text a m b line (next a.calls) loaded_calls); files = line.files ∙ loaded_files }

-- the store of OUT
module _ (names : Names) (a m : Told) (s : SpoilsOut names a m) where
  out_calls : m.calls ≡ next (next a.calls)
  unfolding called
  out_calls = ap (λ t. t.calls) s.after.same

  out_lines : m.lines ≡ a.lines
  unfolding called
  out_lines = ap (λ t. t.lines) s.after.same

  out_others : (q : List ℕ) → q ≢ names.to → get m.files q ≡ get a.files q
  unfolding called
  out_others q h = s.after.others q h

  loses_out : (text : List ℕ) (b : Told) → AddsLine text m b → LosesOut names a b
  loses_out text b line = record {
    calls = three_times a.calls b.calls (calls_from text a m b line _ out_calls);
    others = λ q h. file_from text a m b line q ∙ out_others q h;
  }

-- the store of MAP
module _ (laws : FileLaws) (names : Names) (a m : Told) (s : SpoilsMap names a m) where
  map_calls : m.calls ≡ next (next (next a.calls))
  unfolding called with_file
  map_calls = ap (λ t. t.calls) s.after.same

  map_lines : m.lines ≡ a.lines
  unfolding called with_file
  map_lines = ap (λ t. t.lines) s.after.same

  map_has : names.to ≢ names.map → get m.files names.to ≡ Some s.out
  unfolding called
  map_has apart = s.after.others names.to apart ∙ laws.stored_file (called (called a)) names.to s.out

  map_others : (q : List ℕ) → q ≢ names.to → q ≢ names.map → get m.files q ≡ get a.files q
  unfolding called
  map_others q p r = s.after.others q r ∙ laws.other_files (called (called a)) names.to s.out q p

  loses_map : (text : List ℕ) (b : Told) → names.to ≢ names.map → AddsLine text m b → LosesMap names a b
  loses_map text b apart line =
      let l = s.is_loaded in
      record {
        calls = four_times a.calls b.calls (calls_from text a m b line _ map_calls);
        has_out =
            record {
              file = l.file;
              out = s.out;
              had = l.is_input.whole;
              fits = l.is_input.fits;
              written = l.written;
              has = file_from text a m b line names.to ∙ map_has apart;
              others = λ q p r. file_from text a m b line q ∙ map_others q p r;
            };
      }

-- both stores
module _ (laws : FileLaws) (names : Names) (a b : Told) (f : Finishes names a b) where
  both_calls : b.calls ≡ next (next (next a.calls))
  unfolding called with_file
  both_calls = ap (λ t. t.calls) f.after

  both_lines : b.lines ≡ a.lines
  unfolding called with_file
  both_lines = ap (λ t. t.lines) f.after

  has_both : names.to ≢ names.map → HasBoth names a b
  has_both apart =
      let l = f.is_loaded in
      record {
        calls = three_times a.calls b.calls both_calls;
        has_out =
            record {
              file = l.file;
              out = f.out;
              had = l.is_input.whole;
              fits = l.is_input.fits;
              written = l.written;
              has = ap (λ t. get t.files names.to) f.after ∙ has_out laws a names f.out apart;
              others = λ q p r. ap (λ t. get t.files q) f.after ∙ keeps laws a names f.out q p r;
            };
        map = ap (λ t. get t.files names.map) f.after ∙ has_map laws a names f.out;
      }

-- the files after the calls and the line, and the lines
abbrev FilesAndLine : Names → End → Told → Told → Type 0
FilesAndLine names end a b = RewriteLeaves names end a b × LineAfter (line_of end) a b

module _ (laws : FileLaws) (names : Names) (apart : names.to ≢ names.map) (a m b : Told) where
  module _ (text : List ℕ) (line : AddsLine text m b) where
    after_load : m ≡ called a → KeepsFiles 2 a b × LineAfter (Some text) a b
    after_load after = (keeps_files a m after text b line, lines_from text a m b line (loaded_lines a m after))

    after_out : SpoilsOut names a m → AfterFault names a b × LineAfter (Some text) a b
    after_out s = (in_out (loses_out names a m s text b line), lines_from text a m b line (out_lines names a m s))

    after_map : SpoilsMap names a m → AfterFault names a b × LineAfter (Some text) a b
    after_map s = (in_map (loses_map laws names a m s text b apart line), lines_from text a m b line (map_lines laws names a m s))

    after_fails : Fails names a m → AfterFault names a b × LineAfter (Some text) a b
    after_fails (load_fails e after) = let x = after_load after in (before_stores x.0, x.1)
    after_fails (out_fails s e) = after_out s
    after_fails (map_fails s e) = after_map s

    after_wants : WantsMemory names a m → AfterFault names a b × LineAfter (Some text) a b
    after_wants (wants_before after) = let x = after_load after in (before_stores x.0, x.1)
    after_wants (wants_out s) = after_out s
    after_wants (wants_map s) = after_map s

  pub leaves : (end : End) → PerformsRewrite names end a m → SaysLine (line_of end) m b → FilesAndLine names end a b
  leaves Done p says =
      let f : Finishes names a b = subst (λ t. Finishes names a t) (sym says) p in
      (has_both laws names a b f apart, both_lines laws names a b f)
  leaves (Ran e) p says = absurd p
  leaves Usage p says = absurd p
  leaves TooLong p says = after_load _ (adds_line _ says.0 m b says.1) p.after
  leaves (Refused r) p says = after_load _ (adds_line _ says.0 m b says.1) p.after
  leaves Host p says = after_fails _ (adds_line _ says.0 m b says.1) p
  leaves NoMemory p says = after_wants _ (adds_line _ says.0 m b says.1) p
