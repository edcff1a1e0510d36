-- What stands in the files after both stores.
use Rattle.std.proofs.Common.{◌≡◌, ◌≢◌, ℕ, List, Some, ap, ◌∙◌}
use Rattle.std.specs.FinMap.{get}
use Rattle.sw_host.specs.Told.{Told}
use Rattle.sw_host.specs.Calls.{called, with_file}
use Rattle.sw_host.specs.Laws.{StoredFile, OtherFiles}
use Rattle.sw_top.specs.declared.command.Names.{Names}
use Rattle.sw_top.specs.Rewriting.{map_text, Finishes, stored_out, stored_both}
use Rattle.sw_top.specs.Headline.{Rewrote}

-- the laws of what stands in the files after one was stored
pub record FileLaws : Type 0 where
  pub stored_file : StoredFile
  pub other_files : OtherFiles

-- the files after two stores, one after another
module _ (laws : FileLaws) (a : Told) (names : Names) (out : List ℕ) where
  pub has_map : get (stored_both names out a).files names.map ≡ Some map_text
  has_map = laws.stored_file (called (stored_out names out a)) names.map map_text

  pub has_out : names.to ≢ names.map → get (stored_both names out a).files names.to ≡ Some out
  unfolding called with_file
  has_out apart = laws.other_files (called (stored_out names out a)) names.map map_text names.to apart ∙ laws.stored_file (called (called a)) names.to out

  pub keeps : (q : List ℕ) → q ≢ names.to → q ≢ names.map → get (stored_both names out a).files q ≡ get a.files q
  unfolding called with_file
  keeps q p r = laws.other_files (called (stored_out names out a)) names.map map_text q r ∙ laws.other_files (called (called a)) names.to out q p

-- a rewriting that is done, with its calls and without a line
pub rewrote : FileLaws → (names : Names) (a m b : Told) → names.to ≢ names.map → Finishes names a m → b ≡ m → Rewrote names a b
rewrote laws names a m b apart f last =
    let l = f.is_loaded in
    let w = l.written in
    let at : b ≡ stored_both names f.out a = last ∙ f.after in
    record {
      file = l.file;
      out = f.out;
      had = l.is_input.whole;
      has = ap (λ t. get t.files names.to) at ∙ has_out laws a names f.out apart;
      map = ap (λ t. get t.files names.map) at ∙ has_map laws a names f.out;
      others = λ q p r. ap (λ t. get t.files q) at ∙ keeps laws a names f.out q p r;
      old = _;
      new = _;
      read = w.read;
      accepted = w.accepted;
      agree = w.agrees;
    }
