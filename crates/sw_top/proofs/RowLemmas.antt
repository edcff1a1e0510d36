-- The rows of the order of the calls.
use Rattle.std.proofs.Common.{◌≡◌, ◌≢◌, ℕ, List, ◌∷◌, codes, false, Some, None, refl, ap, ◌∙◌, sym, arith}
use Rattle.std.specs.FinMap.{get, get-empty}
use Rattle.sw_host.specs.Told.{Told}
use Rattle.sw_host.specs.Calls.{called, fails, with_file}
use Rattle.sw_top.specs.Rewriting.{greatest_size, input, IsLoaded, Finishes, Fails, load_fails, out_fails, map_fails}
use Rattle.sw_top.specs.Rows.{row_names, empty_host, row_host, row_host_after, OrderRows}
use Rattle.sw_top.proofs.StoredFiles.{FileLaws}
use Rattle.sw_top.proofs.LoadLemmas.{front-of_file}

one_head : (m n : ℕ) (xs ys : List ℕ) → m ∷ xs ≡ n ∷ ys → m ≡ n
one_head m n xs ys e = cc

map_is_not_in : codes "map" ≢ codes "in"
map_is_not_in e = absurd (omega (arith, one_head 109 105 _ _ e))

map_is_not_out : codes "map" ≢ codes "out"
map_is_not_out e = absurd (omega (arith, one_head 109 111 _ _ e))

done : (file : List ℕ) (b : Told) → (f : Finishes row_names (row_host file 0) b) → b ≡ row_host_after file f.out
unfolding called with_file
done file b f = f.after

first_fails : (file : List ℕ) (b : Told) → Fails row_names (row_host file 1) b → b ≡ record (row_host file 1) { calls = 1 }
unfolding called with_file
first_fails file b (load_fails e after) = after
first_fails file b (out_fails s e) = cc
first_fails file b (map_fails s e) = cc

module _ (laws : FileLaws) (file : List ℕ) (b : Told) where
  loads : (n : ℕ) → fails (called (row_host file n)) ≡ false → input row_names (row_host file n) ≡ None → ⊥
  loads n e none =
      let gave = front-of_file greatest_size (codes "in") (row_host file n) file (record { loads = e; whole = laws.stored_file (empty_host n) (codes "in") file }) in
      cc

  second_fails : Fails row_names (row_host file 2) b → (b.calls ≡ 2) × (get b.files (codes "map") ≡ None)
  unfolding called with_file
  second_fails (load_fails e after) = absurd (loads 2 refl e)
  second_fails (out_fails s e) =
      (ap (λ t. t.calls) s.after.same, s.after.others (codes "map") map_is_not_out ∙ laws.other_files (empty_host 2) (codes "in") file (codes "map") map_is_not_in ∙ get-empty _ (codes "map"))
  second_fails (map_fails s e) = cc

  third_fails : Fails row_names (row_host file 3) b → (out : List ℕ) × IsLoaded row_names (row_host file 3) out × (get b.files (codes "out") ≡ Some out) × (b.calls ≡ 3)
  unfolding called with_file
  third_fails (load_fails e after) = absurd (loads 3 refl e)
  third_fails (out_fails s e) = cc
  third_fails (map_fails s e) =
      let has = s.after.others (codes "out") (λ h. map_is_not_out (sym h)) ∙ laws.stored_file (called (called (row_host file 3))) (codes "out") s.out in
      (s.out, s.is_loaded, has, ap (λ t. t.calls) s.after.same)

pub order_rows : FileLaws → OrderRows
order_rows laws = record {
  done = done;
  first_fails = first_fails;
  second_fails = λ file b. second_fails laws file b;
  third_fails = λ file b. third_fails laws file b;
}
