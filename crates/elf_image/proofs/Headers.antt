-- The table of headers, read from its beginning on.
use Rattle.std.proofs.Common.{◌≡◌, ℕ, zero, suc, ◌+◌, ◌*◌, ◌∙◌, List, [], ◌∷◌, ◌++◌, length, ap, refl, arith, add-one}
use Rattle.elf_image.specs.Fields.{header_at, headers_from}

-- one header more
headers_suc : (file : List ℕ) (at n : ℕ) → headers_from file at (suc n) ≡ headers_from file at n ++ header_at file (at + 32 * n) ∷ []
unfolding headers_from
headers_suc file at zero = let e : at ≡ at + 32 * 0 = omega arith in ap (λ i. header_at file i ∷ []) e
headers_suc file at (suc n) =
    let e : at + 32 + 32 * n ≡ at + 32 * suc n = omega arith in
    ap (λ hs. header_at file at ∷ hs) (headers_suc file (at + 32) n ∙ ap (λ i. headers_from file (at + 32) n ++ header_at file i ∷ []) e)

pub headers_more : (file : List ℕ) (at n : ℕ) → headers_from file at (n + 1) ≡ headers_from file at n ++ header_at file (at + 32 * n) ∷ []
headers_more file at n = rw (add-one n) (headers_suc file at n)

pub no_headers : (file : List ℕ) (at : ℕ) → headers_from file at 0 ≡ []
unfolding headers_from
no_headers file at = refl

pub count_headers : (file : List ℕ) (at n : ℕ) → length (headers_from file at n) ≡ n
unfolding headers_from
count_headers file at zero = refl
count_headers file at (suc n) = ap suc (count_headers file (at + 32) n)
