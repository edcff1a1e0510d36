-- The bytes of a file's pages, as they are copied.
use Rattle.std.proofs.Common.{◌≡◌, ℕ, zero, suc, ◌+◌, ◌-◌, ◌≤◌, ◌∙◌, min, List, [], ◌∷◌, ◌++◌, length, take, drop, replicate, refl, sym, ap, arith, length-take, length-append}
use Rattle.std.proofs.lemmas.List.{drop_min, take_min, take_all, take_rest, take-take, take-replicate, length-replicate}
use Rattle.elf_image.specs.Pages.{window, zeroed_from}

-- what is there of n bytes, and zeros in the place of the others
filled : (n m : ℕ) (xs : List ℕ) → n ≤ m → take n (xs ++ replicate m 0) ≡ take n xs ++ replicate (n - length xs) 0
filled zero m [] up = refl
filled (suc n) m [] up = let e : suc n ≡ suc n - 0 = omega arith in take-replicate (suc n) m 0 up ∙ ap (λ k. replicate k 0) e
filled zero m (x ∷ xs) up = let e : 0 - length (x ∷ xs) ≡ 0 = omega arith in ap (λ k. replicate k 0) (sym e)
filled (suc n) m (x ∷ xs) up =
    let e : suc n - length (x ∷ xs) ≡ n - length xs = omega arith in
    ap (λ ys. x ∷ ys) (filled n m xs (omega arith)) ∙ ap (λ k. x ∷ (take n xs ++ replicate k 0)) (sym e)

window_is : (file : List ℕ) (from n : ℕ) → take n (drop from file) ++ replicate (n - length (drop from file)) 0 ≡ window file from n
window_is file from n = sym (filled n n (drop from file) (omega arith))

-- a window is made of what there is from `start` on, at most n bytes, and of zeros
pub window_made : (file made copied done : List ℕ) (from n start kept z len : ℕ) → start ≡ min from (length file) → kept ≡ min n (length (take (length file - start) (drop start file)))
    → made ≡ [] → copied ≡ made ++ take kept (take (length file - start) (drop start file)) → z ≡ 0 → len ≡ z + length (take kept (take (length file - start) (drop start file)))
    → done ≡ take n copied ++ replicate (n - len) 0 → done ≡ window file from n
window_made file made copied done from n start kept z len e1 e2 e3 e4 e5 e6 e7 =
    let rest = take (length file - start) (drop start file) in
    let r = drop from file in
    let rest_is : rest ≡ r = take_rest file start ∙ ap (λ k. drop k file) e1 ∙ drop_min from file in
    let kept_is : kept ≡ min n (length r) = e2 ∙ ap (λ xs. min n (length xs)) rest_is in
    let taken : take kept rest ≡ take n r = ap (take kept) rest_is ∙ ap (λ k. take k r) kept_is ∙ take_min n r in
    let copied_is : copied ≡ take n r = e4 ∙ ap (λ xs. xs ++ take kept rest) e3 ∙ taken in
    let front : take n copied ≡ take n r = ap (take n) copied_is ∙ take-take n n r (omega arith) in
    let counted : length (take kept rest) ≡ length (take n r) = ap length taken in
    let size : length (take n r) ≡ min n (length r) = length-take n r in
    let count : n - len ≡ n - length r = omega arith in
    e7 ∙ ap (λ xs. xs ++ replicate (n - len) 0) front ∙ ap (λ k. take n r ++ replicate k 0) count ∙ window_is file from n

pub length_window : (file : List ℕ) (from n : ℕ) → length (window file from n) ≡ n
length_window file from n =
    let all : length (drop from file ++ replicate n 0) ≡ length (drop from file) + n = length-append (drop from file) (replicate n 0) ∙ ap (λ k. length (drop from file) + k) (length-replicate n 0) in
    let some : min n (length (drop from file ++ replicate n 0)) ≡ n = omega arith in
    length-take n (drop from file ++ replicate n 0) ∙ some

-- a cut list that is filled up again
pub cleared : (n k len : ℕ) (bytes cut done : List ℕ) → length bytes ≡ n → k ≤ n → cut ≡ take k bytes → len + (n - k) ≡ n → done ≡ take n cut ++ replicate (n - len) 0 → done ≡ zeroed_from k n bytes
cleared n k len bytes cut done size low is short e =
    let same : take n cut ≡ take k bytes = ap (take n) is ∙ take_all n (take k bytes) (omega (arith, length-take k bytes)) in
    let count : n - len ≡ n - k = omega arith in
    e ∙ ap (λ xs. xs ++ replicate (n - len) 0) same ∙ ap (λ m. take k bytes ++ replicate m 0) count
