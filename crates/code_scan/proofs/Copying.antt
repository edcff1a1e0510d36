-- The bytes that can be run, copied one by one, and the instruction that is decoded from them.
use Rattle.std.proofs.Common.{◌≡◌, ◌↔◌, ℕ, suc, ◌+◌, ◌-◌, ◌<◌, ◌≤◌, List, [], ◌∷◌, ◌++◌, length, take, set, Option, Some, None, refl, sym, ap, ◌∙◌, append_assoc, append-nil, arith}
use Rattle.std.proofs.lemmas.List.{take_more_set, length-set}
use Rattle.image.specs.declared.image.Image.{Image}
use Rattle.image.specs.Addresses.{code_byte_at, code_bytes, then_code}
use Rattle.x86_types.specs.declared.instr.Instr.{Instr}
use Rattle.x86_decode.specs.declared.decoding.Decoded.{Decoded}
use Rattle.x86_decode.specs.declared.decoding.Decoded.TheVariants.{One, Outside, Short}

-- one by one
bytes_from : (image : Image) (at n : ℕ) → code_bytes image at (suc n) ≡ then_code (code_byte_at image at) (code_bytes image (at + 1) n)
unfolding code_bytes
bytes_from image at n = refl

no_bytes : (image : Image) (at : ℕ) → code_bytes image at 0 ≡ []
unfolding code_bytes
no_bytes image at = refl

one_more : (n i : ℕ) → i < n → n - i ≡ suc (n - (i + 1))
one_more n i within = omega arith

-- no more bytes
pub no_byte : (image : Image) (all xs : List ℕ) (at n i : ℕ) → i < n → None ≡ code_byte_at image at → all ≡ take i xs ++ code_bytes image at (n - i) → take i xs ≡ all
no_byte image all xs at n i within none is =
    let k : code_bytes image at (n - i) ≡ [] = ap (code_bytes image at) (one_more n i within) ∙ bytes_from image at (n - (i + 1)) ∙ ap (λ b. then_code b (code_bytes image (at + 1) (n - (i + 1)))) (sym none) in
    sym (is ∙ ap (λ ys. take i xs ++ ys) k ∙ append-nil (take i xs))

-- one more
pub one_byte : (image : Image) (from : ℕ) (xs : List ℕ) (at i b : ℕ) → i < length xs → Some b ≡ code_byte_at image at → code_bytes image from (length xs) ≡ take i xs ++ code_bytes image at (length xs - i) → code_bytes image from (length (set xs i b)) ≡ take (i + 1) (set xs i b) ++ code_bytes image (at + 1) (length (set xs i b) - (i + 1))
one_byte image from xs at i b within some is =
    let n : ℕ = length xs in
    let rest : List ℕ = code_bytes image (at + 1) (n - (i + 1)) in
    let k : code_bytes image at (n - i) ≡ b ∷ rest = ap (code_bytes image at) (one_more n i within) ∙ bytes_from image at (n - (i + 1)) ∙ ap (λ o. then_code o rest) (sym some) in
    let t : take (i + 1) (set xs i b) ≡ take i xs ++ b ∷ [] = take_more_set xs i b within in
    let l : length (set xs i b) ≡ n = length-set xs i b in
    ap (code_bytes image from) l ∙ is ∙ ap (λ ys. take i xs ++ ys) k ∙ sym (append_assoc (take i xs) (b ∷ []) rest) ∙ ap (λ ys. ys ++ rest) (sym t) ∙ ap (λ m. take (i + 1) (set xs i b) ++ code_bytes image (at + 1) (m - (i + 1))) (sym l)

-- all
pub no_more : (image : Image) (from : ℕ) (xs : List ℕ) (at i : ℕ) → i ≤ length xs → length xs ≤ i → code_bytes image from (length xs) ≡ take i xs ++ code_bytes image at (length xs - i) → take (length xs) xs ≡ code_bytes image from (length xs)
no_more image from xs at i within past is =
    let z : length xs - i ≡ 0 = omega arith in
    let e : i ≡ length xs = omega arith in
    sym (is ∙ ap (λ k. take i xs ++ code_bytes image at k) z ∙ ap (λ ys. take i xs ++ ys) (no_bytes image at) ∙ append-nil (take i xs) ∙ ap (λ k. take k xs) e)

-- nothing is decoded where no instruction stands
pub none_decoded : (d : Decoded) (o : Option (Instr × ℕ)) → ((i : Instr) (len : ℕ) → (d ≡ One i len) ↔ (o ≡ Some (i, len))) → ((i : Instr) (len : ℕ) → d ≡ One i len → ⊥) → None ≡ o
none_decoded d None f g = refl
none_decoded d (Some p) f g = absurd (g p.0 p.1 ((f p.0 p.1).1 refl))

pub outside_is_none : (i : Instr) (len : ℕ) → Outside ≡ One i len → ⊥
outside_is_none i len e = cc

pub short_is_none : (i : Instr) (len : ℕ) → Short ≡ One i len → ⊥
short_is_none i len e = cc
