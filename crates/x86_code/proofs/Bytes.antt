-- The bytes that can be run from an address on, and the instruction that stands there.
use Rattle.std.proofs.Common.{◌≡◌, ℕ, zero, suc, ◌+◌, ◌≤◌, List, [], ◌∷◌, take, Option, Some, None, refl, sym, ap, ◌∙◌, arith}
use Rattle.image.specs.declared.image.Image.{Image}
use Rattle.image.specs.Addresses.{code_byte_at, then_code, code_bytes}
use Rattle.x86_grammar.specs.Front.{front}
use Rattle.x86_code.specs.Code.{code_of}

one_byte : (o : Option ℕ) (k : ℕ) (xs ys : List ℕ) → take k xs ≡ ys → take (suc k) (then_code o xs) ≡ then_code o ys
one_byte None k xs ys h = refl
one_byte (Some b) k xs ys h = ap (λ x. b ∷ x) h

fewer_bytes : (image : Image) (k n a : ℕ) → k ≤ n → take k (code_bytes image a n) ≡ code_bytes image a k
unfolding code_bytes
fewer_bytes image zero n a h = refl
fewer_bytes image (suc k) zero a h = absurd (omega arith)
fewer_bytes image (suc k) (suc n) a h = one_byte (code_byte_at image a) k (code_bytes image (a + 1) n) (code_bytes image (a + 1) k) (fewer_bytes image k n (a + 1) (omega arith))

pub by_bytes : ((bytes : List ℕ) → front (take 15 bytes) ≡ front bytes) → (image : Image) (a n : ℕ) → 15 ≤ n → code_of image a ≡ front (code_bytes image a n)
unfolding code_of
by_bytes fifteen image a n h = sym (ap front (fewer_bytes image 15 n a h)) ∙ fifteen (code_bytes image a n)

no_bytes : (image : Image) (a n : ℕ) → code_byte_at image a ≡ None → code_bytes image a n ≡ []
unfolding code_bytes
no_bytes image a zero h = refl
no_bytes image a (suc n) h = ap (λ o. then_code o (code_bytes image (a + 1) n)) h

pub none_there : front [] ≡ None → (image : Image) (a : ℕ) → code_byte_at image a ≡ None → code_of image a ≡ None
unfolding code_of
none_there nothing image a h = ap front (no_bytes image a 15 h) ∙ nothing
