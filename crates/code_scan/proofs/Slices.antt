-- The bytes of code that one segment has.
use Rattle.std.proofs.Common.{◌≡◌, ℕ, zero, suc, ◌+◌, ◌-◌, ◌/◌, ◌%◌, ◌<◌, ◌≤◌, Bool, true, false, cond, ◌∷◌, length, take, drop, get_or, Some, None, refl, sym, ap, ◌∙◌, arith}
use Rattle.std.proofs.lemmas.Bool.Decides.{nat_tests}
use Rattle.std.proofs.lemmas.List.{drop_more}
use Rattle.image.specs.declared.image.Segment.{Segment}
use Rattle.image.specs.declared.image.Image.{Image}
use Rattle.image.specs.Addresses.{has, holds, segment_at, segment_byte, code_byte_at, code_byte_in, then_code, code_bytes}

by_perm : (b : Bool) (x : ℕ) → b ≡ true → cond b (Some x) None ≡ Some x
by_perm true x e = refl
by_perm false x e = absurd cc

byte_of : (image : Image) (s : Segment) (a : ℕ) → segment_at image a ≡ Some s → has s.perm.0 1 ≡ true → code_byte_at image a ≡ Some (segment_byte a s)
byte_of image s a there runs = ap (code_byte_in a) there ∙ by_perm (has s.perm.0 1) (segment_byte a s) runs

-- from an address on
pub code_of_segment : (image : Image) (s : Segment) (n a : ℕ) → ((k : ℕ) → k < n → segment_at image (a + k) ≡ Some s) → has s.perm.0 1 ≡ true → s.start ≤ a → (a - s.start) + n ≤ length s.bytes → code_bytes image a n ≡ take n (drop (a - s.start) s.bytes)
unfolding code_bytes
code_of_segment image s zero a there runs from within = refl
code_of_segment image s (suc n) a there runs from within =
    let here : segment_at image a ≡ Some s = ap (segment_at image) (omega arith) ∙ there 0 (omega arith) in
    let on : a + 1 - s.start ≡ a - s.start + 1 = omega arith in
    let rest : code_bytes image (a + 1) n ≡ take n (drop (a + 1 - s.start) s.bytes) = code_of_segment image s n (a + 1) (λ k low. ap (segment_at image) (omega arith) ∙ there (suc k) (omega arith)) runs (omega arith) (omega arith) in
    let split : drop (a - s.start) s.bytes ≡ get_or s.bytes (a - s.start) 0 ∷ drop (a - s.start + 1) s.bytes = drop_more s.bytes (a - s.start) 0 (omega arith) in
    ap (λ o. then_code o (code_bytes image (a + 1) n)) (byte_of image s a here runs) ∙ ap (λ xs. segment_byte a s ∷ xs) (rest ∙ ap (λ i. take n (drop i s.bytes)) on) ∙ sym (ap (take (suc n)) split)

from_start : (a : ℕ) (s : Segment) → holds a s ≡ true → s.start ≤ a
from_start a s h = grind (arith, nat_tests)

-- of a page
pub slice_of_page : (image : Image) (s : Segment) (a n : ℕ) → a % 4096 + n ≤ 4096 → segment_at image a ≡ Some s → ((b : ℕ) → b / 4096 ≡ a / 4096 → segment_at image b ≡ segment_at image a) → has s.perm.0 1 ≡ true → holds a s ≡ true → (a - s.start) + n ≤ length s.bytes → take n (drop (a - s.start) s.bytes) ≡ code_bytes image a n
slice_of_page image s a n page there same runs h within = sym (code_of_segment image s n a (λ k low. same (a + k) (omega arith) ∙ there) runs (from_start a s h) within)
