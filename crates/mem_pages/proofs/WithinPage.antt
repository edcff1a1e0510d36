-- Words that are loaded from one page: the bytes that stand in it, and what they are in the memory.
use Rattle.std.proofs.Common.{◌≡◌, ℕ, zero, suc, ◌+◌, ◌<◌, ◌≤◌, ◌&&◌, Bool, true, false, cond, ltb, length, get_or, Some, None, arith, refl, sym, ◌∙◌, ap}
use Rattle.std.proofs.lemmas.Bool.{cond-false}
use Rattle.std.proofs.lemmas.List.{get_or_default}
use Rattle.std.proofs.lemmas.Bool.Decides.{nat_tests}
use Rattle.x86_values.specs.declared.byte.Byte.{Byte}
use Rattle.x86_values.specs.declared.byte.Byte.TheVariants.{Known}
use Rattle.memory.specs.Memory.{Memory, AccessKind, Load, allows, allows_all, byte_of, bytes_at, wrapped}
use Rattle.mem_pages.specs.declared.page.Page.{Page}
use Rattle.mem_pages.specs.Regions.{is_unspecified}
use Rattle.mem_pages.specs.Page.{maps, byte_in, place_in, is_plain, seen}
use Rattle.mem_pages.specs.Accesses.{loaded}
use Rattle.mem_pages.proofs.PageSteps.{place_of}
use Rattle.mem_pages.proofs.Runs.{joins, loads_one, loads_two, loads_four}

-- ---- the same places
same_allowed : (kind : AccessKind) (m n : Memory) (a b size : ℕ) → ((k : ℕ) → k < size → m (wrapped (a + k)) ≡ n (wrapped (b + k))) → allows_all kind m a size ≡ allows_all kind n b size
unfolding allows_all
same_allowed kind m n a b zero h = refl
same_allowed kind m n a b (suc size) h =
    let x : a + 0 ≡ a = omega arith in
    let y : b + 0 ≡ b = omega arith in
    let first : m (wrapped a) ≡ n (wrapped b) = rw (x, y) at (h 0 (omega arith)) in
    let rest : (k : ℕ) → k < size → m (wrapped (a + 1 + k)) ≡ n (wrapped (b + 1 + k)) = λ k l. let v : a + 1 + k ≡ a + suc k = omega arith in let w : b + 1 + k ≡ b + suc k = omega arith in rw (v, w) (h (suc k) (omega arith)) in
    rw (ap (allows kind) first, same_allowed kind m n (a + 1) (b + 1) size rest) refl

same_bytes : (m n : Memory) (a b size : ℕ) → ((k : ℕ) → k < size → m (wrapped (a + k)) ≡ n (wrapped (b + k))) → bytes_at m a size ≡ bytes_at n b size
unfolding bytes_at
same_bytes m n a b zero h = refl
same_bytes m n a b (suc size) h =
    let x : a + 0 ≡ a = omega arith in
    let y : b + 0 ≡ b = omega arith in
    let first : m (wrapped a) ≡ n (wrapped b) = rw (x, y) at (h 0 (omega arith)) in
    let rest : (k : ℕ) → k < size → m (wrapped (a + 1 + k)) ≡ n (wrapped (b + 1 + k)) = λ k l. let v : a + 1 + k ≡ a + suc k = omega arith in let w : b + 1 + k ≡ b + suc k = omega arith in rw (v, w) (h (suc k) (omega arith)) in
    rw (ap byte_of first, same_bytes m n (a + 1) (b + 1) size rest) refl

pub same_loaded : (m n : Memory) (a b size : ℕ) → ((k : ℕ) → k < size → m (wrapped (a + k)) ≡ n (wrapped (b + k))) → loaded m a size ≡ loaded n b size
same_loaded m n a b size h = rw (same_allowed Load m n a b size h, same_bytes m n a b size h) refl

-- ---- places that are read as they are kept
pub plain_maps : (g : Page) (hidden : Bool) (at count k : ℕ) → is_plain g hidden at count ≡ true → at ≤ k → k < at + count → maps g k ≡ true
plain_maps g hidden at count k h l m = grind (arith, nat_tests)

plain_shows : (g : Page) (hidden : Bool) (at count k : ℕ) → is_plain g hidden at count ≡ true → at ≤ k → (is_unspecified g.unset && ltb k g.low) ≡ false
plain_shows g hidden at count k h l = grind (arith, nat_tests)

pub plain_len : (g : Page) (hidden : Bool) (at count : ℕ) → is_plain g hidden at count ≡ true → 4096 ≤ length g.bytes.items
plain_len g hidden at count h = grind (arith, nat_tests)

pub plain_off : (g : Page) (hidden : Bool) (at count : ℕ) → is_plain g hidden at count ≡ true → hidden ≡ true → is_unspecified g.unset ≡ false
plain_off g hidden at count h e = grind (arith, nat_tests)

plain_seen : (g : Page) (hidden : Bool) (at count k : ℕ) (d : Byte) → is_plain g hidden at count ≡ true → at + count ≤ 4096 → k < count → seen (place_in g (wrapped (at + k))) ≡ Some (get_or g.bytes.items (at + k) d)
unfolding place_in
plain_seen g hidden at count k d h l m =
    let z : wrapped (at + k) ≡ at + k = omega arith in
    let len = plain_len g hidden at count h in
    rw z (ap (λ t. seen (cond t (Some (place_of g (at + k) (byte_in g (at + k)))) None)) (plain_maps g hidden at count (at + k) h (omega arith) (omega arith))
    ∙ ap Some (cond-false _ _ _ (plain_shows g hidden at count (at + k) h (omega arith)) ∙ get_or_default g.bytes.items (at + k) g.unset d (omega (arith, len))))

pub word_one : (g : Page) (hidden : Bool) (at size : ℕ) (a : Byte) → size ≡ 1 → is_plain g hidden at size ≡ true → at + size ≤ 4096 → a ≡ get_or g.bytes.items at a → loaded (place_in g) at size ≡ Some (record { b0 = a; b1 = Known 0; b2 = Known 0; b3 = Known 0 })
word_one g hidden at size a e h l p =
    let z : at + 0 ≡ at = omega arith in
    let s0 : seen (place_in g (wrapped at)) ≡ Some a = (rw z at (plain_seen g hidden at size 0 a h l (omega (arith, e)))) ∙ ap Some (sym p) in
    rw e (sym (loads_one (place_in g) at) ∙ joins s0 refl refl refl)

pub word_two : (g : Page) (hidden : Bool) (at size : ℕ) (a b : Byte) → size ≡ 2 → is_plain g hidden at size ≡ true → at + size ≤ 4096 → a ≡ get_or g.bytes.items at a → b ≡ get_or g.bytes.items (at + 1) b → loaded (place_in g) at size ≡ Some (record { b0 = a; b1 = b; b2 = Known 0; b3 = Known 0 })
word_two g hidden at size a b e h l p q =
    let z : at + 0 ≡ at = omega arith in
    let s0 : seen (place_in g (wrapped at)) ≡ Some a = (rw z at (plain_seen g hidden at size 0 a h l (omega (arith, e)))) ∙ ap Some (sym p) in
    let s1 : seen (place_in g (wrapped (at + 1))) ≡ Some b = plain_seen g hidden at size 1 b h l (omega (arith, e)) ∙ ap Some (sym q) in
    rw e (sym (loads_two (place_in g) at) ∙ joins s0 s1 refl refl)

pub word_four : (g : Page) (hidden : Bool) (at size : ℕ) (a b c d : Byte) → size ≡ 4 → is_plain g hidden at size ≡ true → at + size ≤ 4096 → a ≡ get_or g.bytes.items at a → b ≡ get_or g.bytes.items (at + 1) b → c ≡ get_or g.bytes.items (at + 2) c → d ≡ get_or g.bytes.items (at + 3) d → loaded (place_in g) at size ≡ Some (record { b0 = a; b1 = b; b2 = c; b3 = d })
word_four g hidden at size a b c d e h l p q r s =
    let z : at + 0 ≡ at = omega arith in
    let s0 : seen (place_in g (wrapped at)) ≡ Some a = (rw z at (plain_seen g hidden at size 0 a h l (omega (arith, e)))) ∙ ap Some (sym p) in
    let s1 : seen (place_in g (wrapped (at + 1))) ≡ Some b = plain_seen g hidden at size 1 b h l (omega (arith, e)) ∙ ap Some (sym q) in
    let s2 : seen (place_in g (wrapped (at + 2))) ≡ Some c = plain_seen g hidden at size 2 c h l (omega (arith, e)) ∙ ap Some (sym r) in
    let s3 : seen (place_in g (wrapped (at + 3))) ≡ Some d = plain_seen g hidden at size 3 d h l (omega (arith, e)) ∙ ap Some (sym s) in
    rw e (sym (loads_four (place_in g) at) ∙ joins s0 s1 s2 s3)
