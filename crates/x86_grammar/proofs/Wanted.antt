-- Some text for each place at which a list may end: after any prefixes, and behind 0F.
use Rattle.std.proofs.Common.{◌≡◌, ℕ, zero, suc, ◌+◌, ◌-◌, ◌<◌, true, false, eqb, ◌&&◌, ◌||◌, List, [], ◌∷◌, ◌++◌, length, Some, lit<, refl, ap, subst, arith, length-append}
use Rattle.std.proofs.lemmas.Bool.{le-ltb, lt-ltb}
use Rattle.std.proofs.lemmas.List.{nil_from_length}
use Rattle.std.proofs.Math.Bool.{or-true}
use Rattle.std.specs.List.{AllByRecursion}
use Rattle.x86_types.specs.declared.instr.Instr.{Instr}
use Rattle.x86_types.specs.declared.instr.Instr.TheVariants as instr
use Rattle.x86_types.specs.declared.operand.Reg.TheVariants.{Eax}
use Rattle.x86_types.specs.declared.width.Width.TheVariants.{Two}
use Rattle.x86_grammar.specs.declared.row.Row.TheVariants as row
use Rattle.x86_grammar.specs.declared.row.Counts.{Counts}
use Rattle.x86_grammar.specs.declared.reading.Seen.TheVariants.{Found, Needs}
use Rattle.x86_grammar.specs.Reading.{least_of, least_escaped_of, numbers, m_at, plain_at, after_opcode}
use Rattle.x86_grammar.specs.Spells.{prefixes_fit, opcode_bytes, is_prefix, counted}
use Rattle.x86_grammar.specs.Table.{entry_of}
use Rattle.x86_grammar.proofs.Tells.{Texts, Lacks}
use Rattle.x86_grammar.proofs.Stages.{Spelled, opcode_tells}

-- prefixes, an opcode, and what stands behind it
pub record Prefixed (c : Counts) (t : List ℕ) (i : Instr) : Type 0 where
  pub prefixes : List ℕ
  pub opcode : ℕ
  pub text : List ℕ
  pub all : AllByRecursion (λ b. is_prefix b ≡ true) prefixes
  pub small : opcode < 0x200
  pub behind : Spelled (entry_of opcode) (counted c prefixes) text i
  pub is : t ≡ prefixes ++ (opcode_bytes opcode ++ text)

abbrev pub Escaped : Counts → Texts
Escaped c t i = Prefixed c (0x0F ∷ t) i

one_byte : (b : ℕ) → b < 256 → opcode_bytes b ≡ b ∷ []
one_byte b lt = rw (lt-ltb b 0x100 lt) refl

two_bytes : (b : ℕ) → opcode_bytes (0x100 + b) ≡ 0x0F ∷ b ∷ []
two_bytes b =
    let high = le-ltb (0x100 + b) 0x100 (omega arith) in
    let low : 0x100 + b - 0x100 ≡ b = omega arith in
    rw (high, low) refl

no_prefix_yet : (c : Counts) (opcode : ℕ) (t : List ℕ) (i : Instr) → opcode < 0x200 → Spelled (entry_of opcode) c t i → Prefixed c (opcode_bytes opcode ++ t) i
no_prefix_yet c opcode t i lt x = record { prefixes = []; opcode = opcode; text = t; all = tt; small = lt; behind = x; is = refl }

pub here : (c : Counts) (b : ℕ) (t : List ℕ) (i : Instr) → b < 256 → Spelled (entry_of b) c t i → Prefixed c (b ∷ t) i
here c b t i lt x = subst (λ (o : List ℕ). Prefixed c (o ++ t) i) (one_byte b lt) (no_prefix_yet c b t i (omega arith) x)

pub escaped_here : (c : Counts) (b : ℕ) (t : List ℕ) (i : Instr) → b < 256 → Spelled (entry_of (0x100 + b)) c t i → Escaped c (b ∷ t) i
escaped_here c b t i lt x = subst (λ (o : List ℕ). Prefixed c (o ++ t) i) (two_bytes b) (no_prefix_yet c (0x100 + b) t i (omega arith) x)

-- ---- a byte, and what its entry wants behind it

module _ (P : Texts) (c : Counts) (opcode b : ℕ) (on : (t : List ℕ) (i : Instr) → Spelled (entry_of opcode) c t i → P (b ∷ t) i) where
  by_needs : (n k : ℕ) → after_opcode (entry_of opcode) c [] ≡ Needs n → 1 + n ≡ k → Lacks P [] k
  by_needs n k e len =
      let w = (opcode_tells (entry_of opcode) c).needs [] n tt e in
      record { more = b ∷ w.more; instr = w.instr; len = omega (arith, w.len, len); some = omega (arith, len); right = on w.more w.instr w.right }

  by_found : (i : Instr) (k : ℕ) → after_opcode (entry_of opcode) c [] ≡ Found i 0 → 1 ≡ k → Lacks P [] k
  by_found i k e len =
      let g = (opcode_tells (entry_of opcode) c).found [] i 0 tt e in
      let none : g.text ≡ [] = nil_from_length g.text (omega (arith, ap length g.parts, length-append g.text g.rest)) in
      record { more = b ∷ []; instr = i; len = omega (arith, len); some = omega (arith, len); right = on [] i (subst (λ (t : List ℕ). Spelled (entry_of opcode) c t i) none g.right) }

-- ---- what stands there

abbrev counts : ℕ → ℕ → ℕ → ℕ → Counts
counts h s x p = record { operand_sizes = h; segments = s; hints = x; repeats = p }

nop_fits : (h : ℕ) → prefixes_fit row.Nop (counts h 0 0 0) ≡ true
nop_fits h = rw (or-true (eqb h 0 || (eqb h 1 && false))) refl

long_fits : (h s : ℕ) → prefixes_fit row.NopLong (counts h s 0 0) ≡ true
long_fits h s = rw (or-true (eqb h 0 || (eqb h 1 && false)), or-true (eqb s 0)) refl

nop_found : (h : ℕ) → after_opcode (entry_of 0x90) (counts h 0 0 0) [] ≡ Found instr.Nop 0
unfolding after_opcode plain_at entry_of numbers
nop_found h = rw (nop_fits h) refl

lea_needs : (h s : ℕ) → (eqb h 0 || (eqb h 1 && true)) ≡ true → after_opcode (entry_of 0x8D) (counts h s 0 0) [] ≡ Needs 1
unfolding after_opcode m_at entry_of
lea_needs h s e = rw (e, or-true (eqb s 0)) refl

long_needs : (h s : ℕ) → after_opcode (entry_of 0x11F) (counts h s 0 0) [] ≡ Needs 1
unfolding after_opcode m_at entry_of
long_needs h s = rw (long_fits h s) refl

call_needs : after_opcode (entry_of 0xFF) (counts 0 0 1 0) [] ≡ Needs 1
unfolding after_opcode m_at entry_of
call_needs = refl

ret_found : after_opcode (entry_of 0xC3) (counts 0 0 0 1) [] ≡ Found (instr.Ret 0) 0
unfolding after_opcode plain_at entry_of numbers
ret_found = refl

movs_found : after_opcode (entry_of 0xA5) (counts 1 0 0 1) [] ≡ Found (instr.Movs Two true) 0
unfolding after_opcode plain_at entry_of numbers
movs_found = refl

swap_found : after_opcode (entry_of 0x1C8) (counts 0 0 0 0) [] ≡ Found (instr.Bswap Eax) 0
unfolding after_opcode plain_at entry_of numbers
swap_found = refl

end_needs : after_opcode (entry_of 0x11E) (counts 0 0 0 1) [] ≡ Needs 1
unfolding after_opcode plain_at entry_of numbers
end_needs = refl

-- ---- after any prefixes, and behind 0F

some_is : (n k : ℕ) → Some n ≡ Some k → n ≡ k
some_is n k e = cc

one_found : (c : Counts) (b k : ℕ) (i : Instr) → b < 256 → after_opcode (entry_of b) c [] ≡ Found i 0 → Some 1 ≡ Some k → Lacks (Prefixed c) [] k
one_found c b k i lt e q = by_found (Prefixed c) c b b (λ t i x. here c b t i lt x) i k e (some_is 1 k q)

one_needs : (c : Counts) (b k : ℕ) → b < 256 → after_opcode (entry_of b) c [] ≡ Needs 1 → Some 2 ≡ Some k → Lacks (Prefixed c) [] k
one_needs c b k lt e q = by_needs (Prefixed c) c b b (λ t i x. here c b t i lt x) 1 k e (some_is 2 k q)

escaped_found : (c : Counts) (b k : ℕ) (i : Instr) → b < 256 → after_opcode (entry_of (0x100 + b)) c [] ≡ Found i 0 → Some 1 ≡ Some k → Lacks (Escaped c) [] k
escaped_found c b k i lt e q = by_found (Escaped c) c (0x100 + b) b (λ t i x. escaped_here c b t i lt x) i k e (some_is 1 k q)

escaped_needs : (c : Counts) (b k : ℕ) → b < 256 → after_opcode (entry_of (0x100 + b)) c [] ≡ Needs 1 → Some 2 ≡ Some k → Lacks (Escaped c) [] k
escaped_needs c b k lt e q = by_needs (Escaped c) c (0x100 + b) b (λ t i x. escaped_here c b t i lt x) 1 k e (some_is 2 k q)

-- 0F as well
long_lacks : (c : Counts) (k : ℕ) → after_opcode (entry_of 0x11F) c [] ≡ Needs 1 → Some 3 ≡ Some k → Lacks (Prefixed c) [] k
long_lacks c k e q =
    let w = escaped_needs c 0x1F 2 (lit< tt) e refl in
    record { more = 0x0F ∷ w.more; instr = w.instr; len = omega (arith, w.len, some_is 3 k q); some = omega (arith, some_is 3 k q); right = w.right }

pub opcode_wants : (h s x p k : ℕ) → least_of h s x p ≡ Some k → Lacks (Prefixed (counts h s x p)) [] k
opcode_wants h zero zero zero k e = one_found _ 0x90 k instr.Nop (lit< tt) (nop_found h) e
opcode_wants zero (suc s) zero zero k e = one_needs _ 0x8D k (lit< tt) (lea_needs 0 (suc s) refl) e
opcode_wants (suc zero) (suc s) zero zero k e = one_needs _ 0x8D k (lit< tt) (lea_needs 1 (suc s) refl) e
opcode_wants (suc (suc h)) (suc s) zero zero k e = long_lacks _ k (long_needs (suc (suc h)) (suc s)) e
opcode_wants zero zero (suc zero) zero k e = one_needs _ 0xFF k (lit< tt) call_needs e
opcode_wants zero zero zero (suc zero) k e = one_found _ 0xC3 k (instr.Ret 0) (lit< tt) ret_found e
opcode_wants (suc zero) zero zero (suc zero) k e = one_found _ 0xA5 k (instr.Movs Two true) (lit< tt) movs_found e
opcode_wants h s x p k e = absurd cc

pub escaped_wants : (h s x p k : ℕ) → least_escaped_of h s x p ≡ Some k → Lacks (Escaped (counts h s x p)) [] k
escaped_wants zero zero zero zero k e = escaped_found _ 0xC8 k (instr.Bswap Eax) (lit< tt) swap_found e
escaped_wants (suc h) s zero zero k e = escaped_needs _ 0x1F k (lit< tt) (long_needs (suc h) s) e
escaped_wants zero (suc s) zero zero k e = escaped_needs _ 0x1F k (lit< tt) (long_needs 0 (suc s)) e
escaped_wants zero zero zero (suc zero) k e = escaped_needs _ 0x1E k (lit< tt) end_needs e
escaped_wants h s x p k e = absurd cc
