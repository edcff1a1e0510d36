-- Each operand whose fields fit is spelled, and each that is spelled fits.
use Rattle.std.proofs.Common.{◌≡◌, ℕ, zero, suc, ◌+◌, ◌-◌, ◌*◌, ◌/◌, ◌%◌, ◌^◌, ◌<◌, Bool, true, false, cond, ltb, eqb, eq-eqb, ◌&&◌, ◌||◌, Option, Some, None, inl, inr, lit<, refl, sym, ap, subst, ◌∙◌, arith}
use Rattle.std.proofs.lemmas.Bool.{false≢true, lt-ltb, le-ltb, ltb-true, eqb-true, cond_both}
use Rattle.x86_types.specs.declared.operand.Reg.{Reg}
use Rattle.x86_types.specs.declared.operand.Reg.TheVariants as reg
use Rattle.x86_types.specs.declared.operand.Address.{Address}
use Rattle.x86_types.specs.declared.operand.Rm.{Rm}
use Rattle.x86_types.specs.declared.operand.Rm.TheVariants as rm
use Rattle.x86_types.specs.declared.width.Width.TheVariants.{Four}
use Rattle.x86_types.specs.Numbers.{number_of_reg, reg_of}
use Rattle.x86_types.specs.NumberLaws.{reg_of-number}
use Rattle.x86_grammar.specs.Parts.{signed}
use Rattle.x86_grammar.specs.Operand.{Operand, IsOperand, rm_of, has_sib, low_of, mod_size, disp_size, disp_of, base_of, index_in, index_of, scale_in, scale_of, address}
use Rattle.x86_grammar.specs.Fields.{number_fits, scale_fits, index_fits, address_fits, rm_fits}
use Rattle.x86_grammar.proofs.Map.{and_left, and_right, or_cases}

pub both : (a b : Bool) → a ≡ true → b ≡ true → (a && b) ≡ true
both a b p q = rw (p, q) refl

pub reg_low : (r : Reg) → number_of_reg r < 8
reg_low r = elim r as (λ r. number_of_reg r < 8) [ reg.Eax ↦ lit< tt | _ ↦ lit< tt ]

-- ---- what is spelled fits

scale_in_fits : (k : ℕ) → scale_fits (scale_in k) ≡ true
scale_in_fits zero = refl
scale_in_fits (suc zero) = refl
scale_in_fits (suc (suc zero)) = refl
scale_in_fits (suc (suc (suc k))) = refl

reg_fits : (x s : ℕ) → eqb x 4 ≡ false → scale_fits s ≡ true → index_fits (Some (reg_of x)) s ≡ true
reg_fits zero s e h = h
reg_fits (suc zero) s e h = h
reg_fits (suc (suc zero)) s e h = h
reg_fits (suc (suc (suc zero))) s e h = h
reg_fits (suc (suc (suc (suc zero)))) s e h = absurd (false≢true (sym e))
reg_fits (suc (suc (suc (suc (suc zero))))) s e h = h
reg_fits (suc (suc (suc (suc (suc (suc zero)))))) s e h = h
reg_fits (suc (suc (suc (suc (suc (suc (suc x))))))) s e h = h

index_in_fits : (b : Bool) (x s : ℕ) → index_fits (index_in b x) (scale_of (index_in b x) s) ≡ true
index_in_fits false x s = refl
index_in_fits true x s = cond_both (eqb x 4) None (Some (reg_of x)) (λ o. index_fits o (scale_of o s) ≡ true) (λ e. refl) (λ e. reg_fits x (scale_in (s / 64)) e (scale_in_fits (s / 64)))

signed_word : (d : ℕ) → d < 256 → signed Four d < 256 ^ 4
signed_word d h = cond_both (ltb d 0x80) d (d + (256 ^ 4 - 256)) (λ x. x < 256 ^ 4) (λ e. omega arith) (λ e. omega arith)

mod_disp : (k : ℕ) (five : Bool) (d : ℕ) → d < 256 ^ mod_size k five → disp_of (mod_size k five) d < 256 ^ 4
mod_disp zero true d h = h
mod_disp zero false d h = omega arith
mod_disp (suc zero) five d h = signed_word d h
mod_disp (suc (suc zero)) five d h = h
mod_disp (suc (suc (suc k))) five d h = omega arith

pub address_is_fit : (m s d : ℕ) → d < 256 ^ disp_size m s → address_fits (address m s d) ≡ true
address_is_fit m s d h = both _ _ (index_in_fits (has_sib m) (s / 8 % 8) s) (lt-ltb _ _ (mod_disp (m / 64) (eqb (low_of m s) 5) d h))

pub rm_is_fit : (o : Operand) → IsOperand o → rm_fits (rm_of o.m o.sib o.disp) ≡ true
rm_is_fit o h = cond_both (ltb o.m 0xC0) (rm.Mem (address o.m o.sib o.disp)) (rm.Reg (reg_of (o.m % 8))) (λ x. rm_fits x ≡ true) (λ e. address_is_fit o.m o.sib o.disp h.disp) (λ e. refl)

-- ---- what fits is spelled

-- an operand with that reg field that says that
pub record Shown (n : ℕ) (x : Rm) : Type 0 where
  pub operand : Operand
  pub is : IsOperand operand
  pub reg_field : operand.m / 8 % 8 ≡ n
  pub rm : rm_of operand.m operand.sib operand.disp ≡ x

-- the scale's two bits
record ScaleBits (s : ℕ) : Type 0 where
  k : ℕ
  low : k < 4
  again : scale_in k ≡ s

scale_bits : (s : ℕ) → scale_fits s ≡ true → ScaleBits s
scale_bits s h =
    elim (or_cases (eqb s 1 || eqb s 2 || eqb s 4) (eqb s 8) h) [
      | inr e ↦ record { k = 3; low = lit< tt; again = sym (eqb-true s 8 e) }
      | inl h ↦ elim (or_cases (eqb s 1 || eqb s 2) (eqb s 4) h) [
        | inr e ↦ record { k = 2; low = lit< tt; again = sym (eqb-true s 4 e) }
        | inl h ↦ elim (or_cases (eqb s 1) (eqb s 2) h) [
          | inl e ↦ record { k = 0; low = lit< tt; again = sym (eqb-true s 1 e) }
          | inr e ↦ record { k = 1; low = lit< tt; again = sym (eqb-true s 2 e) }
        ]
      ]
    ]

-- the bits of index and scale
record IndexBits (x : Option Reg) (s : ℕ) : Type 0 where
  ix : ℕ
  k : ℕ
  ix_low : ix < 8
  k_low : k < 4
  index : index_in true ix ≡ x
  scale : (sib : ℕ) → sib / 64 ≡ k → scale_of x sib ≡ s

some_index : (r : Reg) (s : ℕ) → index_in true (number_of_reg r) ≡ Some r → scale_fits s ≡ true → IndexBits (Some r) s
some_index r s e h =
    let b = scale_bits s h in
    record { ix = number_of_reg r; k = b.k; ix_low = reg_low r; k_low = b.low; index = e; scale = λ sib q. ap scale_in q ∙ b.again }

index_bits : (x : Option Reg) (s : ℕ) → index_fits x s ≡ true → IndexBits x s
index_bits None s h = record { ix = 4; k = 0; ix_low = lit< tt; k_low = lit< tt; index = refl; scale = λ sib q. sym (eqb-true s 1 h) }
index_bits (Some reg.Eax) s h = some_index reg.Eax s refl h
index_bits (Some reg.Ecx) s h = some_index reg.Ecx s refl h
index_bits (Some reg.Edx) s h = some_index reg.Edx s refl h
index_bits (Some reg.Ebx) s h = some_index reg.Ebx s refl h
index_bits (Some reg.Esp) s h = absurd (false≢true h)
index_bits (Some reg.Ebp) s h = some_index reg.Ebp s refl h
index_bits (Some reg.Esi) s h = some_index reg.Esi s refl h
index_bits (Some reg.Edi) s h = some_index reg.Edi s refl h

module _ (m s : ℕ) (hs : has_sib m ≡ true) where
  none_base : m / 64 ≡ 0 → s % 8 ≡ 5 → base_of m s ≡ None
  none_base hm hl = rw (hm, hs, hl) refl

  none_size : m / 64 ≡ 0 → s % 8 ≡ 5 → disp_size m s ≡ 4
  none_size hm hl = rw (hm, hs, hl) refl

  some_base : m / 64 ≡ 2 → (r : Reg) → s % 8 ≡ number_of_reg r → base_of m s ≡ Some r
  some_base hm r hl = rw (hm, hs, hl, reg_of-number) refl

  some_size : m / 64 ≡ 2 → disp_size m s ≡ 4
  some_size hm = rw hm refl

  index_again : (ix : ℕ) (x : Option Reg) → s / 8 % 8 ≡ ix → index_in true ix ≡ x → index_of m s ≡ x
  index_again ix x hi e = rw (hs, hi) e

sib_there : (m : ℕ) → m < 0xC0 → m % 8 ≡ 4 → has_sib m ≡ true
sib_there m lt e = both _ _ (lt-ltb m 0xC0 lt) (eq-eqb (m % 8) 4 e)

same_address : (b c x y : Option Reg) (s t d e : ℕ) → b ≡ c → x ≡ y → s ≡ t → d ≡ e → ◌≡◌ {A = Address} (record { base = b; index = x; scale = s; disp = d }) (record { base = c; index = y; scale = t; disp = e })
same_address b c x y s t d e p q u v = rw (p, q, u, v) refl

first_of : (b : Bool) (x y : Rm) → b ≡ true → cond b x y ≡ x
first_of true x y e = refl
first_of false x y e = absurd (false≢true e)

rm_again : (m s d : ℕ) (b x : Option Reg) (sc : ℕ) → ltb m 0xC0 ≡ true → base_of m s ≡ b → index_of m s ≡ x → scale_of x s ≡ sc → disp_of (disp_size m s) d ≡ d → rm_of m s d ≡ rm.Mem (record { base = b; index = x; scale = sc; disp = d })
rm_again m s d b x sc lt eb ex es ed =
    let e1 : scale_of (index_of m s) s ≡ sc = ap (λ (y : Option Reg). scale_of y s) ex ∙ es in
    let e2 = same_address (base_of m s) b (index_of m s) x (scale_of (index_of m s) s) sc (disp_of (disp_size m s) d) d eb ex e1 ed in
    first_of (ltb m 0xC0) (rm.Mem (address m s d)) (rm.Reg (reg_of (m % 8))) lt ∙ ap rm.Mem e2

module _ (n : ℕ) (low : n < 8) where
  -- by two bytes and a word of displacement
  four_shown : (m s d : ℕ) (b x : Option Reg) (sc : ℕ) → m < 0xC0 → m % 8 ≡ 4 → m / 8 % 8 ≡ n → s < 256 → d < 256 ^ 4 → base_of m s ≡ b → index_of m s ≡ x → scale_of x s ≡ sc → disp_size m s ≡ 4 → Shown n (rm.Mem (record { base = b; index = x; scale = sc; disp = d }))
  four_shown m s d b x sc lt me mn sl dl eb ex es size =
      let there = sib_there m lt me in
      record {
        operand = record { m = m; sib = s; disp = d };
        is = record { m = omega arith; sib = sl; none = λ e. absurd (false≢true (sym e ∙ there)); disp = subst (λ (k : ℕ). d < 256 ^ k) (sym size) dl };
        reg_field = mn;
        rm = rm_again m s d b x sc (lt-ltb m 0xC0 lt) eb ex es (ap (λ (k : ℕ). disp_of k d) size);
      }

  mem_shown : (b x : Option Reg) (sc d : ℕ) → index_fits x sc ≡ true → d < 256 ^ 4 → Shown n (rm.Mem (record { base = b; index = x; scale = sc; disp = d }))
  mem_shown None x sc d h dl =
      let i = index_bits x sc h in
      let k = i.k in
      let ix = i.ix in
      let m = 4 + 8 * n in
      let s = 64 * k + (8 * ix + 5) in
      let k_low = i.k_low in
      let ix_low = i.ix_low in
      let hs = sib_there m (omega arith) (omega arith) in
      let base : s % 8 ≡ 5 = omega arith in
      let top : m / 64 ≡ 0 = omega arith in
      four_shown m s d None x sc (omega arith) (omega arith) (omega arith) (omega arith) dl (none_base m s hs top base) (index_again m s hs ix x (omega arith) i.index) (i.scale s (omega arith)) (none_size m s hs top base)
  mem_shown (Some r) x sc d h dl =
      let i = index_bits x sc h in
      let k = i.k in
      let ix = i.ix in
      let m = 132 + 8 * n in
      let s = 64 * k + (8 * ix + number_of_reg r) in
      let k_low = i.k_low in
      let ix_low = i.ix_low in
      let r_low = reg_low r in
      let hs = sib_there m (omega arith) (omega arith) in
      let base : s % 8 ≡ number_of_reg r = omega arith in
      let top : m / 64 ≡ 2 = omega arith in
      four_shown m s d (Some r) x sc (omega arith) (omega arith) (omega arith) (omega arith) dl (some_base m s hs top r base) (index_again m s hs ix x (omega arith) i.index) (i.scale s (omega arith)) (some_size m s hs top)

  reg_shown : (r : Reg) → Shown n (rm.Reg r)
  reg_shown r =
      let r_low = reg_low r in
      let m = 0xC0 + (8 * n + number_of_reg r) in
      let high : ltb m 0xC0 ≡ false = le-ltb m 0xC0 (omega arith) in
      let base : m % 8 ≡ number_of_reg r = omega arith in
      let top : m / 64 ≡ 3 = omega arith in
      let size : disp_size m 0 ≡ 0 = rw top refl in
      record {
        operand = record { m = m; sib = 0; disp = 0 };
        is = record { m = omega arith; sib = lit< tt; none = λ e. refl; disp = subst (λ (k : ℕ). 0 < 256 ^ k) (sym size) (lit< tt) };
        reg_field = omega arith;
        rm = rw (high, base, reg_of-number) refl;
      }

  pub rm_shown : (x : Rm) → rm_fits x ≡ true → Shown n x
  rm_shown (rm.Reg r) h = reg_shown r
  rm_shown (rm.Mem a) h = mem_shown a.base a.index a.scale a.disp (and_left (index_fits a.index a.scale) (number_fits Four a.disp) h) (ltb-true _ _ (and_right (index_fits a.index a.scale) (number_fits Four a.disp) h))
