-- The best operand says the address, tested at each base, index, scale and class.
use Rattle.std.proofs.Common.{◌≡◌, ℕ, zero, suc, ◌+◌, ◌*◌, ◌/◌, ◌%◌, ◌<◌, Bool, true, false, cond, not, ltb, eqb, ◌&&◌, ◌||◌, Option, Some, None, refl, sym, ap, subst, ◌∙◌, inl, inr, lit<, arith}
use Rattle.std.proofs.lemmas.Bool.{agree_below, agree_below_at, false≢true, eqb-true, ltb-true, and_parts, or_cases}
use Rattle.x86_types.specs.declared.operand.Reg.{Reg}
use Rattle.x86_types.specs.declared.operand.Reg.TheVariants as reg
use Rattle.x86_types.specs.Numbers.{reg_of, number_of_reg}
use Rattle.x86_grammar.specs.Fields.{scale_fits, index_fits}
use Rattle.x86_grammar.specs.Operand.{has_sib, disp_size, base_of, index_of, scale_of, scale_in}
use Rattle.x86_encode.specs.BestOperand.{best_mod, best_size, best_rm, best_sib, wants_sib}

-- 8 for none
abbrev reg_at : ℕ → Option Reg
reg_at n = cond (ltb n 8) (Some (reg_of n)) None

abbrev index_at : ℕ → Option Reg
index_at n = cond (eqb n 4) None (Some (reg_of n))

abbrev code : Option Reg → ℕ
code None = 8
code (Some r) = number_of_reg r

abbrev index_code : Option Reg → ℕ
index_code None = 4
index_code (Some r) = number_of_reg r

abbrev scale_at : Option Reg → ℕ → ℕ
scale_at None k = 1
scale_at (Some r) k = scale_in k

abbrev alike : Bool → Bool → Bool
alike true b = b
alike false b = not b

module _ (b i : Option Reg) (s class : ℕ) where
  abbrev m : ℕ
  m = 64 * best_mod b class + best_rm b i

  abbrev sib : ℕ
  sib = best_sib b i s

  abbrev right : Bool
  right = ltb m 192 && (ltb sib 256 && (alike (has_sib m) (wants_sib b i) && (eqb (disp_size m sib) (best_size b class) && (eqb (code (base_of m sib)) (code b) && (eqb (code (index_of m sib)) (code i) && eqb (scale_of i sib) s)))))

abbrev all_classes : Option Reg → Option Reg → ℕ → Bool
all_classes b i s = right b i s 0 && (right b i s 1 && right b i s 2)

abbrev all_scales : Option Reg → Option Reg → Bool
all_scales b i = all_classes b i (scale_at i 0) && (all_classes b i (scale_at i 1) && (all_classes b i (scale_at i 2) && all_classes b i (scale_at i 3)))

tested : agree_below (λ k. all_scales (reg_at (k / 8)) (index_at (k % 8))) (λ k. true) 72 ≡ true
tested = refl

-- ---- lifted

reg_there : (b : Option Reg) → reg_at (code b) ≡ b
reg_there None = refl
reg_there (Some reg.Eax) = refl
reg_there (Some _) = refl

index_there : (i : Option Reg) (s : ℕ) → index_fits i s ≡ true → index_at (index_code i) ≡ i
index_there None s h = refl
index_there (Some reg.Esp) s h = absurd (false≢true h)
index_there (Some _) s h = refl

code_low : (b : Option Reg) → code b < 9
code_low None = lit< tt
code_low (Some reg.Eax) = lit< tt
code_low (Some _) = lit< tt

index_low : (i : Option Reg) → index_code i < 8
index_low None = lit< tt
index_low (Some reg.Eax) = lit< tt
index_low (Some _) = lit< tt

code_same : (x y : Option Reg) → code x ≡ code y → x ≡ y
code_same x y e = sym (reg_there x) ∙ ap reg_at e ∙ reg_there y

both_there : (b i : Option Reg) (s : ℕ) → index_fits i s ≡ true → all_scales b i ≡ true
both_there b i s h =
    let lb = code_low b in
    let li = index_low i in
    let k = 8 * code b + index_code i in
    let t = agree_below_at (λ k. all_scales (reg_at (k / 8)) (index_at (k % 8))) (λ k. true) 72 k tested (omega arith) in
    let high : k / 8 ≡ code b = omega arith in
    let less : k % 8 ≡ index_code i = omega arith in
    let eb : reg_at (k / 8) ≡ b = ap reg_at high ∙ reg_there b in
    let ei : index_at (k % 8) ≡ i = ap index_at less ∙ index_there i s h in
    let one = subst (λ (x : Option Reg). all_scales x (index_at (k % 8)) ≡ true) eb t in
    subst (λ (x : Option Reg). all_scales b x ≡ true) ei one

some_scale : (b : Option Reg) (r : Reg) (s : ℕ) → scale_fits s ≡ true → all_scales b (Some r) ≡ true → all_classes b (Some r) s ≡ true
some_scale b r s h t =
    let t1 = (and_parts (all_classes b (Some r) 1) (all_classes b (Some r) 2 && (all_classes b (Some r) 4 && all_classes b (Some r) 8)) t).1 in
    let t2 = (and_parts (all_classes b (Some r) 2) (all_classes b (Some r) 4 && all_classes b (Some r) 8) t1).1 in
    elim (or_cases (eqb s 1 || eqb s 2 || eqb s 4) (eqb s 8) h) [
      | inr e ↦ rw (eqb-true s 8 e) (and_parts (all_classes b (Some r) 4) (all_classes b (Some r) 8) t2).1
      | inl h ↦ elim (or_cases (eqb s 1 || eqb s 2) (eqb s 4) h) [
        | inr e ↦ rw (eqb-true s 4 e) (and_parts (all_classes b (Some r) 4) (all_classes b (Some r) 8) t2).0
        | inl h ↦ elim (or_cases (eqb s 1) (eqb s 2) h) [
          | inl e ↦ rw (eqb-true s 1 e) (and_parts (all_classes b (Some r) 1) (all_classes b (Some r) 2 && (all_classes b (Some r) 4 && all_classes b (Some r) 8)) t).0
          | inr e ↦ rw (eqb-true s 2 e) (and_parts (all_classes b (Some r) 2) (all_classes b (Some r) 4 && all_classes b (Some r) 8) t1).0
        ]
      ]
    ]

scale_there : (b i : Option Reg) (s : ℕ) → index_fits i s ≡ true → all_scales b i ≡ true → all_classes b i s ≡ true
scale_there b None s h t = rw (eqb-true s 1 h) (and_parts (all_classes b None 1) (all_classes b None 1 && (all_classes b None 1 && all_classes b None 1)) t).0
scale_there b (Some reg.Esp) s h t = absurd (false≢true h)
scale_there b (Some reg.Eax) s h t = some_scale b reg.Eax s h t
scale_there b (Some reg.Ecx) s h t = some_scale b reg.Ecx s h t
scale_there b (Some reg.Edx) s h t = some_scale b reg.Edx s h t
scale_there b (Some reg.Ebx) s h t = some_scale b reg.Ebx s h t
scale_there b (Some reg.Ebp) s h t = some_scale b reg.Ebp s h t
scale_there b (Some reg.Esi) s h t = some_scale b reg.Esi s h t
scale_there b (Some reg.Edi) s h t = some_scale b reg.Edi s h t

class_there : (b i : Option Reg) (s c : ℕ) → c < 3 → all_classes b i s ≡ true → right b i s c ≡ true
class_there b i s zero lt t = (and_parts (right b i s 0) (right b i s 1 && right b i s 2) t).0
class_there b i s (suc zero) lt t = (and_parts (right b i s 1) (right b i s 2) (and_parts (right b i s 0) (right b i s 1 && right b i s 2) t).1).0
class_there b i s (suc (suc zero)) lt t = (and_parts (right b i s 1) (right b i s 2) (and_parts (right b i s 0) (right b i s 1 && right b i s 2) t).1).1
class_there b i s (suc (suc (suc c))) lt t = absurd (omega arith)

alike_true : (a b : Bool) → alike a b ≡ true → a ≡ b
alike_true true b h = sym h
alike_true false true h = absurd (false≢true h)
alike_true false false h = refl

-- what ModRM and SIB say
pub record Says (m s : ℕ) (b i : Option Reg) (scale size : ℕ) : Type 0 where
  pub low : m < 192
  pub byte : s < 256
  pub sib : has_sib m ≡ wants_sib b i
  pub size_is : disp_size m s ≡ size
  pub base : base_of m s ≡ b
  pub index : index_of m s ≡ i
  pub scale_is : scale_of i s ≡ scale

opened : (x1 x2 x3 x4 x5 x6 x7 : Bool) → (x1 && (x2 && (x3 && (x4 && (x5 && (x6 && x7)))))) ≡ true → (x1 ≡ true) × (x2 ≡ true) × (x3 ≡ true) × (x4 ≡ true) × (x5 ≡ true) × (x6 ≡ true) × (x7 ≡ true)
opened true true true true true true true h = (refl, refl, refl, refl, refl, refl, refl)
opened false x2 x3 x4 x5 x6 x7 h = absurd (false≢true h)
opened true false x3 x4 x5 x6 x7 h = absurd (false≢true h)
opened true true false x4 x5 x6 x7 h = absurd (false≢true h)
opened true true true false x5 x6 x7 h = absurd (false≢true h)
opened true true true true false x6 x7 h = absurd (false≢true h)
opened true true true true true false x7 h = absurd (false≢true h)
opened true true true true true true false h = absurd (false≢true h)

pub best_says : (b i : Option Reg) (s c : ℕ) → index_fits i s ≡ true → c < 3 → Says (64 * best_mod b c + best_rm b i) (best_sib b i s) b i s (best_size b c)
best_says b i s c h lt =
    let t = class_there b i s c lt (scale_there b i s h (both_there b i s h)) in
    let x = opened (ltb (m b i s c) 192) (ltb (sib b i s c) 256) (alike (has_sib (m b i s c)) (wants_sib b i)) (eqb (disp_size (m b i s c) (sib b i s c)) (best_size b c)) (eqb (code (base_of (m b i s c) (sib b i s c))) (code b)) (eqb (code (index_of (m b i s c) (sib b i s c))) (code i)) (eqb (scale_of i (sib b i s c)) s) t in
    record {
      low = ltb-true _ _ x.0;
      byte = ltb-true _ _ x.1;
      sib = alike_true _ _ x.2;
      size_is = eqb-true _ _ x.3;
      base = code_same _ _ (eqb-true _ _ x.4);
      index = code_same _ _ (eqb-true _ _ x.5);
      scale_is = eqb-true _ _ x.6;
    }
