-- Addresses, in temporaries.
use Rattle.std.proofs.Common.{◌≡◌, ℕ, ◌+◌, ◌*◌, ◌%◌, ◌<◌, ◌==◌, false, List, ◌++◌, Option, Some, None, Result, refl, sym, ◌∙◌, ap, subst, arith, lit<}
use Rattle.std.proofs.lemmas.Bool.{cond-true, cond-false, eq-eqb}
use Rattle.x86_values.specs.declared.word.Word.{Word}
use Rattle.x86_values.specs.Words.{word_of, known}
use Rattle.x86_values.specs.LessSpecified.{WordLessSpecified}
use Rattle.traces.specs.Trace.{End}
use Rattle.x86_types.specs.declared.operand.Reg.{Reg}
use Rattle.x86_types.specs.declared.operand.Reg.TheVariants as register
use Rattle.x86_types.specs.declared.operand.Address.{Address}
use Rattle.x86_types.specs.Numbers.{number_of_reg}
use Rattle.x86_meaning.specs.Registers.{machine_naming}
use Rattle.x86_meaning.specs.Operands.{address_part, address_sum, effective_address}
use Rattle.x86_meaning.specs.Step.{State}
use Rattle.flag_ir.specs.declared.operation.Op.{Op}
use Rattle.flag_ir.specs.Calculations.{sum_of, product_of}
use Rattle.flag_ir.specs.Storage.{Storage, put_word}
use Rattle.flag_ir.specs.Operations.{perform, performs}
use Rattle.lift_relation.specs.Matching.{StateMatches}
use Rattle.lift_core.specs.Pieces.{sum_ops, address_ops}
use Rattle.lift_core.proofs.Words.{IsNumber, known_less, word_mod, sum_any, product_any}

-- ---- temporaries
abbrev pub with_temps : (ℕ → Word) → Storage → Storage
with_temps temps u = record u { temps = temps }

-- all but one are kept
abbrev pub Kept : ℕ → (ℕ → Word) → (ℕ → Word) → Type 0
Kept k temps old = (j : ℕ) → (j == k) ≡ false → temps j ≡ old j

pub put_there : (k : ℕ) (w : Word) (t : ℕ → Word) → put_word k w t k ≡ w
put_there k w t = cond-true (k == k) w (t k) (eq-eqb k k refl)

pub put_elsewhere : (k : ℕ) (w : Word) (t : ℕ → Word) → Kept k (put_word k w t) t
put_elsewhere k w t j e = cond-false (j == k) w (t j) e

pub temps_match : (s : State) (u : Storage) (temps : ℕ → Word) → StateMatches s u → StateMatches s (with_temps temps u)
temps_match s u temps h = record { regs = h.regs; flags = h.flags; memory = h.memory; left = h.left; environment = h.environment; frames = h.frames }

pub number_small : (r : Reg) → number_of_reg r < 8
number_small register.Eax = lit< tt
number_small register.Ecx = lit< tt
number_small register.Edx = lit< tt
number_small register.Ebx = lit< tt
number_small register.Esp = lit< tt
number_small register.Ebp = lit< tt
number_small register.Esi = lit< tt
number_small register.Edi = lit< tt

-- ---- numbers that may be known
abbrev pub NumberIf : Option ℕ → Word → Type 0
NumberIf None y = Unit {0}
NumberIf (Some n) y = IsNumber n y

pub number_if : (x y : Word) → WordLessSpecified x y → NumberIf (known x) y
number_if x y h = go (known x) refl
  where
    go : (o : Option ℕ) → known x ≡ o → NumberIf o y
    go None e = tt
    go (Some n) e = known_less x n y e h

number_as : (n m : ℕ) (y : Word) → n ≡ m → IsNumber n y → IsNumber m y
number_as n m y e h = subst (λ k. IsNumber k y) e h

-- ---- the four shapes of an address
displacement : (a : Address) → NumberIf (address_sum a (Some 0) (Some 0)) (word_of a.disp)
displacement a = let e : a.disp % 4294967296 ≡ (0 + 0 * a.scale + a.disp) % 4294967296 = omega arith in record { is = word_mod a.disp ∙ ap (λ n. word_of n) e; fits = omega arith }

based : (a : Address) (b : Option ℕ) (x : Word) → NumberIf b x → NumberIf (address_sum a b (Some 0)) (sum_of x (word_of a.disp))
based a None x h = tt
based a (Some n) x h = number_as _ _ _ (let e : (n + a.disp) % 4294967296 ≡ (n + 0 * a.scale + a.disp) % 4294967296 = omega arith in e) (sum_any n a.disp x h)

scaled : (a : Address) (i : Option ℕ) (y : Word) → NumberIf i y → NumberIf (address_sum a (Some 0) i) (sum_of (product_of y (word_of a.scale)) (word_of a.disp))
scaled a None y h = tt
scaled a (Some n) y h = number_as _ _ _ (wraps (n * a.scale)) (sum_any _ a.disp _ (product_any n a.scale y h))
  where
    wraps : (p : ℕ) → (p % 4294967296 + a.disp) % 4294967296 ≡ (0 + p + a.disp) % 4294967296
    wraps p = omega arith

both : (a : Address) (b i : Option ℕ) (x y : Word) → NumberIf b x → NumberIf i y → NumberIf (address_sum a b i) (sum_of (sum_of (product_of y (word_of a.scale)) x) (word_of a.disp))
both a None i x y h k = tt
both a (Some n) None x y h k = tt
both a (Some n) (Some m) x y h k =
    let z = product_of y (word_of a.scale) in
    let first : IsNumber ((m * a.scale % 4294967296 + n) % 4294967296) (sum_of z x) = subst (λ w. IsNumber ((m * a.scale % 4294967296 + n) % 4294967296) (sum_of z w)) (sym h.is) (sum_any _ n z (product_any m a.scale y k)) in
    number_as _ _ _ (wraps (m * a.scale)) (sum_any _ a.disp _ first)
  where
    wraps : (p : ℕ) → ((p % 4294967296 + n) % 4294967296 + a.disp) % 4294967296 ≡ (n + p + a.disp) % 4294967296
    wraps p = omega arith

-- what follows an address is done with the address in its temporary
module _ (turn k : ℕ) (s : State) (u : Storage) (rest : List Op) (P : Result Storage End → Type 0) (h : StateMatches s u) where
  reg_if : (r : Reg) → NumberIf (known (s.cpu.regs (number_of_reg r))) (u.regs (number_of_reg r))
  reg_if r = number_if _ _ (h.regs (number_of_reg r) (number_small r))

  sum_then : (a : Address) (b i : Option Reg) → ((temps : ℕ → Word) → Kept k temps u.temps → NumberIf (address_sum a (address_part machine_naming s.cpu.regs b) (address_part machine_naming s.cpu.regs i)) (temps k) → P (performs turn rest (with_temps temps u))) → P (performs turn (sum_ops k b i a.scale a.disp ++ rest) u)
  unfolding performs perform
  sum_then a None None next = next (put_word k (word_of a.disp) u.temps) (put_elsewhere k _ _) (subst (NumberIf (address_sum a (Some 0) (Some 0))) (sym (put_there k (word_of a.disp) u.temps)) (displacement a))
  sum_then a (Some b) None next =
      let w = sum_of (u.regs (number_of_reg b)) (word_of a.disp) in
      next (put_word k w u.temps) (put_elsewhere k _ _) (subst (NumberIf (address_sum a (known (s.cpu.regs (number_of_reg b))) (Some 0))) (sym (put_there k w u.temps)) (based a _ _ (reg_if b)))
  sum_then a None (Some i) next =
      let w1 = product_of (u.regs (number_of_reg i)) (word_of a.scale) in
      let t1 = put_word k w1 u.temps in
      let w2 = sum_of (t1 k) (word_of a.disp) in
      let e : put_word k w2 t1 k ≡ sum_of w1 (word_of a.disp) = put_there k w2 t1 ∙ ap (λ x. sum_of x (word_of a.disp)) (put_there k w1 u.temps) in
      next (put_word k w2 t1) (λ j q. put_elsewhere k w2 t1 j q ∙ put_elsewhere k w1 u.temps j q) (subst (NumberIf (address_sum a (Some 0) (known (s.cpu.regs (number_of_reg i))))) (sym e) (scaled a _ _ (reg_if i)))
  sum_then a (Some b) (Some i) next =
      let x = u.regs (number_of_reg b) in
      let w1 = product_of (u.regs (number_of_reg i)) (word_of a.scale) in
      let t1 = put_word k w1 u.temps in
      let w2 = sum_of (t1 k) x in
      let t2 = put_word k w2 t1 in
      let w3 = sum_of (t2 k) (word_of a.disp) in
      let e : put_word k w3 t2 k ≡ sum_of (sum_of w1 x) (word_of a.disp) =
      put_there k w3 t2 ∙ ap (λ z. sum_of z (word_of a.disp)) (put_there k w2 t1) ∙ ap (λ z. sum_of (sum_of z x) (word_of a.disp)) (put_there k w1 u.temps) in
      next (put_word k w3 t2) (λ j q. put_elsewhere k w3 t2 j q ∙ put_elsewhere k w2 t1 j q ∙ put_elsewhere k w1 u.temps j q) (subst (NumberIf (address_sum a (known (s.cpu.regs (number_of_reg b))) (known (s.cpu.regs (number_of_reg i))))) (sym e) (both a _ _ _ _ (reg_if b) (reg_if i)))

  pub address_then : (a : Address) → ((temps : ℕ → Word) → Kept k temps u.temps → NumberIf (effective_address machine_naming s.cpu.regs a) (temps k) → P (performs turn rest (with_temps temps u))) → P (performs turn (address_ops k a ++ rest) u)
  address_then a next = sum_then a a.base a.index next
