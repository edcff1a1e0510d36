-- An instruction that doesn't use esp uses the other registers, each with itself.
use Rattle.std.proofs.Common.{◌≡◌, ◌≢◌, inl, inr, ℕ, zero, suc, ◌<◌, Bool, true, false, cond, ltb, List, [], ◌∷◌, All, refl, sym, ap, ◌∙◌, arith}
use Rattle.std.proofs.lemmas.Bool.{lt-ltb}
use Rattle.std.proofs.lemmas.List.Elements.{All-head, All-tail}
use Rattle.x86_values.specs.Sizes.{no_word}
use Rattle.x86_types.specs.declared.operand.Reg.{Reg}
use Rattle.x86_types.specs.declared.operand.Reg.TheVariants.{Eax, Ecx, Edx, Ebx, Esp, Ebp, Esi, Edi}
use Rattle.x86_types.specs.declared.operation.Count.{Count}
use Rattle.x86_types.specs.declared.operation.Count.TheVariants as count
use Rattle.x86_types.specs.declared.width.Width.{Width}
use Rattle.x86_types.specs.declared.width.Width.TheVariants.{One, Two, Four}
use Rattle.x86_types.specs.declared.instr.Instr.{Instr}
use Rattle.x86_types.specs.declared.instr.Instr.TheVariants as instr
use Rattle.x86_types.specs.Numbers.{number_of_reg}
use Rattle.x86_types.specs.Registers.{RegisterField, Index, Whole, Byte}
use Rattle.x86_meaning.specs.Registers.{Registers, byte_place, machine_naming}
use Rattle.field_places.specs.Fields.{Field, fields, product_registers, count_registers, repeat_registers, implicit_registers}
use Rattle.field_places.specs.Pairs.{Pairs, ArePaired, IsOneToOne, KindIsPaired, FieldsArePaired, PairedWithThemselves, UsesPairs}
use Rattle.named_code.specs.Form.{IsStackless}

-- ---- the registers other than esp, each with itself
abbrev pub own_pairs : Pairs
own_pairs = (0, 0) ∷ (1, 1) ∷ (2, 2) ∷ (3, 3) ∷ (5, 5) ∷ (6, 6) ∷ (7, 7) ∷ []

-- the registers alone: nothing is known of the other places
unfoldable pub registers_alone : Registers → Registers
registers_alone r k = cond (ltb k 8) (r k) no_word

pub alone_below : (r : Registers) (k : ℕ) → k < 8 → registers_alone r k ≡ r k
unfolding registers_alone
alone_below r k h = ap (λ b. cond b (r k) no_word) (lt-ltb k 8 h)

pub alone_above : (r : Registers) (k : ℕ) → ltb k 8 ≡ false → registers_alone r k ≡ no_word
unfolding registers_alone
alone_above r k h = ap (λ b. cond b (r k) no_word) h

-- ---- which pairs there are
pub record IsOwn (a b : ℕ) : Type 0 where
  pub same : a ≡ b
  pub low : b < 8
  pub other : a ≢ 4

own : (a b k : ℕ) → k < 8 → k ≢ 4 → a ≡ k → b ≡ k → IsOwn a b
own a b k h n e f = record { same = e ∙ sym f; low = rw f h; other = rw e n }

pub which : (a b : ℕ) → ArePaired own_pairs a b → IsOwn a b
which a b (inl h) = own a b 0 (omega arith) (λ e. absurd (omega (arith, e))) h.0 h.1
which a b (inr (inl h)) = own a b 1 (omega arith) (λ e. absurd (omega (arith, e))) h.0 h.1
which a b (inr (inr (inl h))) = own a b 2 (omega arith) (λ e. absurd (omega (arith, e))) h.0 h.1
which a b (inr (inr (inr (inl h)))) = own a b 3 (omega arith) (λ e. absurd (omega (arith, e))) h.0 h.1
which a b (inr (inr (inr (inr (inl h))))) = own a b 5 (omega arith) (λ e. absurd (omega (arith, e))) h.0 h.1
which a b (inr (inr (inr (inr (inr (inl h)))))) = own a b 6 (omega arith) (λ e. absurd (omega (arith, e))) h.0 h.1
which a b (inr (inr (inr (inr (inr (inr (inl h))))))) = own a b 7 (omega arith) (λ e. absurd (omega (arith, e))) h.0 h.1
which a b (inr (inr (inr (inr (inr (inr (inr h))))))) = absurd h

pub one_to_one : IsOneToOne own_pairs
one_to_one = record {
  to_right = λ p q r h k. sym (which p q h).same ∙ (which p r k).same;
  to_left = λ p q r h k. (which p r h).same ∙ sym (which q r k).same;
}

pub paired : (k : ℕ) → k < 8 → k ≢ 4 → ArePaired own_pairs k k
paired zero h n = inl (refl, refl)
paired (suc zero) h n = inr (inl (refl, refl))
paired (suc (suc zero)) h n = inr (inr (inl (refl, refl)))
paired (suc (suc (suc zero))) h n = inr (inr (inr (inl (refl, refl))))
paired (suc (suc (suc (suc zero)))) h n = absurd (n refl)
paired (suc (suc (suc (suc (suc zero))))) h n = inr (inr (inr (inr (inl (refl, refl)))))
paired (suc (suc (suc (suc (suc (suc zero)))))) h n = inr (inr (inr (inr (inr (inl (refl, refl))))))
paired (suc (suc (suc (suc (suc (suc (suc zero))))))) h n = inr (inr (inr (inr (inr (inr (inl (refl, refl)))))))
paired (suc (suc (suc (suc (suc (suc (suc (suc n)))))))) h k = absurd (omega (arith, h))

-- ---- fields
whole_paired : (r : Reg) → r ≢ Esp → ArePaired own_pairs (number_of_reg r) (number_of_reg r)
whole_paired Eax n = paired 0 (omega arith) (λ e. absurd (omega (arith, e)))
whole_paired Ecx n = paired 1 (omega arith) (λ e. absurd (omega (arith, e)))
whole_paired Edx n = paired 2 (omega arith) (λ e. absurd (omega (arith, e)))
whole_paired Ebx n = paired 3 (omega arith) (λ e. absurd (omega (arith, e)))
whole_paired Esp n = absurd (n refl)
whole_paired Ebp n = paired 5 (omega arith) (λ e. absurd (omega (arith, e)))
whole_paired Esi n = paired 6 (omega arith) (λ e. absurd (omega (arith, e)))
whole_paired Edi n = paired 7 (omega arith) (λ e. absurd (omega (arith, e)))

byte_paired : (r : Reg) → ArePaired own_pairs (byte_place r).0 (byte_place r).0
byte_paired Eax = paired 0 (omega arith) (λ e. absurd (omega (arith, e)))
byte_paired Ecx = paired 1 (omega arith) (λ e. absurd (omega (arith, e)))
byte_paired Edx = paired 2 (omega arith) (λ e. absurd (omega (arith, e)))
byte_paired Ebx = paired 3 (omega arith) (λ e. absurd (omega (arith, e)))
byte_paired Esp = paired 0 (omega arith) (λ e. absurd (omega (arith, e)))
byte_paired Ebp = paired 1 (omega arith) (λ e. absurd (omega (arith, e)))
byte_paired Esi = paired 2 (omega arith) (λ e. absurd (omega (arith, e)))
byte_paired Edi = paired 3 (omega arith) (λ e. absurd (omega (arith, e)))

kind_paired : (k : RegisterField) (r : Reg) → r ≢ Esp → KindIsPaired own_pairs machine_naming machine_naming k r
kind_paired Index r n = whole_paired r n
kind_paired Whole r n = whole_paired r n
kind_paired Byte r n = (byte_paired r, refl)

fields_paired : (fs : List Field) → All (λ f. f.register ≢ Esp) fs → FieldsArePaired own_pairs machine_naming machine_naming fs
fields_paired [] h = tt
fields_paired (f ∷ fs) h = (kind_paired f.kind f.register (All-head (λ (g : Field). g.register ≢ Esp) f fs h), fields_paired fs (All-tail (λ (g : Field). g.register ≢ Esp) f fs h))

-- ---- registers without a field
low : (k : ℕ) → k < 4 → ArePaired own_pairs k k
low k h = paired k (omega (arith, h)) (λ e. absurd (omega (arith, h, e)))

product_paired : (w : Width) → PairedWithThemselves own_pairs (product_registers w)
product_paired One = (low 0 (omega arith), tt)
product_paired Two = (low 0 (omega arith), (low 2 (omega arith), tt))
product_paired Four = (low 0 (omega arith), (low 2 (omega arith), tt))

count_paired : (n : Count) → PairedWithThemselves own_pairs (count_registers n)
count_paired (count.Imm n) = tt
count_paired count.Cl = (low 1 (omega arith), tt)

repeat_paired : (b : Bool) → PairedWithThemselves own_pairs (repeat_registers b)
repeat_paired false = tt
repeat_paired true = (low 1 (omega arith), tt)

six : ArePaired own_pairs 6 6
six = paired 6 (omega arith) (λ e. absurd (omega (arith, e)))

seven : ArePaired own_pairs 7 7
seven = paired 7 (omega arith) (λ e. absurd (omega (arith, e)))

implicit_paired : (i : Instr) → IsStackless i → PairedWithThemselves own_pairs (implicit_registers i)
unfolding implicit_registers
implicit_paired (instr.Alu op w to from) h = tt
implicit_paired (instr.Test w left right) h = tt
implicit_paired (instr.Mov w to from) h = tt
implicit_paired (instr.Lea w to at) h = tt
implicit_paired (instr.Inc w to) h = tt
implicit_paired (instr.Dec w to) h = tt
implicit_paired (instr.Not w to) h = tt
implicit_paired (instr.Neg w to) h = tt
implicit_paired (instr.Mul w from) h = product_paired w
implicit_paired (instr.ImulWide w from) h = product_paired w
implicit_paired (instr.Div w from) h = product_paired w
implicit_paired (instr.Idiv w from) h = product_paired w
implicit_paired (instr.Imul w to from) h = tt
implicit_paired (instr.ImulBy w to from by) h = tt
implicit_paired (instr.Shift op w to n) h = count_paired n
implicit_paired (instr.Shld to from n) h = count_paired n
implicit_paired (instr.Shrd to from n) h = count_paired n
implicit_paired (instr.Push from) h = absurd h
implicit_paired (instr.Pop to) h = absurd h
implicit_paired (instr.Xchg w left right) h = tt
implicit_paired (instr.Movzx wide w to from) h = tt
implicit_paired (instr.Movsx wide w to from) h = tt
implicit_paired (instr.Cmov c w to from) h = tt
implicit_paired (instr.Setcc c to) h = tt
implicit_paired (instr.Extend w) h = (low 0 (omega arith), tt)
implicit_paired (instr.Spread w) h = (low 0 (omega arith), (low 2 (omega arith), tt))
implicit_paired (instr.Bsf w to from) h = tt
implicit_paired (instr.Bsr w to from) h = tt
implicit_paired (instr.Bswap to) h = tt
implicit_paired (instr.Movs w repeat) h = (six, (seven, repeat_paired repeat))
implicit_paired (instr.Stos w repeat) h = (low 0 (omega arith), (seven, repeat_paired repeat))
implicit_paired (instr.Jmp by) h = tt
implicit_paired (instr.JmpTo to) h = tt
implicit_paired (instr.CallTo to) h = absurd h
implicit_paired (instr.Jcc c by) h = tt
implicit_paired (instr.Call by) h = absurd h
implicit_paired (instr.Ret drop) h = absurd h
implicit_paired instr.Leave h = absurd h
implicit_paired instr.Int80 h = (low 0 (omega arith), (low 1 (omega arith), (low 2 (omega arith), (low 3 (omega arith), tt))))
implicit_paired instr.Cld h = tt
implicit_paired instr.Nop h = tt

pub uses : (i : Instr) (r : Registers) → All (λ f. f.register ≢ Esp) (fields i) → IsStackless i → UsesPairs own_pairs machine_naming machine_naming i r (registers_alone r)
uses i r no_esp stackless = record {
  one_to_one = one_to_one;
  by_field = fields_paired (fields i) no_esp;
  implicit = implicit_paired i stackless;
  words = λ a b h. let k = which a b h in ap r k.same ∙ sym (alone_below r b k.low);
}
