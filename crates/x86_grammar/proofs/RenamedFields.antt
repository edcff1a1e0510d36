-- Which spellings stay with other registers in the fields.
use Rattle.std.proofs.Common.{◌≡◌, ℕ, Bool, true, false, cond, ◌&&◌, Option, Some, None, refl, sym, ap, ◌∙◌}
use Rattle.std.specs.Prelude.{◌↔◌}
use Rattle.std.proofs.lemmas.Bool.{false≢true}
use Rattle.x86_types.specs.declared.instr.Instr.{Instr}
use Rattle.x86_types.specs.declared.instr.Instr.TheVariants as instr
use Rattle.x86_types.specs.declared.operand.Address.{Address}
use Rattle.x86_types.specs.declared.operand.Reg.{Reg}
use Rattle.x86_types.specs.declared.operand.Reg.TheVariants as reg
use Rattle.x86_types.specs.declared.operand.Rm.{Rm}
use Rattle.x86_types.specs.declared.operand.Rm.TheVariants as rm
use Rattle.x86_types.specs.declared.operand.Src.{Src}
use Rattle.x86_types.specs.declared.operand.Src.TheVariants as src
use Rattle.x86_types.specs.declared.width.Width.{Width}
use Rattle.x86_types.specs.declared.width.Width.TheVariants.{One, Four}
use Rattle.x86_types.specs.Registers.{Index, Renaming, renamed_option, renamed_address, renamed_rm, renamed_src, renamed, KeepsEspIndex, MakesNoEspIndex}
use Rattle.x86_grammar.specs.Fields.{number_fits, scale_fits, index_fits, address_fits, rm_fits, moves_fit, test_fits, push_fits, fields_fit, HasSpelling}
use Rattle.x86_grammar.proofs.Fit.{spelled_exact}

abbrev is_esp : Reg → Bool
is_esp reg.Esp = true
is_esp _ = false

esp_is : (r : Reg) → is_esp r ≡ true → r ≡ reg.Esp
esp_is r = elim r as (λ r. is_esp r ≡ true → r ≡ reg.Esp) [ reg.Esp ↦ λ h. refl | _ ↦ λ h. absurd (false≢true h) ]

is_esp_of : (r : Reg) → r ≡ reg.Esp → is_esp r ≡ true
is_esp_of r e = ap is_esp e

same_bool : (a b : Bool) → (a ≡ true → b ≡ true) → (b ≡ true → a ≡ true) → a ≡ b
same_bool true true p q = refl
same_bool true false p q = sym (p refl)
same_bool false true p q = q refl
same_bool false false p q = refl

index_by : (r : Reg) (s : ℕ) → index_fits (Some r) s ≡ cond (is_esp r) false (scale_fits s)
index_by r s = elim r as (λ r. index_fits (Some r) s ≡ cond (is_esp r) false (scale_fits s)) [ reg.Esp ↦ refl | _ ↦ refl ]

both_stay : (a b c d : Bool) → (a ≡ true → b ≡ true) → (c ≡ true → d ≡ true) → (a && c) ≡ true → (b && d) ≡ true
both_stay true b c d p q h = rw (p refl) (q h)
both_stay false b c d p q h = absurd (false≢true h)

-- ---- exactly as before

module _ (f : Renaming) (k : KeepsEspIndex f) where
  esp_keeps : (r : Reg) → is_esp (f Index r) ≡ is_esp r
  esp_keeps r = same_bool _ _ (λ h. is_esp_of r ((k r).0 (esp_is (f Index r) h))) (λ h. is_esp_of (f Index r) ((k r).1 (esp_is r h)))

  index_keeps : (x : Option Reg) (s : ℕ) → index_fits (renamed_option (f Index) x) s ≡ index_fits x s
  index_keeps None s = refl
  index_keeps (Some r) s = index_by (f Index r) s ∙ ap (λ (b : Bool). cond b false (scale_fits s)) (esp_keeps r) ∙ sym (index_by r s)

  address_keeps : (a : Address) → address_fits (renamed_address f a) ≡ address_fits a
  address_keeps a = ap (λ (b : Bool). b && number_fits Four a.disp) (index_keeps a.index a.scale)

  rm_keeps : (w : Width) (m : Rm) → rm_fits (renamed_rm f w m) ≡ rm_fits m
  rm_keeps w (rm.Reg r) = refl
  rm_keeps w (rm.Mem a) = address_keeps a

  moves_keep : (w : Width) (to : Rm) (from : Src) → moves_fit w (renamed_rm f w to) (renamed_src f w from) ≡ moves_fit w to from
  moves_keep w to (src.Reg r) = rm_keeps w to
  moves_keep w (rm.Reg t) (src.Mem a) = address_keeps a
  moves_keep w (rm.Mem b) (src.Mem a) = refl
  moves_keep w to (src.Imm v) = ap (λ (b : Bool). b && number_fits w v) (rm_keeps w to)

  test_keep : (w : Width) (to : Rm) (from : Src) → test_fits w (renamed_rm f w to) (renamed_src f w from) ≡ test_fits w to from
  test_keep w to (src.Reg r) = rm_keeps w to
  test_keep w to (src.Mem a) = refl
  test_keep w to (src.Imm v) = ap (λ (b : Bool). b && number_fits w v) (rm_keeps w to)

  push_keeps : (from : Src) → push_fits (renamed_src f Four from) ≡ push_fits from
  push_keeps (src.Reg r) = refl
  push_keeps (src.Mem a) = address_keeps a
  push_keeps (src.Imm v) = refl

  pub keeps : (i : Instr) → fields_fit (renamed f i) ≡ fields_fit i
  keeps (instr.Alu op w to from) = moves_keep w to from
  keeps (instr.Test w left right) = test_keep w left right
  keeps (instr.Mov w to from) = moves_keep w to from
  keeps (instr.Lea w to a) = rw (address_keeps a) refl
  keeps (instr.Inc w to) = rm_keeps w to
  keeps (instr.Dec w to) = rm_keeps w to
  keeps (instr.Not w to) = rm_keeps w to
  keeps (instr.Neg w to) = rm_keeps w to
  keeps (instr.Mul w from) = rm_keeps w from
  keeps (instr.ImulWide w from) = rm_keeps w from
  keeps (instr.Div w from) = rm_keeps w from
  keeps (instr.Idiv w from) = rm_keeps w from
  keeps (instr.Imul w to from) = rw (rm_keeps w from) refl
  keeps (instr.ImulBy w to from by) = rw (rm_keeps w from) refl
  keeps (instr.Shift op w to n) = rw (rm_keeps w to) refl
  keeps (instr.Shld to from n) = rw (rm_keeps Four to) refl
  keeps (instr.Shrd to from n) = rw (rm_keeps Four to) refl
  keeps (instr.Push from) = push_keeps from
  keeps (instr.Pop to) = rm_keeps Four to
  keeps (instr.Xchg w left right) = rm_keeps w left
  keeps (instr.Movzx wide w to from) = rw (rm_keeps w from) refl
  keeps (instr.Movsx wide w to from) = rw (rm_keeps w from) refl
  keeps (instr.Cmov c w to from) = rw (rm_keeps w from) refl
  keeps (instr.Setcc c to) = rm_keeps One to
  keeps (instr.Extend w) = refl
  keeps (instr.Spread w) = refl
  keeps (instr.Bsf w to from) = rw (rm_keeps w from) refl
  keeps (instr.Bsr w to from) = rw (rm_keeps w from) refl
  keeps (instr.Bswap to) = refl
  keeps (instr.Movs w repeat) = refl
  keeps (instr.Stos w repeat) = refl
  keeps (instr.Jmp by) = refl
  keeps (instr.JmpTo to) = rm_keeps Four to
  keeps (instr.CallTo to) = rm_keeps Four to
  keeps (instr.Jcc c by) = refl
  keeps (instr.Call by) = refl
  keeps (instr.Ret drop) = refl
  keeps instr.Leave = refl
  keeps instr.Int80 = refl
  keeps instr.Cld = refl
  keeps instr.Nop = refl

-- ---- still in range

module _ (f : Renaming) (k : MakesNoEspIndex f) where
  no_esp : (r : Reg) (a b : Bool) → is_esp r ≡ a → is_esp (f Index r) ≡ b → a ≡ false → b ≡ false
  no_esp r a true e g h = absurd (false≢true (sym (e ∙ h) ∙ is_esp_of r (k r (esp_is (f Index r) g))))
  no_esp r a false e g h = refl

  not_esp : (b : Bool) (s : Bool) → cond b false s ≡ true → b ≡ false
  not_esp true s h = absurd (false≢true h)
  not_esp false s h = refl

  index_stays : (x : Option Reg) (s : ℕ) → index_fits x s ≡ true → index_fits (renamed_option (f Index) x) s ≡ true
  index_stays None s h = h
  index_stays (Some r) s h =
      let by : cond (is_esp r) false (scale_fits s) ≡ true = sym (index_by r s) ∙ h in
      let not_r = not_esp (is_esp r) (scale_fits s) by in
      let not_f = no_esp r (is_esp r) (is_esp (f Index r)) refl refl not_r in
      index_by (f Index r) s ∙ ap (λ (b : Bool). cond b false (scale_fits s)) (not_f ∙ sym not_r) ∙ by

  address_stays : (a : Address) → address_fits a ≡ true → address_fits (renamed_address f a) ≡ true
  address_stays a h = both_stay _ _ _ _ (index_stays a.index a.scale) (λ e. e) h

  rm_stays : (w : Width) (m : Rm) → rm_fits m ≡ true → rm_fits (renamed_rm f w m) ≡ true
  rm_stays w (rm.Reg r) h = h
  rm_stays w (rm.Mem a) h = address_stays a h

  moves_stay : (w : Width) (to : Rm) (from : Src) → moves_fit w to from ≡ true → moves_fit w (renamed_rm f w to) (renamed_src f w from) ≡ true
  moves_stay w to (src.Reg r) h = rm_stays w to h
  moves_stay w (rm.Reg t) (src.Mem a) h = address_stays a h
  moves_stay w (rm.Mem b) (src.Mem a) h = h
  moves_stay w to (src.Imm v) h = both_stay _ _ _ _ (rm_stays w to) (λ e. e) h

  test_stay : (w : Width) (to : Rm) (from : Src) → test_fits w to from ≡ true → test_fits w (renamed_rm f w to) (renamed_src f w from) ≡ true
  test_stay w to (src.Reg r) h = rm_stays w to h
  test_stay w to (src.Mem a) h = h
  test_stay w to (src.Imm v) h = both_stay _ _ _ _ (rm_stays w to) (λ e. e) h

  push_stays : (from : Src) → push_fits from ≡ true → push_fits (renamed_src f Four from) ≡ true
  push_stays (src.Reg r) h = h
  push_stays (src.Mem a) h = address_stays a h
  push_stays (src.Imm v) h = h

  pub stays : (i : Instr) → fields_fit i ≡ true → fields_fit (renamed f i) ≡ true
  stays (instr.Alu op w to from) h = moves_stay w to from h
  stays (instr.Test w left right) h = test_stay w left right h
  stays (instr.Mov w to from) h = moves_stay w to from h
  stays (instr.Lea w to a) h = both_stay _ _ _ _ (λ e. e) (address_stays a) h
  stays (instr.Inc w to) h = rm_stays w to h
  stays (instr.Dec w to) h = rm_stays w to h
  stays (instr.Not w to) h = rm_stays w to h
  stays (instr.Neg w to) h = rm_stays w to h
  stays (instr.Mul w from) h = rm_stays w from h
  stays (instr.ImulWide w from) h = rm_stays w from h
  stays (instr.Div w from) h = rm_stays w from h
  stays (instr.Idiv w from) h = rm_stays w from h
  stays (instr.Imul w to from) h = both_stay _ _ _ _ (λ e. e) (rm_stays w from) h
  stays (instr.ImulBy w to from by) h = both_stay _ _ _ _ (λ e. e) (both_stay _ _ _ _ (rm_stays w from) (λ e. e)) h
  stays (instr.Shift op w to n) h = both_stay _ _ _ _ (rm_stays w to) (λ e. e) h
  stays (instr.Shld to from n) h = both_stay _ _ _ _ (rm_stays Four to) (λ e. e) h
  stays (instr.Shrd to from n) h = both_stay _ _ _ _ (rm_stays Four to) (λ e. e) h
  stays (instr.Push from) h = push_stays from h
  stays (instr.Pop to) h = rm_stays Four to h
  stays (instr.Xchg w left right) h = rm_stays w left h
  stays (instr.Movzx wide w to from) h = both_stay _ _ _ _ (λ e. e) (rm_stays w from) h
  stays (instr.Movsx wide w to from) h = both_stay _ _ _ _ (λ e. e) (rm_stays w from) h
  stays (instr.Cmov c w to from) h = both_stay _ _ _ _ (λ e. e) (rm_stays w from) h
  stays (instr.Setcc c to) h = rm_stays One to h
  stays (instr.Extend w) h = h
  stays (instr.Spread w) h = h
  stays (instr.Bsf w to from) h = both_stay _ _ _ _ (λ e. e) (rm_stays w from) h
  stays (instr.Bsr w to from) h = both_stay _ _ _ _ (λ e. e) (rm_stays w from) h
  stays (instr.Bswap to) h = h
  stays (instr.Movs w repeat) h = h
  stays (instr.Stos w repeat) h = h
  stays (instr.Jmp by) h = h
  stays (instr.JmpTo to) h = rm_stays Four to h
  stays (instr.CallTo to) h = rm_stays Four to h
  stays (instr.Jcc c by) h = h
  stays (instr.Call by) h = h
  stays (instr.Ret drop) h = h
  stays instr.Leave h = h
  stays instr.Int80 h = h
  stays instr.Cld h = h
  stays instr.Nop h = h

-- ---- by the fields

pub spelling_keeps : (f : Renaming) (i : Instr) → KeepsEspIndex f → HasSpelling (renamed f i) ↔ HasSpelling i
spelling_keeps f i k = (λ h. (spelled_exact i).0 (sym (keeps f k i) ∙ (spelled_exact (renamed f i)).1 h), λ h. (spelled_exact (renamed f i)).0 (keeps f k i ∙ (spelled_exact i).1 h))

pub spelling_stays : (f : Renaming) (i : Instr) → MakesNoEspIndex f → HasSpelling i → HasSpelling (renamed f i)
spelling_stays f i k h = (spelled_exact (renamed f i)).0 (stays f k i ((spelled_exact i).1 h))
