-- Each chosen instruction is in form and can be placed.
use Rattle.std.proofs.Common.{◌≡◌, ◌≢◌, ◌↔◌, ℕ, ◌<◌, ◌&&◌, Bool, true, false, is_some, List, [], ◌∷◌, map, length, All, Contains, inl, inr, refl, sym, ap, ◌∙◌, subst, arith}
use Rattle.std.specs.List.{AllByRecursion, range_with_len}
use Rattle.std.proofs.lemmas.Bool.{lt-ltb, eq-eqb}
use Rattle.std.proofs.lemmas.List.Elements.{All-from_recursion}
use Rattle.x86_types.specs.declared.operand.Reg.{Reg}
use Rattle.x86_types.specs.declared.operand.Reg.TheVariants.{Eax, Ecx, Ebx}
use Rattle.x86_types.specs.declared.operand.Rm.TheVariants as rm
use Rattle.x86_types.specs.declared.operation.AluOp.{AluOp}
use Rattle.x86_types.specs.declared.operation.ShiftOp.{ShiftOp}
use Rattle.x86_types.specs.declared.operation.Count.TheVariants as count
use Rattle.x86_types.specs.declared.operation.Cond.{Cond}
use Rattle.x86_types.specs.declared.width.Width.{Width}
use Rattle.x86_types.specs.declared.width.Width.TheVariants.{One, Two, Four}
use Rattle.x86_types.specs.declared.instr.Instr.{Instr}
use Rattle.x86_types.specs.declared.instr.Instr.TheVariants as instr
use Rattle.x86_types.specs.Numbers.{number_of_reg}
use Rattle.x86_types.specs.Registers.{RegisterField, Whole, Byte}
use Rattle.x86_grammar.specs.Fields.{number_fits, fields_fit, HasSpelling}
use Rattle.field_places.specs.Fields.{Field, as_field, fields, implicit_registers}
use Rattle.flag_ir.specs.declared.variable.Term.{Term}
use Rattle.flag_ir.specs.declared.variable.Term.TheVariants as term
use Rattle.named_code.specs.declared.slot.Slot.{Slot}
use Rattle.named_code.specs.declared.slot.Slot.TheVariants.{Fixed, Name}
use Rattle.named_code.specs.declared.named.VInstr.{VInstr}
use Rattle.named_code.specs.declared.named.VBlock.{VBlock}
use Rattle.named_code.specs.Form.{register_fields, IsSlot, IsStackless, NamesBlock, IsInstrInForm}
use Rattle.name_cells.specs.Holders.{last_name, is_last, has_byte_field, borrows_ebx}
use Rattle.name_cells.specs.CanBePlaced.{IsPlaceable, FitsField, HasName, IsFieldPlaceable, IsFalling, LeavesEbx, IsInstrPlaceable}
use Rattle.instr_choose.specs.Lists.{slot_of, made, put, copy, extend, copy_byte, alu_by, set_if, move_if, shift_by, multiply_by, divide_by, load_by, store_by}
use Rattle.instr_choose.specs.Words.{IsWord}

abbrev pub SpellingLaw : Type 0
SpellingLaw = (i : Instr) → (fields_fit i ≡ true) ↔ HasSpelling i

-- ---- slots
-- a name of a variable
abbrev pub IsCounted : Slot → Type 0
IsCounted (Fixed r) = Unit {0}
IsCounted (Name n) = n < 1400013

record IsChosenSlot (s : Slot) : Type 0 where
  form : IsSlot s
  placeable : IsPlaceable s
  counted : IsCounted s

-- a name, or a register that isn't borrowed
abbrev pub IsFreeSlot : Slot → Type 0
IsFreeSlot (Fixed r) = number_of_reg r < 3
IsFreeSlot (Name n) = n < 1400013

free : (s : Slot) → IsFreeSlot s → IsChosenSlot s
free (Fixed r) h = record { form = λ e. absurd (let f : number_of_reg r ≡ 4 = ap number_of_reg e in omega (arith, h, f)); placeable = omega (arith, h); counted = tt }
free (Name n) h = record { form = omega (arith, h); placeable = omega (arith, h); counted = h }

ebx : IsChosenSlot (Fixed Ebx)
ebx = record { form = λ e. absurd (let f : 3 ≡ 4 = ap number_of_reg e in omega (arith, f)); placeable = omega arith; counted = tt }

is_name : Slot → Bool
is_name (Fixed r) = false
is_name (Name n) = true

not_ebx : (s : Slot) → IsFreeSlot s → s ≢ Fixed Ebx
unfolding is_name
not_ebx (Fixed r) h e = absurd (let f : number_of_reg r ≡ 3 = ap register_number e in omega (arith, h, f))
  where
    register_number : Slot → ℕ
    register_number (Fixed q) = number_of_reg q
    register_number (Name n) = 0
not_ebx (Name n) h e = absurd (let f : is_name (Name n) ≡ is_name (Fixed Ebx) = ap is_name e in cc)

-- a term whose variable has a slot, and whose word fits
abbrev pub IsTermSlot : Term → Type 0
IsTermSlot (term.Var v) = IsFreeSlot (slot_of v)
IsTermSlot (term.Word n) = IsWord n

-- ---- of two slots at most one has a name that isn't the last
name_number : Slot → ℕ
name_number (Fixed r) = 0
name_number (Name n) = n

same_number : (n m : ℕ) → Name n ≡ Name m → n ≡ m
unfolding name_number
same_number n m e = ap name_number e

last_is : (a : Slot) (n : ℕ) → is_last (last_name (a ∷ Name n ∷ [])) n ≡ true
last_is (Fixed r) n = eq-eqb n n refl
last_is (Name m) n = eq-eqb n n refl

first_is : (a b : Slot) (n : ℕ) → HasName n (a ∷ b ∷ []) → is_last (last_name (a ∷ b ∷ [])) n ≡ false → a ≡ Name n
first_is a b n (inl e) h = e
first_is a b n (inr (inl e)) h = absurd (let f : true ≡ false = sym (last_is a n) ∙ (ap (λ s. is_last (last_name (a ∷ s ∷ [])) n) (sym e) ∙ h) in cc)
first_is a b n (inr (inr none)) h = absurd none

two_names : (a b : Slot) (n m : ℕ) → HasName n (a ∷ b ∷ []) → HasName m (a ∷ b ∷ []) → is_last (last_name (a ∷ b ∷ [])) n ≡ false → is_last (last_name (a ∷ b ∷ [])) m ≡ false → n ≡ m
two_names a b n m h k f g = same_number n m (sym (first_is a b n h f) ∙ first_is a b m k g)

one_name : (a : Slot) (n m : ℕ) → HasName n (a ∷ []) → HasName m (a ∷ []) → n ≡ m
one_name a n m (inl e) (inl f) = same_number n m (sym e ∙ f)
one_name a n m (inl e) (inr none) = absurd none
one_name a n m (inr none) h = absurd none

-- the last slot fits a field of one byte
fits_last_of_one : (a : Slot) → FitsField (a ∷ []) Byte a
fits_last_of_one (Fixed r) = tt
fits_last_of_one (Name n) = eq-eqb n n refl

fits_last_of_two : (a b : Slot) → FitsField (a ∷ b ∷ []) Byte b
fits_last_of_two a (Fixed r) = tt
fits_last_of_two a (Name n) = last_is a n

and_false : (b : Bool) → (b && false) ≡ false
and_false true = refl
and_false false = refl

word_fits : (n : ℕ) → IsWord n → number_fits Four n ≡ true
word_fits n h = lt-ltb n 4294967296 h

module _ (spelling : SpellingLaw) (code : List VBlock) where
  abbrev numbers : List ℕ
  numbers = map (λ b. b.number) code

  -- what is promised of a chosen instruction
  pub record IsChosen (x : VInstr) : Type 0 where
    pub form : IsInstrInForm code x
    pub placeable : IsInstrPlaceable x
    pub counted : All IsCounted x.slots

  -- what is asked of an instruction with these fields, whatever stands in them
  record HasFields (i : Instr) (fs : List Field) : Type 0 where
    spelled : fields_fit i ≡ true
    numbered : map number_of_reg (register_fields i) ≡ range_with_len 0 (length fs)
    by_field : fields i ≡ fs
    implicit : AllByRecursion (λ n. n < 4) (implicit_registers i)
    stackless : IsStackless i
    target : NamesBlock numbers i

  -- ---- by how many fields there are
  none : (i : Instr) → HasFields i [] → IsChosen (made i [])
  none i h = record {
    form = record { spelled = (spelling i).0 h.spelled; fields = h.numbered; slots = All-from_recursion IsSlot [] tt; stackless = h.stackless; target = h.target };
    placeable = record {
      few = omega arith;
      slots = All-from_recursion IsPlaceable [] tt;
      by_field = subst (All (IsFieldPlaceable [])) (sym h.by_field) (All-from_recursion (IsFieldPlaceable []) [] tt);
      implicit = All-from_recursion (λ n. n < 4) (implicit_registers i) h.implicit;
      two = λ n m k l f g. absurd k;
      ebx = λ e. absurd (let f : false ≡ true = sym (and_false (has_byte_field i)) ∙ e in cc);
      falls = λ e. absurd cc;
    };
    counted = All-from_recursion IsCounted [] tt;
  }

  one : (i : Instr) (k : RegisterField) (a : Slot) → HasFields i (as_field k Eax ∷ []) → IsChosenSlot a → FitsField (a ∷ []) k a → (borrows_ebx (made i (a ∷ [])) ≡ true → LeavesEbx (made i (a ∷ []))) → (is_some (last_name (a ∷ [])) ≡ true → IsFalling i) → IsChosen (made i (a ∷ []))
  one i k a h s fits ebx falls = record {
    form = record { spelled = (spelling i).0 h.spelled; fields = h.numbered; slots = All-from_recursion IsSlot (a ∷ []) (s.form, tt); stackless = h.stackless; target = h.target };
    placeable = record {
      few = omega arith;
      slots = All-from_recursion IsPlaceable (a ∷ []) (s.placeable, tt);
      by_field = subst (All (IsFieldPlaceable (a ∷ []))) (sym h.by_field) (All-from_recursion (IsFieldPlaceable (a ∷ [])) (as_field k Eax ∷ []) (record { early = omega arith; fits = fits }, tt));
      implicit = All-from_recursion (λ n. n < 4) (implicit_registers i) h.implicit;
      two = λ n m k l f g. one_name a n m k l;
      ebx = ebx;
      falls = falls;
    };
    counted = All-from_recursion IsCounted (a ∷ []) (s.counted, tt);
  }

  two : (i : Instr) (k l : RegisterField) (a b : Slot) → HasFields i (as_field k Eax ∷ as_field l Ecx ∷ []) → IsChosenSlot a → IsChosenSlot b → FitsField (a ∷ b ∷ []) k a → FitsField (a ∷ b ∷ []) l b → (borrows_ebx (made i (a ∷ b ∷ [])) ≡ true → LeavesEbx (made i (a ∷ b ∷ []))) → IsFalling i → IsChosen (made i (a ∷ b ∷ []))
  two i k l a b h s t first second ebx falls = record {
    form = record { spelled = (spelling i).0 h.spelled; fields = h.numbered; slots = All-from_recursion IsSlot (a ∷ b ∷ []) (s.form, (t.form, tt)); stackless = h.stackless; target = h.target };
    placeable = record {
      few = omega arith;
      slots = All-from_recursion IsPlaceable (a ∷ b ∷ []) (s.placeable, (t.placeable, tt));
      by_field = subst (All (IsFieldPlaceable (a ∷ b ∷ []))) (sym h.by_field)
          (All-from_recursion (IsFieldPlaceable (a ∷ b ∷ [])) (as_field k Eax ∷ as_field l Ecx ∷ []) (record { early = omega arith; fits = first }, (record { early = omega arith; fits = second }, tt)));
      implicit = All-from_recursion (λ n. n < 4) (implicit_registers i) h.implicit;
      two = two_names a b;
      ebx = ebx;
      falls = λ e. falls;
    };
    counted = All-from_recursion IsCounted (a ∷ b ∷ []) (s.counted, (t.counted, tt));
  }

  -- ---- where no field is of one byte EBX isn't borrowed
  whole_borrows : (i : Instr) (slots : List Slot) → has_byte_field i ≡ false → borrows_ebx (made i slots) ≡ true → LeavesEbx (made i slots)
  whole_borrows i slots h e = absurd (let f : false ≡ true = sym (ap (λ b. b && is_some (last_name slots)) h) ∙ e in cc)

  whole_one : (i : Instr) (a : Slot) → HasFields i (as_field Whole Eax ∷ []) → has_byte_field i ≡ false → IsFalling i → IsChosenSlot a → IsChosen (made i (a ∷ []))
  whole_one i a h e f s = one i Whole a h s tt (whole_borrows i (a ∷ []) e) (λ g. f)

  whole_two : (i : Instr) (a b : Slot) → HasFields i (as_field Whole Eax ∷ as_field Whole Ecx ∷ []) → has_byte_field i ≡ false → IsFalling i → IsChosenSlot a → IsChosenSlot b → IsChosen (made i (a ∷ b ∷ []))
  whole_two i a b h e f s t = two i Whole Whole a b h s t tt tt (whole_borrows i (a ∷ b ∷ []) e) f

  -- ---- and where the last field is, it is left by free slots
  byte_one : (i : Instr) (a : Slot) → HasFields i (as_field Byte Eax ∷ []) → AllByRecursion (λ n. n < 3) (implicit_registers i) → IsFalling i → IsFreeSlot a → IsChosen (made i (a ∷ []))
  byte_one i a h low f s =
      one i Byte a h (free a s) (fits_last_of_one a) (λ e. record { slots = All-from_recursion (λ s. s ≢ Fixed Ebx) (a ∷ []) (not_ebx a s, tt); implicit = All-from_recursion (λ n. n < 3) (implicit_registers i) low }) (λ g. f)

  byte_two : (i : Instr) (k : RegisterField) (a b : Slot) → HasFields i (as_field k Eax ∷ as_field Byte Ecx ∷ []) → FitsField (a ∷ b ∷ []) k a → AllByRecursion (λ n. n < 3) (implicit_registers i) → IsFalling i → IsFreeSlot a → IsFreeSlot b → IsChosen (made i (a ∷ b ∷ []))
  byte_two i k a b h first low f s t =
      two i k Byte a b h (free a s) (free b t) first (fits_last_of_two a b) (λ e. record { slots = All-from_recursion (λ s. s ≢ Fixed Ebx) (a ∷ b ∷ []) (not_ebx a s, (not_ebx b t, tt)); implicit = All-from_recursion (λ n. n < 3) (implicit_registers i) low }) f

  has : {i : Instr} {fs : List Field} → fields_fit i ≡ true → map number_of_reg (register_fields i) ≡ range_with_len 0 (length fs) → fields i ≡ fs → AllByRecursion (λ n. n < 4) (implicit_registers i) → IsStackless i → NamesBlock numbers i → HasFields i fs
  has a b c d e f = record { spelled = a; numbered = b; by_field = c; implicit = d; stackless = e; target = f }

  -- ---- each instruction
  pub put_chosen : (to : Slot) (t : Term) → IsFreeSlot to → IsTermSlot t → IsChosen (put to t)
  unfolding register_fields fields implicit_registers has_byte_field
  put_chosen to (term.Var v) h k = whole_two _ to (slot_of v) (has refl refl refl tt tt tt) refl tt (free to h) (free (slot_of v) k)
  put_chosen to (term.Word n) h k = whole_one _ to (has (word_fits n k) refl refl tt tt tt) refl tt (free to h)

  pub copy_chosen : (to from : Slot) → IsFreeSlot to → IsFreeSlot from → IsChosen (copy to from)
  unfolding register_fields fields implicit_registers has_byte_field
  copy_chosen to from h k = whole_two _ to from (has refl refl refl tt tt tt) refl tt (free to h) (free from k)

  pub ebx_chosen : (n : ℕ) → n < 1400013 → IsChosen (copy (Fixed Ebx) (Name n))
  unfolding register_fields fields implicit_registers has_byte_field
  ebx_chosen n h = whole_two _ (Fixed Ebx) (Name n) (has refl refl refl tt tt tt) refl tt ebx (free (Name n) h)

  pub extend_one_chosen : (to from : Slot) → IsFreeSlot to → IsFreeSlot from → IsChosen (extend One to from)
  unfolding register_fields fields implicit_registers has_byte_field
  extend_one_chosen to from h k = byte_two _ Whole to from (has refl refl refl tt tt tt) tt tt tt h k

  pub extend_two_chosen : (to from : Slot) → IsFreeSlot to → IsFreeSlot from → IsChosen (extend Two to from)
  unfolding register_fields fields implicit_registers has_byte_field
  extend_two_chosen to from h k = whole_two _ to from (has refl refl refl tt tt tt) refl tt (free to h) (free from k)

  pub byte_chosen : (r : Reg) (from : Slot) → IsFreeSlot (Fixed r) → IsFreeSlot from → IsChosen (copy_byte (Fixed r) from)
  unfolding register_fields fields implicit_registers has_byte_field
  byte_chosen r from h k = byte_two _ Byte (Fixed r) from (has refl refl refl tt tt tt) tt tt tt h k

  pub alu_chosen : (o : AluOp) (to : Slot) (t : Term) → IsFreeSlot to → IsTermSlot t → IsChosen (alu_by o to t)
  unfolding register_fields fields implicit_registers has_byte_field
  alu_chosen o to (term.Var v) h k = whole_two _ to (slot_of v) (has refl refl refl tt tt tt) refl tt (free to h) (free (slot_of v) k)
  alu_chosen o to (term.Word n) h k = whole_one _ to (has (word_fits n k) refl refl tt tt tt) refl tt (free to h)

  pub set_chosen : (c : Cond) (to : Slot) → IsFreeSlot to → IsChosen (set_if c to)
  unfolding register_fields fields implicit_registers has_byte_field
  set_chosen c to h = byte_one _ to (has refl refl refl tt tt tt) tt tt h

  pub move_chosen : (c : Cond) (to from : Slot) → IsFreeSlot to → IsFreeSlot from → IsChosen (move_if c to from)
  unfolding register_fields fields implicit_registers has_byte_field
  move_chosen c to from h k = whole_two _ to from (has refl refl refl tt tt tt) refl tt (free to h) (free from k)

  pub shift_chosen : (o : ShiftOp) (to : Slot) → IsFreeSlot to → IsChosen (shift_by o count.Cl to)
  unfolding register_fields fields implicit_registers has_byte_field
  shift_chosen o to h = whole_one _ to (has refl refl refl (omega arith, tt) tt tt) refl tt (free to h)

  pub shift_byte_chosen : (o : ShiftOp) (to : Slot) → IsFreeSlot to → IsChosen (shift_by o (count.Imm 8) to)
  unfolding register_fields fields implicit_registers has_byte_field
  shift_byte_chosen o to h = whole_one _ to (has refl refl refl tt tt tt) refl tt (free to h)

  pub multiply_chosen : (signed : Bool) (from : Slot) → IsFreeSlot from → IsChosen (multiply_by signed from)
  unfolding register_fields fields implicit_registers has_byte_field
  multiply_chosen false from h = whole_one _ from (has refl refl refl (omega arith, (omega arith, tt)) tt tt) refl tt (free from h)
  multiply_chosen true from h = whole_one _ from (has refl refl refl (omega arith, (omega arith, tt)) tt tt) refl tt (free from h)

  pub divide_chosen : (signed : Bool) (w : Width) (from : Slot) → IsFreeSlot from → IsChosen (divide_by signed w from)
  unfolding register_fields fields implicit_registers has_byte_field
  divide_chosen false One from h = byte_one _ from (has refl refl refl (omega arith, tt) tt tt) (omega arith, tt) tt h
  divide_chosen false Two from h = whole_one _ from (has refl refl refl (omega arith, (omega arith, tt)) tt tt) refl tt (free from h)
  divide_chosen false Four from h = whole_one _ from (has refl refl refl (omega arith, (omega arith, tt)) tt tt) refl tt (free from h)
  divide_chosen true One from h = byte_one _ from (has refl refl refl (omega arith, tt) tt tt) (omega arith, tt) tt h
  divide_chosen true Two from h = whole_one _ from (has refl refl refl (omega arith, (omega arith, tt)) tt tt) refl tt (free from h)
  divide_chosen true Four from h = whole_one _ from (has refl refl refl (omega arith, (omega arith, tt)) tt tt) refl tt (free from h)

  pub load_chosen : (w : Width) (to : Slot) (at : Term) → IsFreeSlot to → IsTermSlot at → IsChosen (load_by w to at)
  unfolding register_fields fields implicit_registers has_byte_field
  load_chosen One to (term.Var v) h k = whole_two _ to (slot_of v) (has refl refl refl tt tt tt) refl tt (free to h) (free (slot_of v) k)
  load_chosen One to (term.Word n) h k = whole_one _ to (has (word_fits n k) refl refl tt tt tt) refl tt (free to h)
  load_chosen Two to (term.Var v) h k = whole_two _ to (slot_of v) (has refl refl refl tt tt tt) refl tt (free to h) (free (slot_of v) k)
  load_chosen Two to (term.Word n) h k = whole_one _ to (has (word_fits n k) refl refl tt tt tt) refl tt (free to h)
  load_chosen Four to (term.Var v) h k = whole_two _ to (slot_of v) (has refl refl refl tt tt tt) refl tt (free to h) (free (slot_of v) k)
  load_chosen Four to (term.Word n) h k = whole_one _ to (has (word_fits n k) refl refl tt tt tt) refl tt (free to h)

  pub store_chosen : (w : Width) (at : Term) (from : Slot) → IsTermSlot at → IsFreeSlot from → IsChosen (store_by w at from)
  unfolding register_fields fields implicit_registers has_byte_field
  store_chosen One (term.Var v) from h k = byte_two _ Whole (slot_of v) from (has refl refl refl tt tt tt) tt tt tt h k
  store_chosen One (term.Word n) from h k = byte_one _ from (has (word_fits n h) refl refl tt tt tt) tt tt k
  store_chosen Two (term.Var v) from h k = whole_two _ (slot_of v) from (has refl refl refl tt tt tt) refl tt (free (slot_of v) h) (free from k)
  store_chosen Two (term.Word n) from h k = whole_one _ from (has (word_fits n h) refl refl tt tt tt) refl tt (free from k)
  store_chosen Four (term.Var v) from h k = whole_two _ (slot_of v) from (has refl refl refl tt tt tt) refl tt (free (slot_of v) h) (free from k)
  store_chosen Four (term.Word n) from h k = whole_one _ from (has (word_fits n h) refl refl tt tt tt) refl tt (free from k)

  pub call_chosen : IsChosen (made instr.Int80 [])
  unfolding register_fields fields implicit_registers has_byte_field
  call_chosen = none instr.Int80 (has refl refl refl (omega arith, (omega arith, (omega arith, (omega arith, tt)))) tt tt)

  pub nothing_chosen : IsChosen (made instr.Nop [])
  unfolding register_fields fields implicit_registers has_byte_field
  nothing_chosen = none instr.Nop (has refl refl refl tt tt tt)

  -- ---- jumps
  pub jump_chosen : (n : ℕ) → IsWord n → Contains numbers n → IsChosen (made (instr.Jmp n) [])
  unfolding register_fields fields implicit_registers has_byte_field
  jump_chosen n h there = none (instr.Jmp n) (has (word_fits n h) refl refl tt tt there)

  pub branch_chosen : (c : Cond) (n : ℕ) → IsWord n → Contains numbers n → IsChosen (made (instr.Jcc c n) [])
  unfolding register_fields fields implicit_registers has_byte_field
  branch_chosen c n h there = none (instr.Jcc c n) (has (word_fits n h) refl refl tt tt there)

  pub old_chosen : (r : Reg) → IsFreeSlot (Fixed r) → IsChosen (made (instr.JmpTo (rm.Reg Eax)) (Fixed r ∷ []))
  unfolding register_fields fields implicit_registers has_byte_field
  old_chosen r h = one (instr.JmpTo (rm.Reg Eax)) Whole (Fixed r) (has refl refl refl tt tt tt) (free (Fixed r) h) tt (whole_borrows (instr.JmpTo (rm.Reg Eax)) (Fixed r ∷ []) refl) (λ e. absurd cc)
