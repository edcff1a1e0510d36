-- Each operation is met by its list.
use Rattle.std.proofs.Common.{◌≡◌, ℕ, ◌==◌, Bool, true, false, cond, [], ◌∷◌, map, Some, Ok, refl, sym, ap, ◌∙◌, subst, arith}
use Rattle.traces.specs.Trace.{Go}
use Rattle.x86_values.specs.declared.word.Word.{Word}
use Rattle.x86_values.specs.declared.word.Flags.{Flags}
use Rattle.x86_values.specs.declared.answered.Answered.{Answered}
use Rattle.x86_values.specs.Words.{word_of, known}
use Rattle.x86_values.specs.Results.{no_flags}
use Rattle.x86_values.specs.Products.{multiply}
use Rattle.x86_values.specs.Shifts.{shift}
use Rattle.x86_values.specs.Sums.{sub}
use Rattle.x86_values.specs.Conditions.{condition}
use Rattle.x86_values.specs.LessSpecified.{WordLessSpecified, FlagsLessSpecified}
use Rattle.x86_values.specs.LessSpecifiedLaws.{LessSpecifiedLaws}
use Rattle.x86_values.specs.WordLaws.{WordLaws}
use Rattle.x86_values.specs.SumLaws.{SumLaws}
use Rattle.x86_values.specs.LogicLaws.{LogicLaws}
use Rattle.x86_values.specs.ShiftLaws.{ShiftLaws}
use Rattle.x86_values.specs.ProductLaws.{ProductLaws}
use Rattle.x86_values.specs.DivisionLaws.{DivisionLaws}
use Rattle.x86_values.specs.declared.logic.Bit.TheVariants as bit
use Rattle.x86_types.specs.declared.operation.AluOp.{AluOp}
use Rattle.x86_types.specs.declared.operation.AluOp.TheVariants as alu
use Rattle.x86_types.specs.declared.operation.ShiftOp.{ShiftOp}
use Rattle.x86_types.specs.declared.operation.ShiftOp.TheVariants as shiftop
use Rattle.x86_types.specs.declared.operation.Cond.{Cond}
use Rattle.x86_types.specs.declared.operation.Cond.TheVariants as condition_of
use Rattle.x86_types.specs.declared.operand.Reg.TheVariants.{Eax, Ecx, Edx}
use Rattle.memory.specs.LessSpecifiedLaws.{LessSpecifiedMemoryLaws}
use Rattle.memory.specs.CallLaws.{CallLaws}
use Rattle.x86_meaning.specs.Outcomes.{chosen}
use Rattle.flag_ir.specs.declared.variable.Var.{Var}
use Rattle.flag_ir.specs.declared.variable.Term.{Term}
use Rattle.flag_ir.specs.declared.variable.Term.TheVariants as term
use Rattle.flag_ir.specs.declared.operation.Calc.{Calc}
use Rattle.flag_ir.specs.declared.operation.Calc.TheVariants as calc
use Rattle.flag_ir.specs.Calculations.{calculate, sum_of, difference_of, and_of, or_of, xor_of, product_of, upper_product_of, shifted_of, equal_of, below_of, less_of}
use Rattle.flag_ir.specs.Storage.{Storage, put_var, term_in}
use Rattle.flag_ir.specs.Operations.{picked}
use Rattle.flag_ir.specs.Form.{IsVar, IsTerm}
use Rattle.named_code.specs.declared.slot.Slot.{Slot}
use Rattle.named_code.specs.declared.slot.Slot.TheVariants.{Fixed}
use Rattle.named_code.specs.Items.{named_item, place_of}
use Rattle.named_code.specs.Running.{CodeState, CodePoint, standing_at}
use Rattle.instr_choose.specs.Lists.{name_of, slot_of, put, copy, alu_by, is_of, by_alu, by_multiply, by_shift, by_compare, choose_calc, choose_pick}
use Rattle.instr_choose.specs.Relation.{place_of_var, IsBelow}
use Rattle.instr_choose.proofs.Items.{with_place, with_flags, term_at, put_is, copy_is, alu_answer, alu_after, IsApart, alu_is, with_lowest_byte, set_is, move_if_is, shifted, shift_is, multiplied, multiply_is}
use Rattle.instr_choose.proofs.Below.{here, elsewhere, apart_scratch, term_apart, but, over, flagged_but, scratch, flagged, sets, term_below}
use Rattle.instr_choose.proofs.Comparing.{equal_says, below_says, less_says, compared_less, picked_less}
use Rattle.instr_choose.proofs.Rules.{Comes, then, ends}

-- the laws of the crates below
pub record LawsBelow : Type 0 where
  pub less : LessSpecifiedLaws
  pub words : WordLaws
  pub sums : SumLaws
  pub logic : LogicLaws
  pub shifts : ShiftLaws
  pub products : ProductLaws
  pub divisions : DivisionLaws
  pub memory : LessSpecifiedMemoryLaws
  pub calls : CallLaws

module _ (laws : LawsBelow) where
  abbrev pub value_below : (t : Term) (u : Storage) (s : CodeState) → IsTerm 0 t → IsBelow u s → WordLessSpecified (term_in t u) (term_at t s)
  value_below = term_below laws.less laws.words

  -- ---- the result of a list goes to its variable last
  pub result : (t : Var) (x : Word) (p : Slot) (u : Storage) (s : CodeState) → IsVar 0 t → WordLessSpecified x (s.cpu.regs (place_of p)) → IsBelow u s → Comes (Ok (put_var t x u)) [] (named_item (copy (slot_of t) p) ∷ []) s
  result t x p u s i h b = then (with_place (place_of_var t) (s.cpu.regs (place_of p)) s) (copy_is (slot_of t) p s) (ends (sets t u s x _ i h (but t u s b)))

  pub set_meets : (t : Var) (x : Term) (u : Storage) (s : CodeState) → IsVar 0 t → IsTerm 0 x → IsBelow u s → Comes (Ok (put_var t (term_in x u) u)) [] (map named_item (put (slot_of t) x ∷ [])) s
  set_meets t x u s i j h = then (with_place (place_of_var t) (term_at x s) s) (put_is (slot_of t) x s) (ends (sets t u s _ _ i (value_below x u s j h) (but t u s h)))

  -- ---- operations of two words
  abbrev IsCore : AluOp → (Word → Word → Word) → Type 0
  IsCore o f = (x y x' y' : Word) (g : Flags) → WordLessSpecified x x' → WordLessSpecified y y' → WordLessSpecified (f x y) (alu_answer o x' y' g).value

  abbrev Writes : AluOp → Type 0
  Writes o = (p : ℕ) (a : Answered) (s : CodeState) → alu_after o p a s ≡ with_place p a.value (with_flags a.flags s)

  apart_var : (t : Var) (y : Term) → is_of t y ≡ false → IsApart (place_of_var t) y
  apart_var t (term.Var w) h = Rattle.std.proofs.lemmas.Bool.ne_eqb (place_of_var t) (place_of_var w) (λ e. let g : name_of w ≡ name_of t = omega (arith, e) in absurd (let q : (name_of w == name_of t) ≡ true = Rattle.std.proofs.lemmas.Bool.eq-eqb _ _ g in cc))
  apart_var t (term.Word n) h = tt

  alu_meets : (o : AluOp) (f : Word → Word → Word) → IsCore o f → Writes o → (t : Var) (x y : Term) (u : Storage) (s : CodeState) → IsVar 0 t → IsTerm 0 x → IsTerm 0 y → IsBelow u s
      → Comes (Ok (put_var t (f (term_in x u) (term_in y u)) u)) [] (map named_item (by_alu o t x y)) s
  alu_meets o f core writes t x y u s i j k h = by (is_of t y) refl
    where
      value : (p : ℕ) → IsApart p y → WordLessSpecified (f (term_in x u) (term_in y u)) (alu_answer o ((with_place p (term_at x s) s).cpu.regs p) (term_at y (with_place p (term_at x s) s)) s.cpu.flags).value
      value p apart =
          core _ _ _ _ s.cpu.flags (subst (WordLessSpecified (term_in x u)) (sym (here p (term_at x s) s.cpu.regs)) (value_below x u s j h))
          (subst (WordLessSpecified (term_in y u)) (sym (term_apart p y (term_at x s) s apart)) (value_below y u s k h))

      by : (b : Bool) → is_of t y ≡ b → Comes (Ok (put_var t (f (term_in x u) (term_in y u)) u)) [] (map named_item (cond b (put (Fixed Eax) x ∷ alu_by o (Fixed Eax) y ∷ copy (slot_of t) (Fixed Eax) ∷ []) (put (slot_of t) x ∷ alu_by o (slot_of t) y ∷ []))) s
      by true e =
          let s1 = with_place 0 (term_at x s) s in
          let a = alu_answer o (s1.cpu.regs 0) (term_at y s1) s1.cpu.flags in
          let s2 = with_place 0 a.value (with_flags a.flags s1) in
          then s1 (put_is (Fixed Eax) x s)
          (then s2 (λ rest. alu_is o (Fixed Eax) y s1 (apart_scratch 0 y (omega arith)) rest ∙ ap (λ (z : CodeState). Go [] (standing_at (CodePoint.Inside rest) z)) (writes 0 a s1))
          (result t _ (Fixed Eax) u s2 i (subst (WordLessSpecified (f (term_in x u) (term_in y u))) (sym (here 0 a.value s1.cpu.regs)) (value 0 (apart_scratch 0 y (omega arith)))) (scratch u _ 0 a.value (omega arith) (flagged u s1 a.flags (scratch u s 0 (term_at x s) (omega arith) h)))))
      by false e =
          let p = place_of_var t in
          let s1 = with_place p (term_at x s) s in
          let a = alu_answer o (s1.cpu.regs p) (term_at y s1) s1.cpu.flags in
          let s2 = with_place p a.value (with_flags a.flags s1) in
          then s1 (put_is (slot_of t) x s)
          (then s2 (λ rest. alu_is o (slot_of t) y s1 (apart_var t y e) rest ∙ ap (λ (z : CodeState). Go [] (standing_at (CodePoint.Inside rest) z)) (writes p a s1))
          (ends (sets t u (with_flags a.flags s1) _ a.value i (value p (apart_var t y e)) (flagged_but t u s1 a.flags (over t u s (term_at x s) (but t u s h))))))

  sum_core : IsCore alu.Add sum_of
  unfolding sum_of
  sum_core x y x' y' g h k = (laws.sums.add_less 4 x y x' y' (Some false) (Some false) refl h k refl).value

  difference_core : IsCore alu.Sub difference_of
  unfolding difference_of
  difference_core x y x' y' g h k = (laws.sums.sub_less 4 x y x' y' (Some false) (Some false) refl h k refl).value

  and_core : IsCore alu.And and_of
  unfolding and_of
  and_core x y x' y' g h k = (laws.logic.bitwise_less bit.And 4 x y x' y' refl h k).value

  or_core : IsCore alu.Or or_of
  unfolding or_of
  or_core x y x' y' g h k = (laws.logic.bitwise_less bit.Or 4 x y x' y' refl h k).value

  xor_core : IsCore alu.Xor xor_of
  unfolding xor_of
  xor_core x y x' y' g h k = (laws.logic.bitwise_less bit.Xor 4 x y x' y' refl h k).value

  -- ---- comparisons
  compare_meets : (c : Cond) (f : Word → Word → Word) → ((x y x' y' : Word) → WordLessSpecified x x' → WordLessSpecified y y' → WordLessSpecified (f x y) (with_lowest_byte (chosen (condition c (sub 4 x' y' (Some false)).flags) (word_of 0) (word_of 1)) (word_of 0)))
      → (t : Var) (x y : Term) (u : Storage) (s : CodeState) → IsVar 0 t → IsTerm 0 x → IsTerm 0 y → IsBelow u s → Comes (Ok (put_var t (f (term_in x u) (term_in y u)) u)) [] (map named_item (by_compare c t x y)) s
  compare_meets c f core t x y u s i j k h =
      let p = place_of_var t in
      let s1 = with_place 0 (term_at x s) s in
      let h1 = scratch u s 0 (term_at x s) (omega arith) h in
      let a = sub 4 (s1.cpu.regs 0) (term_at y s1) (Some false) in
      let s2 = with_flags a.flags s1 in
      let h2 = flagged u s1 a.flags h1 in
      let s3 = with_place p (word_of 0) s2 in
      let v = with_lowest_byte (chosen (condition c a.flags) (word_of 0) (word_of 1)) (s3.cpu.regs p) in
      let x_less = subst (WordLessSpecified (term_in x u)) (sym (here 0 (term_at x s) s.cpu.regs)) (value_below x u s j h) in
      let v_less = subst (λ (z : Word). WordLessSpecified (f (term_in x u) (term_in y u)) (with_lowest_byte (chosen (condition c a.flags) (word_of 0) (word_of 1)) z)) (sym (here p (word_of 0) s2.cpu.regs)) (core _ _ _ _ x_less (value_below y u s1 k h1)) in
      then s1 (put_is (Fixed Eax) x s)
      (then s2 (alu_is alu.Cmp (Fixed Eax) y s1 (apart_scratch 0 y (omega arith)))
      (then s3 (put_is (slot_of t) (term.Word 0) s2)
      (then (with_place p v s3) (set_is c t s3)
      (ends (sets t u s3 _ v i v_less (over t u s2 (word_of 0) (but t u s2 h2)))))))

  -- ---- products
  multiply_meets : (signed : Bool) (t : Var) (x y : Term) (u : Storage) (s : CodeState) → IsVar 0 t → IsTerm 0 x → IsTerm 0 y → IsBelow u s
      → Comes (Ok (put_var t (multiply signed 4 (term_in x u) (term_in y u)).low u)) [] (map named_item (by_multiply signed Eax t x y)) s × Comes (Ok (put_var t (multiply signed 4 (term_in x u) (term_in y u)).high u)) [] (map named_item (by_multiply signed Edx t x y)) s
  multiply_meets signed t x y u s i j k h =
      let s1 = with_place 0 (term_at x s) s in
      let h1 = scratch u s 0 (term_at x s) (omega arith) h in
      let s2 = with_place 1 (term_at y s1) s1 in
      let h2 = scratch u s1 1 (term_at y s1) (omega arith) h1 in
      let p = multiply signed 4 (s2.cpu.regs 0) (s2.cpu.regs 1) in
      let s3 = multiplied p s2 in
      let low = with_place 0 p.low (with_flags p.flags s2) in
      let h3 = scratch u low 2 p.high (omega arith) (scratch u _ 0 p.low (omega arith) (flagged u s2 p.flags h2)) in
      let x_less = subst (WordLessSpecified (term_in x u)) (sym (elsewhere 1 0 (term_at y s1) s1.cpu.regs (λ e. omega (arith, e)) ∙ here 0 (term_at x s) s.cpu.regs)) (value_below x u s j h) in
      let y_less = subst (WordLessSpecified (term_in y u)) (sym (here 1 (term_at y s1) s1.cpu.regs)) (value_below y u s1 k h1) in
      let both = laws.products.multiply_less signed 4 _ _ _ _ refl x_less y_less in (
        then s1 (put_is (Fixed Eax) x s) (then s2 (put_is (Fixed Ecx) y s1) (then s3 (multiply_is signed (Fixed Ecx) s2)
            (result t _ (Fixed Eax) u s3 i (subst (WordLessSpecified (multiply signed 4 (term_in x u) (term_in y u)).low) (sym (elsewhere 2 0 p.high low.cpu.regs (λ e. omega (arith, e)) ∙ here 0 p.low s2.cpu.regs)) both.low) h3))),
        then s1 (put_is (Fixed Eax) x s) (then s2 (put_is (Fixed Ecx) y s1) (then s3 (multiply_is signed (Fixed Ecx) s2)
            (result t _ (Fixed Edx) u s3 i (subst (WordLessSpecified (multiply signed 4 (term_in x u) (term_in y u)).high) (sym (here 2 p.high low.cpu.regs)) both.high) h3))),
      )

  -- ---- shifts by CL
  shift_meets : (o : ShiftOp) (t : Var) (x y : Term) (u : Storage) (s : CodeState) → IsVar 0 t → IsTerm 0 x → IsTerm 0 y → IsBelow u s → Comes (Ok (put_var t (shift o 4 (term_in x u) (term_in y u).b0 no_flags).value u)) [] (map named_item (by_shift o t x y)) s
  shift_meets o t x y u s i j k h =
      let p = place_of_var t in
      let s1 = with_place 1 (term_at y s) s in
      let h1 = scratch u s 1 (term_at y s) (omega arith) h in
      let s2 = with_place p (term_at x s1) s1 in
      let a = shift o 4 (s2.cpu.regs p) (s2.cpu.regs 1).b0 s2.cpu.flags in
      let y_less = subst (WordLessSpecified (term_in y u)) (sym (elsewhere p 1 (term_at x s1) s1.cpu.regs (λ e. omega (arith, e)) ∙ here 1 (term_at y s) s.cpu.regs)) (value_below y u s k h) in
      let x_less = subst (WordLessSpecified (term_in x u)) (sym (here p (term_at x s1) s1.cpu.regs)) (value_below x u s1 j h1) in
      let none : FlagsLessSpecified no_flags s2.cpu.flags = record { cf = tt; pf = tt; zf = tt; sf = tt; of = tt } in
      then s1 (put_is (Fixed Ecx) y s)
      (then s2 (put_is (slot_of t) x s1)
      (then (shifted o p (s2.cpu.regs 1).b0 s2) (shift_is o (slot_of t) s2)
      (ends (sets t u (with_flags a.flags s2) _ a.value i (laws.shifts.shift_less o 4 _ _ _ _ _ _ refl x_less y_less.b0 none).value (flagged_but t u s2 a.flags (over t u s1 (term_at x s1) (but t u s1 h1)))))))

  -- ---- a pick
  pub pick_meets : (t : Var) (x y z : Term) (u : Storage) (s : CodeState) → IsVar 0 t → IsTerm 0 x → IsTerm 0 y → IsTerm 0 z → IsBelow u s → Comes (Ok (put_var t (picked (known (term_in x u)) (term_in y u) (term_in z u)) u)) [] (map named_item (choose_pick t x y z)) s
  pick_meets t x y z u s i j k l h =
      let p = place_of_var t in
      let s1 = with_place 0 (term_at x s) s in
      let h1 = scratch u s 0 (term_at x s) (omega arith) h in
      let a = sub 4 (s1.cpu.regs 0) (word_of 0) (Some false) in
      let s2 = with_flags a.flags s1 in
      let h2 = flagged u s1 a.flags h1 in
      let s3 = with_place 1 (term_at y s2) s2 in
      let h3 = scratch u s2 1 (term_at y s2) (omega arith) h2 in
      let s4 = with_place p (term_at z s3) s3 in
      let v = chosen (condition condition_of.Ne a.flags) (s4.cpu.regs p) (s4.cpu.regs 1) in
      let x_less = subst (WordLessSpecified (term_in x u)) (sym (here 0 (term_at x s) s.cpu.regs)) (value_below x u s j h) in
      let y_less = subst (WordLessSpecified (term_in y u)) (sym (elsewhere p 1 (term_at z s3) s3.cpu.regs (λ e. omega (arith, e)) ∙ here 1 (term_at y s2) s2.cpu.regs)) (value_below y u s2 k h2) in
      let z_less = subst (WordLessSpecified (term_in z u)) (sym (here p (term_at z s3) s3.cpu.regs)) (value_below z u s3 l h3) in
      then s1 (put_is (Fixed Eax) x s)
      (then s2 (alu_is alu.Cmp (Fixed Eax) (term.Word 0) s1 tt)
      (then s3 (put_is (Fixed Ecx) y s2)
      (then s4 (put_is (slot_of t) z s3)
      (then (with_place p v s4) (move_if_is condition_of.Ne (slot_of t) (Fixed Ecx) s4)
      (ends (sets t u s4 _ v i (picked_less laws.less laws.words _ _ _ _ _ _ x_less y_less z_less) (over t u s3 (term_at z s3) (but t u s3 h3))))))))

  -- ---- calculations
  pub calc_meets : (c : Calc) (t : Var) (x y : Term) (u : Storage) (s : CodeState) → IsVar 0 t → IsTerm 0 x → IsTerm 0 y → IsBelow u s → Comes (Ok (put_var t (calculate c (term_in x u) (term_in y u)) u)) [] (map named_item (choose_calc c t x y)) s
  unfolding product_of upper_product_of shifted_of equal_of below_of less_of
  calc_meets calc.Add t x y u s = alu_meets alu.Add sum_of sum_core (λ p a s. refl) t x y u s
  calc_meets calc.Sub t x y u s = alu_meets alu.Sub difference_of difference_core (λ p a s. refl) t x y u s
  calc_meets calc.And t x y u s = alu_meets alu.And and_of and_core (λ p a s. refl) t x y u s
  calc_meets calc.Or t x y u s = alu_meets alu.Or or_of or_core (λ p a s. refl) t x y u s
  calc_meets calc.Xor t x y u s = alu_meets alu.Xor xor_of xor_core (λ p a s. refl) t x y u s
  calc_meets calc.Mul t x y u s = λ i j k h. (multiply_meets false t x y u s i j k h).0
  calc_meets calc.Mulhu t x y u s = λ i j k h. (multiply_meets false t x y u s i j k h).1
  calc_meets calc.Mulhs t x y u s = λ i j k h. (multiply_meets true t x y u s i j k h).1
  calc_meets calc.Shl t x y u s = shift_meets shiftop.Shl t x y u s
  calc_meets calc.Shr t x y u s = shift_meets shiftop.Shr t x y u s
  calc_meets calc.Sar t x y u s = shift_meets shiftop.Sar t x y u s
  calc_meets calc.Eq t x y u s = compare_meets condition_of.E equal_of (compared_less laws.less laws.words condition_of.E _ equal_says) t x y u s
  calc_meets calc.Ltu t x y u s = compare_meets condition_of.B below_of (compared_less laws.less laws.words condition_of.B _ below_says) t x y u s
  calc_meets calc.Lts t x y u s = compare_meets condition_of.L less_of (compared_less laws.less laws.words condition_of.L _ less_says) t x y u s
