-- Divisions are met by their lists.
use Rattle.std.proofs.Common.{◌≡◌, ℕ, ◌+◌, ◌*◌, ◌/◌, ◌%◌, ◌<◌, Bool, List, [], ◌∷◌, map, Some, Ok, refl, sym, ap, ◌∙◌, subst, arith}
use Rattle.x86_values.specs.declared.byte.Byte.{Byte}
use Rattle.x86_values.specs.declared.byte.Byte.TheVariants as byte
use Rattle.x86_values.specs.declared.word.Word.{Word}
use Rattle.x86_values.specs.declared.word.Flags.{Flags}
use Rattle.x86_values.specs.declared.divided.Divided.{Divided}
use Rattle.x86_values.specs.declared.divided.Divided.TheVariants as divide_to
use Rattle.x86_values.specs.Words.{word_of, known, padded}
use Rattle.x86_values.specs.Sizes.{cut, number, full, IsSize}
use Rattle.x86_values.specs.Results.{no_flags}
use Rattle.x86_values.specs.Shifts.{shifted, shift}
use Rattle.x86_values.specs.Divisions.{divide}
use Rattle.x86_values.specs.LessSpecified.{ByteLessSpecified, WordLessSpecified, DividedLessSpecified}
use Rattle.x86_types.specs.declared.operation.ShiftOp.TheVariants as shiftop
use Rattle.x86_types.specs.declared.operation.Count.TheVariants as count
use Rattle.x86_types.specs.declared.operand.Reg.TheVariants.{Eax, Ecx, Edx}
use Rattle.x86_types.specs.declared.width.Width.{Width}
use Rattle.x86_types.specs.declared.width.Width.TheVariants.{One, Two, Four}
use Rattle.x86_types.specs.Numbers.{size_of}
use Rattle.flag_ir.specs.declared.variable.Var.{Var}
use Rattle.flag_ir.specs.declared.variable.Term.{Term}
use Rattle.flag_ir.specs.Storage.{Storage, put_var, term_in}
use Rattle.flag_ir.specs.Operations.{divided_into}
use Rattle.flag_ir.specs.Form.{IsVar, IsTerm}
use Rattle.named_code.specs.declared.slot.Slot.TheVariants.{Fixed}
use Rattle.named_code.specs.Items.{Item, named_item}
use Rattle.named_code.specs.Running.{CodeState, act}
use Rattle.instr_choose.specs.Lists.{slot_of, copy, extend, shift_by, byte_dividend, byte_results, choose_divide}
use Rattle.instr_choose.specs.Relation.{place_of_var, IsBelow}
use Rattle.instr_choose.proofs.Items.{with_place, with_flags, term_at, put_is, copy_is, extend_two_is, extend_one_is, extend_dl_is, shift_by_is, copy_byte_is, with_lowest_byte, divided, division_at, after_division, divide_is}
use Rattle.instr_choose.proofs.Below.{here, elsewhere, but, scratch, flagged, sets}
use Rattle.instr_choose.proofs.Rules.{Comes, then, fails, excused, ends}
use Rattle.instr_choose.proofs.Quotients.{IsCut, AreCut, IsSmall, one, two, cut_word, divided_cut}
use Rattle.instr_choose.proofs.Choosing.{LawsBelow, value_below, result}

-- a list that goes on behind a division
by_divided : (w : Width) (d d' : Divided) (q r : Var) (u : Storage) (s : CodeState) (x : Item) (xs : List Item) → DividedLessSpecified d d' → ((rest : List Item) → act x rest s ≡ after_division d' w rest s)
    → ((a b a' b' : Word) → d ≡ divide_to.Got a b → WordLessSpecified a a' → WordLessSpecified b b' → Comes (Ok (put_var r b (put_var q a u))) [] xs (divided w a' b' s)) → Comes (divided_into d q r u) [] (x ∷ xs) s
by_divided w (divide_to.Got a b) (divide_to.Got a' b') q r u s x xs h is k = then (divided w a' b' s) is (k a b a' b' refl h.0 h.1)
by_divided w (divide_to.Got a b) divide_to.Fault q r u s x xs h is k = absurd h
by_divided w (divide_to.Got a b) divide_to.Unspecified q r u s x xs h is k = absurd h
by_divided w divide_to.Fault (divide_to.Got a' b') q r u s x xs h is k = absurd h
by_divided w divide_to.Fault divide_to.Fault q r u s x xs h is k = fails (λ d. is)
by_divided w divide_to.Fault divide_to.Unspecified q r u s x xs h is k = absurd h
by_divided w divide_to.Unspecified d' q r u s x xs h is k = excused

cut_four : (x y : Word) → WordLessSpecified x y → WordLessSpecified x (cut 4 y)
unfolding cut
cut_four x y h = record { b0 = h.b0; b1 = h.b1; b2 = h.b2; b3 = h.b3 }

abbrev IsByLowest : Bool → Word → Word → Word → ℕ → Type 0
IsByLowest signed x y z size = divide signed size (cut size x) (cut size y) (cut size z) ≡ divide signed size x y z

by_lowest_one : (signed : Bool) (x y z : Word) → IsByLowest signed x y z 1
unfolding divide number cut
by_lowest_one signed x y z = refl

by_lowest_two : (signed : Bool) (x y z : Word) → IsByLowest signed x y z 2
unfolding divide number cut
by_lowest_two signed x y z = refl

one_lowest : (q r old : Word) → cut 1 (record old { b0 = q.b0; b1 = r.b0 }) ≡ cut 1 q
unfolding cut
one_lowest q r old = refl

two_lowest : (q old : Word) → cut 2 (record old { b0 = q.b0; b1 = q.b1 }) ≡ cut 2 q
unfolding cut
two_lowest q old = refl

module _ (laws : LawsBelow) where
  less_cut : (size : ℕ) (x y : Word) → IsSmall size → IsCut size x → WordLessSpecified x y → WordLessSpecified x (cut size y)
  less_cut size x y small is h = subst (λ (z : Word). WordLessSpecified z (cut size y)) (cut_word size x small is) (laws.less.lowest size x y h)

  -- the divisor is a number of the size
  divisor_fits : (size : ℕ) (x y : Word) → IsSize size → WordLessSpecified x y → (n : ℕ) → number size x ≡ Some n → n < full size
  divisor_fits size x y is h n e = (laws.less.same_number size n x y is h e).1

  four_meets : (signed : Bool) (q r : Var) (high low by : Term) (u : Storage) (s : CodeState) → IsVar 0 q → IsVar 0 r → IsTerm 0 high → IsTerm 0 low → IsTerm 0 by → IsBelow u s
      → Comes (divided_into (divide signed 4 (term_in high u) (term_in low u) (term_in by u)) q r u) [] (map named_item (choose_divide Four signed q r high low by)) s
  four_meets signed q r high low by u s i j k l n h =
      let s1 = with_place 1 (term_at by s) s in
      let h1 = scratch u s 1 (term_at by s) (omega arith) h in
      let s2 = with_place 2 (term_at high s1) s1 in
      let h2 = scratch u s1 2 (term_at high s1) (omega arith) h1 in
      let s3 = with_place 0 (term_at low s2) s2 in
      let h3 = scratch u s2 0 (term_at low s2) (omega arith) h2 in
      let low_less = subst (WordLessSpecified (term_in low u)) (sym (here 0 (term_at low s2) s2.cpu.regs)) (value_below laws low u s2 l h2) in
      let high_less = subst (WordLessSpecified (term_in high u)) (sym (elsewhere 0 2 (term_at low s2) s2.cpu.regs (λ e. omega (arith, e)) ∙ here 2 (term_at high s1) s1.cpu.regs)) (value_below laws high u s1 k h1) in
      let by_less = subst (WordLessSpecified (term_in by u)) (sym (elsewhere 0 1 (term_at low s2) s2.cpu.regs (λ e. omega (arith, e)) ∙ elsewhere 2 1 (term_at high s1) s1.cpu.regs (λ e. omega (arith, e)) ∙ here 1 (term_at by s) s.cpu.regs)) (value_below laws by u s n h) in
      then s1 (put_is (Fixed Ecx) by s)
      (then s2 (put_is (Fixed Edx) high s1)
      (then s3 (put_is (Fixed Eax) low s2)
      (by_divided Four _ (division_at signed Four s3) q r u s3 _ _ (laws.divisions.divide_less signed 4 _ _ _ _ _ _ refl high_less (cut_four _ _ low_less) (cut_four _ _ by_less)) (divide_is signed Four s3)
      (λ a b a' b' e a_less b_less. tail s3 a b a' b' h3 a_less b_less))))
    where
      tail : (s : CodeState) (a b a' b' : Word) → IsBelow u s → WordLessSpecified a a' → WordLessSpecified b b' → Comes (Ok (put_var r b (put_var q a u))) [] (map named_item (copy (slot_of q) (Fixed Eax) ∷ copy (slot_of r) (Fixed Edx) ∷ [])) (divided Four a' b' s)
      tail s a b a' b' h a_less b_less =
          let t0 = with_place 0 a' (with_flags no_flags s) in
          let t1 = with_place 2 b' t0 in
          let g1 = scratch u t0 2 b' (omega arith) (scratch u _ 0 a' (omega arith) (flagged u s no_flags h)) in
          let a_is : t1.cpu.regs 0 ≡ a' = elsewhere 2 0 b' t0.cpu.regs (λ e. omega (arith, e)) ∙ here 0 a' s.cpu.regs in
          let t2 = with_place (place_of_var q) (t1.cpu.regs 0) t1 in
          let g2 = sets q u t1 a (t1.cpu.regs 0) i (subst (WordLessSpecified a) (sym a_is) a_less) (but q u t1 g1) in
          let b_is : t2.cpu.regs 2 ≡ b' = elsewhere (place_of_var q) 2 (t1.cpu.regs 0) t1.cpu.regs (λ e. omega (arith, e)) ∙ here 2 b' t0.cpu.regs in
          then t2 (copy_is (slot_of q) (Fixed Eax) t1) (result laws r b (Fixed Edx) (put_var q a u) t2 j (subst (WordLessSpecified b) (sym b_is) b_less) g2)

  two_meets : (signed : Bool) (q r : Var) (high low by : Term) (u : Storage) (s : CodeState) → IsVar 0 q → IsVar 0 r → IsTerm 0 high → IsTerm 0 low → IsTerm 0 by → IsBelow u s
      → Comes (divided_into (divide signed 2 (term_in high u) (term_in low u) (term_in by u)) q r u) [] (map named_item (choose_divide Two signed q r high low by)) s
  two_meets signed q r high low by u s i j k l n h =
      let s1 = with_place 1 (term_at by s) s in
      let h1 = scratch u s 1 (term_at by s) (omega arith) h in
      let s2 = with_place 2 (term_at high s1) s1 in
      let h2 = scratch u s1 2 (term_at high s1) (omega arith) h1 in
      let s3 = with_place 0 (term_at low s2) s2 in
      let h3 = scratch u s2 0 (term_at low s2) (omega arith) h2 in
      let low_less = subst (WordLessSpecified (term_in low u)) (sym (here 0 (term_at low s2) s2.cpu.regs)) (value_below laws low u s2 l h2) in
      let high_less = subst (WordLessSpecified (term_in high u)) (sym (elsewhere 0 2 (term_at low s2) s2.cpu.regs (λ e. omega (arith, e)) ∙ here 2 (term_at high s1) s1.cpu.regs)) (value_below laws high u s1 k h1) in
      let by_less = subst (WordLessSpecified (term_in by u)) (sym (elsewhere 0 1 (term_at low s2) s2.cpu.regs (λ e. omega (arith, e)) ∙ elsewhere 2 1 (term_at high s1) s1.cpu.regs (λ e. omega (arith, e)) ∙ here 1 (term_at by s) s.cpu.regs)) (value_below laws by u s n h) in
      let less = subst (λ (d : Divided). DividedLessSpecified d (division_at signed Two s3)) (by_lowest_two signed (term_in high u) (term_in low u) (term_in by u))
      (laws.divisions.divide_less signed 2 _ _ _ _ _ _ refl (laws.less.lowest 2 _ _ high_less) (laws.less.lowest 2 _ _ low_less) (laws.less.lowest 2 _ _ by_less)) in
      then s1 (put_is (Fixed Ecx) by s)
      (then s2 (put_is (Fixed Edx) high s1)
      (then s3 (put_is (Fixed Eax) low s2)
      (by_divided Two _ (division_at signed Two s3) q r u s3 _ _ less (divide_is signed Two s3)
      (λ a b a' b' e a_less b_less. let cuts : AreCut 2 (divide_to.Got a b) = subst (AreCut 2) e (divided_cut signed 2 (term_in high u) (term_in low u) (term_in by u) two (divisor_fits 2 _ _ refl by_less)) in
      tail s3 a b a' b' h3 (less_cut 2 a a' two cuts.0 a_less) (less_cut 2 b b' two cuts.1 b_less)))))
    where
      tail : (s : CodeState) (a b a' b' : Word) → IsBelow u s → WordLessSpecified a (cut 2 a') → WordLessSpecified b (cut 2 b') → Comes (Ok (put_var r b (put_var q a u))) [] (map named_item (extend Two (slot_of q) (Fixed Eax) ∷ extend Two (slot_of r) (Fixed Edx) ∷ [])) (divided Two a' b' s)
      tail s a b a' b' h a_less b_less =
          let x = record (s.cpu.regs 0) { b0 = a'.b0; b1 = a'.b1 } in
          let y = record (s.cpu.regs 2) { b0 = b'.b0; b1 = b'.b1 } in
          let t0 = with_place 0 x (with_flags no_flags s) in
          let t1 = with_place 2 y t0 in
          let g1 = scratch u t0 2 y (omega arith) (scratch u _ 0 x (omega arith) (flagged u s no_flags h)) in
          let a_is : cut 2 (t1.cpu.regs 0) ≡ cut 2 a' = ap (cut 2) (elsewhere 2 0 y t0.cpu.regs (λ e. omega (arith, e)) ∙ here 0 x s.cpu.regs) ∙ two_lowest a' (s.cpu.regs 0) in
          let t2 = with_place (place_of_var q) (cut 2 (t1.cpu.regs 0)) t1 in
          let g2 = sets q u t1 a (cut 2 (t1.cpu.regs 0)) i (subst (WordLessSpecified a) (sym a_is) a_less) (but q u t1 g1) in
          let b_is : cut 2 (t2.cpu.regs 2) ≡ cut 2 b' = ap (cut 2) (elsewhere (place_of_var q) 2 (cut 2 (t1.cpu.regs 0)) t1.cpu.regs (λ e. omega (arith, e)) ∙ here 2 y t0.cpu.regs) ∙ two_lowest b' (s.cpu.regs 2) in
          then t2 (extend_two_is (slot_of q) (Fixed Eax) t1)
          (then (with_place (place_of_var r) (cut 2 (t2.cpu.regs 2)) t2) (extend_two_is (slot_of r) (Fixed Edx) t2)
          (ends (sets r (put_var q a u) t2 b _ j (subst (WordLessSpecified b) (sym b_is) b_less) (but r (put_var q a u) t2 g2))))

  -- ---- one byte: AX is built of the lowest bytes of both halves
  raised_byte : (a : ℕ) (w : Word) (f : Flags) → a < 256 → w.b0 ≡ byte.Known a → (shift shiftop.Shl 4 (cut 1 w) (word_of 8).b0 f).value.b1 ≡ byte.Known a
  unfolding shift shifted number cut known word_of
  raised_byte a w f h e = rw e (ap (λ (n : ℕ). byte.Known n) (let g : (a + 256 * 0 + 65536 * 0 + 16777216 * 0) * 256 % 4294967296 / 256 % 256 ≡ a = omega (arith, h) in g))

  raised_less : (x y : Word) (f : Flags) → WordLessSpecified x y → WordLessSpecified (cut 1 x) (padded ((shift shiftop.Shl 4 (cut 1 y) (word_of 8).b0 f).value.b1 ∷ []))
  unfolding cut
  raised_less x y f h = record { b0 = by x.b0 h.b0; b1 = (refl, omega arith); b2 = (refl, omega arith); b3 = (refl, omega arith) }
    where
      by : (b : Byte) → ByteLessSpecified b y.b0 → ByteLessSpecified b (shift shiftop.Shl 4 (cut 1 y) (word_of 8).b0 f).value.b1
      by (byte.Known a) k = (raised_byte a y f k.1 k.0, k.1)
      by byte.Unspecified k = tt

  lowered_word : (i j : ℕ) (w : Word) (f : Flags) → i < 256 → j < 256 → w.b0 ≡ byte.Known i → w.b1 ≡ byte.Known j → (shift shiftop.Shr 4 (cut 2 w) (word_of 8).b0 f).value ≡ word_of j
  unfolding shift shifted number cut known word_of
  lowered_word i j w f h k e g = rw (e, g) (ap word_of (let z : (i + 256 * j + 65536 * 0 + 16777216 * 0 + 4294967296 * 0) / 256 % 4294967296 ≡ j = omega (arith, h, k) in z))

  known_byte_of : (n : ℕ) (x y : Word) → n < 256 → x ≡ word_of n → WordLessSpecified x y → y.b0 ≡ byte.Known n
  unfolding word_of
  known_byte_of n x y h e l = let g : WordLessSpecified (word_of n) y = subst (λ (z : Word). WordLessSpecified z y) e l in g.b0.0 ∙ ap (λ (k : ℕ). byte.Known k) (let z : n % 256 ≡ n = omega (arith, h) in z)

  lowest_less : (v w old : Word) → WordLessSpecified v w → WordLessSpecified (cut 1 v) (cut 1 (with_lowest_byte w old))
  unfolding cut
  lowest_less v w old l = laws.less.lowest 1 v w l

  one_meets : (signed : Bool) (q r : Var) (high low by : Term) (u : Storage) (s : CodeState) → IsVar 0 q → IsVar 0 r → IsTerm 0 high → IsTerm 0 low → IsTerm 0 by → IsBelow u s
      → Comes (divided_into (divide signed 1 (term_in high u) (term_in low u) (term_in by u)) q r u) [] (map named_item (choose_divide One signed q r high low by)) s
  unfolding byte_dividend byte_results
  one_meets signed q r high low by u s i j k l n h =
      let s1 = with_place 1 (term_at by s) s in
      let h1 = scratch u s 1 (term_at by s) (omega arith) h in
      let s2 = with_place 2 (term_at high s1) s1 in
      let h2 = scratch u s1 2 (term_at high s1) (omega arith) h1 in
      let x = cut 1 (s2.cpu.regs 2) in
      let s3 = with_place 0 x s2 in
      let h3 = scratch u s2 0 x (omega arith) h2 in
      let a = shift shiftop.Shl 4 (s3.cpu.regs 0) (word_of 8).b0 s3.cpu.flags in
      let s4 = with_place 0 a.value (with_flags a.flags s3) in
      let h4 = scratch u _ 0 a.value (omega arith) (flagged u s3 a.flags h3) in
      let s5 = with_place 2 (term_at low s4) s4 in
      let h5 = scratch u s4 2 (term_at low s4) (omega arith) h4 in
      let y = with_lowest_byte (s5.cpu.regs 2) (s5.cpu.regs 0) in
      let s6 = with_place 0 y s5 in
      let h6 = scratch u s5 0 y (omega arith) h5 in
      let high_is : s2.cpu.regs 2 ≡ term_at high s1 = here 2 (term_at high s1) s1.cpu.regs in
      let high_less : WordLessSpecified (term_in high u) (s2.cpu.regs 2) = subst (WordLessSpecified (term_in high u)) (sym high_is) (value_below laws high u s1 k h1) in
      let x_is : s3.cpu.regs 0 ≡ x = here 0 x s2.cpu.regs in
      let a_is : s5.cpu.regs 0 ≡ a.value = elsewhere 2 0 (term_at low s4) s4.cpu.regs (λ e. omega (arith, e)) ∙ here 0 a.value s3.cpu.regs in
      let y_is : s6.cpu.regs 0 ≡ y = here 0 y s5.cpu.regs in
      let upper_less : WordLessSpecified (cut 1 (term_in high u)) (padded ((s6.cpu.regs 0).b1 ∷ [])) =
      subst (λ (z : Word). WordLessSpecified (cut 1 (term_in high u)) (padded (z.b1 ∷ []))) (sym y_is)
      (subst (λ (z : Word). WordLessSpecified (cut 1 (term_in high u)) (padded (z.b1 ∷ []))) (sym a_is)
      (subst (λ (z : Word). WordLessSpecified (cut 1 (term_in high u)) (padded ((shift shiftop.Shl 4 z (word_of 8).b0 s3.cpu.flags).value.b1 ∷ []))) (sym x_is) (raised_less (term_in high u) (s2.cpu.regs 2) s3.cpu.flags high_less))) in
      let low_is : s5.cpu.regs 2 ≡ term_at low s4 = here 2 (term_at low s4) s4.cpu.regs in
      let low_less : WordLessSpecified (cut 1 (term_in low u)) (cut 1 (s6.cpu.regs 0)) =
      subst (λ (z : Word). WordLessSpecified (cut 1 (term_in low u)) (cut 1 z)) (sym y_is) (lowest_less (term_in low u) (s5.cpu.regs 2) (s5.cpu.regs 0) (subst (WordLessSpecified (term_in low u)) (sym low_is) (value_below laws low u s4 l h4))) in
      let by_is : s6.cpu.regs 1 ≡ term_at by s =
      elsewhere 0 1 y s5.cpu.regs (λ e. omega (arith, e)) ∙ elsewhere 2 1 (term_at low s4) s4.cpu.regs (λ e. omega (arith, e)) ∙ elsewhere 0 1 a.value s3.cpu.regs (λ e. omega (arith, e)) ∙ elsewhere 0 1 x s2.cpu.regs (λ e. omega (arith, e))
      ∙ elsewhere 2 1 (term_at high s1) s1.cpu.regs (λ e. omega (arith, e)) ∙ here 1 (term_at by s) s.cpu.regs in
      let by_less : WordLessSpecified (term_in by u) (s6.cpu.regs 1) = subst (WordLessSpecified (term_in by u)) (sym by_is) (value_below laws by u s n h) in
      let less : DividedLessSpecified (divide signed 1 (term_in high u) (term_in low u) (term_in by u)) (division_at signed One s6) =
      subst (λ (d : Divided). DividedLessSpecified d (division_at signed One s6)) (by_lowest_one signed (term_in high u) (term_in low u) (term_in by u))
      (laws.divisions.divide_less signed 1 _ _ _ _ _ _ refl upper_less low_less (laws.less.lowest 1 _ _ by_less)) in
      then s1 (put_is (Fixed Ecx) by s)
      (then s2 (put_is (Fixed Edx) high s1)
      (then s3 (extend_dl_is (Fixed Eax) s2)
      (then s4 (shift_by_is shiftop.Shl 8 (Fixed Eax) s3)
      (then s5 (put_is (Fixed Edx) low s4)
      (then s6 (copy_byte_is s5)
      (by_divided One _ (division_at signed One s6) q r u s6 _ _ less (divide_is signed One s6)
      (λ a b a' b' e a_less b_less. let cuts : AreCut 1 (divide_to.Got a b) = subst (AreCut 1) e (divided_cut signed 1 (term_in high u) (term_in low u) (term_in by u) one (divisor_fits 1 _ _ refl by_less)) in
      tail s6 a b a' b' h6 cuts.0 cuts.1 a_less b_less)))))))
    where
      tail : (s : CodeState) (a b a' b' : Word) → IsBelow u s → IsCut 1 a → IsCut 1 b → WordLessSpecified a a' → WordLessSpecified b b'
          → Comes (Ok (put_var r b (put_var q a u))) [] (map named_item (extend One (slot_of q) (Fixed Eax) ∷ extend Two (Fixed Eax) (Fixed Eax) ∷ shift_by shiftop.Shr (count.Imm 8) (Fixed Eax) ∷ copy (slot_of r) (Fixed Eax) ∷ [])) (divided One a' b' s)
      tail s a b a' b' h a_cut b_cut a_less b_less =
          let x = with_lowest_byte a' (s.cpu.regs 0) in
          let y = record (s.cpu.regs 0) { b0 = a'.b0; b1 = b'.b0 } in
          let t0 = with_place 0 x (with_flags no_flags s) in
          let t1 = with_place 0 y t0 in
          let g1 = scratch u t0 0 y (omega arith) (scratch u _ 0 x (omega arith) (flagged u s no_flags h)) in
          let y_is : t1.cpu.regs 0 ≡ y = here 0 y t0.cpu.regs in
          let v = cut 1 (t1.cpu.regs 0) in
          let v_is : v ≡ cut 1 a' = ap (cut 1) y_is ∙ one_lowest a' b' (s.cpu.regs 0) in
          let t2 = with_place (place_of_var q) v t1 in
          let g2 = sets q u t1 a v i (subst (WordLessSpecified a) (sym v_is) (less_cut 1 a a' one a_cut a_less)) (but q u t1 g1) in
          let t2_is : t2.cpu.regs 0 ≡ y = elsewhere (place_of_var q) 0 v t1.cpu.regs (λ e. omega (arith, e)) ∙ y_is in
          let w = cut 2 (t2.cpu.regs 0) in
          let t3 = with_place 0 w t2 in
          let g3 = scratch (put_var q a u) t2 0 w (omega arith) g2 in
          let w_is : t3.cpu.regs 0 ≡ cut 2 y = here 0 w t2.cpu.regs ∙ ap (cut 2) t2_is in
          let z = shift shiftop.Shr 4 (t3.cpu.regs 0) (word_of 8).b0 t3.cpu.flags in
          let z_is : z.value ≡ word_of b_cut.number =
          ap (λ (m : Word). (shift shiftop.Shr 4 m (word_of 8).b0 t3.cpu.flags).value) w_is
          ∙ lowered_word a_cut.number b_cut.number y t3.cpu.flags a_cut.fits b_cut.fits (known_byte_of a_cut.number a a' a_cut.fits a_cut.is a_less) (known_byte_of b_cut.number b b' b_cut.fits b_cut.is b_less) in
          let t4 = with_place 0 z.value (with_flags z.flags t3) in
          let g4 = scratch (put_var q a u) _ 0 z.value (omega arith) (flagged (put_var q a u) t3 z.flags g3) in
          let r_is : t4.cpu.regs 0 ≡ b = here 0 z.value t3.cpu.regs ∙ z_is ∙ sym b_cut.is in
          then t2 (extend_one_is (slot_of q) t1)
          (then t3 (extend_two_is (Fixed Eax) (Fixed Eax) t2)
          (then t4 (shift_by_is shiftop.Shr 8 (Fixed Eax) t3)
          (result laws r b (Fixed Eax) (put_var q a u) t4 j (subst (WordLessSpecified b) (sym r_is) (laws.less.itself b (subst (Rattle.x86_values.specs.Words.IsWord) (sym b_cut.is) (laws.words.word_of_bytes b_cut.number)))) g4)))

  pub divide_meets : (w : Width) (signed : Bool) (q r : Var) (high low by : Term) (u : Storage) (s : CodeState) → IsVar 0 q → IsVar 0 r → IsTerm 0 high → IsTerm 0 low → IsTerm 0 by → IsBelow u s
      → Comes (divided_into (divide signed (size_of w) (term_in high u) (term_in low u) (term_in by u)) q r u) [] (map named_item (choose_divide w signed q r high low by)) s
  divide_meets One = one_meets
  divide_meets Two = two_meets
  divide_meets Four = four_meets
