-- The texts of instructions: how long they are, and what stands where they do.
use Rattle.std.proofs.Common.{◌≡◌, ℕ, ◌+◌, ◌<◌, true, List, [], ◌∷◌, ◌++◌, All, length, nat_lt, refl, sym, subst, arith}
use Rattle.std.proofs.lemmas.Bool.{lt-ltb}
use Rattle.std.proofs.lemmas.List.{length-append}
use Rattle.std.proofs.lemmas.List.Elements.{All-head, All-tail}
use Rattle.x86_types.specs.declared.operand.Rm.{Rm}
use Rattle.x86_types.specs.declared.operand.Rm.TheVariants as rm
use Rattle.x86_types.specs.declared.operand.Src.TheVariants as src
use Rattle.x86_types.specs.declared.operation.AluOp.TheVariants as alu
use Rattle.x86_types.specs.declared.operation.Cond.TheVariants as condition
use Rattle.x86_types.specs.declared.width.Width.TheVariants.{Four}
use Rattle.x86_types.specs.declared.instr.Instr.{Instr}
use Rattle.x86_types.specs.declared.instr.Instr.TheVariants as instr
use Rattle.x86_grammar.specs.Fields.{HasSpelling}
use Rattle.x86_encode.specs.Choice.{best}
use Rattle.x86_code.specs.Code.{Code}
use Rattle.named_code.specs.Items.{Item}
use Rattle.laid_code.specs.Laid.{Places, Stands, Leads, eax, as_source, table_word, JumpsByTable, InstrStands, Lies}
use Rattle.code_text.specs.Texts.{jump_text, before_test, behind_test, table_text, instr_text, items_text}
use Rattle.code_text.specs.Placing.{instr_size, items_size, HasBytesFrom}
use Rattle.code_text.proofs.Standing.{Given, behind, regrouped, nothing, best_stands, jmp_leads, jcc_leads}

module _ (given : Given) where
  -- ---- lengths
  table_length : (l : Places) (q : ℕ) (to : Rm) → length (table_text l q to) ≡ length (before_test l to) + 6 + length (behind_test l)
  table_length l q to =
      let whole = length-append (before_test l to) (jump_text (instr.Jcc condition.Ae) 6 l.stop (q + length (before_test l to)) ++ behind_test l) in
      let second = length-append (jump_text (instr.Jcc condition.Ae) 6 l.stop (q + length (before_test l to))) (behind_test l) in
      let six : length (jump_text (instr.Jcc condition.Ae) 6 l.stop (q + length (before_test l to))) ≡ 6 = given.lengths.jcc condition.Ae _ in
      omega (arith, whole, second, six)

  pub instr_length : (l : Places) (q : ℕ) (i : Instr) → length (instr_text l q i) ≡ instr_size l i
  unfolding instr_text instr_size
  instr_length l q (instr.Alu op w to from) = refl
  instr_length l q (instr.Test w left right) = refl
  instr_length l q (instr.Mov w to from) = refl
  instr_length l q (instr.Lea w to at) = refl
  instr_length l q (instr.Inc w to) = refl
  instr_length l q (instr.Dec w to) = refl
  instr_length l q (instr.Not w to) = refl
  instr_length l q (instr.Neg w to) = refl
  instr_length l q (instr.Mul w from) = refl
  instr_length l q (instr.ImulWide w from) = refl
  instr_length l q (instr.Div w from) = refl
  instr_length l q (instr.Idiv w from) = refl
  instr_length l q (instr.Imul w to from) = refl
  instr_length l q (instr.ImulBy w to from by) = refl
  instr_length l q (instr.Shift op w to n) = refl
  instr_length l q (instr.Shld to from n) = refl
  instr_length l q (instr.Shrd to from n) = refl
  instr_length l q (instr.Push from) = refl
  instr_length l q (instr.Pop to) = refl
  instr_length l q (instr.Xchg w left right) = refl
  instr_length l q (instr.Movzx wide w to from) = refl
  instr_length l q (instr.Movsx wide w to from) = refl
  instr_length l q (instr.Cmov c w to from) = refl
  instr_length l q (instr.Setcc c to) = refl
  instr_length l q (instr.Extend w) = refl
  instr_length l q (instr.Spread w) = refl
  instr_length l q (instr.Bsf w to from) = refl
  instr_length l q (instr.Bsr w to from) = refl
  instr_length l q (instr.Bswap to) = refl
  instr_length l q (instr.Movs w repeat) = refl
  instr_length l q (instr.Stos w repeat) = refl
  instr_length l q (instr.Jmp n) = given.lengths.jmp _
  instr_length l q (instr.JmpTo to) = table_length l q to
  instr_length l q (instr.CallTo to) = refl
  instr_length l q (instr.Jcc c n) = given.lengths.jcc c _
  instr_length l q (instr.Call by) = refl
  instr_length l q (instr.Ret drop) = refl
  instr_length l q instr.Leave = refl
  instr_length l q instr.Int80 = refl
  instr_length l q instr.Cld = refl
  instr_length l q instr.Nop = refl

  pub items_length : (l : Places) (q : ℕ) (xs : List Item) → length (items_text l q xs) ≡ items_size l xs
  unfolding items_text items_size
  items_length l q [] = refl
  items_length l q (x ∷ xs) =
      let first = instr_length l q x.instr in
      let rest = items_length l (q + length (instr_text l q x.instr)) xs in
      let whole = length-append (instr_text l q x.instr) (items_text l (q + length (instr_text l q x.instr)) xs) in
      omega (arith, first, rest, whole)

  -- ---- the instructions of a jump by the table have spellings
  module _ (l : Places) (fits : (l.span < 4294967296) × (l.count < 4294967296) × (l.table < 4294967296)) where
    number : (n : ℕ) → n < 4294967296 → nat_lt n 4294967296 ≡ true
    number n h = lt-ltb n 4294967296 h

    pub takes_spelled : (to : Rm) → HasSpelling (instr.JmpTo to) → HasSpelling (instr.Mov Four eax (as_source to))
    takes_spelled (rm.Reg r) h = (given.fit (instr.Mov Four eax (src.Reg r))).0 refl
    takes_spelled (rm.Mem a) h = (given.fit (instr.Mov Four eax (src.Mem a))).0 ((given.fit (instr.JmpTo (rm.Mem a))).1 h)

    pub sub_spelled : HasSpelling (instr.Alu alu.Sub Four eax (src.Imm l.span))
    sub_spelled = (given.fit (instr.Alu alu.Sub Four eax (src.Imm l.span))).0 (number l.span fits.0)

    pub cmp_spelled : HasSpelling (instr.Alu alu.Cmp Four eax (src.Imm l.count))
    cmp_spelled = (given.fit (instr.Alu alu.Cmp Four eax (src.Imm l.count))).0 (number l.count fits.1)

    look_spelled : HasSpelling (instr.Mov Four eax (src.Mem (table_word l)))
    look_spelled = (given.fit (instr.Mov Four eax (src.Mem (table_word l)))).0 (number l.table fits.2)

    pub jump_spelled : HasSpelling (instr.JmpTo eax)
    jump_spelled = (given.fit (instr.JmpTo eax)).0 refl

    -- ---- what stands where a text does
    module _ (code : Code) (places_fit : (n : ℕ) → l.by_number n < 4294967296) (stop_fits : l.stop < 4294967296) where
      table_stands : (q : ℕ) (to : Rm) (rest : List ℕ) → HasSpelling (instr.JmpTo to) → HasBytesFrom code q (table_text l q to ++ rest) → q + length (table_text l q to) < 4294967296 → JumpsByTable l code q to (q + length (table_text l q to))
      table_stands q to rest spelled h low =
          let take = best (instr.Mov Four eax (as_source to)) in
          let less = best (instr.Alu alu.Sub Four eax (src.Imm l.span)) in
          let compare = best (instr.Alu alu.Cmp Four eax (src.Imm l.count)) in
          let look = best (instr.Mov Four eax (src.Mem (table_word l))) in
          let jump = best (instr.JmpTo eax) in
          let front = before_test l to in
          let test = jump_text (instr.Jcc condition.Ae) 6 l.stop (q + length front) in
          let q1 = q + length take in
          let q2 = q1 + length less in
          let q3 = q2 + length compare in
          let whole = length-append front (test ++ behind_test l) in
          let middle = length-append test (behind_test l) in
          let end = length-append look jump in
          let start = length-append take (less ++ compare) in
          let start' = length-append less compare in
          let six : length test ≡ 6 = given.lengths.jcc condition.Ae _ in
          let h1 = regrouped code q front (test ++ behind_test l) rest h in
          let h2 = regrouped code q take (less ++ compare) ((test ++ behind_test l) ++ rest) h1 in
          let h3 = behind code q take ((less ++ compare) ++ ((test ++ behind_test l) ++ rest)) h2 in
          let h4 = regrouped code q1 less compare ((test ++ behind_test l) ++ rest) h3 in
          let h5 = behind code q1 less (compare ++ ((test ++ behind_test l) ++ rest)) h4 in
          let h6 = behind code q2 compare ((test ++ behind_test l) ++ rest) h5 in
          let h7 = regrouped code q3 test (behind_test l) rest h6 in
          let at : q + length front ≡ q3 = omega (arith, start, start') in
          let h7' = subst (λ p. HasBytesFrom code q3 (jump_text (instr.Jcc condition.Ae) 6 l.stop p ++ (behind_test l ++ rest))) at h7 in
          let h8 : HasBytesFrom code (q3 + 6) (behind_test l ++ rest) = subst (λ n. HasBytesFrom code (q3 + n) (behind_test l ++ rest)) six (behind code q3 test (behind_test l ++ rest) h7) in
          let h9 = regrouped code (q3 + 6) look jump rest h8 in
          let q5 = q3 + 6 + length look in
          let h10 = behind code (q3 + 6) look (jump ++ rest) h9 in
          let last : q5 + length jump ≡ q + length (table_text l q to) = omega (arith, whole, middle, end, start, start', six) in
          let jumps = best_stands code given q5 (instr.JmpTo eax) rest jump_spelled h10 (omega (arith, last, low)) in
          record {
            q1 = q1;
            takes = best_stands code given q (instr.Mov Four eax (as_source to)) ((less ++ compare) ++ ((test ++ behind_test l) ++ rest)) (takes_spelled to spelled) h2 (omega (arith, last, low));
            q2 = q2;
            less = best_stands code given q1 (instr.Alu alu.Sub Four eax (src.Imm l.span)) (compare ++ ((test ++ behind_test l) ++ rest)) sub_spelled h4 (omega (arith, last, low));
            q3 = q3;
            compares = best_stands code given q2 (instr.Alu alu.Cmp Four eax (src.Imm l.count)) ((test ++ behind_test l) ++ rest) cmp_spelled h5 (omega (arith, last, low));
            q4 = q3 + 6;
            tests = jcc_leads code given condition.Ae l.stop q3 (behind_test l ++ rest) h7' (omega (arith, last, low)) stop_fits;
            q5 = q5;
            looks = best_stands code given (q3 + 6) (instr.Mov Four eax (src.Mem (table_word l))) (jump ++ rest) look_spelled h9 (omega (arith, last, low));
            jumps = subst (λ r. Stands code q5 (instr.JmpTo eax) r) last jumps;
          }

      pub instr_stands : (q : ℕ) (i : Instr) (rest : List ℕ) → HasSpelling i → HasBytesFrom code q (instr_text l q i ++ rest) → q + length (instr_text l q i) < 4294967296 → InstrStands l code q i (q + length (instr_text l q i))
      unfolding instr_text
      instr_stands q (instr.Alu op w to from) rest spelled h low = best_stands code given q (instr.Alu op w to from) rest spelled h low
      instr_stands q (instr.Test w left right) rest spelled h low = best_stands code given q (instr.Test w left right) rest spelled h low
      instr_stands q (instr.Mov w to from) rest spelled h low = best_stands code given q (instr.Mov w to from) rest spelled h low
      instr_stands q (instr.Lea w to at) rest spelled h low = best_stands code given q (instr.Lea w to at) rest spelled h low
      instr_stands q (instr.Inc w to) rest spelled h low = best_stands code given q (instr.Inc w to) rest spelled h low
      instr_stands q (instr.Dec w to) rest spelled h low = best_stands code given q (instr.Dec w to) rest spelled h low
      instr_stands q (instr.Not w to) rest spelled h low = best_stands code given q (instr.Not w to) rest spelled h low
      instr_stands q (instr.Neg w to) rest spelled h low = best_stands code given q (instr.Neg w to) rest spelled h low
      instr_stands q (instr.Mul w from) rest spelled h low = best_stands code given q (instr.Mul w from) rest spelled h low
      instr_stands q (instr.ImulWide w from) rest spelled h low = best_stands code given q (instr.ImulWide w from) rest spelled h low
      instr_stands q (instr.Div w from) rest spelled h low = best_stands code given q (instr.Div w from) rest spelled h low
      instr_stands q (instr.Idiv w from) rest spelled h low = best_stands code given q (instr.Idiv w from) rest spelled h low
      instr_stands q (instr.Imul w to from) rest spelled h low = best_stands code given q (instr.Imul w to from) rest spelled h low
      instr_stands q (instr.ImulBy w to from by) rest spelled h low = best_stands code given q (instr.ImulBy w to from by) rest spelled h low
      instr_stands q (instr.Shift op w to n) rest spelled h low = best_stands code given q (instr.Shift op w to n) rest spelled h low
      instr_stands q (instr.Shld to from n) rest spelled h low = best_stands code given q (instr.Shld to from n) rest spelled h low
      instr_stands q (instr.Shrd to from n) rest spelled h low = best_stands code given q (instr.Shrd to from n) rest spelled h low
      instr_stands q (instr.Push from) rest spelled h low = best_stands code given q (instr.Push from) rest spelled h low
      instr_stands q (instr.Pop to) rest spelled h low = best_stands code given q (instr.Pop to) rest spelled h low
      instr_stands q (instr.Xchg w left right) rest spelled h low = best_stands code given q (instr.Xchg w left right) rest spelled h low
      instr_stands q (instr.Movzx wide w to from) rest spelled h low = best_stands code given q (instr.Movzx wide w to from) rest spelled h low
      instr_stands q (instr.Movsx wide w to from) rest spelled h low = best_stands code given q (instr.Movsx wide w to from) rest spelled h low
      instr_stands q (instr.Cmov c w to from) rest spelled h low = best_stands code given q (instr.Cmov c w to from) rest spelled h low
      instr_stands q (instr.Setcc c to) rest spelled h low = best_stands code given q (instr.Setcc c to) rest spelled h low
      instr_stands q (instr.Extend w) rest spelled h low = best_stands code given q (instr.Extend w) rest spelled h low
      instr_stands q (instr.Spread w) rest spelled h low = best_stands code given q (instr.Spread w) rest spelled h low
      instr_stands q (instr.Bsf w to from) rest spelled h low = best_stands code given q (instr.Bsf w to from) rest spelled h low
      instr_stands q (instr.Bsr w to from) rest spelled h low = best_stands code given q (instr.Bsr w to from) rest spelled h low
      instr_stands q (instr.Bswap to) rest spelled h low = best_stands code given q (instr.Bswap to) rest spelled h low
      instr_stands q (instr.Movs w repeat) rest spelled h low = best_stands code given q (instr.Movs w repeat) rest spelled h low
      instr_stands q (instr.Stos w repeat) rest spelled h low = best_stands code given q (instr.Stos w repeat) rest spelled h low
      instr_stands q (instr.Jmp n) rest spelled h low = let five = given.lengths.jmp _ in subst (λ k. Leads code q instr.Jmp (q + k) (l.by_number n)) (sym five) (jmp_leads code given (l.by_number n) q rest h (subst (λ k. q + k < 4294967296) five low) (places_fit n))
      instr_stands q (instr.JmpTo to) rest spelled h low = table_stands q to rest spelled h low
      instr_stands q (instr.CallTo to) rest spelled h low = best_stands code given q (instr.CallTo to) rest spelled h low
      instr_stands q (instr.Jcc c n) rest spelled h low = let six = given.lengths.jcc c _ in subst (λ k. Leads code q (instr.Jcc c) (q + k) (l.by_number n)) (sym six) (jcc_leads code given c (l.by_number n) q rest h (subst (λ k. q + k < 4294967296) six low) (places_fit n))
      instr_stands q (instr.Call by) rest spelled h low = best_stands code given q (instr.Call by) rest spelled h low
      instr_stands q (instr.Ret drop) rest spelled h low = best_stands code given q (instr.Ret drop) rest spelled h low
      instr_stands q instr.Leave rest spelled h low = best_stands code given q instr.Leave rest spelled h low
      instr_stands q instr.Int80 rest spelled h low = best_stands code given q instr.Int80 rest spelled h low
      instr_stands q instr.Cld rest spelled h low = best_stands code given q instr.Cld rest spelled h low
      instr_stands q instr.Nop rest spelled h low = best_stands code given q instr.Nop rest spelled h low

      -- the items lie one behind the other
      pub items_lie : (q : ℕ) (xs : List Item) (rest : List ℕ) → All (λ (x : Item). HasSpelling x.instr) xs → HasBytesFrom code q (items_text l q xs ++ rest) → q + length (items_text l q xs) < 4294967296 → Lies l code q xs
      unfolding items_text
      items_lie q [] rest spelled h low = nothing code given q rest h
      items_lie q (x ∷ xs) rest spelled h low =
          let t = instr_text l q x.instr in
          let more = items_text l (q + length t) xs in
          let whole = length-append t more in
          let h1 = regrouped code q t more rest h in (
            q + length t,
            instr_stands q x.instr (more ++ rest) (All-head (λ (y : Item). HasSpelling y.instr) x xs spelled) h1 (omega (arith, whole, low)),
            items_lie (q + length t) xs rest (All-tail (λ (y : Item). HasSpelling y.instr) x xs spelled) (behind code q t (more ++ rest) h1) (omega (arith, whole, low)),
          )
