-- The shapes of operands over places that are paired.
use Rattle.std.proofs.Common.{◌≡◌, ℕ, zero, suc, ◌&&◌, Bool, true, false, cond, List, [], ◌∷◌, Option, Some, None, refl, ap}
use Rattle.x86_types.specs.declared.operation.AluOp.{AluOp}
use Rattle.x86_types.specs.declared.operation.AluOp.TheVariants as alu
use Rattle.x86_types.specs.declared.operation.Count.{Count}
use Rattle.x86_types.specs.declared.operation.Count.TheVariants as count
use Rattle.x86_types.specs.declared.width.Width.{Width}
use Rattle.x86_types.specs.declared.width.Width.TheVariants.{One, Two, Four}
use Rattle.x86_types.specs.Numbers.{size_of}
use Rattle.x86_meaning.specs.Operands.{Location, InRegister, SizedOperand, operand}
use Rattle.x86_meaning.specs.TransferShapes.{Transfer, by_one, by_two, register, accumulator, upper_accumulator, count_operand, cancels, is_same_register, alu_writes, alu_transfer, multiply_transfer, divide_transfer, shift_transfer, double_shift_transfer, push_transfer, push_of, pop_transfer, pop_to, leave_transfer, movs_transfer, stos_transfer, if_counted, string_transfer}
use Rattle.field_places.specs.Fields.{product_registers, count_registers, repeat_registers}
use Rattle.field_places.specs.Pairs.{Pairs, ArePaired, IsOneToOne, PairedWithThemselves}
use Rattle.field_places.proofs.Places.{Both, SameLocation, SameOperands, SameTransfer, same_register}

module _ (pairs : Pairs) where
  -- ---- a register without a field
  pub itself : (n i : ℕ) → ArePaired pairs n n → SameLocation pairs (InRegister n i) (InRegister n i)
  itself n i h = (n, h, refl)

  pub accumulator_same : (w : Width) (xs ys : List SizedOperand) → PairedWithThemselves pairs (product_registers w) → SameOperands pairs xs ys → SameOperands pairs (accumulator w ∷ xs) (accumulator w ∷ ys)
  accumulator_same One xs ys h k = (refl, itself 0 0 h.0, k)
  accumulator_same Two xs ys h k = (refl, itself 0 0 h.0, k)
  accumulator_same Four xs ys h k = (refl, itself 0 0 h.0, k)

  upper_same : (w : Width) (xs ys : List SizedOperand) → PairedWithThemselves pairs (product_registers w) → SameOperands pairs xs ys → SameOperands pairs (upper_accumulator w ∷ xs) (upper_accumulator w ∷ ys)
  upper_same One xs ys h k = (refl, itself 0 1 h.0, k)
  upper_same Two xs ys h k = (refl, itself 2 0 h.1.0, k)
  upper_same Four xs ys h k = (refl, itself 2 0 h.1.0, k)

  count_same : (n : Count) → PairedWithThemselves pairs (count_registers n) → SameOperands pairs (count_operand n ∷ []) (count_operand n ∷ [])
  count_same (count.Imm n) h = (refl, refl, refl)
  count_same count.Cl h = (refl, itself 1 0 h.0, refl)

  -- ---- one operand with a field, and two
  pub one : (g h : Location → Transfer) (o u : Option Location) → Both (SameLocation pairs) o u → ((a b : Location) → SameLocation pairs a b → SameTransfer pairs (g a) (h b)) → Both (SameTransfer pairs) (by_one g o) (by_one h u)
  one g h None None s f = tt
  one g h None (Some b) s f = s
  one g h (Some a) None s f = s
  one g h (Some a) (Some b) s f = f a b s

  pub two : (g h : Location → Location → Transfer) (o u p q : Option Location) → Both (SameLocation pairs) o u → Both (SameLocation pairs) p q
      → ((a b c d : Location) → SameLocation pairs a b → SameLocation pairs c d → SameTransfer pairs (g a c) (h b d)) → Both (SameTransfer pairs) (by_two g o p) (by_two h u q)
  two g h None None p q s k f = tt
  two g h None (Some b) p q s k f = absurd s
  two g h (Some a) None p q s k f = absurd s
  two g h (Some a) (Some b) None None s k f = tt
  two g h (Some a) (Some b) None (Some d) s k f = k
  two g h (Some a) (Some b) (Some c) None s k f = k
  two g h (Some a) (Some b) (Some c) (Some d) s k f = f a b c d s k

  -- ---- ADD to CMP
  either_same : (s t : Bool) (xs ws zs : List SizedOperand) → s ≡ t → SameOperands pairs ws ws → SameOperands pairs xs zs → SameOperands pairs (cond s ws xs) (cond t ws zs)
  either_same true true xs ws zs e h k = h
  either_same true false xs ws zs e h k = absurd cc
  either_same false true xs ws zs e h k = absurd cc
  either_same false false xs ws zs e h k = k

  writes_same : (op : AluOp) (size : ℕ) (a b : Location) → SameLocation pairs a b → SameOperands pairs (alu_writes op size a) (alu_writes op size b)
  writes_same alu.Add size a b h = (refl, h, refl)
  writes_same alu.Or size a b h = (refl, h, refl)
  writes_same alu.Adc size a b h = (refl, h, refl)
  writes_same alu.Sbb size a b h = (refl, h, refl)
  writes_same alu.And size a b h = (refl, h, refl)
  writes_same alu.Sub size a b h = (refl, h, refl)
  writes_same alu.Xor size a b h = (refl, h, refl)
  writes_same alu.Cmp size a b h = refl

  pub alu_same : IsOneToOne pairs → (op : AluOp) (size : ℕ) (a b c d : Location) → SameLocation pairs a b → SameLocation pairs c d → SameTransfer pairs (alu_transfer op size a c) (alu_transfer op size b d)
  alu_same once op size a b c d h k =
      (either_same (cancels op && is_same_register a c) (cancels op && is_same_register b d) _ _ _ (ap (λ t. cancels op && t) (same_register pairs once a c b d h k)) (refl, refl, (refl, refl, refl)) (refl, h, (refl, k, refl)), writes_same op size a b h)

  -- ---- products, divisions and shifts
  pub multiply_same : (w : Width) (a b : Location) → PairedWithThemselves pairs (product_registers w) → SameLocation pairs a b → SameTransfer pairs (multiply_transfer w a) (multiply_transfer w b)
  multiply_same w a b p h = (accumulator_same w (operand (size_of w) a ∷ []) (operand (size_of w) b ∷ []) p (refl, h, refl), accumulator_same w (upper_accumulator w ∷ []) (upper_accumulator w ∷ []) p (upper_same w [] [] p refl))

  pub divide_same : (w : Width) (a b : Location) → PairedWithThemselves pairs (product_registers w) → SameLocation pairs a b → SameTransfer pairs (divide_transfer w a) (divide_transfer w b)
  divide_same w a b p h = (upper_same w (accumulator w ∷ operand (size_of w) a ∷ []) (accumulator w ∷ operand (size_of w) b ∷ []) p (accumulator_same w (operand (size_of w) a ∷ []) (operand (size_of w) b ∷ []) p (refl, h, refl)), accumulator_same w (upper_accumulator w ∷ []) (upper_accumulator w ∷ []) p (upper_same w [] [] p refl))

  pub shift_same : (size : ℕ) (n : Count) (a b : Location) → PairedWithThemselves pairs (count_registers n) → SameLocation pairs a b → SameTransfer pairs (shift_transfer size n a) (shift_transfer size n b)
  shift_same size n a b p h = ((refl, h, count_same n p), (refl, h, refl))

  pub double_shift_same : (n : Count) (a b c d : Location) → PairedWithThemselves pairs (count_registers n) → SameLocation pairs a b → SameLocation pairs c d → SameTransfer pairs (double_shift_transfer n a c) (double_shift_transfer n b d)
  double_shift_same n a b c d p h k = ((refl, h, (refl, k, count_same n p)), (refl, h, refl))

  -- ---- the stack
  pub push_same : (xs ys : List SizedOperand) (e : Option ℕ) → ArePaired pairs 4 4 → SameOperands pairs xs ys → Both (SameTransfer pairs) (push_transfer xs e) (push_transfer ys e)
  push_same xs ys None p h = tt
  push_same xs ys (Some at) p h = ((refl, itself 4 0 p, h), (refl, refl, (refl, itself 4 0 p, refl)))

  pub push_of_same : (o u : Option Location) (d e : Option ℕ) → ArePaired pairs 4 4 → d ≡ e → Both (SameLocation pairs) o u → Both (SameTransfer pairs) (push_of o d) (push_of u e)
  push_of_same None None d e p s h = tt
  push_of_same None (Some b) d e p s h = absurd h
  push_of_same (Some a) None d e p s h = absurd h
  push_of_same (Some a) (Some b) d e p s h = rw s (push_same (operand 4 a ∷ []) (operand 4 b ∷ []) e p (refl, h, refl))

  pub pop_same : (xs ys : List SizedOperand) (e : Option ℕ) → ArePaired pairs 4 4 → SameOperands pairs xs ys → Both (SameTransfer pairs) (pop_transfer xs e) (pop_transfer ys e)
  pop_same xs ys None p h = tt
  pop_same xs ys (Some at) p h = ((refl, itself 4 0 p, (refl, refl, refl)), (refl, itself 4 0 p, h))

  pub pop_to_same : (o u : Option Location) (e : Option ℕ) → ArePaired pairs 4 4 → Both (SameLocation pairs) o u → Both (SameTransfer pairs) (pop_to o e) (pop_to u e)
  pop_to_same None None e p h = tt
  pop_to_same None (Some b) e p h = absurd h
  pop_to_same (Some a) None e p h = absurd h
  pop_to_same (Some a) (Some b) e p h = pop_same (operand 4 a ∷ []) (operand 4 b ∷ []) e p (refl, h, refl)

  pub leave_same : (e : Option ℕ) → ArePaired pairs 4 4 → ArePaired pairs 5 5 → Both (SameTransfer pairs) (leave_transfer e) (leave_transfer e)
  leave_same None p h = tt
  leave_same (Some at) p h = ((refl, itself 5 0 h, (refl, refl, refl)), (refl, itself 4 0 p, (refl, itself 5 0 h, refl)))

  -- ---- strings
  pub movs_same : (size : ℕ) (a b : Option ℕ) (more : List SizedOperand) → ArePaired pairs 6 6 → ArePaired pairs 7 7 → SameOperands pairs more more → Both (SameTransfer pairs) (movs_transfer size a b more) (movs_transfer size a b more)
  movs_same size None b more p h k = tt
  movs_same size (Some a) None more p h k = tt
  movs_same size (Some a) (Some b) more p h k = ((refl, refl, (refl, itself 6 0 p, (refl, itself 7 0 h, k))), (refl, refl, (refl, itself 6 0 p, (refl, itself 7 0 h, k))))

  pub stos_same : (w : Width) (a : Option ℕ) (more : List SizedOperand) → ArePaired pairs 0 0 → ArePaired pairs 7 7 → SameOperands pairs more more → Both (SameTransfer pairs) (stos_transfer w a more) (stos_transfer w a more)
  stos_same w None more p h k = tt
  stos_same w (Some a) more p h k = ((refl, itself 0 0 p, (refl, itself 7 0 h, k)), (refl, refl, (refl, itself 7 0 h, k)))

  counted_same : (n : Option ℕ) (t : Option Transfer) → Both (SameTransfer pairs) t t → Both (SameTransfer pairs) (if_counted n t) (if_counted n t)
  counted_same None t h = tt
  counted_same (Some zero) t h = (refl, refl)
  counted_same (Some (suc n)) t h = h

  pub string_same : (repeat : Bool) (n : Option ℕ) (g : List SizedOperand → Option Transfer) → PairedWithThemselves pairs (repeat_registers repeat) → ((more : List SizedOperand) → SameOperands pairs more more → Both (SameTransfer pairs) (g more) (g more)) → Both (SameTransfer pairs) (string_transfer repeat n g) (string_transfer repeat n g)
  string_same false n g p f = f [] refl
  string_same true n g p f = counted_same n (g (register 4 1 ∷ [])) (f (register 4 1 ∷ []) (refl, itself 1 0 p.0, refl))
