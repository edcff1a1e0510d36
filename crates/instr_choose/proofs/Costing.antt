-- What the turns of the code cost.
use Rattle.std.proofs.Common.{◌≡◌, ℕ, zero, suc, ◌+◌, ◌≤◌, ◌<◌, ◌==◌, max, Bool, true, false, cond, List, [], ◌∷◌, ◌++◌, map, length, get_or, All, Contains, Some, None, refl, sym, ap, ◌∙◌, subst, append_assoc, arith}
use Rattle.std.specs.List.{slice_get, AllByRecursion}
use Rattle.std.proofs.lemmas.Bool.{eqb-true}
use Rattle.std.proofs.lemmas.List.Elements.{All-from_recursion, All-append, All-map, All-contains}
use Rattle.std.proofs.lemmas.Option.{slice_get-get_or}
use Rattle.x86_types.specs.declared.operand.Reg.TheVariants.{Eax}
use Rattle.x86_types.specs.declared.operation.AluOp.{AluOp}
use Rattle.x86_types.specs.declared.operation.AluOp.TheVariants as alu
use Rattle.x86_types.specs.declared.width.Width.{Width}
use Rattle.x86_types.specs.declared.width.Width.TheVariants.{One, Two, Four}
use Rattle.x86_types.specs.declared.operation.Cond.TheVariants as condition
use Rattle.x86_types.specs.declared.instr.Instr.TheVariants as instr
use Rattle.flag_ir.specs.declared.variable.Var.{Var}
use Rattle.flag_ir.specs.declared.variable.Term.{Term}
use Rattle.flag_ir.specs.declared.variable.Term.TheVariants as term
use Rattle.flag_ir.specs.declared.operation.Calc.{Calc}
use Rattle.flag_ir.specs.declared.operation.Calc.TheVariants as calc
use Rattle.flag_ir.specs.declared.operation.Op.{Op}
use Rattle.flag_ir.specs.declared.operation.Op.TheVariants as op
use Rattle.flag_ir.specs.declared.block.Block.{Block}
use Rattle.flag_ir.specs.declared.block.Exit.{Exit}
use Rattle.flag_ir.specs.declared.block.Exit.TheVariants as exit
use Rattle.flag_ir.specs.declared.procedure.Proc.{Proc}
use Rattle.flag_ir.specs.Entering.{CodeUnit}
use Rattle.flag_ir.specs.Form.{IsExit, IsFramelessExit, IsFramelessBlock, IsInForm}
use Rattle.flag_ir.specs.Shape.{Part, named_by}
use Rattle.flag_ir.specs.Costs.{list_cost, block_cost, allowed, BoundsTurns}
use Rattle.named_code.specs.declared.slot.Slot.{Slot}
use Rattle.named_code.specs.declared.slot.Slot.TheVariants.{Fixed}
use Rattle.named_code.specs.declared.named.VInstr.{VInstr}
use Rattle.named_code.specs.declared.named.VBlock.{VBlock}
use Rattle.named_code.specs.Items.{Item, named_item, named_block}
use Rattle.named_code.specs.Weight.{Next, Again, course_of, left_at, most_behind, most, items_cost, IsOnce, IsBounded, BoundsCode}
use Rattle.instr_choose.specs.Lists.{slot_of, made, put, copy, alu_by, load_by, multiply_by, divide_by, store_by, width_of, is_of, by_alu, choose_calc, byte_dividend, byte_results, choose_divide, choose_store, choose_op, choose_ops}
use Rattle.instr_choose.specs.Blocks.{choose_exit, choose_block, choose_blocks}
use Rattle.instr_choose.specs.Marks.{marks_of, at_or_zero}
use Rattle.instr_choose.specs.Choosing.{chosen_costing, CostsAsUnit}
use Rattle.instr_choose.proofs.Naming.{code_of, code_blocks, there, among, index_is, found_number, mark_is}

-- ---- behind each instruction of an operation the next one follows
abbrev IsPlainInstr : VInstr → Type 0
IsPlainInstr i = course_of i.instr ≡ Next

abbrev ArePlain : List VInstr → Type 0
ArePlain xs = AllByRecursion IsPlainInstr xs

both_plain : (xs ys : List VInstr) → ArePlain xs → ArePlain ys → ArePlain (xs ++ ys)
both_plain [] ys h k = k
both_plain (x ∷ xs) ys h k = (h.0, both_plain xs ys h.1 k)

multiply_plain : (signed : Bool) (s : Slot) → IsPlainInstr (multiply_by signed s)
multiply_plain false s = refl
multiply_plain true s = refl

divide_plain : (signed : Bool) (w : Width) (s : Slot) → IsPlainInstr (divide_by signed w s)
divide_plain false w s = refl
divide_plain true w s = refl

load_plain : (w : Width) (to : Slot) (at : Term) → IsPlainInstr (load_by w to at)
load_plain One to at = refl
load_plain Two to at = refl
load_plain Four to at = refl

store_plain : (w : Width) (at : Term) (s : Slot) → IsPlainInstr (store_by w at s)
store_plain w (term.Var v) s = refl
store_plain w (term.Word n) s = refl

alu_plain : (o : AluOp) (to : Var) (x y : Term) → ArePlain (by_alu o to x y)
alu_plain o to x y = by (is_of to y)
  where
    by : (b : Bool) → ArePlain (cond b (put (Fixed Eax) x ∷ alu_by o (Fixed Eax) y ∷ copy (slot_of to) (Fixed Eax) ∷ []) (put (slot_of to) x ∷ alu_by o (slot_of to) y ∷ []))
    by true = (refl, (refl, (refl, tt)))
    by false = (refl, (refl, tt))

calc_plain : (c : Calc) (to : Var) (x y : Term) → ArePlain (choose_calc c to x y)
calc_plain calc.Add to x y = alu_plain alu.Add to x y
calc_plain calc.Sub to x y = alu_plain alu.Sub to x y
calc_plain calc.And to x y = alu_plain alu.And to x y
calc_plain calc.Or to x y = alu_plain alu.Or to x y
calc_plain calc.Xor to x y = alu_plain alu.Xor to x y
calc_plain calc.Mul to x y = (refl, (refl, (refl, (refl, tt))))
calc_plain calc.Mulhu to x y = (refl, (refl, (refl, (refl, tt))))
calc_plain calc.Mulhs to x y = (refl, (refl, (refl, (refl, tt))))
calc_plain calc.Shl to x y = (refl, (refl, (refl, tt)))
calc_plain calc.Shr to x y = (refl, (refl, (refl, tt)))
calc_plain calc.Sar to x y = (refl, (refl, (refl, tt)))
calc_plain calc.Eq to x y = (refl, (refl, (refl, (refl, tt))))
calc_plain calc.Ltu to x y = (refl, (refl, (refl, (refl, tt))))
calc_plain calc.Lts to x y = (refl, (refl, (refl, (refl, tt))))

divide_list_plain : (w : Width) (signed : Bool) (q r : Var) (high low by : Term) → ArePlain (choose_divide w signed q r high low by)
unfolding byte_dividend byte_results
divide_list_plain Four signed q r high low by = (refl, (refl, (refl, (divide_plain signed Four _, (refl, (refl, tt))))))
divide_list_plain Two signed q r high low by = (refl, (refl, (refl, (divide_plain signed Two _, (refl, (refl, tt))))))
divide_list_plain One signed q r high low by = (refl, (refl, (refl, (refl, (refl, (refl, (divide_plain signed One _, (refl, (refl, (refl, (refl, tt)))))))))))

store_list_plain : (w : Width) (at from : Term) → ArePlain (choose_store w at from)
store_list_plain w at (term.Var v) = (store_plain w at _, tt)
store_list_plain w at (term.Word n) = (refl, (store_plain w at _, tt))

op_plain : (o : Op) → ArePlain (choose_op o)
unfolding choose_op
op_plain (op.Set to from) = (refl, tt)
op_plain (op.Calc to c x y) = calc_plain c to x y
op_plain (op.Forget to) = tt
op_plain (op.Pick to test x y) = (refl, (refl, (refl, (refl, (refl, tt)))))
op_plain (op.Need from) = tt
op_plain (op.Divide q r high low by size signed) = divide_list_plain (width_of size) signed q r high low by
op_plain (op.Load to size at) = (load_plain (width_of size) _ at, tt)
op_plain (op.Store size at from) = store_list_plain (width_of size) at from
op_plain (op.NearLoad to size at) = tt
op_plain (op.NearStore size at from) = tt
op_plain (op.Get to size offset) = tt
op_plain (op.Put size offset from) = tt
op_plain op.System = (refl, (refl, (refl, (refl, (refl, (refl, tt))))))
op_plain op.NearSystem = tt

-- ---- no instruction comes again at once
AreOnce : List VInstr → Type 0
AreOnce xs = All (λ (i : VInstr). IsOnce (named_item i)) xs

plain_once : (xs : List VInstr) → ArePlain xs → AllByRecursion (λ (i : VInstr). IsOnce (named_item i)) xs
plain_once [] h = tt
plain_once (x ∷ xs) h = (λ e. absurd (let g : Next ≡ Again = sym h.0 ∙ e in cc), plain_once xs h.1)

ops_once : (ops : List Op) → AreOnce (choose_ops ops)
unfolding AreOnce choose_ops
ops_once [] = All-from_recursion (λ (i : VInstr). IsOnce (named_item i)) [] tt
ops_once (o ∷ os) =
    All-append (λ (i : VInstr). IsOnce (named_item i)) (choose_op o) (choose_ops os) (All-from_recursion (λ (i : VInstr). IsOnce (named_item i)) (choose_op o) (plain_once (choose_op o) (op_plain o))) (ops_once os)

exit_once : (e : Exit) → IsFramelessExit e → AreOnce (choose_exit e)
unfolding AreOnce choose_exit
exit_once (exit.Go n) f = All-from_recursion (λ (i : VInstr). IsOnce (named_item i)) (choose_exit (exit.Go n)) (λ e. absurd cc, tt)
exit_once (exit.Branch test m n) f = All-from_recursion (λ (i : VInstr). IsOnce (named_item i)) (choose_exit (exit.Branch test m n)) (λ e. absurd cc, (λ e. absurd cc, (λ e. absurd cc, (λ e. absurd cc, tt))))
exit_once (exit.Jump to) f = All-from_recursion (λ (i : VInstr). IsOnce (named_item i)) (choose_exit (exit.Jump to)) (λ e. absurd cc, (λ e. absurd cc, tt))
exit_once (exit.CallProc entry back) f = absurd f
exit_once exit.Return f = absurd f
exit_once exit.Fault f = All-from_recursion (λ (i : VInstr). IsOnce (named_item i)) (choose_exit exit.Fault) (λ e. absurd cc, tt)
exit_once exit.Stop f = All-from_recursion (λ (i : VInstr). IsOnce (named_item i)) (choose_exit exit.Stop) (λ e. absurd cc, tt)

block_once : (b : Block) → IsFramelessExit b.exit → All IsOnce (code_of b).items
unfolding AreOnce
block_once b f = All-map IsOnce named_item (choose_ops b.ops ++ choose_exit b.exit) (All-append (λ (i : VInstr). IsOnce (named_item i)) (choose_ops b.ops) (choose_exit b.exit) (ops_once b.ops) (exit_once b.exit f))

-- ---- the numbers that an exit names
first_in : (m n : ℕ) (xs : List ℕ) → m ≡ n → Contains (m ∷ xs) n
first_in m n xs e = (0, omega arith, e)

named_within : (blocks : ℕ) (procs : List Proc) (e : Exit) (n : ℕ) → IsExit 0 blocks procs e → Contains (named_by e) n → n < blocks
named_within blocks procs (exit.Go m) n i c = by c.0 c.1 c.2
  where
    by : (k : ℕ) → k < length (m ∷ []) → get_or (m ∷ []) k n ≡ n → n < blocks
    by zero l e = subst (λ (j : ℕ). j < blocks) e i
    by (suc k) l e = absurd (omega (arith, l))
named_within blocks procs (exit.Branch test m j) n i c = by c.0 c.1 c.2
  where
    by : (k : ℕ) → k < length (m ∷ j ∷ []) → get_or (m ∷ j ∷ []) k n ≡ n → n < blocks
    by zero l e = subst (λ (j : ℕ). j < blocks) e i.1
    by (suc zero) l e = subst (λ (j : ℕ). j < blocks) e i.2
    by (suc (suc k)) l e = absurd (omega (arith, l))
named_within blocks procs (exit.Jump to) n i c = absurd (let low : c.0 < 0 = c.1 in omega arith)
named_within blocks procs (exit.CallProc entry back) n i c = absurd (let low : c.0 < 0 = c.1 in omega arith)
named_within blocks procs exit.Return n i c = absurd (let low : c.0 < 0 = c.1 in omega arith)
named_within blocks procs exit.Fault n i c = absurd (let low : c.0 < 0 = c.1 in omega arith)
named_within blocks procs exit.Stop n i c = absurd (let low : c.0 < 0 = c.1 in omega arith)

greater_within : (k l r most : ℕ) → k + l ≤ most → k + r ≤ most → k + max l r ≤ most
greater_within k l r most h j = grind (arith)

module _ (c : Item → ℕ) (left : ℕ → ℕ) where
  abbrev longest : List VInstr → ℕ
  longest xs = most c left (map named_item xs)

  abbrev cost_of : List VInstr → ℕ
  cost_of xs = items_cost c (map named_item xs)

  -- ---- the longest way through a list
  plain_longest : (xs ys : List VInstr) → ArePlain xs → longest (xs ++ ys) ≡ cost_of xs + longest ys
  plain_longest [] ys h = omega arith
  plain_longest (x ∷ xs) ys h =
      let more : longest (xs ++ ys) ≡ cost_of xs + longest ys = plain_longest xs ys h.1 in
      let first : longest (x ∷ (xs ++ ys)) ≡ c (named_item x) + longest (xs ++ ys) = ap (λ k. c (named_item x) + most_behind k left (longest (xs ++ ys))) h.0 in
      omega (arith, first, more)

  ops_cost : List Op → ℕ
  ops_cost [] = 0
  ops_cost (o ∷ os) = cost_of (choose_op o) + ops_cost os

  ops_longest : (ops : List Op) (ys : List VInstr) → longest (choose_ops ops ++ ys) ≡ ops_cost ops + longest ys
  unfolding choose_ops ops_cost
  ops_longest [] ys = omega arith
  ops_longest (o ∷ os) ys =
      let more : longest (choose_ops os ++ ys) ≡ ops_cost os + longest ys = ops_longest os ys in
      let first : longest (choose_op o ++ (choose_ops os ++ ys)) ≡ cost_of (choose_op o) + longest (choose_ops os ++ ys) = plain_longest (choose_op o) (choose_ops os ++ ys) (op_plain o) in
      ap longest (append_assoc (choose_op o) (choose_ops os) ys) ∙ omega (arith, first, more)

  ops_listed : (ops : List Op) (e : Exit) → list_cost (chosen_costing c) ops e ≡ ops_cost ops + cost_of (choose_exit e)
  unfolding list_cost ops_cost
  ops_listed [] e = omega arith
  ops_listed (o ∷ os) e = let more : list_cost (chosen_costing c) os e ≡ ops_cost os + cost_of (choose_exit e) = ops_listed os e in omega (arith, more)

  -- an exit's is within what is allowed where each way on is
  branch_within : (before bound a b j k l r : ℕ) → before + (a + (b + (j + (k + 0)))) + l ≤ bound → before + (a + (b + (j + (k + 0)))) + r ≤ bound → before + (a + (b + (j + max l (k + r)))) ≤ bound
  branch_within before bound a b j k l r h g =
      let both : (before + (a + (b + j))) + max l (k + r) ≤ bound = greater_within (before + (a + (b + j))) l (k + r) bound (omega (arith, h)) (omega (arith, g)) in
      omega (arith, both)

  exit_longest : (e : Exit) → IsFramelessExit e → (before bound : ℕ) → before + cost_of (choose_exit e) ≤ bound → ((n : ℕ) → Contains (named_by e) n → before + cost_of (choose_exit e) + left n ≤ bound) → before + longest (choose_exit e) ≤ bound
  unfolding choose_exit
  exit_longest (exit.Go n) f before bound few each = omega (arith, each n (first_in n n [] refl))
  exit_longest (exit.Branch test m n) f before bound few each =
      branch_within before bound (c (named_item (put (Fixed Eax) test))) (c (named_item (alu_by alu.Cmp (Fixed Eax) (term.Word 0)))) (c (named_item (made (instr.Jcc condition.Ne m) []))) (c (named_item (made (instr.Jmp n) []))) (left m) (left n)
      (each m (first_in m m (n ∷ []) refl)) (each n (1, omega arith, refl))
  exit_longest (exit.Jump to) f before bound few each = omega (arith, few)
  exit_longest (exit.CallProc entry back) f before bound few each = absurd f
  exit_longest exit.Return f before bound few each = absurd f
  exit_longest exit.Fault f before bound few each = omega (arith, few)
  exit_longest exit.Stop f before bound few each = omega (arith, few)

-- ---- a block, and the whole code
module _ (u : CodeUnit) (form : IsInForm u) (low : u.lowered ≡ true) (c : Item → ℕ) (w : ℕ) (rest : Part → ℕ → ℕ) (bounds : BoundsTurns (chosen_costing c) w rest u) where
  abbrev left : ℕ → ℕ
  left n = left_at (marks_of u) (rest None) n

  module _ (k : ℕ) (b : Block) (is : slice_get u.whole k ≡ Some b) where
    abbrev bound : ℕ
    bound = allowed w rest None k b

    frameless : IsFramelessExit b.exit
    frameless = (All-contains IsFramelessBlock u.whole b (form.lowered low).blocks (among u.whole k b is)).exit

    mark : marks_of u b.number ≡ b.at
    mark = mark_is u form.whole.numbers k b is

    cost_listed : block_cost (chosen_costing c) b ≡ ops_cost c left b.ops + cost_of c left (choose_exit b.exit)
    cost_listed = ops_listed c left b.ops b.exit

    -- each way on is within what is allowed
    way_on : (n : ℕ) → Contains (named_by b.exit) n → ops_cost c left b.ops + cost_of c left (choose_exit b.exit) + left n ≤ bound
    way_on n named = at (there u.whole n (named_within (length u.whole) u.procs b.exit n (form.whole.exits b (among u.whole k b is)) named))
      where
        at : (d : Block) × (slice_get u.whole n ≡ Some d) → ops_cost c left b.ops + cost_of c left (choose_exit b.exit) + left n ≤ bound
        at found = by (found.0.at == 0) refl
          where
            marked : marks_of u n ≡ found.0.at
            marked = ap at_or_zero (found_number u.whole form.whole.numbers n found.0 found.1)

            by : (z : Bool) → (found.0.at == 0) ≡ z → ops_cost c left b.ops + cost_of c left (choose_exit b.exit) + left n ≤ bound
            by true e =
                let on : block_cost (chosen_costing c) b + rest None n ≤ bound =
                bounds.onward None k b n found.0
                (record { from = (tt, is); to = (tt, found.1); number = n; named = named; there = index_is u.whole form.whole.numbers n (named_within (length u.whole) u.procs b.exit n (form.whole.exits b (among u.whole k b is)) named) })
                (eqb-true found.0.at 0 e) in
                let same : left n ≡ rest None n = ap (λ a. cond (a == 0) (rest None n) 0) marked ∙ ap (λ z. cond z (rest None n) 0) e in
                omega (arith, on, same, cost_listed)
            by false e =
                let all : block_cost (chosen_costing c) b ≤ bound = bounds.block None k b (tt, is) in
                let same : left n ≡ 0 = ap (λ a. cond (a == 0) (rest None n) 0) marked ∙ ap (λ z. cond z (rest None n) 0) e in
                omega (arith, all, same, cost_listed)

    longest_within : most c left (code_of b).items ≤ bound
    longest_within =
        let first : longest c left (choose_ops b.ops ++ choose_exit b.exit) ≡ ops_cost c left b.ops + longest c left (choose_exit b.exit) = ops_longest c left b.ops (choose_exit b.exit) in
        let all : block_cost (chosen_costing c) b ≤ bound = bounds.block None k b (tt, is) in
        let last : ops_cost c left b.ops + longest c left (choose_exit b.exit) ≤ bound = exit_longest c left b.exit frameless (ops_cost c left b.ops) bound (omega (arith, all, cost_listed)) way_on in
        omega (arith, first, last)

    block_bounded : IsBounded (marks_of u) c (rest None) w (code_of b)
    block_bounded = record {
      within = subst (λ (n : ℕ). most c left (code_of b).items ≤ n) (λ i. cond (sym mark i == 0) (rest None (sym (form.whole.numbers k b is) i)) w) longest_within;
      entered = λ at z. at (sym mark ∙ z);
      once = block_once b frameless;
    }

  pub bounds_code : BoundsCode (marks_of u) c (rest None) w (code_blocks u.whole)
  bounds_code =
      All-map (IsBounded (marks_of u) c (rest None) w) named_block (choose_blocks u.whole)
      (All-map (λ (b : VBlock). IsBounded (marks_of u) c (rest None) w (named_block b)) choose_block u.whole (λ k d l. block_bounded k (get_or u.whole k d) (slice_get-get_or u.whole k d l)))

pub costs : (u : CodeUnit) → IsInForm u → u.lowered ≡ true → CostsAsUnit u (choose_blocks u.whole)
costs u form low c w rest bounds = bounds_code u form low c w rest bounds
