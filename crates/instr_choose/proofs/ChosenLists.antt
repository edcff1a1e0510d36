-- Each instruction of the list of an operation and of an exit is in form and can be placed.
use Rattle.std.proofs.Common.{Bool, true, false, cond, List, [], ◌∷◌, length, All, arith}
use Rattle.std.specs.List.{AllByRecursion}
use Rattle.std.proofs.lemmas.List.Elements.{All-from_recursion, All-append, All-head, All-tail}
use Rattle.x86_types.specs.declared.operand.Reg.{Reg}
use Rattle.x86_types.specs.declared.operand.Reg.TheVariants.{Eax, Ecx, Edx}
use Rattle.x86_types.specs.declared.operand.Rm.TheVariants as rm
use Rattle.x86_types.specs.declared.operation.AluOp.{AluOp}
use Rattle.x86_types.specs.declared.operation.AluOp.TheVariants as alu
use Rattle.x86_types.specs.declared.operation.ShiftOp.{ShiftOp}
use Rattle.x86_types.specs.declared.operation.ShiftOp.TheVariants as shiftop
use Rattle.x86_types.specs.declared.operation.Cond.{Cond}
use Rattle.x86_types.specs.declared.operation.Cond.TheVariants as condition
use Rattle.x86_types.specs.declared.width.Width.{Width}
use Rattle.x86_types.specs.declared.width.Width.TheVariants.{One, Two, Four}
use Rattle.x86_types.specs.declared.instr.Instr.TheVariants as instr
use Rattle.flag_ir.specs.declared.variable.Var.{Var}
use Rattle.flag_ir.specs.declared.variable.Var.TheVariants as var
use Rattle.flag_ir.specs.declared.variable.Term.{Term}
use Rattle.flag_ir.specs.declared.variable.Term.TheVariants as term
use Rattle.flag_ir.specs.declared.operation.Calc.{Calc}
use Rattle.flag_ir.specs.declared.operation.Calc.TheVariants as calc
use Rattle.flag_ir.specs.declared.operation.Op.{Op}
use Rattle.flag_ir.specs.declared.operation.Op.TheVariants as op
use Rattle.flag_ir.specs.declared.block.Block.{Block}
use Rattle.flag_ir.specs.declared.block.Exit.{Exit}
use Rattle.flag_ir.specs.declared.block.Exit.TheVariants as exit
use Rattle.flag_ir.specs.declared.procedure.Proc.{Proc}
use Rattle.flag_ir.specs.Form.{IsVar, IsTerm, IsOp, IsExit, IsFramelessExit}
use Rattle.named_code.specs.declared.slot.Slot.TheVariants.{Fixed, Name}
use Rattle.named_code.specs.declared.named.VInstr.{VInstr}
use Rattle.named_code.specs.declared.named.VBlock.{VBlock}
use Rattle.instr_choose.specs.Lists.{slot_of, made, put, copy, alu_by, load_by, width_of, is_of, by_alu, by_multiply, by_shift, by_compare, choose_calc, byte_dividend, byte_results, choose_divide, choose_pick, choose_store, choose_system, choose_op, choose_ops}
use Rattle.instr_choose.specs.Blocks.{choose_exit, choose_blocks, VarHasName, TermHasName, OpHasNames, ExitHasNames}
use Rattle.instr_choose.specs.Words.{TermFits, OpFits, ExitFits}
use Rattle.instr_choose.proofs.Naming.{AreNumbered, has_number}
use Rattle.instr_choose.proofs.ChosenInstrs.{SpellingLaw, IsFreeSlot, IsTermSlot, IsChosen, put_chosen, copy_chosen, ebx_chosen, extend_one_chosen, extend_two_chosen, byte_chosen, alu_chosen, set_chosen, move_chosen, shift_chosen, shift_byte_chosen, multiply_chosen, divide_chosen, load_chosen, store_chosen, call_chosen, nothing_chosen, jump_chosen, branch_chosen, old_chosen}

-- ---- slots
var_slot : (v : Var) → IsVar 0 v → VarHasName v → IsFreeSlot (slot_of v)
var_slot (var.Reg n) i h = omega (arith, i)
var_slot (var.Flag n) i h = omega (arith, i)
var_slot (var.Temp n) i h = omega (arith, h)
var_slot (var.Local n) i h = absurd (omega (arith, i))

term_slot : (t : Term) → IsTerm 0 t → TermHasName t → TermFits t → IsTermSlot t
term_slot (term.Var v) i h f = var_slot v i h
term_slot (term.Word n) i h f = f

eax : IsFreeSlot (Fixed Eax)
eax = omega arith

ecx : IsFreeSlot (Fixed Ecx)
ecx = omega arith

edx : IsFreeSlot (Fixed Edx)
edx = omega arith

zero_word : IsTermSlot (term.Word 0)
zero_word = omega arith

module _ (spelling : SpellingLaw) (code : List VBlock) where
  abbrev AreChosen : List VInstr → Type 0
  AreChosen xs = All (IsChosen spelling code) xs

  -- ---- each list
  either : (b : Bool) (xs ys : List VInstr) → AreChosen xs → AreChosen ys → AreChosen (cond b xs ys)
  either true xs ys h k = h
  either false xs ys h k = k

  several : (xs : List VInstr) → AllByRecursion (IsChosen spelling code) xs → AreChosen xs
  several = All-from_recursion (IsChosen spelling code)

  by_alu_chosen : (o : AluOp) (to : Var) (x y : Term) → IsFreeSlot (slot_of to) → IsTermSlot x → IsTermSlot y → AreChosen (by_alu o to x y)
  by_alu_chosen o to x y h j k =
      either (is_of to y) _ _ (several (put (Fixed Eax) x ∷ alu_by o (Fixed Eax) y ∷ copy (slot_of to) (Fixed Eax) ∷ []) (put_chosen spelling code (Fixed Eax) x eax j, (alu_chosen spelling code o (Fixed Eax) y eax k, (copy_chosen spelling code (slot_of to) (Fixed Eax) h eax, tt))))
      (several (put (slot_of to) x ∷ alu_by o (slot_of to) y ∷ []) (put_chosen spelling code (slot_of to) x h j, (alu_chosen spelling code o (slot_of to) y h k, tt)))

  by_multiply_chosen : (signed : Bool) (half : Reg) (to : Var) (x y : Term) → IsFreeSlot (Fixed half) → IsFreeSlot (slot_of to) → IsTermSlot x → IsTermSlot y → AreChosen (by_multiply signed half to x y)
  by_multiply_chosen signed half to x y e h j k =
      several (by_multiply signed half to x y) (put_chosen spelling code (Fixed Eax) x eax j, (put_chosen spelling code (Fixed Ecx) y ecx k, (multiply_chosen spelling code signed (Fixed Ecx) ecx, (copy_chosen spelling code (slot_of to) (Fixed half) h e, tt))))

  by_shift_chosen : (o : ShiftOp) (to : Var) (x y : Term) → IsFreeSlot (slot_of to) → IsTermSlot x → IsTermSlot y → AreChosen (by_shift o to x y)
  by_shift_chosen o to x y h j k = several (by_shift o to x y) (put_chosen spelling code (Fixed Ecx) y ecx k, (put_chosen spelling code (slot_of to) x h j, (shift_chosen spelling code o (slot_of to) h, tt)))

  by_compare_chosen : (c : Cond) (to : Var) (x y : Term) → IsFreeSlot (slot_of to) → IsTermSlot x → IsTermSlot y → AreChosen (by_compare c to x y)
  by_compare_chosen c to x y h j k =
      several (by_compare c to x y) (put_chosen spelling code (Fixed Eax) x eax j, (alu_chosen spelling code alu.Cmp (Fixed Eax) y eax k, (put_chosen spelling code (slot_of to) (term.Word 0) h zero_word, (set_chosen spelling code c (slot_of to) h, tt))))

  calc_chosen : (c : Calc) (to : Var) (x y : Term) → IsFreeSlot (slot_of to) → IsTermSlot x → IsTermSlot y → AreChosen (choose_calc c to x y)
  calc_chosen calc.Add to x y h j k = by_alu_chosen alu.Add to x y h j k
  calc_chosen calc.Sub to x y h j k = by_alu_chosen alu.Sub to x y h j k
  calc_chosen calc.And to x y h j k = by_alu_chosen alu.And to x y h j k
  calc_chosen calc.Or to x y h j k = by_alu_chosen alu.Or to x y h j k
  calc_chosen calc.Xor to x y h j k = by_alu_chosen alu.Xor to x y h j k
  calc_chosen calc.Mul to x y h j k = by_multiply_chosen false Eax to x y eax h j k
  calc_chosen calc.Mulhu to x y h j k = by_multiply_chosen false Edx to x y edx h j k
  calc_chosen calc.Mulhs to x y h j k = by_multiply_chosen true Edx to x y edx h j k
  calc_chosen calc.Shl to x y h j k = by_shift_chosen shiftop.Shl to x y h j k
  calc_chosen calc.Shr to x y h j k = by_shift_chosen shiftop.Shr to x y h j k
  calc_chosen calc.Sar to x y h j k = by_shift_chosen shiftop.Sar to x y h j k
  calc_chosen calc.Eq to x y h j k = by_compare_chosen condition.E to x y h j k
  calc_chosen calc.Ltu to x y h j k = by_compare_chosen condition.B to x y h j k
  calc_chosen calc.Lts to x y h j k = by_compare_chosen condition.L to x y h j k

  divide_list_chosen : (w : Width) (signed : Bool) (q r : Var) (high low by : Term) → IsFreeSlot (slot_of q) → IsFreeSlot (slot_of r) → IsTermSlot high → IsTermSlot low → IsTermSlot by → AreChosen (choose_divide w signed q r high low by)
  unfolding byte_dividend byte_results
  divide_list_chosen Four signed q r high low by h i j k l =
      several (choose_divide Four signed q r high low by)
      (put_chosen spelling code (Fixed Ecx) by ecx l, (put_chosen spelling code (Fixed Edx) high edx j, (put_chosen spelling code (Fixed Eax) low eax k, (divide_chosen spelling code signed Four (Fixed Ecx) ecx, (copy_chosen spelling code (slot_of q) (Fixed Eax) h eax, (copy_chosen spelling code (slot_of r) (Fixed Edx) i edx, tt))))))
  divide_list_chosen Two signed q r high low by h i j k l =
      several (choose_divide Two signed q r high low by)
      (put_chosen spelling code (Fixed Ecx) by ecx l, (put_chosen spelling code (Fixed Edx) high edx j, (put_chosen spelling code (Fixed Eax) low eax k, (divide_chosen spelling code signed Two (Fixed Ecx) ecx, (extend_two_chosen spelling code (slot_of q) (Fixed Eax) h eax, (extend_two_chosen spelling code (slot_of r) (Fixed Edx) i edx, tt))))))
  divide_list_chosen One signed q r high low by h i j k l =
      several (choose_divide One signed q r high low by) (
        put_chosen spelling code (Fixed Ecx) by ecx l,
        (
          put_chosen spelling code (Fixed Edx) high edx j,
          (
            extend_one_chosen spelling code (Fixed Eax) (Fixed Edx) eax edx,
            (
              shift_byte_chosen spelling code shiftop.Shl (Fixed Eax) eax,
              (
                put_chosen spelling code (Fixed Edx) low edx k,
                (
                  byte_chosen spelling code Eax (Fixed Edx) eax edx,
                  (
                    divide_chosen spelling code signed One (Fixed Ecx) ecx,
                    (
                      extend_one_chosen spelling code (slot_of q) (Fixed Eax) h eax,
                      (extend_two_chosen spelling code (Fixed Eax) (Fixed Eax) eax eax, (shift_byte_chosen spelling code shiftop.Shr (Fixed Eax) eax, (copy_chosen spelling code (slot_of r) (Fixed Eax) i eax, tt))),
                    ),
                  ),
                ),
              ),
            ),
          ),
        ),
      )

  pick_chosen : (to : Var) (test x y : Term) → IsFreeSlot (slot_of to) → IsTermSlot test → IsTermSlot x → IsTermSlot y → AreChosen (choose_pick to test x y)
  pick_chosen to test x y h i j k =
      several (choose_pick to test x y)
      (put_chosen spelling code (Fixed Eax) test eax i, (alu_chosen spelling code alu.Cmp (Fixed Eax) (term.Word 0) eax zero_word, (put_chosen spelling code (Fixed Ecx) x ecx j, (put_chosen spelling code (slot_of to) y h k, (move_chosen spelling code condition.Ne (slot_of to) (Fixed Ecx) h ecx, tt)))))

  store_list_chosen : (w : Width) (at from : Term) → IsTermSlot at → IsTermSlot from → AreChosen (choose_store w at from)
  store_list_chosen w at (term.Var v) h k = several (choose_store w at (term.Var v)) (store_chosen spelling code w at (slot_of v) h k, tt)
  store_list_chosen w at (term.Word n) h k = several (choose_store w at (term.Word n)) (put_chosen spelling code (Fixed Eax) (term.Word n) eax k, (store_chosen spelling code w at (Fixed Eax) h eax, tt))

  system_chosen : AreChosen choose_system
  system_chosen =
      several choose_system (
        copy_chosen spelling code (Fixed Eax) (Name 0) eax (omega arith),
        (
          ebx_chosen spelling code 3 (omega arith),
          (
            copy_chosen spelling code (Fixed Ecx) (Name 1) ecx (omega arith),
            (copy_chosen spelling code (Fixed Edx) (Name 2) edx (omega arith), (call_chosen spelling code, (copy_chosen spelling code (Name 0) (Fixed Eax) (omega arith) eax, tt))),
          ),
        ),
      )

  pub op_chosen : (o : Op) → IsOp 0 o → OpHasNames o → OpFits o → AreChosen (choose_op o)
  unfolding choose_op
  op_chosen (op.Set to from) i h f = several (put (slot_of to) from ∷ []) (put_chosen spelling code (slot_of to) from (var_slot to i.0 h.0) (term_slot from i.1 h.1 f), tt)
  op_chosen (op.Calc to c x y) i h f = calc_chosen c to x y (var_slot to i.0 h.0) (term_slot x i.1 h.1 f.0) (term_slot y i.2 h.2 f.1)
  op_chosen (op.Forget to) i h f = several [] tt
  op_chosen (op.Pick to test x y) i h f = pick_chosen to test x y (var_slot to i.0 h.0) (term_slot test i.1 h.1 f.0) (term_slot x i.2 h.2 f.1) (term_slot y i.3 h.3 f.2)
  op_chosen (op.Need from) i h f = several [] tt
  op_chosen (op.Divide q r high low by size signed) i h f =
      divide_list_chosen (width_of size) signed q r high low by (var_slot q i.0 h.0) (var_slot r i.1 h.1) (term_slot high i.2 h.2 f.0) (term_slot low i.3 h.3 f.1) (term_slot by i.4 h.4 f.2)
  op_chosen (op.Load to size at) i h f = several (load_by (width_of size) (slot_of to) at ∷ []) (load_chosen spelling code (width_of size) (slot_of to) at (var_slot to i.0 h.0) (term_slot at i.2 h.1 f), tt)
  op_chosen (op.Store size at from) i h f = store_list_chosen (width_of size) at from (term_slot at i.1 h.0 f.0) (term_slot from i.2 h.1 f.1)
  op_chosen (op.NearLoad to size at) i h f = several [] tt
  op_chosen (op.NearStore size at from) i h f = several [] tt
  op_chosen (op.Get to size offset) i h f = several [] tt
  op_chosen (op.Put size offset from) i h f = several [] tt
  op_chosen op.System i h f = system_chosen
  op_chosen op.NearSystem i h f = several [] tt

  pub ops_chosen : (ops : List Op) → All (IsOp 0) ops → All OpHasNames ops → All OpFits ops → AreChosen (choose_ops ops)
  unfolding choose_ops
  ops_chosen [] i h f = several [] tt
  ops_chosen (o ∷ os) i h f =
      All-append (IsChosen spelling code) (choose_op o) (choose_ops os) (op_chosen o (All-head (IsOp 0) o os i) (All-head OpHasNames o os h) (All-head OpFits o os f))
      (ops_chosen os (All-tail (IsOp 0) o os i) (All-tail OpHasNames o os h) (All-tail OpFits o os f))

-- ---- exits
module _ (spelling : SpellingLaw) (blocks : List Block) (numbered : AreNumbered blocks) where
  abbrev code_of_all : List VBlock
  code_of_all = choose_blocks blocks

  pub exit_chosen : (procs : List Proc) (e : Exit) → IsFramelessExit e → IsExit 0 (length blocks) procs e → ExitHasNames e → ExitFits e → AreChosen spelling code_of_all (choose_exit e)
  unfolding choose_exit
  exit_chosen procs (exit.Go n) f i h w = several spelling code_of_all (made (instr.Jmp n) [] ∷ []) (jump_chosen spelling code_of_all n w (has_number blocks numbered n i), tt)
  exit_chosen procs (exit.Branch test m n) f i h w =
      several spelling code_of_all (put (Fixed Eax) test ∷ alu_by alu.Cmp (Fixed Eax) (term.Word 0) ∷ made (instr.Jcc condition.Ne m) [] ∷ made (instr.Jmp n) [] ∷ []) (
        put_chosen spelling code_of_all (Fixed Eax) test eax (term_slot test i.0 h w.0),
        (
          alu_chosen spelling code_of_all alu.Cmp (Fixed Eax) (term.Word 0) eax zero_word,
          (branch_chosen spelling code_of_all condition.Ne m w.1 (has_number blocks numbered m i.1), (jump_chosen spelling code_of_all n w.2 (has_number blocks numbered n i.2), tt)),
        ),
      )
  exit_chosen procs (exit.Jump to) f i h w =
      several spelling code_of_all (put (Fixed Eax) to ∷ made (instr.JmpTo (rm.Reg Eax)) (Fixed Eax ∷ []) ∷ []) (put_chosen spelling code_of_all (Fixed Eax) to eax (term_slot to i h w), (old_chosen spelling code_of_all Eax eax, tt))
  exit_chosen procs (exit.CallProc entry back) f i h w = absurd f
  exit_chosen procs exit.Return f i h w = absurd f
  exit_chosen procs exit.Fault f i h w = several spelling code_of_all (load_by Four (Fixed Eax) (term.Word 0) ∷ []) (load_chosen spelling code_of_all Four (Fixed Eax) (term.Word 0) eax zero_word, tt)
  exit_chosen procs exit.Stop f i h w = several spelling code_of_all (made instr.Nop [] ∷ []) (nothing_chosen spelling code_of_all, tt)
