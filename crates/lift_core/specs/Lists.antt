-- The list of each instruction, and its way. Each instruction has its line, so that one that is left out is seen. A list reads the operands
-- in the order in which the instruction does (Intel SDM volume 2, "Operation" of each instruction), computes, and writes the results. How
-- it does so is own.
use Rattle.std.specs.Prelude.{ℕ, ◌+◌, ◌==◌, ◌&&◌, Bool, true, false, cond, List, [], ◌∷◌, ◌++◌}
use Rattle.memory.specs.Memory.{wrapped}
use Rattle.x86_types.specs.declared.operand.Reg.{Reg}
use Rattle.x86_types.specs.declared.operand.Rm.{Rm}
use Rattle.x86_types.specs.declared.operand.Rm.TheVariants as rm
use Rattle.x86_types.specs.declared.operand.Src.{Src}
use Rattle.x86_types.specs.declared.operand.Src.TheVariants as src
use Rattle.x86_types.specs.declared.operation.AluOp.{AluOp}
use Rattle.x86_types.specs.declared.operation.AluOp.TheVariants as alu
use Rattle.x86_types.specs.declared.operation.Count.{Count}
use Rattle.x86_types.specs.declared.operation.Count.TheVariants as count
use Rattle.x86_types.specs.declared.width.Width.{Width}
use Rattle.x86_types.specs.declared.width.Width.TheVariants.{One, Two, Four}
use Rattle.x86_types.specs.declared.instr.Instr.{Instr}
use Rattle.x86_types.specs.declared.instr.Instr.TheVariants as instr
use Rattle.x86_types.specs.Numbers.{size_of}
use Rattle.x86_meaning.specs.TransferShapes.{cancels}
use Rattle.flag_ir.specs.declared.variable.Var.TheVariants as var
use Rattle.flag_ir.specs.declared.operation.Calc.TheVariants as calc
use Rattle.flag_ir.specs.declared.operation.Op.{Op}
use Rattle.flag_ir.specs.declared.operation.Op.TheVariants as op
use Rattle.lift_values.specs.Terms.{temp, word, to_temp, set_temp}
use Rattle.lift_values.specs.Sums.{inc_core, dec_core, neg_core}
use Rattle.lift_values.specs.Logic.{alu_core, test_core, not_core}
use Rattle.lift_values.specs.Shifts.{shift_core}
use Rattle.lift_values.specs.DoubleShifts.{double_shift_core}
use Rattle.lift_values.specs.Products.{mul_core, imul_core}
use Rattle.lift_values.specs.Divisions.{div_core}
use Rattle.lift_values.specs.Scans.{scan_core}
use Rattle.lift_values.specs.Extensions.{extend_core, cut_core, spread_core, swap_core}
use Rattle.lift_values.specs.Conditions.{condition_ops, set_core, cmov_core}
use Rattle.lift_core.specs.declared.operand.Operand.{Operand}
use Rattle.lift_core.specs.declared.operand.Operand.TheVariants as operand
use Rattle.lift_core.specs.declared.way.Way.{Way}
use Rattle.lift_core.specs.declared.way.Way.TheVariants as way
use Rattle.lift_core.specs.Pieces.{reg, to_reg, address_ops, read_ops, write_ops, field_operand, target_ops, target, source_ops, source_of_rm}

-- ---- operands without a field
-- AL, AX or EAX, and what stands above it in a product or a dividend: AH, DX or EDX
abbrev pub accumulator_operand : Operand
accumulator_operand = operand.Register 0 0

abbrev pub upper_operand : Width → Operand
upper_operand One = operand.Register 0 1
upper_operand Two = operand.Register 2 0
upper_operand Four = operand.Register 2 0

-- the count of a shift
abbrev pub count_of : Count → Operand
count_of (count.Imm n) = operand.Constant n
count_of count.Cl = operand.Register 1 0

-- ---- one operand is computed from itself, or from itself and another one
abbrev pub update_ops : Width → Rm → List Op → List Op
update_ops w to core = target_ops to ++ (read_ops 1 w (target w to) ++ (core ++ write_ops 4 w (target w to)))

-- a register is computed from what is read
abbrev pub combine_ops : Width → Reg → List Op → List Op → List Op
combine_ops w to reads core = reads ++ (core ++ write_ops 4 w (field_operand w to))

-- two operands are the same part of one register
abbrev pub is_same_operand : Operand → Operand → Bool
is_same_operand (operand.Register p i) (operand.Register q j) = p == q && i == j
is_same_operand _ _ = false

-- the target and the source are one register, or one byte of it
abbrev pub is_same : Width → Rm → Src → Bool
is_same w (rm.Reg r) (src.Reg q) = is_same_operand (field_operand w r) (field_operand w q)
is_same w _ _ = false

-- What is read: 0 twice where SBB, SUB, XOR or CMP has one register as both operands, since they come to the same whatever is in it. What
-- is written: by CMP nothing.
abbrev pub alu_reads_ops : AluOp → Width → Rm → Src → List Op
alu_reads_ops op w to from =
    cond (cancels op && is_same w to from) (read_ops 1 w (operand.Constant 0) ++ read_ops 2 w (operand.Constant 0)) (read_ops 1 w (target w to) ++ source_ops 2 w from)

abbrev pub alu_writes_ops : AluOp → Width → Rm → List Op
alu_writes_ops alu.Cmp w to = []
alu_writes_ops _ w to = write_ops 4 w (target w to)

-- ---- products and divisions
abbrev pub both_writes : Width → List Op
both_writes w = write_ops 4 w accumulator_operand ++ write_ops 5 w (upper_operand w)

-- MUL and IMUL of one operand
abbrev pub multiply_ops : Bool → Width → Rm → List Op
multiply_ops signed w from = read_ops 1 w accumulator_operand ++ (source_ops 2 w (source_of_rm from) ++ (mul_core signed w ++ both_writes w))

-- DIV and IDIV
abbrev pub divide_ops : Bool → Width → Rm → List Op
divide_ops signed w from =
    read_ops 1 w (upper_operand w) ++ (read_ops 2 w accumulator_operand ++ (source_ops 3 w (source_of_rm from) ++ (div_core signed w ++ both_writes w)))

-- SHLD and SHRD
abbrev pub double_shift_ops : Bool → Rm → Reg → Count → List Op
double_shift_ops right to from n =
    target_ops to ++ (read_ops 1 Four (target Four to) ++ (read_ops 2 Four (field_operand Four from) ++ (read_ops 3 One (count_of n) ++ (double_shift_core right ++ write_ops 4 Four (target Four to)))))

-- ---- LEA makes no access
abbrev pub lea_cut : Width → List Op
lea_cut One = to_temp 4 calc.And (temp 4) (word 0xFF) ∷ []
lea_cut Two = to_temp 4 calc.And (temp 4) (word 0xFFFF) ∷ []
lea_cut Four = []

-- ---- the stack: esp is 4, ebp is 5
-- temporary 4 is pushed
abbrev pub push_ops : List Op
push_ops = to_reg 4 calc.Sub (reg 4) (word 4) ∷ op.Store 4 (reg 4) (temp 4) ∷ []

-- a return address is pushed
abbrev pub call_ops : ℕ → List Op
call_ops next = to_reg 4 calc.Sub (reg 4) (word 4) ∷ op.Store 4 (reg 4) (word next) ∷ []

-- the word at esp goes to temporary 4, and esp rises by so many bytes
abbrev pub pop_ops : ℕ → List Op
pop_ops n = op.Load (var.Temp 4) 4 (reg 4) ∷ to_reg 4 calc.Add (reg 4) (word n) ∷ []

abbrev pub leave_ops : List Op
leave_ops = op.Load (var.Temp 4) 4 (reg 5) ∷ to_reg 4 calc.Add (reg 5) (word 4) ∷ op.Set (var.Reg 5) (temp 4) ∷ []

-- ---- CBW, CWDE; a byte isn't extended to itself
abbrev pub extend_ops : Width → List Op
extend_ops One = set_temp 4 (word 0) ∷ write_ops 4 One accumulator_operand
extend_ops Two = read_ops 1 One accumulator_operand ++ (extend_core Two One ++ write_ops 4 Two accumulator_operand)
extend_ops Four = read_ops 1 Two accumulator_operand ++ (extend_core Four Two ++ write_ops 4 Four accumulator_operand)

-- ---- strings: esi is 6, edi is 7, ecx is 1. With a repeat a list is one iteration.
abbrev pub counted_ops : Bool → List Op
counted_ops false = []
counted_ops true = to_reg 1 calc.Sub (reg 1) (word 1) ∷ []

-- from where esi is to where edi is
abbrev pub movs_ops : Width → Bool → List Op
movs_ops w repeat =
    op.Load (var.Temp 4) (size_of w) (reg 6) ∷ op.Store (size_of w) (reg 7) (temp 4)
    ∷ to_reg 6 calc.Add (reg 6) (word (size_of w)) ∷ to_reg 7 calc.Add (reg 7) (word (size_of w)) ∷ counted_ops repeat

-- from AL, AX or EAX
abbrev pub stos_ops : Width → Bool → List Op
stos_ops w repeat = read_ops 4 w accumulator_operand ++ (op.Store (size_of w) (reg 7) (temp 4) ∷ to_reg 7 calc.Add (reg 7) (word (size_of w)) ∷ counted_ops repeat)

-- ---- the list of each instruction, by its address and its length
unfoldable pub lift_of : Instr → ℕ → ℕ → List Op
lift_of (instr.Alu op w to from) at len = target_ops to ++ (alu_reads_ops op w to from ++ (alu_core op w ++ alu_writes_ops op w to))
lift_of (instr.Test w to from) at len = target_ops to ++ (read_ops 1 w (target w to) ++ (source_ops 2 w from ++ test_core w))
lift_of (instr.Mov w to from) at len = target_ops to ++ (source_ops 4 w from ++ write_ops 4 w (target w to))
lift_of (instr.Lea w to a) at len = address_ops 4 a ++ (lea_cut w ++ write_ops 4 w (field_operand w to))
lift_of (instr.Inc w to) at len = update_ops w to (inc_core w)
lift_of (instr.Dec w to) at len = update_ops w to (dec_core w)
lift_of (instr.Not w to) at len = update_ops w to (not_core w)
lift_of (instr.Neg w to) at len = update_ops w to (neg_core w)
lift_of (instr.Mul w from) at len = multiply_ops false w from
lift_of (instr.ImulWide w from) at len = multiply_ops true w from
lift_of (instr.Div w from) at len = divide_ops false w from
lift_of (instr.Idiv w from) at len = divide_ops true w from
lift_of (instr.Imul w to from) at len = combine_ops w to (read_ops 1 w (field_operand w to) ++ source_ops 2 w (source_of_rm from)) (imul_core w)
lift_of (instr.ImulBy w to from by) at len = combine_ops w to (source_ops 1 w (source_of_rm from) ++ read_ops 2 w (operand.Constant by)) (imul_core w)
lift_of (instr.Shift op w to n) at len = target_ops to ++ (read_ops 1 w (target w to) ++ (read_ops 2 One (count_of n) ++ (shift_core op w ++ write_ops 4 w (target w to))))
lift_of (instr.Shld to from n) at len = double_shift_ops false to from n
lift_of (instr.Shrd to from n) at len = double_shift_ops true to from n
lift_of (instr.Push from) at len = source_ops 4 Four from ++ push_ops
lift_of (instr.Pop to) at len = pop_ops 4 ++ (target_ops to ++ write_ops 4 Four (target Four to))
lift_of (instr.Xchg w to from) at len =
    target_ops to ++ (read_ops 5 w (target w to) ++ (read_ops 4 w (field_operand w from) ++ (write_ops 4 w (target w to) ++ write_ops 5 w (field_operand w from))))
lift_of (instr.Movzx wide w to from) at len = combine_ops wide to (source_ops 4 w (source_of_rm from)) (cut_core wide w)
lift_of (instr.Movsx wide w to from) at len = combine_ops wide to (source_ops 1 w (source_of_rm from)) (extend_core wide w)
lift_of (instr.Cmov c w to from) at len = combine_ops w to (read_ops 1 w (field_operand w to) ++ source_ops 2 w (source_of_rm from)) (cmov_core c w)
lift_of (instr.Setcc c to) at len = target_ops to ++ (set_core c ++ write_ops 4 One (target One to))
lift_of (instr.Extend w) at len = extend_ops w
lift_of (instr.Spread w) at len = read_ops 1 w accumulator_operand ++ (spread_core w ++ write_ops 4 w (operand.Register 2 0))
lift_of (instr.Bsf w to from) at len = combine_ops w to (source_ops 1 w (source_of_rm from)) (scan_core false w)
lift_of (instr.Bsr w to from) at len = combine_ops w to (source_ops 1 w (source_of_rm from)) (scan_core true w)
lift_of (instr.Bswap to) at len = combine_ops Four to (read_ops 1 Four (field_operand Four to)) swap_core
lift_of (instr.Movs w repeat) at len = movs_ops w repeat
lift_of (instr.Stos w repeat) at len = stos_ops w repeat
lift_of (instr.Jmp by) at len = []
lift_of (instr.JmpTo to) at len = source_ops 4 Four (source_of_rm to)
lift_of (instr.CallTo to) at len = source_ops 4 Four (source_of_rm to) ++ call_ops (wrapped (at + len))
lift_of (instr.Jcc c by) at len = condition_ops c
lift_of (instr.Call by) at len = call_ops (wrapped (at + len))
lift_of (instr.Ret drop) at len = pop_ops (4 + drop)
lift_of instr.Leave at len = leave_ops
lift_of instr.Int80 at len = op.System ∷ []
lift_of instr.Cld at len = []
lift_of instr.Nop at len = []

-- ---- its way. A repeat goes to its own address after each iteration, and from there on where the count is 0.
abbrev pub string_way : Bool → ℕ → ℕ → Way
string_way false at next = way.On next
string_way true at next = way.Repeat (reg 1) (word 1) at next

unfoldable pub way_of : Instr → ℕ → ℕ → Way
way_of (instr.Alu op w to from) at len = way.On (wrapped (at + len))
way_of (instr.Test w to from) at len = way.On (wrapped (at + len))
way_of (instr.Mov w to from) at len = way.On (wrapped (at + len))
way_of (instr.Lea w to a) at len = way.On (wrapped (at + len))
way_of (instr.Inc w to) at len = way.On (wrapped (at + len))
way_of (instr.Dec w to) at len = way.On (wrapped (at + len))
way_of (instr.Not w to) at len = way.On (wrapped (at + len))
way_of (instr.Neg w to) at len = way.On (wrapped (at + len))
way_of (instr.Mul w from) at len = way.On (wrapped (at + len))
way_of (instr.ImulWide w from) at len = way.On (wrapped (at + len))
way_of (instr.Div w from) at len = way.On (wrapped (at + len))
way_of (instr.Idiv w from) at len = way.On (wrapped (at + len))
way_of (instr.Imul w to from) at len = way.On (wrapped (at + len))
way_of (instr.ImulBy w to from by) at len = way.On (wrapped (at + len))
way_of (instr.Shift op w to n) at len = way.On (wrapped (at + len))
way_of (instr.Shld to from n) at len = way.On (wrapped (at + len))
way_of (instr.Shrd to from n) at len = way.On (wrapped (at + len))
way_of (instr.Push from) at len = way.On (wrapped (at + len))
way_of (instr.Pop to) at len = way.On (wrapped (at + len))
way_of (instr.Xchg w to from) at len = way.On (wrapped (at + len))
way_of (instr.Movzx wide w to from) at len = way.On (wrapped (at + len))
way_of (instr.Movsx wide w to from) at len = way.On (wrapped (at + len))
way_of (instr.Cmov c w to from) at len = way.On (wrapped (at + len))
way_of (instr.Setcc c to) at len = way.On (wrapped (at + len))
way_of (instr.Extend w) at len = way.On (wrapped (at + len))
way_of (instr.Spread w) at len = way.On (wrapped (at + len))
way_of (instr.Bsf w to from) at len = way.On (wrapped (at + len))
way_of (instr.Bsr w to from) at len = way.On (wrapped (at + len))
way_of (instr.Bswap to) at len = way.On (wrapped (at + len))
way_of (instr.Movs w repeat) at len = string_way repeat at (wrapped (at + len))
way_of (instr.Stos w repeat) at len = string_way repeat at (wrapped (at + len))
way_of (instr.Jmp by) at len = way.On (wrapped (at + len + by))
way_of (instr.JmpTo to) at len = way.To (temp 4)
way_of (instr.CallTo to) at len = way.To (temp 4)
way_of (instr.Jcc c by) at len = way.Either (temp 4) (wrapped (at + len + by)) (wrapped (at + len))
way_of (instr.Call by) at len = way.On (wrapped (at + len + by))
way_of (instr.Ret drop) at len = way.Back (temp 4)
way_of instr.Leave at len = way.On (wrapped (at + len))
way_of instr.Int80 at len = way.On (wrapped (at + len))
way_of instr.Cld at len = way.On (wrapped (at + len))
way_of instr.Nop at len = way.On (wrapped (at + len))
