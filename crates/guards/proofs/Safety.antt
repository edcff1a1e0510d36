-- No access of the unit that is made reaches what the program mustn't reach.
use Rattle.std.proofs.Common.{◌≡◌, ℕ, ◌==◌, ◌&&◌, ◌||◌, Bool, true, false, not, cond, List, [], ◌∷◌, ◌++◌, All, Option, Some, None, Result, Ok, Err, refl, sym, ap, ◌∙◌, subst, arith}
use Rattle.std.specs.List.{slice_get}
use Rattle.std.proofs.lemmas.Bool.{eqb-true, eq-eqb}
use Rattle.std.proofs.lemmas.List.Elements.{All-nil, All-cons, All-contains, All-from_recursion}
use Rattle.x86_values.specs.declared.word.Word.{Word}
use Rattle.x86_values.specs.Words.{word_of, known}
use Rattle.traces.specs.Trace.{Label, End, Outside, Stopped, Move, Stand, Go, Halt}
use Rattle.traces.specs.Machines.{marked}
use Rattle.traces.specs.Moves.{HoldingState, Holds, To}
use Rattle.traces.specs.Steps.{Reaches}
use Rattle.memory.specs.Memory.{Memory, AccessKind, Load, Store, wrapped}
use Rattle.x86_meaning.specs.Operands.{Access}
use Rattle.flag_ir.specs.declared.variable.Var.{Var}
use Rattle.flag_ir.specs.declared.variable.Var.TheVariants as var
use Rattle.flag_ir.specs.declared.variable.Term.{Term}
use Rattle.flag_ir.specs.declared.variable.Term.TheVariants as term
use Rattle.flag_ir.specs.declared.operation.Op.{Op}
use Rattle.flag_ir.specs.declared.operation.Op.TheVariants as op
use Rattle.flag_ir.specs.declared.operation.Calc.TheVariants as calc
use Rattle.flag_ir.specs.declared.block.Block.{Block}
use Rattle.flag_ir.specs.declared.block.Exit.{Exit}
use Rattle.flag_ir.specs.declared.block.Exit.TheVariants as exit
use Rattle.flag_ir.specs.declared.procedure.Proc.{Proc}
use Rattle.flag_ir.specs.Calculations.{difference_of}
use Rattle.flag_ir.specs.Storage.{Frame, Storage, put_var, term_in, var_in}
use Rattle.flag_ir.specs.Operations.{and_then, needed, has_buffer, perform, performs, shown_by}
use Rattle.flag_ir.specs.Accesses.{accessed, buffer_accessed, op_accesses}
use Rattle.flag_ir.specs.Entering.{CodeUnit, Onward, before_block, blocks_of, index_of_number, index_at, procedure_at, jump, leave}
use Rattle.flag_ir.specs.UnitRun.{Point, Before, Within, Over, UnitState, state_at, performed, left_for, within, fresh, next, first_storage}
use Rattle.flag_ir.specs.MoveAccesses.{opening_loads, jump_loads, return_loads, exit_loads, within_accesses, begun_accesses, point_accesses, move_accesses}
use Rattle.flag_ir.specs.Form.{IsFrameless, IsFramelessExit, IsFramelessBlock}
use Rattle.private_memory.specs.PrivateArea.{is_private, AreElsewhere, IsApartAccess, HasPrivateArea}
use Rattle.guards.specs.Temporaries.{IsVarBelow, IsOpBelow}
use Rattle.guards.specs.Guarding.{tested, literal, guarded_load, guarded_store, guarded_system, guarded, guarded_ops, is_stop, has_loose_stop, turn_store, turn_stores, guarded_unit}
use Rattle.guards.specs.Lowering.{KeepsApart}
use Rattle.guards.specs.States.{IsLoweredStorage, point_of, AreSafe, IsSafePoint, IsSafe}
use Rattle.guards.proofs.Addresses.{tested_word, tested_stands, literal_stands}
use Rattle.guards.proofs.Keeping.{all_first, all_rest, op_keeps, ops_keep, fresh_kept}
use Rattle.guards.proofs.GuardedRuns.{var_formed, address_of, at_address, at_call, after_test, address_stands, ecx_back}
use Rattle.guards.proofs.GuardedLists.{AreOps, rest_ops}
use Rattle.guards.proofs.GuardedBlocks.{jump_is}
use Rattle.guards.proofs.SideBySide.{LawsBelow, IsAsked, among, ops_of}
use Rattle.guards.proofs.Shaping.{made_at, well_shaped}
use Rattle.guards.proofs.Starting.{place_of, first_kept, first_is}

-- ---- accesses
none_apart : (m : Memory) → All (IsApartAccess m) []
none_apart m = All-nil (IsApartAccess m)

one_apart : (m : Memory) (a : Access) → IsApartAccess m a → All (IsApartAccess m) (a ∷ [])
one_apart m a h = All-cons (IsApartAccess m) a [] h (All-nil (IsApartAccess m))

-- ---- the operations of a test
abbrev difference_op : Term → Op
difference_op at = op.Calc (var.Temp 1399997) calc.Sub at (term.Word 0x60000000)

abbrev inside_op : Op
inside_op = op.Calc (var.Temp 1399998) calc.Ltu (term.Var (var.Temp 1399997)) (term.Word 0x1C000000)

abbrev pick_op : Var → Term → Op
pick_op to at = op.Pick to (term.Var (var.Temp 1399998)) (term.Word 0) at

abbrev ecx : Term
ecx = term.Var (var.Reg 1)

abbrev with_difference : Word → Storage → Storage
with_difference w y = put_var (var.Temp 1399997) (difference_of w (word_of 0x60000000)) y

module _ (laws : LawsBelow) where
  accessed_apart : (kind : AccessKind) (size : ℕ) (m : Memory) (o : Option ℕ) → HasPrivateArea m → ((a : ℕ) → o ≡ Some a → is_private (wrapped a) ≡ false) → All (IsApartAccess m) (accessed kind size o)
  accessed_apart kind size m None has plain = none_apart m
  accessed_apart kind size m (Some a) has plain = one_apart m (record { kind = kind; at = a; size = size }) (laws.area.apart m (record { kind = kind; at = a; size = size }) has (plain a refl))

  buffer_apart : (m : Memory) (number fd at count : Option ℕ) → HasPrivateArea m → ((a : ℕ) → at ≡ Some a → is_private (wrapped a) ≡ false) → All (IsApartAccess m) (buffer_accessed number fd at count)
  buffer_apart m (Some number) (Some fd) (Some a) (Some n) has plain = by (has_buffer number fd n)
    where
      by : (b : Bool) → All (IsApartAccess m) (cond b (record { kind = cond (number == 3) Store Load; at = a; size = n } ∷ []) [])
      by true = one_apart m (record { kind = cond (number == 3) Store Load; at = a; size = n }) (laws.area.apart m (record { kind = cond (number == 3) Store Load; at = a; size = n }) has (plain a refl))
      by false = none_apart m
  buffer_apart m (Some number) (Some fd) (Some a) None has plain = none_apart m
  buffer_apart m (Some number) (Some fd) None count has plain = none_apart m
  buffer_apart m (Some number) None at count has plain = none_apart m
  buffer_apart m None fd at count has plain = none_apart m

  -- the word of the turn
  turn_elsewhere : AreElsewhere 0x75000004 4
  turn_elsewhere = record {
    code = laws.memory.apart_symmetric 0x60000000 0x15000000 0x75000004 4 (laws.memory.apart_in_order 0x60000000 0x15000000 0x75000004 4 (omega arith) (omega arith));
    names = laws.memory.apart_in_order 0x75000004 4 0x75220000 0xDE0000 (omega arith) (omega arith);
  }

  turn_apart : (kind : AccessKind) (m : Memory) → All (IsApartAccess m) (record { kind = kind; at = 0x75000004; size = 4 } ∷ [])
  turn_apart kind m = one_apart m (record { kind = kind; at = 0x75000004; size = 4 }) (record { elsewhere = λ all. turn_elsewhere })

  -- ---- lists
  module _ (t : ℕ) where
    -- an operation that accesses nothing and comes to a storage
    step_safe : (o : Op) (os : List Op) (y z : Storage) → op_accesses o y ≡ [] → perform t o y ≡ Ok z → AreSafe t os z → AreSafe t (o ∷ os) y
    step_safe o os y z none e h = (subst (All (IsApartAccess y.memory)) (sym none) (none_apart y.memory), λ w f. let same : z ≡ w = ok_is z w (sym e ∙ f) in subst (AreSafe t os) same h)
      where
        ok_is : (z w : Storage) → (let r : Result Storage End = Ok z in r) ≡ Ok w → z ≡ w
        ok_is z w g = cc

    abbrev Behind : List Op → Type 0
    Behind rest = (w : Storage) → IsLoweredStorage w → AreSafe t rest w

    kept_safe : (o : Op) (rest : List Op) (y : Storage) → IsFrameless o → IsLoweredStorage y → All (IsApartAccess y.memory) (op_accesses o y) → Behind rest → AreSafe t (o ∷ rest) y
    kept_safe o rest y f kept apart behind = (apart, λ w e. behind w (op_keeps laws.area laws.units t o y w f kept e))

    tested_runs : (x : Var) (y : Storage) → performs t (tested (var.Temp 1399999) (term.Var x)) y ≡ Ok (at_address x y)
    unfolding performs perform
    tested_runs x y = refl

    call_runs : (y : Storage) → performs t (op.Set (var.Temp 1399999) (term.Var (var.Reg 1)) ∷ tested (var.Reg 1) (term.Var (var.Reg 1))) y ≡ Ok (at_call y)
    unfolding performs perform
    call_runs y = refl

    address_kept : (x : Var) (y : Storage) → IsLoweredStorage y → IsLoweredStorage (at_address x y)
    address_kept x y kept = ops_keep laws.area laws.units t (tested (var.Temp 1399999) (term.Var x)) y (at_address x y) (All-from_recursion IsFrameless (tested (var.Temp 1399999) (term.Var x)) (tt, (tt, (tt, tt)))) kept (tested_runs x y)

    call_kept : (y : Storage) → IsLoweredStorage y → IsLoweredStorage (at_call y)
    call_kept y kept = ops_keep laws.area laws.units t (op.Set (var.Temp 1399999) (term.Var (var.Reg 1)) ∷ tested (var.Reg 1) (term.Var (var.Reg 1))) y (at_call y) (All-from_recursion IsFrameless (op.Set (var.Temp 1399999) (term.Var (var.Reg 1)) ∷ tested (var.Reg 1) (term.Var (var.Reg 1))) (tt, (tt, (tt, (tt, tt))))) kept (call_runs y)

    -- the three operations before an access
    tested_safe : (x : Var) (os : List Op) (y : Storage) → AreSafe t os (at_address x y) → AreSafe t (tested (var.Temp 1399999) (term.Var x) ++ os) y
    unfolding perform
    tested_safe x os y h =
        step_safe (difference_op (term.Var x)) (inside_op ∷ pick_op (var.Temp 1399999) (term.Var x) ∷ os) y (with_difference (var_in x y) y) refl refl
        (step_safe inside_op (pick_op (var.Temp 1399999) (term.Var x) ∷ os) (with_difference (var_in x y) y) (after_test (var_in x y) y) refl refl
        (step_safe (pick_op (var.Temp 1399999) (term.Var x)) os (after_test (var_in x y) y) (at_address x y) refl refl h))

    load_safe : (to : Var) (size : ℕ) (x : Var) (rest : List Op) (y : Storage) → IsVarBelow 1399997 x → IsLoweredStorage y → Behind rest → AreSafe t (guarded_load to size (term.Var x) ++ rest) y
    load_safe to size x rest y b kept behind =
        tested_safe x (op.Load to size (term.Var (var.Temp 1399999)) ∷ rest) y
        (kept_safe (op.Load to size (term.Var (var.Temp 1399999))) rest (at_address x y) tt (address_kept x y kept) (accessed_apart Load size y.memory (known (address_of x y)) kept.area (address_stands laws.words x y kept.no_frame kept.formed b).plain) behind)

    store_safe : (size : ℕ) (x : Var) (from : Term) (rest : List Op) (y : Storage) → IsVarBelow 1399997 x → IsLoweredStorage y → Behind rest → AreSafe t (guarded_store size (term.Var x) from ++ rest) y
    store_safe size x from rest y b kept behind =
        tested_safe x (op.Store size (term.Var (var.Temp 1399999)) from ∷ rest) y
        (kept_safe (op.Store size (term.Var (var.Temp 1399999)) from) rest (at_address x y) tt (address_kept x y kept) (accessed_apart Store size y.memory (known (address_of x y)) kept.area (address_stands laws.words x y kept.no_frame kept.formed b).plain) behind)

    abbrev saved : Storage → Storage
    saved y = put_var (var.Temp 1399999) (y.regs 1) y

    system_safe : (rest : List Op) (y : Storage) → IsLoweredStorage y → Behind rest → AreSafe t (guarded_system ++ rest) y
    unfolding perform
    system_safe rest y kept behind =
        step_safe (op.Set (var.Temp 1399999) ecx) (difference_op ecx ∷ inside_op ∷ pick_op (var.Reg 1) ecx ∷ op.System ∷ ecx_back ++ rest) y (saved y) refl refl
        (step_safe (difference_op ecx) (inside_op ∷ pick_op (var.Reg 1) ecx ∷ op.System ∷ ecx_back ++ rest) (saved y) (with_difference (y.regs 1) (saved y)) refl refl
        (step_safe inside_op (pick_op (var.Reg 1) ecx ∷ op.System ∷ ecx_back ++ rest) (with_difference (y.regs 1) (saved y)) (after_test (y.regs 1) (saved y)) refl refl
        (step_safe (pick_op (var.Reg 1) ecx) (op.System ∷ ecx_back ++ rest) (after_test (y.regs 1) (saved y)) (at_call y) refl refl
        (kept_safe op.System (ecx_back ++ rest) (at_call y) tt (call_kept y kept)
        (buffer_apart y.memory (known (y.regs 0)) (known (y.regs 3)) (known (tested_word (y.regs 1))) (known (y.regs 2)) kept.area (tested_stands laws.words (y.regs 1) (var_formed (var.Reg 1) y kept.no_frame kept.formed)).plain)
        (λ w k. kept_safe (op.Set (var.Reg 1) (term.Var (var.Temp 1399999))) rest w tt k (none_apart w.memory) behind)))))

    quiet_safe : (o : Op) (rest : List Op) (y : Storage) → IsFrameless o → op_accesses o y ≡ [] → IsLoweredStorage y → Behind rest → AreSafe t (o ∷ rest) y
    quiet_safe o rest y f none kept behind = kept_safe o rest y f kept (subst (All (IsApartAccess y.memory)) (sym none) (none_apart y.memory)) behind

    op_safe : (o : Op) (rest : List Op) (y : Storage) → IsFrameless o → IsOpBelow 1399997 o → IsLoweredStorage y → Behind rest → AreSafe t (guarded o ++ rest) y
    op_safe (op.Load to size (term.Var x)) rest y f b kept behind = load_safe to size x rest y b.1 kept behind
    op_safe (op.Load to size (term.Word n)) rest y f b kept behind = kept_safe (op.Load to size (literal n)) rest y tt kept (accessed_apart Load size y.memory (known (term_in (literal n) y)) kept.area (literal_stands n y).plain) behind
    op_safe (op.Store size (term.Var x) from) rest y f b kept behind = store_safe size x from rest y b.0 kept behind
    op_safe (op.Store size (term.Word n) from) rest y f b kept behind = kept_safe (op.Store size (literal n) from) rest y tt kept (accessed_apart Store size y.memory (known (term_in (literal n) y)) kept.area (literal_stands n y).plain) behind
    op_safe op.System rest y f b kept behind = system_safe rest y kept behind
    op_safe (op.Set to from) rest y f b kept behind = quiet_safe (op.Set to from) rest y tt refl kept behind
    op_safe (op.Calc to c left right) rest y f b kept behind = quiet_safe (op.Calc to c left right) rest y tt refl kept behind
    op_safe (op.Forget to) rest y f b kept behind = quiet_safe (op.Forget to) rest y tt refl kept behind
    op_safe (op.Pick to test p q) rest y f b kept behind = quiet_safe (op.Pick to test p q) rest y tt refl kept behind
    op_safe (op.Need from) rest y f b kept behind = quiet_safe (op.Need from) rest y tt refl kept behind
    op_safe (op.Divide q r high low by size signed) rest y f b kept behind = quiet_safe (op.Divide q r high low by size signed) rest y tt refl kept behind
    op_safe (op.NearLoad to size at) rest y f b kept behind = absurd f
    op_safe (op.NearStore size at from) rest y f b kept behind = absurd f
    op_safe (op.Get to size offset) rest y f b kept behind = absurd f
    op_safe (op.Put size offset from) rest y f b kept behind = absurd f
    op_safe op.NearSystem rest y f b kept behind = absurd f

    ops_safe : (ops : List Op) (y : Storage) → AreOps ops → IsLoweredStorage y → AreSafe t (guarded_ops ops) y
    ops_safe [] y asked kept = tt
    ops_safe (o ∷ os) y asked kept = op_safe o (guarded_ops os) y (all_first IsFrameless o os asked.frameless) (all_first (IsOpBelow 1399997) o os asked.below) kept (λ w k. ops_safe os w (rest_ops o os asked) k)

    store_accesses : (at : ℕ) (y : Storage) → All (IsApartAccess y.memory) (op_accesses (turn_store at) y)
    unfolding known word_of
    store_accesses at y = turn_apart Store y.memory

    block_safe : (loose : Bool) (at : ℕ) (e : Exit) (ops : List Op) (y : Storage) → AreOps ops → IsLoweredStorage y → AreSafe t (turn_stores loose at e ++ guarded_ops ops) y
    block_safe loose at e ops y asked kept = by (not (at == 0) && (loose || is_stop e))
      where
        by : (b : Bool) → AreSafe t (cond b (turn_store at ∷ []) [] ++ guarded_ops ops) y
        by true = kept_safe (turn_store at) (guarded_ops ops) y tt kept (store_accesses at y) (λ w k. ops_safe ops w asked k)
        by false = ops_safe ops y asked kept

  -- ---- the states of the unit that is made
  module _ (u : CodeUnit) (asked : IsAsked u) where
    abbrev v : CodeUnit
    v = guarded_unit u

    made_safe : (t k : ℕ) (c : Block) (y : Storage) → slice_get v.whole k ≡ Some c → IsLoweredStorage y → AreSafe t c.ops (fresh y)
    made_safe t k c y e kept =
        let m = made_at (has_loose_stop u.whole) u.whole k c e in
        subst (λ (d : Block). AreSafe t d.ops (fresh y)) m.makes (block_safe t (has_loose_stop u.whole) m.of.at m.of.exit m.of.ops (fresh y) (ops_of laws u asked k m.of m.there) (fresh_kept y kept))

    made_frameless : (k : ℕ) (c : Block) → slice_get v.whole k ≡ Some c → IsFramelessBlock c
    made_frameless k c e = All-contains IsFramelessBlock v.whole c (well_shaped u asked).whole (among v.whole k c e)

    whole_there : (y : Storage) (k : ℕ) (o : Option Block) → y.frames ≡ [] → slice_get (blocks_of v y.frames) k ≡ o → slice_get v.whole k ≡ o
    whole_there y k o none e = sym (ap (λ frames. slice_get (blocks_of v frames) k) none) ∙ e

    -- ---- what they access
    no_procedure : (o : Option Proc) (y : Storage) → o ≡ None → opening_loads o y ≡ []
    no_procedure None y e = refl
    no_procedure (Some p) y e = absurd cc

    procedure_none : (a : ℕ) → procedure_at a [] ≡ None
    unfolding procedure_at
    procedure_none a = elim (a == 0) as (λ z. cond z (let o : Option Proc = None in o) None ≡ None) [ true ↦ refl | false ↦ refl ]

    jumps_load : (o : Option ℕ) (y : Storage) → jump_loads v o y ≡ []
    jumps_load None y = refl
    jumps_load (Some a) y = no_procedure (procedure_at a []) y (procedure_none a)

    exit_apart : (e : Exit) (y : Storage) → IsLoweredStorage y → All (IsApartAccess y.memory) (exit_loads v e y)
    exit_apart (exit.Go n) y kept = none_apart y.memory
    exit_apart (exit.Branch test m n) y kept = none_apart y.memory
    exit_apart (exit.Jump to) y kept = subst (All (IsApartAccess y.memory)) (sym (jumps_load (known (term_in to y)) y)) (none_apart y.memory)
    exit_apart (exit.CallProc entry back) y kept = subst (All (IsApartAccess y.memory)) (sym (no_procedure (procedure_at entry []) y (procedure_none entry))) (none_apart y.memory)
    exit_apart exit.Return y kept = subst (λ (fs : List Frame). All (IsApartAccess y.memory) (return_loads v fs y)) (sym kept.no_frame) (none_apart y.memory)
    exit_apart exit.Fault y kept = none_apart y.memory
    exit_apart exit.Stop y kept = turn_apart Load y.memory

    within_apart : (t : ℕ) (ops : List Op) (e : Exit) (y : Storage) → IsLoweredStorage y → AreSafe t ops y → All (IsApartAccess y.memory) (within_accesses v ops e y)
    within_apart t [] e y kept safe = exit_apart e y kept
    within_apart t (o ∷ ops) e y kept safe = safe.0

    before_apart : (k : ℕ) (y : Storage) → IsLoweredStorage y → (o : Option Block) → slice_get (blocks_of v y.frames) k ≡ o → All (IsApartAccess y.memory) (begun_accesses v o y)
    before_apart k y kept None e = none_apart y.memory
    before_apart k y kept (Some c) e = within_apart 0 c.ops c.exit (fresh y) (fresh_kept y kept) (made_safe 0 k c y (whole_there y k (Some c) kept.no_frame e) kept)

    point_apart : (t : ℕ) (p : Point) (y : Storage) → IsLoweredStorage y → IsSafePoint t p y → All (IsApartAccess y.memory) (point_accesses v p y)
    point_apart t (Before k) y kept safe = before_apart k y kept (slice_get (blocks_of v y.frames) k) refl
    point_apart t (Within ops e) y kept safe = within_apart t ops e y kept safe.0
    point_apart t (Over e) y kept safe = none_apart y.memory

    state_apart : (s : UnitState) → IsSafe s → All (IsApartAccess s.storage.memory) (move_accesses v s)
    state_apart s safe = point_apart s.turn s.point s.storage safe.kept safe.point

    -- ---- they go on to such states
    abbrev ToSafe : Move UnitState → Type 0
    ToSafe m = To (Holds {S = UnitState} {I = HoldingState IsSafe} (λ i. i.state)) m

    holds : (s : UnitState) → IsSafe s → Holds {S = UnitState} {I = HoldingState IsSafe} (λ i. i.state) s
    holds s safe = (record { state = s; holds = safe }, refl)

    abbrev IsSameOnward : Storage → Onward → Type 0
    IsSameOnward y (Ok p) = p.1 ≡ y
    IsSameOnward y (Err e) = Unit {0}

    before_same : (y : Storage) (o : Option ℕ) (e : End) → IsSameOnward y (before_block o e y)
    before_same y None e = tt
    before_same y (Some k) e = refl

    needed_same : (y : Storage) (o : Option ℕ) (f : ℕ → Onward) → ((a : ℕ) → IsSameOnward y (f a)) → IsSameOnward y (and_then (needed o) f)
    needed_same y None f h = tt
    needed_same y (Some a) f h = h a

    stop_same : (y : Storage) (o : Option ℕ) → IsSameOnward y (and_then (needed o) (λ a. let r : Onward = Err (Stopped a) in r))
    stop_same y None = tt
    stop_same y (Some a) = tt

    leave_same : (t : ℕ) (e : Exit) (y : Storage) → IsFramelessExit e → IsLoweredStorage y → IsSameOnward y (leave v t e y)
    unfolding leave
    leave_same t (exit.Go n) y f kept = before_same y (index_of_number n (blocks_of v y.frames)) Outside
    leave_same t (exit.Branch test m n) y f kept = needed_same y (known (term_in test y)) _ (λ a. before_same y (index_of_number (cond (a == 0) n m) (blocks_of v y.frames)) Outside)
    leave_same t (exit.Jump to) y f kept = needed_same y (known (term_in to y)) (λ a. jump v a y) (λ a. subst (IsSameOnward y) (sym (jump_is v refl a y kept.no_frame)) (before_same y (index_at a v.whole) (Stopped a)))
    leave_same t (exit.CallProc entry back) y f kept = absurd f
    leave_same t exit.Return y f kept = absurd f
    leave_same t exit.Fault y f kept = tt
    leave_same t exit.Stop y f kept = stop_same y _

    left_safe : (t : ℕ) (o : Onward) (y : Storage) → IsLoweredStorage y → IsSameOnward y o → ToSafe (left_for t o)
    left_safe t (Ok p) y kept same = holds (state_at t (Before p.0) p.1) (record { kept = subst IsLoweredStorage (sym same) kept; point = tt })
    left_safe t (Err e) y kept same = tt

    performed_safe : (t : ℕ) (o : Op) (ops : List Op) (e : Exit) (y : Storage) (ls : List Label) → IsLoweredStorage y → AreSafe t (o ∷ ops) y → All IsFrameless (o ∷ ops) → IsFramelessExit e → (r : Result Storage End) → perform t o y ≡ r → ToSafe (performed t ls r ops e)
    performed_safe t o ops e y ls kept safe f g (Ok w) is = holds (state_at t (Within ops e) w) (record { kept = op_keeps laws.area laws.units t o y w (all_first IsFrameless o ops f) kept is; point = (safe.1 w is, all_rest IsFrameless o ops f, g) })
    performed_safe t o ops e y ls kept safe f g (Err d) is = tt

    within_safe : (t : ℕ) (ops : List Op) (e : Exit) (y : Storage) → IsLoweredStorage y → AreSafe t ops y → All IsFrameless ops → IsFramelessExit e → ToSafe (within v t ops e y)
    within_safe t [] e y kept safe f g = left_safe t (leave v t e y) y kept (leave_same t e y g kept)
    within_safe t (o ∷ ops) e y kept safe f g = performed_safe t o ops e y (shown_by o y) kept safe f g (perform t o y) refl

    marked_safe : (a : ℕ) (m : Move UnitState) → ToSafe m → ToSafe (marked a m)
    marked_safe a (Stand ls e) h = h
    marked_safe a (Go ls s) h = h
    marked_safe a (Halt ls e) h = h

    block_goes_safe : (t k : ℕ) (y : Storage) (c : Block) → IsLoweredStorage y → slice_get (blocks_of v y.frames) k ≡ Some c → ToSafe (next v (state_at t (Before k) y))
    block_goes_safe t k y c kept there = by (c.at == 0) refl
      where
        f : IsFramelessBlock c
        f = made_frameless k c (whole_there y k (Some c) kept.no_frame there)

        inner : (turn : ℕ) → ToSafe (within v turn c.ops c.exit (fresh y))
        inner turn = within_safe turn c.ops c.exit (fresh y) (fresh_kept y kept) (made_safe turn k c y (whole_there y k (Some c) kept.no_frame there) kept) f.ops f.exit

        by : (z : Bool) → (c.at == 0) ≡ z → ToSafe (next v (state_at t (Before k) y))
        by true e = subst ToSafe (sym (laws.units.moves.goes_on v t k c y there (eqb-true c.at 0 e))) (inner t)
        by false e = subst ToSafe (sym (laws.units.moves.begins v t k c y there (λ none. let both : true ≡ false = sym (eq-eqb c.at 0 none) ∙ e in absurd cc))) (marked_safe c.at (within v c.at c.ops c.exit (fresh y)) (inner c.at))

    index_safe : (t k : ℕ) (y : Storage) → IsLoweredStorage y → (o : Option Block) → slice_get (blocks_of v y.frames) k ≡ o → ToSafe (next v (state_at t (Before k) y))
    index_safe t k y kept None e = subst ToSafe (sym (laws.units.moves.no_block v t k y e)) tt
    index_safe t k y kept (Some c) e = block_goes_safe t k y c kept e

    point_safe : (t : ℕ) (p : Point) (y : Storage) → IsLoweredStorage y → IsSafePoint t p y → ToSafe (next v (state_at t p y))
    point_safe t (Before k) y kept safe = index_safe t k y kept (slice_get (blocks_of v y.frames) k) refl
    point_safe t (Within ops e) y kept safe = subst ToSafe (sym (laws.units.moves.by_within v t ops e y)) (within_safe t ops e y kept safe.0 safe.1 safe.2)
    point_safe t (Over e) y kept safe = subst ToSafe (sym (laws.units.moves.over v t e y)) tt

    is_kept : (i : HoldingState IsSafe) → ToSafe (next v i.state)
    is_kept i = point_safe i.state.turn i.state.point i.state.storage i.holds.kept i.holds.point

    -- ---- from the start on
    first_point : (o : Option ℕ) (entry : ℕ) (y : Storage) → IsSafePoint 0 (point_of (place_of o entry)) y
    unfolding place_of
    first_point None entry y = tt
    first_point (Some k) entry y = tt

    pub keeps_apart : KeepsApart (guarded_unit u)
    keeps_apart m entry esp0 stack env bytes is_usual start environment n ls t reached =
        let s = state_at 0 (point_of (place_of (index_at entry v.whole) entry)) (first_storage m esp0 stack env) in
        let safe : IsSafe s = record { kept = first_kept laws m esp0 stack env bytes is_usual start environment; point = first_point (index_at entry v.whole) entry (first_storage m esp0 stack env) } in
        let from : Reaches (next v) s n ls t = subst (λ c. Reaches (next v) c n ls t) (first_is laws v refl m entry esp0 stack env) reached in
        let held : Holds {S = UnitState} {I = HoldingState IsSafe} (λ i. i.state) t = laws.invariants.holds_reached (next v) (λ i. i.state) is_kept (record { state = s; holds = safe }) n ls t from in
        state_apart t (subst IsSafe held.1 held.0.holds)
