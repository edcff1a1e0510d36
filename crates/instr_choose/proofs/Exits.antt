-- Each exit is met by its list.
use Rattle.std.proofs.Common.{◌≡◌, ◌≢◌, ℕ, ◌≤◌, ◌==◌, ◌&&◌, Bool, true, false, not, cond, List, [], ◌∷◌, ◌++◌, map, find, length, Option, Some, None, Ok, Err, refl, sym, ap, ◌∙◌, subst, arith}
use Rattle.std.proofs.lemmas.Bool.{le-ltb}
use Rattle.x86_values.specs.Words.{word_of, known, padded}
use Rattle.x86_values.specs.Sizes.{no_word}
use Rattle.x86_values.specs.Sums.{sub}
use Rattle.x86_values.specs.Conditions.{condition}
use Rattle.x86_values.specs.LessSpecified.{WordLessSpecified}
use Rattle.x86_types.specs.declared.operand.Reg.TheVariants.{Eax}
use Rattle.x86_types.specs.declared.operand.Rm.TheVariants as rm
use Rattle.x86_types.specs.declared.operation.AluOp.TheVariants as alu
use Rattle.x86_types.specs.declared.operation.Cond.TheVariants as condition_of
use Rattle.x86_types.specs.declared.width.Width.TheVariants.{Four}
use Rattle.x86_types.specs.declared.instr.Instr.TheVariants as instr
use Rattle.traces.specs.Trace.{MemoryFault, Outside, Unspecified, Stopped, Move, Stand, Go, Halt, before}
use Rattle.traces.specs.Agree.{outside}
use Rattle.traces.specs.Steps.{Reaches, rests}
use Rattle.traces.specs.RunLaws.{RunLaws}
use Rattle.memory.specs.Memory.{Place, Memory, Load, allows, allows_all, kind_of, bytes_at}
use Rattle.x86_meaning.specs.Outcomes.{jump_computed, goes_to}
use Rattle.x86_meaning.specs.Effect.{accesses, effect, effect_of}
use Rattle.x86_meaning.specs.Transfers.{transfer}
use Rattle.x86_meaning.specs.Computing.{compute}
use Rattle.flag_ir.specs.declared.variable.Term.{Term}
use Rattle.flag_ir.specs.declared.variable.Term.TheVariants as term
use Rattle.flag_ir.specs.declared.block.Exit.{Exit}
use Rattle.flag_ir.specs.declared.block.Exit.TheVariants as exit
use Rattle.flag_ir.specs.declared.procedure.Proc.{Proc}
use Rattle.flag_ir.specs.Storage.{Frame, Storage, var_in, term_in}
use Rattle.flag_ir.specs.Operations.{and_then, needed}
use Rattle.flag_ir.specs.Entering.{CodeUnit, Onward, before_block, blocks_of, index_of_number, index_at, procedure_at, jump, jump_by, jump_with, stop_at, leave}
use Rattle.flag_ir.specs.UnitRun.{Before}
use Rattle.flag_ir.specs.Form.{IsTerm, IsExit, IsFramelessExit}
use Rattle.named_code.specs.declared.slot.Slot.TheVariants.{Fixed}
use Rattle.named_code.specs.Items.{Item, named_item}
use Rattle.named_code.specs.Running.{CodeState, CodePoint, AtNumber, AtOld, Inside, CodePosition, standing_at, lost, names_alone, by_loads, act, Marks}
use Rattle.instr_choose.specs.Lists.{made, put, alu_by, load_by}
use Rattle.instr_choose.specs.Blocks.{choose_exit}
use Rattle.instr_choose.specs.Relation.{place_of_var, IsBelow, PassesList, done, more}
use Rattle.instr_choose.specs.States.{LeadsTo, HasNoZero}
use Rattle.instr_choose.proofs.Accesses.{load_is, after_load}
use Rattle.instr_choose.proofs.Items.{with_place, with_flags, term_at, put_is, alu_is}
use Rattle.instr_choose.proofs.Below.{here, scratch, flagged}
use Rattle.instr_choose.proofs.Naming.{code_blocks, number_missing, address_missing}
use Rattle.instr_choose.proofs.Choosing.{LawsBelow, value_below}
use Rattle.instr_choose.proofs.Comparing.{not_zero_says}
use Rattle.instr_choose.proofs.Beginnings.{RunEnds, reach_ends}
use Rattle.instr_choose.proofs.CodeBlocks.{machine, within, inside_is, passes_reach, no_block}

-- ---- the instructions of exits
pub jump_is : (n : ℕ) (rest : List Item) (s : CodeState) → act (named_item (made (instr.Jmp n) [])) rest s ≡ Go [] (standing_at (AtNumber n) s)
unfolding act accesses effect transfer compute
jump_is n rest s = refl

pub nothing_is : (rest : List Item) (s : CodeState) → act (named_item (made instr.Nop [])) rest s ≡ Go [] (standing_at (Inside rest) s)
unfolding act accesses effect transfer compute
nothing_is rest s = refl

abbrev pub after_branch : Option Bool → ℕ → List Item → CodeState → Move CodePosition
after_branch None n rest s = Halt [] Unspecified
after_branch (Some true) n rest s = Go [] (standing_at (AtNumber n) s)
after_branch (Some false) n rest s = Go [] (standing_at (Inside rest) s)

branched : (o : Option Bool) (n : ℕ) (x : Item) (rest : List Item) (s : CodeState) → by_loads true true (effect_of [] s.cpu.regs (jump_computed o n s.cpu.flags)) x rest s ≡ after_branch o n rest s
branched None n x rest s = refl
branched (Some true) n x rest s = refl
branched (Some false) n x rest s = refl

pub branch_is : (n : ℕ) (rest : List Item) (s : CodeState) → act (named_item (made (instr.Jcc condition_of.Ne n) [])) rest s ≡ after_branch (condition condition_of.Ne s.cpu.flags) n rest s
unfolding act accesses effect transfer compute
branch_is n rest s = branched (condition condition_of.Ne s.cpu.flags) n (named_item (made (instr.Jcc condition_of.Ne n) [])) rest s

abbrev pub after_old : Option ℕ → CodeState → Move CodePosition
after_old None s = Halt [] Unspecified
after_old (Some a) s = Go [] (standing_at (AtOld a) (lost s))

led : (o : Option ℕ) (x : Item) (rest : List Item) (s : CodeState) → by_loads true true (effect_of [] s.cpu.regs (goes_to [] o s.cpu.flags)) x rest s ≡ after_old o s
led None x rest s = refl
led (Some a) x rest s = refl

pub old_is : (rest : List Item) (s : CodeState) → act (named_item (made (instr.JmpTo (rm.Reg Eax)) (Fixed Eax ∷ []))) rest s ≡ after_old (known (s.cpu.regs 0)) s
unfolding act accesses effect transfer compute
old_is rest s = led (known (s.cpu.regs 0)) (named_item (made (instr.JmpTo (rm.Reg Eax)) (Fixed Eax ∷ []))) rest s

-- ---- names stay at a jump to an old address
pub lost_below : (u : Storage) (s : CodeState) → IsBelow u s → IsBelow u (lost s)
lost_below u s h = record {
  vars = λ v i. subst (WordLessSpecified (var_in v u)) (sym (stays (place_of_var v) (omega arith))) (h.vars v i);
  memory = h.memory;
  left = h.left;
  environment = h.environment;
  frames = h.frames;
}
  where
    stays : (p : ℕ) → 8 ≤ p → names_alone s.cpu.regs p ≡ s.cpu.regs p
    stays p l = ap (λ b. cond (b && not (p == 4)) no_word (s.cpu.regs p)) (le-ltb p 8 l)

-- ---- address 0
refused : (m : Memory) → HasNoZero m → allows_all Load m 0 4 ≡ false
unfolding allows_all
refused m h = by (m 0) h
  where
    by : (o : Option Place) → kind_of o ≡ None → (allows Load o && allows_all Load m 1 3) ≡ false
    by None e = refl
    by (Some p) e = absurd cc

-- ---- a jump to an old address of a unit without procedures
no_procedure : (a : ℕ) → procedure_at a [] ≡ None
unfolding procedure_at
no_procedure a = by (a == 0)
  where
    by : (z : Bool) → cond z None (find (λ (p : Proc). p.entry == a) []) ≡ None
    by true = refl
    by false = refl

pub jump_to_block : (unit : CodeUnit) → unit.procs ≡ [] → (a : ℕ) (u : Storage) → u.frames ≡ [] → jump unit a u ≡ before_block (index_at a unit.whole) (Stopped a) u
unfolding jump
jump_to_block unit alone a u none = ap (λ fs. jump_with fs unit a u) none ∙ (ap (λ ps. jump_by (procedure_at a ps) unit a u) alone ∙ ap (λ o. jump_by o unit a u) (no_procedure a))

module _ (laws : LawsBelow) (runs : RunLaws CodePosition) (unit : CodeUnit) (marks : Marks) where
  abbrev pub step : CodePosition → Move CodePosition
  step = machine runs marks (code_blocks unit.whole)

  abbrev pub code_at : List Item → CodeState → CodePosition
  code_at = within runs marks (code_blocks unit.whole)

  -- the code comes to a jump to the same block, over places that the storage is below
  pub record GoesOn (k : ℕ) (v : Storage) (q : CodePosition) : Type 0 where
    pub steps : ℕ
    pub last : CodePosition
    pub reaches : Reaches step q steps [] last
    pub target : CodePoint
    pub state : CodeState
    pub goes : step last ≡ Go [] (standing_at target state)
    pub leads : LeadsTo unit.whole target (Before k)
    pub below : IsBelow v state
    pub no_zero : HasNoZero v.memory

  abbrev pub ExitMeets : Onward → CodePosition → Type 0
  ExitMeets (Ok p) q = GoesOn p.0 p.1 q
  ExitMeets (Err e) q = e ≢ Unspecified → RunEnds step q [] (outside e)

  -- ---- jumps
  stands_behind : (q last : CodePosition) (n : ℕ) (target : CodePoint) (t : CodeState) → Reaches step q n [] last → step last ≡ Go [] (standing_at target t) → step (standing_at target t) ≡ Stand [] Outside → RunEnds step q [] Outside
  stands_behind q last n target t r g h =
      reach_ends runs step q last n [] [] Outside r (record { steps = 1; ends = runs.run_go step last [] (standing_at target t) g 1 ∙ ap (before []) (runs.run_stand step (standing_at target t) [] Outside h 1) })

  by_number : (n : ℕ) (v : Storage) (q last : CodePosition) (m : ℕ) (t : CodeState) → Reaches step q m [] last → step last ≡ Go [] (standing_at (AtNumber n) t) → IsBelow v t → HasNoZero v.memory → ExitMeets (before_block (index_of_number n unit.whole) Outside v) q
  by_number n v q last m t r g below unmapped = cases (index_of_number n unit.whole) refl
    where
      cases : (o : Option ℕ) → index_of_number n unit.whole ≡ o → ExitMeets (before_block o Outside v) q
      cases (Some k) e = record { steps = m; last = last; reaches = r; target = AtNumber n; state = t; goes = g; leads = e; below = below; no_zero = unmapped }
      cases None e = λ d. stands_behind q last m (AtNumber n) t r g (no_block runs marks (code_blocks unit.whole) (AtNumber n) t tt (number_missing n unit.whole e))

  by_old : (a : ℕ) (v : Storage) (q last : CodePosition) (m : ℕ) (t : CodeState) → Reaches step q m [] last → step last ≡ Go [] (standing_at (AtOld a) t) → IsBelow v t → HasNoZero v.memory → ExitMeets (before_block (index_at a unit.whole) (Stopped a) v) q
  by_old a v q last m t r g below unmapped = cases (index_at a unit.whole) refl
    where
      cases : (o : Option ℕ) → index_at a unit.whole ≡ o → ExitMeets (before_block o (Stopped a) v) q
      cases (Some k) e = record { steps = m; last = last; reaches = r; target = AtOld a; state = t; goes = g; leads = e; below = below; no_zero = unmapped }
      cases None e = λ d. stands_behind q last m (AtOld a) t r g (no_block runs marks (code_blocks unit.whole) (AtOld a) t tt (address_missing a unit.whole e))

  -- what has to be known
  if_known : (o : Option ℕ) (f : ℕ → Onward) (q : CodePosition) → ((a : ℕ) → o ≡ Some a → ExitMeets (f a) q) → ExitMeets (and_then (needed o) f) q
  if_known None f q h = λ d. absurd (d refl)
  if_known (Some a) f q h = h a refl

  abbrev exit_items : Exit → List Item
  exit_items e = map named_item (choose_exit e)

  -- ---- each exit
  module _ (u : Storage) (s : CodeState) (below : IsBelow u s) (unmapped : HasNoZero u.memory) where
    to_block : (n : ℕ) (q : CodePosition) → ExitMeets (before_block (index_of_number n unit.whole) Outside u) q → ExitMeets (before_block (index_of_number n (blocks_of unit u.frames)) Outside u) q
    to_block n q h = subst (λ (fs : List Frame). ExitMeets (before_block (index_of_number n (blocks_of unit fs)) Outside u) q) (sym below.frames) h

    jumps : (n : ℕ) (rest : List Item) (t : CodeState) → step (code_at (named_item (made (instr.Jmp n) []) ∷ rest) t) ≡ Go [] (standing_at (AtNumber n) t)
    jumps n rest t = inside_is runs marks (code_blocks unit.whole) (named_item (made (instr.Jmp n) []) ∷ rest) t ∙ jump_is n rest t

    go_meets : (n : ℕ) → ExitMeets (before_block (index_of_number n unit.whole) Outside u) (code_at (named_item (made (instr.Jmp n) []) ∷ []) s)
    go_meets n = by_number n u _ _ 0 s (rests _) (jumps n [] s) below unmapped

    -- a term in EAX
    abbrev pub with_term : Term → CodeState
    with_term t = with_place 0 (term_at t s) s

    term_there : (t : Term) → (with_term t).cpu.regs 0 ≡ term_at t s
    term_there t = here 0 (term_at t s) s.cpu.regs

    pub term_known : (t : Term) (n : ℕ) → IsTerm 0 t → known (term_in t u) ≡ Some n → known ((with_term t).cpu.regs 0) ≡ Some n
    term_known t n i e = ap known (term_there t) ∙ laws.less.same_word (term_in t u) (term_at t s) n (value_below laws t u s i below) e

    module _ (test : Term) (m n : ℕ) (i : IsTerm 0 test) where
      abbrev pub compared : CodeState
      compared = with_flags (sub 4 ((with_term test).cpu.regs 0) (word_of 0) (Some false)).flags (with_term test)

      pub compared_below : IsBelow u compared
      compared_below = flagged u (with_term test) (sub 4 ((with_term test).cpu.regs 0) (word_of 0) (Some false)).flags (scratch u s 0 (term_at test s) (omega arith) below)

      abbrev pub tests : List Item
      tests = map named_item (put (Fixed Eax) test ∷ alu_by alu.Cmp (Fixed Eax) (term.Word 0) ∷ [])

      abbrev pub branches : List Item
      branches = map named_item (made (instr.Jcc condition_of.Ne m) [] ∷ made (instr.Jmp n) [] ∷ [])

      pub passes : PassesList tests s [] compared
      passes = more _ _ s [] (with_term test) [] compared (put_is (Fixed Eax) test s) (more _ [] (with_term test) [] compared [] compared (alu_is alu.Cmp (Fixed Eax) (term.Word 0) (with_term test) tt) (done compared))

      reached : (k : ℕ) × Reaches step (code_at (tests ++ branches) s) k [] (code_at branches compared)
      reached = passes_reach runs marks (code_blocks unit.whole) tests branches s compared [] passes

      pub taken : (v : ℕ) → known (term_in test u) ≡ Some v → condition condition_of.Ne compared.cpu.flags ≡ Some (not (v == 0))
      taken v e =
          not_zero_says laws.less laws.words (term_in test u) ((with_term test).cpu.regs 0) v
          (subst (WordLessSpecified (term_in test u)) (sym (term_there test)) (value_below laws test u s i below)) e

      branches_by : (v : ℕ) → known (term_in test u) ≡ Some v → step (code_at branches compared) ≡ after_branch (Some (not (v == 0))) m (map named_item (made (instr.Jmp n) [] ∷ [])) compared
      branches_by v e = inside_is runs marks (code_blocks unit.whole) branches compared ∙ (branch_is m (map named_item (made (instr.Jmp n) [] ∷ [])) compared ∙ ap (λ o. after_branch o m (map named_item (made (instr.Jmp n) [] ∷ [])) compared) (taken v e))

      by_zero : (z : Bool) → step (code_at branches compared) ≡ after_branch (Some (not z)) m (map named_item (made (instr.Jmp n) [] ∷ [])) compared → ExitMeets (before_block (index_of_number (cond z n m) unit.whole) Outside u) (code_at (tests ++ branches) s)
      by_zero true g =
          by_number n u _ _ _ compared (runs.reaches_then step _ reached.0 [] _ 1 [] _ reached.1 (runs.reaches_step step _ [] _ g)) (jumps n [] compared) compared_below unmapped
      by_zero false g = by_number m u _ _ reached.0 compared reached.1 g compared_below unmapped

      branch_meets : (v : ℕ) → known (term_in test u) ≡ Some v → ExitMeets (before_block (index_of_number (cond (v == 0) n m) unit.whole) Outside u) (code_at (tests ++ branches) s)
      branch_meets v e = by_zero (v == 0) (branches_by v e)

    module _ (to : Term) (i : IsTerm 0 to) where
      abbrev pub leaves : List Item
      leaves = map named_item (made (instr.JmpTo (rm.Reg Eax)) (Fixed Eax ∷ []) ∷ [])

      arrived : (k : ℕ) × Reaches step (code_at (named_item (put (Fixed Eax) to) ∷ leaves) s) k [] (code_at leaves (with_term to))
      arrived = passes_reach runs marks (code_blocks unit.whole) (named_item (put (Fixed Eax) to) ∷ []) leaves s (with_term to) [] (more _ [] s [] (with_term to) [] (with_term to) (put_is (Fixed Eax) to s) (done (with_term to)))

      old_meets : (a : ℕ) → known (term_in to u) ≡ Some a → ExitMeets (before_block (index_at a unit.whole) (Stopped a) u) (code_at (named_item (put (Fixed Eax) to) ∷ leaves) s)
      old_meets a e =
          by_old a u _ _ arrived.0 (lost (with_term to)) arrived.1
          (inside_is runs marks (code_blocks unit.whole) leaves (with_term to) ∙ (old_is [] (with_term to) ∙ ap (λ o. after_old o (with_term to)) (term_known to a i e)))
          (lost_below u (with_term to) (scratch u s 0 (term_at to s) (omega arith) below)) unmapped

    pub zero_refused : allows_all Load s.memory 0 4 ≡ false
    zero_refused = sym (laws.memory.allows Load u.memory s.memory 0 4 below.memory) ∙ refused u.memory unmapped

    pub fault_is : act (named_item (load_by Four (Fixed Eax) (term.Word 0))) [] s ≡ Halt [] MemoryFault
    fault_is = load_is Four (Fixed Eax) (term.Word 0) s 0 (laws.words.known_word 0 (omega arith), omega arith) [] ∙ ap (λ b. after_load b 0 (padded (bytes_at s.memory 0 4)) [] s) zero_refused

    fault_ends : RunEnds step (code_at (map named_item (choose_exit exit.Fault)) s) [] MemoryFault
    unfolding choose_exit
    fault_ends = record {
      steps = 0;
      ends = runs.run_halt step _ [] MemoryFault (inside_is runs marks (code_blocks unit.whole) (map named_item (load_by Four (Fixed Eax) (term.Word 0) ∷ [])) s ∙ fault_is) 0;
    }

    stop_ends : RunEnds step (code_at (map named_item (choose_exit exit.Stop)) s) [] Outside
    unfolding choose_exit
    stop_ends =
        stands_behind _ _ 0 (Inside []) s (rests _) (inside_is runs marks (code_blocks unit.whole) (map named_item (made instr.Nop [] ∷ [])) s ∙ nothing_is [] s) (inside_is runs marks (code_blocks unit.whole) [] s)

    pub exit_meets : (turn : ℕ) (e : Exit) → unit.procs ≡ [] → unit.lowered ≡ true → IsExit 0 (length unit.whole) unit.procs e → IsFramelessExit e → ExitMeets (leave unit turn e u) (code_at (map named_item (choose_exit e)) s)
    unfolding leave choose_exit
    exit_meets turn (exit.Go n) alone low i f = to_block n _ (go_meets n)
    exit_meets turn (exit.Branch test m n) alone low i f = if_known (known (term_in test u)) _ _ (λ v e. to_block (cond (v == 0) n m) _ (branch_meets test m n i.0 v e))
    exit_meets turn (exit.Jump to) alone low i f = if_known (known (term_in to u)) _ _ (λ a e. subst (λ (o : Onward). ExitMeets o (code_at (map named_item (choose_exit (exit.Jump to))) s)) (sym (jump_to_block unit alone a u below.frames)) (old_meets to i a e))
    exit_meets turn (exit.CallProc entry back) alone low i f = absurd f
    exit_meets turn exit.Return alone low i f = absurd f
    exit_meets turn exit.Fault alone low i f = λ d. fault_ends
    exit_meets turn exit.Stop alone low i f = subst (λ (b : Bool). ExitMeets (stop_at b turn u) (code_at (map named_item (choose_exit exit.Stop)) s)) (sym low) (if_known (known (padded (bytes_at u.memory 0x75000004 4))) (λ a. Err (Stopped a)) _ (λ a e d. stop_ends))
