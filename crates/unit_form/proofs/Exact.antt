-- The tests of a unit are true exactly where it is in form.
use Rattle.std.proofs.Common.{◌≡◌, ℕ, zero, suc, arith, inl, inr, ◌+◌, ◌<◌, ◌&&◌, ◌||◌, Bool, true, false, not, ltb, List, [], ◌∷◌, length, get_or, refl, sym, subst, ap}
use Rattle.std.specs.Prelude.{◌↔◌, ◌==◌, map, slice_get, Some}
use Rattle.std.specs.List.{All, Contains, list_all, list_any}
use Rattle.std.proofs.lemmas.Bool.{eqb-true, eq-eqb, or_cases, or_left, or_right, false≢true, true≢false}
use Rattle.std.proofs.lemmas.List.Elements.{All-contains, Contains-get_or}
use Rattle.x86_values.specs.Sizes.{IsSize}
use Rattle.flag_ir.specs.declared.variable.Var.{Var}
use Rattle.flag_ir.specs.declared.variable.Var.TheVariants as var
use Rattle.flag_ir.specs.declared.variable.Term.{Term}
use Rattle.flag_ir.specs.declared.variable.Term.TheVariants as term
use Rattle.flag_ir.specs.declared.operation.Op.{Op}
use Rattle.flag_ir.specs.declared.operation.Op.TheVariants as op
use Rattle.flag_ir.specs.declared.block.Block.{Block}
use Rattle.flag_ir.specs.declared.block.Exit.{Exit}
use Rattle.flag_ir.specs.declared.block.Exit.TheVariants as exit
use Rattle.flag_ir.specs.declared.procedure.Proc.{Proc}
use Rattle.flag_ir.specs.Entering.{CodeUnit}
use Rattle.flag_ir.specs.Form.{IsVar, IsTerm, IsOp, IsExit, IsPartInForm, IsProcInForm, IsFrameless, IsFramelessExit, IsFramelessBlock, IsLoweredInForm, IsInForm}
use Rattle.unit_form.specs.Fits.{size_fits, var_fits, term_fits, op_fits, has_entry, exit_fits, block_fits, part_fits, proc_fits, needs_no_frame, leaves_no_frame, frameless, lowered_fits, form_fits}
use Rattle.unit_form.proofs.BooleanTests.{true_exact, false_exact, below_exact, same_exact, and_exact, three, four, six, all_exact}
use Rattle.unit_form.proofs.Numbered.{numbered_exact}

pub var_exact : (locals : ℕ) (v : Var) → (var_fits locals v ≡ true) ↔ IsVar locals v
var_exact locals (var.Reg n) = below_exact n 8
var_exact locals (var.Flag n) = below_exact n 5
var_exact locals (var.Temp n) = true_exact
var_exact locals (var.Local n) = below_exact n locals

pub term_exact : (locals : ℕ) (t : Term) → (term_fits locals t ≡ true) ↔ IsTerm locals t
term_exact locals (term.Var v) = var_exact locals v
term_exact locals (term.Word n) = true_exact

module _ (locals : ℕ) where
  v : (x : Var) → (var_fits locals x ≡ true) ↔ IsVar locals x
  v x = var_exact locals x

  t : (x : Term) → (term_fits locals x ≡ true) ↔ IsTerm locals x
  t x = term_exact locals x

  s : (size : ℕ) → (size_fits size ≡ true) ↔ IsSize size
  s size = same_exact (size_fits size)

  two : (x y : Term) → ((term_fits locals x && term_fits locals y) ≡ true) ↔ (IsTerm locals x × IsTerm locals y)
  two x y = and_exact _ _ (t x) (t y)

  pub op_exact : (o : Op) → (op_fits locals o ≡ true) ↔ IsOp locals o
  op_exact (op.Set to from) = and_exact _ _ (v to) (t from)
  op_exact (op.Calc to calc left right) = three (and_exact _ _ (v to) (two left right))
  op_exact (op.Forget to) = v to
  op_exact (op.Pick to test x y) = four (and_exact _ _ (v to) (and_exact _ _ (t test) (two x y)))
  op_exact (op.Need from) = t from
  op_exact (op.Divide quotient remainder high low by size signed) = six (and_exact _ _ (v quotient) (and_exact _ _ (v remainder) (and_exact _ _ (t high) (and_exact _ _ (t low) (and_exact _ _ (t by) (s size))))))
  op_exact (op.Load to size at) = three (and_exact _ _ (v to) (and_exact _ _ (s size) (t at)))
  op_exact (op.Store size at from) = three (and_exact _ _ (s size) (two at from))
  op_exact (op.NearLoad to size at) = three (and_exact _ _ (v to) (and_exact _ _ (s size) (t at)))
  op_exact (op.NearStore size at from) = three (and_exact _ _ (s size) (two at from))
  op_exact (op.Get to size offset) = and_exact _ _ (v to) (s size)
  op_exact (op.Put size offset from) = and_exact _ _ (s size) (t from)
  op_exact op.System = true_exact
  op_exact op.NearSystem = true_exact

-- ---- an entry is among those of the procedures
among_more : (x n : ℕ) (ns : List ℕ) → Contains ns n → Contains (x ∷ ns) n
among_more x n ns h = (suc h.0, omega (arith, h.1), h.2)

named : (entry : ℕ) (procs : List Proc) → has_entry entry procs ≡ true → Contains (map (λ p. p.entry) procs) entry
named entry [] e = absurd (false≢true e)
named entry (p ∷ ps) e =
    (elim (or_cases (p.entry == entry) (has_entry entry ps) e) as (λ _. Contains (map (λ (q : Proc). q.entry) (p ∷ ps)) entry) [
      | inl same ↦ (0, omega arith, eqb-true p.entry entry same)
      | inr more ↦ among_more p.entry entry (map (λ (q : Proc). q.entry) ps) (named entry ps more)
    ])

finds_at : (entry : ℕ) (procs : List Proc) (k : ℕ) → k < length (map (λ p. p.entry) procs) → get_or (map (λ p. p.entry) procs) k entry ≡ entry → has_entry entry procs ≡ true
finds_at entry [] k h e = absurd (omega (arith, h))
finds_at entry (p ∷ ps) zero h e = or_left (p.entry == entry) (has_entry entry ps) (eq-eqb p.entry entry e)
finds_at entry (p ∷ ps) (suc k) h e = or_right (p.entry == entry) (has_entry entry ps) (finds_at entry ps k (omega (arith, h)) e)

finds : (entry : ℕ) (procs : List Proc) → Contains (map (λ p. p.entry) procs) entry → has_entry entry procs ≡ true
finds entry procs h = finds_at entry procs h.0 h.1 h.2

pub exit_exact : (locals blocks : ℕ) (procs : List Proc) (e : Exit) → (exit_fits locals blocks procs e ≡ true) ↔ IsExit locals blocks procs e
exit_exact locals blocks procs (exit.Go n) = below_exact n blocks
exit_exact locals blocks procs (exit.Branch test m n) = three (and_exact _ _ (term_exact locals test) (and_exact _ _ (below_exact m blocks) (below_exact n blocks)))
exit_exact locals blocks procs (exit.Jump to) = term_exact locals to
exit_exact locals blocks procs (exit.CallProc entry back) = and_exact _ _ (named entry procs, finds entry procs) (below_exact back blocks)
exit_exact locals blocks procs exit.Return = true_exact
exit_exact locals blocks procs exit.Fault = true_exact
exit_exact locals blocks procs exit.Stop = true_exact

-- ---- parts
abbrev IsBlockInForm : ℕ → ℕ → List Proc → Block → Type 0
IsBlockInForm locals count procs b = All (IsOp locals) b.ops × IsExit locals count procs b.exit

module _ (locals : ℕ) (procs : List Proc) (blocks : List Block) where
  each_block : (b : Block) → (block_fits locals (length blocks) procs b ≡ true) ↔ IsBlockInForm locals (length blocks) procs b
  each_block b = and_exact _ _ (all_exact (op_fits locals) (IsOp locals) b.ops (op_exact locals)) (exit_exact locals (length blocks) procs b.exit)

  abbrev Parts : Type 0
  Parts = ((k : ℕ) (b : Block) → slice_get blocks k ≡ Some b → b.number ≡ k) × All (IsBlockInForm locals (length blocks) procs) blocks

  parts : (part_fits locals procs blocks ≡ true) ↔ Parts
  parts = and_exact _ _ (numbered_exact blocks) (all_exact (block_fits locals (length blocks) procs) (IsBlockInForm locals (length blocks) procs) blocks each_block)

  form_of : Parts → IsPartInForm locals procs blocks
  form_of p = record {
    numbers = p.0;
    ops = λ b h. (All-contains (IsBlockInForm locals (length blocks) procs) blocks b p.1 h).0;
    exits = λ b h. (All-contains (IsBlockInForm locals (length blocks) procs) blocks b p.1 h).1;
  }

  parts_of : IsPartInForm locals procs blocks → Parts
  parts_of f = (f.numbers, λ k d h. (f.ops (get_or blocks k d) (there k d h), f.exits (get_or blocks k d) (there k d h)))
    where
      there : (k : ℕ) (d : Block) → k < length blocks → Contains blocks (get_or blocks k d)
      there k d h = Contains-get_or blocks k d h

  pub part_exact : (part_fits locals procs blocks ≡ true) ↔ IsPartInForm locals procs blocks
  part_exact = (λ e. form_of (parts.0 e), λ f. parts.1 (parts_of f))

pub proc_exact : (procs : List Proc) (p : Proc) → (proc_fits procs p ≡ true) ↔ IsProcInForm procs p
proc_exact procs p =
    let both : (proc_fits procs p ≡ true) ↔ (All (λ s. IsSize s.size) p.locals × IsPartInForm (length p.locals) procs p.blocks) =
    and_exact _ _ (all_exact (λ s. size_fits s.size) (λ s. IsSize s.size) p.locals (λ s. same_exact (size_fits s.size))) (part_exact (length p.locals) procs p.blocks) in
    (λ e. record { locals = (both.0 e).0; blocks = (both.0 e).1 }, λ f. both.1 (f.locals, f.blocks))

-- ---- what needs no frame
op_frameless : (o : Op) → (needs_no_frame o ≡ true) ↔ IsFrameless o
op_frameless (op.Set to from) = true_exact
op_frameless (op.Calc to calc left right) = true_exact
op_frameless (op.Forget to) = true_exact
op_frameless (op.Pick to test x y) = true_exact
op_frameless (op.Need from) = true_exact
op_frameless (op.Divide quotient remainder high low by size signed) = true_exact
op_frameless (op.Load to size at) = true_exact
op_frameless (op.Store size at from) = true_exact
op_frameless (op.NearLoad to size at) = false_exact
op_frameless (op.NearStore size at from) = false_exact
op_frameless (op.Get to size offset) = false_exact
op_frameless (op.Put size offset from) = false_exact
op_frameless op.System = true_exact
op_frameless op.NearSystem = false_exact

exit_frameless : (e : Exit) → (leaves_no_frame e ≡ true) ↔ IsFramelessExit e
exit_frameless (exit.Go n) = true_exact
exit_frameless (exit.Branch test m n) = true_exact
exit_frameless (exit.Jump to) = true_exact
exit_frameless (exit.CallProc entry back) = false_exact
exit_frameless exit.Return = false_exact
exit_frameless exit.Fault = true_exact
exit_frameless exit.Stop = true_exact

block_frameless : (b : Block) → (frameless b ≡ true) ↔ IsFramelessBlock b
block_frameless b =
    let both : (frameless b ≡ true) ↔ (All IsFrameless b.ops × IsFramelessExit b.exit) =
    and_exact _ _ (all_exact needs_no_frame IsFrameless b.ops op_frameless) (exit_frameless b.exit) in
    (λ e. record { ops = (both.0 e).0; exit = (both.0 e).1 }, λ f. both.1 (f.ops, f.exit))

pub blocks_frameless : (blocks : List Block) → (list_all frameless blocks ≡ true) ↔ All IsFramelessBlock blocks
blocks_frameless blocks = all_exact frameless IsFramelessBlock blocks block_frameless

-- ---- units
none_exact : (procs : List Proc) → ((length procs == 0) ≡ true) ↔ (procs ≡ [])
none_exact [] = (λ e. refl, λ e. refl)
none_exact (p ∷ ps) = (λ e. absurd (omega (arith, eqb-true (length (p ∷ ps)) 0 e)), λ e. ap (λ (xs : List Proc). length xs == 0) e)

-- what is asked for only where a test is true
where_exact : (b x : Bool) {P : Type 0} → ((x ≡ true) ↔ P) → ((not b || x) ≡ true) ↔ (b ≡ true → P)
where_exact true x f = (λ e h. f.0 e, λ g. f.1 (g refl))
where_exact false x f = (λ e h. absurd (false≢true h), λ g. refl)

pub lowered_exact : (u : CodeUnit) → (lowered_fits u ≡ true) ↔ IsLoweredInForm u
lowered_exact u =
    let f : (lowered_fits u ≡ true) ↔ ((u.procs ≡ []) × All IsFramelessBlock u.whole) = and_exact _ _ (none_exact u.procs) (blocks_frameless u.whole) in
    (λ e. record { procs = (f.0 e).0; blocks = (f.0 e).1 }, λ g. f.1 (g.procs, g.blocks))

pub form_exact : (u : CodeUnit) → (form_fits u ≡ true) ↔ IsInForm u
form_exact u =
    let f : (form_fits u ≡ true) ↔ (IsPartInForm 0 u.procs u.whole × (All (IsProcInForm u.procs) u.procs × (u.lowered ≡ true → IsLoweredInForm u))) =
    and_exact _ _ (part_exact 0 u.procs u.whole) (and_exact _ _ (all_exact (proc_fits u.procs) (IsProcInForm u.procs) u.procs (proc_exact u.procs)) (where_exact u.lowered (lowered_fits u) (lowered_exact u))) in (
      λ e. let parts = f.0 e in record { whole = parts.0; procs = λ p h. All-contains (IsProcInForm u.procs) u.procs p parts.1.0 h; lowered = parts.1.1 },
      λ g. f.1 (g.whole, (λ k d h. g.procs (get_or u.procs k d) (Contains-get_or u.procs k d h), g.lowered)),
    )
