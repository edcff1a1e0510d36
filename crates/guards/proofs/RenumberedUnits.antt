-- The unit with its temporaries numbered anew keeps form, shape, names and costs, and its temporaries have small numbers.
use Rattle.std.proofs.Common.{◌≡◌, ℕ, zero, suc, ◌^◌, ◌<◌, ◌≤◌, ◌+◌, ◌==◌, cond, List, [], ◌∷◌, map, length, All, Contains, Some, None, refl, sym, ap, ◌∙◌, subst, arith}
use Rattle.std.specs.List.{slice_get}
use Rattle.std.proofs.lemmas.List.{length-map}
use Rattle.std.proofs.lemmas.List.Elements.{All-cons, All-contains}
use Rattle.std.proofs.lemmas.Option.{slice_get-get_or}
use Rattle.flag_ir.specs.declared.variable.Var.{Var}
use Rattle.flag_ir.specs.declared.variable.Var.TheVariants as var
use Rattle.flag_ir.specs.declared.variable.Term.{Term}
use Rattle.flag_ir.specs.declared.variable.Term.TheVariants as term
use Rattle.flag_ir.specs.declared.operation.Op.{Op}
use Rattle.flag_ir.specs.declared.operation.Op.TheVariants as op
use Rattle.flag_ir.specs.declared.block.Block.{Block}
use Rattle.flag_ir.specs.declared.block.Exit.{Exit}
use Rattle.flag_ir.specs.declared.block.Exit.TheVariants as exit
use Rattle.flag_ir.specs.declared.procedure.Proc.{Proc}
use Rattle.flag_ir.specs.Entering.{CodeUnit, index_of_number}
use Rattle.flag_ir.specs.Form.{IsVar, IsTerm, IsOp, IsExit, IsFrameless, IsFramelessExit, IsFramelessBlock, IsInForm}
use Rattle.flag_ir.specs.Shape.{Part, part_blocks, named_by, IsBlock, GoesTo, ReturnsTo, IsWellShaped}
use Rattle.flag_ir.specs.Costs.{Costing, list_cost, block_cost, allowed, BoundsTurns}
use Rattle.guards.specs.Temporaries.{IsVarBelow, IsTermBelow, IsOpBelow, IsExitBelow, IsBlockBelow, HasTempsBelow}
use Rattle.guards.specs.Guarding.{AreAddresses}
use Rattle.guards.specs.Lowering.{names_of}
use Rattle.guards.specs.Renumbering.{renumbered_var, renumbered_term, renumbered_op, renumbered_exit, written_temps, WritesFewTemps, block_numbers, renumbered_block, renumbered_unit, IgnoresTemps}
use Rattle.guards.proofs.Keeping.{all_first, all_rest}
use Rattle.guards.proofs.SideBySide.{among}
use Rattle.guards.proofs.Numbering.{new_small}
use Rattle.guards.proofs.RenumberedExits.{number_same}

-- ---- the block of which one is made
record IsOf (blocks : List Block) (k : ℕ) (c : Block) : Type 0 where
  old : Block
  there : slice_get blocks k ≡ Some old
  makes : renumbered_block old ≡ c

old_at : (blocks : List Block) (k : ℕ) (c : Block) → slice_get (map renumbered_block blocks) k ≡ Some c → IsOf blocks k c
old_at [] k c e = absurd cc
old_at (b ∷ bs) zero c e = record { old = b; there = refl; makes = cc }
old_at (b ∷ bs) (suc k) c e = let m = old_at bs k c e in record { old = m.old; there = m.there; makes = m.makes }

-- what holds of each block that is made holds of each
each_made : (blocks : List Block) (P : Block → Type 0) → ((b : Block) → Contains blocks b → P (renumbered_block b)) → (c : Block) → Contains (map renumbered_block blocks) c → P c
each_made blocks P h c among_them =
    let m = old_at blocks among_them.0 c (slice_get-get_or (map renumbered_block blocks) among_them.0 c among_them.1 ∙ ap Some among_them.2) in
    subst P m.makes (h m.old (among blocks among_them.0 m.old m.there))

all_made : (P Q : Block → Type 0) → ((b : Block) → P b → Q (renumbered_block b)) → (blocks : List Block) → All P blocks → All Q (map renumbered_block blocks)
all_made P Q h [] all = λ k d l. absurd (omega arith)
all_made P Q h (b ∷ bs) all = All-cons Q (renumbered_block b) (map renumbered_block bs) (h b (all_first P b bs all)) (all_made P Q h bs (all_rest P b bs all))

-- the same of lists of operations
all_ops : (f : ℕ → ℕ) (P Q : Op → Type 0) → ((o : Op) → P o → Q (renumbered_op f o)) → (ops : List Op) → All P ops → All Q (map (renumbered_op f) ops)
all_ops f P Q h [] all = λ k d l. absurd (omega arith)
all_ops f P Q h (o ∷ os) all = All-cons Q (renumbered_op f o) (map (renumbered_op f) os) (h o (all_first P o os all)) (all_ops f P Q h os (all_rest P o os all))

module _ (f : ℕ → ℕ) where
  -- ---- form
  var_form : (x : Var) → IsVar 0 x → IsVar 0 (renumbered_var f x)
  var_form (var.Reg n) h = h
  var_form (var.Flag n) h = h
  var_form (var.Temp n) h = h
  var_form (var.Local n) h = h

  term_form : (t : Term) → IsTerm 0 t → IsTerm 0 (renumbered_term f t)
  term_form (term.Var x) h = var_form x h
  term_form (term.Word n) h = h

  op_form : (o : Op) → IsOp 0 o → IsOp 0 (renumbered_op f o)
  op_form (op.Set to from) h = (var_form to h.0, term_form from h.1)
  op_form (op.Calc to c left right) h = (var_form to h.0, term_form left h.1, term_form right h.2)
  op_form (op.Forget to) h = var_form to h
  op_form (op.Pick to test x y) h = (var_form to h.0, term_form test h.1, term_form x h.2, term_form y h.3)
  op_form (op.Need from) h = term_form from h
  op_form (op.Divide q r high low by size signed) h = (var_form q h.0, var_form r h.1, term_form high h.2, term_form low h.3, term_form by h.4, h.5)
  op_form (op.Load to size at) h = (var_form to h.0, h.1, term_form at h.2)
  op_form (op.Store size at from) h = (h.0, term_form at h.1, term_form from h.2)
  op_form (op.NearLoad to size at) h = (var_form to h.0, h.1, term_form at h.2)
  op_form (op.NearStore size at from) h = (h.0, term_form at h.1, term_form from h.2)
  op_form (op.Get to size offset) h = (var_form to h.0, h.1)
  op_form (op.Put size offset from) h = (h.0, term_form from h.1)
  op_form op.System h = h
  op_form op.NearSystem h = h

  exit_form : (m n : ℕ) → m ≡ n → (procs : List Proc) (e : Exit) → IsExit 0 m procs e → IsExit 0 n procs (renumbered_exit f e)
  exit_form m n same procs (exit.Go k) h = omega (arith, h, same)
  exit_form m n same procs (exit.Branch test j k) h = (term_form test h.0, omega (arith, h.1, same), omega (arith, h.2, same))
  exit_form m n same procs (exit.Jump to) h = term_form to h
  exit_form m n same procs (exit.CallProc entry back) h = (h.0, omega (arith, h.1, same))
  exit_form m n same procs exit.Return h = tt
  exit_form m n same procs exit.Fault h = tt
  exit_form m n same procs exit.Stop h = tt

  -- ---- frames
  op_frameless : (o : Op) → IsFrameless o → IsFrameless (renumbered_op f o)
  op_frameless (op.Set to from) h = tt
  op_frameless (op.Calc to c left right) h = tt
  op_frameless (op.Forget to) h = tt
  op_frameless (op.Pick to test x y) h = tt
  op_frameless (op.Need from) h = tt
  op_frameless (op.Divide q r high low by size signed) h = tt
  op_frameless (op.Load to size at) h = tt
  op_frameless (op.Store size at from) h = tt
  op_frameless (op.NearLoad to size at) h = h
  op_frameless (op.NearStore size at from) h = h
  op_frameless (op.Get to size offset) h = h
  op_frameless (op.Put size offset from) h = h
  op_frameless op.System h = tt
  op_frameless op.NearSystem h = h

  exit_frameless : (e : Exit) → IsFramelessExit e → IsFramelessExit (renumbered_exit f e)
  exit_frameless (exit.Go n) h = tt
  exit_frameless (exit.Branch test m n) h = tt
  exit_frameless (exit.Jump to) h = tt
  exit_frameless (exit.CallProc entry back) h = h
  exit_frameless exit.Return h = h
  exit_frameless exit.Fault h = tt
  exit_frameless exit.Stop h = tt

  -- ---- where an exit goes
  named_same : (e : Exit) → named_by (renumbered_exit f e) ≡ named_by e
  named_same (exit.Go n) = refl
  named_same (exit.Branch test m n) = refl
  named_same (exit.Jump to) = refl
  named_same (exit.CallProc entry back) = refl
  named_same exit.Return = refl
  named_same exit.Fault = refl
  named_same exit.Stop = refl

  call_old : (entry back : ℕ) (e : Exit) → renumbered_exit f e ≡ exit.CallProc entry back → e ≡ exit.CallProc entry back
  call_old entry back (exit.Go n) h = absurd cc
  call_old entry back (exit.Branch test m n) h = absurd cc
  call_old entry back (exit.Jump to) h = absurd cc
  call_old entry back (exit.CallProc other to) h = h
  call_old entry back exit.Return h = absurd cc
  call_old entry back exit.Fault h = absurd cc
  call_old entry back exit.Stop h = absurd cc

  -- ---- costs
  list_same : (c : Costing) → IgnoresTemps c → (ops : List Op) (e : Exit) → list_cost c (map (renumbered_op f) ops) (renumbered_exit f e) ≡ list_cost c ops e
  unfolding list_cost
  list_same c plain [] e = plain.exit f e
  list_same c plain (o ∷ os) e = λ i. plain.op f o i + list_same c plain os e i

  -- ---- small numbers
  module _ (limit : ℕ) (small : (n : ℕ) → f n < limit) where
    var_small : (x : Var) → IsVarBelow limit (renumbered_var f x)
    var_small (var.Reg n) = tt
    var_small (var.Flag n) = tt
    var_small (var.Temp n) = small n
    var_small (var.Local n) = tt

    term_small : (t : Term) → IsTermBelow limit (renumbered_term f t)
    term_small (term.Var x) = var_small x
    term_small (term.Word n) = tt

    op_small : (o : Op) → IsOpBelow limit (renumbered_op f o)
    op_small (op.Set to from) = (var_small to, term_small from)
    op_small (op.Calc to c left right) = (var_small to, term_small left, term_small right)
    op_small (op.Forget to) = var_small to
    op_small (op.Pick to test x y) = (var_small to, term_small test, term_small x, term_small y)
    op_small (op.Need from) = term_small from
    op_small (op.Divide q r high low by size signed) = (var_small q, var_small r, term_small high, term_small low, term_small by)
    op_small (op.Load to size at) = (var_small to, term_small at)
    op_small (op.Store size at from) = (term_small at, term_small from)
    op_small (op.NearLoad to size at) = (var_small to, term_small at)
    op_small (op.NearStore size at from) = (term_small at, term_small from)
    op_small (op.Get to size offset) = var_small to
    op_small (op.Put size offset from) = term_small from
    op_small op.System = tt
    op_small op.NearSystem = tt

    exit_small : (e : Exit) → IsExitBelow limit (renumbered_exit f e)
    exit_small (exit.Go n) = tt
    exit_small (exit.Branch test m n) = term_small test
    exit_small (exit.Jump to) = term_small to
    exit_small (exit.CallProc entry back) = tt
    exit_small exit.Return = tt
    exit_small exit.Fault = tt
    exit_small exit.Stop = tt

-- ---- units
pub names_same : (blocks : List Block) → map names_of (map renumbered_block blocks) ≡ map names_of blocks
names_same [] = refl
names_same (b ∷ bs) = ap (λ l. (b.number, b.at) ∷ l) (names_same bs)

pub temps_small : (limit : ℕ) → 524288 < limit → (blocks : List Block) → All WritesFewTemps blocks → HasTempsBelow limit (map renumbered_block blocks)
temps_small limit high blocks few = each_made blocks (IsBlockBelow limit) (λ b c. record {
  ops = all_ops (block_numbers b) (λ o. Unit {0}) (IsOpBelow limit) (λ o t. op_small (block_numbers b) limit (small b c) o) b.ops (λ k d l. tt);
  exit = exit_small (block_numbers b) limit (small b c) b.exit;
})
  where
    small : (b : Block) → Contains blocks b → (n : ℕ) → block_numbers b n < limit
    small b c n =
        let low : block_numbers b n ≤ length (written_temps b.ops) = new_small (written_temps b.ops) n in
        let few_here : length (written_temps b.ops) ≤ 524288 = All-contains WritesFewTemps blocks b few c in
        omega (arith, high)

pub addresses_new : (blocks : List Block) → AreAddresses blocks → AreAddresses (map renumbered_block blocks)
addresses_new blocks h = all_made (λ (b : Block). b.at < 2 ^ 32) (λ (b : Block). b.at < 2 ^ 32) (λ b low. low) blocks h

pub addresses_old : (blocks : List Block) → AreAddresses (map renumbered_block blocks) → AreAddresses blocks
addresses_old [] h = λ k d l. absurd (omega arith)
addresses_old (b ∷ bs) h =
    All-cons (λ (x : Block). x.at < 2 ^ 32) b bs (all_first (λ (x : Block). x.at < 2 ^ 32) (renumbered_block b) (map renumbered_block bs) h) (addresses_old bs (all_rest (λ (x : Block). x.at < 2 ^ 32) (renumbered_block b) (map renumbered_block bs) h))

frameless_same : (b : Block) → IsFramelessBlock b → IsFramelessBlock (renumbered_block b)
frameless_same b h = record { ops = all_ops (block_numbers b) IsFrameless IsFrameless (op_frameless (block_numbers b)) b.ops h.ops; exit = exit_frameless (block_numbers b) b.exit h.exit }

module _ (u : CodeUnit) where
  pub form_same : IsInForm u → IsInForm (renumbered_unit u)
  form_same h = record {
    whole = record {
      numbers = λ k c e. let m = old_at u.whole k c e in sym (ap (λ (d : Block). d.number) m.makes) ∙ h.whole.numbers k m.old m.there;
      ops = each_made u.whole (λ c. All (IsOp 0) c.ops) (λ b c. all_ops (block_numbers b) (IsOp 0) (IsOp 0) (op_form (block_numbers b)) b.ops (h.whole.ops b c));
      exits = each_made u.whole (λ c. IsExit 0 (length (map renumbered_block u.whole)) u.procs c.exit) (λ b c. exit_form (block_numbers b) (length u.whole) (length (map renumbered_block u.whole)) (sym (length-map u.whole renumbered_block)) u.procs b.exit (h.whole.exits b c));
    };
    procs = h.procs;
    lowered = λ l. record { procs = (h.lowered l).procs; blocks = all_made IsFramelessBlock IsFramelessBlock frameless_same u.whole (h.lowered l).blocks };
  }

  -- ---- what a block of the new unit was
  record Was (part : Part) (k : ℕ) (c : Block) : Type 0 where
    old : Block
    there : IsBlock u part k old
    at : old.at ≡ c.at
    exits : named_by c.exit ≡ named_by old.exit
    calls : (entry back : ℕ) → c.exit ≡ exit.CallProc entry back → old.exit ≡ exit.CallProc entry back
    costs : (cost : Costing) → IgnoresTemps cost → block_cost cost c ≡ block_cost cost old

  was : (part : Part) (k : ℕ) (c : Block) → IsBlock (renumbered_unit u) part k c → Was part k c
  was None k c is =
      let m = old_at u.whole k c is.1 in
      let f = block_numbers m.old in
      record {
        old = m.old;
        there = (tt, m.there);
        at = ap (λ (d : Block). d.at) m.makes;
        exits = sym (ap (λ (d : Block). named_by d.exit) m.makes) ∙ named_same f m.old.exit;
        calls = λ entry back e. call_old f entry back m.old.exit (ap (λ (d : Block). d.exit) m.makes ∙ e);
        costs = λ cost plain. sym (ap (block_cost cost) m.makes) ∙ list_same f cost plain m.old.ops m.old.exit;
      }
  was (Some p) k c is = record { old = c; there = is; at = refl; exits = refl; calls = λ entry back e. e; costs = λ cost plain. refl }

  number_there : (n j : ℕ) (part : Part) → index_of_number n (part_blocks (renumbered_unit u) part) ≡ Some j → index_of_number n (part_blocks u part) ≡ Some j
  number_there n j None e = sym (number_same n u.whole) ∙ e
  number_there n j (Some p) e = e

  goes_old : (part : Part) (k : ℕ) (b : Block) (j : ℕ) (d : Block) (g : GoesTo (renumbered_unit u) part k b j d) → GoesTo u part k (was part k b g.from).old j (was part j d g.to).old
  goes_old part k b j d g = record { from = (was part k b g.from).there; to = (was part j d g.to).there; number = g.number; named = subst (λ ns. Contains ns g.number) (was part k b g.from).exits g.named; there = number_there g.number j part g.there }

  returns_old : (p : Proc) (k : ℕ) (b : Block) (part : Part) (j : ℕ) (d : Block) (r : ReturnsTo (renumbered_unit u) p k b part j d) → ReturnsTo u p k b part j (was part j d r.to).old
  returns_old p k b part j d r = record {
    from = r.from;
    to = (was part j d r.to).there;
    returns = r.returns;
    call = r.call;
    caller = (was part r.call r.caller r.calls).old;
    calls = (was part r.call r.caller r.calls).there;
    back = r.back;
    names = (was part r.call r.caller r.calls).calls p.entry r.back r.names;
    there = number_there r.back j part r.there;
  }

  pub shape_same : IsWellShaped u → IsWellShaped (renumbered_unit u)
  shape_same h = record {
    whole = all_made IsFramelessBlock IsFramelessBlock frameless_same u.whole h.whole;
    onward = λ part k b j d g none none'. h.onward part k (was part k b g.from).old j (was part j d g.to).old (goes_old part k b j d g) ((was part k b g.from).at ∙ none) ((was part j d g.to).at ∙ none');
    return = λ p k b part j d r none none'. h.return p k b part j (was part j d r.to).old (returns_old p k b part j d r) none ((was part j d r.to).at ∙ none');
    procs = h.procs;
    apart = h.apart;
  }

  -- ---- costs
  module _ (c : Costing) (w : ℕ) (rest : Part → ℕ → ℕ) (plain : IgnoresTemps c) where
    bound_same : (part : Part) (k more : ℕ) (b : Block) (x : Was part k b) → block_cost c x.old + more ≤ allowed w rest part k x.old → block_cost c b + more ≤ allowed w rest part k b
    bound_same part k more b x h = subst (λ n. block_cost c b + more ≤ cond (n == 0) (rest part k) w) x.at (subst (λ n. n + more ≤ allowed w rest part k x.old) (sym (x.costs c plain)) h)

    pub bounds_same : BoundsTurns c w rest u → BoundsTurns c w rest (renumbered_unit u)
    bounds_same h = record {
      block = λ part k b is.
          let bound : block_cost c (was part k b is).old ≤ allowed w rest part k (was part k b is).old = h.block part k (was part k b is).old (was part k b is).there in
          let same : block_cost c b + 0 ≤ allowed w rest part k b = bound_same part k 0 b (was part k b is) (omega arith) in omega arith;
      onward = λ part k b j d g none. bound_same part k (rest part j) b (was part k b g.from) (h.onward part k (was part k b g.from).old j (was part j d g.to).old (goes_old part k b j d g) ((was part j d g.to).at ∙ none));
      return = λ p k b part j d r none. h.return p k b part j (was part j d r.to).old (returns_old p k b part j d r) ((was part j d r.to).at ∙ none);
    }
