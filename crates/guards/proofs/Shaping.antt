-- The unit that is made is in form and well shaped, and names few temporaries.
use Rattle.std.proofs.Common.{◌≡◌, ℕ, zero, suc, ◌^◌, ◌<◌, ◌==◌, ◌&&◌, ◌||◌, Bool, true, false, not, cond, List, [], ◌∷◌, map, length, get_or, All, Contains, Some, None, refl, sym, ap, ◌∙◌, subst, arith}
use Rattle.std.specs.List.{slice_get}
use Rattle.std.proofs.lemmas.List.{length-map}
use Rattle.std.proofs.lemmas.List.Elements.{All-append, All-cons, All-from_recursion, All-contains}
use Rattle.std.proofs.lemmas.Option.{slice_get-get_or}
use Rattle.x86_values.specs.Sizes.{IsSize}
use Rattle.memory.specs.Memory.{wrapped}
use Rattle.flag_ir.specs.declared.variable.Var.{Var}
use Rattle.flag_ir.specs.declared.variable.Var.TheVariants as var
use Rattle.flag_ir.specs.declared.variable.Term.{Term}
use Rattle.flag_ir.specs.declared.variable.Term.TheVariants as term
use Rattle.flag_ir.specs.declared.operation.Op.{Op}
use Rattle.flag_ir.specs.declared.operation.Op.TheVariants as op
use Rattle.flag_ir.specs.declared.block.Block.{Block}
use Rattle.flag_ir.specs.declared.block.Exit.{Exit}
use Rattle.flag_ir.specs.declared.block.Exit.TheVariants as exit
use Rattle.flag_ir.specs.declared.procedure.Proc.{Proc}
use Rattle.flag_ir.specs.Entering.{CodeUnit}
use Rattle.flag_ir.specs.Form.{IsTerm, IsOp, IsExit, IsFrameless, IsFramelessExit, IsFramelessBlock, IsInForm}
use Rattle.flag_ir.specs.Shape.{Part, GoesTo, named_by, IsWellShaped}
use Rattle.private_memory.specs.PrivateArea.{is_private}
use Rattle.guards.specs.Temporaries.{IsVarBelow, IsTermBelow, IsOpBelow, IsExitBelow, IsBlockBelow, HasTempsBelow}
use Rattle.guards.specs.Guarding.{literal, guarded_load, guarded_store, guarded_system, guarded, guarded_ops, is_stop, has_loose_stop, turn_store, turn_stores, guarded_block, guarded_unit, AreAddresses}
use Rattle.guards.specs.Lowering.{names_of}
use Rattle.guards.proofs.Keeping.{all_first, all_rest}
use Rattle.guards.proofs.GuardedLists.{lists_frameless}
use Rattle.guards.proofs.GuardedBlocks.{number_mapped}
use Rattle.guards.proofs.SideBySide.{IsAsked, among}

-- ---- the block of which one is made
pub record IsMade (loose : Bool) (blocks : List Block) (k : ℕ) (c : Block) : Type 0 where
  pub of : Block
  pub there : slice_get blocks k ≡ Some of
  pub makes : guarded_block loose of ≡ c

pub made_at : (loose : Bool) (blocks : List Block) (k : ℕ) (c : Block) → slice_get (map (guarded_block loose) blocks) k ≡ Some c → IsMade loose blocks k c
made_at loose [] k c e = absurd cc
made_at loose (b ∷ bs) zero c e = record { of = b; there = refl; makes = cc }
made_at loose (b ∷ bs) (suc k) c e = let m = made_at loose bs k c e in record { of = m.of; there = m.there; makes = m.makes }

contains_at : (blocks : List Block) (b : Block) → Contains blocks b → (k : ℕ) × (slice_get blocks k ≡ Some b)
contains_at blocks b c = (c.0, slice_get-get_or blocks c.0 b c.1 ∙ ap Some c.2)

pub none_in : {A : Type 0} (p : Proc) → Contains [] p → A
none_in p c = absurd (let low : c.0 < 0 = c.1 in omega arith)

-- what holds of each block that is made holds of each
each_made : (loose : Bool) (blocks : List Block) (P : Block → Type 0) → ((b : Block) → Contains blocks b → P (guarded_block loose b)) → (c : Block) → Contains (map (guarded_block loose) blocks) c → P c
each_made loose blocks P h c among_them =
    let at = contains_at (map (guarded_block loose) blocks) c among_them in
    let m = made_at loose blocks at.0 c at.1 in
    subst P m.makes (h m.of (among blocks at.0 m.of m.there))

all_made : (loose : Bool) (blocks : List Block) (P : Block → Type 0) → ((b : Block) → Contains blocks b → P (guarded_block loose b)) → All P (map (guarded_block loose) blocks)
all_made loose blocks P h = λ k d l. by k d (slice_get-get_or (map (guarded_block loose) blocks) k d l) l
  where
    by : (k : ℕ) (d : Block) → slice_get (map (guarded_block loose) blocks) k ≡ Some (get_or (map (guarded_block loose) blocks) k d) → k < length (map (guarded_block loose) blocks) → P (get_or (map (guarded_block loose) blocks) k d)
    by k d e l = let m = made_at loose blocks k _ e in subst P m.makes (h m.of (among blocks k m.of m.there))

-- ---- the lists are in form
stores_all : (P : Op → Type 0) → ((at : ℕ) → P (turn_store at)) → (loose : Bool) (at : ℕ) (e : Exit) → All P (turn_stores loose at e)
stores_all P h loose at e = by (not (at == 0) && (loose || is_stop e))
  where
    by : (b : Bool) → All P (cond b (turn_store at ∷ []) [])
    by true = All-from_recursion P (turn_store at ∷ []) (h at, tt)
    by false = All-from_recursion P [] tt

literal_form : (n : ℕ) → IsTerm 0 (literal n)
unfolding literal
literal_form n = elim (is_private (wrapped n)) as (λ b. IsTerm 0 (cond b (term.Word 0) (term.Word n))) [ true ↦ tt | false ↦ tt ]

four : IsSize 4
four = refl

one_form : (o : Op) → IsOp 0 o → All (IsOp 0) (o ∷ [])
one_form o f = All-from_recursion (IsOp 0) (o ∷ []) (f, tt)

register : 1 < 8
register = omega arith

guarded_form : (o : Op) → IsOp 0 o → All (IsOp 0) (guarded o)
guarded_form (op.Load to size (term.Var x)) f = All-from_recursion (IsOp 0) (guarded_load to size (term.Var x)) ((tt, f.2, tt), ((tt, tt, tt), ((tt, tt, tt, f.2), ((f.0, f.1, tt), tt))))
guarded_form (op.Load to size (term.Word n)) f = one_form (op.Load to size (literal n)) (f.0, f.1, literal_form n)
guarded_form (op.Store size (term.Var x) from) f = All-from_recursion (IsOp 0) (guarded_store size (term.Var x) from) ((tt, f.1, tt), ((tt, tt, tt), ((tt, tt, tt, f.1), ((f.0, tt, f.2), tt))))
guarded_form (op.Store size (term.Word n) from) f = one_form (op.Store size (literal n) from) (f.0, literal_form n, f.2)
guarded_form op.System f = All-from_recursion (IsOp 0) guarded_system ((tt, register), ((tt, register, tt), ((tt, tt, tt), ((register, tt, tt, register), (tt, ((register, tt), tt))))))
guarded_form (op.Set to from) f = one_form (op.Set to from) f
guarded_form (op.Calc to c left right) f = one_form (op.Calc to c left right) f
guarded_form (op.Forget to) f = one_form (op.Forget to) f
guarded_form (op.Pick to test x y) f = one_form (op.Pick to test x y) f
guarded_form (op.Need from) f = one_form (op.Need from) f
guarded_form (op.Divide q r high low by size signed) f = one_form (op.Divide q r high low by size signed) f
guarded_form (op.NearLoad to size at) f = one_form (op.NearLoad to size at) f
guarded_form (op.NearStore size at from) f = one_form (op.NearStore size at from) f
guarded_form (op.Get to size offset) f = one_form (op.Get to size offset) f
guarded_form (op.Put size offset from) f = one_form (op.Put size offset from) f
guarded_form op.NearSystem f = one_form op.NearSystem f

lists_all : (P Q : Op → Type 0) → ((o : Op) → P o → All Q (guarded o)) → (ops : List Op) → All P ops → All Q (guarded_ops ops)
lists_all P Q h [] all = All-from_recursion Q [] tt
lists_all P Q h (o ∷ os) all = All-append Q (guarded o) (guarded_ops os) (h o (all_first P o os all)) (lists_all P Q h os (all_rest P o os all))

-- ---- and name few temporaries
var_more : (x : Var) → IsVarBelow 1399997 x → IsVarBelow 1400000 x
var_more (var.Reg n) h = tt
var_more (var.Flag n) h = tt
var_more (var.Temp n) h = omega (arith, h)
var_more (var.Local n) h = tt

term_more : (x : Term) → IsTermBelow 1399997 x → IsTermBelow 1400000 x
term_more (term.Var x) h = var_more x h
term_more (term.Word n) h = tt

op_more : (o : Op) → IsOpBelow 1399997 o → IsOpBelow 1400000 o
op_more (op.Set to from) h = (var_more to h.0, term_more from h.1)
op_more (op.Calc to c x y) h = (var_more to h.0, term_more x h.1, term_more y h.2)
op_more (op.Forget to) h = var_more to h
op_more (op.Pick to test x y) h = (var_more to h.0, term_more test h.1, term_more x h.2, term_more y h.3)
op_more (op.Need from) h = term_more from h
op_more (op.Divide q r high low by size signed) h = (var_more q h.0, var_more r h.1, term_more high h.2, term_more low h.3, term_more by h.4)
op_more (op.Load to size at) h = (var_more to h.0, term_more at h.1)
op_more (op.Store size at from) h = (term_more at h.0, term_more from h.1)
op_more (op.NearLoad to size at) h = (var_more to h.0, term_more at h.1)
op_more (op.NearStore size at from) h = (term_more at h.0, term_more from h.1)
op_more (op.Get to size offset) h = var_more to h
op_more (op.Put size offset from) h = term_more from h
op_more op.System h = tt
op_more op.NearSystem h = tt

exit_more : (e : Exit) → IsExitBelow 1399997 e → IsExitBelow 1400000 e
exit_more (exit.Go n) h = tt
exit_more (exit.Branch test m n) h = term_more test h
exit_more (exit.Jump to) h = term_more to h
exit_more (exit.CallProc entry back) h = tt
exit_more exit.Return h = tt
exit_more exit.Fault h = tt
exit_more exit.Stop h = tt

literal_below : (n : ℕ) → IsTermBelow 1400000 (literal n)
unfolding literal
literal_below n = elim (is_private (wrapped n)) as (λ b. IsTermBelow 1400000 (cond b (term.Word 0) (term.Word n))) [ true ↦ tt | false ↦ tt ]

one_below : (o : Op) → IsOpBelow 1400000 o → All (IsOpBelow 1400000) (o ∷ [])
one_below o f = All-from_recursion (IsOpBelow 1400000) (o ∷ []) (f, tt)

first_fresh : 1399997 < 1400000
first_fresh = omega arith

second_fresh : 1399998 < 1400000
second_fresh = omega arith

third_fresh : 1399999 < 1400000
third_fresh = omega arith

guarded_below : (o : Op) → IsOpBelow 1399997 o → All (IsOpBelow 1400000) (guarded o)
guarded_below (op.Load to size (term.Var x)) f = All-from_recursion (IsOpBelow 1400000) (guarded_load to size (term.Var x)) ((first_fresh, var_more x f.1, tt), ((second_fresh, first_fresh, tt), ((third_fresh, second_fresh, tt, var_more x f.1), ((var_more to f.0, third_fresh), tt))))
guarded_below (op.Load to size (term.Word n)) f = one_below (op.Load to size (literal n)) (var_more to f.0, literal_below n)
guarded_below (op.Store size (term.Var x) from) f = All-from_recursion (IsOpBelow 1400000) (guarded_store size (term.Var x) from) ((first_fresh, var_more x f.0, tt), ((second_fresh, first_fresh, tt), ((third_fresh, second_fresh, tt, var_more x f.0), ((third_fresh, term_more from f.1), tt))))
guarded_below (op.Store size (term.Word n) from) f = one_below (op.Store size (literal n) from) (literal_below n, term_more from f.1)
guarded_below op.System f = All-from_recursion (IsOpBelow 1400000) guarded_system ((third_fresh, tt), ((first_fresh, tt, tt), ((second_fresh, first_fresh, tt), ((tt, second_fresh, tt, tt), (tt, ((tt, third_fresh), tt))))))
guarded_below (op.Set to from) f = one_below (op.Set to from) (op_more (op.Set to from) f)
guarded_below (op.Calc to c left right) f = one_below (op.Calc to c left right) (op_more (op.Calc to c left right) f)
guarded_below (op.Forget to) f = one_below (op.Forget to) (op_more (op.Forget to) f)
guarded_below (op.Pick to test x y) f = one_below (op.Pick to test x y) (op_more (op.Pick to test x y) f)
guarded_below (op.Need from) f = one_below (op.Need from) (op_more (op.Need from) f)
guarded_below (op.Divide q r high low by size signed) f = one_below (op.Divide q r high low by size signed) (op_more (op.Divide q r high low by size signed) f)
guarded_below (op.NearLoad to size at) f = one_below (op.NearLoad to size at) (op_more (op.NearLoad to size at) f)
guarded_below (op.NearStore size at from) f = one_below (op.NearStore size at from) (op_more (op.NearStore size at from) f)
guarded_below (op.Get to size offset) f = one_below (op.Get to size offset) (op_more (op.Get to size offset) f)
guarded_below (op.Put size offset from) f = one_below (op.Put size offset from) (op_more (op.Put size offset from) f)
guarded_below op.NearSystem f = one_below op.NearSystem tt

-- ---- names
pub names_kept : (loose : Bool) (blocks : List Block) → map names_of (map (guarded_block loose) blocks) ≡ map names_of blocks
names_kept loose [] = refl
names_kept loose (b ∷ bs) = ap (λ l. (b.number, b.at) ∷ l) (names_kept loose bs)

pub addresses_kept : (loose : Bool) (blocks : List Block) → AreAddresses (map (guarded_block loose) blocks) → AreAddresses blocks
addresses_kept loose [] h = λ k d l. absurd (omega arith)
addresses_kept loose (b ∷ bs) h =
    All-cons (λ (x : Block). x.at < 2 ^ 32) b bs (all_first (λ (x : Block). x.at < 2 ^ 32) (guarded_block loose b) (map (guarded_block loose) bs) h)
    (addresses_kept loose bs (all_rest (λ (x : Block). x.at < 2 ^ 32) (guarded_block loose b) (map (guarded_block loose) bs) h))

module _ (u : CodeUnit) (asked : IsAsked u) where
  abbrev loose : Bool
  loose = has_loose_stop u.whole

  made_frameless : All IsFramelessBlock (guarded_unit u).whole
  made_frameless = all_made loose u.whole IsFramelessBlock (λ b c. let f = All-contains IsFramelessBlock u.whole b asked.shape.whole c in record {
    ops = All-append IsFrameless (turn_stores loose b.at b.exit) (guarded_ops b.ops) (stores_all IsFrameless (λ at. tt) loose b.at b.exit) (lists_frameless b.ops f.ops);
    exit = f.exit;
  })

  exit_form : (m n : ℕ) → m ≡ n → (e : Exit) → IsFramelessExit e → IsExit 0 m u.procs e → IsExit 0 n [] e
  exit_form m n same (exit.Go k) f h = omega (arith, h)
  exit_form m n same (exit.Branch test j k) f h = (h.0, omega (arith, h.1), omega (arith, h.2))
  exit_form m n same (exit.Jump to) f h = h
  exit_form m n same (exit.CallProc entry back) f h = absurd f
  exit_form m n same exit.Return f h = tt
  exit_form m n same exit.Fault f h = tt
  exit_form m n same exit.Stop f h = tt

  pub in_form : IsInForm (guarded_unit u)
  in_form = record {
    whole = record {
      numbers = λ k c e. let m = made_at loose u.whole k c e in sym (ap (λ (d : Block). d.number) m.makes) ∙ asked.form.whole.numbers k m.of m.there;
      ops = each_made loose u.whole (λ c. All (IsOp 0) c.ops) (λ b c. All-append (IsOp 0) (turn_stores loose b.at b.exit) (guarded_ops b.ops) (stores_all (IsOp 0) (λ at. (four, tt, tt)) loose b.at b.exit) (lists_all (IsOp 0) (IsOp 0) guarded_form b.ops (asked.form.whole.ops b c)));
      exits = each_made loose u.whole (λ c. IsExit 0 (length (map (guarded_block loose) u.whole)) [] c.exit) (λ b c. exit_form (length u.whole) (length (map (guarded_block loose) u.whole)) (sym (length-map u.whole (guarded_block loose))) b.exit (All-contains IsFramelessBlock u.whole b asked.shape.whole c).exit (asked.form.whole.exits b c));
    };
    procs = λ p c. none_in p c;
    lowered = λ l. record { procs = refl; blocks = made_frameless };
  }

  same_goes : (k : ℕ) (c : Block) (j : ℕ) (d : Block) (g : GoesTo (guarded_unit u) None k c j d) → c.at ≡ 0 → d.at ≡ 0 → k < j
  same_goes k c j d g none none' =
      let m = made_at loose u.whole k c g.from.1 in
      let n = made_at loose u.whole j d g.to.1 in
      asked.shape.onward None k m.of j n.of
      (record {
        from = (tt, m.there);
        to = (tt, n.there);
        number = g.number;
        named = subst (λ (e : Exit). Contains (named_by e) g.number) (sym (ap (λ (b : Block). b.exit) m.makes)) g.named;
        there = sym (number_mapped loose g.number u.whole) ∙ g.there;
      })
      (ap (λ (b : Block). b.at) m.makes ∙ none) (ap (λ (b : Block). b.at) n.makes ∙ none')

  onward : (part : Part) (k : ℕ) (c : Block) (j : ℕ) (d : Block) → GoesTo (guarded_unit u) part k c j d → c.at ≡ 0 → d.at ≡ 0 → k < j
  onward None k c j d g none none' = same_goes k c j d g none none'
  onward (Some p) k c j d g none none' = none_in p g.from.0

  pub well_shaped : IsWellShaped (guarded_unit u)
  well_shaped = record {
    whole = made_frameless;
    onward = onward;
    return = λ p k b part j d g none none'. none_in p g.from.0;
    procs = λ p c. none_in p c;
    apart = λ i j p q e f same. absurd cc;
  }

  pub few_temps : HasTempsBelow 1400000 (guarded_unit u).whole
  few_temps = each_made loose u.whole (IsBlockBelow 1400000) (λ b c. record {
    ops = All-append (IsOpBelow 1400000) (turn_stores loose b.at b.exit) (guarded_ops b.ops) (stores_all (IsOpBelow 1400000) (λ at. (tt, tt)) loose b.at b.exit) (lists_all (IsOpBelow 1399997) (IsOpBelow 1400000) guarded_below b.ops (asked.temps b c).ops);
    exit = exit_more b.exit (asked.temps b c).exit;
  })
