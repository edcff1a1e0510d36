-- The small unit is in form, and its temporaries have names.
use Rattle.std.proofs.Common.{◌≡◌, ℕ, zero, suc, true, [], ◌∷◌, slice_get, ◌<◌, All, Contains, None, Some, refl, sym, ap, subst, arith}
use Rattle.std.proofs.lemmas.List.Elements.{All-nil, All-cons, All-contains}
use Rattle.flag_ir.specs.declared.block.Block.{Block}
use Rattle.flag_ir.specs.Entering.{CodeUnit}
use Rattle.flag_ir.specs.Shape.{Part, named_by, GoesTo, IsWellShaped}
use Rattle.flag_ir.specs.Form.{IsOp, IsExit, IsFrameless, IsFramelessBlock, IsInForm}
use Rattle.instr_choose.specs.Blocks.{OpHasNames, BlockHasNames, UnitHasNames}
use Rattle.instr_choose.specs.SmallUnit.{small_block, small_unit}

single : (P : Block → Type 0) → P small_block → (b : Block) → Contains (small_block ∷ []) b → P b
single P h b c = All-contains P (small_block ∷ []) b (All-cons P small_block [] h (All-nil P)) c

numbered : (k : ℕ) (b : Block) → slice_get (small_block ∷ []) k ≡ Some b → b.number ≡ k
numbered zero b e = let same : small_block ≡ b = cc in ap (λ (x : Block). x.number) (sym same)
numbered (suc k) b e = absurd cc

none_in : {X : Type 0} (x : X) → Contains [] x → ⊥
none_in x h = let few = h.1 in omega (arith, few)

in_form : IsInForm small_unit
in_form = record {
  whole = record {
    numbers = numbered;
    ops = single (λ (b : Block). All (IsOp 0) b.ops) (All-cons (IsOp 0) _ [] (omega arith, omega arith, tt) (All-nil (IsOp 0)));
    exits = single (λ (b : Block). IsExit 0 1 [] b.exit) tt;
  };
  procs = λ p h. absurd (none_in p h);
  lowered = λ _. record { procs = refl; blocks = All-cons IsFramelessBlock small_block [] (record { ops = All-cons IsFrameless _ [] tt (All-nil IsFrameless); exit = tt }) (All-nil IsFramelessBlock) };
}

names : UnitHasNames small_unit
names = All-cons BlockHasNames small_block [] (record { ops = All-cons OpHasNames _ [] (tt, tt, tt) (All-nil OpHasNames); exit = tt }) (All-nil BlockHasNames)

at_small : (k : ℕ) (b : Block) → slice_get (small_block ∷ []) k ≡ Some b → small_block ≡ b
at_small zero b e = cc
at_small (suc k) b e = absurd cc

never_on : (part : Part) (k : ℕ) (b : Block) (j : ℕ) (d : Block) → GoesTo small_unit part k b j d → b.at ≡ 0 → d.at ≡ 0 → k < j
never_on None k b j d g = absurd (none_in g.number (subst (λ (x : Block). Contains (named_by x.exit) g.number) (sym (at_small k b g.from.1)) g.named))
never_on (Some p) k b j d g = absurd (none_in p g.from.0)

well_shaped : IsWellShaped small_unit
well_shaped = record {
  whole = (in_form.lowered refl).blocks;
  onward = never_on;
  return = λ p k b part j d r. absurd (none_in p r.from.0);
  procs = λ p h. absurd (none_in p h);
  apart = λ i j p q e. absurd cc;
}

pub small_in_form : (u : CodeUnit) → u ≡ small_unit → IsInForm u
small_in_form u e = subst IsInForm (sym e) in_form

pub small_has_names : (u : CodeUnit) → u ≡ small_unit → UnitHasNames u
small_has_names u e = subst UnitHasNames (sym e) names

pub small_is_lowered : (u : CodeUnit) → u ≡ small_unit → u.lowered ≡ true
small_is_lowered u e = ap (λ (v : CodeUnit). v.lowered) e

pub small_is_well_shaped : (u : CodeUnit) → u ≡ small_unit → IsWellShaped u
small_is_well_shaped u e = subst IsWellShaped (sym e) well_shaped
