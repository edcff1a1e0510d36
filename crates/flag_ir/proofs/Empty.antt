-- A unit without blocks is sound.
use Rattle.std.proofs.Common.{◌≡◌, ℕ, Bool, List, [], Contains, Some, None, refl, sym, ap, ◌∙◌, subst, arith}
use Rattle.flag_ir.specs.declared.block.Block.{Block}
use Rattle.flag_ir.specs.declared.procedure.Proc.{Proc}
use Rattle.flag_ir.specs.Entering.{CodeUnit}
use Rattle.flag_ir.specs.Form.{IsInForm}
use Rattle.flag_ir.specs.Shape.{Part, IsBlock, IsWellShaped}
use Rattle.flag_ir.specs.Keeps.{IsSound}

abbrev without_blocks : Bool → CodeUnit
without_blocks lowered = record { lowered = lowered; whole = []; procs = [] }

none_in : {X : Type 0} (x : X) → Contains [] x → ⊥
none_in x h = let few = h.1 in omega (arith, few)

no_block : (lowered : Bool) (part : Part) (k : ℕ) (b : Block) → IsBlock (without_blocks lowered) part k b → ⊥
no_block lowered None k b h = let e : None ≡ Some b = h.1 in cc e
no_block lowered (Some p) k b h = none_in p h.0

in_form : (lowered : Bool) → IsInForm (without_blocks lowered)
in_form lowered = record {
  whole = record { numbers = λ k b h. let e : None ≡ Some b = h in absurd (cc e); ops = λ b h. absurd (none_in b h); exits = λ b h. absurd (none_in b h) };
  procs = λ p h. absurd (none_in p h);
  lowered = λ _. record { procs = refl; blocks = λ k d few. absurd (omega (arith, few)) };
}

well_shaped : (lowered : Bool) → IsWellShaped (without_blocks lowered)
well_shaped lowered = record {
  whole = λ k d few. absurd (omega (arith, few));
  onward = λ part k b j d h _ _. absurd (no_block lowered part k b h.from);
  return = λ p k b part j d h _ _. absurd (no_block lowered (Some p) k b h.from);
  procs = λ p h. absurd (none_in p h);
  apart = λ i j p q h _ _. let e : None ≡ Some p = h in absurd (cc e);
}

pub empty_is_sound : (unit : CodeUnit) → unit.whole ≡ [] → unit.procs ≡ [] → IsSound unit
empty_is_sound unit whole procs =
    let same : unit ≡ without_blocks unit.lowered = ap (λ (bs : List Block). record unit { whole = bs }) whole ∙ ap (λ (ps : List Proc). record unit { whole = []; procs = ps }) procs in
    subst (λ (u : CodeUnit). IsSound u) (sym same) (record { form = in_form unit.lowered; shape = well_shaped unit.lowered })
