-- The unit that is made does what lowering promises.
use Rattle.std.proofs.Common.{◌≡◌, refl, ◌∙◌, subst, arith}
use Rattle.traces.specs.Trace.{Behaviour}
use Rattle.traces.specs.RunLaws.{RunLaws}
use Rattle.traces.specs.Turns.{RefinesByTurns}
use Rattle.flag_ir.specs.Entering.{CodeUnit}
use Rattle.flag_ir.specs.UnitRun.{UnitState, unit_run}
use Rattle.private_memory.specs.PrivateArea.{without_private}
use Rattle.guards.specs.Renumbering.{renumbered_unit}
use Rattle.guards.specs.RenumberingLaw.{Renumbers, RenumberingLaw}
use Rattle.guards.specs.Guarding.{has_loose_stop, guarded_unit, lowered_costing}
use Rattle.guards.specs.Lowering.{Lowers}
use Rattle.guards.specs.LoweringLaw.{LoweringLaw}
use Rattle.guards.proofs.SideBySide.{LawsBelow, IsAsked}
use Rattle.guards.proofs.Shaping.{names_kept, in_form, well_shaped, few_temps}
use Rattle.guards.proofs.Costing.{lowered_costs}
use Rattle.guards.proofs.Starting.{keeps}
use Rattle.guards.proofs.Safety.{keeps_apart}
use Rattle.guards.proofs.RenumberedRuns.{same_runs}
use Rattle.guards.proofs.RenumberedUnits.{names_same, temps_small, addresses_new, form_same, shape_same, bounds_same}
use Rattle.guards.proofs.RenumberedCosts.{lowered_plain}

pub renumbers : RunLaws UnitState → RenumberingLaw
renumbers runs u = record {
  runs = same_runs u runs;
  form = form_same u;
  shape = shape_same u;
  lowered = refl;
  procs = refl;
  ats = names_same u.whole;
  temps = temps_small 524289 (omega arith) u.whole;
  costs = λ c w rest plain. bounds_same u c w rest plain;
}

-- where the temporaries have small numbers
guarded_lowers : LawsBelow → (u : CodeUnit) → IsAsked u → Lowers u (guarded_unit u)
guarded_lowers laws u asked = record {
  form = in_form u asked;
  shape = well_shaped u asked;
  lowered = refl;
  procs = refl;
  keeps = keeps laws u asked;
  apart = keeps_apart laws u asked;
  ats = names_kept (has_loose_stop u.whole) u.whole;
  costs = lowered_costs u;
  temps = few_temps u asked;
}

pub lowers : LawsBelow → LoweringLaw
lowers laws u form shape plain alone few addresses =
    let new : Renumbers u (renumbered_unit u) = renumbers laws.runs u in
    let asked : IsAsked (renumbered_unit u) = record { form = new.form form; shape = new.shape shape; plain = plain; alone = alone; temps = temps_small 1399997 (omega arith) u.whole few; addresses = addresses_new u.whole addresses } in
    let low : Lowers (renumbered_unit u) (guarded_unit (renumbered_unit u)) = guarded_lowers laws (renumbered_unit u) asked in
    record {
      form = low.form;
      shape = low.shape;
      lowered = low.lowered;
      procs = low.procs;
      keeps = λ m entry esp0 stack left bytes is_usual start environment.
          let same : unit_run (renumbered_unit u) (without_private m) entry esp0 stack left ≡ unit_run u (without_private m) entry esp0 stack left = λ i n. new.runs (without_private m) entry esp0 stack left n i in
          subst (λ (r : Behaviour). RefinesByTurns r (unit_run (guarded_unit (renumbered_unit u)) m entry esp0 stack left)) same (low.keeps m entry esp0 stack left bytes is_usual start environment);
      apart = low.apart;
      ats = low.ats ∙ new.ats;
      costs = λ c w store rest ignores small bound. low.costs c w store rest ignores small (new.costs (lowered_costing c) w rest (lowered_plain c ignores) bound);
      temps = low.temps;
    }
