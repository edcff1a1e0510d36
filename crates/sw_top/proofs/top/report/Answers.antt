use Rattle.std.proofs.Common.{ℕ, List, Option, Some, refl, sym, subst}
use Rattle.sw_host.specs.Told.{Tells}
use Rattle.sw_host.specs.Chains.{tells_map, tells_none}
use Rattle.sw_top.specs.Serves.{SaysLine}
use Rattle.sw_top.proofs.TellLemmas.{has_cause}
use Rattle.sw_top.proofs.top.report.Goals as goal

pub returns-in-Some-clause-says : goal.returns-in-Some-clause-says
returns-in-Some-clause-says g c =
    let P = λ (o : Option (List ℕ)). Tells (g.H.Host.told c.args.host.now) (g.H.Host.told c.line.new.self) (SaysLine o) in
    subst P (sym c.in-Some.ensures) (tells_map _ _ _ (SaysLine (Some c.in-Some.text.bytes)) (rw c.as_str.ensures.value at c.line.ensures.told) (λ a b p. (c.line.result, p)))

pub returns-in-Some-clause-faults : goal.returns-in-Some-clause-faults
returns-in-Some-clause-faults g c = has_cause _ _ c.line.result c.line.ensures.cause

pub returns-in_default-clause-says : goal.returns-in_default-clause-says
returns-in_default-clause-says g c =
    let P = λ (o : Option (List ℕ)). Tells (g.H.Host.told c.args.host.now) (g.H.Host.told c.args.host.now) (SaysLine o) in
    subst P (sym c.in_default.ensures) (tells_none _ _ (λ a. refl))
