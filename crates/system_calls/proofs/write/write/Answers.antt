use Rattle.std.proofs.Common.{arith, sym, ◌∙◌, refl}
use Rattle.std.proofs.lemmas.Result.{err_from_is_err_and}
use Rattle.sw_host.specs.Chains.{tells_map, tells_none}
use Rattle.system_calls.proofs.Reading.{wants_memory, wants_memory_after, write_refused, write_stopped, write_moved, write_failed}
use Rattle.system_calls.proofs.write.write.Goals as goal

pub returns-in_err-result-clause-makes : goal.returns-in_err-result-clause-makes
returns-in_err-result-clause-makes g c =
    let p = err_from_is_err_and c.from_residual.result c.from_residual.ensures.1 in
    rw p.1 (tells_none _ _ (λ a. wants_memory _ _ a refl))

pub returns-in-Refused-clause-makes : goal.returns-in-Refused-clause-makes
returns-in-Refused-clause-makes g c =
    let plan = rw c.in-Refused.is at c.in_ok-result.ensures in
    tells_none _ _ (λ a. write_refused c.args.fd c.args.at c.args.count c.in-Refused.result _ a (sym plan))

pub returns-in-Stops-clause-makes : goal.returns-in-Stops-clause-makes
returns-in-Stops-clause-makes g c =
    let plan = rw c.in-Stops.is at c.in_ok-result.ensures in
    tells_none _ _ (λ a. write_stopped c.args.fd c.args.at c.args.count _ a (sym plan))

pub returns-in_err-moved-in-Asks-clause-makes : goal.returns-in_err-moved-in-Asks-clause-makes
returns-in_err-moved-in-Asks-clause-makes g c =
    let p = err_from_is_err_and c.from_residual-in_err-moved-in-Asks.result c.from_residual-in_err-moved-in-Asks.ensures.1 in
    rw p.1 (tells_map _ _ _ _ c.in_err-moved-in-Asks.ensures.told (λ a b t. wants_memory_after _ _ a b refl t))

pub returns-in-Take-clause-makes : goal.returns-in-Take-clause-makes
returns-in-Take-clause-makes g c =
    let plan = rw c.in-Asks.is at c.in_ok-result.ensures in
    let told = rw (c.in-Take.is, c.as_slice.ensures.value) at c.in_ok-moved-in-Asks.ensures.told in
    tells_map _ _ _ _ told (λ a b t. write_moved c.args.fd c.args.at c.args.count c.in-Take.moved c.in-Asks.bytes.items _ a b (sym plan) t)

pub returns-clause-makes : goal.returns-clause-makes
returns-clause-makes g c =
    let plan = rw c.in-Asks.is at c.in_ok-result.ensures in
    let told = rw (c.in-Fail.is, c.as_slice.ensures.value) at c.in_ok-moved-in-Asks.ensures.told in
    tells_map _ _ _ _ told (λ a b t. write_failed c.args.fd c.args.at c.args.count c.in-Fail.number _ c.in-Asks.bytes.items _ a b (sym plan) c.error.ensures t)
