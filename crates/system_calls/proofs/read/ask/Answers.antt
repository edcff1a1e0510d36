use Rattle.std.proofs.Common.{◌≡◌, ◌≤◌, length, arith, sym, ◌∙◌}
use Rattle.std.proofs.lemmas.Grind.{common_steps}
use Rattle.std.proofs.lemmas.List.{length-take}
use Rattle.std.proofs.lemmas.Result.{err_from_is_err_and}
use Rattle.sw_host.specs.Chains.{tells_map, tells_none}
use Rattle.system_calls.proofs.Kept.{front_is_kept}
use Rattle.system_calls.proofs.Reading.{wants_memory, wants_memory_after, read_taken, read_failed}
use Rattle.system_calls.proofs.read.ask.Goals as goal

pub returns-in_err-keep-clause-makes : goal.returns-in_err-keep-clause-makes
returns-in_err-keep-clause-makes g c =
    let p = err_from_is_err_and c.from_residual.result c.from_residual.ensures.1 in
    rw p.1 (tells_none _ _ (λ a. wants_memory _ _ a c.in_err-keep.ensures.same.memory))

pub returns-in_err-buf-clause-makes : goal.returns-in_err-buf-clause-makes
returns-in_err-buf-clause-makes g c =
    let p = err_from_is_err_and c.from_residual-in_err-buf.result c.from_residual-in_err-buf.ensures.1 in
    rw p.1 (tells_none _ _ (λ a. wants_memory _ _ a c.in_ok-keep.ensures.same.memory))

pub returns-in_err-taken-clause-makes : goal.returns-in_err-taken-clause-makes
returns-in_err-taken-clause-makes g c =
    let p = err_from_is_err_and c.from_residual-in_err-taken.result c.from_residual-in_err-taken.ensures.1 in
    rw p.1 (tells_map _ _ _ _ c.in_err-taken.ensures.told (λ a b t. wants_memory_after _ _ a b c.in_ok-keep.ensures.same.memory t.1))

pub fill_kept-requires-clause-kept : goal.fill_kept-requires-clause-kept
fill_kept-requires-clause-kept g c =
    let few : c.in-Take.taken ≤ length c.as_mut_slice.result.now = rw c.in-Take.is at c.in_ok-taken.ensures.answer in
    let whole : length c.as_mut_slice.result.now ≡ c.args.room = grind (arith, common_steps) in
    front_is_kept c.args.at c.args.room _ c.args.pages.now c.keep.new.self c.requires.allowed c.in_ok-keep.ensures.same c.in_ok-keep.ensures.kept (omega (arith, length-take c.in-Take.taken c.as_slice.result.now))

pub returns-in-Take-clause-makes : goal.returns-in-Take-clause-makes
returns-in-Take-clause-makes g c =
    let told = rw c.in-Take.is at c.in_ok-taken.ensures.told in
    let whole : length c.as_mut_slice.result.now ≡ c.args.room = grind (arith, common_steps) in
    let same : c.as_slice.result.now ≡ c.take.new.buf = grind (arith, common_steps) in
    let filled = rw (same, c.in_ok-keep.ensures.same.memory) at c.fill_kept.ensures.fills in
    tells_map _ _ _ _ told (λ a b t. read_taken c.args.fd c.args.at c.args.room c.in-Take.taken _ _ _ _ a b whole filled t)

pub returns-clause-makes : goal.returns-clause-makes
returns-clause-makes g c =
    let told = rw c.in-Fail.is at c.in_ok-taken.ensures.told in
    tells_map _ _ _ _ told (λ a b t. read_failed c.args.fd c.args.at c.args.room c.in-Fail.number _ _ _ _ _ a b c.in_ok-keep.ensures.same.memory c.error.ensures t)
