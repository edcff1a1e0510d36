use Rattle.std.proofs.Common.{◌≡◌, sym, refl, subst}
use Rattle.outside.specs.Environment.{Environment}
use Rattle.memory.specs.SystemCall.{Called, system_call, read_call, write_call}
use Rattle.mem_pages.specs.Contents.{memory_in}
use Rattle.sw_host.specs.Told.{Tells}
use Rattle.sw_host.specs.Chains.{tells_map, tells_none}
use Rattle.system_calls.specs.Making.{Makes, as_request}
use Rattle.system_calls.proofs.Reading.{ends_run}
use Rattle.system_calls.proofs.call.make_call.Goals as goal

pub returns-in-Exit-clause-makes : goal.returns-in-Exit-clause-makes
returns-in-Exit-clause-makes g c = tells_none _ _ (λ a. ends_run _ _ _ a (c.in-Exit.ensures (memory_in c.args.pages.now)))

pub returns-in-OtherCall-clause-makes : goal.returns-in-OtherCall-clause-makes
returns-in-OtherCall-clause-makes g c = tells_none _ _ (λ a. ends_run _ _ _ a (c.in-OtherCall.ensures (memory_in c.args.pages.now)))

pub returns-in-Unspecified-clause-makes : goal.returns-in-Unspecified-clause-makes
returns-in-Unspecified-clause-makes g c = tells_none _ _ (λ a. ends_run _ _ _ a (c.in-Unspecified.ensures (memory_in c.args.pages.now)))

pub returns-in-Read-clause-makes : goal.returns-in-Read-clause-makes
returns-in-Read-clause-makes g c =
    let m = memory_in c.args.pages.now in
    let same : (λ left. read_call c.in-Read.fd c.in-Read.at c.in-Read.count m left) ≡ system_call (as_request c.args.request.now) m = λ i left. sym (c.in-Read.ensures m left) i in
    let P : (Environment → Called) → Type 0 = λ call. Tells (g.H.Host.told c.args.host.now) (g.H.Host.told c.read.new.host) (Makes call c.read.result m (memory_in c.read.new.pages)) in
    subst P same c.read.ensures.makes

pub returns-in-Write-clause-makes : goal.returns-in-Write-clause-makes
returns-in-Write-clause-makes g c =
    let m = memory_in c.args.pages.now in
    let same : (λ left. write_call c.in-Write.fd c.in-Write.at c.in-Write.count m left) ≡ system_call (as_request c.args.request.now) m = λ i left. sym (c.in-Write.ensures m left) i in
    let P : (Environment → Called) → Type 0 = λ call. Tells (g.H.Host.told c.args.host.now) (g.H.Host.told c.write.new.host) (Makes call c.write.result m m) in
    subst P same c.write.ensures.makes
