use Rattle.std.proofs.Common.{◌≡◌, Contains, sym, ap, ◌∙◌, subst}
use Rattle.image.specs.declared.image.Image.{Image}
use Rattle.plan_types.specs.FoundCode as spec
use Rattle.plan_types.specs.FoundCode.{Stands, IsLeader, IsProcedureFrom}
use Rattle.code_discovery.specs.Kept.{GivenIn}
use Rattle.code_discovery.proofs.discovery.kept_of.Goals as goal

pub add_procedure-requires-clause-leads : goal.add_procedure-requires-clause-leads
add_procedure-requires-clause-leads c =
    let e : c.behind-scan.inside.entry ≡ c.args.scan.now.entry = ap (λ (i : Image). i.entry) c.behind-scan.view_is ∙ ap (λ (i : Image). i.entry) c.image.ensures in
    subst (λ n. Stands c.args.scan.now n → IsLeader c.args.scan.now (GivenIn c.args.scan.now c.new-kept.result.stored) n) (sym e) (λ s. spec.entry s)

pub add_procedure-requires-clause-named : goal.add_procedure-requires-clause-named
add_procedure-requires-clause-named c =
    let e : c.behind-scan.inside.entry ≡ c.args.scan.now.entry = ap (λ (i : Image). i.entry) c.behind-scan.view_is ∙ ap (λ (i : Image). i.entry) c.image.ensures in
    subst (λ n. Stands c.args.scan.now n → IsProcedureFrom c.args.scan.now (GivenIn c.args.scan.now c.new-kept.result.stored) n) (sym e) (λ s. spec.entry s)

pub returns-clause-whole : goal.returns-clause-whole
returns-clause-whole c =
    let e : c.behind-scan.inside.entry ≡ c.args.scan.now.entry = ap (λ (i : Image). i.entry) c.behind-scan.view_is ∙ ap (λ (i : Image). i.entry) c.image.ensures in
    let entry : Stands c.args.scan.now c.args.scan.now.entry → Contains c.add_procedure.new.self.procs c.args.scan.now.entry =
    subst (λ n. Stands c.args.scan.now n → Contains c.add_procedure.new.self.procs n) e c.in_ok-add_procedure.ensures.kept in
    record {
      closed = c.in_ok-settle_all-2.ensures.closed;
      entry = λ s. c.in_ok-settle_all-2.ensures.grows.procs c.args.scan.now.entry (c.in_ok-add_stored.ensures.grows.procs c.args.scan.now.entry (c.in_ok-settle_all.ensures.grows.procs c.args.scan.now.entry (entry s)));
      stored = λ a st s. c.in_ok-settle_all-2.ensures.grows.procs a (c.in_ok-add_stored.ensures.kept a st s);
    }
