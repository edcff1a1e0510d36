use Rattle.std.proofs.Common.{◌≡◌, Option, refl, subst}
use Rattle.sw_host.specs.Told.{Tells, Rose}
use Rattle.sw_host.specs.Chains.{tells_map, tells_then}
use Rattle.sw_top.specs.declared.command.Command.{Command}
use Rattle.sw_top.specs.declared.end.End.TheVariants.{Usage, Host}
use Rattle.sw_top.specs.Texts.{texts}
use Rattle.sw_top.specs.Serves.{Serves, PerformsThenSays}
use Rattle.sw_top.specs.Outcome.{Outcome}
use Rattle.sw_top.specs.Headline.{AfterDone, AfterRan}
use Rattle.sw_top.proofs.TellLemmas.{rose_after}
use Rattle.sw_top.proofs.Outcomes.{LawsBelow, is_fit, usage_outcome, outcome, after_done, after_ran}
use Rattle.sw_top.proofs.top.sw.Goals as goal

pub returns-in_default-clause-serves : goal.returns-in_default-clause-serves
returns-in_default-clause-serves g c =
    let P = λ (o : Option Command). Tells (g.H.Host.told c.args.host.now) (g.H.Host.told c.report.new.host) (Serves o Usage) in
    subst P c.in_default.ensures (tells_map _ _ _ _ c.report.ensures.says (λ a b p. record { is_usage = refl; says = p }))

pub returns-in_default-clause-outcome : goal.returns-in_default-clause-outcome
returns-in_default-clause-outcome g c =
    let rose = Rose (g.H.Host.faults c.args.host.now) (g.H.Host.faults c.report.new.host) in
    let P = λ (o : Option Command). Tells (g.H.Host.told c.args.host.now) (g.H.Host.told c.report.new.host) (Outcome o Usage rose) in
    subst P c.in_default.ensures (tells_map _ _ _ _ c.report.ensures.says (λ a b p. usage_outcome rose a b (record { is_usage = refl; says = p })))

pub returns-clause-serves : goal.returns-clause-serves
returns-clause-serves g c =
    let P = λ (o : Option Command). Tells (g.H.Host.told c.args.host.now) (g.H.Host.told c.report-2.new.host) (Serves o c.perform-end.result) in
    subst P c.in-Some.ensures (tells_then _ _ _ _ _ _ c.perform-end.ensures.performs c.report-2.ensures.says (λ a m b p q. record { before_line = m; performs = p; says = q }))

pub returns-clause-outcome : goal.returns-clause-outcome
returns-clause-outcome g c =
    let laws : LawsBelow = record { plain = c.image_laws.ensures.plain_is_accepted; stored_file = c.host_laws.ensures.stored_file; other_files = c.host_laws.ensures.other_files; alike = c.host_laws.ensures.fails_alike } in
    let fit = is_fit c.command_laws.ensures.rewrite (texts c.args.words.now) c.in-Some.command c.in-Some.ensures in
    let rose = Rose (g.H.Host.faults c.args.host.now) (g.H.Host.faults c.report-2.new.host) in
    let cause : c.perform-end.result ≡ Host → rose = λ e. rose_after _ _ _ (c.perform-end.ensures.cause e) c.report-2.ensures.faults in
    let P = λ (o : Option Command). Tells (g.H.Host.told c.args.host.now) (g.H.Host.told c.report-2.new.host) (Outcome o c.perform-end.result rose) in
    subst P c.in-Some.ensures (tells_then _ _ _ _ _ _ c.perform-end.ensures.performs c.report-2.ensures.says (λ a m b p q. outcome laws c.in-Some.command fit c.perform-end.result rose a b cause (record { before_line = m; performs = p; says = q })))

pub returns-clause-headline : goal.returns-clause-headline
returns-clause-headline g c e =
    let laws : LawsBelow = record { plain = c.image_laws.ensures.plain_is_accepted; stored_file = c.host_laws.ensures.stored_file; other_files = c.host_laws.ensures.other_files; alike = c.host_laws.ensures.fails_alike } in
    let fit = is_fit c.command_laws.ensures.rewrite (texts c.args.words.now) c.in-Some.command c.in-Some.ensures in
    let P = λ (o : Option Command). Tells (g.H.Host.told c.args.host.now) (g.H.Host.told c.report-2.new.host) (AfterDone o) in
    subst P c.in-Some.ensures (tells_then _ _ _ _ _ _ c.perform-end.ensures.performs c.report-2.ensures.says (λ a m b p q. after_done laws c.in-Some.command fit a b (subst (λ end. PerformsThenSays c.in-Some.command end a b) e (record { before_line = m; performs = p; says = q }))))

pub returns-clause-ran : goal.returns-clause-ran
returns-clause-ran g c e is =
    let P = λ (o : Option Command). Tells (g.H.Host.told c.args.host.now) (g.H.Host.told c.report-2.new.host) (AfterRan o e) in
    subst P c.in-Some.ensures (tells_then _ _ _ _ _ _ c.perform-end.ensures.performs c.report-2.ensures.says (λ a m b p q. after_ran c.in-Some.command e a b (subst (λ end. PerformsThenSays c.in-Some.command end a b) is (record { before_line = m; performs = p; says = q }))))
