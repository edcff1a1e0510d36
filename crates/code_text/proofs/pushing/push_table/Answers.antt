use Rattle.std.proofs.Common.{ap, length, arith}
use Rattle.std.proofs.lemmas.List.{length-append}
use Rattle.std.proofs.lemmas.Result.{on_ok_weaker}
use Rattle.code_text.specs.KeptPlaces.{places_in}
use Rattle.code_text.specs.Texts.{before_test}
use Rattle.code_text.proofs.Pushed.{table_pushed}
use Rattle.code_text.proofs.pushing.push_table.Goals as goal

pub push_jcc-requires : goal.push_jcc-requires
push_jcc-requires c =
    let before = before_test (places_in c.args.places.now) c.args.to in
    let whole = ap length c.in_ok-push_before_test.ensures in
    let parts = length-append c.args.out.now.items before in
    let short = c.size_laws.ensures.before (places_in c.args.places.now) c.args.to c.has_fields.ensures c.requires.spelled in
    omega (arith, whole, parts, short, c.requires.few)

pub returns : goal.returns
returns c =
    on_ok_weaker c.push_best-2.result
    (λ e. table_pushed c.args.places.now c.args.to c.args.out.now.items c.push_before_test.new.out.items c.push_jcc.new.out.items c.push_best.new.out.items c.push_best-2.new.out.items c.stop.result c.look_up.result c.enter.result c.in_ok-push_before_test.ensures c.stop.ensures c.in_ok-push_jcc.ensures c.look_up.ensures.is c.in_ok-push_best.ensures c.enter.ensures.is e)
    c.push_best-2.ensures
