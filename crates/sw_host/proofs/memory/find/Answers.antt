use Rattle.std.proofs.Common.{Some, ap, sym, ◌∙◌}
use Rattle.std.specs.Cmp.Lexicographic.{pointwise}
use Rattle.std.specs.Bool.{nat_eq}
use Rattle.sw_host.proofs.MemoryLemmas.{find-drop}
use Rattle.sw_host.proofs.memory.find.Goals as goal

pub returns-then-eq : goal.returns-then-eq
returns-then-eq c =
    let at = find-drop c.args.files.now c.loop-file.file-index c.file-item.result c.args.name.now c.eq.result (c.eq.ensures ∙ ap (pointwise nat_eq c.args.name.now) c.as_slice.ensures.value) c.loop-file-test.true c.file-item.is in
    ap Some c.as_slice-then-eq.ensures.value ∙ sym (c.loop-file.invariant ∙ (rw c.if-eq.true at at))

pub loop-file-preserved : goal.loop-file-preserved
loop-file-preserved c =
    let at = find-drop c.args.files.now c.loop-file.file-index c.file-item.result c.args.name.now c.eq.result (c.eq.ensures ∙ ap (pointwise nat_eq c.args.name.now) c.as_slice.ensures.value) c.loop-file-test.true c.file-item.is in
    c.loop-file.invariant ∙ (rw c.if-eq.false at at)
