use Rattle.std.proofs.Common.{◌<◌, arith}
use Rattle.std.proofs.lemmas.List.Elements.{All-from_get_or}
use Rattle.sw_top.specs.Texts.{texts}
use Rattle.sw_top.proofs.running.start_over.Goals as goal

pub start-requires : goal.start-requires
start-requires c =
    let words = texts c.args.words.now in
    let bytes = All-from_get_or (λ b. b < 256) c.args.stack.now 0 (λ i h. omega (arith, c.type_inv.stack i)) in
    let law = c.stack_laws.ensures words c.requires.fits (rw c.requires.stack at bytes) in
    rw (c.first_esp.ensures, c.requires.stack) law
