use Rattle.std.proofs.Common.{ap, sym, ◌∙◌, refl}
use Rattle.x86_grammar.specs.Front.{front}
use Rattle.x86_code.specs.Code.{code_of}
use Rattle.code_scan.specs.Places.{placed}
use Rattle.code_scan.proofs.Copying.{none_decoded, outside_is_none, short_is_none}
use Rattle.code_scan.proofs.indexed.IndexedImage.place_at.Goals as goal

pub returns-in-One-clause-place : goal.returns-in-One-clause-place
unfolding code_of
returns-in-One-clause-place c = ap (placed c.args.at) (sym (ap front (sym c.copy_code-count.ensures.bytes) ∙ (c.in-One.ensures.computed c.in-One.instr c.in-One.len).0 refl))

pub returns-in-Outside-clause-place : goal.returns-in-Outside-clause-place
unfolding code_of
returns-in-Outside-clause-place c = ap (placed c.args.at) (none_decoded _ _ c.in-Outside.ensures.computed outside_is_none ∙ ap front c.copy_code-count.ensures.bytes)

pub returns-in-Short-clause-place : goal.returns-in-Short-clause-place
unfolding code_of
returns-in-Short-clause-place c = ap (placed c.args.at) (none_decoded _ _ c.in-Short.ensures.computed short_is_none ∙ ap front c.copy_code-count.ensures.bytes)
