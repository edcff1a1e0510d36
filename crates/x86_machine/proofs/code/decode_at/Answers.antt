use Rattle.std.proofs.Common.{ap, sym, ◌∙◌, refl}
use Rattle.x86_grammar.specs.Front.{front}
use Rattle.x86_code.specs.Code.{code_of}
use Rattle.x86_machine.specs.Kept.{code_by}
use Rattle.x86_machine.proofs.Decoding.{none_decoded, outside_is_none, short_is_none}
use Rattle.x86_machine.proofs.code.decode_at.Goals as goal

pub returns-in-One : goal.returns-in-One
unfolding code_by code_of
returns-in-One c = sym (ap front (sym c.copy_code-count.ensures.bytes) ∙ (c.in-One.ensures.computed c.in-One.instr c.in-One.len).0 refl)

pub returns-in-Outside : goal.returns-in-Outside
unfolding code_by code_of
returns-in-Outside c = none_decoded _ _ c.in-Outside.ensures.computed outside_is_none ∙ ap front c.copy_code-count.ensures.bytes

pub returns-in-Short : goal.returns-in-Short
unfolding code_by code_of
returns-in-Short c = none_decoded _ _ c.in-Short.ensures.computed short_is_none ∙ ap front c.copy_code-count.ensures.bytes
