use Rattle.std.proofs.Common.{[], ◌∷◌, sym, ◌∙◌}
use Rattle.x86_step.specs.Transferred.{as_field}
use Rattle.x86_step.proofs.effect.write_fields.Goals as goal

pub returns-in-One : goal.returns-in-One
returns-in-One c = record { written = rw c.in-One.is (sym (c.write_next.ensures.written [])) }

pub returns-in-Two : goal.returns-in-Two
returns-in-Two c = record { written = rw c.in-Two.is (sym (c.write_next-values.ensures.written (as_field c.in-Two.b ∷ []) ∙ c.write_next-in-Two.ensures.written [])) }

pub returns-in-Three : goal.returns-in-Three
returns-in-Three c = record { written = rw c.in-Three.is (sym (c.write_next-values-in-Three.ensures.written (as_field c.in-Three.b ∷ as_field c.in-Three.c ∷ []) ∙ (c.write_next-values-in-Three-2.ensures.written (as_field c.in-Three.c ∷ []) ∙ c.write_next-in-Three.ensures.written []))) }
