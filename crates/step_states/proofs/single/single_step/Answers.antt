use Rattle.std.proofs.Common.{◌≡◌, ℕ, Option, Some, None, refl, sym, subst}
use Rattle.x86_types.specs.declared.instr.Instr.{Instr}
use Rattle.x86_grammar.specs.Front.{front}
use Rattle.mem_pages.specs.Contents.{memory_in}
use Rattle.step_states.specs.Single.{StepsBy}
use Rattle.step_states.proofs.single.single_step.Goals as goal

none_if : (o : Option (Instr × ℕ)) → ((i : Instr) (len : ℕ) → o ≡ Some (i, len) → ⊥) → o ≡ None
none_if None h = refl
none_if (Some p) h = absurd (h p.0 p.1 refl)

pub returns-in_ok-step_one-in-One : goal.returns-in_ok-step_one-in-One
returns-in_ok-step_one-in-One c =
    let is : front c.args.bytes.now ≡ Some (c.in-One.instr, c.in-One.len) = (c.decode.ensures.computed c.in-One.instr c.in-One.len).0 c.in-One.is in
    let P : Option (Instr × ℕ) → Type 0 = λ o. StepsBy o c.in_ok-step_one-in-One.field-0 c.args.cpu.now (memory_in c.args.pages.now) c.step_one.new.cpu (memory_in c.step_one.new.mem) in
    subst P (sym is) c.in_ok-step_one-in-One.ensures.steps

pub returns-in_default : goal.returns-in_default
returns-in_default c =
    (none_if (front c.args.bytes.now) (λ i len e. c.in_default.not-One i len ((c.decode.ensures.computed i len).1 e)), record { cpu = refl; memory = refl })
