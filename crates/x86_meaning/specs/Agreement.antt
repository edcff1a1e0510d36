-- When two programs do the same from every start and over every environment.
use Rattle.std.specs.Prelude.{ℕ, List}
use Rattle.outside.specs.Environment.{Environment, IsEnvironment}
use Rattle.traces.specs.Trace.{Behaviour}
use Rattle.traces.specs.Plain.{AgreePlainly}
use Rattle.x86_meaning.specs.Run.{IsStart}

-- the behaviour of a program by esp at the start, the bytes of the stack from there on, and the environment
abbrev pub Program : Type 0
Program = ℕ → List ℕ → Environment → Behaviour

-- within n steps of the old program the new one takes at most so many steps for each, and so many more
abbrev pub steps_for_each : ℕ
steps_for_each = 4096

abbrev pub steps_more : ℕ
steps_more = 256

-- the new program does what the old one does within n steps within at most 4096 * n + 256, and nothing else, unless the old one
-- uses an unspecified value
abbrev pub ProgramsAgree : Program → Program → Type 0
ProgramsAgree old new = (esp0 : ℕ) (stack : List ℕ) (left : Environment) → IsStart esp0 stack → IsEnvironment left → AgreePlainly steps_for_each steps_more (old esp0 stack left) (new esp0 stack left)
