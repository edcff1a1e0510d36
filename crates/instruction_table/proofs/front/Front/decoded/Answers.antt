use Rattle.std.proofs.Common.{List, ℕ, subst}
use Rattle.x86_decode.specs.Decodes.{Decodes}
use Rattle.instruction_table.proofs.front.Front.decoded.Goals as goal

pub returns : goal.returns
returns c = subst (λ (bytes : List ℕ). Decodes bytes c.decode.result) c.self.view_is (record { one = c.decode.ensures.one; short = c.decode.ensures.short; outside = c.decode.ensures.outside })
