use Rattle.std.proofs.Common.{◌≡◌, ℕ, ◌%◌, ◌<◌, cond, sym, ap, ◌∙◌, arith}
use Rattle.flag_ir.specs.declared.variable.Term.TheVariants as term
use Rattle.private_memory.specs.PrivateArea.{is_private}
use Rattle.guards.specs.Guarding.{literal}
use Rattle.guards.proofs.area.literal.Goals as goal

small : (n : ℕ) → n < 4294967296 → literal n ≡ cond (is_private n) (term.Word 0) (term.Word n)
unfolding literal
small n h = let same : n % 4294967296 ≡ n = omega arith in ap (λ k. cond (is_private k) (term.Word 0) (term.Word n)) same

pub returns-then-is_private : goal.returns-then-is_private
returns-then-is_private c = sym (small c.args.address (omega arith) ∙ ap (λ b. cond b (term.Word 0) (term.Word c.args.address)) (sym c.is_private.ensures ∙ c.if-is_private.true))

pub returns-else-is_private : goal.returns-else-is_private
returns-else-is_private c = sym (small c.args.address (omega arith) ∙ ap (λ b. cond b (term.Word 0) (term.Word c.args.address)) (sym c.is_private.ensures ∙ c.if-is_private.false))
