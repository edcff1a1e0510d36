use Rattle.std.proofs.Common.{◌≤◌, sym, ap, ◌∙◌, subst, arith, ℕ}
use Rattle.code_text.specs.KeptPlaces.{sized}
use Rattle.code_text.specs.Placing.{instr_size, most_bytes}
use Rattle.code_text.proofs.InstrSizes.{plain_instr}
use Rattle.code_text.proofs.sizes.instr_size.Goals as goal

pub returns-in-Jmp : goal.returns-in-Jmp
unfolding instr_size
returns-in-Jmp c =
    let size = sym (ap (instr_size (sized c.args.span c.args.count)) c.in-Jmp.is) in
    let most = c.size_laws.ensures.most (sized c.args.span c.args.count) c.args.instr.now (record { span = omega arith; count = omega arith; table = Rattle.std.proofs.Common.refl }) c.requires in
    record { size = size; short = subst (λ (n : ℕ). n ≤ most_bytes c.args.instr.now) (sym size) most }

pub returns-in-Jcc : goal.returns-in-Jcc
unfolding instr_size
returns-in-Jcc c =
    let size = sym (ap (instr_size (sized c.args.span c.args.count)) c.in-Jcc.is) in
    let most = c.size_laws.ensures.most (sized c.args.span c.args.count) c.args.instr.now (record { span = omega arith; count = omega arith; table = Rattle.std.proofs.Common.refl }) c.requires in
    record { size = size; short = subst (λ (n : ℕ). n ≤ most_bytes c.args.instr.now) (sym size) most }

pub returns-in_default : goal.returns-in_default
returns-in_default c =
    let plain = plain_instr c.args.instr.now c.in_default.not-Jmp c.in_default.not-JmpTo c.in_default.not-Jcc in
    let size = c.best_size.ensures.size ∙ sym (c.size_laws.ensures.plain_size (sized c.args.span c.args.count) c.args.instr.now plain) in
    let most = c.size_laws.ensures.most (sized c.args.span c.args.count) c.args.instr.now (record { span = omega arith; count = omega arith; table = Rattle.std.proofs.Common.refl }) c.requires in
    record { size = size; short = subst (λ (n : ℕ). n ≤ most_bytes c.args.instr.now) (sym size) most }
