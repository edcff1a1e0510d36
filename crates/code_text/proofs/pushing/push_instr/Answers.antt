use Rattle.std.proofs.Common.{◌++◌, List, ℕ, sym, ap, ◌∙◌}
use Rattle.std.proofs.lemmas.Result.{on_ok_weaker}
use Rattle.code_text.specs.KeptPlaces.{places_in, place_behind}
use Rattle.code_text.proofs.InstrSizes.{plain_instr}
use Rattle.code_text.proofs.Pushed.{pushed_short, jmp_text, jcc_text, to_text}
use Rattle.code_text.proofs.pushing.push_instr.Goals as goal

-- ---- the text of each kind, and how long it is
pub returns-in-Jmp : goal.returns-in-Jmp
returns-in-Jmp c =
    let l = places_in c.args.places.now in
    let out = c.args.out.now.items in
    let q = place_behind out in
    let text = on_ok_weaker c.push_jmp.result (λ e. e ∙ ap (λ (t : List ℕ). out ++ t) (jmp_text l q c.in-Jmp.by c.numbered.result c.args.instr.now c.in-Jmp.is c.numbered.ensures)) c.push_jmp.ensures in
    record { text = text; short = on_ok_weaker c.push_jmp.result (pushed_short c.size_laws.ensures l c.args.instr.now q out c.push_jmp.new.out.items c.has_fields.ensures c.requires.spelled) text }

pub returns-in-Jcc : goal.returns-in-Jcc
returns-in-Jcc c =
    let l = places_in c.args.places.now in
    let out = c.args.out.now.items in
    let q = place_behind out in
    let text = on_ok_weaker c.push_jcc.result (λ e. e ∙ ap (λ (t : List ℕ). out ++ t) (jcc_text l q c.in-Jcc.cond c.in-Jcc.by c.numbered-in-Jcc.result c.args.instr.now c.in-Jcc.is c.numbered-in-Jcc.ensures)) c.push_jcc.ensures in
    record { text = text; short = on_ok_weaker c.push_jcc.result (pushed_short c.size_laws.ensures l c.args.instr.now q out c.push_jcc.new.out.items c.has_fields.ensures c.requires.spelled) text }

pub returns-in-JmpTo : goal.returns-in-JmpTo
returns-in-JmpTo c =
    let l = places_in c.args.places.now in
    let out = c.args.out.now.items in
    let q = place_behind out in
    let text = on_ok_weaker c.push_table.result (λ e. e ∙ ap (λ (t : List ℕ). out ++ t) (to_text l q c.in-JmpTo.to c.args.instr.now c.in-JmpTo.is)) c.push_table.ensures in
    record { text = text; short = on_ok_weaker c.push_table.result (pushed_short c.size_laws.ensures l c.args.instr.now q out c.push_table.new.out.items c.has_fields.ensures c.requires.spelled) text }

pub returns-in_default : goal.returns-in_default
returns-in_default c =
    let l = places_in c.args.places.now in
    let out = c.args.out.now.items in
    let q = place_behind out in
    let plain = plain_instr c.args.instr.now c.in_default.not-Jmp c.in_default.not-JmpTo c.in_default.not-Jcc in
    let text = on_ok_weaker c.push_best.result (λ e. e ∙ ap (λ (t : List ℕ). out ++ t) (sym (c.size_laws.ensures.plain_text l q c.args.instr.now plain))) c.push_best.ensures in
    record { text = text; short = on_ok_weaker c.push_best.result (pushed_short c.size_laws.ensures l c.args.instr.now q out c.push_best.new.out.items c.has_fields.ensures c.requires.spelled) text }
