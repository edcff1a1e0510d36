use Rattle.std.proofs.Common.{arith, sym, ◌∙◌}
use Rattle.mem_pages.proofs.pages.Pages.can_lend_mut.Goals as goal
use Rattle.mem_pages.proofs.LentPages.{kept_first, lendable}

pub open-requires : goal.open-requires
open-requires c = record { kept = kept_first c.keep_page.result c.args.self.now c.keep_page.new.self c.args.at c.args.len (omega arith) (sym c.is_err.ensures.value ∙ c.if-is_err.false) (omega (arith, c.if-len-eq0.false)) (sym c.can_load.ensures ∙ c.if-not-can_load.false) c.keep_page.ensures.kept }

pub returns-clause-judges : goal.returns-clause-judges
returns-clause-judges c =
    let all = sym c.can_store.ensures ∙ c.if-not-can_store.false in
    let kept = kept_first c.keep_page.result c.args.self.now c.keep_page.new.self c.args.at c.args.len (omega arith) (sym c.is_err.ensures.value ∙ c.if-is_err.false) (omega (arith, c.if-len-eq0.false)) (sym c.can_load.ensures ∙ c.if-not-can_load.false) c.keep_page.ensures.kept in
    (all, lendable c.args.self.now c.open.new.self c.args.at c.args.len (c.open.ensures.same.memory ∙ c.keep_page.ensures.same.memory) c.requires all (c.open.ensures.keeps.kept c.args.at kept) c.open.ensures.ready c.open.ensures.listed c.open.ensures.open)
