use Rattle.std.proofs.Common.{sym, ◌∙◌, arith}
use Rattle.mem_pages.specs.Contents.{memory_in}
use Rattle.mem_pages.proofs.pages.Pages.lend.Goals as goal
use Rattle.mem_pages.proofs.Shown.{shows_bytes}
use Rattle.mem_pages.proofs.Runs.{bytes_shown, nothing_at}

pub returns-in-Some : goal.returns-in-Some
returns-in-Some c =
    let all = sym c.can_load.ensures ∙ c.if-not-can_load.false in
    (all, bytes_shown (memory_in c.args.self.now) c.args.at c.args.len c.in-Some.part.now (omega arith) c.requires all (shows_bytes c.args.self.now c.args.at c.args.len c.in-Some.part.now c.requires (c.is_ready.ensures c.if-not-is_ready.false) c.in-Some.ensures))

pub returns-then-len-eq0 : goal.returns-then-len-eq0
returns-then-len-eq0 c = rw c.if-len-eq0.true (nothing_at (memory_in c.args.self.now) c.args.at)
