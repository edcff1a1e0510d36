use Rattle.std.proofs.Common.{arith, true, false, ◌-◌, vec_len}
use Rattle.mem_pages.proofs.page.Page.keep.Goals as goal
use Rattle.mem_pages.proofs.PageSteps.{resized_read, more_kept, all_kept, none_kept, on_error}

pub returns-in_err-resize-clause-places : goal.returns-in_err-resize-clause-places
returns-in_err-resize-clause-places c k = resized_read false c.args.self.now c.resize.new.self 4096 (4096 - vec_len c.args.self.now.bytes) c.in_err-resize.ensures.items (omega arith) k

pub returns-in_ok-resize-clause-places : goal.returns-in_ok-resize-clause-places
returns-in_ok-resize-clause-places c k = resized_read true c.args.self.now c.resize.new.self 4096 (4096 - vec_len c.args.self.now.bytes) c.in_ok-resize.ensures.items (omega arith) k

pub returns-in_ok-resize-clause-kept : goal.returns-in_ok-resize-clause-kept
returns-in_ok-resize-clause-kept c k = all_kept _ k (omega (arith, c.in_ok-resize.ensures.len))

pub returns-else-len-clause-kept : goal.returns-else-len-clause-kept
returns-else-len-clause-kept c k = all_kept _ k (omega arith)

pub returns-in_ok-resize-clause-keeps : goal.returns-in_ok-resize-clause-keeps
returns-in_ok-resize-clause-keeps c = more_kept c.args.self.now c.resize.new.self (omega (arith, c.in_ok-resize.ensures.len))

pub returns-in_err-resize-clause-keeps : goal.returns-in_err-resize-clause-keeps
returns-in_err-resize-clause-keeps c = more_kept c.args.self.now c.resize.new.self (omega (arith, c.in_err-resize.ensures.len))

pub returns-in_err-resize-clause-missing : goal.returns-in_err-resize-clause-missing
returns-in_err-resize-clause-missing c = on_error c.from_residual.result (λ k. none_kept c.args.self.now k (omega arith))
