use Rattle.std.proofs.Common.{arith, refl}
use Rattle.mem_pages.specs.Lent.{quiet_lent}
use Rattle.mem_pages.proofs.pages.Pages.lend_mut.Goals as goal
use Rattle.mem_pages.proofs.LentPages.{is_lent, bytes_lent, stored_lent, keeps_lent}

pub invariant_of-self-lent : goal.invariant_of-self-lent
invariant_of-self-lent c w = (quiet_lent c.args.self.now.exposed c.args.self.now.directory c.args.at w c.requires.listed c.args.self.now.quiet, tt)

pub returns : goal.returns
returns c = (
  (refl, λ w. is_lent c.args.self.now c.args.at w c.requires.listed _),
  record {
    writes_back = tt;
    bytes = bytes_lent c.args.self.now c.args.at c.args.len c.lend.result.now (omega arith) c.requires c.lend.ensures.shown;
    len = c.lend.ensures.shown.len;
    stored = λ bs n. stored_lent c.args.self.now c.args.at bs c.args.len (omega arith) n c.requires;
    keeps = λ bs n. keeps_lent c.args.self.now c.args.at bs c.args.len n c.requires;
  },
)
