use Rattle.std.proofs.Common.{arith, ◌≡◌, ◌∙◌, refl}
use Rattle.mem_pages.specs.Contents.{memory_in}
use Rattle.mem_pages.proofs.pages.Pages.load_each.Goals as goal
use Rattle.mem_pages.proofs.Runs.{loads_one, loads_two, loads_four, byte_here, joins}

pub returns-then-size-eq1 : goal.returns-then-size-eq1
returns-then-size-eq1 c = rw c.if-size-eq1.true (c.joined.ensures ∙ joins (byte_here (memory_in c.args.self.now) c.args.at c.byte-b0.result (omega arith) c.byte-b0.ensures) refl refl refl ∙ loads_one (memory_in c.args.self.now) c.args.at)

pub returns-then-size-eq2 : goal.returns-then-size-eq2
returns-then-size-eq2 c = rw c.if-size-eq2.true (c.joined-then-size-eq2.ensures ∙ joins (byte_here (memory_in c.args.self.now) c.args.at c.byte-b0.result (omega arith) c.byte-b0.ensures) c.byte-b1.ensures refl refl ∙ loads_two (memory_in c.args.self.now) c.args.at)

pub returns : goal.returns
returns c = let e : c.args.size ≡ 4 = grind arith in rw e (c.joined-2.ensures ∙ joins (byte_here (memory_in c.args.self.now) c.args.at c.byte-b0.result (omega arith) c.byte-b0.ensures) c.byte-b1.ensures c.byte-b2.ensures c.byte-b3.ensures ∙ loads_four (memory_in c.args.self.now) c.args.at)
