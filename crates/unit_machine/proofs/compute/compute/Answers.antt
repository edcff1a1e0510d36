use Rattle.std.proofs.Common.{sym, subst}
use Rattle.mem_pages.specs.Contents.{memory_in}
use Rattle.flag_ir.specs.declared.operation.Op.{Op}
use Rattle.unit_machine.specs.Computing.{Computes}
use Rattle.unit_machine.proofs.Computing.{divides}
use Rattle.unit_machine.proofs.compute.compute.Goals as goal

pub returns-in-Divide : goal.returns-in-Divide
returns-in-Divide c =
    subst (λ (o : Op). Computes o c.put_divided.result c.args.values.now (memory_in c.args.pages.now) c.put_divided.new.values (memory_in c.args.pages.now)) (sym c.in-Divide.is)
    (divides c.in-Divide.quotient c.in-Divide.remainder c.in-Divide.high c.in-Divide.low c.in-Divide.by c.in-Divide.size c.in-Divide.signed c.term.result c.term-in-Divide.result c.term-in-Divide-2.result c.divide-divided.result c.put_divided.result c.args.values.now (memory_in c.args.pages.now) c.put_divided.new.values
    c.term.ensures c.term-in-Divide.ensures c.term-in-Divide-2.ensures c.divide-divided.ensures.exact (c.put_divided.ensures (memory_in c.args.pages.now)))
