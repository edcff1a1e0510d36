use Rattle.unit_machine.proofs.Computing.{division_fault, division_unspecified}
use Rattle.unit_machine.proofs.compute.put_divided.Goals as goal

pub returns-in-Fault : goal.returns-in-Fault
returns-in-Fault c m = division_fault c.args.quotient c.args.remainder c.args.divided c.args.values.now m c.in-Fault.is

pub returns-in-Unspecified : goal.returns-in-Unspecified
returns-in-Unspecified c m = division_unspecified c.args.quotient c.args.remainder c.args.divided c.args.values.now m c.in-Unspecified.is
