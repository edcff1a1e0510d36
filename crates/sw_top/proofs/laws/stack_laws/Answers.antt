use Rattle.sw_top.proofs.StackSizes.{stack_is_start}
use Rattle.sw_top.proofs.laws.stack_laws.Goals as goal

pub returns : goal.returns
returns c = stack_is_start
