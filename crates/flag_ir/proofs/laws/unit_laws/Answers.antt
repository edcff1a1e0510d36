use Rattle.flag_ir.proofs.Lists as lists
use Rattle.flag_ir.proofs.UnitMoves as moves
use Rattle.flag_ir.proofs.UnitRuns as unit_runs
use Rattle.flag_ir.proofs.ValuesLess.{ValueLaws}
use Rattle.flag_ir.proofs.OperationsLess as operations_less
use Rattle.flag_ir.proofs.LeavingLess as leaving_less
use Rattle.flag_ir.proofs.laws.unit_laws.Goals as goal

values : goal.After-product_laws → ValueLaws
values c = record {
  words = c.word_laws.ensures;
  less = c.less_specified_laws.ensures;
  sums = c.sum_laws.ensures;
  logic = c.logic_laws.ensures;
  shifts = c.shift_laws.ensures;
  products = c.product_laws.ensures;
}

pub returns : goal.returns
returns c = record {
  lists = record {
    performs_append = lists.performs_append;
    shown_append = lists.shown_append;
    goes_through = lists.goes_through;
    ends_within = lists.ends_within;
  };
  moves = record {
    begins = moves.begins;
    goes_on = moves.goes_on;
    no_block = moves.no_block;
    by_within = moves.by_within;
    over = moves.over;
  };
  runs = record {
    grow = λ unit m entry esp0 stack left. unit_runs.grow unit c.call_laws.ensures m entry esp0 stack left c.run_laws.ensures;
    no_guard = λ unit m entry esp0 stack left. unit_runs.no_guard unit c.call_laws.ensures m entry esp0 stack left (c.invariant_laws.ensures unit);
    one_event = λ unit m entry esp0 stack left. unit_runs.one_event unit c.call_laws.ensures m entry esp0 stack left c.move_laws.ensures;
    paced = λ k w rest unit m entry esp0 stack left. unit_runs.paced unit c.call_laws.ensures m entry esp0 stack left (c.invariant_laws.ensures unit) k w rest;
  };
  monotone = record {
    perform_less = operations_less.perform_less (values c) c.less_specified_memory_laws.ensures c.call_laws.ensures;
    leave_less = leaving_less.leave_less (values c) c.less_specified_memory_laws.ensures;
    next_less = λ unit. leaving_less.next_less (values c) c.less_specified_memory_laws.ensures unit c.call_laws.ensures;
  };
}
