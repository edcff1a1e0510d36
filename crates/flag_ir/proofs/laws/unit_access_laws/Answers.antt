use Rattle.flag_ir.proofs.Accessing as accessing
use Rattle.flag_ir.proofs.MovingOutside as moving
use Rattle.flag_ir.proofs.laws.unit_access_laws.Goals as goal

pub returns : goal.returns
returns c =
    let memory = c.memory_laws.ensures in
    let calls = c.call_laws.ensures in
    record {
      perform_outside = λ turn o at count. accessing.perform_outside at count memory calls turn o;
      shown_outside = λ turn o at count. accessing.shown_outside at count memory calls turn o;
      performs_outside = λ turn ops at count. accessing.performs_outside at count memory calls turn ops;
      shown_all_outside = λ turn ops at count. accessing.shown_all_outside at count memory calls turn ops;
      leave_outside = λ unit turn e at count. moving.leave_outside at count memory unit turn e;
      next_outside = λ unit at count. moving.next_outside at count memory calls unit;
    }
