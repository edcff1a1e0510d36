-- Each operation of a lowered unit is met by its list.
use Rattle.std.proofs.Common.{ℕ, map}
use Rattle.x86_types.specs.declared.width.Width.TheVariants.{One, Two, Four}
use Rattle.flag_ir.specs.declared.operation.Op.{Op}
use Rattle.flag_ir.specs.declared.operation.Op.TheVariants as op
use Rattle.flag_ir.specs.Storage.{Storage}
use Rattle.flag_ir.specs.Operations.{perform, shown_by}
use Rattle.flag_ir.specs.Form.{IsOp, IsFrameless}
use Rattle.named_code.specs.Items.{named_item}
use Rattle.named_code.specs.Running.{CodeState}
use Rattle.instr_choose.specs.Lists.{choose_op}
use Rattle.instr_choose.specs.Relation.{IsBelow, ChoosingLaws}
use Rattle.instr_choose.proofs.Below.{forgotten}
use Rattle.instr_choose.proofs.Rules.{Comes, ends, needs, each_size}
use Rattle.instr_choose.proofs.Choosing.{LawsBelow, set_meets, pick_meets, calc_meets}
use Rattle.instr_choose.proofs.Memories.{load_meets, store_meets, system_meets}
use Rattle.instr_choose.proofs.Dividing.{divide_meets}
use Rattle.instr_choose.proofs.Behind.{lists_meet}
use Rattle.instr_choose.proofs.Lengths.{op_length, exit_length}

module _ (laws : LawsBelow) where
  abbrev Met : ℕ → Op → Storage → CodeState → Type 0
  Met turn o u s = Comes (perform turn o u) (shown_by o u) (map named_item (choose_op o)) s

  comes : (turn : ℕ) (o : Op) (u : Storage) (s : CodeState) → IsOp 0 o → IsFrameless o → IsBelow u s → Met turn o u s
  unfolding perform choose_op
  comes turn (op.Set t x) u s i f h = set_meets laws t x u s i.0 i.1 h
  comes turn (op.Calc t c x y) u s i f h = calc_meets laws c t x y u s i.0 i.1 i.2 h
  comes turn (op.Forget t) u s i f h = ends (forgotten t u s i h)
  comes turn (op.Pick t x y z) u s i f h = pick_meets laws t x y z u s i.0 i.1 i.2 i.3 h
  comes turn (op.Need x) u s i f h = needs _ (λ n e. ends h)
  comes turn (op.Divide q r high low by size signed) u s i f h =
      each_size (λ (n : ℕ). Met turn (op.Divide q r high low by n signed) u s) (divide_meets laws One signed q r high low by u s i.0 i.1 i.2 i.3 i.4 h) (divide_meets laws Two signed q r high low by u s i.0 i.1 i.2 i.3 i.4 h) (divide_meets laws Four signed q r high low by u s i.0 i.1 i.2 i.3 i.4 h) size i.5
  comes turn (op.Load t size at) u s i f h = each_size (λ (n : ℕ). Met turn (op.Load t n at) u s) (load_meets laws One t at u s i.0 i.2 h) (load_meets laws Two t at u s i.0 i.2 h) (load_meets laws Four t at u s i.0 i.2 h) size i.1
  comes turn (op.Store size at x) u s i f h = each_size (λ (n : ℕ). Met turn (op.Store n at x) u s) (store_meets laws One at x u s i.1 i.2 h) (store_meets laws Two at x u s i.1 i.2 h) (store_meets laws Four at x u s i.1 i.2 h) size i.0
  comes turn (op.NearLoad t size at) u s i f h = absurd f
  comes turn (op.NearStore size at x) u s i f h = absurd f
  comes turn (op.Get t size offset) u s i f h = absurd f
  comes turn (op.Put size offset x) u s i f h = absurd f
  comes turn op.System u s i f h = system_meets laws u s h
  comes turn op.NearSystem u s i f h = absurd f

  pub choosing_laws : ChoosingLaws
  choosing_laws = record { meets = λ turn o u s i f h. (comes turn o u s i f h).met; lists_meet = lists_meet (λ turn o u s i f h. (comes turn o u s i f h).met); op_length = op_length; exit_length = exit_length }
