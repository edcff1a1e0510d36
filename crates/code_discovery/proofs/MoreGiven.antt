-- Where more is given more is found.
use Rattle.std.proofs.Common.{ℕ}
use Rattle.image.specs.declared.image.Image.{Image}
use Rattle.plan_types.specs.declared.place.Place.{Place}
use Rattle.plan_types.specs.declared.table.Table.{Table}
use Rattle.plan_types.specs.FoundCode as spec
use Rattle.plan_types.specs.FoundCode.{IsLeader, IsFoundFrom, IsTableFrom, IsProcedureFrom}

module _ (image : Image) (Less More : ℕ → Type 0) (given : (a : ℕ) → Less a → More a) where
  pub leader_more : (a : ℕ) → IsLeader image Less a → IsLeader image More a
  leader_more a (spec.entry stands) = spec.entry stands
  leader_more a (spec.given g stands) = spec.given (given a g) stands
  leader_more a (spec.leader from n p led there c stands) = spec.leader from n p (leader_more from led) there c stands
  leader_more a (spec.procedure from n p led there c stands) = spec.procedure from n p (leader_more from led) there c stands
  leader_more a (spec.target from n t led is c stands) = spec.target from n t (leader_more from led) is c stands

  pub found_more : (p : Place) → IsFoundFrom image Less p → IsFoundFrom image More p
  found_more p f = record { from = f.from; n = f.n; leader = leader_more f.from f.leader; within = f.within }

  pub table_more : (t : Table) → IsTableFrom image Less t → IsTableFrom image More t
  table_more t f = record { from = f.from; n = f.n; leader = leader_more f.from f.leader; table = f.table }

  pub procedure_more : (a : ℕ) → IsProcedureFrom image Less a → IsProcedureFrom image More a
  procedure_more a (spec.entry stands) = spec.entry stands
  procedure_more a (spec.given g stands) = spec.given (given a g) stands
  procedure_more a (spec.named p f c stands) = spec.named p (found_more p f) c stands
