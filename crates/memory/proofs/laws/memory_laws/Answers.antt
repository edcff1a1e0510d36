use Rattle.memory.proofs.Memories as m
use Rattle.memory.proofs.Bytes as b
use Rattle.memory.proofs.Ranges as r
use Rattle.memory.proofs.laws.memory_laws.Goals as goal

pub returns : goal.returns
returns c = record {
  put_all_there = m.put_all_there;
  put_all_elsewhere = m.put_all_elsewhere;
  put_all_keeps_kinds = m.put_all_keeps_kinds;
  forget_keeps_kinds = m.forget_keeps_kinds;
  allows_by_kinds = m.allows_by_kinds;
  stored_is_loaded = m.stored_is_loaded;
  forget_below = m.forget_at_below;
  forget_above = m.forget_at_above;
  forget_off_stack = m.forget_off_stack;
  forget_then_forget = m.forget_then_forget;
  put_all_by_place = m.put_all_by_place;
  forget_by_place = m.forget_by_place;
  stack_by_place = m.stack_by_place;
  allows_in_same = m.allows_in_same;
  bytes_in_same = m.bytes_in_same;
  image_has_bytes = b.image_has_bytes;
  stack_has_bytes = b.stack_has_bytes;
  put_all_has_bytes = b.put_all_has_bytes;
  forget_has_bytes = b.forget_has_bytes;
  loads_bytes = b.loads_bytes;
  bytes_elsewhere = r.bytes_elsewhere;
  allows_after = r.allows_after;
  apart_in_order = r.apart_in_order;
  apart_symmetric = r.apart_symmetric;
  within_in_order = r.within_in_order;
  same_outside_put = r.same_outside_put;
  same_outside_put_within = r.same_outside_put_within;
  same_outside_forget = r.same_outside_forget;
  same_outside_symmetric = r.same_outside_symmetric;
  allows_outside = r.allows_outside;
  bytes_outside = r.bytes_outside;
  forget_is_forgotten = r.forget_is_forgotten;
  forget_as_invariant = r.forget_as_invariant;
  store_exposes = r.store_exposes;
}
