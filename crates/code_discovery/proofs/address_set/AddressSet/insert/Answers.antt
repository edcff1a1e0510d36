use Rattle.std.proofs.Common.{◌≡◌, ℕ, ◌+◌, List, length, Contains, if◌then◌else◌, sym, subst}
use Rattle.code_discovery.proofs.Sets.{HasOneMore, inserted, not_contained, one_more}
use Rattle.code_discovery.proofs.address_set.AddressSet.insert.Goals as goal

pub returns : goal.returns
returns c = record {
  members = subst (λ (xs : List ℕ). HasOneMore xs c.args.at c.insert.new.self.keys) c.self.view_is
      (subst (λ (xs : List ℕ). HasOneMore c.self.inside.addresses.keys c.args.at xs) (sym c.in_ok-insert.ensures.keys) (inserted c.self.inside.addresses.keys c.args.at));
  size = let none = not_contained c.self.inside.addresses c.args.at (subst (λ (xs : List ℕ). Contains xs c.args.at → ⊥) (sym c.self.view_is) c.requires) in
      one_more (length c.insert.new.self.keys) (length c.args.self.now) _ c.in_ok-insert.field-0 c.in_ok-insert.ensures.added none
      (subst (λ (xs : List ℕ). length c.insert.new.self.keys ≡ length xs + (if c.in_ok-insert.field-0 then 1 else 0)) c.self.view_is c.in_ok-insert.ensures.len);
}
