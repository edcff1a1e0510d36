use Rattle.std.proofs.Common.{◌<◌, refl, arith, lit≤}
use Rattle.std.proofs.lemmas.List.Elements.{All-from_get_or}
use Rattle.unit_runs.proofs.starts.start_pages.Goals as goal

pub first_pages-requires : goal.first_pages-requires
first_pages-requires c =
    let bytes = All-from_get_or (λ b. b < 256) c.args.stack.now 0 (λ i h. omega (arith, c.type_inv.stack i)) in
    record {
      aligned = refl;
      high = lit≤ tt;
      at_least = omega (arith, c.requires);
      at_most = omega (arith, c.requires);
      bytes = bytes;
      within = omega (arith, c.requires);
    }
