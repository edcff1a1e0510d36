use Rattle.std.proofs.Common.{◌≡◌, take}
use Rattle.rewrite_core.specs.Placing.{place_at, parts_code}
use Rattle.rewrite_core.proofs.lay.code_of.Given as goal

abbrev pub invariant-loop-part : goal.invariant-loop-part
invariant-loop-part l = l.code.items ≡ parts_code l.page (place_at l.places) 0 (take l.part-index l.parts)
