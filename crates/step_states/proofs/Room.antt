-- Room behind a page.
use Rattle.std.proofs.Common.{◌≡◌, ℕ, ◌/◌, ◌≤◌, ◌<◌, ◌&&◌, Bool, true, false, cond, leb, ltb, Some, None, refl, arith}
use Rattle.std.proofs.lemmas.Bool.Decides.{nat_tests}
use Rattle.x86_values.specs.declared.byte.Byte.{Byte}
use Rattle.memory.specs.Memory.{Memory}
use Rattle.mem_pages.specs.Regions.{unmapped, region_place, with_region, HasRoom}

and_false : (x : Bool) → x && false ≡ false
and_false true = refl
and_false false = refl

-- nothing is mapped from the end of the first region on
pub room_behind : (m : Memory) (unset : Byte) → m ≡ with_region 0x20000000 0x20001000 true unset unmapped → HasRoom 0x20001000 0x20002000 m
unfolding with_region
room_behind m unset e = record {
  free = λ a b from to same.
      let past : 0x20001000 ≤ a = omega arith in
      let not : ltb a 0x20001000 ≡ false = grind (arith, nat_tests) in
      rw e (rw not (rw (and_false (leb 0x20000000 a)) refl));
}
