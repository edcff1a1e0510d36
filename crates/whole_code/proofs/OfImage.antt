-- The lists and ways of the found code of an image do what its instructions do.
use Rattle.std.proofs.Common.{ℕ, ◌+◌, ◌<◌, ◌≤◌, Bool, true, false, arith}
use Rattle.image.specs.declared.image.Image.{Image}
use Rattle.image.specs.declared.room.Room.TheVariants.{Any}
use Rattle.image.specs.Rooms.{room_end}
use Rattle.image.specs.Wanted.{FitsWideRoom}
use Rattle.memory.specs.Memory.{wrapped}
use Rattle.x86_types.specs.declared.instr.Instr.{Instr}
use Rattle.x86_types.specs.declared.instr.Instr.TheVariants as instr
use Rattle.x86_code.specs.Code.{code_of}
use Rattle.plan_types.specs.Contents.{FoundContents}
use Rattle.plan_types.specs.FoundCode.{IsFoundCode}
use Rattle.plan_types.specs.FoundLaws.{FoundLaws}
use Rattle.lift_core.specs.Lists.{way_of, string_way}
use Rattle.lift_core.specs.Laws.{LiftingLaws}
use Rattle.whole_code.specs.OneStack.{HasAddresses, IsLifted}
use Rattle.whole_code.specs.Building.{lifting_of_places}

wraps : (a : ℕ) → wrapped a < 4294967296
wraps a = omega arith

string_addresses : (repeat : Bool) (at next : ℕ) → at < 4294967296 → HasAddresses (string_way repeat at (wrapped next))
string_addresses false at next low = wraps next
string_addresses true at next low = (low, wraps next)

way_addresses : (i : Instr) (at len : ℕ) → at < 4294967296 → HasAddresses (way_of i at len)
unfolding way_of
way_addresses (instr.Alu op w to from) at len low = wraps (at + len)
way_addresses (instr.Test w to from) at len low = wraps (at + len)
way_addresses (instr.Mov w to from) at len low = wraps (at + len)
way_addresses (instr.Lea w to a) at len low = wraps (at + len)
way_addresses (instr.Inc w to) at len low = wraps (at + len)
way_addresses (instr.Dec w to) at len low = wraps (at + len)
way_addresses (instr.Not w to) at len low = wraps (at + len)
way_addresses (instr.Neg w to) at len low = wraps (at + len)
way_addresses (instr.Mul w from) at len low = wraps (at + len)
way_addresses (instr.ImulWide w from) at len low = wraps (at + len)
way_addresses (instr.Div w from) at len low = wraps (at + len)
way_addresses (instr.Idiv w from) at len low = wraps (at + len)
way_addresses (instr.Imul w to from) at len low = wraps (at + len)
way_addresses (instr.ImulBy w to from by) at len low = wraps (at + len)
way_addresses (instr.Shift op w to n) at len low = wraps (at + len)
way_addresses (instr.Shld to from n) at len low = wraps (at + len)
way_addresses (instr.Shrd to from n) at len low = wraps (at + len)
way_addresses (instr.Push from) at len low = wraps (at + len)
way_addresses (instr.Pop to) at len low = wraps (at + len)
way_addresses (instr.Xchg w to from) at len low = wraps (at + len)
way_addresses (instr.Movzx wide w to from) at len low = wraps (at + len)
way_addresses (instr.Movsx wide w to from) at len low = wraps (at + len)
way_addresses (instr.Cmov c w to from) at len low = wraps (at + len)
way_addresses (instr.Setcc c to) at len low = wraps (at + len)
way_addresses (instr.Extend w) at len low = wraps (at + len)
way_addresses (instr.Spread w) at len low = wraps (at + len)
way_addresses (instr.Bsf w to from) at len low = wraps (at + len)
way_addresses (instr.Bsr w to from) at len low = wraps (at + len)
way_addresses (instr.Bswap to) at len low = wraps (at + len)
way_addresses (instr.Movs w repeat) at len low = string_addresses repeat at (at + len) low
way_addresses (instr.Stos w repeat) at len low = string_addresses repeat at (at + len) low
way_addresses (instr.Jmp by) at len low = wraps (at + len + by)
way_addresses (instr.JmpTo to) at len low = tt
way_addresses (instr.CallTo to) at len low = tt
way_addresses (instr.Jcc c by) at len low = (wraps (at + len + by), wraps (at + len))
way_addresses (instr.Call by) at len low = wraps (at + len + by)
way_addresses (instr.Ret drop) at len low = tt
way_addresses instr.Leave at len low = wraps (at + len)
way_addresses instr.Int80 at len low = wraps (at + len)
way_addresses instr.Cld at len low = wraps (at + len)
way_addresses instr.Nop at len low = wraps (at + len)

below_all : (at len : ℕ) → at + len ≤ room_end Any → at < 4294967296
below_all at len within = omega (arith, within)

pub lifted_of_image : FoundLaws → LiftingLaws → (image : Image) (found : FoundContents) → FitsWideRoom image.segments image.entry → IsFoundCode image found → IsLifted lifting_of_places (code_of image) found
lifted_of_image laws lifting image found fits is = record {
  addresses = λ p c. way_addresses p.instr p.at p.len (below_all p.at p.len (laws.within image found p fits is c));
  stands = λ p c. laws.stands image found p is c;
  lifts = λ p c. lifting.lifts p.instr p.at p.len;
}
