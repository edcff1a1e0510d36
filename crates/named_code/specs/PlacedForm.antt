-- Placed code in form. All of this is own.
use Rattle.std.specs.Prelude.{◌≢◌, ℕ, ◌+◌, ◌<◌, ◌≤◌, List, [], map, length, All}
use Rattle.x86_types.specs.declared.operand.Reg.{Reg}
use Rattle.x86_types.specs.declared.operand.Reg.TheVariants.{Esp}
use Rattle.x86_types.specs.declared.instr.Instr.{Instr}
use Rattle.x86_grammar.specs.Fields.{HasSpelling}
use Rattle.named_code.specs.declared.placed.Home.{Home}
use Rattle.named_code.specs.declared.placed.PInstr.{PInstr}
use Rattle.named_code.specs.declared.placed.PInstr.TheVariants as item
use Rattle.named_code.specs.declared.placed.PBlock.{PBlock}
use Rattle.named_code.specs.declared.placed.Placed.{Placed}
use Rattle.named_code.specs.Form.{register_fields, IsStackless, NamesBlock}

-- an instruction can be spelled, uses no esp, and names a block that is there
pub record IsOwnInForm (numbers : List ℕ) (i : Instr) : Type 0 where
  pub spelled : HasSpelling i
  pub fields : All (λ r. r ≢ Esp) (register_fields i)
  pub stackless : IsStackless i
  pub target : NamesBlock numbers i

-- a name that is moved has a home, and the register isn't esp
pub record IsMoveInForm (homes : List Home) (name : ℕ) (r : Reg) : Type 0 where
  pub home : name < length homes
  pub register : r ≢ Esp

abbrev pub IsItemInForm : List Home → List ℕ → PInstr → Type 0
IsItemInForm homes numbers (item.Own i) = IsOwnInForm numbers i
IsItemInForm homes numbers (item.Fetch n r) = IsMoveInForm homes n r
IsItemInForm homes numbers (item.Keep n r) = IsMoveInForm homes n r

-- blocks with an old address have an item
pub record IsPBlockInForm (homes : List Home) (numbers : List ℕ) (b : PBlock) : Type 0 where
  pub items : All (IsItemInForm homes numbers) b.code
  pub begins : b.at ≢ 0 → b.code ≢ []

-- the cells are words in the range of names
pub record IsCell (h : Home) : Type 0 where
  pub from : 0x75220000 ≤ h.cell
  pub to : h.cell + 4 ≤ 0x75800000

pub record IsPlacedInForm (p : Placed) : Type 0 where
  pub cells : All IsCell p.homes
  pub blocks : All (IsPBlockInForm p.homes (map (λ b. b.number) p.blocks)) p.blocks
