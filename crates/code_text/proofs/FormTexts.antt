-- Placed code in form has spellings.
use Rattle.std.proofs.Common.{◌≡◌, ◌↔◌, ℕ, zero, suc, ◌<◌, true, List, [], ◌∷◌, All, map, arith}
use Rattle.std.proofs.lemmas.Bool.{lt-ltb}
use Rattle.std.proofs.lemmas.List.Elements.{All-head, All-tail, All-map, All-weaker}
use Rattle.x86_types.specs.declared.operand.Rm.TheVariants as rm
use Rattle.x86_types.specs.declared.operand.Src.TheVariants as src
use Rattle.x86_types.specs.declared.width.Width.TheVariants.{Four}
use Rattle.x86_types.specs.declared.instr.Instr.{Instr}
use Rattle.x86_types.specs.declared.instr.Instr.TheVariants as instr
use Rattle.x86_grammar.specs.Fields.{fields_fit, HasSpelling}
use Rattle.named_code.specs.declared.placed.Home.{Home}
use Rattle.named_code.specs.declared.placed.PInstr.{PInstr}
use Rattle.named_code.specs.declared.placed.PInstr.TheVariants as item
use Rattle.named_code.specs.declared.placed.PBlock.{PBlock}
use Rattle.named_code.specs.Items.{Item, CodeBlock, word_at, cell_of, placed_item, placed_block}
use Rattle.named_code.specs.PlacedForm.{IsItemInForm, IsPBlockInForm, IsCell}
use Rattle.code_text.specs.KeptPlaces.{FormIsSpelled}

cell_small : (homes : List Home) (n : ℕ) → All IsCell homes → cell_of homes n < 4294967296
cell_small [] n cells = omega arith
cell_small (h ∷ homes) zero cells = let low = (All-head IsCell h homes cells).to in omega (arith, low)
cell_small (h ∷ homes) (suc n) cells = cell_small homes n (All-tail IsCell h homes cells)

module _ (fit : (i : Instr) → (fields_fit i ≡ true) ↔ HasSpelling i) where
  item_spelled : (homes : List Home) (numbers : List ℕ) (x : PInstr) → All IsCell homes → IsItemInForm homes numbers x → HasSpelling (placed_item homes x).instr
  item_spelled homes numbers (item.Own i) cells form = form.spelled
  item_spelled homes numbers (item.Fetch n r) cells form = (fit (instr.Mov Four (rm.Reg r) (src.Mem (word_at (cell_of homes n))))).0 (lt-ltb (cell_of homes n) 4294967296 (cell_small homes n cells))
  item_spelled homes numbers (item.Keep n r) cells form = (fit (instr.Mov Four (rm.Mem (word_at (cell_of homes n))) (src.Reg r))).0 (lt-ltb (cell_of homes n) 4294967296 (cell_small homes n cells))

  block_spelled : (homes : List Home) (numbers : List ℕ) (b : PBlock) → All IsCell homes → IsPBlockInForm homes numbers b → All (λ (x : Item). HasSpelling x.instr) (placed_block homes b).items
  block_spelled homes numbers b cells form = All-map (λ (x : Item). HasSpelling x.instr) (placed_item homes) b.code (All-weaker (IsItemInForm homes numbers) (λ (x : PInstr). HasSpelling (placed_item homes x).instr) (λ x h. item_spelled homes numbers x cells h) b.code form.items)

  pub form_is_spelled : FormIsSpelled
  form_is_spelled p form =
      let numbers = map (λ (b : PBlock). b.number) p.blocks in
      let spelled : CodeBlock → Type 0 = λ (b : CodeBlock). All (λ (x : Item). HasSpelling x.instr) b.items in
      All-map spelled (placed_block p.homes) p.blocks (All-weaker (IsPBlockInForm p.homes numbers) (λ (b : PBlock). spelled (placed_block p.homes b)) (λ b h. block_spelled p.homes numbers b form.cells h) p.blocks form.blocks)
