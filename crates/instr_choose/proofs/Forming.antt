-- The chosen code is in form, it can be placed, and it has few names.
use Rattle.std.proofs.Common.{◌≡◌, ℕ, ◌+◌, ◌≤◌, max, true, List, [], ◌∷◌, ◌++◌, get_or, fold, All, Contains, refl, sym, ◌∙◌, arith}
use Rattle.std.proofs.lemmas.List.Elements.{All-append, All-head, All-tail, All-map, All-contains}
use Rattle.std.proofs.lemmas.Option.{slice_get-get_or}
use Rattle.flag_ir.specs.declared.block.Block.{Block}
use Rattle.flag_ir.specs.declared.block.Exit.{Exit}
use Rattle.flag_ir.specs.declared.block.Exit.TheVariants as exit
use Rattle.flag_ir.specs.Entering.{CodeUnit}
use Rattle.flag_ir.specs.Form.{IsFramelessExit, IsFramelessBlock, IsInForm}
use Rattle.named_code.specs.declared.slot.Slot.{Slot}
use Rattle.named_code.specs.declared.slot.Slot.TheVariants.{Fixed, Name}
use Rattle.named_code.specs.declared.named.VInstr.{VInstr}
use Rattle.named_code.specs.declared.named.VBlock.{VBlock}
use Rattle.named_code.specs.Form.{IsBlockInForm, IsCodeInForm}
use Rattle.name_cells.specs.Cells.{counted_slot, counted_instr, counted_block, name_count}
use Rattle.name_cells.specs.CanBePlaced.{IsBlockPlaceable, CanBePlaced}
use Rattle.instr_choose.specs.Lists.{choose_ops}
use Rattle.instr_choose.specs.Blocks.{choose_exit, choose_block, choose_blocks, BlockHasNames, UnitHasNames}
use Rattle.instr_choose.specs.Words.{BlockFits, UnitFits}
use Rattle.instr_choose.proofs.Naming.{among}
use Rattle.instr_choose.proofs.ChosenInstrs.{SpellingLaw, IsCounted, IsChosen}
use Rattle.instr_choose.proofs.ChosenLists.{ops_chosen, exit_chosen}

-- an exit has an instruction, so that no block is empty
pub begins : (e : Exit) → IsFramelessExit e → (x : VInstr) × (xs : List VInstr) × (choose_exit e ≡ x ∷ xs)
unfolding choose_exit
begins (exit.Go n) f = (_, _, refl)
begins (exit.Branch test m n) f = (_, _, refl)
begins (exit.Jump to) f = (_, _, refl)
begins (exit.CallProc entry back) f = absurd f
begins exit.Return f = absurd f
begins exit.Fault f = (_, _, refl)
begins exit.Stop f = (_, _, refl)

never_empty : (xs ys : List VInstr) (y : VInstr) (zs : List VInstr) → ys ≡ y ∷ zs → xs ++ ys ≡ [] → ⊥
never_empty [] ys y zs e h = let g : y ∷ zs ≡ [] = sym e ∙ h in cc
never_empty (x ∷ xs) ys y zs e h = cc

-- ---- how many names there are
max_most : (k n most : ℕ) → k ≤ most → n ≤ most → max k n ≤ most
max_most k n most h l = grind arith

fold_most : {A : Type 0} (P : A → Type 0) (f : ℕ → A → ℕ) (most : ℕ) → ((k : ℕ) (x : A) → P x → k ≤ most → f k x ≤ most) → (xs : List A) (k : ℕ) → All P xs → k ≤ most → fold f k xs ≤ most
fold_most P f most step [] k h l = l
fold_most P f most step (x ∷ xs) k h l = fold_most P f most step xs (f k x) (All-tail P x xs h) (step k x (All-head P x xs h) l)

slot_counted : (k : ℕ) (s : Slot) → IsCounted s → k ≤ 1400013 → counted_slot k s ≤ 1400013
slot_counted k (Fixed r) h l = l
slot_counted k (Name n) h l = max_most k (n + 1) 1400013 l (omega (arith, h))

instr_counted : (k : ℕ) (x : VInstr) → All IsCounted x.slots → k ≤ 1400013 → counted_instr k x ≤ 1400013
instr_counted k x h l = fold_most IsCounted counted_slot 1400013 slot_counted x.slots k h l

abbrev IsCountedInstr : VInstr → Type 0
IsCountedInstr x = All IsCounted x.slots

abbrev IsCountedBlock : VBlock → Type 0
IsCountedBlock b = All IsCountedInstr b.code

block_counted : (k : ℕ) (b : VBlock) → IsCountedBlock b → k ≤ 1400013 → counted_block k b ≤ 1400013
block_counted k b h l = fold_most IsCountedInstr counted_instr 1400013 instr_counted b.code k h l

-- ---- the whole code
module _ (spelling : SpellingLaw) (u : CodeUnit) (form : IsInForm u) (low : u.lowered ≡ true) (names : UnitHasNames u) (fits : UnitFits u) where
  abbrev code : List VBlock
  code = choose_blocks u.whole

  block_chosen : (b : Block) → Contains u.whole b → All (IsChosen spelling code) (choose_block b).code
  block_chosen b c =
      let named : BlockHasNames b = All-contains BlockHasNames u.whole b names c in
      let fit : BlockFits b = All-contains BlockFits u.whole b fits c in
      All-append (IsChosen spelling code) (choose_ops b.ops) (choose_exit b.exit) (ops_chosen spelling code b.ops (form.whole.ops b c) named.ops fit.ops)
      (exit_chosen spelling u.whole form.whole.numbers u.procs b.exit (frameless b c).exit (form.whole.exits b c) named.exit fit.exit)
    where
      frameless : (b : Block) → Contains u.whole b → IsFramelessBlock b
      frameless b c = All-contains IsFramelessBlock u.whole b (form.lowered low).blocks c

  each_block : (P : VBlock → Type 0) → ((b : Block) → Contains u.whole b → P (choose_block b)) → All P code
  each_block P h = All-map P choose_block u.whole (λ k d l. h (get_or u.whole k d) (among u.whole k (get_or u.whole k d) (slice_get-get_or u.whole k d l)))

  pub in_form : IsCodeInForm code
  in_form = each_block (IsBlockInForm code) (λ b c. record { instrs = λ k d l. (block_chosen b c k d l).form; begins = λ at. not_empty b c })
    where
      not_empty : (b : Block) → Contains u.whole b → (choose_block b).code ≡ [] → ⊥
      not_empty b c e =
          let first = begins b.exit (All-contains IsFramelessBlock u.whole b (form.lowered low).blocks c).exit in
          never_empty (choose_ops b.ops) (choose_exit b.exit) first.0 first.1 first.2 e

  pub can_be_placed : CanBePlaced code
  can_be_placed = each_block IsBlockPlaceable (λ b c k d l. (block_chosen b c k d l).placeable)

  pub few_names : name_count code ≤ 1400013
  few_names = fold_most IsCountedBlock counted_block 1400013 block_counted code 0 (each_block IsCountedBlock (λ b c k d l. (block_chosen b c k d l).counted)) (omega arith)
