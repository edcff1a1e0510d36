-- What stands for an instruction over names costs no more than is said of it.
use Rattle.std.proofs.Common.{◌≡◌, ℕ, suc, ◌+◌, ◌*◌, ◌≤◌, ◌&&◌, Bool, true, false, cond, List, [], ◌∷◌, ◌++◌, length, map, Option, refl, ap, arith}
use Rattle.x86_types.specs.declared.operand.Reg.{Reg}
use Rattle.x86_types.specs.declared.operand.Reg.TheVariants as reg
use Rattle.x86_types.specs.declared.operand.Rm.TheVariants as rm
use Rattle.x86_types.specs.declared.operand.Src.TheVariants as src
use Rattle.x86_types.specs.declared.width.Width.TheVariants.{Four}
use Rattle.x86_types.specs.declared.instr.Instr.{Instr}
use Rattle.x86_types.specs.declared.instr.Instr.TheVariants as instr
use Rattle.x86_types.specs.Registers.{Renaming, renamed}
use Rattle.named_code.specs.declared.slot.Slot.{Slot}
use Rattle.named_code.specs.declared.slot.Slot.TheVariants.{Fixed, Name}
use Rattle.named_code.specs.declared.named.VInstr.{VInstr}
use Rattle.named_code.specs.declared.placed.Home.{Home}
use Rattle.named_code.specs.declared.placed.PInstr.{PInstr}
use Rattle.named_code.specs.Items.{Item, named_item, word_at, own_item, fetch_from, keep_to, cell_of, placed_item}
use Rattle.name_cells.specs.Holders.{has_byte_field, holder, last_name, field_registers, borrows_ebx}
use Rattle.name_cells.specs.Renaming.{by_registers}
use Rattle.name_cells.specs.Placing.{fetches, keeps, own, lend, give_back}
use Rattle.named_code.specs.Weight.{items_cost}
use Rattle.laid_code.specs.LaidRun.{instr_steps, laid_steps}
use Rattle.code_bounds.specs.Steps.{move_count, steps}
use Rattle.code_bounds.specs.Bytes.{placed_bytes, bytes}
use Rattle.code_bounds.specs.LengthLaws.{items_of, LengthLaws}
use Rattle.code_bounds.proofs.Names.{count, has_name, moves_of, borrows, moves_are}
use Rattle.code_bounds.proofs.Shapes.{shape}

-- ---- the parts of what stands for an instruction, where a MOV costs at most m
module _ (c : Item → ℕ) (homes : List Home) (m : ℕ) (fetch_within : (n : ℕ) (r : Reg) → c (fetch_from n r) ≤ m) (keep_within : (n : ℕ) (r : Reg) → c (keep_to n r) ≤ m) where
  abbrev cost : List PInstr → ℕ
  cost items = items_cost c (map (placed_item homes) items)

  cost_append : (xs ys : List PInstr) → cost (xs ++ ys) ≡ cost xs + cost ys
  cost_append [] ys = omega arith
  cost_append (x ∷ xs) ys = let e : cost (xs ++ ys) ≡ cost xs + cost ys = cost_append xs ys in omega (arith, e)

  one_more : (n : ℕ) → m + m * n ≡ m * suc n
  one_more n = grind (arith)

  fetches_within : (byte : Bool) (last : Option ℕ) (slots : List Slot) → cost (fetches byte last slots) ≤ m * count slots
  fetches_within byte last [] = omega arith
  fetches_within byte last (Fixed r ∷ slots) = fetches_within byte last slots
  fetches_within byte last (Name n ∷ slots) =
      let l : cost (fetches byte last slots) ≤ m * count slots = fetches_within byte last slots in
      omega (arith, l, fetch_within (cell_of homes n) (holder byte last n), one_more (count slots))

  keeps_within : (byte : Bool) (last : Option ℕ) (slots : List Slot) → cost (keeps byte last slots) ≤ m * count slots
  keeps_within byte last [] = omega arith
  keeps_within byte last (Fixed r ∷ slots) = keeps_within byte last slots
  keeps_within byte last (Name n ∷ slots) =
      let l : cost (keeps byte last slots) ≤ m * count slots = keeps_within byte last slots in
      omega (arith, l, keep_within (cell_of homes n) (holder byte last n), one_more (count slots))

  lend_within : (b : Bool) (spare : ℕ) → cost (lend b spare) ≤ m * cond b 1 0
  lend_within true spare = omega (arith, keep_within (cell_of homes spare) reg.Ebx)
  lend_within false spare = omega arith

  give_back_within : (b : Bool) (spare : ℕ) → cost (give_back b spare) ≤ m * cond b 1 0
  give_back_within true spare = omega (arith, fetch_within (cell_of homes spare) reg.Ebx)
  give_back_within false spare = omega arith

  twice : (a b : ℕ) → m * b + (m * a + (m * a + m * b)) ≡ m * (2 * (a + b))
  twice a b = grind (arith)

  pub placed_within : (spare : ℕ) (x : VInstr) → length x.slots ≤ 3 → items_cost c (items_of homes spare x) ≤ c (own_item (renamed (by_registers (field_registers (has_byte_field x.instr) x.slots)) x.instr)) + m * move_count (named_item x)
  placed_within spare x h =
      let byte = has_byte_field x.instr in
      let last = last_name x.slots in
      let lent = lend (borrows_ebx x) spare in
      let before = fetches byte last x.slots in
      let behind = keeps byte last x.slots in
      let back = give_back (borrows_ebx x) spare in
      let e1 = cost_append lent (before ++ own x ∷ (behind ++ back)) in
      let e2 = cost_append before (own x ∷ (behind ++ back)) in
      let e3 = cost_append behind back in
      let l1 = lend_within (borrows_ebx x) spare in
      let l2 = fetches_within byte last x.slots in
      let l3 = keeps_within byte last x.slots in
      let l4 = give_back_within (borrows_ebx x) spare in
      let lent_is : m * cond (borrows_ebx x) 1 0 ≡ m * cond (byte && has_name x.slots) 1 0 = ap (λ b. m * cond b 1 0) (borrows x) in
      let moves : m * move_count (named_item x) ≡ m * moves_of x = ap (λ n. m * n) (moves_are x h) in
      omega (arith, e1, e2, e3, l1, l2, l3, l4, lent_is, moves, twice (count x.slots) (cond (byte && has_name x.slots) 1 0))

-- ---- steps and bytes
same_steps : (f : Renaming) (i : Instr) → instr_steps (renamed f i) ≡ instr_steps i
same_steps f (instr.JmpTo to) = refl
same_steps f i = refl

pub steps_within : (homes : List Home) (spare : ℕ) (x : VInstr) → length x.slots ≤ 3 → items_cost laid_steps (items_of homes spare x) ≤ steps (named_item x)
steps_within homes spare x h =
    let l = placed_within laid_steps homes 1 (λ n r. omega arith) (λ n r. omega arith) spare x h in
    omega (arith, l, same_steps (by_registers (field_registers (has_byte_field x.instr) x.slots)) x.instr)

fetch_short : (n : ℕ) (r : Reg) → placed_bytes (fetch_from n r) ≤ 6
fetch_short n r = shape (λ k q. r) (instr.Mov Four (rm.Reg r) (src.Mem (word_at n)))

keep_short : (n : ℕ) (r : Reg) → placed_bytes (keep_to n r) ≤ 6
keep_short n r = shape (λ k q. r) (instr.Mov Four (rm.Mem (word_at n)) (src.Reg r))

bytes_within : (homes : List Home) (spare : ℕ) (x : VInstr) → length x.slots ≤ 3 → items_cost placed_bytes (items_of homes spare x) ≤ bytes (named_item x)
bytes_within homes spare x h =
    let l = placed_within placed_bytes homes 6 fetch_short keep_short spare x h in
    omega (arith, l, shape (by_registers (field_registers (has_byte_field x.instr) x.slots)) x.instr)

pub length_laws_hold : LengthLaws
length_laws_hold = record { shape = shape; placed_steps_within = steps_within; placed_bytes_within = bytes_within }
