-- The placed code is in form, with the blocks of the code.
use Rattle.std.proofs.Common.{◌≡◌, ◌≢◌, inl, inr, ℕ, zero, suc, ◌+◌, ◌<◌, ◌≤◌, Bool, true, false, cond, List, [], ◌∷◌, ◌++◌, map, length, get_or, All, Option, refl, sym, ap, ◌∙◌, subst, arith}
use Rattle.std.specs.List.{range_with_len}
use Rattle.std.proofs.lemmas.List.FromFn.{length-map-range_with_len}
use Rattle.std.proofs.lemmas.List.Elements.{All-nil, All-cons, All-head, All-tail, All-append, All-map}
use Rattle.x86_types.specs.declared.operand.Reg.{Reg}
use Rattle.x86_types.specs.declared.operand.Reg.TheVariants.{Eax, Ecx, Edx, Ebx, Esp, Ebp, Esi, Edi}
use Rattle.x86_types.specs.Numbers.{number_of_reg}
use Rattle.x86_grammar.specs.Renamings.{SpellingIsKept}
use Rattle.named_code.specs.declared.slot.Slot.{Slot}
use Rattle.named_code.specs.declared.slot.Slot.TheVariants.{Fixed, Name}
use Rattle.named_code.specs.declared.named.VInstr.{VInstr}
use Rattle.named_code.specs.declared.named.VBlock.{VBlock}
use Rattle.named_code.specs.declared.placed.Home.{Home}
use Rattle.named_code.specs.declared.placed.PInstr.{PInstr}
use Rattle.named_code.specs.declared.placed.PInstr.TheVariants as item
use Rattle.named_code.specs.declared.placed.PBlock.{PBlock}
use Rattle.named_code.specs.Items.{slot_at}
use Rattle.named_code.specs.Form.{register_fields, NamesBlock, IsInstrInForm, IsBlockInForm, IsCodeInForm}
use Rattle.named_code.specs.PlacedForm.{IsMoveInForm, IsItemInForm, IsPBlockInForm, IsCell, IsPlacedInForm}
use Rattle.name_cells.specs.Cells.{home_at, homes_of, name_count}
use Rattle.name_cells.specs.Renaming.{register_of}
use Rattle.name_cells.specs.Holders.{has_byte_field, last_name, is_last, holder, slot_register, field_registers, borrows_ebx}
use Rattle.name_cells.specs.CanBePlaced.{CanBePlaced}
use Rattle.name_cells.specs.Pairs.{own_renaming}
use Rattle.name_cells.specs.MovedNames.{HaveCells}
use Rattle.name_cells.specs.Placing.{fetches, keeps, own, lend, give_back, place_instr, place_instrs, place_block, cells_of}
use Rattle.name_cells.specs.PlacesCode.{HasBlocksOf}
use Rattle.name_cells.proofs.OwnItems.{IsUsable, at_usable, register_is}
use Rattle.name_cells.specs.CellPairs.{Fits}
use Rattle.name_cells.proofs.Counting.{BlockFits, code_fits, count_small}
use Rattle.name_cells.proofs.SomeItems.{some_placed}
use Rattle.name_cells.proofs.RenamedInstrs.{is_kept, fields_renamed}

-- ---- the cells
cells_from : (a n : ℕ) → a + n ≤ 1540096 → All IsCell (map home_at (range_with_len a n))
cells_from a zero low = All-nil IsCell
cells_from a (suc n) low = All-cons IsCell (home_at a) (map home_at (range_with_len (a + 1) n)) (record { from = omega arith; to = omega (arith, low) }) (cells_from (a + 1) n (omega (arith, low)))

-- ---- no register is ESP
low_register : (r : Reg) → number_of_reg r < 4 → r ≢ Esp
low_register r low e = let f : number_of_reg r ≡ 4 = ap number_of_reg e in omega (arith, low, f)

holder_not_esp : (byte : Bool) (last : Option ℕ) (n : ℕ) → holder byte last n ≢ Esp
holder_not_esp byte last n = by (is_last last n) byte
  where
    by : (l b : Bool) → cond l (cond b Ebx Esi) Ebp ≢ Esp
    by true true e = absurd (let f : 3 ≡ 4 = ap number_of_reg e in omega (arith, f))
    by true false e = absurd (let f : 6 ≡ 4 = ap number_of_reg e in omega (arith, f))
    by false b e = absurd (let f : 5 ≡ 4 = ap number_of_reg e in omega (arith, f))

-- fields that are numbered in order are early
early_fields : (rs : List Reg) (a n : ℕ) → map number_of_reg rs ≡ range_with_len a n → All (λ (r : Reg). number_of_reg r < a + n) rs
early_fields [] a n e = All-nil (λ (r : Reg). number_of_reg r < a + n)
early_fields (r ∷ rs) a zero e = absurd cc
early_fields (r ∷ rs) a (suc n) e =
    let first : number_of_reg r ≡ a = cc in
    let rest : map number_of_reg rs ≡ range_with_len (a + 1) n = cc in
    let bound : a + 1 + n ≡ a + suc n = omega arith in
    All-cons (λ (q : Reg). number_of_reg q < a + suc n) r rs (omega (arith, first)) (subst (λ (b : ℕ). All (λ (q : Reg). number_of_reg q < b) rs) bound (early_fields rs (a + 1) n rest))

module _ (x : VInstr) where
  abbrev byte : Bool
  byte = has_byte_field x.instr

  abbrev last : Option ℕ
  last = last_name x.slots

  abbrev register : Reg → Reg
  register r = register_of (field_registers byte x.slots) r

  usable_register : (s : Slot) → IsUsable x s → slot_register byte last s ≢ Esp
  usable_register (Fixed r) u = low_register r u.0
  usable_register (Name n) u = holder_not_esp byte last n

  -- no field but one of ESP becomes ESP
  register_made : (count : ℕ) → Fits count x → (r : Reg) → number_of_reg r < 3 → register r ≢ Esp
  register_made count f r low e = usable_register (slot_at x.slots r) (at_usable x f.placeable r low) (sym (register_is x f.placeable r low) ∙ e)

  no_index_made : (count : ℕ) → Fits count x → (r : Reg) → register r ≡ Esp → r ≡ Esp
  no_index_made count f Eax e = absurd (register_made count f Eax (omega arith) e)
  no_index_made count f Ecx e = absurd (register_made count f Ecx (omega arith) e)
  no_index_made count f Edx e = absurd (register_made count f Edx (omega arith) e)
  no_index_made count f Ebx e = e
  no_index_made count f Esp e = e
  no_index_made count f Ebp e = e
  no_index_made count f Esi e = e
  no_index_made count f Edi e = e

module _ (kept : SpellingIsKept) (code : List VBlock) (homes : List Home) (numbers : List ℕ) (same : numbers ≡ map (λ (b : VBlock). b.number) code) (spare : ℕ) (room : spare < length homes) where
  abbrev Formed : PInstr → Type 0
  Formed p = IsItemInForm homes numbers p

  -- ---- an instruction
  module _ (x : VInstr) (fit : Fits spare x) (form : IsInstrInForm code x) where
    own_form : Formed (own x)
    own_form =
        let keeps = is_kept (own_renaming x) x.instr in
        let few = fit.placeable.few in
        record {
          spelled = kept.spelling_stays (own_renaming x) x.instr (no_index_made x spare fit) form.spelled;
          fields = subst (λ (rs : List Reg). All (λ (r : Reg). r ≢ Esp) rs) (sym (fields_renamed (register x) x.instr))
              (All-map (λ (r : Reg). r ≢ Esp) (register x) (register_fields x.instr)
              (λ k d l. register_made x spare fit (get_or (register_fields x.instr) k d) (let low : number_of_reg (get_or (register_fields x.instr) k d) < 0 + length x.slots = early_fields (register_fields x.instr) 0 (length x.slots) form.fields k d l in omega (arith, low, few))));
          stackless = keeps.0 form.stackless;
          target = keeps.1 numbers (subst (λ (ns : List ℕ). NamesBlock ns x.instr) (sym same) form.target);
        }

  move_form : (n : ℕ) → n < spare → (byte : Bool) (last : Option ℕ) → IsMoveInForm homes n (holder byte last n)
  move_form n low byte last = record { home = omega (arith, low, room); register = holder_not_esp byte last n }

  module _ (byte : Bool) (last : Option ℕ) where
    fetches_form : (slots : List Slot) → HaveCells spare slots → All Formed (fetches byte last slots)
    fetches_form [] c = All-nil Formed
    fetches_form (Fixed r ∷ slots) c = fetches_form slots (λ n h. c n (inr h))
    fetches_form (Name n ∷ slots) c = All-cons Formed (item.Fetch n (holder byte last n)) (fetches byte last slots) (move_form n (c n (inl refl)) byte last) (fetches_form slots (λ m h. c m (inr h)))

    keeps_form : (slots : List Slot) → HaveCells spare slots → All Formed (keeps byte last slots)
    keeps_form [] c = All-nil Formed
    keeps_form (Fixed r ∷ slots) c = keeps_form slots (λ n h. c n (inr h))
    keeps_form (Name n ∷ slots) c = All-cons Formed (item.Keep n (holder byte last n)) (keeps byte last slots) (move_form n (c n (inl refl)) byte last) (keeps_form slots (λ m h. c m (inr h)))

  ebx_form : IsMoveInForm homes spare Ebx
  ebx_form = record { home = room; register = low_register Ebx (omega arith) }

  lend_form : (b : Bool) → All Formed (lend b spare)
  lend_form true = All-cons Formed (item.Keep spare Ebx) [] ebx_form (All-nil Formed)
  lend_form false = All-nil Formed

  give_form : (b : Bool) → All Formed (give_back b spare)
  give_form true = All-cons Formed (item.Fetch spare Ebx) [] ebx_form (All-nil Formed)
  give_form false = All-nil Formed

  instr_form : (x : VInstr) → Fits spare x → IsInstrInForm code x → All Formed (place_instr spare x)
  instr_form x fit form =
      let byte = has_byte_field x.instr in
      let last = last_name x.slots in
      let b = borrows_ebx x in
      All-append Formed (lend b spare) (fetches byte last x.slots ++ own x ∷ (keeps byte last x.slots ++ give_back b spare)) (lend_form b)
      (All-append Formed (fetches byte last x.slots) (own x ∷ (keeps byte last x.slots ++ give_back b spare)) (fetches_form byte last x.slots fit.names)
      (All-cons Formed (own x) (keeps byte last x.slots ++ give_back b spare) (own_form x fit form)
      (All-append Formed (keeps byte last x.slots) (give_back b spare) (keeps_form byte last x.slots fit.names) (give_form b))))

  instrs_form : (xs : List VInstr) → All (Fits spare) xs → All (IsInstrInForm code) xs → All Formed (place_instrs spare xs)
  instrs_form [] fit form = All-nil Formed
  instrs_form (x ∷ xs) fit form =
      All-append Formed (place_instr spare x) (place_instrs spare xs) (instr_form x (All-head (Fits spare) x xs fit) (All-head (IsInstrInForm code) x xs form))
      (instrs_form xs (All-tail (Fits spare) x xs fit) (All-tail (IsInstrInForm code) x xs form))

  -- ---- a block
  block_form : (b : VBlock) → BlockFits spare b → IsBlockInForm code b → IsPBlockInForm homes numbers (place_block spare b)
  block_form b fit form = record { items = instrs_form b.code fit form.instrs; begins = λ at. some_placed spare b.code (form.begins at) }

-- ---- the whole code
number_kept : (spare : ℕ) (code : List VBlock) → map (λ (b : PBlock). b.number) (map (place_block spare) code) ≡ map (λ (b : VBlock). b.number) code
number_kept spare [] = refl
number_kept spare (b ∷ code) = ap (λ (ns : List ℕ). b.number ∷ ns) (number_kept spare code)

homes_long : (count : ℕ) → length (homes_of count) ≡ count
homes_long count = length-map-range_with_len home_at 0 count

pub in_form : SpellingIsKept → (code : List VBlock) → CanBePlaced code → IsCodeInForm code → IsPlacedInForm (cells_of code)
in_form kept code can form =
    let count = name_count code in
    let homes = homes_of (count + 1) in
    let numbers = map (λ (b : PBlock). b.number) (map (place_block count) code) in
    let small = count_small code can in
    let long = homes_long (count + 1) in
    let fit = code_fits code can in
    record {
      cells = cells_from 0 (count + 1) (omega (arith, small));
      blocks = All-map (IsPBlockInForm homes numbers) (place_block count) code
          (λ k d l. block_form kept code homes numbers (number_kept count code) count (omega (arith, long)) (get_or code k d) (fit k d l) (form k d l));
    }

pub blocks_kept : (code : List VBlock) → HasBlocksOf code (cells_of code)
blocks_kept code = by (name_count code) code
  where
    by : (spare : ℕ) (bs : List VBlock) → map {B = ℕ × ℕ} (λ b. (b.number, b.at)) (map (place_block spare) bs) ≡ map (λ b. (b.number, b.at)) bs
    by spare [] = refl
    by spare (b ∷ bs) = ap (λ (ns : List (ℕ × ℕ)). (b.number, b.at) ∷ ns) (by spare bs)
