-- How many items an instruction has.
use Rattle.std.proofs.Common.{◌≡◌, ℕ, ◌+◌, ◌≤◌, Bool, true, false, List, [], ◌∷◌, ◌++◌, length, flat_map, Option, arith}
use Rattle.std.proofs.lemmas.List.{length-append}
use Rattle.named_code.specs.declared.slot.Slot.{Slot}
use Rattle.named_code.specs.declared.slot.Slot.TheVariants.{Fixed, Name}
use Rattle.named_code.specs.declared.named.VInstr.{VInstr}
use Rattle.named_code.specs.declared.placed.PInstr.{PInstr}
use Rattle.name_cells.specs.Holders.{has_byte_field, last_name, borrows_ebx}
use Rattle.name_cells.specs.Placing.{fetch_slot, keep_slot, fetches, keeps, own, lend, give_back, place_instr}
use Rattle.name_cells.specs.CanBePlaced.{IsInstrPlaceable}

-- a list of lists of at most one element is no longer than what it is made from
flat_few : {X A : Type 0} (f : X → List A) → ((x : X) → length (f x) ≤ 1) → (xs : List X) → length (flat_map f xs) ≤ length xs
flat_few f h [] = omega arith
flat_few f h (x ∷ xs) =
    let e : length (f x ++ flat_map f xs) ≡ length (f x) + length (flat_map f xs) = length-append (f x) (flat_map f xs) in
    let one = h x in
    let rest = flat_few f h xs in
    omega arith

fetch_one : (byte : Bool) (last : Option ℕ) (s : Slot) → length (fetch_slot byte last s) ≤ 1
fetch_one byte last (Fixed r) = omega arith
fetch_one byte last (Name n) = omega arith

keep_one : (byte : Bool) (last : Option ℕ) (s : Slot) → length (keep_slot byte last s) ≤ 1
keep_one byte last (Fixed r) = omega arith
keep_one byte last (Name n) = omega arith

lend_one : (b : Bool) (spare : ℕ) → length (lend b spare) ≤ 1
lend_one true spare = omega arith
lend_one false spare = omega arith

give_one : (b : Bool) (spare : ℕ) → length (give_back b spare) ≤ 1
give_one true spare = omega arith
give_one false spare = omega arith

five_few : (is bs : List PInstr) (d : PInstr) (es fs : List PInstr) → length is ≤ 1 → length bs ≤ 3 → length es ≤ 3 → length fs ≤ 1 → length (is ++ (bs ++ d ∷ (es ++ fs))) ≤ 9
five_few is bs d es fs h1 h2 h3 h4 =
    let e1 = length-append is (bs ++ d ∷ (es ++ fs)) in
    let e2 = length-append bs (d ∷ (es ++ fs)) in
    let e3 = length-append es fs in
    omega arith

below_three : (n m : ℕ) → n ≤ m → m ≤ 3 → n ≤ 3
below_three n m h k = omega arith

pub few_items : (spare : ℕ) (x : VInstr) → IsInstrPlaceable x → length (place_instr spare x) ≤ 9
few_items spare x h =
    let byte = has_byte_field x.instr in
    let last = last_name x.slots in
    five_few (lend (borrows_ebx x) spare) (fetches byte last x.slots) (own x) (keeps byte last x.slots) (give_back (borrows_ebx x) spare)
    (lend_one (borrows_ebx x) spare) (below_three _ _ (flat_few (fetch_slot byte last) (fetch_one byte last) x.slots) h.few) (below_three _ _ (flat_few (keep_slot byte last) (keep_one byte last) x.slots) h.few) (give_one (borrows_ebx x) spare)
