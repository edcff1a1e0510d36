-- Some instructions are placed as some items.
use Rattle.std.proofs.Common.{◌≡◌, ◌≢◌, ℕ, List, [], ◌∷◌, ◌++◌, refl}
use Rattle.named_code.specs.declared.named.VInstr.{VInstr}
use Rattle.named_code.specs.declared.placed.PInstr.{PInstr}
use Rattle.name_cells.specs.Holders.{has_byte_field, last_name, borrows_ebx}
use Rattle.name_cells.specs.Placing.{fetches, keeps, own, lend, give_back, place_instr, place_instrs}

never_empty : (is bs : List PInstr) (p : PInstr) (es : List PInstr) → is ++ (bs ++ p ∷ es) ≢ []
never_empty [] [] p es e = absurd cc
never_empty [] (b ∷ bs) p es e = absurd cc
never_empty (i ∷ is) bs p es e = absurd cc

front_empty : (ps qs : List PInstr) → ps ++ qs ≡ [] → ps ≡ []
front_empty [] qs e = refl
front_empty (p ∷ ps) qs e = absurd cc

pub some_placed : (spare : ℕ) (xs : List VInstr) → xs ≢ [] → place_instrs spare xs ≢ []
some_placed spare [] h e = h refl
some_placed spare (x ∷ xs) h e =
    let byte = has_byte_field x.instr in
    let last = last_name x.slots in
    never_empty (lend (borrows_ebx x) spare) (fetches byte last x.slots) (own x) (keeps byte last x.slots ++ give_back (borrows_ebx x) spare) (front_empty (place_instr spare x) (place_instrs spare xs) e)
