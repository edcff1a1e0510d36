-- Lists that grow by what one more element gives.
use Rattle.std.proofs.Common.{◌≡◌, ℕ, ◌+◌, ◌<◌, ◌&&◌, Bool, Option, is_some, List, [], ◌∷◌, ◌++◌, flat_map, take, get_or, length, refl, sym, ap, ◌∙◌, append_assoc, arith}
use Rattle.std.proofs.lemmas.List.{append-nil, take_more}
use Rattle.std.proofs.lemmas.List.FromFn.{map-range_with_len_more}
use Rattle.named_code.specs.declared.named.VInstr.{VInstr}
use Rattle.named_code.specs.declared.placed.PInstr.{PInstr}
use Rattle.name_cells.specs.Cells.{home_at, homes_of}
use Rattle.name_cells.specs.Placing.{place_instr, lend, give_back, fetches, keeps}
use Rattle.name_cells.specs.Holders.{has_byte_field, last_name, field_registers}
use Rattle.name_cells.specs.Renaming.{by_registers}
use Rattle.name_cells.specs.declared.renaming.FieldRegisters.{FieldRegisters}
use Rattle.named_code.specs.declared.slot.Slot.{Slot}
use Rattle.named_code.specs.declared.placed.PInstr.TheVariants as item
use Rattle.x86_types.specs.declared.instr.Instr.{Instr}
use Rattle.x86_types.specs.Registers.{renamed}

flat_last : {X A : Type 0} (f : X → List A) (xs : List X) (x : X) → flat_map f (xs ++ x ∷ []) ≡ flat_map f xs ++ f x
flat_last f [] x = append-nil (f x)
flat_last f (y ∷ xs) x = ap (λ zs. f y ++ zs) (flat_last f xs x) ∙ sym (append_assoc (f y) (flat_map f xs) (f x))

pub flat_more : {X A : Type 0} (f : X → List A) (xs : List X) (i : ℕ) (d : X) (ys zs : List A) → i < length xs → ys ≡ flat_map f (take i xs) → zs ≡ ys ++ f (get_or xs i d) → zs ≡ flat_map f (take (i + 1) xs)
flat_more f xs i d ys zs low h e = e ∙ ap (λ ws. ws ++ f (get_or xs i d)) h ∙ sym (flat_last f (take i xs) (get_or xs i d)) ∙ ap (flat_map f) (sym (take_more xs i d low))

pub flat_more_behind : {X A : Type 0} (f : X → List A) (bs : List A) (xs : List X) (i : ℕ) (d : X) (ys zs : List A) → i < length xs → ys ≡ bs ++ flat_map f (take i xs) → zs ≡ ys ++ f (get_or xs i d) → zs ≡ bs ++ flat_map f (take (i + 1) xs)
flat_more_behind f bs xs i d ys zs low h e =
    e ∙ ap (λ ws. ws ++ f (get_or xs i d)) h ∙ append_assoc bs (flat_map f (take i xs)) (f (get_or xs i d)) ∙ ap (λ ws. bs ++ ws) (sym (flat_last f (take i xs) (get_or xs i d)) ∙ ap (flat_map f) (sym (take_more xs i d low)))

pub homes_more : (count : ℕ) → homes_of (count + 1) ≡ homes_of count ++ home_at count ∷ []
homes_more count = map-range_with_len_more home_at 0 count count (omega arith)

pub instrs_more : (spare : ℕ) (xs : List VInstr) (i : ℕ) (d x : VInstr) (ys zs : List PInstr) → i < length xs → ys ≡ flat_map (place_instr spare) (take i xs) → x ≡ get_or xs i d → zs ≡ ys ++ place_instr spare x → zs ≡ flat_map (place_instr spare) (take (i + 1) xs)
instrs_more spare xs i d x ys zs low h is e = flat_more (place_instr spare) xs i d ys zs low h (e ∙ ap (λ y. ys ++ place_instr spare y) is)

-- five parts that are appended one by one
pub joined : (is bs cs : List PInstr) (d : PInstr) (es fs v w x y z : List PInstr) → v ≡ is ++ bs → w ≡ v ++ cs → x ≡ w ++ d ∷ [] → y ≡ x ++ es → z ≡ y ++ fs → z ≡ is ++ (bs ++ (cs ++ d ∷ (es ++ fs)))
joined is bs cs d es fs v w x y z e1 e2 e3 e4 e5 = rw (e5, e4, e3, e2, e1) (simp append_assoc refl)

pub parts_placed : (spare : ℕ) (x : VInstr) (slots : List Slot) (byte : Bool) (last : Option ℕ) (borrows : Bool) (regs : FieldRegisters) (i : Instr) (is v w xs y z : List PInstr)
    → slots ≡ x.slots → byte ≡ has_byte_field x.instr → last ≡ last_name slots → borrows ≡ (byte && is_some last) → regs ≡ field_registers byte slots → i ≡ renamed (by_registers regs) x.instr
    → v ≡ is ++ lend borrows spare → w ≡ v ++ fetches byte last slots → xs ≡ w ++ item.Own i ∷ [] → y ≡ xs ++ keeps byte last slots → z ≡ y ++ give_back borrows spare → z ≡ is ++ place_instr spare x
parts_placed spare x slots byte last borrows regs i is v w xs y z e1 e2 e3 e4 e5 e6 k1 k2 k3 k4 k5 =
    joined is (lend borrows spare) (fetches byte last slots) (item.Own i) (keeps byte last slots) (give_back borrows spare) v w xs y z k1 k2 k3 k4 k5 ∙ ap (λ l. is ++ l) (rw (e6, e5, e4, e3, e2, e1) refl)
