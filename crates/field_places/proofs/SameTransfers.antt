-- What an instruction reads and writes, over places that are paired.
use Rattle.std.proofs.Common.{◌≡◌, ℕ, Bool, true, false, List, [], ◌∷◌, Option, Some, None, refl, sym, ap, subst}
use Rattle.x86_values.specs.Words.{word_of, known}
use Rattle.x86_types.specs.declared.operand.Reg.{Reg}
use Rattle.x86_types.specs.declared.operand.Rm.{Rm}
use Rattle.x86_types.specs.declared.operand.Src.{Src}
use Rattle.x86_types.specs.declared.instr.Instr.{Instr}
use Rattle.x86_types.specs.declared.instr.Instr.TheVariants as instr
use Rattle.x86_types.specs.declared.width.Width.{Width}
use Rattle.x86_types.specs.declared.width.Width.TheVariants.{One, Four}
use Rattle.x86_types.specs.Numbers.{size_of}
use Rattle.x86_types.specs.Registers.{Whole}
use Rattle.x86_meaning.specs.Registers.{Registers, Naming}
use Rattle.x86_meaning.specs.Operands.{Location, Constant, SizedOperand, field, effective_address, location_of, source_of}
use Rattle.x86_meaning.specs.TransferShapes.{Transfer, by_one, by_two, pop_to, esp_raised, up, movs_transfer, stos_transfer, string_transfer, move_transfer, exchange_transfer, update_transfer, set_transfer, read_transfer, compare_transfer, combine_transfer, multiply_by_transfer}
use Rattle.x86_meaning.specs.Transfers.{transfer}
use Rattle.field_places.specs.Fields.{Field, fields, implicit_registers, sized_field, as_field, repeat_registers, rm_fields, src_fields}
use Rattle.field_places.specs.Pairs.{Pairs, ArePaired, IsOneToOne, HoldTheSame, FieldsArePaired, PairedWithThemselves}
use Rattle.field_places.proofs.Places.{Both, SameLocation, SameOperands, SameTransfer, with_the_same, first_fields, last_fields, field_same, address_same, location_same, source_same}
use Rattle.field_places.proofs.Shapes.{itself, one, two, alu_same, multiply_same, divide_same, shift_same, double_shift_same, push_same, push_of_same, pop_same, pop_to_same, leave_same, movs_same, stos_same, string_same}

module _ (pairs : Pairs) (v w : Naming) (once : IsOneToOne pairs) where
  abbrev Fields : List Field → Type 0
  Fields xs = FieldsArePaired pairs v w xs

  abbrev Alike : Option Transfer → Option Transfer → Type 0
  Alike o u = Both (SameTransfer pairs) o u

  -- the target of POP, whose address uses the raised esp
  raised_same : (e : Option ℕ) (r q : Registers) → ArePaired pairs 4 4 → HoldTheSame pairs r q → HoldTheSame pairs (esp_raised e r) (esp_raised e q)
  raised_same None r q p h = h
  raised_same (Some at) r q p h = with_the_same pairs once 4 4 (word_of (up 4 at)) (word_of (up 4 at)) r q p refl h

  module _ (r q : Registers) (same : HoldTheSame pairs r q) where
    location : (s : Width) (o : Rm) → Fields (rm_fields s o) → Both (SameLocation pairs) (location_of v r s o) (location_of w q s o)
    location = location_same pairs v w r q same

    source : (s : Width) (o : Src) → Fields (src_fields s o) → Both (SameLocation pairs) (source_of v r s o) (source_of w q s o)
    source = source_same pairs v w r q same

    -- an rm field, alone, behind a register field and before one
    by_rm : (g : Location → Transfer) (s : Width) (o : Rm) → Fields (rm_fields s o) → ((a b : Location) → SameLocation pairs a b → SameTransfer pairs (g a) (g b)) → Alike (by_one g (location_of v r s o)) (by_one g (location_of w q s o))
    by_rm g s o h f = one pairs g g _ _ (location s o h) f

    by_field : (g : Location → Location → Transfer) (s : Width) (n : Reg) (z : Width) (o : Rm) → Fields (sized_field s n ∷ rm_fields z o)
        → ((a b c d : Location) → SameLocation pairs a b → SameLocation pairs c d → SameTransfer pairs (g a c) (g b d)) → Alike (by_one (g (field v s n)) (location_of v r z o)) (by_one (g (field w s n)) (location_of w q z o))
    by_field g s n z o h f = one pairs (g (field v s n)) (g (field w s n)) _ _ (location z o h.1) (λ c d k. f (field v s n) (field w s n) c d (field_same pairs v w s n h.0) k)

    before_field : (g : Location → Location → Transfer) (s : Width) (o : Rm) (z : Width) (n : Reg) → Fields (rm_fields s o) → Fields (sized_field z n ∷ [])
        → ((a b c d : Location) → SameLocation pairs a b → SameLocation pairs c d → SameTransfer pairs (g a c) (g b d)) → Alike (by_two g (location_of v r s o) (Some (field v z n))) (by_two g (location_of w q s o) (Some (field w z n)))
    before_field g s o z n h k f = two pairs g g _ _ (Some (field v z n)) (Some (field w z n)) (location s o h) (field_same pairs v w z n k.0) f

    by_both : (g : Location → Location → Transfer) (s : Width) (to : Rm) (from : Src) → Fields (rm_fields s to) → Fields (src_fields s from)
        → ((a b c d : Location) → SameLocation pairs a b → SameLocation pairs c d → SameTransfer pairs (g a c) (g b d)) → Alike (by_two g (location_of v r s to) (source_of v r s from)) (by_two g (location_of w q s to) (source_of w q s from))
    by_both g s to from h k f = two pairs g g _ _ _ _ (location s to h) (source s from k) f

    moved : (to from : ℕ) (a b c d : Location) → SameLocation pairs a b → SameLocation pairs c d → SameTransfer pairs (move_transfer to from a c) (move_transfer to from b d)
    moved to from a b c d h k = ((refl, k, refl), (refl, h, refl))

    word_same : (n : ℕ) → ArePaired pairs n n → known (r n) ≡ known (q n)
    word_same n p = ap known (same n n p)

    -- a string instruction, whose count is looked at with a repeat alone
    counted : (repeat : Bool) (g : List SizedOperand → Option Transfer) → PairedWithThemselves pairs (repeat_registers repeat) → ((more : List SizedOperand) → SameOperands pairs more more → Alike (g more) (g more))
        → Alike (string_transfer repeat (known (r 1)) g) (string_transfer repeat (known (q 1)) g)
    counted false g p f = string_same pairs false (known (r 1)) g p f
    counted true g p f = rw (word_same 1 p.0) (string_same pairs true (known (q 1)) g p f)

    pop_all : (to : Rm) → ArePaired pairs 4 4 → Fields (rm_fields Four to) → Alike (pop_to (location_of v (esp_raised (known (r 4)) r) Four to) (known (r 4))) (pop_to (location_of w (esp_raised (known (q 4)) q) Four to) (known (q 4)))
    pop_all to p h =
        subst (λ e. Alike (pop_to (location_of v (esp_raised (known (r 4)) r) Four to) (known (r 4))) (pop_to (location_of w (esp_raised e q) Four to) e)) (word_same 4 p)
        (pop_to_same pairs _ _ (known (r 4)) p (location_same pairs v w (esp_raised (known (r 4)) r) (esp_raised (known (r 4)) q) (raised_same (known (r 4)) r q p same) Four to h))

    movs_all : (s : Width) (repeat : Bool) → PairedWithThemselves pairs (6 ∷ 7 ∷ repeat_registers repeat)
        → Alike (string_transfer repeat (known (r 1)) (movs_transfer (size_of s) (known (r 6)) (known (r 7)))) (string_transfer repeat (known (q 1)) (movs_transfer (size_of s) (known (q 6)) (known (q 7))))
    movs_all s repeat p = rw (word_same 6 p.0, word_same 7 p.1.0) (counted repeat _ p.1.1 (λ more k. movs_same pairs (size_of s) (known (q 6)) (known (q 7)) more p.0 p.1.0 k))

    stos_all : (s : Width) (repeat : Bool) → PairedWithThemselves pairs (0 ∷ 7 ∷ repeat_registers repeat)
        → Alike (string_transfer repeat (known (r 1)) (stos_transfer s (known (r 7)))) (string_transfer repeat (known (q 1)) (stos_transfer s (known (q 7))))
    stos_all s repeat p = rw (word_same 7 p.1.0) (counted repeat _ p.1.1 (λ more k. stos_same pairs s (known (q 7)) more p.0 p.1.0 k))

    pub transfer_same : (i : Instr) → Fields (fields i) → PairedWithThemselves pairs (implicit_registers i) → Alike (transfer v i r) (transfer w i q)
    unfolding transfer fields implicit_registers
    transfer_same (instr.Alu op s to from) h p = by_both _ s to from (first_fields pairs v w (rm_fields s to) (src_fields s from) h) (last_fields pairs v w (rm_fields s to) (src_fields s from) h) (alu_same pairs once op (size_of s))
    transfer_same (instr.Test s to from) h p = by_both (compare_transfer (size_of s)) s to from (first_fields pairs v w (rm_fields s to) (src_fields s from) h) (last_fields pairs v w (rm_fields s to) (src_fields s from) h) (λ a b c d h k. ((refl, h, (refl, k, refl)), refl))
    transfer_same (instr.Mov s to from) h p = by_both _ s to from (first_fields pairs v w (rm_fields s to) (src_fields s from) h) (last_fields pairs v w (rm_fields s to) (src_fields s from) h) (moved (size_of s) (size_of s))
    transfer_same (instr.Lea s to at) h p = moved (size_of s) (size_of s) (field v s to) (field w s to) (Constant (effective_address v r at)) (Constant (effective_address w q at)) (field_same pairs v w s to h.0) (ap Constant (sym (address_same pairs v w r q same at h.1)))
    transfer_same (instr.Inc s to) h p = by_rm (update_transfer (size_of s)) s to h (λ a b k. ((refl, k, refl), (refl, k, refl)))
    transfer_same (instr.Dec s to) h p = by_rm (update_transfer (size_of s)) s to h (λ a b k. ((refl, k, refl), (refl, k, refl)))
    transfer_same (instr.Not s to) h p = by_rm (update_transfer (size_of s)) s to h (λ a b k. ((refl, k, refl), (refl, k, refl)))
    transfer_same (instr.Neg s to) h p = by_rm (update_transfer (size_of s)) s to h (λ a b k. ((refl, k, refl), (refl, k, refl)))
    transfer_same (instr.Mul s from) h p = by_rm _ s from h (λ a b k. multiply_same pairs s a b p k)
    transfer_same (instr.ImulWide s from) h p = by_rm _ s from h (λ a b k. multiply_same pairs s a b p k)
    transfer_same (instr.Div s from) h p = by_rm _ s from h (λ a b k. divide_same pairs s a b p k)
    transfer_same (instr.Idiv s from) h p = by_rm _ s from h (λ a b k. divide_same pairs s a b p k)
    transfer_same (instr.Imul s to from) h p = by_field (combine_transfer (size_of s)) s to s from h (λ a b c d h k. ((refl, h, (refl, k, refl)), (refl, h, refl)))
    transfer_same (instr.ImulBy s to from by) h p = by_field (multiply_by_transfer (size_of s) by) s to s from h (λ a b c d h k. ((refl, k, (refl, refl, refl)), (refl, h, refl)))
    transfer_same (instr.Shift op s to n) h p = by_rm _ s to h (λ a b k. shift_same pairs (size_of s) n a b p k)
    transfer_same (instr.Shld to from n) h p = before_field _ Four to Four from (first_fields pairs v w (rm_fields Four to) (as_field Whole from ∷ []) h) (last_fields pairs v w (rm_fields Four to) (as_field Whole from ∷ []) h) (λ a b c d h k. double_shift_same pairs n a b c d p h k)
    transfer_same (instr.Shrd to from n) h p = before_field _ Four to Four from (first_fields pairs v w (rm_fields Four to) (as_field Whole from ∷ []) h) (last_fields pairs v w (rm_fields Four to) (as_field Whole from ∷ []) h) (λ a b c d h k. double_shift_same pairs n a b c d p h k)
    transfer_same (instr.Push from) h p = push_of_same pairs _ _ _ _ p.0 (word_same 4 p.0) (source Four from h)
    transfer_same (instr.Pop to) h p = pop_all to p.0 h
    transfer_same (instr.Xchg s to from) h p = one pairs (exchange_transfer (size_of s) (field v s from)) (exchange_transfer (size_of s) (field w s from)) _ _ (location s to (first_fields pairs v w (rm_fields s to) (sized_field s from ∷ []) h)) (λ a b k. let f = field_same pairs v w s from (last_fields pairs v w (rm_fields s to) (sized_field s from ∷ []) h).0 in ((refl, k, (refl, f, refl)), (refl, k, (refl, f, refl))))
    transfer_same (instr.Movzx wide s to from) h p = by_field (move_transfer (size_of wide) (size_of s)) wide to s from h (moved (size_of wide) (size_of s))
    transfer_same (instr.Movsx wide s to from) h p = by_field (move_transfer (size_of wide) (size_of s)) wide to s from h (moved (size_of wide) (size_of s))
    transfer_same (instr.Cmov c s to from) h p = by_field (combine_transfer (size_of s)) s to s from h (λ a b c d h k. ((refl, h, (refl, k, refl)), (refl, h, refl)))
    transfer_same (instr.Setcc c to) h p = by_rm (set_transfer 1) One to h (λ a b k. (refl, (refl, k, refl)))
    transfer_same (instr.Extend s) h p = ((refl, itself pairs 0 0 p.0, refl), (refl, itself pairs 0 0 p.0, refl))
    transfer_same (instr.Spread s) h p = ((refl, itself pairs 0 0 p.0, refl), (refl, itself pairs 2 0 p.1.0, refl))
    transfer_same (instr.Bsf s to from) h p = by_field (move_transfer (size_of s) (size_of s)) s to s from h (moved (size_of s) (size_of s))
    transfer_same (instr.Bsr s to from) h p = by_field (move_transfer (size_of s) (size_of s)) s to s from h (moved (size_of s) (size_of s))
    transfer_same (instr.Bswap to) h p = let f = field_same pairs v w Four to h.0 in ((refl, f, refl), (refl, f, refl))
    transfer_same (instr.Movs s repeat) h p = movs_all s repeat p
    transfer_same (instr.Stos s repeat) h p = stos_all s repeat p
    transfer_same (instr.Jmp by) h p = (refl, refl)
    transfer_same (instr.JmpTo to) h p = by_rm (read_transfer 4) Four to h (λ a b k. ((refl, k, refl), refl))
    transfer_same (instr.CallTo to) h p = push_of_same pairs _ _ _ _ p.0 (word_same 4 p.0) (location Four to h)
    transfer_same (instr.Jcc c by) h p = (refl, refl)
    transfer_same (instr.Call by) h p = rw (word_same 4 p.0) (push_same pairs [] [] (known (q 4)) p.0 refl)
    transfer_same (instr.Ret drop) h p = rw (word_same 4 p.0) (pop_same pairs [] [] (known (q 4)) p.0 refl)
    transfer_same instr.Leave h p = rw (word_same 5 p.1.0) (leave_same pairs (known (q 5)) p.0 p.1.0)
    transfer_same instr.Int80 h p = (refl, refl)
    transfer_same instr.Cld h p = (refl, refl)
    transfer_same instr.Nop h p = (refl, refl)
