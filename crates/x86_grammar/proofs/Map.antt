-- What the map says at each opcode is right, and no row stands at a prefix or at 0F.
use Rattle.std.proofs.Common.{◌≡◌, ℕ, zero, suc, ◌<◌, Option, Some, None, Bool, true, false, ◌&&◌, ◌||◌, eqb, subst, refl, arith, inl, inr, ◌⊎◌}
use Rattle.std.proofs.lemmas.Bool.{agree_below, agree_below_at, eqb-true, false≢true, cases_lt}
use Rattle.x86_types.specs.declared.operation.ShiftOp.{ShiftOp}
use Rattle.x86_grammar.specs.declared.row.Row.{Row}
use Rattle.x86_grammar.specs.declared.row.Group.{Group}
use Rattle.x86_grammar.specs.declared.row.Group.TheVariants as group
use Rattle.x86_grammar.specs.declared.row.Entry.{Entry}
use Rattle.x86_grammar.specs.declared.row.Entry.TheVariants as entry
use Rattle.x86_grammar.specs.Table.{entry_of, member_of, row_in, row_at, shift_row, first_row, unit_row, step_row}
use Rattle.x86_grammar.specs.Rows.{opcode_of, reg_field_of, fits_reg_field, has_operand}
use Rattle.x86_grammar.specs.Spells.{is_prefix}

pub and_left : (a b : Bool) → (a && b) ≡ true → a ≡ true
and_left true b e = refl
and_left false b e = absurd (false≢true e)

pub and_right : (a b : Bool) → (a && b) ≡ true → b ≡ true
and_right true b e = e
and_right false b e = absurd (false≢true e)

pub or_cases : (a b : Bool) → (a || b) ≡ true → (a ≡ true) ⊎ (b ≡ true)
or_cases true b h = inl refl
or_cases false b h = inr h

-- ---- each row that is found stands at its opcode

abbrev right : ℕ → ℕ → Option Row → Bool
right opcode n None = true
right opcode n (Some r) = eqb (opcode_of r) opcode && fits_reg_field (reg_field_of r) n

abbrev right_below : ℕ → ℕ → Bool
right_below opcode zero = true
right_below opcode (suc n) = right opcode n (row_at opcode n) && right_below opcode n

map_right : agree_below (λ opcode. right_below opcode 8) (λ opcode. true) 0x200 ≡ true
unfolding entry_of
map_right = refl

right_at : (opcode n : ℕ) (k : ℕ) → right_below opcode k ≡ true → n < k → right opcode n (row_at opcode n) ≡ true
right_at opcode n zero h lt = absurd (omega arith)
right_at opcode n (suc k) h lt =
    elim (cases_lt n k) [
      | inl l ↦ right_at opcode n k (and_right (right opcode k (row_at opcode k)) (right_below opcode k) h) l
      | inr g ↦ let e : k ≡ n = omega arith in subst (λ (x : ℕ). right opcode x (row_at opcode x) ≡ true) e (and_left (right opcode k (row_at opcode k)) (right_below opcode k) h)
    ]

pub row_right : (opcode n : ℕ) (r : Row) → opcode < 0x200 → n < 8 → row_at opcode n ≡ Some r → (opcode_of r ≡ opcode) × (fits_reg_field (reg_field_of r) n ≡ true)
row_right opcode n r lk ln e =
    let t = agree_below_at (λ opcode. right_below opcode 8) (λ opcode. true) 0x200 opcode map_right lk in
    let x : right opcode n (Some r) ≡ true = rw e at (right_at opcode n 8 t ln) in
    (eqb-true _ _ (and_left (eqb (opcode_of r) opcode) (fits_reg_field (reg_field_of r) n) x), and_right (eqb (opcode_of r) opcode) (fits_reg_field (reg_field_of r) n) x)

-- ---- nothing stands at a prefix or at 0F

prefix_entry : (b : ℕ) → is_prefix b ≡ true → entry_of b ≡ entry.Nothing
unfolding entry_of
prefix_entry b h =
    elim (or_cases (eqb b 0x66 || eqb b 0x2E || eqb b 0x3E) (eqb b 0xF3) h) [
      | inr e ↦ rw (eqb-true b 0xF3 e) refl
      | inl k ↦ elim (or_cases (eqb b 0x66 || eqb b 0x2E) (eqb b 0x3E) k) [
        | inr e ↦ rw (eqb-true b 0x3E e) refl
        | inl l ↦ elim (or_cases (eqb b 0x66) (eqb b 0x2E) l) [
          | inl e ↦ rw (eqb-true b 0x66 e) refl
          | inr e ↦ rw (eqb-true b 0x2E e) refl
        ]
      ]
    ]

escape_entry : (b : ℕ) → eqb b 0x0F ≡ true → entry_of b ≡ entry.Nothing
unfolding entry_of
escape_entry b h = rw (eqb-true b 0x0F h) refl

pub nothing_there : (e : Entry) (n : ℕ) (r : Row) → row_in e n ≡ Some r → e ≡ entry.Nothing → ⊥
nothing_there entry.Nothing n r h z = absurd cc
nothing_there (entry.One q) n r h z = absurd cc
nothing_there (entry.By g) n r h z = absurd cc

is_false : (b : Bool) → (b ≡ true → ⊥) → b ≡ false
is_false true h = absurd (h refl)
is_false false h = refl

pub no_prefix : (r : Row) (n : ℕ) → row_at (opcode_of r) n ≡ Some r → is_prefix (opcode_of r) ≡ false
no_prefix r n e = is_false _ (λ h. nothing_there _ n r e (prefix_entry (opcode_of r) h))

pub no_escape : (r : Row) (n : ℕ) → row_at (opcode_of r) n ≡ Some r → eqb (opcode_of r) 0x0F ≡ false
no_escape r n e = is_false _ (λ h. nothing_there _ n r e (escape_entry (opcode_of r) h))

-- ---- each member of a group has ModRM

pub some_row : (q r : Row) → Some q ≡ Some r → q ≡ r
some_row q r h = cc

pub none_row : (r : Row) → None ≡ Some r → ⊥
none_row r h = cc

abbrev has : Row → Type 0
has r = has_operand r ≡ true

it_has : (q r : Row) → has q → Some q ≡ Some r → has r
it_has q r h e = subst has (some_row q r e) h

first_has : (q r : Row) (n : ℕ) → has q → first_row q n ≡ Some r → has r
first_has q r zero h e = it_has q r h e
first_has q r (suc n) h e = absurd (none_row r e)

shift_has : (o : Option ShiftOp) (f : ShiftOp → Row) (r : Row) → ((op : ShiftOp) → has (f op)) → shift_row o f ≡ Some r → has r
shift_has None f r h e = absurd (none_row r e)
shift_has (Some op) f r h e = it_has (f op) r (h op) e

unit_has : (f : Bool) (n : ℕ) (r : Row) → unit_row f n ≡ Some r → has r
unit_has f zero r e = it_has _ r refl e
unit_has f (suc zero) r e = absurd (none_row r e)
unit_has f (suc (suc zero)) r e = it_has _ r refl e
unit_has f (suc (suc (suc zero))) r e = it_has _ r refl e
unit_has f (suc (suc (suc (suc zero)))) r e = it_has _ r refl e
unit_has f (suc (suc (suc (suc (suc zero))))) r e = it_has _ r refl e
unit_has f (suc (suc (suc (suc (suc (suc zero)))))) r e = it_has _ r refl e
unit_has f (suc (suc (suc (suc (suc (suc (suc zero))))))) r e = it_has _ r refl e
unit_has f (suc (suc (suc (suc (suc (suc (suc (suc n)))))))) r e = absurd (none_row r e)

step_has : (f : Bool) (n : ℕ) (r : Row) → step_row f n ≡ Some r → has r
step_has f zero r e = it_has _ r refl e
step_has f (suc zero) r e = it_has _ r refl e
step_has true (suc (suc zero)) r e = it_has _ r refl e
step_has true (suc (suc (suc zero))) r e = absurd (none_row r e)
step_has true (suc (suc (suc (suc zero)))) r e = it_has _ r refl e
step_has true (suc (suc (suc (suc (suc zero))))) r e = absurd (none_row r e)
step_has true (suc (suc (suc (suc (suc (suc zero)))))) r e = it_has _ r refl e
step_has true (suc (suc (suc (suc (suc (suc (suc n))))))) r e = absurd (none_row r e)
step_has false (suc (suc n)) r e = absurd (none_row r e)

pub members_have : (g : Group) (n : ℕ) (r : Row) → member_of g n ≡ Some r → has_operand r ≡ true
members_have group.Pops n r e = first_has _ r n refl e
members_have (group.Moves f) n r e = first_has _ r n refl e
members_have (group.Units f) n r e = unit_has f n r e
members_have (group.Steps f) n r e = step_has f n r e
members_have (group.ShiftsImm f) n r e = shift_has _ _ r (λ op. refl) e
members_have (group.ShiftsOne f) n r e = shift_has _ _ r (λ op. refl) e
members_have (group.ShiftsCl f) n r e = shift_has _ _ r (λ op. refl) e
members_have (group.Sets c) n r e = first_has _ r n refl e
members_have group.Nops n r e = first_has _ r n refl e
