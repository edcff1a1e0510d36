-- Prefixes and opcodes of a spelling are read, and in front of an opcode no more bytes are asked for than
-- some row with these prefixes has.
use Rattle.std.proofs.Common.{◌≡◌, ℕ, zero, suc, ◌+◌, ◌-◌, ◌<◌, ◌≤◌, Bool, true, false, cond, ltb, eqb, ◌&&◌, ◌||◌, List, [], ◌∷◌, ◌++◌, length, Option, Some, None, inl, inr, refl, lit≤, sym, ap, subst, ◌∙◌, arith, length-append, add-one, add-zero}
use Rattle.std.proofs.lemmas.Bool.{eqb-true, false≢true, ltb-false, le-ltb, ne_eqb, ltb-true}
use Rattle.std.specs.List.{AllByRecursion}
use Rattle.x86_types.specs.declared.instr.Instr.{Instr}
use Rattle.x86_types.specs.declared.operand.Reg.{Reg}
use Rattle.x86_types.specs.Numbers.{number_of_reg}
use Rattle.x86_grammar.specs.declared.row.Row.{Row}
use Rattle.x86_grammar.specs.declared.row.Row.TheVariants as row
use Rattle.x86_grammar.specs.declared.row.Counts.{Counts}
use Rattle.x86_grammar.specs.Table.{entry_of, row_at}
use Rattle.x86_grammar.specs.Rows.{bit, opcode_of, has_operand}
use Rattle.x86_grammar.specs.Attributes.{has_operand_size, any_operand_sizes, any_segments, can_hint, rep_fits, imm_size, wide_size}
use Rattle.x86_grammar.specs.Spells.{prefixes_fit, operand_size_in, opcode_bytes, is_prefix, more, counted}
use Rattle.x86_grammar.specs.Reading.{AsksWithin, least_of, least_opcode, least_escaped, least_escaped_of, needs, after_opcode, after_escape, at_opcode, read_from}
use Rattle.x86_grammar.proofs.Bytes.{opcode_some}
use Rattle.x86_grammar.proofs.Map.{or_cases, no_prefix, no_escape}
use Rattle.x86_grammar.proofs.Operands.{reg_low}
use Rattle.x86_grammar.proofs.Sees.{Sees, Sees-cons}

-- a number is known, and at most n
record Within (o : Option ℕ) (n : ℕ) : Type 0 where
  value : ℕ
  is : o ≡ Some value
  least : value ≤ n

needs_within : (o : Option ℕ) (n : ℕ) → Within o n → AsksWithin (needs o) n
needs_within o n w = record { wanted = w.value; is = rw w.is refl; least = w.least }

within_needs : (o : Option ℕ) (n : ℕ) → AsksWithin (needs o) n → Within o n
within_needs None n c = let e = c.is in absurd cc
within_needs (Some k) n c = let e = c.is in record { value = k; is = refl; least = let s : k ≡ c.wanted = (cc) in omega (arith, c.least) }

-- ---- the test of the prefixes, part by part

record Fit (operand_size any_h any_s hint : Bool) (reps : Bool → Bool) (h s x p : ℕ) : Type 0 where
  operand_sizes : ((eqb h 0 || (eqb h 1 && operand_size)) || any_h) ≡ true
  segments : (eqb s 0 || any_s) ≡ true
  hints : (eqb x 0 || (eqb x 1 && hint)) ≡ true
  repeats : ltb p 2 ≡ true
  rep : reps (eqb p 1) ≡ true

five : (a b c d e : Bool) → a && b && c && d && e ≡ true → (a ≡ true) × (b ≡ true) × (c ≡ true) × (d ≡ true) × (e ≡ true)
five true true true true true h = (refl, refl, refl, refl, refl)
five false b c d e h = absurd (false≢true h)
five true false c d e h = absurd (false≢true h)
five true true false d e h = absurd (false≢true h)
five true true true false e h = absurd (false≢true h)
five true true true true false h = absurd (false≢true h)

fit_of : (r : Row) (c : Counts) → prefixes_fit r c ≡ true → Fit (has_operand_size r) (any_operand_sizes r) (any_segments r) (can_hint r) (rep_fits r) c.operand_sizes c.segments c.hints c.repeats
fit_of r c e =
    let f = five ((eqb c.operand_sizes 0 || (eqb c.operand_sizes 1 && has_operand_size r)) || any_operand_sizes r) (eqb c.segments 0 || any_segments r) (eqb c.hints 0 || (eqb c.hints 1 && can_hint r)) (ltb c.repeats 2) (rep_fits r (eqb c.repeats 1)) e in
    record { operand_sizes = f.0; segments = f.1; hints = f.2; repeats = f.3; rep = f.4 }

suc_zero : (n : ℕ) → eqb (suc n) 0 ≡ false
suc_zero n = ne_eqb (suc n) 0 (λ e. omega arith)

suc_suc_one : (n : ℕ) → eqb (suc (suc n)) 1 ≡ false
suc_suc_one n = ne_eqb (suc (suc n)) 1 (λ e. omega arith)

-- at most one 3E and one F3
two_hints : (n : ℕ) (hint : Bool) → (eqb (suc (suc n)) 0 || (eqb (suc (suc n)) 1 && hint)) ≡ true → ⊥
two_hints n hint e = false≢true (rw (suc_zero (suc n), suc_suc_one n) at e)

two_repeats : (n : ℕ) → ltb (suc (suc n)) 2 ≡ true → ⊥
two_repeats n e = false≢true (sym (le-ltb (suc (suc n)) 2 (omega arith)) ∙ e)

some_segments : (s : ℕ) (any_s : Bool) → (eqb (suc s) 0 || any_s) ≡ true → any_s ≡ true
some_segments s any_s e = rw (suc_zero s) at e

no_segments : (s : ℕ) (any_s : Bool) → any_s ≡ false → (eqb s 0 || any_s) ≡ true → s ≡ 0
no_segments zero any_s a e = refl
no_segments (suc s) any_s a e = absurd (false≢true (sym a ∙ some_segments s any_s e))

two_operand_sizes : (h : ℕ) (operand_size any_h : Bool) → ((eqb (suc (suc h)) 0 || (eqb (suc (suc h)) 1 && operand_size)) || any_h) ≡ true → any_h ≡ true
two_operand_sizes h operand_size any_h e = rw (suc_zero (suc h), suc_suc_one h) at e

some_operand_sizes : (h : ℕ) (operand_size any_h : Bool) → ((eqb (suc h) 0 || (eqb (suc h) 1 && operand_size)) || any_h) ≡ true → (operand_size || any_h) ≡ true
some_operand_sizes zero operand_size any_h e = e
some_operand_sizes (suc h) true any_h e = refl
some_operand_sizes (suc h) false any_h e = two_operand_sizes h false any_h e

no_operand_sizes : (h : ℕ) (operand_size any_h : Bool) → operand_size ≡ false → any_h ≡ false → ((eqb h 0 || (eqb h 1 && operand_size)) || any_h) ≡ true → h ≡ 0
no_operand_sizes zero operand_size any_h a b e = refl
no_operand_sizes (suc h) operand_size any_h a b e = absurd (false≢true (rw (a, b) at (some_operand_sizes h operand_size any_h e)))

-- ---- the fewest bytes from the opcode on

same_least : (h g s u x y p q n : ℕ) → h ≡ g → s ≡ u → x ≡ y → p ≡ q → Within (least_of g u y q) n → Within (least_of h s x p) n
same_least h g s u x y p q n a b c d w =
    let one = subst (λ (k : ℕ). Within (least_of k u y q) n) (sym a) w in
    let two = subst (λ (k : ℕ). Within (least_of h k y q) n) (sym b) one in
    let three = subst (λ (k : ℕ). Within (least_of h s k q) n) (sym c) two in
    subst (λ (k : ℕ). Within (least_of h s x k) n) (sym d) three

-- what a row of n bytes allows
record Attributes (operand_size any_h any_s hint rep : Bool) (n : ℕ) : Type 0 where
  some : 1 ≤ n
  segments : any_s ≡ true → 2 ≤ n
  both : any_s ≡ true → any_h ≡ true → 3 ≤ n
  hints : hint ≡ true → (operand_size ≡ false) × (any_h ≡ false) × (any_s ≡ false) × (rep ≡ false) × (2 ≤ n)
  alone : rep ≡ true → (any_h ≡ false) × (any_s ≡ false)

module _ (n : ℕ) (operand_size any_h any_s hint : Bool) (reps : Bool → Bool) (a : Attributes operand_size any_h any_s hint (reps true) n) where
  least_ok : (h s x p : ℕ) → Fit operand_size any_h any_s hint reps h s x p → Within (least_of h s x p) n
  least_ok h zero zero zero f = record { value = 1; is = refl; least = a.some }
  least_ok zero (suc s) zero zero f = record { value = 2; is = refl; least = a.segments (some_segments s any_s f.segments) }
  least_ok (suc zero) (suc s) zero zero f = record { value = 2; is = refl; least = a.segments (some_segments s any_s f.segments) }
  least_ok (suc (suc h)) (suc s) zero zero f = record { value = 3; is = refl; least = a.both (some_segments s any_s f.segments) (two_operand_sizes h operand_size any_h f.operand_sizes) }
  least_ok h s (suc zero) zero f =
      let k = a.hints f.hints in
      same_least h 0 s 0 1 1 0 0 n (no_operand_sizes h operand_size any_h k.0 k.1 f.operand_sizes) (no_segments s any_s k.2 f.segments) refl refl (record { value = 2; is = refl; least = k.4 })
  least_ok h s (suc zero) (suc zero) f = absurd (false≢true (sym (a.hints f.hints).3 ∙ f.rep))
  least_ok zero s zero (suc zero) f = same_least 0 0 s 0 0 0 1 1 n refl (no_segments s any_s (a.alone f.rep).1 f.segments) refl refl (record { value = 1; is = refl; least = a.some })
  least_ok (suc zero) s zero (suc zero) f = same_least 1 1 s 0 0 0 1 1 n refl (no_segments s any_s (a.alone f.rep).1 f.segments) refl refl (record { value = 1; is = refl; least = a.some })
  least_ok (suc (suc h)) s zero (suc zero) f = absurd (false≢true (sym (a.alone f.rep).0 ∙ two_operand_sizes h operand_size any_h f.operand_sizes))
  least_ok h s x (suc (suc p)) f = absurd (two_repeats p f.repeats)
  least_ok h s (suc (suc x)) p f = absurd (two_hints x hint f.hints)

abbrev least_length : Row → ℕ
least_length r = length (opcode_bytes (opcode_of r)) + bit (has_operand r)

least_some : (r : Row) → 1 ≤ least_length r
least_some r = omega (arith, opcode_some (opcode_of r))

plain_row : (operand_size rep : Bool) (n : ℕ) → 1 ≤ n → Attributes operand_size false false false rep n
plain_row operand_size rep n le = record { some = le; segments = λ e. absurd (false≢true e); both = λ e. absurd (false≢true e); hints = λ e. absurd (false≢true e); alone = λ e. (refl, refl) }

-- no prefix but one 3E
hinted : Attributes false false false true false 2
hinted = record { some = lit≤ tt; segments = λ e. absurd (false≢true e); both = λ e. absurd (false≢true e); hints = λ e. (refl, refl, refl, refl, lit≤ tt); alone = λ e. absurd (false≢true e) }

attributes_at : (r : Row) → 1 ≤ least_length r → Attributes (has_operand_size r) (any_operand_sizes r) (any_segments r) (can_hint r) (rep_fits r true) (least_length r)
attributes_at row.Lea h = record { some = h; segments = λ e. lit≤ tt; both = λ e f. absurd (false≢true f); hints = λ e. absurd (false≢true e); alone = λ e. absurd (false≢true e) }
attributes_at row.NopLong h = record { some = h; segments = λ e. lit≤ tt; both = λ e f. lit≤ tt; hints = λ e. absurd (false≢true e); alone = λ e. absurd (false≢true e) }
attributes_at row.Nop h = record { some = h; segments = λ e. absurd (false≢true e); both = λ e. absurd (false≢true e); hints = λ e. absurd (false≢true e); alone = λ e. absurd (false≢true e) }
attributes_at row.JmpTo h = hinted
attributes_at row.CallTo h = hinted
attributes_at _ h = plain_row _ _ _ h

-- ---- the same behind 0F

-- what a row behind 0F allows that has n bytes more
record Escaped (operand_size any_h any_s hint rep : Bool) (n : ℕ) : Type 0 where
  no_hint : hint ≡ false
  alone : rep ≡ true → (operand_size ≡ false) × (any_h ≡ false) × (any_s ≡ false)
  long : operand_size || any_h || any_s || rep ≡ true → 1 ≤ n

module _ (n : ℕ) (operand_size any_h any_s hint : Bool) (reps : Bool → Bool) (a : Escaped operand_size any_h any_s hint (reps true) n) where
  knows_operand_sizes : operand_size || any_h ≡ true → operand_size || any_h || any_s || reps true ≡ true
  knows_operand_sizes e = rw e refl

  knows_segments : (b : Bool) → any_s ≡ true → b || any_s || reps true ≡ true
  knows_segments true e = refl
  knows_segments false e = rw e refl

  knows_repeats : (b : Bool) → reps true ≡ true → b || reps true ≡ true
  knows_repeats true e = refl
  knows_repeats false e = e

  escaped_ok : (h s x p : ℕ) → Fit operand_size any_h any_s hint reps h s x p → Within (least_escaped_of h s x p) (suc n)
  escaped_ok zero zero zero zero f = record { value = 1; is = refl; least = omega arith }
  escaped_ok (suc h) s zero zero f = record { value = 2; is = refl; least = omega (arith, a.long (knows_operand_sizes (some_operand_sizes h operand_size any_h f.operand_sizes))) }
  escaped_ok zero (suc s) zero zero f = record { value = 2; is = refl; least = omega (arith, a.long (knows_segments (operand_size || any_h) (some_segments s any_s f.segments))) }
  escaped_ok h s zero (suc zero) f =
      let no = a.alone f.rep in
      let two : Within (least_escaped_of 0 0 0 1) (suc n) = record { value = 2; is = refl; least = omega (arith, a.long (knows_repeats (operand_size || any_h || any_s) f.rep)) } in
      let one = subst (λ (k : ℕ). Within (least_escaped_of k 0 0 1) (suc n)) (sym (no_operand_sizes h operand_size any_h no.0 no.1 f.operand_sizes)) two in
      subst (λ (k : ℕ). Within (least_escaped_of h k 0 1) (suc n)) (sym (no_segments s any_s no.2 f.segments)) one
  escaped_ok h s (suc zero) p f = absurd (false≢true (sym a.no_hint ∙ f.hints))
  escaped_ok h s (suc (suc x)) p f = absurd (two_hints x hint f.hints)
  escaped_ok h s x (suc (suc p)) f = absurd (two_repeats p f.repeats)

wide_some : (w h : Bool) → ltb 0 (wide_size w h) ≡ true
wide_some false h = refl
wide_some true true = refl
wide_some true false = refl

low_opcode : (k : ℕ) → k < 256 → ltb k 0x100 ≡ false → ⊥
low_opcode k lt e = omega (arith, ltb-false k 0x100 e)

low_reg : (k : ℕ) (r : Reg) → k ≤ 0xF8 → ltb (k + number_of_reg r) 0x100 ≡ false → ⊥
low_reg k r le e = low_opcode (k + number_of_reg r) (omega (arith, reg_low r)) e

-- a row behind 0F that knows a prefix has an operand or a number
long_row : (r : Row) (h : Bool) → ltb (opcode_of r) 0x100 ≡ false → has_operand_size r || any_operand_sizes r || any_segments r || rep_fits r true ≡ true → has_operand r || ltb 0 (imm_size r h) ≡ true
long_row (row.AluAcc op w) h e k = wide_some w h
long_row (row.TestAcc w) h e k = wide_some w h
long_row (row.MovReg r w) h e k = wide_some w h
long_row (row.IncReg r) h e k = absurd (low_reg 0x40 r (lit≤ tt) e)
long_row (row.DecReg r) h e k = absurd (low_reg 0x48 r (lit≤ tt) e)
long_row (row.PushReg r) h e k = absurd (false≢true k)
long_row (row.PopReg r) h e k = absurd (false≢true k)
long_row (row.XchgAcc r) h e k = absurd (low_reg 0x90 r (lit≤ tt) e)
long_row (row.BswapReg r) h e k = absurd (false≢true k)
long_row row.Extend h e k = absurd (false≢true (sym e))
long_row row.Spread h e k = absurd (false≢true (sym e))
long_row (row.Movs false) h e k = absurd (false≢true (sym e))
long_row (row.Movs true) h e k = absurd (false≢true (sym e))
long_row (row.Stos false) h e k = absurd (false≢true (sym e))
long_row (row.Stos true) h e k = absurd (false≢true (sym e))
long_row row.Ret h e k = absurd (false≢true (sym e))
long_row row.Leave h e k = absurd (false≢true k)
long_row row.Cld h e k = absurd (false≢true k)
long_row row.Nop h e k = absurd (false≢true (sym e))
long_row _ h e k = refl

alone_row : (r : Row) → ltb (opcode_of r) 0x100 ≡ false → rep_fits r true ≡ true → (has_operand_size r ≡ false) × (any_operand_sizes r ≡ false) × (any_segments r ≡ false)
alone_row row.Ret e f = (refl, refl, refl)
alone_row (row.Movs false) e f = absurd (false≢true (sym e))
alone_row (row.Movs true) e f = absurd (false≢true (sym e))
alone_row (row.Stos false) e f = absurd (false≢true (sym e))
alone_row (row.Stos true) e f = absurd (false≢true (sym e))
alone_row row.NopEnd e f = (refl, refl, refl)
alone_row _ e f = absurd (false≢true f)

hint_row : (r : Row) → ltb (opcode_of r) 0x100 ≡ false → can_hint r ≡ false
hint_row row.JmpTo e = absurd (false≢true (sym e))
hint_row row.CallTo e = absurd (false≢true (sym e))
hint_row _ e = refl

some_more : (a : Bool) (k : ℕ) → a || ltb 0 k ≡ true → 1 ≤ bit a + k
some_more true k e = omega arith
some_more false k e = let lt = ltb-true 0 k e in omega arith

escaped_at : (r : Row) (h : Bool) → ltb (opcode_of r) 0x100 ≡ false → Escaped (has_operand_size r) (any_operand_sizes r) (any_segments r) (can_hint r) (rep_fits r true) (bit (has_operand r) + imm_size r h)
escaped_at r h e = record { no_hint = hint_row r e; alone = alone_row r e; long = λ k. some_more (has_operand r) (imm_size r h) (long_row r h e k) }

-- ---- one more prefix wants no fewer bytes in all

abbrev Least : ℕ → ℕ → ℕ → ℕ → ℕ → Type 0
Least h s x p n = Within (least_of h s x p) n

one_within : (n : ℕ) → Within (Some 1) (suc n)
one_within n = record { value = 1; is = refl; least = omega arith }

-- k bytes behind one more prefix leave room for j
fewer_bytes : (j k n : ℕ) → j ≤ k → Within (Some k) n → Within (Some j) (suc n)
fewer_bytes j k n le w = let e : k ≡ w.value = (let f = w.is in (cc)) in record { value = j; is = refl; least = omega (arith, e, le, w.least) }

nothing_within : {A : Type 0} (n : ℕ) → Within None n → A
nothing_within n w = let e = w.is in absurd cc

fewer_operand_sizes : (h s x p n : ℕ) → Least (suc h) s x p n → Least h s x p (suc n)
fewer_operand_sizes h zero zero zero n w = one_within n
fewer_operand_sizes zero zero zero (suc zero) n w = one_within n
fewer_operand_sizes zero (suc s) zero zero n w = fewer_bytes 2 2 n (lit≤ tt) w
fewer_operand_sizes (suc zero) (suc s) zero zero n w = fewer_bytes 2 3 n (lit≤ tt) w
fewer_operand_sizes (suc (suc h)) (suc s) zero zero n w = fewer_bytes 3 3 n (lit≤ tt) w
fewer_operand_sizes _ _ _ _ n w = nothing_within n w

fewer_segments : (h s x p n : ℕ) → Least h (suc s) x p n → Least h s x p (suc n)
fewer_segments h zero zero zero n w = one_within n
fewer_segments zero (suc s) zero zero n w = fewer_bytes 2 2 n (lit≤ tt) w
fewer_segments (suc zero) (suc s) zero zero n w = fewer_bytes 2 2 n (lit≤ tt) w
fewer_segments (suc (suc h)) (suc s) zero zero n w = fewer_bytes 3 3 n (lit≤ tt) w
fewer_segments zero s zero (suc p) n w = nothing_within n w
fewer_segments (suc zero) s zero (suc p) n w = nothing_within n w
fewer_segments (suc (suc h)) s zero (suc p) n w = nothing_within n w
fewer_segments zero s (suc x) p n w = nothing_within n w
fewer_segments (suc zero) s (suc x) p n w = nothing_within n w
fewer_segments (suc (suc h)) s (suc x) p n w = nothing_within n w

fewer_hints : (h s x p n : ℕ) → Least h s (suc x) p n → Least h s x p (suc n)
fewer_hints zero zero zero zero n w = one_within n
fewer_hints zero zero zero (suc p) n w = nothing_within n w
fewer_hints zero zero (suc x) p n w = nothing_within n w
fewer_hints (suc h) zero x p n w = nothing_within n w
fewer_hints zero (suc s) x p n w = nothing_within n w
fewer_hints (suc zero) (suc s) x p n w = nothing_within n w
fewer_hints (suc (suc h)) (suc s) x p n w = nothing_within n w

fewer_repeats : (h s x p n : ℕ) → Least h s x (suc p) n → Least h s x p (suc n)
fewer_repeats zero zero zero zero n w = one_within n
fewer_repeats (suc zero) zero zero zero n w = one_within n
fewer_repeats zero zero zero (suc p) n w = nothing_within n w
fewer_repeats (suc zero) zero zero (suc p) n w = nothing_within n w
fewer_repeats (suc (suc h)) zero zero p n w = nothing_within n w
fewer_repeats zero zero (suc zero) p n w = nothing_within n w
fewer_repeats zero zero (suc (suc x)) p n w = nothing_within n w
fewer_repeats (suc h) zero (suc x) p n w = nothing_within n w
fewer_repeats zero (suc s) zero p n w = nothing_within n w
fewer_repeats zero (suc s) (suc x) p n w = nothing_within n w
fewer_repeats (suc zero) (suc s) zero p n w = nothing_within n w
fewer_repeats (suc zero) (suc s) (suc x) p n w = nothing_within n w
fewer_repeats (suc (suc h)) (suc s) zero p n w = nothing_within n w
fewer_repeats (suc (suc h)) (suc s) (suc x) p n w = nothing_within n w

fewer : (c : Counts) (b n : ℕ) → is_prefix b ≡ true → Within (least_opcode (more c b)) n → Within (least_opcode c) (suc n)
fewer c b n h w =
    let P : ℕ → Type 0 = λ b. Within (least_opcode (more c b)) n in
    elim (or_cases (eqb b 0x66 || eqb b 0x2E || eqb b 0x3E) (eqb b 0xF3) h) [
      | inr e ↦ fewer_repeats _ _ _ _ n (same_least _ _ _ _ _ _ _ _ n (sym (add-zero c.operand_sizes)) (sym (add-zero c.segments)) (sym (add-zero c.hints)) (sym (add-one c.repeats)) (subst P (eqb-true b 0xF3 e) w))
      | inl k ↦ elim (or_cases (eqb b 0x66 || eqb b 0x2E) (eqb b 0x3E) k) [
        | inr e ↦ fewer_hints _ _ _ _ n (same_least _ _ _ _ _ _ _ _ n (sym (add-zero c.operand_sizes)) (sym (add-zero c.segments)) (sym (add-one c.hints)) (sym (add-zero c.repeats)) (subst P (eqb-true b 0x3E e) w))
        | inl l ↦ elim (or_cases (eqb b 0x66) (eqb b 0x2E) l) [
          | inl e ↦ fewer_operand_sizes _ _ _ _ n (same_least _ _ _ _ _ _ _ _ n (sym (add-one c.operand_sizes)) (sym (add-zero c.segments)) (sym (add-zero c.hints)) (sym (add-zero c.repeats)) (subst P (eqb-true b 0x66 e) w))
          | inr e ↦ fewer_segments _ _ _ _ n (same_least _ _ _ _ _ _ _ _ n (sym (add-zero c.operand_sizes)) (sym (add-one c.segments)) (sym (add-zero c.hints)) (sym (add-zero c.repeats)) (subst P (eqb-true b 0x2E e) w))
        ]
      ]
    ]

-- ---- the opcode

module _ (r : Row) (c : Counts) (t : List ℕ) (i : Instr) (p : prefixes_fit r c ≡ true) (long : bit (has_operand r) + imm_size r (operand_size_in r c) ≤ length t) (n : ℕ) (there : row_at (opcode_of r) n ≡ Some r) (s : Sees (after_opcode (entry_of (opcode_of r)) c) t i) where
  first_within : Within (least_opcode c) (length (opcode_bytes (opcode_of r) ++ t))
  first_within =
      let w = least_ok (least_length r) _ _ _ _ (rep_fits r) (attributes_at r (least_some r)) _ _ _ _ (fit_of r c p) in
      record { value = w.value; is = w.is; least = omega (arith, w.least, long, length-append (opcode_bytes (opcode_of r)) t) }

  escaped_within : ltb (opcode_of r) 0x100 ≡ false → Within (least_escaped c) (suc (length t))
  escaped_within e =
      let w = escaped_ok (bit (has_operand r) + imm_size r (operand_size_in r c)) _ _ _ _ (rep_fits r) (escaped_at r (operand_size_in r c) e) _ _ _ _ (fit_of r c p) in
      record { value = w.value; is = w.is; least = omega (arith, w.least, long) }

  one_byte : Within (least_opcode c) (suc (length t)) → Sees (read_from c) (opcode_of r ∷ t) i
  unfolding read_from at_opcode
  one_byte w = Sees-cons (read_from c) (after_opcode (entry_of (opcode_of r)) c) (opcode_of r) t i (λ bytes. rw (no_prefix r n there, no_escape r n there) refl) (needs_within _ _ w) s

  two_bytes : (k : ℕ) → 0x100 + k ≡ opcode_of r → ltb (opcode_of r) 0x100 ≡ false → Within (least_opcode c) (suc (suc (length t))) → Sees (read_from c) (0x0F ∷ k ∷ t) i
  unfolding read_from at_opcode after_escape
  two_bytes k e b w =
      let inner : Sees (after_escape c) (k ∷ t) i = Sees-cons (after_escape c) (after_opcode (entry_of (opcode_of r)) c) k t i (λ bytes. ap (λ (x : ℕ). after_opcode (entry_of x) c bytes) e) (needs_within _ _ (escaped_within b)) s in
      Sees-cons (read_from c) (after_escape c) 15 (k ∷ t) i (λ bytes. refl) (needs_within _ _ w) inner

  front_cases : (b : Bool) → ltb (opcode_of r) 0x100 ≡ b → Within (least_opcode c) (length (cond b (opcode_of r ∷ []) (0x0F ∷ (opcode_of r - 0x100) ∷ []) ++ t)) → Sees (read_from c) (cond b (opcode_of r ∷ []) (0x0F ∷ (opcode_of r - 0x100) ∷ []) ++ t) i
  front_cases true e w = one_byte w
  front_cases false e w = two_bytes (opcode_of r - 0x100) (omega (arith, ltb-false _ _ e)) e w

  pub front_sees : Sees (read_from c) (opcode_bytes (opcode_of r) ++ t) i
  front_sees = front_cases (ltb (opcode_of r) 0x100) refl first_within

-- ---- the prefixes

pub prefixes_see : (ps : List ℕ) (c : Counts) (t : List ℕ) (i : Instr) → AllByRecursion (λ b. is_prefix b ≡ true) ps → 0 < length t → Sees (read_from (counted c ps)) t i → Sees (read_from c) (ps ++ t) i
unfolding read_from
prefixes_see [] c t i all lt s = s
prefixes_see (b ∷ ps) c t i all lt s =
    let inner = prefixes_see ps (more c b) t i all.1 lt s in
    let k = inner.cut [] (ps ++ t) refl (omega (arith, length-append ps t)) in
    Sees-cons (read_from c) (read_from (more c b)) b (ps ++ t) i (λ bytes. rw (all.0) refl) (needs_within _ _ (fewer c b _ all.0 (within_needs _ _ k))) inner
