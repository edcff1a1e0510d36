-- The computed front is the one that spells, and its values at a few opcodes.
use Rattle.std.proofs.Common.{◌≡◌, ◌≢◌, ℕ, zero, suc, ◌+◌, ◌-◌, ◌*◌, ◌/◌, ◌%◌, ◌<◌, ◌≤◌, true, false, ltb, eqb, List, [], ◌∷◌, ◌++◌, length, take, drop, Option, Some, None, refl, sym, ap, subst, ◌∙◌, arith, length-append, length-take}
use Rattle.std.proofs.lemmas.Bool.Decides.{nat_tests}
use Rattle.std.proofs.lemmas.List.{take-append-drop, take_at, take-take}
use Rattle.std.proofs.lemmas.List.Elements.{recursion_from_All}
use Rattle.x86_types.specs.declared.operand.Reg.{Reg}
use Rattle.x86_types.specs.declared.operand.Reg.TheVariants as reg
use Rattle.x86_types.specs.declared.operand.Rm.TheVariants as rm
use Rattle.x86_types.specs.declared.operand.Src.TheVariants as src
use Rattle.x86_types.specs.declared.width.Width.TheVariants.{Four}
use Rattle.x86_types.specs.declared.instr.Instr.{Instr}
use Rattle.x86_types.specs.declared.instr.Instr.TheVariants as instr
use Rattle.x86_types.specs.Numbers.{number_of_reg}
use Rattle.x86_grammar.specs.declared.row.Row.{Row}
use Rattle.x86_grammar.specs.declared.row.Row.TheVariants as row
use Rattle.x86_grammar.specs.declared.row.Counts.{Counts}
use Rattle.x86_grammar.specs.declared.reading.Seen.{Seen}
use Rattle.x86_grammar.specs.declared.reading.Seen.TheVariants.{Found, Needs, Never}
use Rattle.x86_grammar.specs.Attributes.{imm_size}
use Rattle.x86_grammar.specs.Front.{found_front, front}
use Rattle.x86_grammar.specs.FrontLaws.{AreAllBytes, FrontIsSpelling, FrontEquations, FrontsAreWorked}
use Rattle.x86_grammar.specs.Fronts.{FrontSpells, NoFrontSpells}
use Rattle.x86_grammar.specs.Meaning.{build}
use Rattle.byte_lists.specs.LittleEndian.{from_le, AreBytes}
use Rattle.x86_grammar.specs.Operand.{rm_of}
use Rattle.x86_grammar.specs.Parts.{signed}
use Rattle.x86_grammar.specs.Reading.{numbers, found, sib_at, after_m, m_at, plain_at, after_opcode, after_escape, at_opcode, read_from, read}
use Rattle.x86_grammar.specs.Spells.{operand_size_in, no_counts, Spells}
use Rattle.x86_grammar.specs.Table.{entry_of}
use Rattle.x86_grammar.proofs.Bytes.{spells_some}
use Rattle.x86_grammar.proofs.Sound.{read_gave}
use Rattle.x86_grammar.proofs.Whole.{spells_whole}

by_recursion : (bytes : List ℕ) → AreAllBytes bytes → AreBytes bytes
by_recursion bytes h = recursion_from_All (λ b. b < 256) bytes h

bytes_take : (n : ℕ) (bytes : List ℕ) → AreBytes bytes → AreBytes (take n bytes)
bytes_take zero bytes h = tt
bytes_take (suc n) [] h = tt
bytes_take (suc n) (b ∷ bytes) h = (h.0, bytes_take n bytes h.1)

-- ---- what is computed is spelled

abbrev pair : Instr → ℕ → Option (Instr × ℕ)
pair i n = Some (i, n)

some_pair : (i j : Instr) (n m : ℕ) → pair i n ≡ pair j m → (i ≡ j) × (n ≡ m)
some_pair i j n m e = (ap instr_in e, ap length_in e)
  where
    instr_in : Option (Instr × ℕ) → Instr
    instr_in None = i
    instr_in (Some p) = p.0

    length_in : Option (Instr × ℕ) → ℕ
    length_in None = n
    length_in (Some p) = p.1

none_some : (p : Instr × ℕ) → None ≡ Some p → ⊥
none_some p e = cc

front_found : (n : ℕ) (x : Seen) (i : Instr) (len : ℕ) → found_front n x ≡ Some (i, len) → (left : ℕ) × (x ≡ Found i left) × (len ≡ n - left)
front_found n (Found j left) i len e = let p = some_pair j i (n - left) len e in (left, ap (λ (k : Instr). Found k left) p.0, sym p.1)
front_found n (Needs k) i len e = absurd (none_some _ e)
front_found n Never i len e = absurd (none_some _ e)

front_spells : (bytes : List ℕ) → AreBytes bytes → (i : Instr) (len : ℕ) → front bytes ≡ Some (i, len) → FrontSpells bytes i len
unfolding front
front_spells bytes h i len e =
    let t = take 15 bytes in
    let f = front_found (length t) (read t) i len e in
    let g = read_gave t i f.0 (bytes_take 15 bytes h) f.1 in
    let n : length g.text ≡ len = omega (arith, f.2, g.len, ap length g.parts, length-append g.text g.rest) in
    let short : len ≤ length t = omega (arith, n, ap length g.parts, length-append g.text g.rest) in
    let most = length-take 15 bytes in
    let text : take len bytes ≡ g.text = sym (take-take len 15 bytes (omega arith)) ∙ ap (take len) g.parts ∙ take_at g.text g.rest len n in
    record { there = omega arith; spells = rw text (g.spells (omega arith)) }

-- ---- what is spelled is computed

front_whole : (text rest : List ℕ) (i : Instr) → Spells text i → front (text ++ rest) ≡ Some (i, length text)
unfolding front
front_whole text rest i s =
    let len = length text in
    let t = take 15 (text ++ rest) in
    let most = s.short in
    let begins : take len t ≡ text = take-take len 15 (text ++ rest) (omega arith) ∙ take_at text rest len refl in
    let parts : t ≡ text ++ drop len t = sym (take-append-drop len t) ∙ ap (λ (y : List ℕ). y ++ drop len t) begins in
    let seen : read t ≡ Found i (length (drop len t)) = ap read parts ∙ spells_whole text (drop len t) i s in
    let left : length t - length (drop len t) ≡ len = omega (arith, ap length parts, length-append text (drop len t)) in
    rw (seen, left) refl

spells_front : (bytes : List ℕ) (i : Instr) (len : ℕ) → FrontSpells bytes i len → front bytes ≡ Some (i, len)
spells_front bytes i len s =
    let n : length (take len bytes) ≡ len = omega (arith, length-take len bytes, s.there) in
    subst (λ (y : List ℕ). front y ≡ Some (i, len)) (take-append-drop len bytes) (subst (λ (k : ℕ). front (take len bytes ++ drop len bytes) ≡ Some (i, k)) n (front_whole (take len bytes) (drop len bytes) i s.spells))

not_found : (bytes : List ℕ) → front bytes ≡ None → NoFrontSpells bytes
not_found bytes e i len s = none_some _ (sym e ∙ spells_front bytes i len s)

none_by : (bytes : List ℕ) → AreBytes bytes → NoFrontSpells bytes → (o : Option (Instr × ℕ)) → front bytes ≡ o → front bytes ≡ None
none_by bytes h z None e = e
none_by bytes h z (Some p) e = absurd (z p.0 p.1 (front_spells bytes h p.0 p.1 e))

longer : (bytes : List ℕ) (n : ℕ) → 15 ≤ n → front (take n bytes) ≡ front bytes
unfolding front
longer bytes n h = rw (take-take 15 n bytes h) refl

-- ---- how long it is

some_bytes : (bytes : List ℕ) (i : Instr) (len : ℕ) → front bytes ≡ Some (i, len) → len ≤ length (take 15 bytes)
unfolding front
some_bytes bytes i len e = let f = front_found (length (take 15 bytes)) (read (take 15 bytes)) i len e in omega (arith, f.2)

pub front_is_spelling : FrontIsSpelling
front_is_spelling = record {
  exact = λ bytes h i len. (front_spells bytes (by_recursion bytes h) i len, spells_front bytes i len);
  none = λ bytes h. (not_found bytes, λ no. none_by bytes (by_recursion bytes h) no (front bytes) refl);
  found = front_whole;
  not_found = not_found;
  fifteen = λ bytes. longer bytes 15 (omega arith);
  longer = longer;
  some = λ bytes i len h e. let s = front_spells bytes (by_recursion bytes h) i len e in omega (arith, spells_some (take len bytes) i s.spells, length-take len bytes);
  few = λ bytes i len e. omega (arith, some_bytes bytes i len e, length-take 15 bytes);
  there = λ bytes i len e. omega (arith, some_bytes bytes i len e, length-take 15 bytes);
  own_bytes = λ bytes i len h e. let s = front_spells bytes (by_recursion bytes h) i len e in spells_front (take len bytes) i len (record { there = omega (arith, length-take len bytes, s.there); spells = rw (take-take len len bytes (omega arith)) s.spells });
}

-- ---- values at a few opcodes

not_below : (k n : ℕ) → n ≤ k → ltb k n ≡ false
not_below k n h = grind (arith, nat_tests)

below : (k n : ℕ) → k < n → ltb k n ≡ true
below k n h = grind (arith, nat_tests)

-- the bytes that a row wants are there, or they are not
numbers_there : (r : Row) (c : Counts) (m s size : ℕ) (bytes : List ℕ) → size + imm_size r (operand_size_in r c) ≤ length bytes → numbers r c m s size bytes ≡ found (build r (operand_size_in r c) (eqb c.repeats 1) (m / 8 % 8) (rm_of m s (from_le size bytes)) (from_le (imm_size r (operand_size_in r c)) (drop size bytes))) (length bytes - (size + imm_size r (operand_size_in r c)))
unfolding numbers
numbers_there r c m s size bytes h = rw (not_below (length bytes) (size + imm_size r (operand_size_in r c)) h) refl

numbers_cut : (r : Row) (c : Counts) (m s size : ℕ) (bytes : List ℕ) → length bytes < size + imm_size r (operand_size_in r c) → numbers r c m s size bytes ≡ Needs (size + imm_size r (operand_size_in r c) - length bytes)
unfolding numbers
numbers_cut r c m s size bytes h = rw (below (length bytes) (size + imm_size r (operand_size_in r c)) h) refl

mov_reads : (r : Reg) (a b c d : ℕ) (rest : List ℕ) → read ((0xB8 + number_of_reg r) ∷ a ∷ b ∷ c ∷ d ∷ rest) ≡ numbers (row.MovReg r true) no_counts 0xC0 0 0 (a ∷ b ∷ c ∷ d ∷ rest)
unfolding entry_of plain_at after_opcode at_opcode read_from
mov_reads r a b c d rest = elim r as (λ r. read ((0xB8 + number_of_reg r) ∷ a ∷ b ∷ c ∷ d ∷ rest) ≡ numbers (row.MovReg r true) no_counts 0xC0 0 0 (a ∷ b ∷ c ∷ d ∷ rest)) [ reg.Eax ↦ refl | _ ↦ refl ]

front_at : (n k : ℕ) (x : Seen) (i : Instr) (left : ℕ) → x ≡ Found i left → n - left ≡ k → found_front n x ≡ Some (i, k)
front_at n k x i left e h = rw (e, h) refl

mov_front : (r : Reg) (a b c d : ℕ) (rest : List ℕ) → front ((0xB8 + number_of_reg r) ∷ a ∷ b ∷ c ∷ d ∷ rest) ≡ Some (instr.Mov Four (rm.Reg r) (src.Imm (from_le 4 (a ∷ b ∷ c ∷ d ∷ []))), 5)
unfolding front
mov_front r a b c d rest =
    let bytes : List ℕ = a ∷ b ∷ c ∷ d ∷ take 10 rest in
    front_at (suc (length bytes)) 5 _ (instr.Mov Four (rm.Reg r) (src.Imm (from_le 4 (a ∷ b ∷ c ∷ d ∷ [])))) (length bytes - 4) (mov_reads r a b c d (take 10 rest) ∙ numbers_there (row.MovReg r true) no_counts 0xC0 0 0 bytes (omega arith)) (omega arith)

-- fewer than four bytes
few_cases : (P : List ℕ → Type 0) → P [] → ((a : ℕ) → P (a ∷ [])) → ((a b : ℕ) → P (a ∷ b ∷ [])) → ((a b c : ℕ) → P (a ∷ b ∷ c ∷ [])) → (rest : List ℕ) → length rest < 4 → P rest
few_cases P p0 p1 p2 p3 [] h = p0
few_cases P p0 p1 p2 p3 (a ∷ []) h = p1 a
few_cases P p0 p1 p2 p3 (a ∷ b ∷ []) h = p2 a b
few_cases P p0 p1 p2 p3 (a ∷ b ∷ c ∷ []) h = p3 a b c
few_cases P p0 p1 p2 p3 (a ∷ b ∷ c ∷ d ∷ rest) h = absurd (omega arith)

abbrev NoMov : Reg → List ℕ → Type 0
NoMov r bytes = front ((0xB8 + number_of_reg r) ∷ bytes) ≡ None

mov_cut : (r : Reg) (rest : List ℕ) → length rest < 4 → NoMov r rest
unfolding front entry_of numbers plain_at after_opcode at_opcode read_from
mov_cut r rest h = few_cases (NoMov r)
    (elim r as (λ r. NoMov r []) [ reg.Eax ↦ refl | _ ↦ refl ])
    (λ a. elim r as (λ r. NoMov r (a ∷ [])) [ reg.Eax ↦ refl | _ ↦ refl ])
    (λ a b. elim r as (λ r. NoMov r (a ∷ b ∷ [])) [ reg.Eax ↦ refl | _ ↦ refl ])
    (λ a b c. elim r as (λ r. NoMov r (a ∷ b ∷ c ∷ [])) [ reg.Eax ↦ refl | _ ↦ refl ])
    rest h

jmp_front : (a b c d : ℕ) (rest : List ℕ) → front (0xE9 ∷ a ∷ b ∷ c ∷ d ∷ rest) ≡ Some (instr.Jmp (from_le 4 (a ∷ b ∷ c ∷ d ∷ [])), 5)
unfolding front entry_of plain_at after_opcode at_opcode read_from
jmp_front a b c d rest =
    let bytes : List ℕ = a ∷ b ∷ c ∷ d ∷ take 10 rest in
    front_at (suc (length bytes)) 5 _ (instr.Jmp (from_le 4 (a ∷ b ∷ c ∷ d ∷ []))) (length bytes - 4) (numbers_there row.JmpNear no_counts 0xC0 0 0 bytes (omega arith)) (omega arith)

jmp_cut : (rest : List ℕ) → length rest < 4 → front (0xE9 ∷ rest) ≡ None
unfolding front entry_of numbers plain_at after_opcode at_opcode read_from
jmp_cut rest h = few_cases (λ bytes. front (0xE9 ∷ bytes) ≡ None) refl (λ a. refl) (λ a b. refl) (λ a b c. refl) rest h

short_front : (b : ℕ) (rest : List ℕ) → front (0xEB ∷ b ∷ rest) ≡ Some (instr.Jmp (signed Four b), 2)
unfolding front entry_of plain_at after_opcode at_opcode read_from
short_front b rest =
    let bytes : List ℕ = b ∷ take 13 rest in
    let v : b + 256 * 0 ≡ b = omega arith in
    front_at (suc (length bytes)) 2 _ (instr.Jmp (signed Four b)) (length bytes - 1) (numbers_there row.JmpShort no_counts 0xC0 0 0 bytes (omega arith) ∙ ap (λ (x : ℕ). Found (instr.Jmp (signed Four x)) (length bytes - 1)) v) (omega arith)

int_front : (rest : List ℕ) → front (0xCD ∷ 0x80 ∷ rest) ≡ Some (instr.Int80, 2)
unfolding front entry_of plain_at after_opcode at_opcode read_from
int_front rest =
    let bytes : List ℕ = 0x80 ∷ take 13 rest in
    front_at (suc (length bytes)) 2 _ instr.Int80 (length bytes - 1) (numbers_there row.Int80 no_counts 0xC0 0 0 bytes (omega arith)) (omega arith)

other_int : (n : ℕ) → n ≢ 0x80 → eqb (n + 0) 0x80 ≡ false
other_int n h = grind (arith, nat_tests)

int_none : (n : ℕ) (rest : List ℕ) → n ≢ 0x80 → front (0xCD ∷ n ∷ rest) ≡ None
unfolding front entry_of plain_at after_opcode at_opcode read_from
int_none n rest h =
    let bytes : List ℕ = n ∷ take 13 rest in
    let x = numbers_there row.Int80 no_counts 0xC0 0 0 bytes (omega arith) in
    ap (found_front (suc (length bytes))) (rw (other_int n h) at x)

ud2_none : (rest : List ℕ) → front (0x0F ∷ 0x0B ∷ rest) ≡ None
unfolding front entry_of numbers plain_at after_opcode after_escape at_opcode read_from
ud2_none rest = refl

pub front_equations : FrontEquations
unfolding front entry_of numbers plain_at after_opcode at_opcode read_from
front_equations = record {
  nothing = refl;
  mov = mov_front;
  mov_cut = λ r rest h. mov_cut r rest h;
  jmp_near = jmp_front;
  jmp_near_cut = jmp_cut;
  jmp_short = short_front;
  jmp_short_cut = refl;
  int80 = int_front;
  other_int = int_none;
  int_cut = refl;
  hlt = λ rest. refl;
  ud2 = ud2_none;
}

-- ---- worked fronts

pub worked : FrontsAreWorked
unfolding front entry_of numbers sib_at after_m m_at plain_at after_opcode after_escape at_opcode read_from
worked = (refl, (refl, (refl, (refl, (refl, (refl, (refl, (refl, tt))))))))
