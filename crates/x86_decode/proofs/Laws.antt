-- What is decoded is exactly what is spelled, where reading is right.
use Rattle.std.proofs.Common.{◌≡◌, ℕ, zero, suc, ◌+◌, ◌-◌, ◌<◌, ◌≤◌, Bool, true, false, cond, leb, List, [], ◌∷◌, ◌++◌, length, take, drop, get_or, Some, inl, inr, refl, sym, ap, subst, ◌∙◌, arith, length-append, length-take, length-drop}
use Rattle.std.proofs.lemmas.Bool.{cases_lt, le-leb, leb-true}
use Rattle.std.proofs.lemmas.List.{take-append-drop, take_at, take-take, take-append-le, take_all}
use Rattle.std.proofs.lemmas.List.Elements.{All-from_recursion}
use Rattle.std.specs.Prelude.{◌↔◌, All}
use Rattle.x86_types.specs.declared.instr.Instr.{Instr}
use Rattle.x86_grammar.specs.declared.reading.Seen.{Seen}
use Rattle.x86_grammar.specs.declared.reading.Seen.TheVariants.{Found, Needs, Never}
use Rattle.x86_grammar.specs.Spells.{Spells}
use Rattle.x86_grammar.specs.Fields.{HasSpelling}
use Rattle.x86_grammar.specs.Front.{front}
use Rattle.x86_grammar.specs.FrontLaws.{FrontIsSpelling}
use Rattle.x86_grammar.specs.Fronts.{FrontSpells, IsShort, IsOutside}
use Rattle.byte_lists.specs.LittleEndian.{AreBytes}
use Rattle.x86_grammar.specs.Reading.{read, ReadsRight}
use Rattle.x86_decode.specs.declared.decoding.Decoded.{Decoded}
use Rattle.x86_decode.specs.declared.decoding.Decoded.TheVariants.{One, Outside, Short}
use Rattle.x86_decode.specs.Decoding.{judge, decoded}

pub bytes_from : (bytes : List ℕ) → ((i : ℕ) → get_or bytes i 0 < 256) → AreBytes bytes
bytes_from [] h = tt
bytes_from (b ∷ bytes) h = (h 0, bytes_from bytes (λ i. h (suc i)))

bytes_take : (n : ℕ) (bytes : List ℕ) → AreBytes bytes → AreBytes (take n bytes)
bytes_take zero bytes h = tt
bytes_take (suc n) [] h = tt
bytes_take (suc n) (b ∷ bytes) h = (h.0, bytes_take n bytes h.1)

-- ---- what an answer says of what was seen

one_is : (i j : Instr) (n m : ℕ) → One i n ≡ One j m → (i ≡ j) × (n ≡ m)
one_is i j n m e = ((cc), (cc))

choice_one : (b : Bool) (i : Instr) (n : ℕ) → cond b Short Outside ≡ One i n → ⊥
choice_one true i n e = cc
choice_one false i n e = cc

never_one : (i : Instr) (n : ℕ) → Outside ≡ One i n → ⊥
never_one i n e = cc

found_one : (len : ℕ) (x : Seen) (i : Instr) (n : ℕ) → judge len x ≡ One i n → (left : ℕ) × (x ≡ Found i left) × (n ≡ len - left)
found_one len (Found j left) i n e = let p = one_is j i (len - left) n e in (left, ap (λ (k : Instr). Found k left) p.0, sym p.1)
found_one len (Needs k) i n e = absurd (choice_one _ i n e)
found_one len Never i n e = absurd (never_one i n e)

no_one : (i : Instr) (n : ℕ) → One i n ≡ Short → ⊥
no_one i n e = cc

short_needs : (len k : ℕ) (b : Bool) → leb (len + k) 15 ≡ b → cond b Short Outside ≡ Short → (n : ℕ) × (Needs k ≡ Needs n) × (len + n ≤ 15)
short_needs len k true e h = (k, refl, leb-true (len + k) 15 e)
short_needs len k false e h = absurd cc

short_some : (len : ℕ) (x : Seen) → judge len x ≡ Short → (k : ℕ) × (x ≡ Needs k) × (len + k ≤ 15)
short_some len (Found j left) e = absurd cc
short_some len (Needs k) e = short_needs len k (leb (len + k) 15) refl e
short_some len Never e = absurd cc

-- ---- one of the three answers comes

short_outside : Outside ≡ Short → ⊥
short_outside e = cc

only_outside : (x : Decoded) → ((i : Instr) (n : ℕ) → x ≡ One i n → ⊥) → (x ≡ Short → ⊥) → x ≡ Outside
only_outside (One i n) one short = absurd (one i n refl)
only_outside Outside one short = refl
only_outside Short one short = absurd (short refl)

-- fewer bytes are left than there are
pub left_fits : (laws : ReadsRight) (bytes : List ℕ) (i : Instr) (left : ℕ) → AreBytes bytes → read bytes ≡ Found i left → left ≤ length bytes
left_fits laws bytes i left h e = let g = laws.gave bytes i left h e in omega (arith, g.len, ap length g.parts, length-append g.text g.rest)

module _ (laws : ReadsRight) (bytes : List ℕ) (h : AreBytes bytes) where
  abbrev fifteen : List ℕ
  fifteen = take 15 bytes

  fits : AreBytes fifteen
  fits = bytes_take 15 bytes h

  one_spells : (i : Instr) (len : ℕ) → decoded bytes ≡ One i len → FrontSpells bytes i len
  unfolding decoded
  one_spells i len e =
      let f = found_one (length fifteen) (read fifteen) i len e in
      let g = laws.gave fifteen i f.0 fits f.1 in
      let n : length g.text ≡ len = omega (arith, f.2, g.len, ap length g.parts, length-append g.text g.rest) in
      let short : len ≤ length fifteen = omega (arith, n, ap length g.parts, length-append g.text g.rest) in
      let most = length-take 15 bytes in
      let text : take len bytes ≡ g.text = sym (take-take len 15 bytes (omega arith)) ∙ ap (take len) g.parts ∙ take_at g.text g.rest len n in
      record { there = omega arith; spells = rw text (g.spells (omega arith)) }

  spells_one : (i : Instr) (len : ℕ) → FrontSpells bytes i len → decoded bytes ≡ One i len
  unfolding decoded
  spells_one i len s =
      let t = take len bytes in
      let n : length t ≡ len = omega (arith, length-take len bytes, s.there) in
      let short = s.spells.short in
      let parts : fifteen ≡ t ++ drop len fifteen = sym (take-append-drop len fifteen) ∙ ap (λ (y : List ℕ). y ++ drop len fifteen) (take-take len 15 bytes (omega arith)) in
      let w = laws.whole t (drop len fifteen) i s.spells in
      let seen : read fifteen ≡ Found i (length (drop len fifteen)) = ap read parts ∙ w in
      let left : length fifteen - length (drop len fifteen) ≡ len = omega (arith, ap length parts, length-append t (drop len fifteen)) in
      rw (seen, left) refl

  short_is : decoded bytes ≡ Short → IsShort bytes
  unfolding decoded
  short_is e =
      let s = short_some (length fifteen) (read fifteen) e in
      let w = laws.wants fifteen s.0 fits s.1 in
      let few : length bytes < 15 = omega (arith, s.2, w.some, length-take 15 bytes) in
      let whole : fifteen ≡ bytes = take_all 15 bytes (omega arith) in
      let longer : length (bytes ++ w.more) ≤ 15 = omega (arith, length-append bytes w.more, s.2, w.len, ap length whole) in
      let text : Spells (bytes ++ w.more) w.instr = subst (λ (y : List ℕ). length (y ++ w.more) ≤ 15 → Spells (y ++ w.more) w.instr) whole w.spells longer in
      record {
        none = λ i len f. no_one i len (sym (spells_one i len f) ∙ e);
        few = few;
        on = record {
          more = w.more;
          instr = w.instr;
          len = length (bytes ++ w.more);
          longer = record { there = omega arith; spells = rw (take_all (length (bytes ++ w.more)) (bytes ++ w.more) (omega arith)) text };
        };
      }

  is_short : IsShort bytes → decoded bytes ≡ Short
  unfolding decoded
  is_short s =
      elim (cases_lt (length bytes) s.on.len) [
        | inr le ↦ absurd (s.none s.on.instr s.on.len (record { there = le; spells = subst (λ (y : List ℕ). Spells y s.on.instr) (take-append-le s.on.len bytes s.on.more le) s.on.longer.spells }))
        | inl lt ↦
            let whole : fifteen ≡ bytes = take_all 15 bytes (omega (arith, s.few)) in
            let t = take s.on.len (bytes ++ s.on.more) in
            let n : length t ≡ s.on.len = omega (arith, length-take s.on.len (bytes ++ s.on.more), s.on.longer.there) in
            let begins : take (length bytes) t ≡ bytes = take-take (length bytes) s.on.len (bytes ++ s.on.more) (omega arith) ∙ take_at bytes s.on.more (length bytes) refl in
            let back = drop (length bytes) t in
            let parts : t ≡ bytes ++ back = sym (take-append-drop (length bytes) t) ∙ ap (λ (y : List ℕ). y ++ back) begins in
            let c = laws.cut bytes back s.on.instr (subst (λ (y : List ℕ). Spells y s.on.instr) parts s.on.longer.spells) (omega (arith, length-drop (length bytes) t)) in
            let most = s.on.longer.spells.short in
            let small : length bytes + c.wanted ≤ 15 = omega (arith, c.least, length-drop (length bytes) t) in
            rw (whole, c.is, le-leb (length bytes + c.wanted) 15 small) refl
      ]

  pub one_exact : (i : Instr) (len : ℕ) → (decoded bytes ≡ One i len) ↔ FrontSpells bytes i len
  one_exact i len = (one_spells i len, spells_one i len)

  pub short_exact : (decoded bytes ≡ Short) ↔ IsShort bytes
  short_exact = (short_is, is_short)

  outside_is : decoded bytes ≡ Outside → IsOutside bytes
  outside_is e = record {
    none = λ i len f. never_one i len (sym e ∙ spells_one i len f);
    not_short = λ s. short_outside (sym e ∙ is_short s);
  }

  is_outside : IsOutside bytes → decoded bytes ≡ Outside
  is_outside o = only_outside (decoded bytes) (λ i n e. o.none i n (one_spells i n e)) (λ e. o.not_short (short_is e))

  pub outside_exact : (decoded bytes ≡ Outside) ↔ IsOutside bytes
  outside_exact = (outside_is, is_outside)

  pub one_spelled : (i : Instr) (len : ℕ) → decoded bytes ≡ One i len → HasSpelling i
  one_spelled i len e = record { bytes = take len bytes; spells = (one_spells i len e).spells }

  module _ (fronts : FrontIsSpelling) where
    all : All (λ b. b < 256) bytes
    all = All-from_recursion (λ b. b < 256) bytes h

    pub computed_exact : (i : Instr) (len : ℕ) → (decoded bytes ≡ One i len) ↔ (front bytes ≡ Some (i, len))
    computed_exact i len = let x = fronts.exact bytes all i len in (λ e. x.1 (one_spells i len e), λ e. spells_one i len (x.0 e))

    pub one_fits : (i : Instr) (len : ℕ) → decoded bytes ≡ One i len → (1 ≤ len) × (len ≤ 15) × (len ≤ length bytes)
    one_fits i len e = let f = (fronts.exact bytes all i len).1 (one_spells i len e) in (fronts.some bytes i len all f, fronts.few bytes i len f, fronts.there bytes i len f)
