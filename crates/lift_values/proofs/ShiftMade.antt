-- From what a list that shifts leaves to what is computed: the count is unspecified, 0 modulo 32, or another.
use Rattle.std.proofs.Common.{◌≡◌, ℕ, ◌+◌, ◌*◌, ◌%◌, ◌<◌, ◌==◌, Bool, false, [], ◌∷◌, Option, Some, None, sym, ◌∙◌, ap, subst, arith, lit<}
use Rattle.std.proofs.lemmas.Bool.{cond-false, eqb-false, ne_eqb}
use Rattle.x86_values.specs.declared.byte.Byte.{Byte}
use Rattle.x86_values.specs.declared.byte.Byte.TheVariants.{Known, Unspecified}
use Rattle.x86_values.specs.declared.word.Word.{Word}
use Rattle.x86_values.specs.declared.word.Flags.{Flags}
use Rattle.x86_values.specs.declared.answered.Answered.{Answered}
use Rattle.x86_values.specs.Words.{word_of, known, known_byte}
use Rattle.x86_values.specs.Sizes.{cut, no_word, number}
use Rattle.x86_values.specs.Results.{no_flags, result_of}
use Rattle.x86_values.specs.LessSpecified.{WordLessSpecified}
use Rattle.x86_types.specs.declared.operation.ShiftOp.TheVariants.{Shr}
use Rattle.x86_types.specs.declared.width.Width.{Width}
use Rattle.x86_types.specs.declared.width.Width.TheVariants.{One}
use Rattle.x86_types.specs.Numbers.{size_of}
use Rattle.x86_meaning.specs.Outcomes.{Computed, Falls}
use Rattle.flag_ir.specs.Calculations.{shifted_of, equal_of, and_of}
use Rattle.flag_ir.specs.Storage.{Storage}
use Rattle.flag_ir.specs.Operations.{picked}
use Rattle.lift_relation.specs.Matching.{FlagMatches, FlagsMatch}
use Rattle.lift_relation.specs.Cores.{CutMatches, IsChangedByCore, IsComputed}
use Rattle.lift_values.specs.Terms.{top, mask}
use Rattle.lift_values.proofs.WordLemmas.{number_below, known_word, small_mod, known_matches, nothing_matches, mask_words, mask_keeps, cut_again, same_word}
use Rattle.lift_values.proofs.ShiftWords.{count_mask}
use Rattle.lift_values.proofs.FlagLemmas.{parity_made, flags_match, no_flags_match}
use Rattle.lift_values.proofs.ShiftFacts.{Comes}

-- ---- what a list leaves, by the words of the count, of the result, of CF and of OF
-- ZF, SF and PF are those of the result, or stay
pub record RestSet (w : Width) (count result : Word) (u v : Storage) : Type 0 where
  pub pf : v.flags 1 ≡ picked (known count) (parity_made result) (u.flags 1)
  pub zf : v.flags 2 ≡ picked (known count) (equal_of result (word_of 0)) (u.flags 2)
  pub sf : v.flags 3 ≡ picked (known count) (shifted_of Shr result (word_of (top w))) (u.flags 3)

pub record RestKept (u v : Storage) : Type 0 where
  pub pf : v.flags 1 ≡ u.flags 1
  pub zf : v.flags 2 ≡ u.flags 2
  pub sf : v.flags 3 ≡ u.flags 3

pub record Leaves (w : Width) (count result out over : Word) (u v : Storage) : Type 0 where
  pub change : IsChangedByCore u v
  pub value : v.temps 4 ≡ and_of (picked (known count) result (u.temps 1)) (word_of (mask w))
  pub cf : v.flags 0 ≡ picked (known count) out (u.flags 0)
  pub of : v.flags 4 ≡ picked (known count) over (u.flags 4)

-- what is computed, where the next instruction follows
abbrev pub answers : Answered → Computed
answers a = record { values = a.value ∷ []; flags = a.flags; way = Falls }

-- ---- picks
picked_zero : (c x y : Word) → c ≡ word_of 0 → picked (known c) x y ≡ y
picked_zero c x y e = ap (λ o. picked o x y) (ap known e ∙ known_word 0 (lit< tt))

picked_more : (c : Word) (k : ℕ) (x y : Word) → c ≡ word_of k → 0 < k → k < 32 → picked (known c) x y ≡ x
picked_more c k x y e z l =
    let big : k < 4294967296 = omega (arith, l) in
    let some : (k == 0) ≡ false = ne_eqb k 0 (λ q. omega (arith, q, z)) in
    ap (λ o. picked o x y) (ap known e ∙ known_word k big) ∙ cond-false (k == 0) y x some

-- ---- values
kept_matches : (w : Width) (x y z : Word) → CutMatches (size_of w) x y → z ≡ and_of y (word_of (mask w)) → CutMatches (size_of w) (cut (size_of w) x) z
kept_matches w x y z h e = subst (λ q. WordLessSpecified q z) (sym (cut_again w x)) (subst (WordLessSpecified (cut (size_of w) x)) (sym e) (mask_keeps w x y h))

-- ---- the count is 0
flag_kept : (f : Option Bool) (y z : Word) → z ≡ y → FlagMatches f y → FlagMatches f z
flag_kept f y z e h = subst (FlagMatches f) (sym e) h

abbrev pub Keeps : Width → Word → Flags → Storage → Storage → Type 0
Keeps w x f u v = IsComputed (size_of w) (answers (record { value = cut (size_of w) x; flags = f })) u v

pub kept_set : (w : Width) (x : Word) (f : Flags) (c r o p : Word) (u v : Storage) → Leaves w c r o p u v → RestSet w c r u v → CutMatches (size_of w) x (u.temps 1) → FlagsMatch f u.flags → c ≡ word_of 0 → Keeps w x f u v
kept_set w x f c r o p u v h t m g e = record {
  change = h.change;
  values = (kept_matches w x (u.temps 1) (v.temps 4) m (h.value ∙ ap (λ y. and_of y (word_of (mask w))) (picked_zero c r (u.temps 1) e)), tt);
  flags = record {
    cf = flag_kept f.cf _ _ (h.cf ∙ picked_zero c _ _ e) g.cf;
    pf = flag_kept f.pf _ _ (t.pf ∙ picked_zero c _ _ e) g.pf;
    zf = flag_kept f.zf _ _ (t.zf ∙ picked_zero c _ _ e) g.zf;
    sf = flag_kept f.sf _ _ (t.sf ∙ picked_zero c _ _ e) g.sf;
    of = flag_kept f.of _ _ (h.of ∙ picked_zero c _ _ e) g.of;
  };
}

pub kept_kept : (w : Width) (x : Word) (f : Flags) (c r o p : Word) (u v : Storage) → Leaves w c r o p u v → RestKept u v → CutMatches (size_of w) x (u.temps 1) → FlagsMatch f u.flags → c ≡ word_of 0 → Keeps w x f u v
kept_kept w x f c r o p u v h t m g e = record {
  change = h.change;
  values = (kept_matches w x (u.temps 1) (v.temps 4) m (h.value ∙ ap (λ y. and_of y (word_of (mask w))) (picked_zero c r (u.temps 1) e)), tt);
  flags = record {
    cf = flag_kept f.cf _ _ (h.cf ∙ picked_zero c _ _ e) g.cf;
    pf = flag_kept f.pf _ _ t.pf g.pf;
    zf = flag_kept f.zf _ _ t.zf g.zf;
    sf = flag_kept f.sf _ _ t.sf g.sf;
    of = flag_kept f.of _ _ (h.of ∙ picked_zero c _ _ e) g.of;
  };
}

-- ---- nothing is known
pub lost_set : (w : Width) (c r o p : Word) (u v : Storage) → Leaves w c r o p u v → IsComputed (size_of w) (answers (record { value = cut (size_of w) no_word; flags = no_flags })) u v
lost_set w c r o p u v h = record {
  change = h.change;
  values = (nothing_matches w _ (v.temps 4) h.value, tt);
  flags = no_flags_match v.flags;
}

pub lost_kept : (w : Width) (f : Flags) (c r o p : Word) (u v : Storage) → Leaves w c r o p u v → RestKept u v → FlagsMatch f u.flags → IsComputed (size_of w) (answers (record { value = cut (size_of w) no_word; flags = record f { cf = None; of = None } })) u v
lost_kept w f c r o p u v h t g = record {
  change = h.change;
  values = (nothing_matches w _ (v.temps 4) h.value, tt);
  flags = record { cf = tt; pf = flag_kept f.pf _ _ t.pf g.pf; zf = flag_kept f.zf _ _ t.zf g.zf; sf = flag_kept f.sf _ _ t.sf g.sf; of = tt };
}

-- ---- a count from 1 to 31
more_value : (w : Width) (n : ℕ) (cy ov : Option Bool) (c r o p : Word) (k : ℕ) (u v : Storage) → Leaves w c r o p u v → Comes w n cy ov r o p → c ≡ word_of k → 0 < k → k < 32 → v.temps 4 ≡ word_of n
more_value w n cy ov c r o p k u v h m e l s =
    h.value ∙ ap (λ y. and_of y (word_of (mask w))) (picked_more c k r (u.temps 1) e l s ∙ m.is) ∙ mask_words w n ∙ same_word _ _ (small_mod w n m.fits)

pub made_set : (w : Width) (n : ℕ) (cy ov : Option Bool) (c r o p : Word) (k : ℕ) (u v : Storage) → Leaves w c r o p u v → RestSet w c r u v → Comes w n cy ov r o p → c ≡ word_of k → 0 < k → k < 32 → IsComputed (size_of w) (answers (result_of (size_of w) n cy ov)) u v
made_set w n cy ov c r o p k u v h t m e l s = record {
  change = h.change;
  values = (known_matches w n (v.temps 4) (more_value w n cy ov c r o p k u v h m e l s) m.fits, tt);
  flags =
      flags_match w n cy ov r v.flags m.fits m.is (t.pf ∙ picked_more c k _ _ e l s) (t.zf ∙ picked_more c k _ _ e l s) (t.sf ∙ picked_more c k _ _ e l s)
      (flag_kept cy _ _ (h.cf ∙ picked_more c k _ _ e l s) m.carried) (flag_kept ov _ _ (h.of ∙ picked_more c k _ _ e l s) m.overflowed);
}

pub made_kept : (w : Width) (n : ℕ) (cy ov : Option Bool) (f : Flags) (c r o p : Word) (k : ℕ) (u v : Storage) → Leaves w c r o p u v → RestKept u v → FlagsMatch f u.flags → Comes w n cy ov r o p → c ≡ word_of k → 0 < k → k < 32 → IsComputed (size_of w) (answers (record { value = word_of n; flags = record f { cf = cy; of = ov } })) u v
made_kept w n cy ov f c r o p k u v h t g m e l s = record {
  change = h.change;
  values = (known_matches w n (v.temps 4) (more_value w n cy ov c r o p k u v h m e l s) m.fits, tt);
  flags = record {
    cf = flag_kept cy _ _ (h.cf ∙ picked_more c k _ _ e l s) m.carried;
    pf = flag_kept f.pf _ _ t.pf g.pf;
    zf = flag_kept f.zf _ _ t.zf g.zf;
    sf = flag_kept f.sf _ _ t.sf g.sf;
    of = flag_kept ov _ _ (h.of ∙ picked_more c k _ _ e l s) m.overflowed;
  };
}

-- ---- the count as it is read: the lowest byte of a word, modulo 32
byte_number : (b : Byte) (n : ℕ) → known_byte b ≡ Some n → number 1 (record { b0 = b; b1 = Known 0; b2 = Known 0; b3 = Known 0 }) ≡ Some n
unfolding number cut known
byte_number (Known a) n e =
    let q : a ≡ n = cc in
    let z : a + 256 * 0 + 65536 * 0 + 16777216 * 0 ≡ n = omega (arith, q) in
    ap (λ x. Some x) z
byte_number Unspecified n e = cc

pub count_words : (x y : Word) (n : ℕ) → known_byte x.b0 ≡ Some n → CutMatches 1 x y → and_of y (word_of 31) ≡ word_of (n % 32)
unfolding number cut
count_words x y n e h =
    let m = number_below One x n y (byte_number x.b0 n e) h in
    ap (λ z. and_of z (word_of 31)) m.is ∙ count_mask n

-- a count that isn't 0
pub positive : (k : ℕ) → (k == 0) ≡ false → 0 < k
positive k z = let h : k ≡ 0 → ⊥ = eqb-false k 0 z in omega (arith, h)
