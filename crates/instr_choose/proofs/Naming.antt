-- The blocks of the code are those of the unit, each found where the unit's is.
use Rattle.std.proofs.Common.{◌≡◌, ℕ, zero, suc, ◌+◌, ◌<◌, ◌==◌, Bool, true, false, not, cond, ltb, List, [], ◌∷◌, map, length, find, position, Contains, Option, Some, None, refl, sym, ap, ◌∙◌, subst, arith}
use Rattle.std.specs.List.{slice_get, position_or_len}
use Rattle.std.specs.Option.{option_map}
use Rattle.std.proofs.lemmas.Bool.{ltb-false, lt-ltb, eq-eqb, ne_eqb}
use Rattle.std.proofs.lemmas.Option.{slice_get-map, slice_get_within, slice_get_past, get_or_from_slice_get, none-some, same_Some}
use Rattle.flag_ir.specs.declared.block.Block.{Block}
use Rattle.flag_ir.specs.Entering.{CodeUnit, index_of_number, index_at}
use Rattle.named_code.specs.declared.named.VBlock.{VBlock}
use Rattle.named_code.specs.Items.{CodeBlock, named_block, named_blocks}
use Rattle.named_code.specs.Running.{block_of_number, block_at}
use Rattle.instr_choose.specs.Blocks.{choose_block, choose_blocks}
use Rattle.instr_choose.specs.Marks.{names_of, marks_of, at_or_zero}

-- ---- names
pub names_kept : (blocks : List Block) → map (λ (b : VBlock). (b.number, b.at)) (choose_blocks blocks) ≡ map names_of blocks
names_kept [] = refl
names_kept (b ∷ bs) = ap (λ l. (b.number, b.at) ∷ l) (names_kept bs)

-- ---- the first that passes a test stands at its position
module _ {X : Type 0} (test : X → Bool) where
  found_at : (xs : List X) → find test xs ≡ slice_get xs (position_or_len test xs)
  found_at [] = refl
  found_at (x ∷ xs) = by (test x) (found_at xs)
    where
      by : (b : Bool) → find test xs ≡ slice_get xs (position_or_len test xs) → cond b (Some x) (find test xs) ≡ slice_get (x ∷ xs) (cond (not b) (1 + position_or_len test xs) 0)
      by true h = refl
      by false h = h ∙ ap (λ k. slice_get (x ∷ xs) k) (let e : suc (position_or_len test xs) ≡ 1 + position_or_len test xs = omega arith in e)

  by_position : (xs : List X) (n : ℕ) (b : Bool) → ltb n (length xs) ≡ b → (o : Option ℕ) → cond b (Some n) None ≡ o → find test xs ≡ slice_get xs n → (o ≡ None → find test xs ≡ None) × ((k : ℕ) → o ≡ Some k → find test xs ≡ slice_get xs k)
  by_position xs n true low o e h = (λ none. absurd (none-some n (sym (e ∙ none))), λ k some. h ∙ ap (λ j. slice_get xs j) (same_Some n k (e ∙ some)))
  by_position xs n false high o e h = (λ none. h ∙ slice_get_past xs n (ltb-false n (length xs) high), λ k some. absurd (none-some k (e ∙ some)))

  pub none_passes : (xs : List X) → position test xs ≡ None → find test xs ≡ None
  none_passes xs e = (by_position xs (position_or_len test xs) _ refl (position test xs) refl (found_at xs)).0 e

  pub first_passes : (xs : List X) (k : ℕ) → position test xs ≡ Some k → find test xs ≡ slice_get xs k
  first_passes xs k e = (by_position xs (position_or_len test xs) _ refl (position test xs) refl (found_at xs)).1 k e

-- ---- the block of the code that is made of one
abbrev pub code_of : Block → CodeBlock
code_of b = named_block (choose_block b)

abbrev pub code_blocks : List Block → List CodeBlock
code_blocks blocks = named_blocks (choose_blocks blocks)

find_made : (test : CodeBlock → Bool) (blocks : List Block) → find test (code_blocks blocks) ≡ option_map code_of (find (λ (b : Block). test (code_of b)) blocks)
find_made test [] = refl
find_made test (b ∷ bs) = by (test (code_of b)) (find_made test bs)
  where
    by : (z : Bool) → find test (code_blocks bs) ≡ option_map code_of (find (λ (b : Block). test (code_of b)) bs) → cond z (Some (code_of b)) (find test (code_blocks bs)) ≡ option_map code_of (cond z (Some b) (find (λ (b : Block). test (code_of b)) bs))
    by true h = refl
    by false h = h

pub number_found : (n : ℕ) (blocks : List Block) (k : ℕ) → index_of_number n blocks ≡ Some k → block_of_number n (code_blocks blocks) ≡ option_map code_of (slice_get blocks k)
unfolding index_of_number
number_found n blocks k e = find_made (λ (b : CodeBlock). b.number == n) blocks ∙ ap (option_map code_of) (first_passes (λ (b : Block). b.number == n) blocks k e)

pub number_missing : (n : ℕ) (blocks : List Block) → index_of_number n blocks ≡ None → block_of_number n (code_blocks blocks) ≡ None
unfolding index_of_number
number_missing n blocks e = find_made (λ (b : CodeBlock). b.number == n) blocks ∙ ap (option_map code_of) (none_passes (λ (b : Block). b.number == n) blocks e)

pub address_found : (a : ℕ) (blocks : List Block) (k : ℕ) → index_at a blocks ≡ Some k → block_at a (code_blocks blocks) ≡ option_map code_of (slice_get blocks k)
unfolding index_at
address_found a blocks k e = by (a == 0) e
  where
    by : (z : Bool) → cond z None (position (λ (b : Block). b.at == a) blocks) ≡ Some k → cond z None (find (λ (b : CodeBlock). b.at == a) (code_blocks blocks)) ≡ option_map code_of (slice_get blocks k)
    by true e = absurd (none-some k e)
    by false e = find_made (λ (b : CodeBlock). b.at == a) blocks ∙ ap (option_map code_of) (first_passes (λ (b : Block). b.at == a) blocks k e)

pub address_missing : (a : ℕ) (blocks : List Block) → index_at a blocks ≡ None → block_at a (code_blocks blocks) ≡ None
unfolding index_at
address_missing a blocks e = by (a == 0) e
  where
    by : (z : Bool) → cond z None (position (λ (b : Block). b.at == a) blocks) ≡ None → cond z None (find (λ (b : CodeBlock). b.at == a) (code_blocks blocks)) ≡ None
    by true e = refl
    by false e = find_made (λ (b : CodeBlock). b.at == a) blocks ∙ ap (option_map code_of) (none_passes (λ (b : Block). b.at == a) blocks e)

-- ---- numbers are indexes
pub there : (blocks : List Block) (k : ℕ) → k < length blocks → (b : Block) × (slice_get blocks k ≡ Some b)
there [] k l = absurd (omega (arith, l))
there (b ∷ bs) zero l = (b, refl)
there (b ∷ bs) (suc k) l = there bs k (omega (arith, l))

pub among : (blocks : List Block) (k : ℕ) (b : Block) → slice_get blocks k ≡ Some b → Contains blocks b
among blocks k b e = (k, slice_get_within blocks k b e, get_or_from_slice_get blocks k b b e)

abbrev pub AreNumbered : List Block → Type 0
AreNumbered blocks = (k : ℕ) (b : Block) → slice_get blocks k ≡ Some b → b.number ≡ k

pub has_number : (blocks : List Block) → AreNumbered blocks → (n : ℕ) → n < length blocks → Contains (map (λ (b : VBlock). b.number) (choose_blocks blocks)) n
has_number blocks numbered n l =
    let at = there blocks n l in
    let is : slice_get (map (λ (b : VBlock). b.number) (choose_blocks blocks)) n ≡ Some n =
    slice_get-map (λ (b : VBlock). b.number) (choose_blocks blocks) n
    ∙ (ap (option_map (λ (b : VBlock). b.number)) (slice_get-map choose_block blocks n ∙ ap (option_map choose_block) at.1) ∙ ap (λ (k : ℕ). Some k) (numbered n at.0 at.1)) in
    (n, slice_get_within _ n n is, get_or_from_slice_get _ n n n is)

-- the first block of a number is the one with that index
position_of : (blocks : List Block) (i n : ℕ) → ((k : ℕ) (b : Block) → slice_get blocks k ≡ Some b → b.number ≡ i + k) → n < length blocks → position_or_len (λ (b : Block). b.number == i + n) blocks ≡ n
position_of [] i n numbered l = absurd (omega (arith, l))
position_of (c ∷ cs) i zero numbered l = ap (λ z. cond (not z) (1 + position_or_len (λ (b : Block). b.number == i + 0) cs) 0) (eq-eqb c.number (i + 0) (numbered 0 c refl))
position_of (c ∷ cs) i (suc n) numbered l =
    let first : c.number ≡ i + 0 = numbered 0 c refl in
    let apart : (c.number == i + suc n) ≡ false = ne_eqb c.number (i + suc n) (λ e. absurd (omega (arith, e, first))) in
    let more : position_or_len (λ (b : Block). b.number == (i + 1) + n) cs ≡ n = position_of cs (i + 1) n (λ k b e. let g : b.number ≡ i + suc k = numbered (suc k) b e in omega (arith, g)) (omega (arith, l)) in
    let same : (i + 1) + n ≡ i + suc n = omega arith in
    let there : position_or_len (λ (b : Block). b.number == i + suc n) cs ≡ n = subst (λ (j : ℕ). position_or_len (λ (b : Block). b.number == j) cs ≡ n) same more in
    ap (λ z. cond (not z) (1 + position_or_len (λ (b : Block). b.number == i + suc n) cs) 0) apart ∙ (ap (λ k. 1 + k) there ∙ (let e : 1 + n ≡ suc n = omega arith in e))

module _ (blocks : List Block) (numbered : AreNumbered blocks) where
  place_of_number : (n : ℕ) → n < length blocks → position_or_len (λ (b : Block). b.number == n) blocks ≡ n
  place_of_number n l =
      let same : 0 + n ≡ n = omega arith in
      subst (λ (j : ℕ). position_or_len (λ (b : Block). b.number == j) blocks ≡ n) same (position_of blocks 0 n (λ k b e. let g : b.number ≡ k = numbered k b e in omega (arith, g)) l)

  pub index_is : (n : ℕ) → n < length blocks → index_of_number n blocks ≡ Some n
  unfolding index_of_number
  index_is n l = ap (λ k. cond (ltb k (length blocks)) (Some k) None) (place_of_number n l) ∙ ap (λ z. cond z (Some n) None) (lt-ltb n (length blocks) l)

  pub found_number : (n : ℕ) (b : Block) → slice_get blocks n ≡ Some b → find (λ (b : Block). b.number == n) blocks ≡ Some b
  found_number n b e = found_at (λ (b : Block). b.number == n) blocks ∙ (ap (λ k. slice_get blocks k) (place_of_number n (slice_get_within blocks n b e)) ∙ e)

module _ (u : CodeUnit) (numbered : AreNumbered u.whole) where
  pub mark_is : (n : ℕ) (b : Block) → slice_get u.whole n ≡ Some b → marks_of u b.number ≡ b.at
  mark_is n b e = ap (marks_of u) (numbered n b e) ∙ ap at_or_zero (found_number u.whole numbered n b e)
