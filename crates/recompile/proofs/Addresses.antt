-- The places of old addresses: one in the blocks for each address of a block, each another.
use Rattle.std.proofs.Common.{◌≡◌, ◌≢◌, ◌⊎◌, inl, inr, ℕ, zero, suc, ◌+◌, ◌*◌, ◌<◌, ◌≤◌, ◌==◌, ◌&&◌, Bool, true, false, not, cond, List, [], ◌∷◌, ◌++◌, map, length, All, Option, Some, None, position, get_or, refl, sym, ap, ◌∙◌, subst, arith, length-append}
use Rattle.std.proofs.lemmas.Bool.Decides.{nat_tests}
use Rattle.std.proofs.lemmas.List.Elements.{All-head, All-tail}
use Rattle.std.proofs.lemmas.List.Quantifiers.{position-Some}
use Rattle.flag_ir.specs.declared.block.Block.{Block}
use Rattle.flag_ir.specs.Entering.{index_at}
use Rattle.named_code.specs.Items.{Item, CodeBlock}
use Rattle.laid_code.specs.Laid.{Places}
use Rattle.code_text.specs.Texts.{items_text, blocks_text}
use Rattle.code_text.specs.Placing.{TextLengths, items_size, addressed_from}

-- ---- an address is one of a list
pub HasAt : ℕ → List ℕ → Type 0
HasAt a [] = ⊥
HasAt a (n ∷ ns) = (n ≡ a) ⊎ HasAt a ns

pub at_all : (P : ℕ → Type 0) (a : ℕ) (ns : List ℕ) → All P ns → HasAt a ns → P a
unfolding HasAt
at_all P a [] h m = absurd m
at_all P a (n ∷ ns) h (inl e) = subst P e (All-head P n ns h)
at_all P a (n ∷ ns) h (inr m) = at_all P a ns (All-tail P n ns h) m

pub equal : (n a : ℕ) → (n == a) ≡ true → n ≡ a
equal n a h = grind (arith, nat_tests)

pub same : (n a : ℕ) → n ≡ a → (n == a) ≡ true
same n a h = grind (arith, nat_tests)

-- the block that is found at an address has it
abbrev pub unit_ats : List Block → List ℕ
unit_ats bs = map (λ (b : Block). b.at) bs

at_index : (a : ℕ) (bs : List Block) (k : ℕ) (d : Block) → k < length bs → (get_or bs k d).at ≡ a → HasAt a (unit_ats bs)
unfolding HasAt
at_index a [] k d low e = absurd (omega (arith, low))
at_index a (b ∷ bs) zero d low e = inl e
at_index a (b ∷ bs) (suc k) d low e = inr (at_index a bs k d (omega (arith, low)) e)

pub has_index : (a : ℕ) (bs : List Block) (k : ℕ) (d : Block) → index_at a bs ≡ Some k → HasAt a (unit_ats bs)
unfolding index_at
has_index a bs k d e = by (a == 0) e
  where
    by : (t : Bool) → cond t None (position (λ (b : Block). b.at == a) bs) ≡ Some k → HasAt a (unit_ats bs)
    by true e = absurd (cc e)
    by false e =
        let found = position-Some (λ (b : Block). b.at == a) bs k d e in
        at_index a bs k d found.0 (equal (get_or bs k d).at a found.1)

-- ---- the places of blocks
abbrev pub ats : List CodeBlock → List ℕ
ats bs = map (λ (b : CodeBlock). b.at) bs

module _ (l : Places) where
  some_size : (xs : List Item) → 2 ≤ items_size l xs
  unfolding items_size
  some_size [] = omega arith
  some_size (x ∷ xs) = let rest = some_size xs in omega (arith, rest)

  pub blocks_size : List CodeBlock → ℕ
  blocks_size [] = 0
  blocks_size (b ∷ bs) = items_size l b.items + blocks_size bs

  pub size_is : TextLengths → (q : ℕ) (bs : List CodeBlock) → length (blocks_text l q bs) ≡ blocks_size bs
  unfolding blocks_text blocks_size
  size_is lengths q [] = refl
  size_is lengths q (b ∷ bs) =
      let whole = length-append (items_text l q b.items) (blocks_text l (q + length (items_text l q b.items)) bs) in
      let first = lengths.items l q b.items in
      let rest = size_is lengths (q + length (items_text l q b.items)) bs in
      omega (arith, whole, first, rest)

  abbrev is_at : ℕ → ℕ → Bool
  is_at a n = not (a == 0) && (n == a)

  not_at : (a n : ℕ) → (n ≡ a → ⊥) → is_at a n ≡ false
  not_at a n h = by (n == a) refl
    where
      and_false : (b : Bool) → (b && false) ≡ false
      and_false true = refl
      and_false false = refl

      by : (t : Bool) → (n == a) ≡ t → is_at a n ≡ false
      by true t = absurd (h (equal n a t))
      by false t = ap (λ b. not (a == 0) && b) t ∙ and_false (not (a == 0))

  is_there : (a n : ℕ) → a ≢ 0 → n ≡ a → is_at a n ≡ true
  is_there a n some e = by (a == 0) refl
    where
      by : (t : Bool) → (a == 0) ≡ t → is_at a n ≡ true
      by true t = absurd (some (equal a 0 t))
      by false t = rw t (same n a e)

  pub absent : (q a : ℕ) (bs : List CodeBlock) → (HasAt a (ats bs) → ⊥) → addressed_from l q a bs ≡ 0
  unfolding addressed_from HasAt
  absent q a [] none = refl
  absent q a (b ∷ bs) none = rw (not_at a b.at (λ e. none (inl e))) (absent (q + items_size l b.items) a bs (λ m. none (inr m)))

  -- 0 is no address
  pub none_at_zero : (q : ℕ) (bs : List CodeBlock) → addressed_from l q 0 bs ≡ 0
  unfolding addressed_from
  none_at_zero q [] = refl
  none_at_zero q (b ∷ bs) = none_at_zero (q + items_size l b.items) bs

  pub record IsWithin (q place size : ℕ) : Type 0 where
    pub from : q ≤ place
    pub to : place + 2 ≤ q + size

  decided : (n a : ℕ) → (n ≡ a) ⊎ (n ≡ a → ⊥)
  decided n a = by (n == a) refl
    where
      by : (t : Bool) → (n == a) ≡ t → (n ≡ a) ⊎ (n ≡ a → ⊥)
      by true t = inl (equal n a t)
      by false t = inr (λ e. let no : true ≡ false = sym (same n a e) ∙ t in cc no)

  pub present : (q a : ℕ) (bs : List CodeBlock) → a ≢ 0 → HasAt a (ats bs) → IsWithin q (addressed_from l q a bs) (blocks_size bs)
  unfolding addressed_from HasAt blocks_size
  present q a [] some m = absurd m
  present q a (b ∷ bs) some m = by (decided b.at a) m (λ n. present (q + items_size l b.items) a bs some n)
    where
      by : (b.at ≡ a) ⊎ (b.at ≡ a → ⊥) → (b.at ≡ a) ⊎ HasAt a (ats bs) → (HasAt a (ats bs) → IsWithin (q + items_size l b.items) (addressed_from l (q + items_size l b.items) a bs) (blocks_size bs))
          → IsWithin q (addressed_from l q a (b ∷ bs)) (blocks_size (b ∷ bs))
      by (inl e) m rest = rw (is_there a b.at some e) (record { from = omega arith; to = let two = some_size b.items in omega (arith, two) })
      by (inr other) (inl e) rest = absurd (other e)
      by (inr other) (inr n) rest = rw (not_at a b.at other) (let within = rest n in let from = within.from in let to = within.to in record { from = omega (arith, from); to = omega (arith, to) })

  pub differ : (q a c : ℕ) (bs : List CodeBlock) → a ≢ 0 → c ≢ 0 → HasAt a (ats bs) → HasAt c (ats bs) → addressed_from l q a bs ≡ addressed_from l q c bs → a ≡ c
  unfolding addressed_from HasAt
  differ q a c [] some more m n e = absurd m
  differ q a c (b ∷ bs) some more m n e = by (decided b.at a) (decided b.at c) m n (λ i j f. differ (q + items_size l b.items) a c bs some more i j f)
    where
      behind : (d : ℕ) → d ≢ 0 → HasAt d (ats bs) → q + 2 ≤ addressed_from l (q + items_size l b.items) d bs
      behind d d_some k =
          let within = present (q + items_size l b.items) d bs d_some k in
          let from = within.from in
          let two = some_size b.items in
          omega (arith, from, two)

      later : (d : ℕ) → (b.at ≡ d → ⊥) → (b.at ≡ d) ⊎ HasAt d (ats bs) → HasAt d (ats bs)
      later d other (inl e) = absurd (other e)
      later d other (inr k) = k

      by : (b.at ≡ a) ⊎ (b.at ≡ a → ⊥) → (b.at ≡ c) ⊎ (b.at ≡ c → ⊥) → (b.at ≡ a) ⊎ HasAt a (ats bs) → (b.at ≡ c) ⊎ HasAt c (ats bs)
          → (HasAt a (ats bs) → HasAt c (ats bs) → addressed_from l (q + items_size l b.items) a bs ≡ addressed_from l (q + items_size l b.items) c bs → a ≡ c) → a ≡ c
      by (inl x) (inl y) m n rest = sym x ∙ y
      by (inl x) (inr y) m n rest =
          let here : q ≡ addressed_from l (q + items_size l b.items) c bs = rw (is_there a b.at some x, not_at c b.at y) at e in
          let low = behind c more (later c y n) in
          absurd (omega (arith, here, low))
      by (inr x) (inl y) m n rest =
          let here : addressed_from l (q + items_size l b.items) a bs ≡ q = rw (not_at a b.at x, is_there c b.at more y) at e in
          let low = behind a some (later a x m) in
          absurd (omega (arith, here, low))
      by (inr x) (inr y) m n rest = rest (later a x m) (later c y n) (rw (not_at a b.at x, not_at c b.at y) at e)
