-- At the beginning the cells hold the words of the names, on both sides.
use Rattle.std.proofs.Common.{◌≡◌, ◌≢◌, ◌⊎◌, ℕ, zero, suc, ◌+◌, ◌-◌, ◌%◌, ◌<◌, ◌≤◌, cond, List, length, get_or, Some, None, inl, inr, refl, sym, ap, ◌∙◌, subst, arith}
use Rattle.std.proofs.lemmas.List.{get_or_past, get_or_default}
use Rattle.std.proofs.lemmas.List.Elements.{All-weaker, All-from_recursion, recursion_from_All}
use Rattle.std.proofs.lemmas.Option.{slice_get-get_or, slice_get_past}
use Rattle.std.proofs.lemmas.Bool.{le-leb, ne_eqb}
use Rattle.std.specs.List.{AllByRecursion}
use Rattle.std.specs.Option.{option_map_or}
use Rattle.x86_values.specs.declared.byte.Byte.TheVariants.{Known, Unspecified}
use Rattle.x86_values.specs.Words.{word_of, word_list}
use Rattle.memory.specs.Memory.{Memory, with_byte, put_all}
use Rattle.memory.specs.MemoryLaws.{MemoryLaws}
use Rattle.x86_meaning.specs.Run.{first_registers}
use Rattle.private_memory.specs.PrivateArea.{private_byte}
use Rattle.named_code.specs.declared.placed.Home.{Home}
use Rattle.named_code.specs.Items.{cell_or, cell_of}
use Rattle.named_code.specs.PlacedForm.{IsCell}
use Rattle.named_code.specs.CodeRun.{with_cells}
use Rattle.laid_code.specs.Beginning.{with_esp}
use Rattle.laid_image.specs.ImageLaws.{AreCells, esp_cell}
use Rattle.laid_image.proofs.NewMemory.{own_place}
use Rattle.laid_image.proofs.NameCells.{LiesBeside, byte_of_word, word_there, word_elsewhere, in_cell, in_none, at_word, cell_at, Fitting, none_stands, one_stands}

no_home : Home
no_home = record { register = None; cell = 0 }

cell_is : (homes : List Home) (n : ℕ) → n < length homes → cell_of homes n ≡ (get_or homes n no_home).cell
cell_is homes n h = ap cell_or (slice_get-get_or homes n no_home h)

-- ---- the second cell of esp is the first one, or that of name 4
pub data EspCell (homes : List Home) (cell : ℕ) : Type 0 where
  at_first : length homes ≤ 4 → cell ≡ 0x75000000 → EspCell homes cell
  at_name : 4 < length homes → cell ≡ cell_of homes 4 → EspCell homes cell

pub esp_cell_is : (homes : List Home) → EspCell homes (esp_cell homes)
esp_cell_is homes = by (let cases : (4 < length homes) ⊎ (length homes ≤ 4) = grind arith in cases)
  where
    by : (4 < length homes) ⊎ (length homes ≤ 4) → EspCell homes (esp_cell homes)
    by (inl more) = at_name more (ap (λ o. option_map_or (λ (h : Home). h.cell) o 0x75000000) (slice_get-get_or homes 4 no_home more) ∙ sym (cell_is homes 4 more))
    by (inr few) = at_first few (ap (λ o. option_map_or (λ (h : Home). h.cell) o 0x75000000) (slice_get_past homes 4 few))

-- ---- the cells of names
module _ (homes : List Home) (are : AreCells homes) where
  pub record Cell (n : ℕ) : Type 0 where
    pub from : 0x75220000 ≤ cell_of homes n
    pub to : cell_of homes n + 4 ≤ 0x75800000
    pub word : cell_of homes n % 4 ≡ 0

  pub cell_in : (n : ℕ) → n < length homes → Cell n
  cell_in n h =
      let is = cell_is homes n h in
      let one = are.cells n no_home h in
      let from = one.from in
      let to = one.to in
      let word = are.words n no_home h in
      record { from = omega (arith, is, from); to = omega (arith, is, to); word = omega (arith, is, word) }

  pub fitting : Fitting homes
  fitting = recursion_from_All (λ (h : Home). h.cell + 4 ≤ 4294967296) homes (All-weaker IsCell (λ (h : Home). h.cell + 4 ≤ 4294967296) (λ h cell. let to = cell.to in omega (arith, to)) homes are.cells)

  -- no address outside the cells' range lies in one
  pub all_beside : (a : ℕ) → (a < 0x75220000) ⊎ (0x75800000 ≤ a) → AllByRecursion (λ (h : Home). LiesBeside h.cell a) homes
  all_beside a out = recursion_from_All (λ (h : Home). LiesBeside h.cell a) homes (All-weaker IsCell (λ (h : Home). LiesBeside h.cell a) (λ h cell. by h.cell cell.from cell.to out) homes are.cells)
    where
      by : (cell : ℕ) → 0x75220000 ≤ cell → cell + 4 ≤ 0x75800000 → (a < 0x75220000) ⊎ (0x75800000 ≤ a) → LiesBeside cell a
      by cell from to (inl low) = inl (omega (arith, from, low))
      by cell from to (inr high) = inr (omega (arith, to, high))

  one_beside : (n : ℕ) → n < length homes → (a : ℕ) → AllByRecursion (λ (h : Home). LiesBeside h.cell a) homes → LiesBeside (cell_of homes n) a
  one_beside n h a each = subst (λ (c : ℕ). LiesBeside c a) (sym (cell_is homes n h)) (All-from_recursion (λ (x : Home). LiesBeside x.cell a) homes each n no_home h)

  others_beside : (n j : ℕ) → n < length homes → j < 4 → (a : ℕ) → a ≡ cell_of homes n + j → (i : ℕ) → i < length homes → i ≢ n → LiesBeside (cell_of homes i) a
  others_beside n j within few a is i less other = elim (at_word (cell_of homes i) a) [
    | inl beside ↦ beside
    | inr there ↦
        let one = (cell_in n within).word in
        let two = (cell_in i less).word in
        let same : cell_of homes i ≡ cell_of homes n = omega (arith, is, few, there.0, there.1, one, two) in
        absurd (other (are.apart i n less within same))
  ]

  -- ---- both sides at an address
  module _ (laws : MemoryLaws) (esp0 : ℕ) (cell : ℕ) (esp : EspCell homes cell) (m n : Memory) where
    pub cell_from : 0x75000000 ≤ cell
    cell_from = elim esp [ at_first few e ↦ omega (arith, e) | at_name more e ↦ let from = (cell_in 4 more).from in omega (arith, e, from) ]

    pub cell_to : cell + 4 ≤ 0x75800000
    cell_to = elim esp [ at_first few e ↦ omega (arith, e) | at_name more e ↦ let to = (cell_in 4 more).to in omega (arith, e, to) ]

    abbrev both : Memory
    both = put_all cell (word_list (word_of esp0)) (put_all 0x75000000 (word_list (word_of esp0)) n)

    both_beside : (a : ℕ) → LiesBeside cell a → LiesBeside 0x75000000 a → both a ≡ n a
    both_beside a beside first =
        word_elsewhere laws cell (let to = cell_to in omega (arith, to)) (word_of esp0) (put_all 0x75000000 (word_list (word_of esp0)) n) a beside
        ∙ word_elsewhere laws 0x75000000 (omega arith) (word_of esp0) n a first

    -- outside the range of the cells
    pub same_outside : (a : ℕ) → (a < 0x75000000) ⊎ (0x75800000 ≤ a) → m a ≡ n a → with_cells esp0 homes m a ≡ with_esp cell esp0 n a
    unfolding with_cells with_esp
    same_outside a out same = none_stands laws esp0 homes 0 m a fitting (all_beside a (wider out)) ∙ (same ∙ sym (both_beside a (beside_esp out) (beside_first out)))
      where
        wider : (a < 0x75000000) ⊎ (0x75800000 ≤ a) → (a < 0x75220000) ⊎ (0x75800000 ≤ a)
        wider (inl low) = inl (omega (arith, low))
        wider (inr high) = inr high

        beside_esp : (a < 0x75000000) ⊎ (0x75800000 ≤ a) → LiesBeside cell a
        beside_esp (inl low) = let from = cell_from in inl (omega (arith, low, from))
        beside_esp (inr high) = let to = cell_to in inr (omega (arith, high, to))

        beside_first : (a < 0x75000000) ⊎ (0x75800000 ≤ a) → LiesBeside 0x75000000 a
        beside_first (inl low) = inl low
        beside_first (inr high) = inr (omega (arith, high))

    module _ (a : ℕ) (left : m a ≡ Some (own_place (private_byte esp0 a))) (right : n a ≡ Some (own_place (Known 0))) (from : 0x75000000 ≤ a) where
      -- in the cell of a name
      in_name : (k j : ℕ) → k < length homes → j < 4 → a ≡ cell_of homes k + j → with_cells esp0 homes m a ≡ Some (own_place (byte_of_word (first_registers esp0 k) j))
      unfolding with_cells
      in_name k j within few is =
          let counted : 0 + k ≡ k = omega arith in
          one_stands laws esp0 homes 0 k j m a fitting within few is (others_beside k j within few a is)
          ∙ (ap (with_byte (byte_of_word (first_registers esp0 (0 + k)) j)) left
          ∙ ap (λ r. Some (own_place (byte_of_word (first_registers esp0 r) j))) counted)

      zero_byte : (j : ℕ) → j < 4 → byte_of_word (word_of 0) j ≡ Known 0
      unfolding word_of
      zero_byte zero h = refl
      zero_byte (suc zero) h = refl
      zero_byte (suc (suc zero)) h = refl
      zero_byte (suc (suc (suc zero))) h = refl
      zero_byte (suc (suc (suc (suc j)))) h = absurd (omega (arith, h))

      behind_first : (k j : ℕ) → k < length homes → a ≡ cell_of homes k + j → LiesBeside 0x75000000 a
      behind_first k j within is = let low = (cell_in k within).from in inr (omega (arith, is, low))

      -- of name 4, which is that of esp
      at_esp : (j : ℕ) → 4 < length homes → j < 4 → a ≡ cell_of homes 4 + j → both a ≡ Some (own_place (byte_of_word (word_of esp0) j))
      at_esp j more few is = elim esp [
        | at_first none e ↦ absurd (omega (arith, more, none))
        | at_name named e ↦
            let word = word_of esp0 in
            let under : Memory = put_all 0x75000000 (word_list word) n in
            let here : a ≡ cell + j = omega (arith, is, e) in
            subst (λ x. put_all cell (word_list word) under x ≡ with_byte (byte_of_word word j) (under x)) (sym here) (word_there laws cell (let to = cell_to in omega (arith, to)) word under j few)
            ∙ ap (with_byte (byte_of_word word j)) (word_elsewhere laws 0x75000000 (omega arith) word n a (behind_first 4 j named is) ∙ right)
      ]

      beside_named : (k j : ℕ) → k < length homes → j < 4 → a ≡ cell_of homes k + j → k ≢ 4 → LiesBeside cell a
      beside_named k j within few is other = elim esp [
        | at_first none e ↦ subst (λ c. LiesBeside c a) (sym e) (behind_first k j within is)
        | at_name named e ↦ subst (λ c. LiesBeside c a) (sym e) (others_beside k j within few a is 4 named (λ same. other (sym same)))
      ]

      same_named : (k j : ℕ) → k < length homes → j < 4 → a ≡ cell_of homes k + j → with_cells esp0 homes m a ≡ with_esp cell esp0 n a
      unfolding with_esp
      same_named k j within few is = by (let cases : (k ≡ 4) ⊎ (k ≢ 4) = grind arith in cases)
        where
          by : (k ≡ 4) ⊎ (k ≢ 4) → with_cells esp0 homes m a ≡ both a
          by (inl four) =
              in_name k j within few is
              ∙ (ap (λ r. Some (own_place (byte_of_word (first_registers esp0 r) j))) four
              ∙ sym (at_esp j (omega (arith, within, four)) few (is ∙ ap (λ r. cell_of homes r + j) four)))
          by (inr other) =
              in_name k j within few is
              ∙ (ap (λ t. Some (own_place (byte_of_word (cond t (word_of esp0) (word_of 0)) j))) (ne_eqb k 4 other)
              ∙ (ap (λ b. Some (own_place b)) (zero_byte j few)
              ∙ sym (both_beside a (beside_named k j within few is other) (behind_first k j within is) ∙ right)))

      -- in the first cell
      first_byte : (j : ℕ) → j < 4 → a ≡ 0x75000000 + j → private_byte esp0 a ≡ byte_of_word (word_of esp0) j
      first_byte j few is =
          let index : a - 0x75000000 ≡ j = omega (arith, is) in
          ap (λ b. cond b (get_or (word_list (word_of esp0)) (a - 0x75000000) (Known 0)) (Known 0)) (le-leb 0x75000000 a from)
          ∙ (ap (λ i. get_or (word_list (word_of esp0)) i (Known 0)) index ∙ get_or_default (word_list (word_of esp0)) j (Known 0) Unspecified few)

      both_first : (j : ℕ) → j < 4 → a ≡ 0x75000000 + j → both a ≡ Some (own_place (byte_of_word (word_of esp0) j))
      both_first j few is = elim esp [
        | at_first none e ↦
            let here : a ≡ cell + j = omega (arith, is, e) in
            subst (λ x. put_all cell (word_list (word_of esp0)) under x ≡ with_byte (byte_of_word (word_of esp0) j) (under x)) (sym here) (word_there laws cell (let to = cell_to in omega (arith, to)) (word_of esp0) under j few)
            ∙ ap (with_byte (byte_of_word (word_of esp0) j)) one
        | at_name named e ↦
            let low = (cell_in 4 named).from in
            word_elsewhere laws cell (let to = cell_to in omega (arith, to)) (word_of esp0) under a (inl (omega (arith, is, few, low, e))) ∙ one
      ]
        where
          under : Memory
          under = put_all 0x75000000 (word_list (word_of esp0)) n

          one : under a ≡ Some (own_place (byte_of_word (word_of esp0) j))
          one =
              subst (λ x. under x ≡ with_byte (byte_of_word (word_of esp0) j) (n x)) (sym is) (word_there laws 0x75000000 (omega arith) (word_of esp0) n j few)
              ∙ ap (with_byte (byte_of_word (word_of esp0) j)) right

      -- behind it, and in no cell of a name
      later_byte : 0x75000004 ≤ a → private_byte esp0 a ≡ Known 0
      later_byte later =
          ap (λ b. cond b (get_or (word_list (word_of esp0)) (a - 0x75000000) (Known 0)) (Known 0)) (le-leb 0x75000000 a from)
          ∙ get_or_past (word_list (word_of esp0)) (a - 0x75000000) (Known 0) (omega (arith, later))

      beside_esp : AllByRecursion (λ (h : Home). LiesBeside h.cell a) homes → 0x75000004 ≤ a → LiesBeside cell a
      beside_esp each later = elim esp [
        | at_first none e ↦ inr (omega (arith, e, later))
        | at_name named e ↦ subst (λ c. LiesBeside c a) (sym e) (one_beside 4 named a each)
      ]

      same_unnamed : AllByRecursion (λ (h : Home). LiesBeside h.cell a) homes → with_cells esp0 homes m a ≡ with_esp cell esp0 n a
      unfolding with_cells with_esp
      same_unnamed each = by (let cases : (a < 0x75000004) ⊎ (0x75000004 ≤ a) = grind arith in cases)
        where
          by : (a < 0x75000004) ⊎ (0x75000004 ≤ a) → with_cells esp0 homes m a ≡ both a
          by (inl first) =
              let j : ℕ = a - 0x75000000 in
              let few : j < 4 = omega (arith, from, first) in
              let is : a ≡ 0x75000000 + j = omega (arith, from) in
              none_stands laws esp0 homes 0 m a fitting each ∙ (left ∙ (ap (λ b. Some (own_place b)) (first_byte j few is) ∙ sym (both_first j few is)))
          by (inr later) =
              none_stands laws esp0 homes 0 m a fitting each
              ∙ (left ∙ (ap (λ b. Some (own_place b)) (later_byte later) ∙ sym (both_beside a (beside_esp each later) (inr later) ∙ right)))

      pub same_cells : with_cells esp0 homes m a ≡ with_esp cell esp0 n a
      same_cells = elim (cell_at homes a) [ in_cell k j within few is ↦ same_named k j within few is | in_none each ↦ same_unnamed each ]
