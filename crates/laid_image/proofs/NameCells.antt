-- What stands at an address once each name stands in its cell.
use Rattle.std.proofs.Common.{◌≡◌, ◌≢◌, ◌⊎◌, ℕ, zero, suc, ◌+◌, ◌-◌, ◌<◌, ◌≤◌, List, [], ◌∷◌, length, get_or, inl, inr, refl, sym, ap, ◌∙◌, subst, arith}
use Rattle.std.specs.List.{AllByRecursion}
use Rattle.x86_values.specs.declared.byte.Byte.{Byte}
use Rattle.x86_values.specs.declared.byte.Byte.TheVariants.{Unspecified}
use Rattle.x86_values.specs.declared.word.Word.{Word}
use Rattle.x86_values.specs.Words.{word_list}
use Rattle.memory.specs.Memory.{Memory, wrapped, with_byte, put_all}
use Rattle.memory.specs.MemoryLaws.{MemoryLaws}
use Rattle.x86_meaning.specs.Run.{first_registers}
use Rattle.named_code.specs.declared.placed.Home.{Home}
use Rattle.named_code.specs.Items.{cell_of}
use Rattle.named_code.specs.CodeRun.{with_cells_from}

-- ---- a word at a place
abbrev pub LiesBeside : ℕ → ℕ → Type 0
LiesBeside cell a = (a < cell) ⊎ (cell + 4 ≤ a)

abbrev pub byte_of_word : Word → ℕ → Byte
byte_of_word w j = get_or (word_list w) j Unspecified

module _ (laws : MemoryLaws) (cell : ℕ) (fits : cell + 4 ≤ 4294967296) (w : Word) (m : Memory) where
  pub word_there : (j : ℕ) → j < 4 → put_all cell (word_list w) m (cell + j) ≡ with_byte (byte_of_word w j) (m (cell + j))
  word_there j h =
      let here : wrapped (cell + j) ≡ cell + j = omega (arith, fits, h) in
      subst (λ a. put_all cell (word_list w) m a ≡ with_byte (byte_of_word w j) (m a)) here (laws.put_all_there cell (word_list w) m j (omega arith) h)

  pub word_elsewhere : (a : ℕ) → LiesBeside cell a → put_all cell (word_list w) m a ≡ m a
  word_elsewhere a beside = laws.put_all_elsewhere cell (word_list w) m a (λ k h e. apart k h e beside)
    where
      apart : (k : ℕ) → k < 4 → a ≡ wrapped (cell + k) → LiesBeside cell a → ⊥
      apart k h e (inl before) = omega (arith, fits, h, e, before)
      apart k h e (inr behind) = omega (arith, fits, h, e, behind)

-- ---- an address lies in the cell of a name, or beside all cells
pub data CellAt (homes : List Home) (a : ℕ) : Type 0 where
  in_cell : (n j : ℕ) → n < length homes → j < 4 → a ≡ cell_of homes n + j → CellAt homes a
  in_none : AllByRecursion (λ (h : Home). LiesBeside h.cell a) homes → CellAt homes a

pub at_word : (cell a : ℕ) → LiesBeside cell a ⊎ ((cell ≤ a) × (a < cell + 4))
at_word cell a = grind arith

behind_first : (h : Home) (more : List Home) (a : ℕ) → LiesBeside h.cell a → CellAt more a → CellAt (h ∷ more) a
behind_first h more a beside (in_cell n j within few is) = in_cell (suc n) j (omega (arith, within)) few is
behind_first h more a beside (in_none each) = in_none (beside, each)

pub cell_at : (homes : List Home) (a : ℕ) → CellAt homes a
cell_at [] a = in_none tt
cell_at (h ∷ more) a = elim (at_word h.cell a) [
  | inl beside ↦ behind_first h more a beside (cell_at more a)
  | inr there ↦ in_cell 0 (a - h.cell) (omega arith) (omega (arith, there.0, there.1)) (omega (arith, there.0))
]

-- ---- cells below the end of addresses
abbrev pub Fitting : List Home → Type 0
Fitting homes = AllByRecursion (λ (h : Home). h.cell + 4 ≤ 4294967296) homes

module _ (laws : MemoryLaws) (esp0 : ℕ) where
  pub none_stands : (homes : List Home) (k : ℕ) (m : Memory) (a : ℕ) → Fitting homes → AllByRecursion (λ (h : Home). LiesBeside h.cell a) homes → with_cells_from esp0 k homes m a ≡ m a
  none_stands [] k m a fits beside = refl
  none_stands (h ∷ more) k m a fits beside =
      none_stands more (k + 1) (put_all h.cell (word_list (first_registers esp0 k)) m) a fits.1 beside.1
      ∙ word_elsewhere laws h.cell fits.0 (first_registers esp0 k) m a beside.0

  -- in the cell of name n, where no other name has it, stand the bytes of its word
  abbrev IsOfOne : List Home → ℕ → ℕ → Type 0
  IsOfOne homes n a = (i : ℕ) → i < length homes → i ≢ n → LiesBeside (cell_of homes i) a

  rest_beside : (more : List Home) (a : ℕ) → ((i : ℕ) → i < length more → LiesBeside (cell_of more i) a) → AllByRecursion (λ (h : Home). LiesBeside h.cell a) more
  rest_beside [] a h = tt
  rest_beside (x ∷ more) a h = (h 0 (omega arith), rest_beside more a (λ i within. h (suc i) (omega (arith, within))))

  pub one_stands : (homes : List Home) (k n j : ℕ) (m : Memory) (a : ℕ) → Fitting homes → n < length homes → j < 4 → a ≡ cell_of homes n + j → IsOfOne homes n a
      → with_cells_from esp0 k homes m a ≡ with_byte (byte_of_word (first_registers esp0 (k + n)) j) (m a)
  one_stands [] k n j m a fits within few is one = absurd (omega (arith, within))
  one_stands (h ∷ more) k zero j m a fits within few is one =
      let same : k ≡ k + 0 = omega arith in
      let there : put_all h.cell (word_list (first_registers esp0 k)) m a ≡ with_byte (byte_of_word (first_registers esp0 k) j) (m a) =
      subst (λ x. put_all h.cell (word_list (first_registers esp0 k)) m x ≡ with_byte (byte_of_word (first_registers esp0 k) j) (m x)) (sym is) (word_there laws h.cell fits.0 (first_registers esp0 k) m j few) in
      none_stands more (k + 1) (put_all h.cell (word_list (first_registers esp0 k)) m) a fits.1 (rest_beside more a (λ i less. one (suc i) (omega (arith, less)) (λ e. omega (arith, e))))
      ∙ (there ∙ ap (λ r. with_byte (byte_of_word (first_registers esp0 r) j) (m a)) same)
  one_stands (h ∷ more) k (suc n) j m a fits within few is one =
      let same : k + 1 + n ≡ k + suc n = omega arith in
      one_stands more (k + 1) n j (put_all h.cell (word_list (first_registers esp0 k)) m) a fits.1 (omega (arith, within)) few is (λ i less other. one (suc i) (omega (arith, less)) (λ e. other (omega (arith, e))))
      ∙ (ap (λ o. with_byte (byte_of_word (first_registers esp0 (k + 1 + n)) j) o) (word_elsewhere laws h.cell fits.0 (first_registers esp0 k) m a (one 0 (omega arith) (λ e. omega (arith, e))))
      ∙ ap (λ r. with_byte (byte_of_word (first_registers esp0 r) j) (m a)) same)
