-- What stands in registers and in cells after the moves.
use Rattle.std.proofs.Common.{◌≡◌, ◌≢◌, ◌⊎◌, inl, inr, ℕ, ◌<◌, ◌==◌, Bool, true, false, cond, List, [], ◌∷◌, Option, refl, sym, ap, ◌∙◌, subst, arith}
use Rattle.std.proofs.lemmas.Bool.Decides.{eqb_tells}
use Rattle.x86_values.specs.declared.word.Word.{Word}
use Rattle.x86_values.specs.Words.{padded, word_list}
use Rattle.memory.specs.Memory.{Memory, Store, AreApart, bytes_at, put_all}
use Rattle.memory.specs.MemoryLaws.{MemoryLaws}
use Rattle.x86_types.specs.Numbers.{number_of_reg}
use Rattle.x86_meaning.specs.Registers.{Registers, with_register}
use Rattle.private_memory.specs.PrivateArea.{HasPrivateArea}
use Rattle.private_memory.specs.PrivateAreaLaws.{PrivateAccessLaws}
use Rattle.named_code.specs.declared.slot.Slot.{Slot}
use Rattle.named_code.specs.declared.slot.Slot.TheVariants.{Fixed, Name}
use Rattle.named_code.specs.declared.named.VInstr.{VInstr}
use Rattle.named_code.specs.Running.{CodeState}
use Rattle.name_cells.specs.Cells.{cell_at}
use Rattle.name_cells.specs.Holders.{has_byte_field, last_name, holder}
use Rattle.name_cells.specs.CanBePlaced.{HasName, IsInstrPlaceable}
use Rattle.name_cells.specs.Pairs.{HoldAlike}
use Rattle.name_cells.specs.MovedNames.{StandsIn, fetched, kept, with_fetched, with_kept, HaveCells, StandsBefore}
use Rattle.name_cells.proofs.PairedPlaces.{clash, same_name}
use Rattle.name_cells.proofs.CellMoves.{area_after}

-- ---- registers
pub set_there : (n : ℕ) (w : Word) (r : Registers) (k : ℕ) → k ≡ n → with_register n w r k ≡ w
unfolding with_register
set_there n w r k e = by (eqb_tells k n)
  where
    by : (((k == n) ≡ true) × (k ≡ n)) ⊎ (((k == n) ≡ false) × (k ≡ n → ⊥)) → cond (k == n) w (r k) ≡ w
    by (inl h) = ap (λ (b : Bool). cond b w (r k)) h.0
    by (inr h) = absurd (h.1 e)

pub set_elsewhere : (n : ℕ) (w : Word) (r : Registers) (k : ℕ) → k ≢ n → with_register n w r k ≡ r k
unfolding with_register
set_elsewhere n w r k e = by (eqb_tells k n)
  where
    by : (((k == n) ≡ true) × (k ≡ n)) ⊎ (((k == n) ≡ false) × (k ≡ n → ⊥)) → cond (k == n) w (r k) ≡ r k
    by (inl h) = absurd (e h.1)
    by (inr h) = ap (λ (b : Bool). cond b w (r k)) h.0

module _ (byte : Bool) (last : Option ℕ) where
  abbrev held : ℕ → ℕ
  held n = number_of_reg (holder byte last n)

  -- a register that holds no name stays
  pub others : (slots : List Slot) (t : CodeState) (k : ℕ) → ((n : ℕ) → HasName n slots → k ≢ held n) → (with_fetched byte last slots t).cpu.regs k ≡ t.cpu.regs k
  others [] t k h = refl
  others (Fixed r ∷ slots) t k h = others slots t k (λ n g. h n (inr g))
  others (Name m ∷ slots) t k h = others slots (fetched m (holder byte last m) t) k (λ n g. h n (inr g)) ∙ set_elsewhere (held m) _ t.cpu.regs k (h m (inl refl))

  -- names with one register are one
  abbrev Apart : ℕ → List Slot → Type 0
  Apart n slots = (m : ℕ) → HasName m slots → held n ≡ held m → n ≡ m

  stays : (slots : List Slot) (t : CodeState) (n : ℕ) → Apart n slots → t.cpu.regs (held n) ≡ padded (bytes_at t.memory (cell_at n) 4) → (with_fetched byte last slots t).cpu.regs (held n) ≡ padded (bytes_at t.memory (cell_at n) 4)
  stays [] t n a h = h
  stays (Fixed r ∷ slots) t n a h = stays slots t n (λ m g. a m (inr g)) h
  stays (Name m ∷ slots) t n a h = stays slots (fetched m (holder byte last m) t) n (λ k g. a k (inr g)) (by (eqb_tells (held n) (held m)))
    where
      by : (((held n == held m) ≡ true) × (held n ≡ held m)) ⊎ (((held n == held m) ≡ false) × (held n ≡ held m → ⊥)) → (fetched m (holder byte last m) t).cpu.regs (held n) ≡ padded (bytes_at t.memory (cell_at n) 4)
      by (inl e) = set_there (held m) _ t.cpu.regs (held n) e.1 ∙ ap (λ (k : ℕ). padded (bytes_at t.memory (cell_at k) 4)) (sym (a m (inl refl) e.1))
      by (inr e) = set_elsewhere (held m) _ t.cpu.regs (held n) e.1 ∙ h

  number_of : Slot → ℕ
  number_of (Fixed r) = 0
  number_of (Name n) = n

  is_name : Slot → Bool
  is_name (Fixed r) = false
  is_name (Name n) = true

  names_there : (slots : List Slot) (t : CodeState) (n : ℕ) → Apart n slots → HasName n slots → (with_fetched byte last slots t).cpu.regs (held n) ≡ padded (bytes_at t.memory (cell_at n) 4)
  unfolding number_of is_name
  names_there [] t n a h = absurd h
  names_there (Fixed r ∷ slots) t n a (inl e) = absurd (let f : is_name (Fixed r) ≡ is_name (Name n) = ap is_name e in cc)
  names_there (Fixed r ∷ slots) t n a (inr h) = names_there slots t n (λ m g. a m (inr g)) h
  names_there (Name m ∷ slots) t n a (inl e) =
      let f : m ≡ n = ap number_of e in
      stays slots (fetched m (holder byte last m) t) n (λ k g. a k (inr g)) (set_there (held m) _ t.cpu.regs (held n) (ap held (sym f)) ∙ ap (λ (k : ℕ). padded (bytes_at t.memory (cell_at k) 4)) f)
  names_there (Name m ∷ slots) t n a (inr h) = names_there slots (fetched m (holder byte last m) t) n (λ k g. a k (inr g)) h

pub fetched_alike : (x : VInstr) (r : Registers) (t : CodeState) → IsInstrPlaceable x → StandsBefore x r t → HoldAlike x r (with_fetched (has_byte_field x.instr) (last_name x.slots) x.slots t).cpu.regs
fetched_alike x r t h s = record {
  registers = λ k low below. s.registers k low below ∙ sym (others (has_byte_field x.instr) (last_name x.slots) x.slots t k (λ n g e. clash x h k n e low below));
  names = λ n g. ap padded (sym (s.names n g)) ∙ sym (names_there (has_byte_field x.instr) (last_name x.slots) x.slots t n (λ m k e. same_name x h n m g k e) g);
}

-- ---- cells
module _ (memories : MemoryLaws) (areas : PrivateAccessLaws) where
  cells_apart : (n m : ℕ) → n < 1540096 → m < 1540096 → n ≢ m → AreApart (cell_at n) 4 (cell_at m) 4
  cells_apart n m low below other = by (order n m other)
    where
      order : (n m : ℕ) → n ≢ m → (n < m) ⊎ (m < n)
      order n m e = grind (arith, e)

      by : (n < m) ⊎ (m < n) → AreApart (cell_at n) 4 (cell_at m) 4
      by (inl l) = memories.apart_in_order (cell_at n) 4 (cell_at m) 4 (omega (arith, l)) (omega (arith, low, below))
      by (inr l) = memories.apart_symmetric (cell_at m) 4 (cell_at n) 4 (memories.apart_in_order (cell_at m) 4 (cell_at n) 4 (omega (arith, l)) (omega (arith, low, below)))

  pub put_there : (n : ℕ) (w : Word) (m : Memory) → n < 1540096 → HasPrivateArea m → StandsIn (put_all (cell_at n) (word_list w) m) n w
  put_there n w m low h = memories.stored_is_loaded Store (cell_at n) (word_list w) m (omega arith) (areas.allows_area Store m (cell_at n) 4 h (omega arith) (omega (arith, low)))

  pub put_elsewhere : (n k : ℕ) (w v : Word) (m : Memory) → n < 1540096 → k < 1540096 → n ≢ k → StandsIn m n v → StandsIn (put_all (cell_at k) (word_list w) m) n v
  put_elsewhere n k w v m low below other h = memories.bytes_elsewhere (cell_at k) (word_list w) m (cell_at n) 4 (cells_apart n k low below other) ∙ h

  module _ (byte : Bool) (last : Option ℕ) where
    cell_stays : (slots : List Slot) (t : CodeState) (n : ℕ) → n < 1540096 → HaveCells 1540096 slots → HasPrivateArea t.memory → StandsIn t.memory n (t.cpu.regs (number_of_reg (holder byte last n))) → StandsIn (with_kept byte last slots t).memory n (t.cpu.regs (number_of_reg (holder byte last n)))
    cell_stays [] t n low c h s = s
    cell_stays (Fixed r ∷ slots) t n low c h s = cell_stays slots t n low (λ m g. c m (inr g)) h s
    cell_stays (Name m ∷ slots) t n low c h s =
        cell_stays slots (kept m (holder byte last m) t) n low (λ k g. c k (inr g)) (area_after memories areas (cell_at m) _ t.memory h) (by (eqb_tells n m))
      where
        by : (((n == m) ≡ true) × (n ≡ m)) ⊎ (((n == m) ≡ false) × (n ≡ m → ⊥)) → StandsIn (kept m (holder byte last m) t).memory n (t.cpu.regs (number_of_reg (holder byte last n)))
        by (inl e) = subst (λ (k : ℕ). StandsIn (kept k (holder byte last k) t).memory n (t.cpu.regs (number_of_reg (holder byte last n)))) e.1 (put_there n _ t.memory low h)
        by (inr e) = put_elsewhere n m _ _ t.memory low (c m (inl refl)) e.1 s

    cells_there : (slots : List Slot) (t : CodeState) (n : ℕ) → HaveCells 1540096 slots → HasPrivateArea t.memory → HasName n slots → StandsIn (with_kept byte last slots t).memory n (t.cpu.regs (number_of_reg (holder byte last n)))
    unfolding number_of is_name
    cells_there [] t n c h g = absurd g
    cells_there (Fixed r ∷ slots) t n c h (inl e) = absurd (let f : is_name byte last (Fixed r) ≡ is_name byte last (Name n) = ap (is_name byte last) e in cc)
    cells_there (Fixed r ∷ slots) t n c h (inr g) = cells_there slots t n (λ m k. c m (inr k)) h g
    cells_there (Name m ∷ slots) t n c h (inl e) =
        let f : m ≡ n = ap (number_of byte last) e in
        let low : m < 1540096 = c m (inl refl) in
        subst (λ (k : ℕ). StandsIn (with_kept byte last slots (kept m (holder byte last m) t)).memory k (t.cpu.regs (number_of_reg (holder byte last k)))) f
        (cell_stays slots (kept m (holder byte last m) t) m low (λ k g. c k (inr g)) (area_after memories areas (cell_at m) _ t.memory h) (put_there m _ t.memory low h))
    cells_there (Name m ∷ slots) t n c h (inr g) = cells_there slots (kept m (holder byte last m) t) n (λ k l. c k (inr l)) (area_after memories areas (cell_at m) _ t.memory h) g

    cells_elsewhere : (slots : List Slot) (t : CodeState) (n : ℕ) (w : Word) → HaveCells 1540096 slots → n < 1540096 → ((m : ℕ) → HasName m slots → m ≢ n) → StandsIn t.memory n w → StandsIn (with_kept byte last slots t).memory n w
    cells_elsewhere [] t n w c low other h = h
    cells_elsewhere (Fixed r ∷ slots) t n w c low other h = cells_elsewhere slots t n w (λ m g. c m (inr g)) low (λ m g. other m (inr g)) h
    cells_elsewhere (Name m ∷ slots) t n w c low other h =
        cells_elsewhere slots (kept m (holder byte last m) t) n w (λ k g. c k (inr g)) low (λ k g. other k (inr g)) (put_elsewhere n m _ w t.memory low (c m (inl refl)) (λ e. other m (inl refl) (sym e)) h)

  pub kept_there : (x : VInstr) (t : CodeState) (n : ℕ) → IsInstrPlaceable x → HaveCells 1540096 x.slots → HasPrivateArea t.memory → HasName n x.slots
      → StandsIn (with_kept (has_byte_field x.instr) (last_name x.slots) x.slots t).memory n (t.cpu.regs (number_of_reg (holder (has_byte_field x.instr) (last_name x.slots) n)))
  kept_there x t n p c h g = cells_there (has_byte_field x.instr) (last_name x.slots) x.slots t n c h g

  pub kept_elsewhere : (x : VInstr) (t : CodeState) (n : ℕ) (w : Word) → HaveCells 1540096 x.slots → n < 1540096 → ((m : ℕ) → HasName m x.slots → m ≢ n) → StandsIn t.memory n w
      → StandsIn (with_kept (has_byte_field x.instr) (last_name x.slots) x.slots t).memory n w
  kept_elsewhere x t n w c low other h = cells_elsewhere (has_byte_field x.instr) (last_name x.slots) x.slots t n w c low other h
