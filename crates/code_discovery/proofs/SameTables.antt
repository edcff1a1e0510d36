-- Tables of one jump.
use Rattle.std.proofs.Common.{◌≡◌, ℕ, suc, ◌+◌, ◌*◌, ◌<◌, ◌≤◌, List, [], ◌∷◌, length, get_or, map, Contains, Option, Some, refl, sym, ap, ◌∙◌, inl, inr, arith}
use Rattle.std.specs.List.Sorted.{IsStrictlyIncreasing}
use Rattle.std.proofs.lemmas.Bool.{cases_lt}
use Rattle.std.proofs.lemmas.List.{get_or-map, length-map, get_or_default}
use Rattle.std.proofs.lemmas.List.Kept.{AllPairs-from_increasing}
use Rattle.image.specs.declared.image.Image.{Image}
use Rattle.x86_types.specs.declared.operand.Reg.{Reg}
use Rattle.x86_code.specs.Code.{code_of}
use Rattle.plan_types.specs.declared.place.Place.{Place}
use Rattle.plan_types.specs.declared.table.Table.{Table}
use Rattle.plan_types.specs.Tables.{constant_word, table_jump}
use Rattle.plan_types.specs.RunLaws.{RunLaws, IsTableOfRun}
use Rattle.plan_types.specs.FoundCode.{run_in, IsTableFrom, IsApart}
use Rattle.code_discovery.proofs.Settle.{same_place}

-- lists of numbers that are equal at each index
pub same_numbers : (xs ys : List ℕ) → length xs ≡ length ys → ((k : ℕ) → k < length xs → get_or xs k 0 ≡ get_or ys k 0) → xs ≡ ys
same_numbers [] [] long same = refl
same_numbers [] (y ∷ ys) long same = absurd (omega arith)
same_numbers (x ∷ xs) [] long same = absurd (omega arith)
same_numbers (x ∷ xs) (y ∷ ys) long same =
    let first : x ≡ y = same 0 (omega arith) in
    let rest = same_numbers xs ys (omega arith) (λ k low. same (suc k) (omega arith)) in
    cc

table_by : (a b c d : ℕ) (xs ys : List ℕ) → a ≡ b → c ≡ d → xs ≡ ys → ◌≡◌ {A = Table} (record { jump = a; start = c; targets = xs }) (record { jump = b; start = d; targets = ys })
table_by a b c d xs ys e f g = cc

module _ (image : Image) (laws : RunLaws) (G H : ℕ → Type 0) (t u : Table) (ft : IsTableFrom image G t) (fu : IsTableFrom image H u) (jump : t.jump ≡ u.jump) where
  of_t : IsTableOfRun image (run_in image ft.n ft.from) t
  of_t = laws.tables image (run_in image ft.n ft.from) t ft.table

  of_u : IsTableOfRun image (run_in image fu.n fu.from) u
  of_u = laws.tables image (run_in image fu.n fu.from) u fu.table

  same_jump : of_t.place ≡ of_u.place
  same_jump =
      same_place (code_of image) of_t.place of_u.place (of_t.at ∙ (jump ∙ sym of_u.at))
      (laws.stands image ft.n ft.from of_t.place of_t.there) (laws.stands image fu.n fu.from of_u.place of_u.there)

  pub same_start : t.start ≡ u.start
  same_start =
      let both : ◌≡◌ {A = Option (Reg × ℕ)} (Some (of_t.index, t.start)) (Some (of_u.index, u.start)) = sym of_t.jump ∙ (ap (λ (p : Place). table_jump p.instr) same_jump ∙ of_u.jump) in
      let pair : ◌≡◌ {A = Reg × ℕ} (of_t.index, t.start) (of_u.index, u.start) = cc in
      ap (λ (r : Reg × ℕ). r.1) pair

  same_word : (k : ℕ) → k < length t.targets → k < length u.targets → get_or t.targets k 0 ≡ get_or u.targets k 0
  same_word k in_t in_u =
      let both : Some (get_or t.targets k 0) ≡ Some (get_or u.targets k 0) = sym (of_t.words k in_t) ∙ (ap (λ n. constant_word image (n + 4 * k)) same_start ∙ of_u.words k in_u) in
      cc

  pub same_table : length t.targets ≡ length u.targets → t ≡ u
  same_table long = table_by t.jump u.jump t.start u.start t.targets u.targets jump same_start (same_numbers t.targets u.targets long (λ k low. same_word k low (omega arith)))

  -- a word apart from the longer one is apart from the shorter one
  pub apart_from_shorter : (at : ℕ) → length t.targets ≤ length u.targets → IsApart at u → IsApart at t
  apart_from_shorter at short (inl before) = inl (let s = same_start in omega arith)
  apart_from_shorter at short (inr behind) = inr (let s = same_start in omega arith)

-- ---- of tables that ascend by their jumps one has a jump
below : (ts : List Table) → IsStrictlyIncreasing (map (λ (t : Table). t.jump) ts) → (i j : ℕ) (t u : Table) → i < j → j < length ts → get_or ts i t ≡ t → get_or ts j u ≡ u → t.jump < u.jump
below ts up i j t u before low ti uj =
    let long : length (map (λ (t : Table). t.jump) ts) ≡ length ts = length-map ts (λ (t : Table). t.jump) in
    let h = AllPairs-from_increasing (map (λ (t : Table). t.jump) ts) up i j 0 before (omega arith) in
    let ei : get_or (map (λ (t : Table). t.jump) ts) i 0 ≡ t.jump = get_or-map (λ (t : Table). t.jump) ts i t 0 (omega arith) ∙ ap (λ (v : Table). v.jump) ti in
    let ej : get_or (map (λ (t : Table). t.jump) ts) j 0 ≡ u.jump = get_or-map (λ (t : Table). t.jump) ts j u 0 low ∙ ap (λ (v : Table). v.jump) uj in
    omega (arith, h, ei, ej)

pub one_of_jump : (ts : List Table) → IsStrictlyIncreasing (map (λ (t : Table). t.jump) ts) → (t u : Table) → Contains ts t → Contains ts u → t.jump ≡ u.jump → t ≡ u
one_of_jump ts up t u ct cu same = elim (cases_lt ct.0 cu.0) [
  | inl less ↦ let h = below ts up ct.0 cu.0 t u less cu.1 ct.2 cu.2 in absurd (omega arith)
  | inr more ↦ elim (cases_lt cu.0 ct.0) [
    | inl less ↦ let h = below ts up cu.0 ct.0 u t less ct.1 cu.2 ct.2 in absurd (omega arith)
    | inr equal ↦
        let at : ct.0 ≡ cu.0 = omega arith in
        sym ct.2 ∙ (get_or_default ts ct.0 t u ct.1 ∙ (ap (λ k. get_or ts k u) at ∙ cu.2))
  ]
]
