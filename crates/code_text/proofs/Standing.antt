-- Instructions that stand where their best spellings do.
use Rattle.std.proofs.Common.{◌≡◌, ◌↔◌, ℕ, suc, ◌+◌, ◌-◌, ◌%◌, ◌<◌, true, List, [], ◌∷◌, ◌++◌, length, drop, nat_lt, None, refl, sym, ap, ◌∙◌, subst, append_assoc, arith}
use Rattle.std.proofs.lemmas.Bool.{lt-ltb}
use Rattle.std.proofs.lemmas.List.{length-append}
use Rattle.memory.specs.Memory.{wrapped}
use Rattle.x86_types.specs.declared.operation.Cond.{Cond}
use Rattle.x86_types.specs.declared.instr.Instr.{Instr}
use Rattle.x86_types.specs.declared.instr.Instr.TheVariants as instr
use Rattle.x86_grammar.specs.Spells.{Spells}
use Rattle.x86_grammar.specs.Fields.{fields_fit, HasSpelling}
use Rattle.x86_grammar.specs.Front.{front}
use Rattle.x86_grammar.specs.FrontLaws.{FrontIsSpelling, FrontEquations}
use Rattle.x86_encode.specs.Choice.{best, best_wide}
use Rattle.x86_encode.specs.Laws.{BestLaws, BestLengths}
use Rattle.x86_code.specs.Code.{Code}
use Rattle.laid_code.specs.Laid.{Stands, Leads}
use Rattle.code_text.specs.Texts.{stop, distance, jump_text}
use Rattle.code_text.specs.Placing.{HasBytesFrom}

pub record Given : Type 0 where
  pub best_is : BestLaws
  pub lengths : BestLengths
  pub fronts : FrontIsSpelling
  pub equations : FrontEquations
  pub fit : (i : Instr) → (fields_fit i ≡ true) ↔ HasSpelling i

-- ---- the bytes behind some bytes
drop_past : (t rest : List ℕ) (n : ℕ) → drop (length t + n) (t ++ rest) ≡ drop n rest
drop_past [] rest n = let same : 0 + n ≡ n = omega arith in ap (λ k. drop k rest) same
drop_past (b ∷ t) rest n = let same : suc (length t) + n ≡ suc (length t + n) = omega arith in ap (λ k. drop k (b ∷ (t ++ rest))) same ∙ drop_past t rest n

module _ (code : Code) where
  pub behind : (q : ℕ) (t rest : List ℕ) → HasBytesFrom code q (t ++ rest) → HasBytesFrom code (q + length t) rest
  behind q t rest h = record {
    fronts = λ n low.
        let whole = length-append t rest in
        let same : q + length t + n ≡ q + (length t + n) = omega arith in
        ap code same ∙ (h.fronts (length t + n) (omega (arith, low, whole)) ∙ ap front (drop_past t rest n));
  }

  pub at_once : (q : ℕ) (bytes : List ℕ) → HasBytesFrom code q bytes → code q ≡ front bytes
  at_once q bytes h = let same : q ≡ q + 0 = omega arith in ap code same ∙ h.fronts 0 (omega arith)

  pub regrouped : (q : ℕ) (s t u : List ℕ) → HasBytesFrom code q ((s ++ t) ++ u) → HasBytesFrom code q (s ++ (t ++ u))
  regrouped q s t u h = subst (HasBytesFrom code q) (append_assoc s t u) h

  module _ (given : Given) where
    -- ---- nothing stands at a stop
    pub nothing : (q : ℕ) (rest : List ℕ) → HasBytesFrom code q (stop ++ rest) → code q ≡ None
    nothing q rest h = at_once q (stop ++ rest) h ∙ given.equations.ud2 rest

    -- ---- a text that spells an instruction
    spelled_stands : (q : ℕ) (i : Instr) (t rest : List ℕ) → Spells t i → HasBytesFrom code q (t ++ rest) → q + length t < 4294967296 → Stands code q i (q + length t)
    spelled_stands q i t rest spells h low = record { len = length t; is = at_once q (t ++ rest) h ∙ given.fronts.found t rest i spells; after = refl; within = low }

    best_spells : (i : Instr) → HasSpelling i → Spells (best i) i
    best_spells i h = ((given.best_is.is i h (best i)).1 refl).spells

    wide_spells : (i : Instr) → HasSpelling i → Spells (best_wide i) i
    wide_spells i h = ((given.best_is.is_wide i h (best_wide i)).1 refl).spells.spells

    pub best_stands : (q : ℕ) (i : Instr) (rest : List ℕ) → HasSpelling i → HasBytesFrom code q (best i ++ rest) → q + length (best i) < 4294967296 → Stands code q i (q + length (best i))
    best_stands q i rest spelled h low = spelled_stands q i (best i) rest (best_spells i spelled) h low

    -- ---- a jump leads to its target
    leads_there : (r to : ℕ) → r < 4294967296 → to < 4294967296 → wrapped (r + distance to r) ≡ to
    leads_there r to low fits = omega (arith, low, fits)

    jump_leads : (jump : ℕ → Instr) (len to q : ℕ) (rest : List ℕ) → ((by : ℕ) → by < 4294967296 → HasSpelling (jump by)) → length (jump_text jump len to q) ≡ len → HasBytesFrom code q (jump_text jump len to q ++ rest) → q + len < 4294967296 → to < 4294967296
        → Leads code q jump (q + len) to
    jump_leads jump len to q rest spelled long h low fits =
        let by = distance to (q + len) in
        let small : (4294967296 + to - (q + len)) % 4294967296 < 4294967296 = omega arith in
        let same : q + length (best_wide (jump by)) ≡ q + len = ap (λ n. q + n) long in
        let there = spelled_stands q (jump by) (best_wide (jump by)) rest (wide_spells (jump by) (spelled by small)) h (subst (λ n. n < 4294967296) (sym same) low) in
        record { by = by; stands = subst (λ r. Stands code q (jump by) r) same there; leads = leads_there (q + len) to low fits }

    fits_number : (by : ℕ) → by < 4294967296 → nat_lt by 4294967296 ≡ true
    fits_number by h = lt-ltb by 4294967296 h

    pub jmp_spelled : (by : ℕ) → by < 4294967296 → HasSpelling (instr.Jmp by)
    jmp_spelled by h = (given.fit (instr.Jmp by)).0 (fits_number by h)

    pub jcc_spelled : (c : Cond) (by : ℕ) → by < 4294967296 → HasSpelling (instr.Jcc c by)
    jcc_spelled c by h = (given.fit (instr.Jcc c by)).0 (fits_number by h)

    pub jmp_leads : (to q : ℕ) (rest : List ℕ) → HasBytesFrom code q (jump_text instr.Jmp 5 to q ++ rest) → q + 5 < 4294967296 → to < 4294967296 → Leads code q instr.Jmp (q + 5) to
    jmp_leads to q rest h low fits = jump_leads instr.Jmp 5 to q rest jmp_spelled (given.lengths.jmp (distance to (q + 5))) h low fits

    pub jcc_leads : (c : Cond) (to q : ℕ) (rest : List ℕ) → HasBytesFrom code q (jump_text (instr.Jcc c) 6 to q ++ rest) → q + 6 < 4294967296 → to < 4294967296 → Leads code q (instr.Jcc c) (q + 6) to
    jcc_leads c to q rest h low fits = jump_leads (instr.Jcc c) 6 to q rest (jcc_spelled c) (given.lengths.jcc c (distance to (q + 6))) h low fits
