-- The bytes of laid code are laid code.
use Rattle.std.proofs.Common.{◌≡◌, ℕ, ◌+◌, ◌*◌, ◌<◌, ◌≤◌, ◌==◌, ◌||◌, Bool, true, false, not, cond, List, ◌++◌, find, length, Option, Some, None, refl, sym, ap, ap₂, ◌∙◌, subst, arith}
use Rattle.std.proofs.lemmas.Bool.{and_parts, eqb-true, lt-ltb, le-ltb, lt-leb}
use Rattle.std.proofs.lemmas.List.{length-append}
use Rattle.x86_types.specs.declared.operand.Reg.TheVariants.{Esp}
use Rattle.x86_types.specs.declared.operand.Rm.TheVariants as rm
use Rattle.x86_types.specs.declared.operand.Src.TheVariants as src
use Rattle.x86_types.specs.declared.width.Width.TheVariants.{Four}
use Rattle.x86_types.specs.declared.instr.Instr.TheVariants as instr
use Rattle.x86_grammar.specs.Fields.{HasSpelling}
use Rattle.x86_encode.specs.Choice.{best}
use Rattle.x86_code.specs.Code.{Code}
use Rattle.named_code.specs.Items.{CodeBlock}
use Rattle.named_code.specs.Running.{block_of_number, block_at}
use Rattle.laid_code.specs.Laid.{Places, Leads, Lies, FoundAt, is_outside, place_of_old, IsLaid}
use Rattle.laid_code.specs.Beginning.{esp_to, Begins}
use Rattle.code_text.specs.Texts.{stop, jump_text, blocks_text, stores_text, beginning_text, code_text}
use Rattle.code_text.specs.Placing.{beginning_size, PlacesFrom, HasBytesFrom, AreSpelled, LieInSpan, TextIsLaid, TextLengths}
use Rattle.code_text.proofs.Standing.{Given, behind, regrouped, nothing, best_stands, jmp_leads}
use Rattle.code_text.proofs.Texts.{items_length}
use Rattle.code_text.proofs.Blocks.{place_from, none_found, place_low, found_lies, has_number, has_address, numbered_is, addressed_is, block_at_is, found_holds}

module _ (given : Given) (l : Places) (code : Code) (q cell entry : ℕ) (blocks : List CodeBlock) (after : List ℕ) (h : HasBytesFrom code q (code_text l q cell entry blocks ++ after)) (places : PlacesFrom l q cell blocks) (spelled : AreSpelled blocks) (span : LieInSpan l blocks)
    (low : q + length (code_text l q cell entry blocks) < 4294967296) (span_fits : l.span + l.count < 4294967296) (table_fits : l.table + 4 * l.count < 4294967296) (cell_fits : cell < 4294967296) (zero : code 0 ≡ None) where
  abbrev stores : List ℕ
  stores = stores_text cell

  abbrev jump : List ℕ
  jump = jump_text instr.Jmp 5 (place_of_old l entry) (q + length stores)

  abbrev start : List ℕ
  start = beginning_text l q cell entry

  abbrev q0 : ℕ
  q0 = q + length start

  abbrev text : List ℕ
  text = blocks_text l q0 blocks

  five : length jump ≡ 5
  five = given.lengths.jmp _

  start_length : length start ≡ length stores + 5 + 2
  start_length =
      let whole = length-append stores (jump ++ stop) in
      let rest = length-append jump stop in
      let j = five in
      omega (arith, whole, rest, j)

  whole_length : length (code_text l q cell entry blocks) ≡ length start + length text
  whole_length = length-append start text

  h0 : HasBytesFrom code q (start ++ (text ++ after))
  h0 = regrouped code q start text after h

  h_text : HasBytesFrom code q0 (text ++ after)
  h_text = behind code q start (text ++ after) h0

  text_low : q0 + length text < 4294967296
  text_low = omega (arith, low, whole_length)

  first_place : q + beginning_size cell ≡ q0
  first_place = let s = start_length in omega (arith, s)

  -- ---- the places fit
  number_is : (n : ℕ) → l.by_number n ≡ place_from given l (has_number given l n) q0 blocks
  number_is n = places.by_number n ∙ (numbered_is given l (q + beginning_size cell) n blocks ∙ ap (λ p. place_from given l (has_number given l n) p blocks) first_place)

  address_is : (a : ℕ) → l.by_address a ≡ place_from given l (has_address given l a) q0 blocks
  address_is a = places.by_address a ∙ (addressed_is given l (q + beginning_size cell) a blocks ∙ ap (λ p. place_from given l (has_address given l a) p blocks) first_place)

  place_fits : (test : CodeBlock → Bool) → place_from given l test q0 blocks < 4294967296
  place_fits test =
      let most = place_low given l test q0 blocks (q0 + length text) (omega arith) in
      let end = text_low in
      omega (arith, most, end)

  number_fits : (n : ℕ) → l.by_number n < 4294967296
  number_fits n = subst (λ p. p < 4294967296) (sym (number_is n)) (place_fits (has_number given l n))

  address_fits : (a : ℕ) → l.by_address a < 4294967296
  address_fits a = subst (λ p. p < 4294967296) (sym (address_is a)) (place_fits (has_address given l a))

  stop_fits : l.stop < 4294967296
  stop_fits = let s = places.stop in let b = start_length in omega (arith, s, b, low, whole_length)

  old_fits : (a : ℕ) → place_of_old l a < 4294967296
  old_fits a = by (is_outside l a)
    where
      by : (b : Bool) → cond b l.stop (l.by_address a) < 4294967296
      by true = stop_fits
      by false = address_fits a

  abbrev numbers_fit : (l.span < 4294967296) × (l.count < 4294967296) × (l.table < 4294967296)
  numbers_fit = (omega (arith, span_fits), omega (arith, span_fits), omega (arith, table_fits))

  -- ---- the blocks
  found_there : (test : CodeBlock → Bool) (b : CodeBlock) → find test blocks ≡ Some b → Lies l code (place_from given l test q0 blocks) b.items
  found_there test b e = found_lies given l numbers_fit code number_fits stop_fits test q0 blocks after b spelled h_text text_low e

  number_lies : (n : ℕ) (b : CodeBlock) → block_of_number n blocks ≡ Some b → Lies l code (l.by_number n) b.items
  number_lies n b e = subst (λ p. Lies l code p b.items) (sym (number_is n)) (found_there (has_number given l n) b e)

  address_found : (a : ℕ) → FoundAt l code (l.by_address a) (block_at a blocks)
  address_found a = by (block_at a blocks) refl
    where
      by : (o : Option CodeBlock) → block_at a blocks ≡ o → FoundAt l code (l.by_address a) o
      by None e = subst (λ p. code p ≡ None) (sym (address_is a ∙ none_found given l (has_address given l a) q0 blocks (sym (block_at_is a blocks) ∙ e))) zero
      by (Some b) e = subst (λ p. Lies l code p b.items) (sym (address_is a)) (found_there (has_address given l a) b (sym (block_at_is a blocks) ∙ e))

  -- an old address with a block lies in the span
  outside_none : (a : ℕ) → is_outside l a ≡ true → block_at a blocks ≡ None
  outside_none a out = by (block_at a blocks) refl
    where
      never : (b : CodeBlock) → block_at a blocks ≡ Some b → ⊥
      never b e =
          let holds = found_holds (λ (c : CodeBlock). (c.at ≡ 0 → ⊥) → (l.span ≤ c.at) × (c.at < l.span + l.count)) (has_address given l a) blocks b span (sym (block_at_is a blocks) ∙ e) in
          let parts = and_parts (not (a == 0)) (b.at == a) holds.1 in
          let at : b.at ≡ a = eqb-true b.at a parts.1 in
          let in_span = holds.0 (λ z. some_address b at parts.0 z) in
          let from : l.span ≤ a = subst (λ n. l.span ≤ n) at in_span.0 in
          let below : a < l.span + l.count = subst (λ n. n < l.span + l.count) at in_span.1 in
          let inside : is_outside l a ≡ false = ap₂ (λ x y. x || y) (le-ltb a l.span from) (lt-leb (l.span + l.count) a below) in
          let both : true ≡ false = sym out ∙ inside in
          absurd (cc both)
        where
          some_address : (b : CodeBlock) → b.at ≡ a → not (a == 0) ≡ true → b.at ≡ 0 → ⊥
          some_address b at some z = let zero : a ≡ 0 = sym at ∙ z in let both : false ≡ true = ap (λ n. not (n == 0)) (sym zero) ∙ some in absurd (cc both)

      by : (o : Option CodeBlock) → block_at a blocks ≡ o → block_at a blocks ≡ None
      by None e = e
      by (Some b) e = absurd (never b e)

  -- ---- the beginning
  h_jump : HasBytesFrom code (q + length stores) ((jump ++ stop) ++ (text ++ after))
  h_jump = behind code q stores ((jump ++ stop) ++ (text ++ after)) (regrouped code q stores (jump ++ stop) (text ++ after) h0)

  h_jump' : HasBytesFrom code (q + length stores) (jump ++ (stop ++ (text ++ after)))
  h_jump' = regrouped code (q + length stores) jump stop (text ++ after) h_jump

  stop_there : code l.stop ≡ None
  stop_there =
      let h1 = behind code (q + length stores) jump (stop ++ (text ++ after)) h_jump' in
      let at : q + length stores + length jump ≡ l.stop = ap (λ n. q + length stores + n) five ∙ sym places.stop in
      nothing code given l.stop (text ++ after) (subst (λ p. HasBytesFrom code p (stop ++ (text ++ after))) at h1)

  start_low : q + (length stores + 7) < 4294967296
  start_low = let s = start_length in omega (arith, s, low, whole_length)

  esp_spelled : (c : ℕ) → c < 4294967296 → HasSpelling (esp_to c)
  esp_spelled c f = (given.fit (esp_to c)).0 (lt-ltb c 4294967296 f)

  clear_spelled : HasSpelling (instr.Mov Four (rm.Reg Esp) (src.Imm 0))
  clear_spelled = (given.fit (instr.Mov Four (rm.Reg Esp) (src.Imm 0))).0 refl

  begins : Begins l code q cell entry
  begins =
      let first = best (esp_to 0x75000000) in
      let second = best (esp_to cell) in
      let third = best (instr.Mov Four (rm.Reg Esp) (src.Imm 0)) in
      let more = (jump ++ stop) ++ (text ++ after) in
      let both = length-append first (second ++ third) in
      let two = length-append second third in
      let q1 = q + length first in
      let q2 = q1 + length second in
      let q3 = q2 + length third in
      let last : q3 ≡ q + length stores = omega (arith, both, two) in
      let small = start_low in
      let h1 = regrouped code q first (second ++ third) more (regrouped code q stores (jump ++ stop) (text ++ after) h0) in
      let h2 = behind code q first ((second ++ third) ++ more) h1 in
      let h3 = regrouped code q1 second third more h2 in
      let h4 = behind code q1 second (third ++ more) h3 in
      record {
        q1 = q1;
        stores = best_stands code given q (esp_to 0x75000000) ((second ++ third) ++ more) (esp_spelled 0x75000000 (omega arith)) h1 (omega (arith, last, small));
        q2 = q2;
        stores_again = best_stands code given q1 (esp_to cell) (third ++ more) (esp_spelled cell cell_fits) h3 (omega (arith, last, small));
        q3 = q3;
        clears = best_stands code given q2 (instr.Mov Four (rm.Reg Esp) (src.Imm 0)) more clear_spelled h4 (omega (arith, last, small));
        q4 = q + length stores + 5;
        enters = subst (λ p. Leads code p instr.Jmp (q + length stores + 5) (place_of_old l entry)) (sym last) (jmp_leads code given (place_of_old l entry) (q + length stores) (stop ++ (text ++ after)) h_jump' (omega (arith, small)) (old_fits entry));
      }

  pub laid : IsLaid l code blocks × Begins l code q cell entry
  laid = (
    record {
      numbers = number_lies;
      addresses = λ a from below. address_found a;
      outside = outside_none;
      addresses_fit = address_fits;
      stops = stop_there;
      span_fits = span_fits;
      table_fits = table_fits;
    },
    begins,
  )

pub text_is_laid : Given → TextIsLaid
text_is_laid given l code q cell entry blocks after h places spelled span low span_fits table_fits cell_fits zero = laid given l code q cell entry blocks after h places spelled span low span_fits table_fits cell_fits zero

pub text_lengths : Given → TextLengths
text_lengths given = record { items = items_length given }
