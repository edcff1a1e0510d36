-- The sizes of instructions.
use Rattle.std.proofs.Common.{◌≡◌, ℕ, ◌+◌, ◌<◌, ◌≤◌, ◌++◌, length, refl, sym, ap, subst, arith}
use Rattle.std.proofs.lemmas.Bool.{lt-ltb}
use Rattle.std.proofs.lemmas.List.{length-append}
use Rattle.x86_types.specs.declared.operand.Rm.{Rm}
use Rattle.x86_types.specs.declared.operation.Cond.{Cond}
use Rattle.x86_types.specs.declared.instr.Instr.{Instr}
use Rattle.x86_types.specs.declared.instr.Instr.TheVariants as instr
use Rattle.x86_grammar.specs.Fields.{HasSpelling}
use Rattle.x86_encode.specs.Choice.{best}
use Rattle.laid_code.specs.Laid.{Places}
use Rattle.laid_code.specs.Beginning.{esp_to}
use Rattle.code_text.specs.KeptPlaces.{table_start, sized}
use Rattle.code_text.specs.TableJump.{take_address, less_span, compare_count, look_up, enter, clear_esp}
use Rattle.code_text.specs.Texts.{instr_text, before_test, behind_test, stores_text}
use Rattle.code_text.specs.Placing.{instr_size, most_bytes}
use Rattle.code_text.specs.Sizes.{IsPlain, HasFields, SizeLaws}
use Rattle.code_text.proofs.Standing.{Given}
use Rattle.code_text.proofs.Texts.{instr_length, takes_spelled, sub_spelled, cmp_spelled, jump_spelled}

-- an instruction that is none of the jumps
pub plain_instr : (i : Instr) → ((n : ℕ) → i ≡ instr.Jmp n → ⊥) → ((to : Rm) → i ≡ instr.JmpTo to → ⊥) → ((c : Cond) (n : ℕ) → i ≡ instr.Jcc c n → ⊥) → IsPlain i
plain_instr (instr.Jmp n) a b c = a n refl
plain_instr (instr.JmpTo to) a b c = b to refl
plain_instr (instr.Jcc cond n) a b c = c cond n refl
plain_instr i a b c = tt

plain_text : (l : Places) (q : ℕ) (i : Instr) → IsPlain i → instr_text l q i ≡ best i
unfolding instr_text
plain_text l q (instr.Jmp n) p = absurd p
plain_text l q (instr.JmpTo to) p = absurd p
plain_text l q (instr.Jcc c n) p = absurd p
plain_text l q i p = refl

plain_size : (l : Places) (i : Instr) → IsPlain i → instr_size l i ≡ length (best i)
unfolding instr_size
plain_size l (instr.Jmp n) p = absurd p
plain_size l (instr.JmpTo to) p = absurd p
plain_size l (instr.Jcc c n) p = absurd p
plain_size l i p = refl

-- ---- a jump to an old address
pub table_parts : (span count : ℕ) (to : Rm) → instr_size (sized span count) (instr.JmpTo to) ≡ length (best (take_address to)) + length (best (less_span span)) + length (best (compare_count count)) + 6 + length (best look_up) + length (best enter)
unfolding instr_size
table_parts span count to =
    let before = length-append (best (take_address to)) (best (less_span span) ++ best (compare_count count)) in
    let before' = length-append (best (less_span span)) (best (compare_count count)) in
    let behind = length-append (best look_up) (best enter) in
    omega (arith, before, before', behind)

-- the beginning
pub stores_parts : (cell : ℕ) → length (stores_text cell) ≡ length (best (esp_to 0x75000000)) + length (best (esp_to cell)) + length (best clear_esp)
stores_parts cell =
    let whole = length-append (best (esp_to 0x75000000)) (best (esp_to cell) ++ best clear_esp) in
    let rest = length-append (best (esp_to cell)) (best clear_esp) in
    omega (arith, whole, rest)

same_size : (l : Places) (i : Instr) → l.table ≡ table_start → instr_size l i ≡ instr_size (sized l.span l.count) i
unfolding instr_size
same_size l (instr.JmpTo to) t = ap (λ n. length (before_test l to) + 6 + length (behind_test (record l { table = n }))) t
same_size l i t = refl

module _ (given : Given) where
  look_spelled : HasSpelling look_up
  look_spelled = (given.fit look_up).0 refl

  most_table : (span count : ℕ) (to : Rm) → span < 4294967296 → count < 4294967296 → HasSpelling (instr.JmpTo to) → instr_size (sized span count) (instr.JmpTo to) ≤ 128
  most_table span count to s c h =
      let fits : (span < 4294967296) × (count < 4294967296) × (table_start < 4294967296) = (s, c, omega arith) in
      let l = sized span count in
      let parts = table_parts span count to in
      let one = given.best_is.short (take_address to) (takes_spelled given l fits to h) in
      let two = given.best_is.short (less_span span) (sub_spelled given l fits) in
      let three = given.best_is.short (compare_count count) (cmp_spelled given l fits) in
      let four = given.best_is.short look_up look_spelled in
      let five = given.best_is.short enter (jump_spelled given l fits) in
      omega (arith, parts, one, two, three, four, five)

  most_size : (l : Places) (i : Instr) → HasFields l → HasSpelling i → instr_size l i ≤ most_bytes i
  unfolding instr_size
  most_size l (instr.Jmp n) f h = let five = given.lengths.jmp n in omega (arith, five)
  most_size l (instr.Jcc c n) f h = let six = given.lengths.jcc c n in omega (arith, six)
  most_size l (instr.JmpTo to) f h = subst (λ n. n ≤ 128) (sym (same_size l (instr.JmpTo to) f.table)) (most_table l.span l.count to f.span f.count h)
  most_size l i f h = let same = ap length (given.best_is.same i refl) in omega (arith, same)

  before_short : (l : Places) (to : Rm) → HasFields l → HasSpelling (instr.JmpTo to) → length (before_test l to) ≤ 33
  before_short l to f h =
      let fits : (l.span < 4294967296) × (l.count < 4294967296) × (l.table < 4294967296) = (f.span, f.count, omega (arith, f.table)) in
      let whole = length-append (best (take_address to)) (best (less_span l.span) ++ best (compare_count l.count)) in
      let rest = length-append (best (less_span l.span)) (best (compare_count l.count)) in
      let one = given.best_is.short (take_address to) (takes_spelled given l fits to h) in
      let two = given.best_is.short (less_span l.span) (sub_spelled given l fits) in
      let three = given.best_is.short (compare_count l.count) (cmp_spelled given l fits) in
      omega (arith, whole, rest, one, two, three)

  stores_short : (cell : ℕ) → cell < 4294967296 → length (stores_text cell) ≤ 33
  stores_short cell low =
      let parts = stores_parts cell in
      let one = given.best_is.short (esp_to 0x75000000) ((given.fit (esp_to 0x75000000)).0 refl) in
      let two = given.best_is.short (esp_to cell) ((given.fit (esp_to cell)).0 (lt-ltb cell 4294967296 low)) in
      let three = given.best_is.short clear_esp ((given.fit clear_esp).0 refl) in
      omega (arith, parts, one, two, three)

  pub size_laws : SizeLaws
  size_laws = record {
    texts = instr_length given;
    same = same_size;
    most = most_size;
    before = before_short;
    stores = stores_short;
    jump = λ to q. given.lengths.jmp _;
    plain_text = plain_text;
    plain_size = plain_size;
  }
