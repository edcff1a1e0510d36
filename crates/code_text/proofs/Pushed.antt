-- Texts of instructions, one behind the other.
use Rattle.std.proofs.Common.{◌≡◌, ℕ, ◌+◌, ◌<◌, ◌≤◌, cond, Ok, Err, Result, List, [], ◌++◌, get_or, length, sym, ap, ap₂, ◌∙◌, append_assoc, arith}
use Rattle.std.specs.Result.{is_ok, OnOk}
use Rattle.std.proofs.lemmas.List.{length-append, append-nil}
use Rattle.x86_types.specs.declared.operand.Rm.{Rm}
use Rattle.x86_types.specs.declared.operation.Cond.{Cond}
use Rattle.x86_types.specs.declared.operation.Cond.TheVariants as condition
use Rattle.x86_types.specs.declared.instr.Instr.{Instr}
use Rattle.x86_types.specs.declared.instr.Instr.TheVariants as instr
use Rattle.x86_grammar.specs.Fields.{HasSpelling}
use Rattle.x86_encode.specs.Choice.{best}
use Rattle.named_code.specs.declared.placed.Home.{Home}
use Rattle.named_code.specs.declared.placed.PInstr.{PInstr}
use Rattle.named_code.specs.declared.placed.PBlock.{PBlock}
use Rattle.named_code.specs.Items.{Item, placed_item, placed_block}
use Rattle.laid_code.specs.Laid.{Places}
use Rattle.code_text.specs.declared.places.CodePlaces.{CodePlaces}
use Rattle.code_text.specs.KeptPlaces.{places_in, place_behind}
use Rattle.code_text.specs.TableJump.{look_up, enter}
use Rattle.code_text.specs.Placing.{most_bytes}
use Rattle.code_text.specs.Texts.{stop, jump_text, before_test, table_text, instr_text, items_text, blocks_text, stores_text}
use Rattle.code_text.specs.Sizes.{HasFields, SizeLaws}
use Rattle.code_text.proofs.Walking.{items_from, items_more, items_end, blocks_from, blocks_more, blocks_end}

-- the place behind a text that goes on
pub place_more : (out t : List ℕ) → place_behind (out ++ t) ≡ place_behind out + length t
place_more out t = let whole = length-append out t in omega (arith, whole)

regroup : (out a b c d : List ℕ) → (((out ++ a) ++ b) ++ c) ++ d ≡ out ++ (a ++ (b ++ (c ++ d)))
regroup out a b c d = simp append_assoc

-- a jump to an old address
pub table_pushed : (p : CodePlaces) (to : Rm) (out z y x w : List ℕ) (stop : ℕ) (a b : Instr) → z ≡ out ++ before_test (places_in p) to → stop ≡ (places_in p).stop → y ≡ z ++ jump_text (instr.Jcc condition.Ae) 6 stop (place_behind z)
    → a ≡ look_up → x ≡ y ++ best a → b ≡ enter → w ≡ x ++ best b → w ≡ out ++ table_text (places_in p) (place_behind out) to
table_pushed p to out z y x w stop a b z_is stop_is y_is a_is x_is b_is w_is =
    let l = places_in p in
    let before = before_test l to in
    let jump : ℕ → ℕ → List ℕ = λ (s q : ℕ). jump_text (instr.Jcc condition.Ae) 6 s q in
    let at : place_behind z ≡ place_behind out + length before = ap place_behind z_is ∙ place_more out before in
    let first : y ≡ (out ++ before) ++ jump l.stop (place_behind out + length before) = y_is ∙ ap₂ (λ u t. u ++ t) z_is (ap₂ jump stop_is at) in
    let second : x ≡ ((out ++ before) ++ jump l.stop (place_behind out + length before)) ++ best look_up = x_is ∙ ap₂ (λ u t. u ++ t) first (ap best a_is) in
    w_is ∙ (ap₂ (λ u t. u ++ t) second (ap best b_is) ∙ regroup out before (jump l.stop (place_behind out + length before)) (best look_up) (best enter))

-- how long a text is with one more instruction
pub pushed_short : (laws : SizeLaws) (l : Places) (i : Instr) (q : ℕ) (out new : List ℕ) → HasFields l → HasSpelling i → new ≡ out ++ instr_text l q i → length new ≤ length out + most_bytes i
pushed_short laws l i q out new fields spelled is =
    let whole = ap length is ∙ length-append out (instr_text l q i) in
    let size = laws.texts l q i in
    let most = laws.most l i fields spelled in
    omega (arith, whole, size, most)

-- the text of each kind of instruction
pub jmp_text : (l : Places) (q n to : ℕ) (i : Instr) → i ≡ instr.Jmp n → to ≡ l.by_number n → jump_text instr.Jmp 5 to q ≡ instr_text l q i
unfolding instr_text
jmp_text l q n to i is there = ap (λ t. jump_text instr.Jmp 5 t q) there ∙ sym (ap (instr_text l q) is)

pub jcc_text : (l : Places) (q : ℕ) (c : Cond) (n to : ℕ) (i : Instr) → i ≡ instr.Jcc c n → to ≡ l.by_number n → jump_text (instr.Jcc c) 6 to q ≡ instr_text l q i
unfolding instr_text
jcc_text l q c n to i is there = ap (λ t. jump_text (instr.Jcc c) 6 t q) there ∙ sym (ap (instr_text l q) is)

pub to_text : (l : Places) (q : ℕ) (to : Rm) (i : Instr) → i ≡ instr.JmpTo to → table_text l q to ≡ instr_text l q i
unfolding instr_text
to_text l q to i is = sym (ap (instr_text l q) is)

-- how long the beginning is
pub beginning_short : (laws : SizeLaws) (cell to : ℕ) (a b d u : List ℕ) → cell < 4294967296 → a ≡ [] ++ stores_text cell → b ≡ a ++ jump_text instr.Jmp 5 to (place_behind a) → d ≡ b ++ u → length u ≡ 2 → length d ≤ 40
beginning_short laws cell to a b d u low a_is b_is d_is two =
    let stores = laws.stores cell low in
    let jump = laws.jump to (place_behind a) in
    let first = ap length a_is in
    let second = ap length b_is ∙ length-append a (jump_text instr.Jmp 5 to (place_behind a)) in
    let third = ap length d_is ∙ length-append b u in
    omega (arith, stores, jump, first, second, third, two)

-- ---- a text that goes on with an item, or with a block
module _ (homes : List Home) (items : List PInstr) (l : Places) where
  pub items_done : (i : ℕ) (out whole : List ℕ) → length items ≤ i → out ++ items_text l (place_behind out) (items_from homes items i) ≡ whole → out ++ stop ≡ whole
  unfolding items_text
  items_done i out whole past h = ap (λ xs. out ++ items_text l (place_behind out) xs) (sym (items_end homes items i past)) ∙ h

  pub items_go_on : (i : ℕ) (d : PInstr) (r : Instr) (out new whole : List ℕ) → i < length items → r ≡ (placed_item homes (get_or items i d)).instr → new ≡ out ++ instr_text l (place_behind out) r → out ++ items_text l (place_behind out) (items_from homes items i) ≡ whole
      → new ++ items_text l (place_behind new) (items_from homes items (i + 1)) ≡ whole
  unfolding items_text
  items_go_on i d r out new whole low is text h =
      let q = place_behind out in
      let here = (placed_item homes (get_or items i d)).instr in
      let t = instr_text l q here in
      let rest = items_from homes items (i + 1) in
      let new_is : new ≡ out ++ t = text ∙ ap (λ (x : Instr). out ++ instr_text l q x) is in
      let at : place_behind new ≡ q + length t = ap place_behind new_is ∙ place_more out t in
      ap₂ (λ u n. u ++ items_text l n rest) new_is at ∙ (append_assoc out t (items_text l (q + length t) rest) ∙ (ap (λ xs. out ++ items_text l q xs) (sym (items_more homes items i d low)) ∙ h))

module _ (homes : List Home) (blocks : List PBlock) (l : Places) where
  pub blocks_done : (i : ℕ) (out whole : List ℕ) → length blocks ≤ i → out ++ blocks_text l (place_behind out) (blocks_from homes blocks i) ≡ whole → out ≡ whole
  unfolding blocks_text
  blocks_done i out whole past h = sym (append-nil out) ∙ (ap (λ bs. out ++ blocks_text l (place_behind out) bs) (sym (blocks_end homes blocks i past)) ∙ h)

  pub blocks_go_on : (i : ℕ) (b : PBlock) (items : List Item) (out new whole : List ℕ) → i < length blocks → items ≡ (placed_block homes (get_or blocks i b)).items → new ≡ out ++ items_text l (place_behind out) items → out ++ blocks_text l (place_behind out) (blocks_from homes blocks i) ≡ whole
      → new ++ blocks_text l (place_behind new) (blocks_from homes blocks (i + 1)) ≡ whole
  unfolding blocks_text
  blocks_go_on i b items out new whole low is text h =
      let q = place_behind out in
      let here = (placed_block homes (get_or blocks i b)).items in
      let t = items_text l q here in
      let rest = blocks_from homes blocks (i + 1) in
      let new_is : new ≡ out ++ t = text ∙ ap (λ xs. out ++ items_text l q xs) is in
      let at : place_behind new ≡ q + length t = ap place_behind new_is ∙ place_more out t in
      ap₂ (λ u n. u ++ blocks_text l n rest) new_is at ∙ (append_assoc out t (blocks_text l (q + length t) rest) ∙ (ap (λ bs. out ++ blocks_text l q bs) (sym (blocks_more homes blocks i b low)) ∙ h))

-- what a last call gives, where it returns Ok
pub on_ok_if : {T E : Type 0} (r : Result T E) (s t u whole : List ℕ) → s ≡ cond (is_ok r) t u → t ≡ whole → OnOk r (s ≡ whole)
on_ok_if (Ok x) s t u whole is all = is ∙ all
on_ok_if (Err e) s t u whole is all = tt
