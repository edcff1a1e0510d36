-- A word that was stored in one page, in the directory and in the memory.
use Rattle.std.proofs.Common.{◌≡◌, ℕ, ◌+◌, ◌-◌, ◌/◌, ◌%◌, ◌^◌, ◌<◌, ◌≤◌, ◌==◌, ◌&&◌, Bool, true, false, cond, leb, ltb, List, length, take, get_or, Option, Some, Result, Ok, Err, arith, refl, sym, ◌∙◌, ap, inl, inr}
use Rattle.std.proofs.lemmas.Bool.{cases_Bool, cond-false, ltb-true, leb-true, and_parts, false≢true, false_from_ne_true}
use Rattle.std.proofs.lemmas.Bool.Decides.{nat_tests}
use Rattle.x86_values.specs.declared.byte.Byte.{Byte}
use Rattle.x86_values.specs.declared.byte.Byte.TheVariants.{Unspecified}
use Rattle.x86_values.specs.declared.word.Word.{Word}
use Rattle.x86_values.specs.Sizes.{IsSize}
use Rattle.x86_values.specs.Words.{word_list}
use Rattle.memory.specs.Memory.{Place, Memory, Store, allows, allows_all, with_byte, forgotten, forget_below, put_all, Load, wrapped}
use Rattle.mem_pages.specs.declared.page.Page.{Page}
use Rattle.mem_pages.specs.declared.exposed.Exposed.{Exposed}
use Rattle.mem_pages.specs.declared.directory.Directory.{Directory}
use Rattle.mem_pages.specs.declared.pages.Pages.{Pages}
use Rattle.mem_pages.specs.declared.fault.PageFault.{PageFault}
use Rattle.mem_pages.specs.declared.fault.PageFault.TheVariants as fault
use Rattle.mem_pages.specs.Exposed.{lists, is_forgotten, IsQuiet}
use Rattle.mem_pages.specs.Page.{place_in, put_part, IsOffStack}
use Rattle.mem_pages.specs.Directory.{page_at, contents, IsWithPage}
use Rattle.mem_pages.specs.Contents.{memory_in, IsReady}
use Rattle.mem_pages.specs.Accesses.{KeepsPages, SameMemory, IsStored, IsNotAllKept, Stores}
use Rattle.mem_pages.proofs.Lifting.{lifted, range_outside, in_page}
use Rattle.mem_pages.proofs.Swept.{put_quiet, quiet_places}
use Rattle.mem_pages.proofs.Shown.{at_lowest, put_shown, allowed_in}
use Rattle.mem_pages.proofs.Runs.{allows_rest, none_left}
use Rattle.mem_pages.proofs.StoredWord.{all_as_part}

-- ---- in the directory
part_test : (a at n : ℕ) → a / 4096 ≡ at / 4096 → (leb (at % 4096) (a % 4096) && ltb (a % 4096) (at % 4096 + n)) ≡ (leb at a && ltb a (at + n))
part_test a at n h = grind (arith, nat_tests)

part_byte : (a at : ℕ) → a / 4096 ≡ at / 4096 → a % 4096 - at % 4096 ≡ a - at
part_byte a at h = omega (arith, h)

part_place : (a at : ℕ) (bs : List Byte) (o : Option Place) → a / 4096 ≡ at / 4096 → cond (leb (at % 4096) (a % 4096) && ltb (a % 4096) (at % 4096 + length bs)) (with_byte (get_or bs (a % 4096 - at % 4096) Unspecified) o) o ≡ cond (leb at a && ltb a (at + length bs)) (with_byte (get_or bs (a - at) Unspecified) o) o
part_place a at bs o h = ap (λ t. cond t (with_byte (get_or bs (a % 4096 - at % 4096) Unspecified) o) o) (part_test a at (length bs) h) ∙ ap (λ k. cond (leb at a && ltb a (at + length bs)) (with_byte (get_or bs k Unspecified) o) o) (part_byte a at h)

pub part_lifted : (d e : Directory) (at : ℕ) (bs : List Byte) (g w : Page) → at % 4096 + length bs ≤ 4096 → IsWithPage d e (at / 4096) w → Some g ≡ page_at d (at / 4096) → ((k : ℕ) → place_in w k ≡ put_part (at % 4096) bs (place_in g) k) → (a : ℕ) → contents e a ≡ put_part at bs (contents d) a
unfolding put_part
part_lifted d e at bs g w l h there places = lifted d e (at / 4096) g w (λ a o. cond (leb at a && ltb a (at + length bs)) (with_byte (get_or bs (a - at) Unspecified) o) o) h there
    (λ a s. places (a % 4096) ∙ part_place a at bs (place_in g (a % 4096)) s)
    (λ a o n. cond-false _ _ _ (range_outside a at (at + length bs) (omega (arith, l)) n))

pub allowed_there : (d : Directory) (at size : ℕ) (g : Page) → at % 4096 + size ≤ 4096 → Some g ≡ page_at d (at / 4096) → ((k : ℕ) → k < size → allows Store (place_in g (at % 4096 + k)) ≡ true) → (k : ℕ) → k < size → allows Store (contents d (at + k)) ≡ true
allowed_there d at size g l there h k m = ap (allows Store) (in_page d at k size (Some g) l m there) ∙ h k m

-- ---- the size of a word
sizes : (size : ℕ) (w : Word) → (size ≡ 1 → length (take size (word_list w)) ≡ size) → (size ≡ 2 → length (take size (word_list w)) ≡ size) → (size ≡ 4 → length (take size (word_list w)) ≡ size) → IsSize size → length (take size (word_list w)) ≡ size
sizes size w one two four h = elim (cases_Bool (size == 1)) as (λ _. length (take size (word_list w)) ≡ size) [
  | inl t ↦ one (grind (arith, nat_tests))
  | inr f ↦ elim (cases_Bool (size == 2)) as (λ _. length (take size (word_list w)) ≡ size) [
    | inl t ↦ two (grind (arith, nat_tests))
    | inr e ↦ four (grind (arith, nat_tests))
  ]
]

pub word_size : (size : ℕ) (w : Word) → IsSize size → length (take size (word_list w)) ≡ size
word_size size w h = sizes size w (λ e. rw e refl) (λ e. rw e refl) (λ e. rw e refl) h

-- ---- in the memory
in_part : (a at n : ℕ) → at % 4096 + n ≤ 4096 → (leb at a && ltb a (at + n)) ≡ true → a / 4096 ≡ at / 4096
in_part a at n l t = let p = and_parts _ _ t in let x : at ≤ a = leb-true at a p.0 in let y : a < at + n = ltb-true a (at + n) p.1 in omega (arith, x, y, l)

from_part : (a at n : ℕ) → (leb at a && ltb a (at + n)) ≡ true → at ≤ a
from_part a at n t = let p = and_parts _ _ t in leb-true at a p.0

pub part_shown : (p q : Pages) (at : ℕ) (bs : List Byte) → at % 4096 + length bs ≤ 4096 → q.lowest ≡ p.lowest → IsReady at p → ((a : ℕ) → contents q.directory a ≡ put_part at bs (contents p.directory) a) → (a : ℕ) → memory_in q a ≡ put_part at bs (memory_in p) a
unfolding memory_in put_part forget_below
part_shown p q at bs l e ready h a = at_lowest q p.lowest a e ∙ ap (λ o. cond (ltb a p.lowest) (forgotten o) o) (h a) ∙ put_shown (leb at a && ltb a (at + length bs)) (ltb a p.lowest) (get_or bs (a - at) Unspecified) (contents p.directory a) (λ t u r f.
    (ready.off (let x = from_part a at (length bs) t in let y = ltb-true a p.lowest u in omega (arith, x, y))).off a r (in_part a at (length bs) l t) f)

pub quiet_part : (e : Exposed) (d d' : Directory) (at : ℕ) (bs : List Byte) → at % 4096 + length bs ≤ 4096 → (lists e (at / 4096) ≡ false → IsOffStack at (contents d)) → ((a : ℕ) → contents d' a ≡ put_part at bs (contents d) a) → IsQuiet e d → IsQuiet e d'
unfolding put_part
quiet_part e d d' at bs l off places h = λ a m. ap is_forgotten (places a) ∙ put_quiet (leb at a && ltb a (at + length bs)) (get_or bs (a - at) Unspecified) (contents d a) (λ t p q.
    let s = in_part a at (length bs) l t in (off (ap (lists e) (sym s) ∙ m)).off a p s q) (h a m)

all_stored : (m : Memory) (at size : ℕ) → at < 2 ^ 32 → at % 4096 + size ≤ 4096 → ((k : ℕ) → k < size → allows Store (m (at + k)) ≡ true) → allows_all Store m at size ≡ true
all_stored m at size b l h = allows_rest Store m at size 0 size (omega arith) (λ k x. let z : wrapped (at + k) ≡ at + k = omega arith in rw z (h k x)) ∙ none_left Store m (at + size) 0 (omega arith)

pub stored_in : (p q : Pages) (at size : ℕ) (w : Word) → IsSize size → at < 2 ^ 32 → at % 4096 + size ≤ 4096 → q.lowest ≡ p.lowest → IsReady at p → ((a : ℕ) → contents q.directory a ≡ put_part at (take size (word_list w)) (contents p.directory) a) → ((k : ℕ) → k < size → allows Store (contents p.directory (at + k)) ≡ true) → IsStored at (take size (word_list w)) p q
stored_in p q at size w s b l e ready places allowed =
    let n = word_size size w s in
    record {
      allowed = rw n (all_stored (memory_in p) at size b l (λ k x. allowed_in p Store (at + k) ∙ allowed k x));
      memory = λ i a. (part_shown p q at (take size (word_list w)) (omega (arith, n, l)) e ready places a ∙ sym (all_as_part at (take size (word_list w)) (memory_in p) (omega (arith, n, l, b)) a)) i;
    }

-- what is ready where nothing is hidden, or nothing of the page is on the stack
pub ready_if : (hidden : Bool) (p : Pages) (at : ℕ) → (hidden ≡ false → p.lowest ≤ at) → (hidden ≡ true → IsOffStack at (contents p.directory)) → IsReady at p
ready_if true p at low off = record { off = λ l. off refl }
ready_if false p at low off = record { off = λ l. let m = low refl in absurd (omega (arith, l, m)) }

pub off_unless : (hidden l : Bool) (P : Type 0) → (hidden ≡ false → l ≡ true) → (hidden ≡ true → P) → l ≡ false → P
off_unless true l P listed off f = off refl
off_unless false l P listed off f = absurd (false≢true (sym f ∙ listed refl))

pub quiet_either : (r : Bool) (e : Exposed) (d d' : Directory) (at size : ℕ) (w : Word) → IsSize size → at % 4096 + size ≤ 4096 → (r ≡ true → lists e (at / 4096) ≡ false → IsOffStack at (contents d)) → (r ≡ true → (a : ℕ) → contents d' a ≡ put_part at (take size (word_list w)) (contents d) a) → (r ≡ false → (a : ℕ) → contents d' a ≡ contents d a) → IsQuiet e d → IsQuiet e d'
quiet_either true e d d' at size w s l off places same h = let n = word_size size w s in quiet_part e d d' at (take size (word_list w)) (omega (arith, n, l)) (off refl) (places refl) h
quiet_either false e d d' at size w s l off places same h = quiet_places e d d' (same refl) h

-- ---- a store after nothing has changed
not_kept_before : (at size : ℕ) (p q : Pages) → KeepsPages p q → IsNotAllKept at size q → IsNotAllKept at size p
not_kept_before at size p q keeps h = record {
  offset = h.offset;
  within = h.within;
  not_kept = false_from_ne_true _ (λ t. false≢true (sym h.not_kept ∙ keeps.kept _ t));
}

then_same : (p q s : Pages) → SameMemory p q → SameMemory q s → SameMemory p s
then_same p q s h k = record { memory = k.memory ∙ h.memory }

pub stores_after : (at size : ℕ) (w : Word) (r : Result (Unit {0}) PageFault) (p q s : Pages) → SameMemory p q → KeepsPages p q → Stores at size w r q s → Stores at size w r p s
stores_after at size w (Ok x) p q s same keeps h = record {
  allowed = ap (λ m. allows_all Store m at (length (take size (word_list w)))) (sym same.memory) ∙ h.allowed;
  memory = h.memory ∙ ap (put_all at (take size (word_list w))) same.memory;
}
stores_after at size w (Err fault.NotMapped) p q s same keeps h = (ap (λ m. allows_all Load m at size) (sym same.memory) ∙ h.0, then_same p q s same h.1)
stores_after at size w (Err fault.NotWritable) p q s same keeps h = (ap (λ m. allows_all Load m at size) (sym same.memory) ∙ h.0, ap (λ m. allows_all Store m at size) (sym same.memory) ∙ h.1, then_same p q s same h.2)
stores_after at size w (Err fault.Memory) p q s same keeps h = (not_kept_before at size p q keeps h.0, then_same p q s same h.1)
