-- A word that is loaded from one page, in the directory and in the memory.
use Rattle.std.proofs.Common.{◌≡◌, ℕ, ◌+◌, ◌/◌, ◌%◌, ◌^◌, ◌<◌, ◌≤◌, Bool, true, false, ltb, Option, Some, None, arith, refl, ◌∙◌}
use Rattle.std.specs.Option.{IfSome}
use Rattle.std.proofs.lemmas.Bool.{ltb-true, lt-ltb}
use Rattle.x86_values.specs.declared.word.Word.{Word}
use Rattle.memory.specs.Memory.{Place, wrapped}
use Rattle.mem_pages.specs.declared.page.Page.{Page}
use Rattle.mem_pages.specs.declared.directory.Directory.{Directory}
use Rattle.mem_pages.specs.declared.pages.Pages.{Pages}
use Rattle.mem_pages.specs.Page.{place_in, shown, IsOffStack}
use Rattle.mem_pages.specs.Directory.{page_at, contents}
use Rattle.mem_pages.specs.Contents.{memory_in}
use Rattle.mem_pages.specs.Accesses.{loaded}
use Rattle.mem_pages.proofs.Lifting.{in_page, off_stack_there}
use Rattle.mem_pages.proofs.Shown.{at_place, off_stack_same}
use Rattle.mem_pages.proofs.WithinPage.{same_loaded}
use Rattle.mem_pages.specs.Regions.{is_unspecified}

-- the places of a page, and those of the directory
page_loaded : (d : Directory) (at size : ℕ) (g : Page) → at < 2 ^ 32 → at % 4096 + size ≤ 4096 → Some g ≡ page_at d (at / 4096) → loaded (contents d) at size ≡ loaded (place_in g) (at % 4096) size
page_loaded d at size g b l there = same_loaded (contents d) (place_in g) at (at % 4096) size (λ k m.
    let x : wrapped (at + k) ≡ at + k = omega arith in
    let y : wrapped (at % 4096 + k) ≡ at % 4096 + k = omega arith in
    rw (x, y) (in_page d at k size (Some g) l m there))

pub word_there : (o : Option Word) (d : Directory) (at size : ℕ) (g : Page) → at < 2 ^ 32 → at % 4096 + size ≤ 4096 → Some g ≡ page_at d (at / 4096) → IfSome o (λ w. loaded (place_in g) (at % 4096) size ≡ Some w) → IfSome o (λ w. loaded (contents d) at size ≡ Some w)
word_there None d at size g b l there h = tt
word_there (Some w) d at size g b l there h = page_loaded d at size g b l there ∙ h

pub off_there : (o : Option Word) (hidden : Bool) (d : Directory) (at : ℕ) (g : Page) → Some g ≡ page_at d (at / 4096) → IfSome o (λ w. hidden ≡ true → is_unspecified g.unset ≡ false) → IfSome o (λ w. hidden ≡ true → IsOffStack at (contents d))
off_there None hidden d at g there h = tt
off_there (Some w) hidden d at g there h = λ e. off_stack_there d at g (is_unspecified g.unset) there refl (h e)

-- ---- the memory
read_alike : (hidden t : Bool) (o : Option Place) → (t ≡ true → hidden ≡ true) → (hidden ≡ true → (p : Place) → o ≡ Some p → p.on_stack ≡ false) → shown t o ≡ o
read_alike hidden true o u h = off_stack_same o (h (u refl))
read_alike hidden false o u h = refl

pub as_in_directory : (p : Pages) (at size k : ℕ) → at < 2 ^ 32 → at % 4096 + size ≤ 4096 → k < size → (ltb at p.lowest ≡ true → IsOffStack at (contents p.directory)) → memory_in p (at + k) ≡ contents p.directory (at + k)
as_in_directory p at size k b l m off = at_place p (at + k) ∙ read_alike (ltb at p.lowest) (ltb (at + k) p.lowest) (contents p.directory (at + k))
    (λ t. lt-ltb at p.lowest (omega (arith, ltb-true (at + k) p.lowest t)))
    (λ t q f. (off t).off (at + k) q (omega arith) f)

pub word_in : (o : Option Word) (p : Pages) (at size : ℕ) → at < 2 ^ 32 → at % 4096 + size ≤ 4096 → IfSome o (λ w. loaded (contents p.directory) at size ≡ Some w) → IfSome o (λ w. ltb at p.lowest ≡ true → IsOffStack at (contents p.directory)) → IfSome o (λ w. loaded (memory_in p) at size ≡ Some w)
word_in None p at size b l h off = tt
word_in (Some w) p at size b l h off = same_loaded (memory_in p) (contents p.directory) at at size (λ k m.
    let x : wrapped (at + k) ≡ at + k = omega arith in
    rw x (as_in_directory p at size k b l m off)) ∙ h
