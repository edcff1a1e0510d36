-- From the places of the directory to the memory, of which the stack is forgotten below an address.
use Rattle.std.proofs.Common.{◌≡◌, ℕ, ◌+◌, ◌/◌, ◌%◌, ◌<◌, ◌≤◌, ◌==◌, ◌&&◌, ◌||◌, Bool, true, false, cond, leb, ltb, List, Option, Some, None, Result, Ok, Err, arith, refl, sym, ◌∙◌, ap}
use Rattle.std.specs.Option.{option_map}
use Rattle.std.specs.Result.{OnOk, OnErr}
use Rattle.std.proofs.lemmas.Bool.{cond-false, lt-ltb, ltb-true, eqb-true, false≢true}
use Rattle.std.proofs.lemmas.Bool.Decides.{nat_tests}
use Rattle.x86_values.specs.declared.byte.Byte.{Byte}
use Rattle.x86_values.specs.declared.byte.Byte.TheVariants.{Known, Unspecified}
use Rattle.memory.specs.Memory.{Place, Memory, AccessKind, Load, Store, allows, byte_of, with_byte, put, forgotten, forget_below}
use Rattle.mem_pages.specs.declared.directory.Directory.{Directory}
use Rattle.mem_pages.specs.declared.pages.Pages.{Pages}
use Rattle.mem_pages.specs.declared.fault.PageFault.TheVariants as fault
use Rattle.mem_pages.specs.Regions.{unmapped, region_place, with_region, forget_between, HasRoom}
use Rattle.mem_pages.specs.Page.{shown, seen, Judges, ShowsBytes}
use Rattle.mem_pages.specs.Directory.{page_at, contents, keeps, KeepsPlaces, place_on}
use Rattle.mem_pages.specs.Contents.{memory_in, is_kept, IsReady}
use Rattle.mem_pages.specs.Accesses.{byte_read, KeepsPages, SameMemory}
use Rattle.mem_pages.proofs.Parts.{forget_joined}
use Rattle.mem_pages.proofs.Swept.{forgotten_twice}

pub at_place : (p : Pages) (a : ℕ) → memory_in p a ≡ shown (ltb a p.lowest) (contents p.directory a)
unfolding memory_in forget_below
at_place p a = refl

pub nothing_in : (p : Pages) → ((n : ℕ) → page_at p.directory n ≡ None) → memory_in p ≡ unmapped
unfolding memory_in forget_below contents
nothing_in p h = λ i a. (ap (λ o. shown (ltb a p.lowest) (place_on o (a % 4096))) (h (a / 4096)) ∙ none (ltb a p.lowest)) i
  where
    none : (t : Bool) → shown t None ≡ None
    none true = refl
    none false = refl

-- ---- directories with the same places
-- the place at an address, of pages with this `lowest`
pub at_lowest : (q : Pages) (low a : ℕ) → q.lowest ≡ low → memory_in q a ≡ shown (ltb a low) (contents q.directory a)
at_lowest q low a e = at_place q a ∙ ap (λ l. shown (ltb a l) (contents q.directory a)) e

pub same_places : (p q : Pages) → q.lowest ≡ p.lowest → ((a : ℕ) → contents q.directory a ≡ contents p.directory a) → memory_in q ≡ memory_in p
same_places p q e h = λ i a. (at_lowest q p.lowest a e ∙ ap (shown (ltb a p.lowest)) (h a) ∙ sym (at_place p a)) i

pub keeps_pages : (p q : Pages) → KeepsPlaces p.directory q.directory → KeepsPages p q
unfolding is_kept
keeps_pages p q h = record { kept = h.kept }

pub same_memory : (p : Pages) → SameMemory p p
same_memory p = record { memory = refl }

pub keeps_itself : (p : Pages) → KeepsPages p p
keeps_itself p = record { kept = λ a h. h }

pub keeps_then : (p q r : Pages) → KeepsPages p q → KeepsPages q r → KeepsPages p r
keeps_then p q r h k = record { kept = λ a x. k.kept a (h.kept a x) }

-- ---- regions
region_shown : (t u w : Bool) (b : Byte) (o : Option Place) → shown u (cond t (Some (region_place w b)) o) ≡ cond t (Some (region_place w b)) (shown u o)
region_shown true true w (Known b) o = refl
region_shown true true w Unspecified o = refl
region_shown true false w b o = refl
region_shown false u w b o = refl

pub region_added : (p q : Pages) (d : Directory) (start end : ℕ) (w : Bool) (b : Byte) → q.lowest ≡ p.lowest → ((a : ℕ) → contents d a ≡ contents p.directory a) → ((a : ℕ) → contents q.directory a ≡ with_region start end w b (contents d) a) → memory_in q ≡ with_region start end w b (memory_in p)
unfolding memory_in forget_below with_region
region_added p q d start end w b e same places = λ i a. (at_lowest q p.lowest a e ∙ ap (shown (ltb a p.lowest)) (places a ∙ ap (cond (leb start a && ltb a end) (Some (region_place w b))) (same a)) ∙ region_shown (leb start a && ltb a end) (ltb a p.lowest) w b (contents p.directory a)) i

none_shown : (t : Bool) (o : Option Place) → shown t o ≡ None → o ≡ None
none_shown true None h = refl
none_shown true (Some p) h = cc
none_shown false o h = h

pub has_room : (p : Pages) (d : Directory) (start end : ℕ) → ((a : ℕ) → contents d a ≡ contents p.directory a) → HasRoom start end (memory_in p) → HasRoom start end (contents d)
unfolding memory_in forget_below
has_room p d start end same h = record { free = λ a b l m e. same a ∙ none_shown (ltb a p.lowest) _ (h.free a b l m e) }

-- ---- the stack
idempotent : (t u : Bool) (o : Option Place) → (u ≡ true → t ≡ true) → shown t o ≡ cond t (forgotten (shown u o)) (shown u o)
idempotent true true None h = refl
idempotent true true (Some p) h = ap (λ b. Some (record p { byte = b })) (twice p.on_stack p.byte)
  where
    twice : (s : Bool) (b : Byte) → cond s Unspecified b ≡ cond s Unspecified (cond s Unspecified b)
    twice true b = refl
    twice false b = refl
idempotent true false o h = refl
idempotent false true o h = absurd (false≢true (h refl))
idempotent false false o h = refl

pub forgets_below : (p q : Pages) (end : ℕ) → q.lowest ≡ end → q.directory ≡ p.directory → p.lowest < end → memory_in q ≡ forget_below end (memory_in p)
unfolding memory_in forget_below
forgets_below p q end e s l = λ i a. (at_lowest q end a e ∙ ap (λ d. shown (ltb a end) (contents d a)) s ∙ idempotent (ltb a end) (ltb a p.lowest) (contents p.directory a) (λ h. lt-ltb a end (omega (arith, ltb-true a p.lowest h)))) i

already : (t u : Bool) (o : Option Place) → (t ≡ true → u ≡ true) → shown u o ≡ cond t (forgotten (shown u o)) (shown u o)
already true true o h = idempotent true true o (λ x. x)
already true false o h = absurd (false≢true (h refl))
already false u o h = refl

pub forgotten_already : (p : Pages) (end : ℕ) → end ≤ p.lowest → memory_in p ≡ forget_below end (memory_in p)
unfolding memory_in forget_below
forgotten_already p end l = λ i a. already (ltb a end) (ltb a p.lowest) (contents p.directory a) (λ h. lt-ltb a p.lowest (omega (arith, ltb-true a end h))) i

either_order : (t u : Bool) (o : Option Place) → shown u (cond t (forgotten o) o) ≡ cond t (forgotten (shown u o)) (shown u o)
either_order true true o = refl
either_order true false o = refl
either_order false u o = refl

pub forgets_between : (p q : Pages) (start end : ℕ) → q.lowest ≡ p.lowest → ((a : ℕ) → contents q.directory a ≡ forget_between start end (contents p.directory) a) → memory_in q ≡ forget_between start end (memory_in p)
unfolding memory_in forget_below forget_between
forgets_between p q start end e h = λ i a. (at_lowest q p.lowest a e ∙ ap (shown (ltb a p.lowest)) (h a) ∙ either_order (leb start a && ltb a end) (ltb a p.lowest) (contents p.directory a)) i

pub forgets_nothing : (p : Pages) (start end : ℕ) → end ≤ start → memory_in p ≡ forget_between start end (memory_in p)
unfolding forget_between
forgets_nothing p start end l = λ i a. sym (cond-false (leb start a && ltb a end) (forgotten (memory_in p a)) (memory_in p a) (no_range start end a l)) i
  where
    no_range : (start end a : ℕ) → end ≤ start → (leb start a && ltb a end) ≡ false
    no_range start end a l = grind (arith, nat_tests)

-- what is forgotten below `high` is so, whatever of it is shown below `low`
still_forgotten : (t u : Bool) (o : Option Place) → (t ≡ true → u ≡ true) → shown t (cond u (forgotten o) o) ≡ shown u o
still_forgotten true true o h = forgotten_twice o
still_forgotten true false o h = absurd (false≢true (h refl))
still_forgotten false u o h = refl

two_parts : (a mid high : ℕ) (o : Option Place) → mid ≤ high → cond (leb mid a && ltb a high) (forgotten (cond (leb 0 a && ltb a mid) (forgotten o) o)) (cond (leb 0 a && ltb a mid) (forgotten o) o) ≡ cond (ltb a high) (forgotten o) o
two_parts a mid high o l = forget_joined _ _ o (apart a mid high) ∙ ap (λ t. cond t (forgotten o) o) (joined a mid high l)
  where
    joined : (a mid high : ℕ) → mid ≤ high → ((leb mid a && ltb a high) || (leb 0 a && ltb a mid)) ≡ ltb a high
    joined a mid high l = grind (arith, nat_tests)

    apart : (a mid high : ℕ) → (leb mid a && ltb a high) ≡ true → (leb 0 a && ltb a mid) ≡ false
    apart a mid high h = grind (arith, nat_tests)

-- the pages below that of `lowest` are forgotten, and then its front
pub lowered : (p q : Pages) (d : Directory) (mid : ℕ) → q.lowest ≤ p.lowest → mid ≤ p.lowest → ((a : ℕ) → contents d a ≡ forget_between 0 mid (contents p.directory) a) → ((a : ℕ) → contents q.directory a ≡ forget_between mid p.lowest (contents d) a) → memory_in q ≡ memory_in p
unfolding forget_between
lowered p q d mid l m h k = λ i a. (at_place q a ∙ ap (shown (ltb a q.lowest)) (k a ∙ ap (λ o. cond (leb mid a && ltb a p.lowest) (forgotten o) o) (h a) ∙ two_parts a mid p.lowest (contents p.directory a) m) ∙ still_forgotten (ltb a q.lowest) (ltb a p.lowest) (contents p.directory a) (λ t. lt-ltb a p.lowest (omega (arith, ltb-true a q.lowest t))) ∙ sym (at_place p a)) i

-- ---- one byte
pub off_stack_same : (o : Option Place) → ((p : Place) → o ≡ Some p → p.on_stack ≡ false) → forgotten o ≡ o
off_stack_same None h = refl
off_stack_same (Some p) h = ap (λ s. Some (record p { byte = cond s Unspecified p.byte })) (h p refl)

off_stack_with : (b : Byte) (o : Option Place) → ((p : Place) → o ≡ Some p → p.on_stack ≡ false) → forgotten (with_byte b o) ≡ with_byte b o
off_stack_with b None h = refl
off_stack_with b (Some p) h = ap (λ s. Some (record p { byte = cond s Unspecified b })) (h p refl)

pub put_shown : (t u : Bool) (b : Byte) (o : Option Place) → (t ≡ true → u ≡ true → (p : Place) → o ≡ Some p → p.on_stack ≡ false) → shown u (cond t (with_byte b o) o) ≡ cond t (with_byte b (shown u o)) (shown u o)
put_shown true true b o h = off_stack_with b o (h refl refl) ∙ ap (with_byte b) (sym (off_stack_same o (h refl refl)))
put_shown true false b o h = refl
put_shown false u b o h = refl

pub put_byte : (p q : Pages) (at : ℕ) (b : Byte) → q.lowest ≡ p.lowest → IsReady at p → ((a : ℕ) → contents q.directory a ≡ put at b (contents p.directory) a) → memory_in q ≡ put at b (memory_in p)
unfolding memory_in forget_below put
put_byte p q at b e ready h = λ i a. (at_lowest q p.lowest a e ∙ ap (shown (ltb a p.lowest)) (h a) ∙ put_shown (a == at) (ltb a p.lowest) b (contents p.directory a) (λ e l q f. let s = eqb-true a at e in (ready.off (omega (arith, s, ltb-true a p.lowest l))).off at q refl (ap (contents p.directory) (sym s) ∙ f))) i

pub put_after : (at : ℕ) (b : Byte) (m n : Memory) → m ≡ n → put at b m ≡ put at b n
put_after at b m n e = ap (put at b) e

-- ---- accesses
pub shown_allows : (kind : AccessKind) (t : Bool) (o : Option Place) → allows kind (shown t o) ≡ allows kind o
shown_allows kind true None = refl
shown_allows Load true (Some p) = refl
shown_allows Store true (Some p) = refl
shown_allows kind false o = refl

pub allowed_in : (p : Pages) (kind : AccessKind) (a : ℕ) → allows kind (memory_in p a) ≡ allows kind (contents p.directory a)
unfolding memory_in forget_below
allowed_in p kind a = shown_allows kind (ltb a p.lowest) (contents p.directory a)

shown_writable : (t : Bool) (o : Option Place) → option_map (λ (q : Place). q.can_write) o ≡ option_map (λ (q : Place). q.can_write) (shown t o)
shown_writable true None = refl
shown_writable true (Some p) = refl
shown_writable false o = refl

pub writable_in : (p : Pages) (a : ℕ) → option_map (λ (q : Place). q.can_write) (contents p.directory a) ≡ option_map (λ (q : Place). q.can_write) (memory_in p a)
unfolding memory_in forget_below
writable_in p a = shown_writable (ltb a p.lowest) (contents p.directory a)

pub kept_pages : {A E : Type 0} (r : Result A E) (p q : Pages) (at : ℕ) → OnOk r ((a : ℕ) → a / 4096 ≡ at / 4096 → allows Load (contents p.directory a) ≡ true → keeps q.directory a ≡ true) → OnOk r ((a : ℕ) → a / 4096 ≡ at / 4096 → allows Load (memory_in p a) ≡ true → is_kept q a ≡ true)
unfolding is_kept
kept_pages (Err e) p q at h = tt
kept_pages (Ok x) p q at h = λ a s l. h a s (sym (allowed_in p Load a) ∙ l)

pub not_kept : {A E : Type 0} (r : Result A E) (p : Pages) (at : ℕ) → OnErr r (keeps p.directory at ≡ false) → OnErr r (is_kept p at ≡ false)
unfolding is_kept
not_kept r p at h = h

pub is_kept_there : (p : Pages) (at : ℕ) → is_kept p at ≡ true → keeps p.directory at ≡ true
unfolding is_kept
is_kept_there p at h = h

pub there_is_kept : (p : Pages) (at : ℕ) → keeps p.directory at ≡ true → is_kept p at ≡ true
unfolding is_kept
there_is_kept p at h = h

pub read_some : (o : Option Place) (b : Byte) → Some b ≡ seen o → Ok b ≡ byte_read o
read_some None b e = absurd cc
read_some (Some p) b e = cc

pub read_none : (o : Option Place) → None ≡ seen o → Err fault.NotMapped ≡ byte_read o
read_none None e = refl
read_none (Some p) e = absurd cc

-- what the permission of a place allows
pub not_mapped : (o : Option Place) → None ≡ option_map (λ (p : Place). p.can_write) o → allows Load o ≡ false
not_mapped None e = refl
not_mapped (Some p) e = absurd cc

pub is_mapped : (o : Option Place) (w : Bool) → Some w ≡ option_map (λ (p : Place). p.can_write) o → allows Load o ≡ true
is_mapped None w e = absurd cc
is_mapped (Some p) w e = refl

pub is_writable : (o : Option Place) (w : Bool) → Some w ≡ option_map (λ (p : Place). p.can_write) o → allows Store o ≡ w
is_writable None w e = absurd cc
is_writable (Some p) w e = cc

pub judged_in : (r : Bool) (kind : AccessKind) (p : Pages) (at count : ℕ) → Judges r kind (contents p.directory) at count → Judges r kind (memory_in p) at count
judged_in true kind p at count h = λ k l. allowed_in p kind (at + k) ∙ h k l
judged_in false kind p at count h = (h.0, h.1, allowed_in p kind (at + h.0) ∙ h.2)

shown_byte : (t : Bool) (o : Option Place) → (t ≡ true → (p : Place) → o ≡ Some p → p.on_stack ≡ false) → byte_of (shown t o) ≡ byte_of o
shown_byte true o h = ap byte_of (off_stack_same o (h refl))
shown_byte false o h = refl

pub shows_bytes : (p : Pages) (at count : ℕ) (bytes : List Byte) → at % 4096 + count ≤ 4096 → IsReady at p → ShowsBytes (contents p.directory) at count bytes → ShowsBytes (memory_in p) at count bytes
unfolding memory_in forget_below
shows_bytes p at count bytes l ready h = record {
  len = h.len;
  shown = λ k m x. shown_byte (ltb (at + k) p.lowest) (contents p.directory (at + k)) (λ t q f. (ready.off (omega (arith, ltb-true (at + k) p.lowest t))).off (at + k) q (omega arith) f) ∙ h.shown k m (sym (shown_allows Load (ltb (at + k) p.lowest) (contents p.directory (at + k))) ∙ x);
}
