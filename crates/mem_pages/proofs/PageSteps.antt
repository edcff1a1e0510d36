-- What each change of a page comes to, place by place.
use Rattle.std.proofs.Common.{◌≡◌, ℕ, ◌+◌, ◌-◌, ◌<◌, ◌≤◌, ◌==◌, ◌&&◌, Bool, true, false, cond, leb, ltb, ◌++◌, length, take, drop, get_or, Some, None, Result, Ok, Err, arith, refl, sym, ◌∙◌, ap, subst}
use Rattle.std.specs.Result.{OnErr}
use Rattle.std.proofs.Math.ListN.{replicate}
use Rattle.mem_pages.proofs.Clearing.{get_or_grown, get_or_set}
use Rattle.std.specs.declared.vec.Vec.{Vec}
use Rattle.std.specs.declared.alloc.Global.{Global}
use Rattle.std.specs.Vec.{with_item}
use Rattle.std.proofs.lemmas.List.{length-take, length-drop, get_or-take, get_or-drop, get_or_default}
use Rattle.std.proofs.lemmas.Bool.Decides.{nat_tests}
use Rattle.x86_values.specs.declared.byte.Byte.{Byte}
use Rattle.x86_values.specs.declared.byte.Byte.TheVariants.{Known, Unspecified}
use Rattle.memory.specs.Memory.{Place, Memory, Load, allows, byte_of, put, with_byte, forgotten}
use Rattle.mem_pages.specs.declared.page.Page.{Page}
use Rattle.mem_pages.specs.Regions.{is_unspecified, forget_between}
use Rattle.mem_pages.specs.Page.{byte_in, maps, place_in, kept_in, KeepsBytes, ShowsBytes}

-- a place of a page by its byte
abbrev pub place_of : Page → ℕ → Byte → Place
place_of g k b = record { byte = b; can_write = g.can_write; on_stack = is_unspecified g.unset }

pub place_is : (g : Page) (k : ℕ) → place_in g k ≡ cond (maps g k) (Some (place_of g k (byte_in g k))) None
unfolding place_in
place_is g k = refl

-- other bytes that are read alike
pub same_read : (g : Page) (v : Vec Byte Global) (k : ℕ) → get_or v.items k g.unset ≡ get_or g.bytes.items k g.unset → place_in (record g { bytes = v }) k ≡ place_in g k
unfolding place_in
same_read g v k e = ap (λ b. cond (maps g k) (Some (place_of g k (cond (is_unspecified g.unset && ltb k g.low) Unspecified b))) None) e

pub more_kept : (g : Page) (v : Vec Byte Global) → length g.bytes.items ≤ length v.items → KeepsBytes g (record g { bytes = v })
unfolding kept_in
more_kept g v l = record { kept = λ at h. grind (arith, nat_tests) }

pub same_kept : (g : Page) (v : Vec Byte Global) (low k : ℕ) → length v.items ≡ length g.bytes.items → kept_in (record g { bytes = v; low = low }) k ≡ kept_in g k
unfolding kept_in
same_kept g v low k e = ap (λ n. maps g k && leb 4096 n) e

pub all_kept : (g : Page) (k : ℕ) → 4096 ≤ length g.bytes.items → kept_in g k ≡ maps g k
unfolding kept_in
all_kept g k l = grind (arith, nat_tests)

-- other bytes that are longer, and the unset one past the old end
pub resized_read : (t : Bool) (g : Page) (v : Vec Byte Global) (m n : ℕ) → v.items ≡ cond t (take m g.bytes.items ++ replicate n g.unset) g.bytes.items → length g.bytes.items ≤ m → (k : ℕ) → place_in (record g { bytes = v }) k ≡ place_in g k
resized_read true g v m n e l k = same_read g v k (ap (λ bs. get_or bs k g.unset) e ∙ get_or_grown g.bytes.items m n g.unset k l)
resized_read false g v m n e l k = same_read g v k (ap (λ bs. get_or bs k g.unset) e)

-- ---- the stack
is_unset : (u : Byte) → is_unspecified u ≡ true → u ≡ Unspecified
is_unset (Known b) h = cc
is_unset Unspecified h = refl

-- places are alike where their bytes are
by_byte : (g : Page) (v : Vec Byte Global) (low k : ℕ) → byte_in (record g { bytes = v; low = low }) k ≡ byte_in g k → place_in (record g { bytes = v; low = low }) k ≡ place_in g k
unfolding place_in
by_byte g v low k e = ap (λ b. cond (maps g k) (Some (place_of g k b)) None) e

exposed_byte : (k at low : ℕ) (s : Bool) (x y : Byte) → s ≡ true → at < low → x ≡ cond (leb at k && ltb k low) Unspecified y → cond (s && ltb k at) Unspecified x ≡ cond (s && ltb k low) Unspecified y
exposed_byte k at low s x y h l e = grind (arith, nat_tests)

pub exposed : (g : Page) (v : Vec Byte Global) (at k : ℕ) → is_unspecified g.unset ≡ true → at < g.low → get_or v.items k Unspecified ≡ cond (leb at k && ltb k g.low) Unspecified (get_or g.bytes.items k Unspecified) → place_in (record g { bytes = v; low = at }) k ≡ place_in g k
exposed g v at k s l e =
    let u : Unspecified ≡ g.unset = sym (is_unset g.unset s) in
    let P : Byte → Type 0 = λ d. get_or v.items k d ≡ cond (leb at k && ltb k g.low) Unspecified (get_or g.bytes.items k d) in
    by_byte g v at k (exposed_byte k at g.low (is_unspecified g.unset) _ _ s l (subst P u e))

-- a place whose byte is forgotten in a range is as if the byte were
forgotten_place : (t m s w : Bool) (x y : Byte) → x ≡ cond (t && s) Unspecified y → cond m (Some (record { byte = x; can_write = w; on_stack = s })) None ≡ cond t (forgotten (cond m (Some (record { byte = y; can_write = w; on_stack = s })) None)) (cond m (Some (record { byte = y; can_write = w; on_stack = s })) None)
forgotten_place true true true w x y e = ap (λ b. Some (record { byte = b; can_write = w; on_stack = true })) e
forgotten_place true true false w x y e = ap (λ b. Some (record { byte = b; can_write = w; on_stack = false })) e
forgotten_place true false s w x y e = refl
forgotten_place false true s w x y e = ap (λ b. Some (record { byte = b; can_write = w; on_stack = s })) e
forgotten_place false false s w x y e = refl

pub forgets_place : (g : Page) (v : Vec Byte Global) (low start end k : ℕ) → byte_in (record g { bytes = v; low = low }) k ≡ cond ((leb start k && ltb k end) && is_unspecified g.unset) Unspecified (byte_in g k) → place_in (record g { bytes = v; low = low }) k ≡ forget_between start end (place_in g) k
unfolding place_in forget_between
forgets_place g v low start end k e = forgotten_place (leb start k && ltb k end) (maps g k) (is_unspecified g.unset) g.can_write _ _ e

off_stack_byte : (t s : Bool) (y : Byte) → s ≡ false → y ≡ cond (t && s) Unspecified y
off_stack_byte t s y h = grind (arith, nat_tests)

pub forgets_off_stack : (g : Page) (start end k : ℕ) → is_unspecified g.unset ≡ false → place_in g k ≡ forget_between start end (place_in g) k
forgets_off_stack g start end k h = forgets_place g g.bytes g.low start end k (off_stack_byte _ _ _ h)

cleared_byte : (s : Bool) (k low start end : ℕ) (x y : Byte) → s ≡ true → x ≡ cond (leb start k && ltb k end) Unspecified y → cond (s && ltb k low) Unspecified x ≡ cond ((leb start k && ltb k end) && s) Unspecified (cond (s && ltb k low) Unspecified y)
cleared_byte s k low start end x y h e = grind (arith, nat_tests)

pub forgets_by_clearing : (g : Page) (v : Vec Byte Global) (start end k : ℕ) → is_unspecified g.unset ≡ true → get_or v.items k Unspecified ≡ cond (leb start k && ltb k end) Unspecified (get_or g.bytes.items k Unspecified) → place_in (record g { bytes = v }) k ≡ forget_between start end (place_in g) k
forgets_by_clearing g v start end k s e =
    let u : Unspecified ≡ g.unset = sym (is_unset g.unset s) in
    let P : Byte → Type 0 = λ d. get_or v.items k d ≡ cond (leb start k && ltb k end) Unspecified (get_or g.bytes.items k d) in
    forgets_place g v g.low start end k (cleared_byte (is_unspecified g.unset) k g.low start end _ _ s (subst P u e))

low_byte : (s : Bool) (k low start end : ℕ) (y : Byte) → s ≡ true → start ≤ low → low ≤ end → cond (s && ltb k end) Unspecified y ≡ cond ((leb start k && ltb k end) && s) Unspecified (cond (s && ltb k low) Unspecified y)
low_byte s k low start end y h a b = grind (arith, nat_tests)

pub forgets_by_low : (g : Page) (start end k : ℕ) → is_unspecified g.unset ≡ true → start ≤ g.low → g.low ≤ end → place_in (record g { low = end }) k ≡ forget_between start end (place_in g) k
forgets_by_low g start end k s a b = forgets_place g g.bytes end start end k (low_byte (is_unspecified g.unset) k g.low start end _ s a b)

low_already : (s : Bool) (k low start end : ℕ) (y : Byte) → s ≡ true → start ≤ low → end ≤ low → cond (s && ltb k low) Unspecified y ≡ cond ((leb start k && ltb k end) && s) Unspecified (cond (s && ltb k low) Unspecified y)
low_already s k low start end y h a b = grind (arith, nat_tests)

pub forgets_already : (g : Page) (start end k : ℕ) → is_unspecified g.unset ≡ true → start ≤ g.low → end ≤ g.low → place_in g k ≡ forget_between start end (place_in g) k
forgets_already g start end k s a b = forgets_place g g.bytes g.low start end k (low_already (is_unspecified g.unset) k g.low start end _ s a b)

-- ---- one byte
put_place : (t m s w : Bool) (b x y : Byte) → x ≡ cond t b y → cond m (Some (record { byte = x; can_write = w; on_stack = s })) None ≡ cond t (with_byte b (cond m (Some (record { byte = y; can_write = w; on_stack = s })) None)) (cond m (Some (record { byte = y; can_write = w; on_stack = s })) None)
put_place true true s w b x y e = ap (λ b. Some (record { byte = b; can_write = w; on_stack = s })) e
put_place true false s w b x y e = refl
put_place false true s w b x y e = ap (λ b. Some (record { byte = b; can_write = w; on_stack = s })) e
put_place false false s w b x y e = refl

put_byte : (s : Bool) (k low at : ℕ) (b x y : Byte) → (s ≡ true → low ≤ at) → x ≡ cond (k == at) b y → cond (s && ltb k low) Unspecified x ≡ cond (k == at) b (cond (s && ltb k low) Unspecified y)
put_byte s k low at b x y h e = grind (arith, nat_tests)

pub puts : (g : Page) (at : ℕ) (b : Byte) (k : ℕ) → (is_unspecified g.unset ≡ true → g.low ≤ at) → at < length g.bytes.items → place_in (record g { bytes = with_item g.bytes at b }) k ≡ put at b (place_in g) k
unfolding place_in put
puts g at b k h l = put_place (k == at) (maps g k) (is_unspecified g.unset) g.can_write b _ _ (put_byte (is_unspecified g.unset) k g.low at b _ _ h (get_or_set g.bytes.items at b k g.unset l))

pub none_kept : (g : Page) (k : ℕ) → length g.bytes.items < 4096 → kept_in g k ≡ false
unfolding kept_in
none_kept g k l = grind (arith, nat_tests)

pub kept_is_within : (g : Page) (k : ℕ) → k < 4096 → kept_in g k ≡ true → k < length g.bytes.items
unfolding kept_in
kept_is_within g k l h = grind (arith, nat_tests)

pub put_alike : (at : ℕ) (b : Byte) (m n : Memory) (k : ℕ) → m k ≡ n k → put at b m k ≡ put at b n k
unfolding put
put_alike at b m n k e = ap (λ o. cond (k == at) (with_byte b o) o) e

pub on_error : {A E : Type 0} {P : Type 0} (r : Result A E) → P → OnErr r P
on_error (Ok x) p = tt
on_error (Err e) p = p

-- ---- parts
mapped_byte : (g : Page) (k : ℕ) → allows Load (place_in g k) ≡ true → byte_of (place_in g k) ≡ byte_in g k
unfolding place_in
mapped_byte g k h = shows (maps g k) (byte_in g k) h
  where
    shows : (t : Bool) (b : Byte) → allows Load (cond t (Some (place_of g k b)) None) ≡ true → byte_of (cond t (Some (place_of g k b)) None) ≡ b
    shows true b h = refl
    shows false b h = cc

not_hidden : (s : Bool) (k at low : ℕ) (x : Byte) → (s && ltb at low) ≡ false → at ≤ k → cond (s && ltb k low) Unspecified x ≡ x
not_hidden s k at low x h l = grind (arith, nat_tests)

pub shows_part : (g : Page) (at count : ℕ) → 4096 ≤ length g.bytes.items → at + count ≤ 4096 → (is_unspecified g.unset && ltb at g.low) ≡ false → ShowsBytes (place_in g) at count (take (at + count - at) (drop at g.bytes.items))
shows_part g at count l m h = record {
  len = length-take (at + count - at) (drop at g.bytes.items) ∙ omega (arith, length-drop at g.bytes.items);
  shown = λ k less x.
      let there : at + k < length g.bytes.items = omega arith in
      mapped_byte g (at + k) x ∙ not_hidden (is_unspecified g.unset) (at + k) at g.low _ h (omega arith)
      ∙ get_or_default g.bytes.items (at + k) g.unset Unspecified there
      ∙ sym (get_or-take (at + count - at) (drop at g.bytes.items) k Unspecified (omega arith) ∙ get_or-drop at g.bytes.items k Unspecified);
}
