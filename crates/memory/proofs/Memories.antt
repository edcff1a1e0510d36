-- The laws of memory.
use Rattle.std.proofs.Common.{◌≡◌, ◌≢◌, ℕ, zero, suc, ◌+◌, ◌^◌, ◌<◌, ◌==◌, ◌&&◌, Bool, true, false, cond, leb, ltb, List, [], ◌∷◌, length, slice_index_or, Option, Some, None, refl, sym, ◌∙◌, ap, arith}
use Rattle.std.proofs.lemmas.Bool.{eq-eqb, ne_eqb, lt-ltb, le-ltb, ltb-true, and_parts, cond-true, cond-false}
use Rattle.x86_values.specs.declared.byte.Byte.{Byte}
use Rattle.x86_values.specs.declared.byte.Byte.TheVariants.{Unspecified}
use Rattle.memory.specs.Memory.{Place, Memory, wrapped, with_byte, put, put_all, AccessKind, Load, Store, allows, allows_all, byte_of, bytes_at, forgotten, forget_below, stack_start, stack_place, with_stack, kind_of, SameIn}
use Rattle.memory.specs.MemoryLaws.{PutAllThere, PutAllElsewhere, PutAllKeepsKinds, ForgetKeepsKinds, AllowsByKinds, StoredIsLoaded, ForgetBelow, ForgetAbove, ForgetOffStack, ForgetThenForget, PutAllByPlace, ForgetByPlace, StackByPlace, AllowsInSame, BytesInSame}

pub put_there : (at : ℕ) (b : Byte) (m : Memory) → put at b m at ≡ with_byte b (m at)
unfolding put
put_there at b m = cond-true (at == at) _ _ (eq-eqb at at refl)

put_elsewhere : (at : ℕ) (b : Byte) (m : Memory) (a : ℕ) → a ≢ at → put at b m a ≡ m a
unfolding put
put_elsewhere at b m a h = cond-false (a == at) _ _ (ne_eqb a at h)

put_by_place : (at : ℕ) (b : Byte) (m n : Memory) (a : ℕ) → m a ≡ n a → put at b m a ≡ put at b n a
unfolding put
put_by_place at b m n a h = ap (λ p. cond (a == at) (with_byte b p) p) h

pub put_all_by_place : PutAllByPlace
unfolding put_all
put_all_by_place at [] m n a h = h
put_all_by_place at (b ∷ bs) m n a h = put_all_by_place (at + 1) bs (put (wrapped at) b m) (put (wrapped at) b n) a (put_by_place (wrapped at) b m n a h)

pub forget_by_place : ForgetByPlace
unfolding forget_below
forget_by_place esp m n a h = ap (λ p. cond (ltb a esp) (forgotten p) p) h

pub stack_by_place : StackByPlace
unfolding with_stack
stack_by_place esp0 bytes m n a h = ap (λ p. cond (leb (stack_start esp0) a && ltb a (esp0 + length bytes)) (Some (stack_place esp0 bytes a)) p) h

pub put_all_elsewhere : PutAllElsewhere
unfolding put_all
put_all_elsewhere at [] m a h = refl
put_all_elsewhere at (b ∷ bs) m a h =
    let z : at + 0 ≡ at = omega arith in
    let e : a ≢ wrapped at = λ q. h 0 (omega arith) (rw z q) in
    put_all_elsewhere (at + 1) bs (put (wrapped at) b m) a (λ k l. let y : at + 1 + k ≡ at + suc k = omega arith in rw y (h (suc k) (omega arith))) ∙ put_elsewhere (wrapped at) b m a e

-- two places of one store are different
apart : (at j k : ℕ) → j < k → k < 2 ^ 32 → wrapped (at + j) ≢ wrapped (at + k)
apart at j k l h e = absurd (omega (arith, e))

pub put_all_there : PutAllThere
unfolding put_all
put_all_there at [] m k few h = absurd (omega arith)
put_all_there at (b ∷ bs) m zero few h =
    let z : at + zero ≡ at = omega arith in
    let other : (k : ℕ) → k < length bs → wrapped at ≢ wrapped (at + 1 + k) = λ k l. let y : at + 1 + k ≡ at + suc k = omega arith in rw y (rw z at (apart at 0 (suc k) (omega arith) (omega arith))) in
    rw z (put_all_elsewhere (at + 1) bs (put (wrapped at) b m) (wrapped at) other ∙ put_there (wrapped at) b m)
put_all_there at (b ∷ bs) m (suc k) few h =
    let z : at + suc k ≡ at + 1 + k = omega arith in
    let y : at + 0 ≡ at = omega arith in
    let e : wrapped (at + 1 + k) ≢ wrapped at = λ q. apart at 0 (suc k) (omega arith) (omega arith) (rw (y, z) (sym q)) in
    rw z (put_all_there (at + 1) bs (put (wrapped at) b m) k (omega arith) (omega arith) ∙ ap (with_byte (slice_index_or bs k Unspecified)) (put_elsewhere (wrapped at) b m (wrapped (at + 1 + k)) e))

kind_with : (b : Byte) (o : Option Place) → kind_of (with_byte b o) ≡ kind_of o
kind_with b None = refl
kind_with b (Some p) = refl

kind_either : (t : Bool) (b : Byte) (o : Option Place) → kind_of (cond t (with_byte b o) o) ≡ kind_of o
kind_either true b o = kind_with b o
kind_either false b o = refl

kind_put : (at : ℕ) (b : Byte) (m : Memory) (a : ℕ) → kind_of (put at b m a) ≡ kind_of (m a)
unfolding put
kind_put at b m a = kind_either (a == at) b (m a)

pub put_all_keeps_kinds : PutAllKeepsKinds
unfolding put_all
put_all_keeps_kinds at [] m a = refl
put_all_keeps_kinds at (b ∷ bs) m a = put_all_keeps_kinds (at + 1) bs (put (wrapped at) b m) a ∙ kind_put (wrapped at) b m a

kind_forgotten : (t : Bool) (o : Option Place) → kind_of (cond t (forgotten o) o) ≡ kind_of o
kind_forgotten true None = refl
kind_forgotten true (Some p) = refl
kind_forgotten false o = refl

pub forget_keeps_kinds : ForgetKeepsKinds
unfolding forget_below
forget_keeps_kinds esp m a = kind_forgotten (ltb a esp) (m a)

first : Option (Bool × Bool) → Bool
first None = false
first (Some x) = x.0

allows_by_kind : (kind : AccessKind) (o q : Option Place) → kind_of o ≡ kind_of q → allows kind o ≡ allows kind q
unfolding first
allows_by_kind kind None None h = refl
allows_by_kind kind None (Some q) h = cc
allows_by_kind kind (Some p) None h = cc
allows_by_kind Load (Some p) (Some q) h = refl
allows_by_kind Store (Some p) (Some q) h = ap first h

pub allows_by_kinds : AllowsByKinds
unfolding allows_all
allows_by_kinds kind m n h at zero = refl
allows_by_kinds kind m n h at (suc k) = rw (allows_by_kind kind (m (wrapped at)) (n (wrapped at)) (h (wrapped at)), allows_by_kinds kind m n h (at + 1) k) refl

pub forget_at_below : ForgetBelow
unfolding forget_below
forget_at_below esp m a h = cond-true (ltb a esp) _ _ (lt-ltb a esp h)

pub forget_at_above : ForgetAbove
unfolding forget_below
forget_at_above esp m a h = cond-false (ltb a esp) _ _ (le-ltb a esp h)

abbrev second : Option (Bool × Bool) → Bool
second None = false
second (Some x) = x.1

off_stack : (t w : Bool) (o : Option Place) → kind_of o ≡ Some (w, false) → cond t (forgotten o) o ≡ o
off_stack false w o h = refl
off_stack true w None h = refl
off_stack true w (Some p) h =
    let e : p.on_stack ≡ false = ap second h in
    ap (λ t. Some (record p { byte = cond t Unspecified p.byte })) e

pub forget_off_stack : ForgetOffStack
unfolding forget_below
forget_off_stack esp m a w h = off_stack (ltb a esp) w (m a) h

twice_unspecified : (t : Bool) (b : Byte) → cond t Unspecified (cond t Unspecified b) ≡ cond t Unspecified b
twice_unspecified true b = refl
twice_unspecified false b = refl

twice_forgotten : (o : Option Place) → forgotten (forgotten o) ≡ forgotten o
twice_forgotten None = refl
twice_forgotten (Some p) = ap (λ x. Some (record p { byte = x })) (twice_unspecified p.on_stack p.byte)

twice : (t u : Bool) (o : Option Place) → (u ≡ true → t ≡ true) → cond t (forgotten (cond u (forgotten o) o)) (cond u (forgotten o) o) ≡ cond t (forgotten o) o
twice true true o h = twice_forgotten o
twice true false o h = refl
twice false true o h = let e : false ≡ true = h refl in cc
twice false false o h = refl

pub forget_then_forget : ForgetThenForget
unfolding forget_below
forget_then_forget low high m a h = twice (ltb a high) (ltb a low) (m a) (λ e. lt-ltb a high (omega (arith, ltb-true a low e)))

same_shift : (m n : Memory) (at k : ℕ) → SameIn at (suc k) m n → SameIn (at + 1) k m n
same_shift m n at k h = record { places = λ i l. let z : at + 1 + i ≡ at + suc i = omega arith in rw z (h.places (suc i) (omega arith)) }

same_first : (m n : Memory) (at k : ℕ) → SameIn at (suc k) m n → m (wrapped at) ≡ n (wrapped at)
same_first m n at k h = let z : at + 0 ≡ at = omega arith in rw z at (h.places 0 (omega arith))

pub allows_in_same : AllowsInSame
unfolding allows_all
allows_in_same kind m n at zero h = refl
allows_in_same kind m n at (suc k) h = rw (ap (allows kind) (same_first m n at k h), allows_in_same kind m n (at + 1) k (same_shift m n at k h)) refl

pub bytes_in_same : BytesInSame
unfolding bytes_at
bytes_in_same m n at zero h = refl
bytes_in_same m n at (suc k) h = rw (ap byte_of (same_first m n at k h), bytes_in_same m n (at + 1) k (same_shift m n at k h)) refl

byte_put : (kind : AccessKind) (b : Byte) (o : Option Place) → allows kind o ≡ true → byte_of (with_byte b o) ≡ b
byte_put kind b None h = cc
byte_put kind b (Some p) h = refl

joined : (x y : Byte) (xs ys : List Byte) → x ≡ y → xs ≡ ys → x ∷ xs ≡ y ∷ ys
joined x y xs ys p q = cc

pub stored_is_loaded : StoredIsLoaded
unfolding put_all allows_all bytes_at
stored_is_loaded kind at [] m few h = refl
stored_is_loaded kind at (b ∷ bs) m few h =
    let p = and_parts (allows kind (m (wrapped at))) (allows_all kind m (at + 1) (length bs)) h in
    let z : at + 0 ≡ at = omega arith in
    let other : (k : ℕ) → k < length bs → wrapped at ≢ wrapped (at + 1 + k) = λ k l. let y : at + 1 + k ≡ at + suc k = omega arith in rw y (rw z at (apart at 0 (suc k) (omega arith) (omega arith))) in
    let here : byte_of (put_all (at + 1) bs (put (wrapped at) b m) (wrapped at)) ≡ b =
    ap byte_of (put_all_elsewhere (at + 1) bs (put (wrapped at) b m) (wrapped at) other ∙ put_there (wrapped at) b m) ∙ byte_put kind b (m (wrapped at)) p.0 in
    let same = allows_by_kinds kind (put (wrapped at) b m) m (kind_put (wrapped at) b m) (at + 1) (length bs) in
    joined _ _ _ _ here (stored_is_loaded kind (at + 1) bs (put (wrapped at) b m) (omega arith) (same ∙ p.1))
