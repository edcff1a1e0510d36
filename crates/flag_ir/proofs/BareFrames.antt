-- Frames without their locals, by which nothing but locals is read: what holds of them holds of all frames with the same outlines and bytes.
use Rattle.std.proofs.Common.{◌≡◌, ℕ, zero, suc, ◌+◌, ◌&&◌, Bool, true, false, cond, List, [], ◌∷◌, map, find, is_some, option_map, Option, Some, None, Result, Ok, Err, refl, sym, ap, ◌∙◌, ℤ}
use Rattle.x86_values.specs.declared.byte.Byte.{Byte}
use Rattle.x86_values.specs.declared.word.Word.{Word}
use Rattle.x86_values.specs.Words.{padded}
use Rattle.x86_values.specs.Sizes.{no_word}
use Rattle.traces.specs.Trace.{End, Outside}
use Rattle.memory.specs.Memory.{Memory, Stored, wrapped}
use Rattle.flag_ir.specs.declared.procedure.FrameKind.{FrameKind}
use Rattle.flag_ir.specs.declared.procedure.FrameKind.TheVariants.{Sealed, Guarded, Shared}
use Rattle.flag_ir.specs.Storage.{Frame}
use Rattle.flag_ir.specs.Frames.{covers, with_image, is_shared, shared_chain, reached_by, reached_frames, all_covered, byte_by, bytes_in, put_shared, put_by, put_near, put_near_all, store_near_all, outermost_top, seen_place, seen_memory}
use Rattle.flag_ir.specs.Operations.{at_offset, get_of, with_bytes}
use Rattle.flag_ir.specs.Reads.{images, Outline, outline, outlines}

abbrev pub bare : Frame → Frame
bare f = record f { locals = λ n. no_word }

abbrev pub bares : List Frame → List Frame
bares frames = map bare frames

-- ---- they are the same where outlines and bytes are
built : Outline → (ℕ → Byte) → Frame
built o image = record { proc = o.proc; height = o.height; word = o.word; ebp = o.ebp; back = o.back; image = image; locals = λ n. no_word }

bare_same : (f g : Frame) → outline f ≡ outline g → f.image ≡ g.image → bare f ≡ bare g
unfolding built
bare_same f g h k = ap (λ (o : Outline). built o f.image) h ∙ ap (built (outline g)) k

-- the parts of an equation of lists
pub heads : {A : Type 0} (a b : A) (xs ys : List A) → a ∷ xs ≡ b ∷ ys → a ≡ b
heads a b xs ys h = cc

pub tails : {A : Type 0} (a b : A) (xs ys : List A) → a ∷ xs ≡ b ∷ ys → xs ≡ ys
tails a b xs ys h = cc

pub bares_same : (fs gs : List Frame) → outlines fs ≡ outlines gs → images fs ≡ images gs → bares fs ≡ bares gs
bares_same [] [] h k = refl
bares_same [] (g ∷ gs) h k = absurd cc
bares_same (f ∷ fs) [] h k = absurd cc
bares_same (f ∷ fs) (g ∷ gs) h k =
    let first : bare f ≡ bare g = bare_same f g (heads _ _ _ _ h) (heads _ _ _ _ k) in
    let others : bares fs ≡ bares gs = bares_same fs gs (tails _ _ _ _ h) (tails _ _ _ _ k) in
    ap (λ (x : Frame). x ∷ bares fs) first ∙ ap (λ (xs : List Frame). bare g ∷ xs) others

-- so is whatever they tell
pub by_bares : {A : Type 0} (F : List Frame → A) → ((fs : List Frame) → F (bares fs) ≡ F fs) → (fs gs : List Frame) → bares fs ≡ bares gs → F fs ≡ F gs
by_bares F h fs gs e = sym (h fs) ∙ ap F e ∙ h gs

-- ---- reading
found_bare : (a : ℕ) (fs : List Frame) → find (covers a) (bares fs) ≡ option_map bare (find (covers a) fs)
found_bare a [] = refl
found_bare a (f ∷ fs) = go (covers a f) (found_bare a fs)
  where
    go : (t : Bool) → find (covers a) (bares fs) ≡ option_map bare (find (covers a) fs) → cond t (Some (bare f)) (find (covers a) (bares fs)) ≡ option_map bare (cond t (Some f) (find (covers a) fs))
    go true h = refl
    go false h = h

some_bare : (o : Option Frame) → is_some (option_map bare o) ≡ is_some o
some_bare None = refl
some_bare (Some f) = refl

covered_bare : (fs : List Frame) (at n : ℕ) → all_covered (bares fs) at n ≡ all_covered fs at n
unfolding all_covered
covered_bare fs at zero = refl
covered_bare fs at (suc n) =
    let first : is_some (find (covers (wrapped at)) (bares fs)) ≡ is_some (find (covers (wrapped at)) fs) = ap is_some (found_bare (wrapped at) fs) ∙ some_bare (find (covers (wrapped at)) fs) in
    ap (λ (t : Bool). t && all_covered (bares fs) (at + 1) n) first ∙ ap (λ (t : Bool). is_some (find (covers (wrapped at)) fs) && t) (covered_bare fs (at + 1) n)

byte_bare : (o : Option Frame) (a : ℕ) (m : Memory) → byte_by (option_map bare o) a m ≡ byte_by o a m
byte_bare None a m = refl
byte_bare (Some f) a m = refl

bytes_bare : (fs : List Frame) (m : Memory) (at n : ℕ) → bytes_in (bares fs) m at n ≡ bytes_in fs m at n
unfolding bytes_in
bytes_bare fs m at zero = refl
bytes_bare fs m at (suc n) =
    let first : byte_by (find (covers (wrapped at)) (bares fs)) (wrapped at) m ≡ byte_by (find (covers (wrapped at)) fs) (wrapped at) m =
    ap (λ (o : Option Frame). byte_by o (wrapped at) m) (found_bare (wrapped at) fs) ∙ byte_bare (find (covers (wrapped at)) fs) (wrapped at) m in
    ap (λ (b : Byte). b ∷ bytes_in (bares fs) m (at + 1) n) first ∙ ap (λ (bs : List Byte). byte_by (find (covers (wrapped at)) fs) (wrapped at) m ∷ bs) (bytes_bare fs m (at + 1) n)

chain_bare : (fs : List Frame) → shared_chain (bares fs) ≡ bares (shared_chain fs)
unfolding shared_chain
chain_bare [] = refl
chain_bare (f ∷ fs) = go (is_shared f.proc.kind) (chain_bare fs)
  where
    go : (t : Bool) → shared_chain (bares fs) ≡ bares (shared_chain fs) → cond t (bare f ∷ shared_chain (bares fs)) [] ≡ bares (cond t (f ∷ shared_chain fs) [])
    go true h = ap (λ (xs : List Frame). bare f ∷ xs) h
    go false h = refl

reached_by_bare : (kind : FrameKind) (f : Frame) (fs : List Frame) → reached_by kind (bare f) (bares fs) ≡ bares (reached_by kind f fs)
reached_by_bare Sealed f fs = refl
reached_by_bare Guarded f fs = refl
reached_by_bare Shared f fs = ap (λ (xs : List Frame). bare f ∷ xs) (chain_bare fs)

reached_bare : (fs : List Frame) → reached_frames (bares fs) ≡ bares (reached_frames fs)
reached_bare [] = refl
reached_bare (f ∷ fs) = reached_by_bare f.proc.kind f fs

seen_bare : (o : Option Frame) (a : ℕ) (m : Memory) → seen_place (option_map bare o) a m ≡ seen_place o a m
seen_bare None a m = refl
seen_bare (Some f) a m = refl

memory_bare : (fs : List Frame) (m : Memory) → seen_memory (bares fs) m ≡ seen_memory fs m
unfolding seen_memory
memory_bare fs m = λ i a. at a i
  where
    at : (a : ℕ) → seen_place (find (covers a) (bares fs)) a m ≡ seen_place (find (covers a) fs) a m
    at a = ap (λ (o : Option Frame). seen_place o a m) (found_bare a fs) ∙ seen_bare (find (covers a) fs) a m

outermost_bare : (fs : List Frame) → outermost_top (bares fs) ≡ outermost_top fs
outermost_bare [] = refl
outermost_bare (f ∷ []) = refl
outermost_bare (f ∷ g ∷ fs) = outermost_bare (g ∷ fs)

-- ---- writing
shared_bare : (a : ℕ) (b : Byte) (fs : List Frame) → put_shared a b (bares fs) ≡ bares (put_shared a b fs)
unfolding put_shared
shared_bare a b [] = refl
shared_bare a b (f ∷ fs) = go (is_shared f.proc.kind) (covers a f) (shared_bare a b fs)
  where
    go : (s t : Bool) → put_shared a b (bares fs) ≡ bares (put_shared a b fs) → cond s (cond t (with_image a b (bare f) ∷ bares fs) (bare f ∷ put_shared a b (bares fs))) (bare f ∷ bares fs) ≡ bares (cond s (cond t (with_image a b f ∷ fs) (f ∷ put_shared a b fs)) (f ∷ fs))
    go true true h = refl
    go true false h = ap (λ (xs : List Frame). bare f ∷ xs) h
    go false t h = refl

put_by_bare : (kind : FrameKind) (a : ℕ) (b : Byte) (f : Frame) (fs : List Frame) → put_by kind a b (bare f) (bares fs) ≡ bares (put_by kind a b f fs)
put_by_bare Sealed a b f fs = refl
put_by_bare Guarded a b f fs = refl
put_by_bare Shared a b f fs = shared_bare a b (f ∷ fs)

near_bare : (a : ℕ) (b : Byte) (fs : List Frame) → put_near a b (bares fs) ≡ bares (put_near a b fs)
near_bare a b [] = refl
near_bare a b (f ∷ fs) = put_by_bare f.proc.kind a b f fs

near_all_bare : (at : ℕ) (bs : List Byte) (fs : List Frame) → put_near_all at bs (bares fs) ≡ bares (put_near_all at bs fs)
unfolding put_near_all
near_all_bare at [] fs = refl
near_all_bare at (b ∷ bs) fs = ap (put_near_all (at + 1) bs) (near_bare (wrapped at) b fs) ∙ near_all_bare (at + 1) bs (put_near (wrapped at) b fs)

stores_bare : (stores : List Stored) (fs : List Frame) → store_near_all stores (bares fs) ≡ bares (store_near_all stores fs)
stores_bare [] fs = refl
stores_bare (s ∷ more) fs = ap (store_near_all more) (near_all_bare s.at s.bytes fs) ∙ stores_bare more (put_near_all s.at s.bytes fs)

pub images_bare : (fs : List Frame) → images (bares fs) ≡ images fs
images_bare [] = refl
images_bare (f ∷ fs) = ap (λ (xs : List (ℕ → Byte)). f.image ∷ xs) (images_bare fs)

-- ---- of frames that are the same without their locals
module _ (fs gs : List Frame) (same : bares fs ≡ bares gs) where
  pub covered_alike : (at n : ℕ) → all_covered (reached_frames fs) at n ≡ all_covered (reached_frames gs) at n
  covered_alike at n = by_bares (λ xs. all_covered (reached_frames xs) at n) (λ xs. ap (λ (ys : List Frame). all_covered ys at n) (reached_bare xs) ∙ covered_bare (reached_frames xs) at n) fs gs same

  pub bytes_alike : (m : Memory) (at n : ℕ) → bytes_in (reached_frames fs) m at n ≡ bytes_in (reached_frames gs) m at n
  bytes_alike m at n = by_bares (λ xs. bytes_in (reached_frames xs) m at n) (λ xs. ap (λ (ys : List Frame). bytes_in ys m at n) (reached_bare xs) ∙ bytes_bare (reached_frames xs) m at n) fs gs same

  pub memory_alike : (m : Memory) → seen_memory (reached_frames fs) m ≡ seen_memory (reached_frames gs) m
  memory_alike m = by_bares (λ xs. seen_memory (reached_frames xs) m) (λ xs. ap (λ (ys : List Frame). seen_memory ys m) (reached_bare xs) ∙ memory_bare (reached_frames xs) m) fs gs same

  pub outermost_alike : outermost_top fs ≡ outermost_top gs
  outermost_alike = by_bares outermost_top outermost_bare fs gs same

  pub put_alike : (at : ℕ) (bs : List Byte) → images (put_near_all at bs fs) ≡ images (put_near_all at bs gs)
  put_alike at bs = by_bares (λ xs. images (put_near_all at bs xs)) (λ xs. ap images (near_all_bare at bs xs) ∙ images_bare (put_near_all at bs xs)) fs gs same

  pub stores_alike : (stores : List Stored) → images (store_near_all stores fs) ≡ images (store_near_all stores gs)
  stores_alike stores = by_bares (λ xs. images (store_near_all stores xs)) (λ xs. ap images (stores_bare stores xs) ∙ images_bare (store_near_all stores xs)) fs gs same

-- ---- a fixed place of the innermost frame
with_bytes_bare : (at : ℕ) (bs : List Byte) (f : Frame) → with_bytes at bs (bare f) ≡ bare (with_bytes at bs f)
unfolding with_bytes
with_bytes_bare at [] f = refl
with_bytes_bare at (b ∷ bs) f = with_bytes_bare (at + 1) bs (with_image (wrapped at) b f)

-- bytes that frames cover don't depend on memory
pub covered_first : (s t : Bool) → (s && t) ≡ true → s ≡ true
covered_first true t h = refl
covered_first false t h = absurd cc

pub covered_rest : (s t : Bool) → (s && t) ≡ true → t ≡ true
covered_rest true t h = h
covered_rest false t h = absurd cc

found_byte : (o : Option Frame) (a : ℕ) (m n : Memory) → is_some o ≡ true → byte_by o a m ≡ byte_by o a n
found_byte None a m n h = absurd cc
found_byte (Some f) a m n h = refl

pub covered_bytes : (fs : List Frame) (m n : Memory) (at count : ℕ) → all_covered fs at count ≡ true → bytes_in fs m at count ≡ bytes_in fs n at count
unfolding all_covered bytes_in
covered_bytes fs m n at zero h = refl
covered_bytes fs m n at (suc count) h =
    let first : byte_by (find (covers (wrapped at)) fs) (wrapped at) m ≡ byte_by (find (covers (wrapped at)) fs) (wrapped at) n = found_byte (find (covers (wrapped at)) fs) (wrapped at) m n (covered_first _ _ h) in
    let others : bytes_in fs m (at + 1) count ≡ bytes_in fs n (at + 1) count = covered_bytes fs m n (at + 1) count (covered_rest (is_some (find (covers (wrapped at)) fs)) _ h) in
    ap (λ (b : Byte). b ∷ bytes_in fs m (at + 1) count) first ∙ ap (λ (bs : List Byte). byte_by (find (covers (wrapped at)) fs) (wrapped at) n ∷ bs) others

-- a load from there
load_by : (t : Bool) (xs ys : List Byte) → (t ≡ true → xs ≡ ys) → cond {A = Result Word End} t (Ok (padded xs)) (Err Outside) ≡ cond t (Ok (padded ys)) (Err Outside)
load_by true xs ys h = ap (λ (bs : List Byte). Ok (padded bs)) (h refl)
load_by false xs ys h = refl

pub get_by_frame : (size : ℕ) (offset : ℤ) (m n : Memory) (f : Frame) (fs gs : List Frame) → get_of size offset m (f ∷ fs) ≡ get_of size offset n (f ∷ gs)
get_by_frame size offset m n f fs gs = load_by (all_covered (f ∷ []) (at_offset f.height offset) size) _ _ (λ h. covered_bytes (f ∷ []) m n (at_offset f.height offset) size h)

get_bare : (size : ℕ) (offset : ℤ) (m : Memory) (fs : List Frame) → get_of size offset m (bares fs) ≡ get_of size offset m fs
get_bare size offset m [] = refl
get_bare size offset m (f ∷ fs) =
    let at = at_offset f.height offset in
    ap (λ (t : Bool). cond t (Ok (padded (bytes_in (bare f ∷ []) m at size))) (Err Outside)) (covered_bare (f ∷ []) at size) ∙ ap (λ (bs : List Byte). cond (all_covered (f ∷ []) at size) (Ok (padded bs)) (Err Outside)) (bytes_bare (f ∷ []) m at size)

pub get_by_frames : (size : ℕ) (offset : ℤ) (m n : Memory) (fs : List Frame) → get_of size offset m fs ≡ get_of size offset n fs
get_by_frames size offset m n [] = refl
get_by_frames size offset m n (f ∷ fs) = get_by_frame size offset m n f fs fs

pub get_alike : (size : ℕ) (offset : ℤ) (m n : Memory) (fs gs : List Frame) → bares fs ≡ bares gs → get_of size offset m fs ≡ get_of size offset n gs
get_alike size offset m n fs gs same = by_bares (get_of size offset m) (get_bare size offset m) fs gs same ∙ get_by_frames size offset m n gs

module _ (f g : Frame) (same : bare f ≡ bare g) where
  one_same : bares (f ∷ []) ≡ bares (g ∷ [])
  one_same = ap (λ (x : Frame). x ∷ []) same

  pub head_covered_alike : (at n : ℕ) → all_covered (f ∷ []) at n ≡ all_covered (g ∷ []) at n
  head_covered_alike at n = by_bares (λ xs. all_covered xs at n) (λ xs. covered_bare xs at n) (f ∷ []) (g ∷ []) one_same

  pub head_bytes_alike : (m : Memory) (at n : ℕ) → bytes_in (f ∷ []) m at n ≡ bytes_in (g ∷ []) m at n
  head_bytes_alike m at n = by_bares (λ xs. bytes_in xs m at n) (λ xs. bytes_bare xs m at n) (f ∷ []) (g ∷ []) one_same

  pub head_put_alike : (at : ℕ) (bs : List Byte) → (with_bytes at bs f).image ≡ (with_bytes at bs g).image
  head_put_alike at bs = ap (λ (x : Frame). x.image) (sym (with_bytes_bare at bs f) ∙ ap (with_bytes at bs) same ∙ with_bytes_bare at bs g)
