-- Open frames are monotone in what is specified: which of them an address reaches is the same, and what is read is less specified.
use Rattle.std.proofs.Common.{◌≡◌, ℕ, zero, suc, ◌+◌, ◌==◌, Bool, true, false, cond, List, [], ◌∷◌, find, is_some, All, Option, Some, None, refl, ap, subst}
use Rattle.std.proofs.lemmas.List.Elements.{All-head, All-tail}
use Rattle.x86_values.specs.declared.byte.Byte.{Byte}
use Rattle.x86_values.specs.declared.byte.Byte.TheVariants.{Known, Unspecified}
use Rattle.x86_values.specs.Words.{IsByte}
use Rattle.x86_values.specs.LessSpecified.{ByteLessSpecified, BytesLessSpecified}
use Rattle.memory.specs.Memory.{Place, Memory, Stored, wrapped, byte_of, with_byte, put}
use Rattle.memory.specs.LessSpecified.{PlaceLessSpecified, MemoryLessSpecified}
use Rattle.memory.specs.CallLaws.{StoresBytes}
use Rattle.flag_ir.specs.declared.procedure.FrameKind.{FrameKind}
use Rattle.flag_ir.specs.declared.procedure.FrameKind.TheVariants.{Sealed, Guarded, Shared}
use Rattle.flag_ir.specs.declared.procedure.Proc.{Proc}
use Rattle.flag_ir.specs.Storage.{Frame, Storage}
use Rattle.flag_ir.specs.Frames.{top_of, covers, is_argument, with_image, is_shared, shared_chain, reached_by, reached_frames, all_covered, byte_by, bytes_in, put_shared, put_by, put_near, put_near_all, store_near_all, outermost_top, is_judged, seen_place, seen_memory, caller_byte, with_caller_byte, copied_back, forgotten_in, forget_chain, forget_by}
use Rattle.flag_ir.specs.Operations.{with_bytes}
use Rattle.flag_ir.specs.LessSpecified.{FrameLessSpecified, FramesLessSpecified, StorageLessSpecified}
use Rattle.flag_ir.proofs.ValuesLess.{byte_either}

-- ---- memory, a place at a time
pub place_byte_less : (o q : Option Place) → PlaceLessSpecified o q → ByteLessSpecified (byte_of o) (byte_of q)
place_byte_less None q h = tt
place_byte_less (Some p) None h = absurd h
place_byte_less (Some p) (Some q) h = h.byte

place_put_less : (b c : Byte) (o q : Option Place) → ByteLessSpecified b c → PlaceLessSpecified o q → PlaceLessSpecified (with_byte b o) (with_byte c q)
place_put_less b c None None h k = tt
place_put_less b c None (Some q) h k = absurd k
place_put_less b c (Some p) None h k = absurd k
place_put_less b c (Some p) (Some q) h k = record { byte = h; can_write = k.can_write; on_stack = k.on_stack }

place_either : (t : Bool) (o p q r : Option Place) → PlaceLessSpecified o q → PlaceLessSpecified p r → PlaceLessSpecified (cond t o p) (cond t q r)
place_either true o p q r h k = h
place_either false o p q r h k = k

pub put_less : (at : ℕ) (b c : Byte) (m n : Memory) → ByteLessSpecified b c → MemoryLessSpecified m n → MemoryLessSpecified (put at b m) (put at c n)
unfolding put
put_less at b c m n h k = record { places = λ a. place_either (a == at) _ _ _ _ (place_put_less b c (m a) (n a) h (k.places a)) (k.places a) }

-- ---- the frames that have a byte
pub covers_same : (a : ℕ) (f g : Frame) → FrameLessSpecified f g → covers a f ≡ covers a g
covers_same a f g h = rw (h.proc, h.height) refl

pub frames_either : (s t : Bool) (xs ys us vs : List Frame) → s ≡ t → FramesLessSpecified xs us → FramesLessSpecified ys vs → FramesLessSpecified (cond s xs ys) (cond t us vs)
frames_either s t xs ys us vs e h k = subst (λ (b : Bool). FramesLessSpecified (cond s xs ys) (cond b us vs)) e (go s)
  where
    go : (s : Bool) → FramesLessSpecified (cond s xs ys) (cond s us vs)
    go true = h
    go false = k

abbrev pub FoundLess : Option Frame → Option Frame → Type 0
FoundLess None o = o ≡ None
FoundLess (Some f) None = ⊥
FoundLess (Some f) (Some g) = FrameLessSpecified f g

found_either : (s t : Bool) (o p q r : Option Frame) → s ≡ t → FoundLess o q → FoundLess p r → FoundLess (cond s o p) (cond t q r)
found_either s t o p q r e h k = subst (λ (b : Bool). FoundLess (cond s o p) (cond b q r)) e (go s)
  where
    go : (s : Bool) → FoundLess (cond s o p) (cond s q r)
    go true = h
    go false = k

pub find_less : (a : ℕ) (fs gs : List Frame) → FramesLessSpecified fs gs → FoundLess (find (covers a) fs) (find (covers a) gs)
find_less a [] gs h = rw h refl
find_less a (f ∷ fs) [] h = absurd h
find_less a (f ∷ fs) (g ∷ gs) h = found_either (covers a f) (covers a g) (Some f) _ (Some g) _ (covers_same a f g h.0) h.0 (find_less a fs gs h.1)

found_same : (o p : Option Frame) → FoundLess o p → is_some o ≡ is_some p
found_same None p h = rw h refl
found_same (Some f) None h = absurd h
found_same (Some f) (Some g) h = refl

pub covered_same : (fs gs : List Frame) (at n : ℕ) → FramesLessSpecified fs gs → all_covered fs at n ≡ all_covered gs at n
unfolding all_covered
covered_same fs gs at zero h = refl
covered_same fs gs at (suc n) h =
    let first : is_some (find (covers (wrapped at)) fs) ≡ is_some (find (covers (wrapped at)) gs) = found_same _ _ (find_less (wrapped at) fs gs h) in
    let others : all_covered fs (at + 1) n ≡ all_covered gs (at + 1) n = covered_same fs gs (at + 1) n h in
    rw (first, others) refl

-- ---- the frames that are reached
shared_same : (f g : Frame) → FrameLessSpecified f g → is_shared f.proc.kind ≡ is_shared g.proc.kind
shared_same f g h = ap (λ (p : Proc). is_shared p.kind) h.proc

chain_less : (fs gs : List Frame) → FramesLessSpecified fs gs → FramesLessSpecified (shared_chain fs) (shared_chain gs)
unfolding shared_chain
chain_less [] gs h = rw h refl
chain_less (f ∷ fs) [] h = absurd h
chain_less (f ∷ fs) (g ∷ gs) h = frames_either (is_shared f.proc.kind) (is_shared g.proc.kind) (f ∷ shared_chain fs) [] (g ∷ shared_chain gs) [] (shared_same f g h.0) (h.0, chain_less fs gs h.1) refl

by_kind_less : (kind : FrameKind) (f g : Frame) (fs gs : List Frame) → FrameLessSpecified f g → FramesLessSpecified fs gs → FramesLessSpecified (reached_by kind f fs) (reached_by kind g gs)
by_kind_less Sealed f g fs gs h k = refl
by_kind_less Guarded f g fs gs h k = (h, refl)
by_kind_less Shared f g fs gs h k = (h, chain_less fs gs k)

pub reached_less : (fs gs : List Frame) → FramesLessSpecified fs gs → FramesLessSpecified (reached_frames fs) (reached_frames gs)
reached_less [] gs h = rw h refl
reached_less (f ∷ fs) [] h = absurd h
reached_less (f ∷ fs) (g ∷ gs) h = subst (λ (p : Proc). FramesLessSpecified (reached_by f.proc.kind f fs) (reached_by p.kind g gs)) h.0.proc (by_kind_less f.proc.kind f g fs gs h.0 h.1)

-- ---- reading
byte_less : (o p : Option Frame) (a : ℕ) (m n : Memory) → FoundLess o p → MemoryLessSpecified m n → ByteLessSpecified (byte_by o a m) (byte_by p a n)
byte_less None p a m n h k = rw h (place_byte_less (m a) (n a) (k.places a))
byte_less (Some f) None a m n h k = absurd h
byte_less (Some f) (Some g) a m n h k = h.image a

pub bytes_less : (fs gs : List Frame) (m n : Memory) (at count : ℕ) → FramesLessSpecified fs gs → MemoryLessSpecified m n → BytesLessSpecified (bytes_in fs m at count) (bytes_in gs n at count)
unfolding bytes_in
bytes_less fs gs m n at zero h k = refl
bytes_less fs gs m n at (suc count) h k = (byte_less _ _ (wrapped at) m n (find_less (wrapped at) fs gs h) k, bytes_less fs gs m n (at + 1) count h k)

seen_less : (o p : Option Frame) (a : ℕ) (m n : Memory) → FoundLess o p → MemoryLessSpecified m n → PlaceLessSpecified (seen_place o a m) (seen_place p a n)
seen_less None p a m n h k = rw h (k.places a)
seen_less (Some f) None a m n h k = absurd h
seen_less (Some f) (Some g) a m n h k = record { byte = h.image a; can_write = refl; on_stack = refl }

pub seen_memory_less : (fs gs : List Frame) (m n : Memory) → FramesLessSpecified fs gs → MemoryLessSpecified m n → MemoryLessSpecified (seen_memory fs m) (seen_memory gs n)
unfolding seen_memory
seen_memory_less fs gs m n h k = record { places = λ a. seen_less _ _ a m n (find_less a fs gs h) k }

-- ---- writing
pub image_less : (a : ℕ) (b c : Byte) (f g : Frame) → ByteLessSpecified b c → FrameLessSpecified f g → FrameLessSpecified (with_image a b f) (with_image a c g)
image_less a b c f g h k = record { proc = k.proc; height = k.height; word = k.word; ebp = k.ebp; back = k.back; image = λ d. byte_either (d == a) b (f.image d) c (g.image d) h (k.image d); locals = k.locals }

put_shared_less : (a : ℕ) (b c : Byte) (fs gs : List Frame) → ByteLessSpecified b c → FramesLessSpecified fs gs → FramesLessSpecified (put_shared a b fs) (put_shared a c gs)
unfolding put_shared
put_shared_less a b c [] gs h k = rw k refl
put_shared_less a b c (f ∷ fs) [] h k = absurd k
put_shared_less a b c (f ∷ fs) (g ∷ gs) h k =
    frames_either (is_shared f.proc.kind) (is_shared g.proc.kind) _ (f ∷ fs) _ (g ∷ gs) (shared_same f g k.0)
    (frames_either (covers a f) (covers a g) (with_image a b f ∷ fs) (f ∷ put_shared a b fs) (with_image a c g ∷ gs) (g ∷ put_shared a c gs) (covers_same a f g k.0) (image_less a b c f g h k.0, k.1) (k.0, put_shared_less a b c fs gs h k.1)) k

put_by_less : (kind : FrameKind) (a : ℕ) (b c : Byte) (f g : Frame) (fs gs : List Frame) → ByteLessSpecified b c → FrameLessSpecified f g → FramesLessSpecified fs gs → FramesLessSpecified (put_by kind a b f fs) (put_by kind a c g gs)
put_by_less Sealed a b c f g fs gs h k l = (k, l)
put_by_less Guarded a b c f g fs gs h k l = (image_less a b c f g h k, l)
put_by_less Shared a b c f g fs gs h k l = put_shared_less a b c (f ∷ fs) (g ∷ gs) h (k, l)

put_near_less : (a : ℕ) (b c : Byte) (fs gs : List Frame) → ByteLessSpecified b c → FramesLessSpecified fs gs → FramesLessSpecified (put_near a b fs) (put_near a c gs)
put_near_less a b c [] gs h k = rw k refl
put_near_less a b c (f ∷ fs) [] h k = absurd k
put_near_less a b c (f ∷ fs) (g ∷ gs) h k = subst (λ (p : Proc). FramesLessSpecified (put_by f.proc.kind a b f fs) (put_by p.kind a c g gs)) k.0.proc (put_by_less f.proc.kind a b c f g fs gs h k.0 k.1)

pub put_near_all_less : (at : ℕ) (bs cs : List Byte) (fs gs : List Frame) → BytesLessSpecified bs cs → FramesLessSpecified fs gs → FramesLessSpecified (put_near_all at bs fs) (put_near_all at cs gs)
unfolding put_near_all
put_near_all_less at [] cs fs gs h k = rw h k
put_near_all_less at (b ∷ bs) [] fs gs h k = absurd h
put_near_all_less at (b ∷ bs) (c ∷ cs) fs gs h k = put_near_all_less (at + 1) bs cs _ _ h.1 (put_near_less (wrapped at) b c fs gs h.0 k)

-- the bytes that a call stores are known
pub bytes_themselves : (bs : List Byte) → All IsByte bs → BytesLessSpecified bs bs
bytes_themselves [] h = refl
bytes_themselves (Known a ∷ bs) h = ((refl, All-head IsByte (Known a) bs h), bytes_themselves bs (All-tail IsByte (Known a) bs h))
bytes_themselves (Unspecified ∷ bs) h = (tt, bytes_themselves bs (All-tail IsByte Unspecified bs h))

pub store_near_less : (stores : List Stored) (fs gs : List Frame) → StoresBytes stores → FramesLessSpecified fs gs → FramesLessSpecified (store_near_all stores fs) (store_near_all stores gs)
store_near_less [] fs gs h k = k
store_near_less (s ∷ more) fs gs h k =
    let P : Stored → Type 0 = λ (x : Stored). All IsByte x.bytes in
    store_near_less more _ _ (All-tail P s more h) (put_near_all_less s.at s.bytes s.bytes fs gs (bytes_themselves s.bytes (All-head P s more h)) k)

pub with_bytes_less : (at : ℕ) (bs cs : List Byte) (f g : Frame) → BytesLessSpecified bs cs → FrameLessSpecified f g → FrameLessSpecified (with_bytes at bs f) (with_bytes at cs g)
unfolding with_bytes
with_bytes_less at [] cs f g h k = rw h k
with_bytes_less at (b ∷ bs) [] f g h k = absurd h
with_bytes_less at (b ∷ bs) (c ∷ cs) f g h k = with_bytes_less (at + 1) bs cs _ _ h.1 (image_less (wrapped at) b c f g h.0 k)

-- ---- judging
top_same : (f g : Frame) → FrameLessSpecified f g → top_of f ≡ top_of g
top_same f g h = rw (h.proc, h.height) refl

outermost_same : (fs gs : List Frame) → FramesLessSpecified fs gs → outermost_top fs ≡ outermost_top gs
outermost_same [] gs h = rw h refl
outermost_same (f ∷ []) [] h = absurd h
outermost_same (f ∷ []) (g ∷ gs) h = rw h.1 (top_same f g h.0)
outermost_same (f ∷ e ∷ fs) [] h = absurd h
outermost_same (f ∷ e ∷ fs) (g ∷ []) h = absurd h.1
outermost_same (f ∷ e ∷ fs) (g ∷ i ∷ gs) h = outermost_same (e ∷ fs) (i ∷ gs) h.1

pub judged_same : (at : ℕ) (u v : Storage) → StorageLessSpecified u v → is_judged at u ≡ is_judged at v
judged_same at u v h = rw (h.esp0, outermost_same u.frames v.frames h.frames) refl

-- ---- a frame and its caller
pub caller_byte_less : (fs gs : List Frame) (m n : Memory) (a : ℕ) → FramesLessSpecified fs gs → MemoryLessSpecified m n → ByteLessSpecified (caller_byte fs m a) (caller_byte gs n a)
caller_byte_less [] gs m n a h k = rw h (place_byte_less (m a) (n a) (k.places a))
caller_byte_less (f ∷ fs) [] m n a h k = absurd h
caller_byte_less (f ∷ fs) (g ∷ gs) m n a h k =
    subst (λ (t : Bool). ByteLessSpecified (cond (covers a f) (f.image a) (byte_of (m a))) (cond t (g.image a) (byte_of (n a)))) (covers_same a f g h.0) (byte_either (covers a f) (f.image a) (byte_of (m a)) (g.image a) (byte_of (n a)) (h.0.image a) (place_byte_less (m a) (n a) (k.places a)))

storage_either : (s t : Bool) (x y u v : Storage) → s ≡ t → StorageLessSpecified x u → StorageLessSpecified y v → StorageLessSpecified (cond s x y) (cond t u v)
storage_either s t x y u v e h k = subst (λ (b : Bool). StorageLessSpecified (cond s x y) (cond b u v)) e (go s)
  where
    go : (s : Bool) → StorageLessSpecified (cond s x y) (cond s u v)
    go true = h
    go false = k

pub other_memory : (m n : Memory) (u v : Storage) → MemoryLessSpecified m n → StorageLessSpecified u v → StorageLessSpecified (record u { memory = m }) (record v { memory = n })
other_memory m n u v h k = record { regs = k.regs; flags = k.flags; temps = k.temps; memory = h; left = k.left; environment = k.environment; frames = k.frames; esp0 = k.esp0 }

pub other_frames : (fs gs : List Frame) (u v : Storage) → FramesLessSpecified fs gs → StorageLessSpecified u v → StorageLessSpecified (record u { frames = fs }) (record v { frames = gs })
other_frames fs gs u v h k = record { regs = k.regs; flags = k.flags; temps = k.temps; memory = k.memory; left = k.left; environment = k.environment; frames = h; esp0 = k.esp0 }

caller_put_less : (a : ℕ) (b c : Byte) (u v : Storage) (fs gs : List Frame) → ByteLessSpecified b c → StorageLessSpecified u v → FramesLessSpecified fs gs → StorageLessSpecified (with_caller_byte a b u fs) (with_caller_byte a c v gs)
caller_put_less a b c u v [] gs h k l = rw l (other_memory _ _ u v (put_less a b c u.memory v.memory h k.memory) k)
caller_put_less a b c u v (f ∷ fs) [] h k l = absurd l
caller_put_less a b c u v (f ∷ fs) (g ∷ gs) h k l =
    storage_either (covers a f) (covers a g) _ _ _ _ (covers_same a f g l.0) (other_frames (with_image a b f ∷ fs) (with_image a c g ∷ gs) u v (image_less a b c f g h l.0, l.1) k) (other_memory _ _ u v (put_less a b c u.memory v.memory h k.memory) k)

pub copied_less : (f g : Frame) (at n : ℕ) (u v : Storage) → FrameLessSpecified f g → StorageLessSpecified u v → StorageLessSpecified (copied_back f at n u) (copied_back g at n v)
unfolding copied_back
copied_less f g at zero u v h k = k
copied_less f g at (suc n) u v h k = copied_less f g (at + 1) n _ _ h (caller_put_less (wrapped at) (f.image (wrapped at)) (g.image (wrapped at)) u v u.frames v.frames (h.image (wrapped at)) k k.frames)

argument_same : (a : ℕ) (f g : Frame) → FrameLessSpecified f g → is_argument a f ≡ is_argument a g
argument_same a f g h = rw (h.proc, h.height) refl

forgotten_byte : (s t a b : Bool) (x y : Byte) → s ≡ t → a ≡ b → ByteLessSpecified x y → ByteLessSpecified (cond s (cond a x Unspecified) x) (cond t (cond b y Unspecified) y)
forgotten_byte s t a b x y e i h = rw (e, i) (byte_either t _ x _ y (byte_either b x Unspecified y Unspecified h tt) h)

forgotten_less : (closed other f g : Frame) → FrameLessSpecified closed other → FrameLessSpecified f g → FrameLessSpecified (forgotten_in closed f) (forgotten_in other g)
forgotten_less closed other f g h k = record {
  proc = k.proc;
  height = k.height;
  word = k.word;
  ebp = k.ebp;
  back = k.back;
  image = λ a. forgotten_byte (covers a closed) (covers a other) (is_argument a closed) (is_argument a other) (f.image a) (g.image a) (covers_same a closed other h) (argument_same a closed other h) (k.image a);
  locals = k.locals;
}

forget_chain_less : (closed other : Frame) (fs gs : List Frame) → FrameLessSpecified closed other → FramesLessSpecified fs gs → FramesLessSpecified (forget_chain closed fs) (forget_chain other gs)
unfolding forget_chain
forget_chain_less closed other [] gs h k = rw k refl
forget_chain_less closed other (f ∷ fs) [] h k = absurd k
forget_chain_less closed other (f ∷ fs) (g ∷ gs) h k =
    frames_either (is_shared f.proc.kind) (is_shared g.proc.kind) (forgotten_in closed f ∷ forget_chain closed fs) (f ∷ fs) (forgotten_in other g ∷ forget_chain other gs) (g ∷ gs) (shared_same f g k.0) (forgotten_less closed other f g h k.0, forget_chain_less closed other fs gs h k.1) k

pub forget_by_less : (kind : FrameKind) (closed other : Frame) (fs gs : List Frame) → FrameLessSpecified closed other → FramesLessSpecified fs gs → FramesLessSpecified (forget_by kind closed fs) (forget_by kind other gs)
forget_by_less Sealed closed other fs gs h k = k
forget_by_less Guarded closed other fs gs h k = k
forget_by_less Shared closed other fs gs h k = forget_chain_less closed other fs gs h k
