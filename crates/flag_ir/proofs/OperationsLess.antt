-- Operations are monotone in what is specified.
use Rattle.std.proofs.Common.{◌≡◌, ◌⊎◌, ℕ, zero, suc, ◌==◌, ◌&&◌, ◌||◌, Bool, true, false, not, cond, List, [], ◌∷◌, take, All, Option, Some, None, Result, Ok, Err, refl, sym, ap, ◌∙◌, subst, inl, inr, arith, ℤ}
use Rattle.std.proofs.lemmas.Bool.Decides.{nat_tests}
use Rattle.std.proofs.lemmas.List.Elements.{All-head, All-tail}
use Rattle.x86_values.specs.declared.word.Word.{Word}
use Rattle.x86_values.specs.declared.divided.Divided.{Divided}
use Rattle.x86_values.specs.declared.divided.Divided.TheVariants as divided
use Rattle.x86_values.specs.Words.{IsByte, known, word_list, padded}
use Rattle.x86_values.specs.LessSpecified.{WordLessSpecified, DividedLessSpecified}
use Rattle.outside.specs.Environment.{Environment}
use Rattle.traces.specs.Trace.{End, Exited, MemoryFault, DivideFault, Outside, OtherCall, Unspecified, Guard, Stopped}
use Rattle.memory.specs.Memory.{Memory, Stored, Load, Store}
use Rattle.memory.specs.SystemCall.{Request, Called, Ends, Gives, read_call, write_call, transfer_call, call_by, system_call}
use Rattle.memory.specs.CallLaws.{CallLaws, CallIsKept, StoresBytes}
use Rattle.memory.specs.LessSpecified.{MemoryLessSpecified, StoresLessSpecified, EndLessSpecified, CalledLessSpecified}
use Rattle.memory.specs.LessSpecifiedLaws.{LessSpecifiedMemoryLaws}
use Rattle.flag_ir.specs.declared.variable.Var.{Var}
use Rattle.flag_ir.specs.declared.operation.Op.{Op}
use Rattle.flag_ir.specs.declared.operation.Op.TheVariants as op
use Rattle.flag_ir.specs.Storage.{Frame, Storage, put_var, term_in}
use Rattle.flag_ir.specs.Frames.{reached_frames, all_covered, bytes_in, is_judged, seen_memory}
use Rattle.flag_ir.specs.Operations.{and_then, needed, load, store, in_frames, with_frame, near_load, near_store, at_offset, get_of, with_bytes, put_of, request_in, called, labels_of, call_in, has_buffer, judged_buffer, buffer_in, near_call_in, called_near, near_system, near_call_by, divided_into, perform, shown_by}
use Rattle.flag_ir.specs.LessSpecified.{FramesLessSpecified, StorageLessSpecified, ResultLessSpecified}
use Rattle.flag_ir.proofs.ValuesLess.{ValueLaws, bytes_taken, listed, padded_less, SameWhere, known_less, number_itself, calculate_less, nothing_less, picked_less, divide_less, put_words_less, put_var_less, term_less, known_term}
use Rattle.flag_ir.proofs.FramesLess.{covered_same, reached_less, bytes_less, seen_memory_less, put_near_all_less, bytes_themselves, store_near_less, with_bytes_less, judged_same, other_memory, other_frames}

-- ---- results, by a relation of what they give
abbrev pub GivesLess : {A : Type 0} → (A → A → Type 0) → Result A End → Result A End → Type 0
GivesLess R (Ok a) (Ok b) = R a b
GivesLess R (Ok a) (Err e) = ⊥
GivesLess R (Err e) r = EndLessSpecified e (Err e) r

-- an end is an end behind whatever is done with it
pub end_behind : {A B : Type 0} (F : A → B) (e : End) (x y : A) → EndLessSpecified e x y → EndLessSpecified e (F x) (F y)
end_behind F Unspecified x y h = tt
end_behind F (Exited n) x y h = ap F h
end_behind F MemoryFault x y h = ap F h
end_behind F DivideFault x y h = ap F h
end_behind F Outside x y h = ap F h
end_behind F (OtherCall n) x y h = ap F h
end_behind F (Guard k a) x y h = ap F h
end_behind F (Stopped a) x y h = ap F h

pub end_itself : {A : Type 0} (e : End) (x : A) → EndLessSpecified e x x
end_itself Unspecified x = tt
end_itself (Exited n) x = refl
end_itself MemoryFault x = refl
end_itself DivideFault x = refl
end_itself Outside x = refl
end_itself (OtherCall n) x = refl
end_itself (Guard k a) x = refl
end_itself (Stopped a) x = refl

module _ {A B : Type 0} (R : A → A → Type 0) (S : B → B → Type 0) where
  pub then_less : (r s : Result A End) (f g : A → Result B End) → GivesLess R r s → ((a b : A) → R a b → GivesLess S (f a) (g b)) → GivesLess S (and_then r f) (and_then s g)
  then_less (Ok a) (Ok b) f g h k = k a b h
  then_less (Ok a) (Err e) f g h k = absurd h
  then_less (Err e) s f g h k = end_behind (λ x. and_then x g) e (Err e) s h

module _ {A B : Type 0} (S : B → B → Type 0) where
  pub needed_less : (o p : Option A) (f g : A → Result B End) → SameWhere o p → ((a : A) → GivesLess S (f a) (g a)) → GivesLess S (and_then (needed o) f) (and_then (needed p) g)
  needed_less None p f g h k = tt
  needed_less (Some a) p f g h k = rw h (k a)

module _ {B : Type 0} (S : B → B → Type 0) where
  pub result_either : (s t : Bool) (x y u v : Result B End) → s ≡ t → GivesLess S x u → GivesLess S y v → GivesLess S (cond s x y) (cond t u v)
  result_either s t x y u v e h k = subst (λ (b : Bool). GivesLess S (cond s x y) (cond b u v)) e (go s)
    where
      go : (s : Bool) → GivesLess S (cond s x y) (cond s u v)
      go true = h
      go false = k

  pub with_frame_less : (fs gs : List Frame) (x y : Result B End) → FramesLessSpecified fs gs → GivesLess S x y → GivesLess S (with_frame fs x) (with_frame gs y)
  with_frame_less [] gs x y h k = rw h refl
  with_frame_less (f ∷ fs) [] x y h k = absurd h
  with_frame_less (f ∷ fs) (g ∷ gs) x y h k = k

  in_frames_less : (turn : ℕ) (u v : Storage) (at size : ℕ) (x y : Result B End) → StorageLessSpecified u v → GivesLess S x y → GivesLess S (in_frames turn u at size x) (in_frames turn v at size y)
  in_frames_less turn u v at size x y h k = result_either _ _ _ _ _ _ (covered_same (reached_frames u.frames) (reached_frames v.frames) at size (reached_less u.frames v.frames h.frames)) k refl

abbrev pub StoredLess : Result Storage End → Result Storage End → Type 0
StoredLess r s = GivesLess StorageLessSpecified r s

pub as_result : (r s : Result Storage End) → StoredLess r s → ResultLessSpecified r s
as_result (Ok u) (Ok v) h = h
as_result (Ok u) (Err e) h = h
as_result (Err e) s h = h

module _ (laws : ValueLaws) (memories : LessSpecifiedMemoryLaws) where
  -- ---- loads and stores
  load_less : (size : ℕ) (m n : Memory) (at : ℕ) → MemoryLessSpecified m n → GivesLess WordLessSpecified (load size m at) (load size n at)
  load_less size m n at h = result_either WordLessSpecified _ _ _ _ _ _ (memories.allows Load m n at size h) (padded_less _ _ (memories.bytes m n at size h)) refl

  store_less : (size : ℕ) (w x : Word) (m n : Memory) (at : ℕ) → WordLessSpecified w x → MemoryLessSpecified m n → GivesLess MemoryLessSpecified (store size w m at) (store size x n at)
  store_less size w x m n at h k = result_either MemoryLessSpecified _ _ _ _ _ _ (memories.allows Store m n at size k) (memories.put m n at _ _ (bytes_taken size _ _ (listed w x h)) k) refl

  near_load_less : (turn size : ℕ) (u v : Storage) (at : ℕ) → StorageLessSpecified u v → GivesLess WordLessSpecified (near_load turn size u at) (near_load turn size v at)
  near_load_less turn size u v at h =
      with_frame_less WordLessSpecified u.frames v.frames _ _ h.frames
      (result_either WordLessSpecified (is_judged at u) (is_judged at v) _ _ _ _ (judged_same at u v h)
      (in_frames_less WordLessSpecified turn u v at size _ _ h (padded_less _ _ (bytes_less (reached_frames u.frames) (reached_frames v.frames) u.memory v.memory at size (reached_less u.frames v.frames h.frames) h.memory)))
      (load_less size u.memory v.memory at h.memory))

  stored_less : (size : ℕ) (w x : Word) (u v : Storage) (at : ℕ) → WordLessSpecified w x → StorageLessSpecified u v → StoredLess (and_then (store size w u.memory at) (λ m. Ok (record u { memory = m }))) (and_then (store size x v.memory at) (λ m. Ok (record v { memory = m })))
  stored_less size w x u v at h k = then_less MemoryLessSpecified StorageLessSpecified _ _ _ _ (store_less size w x u.memory v.memory at h k.memory) (λ m n l. other_memory m n u v l k)

  near_store_less : (turn size : ℕ) (w x : Word) (u v : Storage) (at : ℕ) → WordLessSpecified w x → StorageLessSpecified u v → StoredLess (near_store turn size w u at) (near_store turn size x v at)
  near_store_less turn size w x u v at h k =
      with_frame_less StorageLessSpecified u.frames v.frames _ _ k.frames
      (result_either StorageLessSpecified (is_judged at u) (is_judged at v) _ _ _ _ (judged_same at u v k)
      (in_frames_less StorageLessSpecified turn u v at size _ _ k (other_frames _ _ u v (put_near_all_less at _ _ u.frames v.frames (bytes_taken size _ _ (listed w x h)) k.frames) k))
      (stored_less size w x u v at h k))

  get_less : (size : ℕ) (offset : ℤ) (m n : Memory) (fs gs : List Frame) → FramesLessSpecified fs gs → MemoryLessSpecified m n → GivesLess WordLessSpecified (get_of size offset m fs) (get_of size offset n gs)
  get_less size offset m n [] gs h k = rw h refl
  get_less size offset m n (f ∷ fs) [] h k = absurd h
  get_less size offset m n (f ∷ fs) (g ∷ gs) h k =
      let R : ℕ → Type 0 = λ (at : ℕ). GivesLess WordLessSpecified (get_of size offset m (f ∷ fs)) (cond (all_covered (g ∷ []) at size) (Ok (padded (bytes_in (g ∷ []) n at size))) (Err Outside)) in
      let at = at_offset f.height offset in
      subst R (ap (λ x. at_offset x offset) h.0.height)
      (result_either WordLessSpecified _ _ _ _ _ _ (covered_same (f ∷ []) (g ∷ []) at size (h.0, refl)) (padded_less _ _ (bytes_less (f ∷ []) (g ∷ []) m n at size (h.0, refl) k)) refl)

  put_less : (size : ℕ) (offset : ℤ) (w x : Word) (u v : Storage) (fs gs : List Frame) → WordLessSpecified w x → StorageLessSpecified u v → FramesLessSpecified fs gs → StoredLess (put_of size offset w u fs) (put_of size offset x v gs)
  put_less size offset w x u v [] gs h k l = rw l refl
  put_less size offset w x u v (f ∷ fs) [] h k l = absurd l
  put_less size offset w x u v (f ∷ fs) (g ∷ gs) h k l =
      let bs = take size (word_list x) in
      let R : ℕ → Type 0 = λ (at : ℕ). StoredLess (put_of size offset w u (f ∷ fs)) (cond (all_covered (g ∷ []) at size) (Ok (record v { frames = with_bytes at bs g ∷ gs })) (Err Outside)) in
      let at = at_offset f.height offset in
      subst R (ap (λ y. at_offset y offset) l.0.height)
      (result_either StorageLessSpecified _ _ _ _ _ _ (covered_same (f ∷ []) (g ∷ []) at size (l.0, refl)) (other_frames (with_bytes at (take size (word_list w)) f ∷ fs) (with_bytes at bs g ∷ gs) u v (with_bytes_less at _ _ f g (bytes_taken size _ _ (listed w x h)) l.0, l.1) k) refl)

  -- ---- system calls
  stores_themselves : (xs : List Stored) → StoresBytes xs → StoresLessSpecified xs xs
  stores_themselves [] h = refl
  stores_themselves (x ∷ xs) h =
      let P : Stored → Type 0 = λ (s : Stored). All IsByte s.bytes in
      (refl, bytes_themselves x.bytes (All-head P x xs h), stores_themselves xs (All-tail P x xs h))

  called_less : (x y : Called) (u v : Storage) → CallIsKept x → CalledLessSpecified x y → StorageLessSpecified u v → StoredLess (called x u) (called y v)
  called_less (Ends e) y u v kept c h = end_behind (λ z. called z v) e (Ends e) y c
  called_less (Gives labels result stores left) y u v kept c h =
      rw c (record {
        regs = put_words_less laws 0 _ _ u.regs v.regs (number_itself laws result) h.regs;
        flags = h.flags;
        temps = h.temps;
        memory = memories.stored u.memory v.memory stores stores (stores_themselves stores kept.0) h.memory;
        left = refl;
        environment = kept.1;
        frames = h.frames;
        esp0 = h.esp0;
      })

  called_near_less : (x y : Called) (u v : Storage) → CallIsKept x → CalledLessSpecified x y → StorageLessSpecified u v → StoredLess (called_near x u) (called_near y v)
  called_near_less (Ends e) y u v kept c h = end_behind (λ z. called_near z v) e (Ends e) y c
  called_near_less (Gives labels result stores left) y u v kept c h =
      rw c (record {
        regs = put_words_less laws 0 _ _ u.regs v.regs (number_itself laws result) h.regs;
        flags = h.flags;
        temps = h.temps;
        memory = h.memory;
        left = refl;
        environment = kept.1;
        frames = store_near_less stores u.frames v.frames kept.0 h.frames;
        esp0 = h.esp0;
      })

  module _ (calls : CallLaws) where
    call_less : (u v : Storage) (m n : Memory) → StorageLessSpecified u v → MemoryLessSpecified m n → CalledLessSpecified (system_call (request_in u) m u.left) (system_call (request_in v) n v.left)
    call_less u v m n h k =
        subst (λ (l : Environment). CalledLessSpecified (system_call (request_in u) m u.left) (system_call (request_in v) n l)) h.left
        (memories.call (request_in u) (request_in v) m n u.left (record { number = h.regs 0; fd = h.regs 3; at = h.regs 1; count = h.regs 2 }) k)

    plain_call_less : (u v : Storage) → StorageLessSpecified u v → StoredLess (called (call_in u) u) (called (call_in v) v)
    plain_call_less u v h = called_less (call_in u) (call_in v) u v (calls.keep_environment (request_in u) u.memory u.left h.environment) (call_less u v u.memory v.memory h h.memory) h

    near_less : (u v : Storage) → StorageLessSpecified u v → CalledLessSpecified (near_call_in u) (near_call_in v)
    near_less u v h = call_less u v _ _ h (seen_memory_less (reached_frames u.frames) (reached_frames v.frames) u.memory v.memory (reached_less u.frames v.frames h.frames) h.memory)

    near_call_less : (turn : ℕ) (o : Option (ℕ × ℕ)) (u v : Storage) → StorageLessSpecified u v → StoredLess (near_system turn o u) (near_system turn o v)
    near_call_less turn None u v h = plain_call_less u v h
    near_call_less turn (Some p) u v h =
        in_frames_less StorageLessSpecified turn u v p.0 p.1 _ _ h
        (called_near_less (near_call_in u) (near_call_in v) u v (calls.keep_environment (request_in u) (seen_memory (reached_frames u.frames) u.memory) u.left h.environment) (near_less u v h) h)

-- ---- the buffer of a call: it is the same on both sides, or the call on the left comes to nothing
is_transfer : ℕ → Bool
is_transfer n = n == 3 || n == 4

-- a read or a write of which something is unspecified
abbrev IsUnknown : Option ℕ → Option ℕ → Option ℕ → Type 0
IsUnknown (Some fd) (Some at) (Some n) = ⊥
IsUnknown _ _ _ = Unit {0}

transfer_stops : (call : ℕ → ℕ → ℕ → Memory → Environment → Called) (o p q : Option ℕ) (m : Memory) (left : Environment) → IsUnknown o p q → transfer_call call o p q m left ≡ Ends Unspecified
transfer_stops call (Some fd) (Some at) (Some n) m left h = absurd h
transfer_stops call (Some fd) (Some at) None m left h = refl
transfer_stops call (Some fd) None q m left h = refl
transfer_stops call None p q m left h = refl

no_transfer : (n : ℕ) → is_transfer (suc (suc (suc (suc (suc n))))) ≡ true → ⊥
unfolding is_transfer
no_transfer n h = grind (arith, nat_tests)

number_stops : (q : Request) (n : ℕ) (m : Memory) (left : Environment) → is_transfer n ≡ true → IsUnknown (known q.fd) (known q.at) (known q.count) → call_by (Some n) q m left ≡ Ends Unspecified
unfolding is_transfer
number_stops q zero m left h k = absurd cc
number_stops q (suc zero) m left h k = absurd cc
number_stops q (suc (suc zero)) m left h k = absurd cc
number_stops q (suc (suc (suc zero))) m left h k = transfer_stops read_call (known q.fd) (known q.at) (known q.count) m left k
number_stops q (suc (suc (suc (suc zero)))) m left h k = transfer_stops write_call (known q.fd) (known q.at) (known q.count) m left k
number_stops q (suc (suc (suc (suc (suc n))))) m left h k = absurd (no_transfer n h)

abbrev IsUnknownCall : Option ℕ → Option ℕ → Option ℕ → Option ℕ → Type 0
IsUnknownCall None o p q = Unit {0}
IsUnknownCall (Some n) o p q = (is_transfer n ≡ true) × IsUnknown o p q

call_stops : (u : Storage) → IsUnknownCall (known (u.regs 0)) (known (u.regs 3)) (known (u.regs 1)) (known (u.regs 2)) → call_in u ≡ Ends Unspecified
unfolding system_call
call_stops u h = go (known (u.regs 0)) h
  where
    go : (o : Option ℕ) → IsUnknownCall o (known (u.regs 3)) (known (u.regs 1)) (known (u.regs 2)) → call_by o (request_in u) u.memory u.left ≡ Ends Unspecified
    go None h = refl
    go (Some n) h = number_stops (request_in u) n u.memory u.left h.0 h.1

-- another call has no buffer
no_choice : (a b x y z : Bool) → (a || b) ≡ false → (z && ((a && x) || (b && y))) ≡ false
no_choice true b x y z h = absurd cc
no_choice false true x y z h = absurd cc
no_choice false false x y true h = refl
no_choice false false x y false h = refl

no_buffer : (u : Storage) (n : ℕ) (o p q : Option ℕ) → is_transfer n ≡ false → judged_buffer u (Some n) o p q ≡ None
unfolding is_transfer
no_buffer u n (Some fd) (Some at) (Some count) h =
    let none : has_buffer n fd count ≡ false = no_choice (n == 3) (n == 4) (fd == 0) (fd == 1 || fd == 2) (not (count == 0)) h in
    ap (λ (t : Bool). cond (t && is_judged at u) (Some (at, count)) None) none
no_buffer u n (Some fd) (Some at) None h = refl
no_buffer u n (Some fd) None q h = refl
no_buffer u n None p q h = refl

-- the buffer is the same, or nothing is known of the call
BuffersAlike : Storage → Option (ℕ × ℕ) → Option (ℕ × ℕ) → Type 0
BuffersAlike u o p = (o ≡ p) ⊎ ((o ≡ None) × (call_in u ≡ Ends Unspecified))

module _ (u v : Storage) (less : StorageLessSpecified u v) where
  transfer_buffers : (n : ℕ) (o p q r s t : Option ℕ) → is_transfer n ≡ true → SameWhere o r → SameWhere p s → SameWhere q t → (IsUnknownCall (Some n) o p q → call_in u ≡ Ends Unspecified) → BuffersAlike u (judged_buffer u (Some n) o p q) (judged_buffer v (Some n) r s t)
  unfolding BuffersAlike
  transfer_buffers n (Some fd) (Some at) (Some count) r s t is h k l stops = rw (h, k, l) (inl (ap (λ (b : Bool). cond (has_buffer n fd count && b) (Some (at, count)) None) (judged_same at u v less)))
  transfer_buffers n (Some fd) (Some at) None r s t is h k l stops = inr (refl, stops (is, tt))
  transfer_buffers n (Some fd) None q r s t is h k l stops = inr (refl, stops (is, tt))
  transfer_buffers n None p q r s t is h k l stops = inr (refl, stops (is, tt))

  numbered_buffers : (n : ℕ) (b : Bool) (o p q r s t : Option ℕ) → is_transfer n ≡ b → SameWhere o r → SameWhere p s → SameWhere q t → (IsUnknownCall (Some n) o p q → call_in u ≡ Ends Unspecified) → BuffersAlike u (judged_buffer u (Some n) o p q) (judged_buffer v (Some n) r s t)
  unfolding BuffersAlike
  numbered_buffers n true o p q r s t is h k l stops = transfer_buffers n o p q r s t is h k l stops
  numbered_buffers n false o p q r s t is h k l stops = inl (no_buffer u n o p q is ∙ sym (no_buffer v n r s t is))

  known_buffers : (m n o p q r s t : Option ℕ) → SameWhere m n → SameWhere o r → SameWhere p s → SameWhere q t → (IsUnknownCall m o p q → call_in u ≡ Ends Unspecified) → BuffersAlike u (judged_buffer u m o p q) (judged_buffer v n r s t)
  unfolding BuffersAlike
  known_buffers None n o p q r s t e h k l stops = inr (refl, stops tt)
  known_buffers (Some a) n o p q r s t e h k l stops = rw e (numbered_buffers a (is_transfer a) o p q r s t refl h k l stops)

  buffers_alike : ValueLaws → BuffersAlike u (buffer_in u) (buffer_in v)
  buffers_alike laws =
      known_buffers (known (u.regs 0)) (known (v.regs 0)) (known (u.regs 3)) (known (u.regs 1)) (known (u.regs 2)) (known (v.regs 3)) (known (v.regs 1)) (known (v.regs 2))
      (known_less laws _ _ (less.regs 0)) (known_less laws _ _ (less.regs 3)) (known_less laws _ _ (less.regs 1)) (known_less laws _ _ (less.regs 2)) (call_stops u)

-- without a buffer, a call of which nothing is known ends so
stops_near : (turn : ℕ) (u : Storage) → buffer_in u ≡ None → call_in u ≡ Ends Unspecified → near_system turn (buffer_in u) u ≡ Err Unspecified
stops_near turn u h k = ap (λ (o : Option (ℕ × ℕ)). near_system turn o u) h ∙ ap (λ (x : Called). called x u) k

-- what goes on was done
pub where_done : (t : Bool) (x : Result Storage End) (e : End) (w : Storage) → cond t x (Err e) ≡ Ok w → x ≡ Ok w
where_done true x e w h = h
where_done false x e w h = absurd cc

pub frame_done : (fs : List Frame) (x : Result Storage End) (w : Storage) → with_frame fs x ≡ Ok w → x ≡ Ok w
frame_done [] x w h = absurd cc
frame_done (f ∷ fs) x w h = h

module _ (laws : ValueLaws) (memories : LessSpecifiedMemoryLaws) (calls : CallLaws) where
  near_system_less : (turn : ℕ) (u v : Storage) → StorageLessSpecified u v → StoredLess (near_system turn (buffer_in u) u) (near_system turn (buffer_in v) v)
  unfolding BuffersAlike
  near_system_less turn u v h = go (buffers_alike u v h laws)
    where
      go : BuffersAlike u (buffer_in u) (buffer_in v) → StoredLess (near_system turn (buffer_in u) u) (near_system turn (buffer_in v) v)
      go (inl e) = subst (λ (o : Option (ℕ × ℕ)). StoredLess (near_system turn (buffer_in u) u) (near_system turn o v)) e (near_call_less laws memories calls turn (buffer_in u) u v h)
      go (inr k) = subst (λ (r : Result Storage End). StoredLess r (near_system turn (buffer_in v) v)) (sym (stops_near turn u k.0 k.1)) tt

  divided_less : (d e : Divided) (q r : Var) (u v : Storage) → DividedLessSpecified d e → StorageLessSpecified u v → StoredLess (divided_into d q r u) (divided_into e q r v)
  divided_less (divided.Got x y) (divided.Got z w) q r u v h k = put_var_less laws r y w _ _ h.1 (put_var_less laws q x z u v h.0 k)
  divided_less (divided.Got x y) divided.Fault q r u v h k = absurd h
  divided_less (divided.Got x y) divided.Unspecified q r u v h k = absurd h
  divided_less divided.Fault (divided.Got z w) q r u v h k = absurd h
  divided_less divided.Fault divided.Fault q r u v h k = refl
  divided_less divided.Fault divided.Unspecified q r u v h k = absurd h
  divided_less divided.Unspecified e q r u v h k = tt

  loaded_less : (r s : Result Word End) (to : Var) (u v : Storage) → GivesLess WordLessSpecified r s → StorageLessSpecified u v → StoredLess (and_then r (λ w. Ok (put_var to w u))) (and_then s (λ w. Ok (put_var to w v)))
  loaded_less r s to u v h k = then_less WordLessSpecified StorageLessSpecified r s _ _ h (λ w x l. put_var_less laws to w x u v l k)

  operation_less : (turn : ℕ) (o : Op) (u v : Storage) → StorageLessSpecified u v → StoredLess (perform turn o u) (perform turn o v)
  unfolding perform
  operation_less turn (op.Set to from) u v h = put_var_less laws to _ _ u v (term_less laws from u v h) h
  operation_less turn (op.Calc to calc left right) u v h = put_var_less laws to _ _ u v (calculate_less laws calc _ _ _ _ (term_less laws left u v h) (term_less laws right u v h)) h
  operation_less turn (op.Forget to) u v h = put_var_less laws to _ _ u v (nothing_less _) h
  operation_less turn (op.Pick to test x y) u v h = put_var_less laws to _ _ u v (picked_less laws _ _ _ _ _ _ (known_term laws test u v h) (term_less laws x u v h) (term_less laws y u v h)) h
  operation_less turn (op.Need from) u v h = needed_less StorageLessSpecified _ _ _ _ (known_term laws from u v h) (λ a. h)
  operation_less turn (op.Divide quotient remainder high low by size signed) u v h =
      divided_less _ _ quotient remainder u v (divide_less laws signed size (term_in high u) (term_in low u) (term_in by u) (term_in high v) (term_in low v) (term_in by v) (term_less laws high u v h) (term_less laws low u v h) (term_less laws by u v h)) h
  operation_less turn (op.Load to size at) u v h = needed_less StorageLessSpecified _ _ _ _ (known_term laws at u v h) (λ a. loaded_less _ _ to u v (load_less laws memories size u.memory v.memory a h.memory) h)
  operation_less turn (op.Store size at from) u v h = needed_less StorageLessSpecified _ _ _ _ (known_term laws at u v h) (λ a. stored_less laws memories size _ _ u v a (term_less laws from u v h) h)
  operation_less turn (op.NearLoad to size at) u v h = needed_less StorageLessSpecified _ _ _ _ (known_term laws at u v h) (λ a. loaded_less _ _ to u v (near_load_less laws memories turn size u v a h) h)
  operation_less turn (op.NearStore size at from) u v h = needed_less StorageLessSpecified _ _ _ _ (known_term laws at u v h) (λ a. near_store_less laws memories turn size _ _ u v a (term_less laws from u v h) h)
  operation_less turn (op.Get to size offset) u v h = loaded_less _ _ to u v (get_less laws memories size offset u.memory v.memory u.frames v.frames h.frames h.memory) h
  operation_less turn (op.Put size offset from) u v h = put_less laws memories size offset _ _ u v u.frames v.frames (term_less laws from u v h) h h.frames
  operation_less turn op.System u v h = plain_call_less laws memories calls u v h
  operation_less turn op.NearSystem u v h = with_frame_less StorageLessSpecified u.frames v.frames _ _ h.frames (near_system_less turn u v h)

  pub perform_less : (turn : ℕ) (o : Op) (u v : Storage) → StorageLessSpecified u v → ResultLessSpecified (perform turn o u) (perform turn o v)
  perform_less turn o u v h = as_result (perform turn o u) (perform turn o v) (operation_less turn o u v h)

  -- ---- what an operation that goes on shows is the same
  labels_same : (x y : Called) → CalledLessSpecified x y → ((e : End) → x ≡ Ends e → ⊥) → labels_of x ≡ labels_of y
  labels_same (Ends e) y h k = absurd (k e refl)
  labels_same (Gives labels result stores left) y h k = ap labels_of (sym h)

  call_goes_on : (x : Called) (u w : Storage) → called x u ≡ Ok w → (e : End) → x ≡ Ends e → ⊥
  call_goes_on x u w h e k = let ends : called x u ≡ Err e = ap (λ (y : Called). called y u) k in cc

  near_goes_on : (x : Called) (u w : Storage) → called_near x u ≡ Ok w → (e : End) → x ≡ Ends e → ⊥
  near_goes_on x u w h e k = let ends : called_near x u ≡ Err e = ap (λ (y : Called). called_near y u) k in cc

  plain_labels : (u v w : Storage) → StorageLessSpecified u v → called (call_in u) u ≡ Ok w → labels_of (call_in u) ≡ labels_of (call_in v)
  plain_labels u v w h k = labels_same (call_in u) (call_in v) (call_less laws memories calls u v u.memory v.memory h h.memory) (call_goes_on (call_in u) u w k)

  buffer_labels : (turn : ℕ) (o : Option (ℕ × ℕ)) (u v w : Storage) → StorageLessSpecified u v → near_system turn o u ≡ Ok w → labels_of (near_call_by o u) ≡ labels_of (near_call_by o v)
  buffer_labels turn None u v w h k = plain_labels u v w h k
  buffer_labels turn (Some p) u v w h k = labels_same (near_call_in u) (near_call_in v) (near_less laws memories calls u v h) (near_goes_on (near_call_in u) u w (where_done _ _ _ w k))

  near_labels : (turn : ℕ) (u v w : Storage) → StorageLessSpecified u v → near_system turn (buffer_in u) u ≡ Ok w → labels_of (near_call_by (buffer_in u) u) ≡ labels_of (near_call_by (buffer_in v) v)
  unfolding BuffersAlike
  near_labels turn u v w h k = go (buffers_alike u v h laws)
    where
      go : BuffersAlike u (buffer_in u) (buffer_in v) → labels_of (near_call_by (buffer_in u) u) ≡ labels_of (near_call_by (buffer_in v) v)
      go (inl e) = buffer_labels turn (buffer_in u) u v w h k ∙ ap (λ (o : Option (ℕ × ℕ)). labels_of (near_call_by o v)) e
      go (inr l) = let ends : near_system turn (buffer_in u) u ≡ Err Unspecified = stops_near turn u l.0 l.1 in absurd cc

  pub shown_same : (turn : ℕ) (o : Op) (u v w : Storage) → StorageLessSpecified u v → perform turn o u ≡ Ok w → shown_by o u ≡ shown_by o v
  unfolding perform
  shown_same turn (op.Set to from) u v w h k = refl
  shown_same turn (op.Calc to calc left right) u v w h k = refl
  shown_same turn (op.Forget to) u v w h k = refl
  shown_same turn (op.Pick to test x y) u v w h k = refl
  shown_same turn (op.Need from) u v w h k = refl
  shown_same turn (op.Divide quotient remainder high low by size signed) u v w h k = refl
  shown_same turn (op.Load to size at) u v w h k = refl
  shown_same turn (op.Store size at from) u v w h k = refl
  shown_same turn (op.NearLoad to size at) u v w h k = refl
  shown_same turn (op.NearStore size at from) u v w h k = refl
  shown_same turn (op.Get to size offset) u v w h k = refl
  shown_same turn (op.Put size offset from) u v w h k = refl
  shown_same turn op.System u v w h k = plain_labels u v w h k
  shown_same turn op.NearSystem u v w h k = near_labels turn u v w h (frame_done u.frames (near_system turn (buffer_in u) u) w k)
