-- Operations over storages that agree on what they read.
use Rattle.std.proofs.Common.{◌≡◌, ◌⊎◌, ℕ, ◌&&◌, Bool, true, false, cond, List, [], ◌∷◌, ◌++◌, map, take, Contains, Option, Some, None, Result, Ok, Err, refl, sym, ap, ◌∙◌, subst, inl, inr, arith, ℤ}
use Rattle.std.proofs.lemmas.List.Elements.{Contains-append_left, Contains-append_right}
use Rattle.x86_values.specs.declared.byte.Byte.{Byte}
use Rattle.x86_values.specs.declared.word.Word.{Word}
use Rattle.x86_values.specs.declared.divided.Divided.{Divided}
use Rattle.x86_values.specs.declared.divided.Divided.TheVariants as divided
use Rattle.x86_values.specs.Words.{word_of, known, word_list, padded}
use Rattle.x86_values.specs.Divisions.{divide}
use Rattle.traces.specs.Trace.{End, Outside, Stopped}
use Rattle.memory.specs.Memory.{Memory, Stored, store_all}
use Rattle.memory.specs.SystemCall.{Request, Called, Ends, Gives, system_call}
use Rattle.flag_ir.specs.declared.variable.Var.{Var}
use Rattle.flag_ir.specs.declared.variable.Var.TheVariants as var
use Rattle.flag_ir.specs.declared.variable.Term.{Term}
use Rattle.flag_ir.specs.declared.variable.Term.TheVariants as term
use Rattle.flag_ir.specs.declared.operation.Op.{Op}
use Rattle.flag_ir.specs.declared.operation.Op.TheVariants as op
use Rattle.flag_ir.specs.Calculations.{calculate}
use Rattle.flag_ir.specs.Frames.{reached_frames, all_covered, bytes_in, with_image, put_near_all, store_near_all, is_judged, seen_memory}
use Rattle.flag_ir.specs.Operations.{and_then, needed, load, store, in_frames, with_frame, near_load, near_store, at_offset, with_bytes, put_of, request_in, called, labels_of, call_in, has_buffer, judged_buffer, buffer_in, near_call_in, called_near, near_system, near_call_by, picked, divided_into, perform, shown_by}
use Rattle.flag_ir.specs.Storage.{Frame, Storage, local_in, put_var, term_in}
use Rattle.flag_ir.specs.Reads.{StorageLocation, InVar, InMemory, InOutside, InFrames, read_in, request_reads, reads_of, writes_of, images, Outline, outline, outlines, AgreesOn, ResultsAgree, AreAmong}
use Rattle.flag_ir.proofs.KeptFrames.{near_all_kept, stores_kept, bytes_kept}
use Rattle.flag_ir.proofs.BareFrames.{bare, bares, heads, tails, bares_same, covered_alike, bytes_alike, memory_alike, outermost_alike, put_alike, stores_alike, head_covered_alike, head_put_alike, get_alike}
use Rattle.flag_ir.proofs.Agreement.{first_in, later_in, in_cases, put_agrees, memory_agrees, outside_agrees, StaysFrames, frames_agree}

-- ---- results
agree_either : (ls : List StorageLocation) (s t : Bool) (x y p q : Result Storage End) → s ≡ t → ResultsAgree ls x p → ResultsAgree ls y q → ResultsAgree ls (cond s x y) (cond t p q)
agree_either ls s t x y p q e h k = subst (λ (b : Bool). ResultsAgree ls (cond s x y) (cond b p q)) e (go s)
  where
    go : (s : Bool) → ResultsAgree ls (cond s x y) (cond s p q)
    go true = h
    go false = k

end_agrees : (ls : List StorageLocation) (e f : End) → e ≡ f → ResultsAgree ls (Err e) (Err f)
end_agrees ls e f h = h

needed_agrees : (ls : List StorageLocation) (o p : Option ℕ) (f g : ℕ → Result Storage End) → o ≡ p → ((a : ℕ) → ResultsAgree ls (f a) (g a)) → ResultsAgree ls (and_then (needed o) f) (and_then (needed p) g)
needed_agrees ls o p f g e h = subst (λ (q : Option ℕ). ResultsAgree ls (and_then (needed o) f) (and_then (needed q) g)) e (go o)
  where
    go : (o : Option ℕ) → ResultsAgree ls (and_then (needed o) f) (and_then (needed o) g)
    go None = refl
    go (Some a) = h a

with_frame_agrees : (ls : List StorageLocation) (fs gs : List Frame) (x y : Result Storage End) → outlines fs ≡ outlines gs → ResultsAgree ls x y → ResultsAgree ls (with_frame fs x) (with_frame gs y)
with_frame_agrees ls [] [] x y h k = refl
with_frame_agrees ls [] (g ∷ gs) x y h k = absurd cc
with_frame_agrees ls (f ∷ fs) [] x y h k = absurd cc
with_frame_agrees ls (f ∷ fs) (g ∷ gs) x y h k = k

loaded_agrees : (ls : List StorageLocation) (r s : Result Word End) (to : Var) (u v : Storage) → r ≡ s → AgreesOn ls u v → ResultsAgree (InVar to ∷ ls) (and_then r (λ w. Ok (put_var to w u))) (and_then s (λ w. Ok (put_var to w v)))
loaded_agrees ls r s to u v e h = subst (λ (q : Result Word End). ResultsAgree (InVar to ∷ ls) (and_then r (λ w. Ok (put_var to w u))) (and_then q (λ w. Ok (put_var to w v)))) e (go r)
  where
    go : (r : Result Word End) → ResultsAgree (InVar to ∷ ls) (and_then r (λ w. Ok (put_var to w u))) (and_then r (λ w. Ok (put_var to w v)))
    go (Ok w) = put_agrees to w w ls u v refl h
    go (Err x) = refl

stored_agrees : (ls : List StorageLocation) (r s : Result Memory End) (u v : Storage) → r ≡ s → AgreesOn ls u v → ResultsAgree (InMemory ∷ ls) (and_then r (λ m. Ok (record u { memory = m }))) (and_then s (λ m. Ok (record v { memory = m })))
stored_agrees ls r s u v e h = subst (λ (q : Result Memory End). ResultsAgree (InMemory ∷ ls) (and_then r (λ m. Ok (record u { memory = m }))) (and_then q (λ m. Ok (record v { memory = m })))) e (go r)
  where
    go : (r : Result Memory End) → ResultsAgree (InMemory ∷ ls) (and_then r (λ m. Ok (record u { memory = m }))) (and_then r (λ m. Ok (record v { memory = m })))
    go (Ok m) = memory_agrees m m ls u v refl h
    go (Err x) = refl

-- what agrees on some locations agrees on fewer, by name
agrees_among : (xs ls : List StorageLocation) (u v : Storage) → AreAmong xs ls → AgreesOn ls u v → AgreesOn xs u v
agrees_among xs ls u v h k = record { outline = k.outline; same = λ l m. k.same l (h l m) }

results_among : (xs ls : List StorageLocation) (r s : Result Storage End) → AreAmong xs ls → ResultsAgree ls r s → ResultsAgree xs r s
results_among xs ls (Ok u) (Ok v) h k = agrees_among xs ls u v h k
results_among xs ls (Ok u) (Err e) h k = k
results_among xs ls (Err e) (Ok v) h k = k
results_among xs ls (Err e) (Err f) h k = k

-- ---- what is among the locations
left_among : (xs ys ls : List StorageLocation) → AreAmong (xs ++ ys) ls → AreAmong xs ls
left_among xs ys ls h l k = h l (Contains-append_left xs ys l k)

right_among : (xs ys ls : List StorageLocation) → AreAmong (xs ++ ys) ls → AreAmong ys ls
right_among xs ys ls h l k = h l (Contains-append_right xs ys l k)

others_among : (x : StorageLocation) (xs ls : List StorageLocation) → AreAmong (x ∷ xs) ls → AreAmong xs ls
others_among x xs ls h l k = h l (later_in x l xs k)

-- ---- frames that the storages agree on
bares_agree : (ls : List StorageLocation) (u v : Storage) → AgreesOn ls u v → Contains ls InFrames → bares u.frames ≡ bares v.frames
bares_agree ls u v h k = bares_same u.frames v.frames h.outline.frames (h.same InFrames k)

stays_local : (n : ℕ) (fs gs : List Frame) → map (λ (f : Frame). f.locals) gs ≡ map (λ (f : Frame). f.locals) fs → local_in n gs ≡ local_in n fs
stays_local n [] [] h = refl
stays_local n [] (g ∷ gs) h = absurd cc
stays_local n (f ∷ fs) [] h = absurd cc
stays_local n (f ∷ fs) (g ∷ gs) h = ap (λ (locals : ℕ → Word). locals n) (heads _ _ _ _ h)

outline_kept : (a : ℕ) (b : Byte) (f : Frame) → outline (with_image a b f) ≡ outline f
outline_kept a b f = refl

locals_kept : (a : ℕ) (b : Byte) (f : Frame) → (with_image a b f).locals ≡ f.locals
locals_kept a b f = refl

pub near_stays : (at : ℕ) (bs : List Byte) (fs : List Frame) → StaysFrames fs (put_near_all at bs fs)
near_stays at bs fs = record { outlines = near_all_kept outline outline_kept at bs fs; locals = λ n. stays_local n fs (put_near_all at bs fs) (near_all_kept (λ (f : Frame). f.locals) locals_kept at bs fs) }

pub stores_stay : (stores : List Stored) (fs : List Frame) → StaysFrames fs (store_near_all stores fs)
stores_stay stores fs = record { outlines = stores_kept outline outline_kept stores fs; locals = λ n. stays_local n fs (store_near_all stores fs) (stores_kept (λ (f : Frame). f.locals) locals_kept stores fs) }

pub head_stays : (at : ℕ) (bs : List Byte) (f : Frame) (fs gs : List Frame) → gs ≡ f ∷ fs → StaysFrames gs (with_bytes at bs f ∷ fs)
head_stays at bs f fs gs e = subst (λ (xs : List Frame). StaysFrames xs (with_bytes at bs f ∷ fs)) (sym e) (record {
  outlines = ap (λ (o : Outline). o ∷ outlines fs) (bytes_kept outline outline_kept at bs f);
  locals = λ n. ap (λ (locals : ℕ → Word). locals n) (bytes_kept (λ (g : Frame). g.locals) locals_kept at bs f);
})

known_among : (x : StorageLocation) (ls : List StorageLocation) → Contains ls x → AreAmong (x ∷ ls) ls
known_among x ls h l k = go (in_cases x l ls k)
  where
    go : (x ≡ l) ⊎ Contains ls l → Contains ls l
    go (inl e) = subst (λ (y : StorageLocation). Contains ls y) e h
    go (inr m) = m

more_among : (x : StorageLocation) (xs ls : List StorageLocation) → AreAmong xs ls → AreAmong (x ∷ xs) (x ∷ ls)
more_among x xs ls h l k = go (in_cases x l xs k)
  where
    go : (x ≡ l) ⊎ Contains xs l → Contains (x ∷ ls) l
    go (inl e) = subst (λ (y : StorageLocation). Contains (x ∷ ls) y) e (first_in x ls)
    go (inr m) = later_in x l ls (h l m)

with_frame_same : {A : Type 0} (fs gs : List Frame) (x y : Result A End) → outlines fs ≡ outlines gs → x ≡ y → with_frame fs x ≡ with_frame gs y
with_frame_same [] [] x y h k = refl
with_frame_same [] (g ∷ gs) x y h k = absurd cc
with_frame_same (f ∷ fs) [] x y h k = absurd cc
with_frame_same (f ∷ fs) (g ∷ gs) x y h k = k

-- what a call asks by
plain_request : (ls : List StorageLocation) → AreAmong (reads_of op.System) ls → AreAmong request_reads ls
plain_request ls h = others_among InOutside request_reads ls (others_among InMemory (InOutside ∷ request_reads) ls h)

near_request : (ls : List StorageLocation) → AreAmong (reads_of op.NearSystem) ls → AreAmong request_reads ls
near_request ls h = others_among InFrames request_reads ls (others_among InOutside (InFrames ∷ request_reads) ls (others_among InMemory (InOutside ∷ InFrames ∷ request_reads) ls h))

-- ---- near accesses
module _ (ls : List StorageLocation) (u v : Storage) (agree : AgreesOn ls u v) (there : Contains ls InFrames) where
  judged_alike : (at : ℕ) → is_judged at u ≡ is_judged at v
  judged_alike at = rw (agree.outline.esp0, outermost_alike u.frames v.frames (bares_agree ls u v agree there)) refl

  in_frames_agree : (xs : List StorageLocation) (turn at size : ℕ) (x y : Result Storage End) → ResultsAgree xs x y → ResultsAgree xs (in_frames turn u at size x) (in_frames turn v at size y)
  in_frames_agree xs turn at size x y h = agree_either xs _ _ _ _ _ _ (covered_alike u.frames v.frames (bares_agree ls u v agree there) at size) h refl

  near_load_alike : (turn size at : ℕ) → Contains ls InMemory → near_load turn size u at ≡ near_load turn size v at
  near_load_alike turn size at known_memory =
      let same : bares u.frames ≡ bares v.frames = bares_agree ls u v agree there in
      let memory : u.memory ≡ v.memory = agree.same InMemory known_memory in
      let covered : all_covered (reached_frames u.frames) at size ≡ all_covered (reached_frames v.frames) at size = covered_alike u.frames v.frames same at size in
      let bytes : bytes_in (reached_frames u.frames) u.memory at size ≡ bytes_in (reached_frames v.frames) v.memory at size = bytes_alike u.frames v.frames same u.memory at size ∙ ap (λ (m : Memory). bytes_in (reached_frames v.frames) m at size) memory in
      with_frame_same u.frames v.frames _ _ agree.outline.frames (parts turn size at _ _ _ _ _ _ _ _ (judged_alike at) covered bytes memory)
    where
      parts : (turn size at : ℕ) (j k c d : Bool) (xs ys : List Byte) (m n : Memory) → j ≡ k → c ≡ d → xs ≡ ys → m ≡ n → cond j (cond c (Ok (padded xs)) (Err (Stopped turn))) (load size m at) ≡ cond k (cond d (Ok (padded ys)) (Err (Stopped turn))) (load size n at)
      parts turn size at j k c d xs ys m n e f g h = rw (e, f, g, h) refl

  near_store_same : (turn size : ℕ) (w : Word) (at : ℕ) → Contains ls InMemory → ResultsAgree (InFrames ∷ InMemory ∷ ls) (near_store turn size w u at) (near_store turn size w v at)
  near_store_same turn size w at known_memory =
      let xs : List StorageLocation = InFrames ∷ InMemory ∷ ls in
      let bs : List Byte = take size (word_list w) in
      let same : bares u.frames ≡ bares v.frames = bares_agree ls u v agree there in
      let in_the_frames : AgreesOn xs (record u { frames = put_near_all at bs u.frames }) (record v { frames = put_near_all at bs v.frames }) =
      agrees_among xs (InFrames ∷ ls) _ _ (more_among InFrames (InMemory ∷ ls) ls (known_among InMemory ls known_memory)) (frames_agree (put_near_all at bs u.frames) (put_near_all at bs v.frames) ls u v (near_stays at bs u.frames) (near_stays at bs v.frames) (put_alike u.frames v.frames same at bs) agree) in
      let in_memory : ResultsAgree xs (and_then (store size w u.memory at) (λ m. Ok (record u { memory = m }))) (and_then (store size w v.memory at) (λ m. Ok (record v { memory = m }))) =
      results_among xs (InMemory ∷ ls) _ _ (known_among InFrames (InMemory ∷ ls) (later_in InMemory InFrames ls there)) (stored_agrees ls (store size w u.memory at) (store size w v.memory at) u v (ap (λ (m : Memory). store size w m at) (agree.same InMemory known_memory)) agree) in
      with_frame_agrees xs u.frames v.frames _ _ agree.outline.frames (agree_either xs (is_judged at u) (is_judged at v) _ _ _ _ (judged_alike at) (in_frames_agree xs turn at size _ _ in_the_frames) in_memory)

  near_store_agrees : (turn size : ℕ) (w z : Word) (at : ℕ) → Contains ls InMemory → w ≡ z → ResultsAgree (InFrames ∷ InMemory ∷ ls) (near_store turn size w u at) (near_store turn size z v at)
  near_store_agrees turn size w z at known_memory e = subst (λ (y : Word). ResultsAgree (InFrames ∷ InMemory ∷ ls) (near_store turn size w u at) (near_store turn size y v at)) e (near_store_same turn size w at known_memory)

  -- ---- fixed places
  put_same : (size : ℕ) (offset : ℤ) (w : Word) (fs gs : List Frame) → u.frames ≡ fs → v.frames ≡ gs → outlines fs ≡ outlines gs → images fs ≡ images gs → ResultsAgree (InFrames ∷ ls) (put_of size offset w u fs) (put_of size offset w v gs)
  put_same size offset w [] [] p q h k = refl
  put_same size offset w [] (g ∷ gs) p q h k = absurd cc
  put_same size offset w (f ∷ fs) [] p q h k = absurd cc
  put_same size offset w (f ∷ fs) (g ∷ gs) p q h k =
      let bs : List Byte = take size (word_list w) in
      let at : ℕ = at_offset f.height offset in
      let same : bare f ≡ bare g = heads (bare f) (bare g) (bares fs) (bares gs) (bares_same (f ∷ fs) (g ∷ gs) h k) in
      let bytes : images (with_bytes at bs f ∷ fs) ≡ images (with_bytes at bs g ∷ gs) = listed (head_put_alike f g same at bs) (tails f.image g.image (images fs) (images gs) k) in
      let put : AgreesOn (InFrames ∷ ls) (record u { frames = with_bytes at bs f ∷ fs }) (record v { frames = with_bytes at bs g ∷ gs }) =
      frames_agree (with_bytes at bs f ∷ fs) (with_bytes at bs g ∷ gs) ls u v (head_stays at bs f fs u.frames p) (head_stays at bs g gs v.frames q) bytes agree in
      let R : ℕ → Type 0 = λ (x : ℕ). ResultsAgree (InFrames ∷ ls) (put_of size offset w u (f ∷ fs)) (cond (all_covered (g ∷ []) x size) (Ok (record v { frames = with_bytes x bs g ∷ gs })) (Err Outside)) in
      subst R (ap (λ (x : Frame). at_offset x.height offset) same) (agree_either (InFrames ∷ ls) _ _ _ _ _ _ (head_covered_alike f g same at size) put refl)
    where
      listed : {A : Type 0} {x y : A} {xs ys : List A} → x ≡ y → xs ≡ ys → x ∷ xs ≡ y ∷ ys
      listed e f = rw (e, f) refl

  put_frame_agrees : (size : ℕ) (offset : ℤ) (w z : Word) → w ≡ z → ResultsAgree (InFrames ∷ ls) (put_of size offset w u u.frames) (put_of size offset z v v.frames)
  put_frame_agrees size offset w z e = subst (λ (y : Word). ResultsAgree (InFrames ∷ ls) (put_of size offset w u u.frames) (put_of size offset y v v.frames)) e (put_same size offset w u.frames v.frames refl refl agree.outline.frames (agree.same InFrames there))

  -- ---- calls that may have a buffer in the frames
  buffer_by : (m o p q : Option ℕ) → judged_buffer u m o p q ≡ judged_buffer v m o p q
  buffer_by (Some m) (Some o) (Some p) (Some q) = ap (λ (t : Bool). cond (has_buffer m o q && t) (Some (p, q)) None) (judged_alike p)
  buffer_by (Some m) (Some o) (Some p) None = refl
  buffer_by (Some m) (Some o) None q = refl
  buffer_by (Some m) None p q = refl
  buffer_by None o p q = refl

  buffer_alike : request_in u ≡ request_in v → buffer_in u ≡ buffer_in v
  buffer_alike h = buffer_by (known (u.regs 0)) (known (u.regs 3)) (known (u.regs 1)) (known (u.regs 2)) ∙ ap (λ (q : Request). judged_buffer v (known q.number) (known q.fd) (known q.at) (known q.count)) h

  near_call_alike : request_in u ≡ request_in v → u.memory ≡ v.memory → u.left ≡ v.left → near_call_in u ≡ near_call_in v
  near_call_alike h k l =
      let seen : seen_memory (reached_frames u.frames) u.memory ≡ seen_memory (reached_frames v.frames) v.memory = memory_alike u.frames v.frames (bares_agree ls u v agree there) u.memory ∙ ap (seen_memory (reached_frames v.frames)) k in
      ap (λ (q : Request). system_call q (seen_memory (reached_frames u.frames) u.memory) u.left) h ∙ ap (λ (m : Memory). system_call (request_in v) m u.left) seen ∙ ap (system_call (request_in v) (seen_memory (reached_frames v.frames) v.memory)) l

-- ---- calls
module _ (ls : List StorageLocation) (u v : Storage) (agree : AgreesOn ls u v) where
  reg_same : (n : ℕ) → Contains ls (InVar (var.Reg n)) → u.regs n ≡ v.regs n
  reg_same n h = agree.same (InVar (var.Reg n)) h

  request_same : AreAmong request_reads ls → request_in u ≡ request_in v
  request_same h =
      let number : u.regs 0 ≡ v.regs 0 = reg_same 0 (h (InVar (var.Reg 0)) (0, omega arith, refl)) in
      let fd : u.regs 3 ≡ v.regs 3 = reg_same 3 (h (InVar (var.Reg 3)) (1, omega arith, refl)) in
      let at : u.regs 1 ≡ v.regs 1 = reg_same 1 (h (InVar (var.Reg 1)) (2, omega arith, refl)) in
      let count : u.regs 2 ≡ v.regs 2 = reg_same 2 (h (InVar (var.Reg 2)) (3, omega arith, refl)) in
      λ i. record { number = number i; fd = fd i; at = at i; count = count i }

  call_alike : request_in u ≡ request_in v → u.memory ≡ v.memory → u.left ≡ v.left → call_in u ≡ call_in v
  call_alike h k l = ap (λ (q : Request). system_call q u.memory u.left) h ∙ ap (λ (m : Memory). system_call (request_in v) m u.left) k ∙ ap (system_call (request_in v) v.memory) l

  called_agrees : (x : Called) → u.memory ≡ v.memory → ResultsAgree (InVar (var.Reg 0) ∷ InMemory ∷ InOutside ∷ ls) (called x u) (called x v)
  called_agrees (Ends e) h = refl
  called_agrees (Gives labels result stores left) h =
      put_agrees (var.Reg 0) (word_of result) (word_of result) (InMemory ∷ InOutside ∷ ls) (record u { memory = store_all stores u.memory; left = left }) (record v { memory = store_all stores v.memory; left = left }) refl
      (memory_agrees (store_all stores u.memory) (store_all stores v.memory) (InOutside ∷ ls) (record u { left = left }) (record v { left = left }) (ap (store_all stores) h) (outside_agrees left left ls u v refl agree))

  called_near_agrees : (x : Called) → Contains ls InFrames → ResultsAgree (InVar (var.Reg 0) ∷ InOutside ∷ InFrames ∷ ls) (called_near x u) (called_near x v)
  called_near_agrees (Ends e) h = refl
  called_near_agrees (Gives labels result stores left) h =
      put_agrees (var.Reg 0) (word_of result) (word_of result) (InOutside ∷ InFrames ∷ ls) (record u { frames = store_near_all stores u.frames; left = left }) (record v { frames = store_near_all stores v.frames; left = left }) refl
      (outside_agrees left left (InFrames ∷ ls) (record u { frames = store_near_all stores u.frames }) (record v { frames = store_near_all stores v.frames }) refl
      (frames_agree (store_near_all stores u.frames) (store_near_all stores v.frames) ls u v (stores_stay stores u.frames) (stores_stay stores v.frames) (stores_alike u.frames v.frames (bares_agree ls u v agree h) stores) agree))

  system_agrees : (x y : Called) → x ≡ y → u.memory ≡ v.memory → ResultsAgree (InVar (var.Reg 0) ∷ InMemory ∷ InOutside ∷ ls) (called x u) (called y v)
  system_agrees x y e h = subst (λ (z : Called). ResultsAgree (InVar (var.Reg 0) ∷ InMemory ∷ InOutside ∷ ls) (called x u) (called z v)) e (called_agrees x h)

  near_system_by : (turn : ℕ) (o : Option (ℕ × ℕ)) → AreAmong (reads_of op.NearSystem) ls → ResultsAgree (writes_of op.NearSystem ++ ls) (near_system turn o u) (near_system turn o v)
  near_system_by turn None h =
      let xs : List StorageLocation = InVar (var.Reg 0) ∷ InMemory ∷ InOutside ∷ ls in
      let there : Contains ls InFrames = h InFrames (2, omega arith, refl) in
      let asked : request_in u ≡ request_in v = request_same (near_request ls h) in
      let memory : u.memory ≡ v.memory = agree.same InMemory (h InMemory (0, omega arith, refl)) in
      let left : u.left ≡ v.left = agree.same InOutside (h InOutside (1, omega arith, refl)) in
      let framed : AreAmong (InOutside ∷ InFrames ∷ ls) (InOutside ∷ ls) = more_among InOutside (InFrames ∷ ls) ls (known_among InFrames ls there) in
      let more : AreAmong (writes_of op.NearSystem ++ ls) xs = more_among (InVar (var.Reg 0)) (InMemory ∷ InOutside ∷ InFrames ∷ ls) (InMemory ∷ InOutside ∷ ls) (more_among InMemory (InOutside ∷ InFrames ∷ ls) (InOutside ∷ ls) framed) in
      results_among (writes_of op.NearSystem ++ ls) xs _ _ more (system_agrees (call_in u) (call_in v) (call_alike asked memory left) memory)
  near_system_by turn (Some p) h =
      let xs : List StorageLocation = InVar (var.Reg 0) ∷ InOutside ∷ InFrames ∷ ls in
      let there : Contains ls InFrames = h InFrames (2, omega arith, refl) in
      let asked : request_in u ≡ request_in v = request_same (near_request ls h) in
      let memory : u.memory ≡ v.memory = agree.same InMemory (h InMemory (0, omega arith, refl)) in
      let left : u.left ≡ v.left = agree.same InOutside (h InOutside (1, omega arith, refl)) in
      let stored : Contains (InOutside ∷ InFrames ∷ ls) InMemory = later_in InOutside InMemory (InFrames ∷ ls) (later_in InFrames InMemory ls (h InMemory (0, omega arith, refl))) in
      let more : AreAmong (writes_of op.NearSystem ++ ls) xs = more_among (InVar (var.Reg 0)) (InMemory ∷ InOutside ∷ InFrames ∷ ls) (InOutside ∷ InFrames ∷ ls) (known_among InMemory (InOutside ∷ InFrames ∷ ls) stored) in
      let same : near_call_in u ≡ near_call_in v = near_call_alike ls u v agree there asked memory left in
      let done : ResultsAgree xs (called_near (near_call_in u) u) (called_near (near_call_in v) v) = subst (λ (x : Called). ResultsAgree xs (called_near (near_call_in u) u) (called_near x v)) same (called_near_agrees (near_call_in u) there) in
      in_frames_agree ls u v agree there (writes_of op.NearSystem ++ ls) turn p.0 p.1 _ _ (results_among (writes_of op.NearSystem ++ ls) xs _ _ more done)

  near_system_agrees : (turn : ℕ) → AreAmong (reads_of op.NearSystem) ls → ResultsAgree (writes_of op.NearSystem ++ ls) (near_system turn (buffer_in u) u) (near_system turn (buffer_in v) v)
  near_system_agrees turn h =
      let asked : request_in u ≡ request_in v = request_same (near_request ls h) in
      subst (λ (o : Option (ℕ × ℕ)). ResultsAgree (writes_of op.NearSystem ++ ls) (near_system turn (buffer_in u) u) (near_system turn o v)) (buffer_alike ls u v agree (h InFrames (2, omega arith, refl)) asked) (near_system_by turn (buffer_in u) h)

  -- ---- terms
  term_same : (t : Term) → AreAmong (read_in t) ls → term_in t u ≡ term_in t v
  term_same (term.Var x) h = agree.same (InVar x) (h (InVar x) (0, omega arith, refl))
  term_same (term.Word n) h = refl

  known_same : (t : Term) → AreAmong (read_in t) ls → known (term_in t u) ≡ known (term_in t v)
  known_same t h = ap known (term_same t h)

  divided_agrees : (d e : Divided) (q r : Var) → d ≡ e → ResultsAgree (InVar r ∷ InVar q ∷ ls) (divided_into d q r u) (divided_into e q r v)
  divided_agrees d e q r same = subst (λ (x : Divided). ResultsAgree (InVar r ∷ InVar q ∷ ls) (divided_into d q r u) (divided_into x q r v)) same (go d)
    where
      go : (d : Divided) → ResultsAgree (InVar r ∷ InVar q ∷ ls) (divided_into d q r u) (divided_into d q r v)
      go (divided.Got x y) = put_agrees r y y (InVar q ∷ ls) _ _ refl (put_agrees q x x ls u v refl agree)
      go divided.Fault = refl
      go divided.Unspecified = refl

  -- ---- operations
  pub perform_agrees : (turn : ℕ) (o : Op) → AreAmong (reads_of o) ls → ResultsAgree (writes_of o ++ ls) (perform turn o u) (perform turn o v)
  unfolding perform
  perform_agrees turn (op.Set to from) h = put_agrees to _ _ ls u v (term_same from h) agree
  perform_agrees turn (op.Calc to calc left right) h =
      let first : term_in left u ≡ term_in left v = term_same left (left_among (read_in left) (read_in right) ls h) in
      let second : term_in right u ≡ term_in right v = term_same right (right_among (read_in left) (read_in right) ls h) in
      put_agrees to _ _ ls u v (ap (λ (x : Word). calculate calc x (term_in right u)) first ∙ ap (calculate calc (term_in left v)) second) agree
  perform_agrees turn (op.Forget to) h = put_agrees to _ _ ls u v refl agree
  perform_agrees turn (op.Pick to test x y) h =
      let rest : AreAmong (read_in test ++ read_in x) ls = left_among (read_in test ++ read_in x) (read_in y) ls h in
      let first : known (term_in test u) ≡ known (term_in test v) = known_same test (left_among (read_in test) (read_in x) ls rest) in
      let second : term_in x u ≡ term_in x v = term_same x (right_among (read_in test) (read_in x) ls rest) in
      let third : term_in y u ≡ term_in y v = term_same y (right_among (read_in test ++ read_in x) (read_in y) ls h) in
      put_agrees to _ _ ls u v (ap (λ (o : Option ℕ). picked o (term_in x u) (term_in y u)) first ∙ ap (λ (w : Word). picked (known (term_in test v)) w (term_in y u)) second ∙ ap (picked (known (term_in test v)) (term_in x v)) third) agree
  perform_agrees turn (op.Need from) h = needed_agrees ls _ _ _ _ (known_same from h) (λ n. agree)
  perform_agrees turn (op.Divide quotient remainder high low by size signed) h =
      let rest : AreAmong (read_in high ++ read_in low) ls = left_among (read_in high ++ read_in low) (read_in by) ls h in
      let first : term_in high u ≡ term_in high v = term_same high (left_among (read_in high) (read_in low) ls rest) in
      let second : term_in low u ≡ term_in low v = term_same low (right_among (read_in high) (read_in low) ls rest) in
      let third : term_in by u ≡ term_in by v = term_same by (right_among (read_in high ++ read_in low) (read_in by) ls h) in
      divided_agrees _ _ quotient remainder (ap (λ (x : Word). divide signed size x (term_in low u) (term_in by u)) first ∙ ap (λ (x : Word). divide signed size (term_in high v) x (term_in by u)) second ∙ ap (divide signed size (term_in high v) (term_in low v)) third)
  perform_agrees turn (op.Load to size at) h =
      let memory : u.memory ≡ v.memory = agree.same InMemory (h InMemory (first_in InMemory (read_in at))) in
      needed_agrees (InVar to ∷ ls) _ _ _ _ (known_same at (others_among InMemory (read_in at) ls h)) (λ a. loaded_agrees ls _ _ to u v (ap (λ (m : Memory). load size m a) memory) agree)
  perform_agrees turn (op.Store size at from) h =
      let memory : u.memory ≡ v.memory = agree.same InMemory (h InMemory (first_in InMemory (read_in at ++ read_in from))) in
      let rest : AreAmong (read_in at ++ read_in from) ls = others_among InMemory (read_in at ++ read_in from) ls h in
      let stored : term_in from u ≡ term_in from v = term_same from (right_among (read_in at) (read_in from) ls rest) in
      needed_agrees (InMemory ∷ ls) _ _ _ _ (known_same at (left_among (read_in at) (read_in from) ls rest)) (λ a. stored_agrees ls _ _ u v (ap (λ (w : Word). store size w u.memory a) stored ∙ ap (λ (m : Memory). store size (term_in from v) m a) memory) agree)
  perform_agrees turn (op.NearLoad to size at) h =
      let rest : AreAmong (InFrames ∷ read_in at) ls = others_among InMemory (InFrames ∷ read_in at) ls h in
      needed_agrees (InVar to ∷ ls) _ _ _ _ (known_same at (others_among InFrames (read_in at) ls rest))
      (λ a. loaded_agrees ls _ _ to u v (near_load_alike ls u v agree (rest InFrames (first_in InFrames (read_in at))) turn size a (h InMemory (first_in InMemory (InFrames ∷ read_in at)))) agree)
  perform_agrees turn (op.NearStore size at from) h =
      let rest : AreAmong (InFrames ∷ read_in at ++ read_in from) ls = others_among InMemory (InFrames ∷ read_in at ++ read_in from) ls h in
      let terms : AreAmong (read_in at ++ read_in from) ls = others_among InFrames (read_in at ++ read_in from) ls rest in
      needed_agrees (InFrames ∷ InMemory ∷ ls) _ _ _ _ (known_same at (left_among (read_in at) (read_in from) ls terms))
      (λ a. near_store_agrees ls u v agree (rest InFrames (first_in InFrames (read_in at ++ read_in from))) turn size _ _ a (h InMemory (first_in InMemory (InFrames ∷ read_in at ++ read_in from))) (term_same from (right_among (read_in at) (read_in from) ls terms)))
  perform_agrees turn (op.Get to size offset) h = loaded_agrees ls _ _ to u v (get_alike size offset u.memory v.memory u.frames v.frames (bares_agree ls u v agree (h InFrames (first_in InFrames [])))) agree
  perform_agrees turn (op.Put size offset from) h = put_frame_agrees ls u v agree (h InFrames (first_in InFrames (read_in from))) size offset _ _ (term_same from (others_among InFrames (read_in from) ls h))
  perform_agrees turn op.System h =
      let asked : request_in u ≡ request_in v = request_same (plain_request ls h) in
      let memory : u.memory ≡ v.memory = agree.same InMemory (h InMemory (0, omega arith, refl)) in
      let left : u.left ≡ v.left = agree.same InOutside (h InOutside (1, omega arith, refl)) in
      system_agrees (call_in u) (call_in v) (call_alike asked memory left) memory
  perform_agrees turn op.NearSystem h = with_frame_agrees (writes_of op.NearSystem ++ ls) u.frames v.frames _ _ agree.outline.frames (near_system_agrees turn h)

  -- ---- what they show
  near_shown : (o : Option (ℕ × ℕ)) → AreAmong (reads_of op.NearSystem) ls → labels_of (near_call_by o u) ≡ labels_of (near_call_by o v)
  near_shown o h =
      let asked : request_in u ≡ request_in v = request_same (near_request ls h) in
      let memory : u.memory ≡ v.memory = agree.same InMemory (h InMemory (0, omega arith, refl)) in
      let left : u.left ≡ v.left = agree.same InOutside (h InOutside (1, omega arith, refl)) in
      go o (ap labels_of (call_alike asked memory left)) (ap labels_of (near_call_alike ls u v agree (h InFrames (2, omega arith, refl)) asked memory left))
    where
      go : (o : Option (ℕ × ℕ)) → labels_of (call_in u) ≡ labels_of (call_in v) → labels_of (near_call_in u) ≡ labels_of (near_call_in v) → labels_of (near_call_by o u) ≡ labels_of (near_call_by o v)
      go None k l = k
      go (Some p) k l = l

  pub shown_agrees : (o : Op) → AreAmong (reads_of o) ls → shown_by o u ≡ shown_by o v
  shown_agrees op.System h =
      let asked : request_in u ≡ request_in v = request_same (plain_request ls h) in
      ap labels_of (call_alike asked (agree.same InMemory (h InMemory (0, omega arith, refl))) (agree.same InOutside (h InOutside (1, omega arith, refl))))
  shown_agrees op.NearSystem h =
      let asked : request_in u ≡ request_in v = request_same (near_request ls h) in
      near_shown (buffer_in u) h ∙ ap (λ (o : Option (ℕ × ℕ)). labels_of (near_call_by o v)) (buffer_alike ls u v agree (h InFrames (2, omega arith, refl)) asked)
  shown_agrees o h = refl
