-- What operations change.
use Rattle.std.proofs.Common.{◌≡◌, ◌⊎◌, ℕ, List, [], ◌∷◌, ◌++◌, take, Contains, Option, Some, None, Result, Ok, Err, refl, sym, ap, ◌∙◌, subst, inl, inr, ℤ}
use Rattle.std.proofs.lemmas.Bool.{cond_both}
use Rattle.std.proofs.lemmas.List.Elements.{Contains-append_left, Contains-append_right}
use Rattle.x86_values.specs.declared.word.Word.{Word}
use Rattle.x86_values.specs.declared.divided.Divided.{Divided}
use Rattle.x86_values.specs.declared.divided.Divided.TheVariants as divided
use Rattle.x86_values.specs.Words.{word_of, known, word_list}
use Rattle.x86_values.specs.Divisions.{divide}
use Rattle.outside.specs.Environment.{Environment}
use Rattle.traces.specs.Trace.{End}
use Rattle.memory.specs.Memory.{Memory, store_all}
use Rattle.memory.specs.SystemCall.{Called, Ends, Gives}
use Rattle.flag_ir.specs.declared.variable.Var.{Var}
use Rattle.flag_ir.specs.declared.variable.Var.TheVariants as var
use Rattle.flag_ir.specs.declared.operation.Op.{Op}
use Rattle.flag_ir.specs.declared.operation.Op.TheVariants as op
use Rattle.flag_ir.specs.Storage.{Frame, Storage, with_local, local_in, put_var, var_in, term_in}
use Rattle.flag_ir.specs.Frames.{reached_frames, all_covered, store_near_all, is_judged}
use Rattle.flag_ir.specs.Operations.{and_then, load, store, in_frames, with_frame, near_load, near_store, at_offset, get_of, put_of, called, call_in, buffer_in, near_call_in, called_near, near_system, divided_into, perform}
use Rattle.flag_ir.specs.Reads.{StorageLocation, InVar, InMemory, InOutside, InFrames, writes_of, SameAt, ChangesOnly, AreAmong}
use Rattle.flag_ir.proofs.Openings.{after, after_needed}
use Rattle.flag_ir.proofs.Agreement.{first_in, later_in, in_cases, var_same, put_elsewhere, put_outlines, put_images, put_memory, put_left, put_esp0, StaysFrames}
use Rattle.flag_ir.proofs.Reading.{near_stays, stores_stay, head_stays}

-- ---- one change after another
same_itself : (l : StorageLocation) (u : Storage) → SameAt l u u
same_itself (InVar x) u = refl
same_itself InMemory u = refl
same_itself InOutside u = refl
same_itself InFrames u = refl

same_then : (l : StorageLocation) (u v w : Storage) → SameAt l u v → SameAt l v w → SameAt l u w
same_then (InVar x) u v w h k = h ∙ k
same_then InMemory u v w h k = h ∙ k
same_then InOutside u v w h k = h ∙ k
same_then InFrames u v w h k = h ∙ k

pub nothing_changes : (u : Storage) → ChangesOnly [] u u
nothing_changes u = record { outline = record { frames = refl; esp0 = refl }; same = λ l h. same_itself l u }

pub changes_then : (xs ys : List StorageLocation) (u v w : Storage) → ChangesOnly xs u v → ChangesOnly ys v w → ChangesOnly (ys ++ xs) u w
changes_then xs ys u v w h k = record {
  outline = record { frames = h.outline.frames ∙ k.outline.frames; esp0 = h.outline.esp0 ∙ k.outline.esp0 };
  same = λ l none. same_then l u v w (h.same l (λ m. none (Contains-append_right ys xs l m))) (k.same l (λ m. none (Contains-append_left ys xs l m)));
}

changes_among : (xs ls : List StorageLocation) (u v : Storage) → AreAmong xs ls → ChangesOnly xs u v → ChangesOnly ls u v
changes_among xs ls u v h k = record { outline = k.outline; same = λ l none. k.same l (λ m. none (h l m)) }

-- ---- a variable
put_other : (x y : Var) (w : Word) (u : Storage) → (x ≡ y → ⊥) → var_in y u ≡ var_in y (put_var x w u)
put_other (var.Reg n) (var.Reg m) w u h = sym (put_elsewhere n m w u.regs (λ e. h (ap var.Reg e)))
put_other (var.Flag n) (var.Flag m) w u h = sym (put_elsewhere n m w u.flags (λ e. h (ap var.Flag e)))
put_other (var.Temp n) (var.Temp m) w u h = sym (put_elsewhere n m w u.temps (λ e. h (ap var.Temp e)))
put_other (var.Local n) (var.Local m) w u h = go u.frames
  where
    go : (fs : List Frame) → local_in m fs ≡ local_in m (with_local n w fs)
    go [] = refl
    go (f ∷ fs) = sym (put_elsewhere n m _ f.locals (λ e. h (ap var.Local e)))
put_other x y w u h = refl

put_changes : (x : Var) (w : Word) (u : Storage) → ChangesOnly (InVar x ∷ []) u (put_var x w u)
put_changes x w u = record { outline = record { frames = sym (put_outlines x w u); esp0 = sym (put_esp0 x w u) }; same = same }
  where
    same : (l : StorageLocation) → (Contains (InVar x ∷ []) l → ⊥) → SameAt l u (put_var x w u)
    same (InVar y) none = put_other x y w u (λ e. none (subst (λ (z : Var). Contains (InVar x ∷ []) (InVar z)) e (first_in (InVar x) [])))
    same InMemory none = sym (put_memory x w u)
    same InOutside none = sym (put_left x w u)
    same InFrames none = sym (put_images x w u)

-- ---- memory, the outside, the frames
memory_changes : (m : Memory) (u : Storage) → ChangesOnly (InMemory ∷ []) u (record u { memory = m })
memory_changes m u = record { outline = record { frames = refl; esp0 = refl }; same = same }
  where
    same : (l : StorageLocation) → (Contains (InMemory ∷ []) l → ⊥) → SameAt l u (record u { memory = m })
    same (InVar x) none = var_same x u (record u { memory = m }) refl refl refl (λ n. refl)
    same InMemory none = absurd (none (first_in InMemory []))
    same InOutside none = refl
    same InFrames none = refl

outside_changes : (left : Environment) (u : Storage) → ChangesOnly (InOutside ∷ []) u (record u { left = left })
outside_changes left u = record { outline = record { frames = refl; esp0 = refl }; same = same }
  where
    same : (l : StorageLocation) → (Contains (InOutside ∷ []) l → ⊥) → SameAt l u (record u { left = left })
    same (InVar x) none = var_same x u (record u { left = left }) refl refl refl (λ n. refl)
    same InMemory none = refl
    same InOutside none = absurd (none (first_in InOutside []))
    same InFrames none = refl

frames_change : (fs : List Frame) (u : Storage) → StaysFrames u.frames fs → ChangesOnly (InFrames ∷ []) u (record u { frames = fs })
frames_change fs u stays = record { outline = record { frames = sym stays.outlines; esp0 = refl }; same = same }
  where
    same : (l : StorageLocation) → (Contains (InFrames ∷ []) l → ⊥) → SameAt l u (record u { frames = fs })
    same (InVar x) none = var_same x u (record u { frames = fs }) refl refl refl (λ n. sym (stays.locals n))
    same InMemory none = refl
    same InOutside none = refl
    same InFrames none = absurd (none (first_in InFrames []))

-- ---- results
abbrev pub Changed : List StorageLocation → Storage → Result Storage End → Type 0
Changed ls u (Ok v) = ChangesOnly ls u v
Changed ls u (Err e) = Unit {0}

changed_among : (xs ls : List StorageLocation) (u : Storage) (r : Result Storage End) → AreAmong xs ls → Changed xs u r → Changed ls u r
changed_among xs ls u (Ok v) h k = changes_among xs ls u v h k
changed_among xs ls u (Err e) h k = tt

loaded_changes : (r : Result Word End) (to : Var) (u : Storage) → Changed (InVar to ∷ []) u (and_then r (λ w. Ok (put_var to w u)))
loaded_changes r to u = after (Changed (InVar to ∷ []) u) r _ (λ e h. tt) (λ w h. put_changes to w u)

stored_changes : (r : Result Memory End) (u : Storage) → Changed (InMemory ∷ []) u (and_then r (λ m. Ok (record u { memory = m })))
stored_changes r u = after (Changed (InMemory ∷ []) u) r _ (λ e h. tt) (λ m h. memory_changes m u)

with_frame_changes : (ls : List StorageLocation) (fs : List Frame) (u : Storage) (r : Result Storage End) → Changed ls u r → Changed ls u (with_frame fs r)
with_frame_changes ls [] u r h = tt
with_frame_changes ls (f ∷ fs) u r h = h

in_frames_changes : (ls : List StorageLocation) (turn at size : ℕ) (u : Storage) (r : Result Storage End) → Changed ls u r → Changed ls u (in_frames turn u at size r)
in_frames_changes ls turn at size u r h = cond_both (all_covered (reached_frames u.frames) at size) _ _ (Changed ls u) (λ k. h) (λ k. tt)

one_of_two : (x y : StorageLocation) → AreAmong (x ∷ []) (x ∷ y ∷ [])
one_of_two x y l h = go (in_cases x l [] h)
  where
    go : (x ≡ l) ⊎ Contains [] l → Contains (x ∷ y ∷ []) l
    go (inl e) = subst (λ (z : StorageLocation). Contains (x ∷ y ∷ []) z) e (first_in x (y ∷ []))
    go (inr k) = later_in x l (y ∷ []) (later_in y l [] k)

other_of_two : (x y : StorageLocation) → AreAmong (y ∷ []) (x ∷ y ∷ [])
other_of_two x y l h = later_in x l (y ∷ []) h

near_store_changes : (turn size : ℕ) (w : Word) (u : Storage) (at : ℕ) → Changed (InFrames ∷ InMemory ∷ []) u (near_store turn size w u at)
near_store_changes turn size w u at =
    let ls : List StorageLocation = InFrames ∷ InMemory ∷ [] in
    with_frame_changes ls u.frames u _
    (cond_both (is_judged at u) _ _ (Changed ls u)
    (λ h. in_frames_changes ls turn at size u _ (changes_among (InFrames ∷ []) ls u _ (one_of_two InFrames InMemory) (frames_change _ u (near_stays at (take size (word_list w)) u.frames))))
    (λ h. changed_among (InMemory ∷ []) ls u _ (other_of_two InFrames InMemory) (stored_changes (store size w u.memory at) u)))

put_frame_changes : (size : ℕ) (offset : ℤ) (w : Word) (u : Storage) (fs : List Frame) → u.frames ≡ fs → Changed (InFrames ∷ []) u (put_of size offset w u fs)
put_frame_changes size offset w u [] is = tt
put_frame_changes size offset w u (f ∷ fs) is =
    cond_both (all_covered (f ∷ []) (at_offset f.height offset) size) _ _ (Changed (InFrames ∷ []) u) (λ h. frames_change _ u (head_stays (at_offset f.height offset) (take size (word_list w)) f fs u.frames is)) (λ h. tt)

called_changes : (x : Called) (u : Storage) → Changed (InVar (var.Reg 0) ∷ InMemory ∷ InOutside ∷ []) u (called x u)
called_changes (Ends e) u = tt
called_changes (Gives labels result stores left) u =
    let s : Storage = record u { left = left } in
    let t : Storage = record u { left = left; memory = store_all stores u.memory } in
    changes_then (InMemory ∷ InOutside ∷ []) (InVar (var.Reg 0) ∷ []) u t _ (changes_then (InOutside ∷ []) (InMemory ∷ []) u s t (outside_changes left u) (memory_changes (store_all stores u.memory) s)) (put_changes (var.Reg 0) (word_of result) t)

called_near_changes : (x : Called) (u : Storage) → Changed (InVar (var.Reg 0) ∷ InOutside ∷ InFrames ∷ []) u (called_near x u)
called_near_changes (Ends e) u = tt
called_near_changes (Gives labels result stores left) u =
    let s : Storage = record u { frames = store_near_all stores u.frames } in
    let t : Storage = record u { left = left; frames = store_near_all stores u.frames } in
    changes_then (InOutside ∷ InFrames ∷ []) (InVar (var.Reg 0) ∷ []) u t _ (changes_then (InFrames ∷ []) (InOutside ∷ []) u s t (frames_change _ u (stores_stay stores u.frames)) (outside_changes left s)) (put_changes (var.Reg 0) (word_of result) t)

-- the locations of a call, of which either set is a part
plain_among : AreAmong (InVar (var.Reg 0) ∷ InMemory ∷ InOutside ∷ []) (writes_of op.NearSystem)
plain_among l h = Contains-append_left (InVar (var.Reg 0) ∷ InMemory ∷ InOutside ∷ []) (InFrames ∷ []) l h

near_among : AreAmong (InVar (var.Reg 0) ∷ InOutside ∷ InFrames ∷ []) (writes_of op.NearSystem)
near_among l h = go (in_cases (InVar (var.Reg 0)) l (InOutside ∷ InFrames ∷ []) h)
  where
    go : (InVar (var.Reg 0) ≡ l) ⊎ Contains (InOutside ∷ InFrames ∷ []) l → Contains (writes_of op.NearSystem) l
    go (inl e) = subst (λ (z : StorageLocation). Contains (writes_of op.NearSystem) z) e (first_in (InVar (var.Reg 0)) (InMemory ∷ InOutside ∷ InFrames ∷ []))
    go (inr k) = later_in (InVar (var.Reg 0)) l (InMemory ∷ InOutside ∷ InFrames ∷ []) (later_in InMemory l (InOutside ∷ InFrames ∷ []) k)

near_system_changes : (turn : ℕ) (o : Option (ℕ × ℕ)) (u : Storage) → Changed (writes_of op.NearSystem) u (near_system turn o u)
near_system_changes turn None u = changed_among _ (writes_of op.NearSystem) u _ plain_among (called_changes (call_in u) u)
near_system_changes turn (Some p) u = in_frames_changes (writes_of op.NearSystem) turn p.0 p.1 u _ (changed_among (InVar (var.Reg 0) ∷ InOutside ∷ InFrames ∷ []) (writes_of op.NearSystem) u _ near_among (called_near_changes (near_call_in u) u))

divided_changes : (d : Divided) (q r : Var) (u : Storage) → Changed (InVar r ∷ InVar q ∷ []) u (divided_into d q r u)
divided_changes (divided.Got x y) q r u = changes_then (InVar q ∷ []) (InVar r ∷ []) u (put_var q x u) _ (put_changes q x u) (put_changes r y (put_var q x u))
divided_changes divided.Fault q r u = tt
divided_changes divided.Unspecified q r u = tt

-- ---- operations
operation_changes : (turn : ℕ) (o : Op) (u : Storage) → Changed (writes_of o) u (perform turn o u)
unfolding perform
operation_changes turn (op.Set to from) u = put_changes to _ u
operation_changes turn (op.Calc to calc left right) u = put_changes to _ u
operation_changes turn (op.Forget to) u = put_changes to _ u
operation_changes turn (op.Pick to test x y) u = put_changes to _ u
operation_changes turn (op.Need from) u = after_needed (Changed [] u) (known (term_in from u)) _ tt (λ n h. nothing_changes u)
operation_changes turn (op.Divide quotient remainder high low by size signed) u = divided_changes (divide signed size (term_in high u) (term_in low u) (term_in by u)) quotient remainder u
operation_changes turn (op.Load to size at) u = after_needed (Changed (InVar to ∷ []) u) (known (term_in at u)) _ tt (λ a h. loaded_changes (load size u.memory a) to u)
operation_changes turn (op.Store size at from) u = after_needed (Changed (InMemory ∷ []) u) (known (term_in at u)) _ tt (λ a h. stored_changes (store size (term_in from u) u.memory a) u)
operation_changes turn (op.NearLoad to size at) u = after_needed (Changed (InVar to ∷ []) u) (known (term_in at u)) _ tt (λ a h. loaded_changes (near_load turn size u a) to u)
operation_changes turn (op.NearStore size at from) u = after_needed (Changed (InFrames ∷ InMemory ∷ []) u) (known (term_in at u)) _ tt (λ a h. near_store_changes turn size (term_in from u) u a)
operation_changes turn (op.Get to size offset) u = loaded_changes (get_of size offset u.memory u.frames) to u
operation_changes turn (op.Put size offset from) u = put_frame_changes size offset (term_in from u) u u.frames refl
operation_changes turn op.System u = called_changes (call_in u) u
operation_changes turn op.NearSystem u = with_frame_changes (writes_of op.NearSystem) u.frames u _ (near_system_changes turn (buffer_in u) u)

pub perform_changes : (turn : ℕ) (o : Op) (u v : Storage) → perform turn o u ≡ Ok v → ChangesOnly (writes_of o) u v
perform_changes turn o u v h = subst (Changed (writes_of o) u) h (operation_changes turn o u)
