-- Operations close and open no frame, and come to no guard event.
use Rattle.std.proofs.Common.{◌≡◌, ℕ, true, false, List, [], ◌∷◌, take, Option, Some, None, Result, Ok, Err, refl, ap, ◌∙◌, subst, ℤ}
use Rattle.std.proofs.lemmas.Bool.{cond_both}
use Rattle.x86_values.specs.declared.byte.Byte.{Byte}
use Rattle.x86_values.specs.declared.word.Word.{Word}
use Rattle.x86_values.specs.declared.divided.Divided.{Divided}
use Rattle.x86_values.specs.declared.divided.Divided.TheVariants as divided
use Rattle.x86_values.specs.Words.{known, word_list}
use Rattle.x86_values.specs.Divisions.{divide}
use Rattle.traces.specs.Trace.{End, Exited, MemoryFault, DivideFault, Outside, OtherCall, Unspecified, Guard, Stopped}
use Rattle.memory.specs.Memory.{Memory, Load, Store, allows_all}
use Rattle.memory.specs.SystemCall.{Called, Ends, Gives}
use Rattle.memory.specs.CallLaws.{CallLaws, IsPlainCall, is_own_end}
use Rattle.flag_ir.specs.declared.variable.Var.{Var}
use Rattle.flag_ir.specs.declared.variable.Var.TheVariants as var
use Rattle.flag_ir.specs.declared.operation.Op.{Op}
use Rattle.flag_ir.specs.declared.operation.Op.TheVariants as op
use Rattle.flag_ir.specs.Storage.{Frame, Storage, put_var, with_local, term_in}
use Rattle.flag_ir.specs.Frames.{reached_frames, all_covered, is_judged, with_image, seen_memory}
use Rattle.flag_ir.specs.Operations.{and_then, needed, load, store, in_frames, with_frame, near_load, near_store, at_offset, get_of, put_of, request_in, called, call_in, buffer_in, near_call_in, called_near, near_system, divided_into, perform}
use Rattle.flag_ir.proofs.KeptFrames.{near_all_kept, stores_kept, bytes_kept}
use Rattle.flag_ir.specs.Reached.{Opening, opening, openings, is_guard}

-- ---- one thing after another, up to an end
module _ {A B : Type 0} (P : Result B End → Type 0) where
  pub after : (r : Result A End) (f : A → Result B End) → ((e : End) → r ≡ Err e → P (Err e)) → ((a : A) → r ≡ Ok a → P (f a)) → P (and_then r f)
  after (Ok a) f h k = k a refl
  after (Err e) f h k = h e refl

  pub after_needed : (o : Option A) (f : A → Result B End) → P (Err Unspecified) → ((a : A) → o ≡ Some a → P (f a)) → P (and_then (needed o) f)
  after_needed None f h k = h
  after_needed (Some a) f h k = k a refl

-- ---- an end is no guard event
abbrev pub EndsPlainly : {A : Type 0} → Result A End → Type 0
EndsPlainly (Ok a) = Unit {0}
EndsPlainly (Err e) = is_guard e ≡ false

pub plain_end : {A : Type 0} (r : Result A End) (e : End) → EndsPlainly r → r ≡ Err e → is_guard e ≡ false
plain_end r e h k = subst EndsPlainly k h

own_is_plain : (e : End) → is_own_end e ≡ true → is_guard e ≡ false
own_is_plain (Exited n) h = refl
own_is_plain MemoryFault h = refl
own_is_plain DivideFault h = refl
own_is_plain Outside h = refl
own_is_plain (OtherCall n) h = refl
own_is_plain Unspecified h = refl
own_is_plain (Guard k a) h = absurd cc
own_is_plain (Stopped a) h = absurd cc

load_plain : (size : ℕ) (m : Memory) (at : ℕ) → EndsPlainly (load size m at)
load_plain size m at = cond_both (allows_all Load m at size) _ _ EndsPlainly (λ h. tt) (λ h. refl)

store_plain : (size : ℕ) (w : Word) (m : Memory) (at : ℕ) → EndsPlainly (store size w m at)
store_plain size w m at = cond_both (allows_all Store m at size) _ _ EndsPlainly (λ h. tt) (λ h. refl)

in_frames_plain : {A : Type 0} (turn : ℕ) (u : Storage) (at size : ℕ) (done : Result A End) → EndsPlainly done → EndsPlainly (in_frames turn u at size done)
in_frames_plain turn u at size done h = cond_both (all_covered (reached_frames u.frames) at size) _ _ EndsPlainly (λ k. h) (λ k. refl)

with_frame_plain : {A : Type 0} (frames : List Frame) (done : Result A End) → EndsPlainly done → EndsPlainly (with_frame frames done)
with_frame_plain [] done h = refl
with_frame_plain (f ∷ more) done h = h

near_load_plain : (turn size : ℕ) (u : Storage) (at : ℕ) → EndsPlainly (near_load turn size u at)
near_load_plain turn size u at = with_frame_plain u.frames _ (cond_both (is_judged at u) _ _ EndsPlainly (λ h. in_frames_plain turn u at size _ tt) (λ h. load_plain size u.memory at))

get_plain : (size : ℕ) (offset : ℤ) (m : Memory) (frames : List Frame) → EndsPlainly (get_of size offset m frames)
get_plain size offset m [] = refl
get_plain size offset m (f ∷ more) = cond_both (all_covered (f ∷ []) (at_offset f.height offset) size) _ _ EndsPlainly (λ h. tt) (λ h. refl)

-- ---- the openings stay
local_kept : (n : ℕ) (w : Word) (frames : List Frame) → openings (with_local n w frames) ≡ openings frames
local_kept n w [] = refl
local_kept n w (f ∷ more) = refl

var_kept : (v : Var) (w : Word) (u : Storage) → openings (put_var v w u).frames ≡ openings u.frames
var_kept (var.Reg n) w u = refl
var_kept (var.Flag n) w u = refl
var_kept (var.Temp n) w u = refl
var_kept (var.Local n) w u = local_kept n w u.frames

opening_kept : (a : ℕ) (b : Byte) (f : Frame) → opening (with_image a b f) ≡ opening f
opening_kept a b f = refl

-- ---- operations
abbrev pub Kept : List Opening → Result Storage End → Type 0
Kept os (Ok v) = openings v.frames ≡ os
Kept os (Err e) = is_guard e ≡ false

put_kept : (size : ℕ) (offset : ℤ) (w : Word) (u : Storage) (frames : List Frame) → Kept (openings frames) (put_of size offset w u frames)
put_kept size offset w u [] = refl
put_kept size offset w u (f ∷ more) =
    cond_both (all_covered (f ∷ []) (at_offset f.height offset) size) _ _ (Kept (openings (f ∷ more))) (λ h. ap (λ o. o ∷ openings more) (bytes_kept opening opening_kept (at_offset f.height offset) (take size (word_list w)) f)) (λ h. refl)

divided_kept : (d : Divided) (q r : Var) (u : Storage) → Kept (openings u.frames) (divided_into d q r u)
divided_kept (divided.Got x y) q r u = var_kept r y (put_var q x u) ∙ var_kept q x u
divided_kept divided.Fault q r u = refl
divided_kept divided.Unspecified q r u = refl

in_frames_kept : (os : List Opening) (turn : ℕ) (u : Storage) (at size : ℕ) (done : Result Storage End) → Kept os done → Kept os (in_frames turn u at size done)
in_frames_kept os turn u at size done h = cond_both (all_covered (reached_frames u.frames) at size) _ _ (Kept os) (λ k. h) (λ k. refl)

with_frame_kept : (os : List Opening) (frames : List Frame) (done : Result Storage End) → Kept os done → Kept os (with_frame frames done)
with_frame_kept os [] done h = refl
with_frame_kept os (f ∷ more) done h = h

loaded_kept : (r : Result Word End) (to : Var) (u : Storage) → EndsPlainly r → Kept (openings u.frames) (and_then r (λ w. Ok (put_var to w u)))
loaded_kept r to u h = after (Kept (openings u.frames)) r _ (λ e k. plain_end r e h k) (λ w k. var_kept to w u)

stored_kept : (size : ℕ) (w : Word) (u : Storage) (at : ℕ) → Kept (openings u.frames) (and_then (store size w u.memory at) (λ m. Ok (record u { memory = m })))
stored_kept size w u at = after (Kept (openings u.frames)) (store size w u.memory at) _ (λ e k. plain_end _ e (store_plain size w u.memory at) k) (λ m k. refl)

near_store_kept : (turn size : ℕ) (w : Word) (u : Storage) (at : ℕ) → Kept (openings u.frames) (near_store turn size w u at)
near_store_kept turn size w u at =
    with_frame_kept (openings u.frames) u.frames _ (cond_both (is_judged at u) _ _ (Kept (openings u.frames)) (λ h. in_frames_kept (openings u.frames) turn u at size _ (near_all_kept opening opening_kept at (take size (word_list w)) u.frames)) (λ h. stored_kept size w u at))

called_kept : (x : Called) (u : Storage) → IsPlainCall x → Kept (openings u.frames) (called x u)
called_kept (Ends e) u h = own_is_plain e h
called_kept (Gives labels result stores left) u h = refl

called_near_kept : (x : Called) (u : Storage) → IsPlainCall x → Kept (openings u.frames) (called_near x u)
called_near_kept (Ends e) u h = own_is_plain e h
called_near_kept (Gives labels result stores left) u h = stores_kept opening opening_kept stores u.frames

module _ (calls : CallLaws) where
  near_system_kept : (turn : ℕ) (o : Option (ℕ × ℕ)) (u : Storage) → Kept (openings u.frames) (near_system turn o u)
  near_system_kept turn None u = called_kept (call_in u) u (calls.are_plain (request_in u) u.memory u.left)
  near_system_kept turn (Some p) u = in_frames_kept (openings u.frames) turn u p.0 p.1 _ (called_near_kept (near_call_in u) u (calls.are_plain (request_in u) (seen_memory (reached_frames u.frames) u.memory) u.left))

  pub perform_kept : (turn : ℕ) (o : Op) (u : Storage) → Kept (openings u.frames) (perform turn o u)
  unfolding perform
  perform_kept turn (op.Set to from) u = var_kept to (term_in from u) u
  perform_kept turn (op.Calc to calc left right) u = var_kept to _ u
  perform_kept turn (op.Forget to) u = var_kept to _ u
  perform_kept turn (op.Pick to test x y) u = var_kept to _ u
  perform_kept turn (op.Need from) u = after_needed (Kept (openings u.frames)) (known (term_in from u)) _ refl (λ a h. refl)
  perform_kept turn (op.Divide quotient remainder high low by size signed) u = divided_kept (divide signed size (term_in high u) (term_in low u) (term_in by u)) quotient remainder u
  perform_kept turn (op.Load to size at) u = after_needed (Kept (openings u.frames)) (known (term_in at u)) _ refl (λ a h. loaded_kept (load size u.memory a) to u (load_plain size u.memory a))
  perform_kept turn (op.Store size at from) u = after_needed (Kept (openings u.frames)) (known (term_in at u)) _ refl (λ a h. stored_kept size (term_in from u) u a)
  perform_kept turn (op.NearLoad to size at) u = after_needed (Kept (openings u.frames)) (known (term_in at u)) _ refl (λ a h. loaded_kept (near_load turn size u a) to u (near_load_plain turn size u a))
  perform_kept turn (op.NearStore size at from) u = after_needed (Kept (openings u.frames)) (known (term_in at u)) _ refl (λ a h. near_store_kept turn size (term_in from u) u a)
  perform_kept turn (op.Get to size offset) u = loaded_kept (get_of size offset u.memory u.frames) to u (get_plain size offset u.memory u.frames)
  perform_kept turn (op.Put size offset from) u = put_kept size offset (term_in from u) u u.frames
  perform_kept turn op.System u = called_kept (call_in u) u (calls.are_plain (request_in u) u.memory u.left)
  perform_kept turn op.NearSystem u = with_frame_kept (openings u.frames) u.frames _ (near_system_kept turn (buffer_in u) u)
