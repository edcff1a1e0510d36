-- Accesses by addresses of the running procedure.
use Rattle.std.proofs.Common.{◌≡◌, ℕ, zero, suc, ◌+◌, ◌<◌, ◌≤◌, ◌^◌, ◌==◌, ◌&&◌, ◌||◌, Bool, true, false, List, [], ◌∷◌, length, take, position, Option, Some, None, refl, sym, ap, ◌∙◌, arith}
use Rattle.std.specs.List.{find}
use Rattle.std.specs.Option.{option_map, is_some}
use Rattle.x86_values.specs.declared.byte.Byte.{Byte}
use Rattle.x86_values.specs.declared.word.Word.{Word}
use Rattle.x86_values.specs.Words.{word_list}
use Rattle.x86_values.specs.Sizes.{IsSize}
use Rattle.std.proofs.lemmas.Bool.{eqb-true}
use Rattle.std.proofs.lemmas.List.{length-take-le}
use Rattle.memory.specs.Memory.{Memory, wrapped}
use Rattle.flag_ir.specs.declared.procedure.Proc.{Proc}
use Rattle.flag_ir.specs.Storage.{Frame}
use Rattle.flag_ir.specs.Frames.{covers, all_covered, reached_frames, put_near_all}
use Rattle.unit_frames.specs.declared.frame.OpenFrame.{OpenFrame}
use Rattle.unit_frames.specs.Kept.{is_in, frame_of, frames_of}
use Rattle.unit_frames.specs.Looking.{word_kept, reached_count, loaded_in, put_all_in}
use Rattle.unit_frames.proofs.Looking.{is_first, found_first, none_found}
use Rattle.unit_frames.proofs.Covering.{found_kept, word_loaded}
use Rattle.unit_frames.proofs.Reaching.{reached_are}
use Rattle.unit_frames.proofs.Storing.{near_all}

pub near_loads : (procs : List Proc) (m : Memory) (at size : ℕ) (fs : List OpenFrame) → IsSize size → at < 2 ^ 32 → word_kept (reached_count fs) at size fs ≡ loaded_in (reached_frames (frames_of procs fs)) m at size
near_loads procs m at size fs h small = word_loaded procs m (reached_count fs) at size fs h small ∙ ap (λ (x : List Frame). loaded_in x m at size) (sym (reached_are procs fs))

-- ---- whether all are covered
mapped : {A B : Type 0} (g : A → B) (o : Option A) → is_some (option_map g o) ≡ is_some o
mapped g None = refl
mapped g (Some a) = refl

found_by : (p : OpenFrame → Bool) (xs : List OpenFrame) (o : Option ℕ) → position p xs ≡ o → is_some o ≡ is_some (find p xs)
found_by p xs None h = sym (ap is_some (none_found p xs h))
found_by p [] (Some k) h = absurd (cc h)
found_by p (x ∷ xs) (Some k) h = sym (ap is_some (found_first p (x ∷ xs) k x (is_first p (x ∷ xs) k h)))

pub covered_kept : (procs : List Proc) (count a : ℕ) (fs : List OpenFrame) → is_some (position (λ f. is_in a f) (take count fs)) ≡ is_some (find (covers a) (take count (frames_of procs fs)))
covered_kept procs count a fs =
    found_by (is_in a) (take count fs) (position (λ f. is_in a f) (take count fs)) refl
    ∙ sym (ap is_some (found_kept procs count a fs) ∙ mapped (frame_of procs) (find (is_in a) (take count fs)))

-- one of them at a time
abbrev pub IsCoveredUpTo : ℕ → List Frame → ℕ → Type 0
IsCoveredUpTo n frames at = (k : ℕ) → k < n → is_some (find (covers (wrapped (at + k))) frames) ≡ true

pub covered_up_to : (n : ℕ) (frames : List Frame) (at : ℕ) → ((k : ℕ) → k < n → is_some (find (covers (wrapped (at + k))) frames) ≡ true) → all_covered frames at n ≡ true
unfolding all_covered
covered_up_to zero frames at h = refl
covered_up_to (suc n) frames at h =
    let e : at + 0 ≡ at = omega arith in
    let first : is_some (find (covers (wrapped at)) frames) ≡ true = rw e at (h 0 (omega arith)) in
    let rest : all_covered frames (at + 1) n ≡ true = covered_up_to n frames (at + 1) (λ k less. let z : at + 1 + k ≡ at + suc k = omega arith in rw z (h (suc k) (omega arith))) in
    rw (first, rest) refl

pub not_covered : (n : ℕ) (frames : List Frame) (at k : ℕ) → k < n → is_some (find (covers (wrapped (at + k))) frames) ≡ false → all_covered frames at n ≡ false
unfolding all_covered
not_covered zero frames at k less h = absurd (omega arith)
not_covered (suc n) frames at zero less h = let e : at + 0 ≡ at = omega arith in let f : is_some (find (covers (wrapped at)) frames) ≡ false = rw e at h in rw f refl
not_covered (suc n) frames at (suc k) less h = later (is_some (find (covers (wrapped at)) frames)) (let z : at + suc k ≡ at + 1 + k = omega arith in not_covered n frames (at + 1) k (omega arith) (rw z at h))
  where
    later : (t : Bool) → all_covered frames (at + 1) n ≡ false → (t && all_covered frames (at + 1) n) ≡ false
    later true e = e
    later false e = refl

-- ---- a store
pub near_stored : (procs : List Proc) (at : ℕ) (bs : List Byte) (fs gs : List OpenFrame) → all_covered (take (reached_count fs) (frames_of procs fs)) at (length bs) ≡ true → frames_of procs gs ≡ put_all_in (reached_count fs) at bs (frames_of procs fs) → frames_of procs gs ≡ put_near_all at bs (frames_of procs fs)
near_stored procs at bs fs gs covered put = put ∙ near_all bs (reached_count fs) at (frames_of procs fs) (reached_are procs fs) covered

-- the lowest bytes of a word are as many as its size says
pub word_size : (size : ℕ) (w : Word) → IsSize size → length (take size (word_list w)) ≡ size
word_size size w h = length-take-le size (word_list w) (few (size == 1) (size == 2) (size == 4) refl refl refl h)
  where
    few : (a b c : Bool) → (size == 1) ≡ a → (size == 2) ≡ b → (size == 4) ≡ c → (a || b || c) ≡ true → size ≤ 4
    few true b c one two four e = let is : size ≡ 1 = eqb-true size 1 one in omega arith
    few false true c one two four e = let is : size ≡ 2 = eqb-true size 2 two in omega arith
    few false false true one two four e = let is : size ≡ 4 = eqb-true size 4 four in omega arith
    few false false false one two four e = absurd (cc e)
