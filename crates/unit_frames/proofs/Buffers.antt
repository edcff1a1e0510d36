-- Bytes of a buffer that stands in the frames that are reached.
use Rattle.std.proofs.Common.{◌≡◌, ℕ, zero, suc, ◌+◌, ◌<◌, ◌≤◌, Bool, true, false, cond, List, [], ◌∷◌, ◌++◌, length, set, take, Option, Some, None, refl, sym, ap, ◌∙◌, arith}
use Rattle.std.specs.List.{find}
use Rattle.std.specs.Option.{is_some}
use Rattle.std.proofs.lemmas.Bool.{and_parts}
use Rattle.std.proofs.lemmas.List.{take_all, take_more_set}
use Rattle.x86_values.specs.declared.byte.Byte.{Byte}
use Rattle.x86_values.specs.Words.{known_byte, with_number, all_known}
use Rattle.memory.specs.Memory.{Memory, wrapped, byte_of, bytes_at}
use Rattle.flag_ir.specs.declared.procedure.Proc.{Proc}
use Rattle.flag_ir.specs.Storage.{Frame}
use Rattle.flag_ir.specs.Frames.{covers, all_covered, reached_frames, seen_place, seen_memory}
use Rattle.unit_frames.specs.declared.frame.OpenFrame.{OpenFrame}
use Rattle.unit_frames.specs.Kept.{frames_of}
use Rattle.unit_frames.specs.Looking.{byte_kept, number_kept, reached_count}
use Rattle.unit_frames.proofs.Covering.{looked, looked_kept}
use Rattle.unit_frames.proofs.Reaching.{reached_are}

-- ---- each byte is covered
pub each_covered : (n : ℕ) (frames : List Frame) (at k : ℕ) → k < n → all_covered frames at n ≡ true → is_some (find (covers (wrapped (at + k))) frames) ≡ true
unfolding all_covered
each_covered zero frames at k less h = absurd (omega (arith, less))
each_covered (suc n) frames at zero less h =
    let z : at + 0 ≡ at = omega arith in rw z (and_parts (is_some (find (covers (wrapped at)) frames)) (all_covered frames (at + 1) n) h).0
each_covered (suc n) frames at (suc k) less h =
    let z : at + suc k ≡ at + 1 + k = omega arith in
    rw z (each_covered n frames (at + 1) k (omega (arith, less)) (and_parts (is_some (find (covers (wrapped at)) frames)) (all_covered frames (at + 1) n) h).1)

pub covered_front : (n k : ℕ) (frames : List Frame) (at : ℕ) → k ≤ n → all_covered frames at n ≡ true → all_covered frames at k ≡ true
unfolding all_covered
covered_front n zero frames at few h = refl
covered_front zero (suc k) frames at few h = absurd (omega (arith, few))
covered_front (suc n) (suc k) frames at few h =
    let parts = and_parts (is_some (find (covers (wrapped at)) frames)) (all_covered frames (at + 1) n) h in
    let rest : all_covered frames (at + 1) k ≡ true = covered_front n k frames (at + 1) (omega (arith, few)) parts.1 in
    rw (parts.0, rest) refl

-- ---- its number
number_seen : (frames : List Frame) (m : Memory) (a : ℕ) → is_some (find (covers a) frames) ≡ true → number_kept (looked frames a) ≡ known_byte (byte_of (seen_memory frames m a))
unfolding seen_memory
number_seen frames m a h = go (find (covers a) frames) h
  where
    go : (o : Option Frame) → is_some o ≡ true → number_kept (elim o as (λ _. Option Byte) [ None ↦ None | Some f ↦ Some (f.image a) ]) ≡ known_byte (byte_of (seen_place o a m))
    go None e = absurd (cc e)
    go (Some f) e = refl

pub number_there : (procs : List Proc) (m : Memory) (fs : List OpenFrame) (count at k n there : ℕ) (o : Option ℕ) → count ≡ reached_count fs → there ≡ wrapped (at + k) → k < n → all_covered (reached_frames (frames_of procs fs)) at n ≡ true → o ≡ number_kept (byte_kept count there fs)
    → o ≡ known_byte (byte_of (seen_memory (reached_frames (frames_of procs fs)) m (wrapped (at + k))))
number_there procs m fs count at k n there o is place less covered h =
    let gs : List Frame = reached_frames (frames_of procs fs) in
    let same : looked gs (wrapped (at + k)) ≡ byte_kept (reached_count fs) (wrapped (at + k)) fs = ap (λ (x : List Frame). looked x (wrapped (at + k))) (reached_are procs fs) ∙ looked_kept procs (reached_count fs) (wrapped (at + k)) fs in
    h ∙ ap (λ (c : ℕ). number_kept (byte_kept c there fs)) is ∙ ap (λ (a : ℕ). number_kept (byte_kept (reached_count fs) a fs)) place ∙ ap number_kept (sym same) ∙ number_seen gs m (wrapped (at + k)) (each_covered n gs at k less covered)

-- ---- numbers that are copied
bytes_push : (m : Memory) (at n : ℕ) → bytes_at m at (n + 1) ≡ bytes_at m at n ++ byte_of (m (wrapped (at + n))) ∷ []
unfolding bytes_at
bytes_push m at zero = let z : at + 0 ≡ at = omega arith in rw z refl
bytes_push m at (suc n) =
    let e : suc n + 1 ≡ suc (n + 1) = omega arith in
    let z : at + suc n ≡ at + 1 + n = omega arith in
    rw (e, z) (ap (λ x. byte_of (m (wrapped at)) ∷ x) (bytes_push m (at + 1) n))

-- the number of a byte after those of others
abbrev after : Option (List ℕ) → Option ℕ → Option (List ℕ)
after (Some ns) (Some n) = Some (ns ++ n ∷ [])
after _ _ = None

with_after : (o : Option ℕ) (q : Option (List ℕ)) (n : Option ℕ) → with_number o (after q n) ≡ after (with_number o q) n
with_after None None n = refl
with_after None (Some xs) None = refl
with_after None (Some xs) (Some n) = refl
with_after (Some x) None n = refl
with_after (Some x) (Some xs) None = refl
with_after (Some x) (Some xs) (Some n) = refl

last_number : (n : Option ℕ) → with_number n (Some []) ≡ after (Some []) n
last_number None = refl
last_number (Some n) = refl

all_known_push : (bs : List Byte) (b : Byte) → all_known (bs ++ b ∷ []) ≡ after (all_known bs) (known_byte b)
unfolding all_known
all_known_push [] b = last_number (known_byte b)
all_known_push (c ∷ bs) b = ap (with_number (known_byte c)) (all_known_push bs b) ∙ with_after (known_byte c) (all_known bs) (known_byte b)

no_number : (o : Option ℕ) → with_number o None ≡ None
no_number None = refl
no_number (Some x) = refl

none_first : (o : Option ℕ) (q : Option (List ℕ)) → o ≡ None → with_number o q ≡ None
none_first None None e = refl
none_first None (Some ns) e = refl
none_first (Some x) q e = absurd (cc e)

pub not_all_known : (m : Memory) (at n k : ℕ) → k < n → known_byte (byte_of (m (wrapped (at + k)))) ≡ None → all_known (bytes_at m at n) ≡ None
unfolding all_known bytes_at
not_all_known m at zero k l e = absurd (omega (arith, l))
not_all_known m at (suc n) zero l e = let z : at + 0 ≡ at = omega arith in none_first _ _ (rw z at e)
not_all_known m at (suc n) (suc k) l e =
    let z : at + suc k ≡ at + 1 + k = omega arith in
    ap (with_number (known_byte (byte_of (m (wrapped at))))) (not_all_known m (at + 1) n k (omega (arith, l)) (rw z at e)) ∙ no_number (known_byte (byte_of (m (wrapped at))))

pub none_copied : (m : Memory) (at : ℕ) (to : List ℕ) → all_known (bytes_at m at 0) ≡ Some (take 0 to)
unfolding all_known bytes_at
none_copied m at to = refl

pub more_copied : (m : Memory) (at k : ℕ) (to : List ℕ) (n : ℕ) → k < length to → Some n ≡ known_byte (byte_of (m (wrapped (at + k)))) → all_known (bytes_at m at k) ≡ Some (take k to) → all_known (bytes_at m at (k + 1)) ≡ Some (take (k + 1) (set to k n))
more_copied m at k to n l e h =
    ap all_known (bytes_push m at k) ∙ all_known_push (bytes_at m at k) (byte_of (m (wrapped (at + k)))) ∙ rw (h, ← e, take_more_set to k n l) refl

pub all_copied : (m : Memory) (at k n : ℕ) (to : List ℕ) → k ≡ n → n ≡ length to → all_known (bytes_at m at k) ≡ Some (take k to) → all_known (bytes_at m at n) ≡ Some to
all_copied m at k n to e f h = rw (← e) (h ∙ ap Some (take_all k to (omega (arith, e, f))))
