-- Bytes that are put where they are covered: by addresses of the running procedure, and by fixed places.
use Rattle.std.proofs.Common.{◌≡◌, ℕ, zero, suc, ◌+◌, Bool, true, false, cond, List, [], ◌∷◌, length, take, Option, Some, None, refl, sym, ap, ◌∙◌}
use Rattle.std.specs.List.{find}
use Rattle.std.specs.Option.{is_some}
use Rattle.std.proofs.lemmas.Bool.{and_parts}
use Rattle.x86_values.specs.declared.byte.Byte.{Byte}
use Rattle.memory.specs.Memory.{wrapped}
use Rattle.flag_ir.specs.declared.procedure.FrameKind.{FrameKind}
use Rattle.flag_ir.specs.declared.procedure.FrameKind.TheVariants.{Sealed, Guarded, Shared}
use Rattle.flag_ir.specs.Storage.{Frame}
use Rattle.flag_ir.specs.Frames.{covers, is_shared, shared_chain, reached_by, reached_frames, all_covered, with_image, put_shared, put_by, put_near, put_near_all}
use Rattle.flag_ir.specs.Operations.{with_bytes}
use Rattle.unit_frames.specs.Looking.{put_in, put_all_in}

abbrev IsFound : ℕ → List Frame → Type 0
IsFound a frames = is_some (find (covers a) frames) ≡ true

-- ---- a byte that is put changes no cover
same_found : (c a : ℕ) (b : Byte) (n : ℕ) (fs : List Frame) → is_some (find (covers c) (take n (put_in n a b fs))) ≡ is_some (find (covers c) (take n fs))
same_found c a b zero fs = refl
same_found c a b (suc n) [] = refl
same_found c a b (suc n) (f ∷ more) = by (covers a f) (same_found c a b n more)
  where
    either : (t : Bool) (g : Frame) (o : Option Frame) → is_some (cond t (Some g) o) ≡ is_some (cond t (Some f) o)
    either true g o = refl
    either false g o = refl

    both : (t : Bool) (o p : Option Frame) → is_some o ≡ is_some p → is_some (cond t (Some f) o) ≡ is_some (cond t (Some f) p)
    both true o p h = refl
    both false o p h = h

    by : (t : Bool) → is_some (find (covers c) (take n (put_in n a b more))) ≡ is_some (find (covers c) (take n more)) → is_some (find (covers c) (take (suc n) (cond t (with_image a b f ∷ more) (f ∷ put_in n a b more)))) ≡ is_some (cond (covers c f) (Some f) (find (covers c) (take n more)))
    by true h = either (covers c f) (with_image a b f) (find (covers c) (take n more))
    by false h = both (covers c f) (find (covers c) (take n (put_in n a b more))) (find (covers c) (take n more)) h

pub same_covered : (count at a : ℕ) (b : Byte) (n : ℕ) (fs : List Frame) → all_covered (take n (put_in n a b fs)) at count ≡ all_covered (take n fs) at count
unfolding all_covered
same_covered zero at a b n fs = refl
same_covered (suc count) at a b n fs = rw (same_found (wrapped at) a b n fs, same_covered count (at + 1) a b n fs) refl

-- ---- chains
module _ (a : ℕ) (b : Byte) where
  shared_put : (n : ℕ) (fs : List Frame) → shared_chain fs ≡ take n fs → IsFound a (take n fs) → put_shared a b fs ≡ put_in n a b fs
  unfolding shared_chain put_shared
  shared_put zero fs h found = absurd (cc found)
  shared_put (suc n) [] h found = absurd (cc found)
  shared_put (suc n) (f ∷ more) h found = by (is_shared f.proc.kind) (covers a f) h found (shared_put n more)
    where
      by : (s t : Bool) → cond s (f ∷ shared_chain more) [] ≡ f ∷ take n more → is_some (cond t (Some f) (find (covers a) (take n more))) ≡ true → (shared_chain more ≡ take n more → IsFound a (take n more) → put_shared a b more ≡ put_in n a b more)
          → cond s (cond t (with_image a b f ∷ more) (f ∷ put_shared a b more)) (f ∷ more) ≡ cond t (with_image a b f ∷ more) (f ∷ put_in n a b more)
      by false t e is rest = absurd (cc e)
      by true true e is rest = refl
      by true false e is rest = let same : shared_chain more ≡ take n more = cc e in ap (λ (x : List Frame). f ∷ x) (rest same is)

  shared_kept : (n : ℕ) (fs : List Frame) → shared_chain fs ≡ take n fs → shared_chain (put_in n a b fs) ≡ take n (put_in n a b fs)
  unfolding shared_chain
  shared_kept zero fs h = h
  shared_kept (suc n) [] h = refl
  shared_kept (suc n) (f ∷ more) h = by (is_shared f.proc.kind) (covers a f) refl h (shared_kept n more)
    where
      by : (s t : Bool) → is_shared f.proc.kind ≡ s → cond s (f ∷ shared_chain more) [] ≡ f ∷ take n more → (shared_chain more ≡ take n more → shared_chain (put_in n a b more) ≡ take n (put_in n a b more))
          → shared_chain (cond t (with_image a b f ∷ more) (f ∷ put_in n a b more)) ≡ take (suc n) (cond t (with_image a b f ∷ more) (f ∷ put_in n a b more))
      by false t is e rest = absurd (cc e)
      by true true is e rest = let same : shared_chain more ≡ take n more = cc e in rw is (ap (λ (x : List Frame). with_image a b f ∷ x) same)
      by true false is e rest = let same : shared_chain more ≡ take n more = cc e in rw is (ap (λ (x : List Frame). f ∷ x) (rest same))

  -- ---- the frames that are reached
  abbrev Reaches : ℕ → List Frame → Type 0
  Reaches n fs = reached_frames fs ≡ take n fs

  -- of one frame alone it is the one that covers
  alone : (n : ℕ) (f : Frame) (more : List Frame) → f ∷ [] ≡ f ∷ take n more → IsFound a (f ∷ take n more) → covers a f ≡ true
  alone n f more h found =
      let none : take n more ≡ [] = cc h in
      by (covers a f) (sym (ap (λ (x : List Frame). is_some (find (covers a) (f ∷ x))) none) ∙ found)
    where
      by : (t : Bool) → is_some (cond t (Some f) None) ≡ true → t ≡ true
      by true e = refl
      by false e = absurd (cc e)

  by_kind : (k : FrameKind) (n : ℕ) (f : Frame) (more : List Frame) → f.proc.kind ≡ k → reached_by k f more ≡ take n (f ∷ more) → IsFound a (take n (f ∷ more)) → put_by k a b f more ≡ put_in n a b (f ∷ more)
  unfolding shared_chain
  by_kind Sealed zero f more is h found = absurd (cc found)
  by_kind Sealed (suc n) f more is h found = absurd (cc h)
  by_kind Guarded zero f more is h found = absurd (cc found)
  by_kind Guarded (suc n) f more is h found = rw (alone n f more h found) refl
  by_kind Shared n f more is h found = let chain : shared_chain (f ∷ more) ≡ take n (f ∷ more) = ap (λ (k : FrameKind). cond (is_shared k) (f ∷ shared_chain more) []) is ∙ h in shared_put n (f ∷ more) chain found

  pub near_put : (n : ℕ) (fs : List Frame) → reached_frames fs ≡ take n fs → IsFound a (take n fs) → put_near a b fs ≡ put_in n a b fs
  near_put zero [] h found = absurd (cc found)
  near_put (suc n) [] h found = absurd (cc found)
  near_put n (f ∷ more) h found = by_kind f.proc.kind n f more refl h found

  kept_by : (k : FrameKind) (n : ℕ) (f : Frame) (more : List Frame) → f.proc.kind ≡ k → reached_by k f more ≡ f ∷ take n more → IsFound a (f ∷ take n more) → reached_frames (put_in (suc n) a b (f ∷ more)) ≡ take (suc n) (put_in (suc n) a b (f ∷ more))
  kept_by Sealed n f more is h found = absurd (cc h)
  kept_by Guarded n f more is h found =
      let none : take n more ≡ [] = cc h in
      let g : Frame = with_image a b f in
      let put : put_in (suc n) a b (f ∷ more) ≡ g ∷ more = ap (λ (t : Bool). cond t (g ∷ more) (f ∷ put_in n a b more)) (alone n f more h found) in
      let one : reached_frames (g ∷ more) ≡ g ∷ [] = ap (λ (k : FrameKind). reached_by k g more) is in
      ap reached_frames put ∙ one ∙ sym (ap (take (suc n)) put ∙ ap (λ (x : List Frame). g ∷ x) none)
  kept_by Shared n f more is h found =
      let same : shared_chain more ≡ take n more = cc h in
      by (covers a f) same (shared_kept n more same)
    where
      by : (t : Bool) → shared_chain more ≡ take n more → shared_chain (put_in n a b more) ≡ take n (put_in n a b more) → reached_frames (cond t (with_image a b f ∷ more) (f ∷ put_in n a b more)) ≡ take (suc n) (cond t (with_image a b f ∷ more) (f ∷ put_in n a b more))
      by true e rest = ap (λ (k : FrameKind). reached_by k (with_image a b f) more) is ∙ ap (λ (x : List Frame). with_image a b f ∷ x) e
      by false e rest = ap (λ (k : FrameKind). reached_by k f (put_in n a b more)) is ∙ ap (λ (x : List Frame). f ∷ x) rest

  pub near_kept : (n : ℕ) (fs : List Frame) → reached_frames fs ≡ take n fs → IsFound a (take n fs) → reached_frames (put_in n a b fs) ≡ take n (put_in n a b fs)
  near_kept zero fs h found = absurd (cc found)
  near_kept (suc n) [] h found = absurd (cc found)
  near_kept (suc n) (f ∷ more) h found = kept_by f.proc.kind n f more refl h found

-- ---- bytes one after another
covered_parts : (fs : List Frame) (at n : ℕ) → all_covered fs at (suc n) ≡ true → IsFound (wrapped at) fs × (all_covered fs (at + 1) n ≡ true)
unfolding all_covered
covered_parts fs at n h = let p = and_parts (is_some (find (covers (wrapped at)) fs)) (all_covered fs (at + 1) n) h in (p.0, p.1)

pub near_all : (bs : List Byte) (n at : ℕ) (fs : List Frame) → reached_frames fs ≡ take n fs → all_covered (take n fs) at (length bs) ≡ true → put_all_in n at bs fs ≡ put_near_all at bs fs
unfolding put_all_in put_near_all
near_all [] n at fs h covered = refl
near_all (b ∷ bs) n at fs h covered =
    let parts = covered_parts (take n fs) at (length bs) covered in
    near_all bs n (at + 1) (put_in n (wrapped at) b fs) (near_kept (wrapped at) b n fs h parts.0) (same_covered (length bs) (at + 1) (wrapped at) b n fs ∙ parts.1)
    ∙ ap (put_near_all (at + 1) bs) (sym (near_put (wrapped at) b n fs h parts.0))

-- in the innermost frame alone
pub fixed_all : (bs : List Byte) (at : ℕ) (f : Frame) (more : List Frame) → all_covered (f ∷ []) at (length bs) ≡ true → put_all_in 1 at bs (f ∷ more) ≡ with_bytes at bs f ∷ more
unfolding put_all_in with_bytes
fixed_all [] at f more covered = refl
fixed_all (b ∷ bs) at f more covered =
    let parts = covered_parts (f ∷ []) at (length bs) covered in
    let here : covers (wrapped at) f ≡ true = alone (wrapped at) b 0 f [] refl parts.0 in
    let put : put_in 1 (wrapped at) b (f ∷ more) ≡ with_image (wrapped at) b f ∷ more = rw here refl in
    let same : all_covered (with_image (wrapped at) b f ∷ []) (at + 1) (length bs) ≡ true = rw here at (same_covered (length bs) (at + 1) (wrapped at) b 1 (f ∷ [])) ∙ parts.1 in
    ap (put_all_in 1 (at + 1) bs) put ∙ fixed_all bs (at + 1) (with_image (wrapped at) b f) more same
