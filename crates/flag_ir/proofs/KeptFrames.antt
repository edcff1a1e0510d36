-- What stays of open frames where their bytes are written: whatever a byte of a frame doesn't change.
use Rattle.std.proofs.Common.{◌≡◌, ℕ, ◌+◌, List, [], ◌∷◌, map, refl, ap, ◌∙◌}
use Rattle.std.proofs.lemmas.Bool.{cond_both}
use Rattle.x86_values.specs.declared.byte.Byte.{Byte}
use Rattle.memory.specs.Memory.{Stored, wrapped}
use Rattle.flag_ir.specs.declared.procedure.FrameKind.{FrameKind}
use Rattle.flag_ir.specs.declared.procedure.FrameKind.TheVariants.{Sealed, Guarded, Shared}
use Rattle.flag_ir.specs.Storage.{Frame}
use Rattle.flag_ir.specs.Frames.{covers, with_image, is_shared, put_shared, put_by, put_near, put_near_all, store_near_all}
use Rattle.flag_ir.specs.Operations.{with_bytes}

module _ {A : Type 0} (G : Frame → A) (kept : (a : ℕ) (b : Byte) (f : Frame) → G (with_image a b f) ≡ G f) where
  shared_kept : (a : ℕ) (b : Byte) (fs : List Frame) → map G (put_shared a b fs) ≡ map G fs
  unfolding put_shared
  shared_kept a b [] = refl
  shared_kept a b (f ∷ fs) =
      cond_both (is_shared f.proc.kind) _ _ (λ (xs : List Frame). map G xs ≡ map G (f ∷ fs))
      (λ h. cond_both (covers a f) _ _ (λ (xs : List Frame). map G xs ≡ map G (f ∷ fs)) (λ k. ap (λ (x : A). x ∷ map G fs) (kept a b f)) (λ k. ap (λ (xs : List A). G f ∷ xs) (shared_kept a b fs))) (λ h. refl)

  by_kind_kept : (kind : FrameKind) (a : ℕ) (b : Byte) (f : Frame) (fs : List Frame) → map G (put_by kind a b f fs) ≡ map G (f ∷ fs)
  by_kind_kept Sealed a b f fs = refl
  by_kind_kept Guarded a b f fs = ap (λ (x : A). x ∷ map G fs) (kept a b f)
  by_kind_kept Shared a b f fs = shared_kept a b (f ∷ fs)

  near_kept : (a : ℕ) (b : Byte) (fs : List Frame) → map G (put_near a b fs) ≡ map G fs
  near_kept a b [] = refl
  near_kept a b (f ∷ fs) = by_kind_kept f.proc.kind a b f fs

  pub near_all_kept : (at : ℕ) (bs : List Byte) (fs : List Frame) → map G (put_near_all at bs fs) ≡ map G fs
  unfolding put_near_all
  near_all_kept at [] fs = refl
  near_all_kept at (b ∷ bs) fs = near_all_kept (at + 1) bs (put_near (wrapped at) b fs) ∙ near_kept (wrapped at) b fs

  pub stores_kept : (stores : List Stored) (fs : List Frame) → map G (store_near_all stores fs) ≡ map G fs
  stores_kept [] fs = refl
  stores_kept (s ∷ more) fs = stores_kept more (put_near_all s.at s.bytes fs) ∙ near_all_kept s.at s.bytes fs

  pub bytes_kept : (at : ℕ) (bs : List Byte) (f : Frame) → G (with_bytes at bs f) ≡ G f
  unfolding with_bytes
  bytes_kept at [] f = refl
  bytes_kept at (b ∷ bs) f = bytes_kept (at + 1) bs (with_image (wrapped at) b f) ∙ kept (wrapped at) b f
