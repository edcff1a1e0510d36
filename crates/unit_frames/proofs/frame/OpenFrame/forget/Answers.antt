use Rattle.std.proofs.Common.{arith, ◌≡◌, ℕ, ap, ◌∙◌, List, cond, ◌&&◌, leb, ltb, ◌-◌, min, length, get_or}
use Rattle.x86_values.specs.declared.byte.Byte.{Byte}
use Rattle.x86_values.specs.declared.byte.Byte.TheVariants.{Unspecified}
use Rattle.unit_frames.specs.Kept.{frame_of, low_of}
use Rattle.unit_frames.proofs.Forgetting.{byte_forgotten}
use Rattle.unit_frames.proofs.frame.OpenFrame.forget.Goals as goal

pub returns-clause-image : goal.returns-clause-image
returns-clause-image c = λ procs.
    let f = c.args.self.now in
    let low : ℕ = low_of f in
    let bs : List Byte = f.bytes.items in
    let cs : List Byte = c.forget_bytes.new.bytes.items in
    let first : c.saturating_sub-first.result ≡ c.args.from - low = omega (arith, c.saturating_sub-first.ensures, c.low-low.ensures) in
    let last : c.min-last.result ≡ min (c.args.to - low) (length bs) = omega (arith, c.min-last.ensures, c.saturating_sub.ensures, c.low-low.ensures, c.len.ensures, f.bytes.ok) in
    let h : (k : ℕ) → get_or cs k Unspecified ≡ cond (leb (c.args.from - low) k && ltb k (min (c.args.to - low) (length bs))) Unspecified (get_or bs k Unspecified) = λ k.
    c.forget_bytes.ensures.bytes k ∙ ap (λ (n : ℕ). cond (leb n k && ltb k c.min-last.result) Unspecified (get_or bs k Unspecified)) first ∙ ap (λ (n : ℕ). cond (leb (c.args.from - low) k && ltb k n) Unspecified (get_or bs k Unspecified)) last in
    ap (λ (x : ℕ → Byte). record (frame_of procs f) { image = x }) (λ i a. byte_forgotten low c.args.from c.args.to bs cs h a i)
