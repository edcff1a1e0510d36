use Rattle.std.proofs.Common.{map, ◌+◌, ◌≡◌, arith, ap, ◌∙◌, ℕ, List, get_or, ◌-◌, refl}
use Rattle.std.proofs.lemmas.List.{get_or_default}
use Rattle.x86_values.specs.declared.byte.Byte.{Byte}
use Rattle.x86_values.specs.declared.byte.Byte.TheVariants.{Unspecified}
use Rattle.x86_values.specs.Sizes.{cut, no_word}
use Rattle.flag_ir.specs.declared.procedure.LocalSlot.{LocalSlot}
use Rattle.mem_pages.specs.Contents.{memory_in}
use Rattle.flag_ir.specs.declared.procedure.Proc.{Proc}
use Rattle.unit_frames.specs.Kept.{no_proc, byte_from}
use Rattle.unit_frames.specs.Opened.{started}
use Rattle.flag_ir.specs.Entering.{word_in}
use Rattle.unit_frames.proofs.NewFrames.{new_is, word_there}
use Rattle.unit_frames.proofs.frames.OpenFrames.new_frame.Goals as goal

pub returns : goal.returns
returns c =
    let s = c.args.start in
    let p : Proc = c.index-procs-start.result in
    let low : ℕ = c.saturating_sub-low.result in
    let bytes : List Byte = c.in_ok-bytes.bytes.items in
    let start : low ≡ s.height - p.depth = c.saturating_sub-low.ensures in
    let slice : c.as_slice-2.result.now ≡ bytes = c.as_slice-2.ensures.value in
    let there : (k : ℕ) → get_or c.as_slice-2.result.now k Unspecified ≡ get_or bytes k Unspecified = λ k. ap (λ (x : List Byte). get_or x k Unspecified) slice in
    let word : c.word_at-word.result ≡ word_in (byte_from low bytes) s.height =
    word_there low s.height (s.height - low) bytes c.word_at-word.result (omega arith) refl
    (c.word_at-word.ensures.b0 ∙ there (s.height - low)) (c.word_at-word.ensures.b1 ∙ there (s.height - low + 1)) (c.word_at-word.ensures.b2 ∙ there (s.height - low + 2)) (c.word_at-word.ensures.b3 ∙ there (s.height - low + 3)) in
    let e : p ≡ started c.args.procs.now s = c.index-procs-start.is ∙ get_or_default c.args.procs.now s.proc p no_proc c.requires in
    let slots : c.in_ok-locals.locals.items ≡ map (λ t. cut t.size no_word) p.locals = c.in_ok-locals.ensures ∙ ap (map (λ (t : LocalSlot). cut t.size no_word)) c.as_slice.ensures in (
      new_is c.args.procs.now c.args.self.now (memory_in c.args.pages.now) s p low bytes c.word_at-word.result c.in_ok-locals.locals.items c.index-procs-start.is c.requires start c.in_ok-bytes.ensures.bytes word slots,
      ap (λ (x : Proc). x.depth) e,
      ap (λ (x : Proc). x.args) e,
    )
