use Rattle.std.proofs.Common.{◌≡◌, true, length, take, List, ℕ, ap, sym, ◌∙◌}
use Rattle.x86_values.specs.declared.byte.Byte.{Byte}
use Rattle.x86_values.specs.Words.{word_list}
use Rattle.flag_ir.specs.Frames.{all_covered}
use Rattle.flag_ir.specs.Storage.{Frame}
use Rattle.unit_frames.specs.Kept.{frames_of}
use Rattle.unit_frames.specs.Looking.{reached_count, put_all_in}
use Rattle.unit_frames.proofs.Accesses.{near_stored, word_size}
use Rattle.unit_frames.proofs.frames.OpenFrames.near_store.Goals as goal

pub returns-clause-stored : goal.returns-clause-stored
returns-clause-stored c = λ procs.
    let fs = c.args.self.now in
    let gs : List Frame = frames_of procs fs in
    let bs : List Byte = take c.args.size (word_list c.args.word) in
    let count : c.reached-count.result ≡ reached_count fs = c.reached-count.ensures.count in
    let len : length bs ≡ c.args.size = word_size c.args.size c.args.word c.requires in
    let covered : all_covered (take (reached_count fs) gs) c.args.at (length bs) ≡ true =
    ap (λ (n : ℕ). all_covered (take (reached_count fs) gs) c.args.at n) len ∙ ap (λ (n : ℕ). all_covered (take n gs) c.args.at c.args.size) (sym count) ∙ sym (c.covers_all.ensures procs) ∙ c.if-not-covers_all.false in
    near_stored procs c.args.at bs fs c.put_each.new.self covered (c.put_each.ensures procs ∙ ap (λ (n : ℕ). put_all_in n c.args.at bs gs) count)
