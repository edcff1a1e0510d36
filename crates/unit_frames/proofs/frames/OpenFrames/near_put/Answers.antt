use Rattle.std.proofs.Common.{◌≡◌, ◌+◌, ℕ, List, map, length, take, true, refl, sym, ap, ◌∙◌, arith}
use Rattle.std.proofs.lemmas.List.{get_or-map, length-map}
use Rattle.x86_values.specs.declared.byte.Byte.{Byte}
use Rattle.x86_values.specs.declared.byte.Byte.TheVariants.{Known}
use Rattle.flag_ir.specs.Frames.{all_covered}
use Rattle.flag_ir.specs.Storage.{Frame}
use Rattle.unit_frames.specs.Kept.{frames_of}
use Rattle.unit_frames.specs.Looking.{reached_count, put_all_in}
use Rattle.unit_frames.proofs.Putting.{put_zero, put_more, put_whole}
use Rattle.unit_frames.proofs.Accesses.{near_stored}
use Rattle.unit_frames.proofs.Reaching.{reached_are}
use Rattle.unit_frames.proofs.frames.OpenFrames.near_put.Goals as goal

pub loop-k-init : goal.loop-k-init
loop-k-init c = λ procs. put_zero c.reached-count.result c.args.at (map Known c.args.bytes.now) (frames_of procs c.args.self.now)

pub loop-k-preserved : goal.loop-k-preserved
loop-k-preserved c = λ procs.
    let len : length (map Known c.args.bytes.now) ≡ length c.args.bytes.now = length-map c.args.bytes.now Known in
    put_more c.reached-count.result c.args.at c.loop-k.k (map Known c.args.bytes.now) _ (Known 0) _ (frames_of procs c.args.self.now) (frames_of procs c.loop-k.self) (frames_of procs c.put.new.self) (omega arith)
    (sym (get_or-map Known c.args.bytes.now c.loop-k.k _ (Known 0) (omega arith))) (omega arith) (c.put.ensures procs) (c.loop-k.invariant procs)

pub returns : goal.returns
returns c = λ procs.
    let fs = c.args.self.now in
    let gs : List Frame = frames_of procs fs in
    let bs : List Byte = map Known c.args.bytes.now in
    let len : length bs ≡ length c.args.bytes.now = length-map c.args.bytes.now Known in
    let count : c.reached-count.result ≡ reached_count fs = c.reached-count.ensures.count in
    let whole = put_whole c.reached-count.result c.args.at c.loop-k.k bs gs (frames_of procs c.loop-k.self) (omega arith) (c.loop-k.invariant procs) in
    let covered : all_covered (take (reached_count fs) gs) c.args.at (length bs) ≡ true = ap (λ (n : ℕ). all_covered (take (reached_count fs) gs) c.args.at n) len ∙ ap (λ (x : List Frame). all_covered x c.args.at (length c.args.bytes.now)) (sym (reached_are procs fs)) ∙ c.requires.covered procs in
    near_stored procs c.args.at bs fs c.loop-k.self covered (whole ∙ ap (λ (n : ℕ). put_all_in n c.args.at bs gs) count)
