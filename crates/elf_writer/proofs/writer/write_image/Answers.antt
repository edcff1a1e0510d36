use Rattle.std.proofs.Common.{◌≡◌, ◌+◌, ◌*◌, length, ap, ◌∙◌, arith}
use Rattle.image.specs.declared.room.Room.TheVariants.{Any}
use Rattle.elf_image.specs.Image.{image_of}
use Rattle.elf_writer.specs.Written.{data_of}
use Rattle.elf_writer.proofs.Accepted.{data_is_small, written_is_accepted}
use Rattle.elf_writer.proofs.Pushed.{start_is, pushed_file}
use Rattle.elf_writer.proofs.writer.write_image.Goals as goal

pub data_len-requires : goal.data_len-requires
data_len-requires c = let small = data_is_small c.args.segments.now c.args.entry c.requires.wanted in rw c.as_slice-segments.ensures (omega (arith, small))

pub overflow_add-start : goal.overflow_add-start
overflow_add-start c =
    let few = c.requires.wanted.few in
    let small = data_is_small c.args.segments.now c.args.entry c.requires.wanted in
    let same : length c.as_slice-segments.result.now ≡ length c.args.segments.now = ap length c.as_slice-segments.ensures in
    let len : c.data_len.result ≡ length (data_of c.args.segments.now) = c.data_len.ensures ∙ ap (λ ss. length (data_of ss)) c.as_slice-segments.ensures in
    omega (arith, few, small, same, len)

pub push_segment_headers-requires : goal.push_segment_headers-requires
push_segment_headers-requires c =
    let few = c.requires.wanted.few in
    let small = data_is_small c.args.segments.now c.args.entry c.requires.wanted in
    let same : length c.as_slice-segments.result.now ≡ length c.args.segments.now = ap length c.as_slice-segments.ensures in
    let len : length (data_of c.as_slice-segments.result.now) ≡ length (data_of c.args.segments.now) = ap (λ ss. length (data_of ss)) c.as_slice-segments.ensures in
    omega (arith, few, small, same, len)

pub returns-clause-exact : goal.returns-clause-exact
returns-clause-exact c =
    let h = c.next_multiple_of-start.ensures in
    pushed_file c.args.segments.now c.as_slice-segments.result.now c.args.entry c.header_count-headers.result c.next_multiple_of-start.result _ _ _ _ _ _ c.as_slice-segments.ensures
    c.header_count-headers.ensures.count (start_is (52 + 32 * c.header_count-headers.result) c.next_multiple_of-start.result h.lower_bound h.upper_bound h.multiple)
    c.in_ok-out.ensures.items c.in_ok-push_elf_header.ensures c.in_ok-push_segment_headers.ensures c.in_ok-push_stack_header.ensures c.in_ok-push_zeros.ensures c.in_ok-push_data.ensures

pub returns-clause-again : goal.returns-clause-again
returns-clause-again c =
    ap (λ file. image_of file Any) (returns-clause-exact c) ∙ written_is_accepted c.args.segments.now c.args.entry c.requires.wanted
