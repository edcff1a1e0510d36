use Rattle.std.proofs.Common.{◌≡◌, ◌∙◌, ap, sym, arith, false, true, None, Some, length, filter}
use Rattle.std.specs.List.{list_any}
use Rattle.std.proofs.lemmas.List.Elements.{filter_passes, All-same}
use Rattle.elf_image.specs.Fields.{headers_of}
use Rattle.elf_image.specs.Pages.{is_segment}
use Rattle.elf_image.specs.Refusals.{first, segment_tests, is_dynamic, segments_of}
use Rattle.elf_image.proofs.Reading.{header_refuses, table_refuses, segments_refuse, read_is}
use Rattle.elf_image.proofs.Passed.{passed_are_sound}
use Rattle.elf_image.proofs.ImagesFit.{accepted_fits}
use Rattle.elf_image.proofs.reader.read_image.Goals as goal

pub returns-in-Some : goal.returns-in-Some
returns-in-Some c = record { is = header_refuses c.args.bytes.now c.args.room c.in-Some.refusal (sym c.in-Some.ensures) }

pub returns-then-any_dynamic : goal.returns-then-any_dynamic
returns-then-any_dynamic c =
    let table : c.as_slice.result.now ≡ headers_of c.args.bytes.now = c.as_slice.ensures.value ∙ c.in_ok-headers.ensures.are in
    let any : list_any is_dynamic (headers_of c.args.bytes.now) ≡ true = ap (list_any is_dynamic) (sym table) ∙ sym c.if-any_dynamic.ensures in
    record { is = table_refuses c.args.bytes.now c.args.room (sym c.header_refusal.ensures ∙ c.in_default.is) any }

pub segment_refusal-requires-clause-few : goal.segment_refusal-requires-clause-few
segment_refusal-requires-clause-few c =
    omega (arith, c.as_slice-3.ensures.len, c.in_ok-loaded.ensures.few, c.as_slice-2.ensures.len, c.in_ok-headers.ensures.few)

pub segment_refusal-requires-clause-loaded : goal.segment_refusal-requires-clause-loaded
segment_refusal-requires-clause-loaded c =
    All-same (λ h. is_segment h ≡ true) c.as_slice-3.result.now (filter is_segment c.as_slice-2.result.now) (c.as_slice-3.ensures.value ∙ c.in_ok-loaded.ensures.are) (filter_passes is_segment c.as_slice-2.result.now)

pub returns-in-Some-judged : goal.returns-in-Some-judged
returns-in-Some-judged c =
    let file = c.args.bytes.now in
    let table : c.as_slice.result.now ≡ headers_of file = c.as_slice.ensures.value ∙ c.in_ok-headers.ensures.are in
    let again : c.as_slice-2.result.now ≡ headers_of file = c.as_slice-2.ensures.value ∙ c.in_ok-headers.ensures.are in
    let loaded : c.as_slice-3.result.now ≡ segments_of file = c.as_slice-3.ensures.value ∙ c.in_ok-loaded.ensures.are ∙ ap (filter is_segment) again in
    let none : list_any is_dynamic (headers_of file) ≡ false = ap (list_any is_dynamic) (sym table) ∙ sym c.if-any_dynamic.ensures in
    let found : c.in_ok-judged.judged ≡ first (segment_tests (length file) c.word_at-entry.result c.args.room c.as_slice-3.result.now) = c.in_ok-judged.ensures in
    let judged : first (segment_tests (length file) c.word_at-entry.result c.args.room c.as_slice-3.result.now) ≡ Some c.in-Some-judged.refusal = sym found ∙ c.in-Some-judged.is in
    let same = ap (λ hs. first (segment_tests (length file) c.word_at-entry.result c.args.room hs)) loaded in
    let at = ap (λ a. first (segment_tests (length file) a c.args.room (segments_of file))) c.word_at-entry.ensures in
    record { is = segments_refuse file c.args.room c.in-Some-judged.refusal (sym c.header_refusal.ensures ∙ c.in_default.is) none (sym at ∙ sym same ∙ judged) }

pub segments_of-requires : goal.segments_of-requires
segments_of-requires c =
    let same : c.as_slice-4.result.now ≡ c.as_slice-3.result.now = c.as_slice-4.ensures.value ∙ sym c.as_slice-3.ensures.value in
    let passed : first (segment_tests (length c.args.bytes.now) c.word_at-entry.result c.args.room c.as_slice-3.result.now) ≡ None = sym c.in_ok-judged.ensures ∙ c.in_default-judged.is in
    rw same (passed_are_sound (length c.args.bytes.now) c.word_at-entry.result c.args.room c.as_slice-2.result.now c.as_slice-3.result.now (c.as_slice-3.ensures.value ∙ c.in_ok-loaded.ensures.are) passed)

-- the file's image is that of these segments and this entry
pub invariant_of-result : goal.invariant_of-result
invariant_of-result c =
    let file = c.args.bytes.now in
    let loaded = c.as_slice-3.ensures.value ∙ c.in_ok-loaded.ensures.are ∙ ap (filter is_segment) (c.as_slice-2.ensures.value ∙ c.in_ok-headers.ensures.are) in
    accepted_fits file c.args.room _
    (read_is file c.args.room c.as_slice.result.now c.as_slice-3.result.now c.as_slice-4.result.now c.new.result c.word_at-entry.result (sym c.header_refusal.ensures ∙ c.in_default.is)
    (c.as_slice.ensures.value ∙ c.in_ok-headers.ensures.are) (sym c.if-any_dynamic.ensures) loaded (sym c.in_ok-judged.ensures ∙ c.in_default-judged.is)
    (c.as_slice-4.ensures.value ∙ sym c.as_slice-3.ensures.value) (c.new.ensures ∙ c.in_ok-segments.ensures) c.word_at-entry.ensures)

pub returns : goal.returns
returns c =
    let file = c.args.bytes.now in
    let loaded = c.as_slice-3.ensures.value ∙ c.in_ok-loaded.ensures.are ∙ ap (filter is_segment) (c.as_slice-2.ensures.value ∙ c.in_ok-headers.ensures.are) in
    record {
      is = read_is file c.args.room c.as_slice.result.now c.as_slice-3.result.now c.as_slice-4.result.now c.new.result c.word_at-entry.result (sym c.header_refusal.ensures ∙ c.in_default.is)
          (c.as_slice.ensures.value ∙ c.in_ok-headers.ensures.are) (sym c.if-any_dynamic.ensures) loaded (sym c.in_ok-judged.ensures ∙ c.in_default-judged.is)
          (c.as_slice-4.ensures.value ∙ sym c.as_slice-3.ensures.value) (c.new.ensures ∙ c.in_ok-segments.ensures) c.word_at-entry.ensures;
    }
