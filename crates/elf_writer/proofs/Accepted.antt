-- The written file is accepted, and its image is the one that was written.
use Rattle.std.proofs.Common.{◌≡◌, ℕ, ◌+◌, ◌-◌, ◌*◌, ◌%◌, ◌<◌, ◌≤◌, Bool, false, not, cond, ltb, List, ◌∷◌, ◌++◌, length, map, filter, drop, Option, Some, None, Ok, refl, ap, sym, ◌∙◌, append_assoc, arith, length-append, subst}
use Rattle.std.specs.List.{list_any, sum_by}
use Rattle.std.proofs.lemmas.List.{length-replicate, drop_at}
use Rattle.std.proofs.lemmas.Bool.{le-ltb, not_from_true}
use Rattle.elf_image.specs.declared.header.ProgramHeader.{ProgramHeader}
use Rattle.image.specs.declared.image.Segment.{Segment}
use Rattle.elf_image.specs.declared.refusal.Refusal.TheVariants.{Dynamic}
use Rattle.image.specs.declared.room.Room.TheVariants.{Any}
use Rattle.elf_image.specs.Fields.{e_entry, e_phnum, headers_from, headers_of}
use Rattle.elf_image.specs.Pages.{is_segment}
use Rattle.byte_lists.specs.LittleEndian.{zeros}
use Rattle.elf_image.specs.Refusals.{first, is_dynamic, past_file, is_too_small, is_misaligned, is_forbidden, is_out_of_room, any_shares_page, has_address, has_code, code_span, pages_size, segment_tests, segments_of, refusal_of}
use Rattle.image.specs.Rooms.{room_end, room_span, room_size}
use Rattle.elf_image.specs.Image.{segment_of, image_if, image_of}
use Rattle.elf_writer.specs.Wanted.{CanBeWritten}
use Rattle.image.specs.Wanted.{image_with, span_of_code}
use Rattle.elf_writer.specs.Written.{elf_header, headers_for, program_headers, header_count, table_bytes, data_of, table_end, data_start, written}
use Rattle.elf_writer.proofs.HeaderFields.{HasHeader, length_elf_header, header_read, header_passes}
use Rattle.elf_writer.proofs.Tables.{few_headers, length_program_headers, length_whole_table, headers_read, program_headers_fit, among_segments, any_among_segments}
use Rattle.elf_writer.proofs.SegmentTests.{none_of, not_dynamic, not_too_small, not_misaligned, not_forbidden, not_out_of_room, none_past_file, all_segments, none_shares_page, entry_can_run, entry_within}
use Rattle.elf_writer.proofs.Spans.{code_span_is, pages_size_is, data_within}
use Rattle.elf_writer.proofs.SegmentBytes.{segments_again}

-- ---- the parts of the file
after_first : (a b c d : List ℕ) (n : ℕ) → length a ≡ n → drop n (a ++ b ++ c ++ d) ≡ b ++ (c ++ d)
after_first a b c d n h = ap (drop n) (append_assoc (a ++ b) c d ∙ append_assoc a b (c ++ d)) ∙ drop_at a (b ++ (c ++ d)) n h

after_third : (a b c d : List ℕ) (n : ℕ) → length a + length b + length c ≡ n → drop n (a ++ b ++ c ++ d) ≡ d
after_third a b c d n h = drop_at (a ++ b ++ c) d n (omega (arith, length-append (a ++ b) c, length-append a b))

length_four : (a b c d : List ℕ) → length (a ++ b ++ c ++ d) ≡ length a + length b + length c + length d
length_four a b c d = simp length-append

-- the lengths of the parts before the data
front_length : (ss : List Segment) (at : ℕ)
    → length (elf_header at (header_count (length ss))) + length (table_bytes (program_headers (data_start (length ss)) ss)) + length (zeros (data_start (length ss) - table_end (length ss))) ≡ data_start (length ss)
front_length ss at =
    let one : length (elf_header at (header_count (length ss))) ≡ 52 = length_elf_header at (header_count (length ss)) in
    let two : length (table_bytes (program_headers (data_start (length ss)) ss)) ≡ 32 * header_count (length ss) = length_whole_table (data_start (length ss)) ss in
    let three : length (zeros (data_start (length ss) - table_end (length ss))) ≡ data_start (length ss) - table_end (length ss) = length-replicate (data_start (length ss) - table_end (length ss)) 0 in
    omega (arith, one, two, three)

table_there : (ss : List Segment) (at : ℕ) → drop 52 (written ss at) ≡ table_bytes (program_headers (data_start (length ss)) ss) ++ (zeros (data_start (length ss) - table_end (length ss)) ++ data_of ss)
unfolding written
table_there ss at =
    after_first (elf_header at (header_count (length ss))) (table_bytes (program_headers (data_start (length ss)) ss)) (zeros (data_start (length ss) - table_end (length ss))) (data_of ss) 52 (length_elf_header at (header_count (length ss)))

data_there : (ss : List Segment) (at : ℕ) → drop (data_start (length ss)) (written ss at) ≡ data_of ss
unfolding written
data_there ss at =
    after_third (elf_header at (header_count (length ss))) (table_bytes (program_headers (data_start (length ss)) ss)) (zeros (data_start (length ss) - table_end (length ss))) (data_of ss) (data_start (length ss)) (front_length ss at)

pub length_written : (ss : List Segment) (at : ℕ) → length (written ss at) ≡ data_start (length ss) + length (data_of ss)
unfolding written
length_written ss at =
    length_four (elf_header at (header_count (length ss))) (table_bytes (program_headers (data_start (length ss)) ss)) (zeros (data_start (length ss) - table_end (length ss))) (data_of ss)
    ∙ ap (λ (n : ℕ). n + length (data_of ss)) (front_length ss at)

-- ---- what is wanted bounds the file
pub data_is_small : (ss : List Segment) (at : ℕ) → CanBeWritten ss at → length (data_of ss) ≤ 0x20000000
data_is_small ss at w =
    let within : length (data_of ss) ≤ sum_by (λ s. s.size) ss = data_within ss w.fits.each in
    let small = w.fits.total in
    omega arith

-- ---- the fields
header_there : (ss : List Segment) (at : ℕ) → CanBeWritten ss at → HasHeader (written ss at) at (header_count (length ss))
unfolding written
header_there ss at w =
    let few : header_count (length ss) ≤ 65535 = few_headers (length ss) w.few in
    let below : at < room_end Any = entry_within at ss w.fits.each w.fits.entered in
    let t : List ℕ = table_bytes (program_headers (data_start (length ss)) ss) in
    let z : List ℕ = zeros (data_start (length ss) - table_end (length ss)) in
    subst (λ (file : List ℕ). HasHeader file at (header_count (length ss))) (sym (append_assoc (elf_header at (header_count (length ss)) ++ t) z (data_of ss) ∙ append_assoc (elf_header at (header_count (length ss))) t (z ++ data_of ss)))
    (header_read at (header_count (length ss)) (t ++ (z ++ data_of ss)) (omega arith) (omega arith))

headers_there : (ss : List Segment) (at : ℕ) → CanBeWritten ss at → headers_of (written ss at) ≡ program_headers (data_start (length ss)) ss
headers_there ss at w =
    let file : List ℕ = written ss at in
    let start : ℕ = data_start (length ss) in
    let h = header_there ss at w in
    let few : header_count (length ss) ≤ 65535 = few_headers (length ss) w.few in
    let small = data_is_small ss at w in
    ap (λ (i : ℕ). headers_from file i (e_phnum file)) h.table_is
    ∙ ap (headers_from file 52) (h.count_is ∙ sym (length_program_headers start ss))
    ∙ headers_read file 52 (program_headers start ss) (zeros (start - table_end (length ss)) ++ data_of ss) (table_there ss at) (program_headers_fit start ss w.fits.each (omega arith))

-- ---- the tests
passes : {A : Type 0} (b : Bool) (x : A) (rest : Option A) → b ≡ false → rest ≡ None → cond b (Some x) rest ≡ None
passes b x rest e f = rw e f

segments_pass : (ss : List Segment) (at offset n : ℕ) → CanBeWritten ss at → offset % 4096 ≡ 0 → offset + length (data_of ss) ≤ n → first (segment_tests n at Any (headers_for offset ss)) ≡ None
segments_pass ss at offset n w even long =
    let hs : List ProgramHeader = headers_for offset ss in
    passes (list_any (past_file n) hs) _ _ (none_past_file n offset ss long)
    (passes (list_any is_too_small hs) _ _ (none_of is_too_small not_too_small offset ss even w.fits.each)
    (passes (list_any is_misaligned hs) _ _ (none_of is_misaligned not_misaligned offset ss even w.fits.each)
    (passes (list_any is_forbidden hs) _ _ (none_of is_forbidden not_forbidden offset ss even w.fits.each)
    (passes (list_any (is_out_of_room (room_end Any)) hs) _ _ (none_of (is_out_of_room (room_end Any)) not_out_of_room offset ss even w.fits.each)
    (passes (any_shares_page hs) _ _ (none_shares_page offset ss w.fits.each w.fits.apart)
    (passes (not (list_any (has_address at) (filter has_code hs))) _ _ (not_from_true (list_any (has_address at) (filter has_code hs)) (entry_can_run offset at ss w.fits.entered))
    (passes (ltb (room_span Any) (code_span hs)) _ _ (ap (ltb (room_span Any)) (code_span_is offset ss w.fits.each) ∙ le-ltb (room_span Any) (span_of_code ss) w.fits.span)
    (passes (ltb (room_size Any) (pages_size hs)) _ _ (ap (ltb (room_size Any)) (pages_size_is offset ss w.fits.each) ∙ le-ltb (room_size Any) (sum_by (λ s. s.size) ss) w.fits.total) refl))))))))

segments_there : (ss : List Segment) (at : ℕ) → CanBeWritten ss at → segments_of (written ss at) ≡ headers_for (data_start (length ss)) ss
segments_there ss at w =
    ap (filter is_segment) (headers_there ss at w) ∙ among_segments is_segment (headers_for (data_start (length ss)) ss) (length ss) refl ∙ all_segments (data_start (length ss)) ss w.fits.each

not_refused : (ss : List Segment) (at : ℕ) → CanBeWritten ss at → refusal_of (written ss at) Any ≡ None
unfolding refusal_of
not_refused ss at w =
    let file : List ℕ = written ss at in
    let start : ℕ = data_start (length ss) in
    let even : data_start (length ss) % 4096 ≡ 0 = omega arith in
    let h = header_there ss at w in
    let long = length_written ss at in
    let dynamic : list_any is_dynamic (headers_of file) ≡ false = ap (list_any is_dynamic) (headers_there ss at w) ∙ any_among_segments is_dynamic (headers_for start ss) (length ss) refl ∙ none_of is_dynamic not_dynamic start ss even w.fits.each in
    let segments : first (segment_tests (length file) (e_entry file) Any (segments_of file)) ≡ None =
    ap (λ (hs : List ProgramHeader). first (segment_tests (length file) (e_entry file) Any hs)) (segments_there ss at w)
    ∙ ap (λ (a : ℕ). first (segment_tests (length file) a Any (headers_for start ss))) h.entry_is
    ∙ segments_pass ss at start (length file) w even (omega arith) in
    header_passes file at (header_count (length ss)) ((list_any is_dynamic (headers_of file), Dynamic) ∷ segment_tests (length file) (e_entry file) Any (segments_of file)) h (omega arith)
    (passes (list_any is_dynamic (headers_of file)) Dynamic (first (segment_tests (length file) (e_entry file) Any (segments_of file))) dynamic segments)

-- ---- the image
pub written_is_accepted : (ss : List Segment) (at : ℕ) → CanBeWritten ss at → image_of (written ss at) Any ≡ Ok (image_with ss at)
unfolding image_of
written_is_accepted ss at w =
    let file : List ℕ = written ss at in
    let h = header_there ss at w in
    let segments : map (segment_of file) (segments_of file) ≡ ss =
    ap (map (segment_of file)) (segments_there ss at w) ∙ segments_again file (data_start (length ss)) ss w.fits.each (data_there ss at) in
    ap (image_if file) (not_refused ss at w)
    ∙ ap (λ (rs : List Segment). Ok (image_with rs (e_entry file))) segments
    ∙ ap (λ (a : ℕ). Ok (image_with ss a)) h.entry_is
