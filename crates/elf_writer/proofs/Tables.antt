-- The program headers of a written table, read again.
use Rattle.std.proofs.Common.{◌≡◌, ℕ, suc, ◌+◌, ◌*◌, ◌<◌, ◌≤◌, ◌||◌, Bool, true, false, cond, ltb, filter, append-nil, List, [], ◌∷◌, ◌++◌, length, drop, refl, ap, sym, ◌∙◌, get_or, append_assoc, arith, length-append}
use Rattle.std.specs.List.{flat_map, list_any, AllByRecursion}
use Rattle.std.proofs.lemmas.Bool.{ltb-true}
use Rattle.std.proofs.lemmas.List.Folds.{list_any-append}
use Rattle.std.proofs.lemmas.List.Elements.{filter-append}
use Rattle.std.proofs.lemmas.List.{get_or-drop, drop-drop, drop_at}
use Rattle.elf_image.specs.declared.header.ProgramHeader.{ProgramHeader}
use Rattle.image.specs.declared.image.Segment.{Segment}
use Rattle.byte_lists.specs.LittleEndian.{word_at}
use Rattle.elf_image.specs.Fields.{header_at, headers_from}
use Rattle.image.specs.Wanted.{HasItsPlace}
use Rattle.elf_writer.specs.Written.{header_bytes, headers_for, stack_header, stack_headers, program_headers, header_count, table_bytes, data_of}
use Rattle.elf_writer.proofs.HeaderFields.{word_again}

pub length_header : (h : ProgramHeader) → length (header_bytes h) ≡ 32
unfolding header_bytes
length_header h = refl

pub length_headers : (offset : ℕ) (ss : List Segment) → length (headers_for offset ss) ≡ length ss
length_headers offset [] = refl
length_headers offset (s ∷ ss) = ap suc (length_headers (offset + length s.bytes) ss)

pub length_program_headers : (offset : ℕ) (ss : List Segment) → length (program_headers offset ss) ≡ header_count (length ss)
length_program_headers offset ss = length-append (headers_for offset ss) (stack_headers (length ss)) ∙ ap (λ (n : ℕ). n + length (stack_headers (length ss))) (length_headers offset ss)

pub few_headers : (n : ℕ) → n ≤ 65535 → header_count n ≤ 65535
few_headers n h = step (ltb n 65535) refl
  where
    step : (b : Bool) → ltb n 65535 ≡ b → n + length (cond b (stack_header ∷ []) []) ≤ 65535
    step true e = omega (arith, ltb-true n 65535 e)
    step false e = omega (arith, h)

length_table : (hs : List ProgramHeader) → length (table_bytes hs) ≡ 32 * length hs
length_table [] = refl
length_table (h ∷ hs) =
    let one : length (header_bytes h) ≡ 32 = length_header h in
    let more : length (table_bytes hs) ≡ 32 * length hs = length_table hs in
    length-append (header_bytes h) (table_bytes hs) ∙ omega (arith, one, more)

pub length_whole_table : (offset : ℕ) (ss : List Segment) → length (table_bytes (program_headers offset ss)) ≡ 32 * header_count (length ss)
length_whole_table offset ss = length_table (program_headers offset ss) ∙ ap (λ (n : ℕ). 32 * n) (length_program_headers offset ss)

-- a word and a header at a place of a file are the first of what stands from that place on
word_from : (file : List ℕ) (i j : ℕ) → word_at file (i + j) ≡ word_at (drop i file) j
word_from file i j =
    let a : get_or file (i + j) 0 ≡ get_or (drop i file) j 0 = sym (get_or-drop i file j 0) in
    let b : get_or file (i + j + 1) 0 ≡ get_or (drop i file) (j + 1) 0 = place (j + 1) (i + j + 1) (omega arith) in
    let c : get_or file (i + j + 2) 0 ≡ get_or (drop i file) (j + 2) 0 = place (j + 2) (i + j + 2) (omega arith) in
    let d : get_or file (i + j + 3) 0 ≡ get_or (drop i file) (j + 3) 0 = place (j + 3) (i + j + 3) (omega arith) in
    rw (a, b, c, d) refl
  where
    place : (k n : ℕ) → n ≡ i + k → get_or file n 0 ≡ get_or (drop i file) k 0
    place k n e = ap (λ (m : ℕ). get_or file m 0) e ∙ sym (get_or-drop i file k 0)

abbrev header : ℕ → ℕ → ℕ → ℕ → ℕ → ℕ → ProgramHeader
header k o a f m g = record { p_type = k; p_offset = o; p_vaddr = a; p_filesz = f; p_memsz = m; p_flags = g }

same_header : {k o a f m g k' o' a' f' m' g' : ℕ} → k ≡ k' → o ≡ o' → a ≡ a' → f ≡ f' → m ≡ m' → g ≡ g'
    → header k o a f m g ≡ header k' o' a' f' m' g'
same_header p q r s t u = cc

header_from : (file : List ℕ) (i : ℕ) → header_at file i ≡ header_at (drop i file) 0
header_from file i =
    let first : word_at file i ≡ word_at (drop i file) 0 = ap (word_at file) (let e : i ≡ i + 0 = omega arith in e) ∙ word_from file i 0 in
    same_header first (word_from file i 4) (word_from file i 8) (word_from file i 16) (word_from file i 20) (word_from file i 24)

pub record FitsWords (h : ProgramHeader) : Type 0 where
  pub p_type : h.p_type < 0x100000000
  pub p_offset : h.p_offset < 0x100000000
  pub p_vaddr : h.p_vaddr < 0x100000000
  pub p_filesz : h.p_filesz < 0x100000000
  pub p_memsz : h.p_memsz < 0x100000000
  pub p_flags : h.p_flags < 0x100000000

header_again : (h : ProgramHeader) (rest : List ℕ) → FitsWords h → header_at (header_bytes h ++ rest) 0 ≡ h
unfolding header_bytes
header_again h rest f = same_header (word_again h.p_type f.p_type) (word_again h.p_offset f.p_offset) (word_again h.p_vaddr f.p_vaddr) (word_again h.p_filesz f.p_filesz) (word_again h.p_memsz f.p_memsz) (word_again h.p_flags f.p_flags)

pub headers_read : (file : List ℕ) (i : ℕ) (hs : List ProgramHeader) (rest : List ℕ) → drop i file ≡ flat_map header_bytes hs ++ rest → AllByRecursion FitsWords hs → headers_from file i (length hs) ≡ hs
unfolding headers_from
headers_read file i [] rest at fit = refl
headers_read file i (h ∷ hs) rest at fit =
    let now : drop i file ≡ header_bytes h ++ (flat_map header_bytes hs ++ rest) = at ∙ append_assoc (header_bytes h) (flat_map header_bytes hs) rest in
    let this : header_at file i ≡ h = header_from file i ∙ ap (λ (bs : List ℕ). header_at bs 0) now ∙ header_again h (flat_map header_bytes hs ++ rest) fit.0 in
    let then : drop (i + 32) file ≡ flat_map header_bytes hs ++ rest =
    sym (drop-drop 32 i file) ∙ ap (drop 32) now ∙ drop_at (header_bytes h) (flat_map header_bytes hs ++ rest) 32 (length_header h) in
    let more : headers_from file (i + 32) (length hs) ≡ hs = headers_read file (i + 32) hs rest then fit.1 in
    cc

headers_fit : (offset : ℕ) (ss : List Segment) → AllByRecursion HasItsPlace ss → offset + length (data_of ss) < 0x100000000 → AllByRecursion FitsWords (headers_for offset ss)
headers_fit offset [] each h = tt
headers_fit offset (s ∷ ss) each h =
    let place = each.0 in
    let long : length (s.bytes ++ data_of ss) ≡ length s.bytes + length (data_of ss) = length-append s.bytes (data_of ss) in
    let to = place.to in
    let perm = place.perm in (
      record { p_type = omega arith; p_offset = omega arith; p_vaddr = omega arith; p_filesz = omega arith; p_memsz = omega arith; p_flags = omega arith },
      headers_fit (offset + length s.bytes) ss each.1 (omega (arith, long)),
    )

-- so does the header of the stack
and_stack_fits : (hs : List ProgramHeader) (count : ℕ) → AllByRecursion FitsWords hs → AllByRecursion FitsWords (hs ++ stack_headers count)
and_stack_fits [] count each = step (ltb count 65535)
  where
    step : (b : Bool) → AllByRecursion FitsWords (cond b (stack_header ∷ []) [])
    step true = (record { p_type = omega arith; p_offset = omega arith; p_vaddr = omega arith; p_filesz = omega arith; p_memsz = omega arith; p_flags = omega arith }, tt)
    step false = tt
and_stack_fits (h ∷ hs) count each = (each.0, and_stack_fits hs count each.1)

pub program_headers_fit : (offset : ℕ) (ss : List Segment) → AllByRecursion HasItsPlace ss → offset + length (data_of ss) < 0x100000000 → AllByRecursion FitsWords (program_headers offset ss)
program_headers_fit offset ss each h = and_stack_fits (headers_for offset ss) (length ss) (headers_fit offset ss each h)

-- a test that the header of the stack fails sees the headers of the segments alone
pub among_segments : (test : ProgramHeader → Bool) (hs : List ProgramHeader) (count : ℕ) → test stack_header ≡ false → filter test (hs ++ stack_headers count) ≡ filter test hs
among_segments test hs count e = filter-append test hs (stack_headers count) ∙ ap (λ (ks : List ProgramHeader). filter test hs ++ ks) (step (ltb count 65535)) ∙ append-nil (filter test hs)
  where
    step : (b : Bool) → filter test (cond b (stack_header ∷ []) []) ≡ []
    step true = rw e refl
    step false = refl

pub any_among_segments : (test : ProgramHeader → Bool) (hs : List ProgramHeader) (count : ℕ) → test stack_header ≡ false → list_any test (hs ++ stack_headers count) ≡ list_any test hs
any_among_segments test hs count e = list_any-append test hs (stack_headers count) ∙ ap (λ (b : Bool). list_any test hs || b) (step (ltb count 65535)) ∙ or-false (list_any test hs)
  where
    step : (b : Bool) → list_any test (cond b (stack_header ∷ []) []) ≡ false
    step true = rw e refl
    step false = refl

    or-false : (b : Bool) → (b || false) ≡ b
    or-false true = refl
    or-false false = refl
