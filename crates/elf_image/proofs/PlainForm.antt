-- A plain file passes every test, and its image is the plain one.
use Rattle.std.proofs.Common.{◌≡◌, ℕ, ◌+◌, ◌-◌, ◌*◌, ◌%◌, ◌≤◌, ◌==◌, ap, Bool, true, false, not, ltb, List, [], ◌∷◌, length, take, drop, replicate, map, filter, None, Ok, refl, arith, get_or}
use Rattle.std.proofs.lemmas.Bool.{and_parts, eqb-true, leb-true, le-ltb, ne_eqb, not-false}
use Rattle.std.specs.List.{list_any}
use Rattle.std.proofs.lemmas.List.{take-append-le, length-drop}
use Rattle.elf_image.specs.declared.header.ProgramHeader.{ProgramHeader}
use Rattle.image.specs.declared.image.Segment.{Segment}
use Rattle.image.specs.declared.image.Image.{Image}
use Rattle.image.specs.declared.perm.Perm.{Perm}
use Rattle.image.specs.declared.room.Room.{Room}
use Rattle.image.specs.declared.room.Room.TheVariants.{Source, Any}
use Rattle.elf_image.specs.declared.refusal.Refusal.{Refusal}
use Rattle.elf_image.specs.declared.refusal.Refusal.TheVariants.{Short, Magic, Class, Order, Version, Kind, Machine, HeaderSize, HeaderTable, Dynamic, SegmentFile, SegmentSize, SegmentAlign, Permission, Range, SharedPage, Entry, CodeSpan, ImageSize}
use Rattle.elf_image.specs.Fields.{has_magic, e_type, e_machine, e_entry, e_phoff, e_phentsize, e_phnum, header_at, headers_from, headers_of}
use Rattle.elf_image.specs.Pages.{window, first_page, page_bytes, end_page, file_end_page, is_segment}
use Rattle.elf_image.specs.Refusals.{first, tests, segment_tests, segments_of, refusal_of, past_file, is_dynamic, is_too_small, is_out_of_room, any_shares_page, has_address, has_code, code_span, pages_size}
use Rattle.image.specs.Rooms.{room_end, room_span, room_size}
use Rattle.elf_image.specs.Image.{image_of, segment_of}
use Rattle.elf_image.specs.Plain.{is_plain, is_plain_text, is_plain_room, has_plain_header, text_segment, room_segment, PlainIsAccepted, PlainIsRead}
use Rattle.elf_image.proofs.Passed.{not_refused}

abbrev pub program_header : ℕ → ℕ → ℕ → ℕ → ℕ → ℕ → ProgramHeader
program_header k o a f m g = record { p_type = k; p_offset = o; p_vaddr = a; p_filesz = f; p_memsz = m; p_flags = g }

-- the two program headers of a plain file with n bytes of code
abbrev pub text_header : ℕ → ProgramHeader
text_header n = program_header 1 0x1000 0x08049000 n n 5

abbrev pub room_header : ProgramHeader
room_header = program_header 1 0x2000 0x0804A000 0 4096 6

abbrev pub segment : ℕ → ℕ → Perm → List ℕ → Segment
segment s z p b = record { start = s; size = z; perm = p; bytes = b }

abbrev pub image : List Segment → ℕ → Image
image ss e = record { segments = ss; entry = e }

pub record IsPlainHeader (file : List ℕ) : Type 0 where
  pub class : get_or file 4 0 ≡ 1
  pub order : get_or file 5 0 ≡ 1
  pub version : get_or file 6 0 ≡ 1
  pub kind : e_type file ≡ 2
  pub machine : e_machine file ≡ 3
  pub entry : e_entry file ≡ 0x08049000
  pub e_phoff : e_phoff file ≡ 52
  pub e_phentsize : e_phentsize file ≡ 32
  pub e_phnum : e_phnum file ≡ 2

pub record IsPlainText (h : ProgramHeader) : Type 0 where
  pub is : h ≡ text_header h.p_memsz
  pub low : 1 ≤ h.p_memsz
  pub high : h.p_memsz ≤ 4096

same_header : {k o a f m g k' o' a' f' m' g' : ℕ} → k ≡ k' → o ≡ o' → a ≡ a' → f ≡ f' → m ≡ m' → g ≡ g'
    → program_header k o a f m g ≡ program_header k' o' a' f' m' g'
same_header p q r s t u = cc

pub plain_text_is : (h : ProgramHeader) → is_plain_text h ≡ true → IsPlainText h
plain_text_is h e =
    let a = and_parts _ _ e in
    let b = and_parts _ _ a.0 in
    let c = and_parts _ _ b.0 in
    let d = and_parts _ _ c.0 in
    let f = and_parts _ _ d.0 in
    let g = and_parts _ _ f.0 in
    let low : 1 ≤ h.p_filesz = leb-true _ _ c.1 in
    let high : h.p_filesz ≤ 4096 = leb-true _ _ b.1 in
    let same : h.p_filesz ≡ h.p_memsz = eqb-true _ _ d.1 in
    record {
      is = same_header (eqb-true _ _ g.0) (eqb-true _ _ g.1) (eqb-true _ _ f.1) same refl (eqb-true _ _ a.1);
      low = omega arith;
      high = omega arith;
    }

pub plain_room_is : (h : ProgramHeader) → is_plain_room h ≡ true → h ≡ room_header
plain_room_is h e =
    let a = and_parts _ _ e in
    let b = and_parts _ _ a.0 in
    let c = and_parts _ _ b.0 in
    let d = and_parts _ _ c.0 in
    let f = and_parts _ _ d.0 in
    same_header (eqb-true _ _ f.0) (eqb-true _ _ f.1) (eqb-true _ _ d.1) (eqb-true _ _ c.1) (eqb-true _ _ b.1) (eqb-true _ _ a.1)

pub plain_header_is : (file : List ℕ) → has_plain_header file ≡ true → IsPlainHeader file
plain_header_is file e =
    let a = and_parts _ _ e in
    let b = and_parts _ _ a.0 in
    let c = and_parts _ _ b.0 in
    let d = and_parts _ _ c.0 in
    let f = and_parts _ _ d.0 in
    let g = and_parts _ _ f.0 in
    let h = and_parts _ _ g.0 in
    let i = and_parts _ _ h.0 in
    record {
      class = eqb-true _ _ i.0;
      order = eqb-true _ _ i.1;
      version = eqb-true _ _ h.1;
      kind = eqb-true _ _ g.1;
      machine = eqb-true _ _ f.1;
      entry = eqb-true _ _ d.1;
      e_phoff = eqb-true _ _ c.1;
      e_phentsize = eqb-true _ _ b.1;
      e_phnum = eqb-true _ _ a.1;
    }

pub record IsPlain (file : List ℕ) : Type 0 where
  pub size : length file ≡ 8192
  pub header : IsPlainHeader file
  pub text : IsPlainText (header_at file 52)
  pub room : header_at file 84 ≡ room_header

pub plain_is : (file : List ℕ) → is_plain file ≡ true → IsPlain file
unfolding is_plain
plain_is file e =
    let a = and_parts _ _ e in
    let b = and_parts _ _ a.0 in
    let c = and_parts _ _ b.0 in
    record {
      size = eqb-true _ _ c.0;
      header = plain_header_is file c.1;
      text = plain_text_is _ b.1;
      room = plain_room_is _ a.1;
    }

-- where each test fails, none answers
none_of_nine : (a b c d e f g h i : Bool) (s t u v w x y z q : Refusal) → a ≡ false → b ≡ false → c ≡ false → d ≡ false → e ≡ false → f ≡ false → g ≡ false → h ≡ false → i ≡ false
    → first ((a, s) ∷ (b, t) ∷ (c, u) ∷ (d, v) ∷ (e, w) ∷ (f, x) ∷ (g, y) ∷ (h, z) ∷ (i, q) ∷ []) ≡ None
none_of_nine a b c d e f g h i s t u v w x y z q p1 p2 p3 p4 p5 p6 p7 p8 p9 = rw (p1, p2, p3, p4, p5, p6, p7, p8, p9) refl

-- n bytes of code, but at most a page of them, end in that page
text_end : (n : ℕ) → 1 ≤ n → n ≤ 4096 → end_page (text_header n) ≡ 0x804A
text_end n low high = omega arith

text_is_segment : (n : ℕ) → 1 ≤ n → is_segment (text_header n) ≡ true
text_is_segment n low = rw (ne_eqb n 0 (omega arith)) refl

abbrev pub plain_headers : ℕ → List ProgramHeader
plain_headers n = text_header n ∷ room_header ∷ []

within_file : (n : ℕ) → n ≤ 4096 → list_any (past_file 8192) (plain_headers n) ≡ false
within_file n high = rw (le-ltb 8192 (0x1000 + n) (omega arith)) refl

large_enough : (n : ℕ) → list_any is_too_small (plain_headers n) ≡ false
large_enough n = rw (le-ltb n n (omega arith)) refl

in_room : (n : ℕ) (room : Room) → n ≤ 4096 → list_any (is_out_of_room (room_end room)) (plain_headers n) ≡ false
in_room n Source high = rw (le-ltb 0x50000000 (0x08049000 + n) (omega arith)) refl
in_room n Any high = rw (le-ltb 0x7C000000 (0x08049000 + n) (omega arith)) refl

apart : (n : ℕ) → 1 ≤ n → n ≤ 4096 → any_shares_page (plain_headers n) ≡ false
apart n low high = rw (text_end n low high) refl

entry_in_text : (n : ℕ) → 1 ≤ n → n ≤ 4096 → not (list_any (has_address 0x08049000) (filter has_code (plain_headers n))) ≡ false
entry_in_text n low high = rw (text_end n low high) refl

short_code : (n : ℕ) (room : Room) → 1 ≤ n → n ≤ 4096 → ltb (room_span room) (code_span (plain_headers n)) ≡ false
short_code n Source low high = rw (text_end n low high) refl
short_code n Any low high = rw (text_end n low high) refl

few_pages : (n : ℕ) (room : Room) → 1 ≤ n → n ≤ 4096 → ltb (room_size room) (pages_size (plain_headers n)) ≡ false
few_pages n Source low high = rw (text_end n low high) refl
few_pages n Any low high = rw (text_end n low high) refl

-- the segments of a plain file pass their tests in either room
segments_pass : (n : ℕ) (room : Room) → 1 ≤ n → n ≤ 4096 → first (segment_tests 8192 0x08049000 room (plain_headers n)) ≡ None
segments_pass n room low high =
    none_of_nine _ _ _ _ _ _ _ _ _ SegmentFile SegmentSize SegmentAlign Permission Range SharedPage Entry CodeSpan ImageSize (within_file n high) (large_enough n) refl refl
    (in_room n room high) (apart n low high) (entry_in_text n low high) (short_code n room low high) (few_pages n room low high)

-- the fields of a header that count, and the headers of the table, pass their tests
tests_pass : (magic : Bool) (size class order version kind machine each table count at n : ℕ) (room : Room)
    → magic ≡ true → size ≡ 8192 → class ≡ 1 → order ≡ 1 → version ≡ 1 → kind ≡ 2 → machine ≡ 3 → each ≡ 32 → table ≡ 52 → count ≡ 2 → at ≡ 0x08049000 → 1 ≤ n → n ≤ 4096
    → first ((ltb size 52, Short) ∷ (not magic, Magic) ∷ (not (class == 1), Class) ∷ (not (order == 1), Order) ∷ (not (version == 1), Version) ∷ (not (kind == 2), Kind)
    ∷ (not (machine == 3), Machine) ∷ (not (each == 32), HeaderSize) ∷ (ltb size (table + 32 * count), HeaderTable) ∷ (list_any is_dynamic (plain_headers n), Dynamic)
    ∷ segment_tests size at room (filter is_segment (plain_headers n))) ≡ None
tests_pass magic size class order version kind machine each table count at n room p1 p2 p3 p4 p5 p6 p7 p8 p9 p10 p11 low high =
    rw (p1, p2, p3, p4, p5, p6, p7, p8, p9, p10, p11, text_is_segment n low) (segments_pass n room low high)

-- the two headers are those of the form
headers_are : (file : List ℕ) → (p : IsPlain file) → headers_of file ≡ plain_headers (header_at file 52).p_memsz
unfolding headers_from
headers_are file p = rw (p.header.e_phoff, p.header.e_phnum) (let e = p.text.is in let f = p.room in cc)

plain_passes : (file : List ℕ) (room : Room) → has_magic file ≡ true → IsPlain file → refusal_of file room ≡ None
unfolding refusal_of
plain_passes file room magic p =
    let h = p.header in
    rw (headers_are file p) (tests_pass _ _ _ _ _ _ _ _ _ _ _ _ room magic p.size h.class h.order h.version h.kind h.machine h.e_phentsize h.e_phoff h.e_phnum h.entry p.text.low p.text.high)

-- a window that ends within the file
window_within : (file : List ℕ) (i n : ℕ) → i + n ≤ length file → window file i n ≡ take n (drop i file)
window_within file i n h =
    let fits : n ≤ length (drop i file) = omega (arith, length-drop i file) in
    rw (take-append-le n (drop i file) (replicate n 0) fits) refl

-- the bytes of a segment whose sizes are equal and whose file pages lie within the file
bytes_within : (file : List ℕ) (h : ProgramHeader) (i n : ℕ) → h.p_filesz ≡ h.p_memsz → h.p_offset - h.p_vaddr % 4096 ≡ i → 4096 * (file_end_page h - first_page h) ≡ n
    → i + n ≤ length file → page_bytes file h ≡ take n (drop i file)
bytes_within file h i n same from size fits =
    let e : ltb h.p_filesz h.p_memsz ≡ false = le-ltb h.p_filesz h.p_memsz (omega arith) in
    rw (e, from, size) (window_within file i n fits)

same_segment : {s z s' z' : ℕ} {p p' : Perm} {b b' : List ℕ} → s ≡ s' → z ≡ z' → p ≡ p' → b ≡ b' → segment s z p b ≡ segment s' z' p' b'
same_segment p q r s = cc

text_segment_is : (file : List ℕ) (n : ℕ) → 1 ≤ n → n ≤ 4096 → length file ≡ 8192 → segment_of file (text_header n) ≡ text_segment file
text_segment_is file n low high size =
    let pages : 4096 * (end_page (text_header n) - first_page (text_header n)) ≡ 4096 = rw (text_end n low high) refl in
    same_segment refl pages refl (bytes_within file (text_header n) 4096 4096 refl refl pages (omega arith))

segments_are : (file : List ℕ) → IsPlain file → map (segment_of file) (segments_of file) ≡ text_segment file ∷ room_segment ∷ []
segments_are file p =
    let n = (header_at file 52).p_memsz in
    let keeps : filter is_segment (plain_headers n) ≡ plain_headers n = rw (text_is_segment n p.text.low) refl in
    rw (headers_are file p, keeps) (ap (λ s. s ∷ room_segment ∷ []) (text_segment_is file n p.text.low p.text.high p.size))

same_image : {ss ss' : List Segment} {e e' : ℕ} → ss ≡ ss' → e ≡ e' → image ss e ≡ image ss' e'
same_image p q = cc

pub plain_is_accepted : PlainIsAccepted
unfolding image_of
plain_is_accepted file room magic e =
    let p = plain_is file e in
    rw (plain_passes file room magic p) (ap Ok (same_image (segments_are file p) p.header.entry))

-- the second test of a list in which none holds
second : (a b : Bool) (q r : Refusal) (ts : List (Bool × Refusal)) → first ((a, q) ∷ (b, r) ∷ ts) ≡ None → b ≡ false
second true b q r ts none = cc
second false true q r ts none = cc
second false false q r ts none = refl

accepted_has_magic : (file : List ℕ) (room : Room) (i : Image) → image_of file room ≡ Ok i → has_magic file ≡ true
unfolding image_of refusal_of
accepted_has_magic file room i e =
    not-false (has_magic file) (second (ltb (length file) 52) (not (has_magic file)) Short Magic (drop 2 (tests file room)) (not_refused file (first (tests file room)) i e))

pub plain_is_read : PlainIsRead
plain_is_read file room i e plain =
    let magic = accepted_has_magic file room i e in
    let is = plain_is_accepted file room magic plain in
    (magic, cc)
