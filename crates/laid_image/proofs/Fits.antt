-- The image of a written file can be written.
use Rattle.std.proofs.Common.{◌≡◌, ℕ, ◌+◌, ◌-◌, ◌*◌, ◌/◌, ◌%◌, ◌<◌, ◌≤◌, ◌==◌, ◌&&◌, ◌||◌, Bool, true, false, cond, ltb, max, List, [], ◌∷◌, ◌++◌, length, map, replicate, refl, sym, ap, ◌∙◌, subst, arith, length-append}
use Rattle.std.proofs.lemmas.List.{length-map, length-take-le, length-replicate}
use Rattle.std.proofs.lemmas.List.Elements.{filter-append, recursion_from_All}
use Rattle.std.proofs.lemmas.List.Sums.{sum_by-append, sum_by-cons}
use Rattle.std.proofs.lemmas.List.Folds.{list_any-append}
use Rattle.std.proofs.lemmas.Bool.{lt-ltb, le-ltb}
use Rattle.std.specs.List.{AllByRecursion, filter, list_any, sum_by}
use Rattle.image.specs.declared.image.Segment.{Segment}
use Rattle.image.specs.Addresses.{has}
use Rattle.image.specs.Rooms.{greatest, least}
use Rattle.image.specs.Wanted.{HasItsPlace, segment_end, meets, NoneMeet, is_code, is_code_at, span_of_code}
use Rattle.elf_writer.specs.Wanted.{CanBeWritten}
use Rattle.code_text.specs.KeptPlaces.{code_start, table_start}
use Rattle.laid_image.specs.NewImage.{whole_pages, in_pages, as_data, own_segment, words_bytes, own_segments, new_segments, FitsSourceRoom, HasNewRoom}
use Rattle.laid_image.proofs.Lists.{each_weaker, each_append, each_map}

-- ---- an old segment as data
and_false : (b : Bool) → (b && false) ≡ false
and_false true = refl
and_false false = refl

or_true : (b : Bool) → (b || true) ≡ true
or_true true = refl
or_true false = refl

not_run : (p : ℕ) → has (p - p % 2) 1 ≡ false
not_run p = let e : (p - p % 2) / 1 % 2 ≡ 0 = omega arith in ap (λ n. n == 1) e

pub as_written : (p : ℕ) → has (p - p % 2) 2 ≡ has p 2
as_written p = let e : (p - p % 2) / 2 ≡ p / 2 = omega arith in ap (λ n. n % 2 == 1) e

as_read : (p : ℕ) → has (p - p % 2) 4 ≡ has p 4
as_read p = let e : (p - p % 2) / 4 ≡ p / 4 = omega arith in ap (λ n. n % 2 == 1) e

as_data_place : (s : Segment) → HasItsPlace s → HasItsPlace (as_data s)
as_data_place s h = record {
  start_in_pages = h.start_in_pages;
  size_in_pages = h.size_in_pages;
  bytes_in_pages = h.bytes_in_pages;
  sized = h.sized;
  within = h.within;
  from = h.from;
  to = h.to;
  perm = omega arith;
  readable = as_read s.perm.0 ∙ h.readable;
  not_both = ap (λ b. has (s.perm.0 - s.perm.0 % 2) 2 && b) (not_run s.perm.0) ∙ and_false (has (s.perm.0 - s.perm.0 % 2) 2);
}

-- ---- the own segments
pub pages_enough : (n : ℕ) → n ≤ whole_pages n
pages_enough n = omega arith

pub length_in_pages : (bytes : List ℕ) → length (in_pages bytes) ≡ whole_pages (length bytes)
length_in_pages bytes =
    let w : ℕ = whole_pages (length bytes) in
    length-take-le w (bytes ++ replicate w 0) (omega (arith, length-append bytes (replicate w 0), length-replicate {A = ℕ} w 0))

pub length_of_words : (words : List ℕ) → length (words_bytes words) ≡ 4 * length words
length_of_words [] = refl
length_of_words (w ∷ ws) = omega (arith, length_of_words ws)

length_of_table : (words : List ℕ) → length (in_pages (words_bytes words)) ≡ whole_pages (4 * length words)
length_of_table words = length_in_pages (words_bytes words) ∙ ap whole_pages (length_of_words words)

module _ (size : ℕ) (code words : List ℕ) (room : HasNewRoom size code words) where
  code_place : HasItsPlace (own_segment code_start size 5 code)
  code_place =
      let few = room.few in
      let some = room.some in
      record {
        start_in_pages = refl;
        size_in_pages = room.pages;
        bytes_in_pages = room.code_pages;
        sized = some;
        within = room.within;
        from = omega arith;
        to = omega (arith, few);
        perm = omega arith;
        readable = refl;
        not_both = refl;
      }

  table_place : HasItsPlace (own_segment table_start (whole_pages (4 * length words)) 4 (in_pages (words_bytes words)))
  table_place =
      let few = room.few_words in
      let some = room.some_words in
      let bytes = length_of_table words in
      record {
        start_in_pages = refl;
        size_in_pages = omega arith;
        bytes_in_pages = omega (arith, bytes);
        sized = omega (arith, some);
        within = omega (arith, bytes);
        from = omega arith;
        to = omega (arith, few);
        perm = omega arith;
        readable = refl;
        not_both = refl;
      }

  zeros_place : (start pages : ℕ) → start % 4096 ≡ 0 → 0 < pages → 4096 ≤ start → start + 4096 * pages ≤ 0x7C000000 → HasItsPlace (own_segment start (4096 * pages) 6 [])
  zeros_place start pages e some from to = record {
    start_in_pages = e;
    size_in_pages = omega arith;
    bytes_in_pages = refl;
    sized = omega (arith, some);
    within = omega arith;
    from = from;
    to = to;
    perm = omega arith;
    readable = refl;
    not_both = refl;
  }

  own_places : AllByRecursion HasItsPlace (own_segments size code words)
  own_places = (
    code_place,
    (
      table_place,
      (
        zeros_place 0x75000000 0x800 refl (omega arith) (omega arith) (omega arith),
        (
          zeros_place 0x76000000 0x3000 refl (omega arith) (omega arith) (omega arith),
          (zeros_place 0x79000000 0x3000 refl (omega arith) (omega arith) (omega arith), tt),
        ),
      ),
    ),
  )

  -- ---- no two meet
  ends_before : (s t : Segment) → segment_end s ≤ t.start → meets s t ≡ false
  ends_before s t h = ap (λ b. ltb s.start (segment_end t) && b) (le-ltb t.start (segment_end s) h) ∙ and_false (ltb s.start (segment_end t))

  code_end : code_start + size ≤ table_start
  code_end = let few = room.few in omega (arith, few)

  table_end : table_start + whole_pages (4 * length words) ≤ 0x75000000
  table_end = let few = room.few_words in omega (arith, few)

  pub own_starts : AllByRecursion (λ (t : Segment). code_start ≤ t.start) (own_segments size code words)
  own_starts = (omega arith, (omega arith, (omega arith, (omega arith, (omega arith, tt)))))

  own_apart : NoneMeet (own_segments size code words)
  own_apart =
      let code_one : Segment = own_segment code_start size 5 code in
      let table_one : Segment = own_segment table_start (whole_pages (4 * length words)) 4 (in_pages (words_bytes words)) in
      let cells : Segment = own_segment 0x75000000 0x800000 6 [] in
      let variables : Segment = own_segment 0x76000000 0x3000000 6 [] in
      let frames : Segment = own_segment 0x79000000 0x3000000 6 [] in (
        (
          ends_before code_one table_one code_end,
          (
            ends_before code_one cells (omega (arith, code_end)),
            (
              ends_before code_one variables (omega (arith, code_end)),
              (ends_before code_one frames (omega (arith, code_end)), tt),
            ),
          ),
        ),
        (
          (
            ends_before table_one cells table_end,
            (
              ends_before table_one variables (omega (arith, table_end)),
              (ends_before table_one frames (omega (arith, table_end)), tt),
            ),
          ),
          (
            (ends_before cells variables (omega arith), (ends_before cells frames (omega arith), tt)),
            ((ends_before variables frames (omega arith), tt), (tt, tt)),
          ),
        ),
      )

  data_apart : (old : List Segment) → NoneMeet old → AllByRecursion (λ (s : Segment). segment_end s ≤ 0x50000000) old → NoneMeet (map as_data old ++ own_segments size code words)
  data_apart [] apart to = own_apart
  data_apart (s ∷ ss) apart to = (
    each_append (λ (t : Segment). meets s t ≡ false) (map as_data ss) (own_segments size code words)
        (each_map as_data (λ (t : Segment). meets s t ≡ false) ss apart.0)
        (each_weaker (λ (t : Segment). code_start ≤ t.start) (λ (t : Segment). meets s t ≡ false) (λ t h. let end = to.0 in ends_before s t (omega (arith, h, end))) (own_segments size code words) own_starts),
    data_apart ss apart.1 to.1,
  )

  -- ---- the code is the first of the own ones
  entered : list_any (is_code_at code_start) (own_segments size code words) ≡ true
  entered = let some = room.some in rw (lt-ltb code_start (code_start + size) (omega (arith, some))) refl

  none_is_code : (old : List Segment) → filter is_code (map as_data old) ≡ []
  none_is_code [] = refl
  none_is_code (s ∷ ss) = ap (λ b. cond b (as_data s ∷ filter is_code (map as_data ss)) (filter is_code (map as_data ss))) (not_run s.perm.0) ∙ none_is_code ss

  only_code : (old : List Segment) → filter is_code (map as_data old ++ own_segments size code words) ≡ own_segment code_start size 5 code ∷ []
  only_code old = filter-append is_code (map as_data old) (own_segments size code words) ∙ ap (λ ss. ss ++ own_segment code_start size 5 code ∷ []) (none_is_code old)

  span : (old : List Segment) → span_of_code (map as_data old ++ own_segments size code words) ≤ 0x14000000
  span old =
      let few = room.few in
      let one : max (code_start + size) 0 - code_start ≤ 0x14000000 = omega (arith, few) in
      subst (λ ss. greatest (map segment_end ss) - least (map (λ (s : Segment). s.start) ss) ≤ 0x14000000) (sym (only_code old)) one

  -- ---- sizes
  same_size : (old : List Segment) → sum_by (λ (s : Segment). s.size) (map as_data old) ≡ sum_by (λ (s : Segment). s.size) old
  same_size [] = refl
  same_size (s ∷ ss) = sum_by-cons (λ (t : Segment). t.size) (as_data s) (map as_data ss) ∙ (ap (λ n. s.size + n) (same_size ss) ∙ sym (sum_by-cons (λ (t : Segment). t.size) s ss))

  total : (old : List Segment) → sum_by (λ (s : Segment). s.size) old ≤ 0x4000000 → sum_by (λ (s : Segment). s.size) (map as_data old ++ own_segments size code words) ≤ 0x20000000
  total old h =
      let few = room.few in
      let few_words = room.few_words in
      rw (sum_by-append (λ (s : Segment). s.size) (map as_data old) (own_segments size code words), same_size old) (omega (arith, h, few, few_words))

-- each has one page or more
pages_counted : (ss : List Segment) → AllByRecursion HasItsPlace ss → 4096 * length ss ≤ sum_by (λ (s : Segment). s.size) ss
pages_counted [] h = omega arith
pages_counted (s ∷ ss) h =
    let some = h.0.sized in
    let pages = h.0.size_in_pages in
    let more = pages_counted ss h.1 in
    let all : sum_by (λ (t : Segment). t.size) (s ∷ ss) ≡ s.size + sum_by (λ (t : Segment). t.size) ss = sum_by-cons (λ (t : Segment). t.size) s ss in
    omega (arith, some, pages, more, all)

pub can_be_written : (old : List Segment) (entry size : ℕ) (code words : List ℕ) → FitsSourceRoom old entry → HasNewRoom size code words → CanBeWritten (new_segments old size code words) code_start
unfolding new_segments
can_be_written old entry size code words fits room =
    let own : List Segment = own_segments size code words in
    let each = fits.wide.each in
    let within = fits.total in
    let counted = pages_counted old each in
    record {
      few = omega (arith, length-append (map as_data old) own, length-map old as_data, counted, within);
      fits =
          record {
            each = each_append HasItsPlace (map as_data old) own (each_map as_data HasItsPlace old (each_weaker HasItsPlace (λ s. HasItsPlace (as_data s)) as_data_place old each)) (own_places size code words room);
            apart = data_apart size code words room old fits.wide.apart (recursion_from_All (λ (s : Segment). segment_end s ≤ 0x50000000) old fits.to);
            entered = list_any-append (is_code_at code_start) (map as_data old) own ∙ (ap (λ b. list_any (is_code_at code_start) (map as_data old) || b) (entered size code words room) ∙ or_true (list_any (is_code_at code_start) (map as_data old)));
            span = span size code words room old;
            total = total size code words room old within;
          };
    }
