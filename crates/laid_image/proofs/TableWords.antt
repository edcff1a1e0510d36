-- The table of a written file is that of the places.
use Rattle.std.proofs.Common.{◌≡◌, ℕ, ◌+◌, ◌-◌, ◌*◌, ◌<◌, ◌≤◌, true, false, List, ◌++◌, length, take, replicate, get_or, Some, refl, sym, ap, ◌∙◌, subst, arith}
use Rattle.std.proofs.lemmas.List.{length-take-le, get_or-take, get_or_append_left}
use Rattle.std.proofs.lemmas.List.Concat.{get_or-flat_map}
use Rattle.std.proofs.lemmas.Bool.{lt-leb, le-ltb}
use Rattle.std.specs.Option.{option_map}
use Rattle.byte_lists.specs.LittleEndian.{word_bytes}
use Rattle.x86_values.specs.declared.byte.Byte.TheVariants.{Known}
use Rattle.x86_values.specs.Words.{word_of, word_list}
use Rattle.image.specs.declared.image.Segment.{Segment}
use Rattle.memory.specs.Memory.{Place, Memory, Load, wrapped, allows_all, bytes_at, place_in, memory_of}
use Rattle.private_memory.specs.PrivateArea.{is_unreserved}
use Rattle.laid_code.specs.Laid.{Places}
use Rattle.laid_code.specs.LaidRun.{HasAddressTable}
use Rattle.code_text.specs.KeptPlaces.{table_start, AreTableWords}
use Rattle.laid_image.specs.NewImage.{whole_pages, in_pages, words_bytes, new_image, FitsSourceRoom, HasNewRoom}
use Rattle.laid_image.proofs.Fits.{pages_enough, length_of_words}
use Rattle.laid_image.proofs.Finding.{in_table, above}

-- ---- a byte of a word
byte_in_pages : (bytes : List ℕ) (k : ℕ) → k < length bytes → get_or (in_pages bytes) k 0 ≡ get_or bytes k 0
byte_in_pages bytes k h =
    let w : ℕ = whole_pages (length bytes) in
    get_or-take w (bytes ++ replicate w 0) k 0 (omega (arith, h, pages_enough (length bytes))) ∙ get_or_append_left bytes (replicate w 0) 0 k h

byte_of_word : (words : List ℕ) (k j : ℕ) → k < length words → j < 4 → get_or (words_bytes words) (4 * k + j) 0 ≡ get_or (word_bytes (get_or words k 0)) j 0
byte_of_word words k j h few =
    let before : length (words_bytes (take k words)) ≡ 4 * k = length_of_words (take k words) ∙ ap (λ n. 4 * n) (length-take-le k words (omega (arith, h))) in
    ap (λ n. get_or (words_bytes words) (n + j) 0) (sym before) ∙ get_or-flat_map word_bytes words k j 0 0 h few

module _ (old : List Segment) (entry size : ℕ) (code words : List ℕ) (fits : FitsSourceRoom old entry) (room : HasNewRoom size code words) where
  abbrev new : Memory
  new = memory_of (new_image old size code words)

  abbrev read_place : ℕ → Place
  read_place b = record { byte = Known b; can_write = false; on_stack = false }

  place_of_byte : (a k j : ℕ) → a ≡ table_start + 4 * k + j → k < length words → j < 4 → new (wrapped a) ≡ Some (read_place (get_or (word_bytes (get_or words k 0)) j 0))
  unfolding memory_of
  place_of_byte a k j is h few =
      let few_words = room.few_words in
      let enough = pages_enough (4 * length words) in
      let here : wrapped a ≡ a = omega (arith, is, h, few, few_words) in
      let within : a < table_start + whole_pages (4 * length words) = omega (arith, is, h, few, enough) in
      let index : a - table_start ≡ 4 * k + j = omega (arith, is) in
      let from : table_start ≤ a = omega (arith, is) in
      ap new here
      ∙ (ap (option_map (place_in a)) (above size code words room old entry fits a (omega (arith, from)) ∙ in_table size code words room a from within)
      ∙ (ap (λ n. Some (read_place (get_or (in_pages (words_bytes words)) n 0))) index
      ∙ ap (λ n. Some (read_place n)) (byte_in_pages (words_bytes words) (4 * k + j) (omega (arith, h, few, length_of_words words)) ∙ byte_of_word words k j h few)))

  module _ (k : ℕ) (h : k < length words) where
    abbrev at : ℕ
    at = table_start + 4 * k

    first : new (wrapped at) ≡ Some (read_place (get_or (word_bytes (get_or words k 0)) 0 0))
    first = place_of_byte at k 0 (omega arith) h (omega arith)

    second : new (wrapped (at + 1)) ≡ Some (read_place (get_or (word_bytes (get_or words k 0)) 1 0))
    second = place_of_byte (at + 1) k 1 (omega arith) h (omega arith)

    third : new (wrapped (at + 1 + 1)) ≡ Some (read_place (get_or (word_bytes (get_or words k 0)) 2 0))
    third = place_of_byte (at + 1 + 1) k 2 (omega arith) h (omega arith)

    fourth : new (wrapped (at + 1 + 1 + 1)) ≡ Some (read_place (get_or (word_bytes (get_or words k 0)) 3 0))
    fourth = place_of_byte (at + 1 + 1 + 1) k 3 (omega arith) h (omega arith)

    word_there : bytes_at new at 4 ≡ word_list (word_of (get_or words k 0))
    unfolding bytes_at word_of
    word_there = rw (first, second, third, fourth) refl

    word_read : allows_all Load new at 4 ≡ true
    unfolding allows_all
    word_read = rw (first, second, third, fourth) refl

  reserved : (a : ℕ) → table_start ≤ a → a < table_start + 4 * length words → is_unreserved a ≡ false
  reserved a from to =
      let few = room.few_words in
      rw (le-ltb a 0x60000000 (omega (arith, from)), lt-leb 0x75000000 a (omega (arith, to, few))) refl

  pub has_table : (l : Places) → l.table ≡ table_start → AreTableWords l words → HasAddressTable l new
  has_table l at are =
      let all = are.all in
      record {
        words = λ k h.
            subst (λ t. bytes_at new (t + 4 * k) 4 ≡ word_list (word_of (l.by_address (l.span + k)))) (sym at)
            (word_there k (omega (arith, all, h)) ∙ ap (λ n. word_list (word_of n)) (are.words k h));
        readable = λ k h. subst (λ t. allows_all Load new (t + 4 * k) 4 ≡ true) (sym at) (word_read k (omega (arith, all, h)));
        reserved = λ a from to. reserved a (omega (arith, at, from)) (omega (arith, at, all, to));
      }
