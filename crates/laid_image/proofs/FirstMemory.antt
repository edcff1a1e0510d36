-- The memory of a written file is that with which laid code begins.
use Rattle.std.proofs.Common.{◌≡◌, ◌⊎◌, ℕ, ◌*◌, ◌/◌, ◌%◌, ◌<◌, ◌≤◌, true, false, List, [], ◌∷◌, ◌++◌, length, map, replicate, All, Option, Some, None, inl, inr, refl, sym, ap, ◌∙◌, subst, arith}
use Rattle.std.proofs.lemmas.List.Elements.{All-nil, All-cons, All-append, All-map, All-replicate, All-take}
use Rattle.std.proofs.lemmas.Bool.{le-leb, lt-ltb, lt-leb, le-ltb}
use Rattle.byte_lists.specs.LittleEndian.{word_bytes}
use Rattle.x86_values.specs.declared.byte.Byte.{Byte}
use Rattle.x86_values.specs.declared.byte.Byte.TheVariants.{Known, Unspecified}
use Rattle.x86_values.specs.LessSpecified.{ByteLessSpecified}
use Rattle.x86_values.specs.Words.{IsByte, word_of, word_list}
use Rattle.image.specs.declared.image.Segment.{Segment}
use Rattle.image.specs.Wanted.{image_with}
use Rattle.memory.specs.Memory.{Place, Memory, HasBytes, kind_of, memory_of, put_all}
use Rattle.memory.specs.MemoryLaws.{MemoryLaws}
use Rattle.memory.specs.LessSpecified.{PlaceLessSpecified}
use Rattle.private_memory.specs.PrivateArea.{is_private, is_unreserved, private_byte, with_private}
use Rattle.named_code.specs.declared.placed.Home.{Home}
use Rattle.named_code.specs.CodeRun.{with_cells}
use Rattle.laid_code.specs.Beginning.{with_esp, CanBegin}
use Rattle.code_text.specs.KeptPlaces.{code_start, table_start}
use Rattle.laid_image.specs.NewImage.{whole_pages, in_pages, as_data, own_segment, words_bytes, own_segments, new_segments, new_image, FitsSourceRoom, HasNewRoom}
use Rattle.laid_image.specs.ImageLaws.{HoldsBytes, AreCells, esp_cell}
use Rattle.laid_image.proofs.OldMemory.{none_from, segments_have_bytes}
use Rattle.laid_image.proofs.NewMemory.{own_place, data_same, cells_zero, variables_zero, frames_zero, none_behind, off_stack}
use Rattle.laid_image.proofs.FirstCells.{esp_cell_is, cell_from, cell_to, same_outside, same_cells}

-- ---- its bytes
abbrev IsSmall : ℕ → Type 0
IsSmall b = b < 256

words_small : (words : List ℕ) → All IsSmall (words_bytes words)
words_small [] = All-nil IsSmall
words_small (w ∷ ws) = All-append IsSmall (word_bytes w) (words_bytes ws) word_small (words_small ws)
  where
    word_small : All IsSmall (word_bytes w)
    word_small =
        All-cons IsSmall (w % 256) (w / 256 % 256 ∷ w / 65536 % 256 ∷ w / 16777216 % 256 ∷ []) (omega arith)
        (All-cons IsSmall (w / 256 % 256) (w / 65536 % 256 ∷ w / 16777216 % 256 ∷ []) (omega arith)
        (All-cons IsSmall (w / 65536 % 256) (w / 16777216 % 256 ∷ []) (omega arith)
        (All-cons IsSmall (w / 16777216 % 256) [] (omega arith) (All-nil IsSmall))))

pages_small : (bytes : List ℕ) → All IsSmall bytes → All IsSmall (in_pages bytes)
pages_small bytes h =
    let n : ℕ = whole_pages (length bytes) in
    All-take IsSmall n (bytes ++ replicate n 0) (All-append IsSmall bytes (replicate n 0) h (All-replicate IsSmall n 0 (omega arith)))

own_small : (size : ℕ) (code words : List ℕ) → All IsSmall code → HoldsBytes (own_segments size code words)
own_small size code words h =
    let none : All IsSmall [] = All-nil IsSmall in
    let small : Segment → Type 0 = λ (s : Segment). All IsSmall s.bytes in
    let code_one : Segment = own_segment code_start size 5 code in
    let table_one : Segment = own_segment table_start (whole_pages (4 * length words)) 4 (in_pages (words_bytes words)) in
    let cells : Segment = own_segment 0x75000000 0x800000 6 [] in
    let variables : Segment = own_segment 0x76000000 0x3000000 6 [] in
    let frames : Segment = own_segment 0x79000000 0x3000000 6 [] in
    All-cons small code_one (table_one ∷ cells ∷ variables ∷ frames ∷ []) h
    (All-cons small table_one (cells ∷ variables ∷ frames ∷ []) (pages_small (words_bytes words) (words_small words))
    (All-cons small cells (variables ∷ frames ∷ []) none
    (All-cons small variables (frames ∷ []) none
    (All-cons small frames [] none (All-nil small)))))

new_small : (old : List Segment) (size : ℕ) (code words : List ℕ) → HoldsBytes old → All IsSmall code → HoldsBytes (new_segments old size code words)
unfolding new_segments
new_small old size code words h k =
    let small : Segment → Type 0 = λ (s : Segment). All IsSmall s.bytes in
    All-append small (map as_data old) (own_segments size code words) (All-map small as_data old h) (own_small size code words k)

esp_small : (esp0 : ℕ) → All IsByte (word_list (word_of esp0))
unfolding word_of
esp_small esp0 =
    All-cons IsByte (Known (esp0 % 256)) (Known (esp0 / 256 % 256) ∷ Known (esp0 / 65536 % 256) ∷ Known (esp0 / 16777216 % 256) ∷ []) (omega arith)
    (All-cons IsByte (Known (esp0 / 256 % 256)) (Known (esp0 / 65536 % 256) ∷ Known (esp0 / 16777216 % 256) ∷ []) (omega arith)
    (All-cons IsByte (Known (esp0 / 65536 % 256)) (Known (esp0 / 16777216 % 256) ∷ []) (omega arith)
    (All-cons IsByte (Known (esp0 / 16777216 % 256)) [] (omega arith) (All-nil IsByte))))

with_esp_bytes : MemoryLaws → (cell esp0 : ℕ) (n : Memory) → HasBytes n → HasBytes (with_esp cell esp0 n)
unfolding with_esp
with_esp_bytes laws cell esp0 n h =
    let word = word_list (word_of esp0) in
    laws.put_all_has_bytes cell word (put_all 0x75000000 word n) (esp_small esp0) (laws.put_all_has_bytes 0x75000000 word n (esp_small esp0) h)

-- a place of bytes is less specified than itself
byte_itself : (b : Byte) → IsByte b → ByteLessSpecified b b
byte_itself (Known v) h = (refl, h)
byte_itself Unspecified h = tt

place_itself : (o : Option Place) → ((p : Place) → o ≡ Some p → IsByte p.byte) → PlaceLessSpecified o o
place_itself None h = tt
place_itself (Some p) h = record { byte = byte_itself p.byte (h p refl); can_write = refl; on_stack = refl }

-- ---- where an address lies
data Region (a : ℕ) : Type 0 where
  outside : (a < 0x60000000) ⊎ (0x7C000000 ≤ a) → Region a
  reserved : (0x60000000 ≤ a) → (a < 0x7C000000) → is_unreserved a ≡ false → Region a
  of_cells : 0x75000000 ≤ a → a < 0x75800000 → Region a
  of_variables : 0x76000000 ≤ a → a < 0x79000000 → Region a
  of_frames : 0x79000000 ≤ a → a < 0x7C000000 → Region a

below_or_from : (b a : ℕ) → (a < b) ⊎ (b ≤ a)
below_or_from b a = grind arith

reserved_low : (a : ℕ) → 0x60000000 ≤ a → a < 0x75000000 → is_unreserved a ≡ false
reserved_low a from to = rw (le-ltb a 0x60000000 from, lt-leb 0x75000000 a to) refl

reserved_high : (a : ℕ) → 0x75800000 ≤ a → a < 0x76000000 → is_unreserved a ≡ false
reserved_high a from to = rw (le-ltb a 0x60000000 (omega (arith, from)), le-leb 0x75000000 a (omega (arith, from)), le-ltb a 0x75800000 from, lt-leb 0x76000000 a to) refl

region : (a : ℕ) → Region a
region a = elim (below_or_from 0x60000000 a) [
  | inl low ↦ outside (inl low)
  | inr from ↦ elim (below_or_from 0x75000000 a) [
    | inl code ↦ reserved from (omega (arith, code)) (reserved_low a from code)
    | inr past_code ↦ elim (below_or_from 0x75800000 a) [
      | inl cells ↦ of_cells past_code cells
      | inr past_cells ↦ elim (below_or_from 0x76000000 a) [
        | inl gap ↦ reserved from (omega (arith, gap)) (reserved_high a past_cells gap)
        | inr past_gap ↦ elim (below_or_from 0x79000000 a) [
          | inl variables ↦ of_variables past_gap variables
          | inr past_variables ↦ elim (below_or_from 0x7C000000 a) [ inl frames ↦ of_frames past_variables frames | inr past ↦ outside (inr past) ]
        ]
      ]
    ]
  ]
]

-- ---- the private area of the old memory
module _ (esp0 : ℕ) (m : Memory) where
  private_in : (a : ℕ) → 0x60000000 ≤ a → a < 0x7C000000 → with_private esp0 m a ≡ Some (own_place (private_byte esp0 a))
  unfolding with_private is_private
  private_in a from to = rw (le-leb 0x60000000 a from, lt-ltb a 0x7C000000 to) refl

  private_out : (a : ℕ) → (a < 0x60000000) ⊎ (0x7C000000 ≤ a) → with_private esp0 m a ≡ m a
  unfolding with_private is_private
  private_out a (inl low) = rw (lt-leb 0x60000000 a low) refl
  private_out a (inr high) = rw (le-leb 0x60000000 a (omega (arith, high)), le-ltb a 0x7C000000 high) refl

-- ---- the beginning
module _ (laws : MemoryLaws) (old : List Segment) (entry size : ℕ) (code words : List ℕ) (fits : FitsSourceRoom old entry) (room : HasNewRoom size code words) (homes : List Home) (are : AreCells homes) (esp0 : ℕ) where
  abbrev known : Memory
  known = memory_of (image_with old entry)

  abbrev left : Memory
  left = with_private esp0 known

  abbrev new : Memory
  new = memory_of (new_image old size code words)

  abbrev cell : ℕ
  cell = esp_cell homes

  outside_same : (a : ℕ) → (a < 0x60000000) ⊎ (0x7C000000 ≤ a) → left a ≡ new a
  outside_same a (inl low) = private_out esp0 known a (inl low) ∙ sym (data_same old entry size code words fits room a low)
  outside_same a (inr high) = private_out esp0 known a (inr high) ∙ (none_from old entry fits a (omega (arith, high)) ∙ sym (none_behind old entry size code words fits room a high))

  far : (a : ℕ) → (a < 0x60000000) ⊎ (0x7C000000 ≤ a) → (a < 0x75000000) ⊎ (0x75800000 ≤ a)
  far a (inl low) = inl (omega (arith, low))
  far a (inr high) = inr (omega (arith, high))

  zero_same : (a : ℕ) → 0x75000000 ≤ a → a < 0x7C000000 → new a ≡ Some (own_place (Known 0)) → with_cells esp0 homes left a ≡ with_esp cell esp0 new a
  zero_same a from to right = same_cells homes are laws esp0 cell (esp_cell_is homes) left new a (private_in esp0 known a (omega (arith, from)) to) right from

  same : (a : ℕ) → is_unreserved a ≡ true → with_cells esp0 homes left a ≡ with_esp cell esp0 new a
  same a free = elim (region a) [
    | outside out ↦ same_outside homes are laws esp0 cell (esp_cell_is homes) left new a (far a out) (outside_same a out)
    | reserved from to none ↦ let both : true ≡ false = sym free ∙ none in absurd (cc both)
    | of_cells from to ↦ zero_same a from (omega (arith, to)) (cells_zero old entry size code words fits room a from to)
    | of_variables from to ↦ zero_same a (omega (arith, from)) (omega (arith, to)) (variables_zero old entry size code words fits room a from to)
    | of_frames from to ↦ zero_same a (omega (arith, from)) to (frames_zero old entry size code words fits room a from to)
  ]

  free_unreserved : (a : ℕ) → (a < 0x60000000) ⊎ (0x76000000 ≤ a) → is_unreserved a ≡ true
  free_unreserved a (inl low) = rw (lt-ltb a 0x60000000 low, lt-ltb a 0x75800000 (omega (arith, low))) refl
  free_unreserved a (inr high) = rw (le-ltb a 0x60000000 (omega (arith, high)), le-leb 0x75000000 a (omega (arith, high)), le-ltb a 0x75800000 (omega (arith, high)), le-leb 0x76000000 a high) refl

  free : (a : ℕ) → is_unreserved a ≡ false → kind_of (left a) ≡ Some (true, false)
  free a none = by (below_or_from 0x60000000 a) (below_or_from 0x7C000000 a)
    where
      no : (a < 0x60000000) ⊎ (0x76000000 ≤ a) → kind_of (left a) ≡ Some (true, false)
      no out = let both : true ≡ false = sym (free_unreserved a out) ∙ none in absurd (cc both)

      by : (a < 0x60000000) ⊎ (0x60000000 ≤ a) → (a < 0x7C000000) ⊎ (0x7C000000 ≤ a) → kind_of (left a) ≡ Some (true, false)
      by (inl low) h = no (inl low)
      by (inr from) (inl to) = ap kind_of (private_in esp0 known a from to)
      by (inr from) (inr past) = no (inr (omega (arith, past)))

  pub begins : HoldsBytes old → All IsSmall code → CanBegin homes cell esp0 left new
  begins h k =
      let bytes : HasBytes new = segments_have_bytes laws (new_segments old size code words) code_start (new_small old size code words h k) in
      record {
        from = cell_from homes are laws esp0 cell (esp_cell_is homes) left new;
        to = cell_to homes are laws esp0 cell (esp_cell_is homes) left new;
        free = free;
        beside = λ a e.
            subst (λ o. PlaceLessSpecified o (with_esp cell esp0 new a)) (sym (same a e))
            (place_itself (with_esp cell esp0 new a) (λ p is. (with_esp_bytes laws cell esp0 new bytes).bytes a p is));
        cells = λ a from to. ap kind_of (cells_zero old entry size code words fits room a from to);
        off_stack = off_stack old entry size code words fits room;
        bytes = bytes;
      }
