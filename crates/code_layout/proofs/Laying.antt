-- What is laid out runs as the placed code.
use Rattle.std.proofs.Common.{◌≡◌, ◌≢◌, ℕ, zero, suc, ◌+◌, ◌-◌, ◌*◌, ◌/◌, ◌%◌, ◌<◌, ◌≤◌, List, [], ◌∷◌, ◌++◌, length, All, refl, sym, ap, ◌∙◌, subst, arith, length-append}
use Rattle.image.specs.declared.image.Segment.{Segment}
use Rattle.image.specs.declared.image.Image.{Image}
use Rattle.image.specs.Wanted.{image_with, span_of_code}
use Rattle.image.specs.Rooms.{room_span}
use Rattle.image.specs.declared.room.Room.TheVariants.{Source}
use Rattle.x86_types.specs.declared.instr.Instr.TheVariants as instr
use Rattle.x86_code.specs.Code.{Code, code_of}
use Rattle.named_code.specs.declared.placed.Placed.{Placed}
use Rattle.named_code.specs.Items.{CodeBlock, placed_blocks}
use Rattle.laid_code.specs.Laid.{Places, IsLaid, FormIsLayable, place_of_old}
use Rattle.laid_code.specs.Beginning.{Begins}
use Rattle.code_text.specs.KeptPlaces.{code_start, table_start, ArePlacesOf, AreTableWords, FormIsSpelled}
use Rattle.code_text.specs.Placing.{HasBytesFrom, AreInSpan, AreSpelled, TextIsLaid, blocks_most}
use Rattle.code_text.specs.Texts.{beginning_text, blocks_text, code_text, jump_text, stop, stores_text}
use Rattle.laid_image.specs.NewImage.{whole_pages, in_pages, new_segments, new_image, FitsSourceRoom, HasNewRoom, HasPagesOf}
use Rattle.laid_image.specs.ImageLaws.{ImageLaws, HoldsBytes, AreCells, esp_cell}
use Rattle.code_layout.specs.declared.layout.Layout.{Layout}
use Rattle.code_layout.specs.Layouts.{span_start, CanBeLaid, LaidParts, code_size, laid_segments, held_memory, BeginsOver, IsLaidOut, IsLayoutOf}
use Rattle.code_layout.proofs.Spans.{span_fits, span_is_some}
use Rattle.code_layout.proofs.Pages.{pages_hold, length_in_pages, zeros_behind, bytes_then_zeros}

pub record Given : Type 0 where
  pub spelled : FormIsSpelled
  pub layable : FormIsLayable
  pub laid : TextIsLaid
  pub image : ImageLaws

-- ---- the new segments have room
-- the text has at least a stop
some_beginning : (l : Places) (q cell entry : ℕ) → 2 ≤ length (beginning_text l q cell entry)
some_beginning l q cell entry =
    let jump = jump_text instr.Jmp 5 (place_of_old l entry) (q + length (stores_text cell)) in
    let whole = length-append (stores_text cell) (jump ++ stop) in
    let behind = length-append jump stop in
    omega (arith, whole, behind)

pub some_text : (l : Places) (q cell entry : ℕ) (blocks : List CodeBlock) → 2 ≤ length (code_text l q cell entry blocks)
some_text l q cell entry blocks =
    let begins = some_beginning l q cell entry in
    let whole = length-append (beginning_text l q cell entry) (blocks_text l (q + length (beginning_text l q cell entry)) blocks) in
    omega (arith, whole, begins)

module _ (placed : Placed) (image : Image) (can : CanBeLaid placed image) where
  abbrev blocks : List CodeBlock
  blocks = placed_blocks placed

  abbrev old : List Segment
  old = image.segments

  pub spans_fit : span_start old + span_of_code old < 4294967296
  spans_fit = span_fits old image.entry can.source

  pub new_room : (code words : List ℕ) → 2 ≤ length code → length code ≤ blocks_most blocks + 40 → length words ≡ span_of_code old → HasNewRoom (whole_pages (length code)) (in_pages code) words
  new_room code words some few all =
      let most = can.few in
      let long = length_in_pages code in
      let span = can.source.span in
      let one = span_is_some old image.entry can.source in
      record {
        pages = omega arith;
        some = omega (arith, some);
        few = omega (arith, few, most);
        code_pages = omega (arith, long);
        within = omega (arith, long);
        some_words = omega (arith, all, one);
        few_words = omega (arith, all, span);
      }

-- ---- the layout
module _ (given : Given) (placed : Placed) (image : Image) (can : CanBeLaid placed image) (l : Places) (code words : List ℕ) where
  abbrev cell : ℕ
  cell = esp_cell placed.homes

  abbrev parts : LaidParts
  parts = record { places = l; code = code; words = words }

  abbrev new_code : Code
  new_code = code_of (new_image (old placed image can) (whole_pages (length code)) (in_pages code) words)

  module _ (low : cell < 4294967296) (is : code ≡ code_text l code_start cell image.entry (blocks placed image can)) (few : length code ≤ blocks_most (blocks placed image can) + 40)
      (placed_there : ArePlacesOf (blocks placed image can) cell (span_start image.segments) (span_of_code image.segments) l) (table : AreTableWords l words) where
    spelled : AreSpelled (blocks placed image can)
    spelled = given.spelled placed can.form

    room : HasNewRoom (whole_pages (length code)) (in_pages code) words
    room = new_room placed image can code words (subst (λ (c : List ℕ). 2 ≤ length c) (sym is) (some_text l code_start cell image.entry (blocks placed image can))) few (table.all ∙ placed_there.count)

    stands : HasBytesFrom new_code code_start (code ++ zeros_behind code)
    stands = subst (HasBytesFrom new_code code_start) (bytes_then_zeros code) (given.image.code image.segments image.entry code words can.source room)

    both : IsLaid l new_code (blocks placed image can) × Begins l new_code code_start cell image.entry
    both =
        let most = can.few in
        let span = can.source.span in
        let first = spans_fit placed image can in
        let from = placed_there.span in
        let count = placed_there.count in
        let at = placed_there.table in
        let long : length (code_text l code_start cell image.entry (blocks placed image can)) ≡ length code = ap length (sym is) in
        given.laid l new_code code_start cell image.entry (blocks placed image can) (zeros_behind code)
        (subst (λ (c : List ℕ). HasBytesFrom new_code code_start (c ++ zeros_behind code)) is stands)
        placed_there.places spelled
        (subst (λ (n : ℕ). AreInSpan n l.count (blocks placed image can)) (sym from) (subst (λ (n : ℕ). AreInSpan (span_start image.segments) n (blocks placed image can)) (sym count) can.in_span))
        (omega (arith, long, few, most)) (omega (arith, first, from, count)) (omega (arith, at, count, span)) low
        (given.image.none image.segments image.entry (whole_pages (length code)) (in_pages code) words can.source room)

    begins_over : (others : List Segment) (held : List ℕ) → HasPagesOf image.segments others → HoldsBytes others → length held % 4096 ≡ 0 → length held ≤ whole_pages (length code) → All (λ b. b < 256) held → BeginsOver placed image.entry parts others held
    begins_over others held pages bytes whole within small =
        let fits = given.image.other_bytes image.segments others image.entry can.source pages in
        let held_room : HasNewRoom (whole_pages (length code)) held words = record { pages = room.pages; some = room.some; few = room.few; code_pages = whole; within = within; some_words = room.some_words; few_words = room.few_words } in
        record {
          table = given.image.table others image.entry (whole_pages (length code)) held words l fits held_room placed_there.table table both.0.addresses_fit;
          can_begin = λ esp0. given.image.begins others image.entry (whole_pages (length code)) held words placed.homes esp0 fits held_room bytes small can.cells;
        }

    pub laid_out : IsLaidOut placed image parts new_code
    laid_out = record {
      layable = given.layable placed can.form can.once;
      laid = both.0;
      begins = both.1;
      text = is;
      places = placed_there.places;
      span = placed_there.span;
      count = placed_there.count;
      words = table;
      over = begins_over;
    }

    pub is_layout : (layout : Layout) → layout.segments ≡ laid_segments image.segments parts → layout.entry ≡ code_start → IsLayoutOf placed image layout
    is_layout layout same start = record {
      parts = parts;
      is = same;
      entry = start;
      can_be_written = rw (same, start) (given.image.can_be_written image.segments image.entry (whole_pages (length code)) (in_pages code) words can.source room);
      laid = rw (same, start) laid_out;
    }
