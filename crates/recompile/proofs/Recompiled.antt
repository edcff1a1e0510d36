-- The new program does what the old one does.
use Rattle.std.proofs.Common.{◌≡◌, ◌≢◌, ℕ, ◌+◌, ◌*◌, ◌%◌, ◌<◌, ◌≤◌, ◌==◌, Bool, true, false, cond, List, [], ◌∷◌, map, length, All, Contains, get_or, refl, sym, ap, ◌∙◌, subst, arith, ◌++◌, length-append}
use Rattle.std.proofs.lemmas.List.Elements.{All-nil, All-cons, All-head, All-tail, All-map, All-contains, All-contains_itself}
use Rattle.image.specs.declared.image.Segment.{Segment}
use Rattle.image.specs.declared.image.Image.{Image}
use Rattle.image.specs.Wanted.{image_with, span_of_code}
use Rattle.memory.specs.Memory.{memory_of}
use Rattle.x86_types.specs.declared.instr.Instr.TheVariants as instr
use Rattle.x86_encode.specs.Laws.{BestLengths}
use Rattle.x86_code.specs.Code.{code_of}
use Rattle.x86_code.specs.CodeLaws.{CodeLaws}
use Rattle.plan_types.specs.declared.place.Place.{Place}
use Rattle.plan_types.specs.Contents.{FoundContents}
use Rattle.plan_types.specs.Ascending.{addresses_of}
use Rattle.plan_types.specs.Body.{HasPlace}
use Rattle.plan_types.specs.FoundCode.{IsFoundCode}
use Rattle.plan_types.specs.FoundLaws.{FoundLaws}
use Rattle.flag_ir.specs.declared.block.Block.{Block}
use Rattle.flag_ir.specs.Entering.{CodeUnit}
use Rattle.whole_code.specs.Above.{FoundStandsAbove}
use Rattle.whole_code.specs.Weight.{whole_weight}
use Rattle.guards.specs.Lowering.{names_of}
use Rattle.named_code.specs.declared.named.VBlock.{VBlock}
use Rattle.named_code.specs.declared.placed.Home.{Home}
use Rattle.named_code.specs.declared.placed.PBlock.{PBlock}
use Rattle.named_code.specs.declared.placed.Placed.{Placed}
use Rattle.named_code.specs.Items.{Item, CodeBlock, placed_block, placed_blocks}
use Rattle.named_code.specs.Running.{Marks}
use Rattle.named_code.specs.PlacedForm.{IsCell, IsPlacedInForm}
use Rattle.named_code.specs.Weight.{IsOnce, IsBounded, BoundsCode, left_at, most}
use Rattle.name_cells.specs.Cells.{name_count, homes_of}
use Rattle.name_cells.specs.Placing.{cells_of}
use Rattle.instr_choose.specs.Marks.{marks_of}
use Rattle.laid_code.specs.Laid.{place_of_old}
use Rattle.laid_code.specs.LaidRun.{laid_steps}
use Rattle.laid_code.specs.Beginning.{Begins}
use Rattle.code_agreement.specs.Layers.{Layers, AreLayers, AgreementLaw}
use Rattle.code_bounds.specs.Turns.{turn_steps}
use Rattle.code_text.specs.KeptPlaces.{code_start}
use Rattle.code_text.specs.Placing.{AreInSpan, TextLengths, addressed_from, beginning_size, blocks_most}
use Rattle.code_text.specs.Texts.{beginning_text, blocks_text, distance, jump_text, stop, stores_text}
use Rattle.laid_image.specs.NewImage.{FitsSourceRoom, HasPagesOf}
use Rattle.laid_image.specs.ImageLaws.{ImageLaws, HoldsBytes, AreCells, esp_cell}
use Rattle.code_layout.specs.declared.layout.Layout.{Layout}
use Rattle.code_layout.specs.Layouts.{span_start, CanBeLaid, LaidParts, code_size, held_memory, BeginsOver, IsLayoutOf}
use Rattle.recompile.specs.Recompiling.{IsPlacedCodeOf, AgreesOver, HasFoundPlaces, IsRecompiled}
use Rattle.recompile.proofs.Addresses.{HasAt, at_all, equal, same, unit_ats, has_index, ats, blocks_size, size_is, absent, none_at_zero, present, differ}
use Rattle.recompile.proofs.InSpan.{in_span}
use Rattle.recompile.proofs.NameCells.{are_cells}

pub record Given : Type 0 where
  pub agreement : AgreementLaw
  pub lengths : TextLengths
  pub jumps : BestLengths
  pub above : FoundStandsAbove
  pub image : ImageLaws
  pub found : FoundLaws
  pub code : CodeLaws

-- ---- a greater weight
wider_block : (marks : Marks) (cost : Item → ℕ) (rest : ℕ → ℕ) (w v : ℕ) (b : CodeBlock) → w ≤ v → IsBounded marks cost rest w b → IsBounded marks cost rest v b
wider_block marks cost rest w v b low h = record { within = by (marks b.number == 0) refl; entered = h.entered; once = h.once }
  where
    by : (c : Bool) → (marks b.number == 0) ≡ c → most cost (left_at marks rest) b.items ≤ cond (marks b.number == 0) (rest b.number) v
    by true e = rw e (rw e at h.within)
    by false e = let within : most cost (left_at marks rest) b.items ≤ w = rw e at h.within in rw e (omega (arith, within, low))

wider : (marks : Marks) (cost : Item → ℕ) (rest : ℕ → ℕ) (w v : ℕ) (blocks : List CodeBlock) → w ≤ v → BoundsCode marks cost rest w blocks → BoundsCode marks cost rest v blocks
wider marks cost rest w v blocks low h = λ k d l. wider_block marks cost rest w v (get_or blocks k d) low (h k d l)

-- ---- old addresses
abbrev pair_of : PBlock → ℕ × ℕ
pair_of b = (b.number, b.at)

module _ (span count : ℕ) where
  abbrev LiesThere : ℕ × ℕ → Type 0
  LiesThere p = (p.1 ≡ 0 → ⊥) → (span ≤ p.1) × (p.1 < span + count)

  abbrev BlockLiesThere : CodeBlock → Type 0
  BlockLiesThere b = (b.at ≡ 0 → ⊥) → (span ≤ b.at) × (b.at < span + count)

  blocks_lie : (homes : List Home) (bs : List PBlock) → All LiesThere (map pair_of bs) → All BlockLiesThere (map (placed_block homes) bs)
  blocks_lie homes [] h = All-nil BlockLiesThere
  blocks_lie homes (b ∷ bs) h =
      All-cons BlockLiesThere (placed_block homes b) (map (placed_block homes) bs) (All-head LiesThere (pair_of b) (map pair_of bs) h)
      (blocks_lie homes bs (All-tail LiesThere (pair_of b) (map pair_of bs) h))

placed_ats : (homes : List Home) (bs : List PBlock) → ats (map (placed_block homes) bs) ≡ map (λ (q : ℕ × ℕ). q.1) (map pair_of bs)
placed_ats homes [] = refl
placed_ats homes (b ∷ bs) = ap (λ (ns : List ℕ). b.at ∷ ns) (placed_ats homes bs)

names_ats : (bs : List Block) → map (λ (q : ℕ × ℕ). q.1) (map names_of bs) ≡ unit_ats bs
names_ats [] = refl
names_ats (b ∷ bs) = ap (λ (ns : List ℕ). b.at ∷ ns) (names_ats bs)

module _ (given : Given) (image : Image) (found : FoundContents) (is_found : IsFoundCode image found) where
  abbrev from : ℕ
  from = span_start image.segments

  abbrev many : ℕ
  many = span_of_code image.segments

  abbrev InSpan : ℕ → Type 0
  InSpan a = (from ≤ a) × (a < from + many)

  found_lies : All InSpan (addresses_of found.code)
  found_lies = All-map InSpan (λ (p : Place). p.at) found.code (λ k d l.
      let p : Place = get_or found.code k d in
      in_span given.code image p.at p.instr p.len (given.found.stands image found p is_found (All-contains_itself found.code k d l)))

  module _ (placed : Placed) (p : IsPlacedCodeOf image found placed) where
    unit_lies : All (LiesThere from many) (map names_of p.unit.whole)
    unit_lies = All-map (LiesThere from many) names_of p.unit.whole (λ k d l.
        let b : Block = get_or p.unit.whole k d in
        λ some. All-contains InSpan (addresses_of found.code) b.at found_lies (p.whole.places b (All-contains_itself p.unit.whole k d l) some))

    same_pairs : map pair_of placed.blocks ≡ map names_of p.unit.whole
    same_pairs = p.places_code.ats ∙ (p.chooses.ats ∙ p.lowers.ats)

    lies : AreInSpan from many (placed_blocks placed)
    lies = blocks_lie from many placed.homes placed.blocks (subst (All (LiesThere from many)) (sym same_pairs) unit_lies)

    form : IsPlacedInForm placed
    form = p.places_code.form p.chooses.form

    once : All (λ (b : CodeBlock). All IsOnce b.items) (placed_blocks placed)
    once = λ k d l. (p.turns.laid.1 k d l).once

    cells : AreCells placed.homes
    cells =
        let same : placed.homes ≡ homes_of (name_count p.code + 1) = ap (λ (q : Placed). q.homes) p.places in
        subst AreCells (sym same) (are_cells (name_count p.code + 1) (subst (All IsCell) same form.cells))

    pub can_be_laid : FitsSourceRoom image.segments image.entry → HoldsBytes image.segments → blocks_most (placed_blocks placed) ≤ 335000000 → CanBeLaid placed image
    can_be_laid source bytes few = record { source = source; bytes = bytes; form = form; once = once; cells = cells; in_span = lies; few = few }

    module _ (source : FitsSourceRoom image.segments image.entry) (layout : Layout) (l : IsLayoutOf placed image layout) where
      module _ (others : List Segment) (held : List ℕ) (pages : HasPagesOf image.segments others) (bytes : HoldsBytes others)
          (whole : length held % 4096 ≡ 0) (within : length held ≤ code_size l.parts) (small : All (λ b. b < 256) held) where
        abbrev layers : Layers
        layers = record {
          image = image;
          old_memory = memory_of (image_with others image.entry);
          found = found;
          unit = p.unit;
          lowered = p.lowered;
          code = p.code;
          placed = placed;
          places = l.parts.places;
          new = code_of (image_with layout.segments layout.entry);
          memory = held_memory others held l.parts;
          entry = layout.entry;
          cell = esp_cell placed.homes;
        }

        are_layers : AreLayers layers
        are_layers =
            let fits = given.image.other_bytes image.segments others image.entry source pages in
            let over : BeginsOver placed image.entry l.parts others held = l.laid.over others held pages bytes whole within small in
            record {
              program = given.image.program others image.entry fits;
              bytes = given.image.bytes others image.entry bytes;
              one_stack = p.one_stack;
              lowers = p.lowers;
              chooses = p.chooses;
              short = p.turns.short;
              places_code = p.places_code;
              layable = l.laid.layable;
              laid = l.laid.laid;
              table = over.table;
              begins = subst (λ (e : ℕ). Begins l.parts.places layers.new e (esp_cell placed.homes) image.entry) (sym l.entry) l.laid.begins;
              can_begin = over.can_begin;
              rest = p.turns.laid.0;
              bounded = wider (marks_of p.lowered) laid_steps p.turns.laid.0 (turn_steps whole_weight) 4096 (placed_blocks placed) (omega arith) p.turns.laid.1;
            }

        agrees : AgreesOver image found l.parts layout others held
        agrees = given.agreement layers are_layers

      -- ---- the address table
      abbrev blocks : List CodeBlock
      blocks = placed_blocks placed

      abbrev begin : ℕ
      begin = code_start + beginning_size (esp_cell placed.homes)

      abbrev place : ℕ → ℕ
      place a = addressed_from l.parts.places begin a blocks

      place_is : (a : ℕ) → l.parts.places.by_address a ≡ place a
      place_is a = l.laid.places.by_address a

      block_ats : ats blocks ≡ unit_ats p.unit.whole
      block_ats = placed_ats placed.homes placed.blocks ∙ (ap (λ (ps : List (ℕ × ℕ)). map (λ (q : ℕ × ℕ). q.1) ps) same_pairs ∙ names_ats p.unit.whole)

      found_has : (a : ℕ) → HasPlace found a → HasAt a (ats blocks)
      found_has a h = subst (HasAt a) (sym block_ats) (All-contains (λ (n : ℕ). HasAt n (unit_ats p.unit.whole)) (addresses_of found.code) a
          (All-map (λ (n : ℕ). HasAt n (unit_ats p.unit.whole)) (λ (q : Place). q.at) found.code (λ k d r.
          let q : Place = get_or found.code k d in
          let has = p.whole.blocks q (All-contains_itself found.code k d r) in
          has_index q.at p.unit.whole has.index has.block has.there)) h)

      has_found : (a : ℕ) → a ≢ 0 → HasAt a (ats blocks) → HasPlace found a
      has_found a some h = at_all (λ (n : ℕ). n ≢ 0 → HasPlace found n) a (unit_ats p.unit.whole)
          (All-map (λ (n : ℕ). n ≢ 0 → HasPlace found n) (λ (b : Block). b.at) p.unit.whole (λ k d r. p.whole.places (get_or p.unit.whole k d) (All-contains_itself p.unit.whole k d r)))
          (subst (HasAt a) block_ats h) some

      above_zero : (a : ℕ) → HasPlace found a → a ≢ 0
      above_zero a h = All-contains (λ (n : ℕ). n ≢ 0) (addresses_of found.code) a
          (All-map (λ (n : ℕ). n ≢ 0) (λ (q : Place). q.at) found.code (λ k d r. given.above image found source.wide is_found (get_or found.code k d) (All-contains_itself found.code k d r))) h

      code_long : length l.parts.code ≡ beginning_size (esp_cell placed.homes) + blocks_size l.parts.places blocks
      code_long =
          let cell = esp_cell placed.homes in
          let places = l.parts.places in
          let first = beginning_text places code_start cell image.entry in
          let jump = jump_text instr.Jmp 5 (place_of_old places image.entry) (code_start + length (stores_text cell)) in
          let text = ap length l.laid.text in
          let whole = length-append first (blocks_text places (code_start + length first) blocks) in
          let begins = length-append (stores_text cell) (jump ++ stop) in
          let jumps = length-append jump stop in
          let five : length jump ≡ 5 = given.jumps.jmp (distance (place_of_old places image.entry) (code_start + length (stores_text cell) + 5)) in
          let size = size_is places given.lengths (code_start + length first) blocks in
          omega (arith, text, whole, begins, jumps, five, size)

      zero_or_none : (a : ℕ) → (HasPlace found a → ⊥) → (b : Bool) → (a == 0) ≡ b → place a ≡ 0
      zero_or_none a none true t = let is : a ≡ 0 = equal a 0 t in subst (λ (n : ℕ). place n ≡ 0) (sym is) (none_at_zero l.parts.places begin blocks)
      zero_or_none a none false t = absent l.parts.places begin a blocks (λ h. none (has_found a (λ is. let no : true ≡ false = sym (same a 0 is) ∙ t in cc no) h))

      table : HasFoundPlaces image found l.parts
      table = record {
        span = l.laid.span;
        count = l.laid.count;
        words = l.laid.words;
        found_there = λ a h.
            let is = place_is a in
            let within = present l.parts.places begin a blocks (above_zero a h) (found_has a h) in
            let low = within.from in
            let high = within.to in
            let long = code_long in
            (omega (arith, is, low), omega (arith, is, high, long));
        none_there = λ a none. place_is a ∙ zero_or_none a none (a == 0) refl;
        differ = λ a c h k e. differ l.parts.places begin a c blocks (above_zero a h) (above_zero c k) (found_has a h) (found_has c k) (sym (place_is a) ∙ (e ∙ place_is c));
      }

      pub is_recompiled : IsRecompiled image layout
      is_recompiled = record { table = table; found = found; is_found = is_found; parts = l.parts; segments = l.is; entry = l.entry; can_be_written = l.can_be_written; agrees = agrees }
