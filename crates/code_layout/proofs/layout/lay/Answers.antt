use Rattle.std.proofs.Common.{◌≡◌, ℕ, ◌+◌, ◌≤◌, ◌<◌, List, length, refl, sym, ap, ◌∙◌, subst, arith}
use Rattle.image.specs.declared.image.Image.{Image}
use Rattle.image.specs.Wanted.{span_of_code}
use Rattle.named_code.specs.Items.{placed_blocks}
use Rattle.code_text.specs.KeptPlaces.{code_start, places_in, ArePlacesOf}
use Rattle.code_text.specs.Texts.{code_text}
use Rattle.laid_image.specs.ImageLaws.{esp_cell}
use Rattle.code_layout.specs.Layouts.{span_start}
use Rattle.code_layout.proofs.Laying.{some_text, spans_fit, new_room, is_layout}
use Rattle.code_layout.proofs.layout.lay.Goals as goal

pub places_of-requires-clause-fits : goal.places_of-requires-clause-fits
places_of-requires-clause-fits c =
    let from = c.code_span-span.ensures.start in
    let many = c.code_span-span.ensures.count in
    let fits = spans_fit c.args.placed.now c.args.image.now c.requires in
    omega (arith, from, many, fits)

pub new_segments-requires : goal.new_segments-requires
new_segments-requires c =
    let placed = c.args.placed.now in
    let image = c.args.image.now in
    let l = places_in c.in_ok-places.places in
    let some = some_text l code_start c.esp_cell-cell.result c.image.inside.entry (placed_blocks placed) in
    record {
      room = new_room placed image c.requires c.in_ok-code.code.items c.words.result.now
          (subst (λ (code : List ℕ). 2 ≤ length code) (sym c.in_ok-code.ensures.text) some) c.in_ok-code.ensures.few
          (c.words.ensures.all ∙ (c.in_ok-places.ensures.count ∙ c.code_span-span.ensures.count));
    }

pub returns : goal.returns
returns c =
    let placed = c.args.placed.now in
    let image = c.args.image.now in
    let blocks = placed_blocks placed in
    let l = places_in c.in_ok-places.places in
    let cell = c.esp_cell-cell.ensures in
    let there : ArePlacesOf blocks c.esp_cell-cell.result c.code_span-span.result.start c.code_span-span.result.count l = c.in_ok-places.ensures in
    let of_cell : ArePlacesOf blocks (esp_cell placed.homes) c.code_span-span.result.start c.code_span-span.result.count l = subst (λ (k : ℕ). ArePlacesOf blocks k c.code_span-span.result.start c.code_span-span.result.count l) cell there in
    let of_span : ArePlacesOf blocks (esp_cell placed.homes) (span_start image.segments) (span_of_code image.segments) l = record {
      places = of_cell.places;
      span = of_cell.span ∙ c.code_span-span.ensures.start;
      count = of_cell.count ∙ c.code_span-span.ensures.count;
      table = of_cell.table;
    } in
    let text : c.in_ok-code.code.items ≡ code_text l code_start (esp_cell placed.homes) image.entry blocks =
    subst (λ (k : ℕ). c.in_ok-code.code.items ≡ code_text l code_start k image.entry blocks) cell
    (subst (λ (e : ℕ). c.in_ok-code.code.items ≡ code_text l code_start c.esp_cell-cell.result e blocks) (ap (λ (i : Image). i.entry) c.image.view_is) c.in_ok-code.ensures.text) in
    is_layout (record { spelled = c.form_laws.ensures; layable = c.form_laws-2.ensures; laid = c.layout_laws.ensures.laid; image = c.image_laws.ensures })
    placed image c.requires l c.in_ok-code.code.items c.words.result.now
    (subst (λ (k : ℕ). k < 4294967296) cell c.esp_cell-cell.type_inv) text c.in_ok-code.ensures.few of_span c.words.ensures
    (record { segments = c.in_ok-segments.segments; entry = code_start }) c.in_ok-segments.ensures refl
