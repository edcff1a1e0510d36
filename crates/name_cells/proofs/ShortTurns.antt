-- Turns that are short stay short: an instruction has at most nine items.
use Rattle.std.proofs.Common.{◌≡◌, ℕ, ◌+◌, ◌*◌, ◌≤◌, ◌==◌, max, Bool, true, false, cond, List, [], ◌∷◌, map, length, refl, arith}
use Rattle.std.proofs.lemmas.List.{length-map}
use Rattle.std.proofs.lemmas.List.Elements.{All-weaker}
use Rattle.named_code.specs.declared.named.VInstr.{VInstr}
use Rattle.named_code.specs.declared.named.VBlock.{VBlock}
use Rattle.named_code.specs.Items.{Item, CodeBlock, named_blocks, placed_item, placed_blocks}
use Rattle.named_code.specs.Running.{Marks}
use Rattle.named_code.specs.Weight.{Course, Next, ToBlock, Either, ToOld, Again, course_of, left_at, most_behind, most, items_cost, IsBounded, BoundsCode}
use Rattle.name_cells.specs.Cells.{homes_of, name_count}
use Rattle.name_cells.specs.CanBePlaced.{IsInstrPlaceable, CanBePlaced}
use Rattle.name_cells.specs.Placing.{place_instr, cells_of}
use Rattle.name_cells.proofs.FewItems.{few_items}
use Rattle.name_cells.proofs.Costing.{costs}

-- ---- nine times the cost
abbrev one : Item → ℕ
one x = 1

abbrev nine : Item → ℕ
nine x = 9

module _ (marks : Marks) (rest : ℕ → ℕ) where
  abbrev more : ℕ → ℕ
  more n = 9 * rest n

  left_more : (n : ℕ) → left_at marks more n ≡ 9 * left_at marks rest n
  left_more n = by (marks n == 0)
    where
      by : (z : Bool) → cond z (9 * rest n) 0 ≡ 9 * cond z (rest n) 0
      by true = refl
      by false = omega arith

  greater_more : (a b c d : ℕ) → a ≡ 9 * b → c ≡ 9 * d → max a c ≡ 9 * max b d
  greater_more a b c d e f = grind (arith, e, f)

  behind_more : (k : Course) (n m : ℕ) → n ≡ 9 * m → most_behind k (left_at marks more) n ≡ 9 * most_behind k (left_at marks rest) m
  behind_more Next n m e = e
  behind_more (ToBlock number) n m e = left_more number
  behind_more (Either number) n m e = greater_more (left_at marks more number) (left_at marks rest number) n m (left_more number) e
  behind_more ToOld n m e = omega arith
  behind_more Again n m e = e

  most_more : (xs : List Item) → most nine (left_at marks more) xs ≡ 9 * most one (left_at marks rest) xs
  most_more [] = omega arith
  most_more (x ∷ xs) = let behind = behind_more (course_of x.instr) (most nine (left_at marks more) xs) (most one (left_at marks rest) xs) (most_more xs) in omega (arith, behind)

  block_more : (w : ℕ) (b : CodeBlock) → IsBounded marks one rest w b → IsBounded marks nine more (9 * w) b
  block_more w b h = record {
    within = by (marks b.number == 0) h.within;
    entered = h.entered;
    once = h.once;
  }
    where
      whole : most nine (left_at marks more) b.items ≡ 9 * most one (left_at marks rest) b.items
      whole = most_more b.items

      by : (z : Bool) → most one (left_at marks rest) b.items ≤ cond z (rest b.number) w → most nine (left_at marks more) b.items ≤ cond z (9 * rest b.number) (9 * w)
      by true l = omega (arith, whole, l)
      by false l = omega (arith, whole, l)

-- ---- the placed code
cost_is : (xs : List Item) → items_cost one xs ≡ length xs
cost_is [] = refl
cost_is (x ∷ xs) = let e = cost_is xs in omega (arith, e)

pub short_turns : (code : List VBlock) → CanBePlaced code → (marks : Marks) (rest : ℕ → ℕ) (w : ℕ) → BoundsCode marks (λ x. 1) rest w (named_blocks code) → BoundsCode marks (λ x. 1) (λ n. 9 * rest n) (9 * w) (placed_blocks (cells_of code))
short_turns code can marks rest w h =
    costs code can marks one nine (λ n. 9 * rest n) (9 * w) few (All-weaker (IsBounded marks one rest w) (IsBounded marks nine (λ n. 9 * rest n) (9 * w)) (block_more marks rest w) (named_blocks code) h)
  where
    few : (x : VInstr) → IsInstrPlaceable x → items_cost one (map (placed_item (homes_of (name_count code + 1))) (place_instr (name_count code) x)) ≤ 9
    few x p =
        let cost = cost_is (map (placed_item (homes_of (name_count code + 1))) (place_instr (name_count code) x)) in
        let long = length-map (place_instr (name_count code) x) (placed_item (homes_of (name_count code + 1))) in
        let most_of = few_items (name_count code) x p in
        omega (arith, cost, long, most_of)
