-- The index of a list of blocks, one more at a time.
use Rattle.std.proofs.Common.{◌≡◌, ℕ, ◌+◌, ◌<◌, ◌≤◌, ◌==◌, eqb, ltb, Bool, true, false, cond, List, [], ◌∷◌, ◌++◌, length, take, get_or, length-append, position, Option, Some, None, not, refl, sym, ap, ◌∙◌, subst, arith}
use Rattle.std.specs.List.{position_or_len}
use Rattle.std.specs.Ordering.{nat_cmp}
use Rattle.std.specs.BTreeMap.{IsEmpty, is_at}
use Rattle.std.specs.Map.{lookup}
use Rattle.std.proofs.lemmas.Bool.Decides.{nat_tests}
use Rattle.std.proofs.lemmas.List.{take_more, take_all, length-take-le}
use Rattle.std.proofs.lemmas.List.Sums.{prefix_len-le-length}
use Rattle.std.proofs.lemmas.List.Folds.{position_or_len_push}
use Rattle.flag_ir.specs.declared.block.Block.{Block}
use Rattle.flag_ir.specs.Entering.{index_at}
use Rattle.unit_machine.specs.declared.index.BlockIndex.{BlockIndex}
use Rattle.unit_machine.specs.Indexing.{place_in, IsIndexOf, placed, first_place}

-- ---- a block behind others
shape : (n l : ℕ) (y : Bool) → n ≤ l → cond (ltb (cond (eqb n l) (l + cond y 0 1) n) (l + 1)) (Some (cond (eqb n l) (l + cond y 0 1) n)) None ≡ first_place (cond (ltb n l) (Some n) None) (cond y (Some l) None)
shape n l true few = grind (arith, nat_tests, few)
shape n l false few = grind (arith, nat_tests, few)

module _ (a : ℕ) (bs : List Block) (b : Block) where
  abbrev is_it : Block → Bool
  is_it x = x.at == a

  position_push : position is_it (bs ++ b ∷ []) ≡ first_place (position is_it bs) (cond (b.at == a) (Some (length bs)) None)
  position_push =
      let n = position_or_len is_it bs in
      let k = cond (eqb n (length bs)) (length bs + cond (is_it b) 0 1) n in
      ap (λ j. cond (ltb j (length (bs ++ b ∷ []))) (Some j) None) (position_or_len_push is_it bs b) ∙ ap (λ l. cond (ltb k l) (Some k) None) (length-append bs (b ∷ []))
      ∙ shape n (length bs) (is_it b) (prefix_len-le-length (λ x. not (is_it x)) bs)

  index_push : index_at a (bs ++ b ∷ []) ≡ first_place (index_at a bs) (placed a b.at (length bs))
  unfolding index_at
  index_push = at_zero (a == 0)
    where
      at_zero : (z : Bool) → cond z None (position is_it (bs ++ b ∷ [])) ≡ first_place (cond z None (position is_it bs)) (cond z None (cond (b.at == a) (Some (length bs)) None))
      at_zero true = refl
      at_zero false = position_push

-- the blocks up to one are in the index, and then that one
pub indexed_more : (blocks : List Block) (i : ℕ) (d : Block) (x y : BlockIndex) → i < length blocks → IsIndexOf (take i blocks) x → ((a : ℕ) → place_in y a ≡ first_place (place_in x a) (placed a (get_or blocks i d).at i)) → IsIndexOf (take (i + 1) blocks) y
indexed_more blocks i d x y few h more =
    let len : length (take i blocks) ≡ i = length-take-le i blocks (omega (arith, few)) in
    record {
      places = λ a. more a ∙ ap (λ o. first_place o (placed a (get_or blocks i d).at i)) (h.places a) ∙ ap (λ n. first_place (index_at a (take i blocks)) (placed a (get_or blocks i d).at n)) (sym len)
          ∙ sym (index_push a (take i blocks) (get_or blocks i d)) ∙ ap (index_at a) (sym (take_more blocks i d few));
    }

pub indexed_none : (x : BlockIndex) → IsEmpty x.places → IsIndexOf [] x
unfolding index_at
indexed_none x empty = record { places = λ a. ap (λ (es : List (ℕ × ℕ)). lookup (is_at (nat_cmp a)) es) empty ∙ none_at (a == 0) }
  where
    nothing : Option ℕ
    nothing = None

    none_at : (z : Bool) → nothing ≡ cond z nothing nothing
    none_at true = refl
    none_at false = refl

pub indexed_all : (blocks : List Block) (i : ℕ) (x : BlockIndex) → i ≡ length blocks → IsIndexOf (take i blocks) x → IsIndexOf blocks x
indexed_all blocks i x is h = subst (λ bs. IsIndexOf bs x) (take_all i blocks (omega (arith, is))) h
