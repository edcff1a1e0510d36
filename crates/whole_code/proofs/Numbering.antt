-- What the numbers lead to that addresses get.
use Rattle.std.proofs.Common.{◌≡◌, ℕ, ◌+◌, ◌⊎◌, List, [], ◌∷◌, ◌++◌, length, slice_get, Some, refl, sym, subst, inl, inr, arith}
use Rattle.flag_ir.specs.declared.block.Block.{Block}
use Rattle.plan_types.specs.declared.place.Place.{Place}
use Rattle.lift_core.specs.Whole.{OnlyJumps}
use Rattle.whole_code.specs.Building.{jump_to, GetsNumber, Leads, IsJump, AreTargets}
use Rattle.whole_code.proofs.Parts.{get_left, get_last, get_cases, get_only, IsRight}

-- each block only jumps, and they are numbered from `first` on
abbrev AreJumps : ℕ → List Block → Type 0
AreJumps first jumps = (k : ℕ) (d : Block) → slice_get jumps k ≡ Some d → IsJump (first + k) d

only_jumps : (number a : ℕ) → OnlyJumps a (jump_to number a)
only_jumps number a = record { at = refl; ops = refl; exit = refl }

pub leads_more : (code : List Place) (first : ℕ) (blocks more : List Block) (number a : ℕ) → Leads code first blocks number a → Leads code first (blocks ++ more) number a
leads_more code first blocks more number a (inl h) = inl h
leads_more code first blocks more number a (inr j) = inr (record { index = j.index; block = j.block; number_is = j.number_is; there = get_left blocks more j.index j.block j.there; jumps = j.jumps })

leads : (code : List Place) (first : ℕ) (old new : List Block) (a number : ℕ) → GetsNumber code first old new a number → Leads code first new number a
leads code first old new a number (inl p) = inl p.place
leads code first old new a number (inr q) =
    inr (record {
      index = length old;
      block = jump_to number a;
      number_is = q.last;
      there = subst (λ (l : List Block). slice_get l (length old) ≡ Some (jump_to number a)) (sym q.added) (get_last old (jump_to number a));
      jumps = only_jumps number a;
    })

keeps : (code : List Place) (first : ℕ) (old new : List Block) (b other : ℕ) → GetsNumber code first old new b other → (a number : ℕ) → Leads code first old number a → Leads code first new number a
keeps code first old new b other (inl p) a number h = subst (λ (l : List Block). Leads code first l number a) (sym p.same) h
keeps code first old new b other (inr q) a number h = subst (λ (l : List Block). Leads code first l number a) (sym q.added) (leads_more code first old (jump_to other b ∷ []) number a h)

jumps_more : (first : ℕ) (old : List Block) (a number : ℕ) → number ≡ first + length old → AreJumps first old → AreJumps first (old ++ jump_to number a ∷ [])
jumps_more first old a number last each k d e = by_case (get_cases old (jump_to number a ∷ []) k d e)
  where
    by_case : (slice_get old k ≡ Some d) ⊎ IsRight old (jump_to number a ∷ []) k d → IsJump (first + k) d
    by_case (inl f) = each k d f
    by_case (inr r) =
        let only = get_only (jump_to number a) r.index d r.there in
        subst (λ (x : Block). IsJump (first + k) x) only.1 (record { number_is = omega (arith, r.place, only.0); to = a; jumps = only_jumps number a })

are_jumps : (code : List Place) (first : ℕ) (old new : List Block) (a number : ℕ) → GetsNumber code first old new a number → AreJumps first old → AreJumps first new
are_jumps code first old new a number (inl p) each = subst (λ (l : List Block). AreJumps first l) (sym p.same) each
are_jumps code first old new a number (inr q) each = subst (λ (l : List Block). AreJumps first l) (sym q.added) (jumps_more first old a number q.last each)

-- two addresses get their numbers, one after the other
pub are_targets : (code : List Place) (first a b first_number second_number : ℕ) (none some all : List Block) → none ≡ [] → GetsNumber code first none some a first_number → GetsNumber code first some all b second_number → AreTargets code first a b first_number second_number all
are_targets code first a b first_number second_number none some all empty one two = record {
  first_leads = keeps code first some all b second_number two a first_number (leads code first none some a first_number one);
  second_leads = leads code first some all b second_number two;
  each = are_jumps code first some all b second_number two (are_jumps code first none some a first_number one (subst (λ (l : List Block). AreJumps first l) (sym empty) (λ k d e. absurd cc)));
}
