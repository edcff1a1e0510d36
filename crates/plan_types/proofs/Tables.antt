-- What the table of a run is.
use Rattle.std.proofs.Common.{◌≡◌, ℕ, zero, suc, ◌+◌, ◌*◌, ◌<◌, ◌≤◌, Bool, true, false, min, List, [], ◌∷◌, length, get_or, reverse, take, Contains, Option, Some, None, refl, ap, ◌∙◌, subst, arith}
use Rattle.std.proofs.lemmas.List.{reverse-append}
use Rattle.image.specs.declared.image.Image.{Image}
use Rattle.image.specs.Addresses.{can_run}
use Rattle.x86_types.specs.declared.operand.Reg.{Reg}
use Rattle.x86_types.specs.declared.instr.Instr.{Instr}
use Rattle.x86_types.specs.declared.instr.Instr.TheVariants.{JmpTo}
use Rattle.plan_types.specs.declared.place.Place.{Place}
use Rattle.plan_types.specs.declared.table.Table.{Table}
use Rattle.plan_types.specs.Straight.{ends_run}
use Rattle.plan_types.specs.Tables.{constant_word, if_passed, words_by, table_words, bound_behind, targets_by, table_jump, table_of, table_at_head, table_in}
use Rattle.plan_types.proofs.Members.{head_in, reverse_in}
use Rattle.plan_types.proofs.Runs.{IsLast}

-- each of the words stands in its place
abbrev AreWords : Image → ℕ → List ℕ → Type 0
AreWords image at words = (k : ℕ) → k < length words → constant_word image (at + 4 * k) ≡ Some (get_or words k 0)

abbrev pub Few : Image → ℕ → ℕ → List ℕ → Type 0
Few image n at words = (length words ≤ n) × AreWords image at words

none_few : (image : Image) (n at : ℕ) → Few image n at []
none_few image n at = (omega arith, λ k low. absurd (omega arith))

one_more : (image : Image) (n at word : ℕ) (words : List ℕ) → constant_word image at ≡ Some word → Few image n (at + 4) words → Few image (suc n) at (word ∷ words)
one_more image n at word words e more = (omega (arith, more.0), there)
  where
    there : AreWords image at (word ∷ words)
    there zero low = subst (λ a. constant_word image a ≡ Some word) (let h : at ≡ at + 4 * 0 = omega arith in h) e
    there (suc k) low = subst (λ a. constant_word image a ≡ Some (get_or words k 0)) (let h : (at + 4) + 4 * k ≡ at + 4 * suc k = omega arith in h) (more.1 k (omega arith))

passed_few : (image : Image) (n at word : ℕ) (passed : Bool) (rest : ℕ → List ℕ) → constant_word image at ≡ Some word → Few image n (at + 4) (rest (at + 4)) → Few image (suc n) at (if_passed passed word rest (at + 4))
passed_few image n at word true rest e more = one_more image n at word (rest (at + 4)) e more
passed_few image n at word false rest e more = none_few image (suc n) at

words_few : (image : Image) (test : ℕ → Bool) (n at : ℕ) (o : Option ℕ) (rest : ℕ → List ℕ) → constant_word image at ≡ o → Few image n (at + 4) (rest (at + 4)) → Few image (suc n) at (words_by test o rest (at + 4))
words_few image test n at None rest e more = none_few image (suc n) at
words_few image test n at (Some word) rest e more = passed_few image n at word (test word) rest e more

-- words of a table are at most so many, and constant
pub few_words : (image : Image) (test : ℕ → Bool) (n at : ℕ) → Few image n at (table_words image test n at)
unfolding table_words
few_words image test zero at = none_few image 0 at
few_words image test (suc n) at = words_few image test n at (constant_word image at) (λ next. table_words image test n next) refl (few_words image test n (at + 4))

targets_few : (image : Image) (start : ℕ) (bound : Option ℕ) → Few image 1024 start (targets_by image start bound)
targets_few image start None = few_words image (can_run image) 1024 start
targets_few image start (Some bound) = let few = few_words image (λ word. true) (min (bound + 1) 1024) start in (omega (arith, few.0), few.1)

-- a table is that of the place at the head
pub record IsAtHead (image : Image) (places : List Place) (t : Table) : Type 0 where
  pub place : Place
  pub there : Contains places place
  pub at : place.at ≡ t.jump
  pub index : Reg
  pub jump : table_jump place.instr ≡ Some (index, t.start)
  pub few : Few image 1024 t.start t.targets

-- the bound of a table, by what stands before its jump
abbrev bound_before : List Place → Reg × ℕ → Option ℕ
bound_before before j = bound_behind j.0 false (take 8 before)

head_by : (image : Image) (p : Place) (before : List Place) (t : Table) (o : Option (Reg × ℕ)) → table_jump p.instr ≡ o → table_of image p.at before o ≡ Some t → IsAtHead image (p ∷ before) t
head_by image p before t None is e = cc
head_by image p before t (Some j) is e =
    let made : Table = record { jump = p.at; start = j.1; targets = targets_by image j.1 (bound_before before j) } in
    let same : made ≡ t = cc in
    subst (λ u. IsAtHead image (p ∷ before) u) same (record { place = p; there = head_in p before; at = refl; index = j.0; jump = is; few = targets_few image j.1 (bound_before before j) })

pub at_head : (image : Image) (places : List Place) (t : Table) → table_at_head image places ≡ Some t → IsAtHead image places t
at_head image [] t e = cc
at_head image (p ∷ before) t e = head_by image p before t (table_jump p.instr) refl e

-- the table of a run is that of a place in it
pub in_run : (image : Image) (run : List Place) (t : Table) → table_in image run ≡ Some t → IsAtHead image run t
unfolding table_in
in_run image run t e = let h = at_head image (reverse run) t e in record { place = h.place; there = reverse_in run h.place h.there; at = h.at; index = h.index; jump = h.jump; few = h.few }

-- a table jump is a jump
jumps_by : (i : Instr) (j : Reg × ℕ) → table_jump i ≡ Some j → ends_run i ≡ true
jumps_by (JmpTo to) j e = refl
jumps_by _ j e = cc

pub jump_ends : (i : Instr) (j : Reg × ℕ) → table_jump i ≡ Some j → ends_run i ≡ true
jump_ends i j e = jumps_by i j e

-- a run has a table
pub record HasOne (image : Image) (run : List Place) (p : Place) : Type 0 where
  pub table : Table
  pub is : table_in image run ≡ Some table
  pub jump : table.jump ≡ p.at

-- a run that ends in a table jump has one
pub has_one : (image : Image) (run : List Place) (p : Place) (j : Reg × ℕ) → IsLast run p → table_jump p.instr ≡ Some j → HasOne image run p
unfolding table_in
has_one image run p j l e =
    let turned : reverse run ≡ p ∷ reverse l.before = ap reverse l.is ∙ reverse-append l.before (p ∷ []) in
    record {
      table = record { jump = p.at; start = j.1; targets = targets_by image j.1 (bound_before (reverse l.before) j) };
      is = ap (λ places. table_at_head image places) turned ∙ ap (λ o. table_of image p.at (reverse l.before) o) e;
      jump = refl;
    }
