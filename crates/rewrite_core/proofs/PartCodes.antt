-- The bytes of the parts, and what stands at a place of them.
use Rattle.std.proofs.Common.{◌≡◌, ℕ, ◌+◌, ◌≤◌, List, [], ◌∷◌, ◌++◌, length, take, drop, get_or, ◌<◌, All, refl, sym, ap, ◌∙◌, subst, arith, add_assoc, add-zero, zero-add, append_assoc, append-nil, length-append, length-drop}
use Rattle.std.proofs.lemmas.List.{length-take-le, take_at, drop_at, get_or_append_left, take_more}
use Rattle.std.proofs.Math.Seq.{get_or-append_seam}
use Rattle.std.proofs.lemmas.List.Elements.{All-head, All-tail, All-take}
use Rattle.std.proofs.lemmas.List.Sums.{sum_by-cons, sum_by_push, sum_by-take-le}
use Rattle.rewrite_core.specs.declared.placing.Part.{Part}
use Rattle.rewrite_core.specs.declared.placing.Part.TheVariants.{Kept, Leads, Stops}
use Rattle.rewrite_core.specs.Places.{Table}
use Rattle.rewrite_core.specs.Placing.{part_size, parts_size, part_code, parts_code, IsFine, Has}

size-cons : (x : Part) (xs : List Part) → parts_size (x ∷ xs) ≡ part_size x + parts_size xs
size-cons x xs = sum_by-cons part_size x xs

pub size_push : (xs : List Part) (x : Part) → parts_size (xs ++ x ∷ []) ≡ parts_size xs + part_size x
size_push xs x = sum_by_push part_size xs x

pub code-nil : (page : List ℕ) (table : Table) (q : ℕ) → parts_code page table q [] ≡ []
unfolding parts_code
code-nil page table q = refl

pub code-cons : (page : List ℕ) (table : Table) (q : ℕ) (part : Part) (parts : List Part)
    → parts_code page table q (part ∷ parts) ≡ part_code page table q part ++ parts_code page table (q + part_size part) parts
unfolding parts_code
code-cons page table q part parts = refl

pub code-append : (page : List ℕ) (table : Table) (q : ℕ) (xs ys : List Part)
    → parts_code page table q (xs ++ ys) ≡ parts_code page table q xs ++ parts_code page table (q + parts_size xs) ys
unfolding parts_code
code-append page table q [] ys = ap (λ (k : ℕ). parts_code page table k ys) (sym (add-zero q))
code-append page table q (x ∷ xs) ys =
    ap (λ (bs : List ℕ). part_code page table q x ++ bs) (code-append page table (q + part_size x) xs ys)
    ∙ ap (λ (k : ℕ). part_code page table q x ++ (parts_code page table (q + part_size x) xs ++ parts_code page table k ys)) (add_assoc q (part_size x) (parts_size xs) ∙ ap (λ (n : ℕ). q + n) (sym (size-cons x xs)))
    ∙ sym (append_assoc (part_code page table q x) (parts_code page table (q + part_size x) xs) (parts_code page table (q + parts_size (x ∷ xs)) ys))

pub code_push : (page : List ℕ) (table : Table) (parts : List Part) (part : Part)
    → parts_code page table 0 (parts ++ part ∷ []) ≡ parts_code page table 0 parts ++ part_code page table (parts_size parts) part
unfolding parts_code
code_push page table parts part =
    code-append page table 0 parts (part ∷ [])
    ∙ ap (λ (k : ℕ). parts_code page table 0 parts ++ (part_code page table k part ++ [])) (zero-add (parts_size parts))
    ∙ ap (λ (bs : List ℕ). parts_code page table 0 parts ++ bs) (append-nil (part_code page table (parts_size parts) part))

length-part : (page : List ℕ) (table : Table) (q : ℕ) (part : Part) → IsFine page part → length (part_code page table q part) ≡ part_size part
length-part page table q (Kept from len) h = length-take-le len (drop from page) (omega (arith, h.0, length-drop from page))
length-part page table q (Leads to) h = refl
length-part page table q Stops h = refl

pub length-code : (page : List ℕ) (table : Table) (q : ℕ) (parts : List Part) → All (IsFine page) parts → length (parts_code page table q parts) ≡ parts_size parts
unfolding parts_code
length-code page table q [] h = refl
length-code page table q (x ∷ xs) h =
    length-append (part_code page table q x) (parts_code page table (q + part_size x) xs)
    ∙ ap (λ (k : ℕ). k + length (parts_code page table (q + part_size x) xs)) (length-part page table q x (All-head (IsFine page) x xs h))
    ∙ ap (λ (k : ℕ). part_size x + k) (length-code page table (q + part_size x) xs (All-tail (IsFine page) x xs h))
    ∙ sym (size-cons x xs)

-- ---- a part that stands at a place
pub has_more : (parts : List Part) (q : ℕ) (part more : Part) → Has parts q part → Has (parts ++ more ∷ []) q part
has_more parts q part more h = record {
  before = h.before;
  after = h.after ++ more ∷ [];
  is = ap (λ (xs : List Part). xs ++ more ∷ []) h.is ∙ append_assoc h.before (part ∷ h.after) (more ∷ []);
  size = h.size;
}

pub has_last : (parts : List Part) (q : ℕ) (part : Part) → q ≡ parts_size parts → Has (parts ++ part ∷ []) q part
has_last parts q part e = record { before = parts; after = []; is = refl; size = e }

module _ (page : List ℕ) (table : Table) (parts : List Part) (fine : All (IsFine page) parts) (q : ℕ) (part : Part) (h : Has parts q part) where
  split_fine : All (IsFine page) (h.before ++ part ∷ h.after)
  split_fine = subst (All (IsFine page)) h.is fine

  before_fine : All (IsFine page) h.before
  before_fine = λ k d l.
      subst (IsFine page) (get_or_append_left h.before (part ∷ h.after) d k l) (split_fine k d (omega (arith, l, length-append h.before (part ∷ h.after))))

  part_fine : IsFine page part
  part_fine =
      let l : length h.before < length (h.before ++ part ∷ h.after) = omega (arith, length-append h.before (part ∷ h.after)) in
      subst (IsFine page) (get_or-append_seam h.before part h.after part) (split_fine (length h.before) part l)

  before_length : length (parts_code page table 0 h.before) ≡ q
  before_length = length-code page table 0 h.before before_fine ∙ sym h.size

  after_code : List ℕ
  after_code = parts_code page table (0 + parts_size h.before + part_size part) h.after

  split_code : parts_code page table 0 parts ≡ parts_code page table 0 h.before ++ (part_code page table q part ++ after_code)
  unfolding after_code
  split_code =
      ap (parts_code page table 0) h.is
      ∙ code-append page table 0 h.before (part ∷ h.after)
      ∙ ap (λ (bs : List ℕ). parts_code page table 0 h.before ++ bs) (code-cons page table (0 + parts_size h.before) part h.after)
      ∙ ap (λ (k : ℕ). parts_code page table 0 h.before ++ (part_code page table k part ++ after_code)) (zero-add (parts_size h.before) ∙ sym h.size)

  pub has_code : take (part_size part) (drop q (parts_code page table 0 parts)) ≡ part_code page table q part
  has_code =
      ap (λ (bs : List ℕ). take (part_size part) (drop q bs)) split_code
      ∙ ap (take (part_size part)) (drop_at (parts_code page table 0 h.before) (part_code page table q part ++ after_code) q before_length)
      ∙ take_at (part_code page table q part) after_code (part_size part) (length-part page table q part part_fine)

-- one more part is pushed
taken_length : (page : List ℕ) (table : Table) (parts : List Part) (code : List ℕ) (i : ℕ) → All (IsFine page) parts → code ≡ parts_code page table 0 (take i parts) → length code ≡ parts_size (take i parts)
taken_length page table parts code i fine e = ap length e ∙ length-code page table 0 (take i parts) (All-take (IsFine page) i parts fine)

pub taken_small : (page : List ℕ) (table : Table) (parts : List Part) (code : List ℕ) (i : ℕ) → All (IsFine page) parts → code ≡ parts_code page table 0 (take i parts) → length code ≤ parts_size parts
taken_small page table parts code i fine e = omega (arith, taken_length page table parts code i fine e, sum_by-take-le part_size parts i)

pub pushed_part : (page : List ℕ) (table : Table) (parts : List Part) (code code' : List ℕ) (i : ℕ) (d : Part) → All (IsFine page) parts → i < length parts → code ≡ parts_code page table 0 (take i parts)
    → code' ≡ code ++ part_code page table (length code) (get_or parts i d) → code' ≡ parts_code page table 0 (take (i + 1) parts)
pushed_part page table parts code code' i d fine h e f =
    let part : Part = get_or parts i d in
    f
    ∙ ap (λ (n : ℕ). code ++ part_code page table n part) (taken_length page table parts code i fine e)
    ∙ ap (λ (bs : List ℕ). bs ++ part_code page table (parts_size (take i parts)) part) e
    ∙ sym (code_push page table (take i parts) part)
    ∙ ap (parts_code page table 0) (sym (take_more parts i d h))
