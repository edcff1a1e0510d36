-- What a loop over the words of a call has still to put on the stack.
use Rattle.std.proofs.Common.{◌≡◌, ℕ, ◌+◌, ◌<◌, ◌≤◌, List, ◌∷◌, ◌++◌, length, drop, get_or, String, refl, ap, ◌∙◌, add-one, drop-cons, length-append, arith}
use Rattle.std.proofs.lemmas.List.{drop_all}
use Rattle.std.specs.String.{string_bytes}
use Rattle.std.specs.declared.alloc.Global.{Global}
use Rattle.sw_top.specs.Texts.{texts}
use Rattle.sw_top.specs.Stacks.{string_of, strings, pointers}

-- the words from the i-th on begin with it
head-drop : (words : List (String Global)) (i : ℕ) (w : String Global) → i < length words → w ≡ get_or words i w → drop i words ≡ w ∷ drop (i + 1) words
head-drop words i w lt e = rw (add-one, drop-cons words i w lt, ← e) refl

texts-drop : (words : List (String Global)) (i : ℕ) (w : String Global) → i < length words → w ≡ get_or words i w → texts (drop i words) ≡ string_bytes w ∷ texts (drop (i + 1) words)
texts-drop words i w lt e = ap texts (head-drop words i w lt e)

pub strings-drop : (words : List (String Global)) (i : ℕ) (w : String Global) → i < length words → w ≡ get_or words i w → strings (texts (drop i words)) ≡ string_of (string_bytes w) ++ strings (texts (drop (i + 1) words))
strings-drop words i w lt e = ap strings (texts-drop words i w lt e)

pub length-strings-drop : (words : List (String Global)) (i : ℕ) (w : String Global) → i < length words → w ≡ get_or words i w → length (strings (texts (drop i words))) ≡ length (string_bytes w) + 1 + length (strings (texts (drop (i + 1) words)))
length-strings-drop words i w lt e = ap length (strings-drop words i w lt e) ∙ simp length-append (omega arith)

pub pointers-drop : (at : ℕ) (words : List (String Global)) (i : ℕ) (w : String Global) → i < length words → w ≡ get_or words i w → pointers at (texts (drop i words)) ≡ at ∷ pointers (at + length (string_bytes w) + 1) (texts (drop (i + 1) words))
pointers-drop at words i w lt e = ap (pointers at) (texts-drop words i w lt e)

-- behind the last word there is none
pub no_strings_left : (words : List (String Global)) (i : ℕ) → length words ≤ i → length (strings (texts (drop i words))) ≡ 0
no_strings_left words i past = ap (λ ws. length (strings (texts ws))) (drop_all i words past)
