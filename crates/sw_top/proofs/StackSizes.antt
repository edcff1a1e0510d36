-- How large the stack of words is, and where it lies.
use Rattle.std.proofs.Common.{◌≡◌, ℕ, ◌+◌, ◌-◌, ◌*◌, ◌%◌, ◌≤◌, List, [], ◌∷◌, ◌++◌, length, refl, ◌∙◌, arith, length-append}
use Rattle.std.proofs.lemmas.List.{length-replicate}
use Rattle.std.specs.List.{flat_map}
use Rattle.byte_lists.specs.LittleEndian.{word_bytes, zeros}
use Rattle.sw_top.specs.Stacks.{strings, pointers, vectors, vectors_size, used_size, filled_size, stack_size, first_esp, start_stack}
use Rattle.sw_top.specs.Laws.{StackIsStart}

-- four bytes a number
length-words : (ns : List ℕ) → length (flat_map word_bytes ns) ≡ 4 * length ns
length-words [] = refl
length-words (n ∷ ns) = length-append (word_bytes n) (flat_map word_bytes ns) ∙ (let e : length (flat_map word_bytes ns) ≡ 4 * length ns = length-words ns in omega arith)

length-pointers : (at : ℕ) (words : List (List ℕ)) → length (pointers at words) ≡ length words
length-pointers at [] = refl
length-pointers at (w ∷ words) = let e : length (pointers (at + length w + 1) words) ≡ length words = length-pointers (at + length w + 1) words in omega arith

length-vectors : (at : ℕ) (words : List (List ℕ)) → length (flat_map word_bytes (vectors at words)) ≡ vectors_size words
length-vectors at words =
    length-words (vectors at words) ∙ (
    let e : length (pointers (at + vectors_size words) words) ≡ length words = length-pointers (at + vectors_size words) words in
    let f : length (pointers (at + vectors_size words) words ++ 0 ∷ 0 ∷ 0 ∷ 0 ∷ []) ≡ length (pointers (at + vectors_size words) words) + 4 = length-append _ _ in
    omega arith)

-- the fill takes no more than it has to
filled_bounds : (n : ℕ) → (n ≤ filled_size n) × (128 ≤ filled_size n) × (filled_size n % 16 ≡ 0)
filled_bounds n = (omega arith, omega arith, omega arith)

pub length-start_stack : (words : List (List ℕ)) → length (start_stack words) ≡ stack_size words
unfolding start_stack
length-start_stack words =
    let front = flat_map word_bytes (vectors (first_esp words) words) in
    let fill = zeros (stack_size words - used_size words) in
    let a : length ((front ++ strings words) ++ fill) ≡ length (front ++ strings words) + length fill = length-append {A = ℕ} (front ++ strings words) fill in
    let b : length (front ++ strings words) ≡ length front + length (strings words) = length-append {A = ℕ} front (strings words) in
    let c : length front ≡ vectors_size words = length-vectors (first_esp words) words in
    let d : length fill ≡ stack_size words - used_size words = length-replicate (stack_size words - used_size words) 0 in
    let e : used_size words ≤ stack_size words = (filled_bounds (used_size words)).0 in
    omega arith

pub stack_is_start : StackIsStart
stack_is_start words fits bytes =
    let size = length-start_stack words in
    let bounds = filled_bounds (used_size words) in
    record {
      aligned = omega (arith, bounds.2, fits);
      high = omega (arith, fits);
      at_least = omega (arith, size, bounds.1);
      at_most = omega (arith, size, fits);
      bytes = bytes;
      within = omega (arith, size, fits);
    }
