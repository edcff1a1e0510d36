-- The stack that a run begins with (System V ABI, Intel386 supplement, "Process Initialization"). That the environment and the
-- auxiliary vector are empty, the order of the strings, the fill behind them and the place are own.
use Rattle.std.specs.Prelude.{ℕ, ◌+◌, ◌-◌, ◌*◌, ◌/◌, max, List, [], ◌∷◌, ◌++◌, length}
use Rattle.std.specs.List.{flat_map}
use Rattle.byte_lists.specs.LittleEndian.{word_bytes, zeros}

-- A string: the bytes of a word of the command line, and a zero byte behind them.
abbrev pub string_of : List ℕ → List ℕ
string_of word = word ++ 0 ∷ []

-- The strings of words, in order.
abbrev pub strings : List (List ℕ) → List ℕ
strings [] = []
strings (word ∷ words) = string_of word ++ strings words

-- A pointer to each string, where the first stands at an address.
abbrev pub pointers : ℕ → List (List ℕ) → List ℕ
pointers at [] = []
pointers at (word ∷ words) = at ∷ pointers (at + length word + 1) words

-- How many bytes stand below the strings: the count, a pointer to each string and four numbers that are 0.
abbrev pub vectors_size : List (List ℕ) → ℕ
vectors_size words = 4 * (length words + 5)

-- How many bytes there are up to the end of the strings.
abbrev pub used_size : List (List ℕ) → ℕ
used_size words = vectors_size words + length (strings words)

-- The least multiple of 16 that is at least n and at least 128.
abbrev pub filled_size : ℕ → ℕ
filled_size n = max 128 ((n + 15) / 16 * 16)

-- How many bytes the stack has.
abbrev pub stack_size : List (List ℕ) → ℕ
stack_size words = filled_size (used_size words)

-- The most that it may have: 128 KiB.
abbrev pub greatest_stack : ℕ
greatest_stack = 131072

-- The address behind the stack.
abbrev pub stack_end : ℕ
stack_end = 0xBFFF0000

-- The address at which the stack begins, which esp holds.
abbrev pub first_esp : List (List ℕ) → ℕ
first_esp words = stack_end - stack_size words

-- The numbers below the strings: how many words there are, a pointer to each string, 0 behind them, 0 for the empty environment,
-- and two for the empty auxiliary vector.
abbrev pub vectors : ℕ → List (List ℕ) → List ℕ
vectors at words = length words ∷ (pointers (at + vectors_size words) words ++ 0 ∷ 0 ∷ 0 ∷ 0 ∷ [])

-- The bytes of the stack, from `first_esp` upwards.
unfoldable pub start_stack : List (List ℕ) → List ℕ
start_stack words = flat_map word_bytes (vectors (first_esp words) words) ++ strings words ++ zeros (stack_size words - used_size words)
