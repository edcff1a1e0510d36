-- The instruction that a front of some bytes spells, as a function: what a reader from left to right finds in the
-- first fifteen bytes. Intel SDM volume 2, section 2.3.11: no instruction is longer.
use Rattle.std.specs.Prelude.{ℕ, ◌-◌, List, length, take, Option, Some, None}
use Rattle.x86_types.specs.declared.instr.Instr.{Instr}
use Rattle.x86_grammar.specs.declared.reading.Seen.{Seen}
use Rattle.x86_grammar.specs.declared.reading.Seen.TheVariants.{Found, Needs, Never}
use Rattle.x86_grammar.specs.Reading.{read}

-- an instruction that a reader of so many bytes found, with the number of bytes that it read
abbrev pub found_front : ℕ → Seen → Option (Instr × ℕ)
found_front n (Found i left) = Some (i, n - left)
found_front n (Needs k) = None
found_front n Never = None

-- The instruction with its length, where some front of the bytes spells one; there is one at most. To compute it, open the
-- stages of specs/Reading and `entry_of` beside it.
unfoldable pub front : List ℕ → Option (Instr × ℕ)
front bytes = found_front (length (take 15 bytes)) (read (take 15 bytes))
