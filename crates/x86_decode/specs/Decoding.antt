-- What decoding answers, by what a reader sees of the first fifteen bytes: an instruction with the bytes
-- that are not left, and a want of bytes only where they fit into fifteen.
use Rattle.std.specs.Prelude.{ℕ, ◌+◌, ◌-◌, nat_le, if◌then◌else◌, List, length, take}
use Rattle.x86_grammar.specs.declared.reading.Seen.{Seen}
use Rattle.x86_grammar.specs.declared.reading.Seen.TheVariants.{Found, Needs, Never}
use Rattle.x86_grammar.specs.Reading.{read}
use Rattle.x86_decode.specs.declared.decoding.Decoded.{Decoded}
use Rattle.x86_decode.specs.declared.decoding.Decoded.TheVariants.{One, Outside, Short}

-- the answer to what a reader of so many bytes sees
abbrev pub judge : ℕ → Seen → Decoded
judge len (Found i left) = One i (len - left)
judge len (Needs k) = if nat_le (len + k) 15 then Short else Outside
judge len Never = Outside

-- what the bytes begin with
unfoldable pub decoded : List ℕ → Decoded
decoded bytes = judge (length (take 15 bytes)) (read (take 15 bytes))
