-- The words of a call as contracts see them.
use Rattle.std.specs.Prelude.{ℕ, List, map, String}
use Rattle.std.specs.String.{string_bytes}
use Rattle.std.specs.declared.alloc.Global.{Global}

-- The words of a call, each the list of its bytes.
abbrev pub texts : List (String Global) → List (List ℕ)
texts words = map string_bytes words
