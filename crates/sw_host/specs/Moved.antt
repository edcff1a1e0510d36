-- A write as contracts see it.
use Rattle.std.specs.Prelude.{ℕ, List}
use Rattle.sw_host.specs.declared.moved.Moved.{Moved}

-- The file descriptor of a write and its bytes.
abbrev pub as_pair : Moved → ℕ × List ℕ
as_pair m = (m.fd, m.bytes)
