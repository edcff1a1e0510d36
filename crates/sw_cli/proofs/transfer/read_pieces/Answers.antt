use Rattle.std.proofs.Common.{rules, ◌≡◌, ◌≤◌, ℕ, List, ◌++◌, length, take, sym, ap, ◌∙◌, subst}
use Rattle.std.proofs.lemmas.List.{take-append-le}
use Rattle.std.proofs.KnownBytes.{Consumes-trans}
use Rattle.std.specs.Io.KnownBytes.{Consumes}
use Rattle.sw_cli.proofs.transfer.read_pieces.Goals as goal
use Rattle.sw_cli.proofs.transfer.read_pieces.Goals.{in-Ok+in_ok-extend_from_slice-in-Ok, in-Err}

-- of a piece of memory those bytes are kept that were read into its front
kept : (old front rest all : List ℕ) (count : ℕ) → count ≤ length front → all ≡ old ++ take count (front ++ rest) → old ++ take count front ≡ all
kept old front rest all count within is = sym (is ∙ ap (λ l. old ++ l) (take-append-le count front rest within))

pub loop-preserved : goal.loop-preserved
loop-preserved g c = elim c.match-read.branch [
  | in-Ok+in_ok-extend_from_slice-in-Ok w ↦
      let joined = Consumes-trans _ _ _ _ _ c.loop.invariant.took w.in-Ok.ensures.bytes.0 in
      let whole = kept _ c.read.new.buf _ _ w.in-Ok.count w.in-Ok.ensures.bound.0 w.in_ok-extend_from_slice-in-Ok.ensures.items in
      rw w.bytes-is (record { fits = search rules; took = subst (Consumes _ _) whole joined })
  | in-Err w ↦ search rules
]
