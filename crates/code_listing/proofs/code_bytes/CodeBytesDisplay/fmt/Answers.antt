use Rattle.std.proofs.Common.{List, ℕ, [], ◌∙◌, ap, sym, take, slice_index, arith, rules}
use Rattle.std.proofs.lemmas.List.{take_all, take_more, flat_map_more}
use Rattle.std.proofs.Output.{has_written_append, has_written_of_eq}
use Rattle.code_listing.specs.Digits.{byte_text, hex_text}
use Rattle.code_listing.proofs.code_bytes.CodeBytesDisplay.fmt.Goals as goal

pub loop-byte-preserved : goal.loop-byte-preserved
loop-byte-preserved g c = λ p.
    let bytes : List ℕ = take c.self.inside.count c.self.inside.bytes in
    let here : ℕ = c.loop-byte.byte-index in
    has_written_of_eq g.W.Write.write_str_gives _ _ _ _
    (flat_map_more byte_text [] (take here bytes) (slice_index bytes here) ∙ ap hex_text (sym (take_more bytes here 0 (omega arith))))
    (has_written_append g.W.Write.write_str_gives _ _ _ _ _ (c.loop-byte.invariant p) (search rules))

pub returns-clause-writes : goal.returns-clause-writes
returns-clause-writes g c = λ p _.
    let bytes : List ℕ = take c.self.inside.count c.self.inside.bytes in
    has_written_of_eq g.W.Write.write_str_gives _ _ _ _ (ap hex_text (take_all c.loop-byte.byte-index bytes c.loop-byte-test.false ∙ c.self.view_is)) (c.loop-byte.invariant p)
