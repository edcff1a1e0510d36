use Rattle.std.proofs.Common.{rules, ◌≡◌, ℕ, ◌+◌, ◌-◌, List, ◌++◌, length, take, drop, sym, ap, ◌∙◌, subst}
use Rattle.std.proofs.lemmas.List.{take_rest}
use Rattle.std.proofs.Math.Seq.{take-add}
use Rattle.std.proofs.KnownBytes.{Appends-trans}
use Rattle.std.specs.Io.KnownBytes.{Appends}
use Rattle.sw_cli.proofs.transfer.write_whole.Goals as goal
use Rattle.sw_cli.proofs.transfer.write_whole.Goals.{in-Ok, in-Err}

-- one more piece of what is left
piece : (bs : List ℕ) (done count : ℕ) → take done bs ++ take count (take (length bs - done) (drop done bs)) ≡ take (done + count) bs
piece bs done count = ap (λ l. take done bs ++ take count l) (take_rest bs done) ∙ sym (take-add done count bs)

pub loop-preserved : goal.loop-preserved
loop-preserved g c = elim c.match-write.branch [
  | in-Ok w ↦
      let joined = Appends-trans _ _ _ _ _ c.loop.invariant.put w.in-Ok.ensures.bytes in
      rw w.done-is (record { fits = search rules; put = subst (Appends _ _) (piece c.args.bytes.now c.loop.done w.in-Ok.count) joined })
  | in-Err w ↦ search rules
]
