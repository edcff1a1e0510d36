-- Operations come to the same over storages that are the same where they read, and change nothing but what they write.
use Rattle.std.specs.Prelude.{◌≡◌, ℕ, List, [], ◌++◌, Ok}
use Rattle.flag_ir.specs.declared.operation.Op.{Op}
use Rattle.flag_ir.specs.Storage.{Storage}
use Rattle.flag_ir.specs.Operations.{perform, performs, shown_by, shown_by_all}
use Rattle.flag_ir.specs.Reads.{StorageLocation, reads_of, writes_of, AgreesOn, ResultsAgree, ChangesOnly, AreAmong, ReadsAmong, with_writes}

pub record ReadLaws : Type 0 where
  -- where two storages agree on what an operation reads, it comes to results that agree on what it writes too, and shows the same
  pub perform_agrees : (turn : ℕ) (o : Op) (ls : List StorageLocation) (u v : Storage) → AgreesOn ls u v → AreAmong (reads_of o) ls → ResultsAgree (writes_of o ++ ls) (perform turn o u) (perform turn o v)
  pub shown_agrees : (o : Op) (ls : List StorageLocation) (u v : Storage) → AgreesOn ls u v → AreAmong (reads_of o) ls → shown_by o u ≡ shown_by o v
  pub perform_changes : (turn : ℕ) (o : Op) (u v : Storage) → perform turn o u ≡ Ok v → ChangesOnly (writes_of o) u v
  -- so does a list of them
  pub performs_agree : (turn : ℕ) (ops : List Op) (ls : List StorageLocation) (u v : Storage) → AgreesOn ls u v → ReadsAmong ls ops → ResultsAgree (with_writes ls ops) (performs turn ops u) (performs turn ops v)
  pub shown_all_agree : (turn : ℕ) (ops : List Op) (ls : List StorageLocation) (u v : Storage) → AgreesOn ls u v → ReadsAmong ls ops → shown_by_all turn ops u ≡ shown_by_all turn ops v
  pub performs_change : (turn : ℕ) (ops : List Op) (u v : Storage) → performs turn ops u ≡ Ok v → ChangesOnly (with_writes [] ops) u v
