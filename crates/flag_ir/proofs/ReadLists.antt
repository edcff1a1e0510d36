-- Lists of operations over storages that agree on what they read, and what they change.
use Rattle.std.proofs.Common.{◌≡◌, ℕ, List, [], ◌∷◌, ◌++◌, Result, Ok, Err, refl, ap, ◌∙◌, subst}
use Rattle.traces.specs.Trace.{Label, End}
use Rattle.flag_ir.specs.declared.operation.Op.{Op}
use Rattle.flag_ir.specs.Storage.{Storage}
use Rattle.flag_ir.specs.Operations.{and_then, perform, performs, shown_by, shown_with, shown_by_all}
use Rattle.flag_ir.specs.Reads.{StorageLocation, writes_of, AgreesOn, ResultsAgree, ChangesOnly, ReadsAmong, with_writes}
use Rattle.flag_ir.proofs.Reading.{perform_agrees, shown_agrees}
use Rattle.flag_ir.proofs.Changing.{nothing_changes, changes_then, perform_changes}

then_agrees : (ls xs : List StorageLocation) (r s : Result Storage End) (f : Storage → Result Storage End) → ResultsAgree ls r s → ((u v : Storage) → AgreesOn ls u v → ResultsAgree xs (f u) (f v)) → ResultsAgree xs (and_then r f) (and_then s f)
then_agrees ls xs (Ok u) (Ok v) f h k = k u v h
then_agrees ls xs (Ok u) (Err e) f h k = absurd h
then_agrees ls xs (Err e) (Ok v) f h k = absurd h
then_agrees ls xs (Err e) (Err x) f h k = h

pub performs_agree : (turn : ℕ) (ops : List Op) (ls : List StorageLocation) (u v : Storage) → AgreesOn ls u v → ReadsAmong ls ops → ResultsAgree (with_writes ls ops) (performs turn ops u) (performs turn ops v)
unfolding performs
performs_agree turn [] ls u v h k = h
performs_agree turn (o ∷ os) ls u v h k =
    then_agrees (writes_of o ++ ls) (with_writes (writes_of o ++ ls) os) (perform turn o u) (perform turn o v) (performs turn os) (perform_agrees ls u v h turn o k.0) (λ s t m. performs_agree turn os (writes_of o ++ ls) s t m k.1)

then_shown : (ls : List StorageLocation) (r s : Result Storage End) (xs ys : List Label) (f : Storage → List Label) → ResultsAgree ls r s → xs ≡ ys → ((u v : Storage) → AgreesOn ls u v → f u ≡ f v) → shown_with r xs f ≡ shown_with s ys f
then_shown ls (Ok u) (Ok v) xs ys f h e k = ap (λ (zs : List Label). zs ++ f u) e ∙ ap (λ (zs : List Label). ys ++ zs) (k u v h)
then_shown ls (Ok u) (Err x) xs ys f h e k = absurd h
then_shown ls (Err x) (Ok v) xs ys f h e k = absurd h
then_shown ls (Err x) (Err y) xs ys f h e k = refl

pub shown_all_agree : (turn : ℕ) (ops : List Op) (ls : List StorageLocation) (u v : Storage) → AgreesOn ls u v → ReadsAmong ls ops → shown_by_all turn ops u ≡ shown_by_all turn ops v
unfolding shown_by_all
shown_all_agree turn [] ls u v h k = refl
shown_all_agree turn (o ∷ os) ls u v h k =
    then_shown (writes_of o ++ ls) (perform turn o u) (perform turn o v) (shown_by o u) (shown_by o v) (shown_by_all turn os) (perform_agrees ls u v h turn o k.0) (shown_agrees ls u v h o k.0) (λ s t m. shown_all_agree turn os (writes_of o ++ ls) s t m k.1)

-- ---- what is changed
changes_by : (turn : ℕ) (ops : List Op) (xs : List StorageLocation) (u v w : Storage) → ChangesOnly xs u v → performs turn ops v ≡ Ok w → ChangesOnly (with_writes xs ops) u w
unfolding performs
changes_by turn [] xs u v w h k = let same : v ≡ w = cc in subst (ChangesOnly xs u) same h
changes_by turn (o ∷ os) xs u v w h k = go (perform turn o v) refl k (λ t done. changes_by turn os (writes_of o ++ xs) u t w (changes_then xs (writes_of o) u v t h (perform_changes turn o v t done)))
  where
    go : (r : Result Storage End) → perform turn o v ≡ r → and_then r (performs turn os) ≡ Ok w → ((t : Storage) → perform turn o v ≡ Ok t → performs turn os t ≡ Ok w → ChangesOnly (with_writes (writes_of o ++ xs) os) u w) → ChangesOnly (with_writes (writes_of o ++ xs) os) u w
    go (Ok t) is k rest = rest t is k
    go (Err e) is k rest = absurd cc

pub performs_change : (turn : ℕ) (ops : List Op) (u v : Storage) → performs turn ops u ≡ Ok v → ChangesOnly (with_writes [] ops) u v
performs_change turn ops u v h = changes_by turn ops [] u u v (nothing_changes u) h
