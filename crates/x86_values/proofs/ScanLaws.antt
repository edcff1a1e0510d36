-- The laws of bit scans.
use Rattle.std.proofs.Common.{◌≡◌, ℕ, ◌<◌, ◌≤◌, ◌==◌, Bool, true, false, cond, Option, Some, None, refl, arith}
use Rattle.x86_values.specs.declared.word.Word.{Word}
use Rattle.x86_values.specs.Words.{word_of}
use Rattle.x86_values.specs.Sizes.{IsSize, cut, no_word, number, full}
use Rattle.x86_values.specs.Results.{no_flags, no_result}
use Rattle.x86_values.specs.Scans.{set_bit, scanned, scan_of, scan}
use Rattle.x86_values.specs.ScanLaws.{ScanLaws}
use Rattle.x86_values.specs.LessSpecified.{WordLessSpecified, AnsweredLessSpecified}
use Rattle.x86_values.proofs.LessSpecified.{less_specified, same_number, of_sizes}
use Rattle.x86_values.proofs.ResultsLess.{number_itself, all_flags_itself, no_flags_less, nothing_known}
use Rattle.x86_values.proofs.ScanLemmas.{lowest_is, highest_is, set_bit_small}

scanned_itself : (reverse : Bool) (size n : ℕ) → AnsweredLessSpecified (scanned reverse size n) (scanned reverse size n)
scanned_itself reverse size n = elim (n == 0) as (λ (b : Bool). let a = cond b (record { value = cut size no_word; flags = record no_flags { zf = Some true } }) (record { value = word_of (set_bit reverse n); flags = record no_flags { zf = Some false } }) in AnsweredLessSpecified a a) [
  | true ↦ record { value = less_specified.nothing size no_word; flags = all_flags_itself (record no_flags { zf = Some true }) }
  | false ↦ record { value = number_itself (set_bit reverse n); flags = all_flags_itself (record no_flags { zf = Some false }) }
]

bit_of_size : (reverse : Bool) (size n : ℕ) → IsSize size → set_bit reverse n < full size
bit_of_size reverse size n s = let small : set_bit reverse n ≤ 32 = set_bit_small reverse n in
    of_sizes (λ (size : ℕ). set_bit reverse n < full size) size s (omega arith) (omega arith) (omega arith)

nothing_scanned : (reverse : Bool) (size : ℕ) (m : Option ℕ) → IsSize size → AnsweredLessSpecified (no_result size) (scan_of reverse size m)
nothing_scanned reverse size None s = record { value = less_specified.nothing size no_word; flags = no_flags_less no_flags }
nothing_scanned reverse size (Some n) s = elim (n == 0) as (λ (b : Bool). AnsweredLessSpecified (no_result size) (cond b (record { value = cut size no_word; flags = record no_flags { zf = Some true } }) (record { value = word_of (set_bit reverse n); flags = record no_flags { zf = Some false } }))) [
  | true ↦ record { value = less_specified.nothing size no_word; flags = no_flags_less (record no_flags { zf = Some true }) }
  | false ↦ record { value = nothing_known size (set_bit reverse n) s (bit_of_size reverse size n s); flags = no_flags_less (record no_flags { zf = Some false }) }
]

scan_less : (reverse : Bool) (size : ℕ) (x u : Word) → IsSize size → WordLessSpecified x u → AnsweredLessSpecified (scan reverse size x) (scan reverse size u)
unfolding scan
scan_less reverse size x u s h = go (number size x) refl
  where
    go : (m : Option ℕ) → number size x ≡ m → AnsweredLessSpecified (scan_of reverse size m) (scan_of reverse size (number size u))
    go None e = nothing_scanned reverse size (number size u) s
    go (Some n) e = rw (same_number size n x u s h e).0 (scanned_itself reverse size n)

pub scan_laws : ScanLaws
scan_laws = record { scan_less = scan_less; lowest = lowest_is 32; highest = highest_is 32 }
