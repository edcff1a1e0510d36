-- The fields of a written header, read again.
use Rattle.std.proofs.Common.{◌≡◌, ℕ, ◌+◌, ◌*◌, ◌/◌, ◌%◌, ◌<◌, ◌≤◌, ◌==◌, Bool, true, false, not, ltb, List, ◌∷◌, ◌++◌, length, None, refl, get_or, arith}
use Rattle.std.proofs.lemmas.Bool.{le-ltb}
use Rattle.elf_image.specs.declared.refusal.Refusal.{Refusal}
use Rattle.elf_image.specs.Fields.{has_magic, e_type, e_machine, e_entry, e_phoff, e_phentsize, e_phnum}
use Rattle.elf_image.specs.Refusals.{first, header_tests}
use Rattle.elf_writer.specs.Written.{elf_header}

pub word_again : (n : ℕ) → n < 0x100000000 → n % 256 + 256 * (n / 256 % 256) + 65536 * (n / 65536 % 256) + 16777216 * (n / 16777216 % 256) ≡ n
word_again n h = omega arith

half_again : (n : ℕ) → n < 65536 → n % 256 + 256 * (n / 256 % 256) ≡ n
half_again n h = omega arith

pub length_elf_header : (entry count : ℕ) → length (elf_header entry count) ≡ 52
unfolding elf_header
length_elf_header at count = refl

pub record HasHeader (file : List ℕ) (at count : ℕ) : Type 0 where
  pub magic : has_magic file ≡ true
  pub class : get_or file 4 0 ≡ 1
  pub order : get_or file 5 0 ≡ 1
  pub version : get_or file 6 0 ≡ 1
  pub kind_is : e_type file ≡ 2
  pub machine_is : e_machine file ≡ 3
  pub entry_is : e_entry file ≡ at
  pub table_is : e_phoff file ≡ 52
  pub size_is : e_phentsize file ≡ 32
  pub count_is : e_phnum file ≡ count

pub header_read : (at count : ℕ) (rest : List ℕ) → at < 0x100000000 → count < 65536 → HasHeader (elf_header at count ++ rest) at count
unfolding elf_header
header_read at count rest h k = record {
  magic = refl;
  class = refl;
  order = refl;
  version = refl;
  kind_is = refl;
  machine_is = refl;
  entry_is = word_again at h;
  table_is = refl;
  size_is = refl;
  count_is = half_again count k;
}

-- the tests of a header, at its fields
first_of_fields : (magic : Bool) (size class order version kind machine each table count : ℕ) (later : List (Bool × Refusal))
    → magic ≡ true → class ≡ 1 → order ≡ 1 → version ≡ 1 → kind ≡ 2 → machine ≡ 3 → each ≡ 32 → ltb size 52 ≡ false → ltb size (table + 32 * count) ≡ false → first later ≡ None
    → first ((ltb size 52, Refusal.Short) ∷ (not magic, Refusal.Magic) ∷ (not (class == 1), Refusal.Class) ∷ (not (order == 1), Refusal.Order) ∷ (not (version == 1), Refusal.Version)
    ∷ (not (kind == 2), Refusal.Kind) ∷ (not (machine == 3), Refusal.Machine) ∷ (not (each == 32), Refusal.HeaderSize) ∷ (ltb size (table + 32 * count), Refusal.HeaderTable) ∷ later) ≡ None
first_of_fields magic size class order version kind machine each table count later p1 p2 p3 p4 p5 p6 p7 p8 p9 rest = rw (p8, p9, p1, p2, p3, p4, p5, p6, p7) rest

pub header_passes : (file : List ℕ) (at count : ℕ) (later : List (Bool × Refusal)) → HasHeader file at count → 52 + 32 * count ≤ length file → first later ≡ None → first (header_tests file ++ later) ≡ None
header_passes file at count later h long rest =
    let table = h.table_is in
    let many = h.count_is in
    first_of_fields (has_magic file) (length file) (get_or file 4 0) (get_or file 5 0) (get_or file 6 0) (e_type file) (e_machine file) (e_phentsize file) (e_phoff file) (e_phnum file) later h.magic h.class h.order h.version h.kind_is h.machine_is h.size_is
    (le-ltb (length file) 52 (omega arith)) (le-ltb (length file) (e_phoff file + 32 * e_phnum file) (rw (table, many) long)) rest
