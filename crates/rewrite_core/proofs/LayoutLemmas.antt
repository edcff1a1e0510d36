-- The stated image can be written, and so its file is accepted.
use Rattle.std.proofs.Common.{◌≡◌, ℕ, ◌+◌, ◌≤◌, ◌&&◌, Bool, true, false, ltb, List, length, refl, arith}
use Rattle.std.proofs.lemmas.Bool.{lt-ltb}
use Rattle.elf_image.specs.Plain.{room_segment}
use Rattle.elf_writer.specs.Wanted.{CanBeWritten}
use Rattle.image.specs.Wanted.{HasItsPlace, is_code_at}
use Rattle.elf_writer.specs.Laws.{WrittenIsAccepted}
use Rattle.rewrite_core.specs.Layout.{code_start, whole_pages, kept_segment, code_segment, new_image, NewFileIsAccepted}
use Rattle.rewrite_core.proofs.CodeLemmas.{length_in_pages}

-- ---- the place of each segment
kept_place : (text : List ℕ) → length text ≡ 4096 → HasItsPlace (kept_segment text)
kept_place text page = record {
  start_in_pages = refl;
  size_in_pages = refl;
  bytes_in_pages = omega (arith, page);
  sized = omega arith;
  within = omega (arith, page);
  from = omega arith;
  to = omega arith;
  perm = omega arith;
  readable = refl;
  not_both = refl;
}

room_place : HasItsPlace room_segment
room_place = record {
  start_in_pages = refl;
  size_in_pages = refl;
  bytes_in_pages = refl;
  sized = omega arith;
  within = omega arith;
  from = omega arith;
  to = omega arith;
  perm = omega arith;
  readable = refl;
  not_both = refl;
}

code_place : (code : List ℕ) → 1 ≤ length code → length code ≤ 0x14000000 → HasItsPlace (code_segment code)
code_place code some few = record {
  start_in_pages = refl;
  size_in_pages = omega arith;
  bytes_in_pages = omega (arith, length_in_pages code);
  sized = omega (arith, some);
  within = omega (arith, length_in_pages code);
  from = omega arith;
  to = omega (arith, few);
  perm = omega arith;
  readable = refl;
  not_both = refl;
}

-- ---- the image
and_false : (b : Bool) → (b && false) ≡ false
and_false true = refl
and_false false = refl

entry_held : (code : List ℕ) → 1 ≤ length code → is_code_at code_start (code_segment code) ≡ true
entry_held code some = lt-ltb code_start (code_start + whole_pages (length code)) (omega (arith, some))

new_can_be_written : (text code : List ℕ) → length text ≡ 4096 → 1 ≤ length code → length code ≤ 0x14000000 → CanBeWritten (new_image text code).segments code_start
new_can_be_written text code page some few =
    let n : ℕ = whole_pages (length code) in
    let end : ℕ = code_start + n in
    record {
      few = omega arith;
      fits =
          record {
            each = (kept_place text page, (room_place, (code_place code some few, tt)));
            apart = ((refl, (and_false (ltb 0x08049000 end), tt)), ((and_false (ltb 0x0804A000 end), tt), (tt, tt)));
            entered = rw (entry_held code some) refl;
            span = omega (arith, few);
            total = omega (arith, few);
          };
    }

pub new_file_accepted : WrittenIsAccepted → NewFileIsAccepted
new_file_accepted accepted text code page some few = accepted (new_image text code).segments code_start (new_can_be_written text code page some few)
