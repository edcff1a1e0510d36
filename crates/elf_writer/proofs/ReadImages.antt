-- The image of an accepted file can be written.
use Rattle.std.proofs.Common.{◌≡◌, ℕ, zero, suc, ◌<◌, ◌≤◌, Bool, true, false, cond, List, [], ◌∷◌, length, map, filter, Option, None, Some, Ok, IfOk, refl, ap, get_or, ◌+◌, arith}
use Rattle.std.specs.List.{AllByRecursion}
use Rattle.std.proofs.lemmas.List.{length-map}
use Rattle.std.proofs.lemmas.Result.{IfOk-at_ok}
use Rattle.elf_image.specs.declared.header.ProgramHeader.{ProgramHeader}
use Rattle.image.specs.declared.image.Image.{Image}
use Rattle.image.specs.declared.room.Room.{Room}
use Rattle.elf_image.specs.declared.refusal.Refusal.{Refusal}
use Rattle.elf_image.specs.Fields.{e_phnum, e_phoff, headers_from, headers_of}
use Rattle.elf_image.specs.Pages.{is_segment}
use Rattle.elf_image.specs.Refusals.{segments_of, refusal_of}
use Rattle.elf_image.specs.Image.{segment_of, image_if, image_of}
use Rattle.elf_image.specs.Laws.{AcceptedFits}
use Rattle.elf_writer.specs.Laws.{ReadImagesCanBeWritten}

byte_below : (file : List ℕ) → AllByRecursion (λ b. b < 256) file → (i : ℕ) → get_or file i 0 < 256
byte_below [] each i = omega arith
byte_below (b ∷ file) each zero = each.0
byte_below (b ∷ file) each (suc i) = byte_below file each.1 i

length_headers_from : (file : List ℕ) (i n : ℕ) → length (headers_from file i n) ≡ n
unfolding headers_from
length_headers_from file i zero = refl
length_headers_from file i (suc n) = ap suc (length_headers_from file (i + 32) n)

length_filter : (test : ProgramHeader → Bool) (hs : List ProgramHeader) → length (filter test hs) ≤ length hs
length_filter test [] = omega arith
length_filter test (h ∷ hs) = step (test h) (length_filter test hs)
  where
    step : (b : Bool) → length (filter test hs) ≤ length hs → length (cond b (h ∷ filter test hs) (filter test hs)) ≤ length (h ∷ hs)
    step true e = omega arith
    step false e = omega arith

few_segments : (file : List ℕ) → AllByRecursion (λ b. b < 256) file → length (map (segment_of file) (segments_of file)) ≤ 65535
few_segments file bytes =
    let a = byte_below file bytes 44 in
    let b = byte_below file bytes 45 in
    let kept = length_filter is_segment (headers_of file) in
    let all : length (headers_of file) ≡ e_phnum file = length_headers_from file (e_phoff file) (e_phnum file) in
    let mapped : length (map (segment_of file) (segments_of file)) ≡ length (segments_of file) = length-map (segments_of file) (segment_of file) in
    omega (arith, a, b, kept, all, mapped)

few_are_read : (file : List ℕ) (room : Room) (image : Image) → image_of file room ≡ Ok image → AllByRecursion (λ b. b < 256) file → length image.segments ≤ 65535
unfolding image_of
few_are_read file room image e bytes = IfOk-at_ok (λ (i : Image). length i.segments ≤ 65535) e (go (refusal_of file room))
  where
    go : (r : Option Refusal) → IfOk (image_if file r) (λ (i : Image). length i.segments ≤ 65535)
    go None = few_segments file bytes
    go (Some r) = tt

pub read_can_be_written : AcceptedFits → ReadImagesCanBeWritten
read_can_be_written fits file room image e bytes = record { few = few_are_read file room image e bytes; fits = fits file room image e }
