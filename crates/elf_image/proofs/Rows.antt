-- What the definition of an image says of the written files, by computation.
use Rattle.std.proofs.Common.{refl}
use Rattle.elf_image.specs.Fields.{headers_from}
use Rattle.elf_image.specs.Refusals.{refusal_of}
use Rattle.elf_image.specs.Plain.{is_plain}
use Rattle.image.specs.Addresses.{segment_at}
use Rattle.elf_image.specs.Image.{image_of}
use Rattle.elf_image.specs.Rows.{EmptyFile, MagicAlone, SevenFile, PlainCode, WritableCode, LinkedFile, linked_file, file_with}

pub empty_file : EmptyFile
unfolding image_of refusal_of
empty_file room = refl

pub magic_alone : MagicAlone
unfolding image_of refusal_of
magic_alone room = refl

pub seven_is : SevenFile
unfolding is_plain image_of refusal_of headers_from segment_at file_with
seven_is = (refl, (refl, refl, refl, refl, refl, refl, refl))

pub plain_code : PlainCode
unfolding is_plain file_with
plain_code = record { none = refl; one = refl; whole_page = refl }

pub writable_is : WritableCode
unfolding image_of refusal_of headers_from file_with
writable_is = (refl, refl)

pub linked_is : LinkedFile
unfolding image_of refusal_of headers_from segment_at linked_file
linked_is = (refl, refl, refl, refl, refl, refl, refl, refl, refl)
