use Rattle.elf_image.proofs.Rows.{empty_file, magic_alone, seven_is, plain_code, writable_is, linked_is}
use Rattle.elf_image.proofs.laws.worked_images.Goals as goal

pub returns : goal.returns
returns c = record { empty_file = empty_file; magic_alone = magic_alone; seven_file = seven_is; plain_code = plain_code; writable_code = writable_is; linked_file = linked_is }
