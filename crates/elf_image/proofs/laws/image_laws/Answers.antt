use Rattle.elf_image.proofs.ImagesFit.{accepted_fits}
use Rattle.elf_image.proofs.Passed.{source_is_any}
use Rattle.elf_image.proofs.PlainForm.{plain_is_accepted, plain_is_read}
use Rattle.elf_image.proofs.laws.image_laws.Goals as goal

pub returns : goal.returns
returns c = record { source_is_any = source_is_any; fits = accepted_fits; plain_is_accepted = plain_is_accepted; plain_is_read = plain_is_read }
