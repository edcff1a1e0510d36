use Rattle.elf_writer.proofs.ReadImages.{read_can_be_written}
use Rattle.elf_writer.proofs.laws.read_images_can_be_written.Goals as goal

pub returns : goal.returns
returns c = read_can_be_written c.image_laws.ensures.fits
