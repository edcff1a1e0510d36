use Rattle.x86_values.proofs.WordLemmas.{known_word, word_fits, list_fits, padded_fits, padded_list}
use Rattle.x86_values.proofs.laws.word_laws.Goals as goal

pub returns : goal.returns
returns c = record { known_word = known_word; word_of_bytes = word_fits; list_of_bytes = list_fits; padded_of_bytes = padded_fits; padded_list = padded_list }
