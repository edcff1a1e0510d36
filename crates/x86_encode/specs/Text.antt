-- The bytes of a text in sixteen places, and what becomes of it where forms are offered.
use Rattle.std.specs.Prelude.{◌≡◌, ℕ, List, take}
use Rattle.x86_grammar.specs.declared.row.Form.{Form}
use Rattle.x86_encode.specs.declared.text.Text.{Text}
use Rattle.x86_encode.specs.Choice.{picks}

-- its bytes
abbrev pub text : Text → List ℕ
text t = take t.len t.bytes

-- the new text is the first in order of the old one and of the forms' best spellings
abbrev pub AreOffered : List Form → Text → Text → Type 0
AreOffered forms old new = text new ≡ picks (text old) forms
