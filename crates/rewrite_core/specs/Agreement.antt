-- When the run of a written file does what the run of the old file did.
use Rattle.std.specs.Prelude.{◌≡◌, ℕ, ◌+◌, ◌<◌, ◌≤◌, List, ◌∷◌, length, All, None}
use Rattle.outside.specs.Environment.{Environment, IsEnvironment}
use Rattle.traces.specs.Plain.{NeverEnds}
use Rattle.image.specs.declared.image.Image.{Image}
use Rattle.elf_image.specs.Plain.{plain_image}
use Rattle.memory.specs.Memory.{Memory}
use Rattle.x86_code.specs.Code.{code_of}
use Rattle.x86_meaning.specs.Run.{IsStart, start_over, run_from, run_of}
use Rattle.x86_meaning.specs.Agreement.{ProgramsAgree}
use Rattle.rewrite_core.specs.Met.{IsRewritable}
use Rattle.rewrite_core.specs.Places.{IsLaid}
use Rattle.rewrite_core.specs.Layout.{code_start, whole_pages, new_image, text_of}

-- the new image's program does what the old one's does
abbrev pub RunsAgree : Image → Image → Type 0
RunsAgree old new = ProgramsAgree (run_of old) (run_of new)

-- A file that is rewritten, and the file that is written for it. In a list that isn't one of bytes, a number above 255 may
-- spell a constant above 2^32, which is moved by its lowest 32 bits: so an address of the new code's could be moved.
abbrev pub NewFileAgrees : Type 0
NewFileAgrees = (file code : List ℕ) → All (λ b. b < 256) file → IsRewritable file → IsLaid (text_of file) code → RunsAgree (plain_image file) (new_image (text_of file) code)

-- The second memory is the first with more in [low, high), where the first has nothing, nor just below: so a buffer that
-- begins elsewhere, and can be read or written, doesn't meet it.
pub record HasMore (low high : ℕ) (m n : Memory) : Type 0 where
  pub free : (a : ℕ) → low ≤ a → a < high → m a ≡ None
  pub edge : (a : ℕ) → a + 1 ≡ low → m a ≡ None
  pub below : (a : ℕ) → a < low → m a ≡ n a
  pub above : (a : ℕ) → high ≤ a → m a ≡ n a

-- The new code agrees with the old over any data, which needn't have the old code in it: it reads no place to learn what to do.
abbrev pub NewCodeAgrees : Type 0
NewCodeAgrees = (file code : List ℕ) → All (λ b. b < 256) file → IsRewritable file → IsLaid (text_of file) code → (m n : Memory) → HasMore code_start (code_start + whole_pages (length code)) m n
    → ProgramsAgree (λ esp0 stack left. run_from (code_of (plain_image file)) (start_over m (plain_image file).entry esp0 stack left))
    (λ esp0 stack left. run_from (code_of (new_image (text_of file) code)) (start_over n code_start esp0 stack left))

-- a file whose code begins with a jump to itself, EB FE, and the file that is written for it: neither run ever ends
abbrev pub LoopsNeverEnd : Type 0
LoopsNeverEnd = (file code rest : List ℕ) → All (λ b. b < 256) file → IsRewritable file → text_of file ≡ 0xEB ∷ 0xFE ∷ rest → IsLaid (text_of file) code
    → (esp0 : ℕ) (stack : List ℕ) (left : Environment) → IsStart esp0 stack → IsEnvironment left
    → NeverEnds (run_of (plain_image file) esp0 stack left) × NeverEnds (run_of (new_image (text_of file) code) esp0 stack left)
