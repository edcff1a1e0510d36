-- Worked runs: the programs and their starts.
use Rattle.std.specs.Prelude.{◌≡◌, ℕ, List, [], ◌∷◌, ◌++◌, replicate, Option}
use Rattle.outside.specs.declared.answer.Answer.{Answer}
use Rattle.byte_lists.specs.LittleEndian.{word_bytes}
use Rattle.std.specs.List.{AllByRecursion}
use Rattle.traces.specs.Trace.{Event, End, Behaviour, events}
use Rattle.image.specs.declared.image.Image.{Image}
use Rattle.x86_meaning.specs.Run.{run_of}

-- a page that begins with this code at 0x08049000, where the program is entered, and then a page of zeros that can be written
abbrev pub program : List ℕ → Image
program text = record {
  segments = record { start = 0x08049000; size = 4096; perm = record { 0 = 5 }; bytes = text } ∷ record { start = 0x0804A000; size = 4096; perm = record { 0 = 6 }; bytes = [] } ∷ [];
  entry = 0x08049000;
}

-- The stack of a program that is run by the one word "a": the number of words, the pointer to the one, the end of the words,
-- of the environment and of the auxiliary vector, the bytes of the word with a zero byte, and zero bytes up to 128 in all
abbrev pub stack : List ℕ
stack = 1 ∷ 0 ∷ 0 ∷ 0 ∷ 0x98 ∷ 0xFF ∷ 0xFE ∷ 0xBF ∷ replicate 16 0 ++ 0x61 ∷ replicate 103 0

abbrev pub esp0 : ℕ
esp0 = 0xBFFEFF80

-- the run of the code, behind which F4 stands (HLT, no instruction of the list), with some input and answers
abbrev pub run_with : List ℕ → List ℕ → List Answer → Behaviour
run_with text input answers = run_of (program (text ++ 0xF4 ∷ [])) esp0 stack (record { input = input; answers = answers })

-- code with an input and answers, and what is seen of its run within so many steps: exactly these events, and this end or none
pub record Row : Type 0 where
  pub text : List ℕ
  pub input : List ℕ
  pub answers : List Answer
  pub steps : ℕ
  pub events : List Event
  pub end : Option End

abbrev pub IsSeen : Row → Type 0
IsSeen r = let seen = run_with r.text r.input r.answers r.steps in (events seen.trace ≡ r.events) × (seen.end ≡ r.end)

abbrev pub AreSeen : List Row → Type 0
AreSeen rows = AllByRecursion IsSeen rows

-- a row without an answer, and without an input
abbrev pub row_of : List ℕ → List ℕ → ℕ → List Event → Option End → Row
row_of text input n es e = record { text = text; input = input; answers = []; steps = n; events = es; end = e }

abbrev pub plain_row : List ℕ → ℕ → List Event → Option End → Row
plain_row text n es e = row_of text [] n es e

-- B8+r id: mov of a constant to eax, ecx, edx, ebx
abbrev pub mov_eax : ℕ → List ℕ
mov_eax n = 0xB8 ∷ word_bytes n

abbrev pub mov_ecx : ℕ → List ℕ
mov_ecx n = 0xB9 ∷ word_bytes n

abbrev pub mov_edx : ℕ → List ℕ
mov_edx n = 0xBA ∷ word_bytes n

abbrev pub mov_ebx : ℕ → List ℕ
mov_ebx n = 0xBB ∷ word_bytes n

-- CD 80: int 0x80
abbrev pub int80 : List ℕ
int80 = 0xCD ∷ 0x80 ∷ []

-- a call by number, descriptor, address and count, of five steps
abbrev pub call : ℕ → ℕ → ℕ → ℕ → List ℕ
call number fd at count = mov_eax number ++ (mov_ebx fd ++ (mov_ecx at ++ (mov_edx count ++ int80)))
