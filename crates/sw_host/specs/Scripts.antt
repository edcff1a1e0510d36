-- What a host in memory answers to takes and puts: the answers of its script in order, cut to what is there. (own)
use Rattle.std.specs.Prelude.{◌≡◌, ℕ, ◌-◌, ◌^◌, min, Bool, cond, List, [], ◌∷◌, Result, Ok, Err}
use Rattle.std.specs.declared.alloc.AllocError.{AllocError}
use Rattle.outside.specs.declared.answer.Answer.{Answer}
use Rattle.outside.specs.declared.answer.Answer.TheVariants.{Take, Fail}
use Rattle.outside.specs.Environment.{answers_after}

-- The most bytes that an answer can say.
abbrev pub most_taken : ℕ
most_taken = 2 ^ 32 - 1

-- An answer where so many bytes are there.
abbrev pub limited : ℕ → Answer → Answer
limited there (Take k) = Take (min k there)
limited there (Fail e) = Fail e

-- The next answer of a script; where none is left, all that is there.
abbrev pub answer_by : List Answer → ℕ → Answer
answer_by [] there = Take there
answer_by (x ∷ xs) there = limited there x

-- The answer to a call: one that is to fail answers 5 (Linux: EIO), and any other the next answer of the script.
abbrev pub scripted_answer : Bool → List Answer → ℕ → Answer
scripted_answer fails script there = cond fails (Fail 5) (answer_by script there)

-- What is left of the script: a call that is to fail uses up no answer.
abbrev pub script_after : Bool → List Answer → List Answer
script_after fails script = cond fails script (answers_after script)

-- The answer to a call, and what is left of the script. Where memory is wanting the script stays.
abbrev pub AnswersByScript : Bool → ℕ → Result Answer AllocError → List Answer → List Answer → Type 0
AnswersByScript fails there (Ok answer) before now = (answer ≡ scripted_answer fails before (min there most_taken)) × (now ≡ script_after fails before)
AnswersByScript fails there (Err _) before now = now ≡ before
