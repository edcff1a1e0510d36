-- What the turns of code cost, read off its text. All of this is own.
use Rattle.std.specs.Prelude.{◌≡◌, ◌≢◌, ℕ, ◌+◌, ◌≤◌, ◌==◌, max, true, false, cond, List, [], ◌∷◌, All, Option, Some, None}
use Rattle.x86_types.specs.declared.instr.Instr.{Instr}
use Rattle.x86_types.specs.declared.instr.Instr.TheVariants as instr
use Rattle.x86_meaning.specs.Outcomes.{Way, Falls, JumpsBy, JumpsTo, Repeats, Calls}
use Rattle.named_code.specs.Items.{Item, CodeBlock}
use Rattle.named_code.specs.Running.{CodePoint, AtNumber, AtOld, Inside, CodePosition, Marks, block_of_number, block_at}

-- ---- where a run goes on behind an instruction: at the next one, at a block, at either of both, at an old address, or maybe at the
-- same instruction again
pub data Course : Type 0 where
  Next : Course
  ToBlock : (number : ℕ) → Course
  Either : (number : ℕ) → Course
  ToOld : Course
  Again : Course

abbrev pub course_of : Instr → Course
course_of (instr.Alu op w to from) = Next
course_of (instr.Test w left right) = Next
course_of (instr.Mov w to from) = Next
course_of (instr.Lea w to at) = Next
course_of (instr.Inc w to) = Next
course_of (instr.Dec w to) = Next
course_of (instr.Not w to) = Next
course_of (instr.Neg w to) = Next
course_of (instr.Mul w from) = Next
course_of (instr.ImulWide w from) = Next
course_of (instr.Div w from) = Next
course_of (instr.Idiv w from) = Next
course_of (instr.Imul w to from) = Next
course_of (instr.ImulBy w to from by) = Next
course_of (instr.Shift op w to n) = Next
course_of (instr.Shld to from n) = Next
course_of (instr.Shrd to from n) = Next
course_of (instr.Push from) = Next
course_of (instr.Pop to) = Next
course_of (instr.Xchg w left right) = Next
course_of (instr.Movzx wide w to from) = Next
course_of (instr.Movsx wide w to from) = Next
course_of (instr.Cmov c w to from) = Next
course_of (instr.Setcc c to) = Next
course_of (instr.Extend w) = Next
course_of (instr.Spread w) = Next
course_of (instr.Bsf w to from) = Next
course_of (instr.Bsr w to from) = Next
course_of (instr.Bswap to) = Next
course_of (instr.Movs w true) = Again
course_of (instr.Movs w false) = Next
course_of (instr.Stos w true) = Again
course_of (instr.Stos w false) = Next
course_of (instr.Jmp by) = ToBlock by
course_of (instr.JmpTo to) = ToOld
course_of (instr.CallTo to) = ToOld
course_of (instr.Jcc c by) = Either by
course_of (instr.Call by) = ToBlock by
course_of (instr.Ret drop) = ToOld
course_of instr.Leave = Next
course_of instr.Int80 = Next
course_of instr.Cld = Next
course_of instr.Nop = Next

-- ---- a way is one of a course
abbrev pub IsWayOf : Course → Way → Type 0
IsWayOf Next Falls = Unit {0}
IsWayOf Next Calls = Unit {0}
IsWayOf Next (JumpsBy by) = ⊥
IsWayOf Next (JumpsTo at) = ⊥
IsWayOf Next Repeats = ⊥
IsWayOf (ToBlock n) (JumpsBy by) = by ≡ n
IsWayOf (ToBlock n) Falls = ⊥
IsWayOf (ToBlock n) Calls = ⊥
IsWayOf (ToBlock n) (JumpsTo at) = ⊥
IsWayOf (ToBlock n) Repeats = ⊥
IsWayOf (Either n) (JumpsBy by) = by ≡ n
IsWayOf (Either n) Falls = Unit {0}
IsWayOf (Either n) Calls = ⊥
IsWayOf (Either n) (JumpsTo at) = ⊥
IsWayOf (Either n) Repeats = ⊥
IsWayOf ToOld (JumpsTo at) = Unit {0}
IsWayOf ToOld (JumpsBy by) = ⊥
IsWayOf ToOld Falls = ⊥
IsWayOf ToOld Calls = ⊥
IsWayOf ToOld Repeats = ⊥
IsWayOf Again w = Unit {0}

-- ---- the longest way through a list of items to the next turn
-- what is left of the turn behind a jump to a block, where so much is left for a block that begins none
abbrev pub left_at : Marks → (ℕ → ℕ) → ℕ → ℕ
left_at marks rest number = cond (marks number == 0) (rest number) 0

-- what is left of it behind an item, where so much is left at the next one; a jump to an old address begins a turn
abbrev pub most_behind : Course → (ℕ → ℕ) → ℕ → ℕ
most_behind Next left next = next
most_behind (ToBlock number) left next = left number
most_behind (Either number) left next = max (left number) next
most_behind ToOld left next = 0
most_behind Again left next = next

abbrev pub most : (Item → ℕ) → (ℕ → ℕ) → List Item → ℕ
most cost left [] = 0
most cost left (x ∷ xs) = cost x + most_behind (course_of x.instr) left (most cost left xs)

-- ---- the cost of some items together
abbrev pub items_cost : (Item → ℕ) → List Item → ℕ
items_cost cost [] = 0
items_cost cost (x ∷ xs) = cost x + items_cost cost xs

-- ---- the cost of a step
abbrev pub first_cost : (Item → ℕ) → List Item → ℕ
first_cost cost [] = 0
first_cost cost (x ∷ xs) = cost x

abbrev pub entry_cost : (Item → ℕ) → Option CodeBlock → ℕ
entry_cost cost None = 0
entry_cost cost (Some b) = first_cost cost b.items

abbrev pub cost_at : (Item → ℕ) → List CodeBlock → CodePoint → ℕ
cost_at cost code (AtNumber n) = entry_cost cost (block_of_number n code)
cost_at cost code (AtOld a) = entry_cost cost (block_at a code)
cost_at cost code (Inside items) = first_cost cost items

abbrev pub step_cost : (Item → ℕ) → List CodeBlock → CodePosition → ℕ
step_cost cost code p = cost_at cost code p.point

-- ---- a weight that is read off the text
-- the longest way through a block is within what is left for it, or within the weight where it begins a turn
abbrev pub LongestWayFits : Marks → (Item → ℕ) → (ℕ → ℕ) → ℕ → CodeBlock → Type 0
LongestWayFits marks cost rest w b = most cost (left_at marks rest) b.items ≤ cond (marks b.number == 0) (rest b.number) w

-- no item comes again at once: no string instruction repeats
abbrev pub IsOnce : Item → Type 0
IsOnce x = course_of x.instr ≢ Again

pub record IsBounded (marks : Marks) (cost : Item → ℕ) (rest : ℕ → ℕ) (w : ℕ) (b : CodeBlock) : Type 0 where
  pub within : LongestWayFits marks cost rest w b
  -- a block that is entered from an old address begins a turn
  pub entered : b.at ≢ 0 → marks b.number ≢ 0
  pub once : All IsOnce b.items

-- each turn of the code costs at most w, where what is given for the blocks that begin none is enough for each way on from there
abbrev pub BoundsCode : Marks → (Item → ℕ) → (ℕ → ℕ) → ℕ → List CodeBlock → Type 0
BoundsCode marks cost rest w code = All (IsBounded marks cost rest w) code
