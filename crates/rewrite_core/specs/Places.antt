-- The places of a page of code, as distances from its first byte, and the new code in which each has a new place.
use Rattle.std.specs.Prelude.{◌≡◌, ◌⊎◌, ℕ, ◌+◌, ◌-◌, ◌%◌, ◌≤◌, ◌&&◌, Bool, not, cond, leb, ltb, List, [], ◌∷◌, ◌++◌, length, take, drop, Option, Some, None}
use Rattle.x86_types.specs.declared.operand.Rm.TheVariants as rm
use Rattle.x86_types.specs.declared.operand.Src.TheVariants as src
use Rattle.x86_types.specs.declared.width.Width.TheVariants.{Four}
use Rattle.x86_types.specs.declared.instr.Instr.{Instr}
use Rattle.x86_types.specs.declared.instr.Instr.TheVariants.{Mov, Jmp, Int80}
use Rattle.byte_lists.specs.LittleEndian.{word_bytes}
use Rattle.x86_grammar.specs.Front.{front}
use Rattle.rewrite_core.specs.declared.places.Judgement.{Judgement}
use Rattle.rewrite_core.specs.declared.places.Judgement.TheVariants.{GoesOn, Jumps, Ends, LeftOut}
use Rattle.rewrite_core.specs.Met.{is_taken_byte}

-- a constant that is no address of the written file's own
abbrev pub is_apart : ℕ → Bool
is_apart n = not (leb 0x60000000 n && ltb n 0x7C000000)

-- 0F 0B (UD2) is no instruction of the list, so a run that comes there ends
abbrev pub stop : List ℕ
stop = 0x0F ∷ 0x0B ∷ []

-- the address of the page
abbrev pub page_start : ℕ
page_start = 0x08049000

-- The place to which a jump leads, p being the place after it. No instruction stands outside the page, nor at its end, so a
-- jump out of it leads to its end.
abbrev pub place_of : ℕ → ℕ
place_of a = cond (leb page_start a && ltb a (page_start + 4096)) (a - page_start) 4096

abbrev pub target_of : ℕ → ℕ → ℕ
target_of p by = place_of ((page_start + p + by) % 4294967296)

abbrev pub judged_as : ℕ → Instr → ℕ → Judgement
judged_as p (Mov Four (rm.Reg to) (src.Imm from)) len = cond (is_apart from) (GoesOn len) LeftOut
judged_as p Int80 len = GoesOn len
judged_as p (Jmp by) len = Jumps (target_of (p + len) by)
judged_as p _ len = LeftOut

abbrev pub judged_by : ℕ → Option (Instr × ℕ) → Judgement
judged_by p None = Ends
judged_by p (Some i) = judged_as p i.0 i.1

-- what stands at a place: an instruction of so many bytes after which the run goes on, a jump to a place, nothing, or what
-- isn't taken yet
unfoldable pub judged_from : ℕ → List ℕ → Judgement
judged_from p [] = Ends
judged_from p (b ∷ bs) = cond (is_taken_byte b) (judged_by p (front (b ∷ bs))) LeftOut

abbrev pub judged_at : List ℕ → ℕ → Judgement
judged_at page p = judged_from p (drop p page)

-- the places that a run from the first one can reach
pub data Reached (page : List ℕ) : ℕ → Type 0 where
  first : Reached page 0
  on : {p : ℕ} → (len : ℕ) → Reached page p → judged_at page p ≡ GoesOn len → Reached page (p + len)
  jump : {p : ℕ} → (to : ℕ) → Reached page p → judged_at page p ≡ Jumps to → Reached page to

-- those of them before which no jump stands: the straight list from the first place
pub data Straight (page : List ℕ) : ℕ → Type 0 where
  first_of : Straight page 0
  then_on : {p : ℕ} → (len : ℕ) → Straight page p → judged_at page p ≡ GoesOn len → Straight page (p + len)

-- some place that can be reached isn't taken yet
pub record IsLeftOut (page : List ℕ) : Type 0 where
  pub at : ℕ
  pub reached : Reached page at
  pub left_out : judged_at page at ≡ LeftOut

-- at a new place stands E9 rel32 to another
abbrev pub IsJump : List ℕ → ℕ → ℕ → Type 0
IsJump code q to = take 5 (drop q code) ≡ 0xE9 ∷ word_bytes ((to + 4294967296 - (q + 5)) % 4294967296)

-- which new place each place has, if it has one
abbrev pub Table : Type 0
Table = ℕ → Option ℕ

-- a place has a new place, to which a jump stands at q
pub record JumpsTo (code : List ℕ) (table : Table) (q p : ℕ) : Type 0 where
  pub to : ℕ
  pub at : table p ≡ Some to
  pub jump : IsJump code q to

-- the run of the code goes on at the new place of p: it is q, or a jump to it stands there
abbrev pub Continues : List ℕ → Table → ℕ → ℕ → Type 0
Continues code table q p = (table p ≡ Some q) ⊎ JumpsTo code table q p

-- what stands at the new place of p
abbrev pub StandsFor : List ℕ → List ℕ → Table → ℕ → ℕ → Judgement → Type 0
StandsFor page code table p q (GoesOn len) = (take len (drop q code) ≡ take len (drop p page)) × Continues code table (q + len) (p + len)
StandsFor page code table p q (Jumps to) = JumpsTo code table q to
StandsFor page code table p q Ends = take 2 (drop q code) ≡ stop
StandsFor page code table p q LeftOut = ⊥

-- The new code of a page: the first place stands first, and at each new place stands what stood at the old one, with jumps
-- laid anew, followed by the new place of what followed it. Code that is one straight list keeps its bytes.
pub record IsLaid (page code : List ℕ) : Type 0 where
  pub table : Table
  pub first : table 0 ≡ Some 0
  pub stands : (p q : ℕ) → table p ≡ Some q → (p ≤ length page) × StandsFor page code table p q (judged_at page p)
  pub straight : (n : ℕ) → Straight page n → judged_at page n ≡ Ends → code ≡ take n page ++ stop
  pub some : 1 ≤ length code
  pub few : length code ≤ 65536
