-- How the blocks of a whole program are numbered and made. The blocks of the places come first, in the order of the places, so that the
-- number of such a block is the index of its place. Further blocks follow them. All of this is own.
use Rattle.std.specs.Prelude.{◌≡◌, ℕ, ◌+◌, ◌<◌, ◌⊎◌, List, [], ◌∷◌, ◌++◌, length, slice_get, Contains, Some}
use Rattle.flag_ir.specs.declared.variable.Term.{Term}
use Rattle.flag_ir.specs.declared.variable.Term.TheVariants as term
use Rattle.flag_ir.specs.declared.operation.Op.{Op}
use Rattle.flag_ir.specs.declared.block.Block.{Block}
use Rattle.flag_ir.specs.declared.block.Exit.{Exit}
use Rattle.flag_ir.specs.declared.block.Exit.TheVariants as exit
use Rattle.plan_types.specs.declared.place.Place.{Place}
use Rattle.plan_types.specs.Ascending.{addresses_of}
use Rattle.lift_core.specs.declared.way.Way.{Way}
use Rattle.lift_core.specs.declared.way.Way.TheVariants as way
use Rattle.lift_core.specs.Lists.{lift_of, way_of}
use Rattle.lift_core.specs.Whole.{Lifting, OnlyJumps}

-- ---- numbers
-- a block that only jumps to an old address
abbrev pub jump_to : ℕ → ℕ → Block
jump_to number a = record { number = number; at = 0; ops = []; exit = exit.Jump (term.Word a) }

-- an address gets its number: that of its place, or that of a new block that only jumps there, behind the ones that were there
pub record IsOfPlace (code : List Place) (old new : List Block) (a number : ℕ) : Type 0 where
  pub place : slice_get (addresses_of code) number ≡ Some a
  pub same : new ≡ old

pub record IsAdded (first : ℕ) (old new : List Block) (a number : ℕ) : Type 0 where
  pub last : number ≡ first + length old
  pub added : new ≡ old ++ jump_to number a ∷ []

abbrev pub GetsNumber : List Place → ℕ → List Block → List Block → ℕ → ℕ → Type 0
GetsNumber code first old new a number = IsOfPlace code old new a number ⊎ IsAdded first old new a number

-- a number is that of one of some blocks, the first of which is numbered `first`; it only jumps to the address
pub record IsJumpNumber (first : ℕ) (blocks : List Block) (number a : ℕ) : Type 0 where
  pub index : ℕ
  pub block : Block
  pub number_is : number ≡ first + index
  pub there : slice_get blocks index ≡ Some block
  pub jumps : OnlyJumps a block

-- a number leads to an address: it is that of its place, or that of such a block
abbrev pub Leads : List Place → ℕ → List Block → ℕ → ℕ → Type 0
Leads code first blocks number a = (slice_get (addresses_of code) number ≡ Some a) ⊎ IsJumpNumber first blocks number a

-- a block with a number only jumps somewhere
pub record IsJump (number : ℕ) (b : Block) : Type 0 where
  pub number_is : b.number ≡ number
  pub to : ℕ
  pub jumps : OnlyJumps to b

-- the numbers of two addresses, with the blocks that are made for them
pub record AreTargets (code : List Place) (first a b yes no : ℕ) (jumps : List Block) : Type 0 where
  pub first_leads : Leads code first jumps yes a
  pub second_leads : Leads code first jumps no b
  pub each : (k : ℕ) (d : Block) → slice_get jumps k ≡ Some d → IsJump (first + k) d

-- ---- what a way makes: the exit of the block, and further blocks, the first of which is numbered `first`
abbrev pub GoesOn : List Place → Exit → ℕ → Type 0
GoesOn code e a = ((number : ℕ) × (slice_get (addresses_of code) number ≡ Some a) × (e ≡ exit.Go number)) ⊎ (e ≡ exit.Jump (term.Word a))

pub record MakesBranch (code : List Place) (first : ℕ) (test : Term) (a b : ℕ) (e : Exit) (jumps : List Block) : Type 0 where
  pub yes : ℕ
  pub no : ℕ
  pub branches : e ≡ exit.Branch test yes no
  pub targets : AreTargets code first a b yes no jumps

-- a repeat: the block itself only tests the count, and the first further block has the list
pub record IsRepeat (first : ℕ) (ops : List Op) (count again : Term) (yes no : ℕ) (jumps : List Block) (own : List Op) (e : Exit) (further : List Block) : Type 0 where
  pub body : Block
  pub empty : own ≡ []
  pub tests : e ≡ exit.Branch count first no
  pub number_is : body.number ≡ first
  pub within : body.at ≡ 0
  pub iteration : body.ops ≡ ops
  pub branches : body.exit ≡ exit.Branch again yes no
  pub further_is : further ≡ body ∷ jumps

pub record MakesRepeat (code : List Place) (first : ℕ) (ops : List Op) (count again : Term) (here next : ℕ) (own : List Op) (e : Exit) (further : List Block) : Type 0 where
  pub yes : ℕ
  pub no : ℕ
  pub jumps : List Block
  pub targets : AreTargets code (first + 1) here next yes no jumps
  pub parts : IsRepeat first ops count again yes no jumps own e further

abbrev pub MakesWay : List Place → ℕ → List Op → Way → List Op → Exit → List Block → Type 0
MakesWay code first ops (way.On a) own e further = (own ≡ ops) × GoesOn code e a × (further ≡ [])
MakesWay code first ops (way.Either test x y) own e further = (own ≡ ops) × MakesBranch code first test x y e further
MakesWay code first ops (way.Repeat count again x y) own e further = MakesRepeat code first ops count again x y own e further
MakesWay code first ops (way.To target) own e further = (own ≡ ops) × (e ≡ exit.Jump target) × (further ≡ [])
MakesWay code first ops (way.Back target) own e further = (own ≡ ops) × (e ≡ exit.Jump target) × (further ≡ [])

-- the block of a place, with the further blocks
pub record MakesPlace (lifting : Lifting) (code : List Place) (number first : ℕ) (p : Place) (b : Block) (further : List Block) : Type 0 where
  pub number_is : b.number ≡ number
  pub at_is : b.at ≡ p.at
  pub by : MakesWay code first (lifting.list p) (lifting.way p) b.ops b.exit further

-- ---- the blocks of n places, and the further blocks behind them
pub record BranchesOn (code : List Place) (n : ℕ) (further : List Block) (test : Term) (a b : ℕ) (e : Exit) : Type 0 where
  pub yes : ℕ
  pub no : ℕ
  pub branches : e ≡ exit.Branch test yes no
  pub first_leads : Leads code n further yes a
  pub second_leads : Leads code n further no b

-- a number is that of a place, or comes behind another
abbrev pub IsBehind : List Place → ℕ → ℕ → ℕ → Type 0
IsBehind code number target a = (slice_get (addresses_of code) target ≡ Some a) ⊎ (number < target)

-- the list of a repeat, in a block of its own
pub record IsBody (code : List Place) (n : ℕ) (further : List Block) (ops : List Op) (again : Term) (here next : ℕ) (number : ℕ) (b : Block) : Type 0 where
  pub number_is : b.number ≡ number
  pub within : b.at ≡ 0
  pub iteration : b.ops ≡ ops
  pub on : BranchesOn code n further again here next b.exit
  pub first_behind : IsBehind code number on.yes here
  pub second_behind : IsBehind code number on.no next

pub record RepeatsOn (code : List Place) (n : ℕ) (further : List Block) (ops : List Op) (count again : Term) (here next : ℕ) (own : List Op) (e : Exit) : Type 0 where
  pub empty : own ≡ []
  pub index : ℕ
  pub body : Block
  pub no : ℕ
  pub tests : e ≡ exit.Branch count (n + index) no
  pub done : Leads code n further no next
  pub there : slice_get further index ≡ Some body
  pub is : IsBody code n further ops again here next (n + index) body

abbrev pub GoesWay : List Place → ℕ → List Block → List Op → Way → List Op → Exit → Type 0
GoesWay code n further ops (way.On a) own e = (own ≡ ops) × GoesOn code e a
GoesWay code n further ops (way.Either test x y) own e = (own ≡ ops) × BranchesOn code n further test x y e
GoesWay code n further ops (way.Repeat count again x y) own e = RepeatsOn code n further ops count again x y own e
GoesWay code n further ops (way.To target) own e = (own ≡ ops) × (e ≡ exit.Jump target)
GoesWay code n further ops (way.Back target) own e = (own ≡ ops) × (e ≡ exit.Jump target)

pub record IsBlockOf (lifting : Lifting) (code : List Place) (n : ℕ) (further : List Block) (k : ℕ) (p : Place) (b : Block) : Type 0 where
  pub number_is : b.number ≡ k
  pub at_is : b.at ≡ p.at
  pub goes : GoesWay code n further (lifting.list p) (lifting.way p) b.ops b.exit

-- a further block only jumps, or has the list of a place with a repeat
pub record IsBodyOf (lifting : Lifting) (code : List Place) (n : ℕ) (further : List Block) (number : ℕ) (b : Block) : Type 0 where
  pub place : Place
  pub listed : Contains code place
  pub count : Term
  pub again : Term
  pub here : ℕ
  pub next : ℕ
  pub repeats : lifting.way place ≡ way.Repeat count again here next
  pub is : IsBody code n further (lifting.list place) again here next number b

abbrev pub IsFurther : Lifting → List Place → ℕ → List Block → ℕ → Block → Type 0
IsFurther lifting code n further number b = IsJump number b ⊎ IsBodyOf lifting code n further number b

-- the blocks of the first places are made, with those that they take
pub record AreMade (lifting : Lifting) (code : List Place) (n made : ℕ) (blocks further : List Block) : Type 0 where
  pub count : length blocks ≡ made
  pub places : (k : ℕ) (p : Place) (b : Block) → slice_get code k ≡ Some p → slice_get blocks k ≡ Some b → IsBlockOf lifting code n further k p b
  pub each : (k : ℕ) (b : Block) → slice_get further k ≡ Some b → IsFurther lifting code n further (n + k) b

-- all of them
pub record AreBlocksOf (lifting : Lifting) (code : List Place) (whole : List Block) : Type 0 where
  pub blocks : List Block
  pub further : List Block
  pub whole_is : whole ≡ blocks ++ further
  pub made : AreMade lifting code (length code) (length code) blocks further

-- ---- the lists and the ways of the instructions
abbrev pub lifting_of_places : Lifting
lifting_of_places = record { list = λ p. lift_of p.instr p.at p.len; way = λ p. way_of p.instr p.at p.len }
