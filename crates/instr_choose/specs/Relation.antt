-- A lowered unit's storage beside the places of its variables, and what a list owes to its operation. All of this is own.
use Rattle.std.specs.Prelude.{◌≡◌, ◌≢◌, ℕ, ◌≤◌, List, [], ◌∷◌, ◌++◌, length, All, map, Result, Ok, Err}
use Rattle.outside.specs.Environment.{IsEnvironment}
use Rattle.x86_values.specs.LessSpecified.{WordLessSpecified}
use Rattle.traces.specs.Trace.{Label, End, Go, Halt, Unspecified}
use Rattle.memory.specs.LessSpecified.{MemoryLessSpecified}
use Rattle.flag_ir.specs.declared.variable.Var.{Var}
use Rattle.flag_ir.specs.declared.operation.Op.{Op}
use Rattle.flag_ir.specs.declared.block.Exit.{Exit}
use Rattle.flag_ir.specs.Storage.{Storage, var_in}
use Rattle.flag_ir.specs.Operations.{perform, performs, shown_by, shown_by_all}
use Rattle.flag_ir.specs.Form.{IsVar, IsOp, IsFrameless}
use Rattle.named_code.specs.Items.{Item, named_item, name_place}
use Rattle.named_code.specs.Running.{CodeState, CodePoint, standing_at, act}
use Rattle.instr_choose.specs.Lists.{name_of, choose_op, choose_ops}
use Rattle.instr_choose.specs.Blocks.{choose_exit}

abbrev pub place_of_var : Var → ℕ
place_of_var v = name_place (name_of v)

-- what the storage knows stands in the places of the names; the places of the registers may hold anything
pub record IsBelow (u : Storage) (s : CodeState) : Type 0 where
  pub vars : (v : Var) → IsVar 0 v → WordLessSpecified (var_in v u) (s.cpu.regs (place_of_var v))
  pub memory : MemoryLessSpecified u.memory s.memory
  pub left : u.left ≡ s.left
  pub environment : IsEnvironment u.left
  pub frames : u.frames ≡ []

-- ---- lists of items that don't jump, wherever they stand: they go from a state to another and show these labels, or one of them
-- comes to an end before anything is shown
pub data PassesList : List Item → CodeState → List Label → CodeState → Type 0 where
  done : (s : CodeState) → PassesList [] s [] s
  more : (x : Item) (xs : List Item) (s : CodeState) (ls : List Label) (t : CodeState) (ks : List Label) (u : CodeState) → ((rest : List Item) → act x rest s ≡ Go ls (standing_at (CodePoint.Inside rest) t)) → PassesList xs t ks u → PassesList (x ∷ xs) s (ls ++ ks) u

pub data ListEnds : List Item → CodeState → End → Type 0 where
  here : (x : Item) (xs : List Item) (s : CodeState) (e : End) → ((rest : List Item) → act x rest s ≡ Halt [] e) → ListEnds (x ∷ xs) s e
  later : (x : Item) (xs : List Item) (s : CodeState) (t : CodeState) (e : End) → ((rest : List Item) → act x rest s ≡ Go [] (standing_at (CodePoint.Inside rest) t)) → ListEnds xs t e → ListEnds (x ∷ xs) s e

-- the list passes to a state that the result is below
pub record PassesTo (xs : List Item) (s : CodeState) (ls : List Label) (u : Storage) : Type 0 where
  pub state : CodeState
  pub passes : PassesList xs s ls state
  pub below : IsBelow u state

-- ---- what a list owes: where the operation goes on, the list does, and shows the same; where it ends, the list does so. Nothing is
-- asked where an unspecified value was used
abbrev pub IsMetByList : Result Storage End → List Label → List Item → CodeState → Type 0
IsMetByList (Ok u) ls xs s = PassesTo xs s ls u
IsMetByList (Err e) ls xs s = (e ≢ Unspecified) → ListEnds xs s e

-- ---- the same of several operations. Where one ends, the instructions before its list have shown what was shown before it
pub record Stops (xs : List Item) (s : CodeState) (ls : List Label) (e : End) : Type 0 where
  pub front : List Item
  pub rest : List Item
  pub is : xs ≡ front ++ rest
  pub state : CodeState
  pub passes : PassesList front s ls state
  pub fails : e ≢ Unspecified → ListEnds rest state e

abbrev pub AreMetBy : Result Storage End → List Label → List Item → CodeState → Type 0
AreMetBy (Ok u) ls xs s = PassesTo xs s ls u
AreMetBy (Err e) ls xs s = Stops xs s ls e

-- ---- the laws of the chosen lists
pub record ChoosingLaws : Type 0 where
  -- from each storage that is below the places each operation of a lowered unit is met by its list
  pub meets : (turn : ℕ) (o : Op) (u : Storage) (s : CodeState) → IsOp 0 o → IsFrameless o → IsBelow u s → IsMetByList (perform turn o u) (shown_by o u) (map named_item (choose_op o)) s
  -- and so are several, one behind the other
  pub lists_meet : (turn : ℕ) (ops : List Op) (u : Storage) (s : CodeState) → All (IsOp 0) ops → All IsFrameless ops → IsBelow u s → AreMetBy (performs turn ops u) (shown_by_all turn ops u) (map named_item (choose_ops ops)) s
  -- the most instructions that an operation and an exit become
  pub op_length : (o : Op) → length (choose_op o) ≤ 11
  pub exit_length : (e : Exit) → length (choose_exit e) ≤ 4
