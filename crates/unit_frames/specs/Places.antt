-- What accesses of fixed places of the innermost frame come to. All of this is own.
use Rattle.std.specs.Prelude.{ℕ, Bool, true, false, List, [], ◌∷◌, Option, Some, None, Result, Ok, Err}
use Rattle.x86_values.specs.declared.word.Word.{Word}
use Rattle.traces.specs.Trace.{End, Outside}
use Rattle.flag_ir.specs.Storage.{Frame, Storage}
use Rattle.flag_ir.specs.declared.procedure.Proc.{Proc}
use Rattle.flag_ir.specs.Entering.{is_within_caller}
use Rattle.unit_frames.specs.declared.frame.OpenFrame.{OpenFrame}

abbrev pub innermost_height : List OpenFrame → Option ℕ
innermost_height [] = None
innermost_height (f ∷ more) = Some f.height

abbrev pub got : Option Word → Result Word End
got None = Err Outside
got (Some w) = Ok w

abbrev pub put_comes : Bool → Storage → List Frame → Result Storage End
put_comes true u frames = Ok (record u { frames = frames })
put_comes false u frames = Err Outside

-- the procedure that runs, by its index
abbrev pub innermost_proc : List OpenFrame → Option ℕ
innermost_proc [] = None
innermost_proc (f ∷ more) = Some f.proc

-- the words from the caller of a call stand in the innermost frame
abbrev pub holds_call : ℕ → Proc → List Frame → Bool
holds_call height p [] = false
holds_call height p (f ∷ more) = is_within_caller height p f
