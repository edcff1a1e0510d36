-- What fits where two machines meet.
use Rattle.std.specs.Prelude.{◌≢◌, ℕ, List, [], ◌∷◌, ◌++◌, Option, Some}
use Rattle.traces.specs.Trace.{Label, Turn, GuardKind, End, Unspecified, Guard, Stopped, Seen, seen}
use Rattle.traces.specs.Meeting.{Ahead, SeenRefines, SeenRefinesCut}

-- the laws of what is seen at a meeting
pub record MeetingLaws : Type 0 where
  -- a trace is ahead of itself, and so is a longer one
  pub ahead_itself : (a : List Label) → Ahead a a
  pub ahead_more : (a b rest : List Label) → Ahead a b → Ahead a (b ++ rest)
  -- the same labels may stand before both
  pub ahead_on : (ls a b : List Label) → Ahead a b → Ahead (ls ++ a) (ls ++ b)
  -- what is seen refines itself
  pub refines_itself : (c : Seen) → SeenRefines c c
  -- a run that used an unspecified value is refined by whatever shows its labels first
  pub refines_unspecified : (ls rest : List Label) (end : Option End) → SeenRefines (seen ls (Some Unspecified)) (seen (ls ++ rest) end)
  -- a cut run that hasn't ended by a guard event is refined by what shows the same
  pub cut_itself : (reports : ℕ) (c : Seen) → ((k : GuardKind) (a : ℕ) → c.end ≢ Some (Guard k a)) → SeenRefinesCut reports c c
  pub cut_unspecified : (reports : ℕ) (ls rest : List Label) (end : Option End) → SeenRefinesCut reports (seen ls (Some Unspecified)) (seen (ls ++ rest) end)
  -- a guard event is refined by a stop at its address, at once or where a turn begins there
  pub cut_stop : (reports : ℕ) (ls : List Label) (k : GuardKind) (a : ℕ) → SeenRefinesCut reports (seen ls (Some (Guard k a))) (seen ls (Some (Stopped a)))
  pub cut_stop_turn : (ls : List Label) (k : GuardKind) (a : ℕ) → SeenRefinesCut 0 (seen ls (Some (Guard k a))) (seen (ls ++ Turn a ∷ []) (Some (Stopped a)))
