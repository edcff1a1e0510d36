-- What is counted in a trace that is made of two.
use Rattle.std.specs.Prelude.{◌≡◌, ℕ, ◌+◌, List, ◌++◌}
use Rattle.traces.specs.Trace.{Label, events, turns, taken, input_left}

-- the laws of traces
pub record TraceLaws : Type 0 where
  -- its events are those of the first and then those of the second
  pub events_append : (a b : List Label) → events (a ++ b) ≡ events a ++ events b
  -- its turns are those of both
  pub turns_append : (a b : List Label) → turns (a ++ b) ≡ turns a + turns b
  -- its taken answers are those of both
  pub taken_append : (a b : List Label) → taken (a ++ b) ≡ taken a + taken b
  -- the second takes its bytes from the input that the first leaves
  pub input_left_append : (input : List ℕ) (a b : List Label) → input_left input (a ++ b) ≡ input_left (input_left input a) b
