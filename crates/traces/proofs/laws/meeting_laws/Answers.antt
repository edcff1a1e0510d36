use Rattle.traces.proofs.Turns.{ahead_refl, ahead_more, ahead_on}
use Rattle.traces.proofs.Fits.{refines_itself, refines_unspecified, cut_itself, cut_unspecified, cut_stop, cut_stop_turn}
use Rattle.traces.proofs.laws.meeting_laws.Goals as goal

pub returns : goal.returns
returns c = record {
  ahead_itself = ahead_refl;
  ahead_more = ahead_more;
  ahead_on = ahead_on;
  refines_itself = refines_itself;
  refines_unspecified = refines_unspecified;
  cut_itself = cut_itself;
  cut_unspecified = cut_unspecified;
  cut_stop = cut_stop;
  cut_stop_turn = cut_stop_turn;
}
