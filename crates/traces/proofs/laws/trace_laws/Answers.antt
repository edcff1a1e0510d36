use Rattle.traces.proofs.Lists.{events-append, turns-append, taken-append, input_left-append}
use Rattle.traces.proofs.laws.trace_laws.Goals as goal

pub returns : goal.returns
returns c = record { events_append = events-append; turns_append = turns-append; taken_append = taken-append; input_left_append = input_left-append }
