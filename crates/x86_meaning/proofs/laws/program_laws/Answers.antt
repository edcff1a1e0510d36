use Rattle.x86_meaning.proofs.Moves as moves
use Rattle.x86_meaning.proofs.laws.program_laws.Goals as goal

pub returns : goal.returns
returns c =
    let calls = c.call_laws.ensures in
    let runs = c.run_laws.ensures in
    let of_moves = c.move_laws.ensures in
    record {
      grow = moves.grow calls runs of_moves;
      never_stop = moves.never_stop calls runs of_moves;
      no_guard = moves.no_guard calls runs of_moves;
      input_left = moves.input_reached calls of_moves;
      tick = moves.tick calls runs of_moves;
      paced = moves.paced calls runs of_moves;
    }
