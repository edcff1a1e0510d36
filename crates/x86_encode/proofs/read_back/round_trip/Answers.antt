use Rattle.std.proofs.Common.{arith}
use Rattle.x86_encode.proofs.read_back.round_trip.Goals as goal

pub returns : goal.returns
returns c = record {
  back = record {
    len = c.encode.result;
    best = c.encode.ensures.best;
    is = (c.decode.ensures.one c.args.instr.now c.encode.result).1 (record { there = omega (arith, c.encode.ensures.short, c.encode.array_long); spells = c.encode.ensures.best.spells });
  };
}
