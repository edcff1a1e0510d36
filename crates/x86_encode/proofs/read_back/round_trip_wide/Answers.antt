use Rattle.std.proofs.Common.{arith}
use Rattle.x86_encode.proofs.read_back.round_trip_wide.Goals as goal

pub returns : goal.returns
returns c = record {
  back = record {
    len = c.encode_wide.result;
    best = c.encode_wide.ensures.best;
    is = (c.decode.ensures.one c.args.instr.now c.encode_wide.result).1 (record { there = omega (arith, c.encode_wide.ensures.short, c.encode_wide.array_long); spells = c.encode_wide.ensures.best.spells.spells });
  };
}
