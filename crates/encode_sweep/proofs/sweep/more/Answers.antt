use Rattle.std.proofs.Common.{sym}
use Rattle.std.proofs.lemmas.List.{length-take-le}
use Rattle.encode_sweep.proofs.sweep.more.Goals as goal

pub slice_bounds-recode-end : goal.slice_bounds-recode-end
slice_bounds-recode-end c =
    let front = (c.decode.ensures.one c.in-One.instr c.in-One.length).0 c.in-One.is in
    sym (length-take-le c.in-One.length c.args.bytes.now front.there)
