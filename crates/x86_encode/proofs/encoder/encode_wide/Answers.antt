use Rattle.x86_encode.proofs.encoder.encode_wide.Goals as goal

pub returns-clause-best : goal.returns-clause-best
returns-clause-best c = (c.best_laws.ensures.laws.is_wide c.args.instr.now c.requires.spelled _).1 c.put_best.ensures.bytes
