use Rattle.x86_meaning.proofs.ComputedLess.{ValueLaws}
use Rattle.x86_meaning.proofs.EffectLess.{effect_less}
use Rattle.x86_meaning.proofs.StepLess.{step_less}
use Rattle.x86_meaning.proofs.laws.monotone_laws.Goals as goal

pub returns : goal.returns
returns c =
    let values : ValueLaws = record {
      words = c.word_laws.ensures;
      less = c.less_specified_laws.ensures;
      sums = c.sum_laws.ensures;
      logic = c.logic_laws.ensures;
      shifts = c.shift_laws.ensures;
      double_shifts = c.double_shift_laws.ensures;
      products = c.product_laws.ensures;
      divisions = c.division_laws.ensures;
      scans = c.scan_laws.ensures;
      extensions = c.extension_laws.ensures;
      conditions = c.condition_laws.ensures;
    } in
    let memories = c.less_specified_memory_laws.ensures in
    record {
      effect_less = λ v i n p q l m h k. effect_less values memories i n p q l m h k v;
      step_less = step_less values memories c.call_laws.ensures;
    }
