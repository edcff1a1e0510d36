use Rattle.code_agreement.proofs.Agreeing as agreeing
use Rattle.code_agreement.proofs.laws.agreement_law.Goals as goal

pub returns : goal.returns
returns c =
    agreeing.law
    (record {
      units = c.unit_laws.ensures;
      beginning = c.beginning_laws.ensures;
      laid = c.laid_laws.ensures;
      tested = c.tested_laws.ensures;
      usual = c.usual_laws.ensures;
      bounds = c.bound_laws.ensures;
      composition = c.composition_laws.ensures;
      turns = c.turn_laws.ensures;
      programs = c.program_laws.ensures;
      runs = c.run_laws.ensures;
      itself = c.simulation_laws.ensures tt;
    })
