-- What was fetched stands at its address, whatever was kept with it.
use Rattle.std.proofs.Common.{◌≡◌, ℕ, Option, Some, None, slice_get, sym, ap, ◌∙◌, subst, inl, inr, arith}
use Rattle.std.proofs.lemmas.Option.{slice_get_cases}
use Rattle.x86_machine.specs.declared.kept.KeptInstr.{KeptInstr}
use Rattle.x86_machine.specs.Kept.{KeptContents, IsFetched, IsKeptAt, code_by}

module _ (at : ℕ) (found : Option ℕ) (c d : KeptContents) (same : d.segments ≡ c.segments) (fetched : IsFetched at found d) where
  pub stands : (index : ℕ) (k : KeptInstr) → found ≡ Some index → slice_get d.kept index ≡ Some k → code_by c.segments at ≡ Some (k.instr, k.len)
  stands index k is got = sym (ap (λ ss. code_by ss at) same) ∙ (subst (λ (o : Option ℕ). IsFetched at o d) is fetched).stands k got

  pub none_stands : found ≡ None → code_by c.segments at ≡ None
  none_stands is = sym (ap (λ ss. code_by ss at) same) ∙ subst (λ (o : Option ℕ). IsFetched at o d) is fetched

  pub some_stands : (index : ℕ) → found ≡ Some index → (k : KeptInstr) × (code_by c.segments at ≡ Some (k.instr, k.len))
  some_stands index is =
      let here : IsKeptAt at index d = subst (λ (o : Option ℕ). IsFetched at o d) is fetched in
      elim ((slice_get_cases d.kept index).1) [ inl x ↦ (x.0, stands index x.0 is x.2) | inr past ↦ absurd (omega (arith, here.within, past.0)) ]
