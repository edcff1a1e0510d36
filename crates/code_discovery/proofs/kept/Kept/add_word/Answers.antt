use Rattle.std.proofs.Common.{◌≡◌, ℕ, true, Contains, Some, sym, subst}
use Rattle.image.specs.Addresses.{can_run}
use Rattle.plan_types.specs.FoundCode as spec
use Rattle.plan_types.specs.FoundCode.{word_at}
use Rattle.code_discovery.proofs.kept.Kept.add_word.Goals as goal
use Rattle.code_discovery.proofs.kept.Kept.add_word.Goals.{else-can_run-via-then-can_run+then-not-has_procedure+else-is_clear, else-can_run-via-then-can_run+else-not-has_procedure, else-can_run-via-else-can_run}

pub add_procedure-requires-clause-leads : goal.add_procedure-requires-clause-leads
add_procedure-requires-clause-leads c = λ s. spec.given (
  c.requires.stored,
  record {
    at = c.args.at;
    aligned = c.requires.aligned;
    word = sym c.in-Some.ensures.word;
    runs = sym c.if-can_run.ensures.can;
    apart = c.requires.apart c.args.at ((c.requires.extents c.args.at).0 (c.is_clear.ensures.0 c.if-is_clear.true));
  },
) s

pub add_procedure-requires-clause-named : goal.add_procedure-requires-clause-named
add_procedure-requires-clause-named c = λ s. spec.given (
  c.requires.stored,
  record {
    at = c.args.at;
    aligned = c.requires.aligned;
    word = sym c.in-Some.ensures.word;
    runs = sym c.if-can_run.ensures.can;
    apart = c.requires.apart c.args.at ((c.requires.extents c.args.at).0 (c.is_clear.ensures.0 c.if-is_clear.true));
  },
) s

pub returns-else-can_run-clause-kept : goal.returns-else-can_run-clause-kept
returns-else-can_run-clause-kept c =
    let word_is : (a : ℕ) → word_at c.args.scan.now c.args.at ≡ Some a → a ≡ c.in-Some.word = λ a there. let found = c.in-Some.ensures.word in cc in
    elim c.else-can_run.branch [
      | else-can_run-via-then-can_run+then-not-has_procedure+else-is_clear w ↦ record { kept = λ a there runs apart s. let clear = w.is_clear.ensures.1 ((c.requires.extents c.args.at).1 apart) in let not = w.if-is_clear.false in absurd cc }
      | else-can_run-via-then-can_run+else-not-has_procedure w ↦ record { kept = λ a there runs apart s. let is = word_is a there in subst (λ n. Contains c.args.self.now.procs n) (sym is) (w.has_procedure.ensures.0 (let has = w.if-not-has_procedure.false in cc)) }
      | else-can_run-via-else-can_run w ↦ record { kept = λ a there runs apart s. let is = word_is a there in let can : can_run c.args.scan.now c.in-Some.word ≡ true = subst (λ n. can_run c.args.scan.now n ≡ true) is runs in let not = w.if-can_run.false in let told = c.can_run.ensures.can in absurd cc }
    ]
