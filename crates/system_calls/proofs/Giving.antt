-- What a host gives in one call.
use Rattle.std.proofs.Common.{◌≡◌, ℕ, ◌+◌, ◌≤◌, List, [], ◌∷◌, ◌++◌, length, take, drop, min, refl, sym, ap, ◌∙◌, append-nil, rules, arith, Result, Ok, Err}
use Rattle.std.proofs.lemmas.List.{length-take-le}
use Rattle.outside.specs.declared.answer.Answer.{Answer}
use Rattle.outside.specs.declared.answer.Answer.TheVariants.{Take, Fail}
use Rattle.traces.specs.Trace.{Label, Took, Made, Read, Write}
use Rattle.sw_host.specs.Told.{Told}
use Rattle.sw_host.specs.Calls.{called, with_answer, with_taken, with_moved}
use Rattle.system_calls.specs.Given.{HasGiven}

-- nothing, where it isn't called
pub gives_nothing : (a : Told) → HasGiven [] 0 [] a a
gives_nothing a = record {
  given = sym (append-nil a.given);
  taken = refl;
  left = refl;
  moved = sym (append-nil a.moved);
  shown = refl;
  calls = refl;
  files = refl;
  lines = refl;
  failing = refl;
}

-- nor where what is shown is the event of a call that it wasn't asked for
pub gives_no_read : (fd result : ℕ) (a : Told) → HasGiven [] 0 (Made (Read fd [] result) ∷ []) a a
gives_no_read fd result a = record {
  given = sym (append-nil a.given);
  taken = refl;
  left = refl;
  moved = sym (append-nil a.moved);
  shown = refl;
  calls = refl;
  files = refl;
  lines = refl;
  failing = refl;
}

pub gives_no_write : (fd result : ℕ) (a : Told) → HasGiven [] 0 (Made (Write fd [] result) ∷ []) a a
gives_no_write fd result a = record {
  given = sym (append-nil a.given);
  taken = refl;
  left = refl;
  moved = sym (append-nil a.moved);
  shown = refl;
  calls = refl;
  files = refl;
  lines = refl;
  failing = refl;
}

-- its call gave no answer
pub gives_no_answer : (a : Told) → HasGiven [] 1 [] a (called a)
unfolding called
gives_no_answer a = record {
  given = sym (append-nil a.given);
  taken = refl;
  left = refl;
  moved = sym (append-nil a.moved);
  shown = refl;
  calls = refl;
  files = refl;
  lines = refl;
  failing = refl;
}

-- it gave the first bytes of its input
pub gives_taken : (k fd result : ℕ) (a : Told) → k ≤ length a.left → HasGiven (Take k ∷ []) 0 (Took ∷ Made (Read fd (take k a.left) result) ∷ []) a (with_taken (called a) k)
unfolding called with_taken
gives_taken k fd result a h = record {
  given = refl;
  taken = refl;
  left = ap (λ n. drop n a.left) (sym (length-take-le k a.left h));
  moved = sym (append-nil a.moved);
  shown = refl;
  calls = refl;
  files = refl;
  lines = refl;
  failing = refl;
}

-- it answered a read with an error
pub gives_no_input : (e fd result : ℕ) (a : Told) → HasGiven (Fail e ∷ []) 0 (Took ∷ Made (Read fd [] result) ∷ []) a (with_answer (called a) (Fail e))
unfolding called with_answer
gives_no_input e fd result a = record {
  given = refl;
  taken = refl;
  left = refl;
  moved = sym (append-nil a.moved);
  shown = refl;
  calls = refl;
  files = refl;
  lines = refl;
  failing = refl;
}

-- it moved some bytes, with whatever answer
pub gives_moved : (answer : Answer) (fd result : ℕ) (bytes : List ℕ) (a : Told) → HasGiven (answer ∷ []) 0 (Took ∷ Made (Write fd bytes result) ∷ []) a (with_moved (called a) answer fd bytes)
unfolding called with_moved
gives_moved answer fd result bytes a = record {
  given = refl;
  taken = refl;
  left = refl;
  moved = refl;
  shown = refl;
  calls = refl;
  files = refl;
  lines = refl;
  failing = refl;
}
