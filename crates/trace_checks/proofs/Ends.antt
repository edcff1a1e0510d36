-- Reports and counts are endings.
use Rattle.std.proofs.Common.{◌≡◌, ℕ, List, [], ◌∷◌, refl, sym, ap, ◌∙◌, ⊎_elim}
use Rattle.traces.specs.Trace.{Write, Label, Turn, Took, Made, End, Exited, MemoryFault, DivideFault, Outside, OtherCall, Unspecified, Guard, Stopped, turns, taken}
use Rattle.traces.specs.Turns.{TraceAt}
use Rattle.traces.specs.TraceLaws.{TraceLaws}
use Rattle.trace_checks.specs.EndingChecks.{answer, reporting, counting, ReportingEnds, CountingEnds}

-- one turn more takes no answer
same_taken : TraceLaws → (reports a : ℕ) (c r : List Label) → TraceAt reports a c r → taken r ≡ taken c
same_taken laws reports a c r h = ⊎_elim
    (λ e. ap taken e)
    (λ k. ap taken k.stop ∙ laws.taken_append k.front (Turn a ∷ k.report) ∙ sym (laws.taken_append k.front k.report) ∙ sym (ap taken k.cut))
    h

unturned : (answers : List ℕ) (ls : List Label) (e : End) → turns (reporting answers ls e) ≡ 0
unturned answers ls (Guard k a) = refl
unturned answers ls (Stopped a) = refl
unturned answers ls (Exited x) = refl
unturned answers ls MemoryFault = refl
unturned answers ls DivideFault = refl
unturned answers ls Outside = refl
unturned answers ls (OtherCall x) = refl
unturned answers ls Unspecified = refl

pub reporting_ends : TraceLaws → ReportingEnds
reporting_ends laws answers = (
  record { unturned = unturned answers; unspecified = λ ls. refl },
  record {
    shown = λ ls k a. refl;
    same = λ c r k a h. ap (λ n. Took ∷ Made (Write 2 (a ∷ []) (answer answers n)) ∷ []) (same_taken laws 0 a c r h);
  },
)

uncounted : (answers : List ℕ) (a : ℕ) (ls : List Label) (e : End) → turns (counting answers a ls e) ≡ 0
uncounted answers a ls (Exited x) = refl
uncounted answers a ls (Guard k b) = refl
uncounted answers a ls (Stopped b) = refl
uncounted answers a ls MemoryFault = refl
uncounted answers a ls DivideFault = refl
uncounted answers a ls Outside = refl
uncounted answers a ls (OtherCall x) = refl
uncounted answers a ls Unspecified = refl

pub counting_ends : CountingEnds
counting_ends answers a = (record { unturned = uncounted answers a; unspecified = λ ls. refl }, record { shown = λ ls k b. refl; same = λ c r k b h. refl })
