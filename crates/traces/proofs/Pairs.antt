-- Relations and invariants as types of pairs and of states.
use Rattle.std.proofs.Common.{subst}
use Rattle.traces.specs.Trace.{Move, Stand, Go, Halt}
use Rattle.traces.specs.Moves.{To, Holds}
use Rattle.traces.specs.Simulation.{Paired}

-- what holds of each related pair holds of their states
pub at_pair : {S T P : Type 0} (left : P → S) (right : P → T) (F : S → T → Type 0) → ((p : P) → F (left p) (right p)) → (s : S) (t : T) → Paired left right s t → F s t
at_pair left right F step s t h = subst (λ y. F s y) h.2 (subst (λ x. F x (right h.0)) h.1 (step h.0))

-- what holds of each state of an invariant
pub at_state : {S I : Type 0} (state : I → S) (F : S → Type 0) → ((i : I) → F (state i)) → (s : S) → Holds state s → F s
at_state state F each s h = subst F h.1 (each h.0)

-- where no invariant is needed
pub to_any : {S : Type 0} (m : Move S) → To (λ s. Unit {0}) m
to_any (Stand ls e) = tt
to_any (Go ls s) = tt
to_any (Halt ls e) = tt
