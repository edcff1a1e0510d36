-- Which bytes of memory operations access, and storages that differ in none of them. All of this is own.
use Rattle.std.specs.Prelude.{◌≡◌, ℕ, ◌==◌, cond, List, [], ◌∷◌, ◌++◌, Option, Some, None, Result, Ok, Err}
use Rattle.x86_values.specs.Words.{known}
use Rattle.traces.specs.Trace.{End}
use Rattle.memory.specs.Memory.{AccessKind, Load, Store, SameOutside}
use Rattle.x86_meaning.specs.Operands.{Access}
use Rattle.flag_ir.specs.declared.operation.Op.{Op}
use Rattle.flag_ir.specs.declared.operation.Op.TheVariants as op
use Rattle.flag_ir.specs.Storage.{Storage, term_in}
use Rattle.flag_ir.specs.Frames.{is_judged}
use Rattle.flag_ir.specs.Operations.{with_memory, has_buffer, buffer_in, perform}

-- ---- accesses by an address, where it is known
abbrev pub accessed : AccessKind → ℕ → Option ℕ → List Access
accessed kind size None = []
accessed kind size (Some a) = record { kind = kind; at = a; size = size } ∷ []

-- one that is judged is of the frames
abbrev pub accessed_near : AccessKind → ℕ → Storage → Option ℕ → List Access
accessed_near kind size u None = []
accessed_near kind size u (Some a) = cond (is_judged a u) [] (record { kind = kind; at = a; size = size } ∷ [])

-- ---- the buffer of a call: a read stores there, a write loads from there
abbrev pub buffer_accessed : Option ℕ → Option ℕ → Option ℕ → Option ℕ → List Access
buffer_accessed (Some number) (Some fd) (Some at) (Some n) = cond (has_buffer number fd n) (record { kind = cond (number == 3) Store Load; at = at; size = n } ∷ []) []
buffer_accessed _ _ _ _ = []

abbrev pub call_accesses : Storage → List Access
call_accesses u = buffer_accessed (known (u.regs 0)) (known (u.regs 3)) (known (u.regs 1)) (known (u.regs 2))

abbrev pub near_call_accesses : Option (ℕ × ℕ) → Storage → List Access
near_call_accesses None u = call_accesses u
near_call_accesses (Some p) u = []

-- ---- the accesses of an operation
abbrev pub op_accesses : Op → Storage → List Access
op_accesses (op.Load to size at) u = accessed Load size (known (term_in at u))
op_accesses (op.Store size at from) u = accessed Store size (known (term_in at u))
op_accesses (op.NearLoad to size at) u = accessed_near Load size u (known (term_in at u))
op_accesses (op.NearStore size at from) u = accessed_near Store size u (known (term_in at u))
op_accesses op.System u = call_accesses u
op_accesses op.NearSystem u = near_call_accesses (buffer_in u) u
op_accesses _ u = []

-- and those of a list, up to an end
abbrev pub followed_by : Result Storage End → (Storage → List Access) → List Access
followed_by (Ok u) rest = rest u
followed_by (Err e) rest = []

unfoldable pub list_accesses : ℕ → List Op → Storage → List Access
list_accesses turn [] u = []
list_accesses turn (o ∷ os) u = op_accesses o u ++ followed_by (perform turn o u) (list_accesses turn os)

-- ---- the same but for the bytes of memory in a range
pub record StoragesAlike (at count : ℕ) (u v : Storage) : Type 0 where
  pub same : with_memory u v.memory ≡ v
  pub memory : SameOutside at count u.memory v.memory

abbrev pub ResultsAlike : ℕ → ℕ → Result Storage End → Result Storage End → Type 0
ResultsAlike at count (Ok u) (Ok v) = StoragesAlike at count u v
ResultsAlike at count (Ok u) (Err e) = ⊥
ResultsAlike at count (Err e) r = r ≡ Err e
