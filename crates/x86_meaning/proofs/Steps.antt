-- The equations of steps, and the stores of effects.
use Rattle.std.proofs.Common.{◌≡◌, ◌≢◌, ℕ, ◌+◌, ◌≤◌, ◌==◌, List, [], ◌∷◌, ◌++◌, map, length, take, Option, Some, None, Ok, Err, refl, ap, sym, ◌∙◌, append_assoc, append-nil, arith}
use Rattle.std.proofs.lemmas.List.{length-take, map-append}
use Rattle.std.proofs.lemmas.Bool.{eq-eqb, ne_eqb, cond-true, cond-false}
use Rattle.x86_values.specs.declared.word.Word.{Word}
use Rattle.x86_values.specs.Words.{word_list}
use Rattle.traces.specs.Trace.{Stand, Outside}
use Rattle.memory.specs.Memory.{Memory, AccessKind, Load, Store}
use Rattle.memory.specs.SystemCall.{system_call}
use Rattle.x86_types.specs.declared.operand.Reg.{Reg}
use Rattle.x86_types.specs.declared.operand.Rm.TheVariants as rm
use Rattle.x86_types.specs.declared.operand.Src.TheVariants as src
use Rattle.x86_types.specs.declared.width.Width.TheVariants.{Four}
use Rattle.x86_types.specs.declared.instr.Instr.{Instr}
use Rattle.x86_types.specs.declared.instr.Instr.TheVariants as instr
use Rattle.x86_types.specs.Numbers.{number_of_reg}
use Rattle.x86_code.specs.Code.{Code}
use Rattle.x86_meaning.specs.Registers.{Registers, Processor, Naming, with_register}
use Rattle.x86_meaning.specs.Operands.{Location, InRegister, InMemory, Constant, SizedOperand, Access, access, accesses_of}
use Rattle.x86_meaning.specs.TransferShapes.{Transfer}
use Rattle.x86_meaning.specs.Transfers.{transfer}
use Rattle.x86_meaning.specs.Outcomes.{Computation}
use Rattle.x86_meaning.specs.Computing.{compute}
use Rattle.x86_meaning.specs.Effect.{Effect, transfer_accesses, accesses, written_to, all_written, effect_of, effect_by, effect}
use Rattle.x86_meaning.specs.Step.{State, at_address, settled, request_of, after_call, finish, step, step_at, next}
use Rattle.x86_meaning.specs.StepLaws.{stored_range, store_ranges, with_moved}
use Rattle.x86_meaning.proofs.Fitting.{Fits, OutcomeFits, TransferFits, transfer_fits}

pub moved : (to : Reg) (from len : ℕ) (s : State) → step (instr.Mov Four (rm.Reg to) (src.Imm from)) len s ≡ settled [] (with_moved (number_of_reg to) from (s.eip + len) s)
unfolding step accesses effect finish transfer compute
moved to from len s = refl

pub jumped : (by len : ℕ) (s : State) → step (instr.Jmp by) len s ≡ settled [] (at_address (s.eip + len + by) s)
unfolding step accesses effect finish transfer compute
jumped by len s = refl

pub called : (len : ℕ) (s : State) → step instr.Int80 len s ≡ after_call (system_call (request_of s.cpu) s.memory s.left) (at_address (s.eip + len) s)
unfolding step accesses effect finish transfer compute
called len s = refl

pub at_instruction : (code : Code) (s : State) (i : Instr) (len : ℕ) → code s.eip ≡ Some (i, len) → next code s ≡ step i len s
unfolding next
at_instruction code s i len h = ap (λ o. step_at o s) h

pub at_none : (code : Code) (s : State) → code s.eip ≡ None → next code s ≡ Stand [] Outside
unfolding next
at_none code s h = ap (λ o. step_at o s) h

pub set_there : (n : ℕ) (w : Word) (regs : Registers) → with_register n w regs n ≡ w
unfolding with_register
set_there n w regs = cond-true (n == n) w (regs n) (eq-eqb n n refl)

pub set_elsewhere : (n : ℕ) (w : Word) (regs : Registers) (k : ℕ) → k ≢ n → with_register n w regs k ≡ regs k
unfolding with_register
set_elsewhere n w regs k h = cond-false (k == n) w (regs k) (ne_eqb k n h)

-- ---- what is stored
stored_size : (n : ℕ) (x : Word) → n ≤ 4 → length (take n (word_list x)) ≡ n
stored_size n x h = length-take n (word_list x) ∙ omega (arith, h)

load_ranges : (size : ℕ) (l : Location) (more : List Access) → store_ranges (access Load size l more) ≡ store_ranges more
load_ranges size (InRegister p i) more = refl
load_ranges size (InMemory at) more = refl
load_ranges size (Constant n) more = refl

joined_access : (kind : AccessKind) (size : ℕ) (l : Location) (more rest : List Access) → access kind size l more ++ rest ≡ access kind size l (more ++ rest)
joined_access kind size (InRegister p i) more rest = refl
joined_access kind size (InMemory at) more rest = refl
joined_access kind size (Constant n) more rest = refl

no_stores : (os : List SizedOperand) (more : List Access) → store_ranges (accesses_of Load os ++ more) ≡ store_ranges more
no_stores [] more = refl
no_stores (o ∷ os) more =
    ap store_ranges (joined_access Load o.size o.location (accesses_of Load os) more) ∙ load_ranges o.size o.location (accesses_of Load os ++ more) ∙ no_stores os more

-- the ranges of an operand that is written
written_ranges : (size : ℕ) (l : Location) (w : Word) (e : Effect) (more : List Access) → size ≤ 4 → map stored_range (written_to size l w e).stores ++ store_ranges more ≡ map stored_range e.stores ++ store_ranges (access Store size l more)
written_ranges size (InRegister p i) w e more h = refl
written_ranges size (InMemory at) w e more h =
    ap (λ (rs : List (ℕ × ℕ)). rs ++ store_ranges more) (map-append stored_range e.stores (record { at = at; bytes = take size (word_list w) } ∷ []))
    ∙ append_assoc (map stored_range e.stores) ((at, length (take size (word_list w))) ∷ []) (store_ranges more)
    ∙ ap (λ (n : ℕ). map stored_range e.stores ++ (at, n) ∷ store_ranges more) (stored_size size w h)
written_ranges size (Constant n) w e more h = refl

written_stores : (os : List SizedOperand) (ws : List Word) (e : Effect) → Fits os ws → map stored_range (all_written os ws e).stores ≡ map stored_range e.stores ++ store_ranges (accesses_of Store os)
written_stores [] [] e h = sym (append-nil (map stored_range e.stores))
written_stores [] (w ∷ ws) e h = absurd h
written_stores (o ∷ os) [] e h = absurd h
written_stores (o ∷ os) (w ∷ ws) e h = written_stores os ws (written_to o.size o.location w e) h.1 ∙ written_ranges o.size o.location w e (accesses_of Store os) h.0

outcome_stores : (t : Transfer) (regs : Registers) (r : Computation) (e : Effect) → OutcomeFits t.writes r → effect_of t.writes regs r ≡ Ok e → map stored_range e.stores ≡ store_ranges (transfer_accesses (Some t))
outcome_stores t regs (Err x) e h k = absurd cc
outcome_stores t regs (Ok c) e h k =
    let first : Effect = record { cpu = record { regs = regs; flags = c.flags }; stores = []; way = c.way } in
    let same : all_written t.writes c.values first ≡ e = cc in
    ap (λ (d : Effect). map stored_range d.stores) (sym same) ∙ written_stores t.writes c.values first h ∙ sym (no_stores t.reads (accesses_of Store t.writes))

pub stores_are_accesses : (v : Naming) (i : Instr) (n : ℕ) (cpu : Processor) (m : Memory) (e : Effect) → effect v i n cpu m ≡ Ok e → map stored_range e.stores ≡ store_ranges (accesses v i cpu.regs)
unfolding accesses effect
stores_are_accesses v i n cpu m e k = go (transfer v i cpu.regs) (transfer_fits v i n cpu.flags cpu.regs m) k
  where
    go : (o : Option Transfer) → TransferFits o i n cpu.flags cpu.regs m → effect_by o i n cpu m ≡ Ok e → map stored_range e.stores ≡ store_ranges (transfer_accesses o)
    go None h k = absurd cc
    go (Some t) h k = outcome_stores t cpu.regs _ e h k
