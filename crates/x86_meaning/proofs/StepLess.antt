-- A step is monotone in what is specified.
use Rattle.std.proofs.Common.{◌≡◌, ℕ, ◌+◌, Bool, true, false, List, [], ◌∷◌, All, Option, Some, None, Result, Ok, Err, refl, sym, subst}
use Rattle.std.proofs.lemmas.List.Elements.{All-head, All-tail}
use Rattle.x86_values.specs.declared.byte.Byte.{Byte}
use Rattle.x86_values.specs.declared.byte.Byte.TheVariants.{Known}
use Rattle.x86_values.specs.declared.byte.Byte.TheVariants as byte
use Rattle.x86_values.specs.Words.{IsByte, word_of, known}
use Rattle.x86_values.specs.LessSpecified.{BytesLessSpecified}
use Rattle.outside.specs.Environment.{Environment}
use Rattle.traces.specs.Trace.{Label, End, Exited, OtherCall, Outside, Guard, Stopped, Move, Stand, Go, Halt}
use Rattle.traces.specs.Trace as trace
use Rattle.memory.specs.Memory.{Memory, Stored, AccessKind, Load, Store, wrapped}
use Rattle.memory.specs.LessSpecified.{MemoryLessSpecified, StoresLessSpecified, EndLessSpecified, CalledLessSpecified}
use Rattle.memory.specs.CallLaws.{CallLaws, StoresBytes, CallIsKept}
use Rattle.memory.specs.LessSpecifiedLaws.{LessSpecifiedMemoryLaws}
use Rattle.memory.specs.SystemCall.{Called, Ends, Gives, system_call}
use Rattle.x86_types.specs.declared.instr.Instr.{Instr}
use Rattle.x86_code.specs.Code.{Code}
use Rattle.x86_meaning.specs.declared.stop.Stop.{Stop}
use Rattle.x86_meaning.specs.declared.stop.Stop.TheVariants.{MemoryFault, DivideFault, Unspecified}
use Rattle.x86_meaning.specs.Registers.{Processor, machine_naming}
use Rattle.x86_meaning.specs.Operands.{Location, InRegister, InMemory, Constant, SizedOperand, Access, access, accesses_of}
use Rattle.x86_meaning.specs.TransferShapes.{Transfer}
use Rattle.x86_meaning.specs.Transfers.{transfer}
use Rattle.x86_meaning.specs.Outcomes.{Way, Falls, JumpsBy, JumpsTo, Repeats, Calls}
use Rattle.x86_meaning.specs.Effect.{Effect, transfer_accesses, accesses, effect_by, effect}
use Rattle.x86_meaning.specs.Step.{State, access_allowed, all_allowed, settled_by, settled, at_address, request_of, with_result, after_call, finish, performed, by_stores, by_effect, by_loads, step, step_at, next}
use Rattle.x86_meaning.specs.LessSpecified.{ProcessorLessSpecified, StateLessSpecified, MoveLessSpecified, EffectLessSpecified, ResultLessSpecified}
use Rattle.x86_meaning.proofs.SameTransfers.{SameWhere, SameLocation, SameOperands, SameTransfer, known_same, set_less, transfer_same}
use Rattle.x86_meaning.proofs.ComputedLess.{ValueLaws}
use Rattle.x86_meaning.proofs.EffectLess.{effect_less}

-- ---- accesses
access_same : (kind : AccessKind) (size : ℕ) (l k : Location) (xs ys : List Access) → SameLocation l k → xs ≡ ys → access kind size l xs ≡ access kind size k ys
access_same kind size (InRegister p i) k xs ys h e = rw (h, e) refl
access_same kind size (InMemory at) k xs ys h e = rw (h, e) refl
access_same kind size (Constant a) (Constant b) xs ys h e = e
access_same kind size (Constant a) (InRegister p i) xs ys h e = absurd h
access_same kind size (Constant a) (InMemory at) xs ys h e = absurd h

accesses_same : (kind : AccessKind) (os ps : List SizedOperand) → SameOperands os ps → accesses_of kind os ≡ accesses_of kind ps
accesses_same kind [] ps h = rw h refl
accesses_same kind (o ∷ os) [] h = absurd h
accesses_same kind (o ∷ os) (p ∷ ps) h = rw h.0 (access_same kind p.size o.location p.location _ _ h.1 (accesses_same kind os ps h.2))

-- ---- ends
same_end : (e : End) (m : Move State) → m ≡ Halt [] e → MoveLessSpecified (Halt [] e) m
same_end trace.Unspecified m h = tt
same_end (Exited n) m h = rw h refl
same_end trace.MemoryFault m h = rw h refl
same_end trace.DivideFault m h = rw h refl
same_end Outside m h = rw h refl
same_end (OtherCall n) m h = rw h refl
same_end (Guard k a) m h = rw h refl
same_end (Stopped a) m h = rw h refl

module _ (laws : ValueLaws) (memories : LessSpecifiedMemoryLaws) where
  -- ---- the judging
  access_judged : (kind other : AccessKind) (m n : Memory) (at size : ℕ) → MemoryLessSpecified m n → access_allowed kind other m at size ≡ access_allowed kind other n at size
  access_judged Load Load m n at size h = memories.allows Load m n at size h
  access_judged Store Store m n at size h = memories.allows Store m n at size h
  access_judged Load Store m n at size h = refl
  access_judged Store Load m n at size h = refl

  judged : (kind : AccessKind) (xs : List Access) (m n : Memory) → MemoryLessSpecified m n → all_allowed kind xs m ≡ all_allowed kind xs n
  judged kind [] m n h = refl
  judged kind (x ∷ xs) m n h = rw (access_judged kind x.kind m n x.at x.size h, judged kind xs m n h) refl

  -- ---- the finish
  settled_less : (ls : List Label) (s t : State) → StateLessSpecified s t → MoveLessSpecified (settled ls s) (settled ls t)
  unfolding settled
  settled_less ls s t h = go (known (s.cpu.regs 4)) (known (t.cpu.regs 4)) (known_same laws.less laws.words _ _ (h.cpu.regs 4))
    where
      go : (o u : Option ℕ) → SameWhere o u → MoveLessSpecified (settled_by o ls s) (settled_by u ls t)
      go None u e = tt
      go (Some esp) u e = rw e (refl, record { cpu = h.cpu; eip = h.eip; memory = memories.forget s.memory t.memory esp h.memory; left = h.left; environment = h.environment })

  moved_less : (a b : ℕ) (s t : State) → a ≡ b → StateLessSpecified s t → StateLessSpecified (at_address a s) (at_address b t)
  moved_less a b s t e h = record { cpu = h.cpu; eip = rw e refl; memory = h.memory; left = h.left; environment = h.environment }

  settled_at : (a b : ℕ) (s t : State) → a ≡ b → StateLessSpecified s t → MoveLessSpecified (settled [] (at_address a s)) (settled [] (at_address b t))
  settled_at a b s t e h = settled_less [] (at_address a s) (at_address b t) (moved_less a b s t e h)

  -- the bytes that a call stores are known
  bytes_themselves : (bs : List Byte) → All IsByte bs → BytesLessSpecified bs bs
  bytes_themselves [] h = refl
  bytes_themselves (Known a ∷ bs) h = ((refl, All-head IsByte (Known a) bs h), bytes_themselves bs (All-tail IsByte (Known a) bs h))
  bytes_themselves (byte.Unspecified ∷ bs) h = (tt, bytes_themselves bs (All-tail IsByte byte.Unspecified bs h))

  stores_themselves : (xs : List Stored) → StoresBytes xs → StoresLessSpecified xs xs
  stores_themselves [] h = refl
  stores_themselves (x ∷ xs) h =
      let P : Stored → Type 0 = λ (s : Stored). All IsByte s.bytes in
      (refl, bytes_themselves x.bytes (All-head P x xs h), stores_themselves xs (All-tail P x xs h))

  result_less : (result : ℕ) (p q : Processor) → ProcessorLessSpecified p q → ProcessorLessSpecified (with_result result p) (with_result result q)
  result_less result p q h = record { regs = set_less laws.less laws.words 0 _ _ _ _ (laws.less.itself (word_of result) (laws.words.word_of_bytes result)) h.regs; flags = h.flags }

  ended_less : (e : End) (y : Called) (s t : State) → EndLessSpecified e (Ends e) y → MoveLessSpecified (Halt [] e) (after_call y t)
  ended_less trace.Unspecified y s t h = tt
  ended_less (Exited n) y s t h = rw (sym h) refl
  ended_less trace.MemoryFault y s t h = rw (sym h) refl
  ended_less trace.DivideFault y s t h = rw (sym h) refl
  ended_less Outside y s t h = rw (sym h) refl
  ended_less (OtherCall n) y s t h = rw (sym h) refl
  ended_less (Guard k a) y s t h = rw (sym h) refl
  ended_less (Stopped a) y s t h = rw (sym h) refl

  called_less : (x y : Called) (s t : State) → CallIsKept x → CalledLessSpecified x y → StateLessSpecified s t → MoveLessSpecified (after_call x s) (after_call y t)
  called_less (Ends e) y s t k c h = ended_less e y s t c
  called_less (Gives ls result stores left) y s t k c h =
      rw c (settled_less ls _ _ (record { cpu = result_less result s.cpu t.cpu h.cpu; eip = h.eip; memory = memories.stored s.memory t.memory stores stores (stores_themselves stores k.0) h.memory; left = refl; environment = k.1 }))

  module _ (calls : CallLaws) where
    call_less : (s t : State) → StateLessSpecified s t → MoveLessSpecified (after_call (system_call (request_of s.cpu) s.memory s.left) s) (after_call (system_call (request_of t.cpu) t.memory t.left) t)
    call_less s t h =
        subst (λ (l : Environment). MoveLessSpecified (after_call (system_call (request_of s.cpu) s.memory s.left) s) (after_call (system_call (request_of t.cpu) t.memory l) t)) h.left
        (called_less (system_call (request_of s.cpu) s.memory s.left) (system_call (request_of t.cpu) t.memory s.left) s t (calls.keep_environment (request_of s.cpu) s.memory s.left h.environment)
        (memories.call (request_of s.cpu) (request_of t.cpu) s.memory t.memory s.left (record { number = h.cpu.regs 0; fd = h.cpu.regs 3; at = h.cpu.regs 1; count = h.cpu.regs 2 }) h.memory) h)

    finish_less : (w : Way) (a b : ℕ) (s t : State) → a ≡ b → StateLessSpecified s t → MoveLessSpecified (finish w a s) (finish w b t)
    unfolding finish
    finish_less Falls a b s t e h = settled_at a b s t e h
    finish_less (JumpsBy by) a b s t e h = settled_at (a + by) (b + by) s t (rw e refl) h
    finish_less (JumpsTo target) a b s t e h = settled_at target target s t refl h
    finish_less Repeats a b s t e h = settled_less [] s t h
    finish_less Calls a b s t e h = call_less (at_address a s) (at_address b t) (moved_less a b s t e h)

    performed_less : (d e : Effect) (s t : State) → EffectLessSpecified d e → StateLessSpecified s t → StateLessSpecified (performed d s) (performed e t)
    performed_less d e s t k h = record { cpu = k.cpu; eip = h.eip; memory = memories.stored s.memory t.memory d.stores e.stores k.stores h.memory; left = h.left; environment = h.environment }

    -- ---- the step
    by_stores_less : (x : Bool) (d e : Effect) (a b : ℕ) (s t : State) → a ≡ b → EffectLessSpecified d e → StateLessSpecified s t → MoveLessSpecified (by_stores x d a s) (by_stores x e b t)
    by_stores_less false d e a b s t z k h = refl
    by_stores_less true d e a b s t z k h = rw (sym k.way) (finish_less d.way a b (performed d s) (performed e t) z (performed_less d e s t k h))

    by_effect_less : (x : Bool) (r q : Result Effect Stop) (a b : ℕ) (s t : State) → a ≡ b → ResultLessSpecified r q → StateLessSpecified s t → MoveLessSpecified (by_effect r x a s) (by_effect q x b t)
    by_effect_less x (Ok d) (Ok e) a b s t z k h = by_stores_less x d e a b s t z k h
    by_effect_less x (Ok d) (Err e) a b s t z k h = absurd k
    by_effect_less x (Err Unspecified) q a b s t z k h = tt
    by_effect_less x (Err MemoryFault) q a b s t z k h = rw (sym k) refl
    by_effect_less x (Err DivideFault) q a b s t z k h = rw (sym k) refl

    by_loads_less : (y x : Bool) (r q : Result Effect Stop) (a b : ℕ) (s t : State) → a ≡ b → ResultLessSpecified r q → StateLessSpecified s t → MoveLessSpecified (by_loads y x r a s) (by_loads y x q b t)
    by_loads_less false x r q a b s t z k h = refl
    by_loads_less true x r q a b s t z k h = by_effect_less x r q a b s t z k h

    -- where nothing is read and written on the left, its effect is an end that excuses
    parts_less : (o u : Option Transfer) (i : Instr) (next m : ℕ) (a b : ℕ) (s t : State) → a ≡ b → next ≡ m → SameTransfer o u → ResultLessSpecified (effect_by o i next s.cpu s.memory) (effect_by u i m t.cpu t.memory) → StateLessSpecified s t
        → MoveLessSpecified (by_loads (all_allowed Load (transfer_accesses o) s.memory) (all_allowed Store (transfer_accesses o) s.memory) (effect_by o i next s.cpu s.memory) a s)
        (by_loads (all_allowed Load (transfer_accesses u) t.memory) (all_allowed Store (transfer_accesses u) t.memory) (effect_by u i m t.cpu t.memory) b t)
    parts_less None u i next m a b s t z y e k h = tt
    parts_less (Some o) None i next m a b s t z y e k h = absurd e
    parts_less (Some o) (Some u) i next m a b s t z y e k h =
        let same : transfer_accesses (Some o) ≡ transfer_accesses (Some u) = rw (accesses_same Load o.reads u.reads e.0, e.1) refl in
        rw (judged Load (transfer_accesses (Some o)) s.memory t.memory h.memory, judged Store (transfer_accesses (Some o)) s.memory t.memory h.memory, same)
        (by_loads_less _ _ (effect_by (Some o) i next s.cpu s.memory) (effect_by (Some u) i m t.cpu t.memory) a b s t z k h)

    step_is_less : (i : Instr) (len : ℕ) (s t : State) → StateLessSpecified s t → MoveLessSpecified (step i len s) (step i len t)
    unfolding step accesses effect
    step_is_less i len s t h =
        let e = h.eip in
        parts_less (transfer machine_naming i s.cpu.regs) (transfer machine_naming i t.cpu.regs) i _ _ _ _ s t (rw e refl) (rw e refl) (transfer_same laws.less laws.words machine_naming s.cpu.regs t.cpu.regs h.cpu.regs i)
        (rw e (effect_less laws memories i (wrapped (t.eip + len)) s.cpu t.cpu s.memory t.memory h.cpu h.memory machine_naming)) h

    pub step_less : (code : Code) (s t : State) → StateLessSpecified s t → MoveLessSpecified (next code s) (next code t)
    unfolding next
    step_less code s t h = subst (λ (a : ℕ). MoveLessSpecified (step_at (code s.eip) s) (step_at (code a) t)) h.eip (go (code s.eip))
      where
        go : (o : Option (Instr × ℕ)) → MoveLessSpecified (step_at o s) (step_at o t)
        go None = refl
        go (Some p) = step_is_less p.0 p.1 s t h
