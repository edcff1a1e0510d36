-- Conditional jumps and system calls.
use Rattle.std.proofs.Common.{◌≡◌, ℕ, ◌+◌, ◌==◌, Bool, true, false, cond, List, [], ◌∷◌, ◌++◌, All, Option, Some, None, Result, Ok, refl, sym, ◌∙◌, ap, subst, lit<, append-nil}
use Rattle.std.proofs.lemmas.List.Elements.{All-head, All-tail}
use Rattle.x86_values.specs.declared.byte.Byte.{Byte}
use Rattle.x86_values.specs.declared.byte.Byte.TheVariants.{Known, Unspecified}
use Rattle.x86_values.specs.declared.word.Word.{Word}
use Rattle.x86_values.specs.Words.{IsByte, word_of, known}
use Rattle.x86_values.specs.Conditions.{condition}
use Rattle.x86_values.specs.LessSpecified.{BytesLessSpecified}
use Rattle.outside.specs.Environment.{Environment}
use Rattle.traces.specs.Trace.{End, Label, Move, Halt}
use Rattle.traces.specs.Trace as trace
use Rattle.memory.specs.Memory.{wrapped, Stored, store_all}
use Rattle.memory.specs.SystemCall.{Called, Ends, Gives, system_call}
use Rattle.memory.specs.LessSpecified.{EndLessSpecified, StoresLessSpecified, CalledLessSpecified}
use Rattle.memory.specs.LessSpecifiedLaws.{LessSpecifiedMemoryLaws}
use Rattle.memory.specs.CallLaws.{CallLaws, StoresBytes, CallIsKept}
use Rattle.x86_types.specs.declared.operation.Cond.{Cond}
use Rattle.x86_types.specs.declared.instr.Instr.TheVariants as instr
use Rattle.x86_meaning.specs.Outcomes.{Falls, JumpsBy, Computed, jump_computed}
use Rattle.x86_meaning.specs.Step.{State, settled_by, settled, request_of, after_call, at_address, step}
use Rattle.x86_meaning.specs.StepLaws.{StepLaws}
use Rattle.flag_ir.specs.Calculations.{one_if}
use Rattle.flag_ir.specs.declared.operation.Op.TheVariants as op
use Rattle.flag_ir.specs.Storage.{Storage, put_word}
use Rattle.flag_ir.specs.Operations.{and_then, needed, request_in, called, labels_of, call_in, perform, performs, shown_with, shown_by_all}
use Rattle.lift_relation.specs.Matching.{FlagMatches, StateMatches, MoveMatches}
use Rattle.lift_relation.specs.Cores.{Tests}
use Rattle.lift_values.specs.Terms.{temp}
use Rattle.lift_values.specs.Conditions.{condition_ops}
use Rattle.lift_core.specs.declared.way.Way.TheVariants as way
use Rattle.lift_core.specs.Lifting.{listed}
use Rattle.lift_core.proofs.Words.{known_word, word_itself}
use Rattle.lift_core.proofs.Meeting.{EndMeets}
use Rattle.lift_core.proofs.Cores.{begun, begun_matches}
use Rattle.lift_core.proofs.Writing.{set_matches}
use Rattle.lift_core.proofs.StackForms.{Gone}
use Rattle.memory.specs.MemoryLaws.{MemoryLaws}
use Rattle.lift_core.proofs.Raising.{AddingLaws}

-- ---- Jcc
module _ (turn : ℕ) (laws : MemoryLaws) (memories : LessSpecifiedMemoryLaws) (adding : AddingLaws) (len : ℕ) (s : State) (u : Storage) (h : StateMatches s u) where
  truth : (b : Bool) (y : Word) → FlagMatches (Some b) y → known y ≡ Some (one_if b)
  truth true y e = ap known e ∙ known_word 1 (lit< tt)
  truth false y e = ap known e ∙ known_word 0 (lit< tt)

  jumps : (by : ℕ) (o : Option Bool) (v : Storage) → StateMatches s v → FlagMatches o (v.temps 4) → (y : Result Storage End) → y ≡ Ok v → Gone turn laws memories adding len s [] (jump_computed o by s.cpu.flags) (way.Either (temp 4) (wrapped (s.eip + len + by)) (wrapped (s.eip + len))) y
  jumps by None v g f y e = tt
  jumps by (Some true) v g f y e =
      let d : Computed = record { values = []; flags = s.cpu.flags; way = JumpsBy by } in
      subst (λ (y : Result Storage End). EndMeets (begun d s) (s.eip + len) s (way.Either (temp 4) (wrapped (s.eip + len + by)) (wrapped (s.eip + len))) y) (sym e)
      (record { state = begun_matches d s v g g.flags; goes = ap (λ o. and_then (needed o) (λ n. Ok (cond (n == 0) (wrapped (s.eip + len)) (wrapped (s.eip + len + by))))) (truth true (v.temps 4) f); no_call = tt })
  jumps by (Some false) v g f y e =
      let d : Computed = record { values = []; flags = s.cpu.flags; way = Falls } in
      subst (λ (y : Result Storage End). EndMeets (begun d s) (s.eip + len) s (way.Either (temp 4) (wrapped (s.eip + len + by)) (wrapped (s.eip + len))) y) (sym e)
      (record { state = begun_matches d s v g g.flags; goes = ap (λ o. and_then (needed o) (λ n. Ok (cond (n == 0) (wrapped (s.eip + len)) (wrapped (s.eip + len + by))))) (truth false (v.temps 4) f); no_call = tt })

  pub jcc_meets : (c : Cond) (by : ℕ) → Tests (condition c) (condition_ops c) → Gone turn laws memories adding len s [] (jump_computed (condition c s.cpu.flags) by s.cpu.flags) (way.Either (temp 4) (wrapped (s.eip + len + by)) (wrapped (s.eip + len))) (performs turn (condition_ops c) u)
  jcc_meets c by t =
      let r = t.tests turn s.cpu.flags u h.flags in
      let v = r.0 in
      let same : v ≡ record u { temps = v.temps } = r.2 in
      let g : StateMatches s (record u { temps = v.temps }) = record { regs = h.regs; flags = h.flags; memory = h.memory; left = h.left; environment = h.environment; frames = h.frames } in
      jumps by (condition c s.cpu.flags) v (subst (StateMatches s) (sym same) g) r.4 _ r.1

-- ---- INT 80h: bytes that a call stores are known
bytes_themselves : (bs : List Byte) → All IsByte bs → BytesLessSpecified bs bs
bytes_themselves [] h = refl
bytes_themselves (Known a ∷ bs) h = ((refl, All-head IsByte (Known a) bs h), bytes_themselves bs (All-tail IsByte (Known a) bs h))
bytes_themselves (Unspecified ∷ bs) h = (tt, bytes_themselves bs (All-tail IsByte Unspecified bs h))

stores_themselves : (xs : List Stored) → StoresBytes xs → StoresLessSpecified xs xs
stores_themselves [] h = refl
stores_themselves (x ∷ xs) h =
    let P : Stored → Type 0 = λ (s : Stored). All IsByte s.bytes in
    (refl, bytes_themselves x.bytes (All-head P x xs h), stores_themselves xs (All-tail P x xs h))

module _ (memories : LessSpecifiedMemoryLaws) (calls : CallLaws) (turn len : ℕ) (s : State) (u : Storage) (h : StateMatches s u) where
  -- what the list of a call shows and comes to, by the call
  abbrev shown_of : Called → List Label
  shown_of c = shown_with (called c u) (labels_of c) (λ v. [])

  abbrev list_of : Called → Result (ℕ × Storage) End
  list_of c = and_then (and_then (called c u) (λ v. Ok v)) (λ v. Ok (wrapped (s.eip + len), v))

  abbrev Matches : Move State → Called → Type 0
  Matches m c = MoveMatches m (shown_of c) (list_of c)

  ended : (e : End) (y : Called) → EndLessSpecified e (Ends e) y → Matches (Halt [] e) y
  ended trace.Unspecified y k = tt
  ended (trace.Exited n) y k = subst (λ (c : Called). Matches (Halt [] (trace.Exited n)) c) k refl
  ended trace.MemoryFault y k = subst (λ (c : Called). Matches (Halt [] trace.MemoryFault) c) k refl
  ended trace.DivideFault y k = subst (λ (c : Called). Matches (Halt [] trace.DivideFault) c) k refl
  ended trace.Outside y k = subst (λ (c : Called). Matches (Halt [] trace.Outside) c) k refl
  ended (trace.OtherCall n) y k = subst (λ (c : Called). Matches (Halt [] (trace.OtherCall n)) c) k refl
  ended (trace.Guard g a) y k = subst (λ (c : Called). Matches (Halt [] (trace.Guard g a)) c) k refl
  ended (trace.Stopped a) y k = subst (λ (c : Called). Matches (Halt [] (trace.Stopped a)) c) k refl

  gone_on : (ls : List Label) (t : State) (v : Storage) → StateMatches t v → t.eip ≡ wrapped (s.eip + len) → MoveMatches (settled ls t) (ls ++ []) (Ok (wrapped (s.eip + len), v))
  unfolding settled
  gone_on ls t v g e = go (known (t.cpu.regs 4))
    where
      go : (o : Option ℕ) → MoveMatches (settled_by o ls t) (ls ++ []) (Ok (wrapped (s.eip + len), v))
      go None = tt
      go (Some esp) = (sym (append-nil ls), e, record { regs = g.regs; flags = g.flags; memory = memories.forget_left t.memory v.memory esp g.memory; left = g.left; environment = g.environment; frames = g.frames })

  by_call : (x y : Called) → CallIsKept x → CalledLessSpecified x y → Matches (after_call x (at_address (s.eip + len) s)) y
  by_call (Ends e) y k c = ended e y c
  by_call (Gives ls result stores left) y k c =
      subst (λ (y : Called). Matches (after_call (Gives ls result stores left) (at_address (s.eip + len) s)) y) (sym c)
      (gone_on ls _ (record u { regs = put_word 0 (word_of result) u.regs; memory = store_all stores u.memory; left = left })
      (record { regs = set_matches 0 (word_of result) (word_of result) s.cpu.regs u.regs (word_itself result) h.regs; flags = h.flags; memory = memories.stored s.memory u.memory stores stores (stores_themselves stores k.0) h.memory; left = refl; environment = k.1; frames = h.frames }) refl)

  pub call_meets : StepLaws → MoveMatches (step instr.Int80 len s) (shown_by_all turn (op.System ∷ []) u) (listed turn (way.On (wrapped (s.eip + len))) (op.System ∷ []) u)
  unfolding performs perform shown_by_all
  call_meets steps =
      subst (λ (m : Move State). MoveMatches m (shown_of (call_in u)) (list_of (call_in u))) (sym (steps.call len s))
      (subst (λ (left : Environment). Matches (after_call (system_call (request_of s.cpu) s.memory s.left) (at_address (s.eip + len) s)) (system_call (request_in u) u.memory left)) h.left
      (by_call _ _ (calls.keep_environment (request_of s.cpu) s.memory s.left h.environment)
      (memories.call (request_of s.cpu) (request_in u) s.memory u.memory s.left (record { number = h.regs 0 (lit< tt); fd = h.regs 3 (lit< tt); at = h.regs 1 (lit< tt); count = h.regs 2 (lit< tt) }) h.memory)))
