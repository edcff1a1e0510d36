-- INT 80h is met by one step of the processor, where the buffer of its call is clear.
use Rattle.std.proofs.Common.{◌≡◌, ℕ, ◌+◌, ◌<◌, ◌==◌, Bool, true, false, List, [], ◌∷◌, All, map, Some, refl, sym, ap, ◌∙◌, subst, arith}
use Rattle.std.proofs.lemmas.Bool.{eqb-true, eqb-false}
use Rattle.std.proofs.lemmas.List.Elements.{All-head}
use Rattle.outside.specs.Environment.{Environment}
use Rattle.x86_values.specs.Words.{word_of, known}
use Rattle.traces.specs.Trace.{Label, Move}
use Rattle.memory.specs.Memory.{Memory, Stored, wrapped, store_all}
use Rattle.memory.specs.CallLaws.{IsPlainCall}
use Rattle.memory.specs.SystemCall.{Request, Called, Ends, Gives, system_call}
use Rattle.x86_types.specs.declared.instr.Instr.TheVariants as instr
use Rattle.x86_code.specs.Code.{Code}
use Rattle.x86_meaning.specs.Operands.{Access}
use Rattle.x86_meaning.specs.Transfers.{transfer}
use Rattle.x86_meaning.specs.Computing.{compute}
use Rattle.x86_meaning.specs.Effect.{accesses, effect}
use Rattle.x86_meaning.specs.Step.{State, settled, at_address, request_of, with_result, step}
use Rattle.x86_meaning.specs.Step as processor
use Rattle.flag_ir.specs.Operations.{has_buffer}
use Rattle.flag_ir.specs.Accesses.{buffer_accessed}
use Rattle.private_memory.specs.PrivateArea.{is_clear_access}
use Rattle.named_code.specs.Items.{Item, CodeBlock, own_item}
use Rattle.named_code.specs.Running.{CodeState, Inside, CodePosition, after_call, act}
use Rattle.named_code.specs.TestedRun.{call_buffer}
use Rattle.laid_code.specs.Laid.{Places, Stands, Lies, IsLayable}
use Rattle.laid_code.specs.LaidRun.{AreStatesBeside}
use Rattle.laid_code.proofs.Given.{Given}
use Rattle.laid_code.proofs.Memories.{clear_addresses, same_in, judged, stores_same, stores_keep_kinds}
use Rattle.laid_code.proofs.OwnPairs.{alone_below}
use Rattle.laid_code.proofs.Acting.{alone}
use Rattle.laid_code.proofs.Calling.{buffer_kind, SameWhereAsked, UnreservedWhereAsked, call_same, stores_unreserved}
use Rattle.laid_code.proofs.Stepping.{IsAlone}
use Rattle.laid_code.proofs.Moving.{Simulated}
use Rattle.laid_code.proofs.PlainItems.{settled_met, halted_met, behind}

module _ (given : Given) (l : Places) (code : Code) (blocks : List CodeBlock) (first : Memory) (s : CodeState) (t : State) (states : AreStatesBeside first s t) where
  abbrev numbers : List ℕ
  numbers = map (λ (b : CodeBlock). b.number) blocks

  abbrev u : State
  u = alone first s t.eip

  abbrev request : Request
  request = request_of s.cpu

  abbrev Met : Move CodePosition → Type 0
  Met m = Simulated given l code blocks first 1 m t

  abbrev IsClear : Access → Type 0
  IsClear a = is_clear_access s.memory a ≡ true

  abbrev buffer_access : ℕ → ℕ → ℕ → Access
  buffer_access number at count = record { kind = buffer_kind number; at = at; size = count }

  module _ (clear : All (λ a. is_clear_access s.memory a ≡ true) (call_buffer instr.Int80 s)) where
    buffer_clear : (number fd at count : ℕ) → known request.number ≡ Some number → known request.fd ≡ Some fd → known request.at ≡ Some at → known request.count ≡ Some count → has_buffer number fd count ≡ true → IsClear (buffer_access number at count)
    buffer_clear number fd at count e f g h has =
        let is : buffer_accessed (known request.number) (known request.fd) (known request.at) (known request.count) ≡ buffer_access number at count ∷ [] = rw (e, f, g, h, has) refl in
        All-head IsClear (buffer_access number at count) [] (subst (All IsClear) is clear)

    same_asked : SameWhereAsked request s.memory u.memory
    same_asked number fd at count e f g h has =
        let a = buffer_access number at count in
        let passed = buffer_clear number fd at count e f g h has in
        record {
          judged = judged first s.memory states.memory.free given.memory a passed;
          same = λ all. same_in first s.memory states.memory.free at count (clear_addresses first s.memory states.memory.free a passed all);
        }

    unreserved_asked : UnreservedWhereAsked request s.memory
    unreserved_asked fd at count e f g h has all = clear_addresses first s.memory states.memory.free (buffer_access 3 at count) (buffer_clear 3 fd at count e f g h has) all

    same_request : request_of u.cpu ≡ request
    same_request = rw (alone_below s.cpu.regs 0 (omega arith), alone_below s.cpu.regs 3 (omega arith), alone_below s.cpu.regs 1 (omega arith), alone_below s.cpu.regs 2 (omega arith)) refl

    same_called : system_call (request_of u.cpu) u.memory u.left ≡ system_call request s.memory s.left
    same_called = ap (λ q. system_call q u.memory u.left) same_request ∙ sym (call_same given.calls request s.memory u.memory s.left same_asked)

    call_acts : (rest : List Item) → act (own_item instr.Int80) rest s ≡ after_call (system_call request s.memory s.left) rest s
    unfolding act accesses transfer effect compute
    call_acts rest = refl

    call_steps : (len : ℕ) → step instr.Int80 len u ≡ processor.after_call (system_call request s.memory s.left) (at_address (t.eip + len) u)
    call_steps len = given.steps.call len u ∙ ap (λ c. processor.after_call c (at_address (t.eip + len) u)) same_called

    -- the result goes to eax on both sides
    result_same : (result k : ℕ) → k < 8 → (with_result result s.cpu).regs k ≡ (with_result result u.cpu).regs k
    result_same result k low = cases (k == 0) refl
      where
        cases : (b : Bool) → (k == 0) ≡ b → (with_result result s.cpu).regs k ≡ (with_result result u.cpu).regs k
        cases true e = let is = eqb-true k 0 e in rw is (given.steps.set_there 0 (word_of result) s.cpu.regs ∙ sym (given.steps.set_there 0 (word_of result) u.cpu.regs))
        cases false e =
            let other = eqb-false k 0 e in
            given.steps.set_elsewhere 0 (word_of result) s.cpu.regs k other ∙ (sym (alone_below s.cpu.regs k low) ∙ sym (given.steps.set_elsewhere 0 (word_of result) u.cpu.regs k other))

    given_alone : (result : ℕ) (ls : List Label) (stores : List Stored) (left : Environment) (q : ℕ) → system_call request s.memory s.left ≡ Gives ls result stores left
        → IsAlone first (record { cpu = with_result result s.cpu; memory = store_all stores s.memory; left = left }) (record { cpu = with_result result u.cpu; eip = q; memory = store_all stores u.memory; left = left })
    given_alone result ls stores left q is =
        let unreserved = stores_unreserved request s.memory unreserved_asked ls result stores s.left left is given.calls in
        record {
          registers = result_same result;
          esp = given.steps.set_elsewhere 0 (word_of result) s.cpu.regs 4 (λ e. absurd (omega (arith, e))) ∙ states.esp;
          flags = refl;
          memory = stores_same given.memory first s.memory u.memory stores unreserved (λ a. refl);
          free = λ a r. stores_keep_kinds given.memory first s.memory stores a ∙ states.memory.free a r;
          left = refl;
        }

    pub call_met : (r : ℕ) (rest : List Item) → Stands code t.eip instr.Int80 r → Lies l code r rest × All (IsLayable numbers) rest → Met (act (own_item instr.Int80) rest s)
    call_met r rest stands inside = by (system_call request s.memory s.left) refl (given.calls.are_plain request s.memory s.left)
      where
        by : (c : Called) → system_call request s.memory s.left ≡ c → IsPlainCall (system_call request s.memory s.left) → Met (act (own_item instr.Int80) rest s)
        by (Ends e) is plain =
            halted_met given l code blocks first s t states instr.Int80 stands.len (act (own_item instr.Int80) rest s) e stands.is
            (call_acts rest ∙ ap (λ c. after_call c rest s) is) (call_steps stands.len ∙ ap (λ c. processor.after_call c (at_address (t.eip + stands.len) u)) is) (subst IsPlainCall is plain)
        by (Gives ls result stores left) is plain =
            settled_met given l code blocks first s t states instr.Int80 stands.len (act (own_item instr.Int80) rest s) ls (Inside rest) (record { cpu = with_result result s.cpu; memory = store_all stores s.memory; left = left })
            (record { cpu = with_result result u.cpu; eip = wrapped (t.eip + stands.len); memory = store_all stores u.memory; left = left }) stands.is
            (call_acts rest ∙ ap (λ c. after_call c rest s) is) (call_steps stands.len ∙ ap (λ c. processor.after_call c (at_address (t.eip + stands.len) u)) is)
            (given_alone result ls stores left (wrapped (t.eip + stands.len)) is)
            (subst (λ q. Lies l code q rest × All (IsLayable numbers) rest) (sym (behind given l code blocks first s t states instr.Int80 r stands)) inside)
