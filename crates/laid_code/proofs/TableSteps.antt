-- The instructions of a jump by the table, a step at a time. Beside them the code is in a state whose registers and flags are lost.
use Rattle.std.proofs.Common.{◌≡◌, ℕ, ◌+◌, ◌-◌, ◌*◌, ◌%◌, ◌<◌, ◌==◌, ◌&&◌, Bool, true, false, not, cond, ltb, [], Some, refl, sym, ap, ap₂, ◌∙◌, subst, arith}
use Rattle.std.proofs.lemmas.Bool.{eqb-true, lt-ltb}
use Rattle.x86_values.specs.declared.word.Word.{Word}
use Rattle.x86_values.specs.declared.word.Flags.{Flags}
use Rattle.x86_values.specs.Results.{no_result}
use Rattle.x86_values.specs.Sizes.{no_word, cut, number}
use Rattle.x86_values.specs.Sums.{difference, of_known, sub}
use Rattle.x86_values.specs.Words.{word_of, word_list, known, padded}
use Rattle.x86_values.specs.LessSpecified.{WordLessSpecified, BytesLessSpecified}
use Rattle.traces.specs.Trace.{Go}
use Rattle.traces.specs.Steps.{Goes}
use Rattle.memory.specs.Memory.{Memory, Load, wrapped, allows_all, bytes_at, forget_below, SameIn}
use Rattle.memory.specs.LessSpecified.{PlaceLessSpecified}
use Rattle.x86_types.specs.declared.operand.Src.TheVariants as src
use Rattle.x86_types.specs.declared.operation.AluOp.TheVariants as alu
use Rattle.x86_types.specs.declared.operation.Cond.TheVariants as cond_
use Rattle.x86_types.specs.declared.width.Width.TheVariants.{Four}
use Rattle.x86_types.specs.declared.instr.Instr.{Instr}
use Rattle.x86_types.specs.declared.instr.Instr.TheVariants as instr
use Rattle.x86_code.specs.Code.{Code}
use Rattle.x86_meaning.specs.Registers.{Registers, with_register}
use Rattle.x86_meaning.specs.Transfers.{transfer}
use Rattle.x86_meaning.specs.Computing.{compute}
use Rattle.x86_meaning.specs.Effect.{accesses, effect}
use Rattle.x86_meaning.specs.Step.{State, settled_by, settled, at_address, finish, step, next}
use Rattle.private_memory.specs.PrivateArea.{is_unreserved}
use Rattle.named_code.specs.Running.{CodeState, lost}
use Rattle.laid_code.specs.Laid.{Places, Stands, Leads, eax, table_word}
use Rattle.laid_code.specs.LaidRun.{with_reserved, AreMemoriesBeside, AreStatesBeside, HasAddressTable}
use Rattle.laid_code.proofs.Given.{Given}
use Rattle.laid_code.proofs.Memories.{reserved, nothing_forgotten}

-- the processor with another word in eax and other flags
abbrev pub with_eax : Word → Flags → State → State
with_eax w f t = record t { cpu = record { regs = with_register 0 w t.cpu.regs; flags = f } }

-- ---- what each instruction does
pub sub_steps : (k len : ℕ) (t : State) → let a = sub 4 (t.cpu.regs 0) (word_of k) (Some false) in step (instr.Alu alu.Sub Four eax (src.Imm k)) len t ≡ settled [] (at_address (t.eip + len) (with_eax a.value a.flags t))
unfolding step accesses effect transfer compute finish
sub_steps k len t = refl

pub cmp_steps : (k len : ℕ) (t : State) → step (instr.Alu alu.Cmp Four eax (src.Imm k)) len t ≡ settled [] (at_address (t.eip + len) (record t { cpu = record t.cpu { flags = (sub 4 (t.cpu.regs 0) (word_of k) (Some false)).flags } }))
unfolding step accesses effect transfer compute finish
cmp_steps k len t = refl

pub passes_steps : (by len : ℕ) (t : State) → t.cpu.flags.cf ≡ Some true → step (instr.Jcc cond_.Ae by) len t ≡ settled [] (at_address (t.eip + len) t)
unfolding step accesses effect transfer compute finish
passes_steps by len t e = rw e refl

pub stops_steps : (by len : ℕ) (t : State) → t.cpu.flags.cf ≡ Some false → step (instr.Jcc cond_.Ae by) len t ≡ settled [] (at_address (t.eip + len + by) t)
unfolding step accesses effect transfer compute finish
stops_steps by len t e = rw e refl

abbrev table_at : Places → ℕ → ℕ
table_at l k = (0 + k * 4 + l.table) % 4294967296

pub look_steps : (l : Places) (len : ℕ) (t : State) (k : ℕ) → known (t.cpu.regs 0) ≡ Some k → allows_all Load t.memory (table_at l k) 4 ≡ true
    → step (instr.Mov Four eax (src.Mem (table_word l))) len t ≡ settled [] (at_address (t.eip + len) (with_eax (padded (bytes_at t.memory (table_at l k) 4)) t.cpu.flags t))
unfolding step accesses effect transfer compute finish
look_steps l len t k e all = rw (e, all) refl

pub jump_steps : (len : ℕ) (t : State) (a : ℕ) → known (t.cpu.regs 0) ≡ Some a → step (instr.JmpTo eax) len t ≡ settled [] (at_address a t)
unfolding step accesses effect transfer compute finish
jump_steps len t a e = rw e refl

module _ (given : Given) (first : Memory) (code : Code) (s : CodeState) where
  -- the processor is beside the state whose registers and flags are lost, with a number in eax
  pub record Holds (a q : ℕ) (t : State) : Type 0 where
    pub states : AreStatesBeside first (lost s) t
    pub eax : known (t.cpu.regs 0) ≡ Some a
    pub eip : t.eip ≡ q

  nothing_less : (w : Word) → WordLessSpecified no_word w
  nothing_less w = record { b0 = tt; b1 = tt; b2 = tt; b3 = tt }

  -- of a state that is lost esp alone is known
  pub lost_registers : (regs : Registers) → WordLessSpecified (s.cpu.regs 4) (regs 4) → (k : ℕ) → k < 8 → WordLessSpecified ((lost s).cpu.regs k) (regs k)
  lost_registers regs h k low = cases (k == 4) refl
    where
      cases : (b : Bool) → (k == 4) ≡ b → WordLessSpecified ((lost s).cpu.regs k) (regs k)
      cases true e = subst (λ n. WordLessSpecified ((lost s).cpu.regs n) (regs n)) (sym (eqb-true k 4 e)) h
      cases false e = subst (λ w. WordLessSpecified w (regs k)) (sym (ap₂ (λ x y. cond (x && not y) no_word (s.cpu.regs k)) (lt-ltb k 8 low) e)) (nothing_less (regs k))

  -- where esp and all else but the registers is as before, a step that settles goes on
  pub goes_on : (t w : State) (i : Instr) (len : ℕ) → AreStatesBeside first (lost s) t → code t.eip ≡ Some (i, len) → step i len t ≡ settled [] w → w.cpu.regs 4 ≡ t.cpu.regs 4 → w.memory ≡ t.memory → w.left ≡ t.left
      → Goes (next code) t 1 [] (record w { memory = forget_below 0 w.memory }) × AreStatesBeside first (lost s) (record w { memory = forget_below 0 w.memory })
  unfolding settled
  goes_on t w i len h stands steps esp memory left =
      let known_esp : known (w.cpu.regs 4) ≡ Some 0 =
      ap known esp ∙ given.less_words.same_word (s.cpu.regs 4) (t.cpu.regs 4) 0 (h.registers 4 (omega arith)) (ap known h.esp ∙ given.words.known_word 0 (omega arith)) in
      let moves : next code t ≡ Go [] (record w { memory = forget_below 0 w.memory }) = given.steps.at_instruction code t i len stands ∙ (steps ∙ ap (λ o. settled_by o [] w) known_esp) in (
        given.runs.goes_step (next code) t [] _ moves,
        record {
          registers = lost_registers w.cpu.regs (subst (WordLessSpecified (s.cpu.regs 4)) (sym esp) (h.registers 4 (omega arith)));
          esp = h.esp;
          flags = record { cf = tt; pf = tt; zf = tt; sf = tt; of = tt };
          memory = record {
            free = h.memory.free;
            less = record { places = λ a. subst (PlaceLessSpecified (with_reserved first s.memory a)) (ap (λ (m : Memory). m a) (sym memory) ∙ sym (nothing_forgotten given.memory first w.memory a)) (h.memory.less.places a) };
          };
          left = h.left ∙ sym left;
          environment = h.environment;
        },
      )

  -- one step of the jump
  pub record HoldsOn (a q : ℕ) (t : State) : Type 0 where
    pub state : State
    pub goes : Goes (next code) t 1 [] state
    pub holds : Holds a q state

  set_other : (w : Word) (regs : Registers) → with_register 0 w regs 4 ≡ regs 4
  set_other w regs = given.steps.set_elsewhere 0 w regs 4 (λ e. absurd (omega (arith, e)))

  set_eax : (w : Word) (regs : Registers) → with_register 0 w regs 0 ≡ w
  set_eax w regs = given.steps.set_there 0 w regs

  behind : (t : State) (q : ℕ) (i : Instr) (r : ℕ) → t.eip ≡ q → (h : Stands code q i r) → (code t.eip ≡ Some (i, h.len)) × (wrapped (t.eip + h.len) ≡ r)
  behind t q i r e h = let after = h.after in let w = h.within in (ap code e ∙ h.is, omega (arith, e, after, w))

  -- ---- a difference of known numbers
  sub_known : (x : Word) (a k : ℕ) → known x ≡ Some a → k < 4294967296 → sub 4 x (word_of k) (Some false) ≡ difference 4 a k false
  unfolding sub number cut
  sub_known x a k h low = ap₂ (λ m n. of_known (difference 4) (no_result 4) m n (Some false)) h (given.words.known_word k low)

  abbrev pub less_in_span : ℕ → ℕ → ℕ
  less_in_span a k = (4294967296 + a - k) % 4294967296

  difference_value : (a k : ℕ) → (difference 4 a k false).value ≡ word_of (less_in_span a k)
  unfolding difference
  difference_value a k = let z : k + 0 ≡ k = omega arith in ap (λ n. word_of ((4294967296 + a - n) % 4294967296)) z

  difference_carry : (a k : ℕ) → (difference 4 a k false).flags.cf ≡ Some (ltb a k)
  unfolding difference
  difference_carry a k = let z : k + 0 ≡ k = omega arith in ap (λ n. Some (ltb a n)) z

  -- less the beginning of the span
  pub sub_holds : (t : State) (a q k r : ℕ) → Holds a q t → Stands code q (instr.Alu alu.Sub Four eax (src.Imm k)) r → k < 4294967296 → HoldsOn (less_in_span a k) r t
  sub_holds t a q k r h stands low =
      let at = behind t q (instr.Alu alu.Sub Four eax (src.Imm k)) r h.eip stands in
      let d = sub 4 (t.cpu.regs 0) (word_of k) (Some false) in
      let w = at_address (t.eip + stands.len) (with_eax d.value d.flags t) in
      let on = goes_on t w (instr.Alu alu.Sub Four eax (src.Imm k)) stands.len h.states at.0 (sub_steps k stands.len t) (set_other d.value t.cpu.regs) refl refl in
      record {
        state = record w { memory = forget_below 0 w.memory };
        goes = on.0;
        holds = record {
          states = on.1;
          eax = ap known (set_eax d.value t.cpu.regs ∙ (ap (λ x. x.value) (sub_known (t.cpu.regs 0) a k h.eax low) ∙ difference_value a k)) ∙ given.words.known_word (less_in_span a k) (omega arith);
          eip = at.1;
        };
      }

  -- a comparison, and what CF is then
  pub record Compared (a q k : ℕ) (t : State) : Type 0 where
    pub state : State
    pub goes : Goes (next code) t 1 [] state
    pub holds : Holds a q state
    pub carry : state.cpu.flags.cf ≡ Some (ltb a k)

  pub cmp_holds : (t : State) (a q k r : ℕ) → Holds a q t → Stands code q (instr.Alu alu.Cmp Four eax (src.Imm k)) r → k < 4294967296 → Compared a r k t
  cmp_holds t a q k r h stands low =
      let at = behind t q (instr.Alu alu.Cmp Four eax (src.Imm k)) r h.eip stands in
      let d = sub 4 (t.cpu.regs 0) (word_of k) (Some false) in
      let w = at_address (t.eip + stands.len) (record t { cpu = record t.cpu { flags = d.flags } }) in
      let on = goes_on t w (instr.Alu alu.Cmp Four eax (src.Imm k)) stands.len h.states at.0 (cmp_steps k stands.len t) refl refl refl in
      record {
        state = record w { memory = forget_below 0 w.memory };
        goes = on.0;
        holds = record { states = on.1; eax = h.eax; eip = at.1 };
        carry = ap (λ x. x.flags.cf) (sub_known (t.cpu.regs 0) a k h.eax low) ∙ difference_carry a k;
      }

  -- the jump to the stop isn't taken, or is
  pub passes_holds : (t : State) (a q to r : ℕ) → Holds a q t → Leads code q (instr.Jcc cond_.Ae) r to → t.cpu.flags.cf ≡ Some true → HoldsOn a r t
  passes_holds t a q to r h leads carry =
      let at = behind t q (instr.Jcc cond_.Ae leads.by) r h.eip leads.stands in
      let w = at_address (t.eip + leads.stands.len) t in
      let on = goes_on t w (instr.Jcc cond_.Ae leads.by) leads.stands.len h.states at.0 (passes_steps leads.by leads.stands.len t carry) refl refl refl in
      record { state = record w { memory = forget_below 0 w.memory }; goes = on.0; holds = record { states = on.1; eax = h.eax; eip = at.1 } }

  pub stops_holds : (t : State) (a q to r : ℕ) → Holds a q t → Leads code q (instr.Jcc cond_.Ae) r to → t.cpu.flags.cf ≡ Some false → HoldsOn a to t
  stops_holds t a q to r h leads carry =
      let at = behind t q (instr.Jcc cond_.Ae leads.by) r h.eip leads.stands in
      let w = at_address (t.eip + leads.stands.len + leads.by) t in
      let on = goes_on t w (instr.Jcc cond_.Ae leads.by) leads.stands.len h.states at.0 (stops_steps leads.by leads.stands.len t carry) refl refl refl in
      let after : r ≡ q + leads.stands.len = leads.stands.after in
      let here : r ≡ t.eip + leads.stands.len = after ∙ ap (λ n. n + leads.stands.len) (sym h.eip) in
      record { state = record w { memory = forget_below 0 w.memory }; goes = on.0; holds = record { states = on.1; eax = h.eax; eip = subst (λ n. wrapped (n + leads.by) ≡ to) here leads.leads } }

  -- ---- the word of the table
  module _ (l : Places) (table : HasAddressTable l first) (fits : l.table + 4 * l.count < 4294967296) where
    at_word : (k : ℕ) → k < l.count → table_at l k ≡ l.table + 4 * k
    at_word k low = omega (arith, fits, low)

    in_table : (m : Memory) (k : ℕ) → k < l.count → SameIn (l.table + 4 * k) 4 (with_reserved first m) first
    in_table m k low = record {
      places = λ j less.
          let here : (l.table + 4 * k + j) % 4294967296 ≡ l.table + 4 * k + j = omega (arith, fits, low, less) in
          reserved first m (wrapped (l.table + 4 * k + j)) (subst (λ a. is_unreserved a ≡ false) (sym here) (table.reserved (l.table + 4 * k + j) (omega arith) (omega (arith, low, less))));
    }

    readable : (m n : Memory) (k : ℕ) → AreMemoriesBeside first m n → k < l.count → allows_all Load n (table_at l k) 4 ≡ true
    readable m n k h low =
        ap (λ a. allows_all Load n a 4) (at_word k low)
        ∙ (sym (given.less_memory.allows Load (with_reserved first m) n (l.table + 4 * k) 4 h.less)
        ∙ (given.memory.allows_in_same Load (with_reserved first m) first (l.table + 4 * k) 4 (in_table m k low) ∙ table.readable k low))

    -- bytes that are more specified than those of a word
    padded_less : (w : Word) (n : Memory) (at : ℕ) → BytesLessSpecified (word_list w) (bytes_at n at 4) → WordLessSpecified w (padded (bytes_at n at 4))
    unfolding bytes_at
    padded_less w n at h = record { b0 = h.0; b1 = h.1.0; b2 = h.1.1.0; b3 = h.1.1.1.0 }

    loaded : (m n : Memory) (k : ℕ) → AreMemoriesBeside first m n → k < l.count → l.by_address (l.span + k) < 4294967296 → known (padded (bytes_at n (table_at l k) 4)) ≡ Some (l.by_address (l.span + k))
    loaded m n k h low fit =
        let place = l.by_address (l.span + k) in
        let less = given.less_memory.bytes (with_reserved first m) n (l.table + 4 * k) 4 h.less in
        let word = given.memory.bytes_in_same (with_reserved first m) first (l.table + 4 * k) 4 (in_table m k low) ∙ table.words k low in
        ap (λ a. known (padded (bytes_at n a 4))) (at_word k low)
        ∙ given.less_words.same_word (word_of place) (padded (bytes_at n (l.table + 4 * k) 4)) place (padded_less (word_of place) n (l.table + 4 * k) (subst (λ bs. BytesLessSpecified bs (bytes_at n (l.table + 4 * k) 4)) word less)) (given.words.known_word place fit)

    pub look_holds : (t : State) (k q r : ℕ) → Holds k q t → Stands code q (instr.Mov Four eax (src.Mem (table_word l))) r → k < l.count → l.by_address (l.span + k) < 4294967296 → HoldsOn (l.by_address (l.span + k)) r t
    look_holds t k q r h stands low fit =
        let at = behind t q (instr.Mov Four eax (src.Mem (table_word l))) r h.eip stands in
        let v = padded (bytes_at t.memory (table_at l k) 4) in
        let w = at_address (t.eip + stands.len) (with_eax v t.cpu.flags t) in
        let on = goes_on t w (instr.Mov Four eax (src.Mem (table_word l))) stands.len h.states at.0 (look_steps l stands.len t k h.eax (readable s.memory t.memory k h.states.memory low)) (set_other v t.cpu.regs) refl refl in
        record {
          state = record w { memory = forget_below 0 w.memory };
          goes = on.0;
          holds = record { states = on.1; eax = ap known (set_eax v t.cpu.regs) ∙ loaded s.memory t.memory k h.states.memory low fit; eip = at.1 };
        }

  pub jump_holds : (t : State) (a q r : ℕ) → Holds a q t → Stands code q (instr.JmpTo eax) r → a < 4294967296 → HoldsOn a a t
  jump_holds t a q r h stands fit =
      let at = behind t q (instr.JmpTo eax) r h.eip stands in
      let w = at_address a t in
      let on = goes_on t w (instr.JmpTo eax) stands.len h.states at.0 (jump_steps stands.len t a h.eax) refl refl refl in
      let here : a % 4294967296 ≡ a = omega (arith, fit) in
      record { state = record w { memory = forget_below 0 w.memory }; goes = on.0; holds = record { states = on.1; eax = h.eax; eip = here } }
