-- The beginning of laid code comes to a state beside the first position of the code.
use Rattle.std.proofs.Common.{◌≡◌, ◌≢◌, ℕ, ◌+◌, ◌-◌, ◌*◌, ◌%◌, ◌<◌, ◌≤◌, ◌==◌, ◌&&◌, ◌||◌, Bool, true, false, cond, leb, ltb, List, [], ◌∷◌, Some, refl, sym, ap, ap₂, ◌∙◌, subst, arith}
use Rattle.std.proofs.lemmas.Bool.{eqb-true, lt-ltb, le-leb}
use Rattle.outside.specs.Environment.{Environment, IsEnvironment}
use Rattle.x86_values.specs.declared.byte.Byte.{Byte}
use Rattle.x86_values.specs.Sizes.{no_word}
use Rattle.x86_values.specs.Words.{word_of, word_list, known}
use Rattle.x86_values.specs.LessSpecified.{WordLessSpecified}
use Rattle.traces.specs.Trace.{Go}
use Rattle.traces.specs.Steps.{Goes}
use Rattle.memory.specs.Memory.{Memory, Store, wrapped, allows_all, kind_of, put_all, forget_below, with_stack}
use Rattle.memory.specs.LessSpecified.{PlaceLessSpecified}
use Rattle.memory.specs.MemoryLaws.{MemoryLaws}
use Rattle.x86_types.specs.declared.operand.Reg.TheVariants.{Esp}
use Rattle.x86_types.specs.declared.operand.Rm.TheVariants as rm
use Rattle.x86_types.specs.declared.operand.Src.TheVariants as src
use Rattle.x86_types.specs.declared.width.Width.TheVariants.{Four}
use Rattle.x86_types.specs.declared.instr.Instr.{Instr}
use Rattle.x86_types.specs.declared.instr.Instr.TheVariants as instr
use Rattle.x86_code.specs.Code.{Code}
use Rattle.x86_meaning.specs.Registers.{with_register}
use Rattle.x86_meaning.specs.Transfers.{transfer}
use Rattle.x86_meaning.specs.Computing.{compute}
use Rattle.x86_meaning.specs.Effect.{accesses, effect}
use Rattle.x86_meaning.specs.Step.{State, settled_by, settled, at_address, finish, step, next}
use Rattle.x86_meaning.specs.StepLaws.{with_moved}
use Rattle.x86_meaning.specs.Run.{first_registers, first_processor, start_over, IsStart}
use Rattle.private_memory.specs.PrivateArea.{is_unreserved}
use Rattle.named_code.specs.declared.placed.Home.{Home}
use Rattle.named_code.specs.Items.{CodeBlock}
use Rattle.named_code.specs.CodeRun.{first_places, with_cells_from, with_cells}
use Rattle.laid_code.specs.Laid.{Places, Stands, place_of_old}
use Rattle.laid_code.specs.LaidRun.{with_reserved}
use Rattle.laid_code.specs.Beginning.{esp_to, Begins, with_esp, CanBegin, HasBegun, BeginningLaws}
use Rattle.laid_code.proofs.Given.{Given}
use Rattle.laid_code.proofs.Memories.{shown, reserved, nothing_forgotten}
use Rattle.laid_code.proofs.FirstMemories.{is_in_stack, in_stack, off_stack, stack_high, put_beside, forgets_nothing, put_off_stack, allows_by_kinds}

-- ---- the cells of names keep what is mapped
module _ (laws : MemoryLaws) (esp0 : ℕ) where
  from_keeps_kinds : (k : ℕ) (homes : List Home) (m : Memory) (a : ℕ) → kind_of (with_cells_from esp0 k homes m a) ≡ kind_of (m a)
  from_keeps_kinds k [] m a = refl
  from_keeps_kinds k (h ∷ more) m a = from_keeps_kinds (k + 1) more (put_all h.cell (word_list (first_registers esp0 k)) m) a ∙ laws.put_all_keeps_kinds h.cell (word_list (first_registers esp0 k)) m a

  cells_keep_kinds : (k : ℕ) (homes : List Home) (m : Memory) (a : ℕ) → kind_of (with_cells esp0 homes m a) ≡ kind_of (m a)
  unfolding with_cells
  cells_keep_kinds k homes m a = from_keeps_kinds 0 homes m a

-- ---- what the instructions do
abbrev cell_at : ℕ → ℕ
cell_at cell = (0 + 0 * 1 + cell) % 4294967296

store_steps : (cell len : ℕ) (t : State) → allows_all Store t.memory (cell_at cell) 4 ≡ true → step (esp_to cell) len t ≡ settled [] (at_address (t.eip + len) (record t { memory = put_all (cell_at cell) (word_list (t.cpu.regs 4)) t.memory }))
unfolding step accesses effect transfer compute finish
store_steps cell len t all = rw all refl

or_true : (b : Bool) → (b || true) ≡ true
or_true true = refl
or_true false = refl

-- a cell isn't reserved, and neither is an address behind what is
unreserved_cell : (a : ℕ) → 0x75000000 ≤ a → a < 0x75800000 → is_unreserved a ≡ true
unreserved_cell a from to = ap₂ (λ x y. x && y) (ap (λ z. ltb a 0x60000000 || z) (le-leb 0x75000000 a from) ∙ or_true (ltb a 0x60000000)) (ap (λ z. z || leb 0x76000000 a) (lt-ltb a 0x75800000 to))

unreserved_high : (a : ℕ) → 0x76000000 ≤ a → is_unreserved a ≡ true
unreserved_high a h = ap₂ (λ x y. x && y) (ap (λ z. ltb a 0x60000000 || z) (le-leb 0x75000000 a (omega (arith, h))) ∙ or_true (ltb a 0x60000000)) (ap (λ z. ltb a 0x75800000 || z) (le-leb 0x76000000 a h) ∙ or_true (ltb a 0x75800000))

module _ (given : Given) (code : Code) where
  settles : (w : State) (esp : ℕ) → known (w.cpu.regs 4) ≡ Some esp → settled [] w ≡ Go [] (record w { memory = forget_below esp w.memory })
  unfolding settled
  settles w esp e = ap (λ o. settled_by o [] w) e

  goes_by : (t w : State) (i : Instr) (len esp : ℕ) → code t.eip ≡ Some (i, len) → step i len t ≡ settled [] w → known (w.cpu.regs 4) ≡ Some esp → Goes (next code) t 1 [] (record w { memory = forget_below esp w.memory })
  goes_by t w i len esp stands steps e = given.runs.goes_step (next code) t [] _ (given.steps.at_instruction code t i len stands ∙ (steps ∙ settles w esp e))

  module _ (esp0 : ℕ) (fits : esp0 < 4294967296) where
    known_esp : known (word_of esp0) ≡ Some esp0
    known_esp = given.words.known_word esp0 fits

    -- esp is stored in a cell
    stored : (t : State) (cell r : ℕ) → t.cpu.regs 4 ≡ word_of esp0 → cell + 4 ≤ 0x75800000 → allows_all Store t.memory cell 4 ≡ true → (h : Stands code t.eip (esp_to cell) r)
        → Goes (next code) t 1 [] (record t { eip = r; memory = forget_below esp0 (put_all cell (word_list (word_of esp0)) t.memory) })
    stored t cell r esp low all h =
        let at : (0 + 0 * 1 + cell) % 4294967296 ≡ cell = omega (arith, low) in
        let steps = store_steps cell h.len t (ap (λ a. allows_all Store t.memory a 4) at ∙ all) in
        let after = h.after in
        let within = h.within in
        let there : wrapped (t.eip + h.len) ≡ r = omega (arith, after, within) in
        let on = goes_by t (at_address (t.eip + h.len) (record t { memory = put_all (cell_at cell) (word_list (t.cpu.regs 4)) t.memory })) (esp_to cell) h.len esp0 h.is steps (ap known esp ∙ known_esp) in
        rw' there at esp on
      where
        rw' : wrapped (t.eip + h.len) ≡ r → cell_at cell ≡ cell → t.cpu.regs 4 ≡ word_of esp0
            → Goes (next code) t 1 [] (record t { eip = wrapped (t.eip + h.len); memory = forget_below esp0 (put_all (cell_at cell) (word_list (t.cpu.regs 4)) t.memory) })
            → Goes (next code) t 1 [] (record t { eip = r; memory = forget_below esp0 (put_all cell (word_list (word_of esp0)) t.memory) })
        rw' e f g on =
            subst (λ w. Goes (next code) t 1 [] (record t { eip = r; memory = forget_below esp0 (put_all cell (word_list w) t.memory) })) g
            (subst (λ a. Goes (next code) t 1 [] (record t { eip = r; memory = forget_below esp0 (put_all a (word_list (t.cpu.regs 4)) t.memory) })) f
            (subst (λ q. Goes (next code) t 1 [] (record t { eip = q; memory = forget_below esp0 (put_all (cell_at cell) (word_list (t.cpu.regs 4)) t.memory) })) e on))

    module _ (l : Places) (blocks : List CodeBlock) (homes : List Home) (cell entry q : ℕ) (stack : List ℕ) (left : Environment) (m n : Memory) (start : IsStart esp0 stack) (env : IsEnvironment left) (begins : Begins l code q cell entry) (can : CanBegin homes cell esp0 m n) where
      abbrev word : List Byte
      word = word_list (word_of esp0)

      abbrev n1 : Memory
      n1 = put_all 0x75000000 word n

      abbrev n2 : Memory
      n2 = with_esp cell esp0 n

      -- ---- the states, a step at a time
      abbrev m0 : Memory
      m0 = with_stack esp0 stack n

      abbrev m1 : Memory
      m1 = forget_below esp0 (put_all 0x75000000 word m0)

      abbrev m2 : Memory
      m2 = forget_below esp0 (put_all cell word m1)

      abbrev first_at : ℕ → Memory → State
      first_at eip memory = record { cpu = first_processor esp0; eip = eip; memory = memory; left = left }

      abbrev cleared : ℕ → Memory → State
      cleared eip memory = record { cpu = record (first_processor esp0) { regs = with_register 4 (word_of 0) (first_processor esp0).regs }; eip = eip; memory = memory; left = left }

      m1_is : (a : ℕ) → m1 a ≡ with_stack esp0 stack n1 a
      m1_is a =
          given.memory.forget_by_place esp0 (put_all 0x75000000 word m0) (with_stack esp0 stack n1) a (put_beside 0x75000000 word refl (omega arith) given.memory esp0 stack start n a)
          ∙ forgets_nothing given.memory esp0 stack n1 (put_off_stack given.memory esp0 stack 0x75000000 word n can.off_stack) a

      n2_is : (a : ℕ) → put_all cell word n1 a ≡ n2 a
      unfolding with_esp
      n2_is a = refl

      m2_is : (a : ℕ) → m2 a ≡ with_stack esp0 stack n2 a
      unfolding with_esp
      m2_is a =
          let low : cell + 4 ≤ 0x7F000000 = let t = can.to in omega (arith, t) in
          given.memory.forget_by_place esp0 (put_all cell word m1) (put_all cell word (with_stack esp0 stack n1)) a (given.memory.put_all_by_place cell word m1 (with_stack esp0 stack n1) a (m1_is a))
          ∙ (given.memory.forget_by_place esp0 (put_all cell word (with_stack esp0 stack n1)) (with_stack esp0 stack n2) a (put_beside cell word refl low given.memory esp0 stack start n1 a)
          ∙ forgets_nothing given.memory esp0 stack n2 (put_off_stack given.memory esp0 stack cell word n1 (put_off_stack given.memory esp0 stack 0x75000000 word n can.off_stack)) a)

      -- ---- the cells can be written, each time
      not_stack : (a : ℕ) → a < 0x75800000 → is_in_stack esp0 stack a ≡ false
      not_stack a low = by (is_in_stack esp0 stack a) refl
        where
          by : (b : Bool) → is_in_stack esp0 stack a ≡ b → is_in_stack esp0 stack a ≡ false
          by true e = let high = stack_high esp0 stack start a e in absurd (omega (arith, low, high))
          by false e = e

      kind_first : (a : ℕ) → 0x75000000 ≤ a → a < 0x75800000 → kind_of (m0 a) ≡ Some (true, false)
      kind_first a from to = ap kind_of (off_stack esp0 stack n a (not_stack a to)) ∙ can.cells a from to

      kind_then : (a : ℕ) → 0x75000000 ≤ a → a < 0x75800000 → kind_of (m1 a) ≡ Some (true, false)
      kind_then a from to = given.memory.forget_keeps_kinds esp0 (put_all 0x75000000 word m0) a ∙ (given.memory.put_all_keeps_kinds 0x75000000 word m0 a ∙ kind_first a from to)

      in_cells : (P : Memory) → ((a : ℕ) → 0x75000000 ≤ a → a < 0x75800000 → kind_of (P a) ≡ Some (true, false)) → (at : ℕ) → 0x75000000 ≤ at → at + 4 ≤ 0x75800000 → allows_all Store P at 4 ≡ true
      in_cells P kinds at from to = allows_by_kinds Store P at 4 (λ j less.
          let here : (at + j) % 4294967296 ≡ at + j = omega (arith, to, less) in
          subst (λ a. kind_of (P a) ≡ Some (true, false)) (sym here) (kinds (at + j) (omega (arith, from)) (omega (arith, to, less))))

      step_one : Goes (next code) (first_at q m0) 1 [] (first_at begins.q1 m1)
      step_one = stored (first_at q m0) 0x75000000 begins.q1 refl (omega arith) (in_cells m0 kind_first 0x75000000 (omega arith) (omega arith)) begins.stores

      step_two : Goes (next code) (first_at begins.q1 m1) 1 [] (first_at begins.q2 m2)
      step_two = stored (first_at begins.q1 m1) cell begins.q2 refl can.to (in_cells m1 kind_then cell (let f = can.from in omega (arith, f)) can.to) begins.stores_again

      abbrev m3 : Memory
      m3 = forget_below 0 m2

      abbrev m4 : Memory
      m4 = forget_below 0 m3

      known_zero : known (with_register 4 (word_of 0) (first_processor esp0).regs 4) ≡ Some 0
      known_zero = ap known (given.steps.set_there 4 (word_of 0) (first_processor esp0).regs) ∙ given.words.known_word 0 (omega arith)

      step_three : Goes (next code) (first_at begins.q2 m2) 1 [] (cleared begins.q3 m3)
      step_three =
          let h = begins.clears in
          let after = h.after in
          let within = h.within in
          let there : wrapped (begins.q2 + h.len) ≡ begins.q3 = omega (arith, after, within) in
          subst (λ e. Goes (next code) (first_at begins.q2 m2) 1 [] (cleared e m3)) there
          (goes_by (first_at begins.q2 m2) (with_moved 4 0 (begins.q2 + h.len) (first_at begins.q2 m2)) (instr.Mov Four (rm.Reg Esp) (src.Imm 0)) h.len 0 h.is (given.steps.move Esp 0 h.len (first_at begins.q2 m2)) known_zero)

      step_four : Goes (next code) (cleared begins.q3 m3) 1 [] (cleared (place_of_old l entry) m4)
      step_four =
          let h = begins.enters in
          let after = h.stands.after in
          let there : wrapped (begins.q3 + h.stands.len + h.by) ≡ place_of_old l entry = subst (λ x. wrapped (x + h.by) ≡ place_of_old l entry) after h.leads in
          subst (λ e. Goes (next code) (cleared begins.q3 m3) 1 [] (cleared e m4)) there
          (goes_by (cleared begins.q3 m3) (at_address (begins.q3 + h.stands.len + h.by) (cleared begins.q3 m3)) (instr.Jmp h.by) h.stands.len 0 h.stands.is (given.steps.jump h.by h.stands.len (cleared begins.q3 m3)) known_zero)

      goes_then : (k k' : ℕ) (x y z : State) → Goes (next code) x k [] y → Goes (next code) y k' [] z → Goes (next code) x (k + k') [] z
      goes_then k k' x y z g h = given.runs.goes_then (next code) x k [] y k' [] z g h

      all_steps : Goes (next code) (start_over n q esp0 stack left) 4 [] (cleared (place_of_old l entry) m4)
      unfolding start_over
      all_steps =
          goes_then 1 3 (first_at q m0) (first_at begins.q1 m1) (cleared (place_of_old l entry) m4) step_one
          (goes_then 1 2 (first_at begins.q1 m1) (first_at begins.q2 m2) (cleared (place_of_old l entry) m4) step_two
          (goes_then 1 1 (first_at begins.q2 m2) (cleared begins.q3 m3) (cleared (place_of_old l entry) m4) step_three step_four))

      -- ---- the state beside the first position
      m4_is : (a : ℕ) → m4 a ≡ with_stack esp0 stack n2 a
      m4_is a = nothing_forgotten given.memory n m3 a ∙ (nothing_forgotten given.memory n m2 a ∙ m2_is a)

      abbrev coded : Memory
      coded = with_cells esp0 homes m

      elsewhere : (at : ℕ) → 0x75000000 ≤ at → at + 4 ≤ 0x75800000 → (a : ℕ) → is_unreserved a ≡ false → (k : ℕ) → k < 4 → a ≢ wrapped (at + k)
      elsewhere at from to a h k less e =
          let here : (at + k) % 4294967296 ≡ at + k = omega (arith, to, less) in
          let is : a ≡ at + k = e ∙ here in
          let free : is_unreserved (at + k) ≡ true = unreserved_cell (at + k) (omega (arith, from)) (omega (arith, to, less)) in
          let both : true ≡ false = sym free ∙ (ap is_unreserved (sym is) ∙ h) in
          absurd (cc both)

      n2_reserved : (a : ℕ) → is_unreserved a ≡ false → n2 a ≡ n a
      unfolding with_esp
      n2_reserved a h =
          given.memory.put_all_elsewhere cell word n1 a (elsewhere cell (let f = can.from in omega (arith, f)) can.to a h)
          ∙ given.memory.put_all_elsewhere 0x75000000 word n a (elsewhere 0x75000000 (omega arith) (omega arith) a h)

      place_less : (a : ℕ) (b c : Bool) → is_in_stack esp0 stack a ≡ b → is_unreserved a ≡ c → PlaceLessSpecified (with_reserved n (with_stack esp0 stack coded) a) (with_stack esp0 stack n2 a)
      place_less a true c e f =
          let high = stack_high esp0 stack start a e in
          let free = unreserved_high a (omega (arith, high)) in
          let itself = (given.less_memory.itself (with_stack esp0 stack n) (given.memory.stack_has_bytes esp0 stack n start.bytes can.bytes)).places a in
          subst (λ o. PlaceLessSpecified (with_reserved n (with_stack esp0 stack coded) a) o) (in_stack esp0 stack n a e ∙ sym (in_stack esp0 stack n2 a e))
          (subst (λ o. PlaceLessSpecified o (with_stack esp0 stack n a)) (in_stack esp0 stack n a e ∙ (sym (in_stack esp0 stack coded a e) ∙ sym (shown n (with_stack esp0 stack coded) a free))) itself)
      place_less a false true e f =
          subst (λ o. PlaceLessSpecified (with_reserved n (with_stack esp0 stack coded) a) o) (sym (off_stack esp0 stack n2 a e))
          (subst (λ o. PlaceLessSpecified o (n2 a)) (sym (off_stack esp0 stack coded a e) ∙ sym (shown n (with_stack esp0 stack coded) a f)) (can.beside a f))
      place_less a false false e f =
          subst (λ o. PlaceLessSpecified (with_reserved n (with_stack esp0 stack coded) a) o) (sym (n2_reserved a f) ∙ sym (off_stack esp0 stack n2 a e))
          (subst (λ o. PlaceLessSpecified o (n a)) (sym (reserved n (with_stack esp0 stack coded) a f)) ((given.less_memory.itself n can.bytes).places a))

      is_free : (a : ℕ) → is_unreserved a ≡ false → kind_of (with_stack esp0 stack coded a) ≡ Some (true, false)
      is_free a h = by (is_in_stack esp0 stack a) refl
        where
          by : (b : Bool) → is_in_stack esp0 stack a ≡ b → kind_of (with_stack esp0 stack coded a) ≡ Some (true, false)
          by true e =
              let high = stack_high esp0 stack start a e in
              let free = unreserved_high a (omega (arith, high)) in
              let both : true ≡ false = sym free ∙ h in
              absurd (cc both)
          by false e = ap kind_of (off_stack esp0 stack coded a e) ∙ (cells_keep_kinds given.memory esp0 0 homes m a ∙ can.free a h)

      -- esp is 0, and nothing is known of the other registers
      first_register_less : (k : ℕ) → k < 8 → WordLessSpecified (first_places esp0 k) ((cleared (place_of_old l entry) m4).cpu.regs k)
      unfolding first_places
      first_register_less k low = by (k == 4) refl
        where
          zero_itself : WordLessSpecified (word_of 0) (word_of 0)
          zero_itself = given.less_words.itself (word_of 0) (given.words.word_of_bytes 0)

          by : (b : Bool) → (k == 4) ≡ b → WordLessSpecified (cond (ltb k 8) (cond (k == 4) (word_of 0) no_word) (first_registers esp0 (k - 8))) (with_register 4 (word_of 0) (first_processor esp0).regs k)
          by true e =
              subst (λ w. WordLessSpecified w (with_register 4 (word_of 0) (first_processor esp0).regs k)) (sym (ap₂ (λ x y. cond x (cond y (word_of 0) no_word) (first_registers esp0 (k - 8))) (lt-ltb k 8 low) e))
              (subst (λ j. WordLessSpecified (word_of 0) (with_register 4 (word_of 0) (first_processor esp0).regs j)) (sym (eqb-true k 4 e))
              (subst (λ w. WordLessSpecified (word_of 0) w) (sym (given.steps.set_there 4 (word_of 0) (first_processor esp0).regs)) zero_itself))
          by false e =
              subst (λ w. WordLessSpecified w (with_register 4 (word_of 0) (first_processor esp0).regs k)) (sym (ap₂ (λ x y. cond x (cond y (word_of 0) no_word) (first_registers esp0 (k - 8))) (lt-ltb k 8 low) e))
              (record { b0 = tt; b1 = tt; b2 = tt; b3 = tt })

      pub has_begun : HasBegun l code blocks homes entry q esp0 stack left m n
      unfolding first_places
      has_begun = record {
        state = cleared (place_of_old l entry) m4;
        goes = all_steps;
        beside = record {
          stands = refl;
          states = record {
            registers = first_register_less;
            esp = refl;
            flags = record { cf = tt; pf = tt; zf = tt; sf = tt; of = tt };
            memory = record {
              free = is_free;
              less = record { places = λ a. subst (λ o. PlaceLessSpecified (with_reserved n (with_stack esp0 stack coded) a) o) (sym (m4_is a)) (place_less a (is_in_stack esp0 stack a) (is_unreserved a) refl refl) };
            };
            left = refl;
            environment = env;
          };
        };
      }

pub beginning_laws : Given → BeginningLaws
beginning_laws given = record {
  begins = λ l code blocks homes cell entry q esp0 stack left m n start env begins can.
      has_begun given code esp0 (let w = start.within in omega (arith, w)) l blocks homes cell entry q stack left m n start env begins can;
}
