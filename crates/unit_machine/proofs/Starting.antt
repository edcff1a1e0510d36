-- The start of a run.
use Rattle.std.proofs.Common.{◌≡◌, ℕ, List, [], ◌++◌, slice_get, All, Contains, Option, Some, None, Result, Ok, Err, refl, sym, ap, ◌∙◌, subst}
use Rattle.std.proofs.lemmas.Option.{get_or_from_slice_get, slice_get_within}
use Rattle.std.specs.declared.alloc.AllocError.{AllocError}
use Rattle.outside.specs.Environment.{Environment}
use Rattle.x86_values.specs.declared.word.Word.{Word}
use Rattle.x86_values.specs.Sizes.{no_word}
use Rattle.traces.specs.Trace.{End, Stopped, Stand, seen, run}
use Rattle.traces.specs.RunLaws.{RunLaws}
use Rattle.memory.specs.Memory.{Memory, with_stack}
use Rattle.x86_meaning.specs.Run.{first_registers}
use Rattle.sw_host.specs.Told.{Told, Tells}
use Rattle.sw_host.specs.Chains.{tells_none, tells_map}
use Rattle.system_calls.specs.Given.{environment}
use Rattle.flag_ir.specs.declared.operation.Op.{Op}
use Rattle.flag_ir.specs.declared.block.Block.{Block}
use Rattle.flag_ir.specs.Storage.{Storage}
use Rattle.flag_ir.specs.Entering.{CodeUnit, Onward, index_at, before_block}
use Rattle.flag_ir.specs.UnitRun.{Before, Over, UnitState, state_at, next, first_storage, entered, first_state, unit_run}
use Rattle.flag_ir.specs.Form.{IsOp, IsFrameless, IsFramelessBlock, IsInForm, IsLoweredInForm}
use Rattle.unit_machine.specs.declared.end.UnitEnd.{UnitEnd}
use Rattle.unit_machine.specs.declared.end.UnitEnd.TheVariants as unitend
use Rattle.unit_machine.specs.declared.step.Position.{Position}
use Rattle.unit_machine.specs.declared.values.Values.{Values}
use Rattle.unit_machine.specs.Standing.{words_of, registers_of, storage_of}
use Rattle.unit_machine.specs.Moving.{IsRunnable, state_in}
use Rattle.unit_machine.specs.Running.{RunsTo}
use Rattle.unit_machine.proofs.Giving.{gives_none}
use Rattle.unit_machine.proofs.Leaving.{jump_free}

-- ---- what can be run
module _ (unit : CodeUnit) (form : IsInForm unit) (low : IsLoweredInForm unit) where
  contained : (k : ℕ) (b : Block) → slice_get unit.whole k ≡ Some b → Contains unit.whole b
  contained k b h = (k, slice_get_within unit.whole k b h, get_or_from_slice_get unit.whole k b b h)

  frameless : (k : ℕ) (b : Block) → slice_get unit.whole k ≡ Some b → IsFramelessBlock b
  frameless k b h = subst (λ (x : Block). IsFramelessBlock x) (get_or_from_slice_get unit.whole k b b h) (low.blocks k b (slice_get_within unit.whole k b h))

  all_at : (P : Op → Type 0) (ops : List Op) (i : ℕ) (o : Op) → All P ops → slice_get ops i ≡ Some o → P o
  all_at P ops i o h there = subst P (get_or_from_slice_get ops i o o there) (h i o (slice_get_within ops i o there))

  pub runnable : IsRunnable unit
  runnable = record {
    numbered = form.whole.numbers;
    procs = low.procs;
    op_form = λ k i b o there at. all_at (IsOp 0) b.ops i o (form.whole.ops b (contained k b there)) at;
    op_frameless = λ k i b o there at. all_at IsFrameless b.ops i o (frameless k b there).ops at;
    exit_form = λ k b there. form.whole.exits b (contained k b there);
    exit_frameless = λ k b there. (frameless k b there).exit;
  }

-- ---- the values and the memory at the start
module _ (v : Values) (n m : Memory) (esp0 : ℕ) (stack : List ℕ) (regs : registers_of v.regs ≡ first_registers esp0) (flags : words_of v.flags ≡ (λ k. no_word)) (temps : words_of v.temps.items ≡ (λ k. no_word)) (is_esp0 : v.esp0 ≡ esp0) (memory : n ≡ with_stack esp0 stack m) where
  first_is : (left : Environment) → storage_of v n left ≡ first_storage m esp0 stack left
  unfolding first_storage
  first_is left =
      ap (λ (r : ℕ → Word). record (storage_of v n left) { regs = r }) regs ∙ ap (λ (f : ℕ → Word). record (storage_of v n left) { regs = first_registers esp0; flags = f }) flags
      ∙ ap (λ (t : ℕ → Word). record (storage_of v n left) { regs = first_registers esp0; flags = λ k. no_word; temps = t }) temps
      ∙ ap (λ (k : Memory). record (storage_of v n left) { regs = first_registers esp0; flags = λ k. no_word; temps = λ k. no_word; memory = k }) memory
      ∙ ap (λ (e : ℕ). record (storage_of v n left) { regs = first_registers esp0; flags = λ k. no_word; temps = λ k. no_word; memory = with_stack esp0 stack m; esp0 = e }) is_esp0

free : (m : Memory) (esp0 : ℕ) (stack : List ℕ) (left : Environment) → (first_storage m esp0 stack left).frames ≡ []
unfolding first_storage
free m esp0 stack left = refl

module _ (unit : CodeUnit) (procs : unit.procs ≡ []) (m : Memory) (entry esp0 : ℕ) (stack : List ℕ) where
  first_by : (o : Option ℕ) → index_at entry unit.whole ≡ o → (left : Environment) → first_state unit m entry esp0 stack left ≡ entered (first_storage m esp0 stack left) (before_block o (Stopped entry) (first_storage m esp0 stack left))
  unfolding first_state
  first_by o is left =
      let u = first_storage m esp0 stack left in
      ap (λ (r : Onward). entered u r) (jump_free unit procs entry u (free m esp0 stack left)) ∙ ap (λ (x : Option ℕ). entered u (before_block x (Stopped entry) u)) is

  -- an entry where no block is
  over_stands : (e : End) (u : Storage) → next unit (state_at 0 (Over e) u) ≡ Stand [] e
  unfolding next
  over_stands e u = refl

  stops : RunLaws UnitState → index_at entry unit.whole ≡ None → (left : Environment) (budget : ℕ) → unit_run unit m entry esp0 stack left budget ≡ seen [] (Some (Stopped entry))
  unfolding unit_run
  stops runs none left budget =
      let u = first_storage m esp0 stack left in
      ap (λ (s : UnitState). run (next unit) s budget) (first_by None none left) ∙ runs.run_stand (next unit) (state_at 0 (Over (Stopped entry)) u) [] (Stopped entry) (over_stands (Stopped entry) u) budget

  pub tells_stops : RunLaws UnitState → index_at entry unit.whole ≡ None → (o : Option Told) (budget : ℕ) → Tells o o (RunsTo (unit_run unit m entry esp0 stack) budget (Ok (unitend.Stopped entry)))
  tells_stops runs none o budget = tells_none o (RunsTo (unit_run unit m entry esp0 stack) budget (Ok (unitend.Stopped entry)))
      (λ a. record { answers = []; labels = []; shown = λ rest. stops runs none (environment a rest) budget; host = gives_none a })

  -- or a block from which it is run
  module _ (p : Position) (n : Memory) (k : ℕ) (there : index_at entry unit.whole ≡ Some k) (at : (left : Environment) → state_in unit p n left ≡ state_at 0 (Before k) (first_storage m esp0 stack left)) where
    same_run : (left : Environment) (budget : ℕ) → unit_run unit m entry esp0 stack left budget ≡ run (next unit) (state_in unit p n left) budget
    unfolding unit_run
    same_run left budget = ap (λ (s : UnitState). run (next unit) s budget) (first_by (Some k) there left ∙ sym (at left))

    runs_same : (r : Result UnitEnd AllocError) (budget : ℕ) (a b : Told) → RunsTo (λ left. run (next unit) (state_in unit p n left)) budget r a b → RunsTo (unit_run unit m entry esp0 stack) budget r a b
    runs_same (Ok end) budget a b h = record { answers = h.answers; labels = h.labels; shown = λ rest. same_run (environment a (h.answers ++ rest)) budget ∙ h.shown rest; host = h.host }
    runs_same (Err e) budget a b h = record { steps = h.steps; within = h.within; more = h.more; answers = h.answers; labels = h.labels; shown = λ rest. same_run (environment a (h.answers ++ rest)) h.steps ∙ h.shown rest; host = h.host }

    pub tells_same : (o q : Option Told) (r : Result UnitEnd AllocError) (budget : ℕ) → Tells o q (RunsTo (λ left. run (next unit) (state_in unit p n left)) budget r) → Tells o q (RunsTo (unit_run unit m entry esp0 stack) budget r)
    tells_same o q r budget t = tells_map o q (RunsTo (λ left. run (next unit) (state_in unit p n left)) budget r) (RunsTo (unit_run unit m entry esp0 stack) budget r) t (λ a b h. runs_same r budget a b h)

pub starts_at : (unit : CodeUnit) (v : Values) (k : ℕ) (n m : Memory) (esp0 : ℕ) (stack : List ℕ) → registers_of v.regs ≡ first_registers esp0 → words_of v.flags ≡ (λ k. no_word) → words_of v.temps.items ≡ (λ k. no_word) → v.esp0 ≡ esp0 → n ≡ with_stack esp0 stack m
    → (left : Environment) → state_in unit (record { values = v; turn = 0; block = k; op = 0 }) n left ≡ state_at 0 (Before k) (first_storage m esp0 stack left)
starts_at unit v k n m esp0 stack regs flags temps is_esp0 memory left = ap (λ (u : Storage). state_at 0 (Before k) u) (first_is v n m esp0 stack regs flags temps is_esp0 memory left)
