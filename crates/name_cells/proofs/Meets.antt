-- Named code and its placed code, side by side: they meet before each instruction.
use Rattle.std.proofs.Common.{◌≡◌, ◌≢◌, ◌⊎◌, inl, inr, ℕ, zero, suc, ◌+◌, ◌≤◌, ◌==◌, ◌&&◌, Bool, not, cond, ltb, List, [], ◌∷◌, ◌++◌, map, All, Some, None, refl, sym, ap, ap₂, ◌∙◌, subst, subst₂, arith}
use Rattle.std.proofs.lemmas.Bool.{le-ltb}
use Rattle.std.proofs.lemmas.List.Elements.{All-tail}
use Rattle.outside.specs.Environment.{Environment}
use Rattle.traces.specs.Trace.{Label, End, Unspecified, Seen, seen, before, Move, Go, Halt, run}
use Rattle.traces.specs.Steps.{Goes, Reaches}
use Rattle.traces.specs.Simulation.{Paired}
use Rattle.traces.specs.Meeting.{OnBoth, SeenRefines}
use Rattle.traces.specs.MeetingLaws.{MeetingLaws}
use Rattle.traces.specs.RunLaws.{RunLaws}
use Rattle.x86_values.specs.declared.word.Word.{Word}
use Rattle.x86_values.specs.Words.{word_of, known}
use Rattle.x86_values.specs.Sizes.{no_word}
use Rattle.memory.specs.Memory.{Stored, store_all}
use Rattle.memory.specs.MemoryLaws.{MemoryLaws}
use Rattle.memory.specs.SystemCall.{Request, Called, Ends, Gives, system_call}
use Rattle.x86_meaning.specs.Registers.{with_register}
use Rattle.x86_meaning.specs.Operands.{Access}
use Rattle.x86_meaning.specs.Outcomes.{Way, Falls, JumpsBy, JumpsTo, Repeats, Calls}
use Rattle.x86_meaning.specs.Step.{request_of, with_result}
use Rattle.x86_meaning.specs.StepLaws.{StepLaws, stored_range}
use Rattle.x86_meaning.specs.AccessLaws.{AccessLaws}
use Rattle.flag_ir.specs.Accesses.{buffer_accessed}
use Rattle.private_memory.specs.PrivateArea.{IsApartAccess, is_apart_access}
use Rattle.private_memory.specs.PrivateAreaLaws.{PrivateAccessLaws}
use Rattle.field_places.specs.FieldPlaceLaws.{FieldPlaceLaws}
use Rattle.named_code.specs.declared.named.VInstr.{VInstr}
use Rattle.named_code.specs.declared.named.VBlock.{VBlock}
use Rattle.named_code.specs.declared.placed.PInstr.{PInstr}
use Rattle.named_code.specs.Items.{Item, naming_of, named_item, named_blocks, placed_item, placed_blocks}
use Rattle.named_code.specs.Running.{CodeState, CodePosition, Marks, standing_at, names_alone, lost, after_call, onward, performed, act}
use Rattle.named_code.specs.TestedRun.{item_accesses, tested_next}
use Rattle.named_code.specs.TestedRunLaws.{TestedRunLaws}
use Rattle.name_cells.specs.Cells.{homes_of, name_count}
use Rattle.name_cells.specs.CanBePlaced.{CanBePlaced}
use Rattle.name_cells.specs.MovedNames.{StandsIn}
use Rattle.name_cells.specs.Placing.{own, place_instr, place_instrs, cells_of}
use Rattle.name_cells.specs.OwnSteps.{MissCells, placed_own}
use Rattle.name_cells.specs.Living.{clear_next, before_items, LiveInCells, ItemsRun}
use Rattle.name_cells.specs.CellPairs.{Fits, PairPoint, ToNumber, ToOld, Before, PointFits, named_point, placed_point, CellPair, named_position, placed_position}
use Rattle.name_cells.proofs.MovedNames.{set_elsewhere}
use Rattle.name_cells.proofs.OwnSteps.{RangesMiss, cells_stay, same_after, area_stays}
use Rattle.name_cells.proofs.OwnAccesses.{buffer_misses}
use Rattle.name_cells.proofs.Calls.{StoresMiss, call_same, call_stores}
use Rattle.name_cells.proofs.CallWays.{call_stays, call_asks}
use Rattle.name_cells.proofs.Counting.{count_small}
use Rattle.name_cells.proofs.Beginnings.{EndLater}

pub record CellLawsBelow : Type 0 where
  pub runs : RunLaws CodePosition
  pub meetings : MeetingLaws
  pub memories : MemoryLaws
  pub areas : PrivateAccessLaws
  pub fields : FieldPlaceLaws
  pub looks : AccessLaws
  pub steps : StepLaws
  pub tested : TestedRunLaws

-- ---- states side by side
-- a jump to an old address loses the same on both sides
lost_living : (count : ℕ) (s t : CodeState) → LiveInCells count s t → LiveInCells count (lost s) (lost t)
lost_living count s t l = record {
  registers = λ k low. lost_same k (l.registers k low);
  flags = refl;
  names = λ n low. subst (λ (w : Word). StandsIn t.memory n w) (sym (name_kept n)) (l.names n low);
  memory = l.memory;
  area = l.area;
  left = l.left;
}
  where
    lost_same : (k : ℕ) → s.cpu.regs k ≡ t.cpu.regs k → names_alone s.cpu.regs k ≡ names_alone t.cpu.regs k
    lost_same k e = ap (λ (w : Word). cond (ltb k 8 && not (k == 4)) no_word w) e

    name_kept : (n : ℕ) → names_alone s.cpu.regs (8 + n) ≡ s.cpu.regs (8 + n)
    name_kept n = let above : 8 ≤ 8 + n = omega arith in ap (λ (b : Bool). cond (b && not (8 + n == 4)) no_word (s.cpu.regs (8 + n))) (le-ltb (8 + n) 8 above)

-- what a call leaves
abbrev called : ℕ → List Stored → Environment → CodeState → CodeState
called result stores after s = record { cpu = with_result result s.cpu; memory = store_all stores s.memory; left = after }

called_living : MemoryLaws → (count result : ℕ) (stores : List Stored) (after : Environment) (s t : CodeState) → count ≤ 1540096 → RangesMiss (map stored_range stores) → LiveInCells count s t → LiveInCells count (called result stores after s) (called result stores after t)
unfolding with_register
called_living memories count result stores after s t small miss l = record {
  registers = λ k low. result_same k (l.registers k low);
  flags = l.flags;
  names = λ n low.
      cells_stay memories stores t.memory n _ (omega (arith, low, small)) miss
      (subst (λ (w : Word). StandsIn t.memory n w) (sym (set_elsewhere 0 (word_of result) s.cpu.regs (8 + n) (λ e. omega (arith, e)))) (l.names n low));
  memory = same_after memories stores s.memory t.memory l.memory;
  area = area_stays memories stores t.memory l.area;
  left = refl;
}
  where
    result_same : (k : ℕ) → s.cpu.regs k ≡ t.cpu.regs k → with_register 0 (word_of result) s.cpu.regs k ≡ with_register 0 (word_of result) t.cpu.regs k
    result_same k e = ap (λ (w : Word). cond (k == 0) (word_of result) w) e

same_request : (count : ℕ) (s t : CodeState) → LiveInCells count s t → request_of s.cpu ≡ request_of t.cpu
same_request count s t l = rw (l.registers 0 (omega arith), l.registers 3 (omega arith), l.registers 1 (omega arith), l.registers 2 (omega arith)) refl

module _ (laws : CellLawsBelow) (code : List VBlock) (can : CanBePlaced code) (marks : Marks) where
  abbrev count : ℕ
  count = name_count code

  abbrev pub source : CodePosition → Move CodePosition
  source = tested_next is_apart_access marks (named_blocks code)

  abbrev pub target : CodePosition → Move CodePosition
  target = clear_next marks (placed_blocks (cells_of code))

  abbrev pub IsPair : CodePosition → CodePosition → Type 0
  IsPair p q = Paired (named_position code) (placed_position code) p q

  abbrev On : CodePosition → CodePosition → Type 0
  On p q = OnBoth source target IsPair p q

  abbrev pub Later : CodePosition → CodePosition → Type 0
  Later p q = EndLater laws.runs laws.meetings source target IsPair p q

  abbrev placed : List PInstr → List Item
  placed ps = map (placed_item (homes_of (count + 1))) ps

  small : count ≤ 1540095
  small = count_small code can

  -- ---- both go on, or both end
  go_both : (p q : CodePosition) (ls : List Label) (k : ℕ) (point : PairPoint) (s t : CodeState) → PointFits count point → LiveInCells count s t → source p ≡ Go ls (standing_at (named_point point) s) → Goes target q k ls (standing_at (placed_point count point) t) → On p q
  go_both p q ls k point s t fits living g h =
      let pair : CellPair code = record { point = point; fits = fits; named = s; placed = t; living = living } in
      record {
        steps = 1;
        trace = ls;
        state = standing_at (named_point point) s;
        goes = laws.runs.goes_step source p ls _ g;
        steps' = k;
        state' = standing_at (placed_point count point) t;
        goes' = h;
        related = (pair, refl, refl);
      }

  has_ended : (c : Seen) (ls : List Label) (e : End) → c ≡ seen ls (Some e) → c.end ≢ None
  has_ended c ls e h n = let g : Some e ≡ None = sym (ap (λ (z : Seen). z.end) h) ∙ n in absurd cc

  halt_both : (p q : CodePosition) (e : End) (n : ℕ) → source p ≡ Halt [] e → run target q (suc n) ≡ seen [] (Some e) → Later p q
  halt_both p q e n g h =
      let ended = laws.runs.run_halt source p [] e g 0 in
      record { steps = 0; ended = has_ended _ [] e ended; steps' = n; fits = subst₂ SeenRefines (sym ended) (sym h) (laws.meetings.refines_itself (seen [] (Some e))) }

  pub excused : (p q : CodePosition) → source p ≡ Halt [] Unspecified → Later p q
  excused p q g =
      let ended = laws.runs.run_halt source p [] Unspecified g 0 in
      record { steps = 0; ended = has_ended _ [] Unspecified ended; steps' = 0; fits = subst (λ (c : Seen). SeenRefines c (run target q 1)) (sym ended) (laws.meetings.refines_unspecified [] (run target q 1).trace (run target q 1).end) }

  -- ---- a call
  call_met : (p q : CodePosition) (xs : List VInstr) (s t : CodeState) → All (Fits count) xs → LiveInCells count s t → MissCells (buffer_accessed (known (s.cpu.regs 0)) (known (s.cpu.regs 3)) (known (s.cpu.regs 1)) (known (s.cpu.regs 2))) s.memory
      → source p ≡ after_call (system_call (request_of s.cpu) s.memory s.left) (map named_item xs) s → target q ≡ after_call (system_call (request_of t.cpu) t.memory t.left) (placed (place_instrs count xs)) t → On p q ⊎ Later p q
  call_met p q xs s t fits living miss g h =
      by (system_call (request_of s.cpu) s.memory s.left) g (h ∙ ap (λ (c : Called). after_call c (placed (place_instrs count xs)) t) (sym same)) (call_stores laws.memories s.memory t.memory living.memory s.left (request_of s.cpu) miss)
    where
      same : system_call (request_of s.cpu) s.memory s.left ≡ system_call (request_of t.cpu) t.memory t.left
      same = call_same laws.memories s.memory t.memory living.memory s.left (request_of s.cpu) miss ∙ ap₂ (λ (r : Request) (e : Environment). system_call r t.memory e) (same_request count s t living) living.left

      by : (c : Called) → source p ≡ after_call c (map named_item xs) s → target q ≡ after_call c (placed (place_instrs count xs)) t → StoresMiss c → On p q ⊎ Later p q
      by (Ends e) g h m = inr (halt_both p q e 0 g (laws.runs.run_halt target q [] e h 0))
      by (Gives ls result stores after) g h m =
          inl (go_both p q ls 1 (Before xs) (called result stores after s) (called result stores after t) fits (called_living laws.memories count result stores after s t (omega (arith, small)) m living) g (laws.runs.goes_step target q ls _ h))

  -- ---- one way on for both
  way_met : (p q : CodePosition) (x : VInstr) (xs : List VInstr) (s t : CodeState) → All (Fits count) (x ∷ xs) → LiveInCells count s t → place_instr count x ≡ own x ∷ [] → (w : Way)
      → (w ≡ Calls → MissCells (buffer_accessed (known (s.cpu.regs 0)) (known (s.cpu.regs 3)) (known (s.cpu.regs 1)) (known (s.cpu.regs 2))) s.memory)
      → source p ≡ onward w (named_item x) (map named_item xs) s → target q ≡ onward w (placed_own x) (placed (place_instrs count xs)) t → On p q ⊎ Later p q
  way_met p q x xs s t fits living alone Falls miss g h = inl (go_both p q [] 1 (Before xs) s t (All-tail (Fits count) x xs fits) living g (laws.runs.goes_step target q [] _ h))
  way_met p q x xs s t fits living alone (JumpsBy n) miss g h = inl (go_both p q [] 1 (ToNumber n) s t tt living g (laws.runs.goes_step target q [] _ h))
  way_met p q x xs s t fits living alone (JumpsTo a) miss g h = inl (go_both p q [] 1 (ToOld a) (lost s) (lost t) tt (lost_living count s t living) g (laws.runs.goes_step target q [] _ h))
  way_met p q x xs s t fits living alone Repeats miss g h =
      let again : placed_own x ∷ placed (place_instrs count xs) ≡ placed (place_instrs count (x ∷ xs)) = ap (λ (ps : List PInstr). placed (ps ++ place_instrs count xs)) (sym alone) in
      inl (go_both p q [] 1 (Before (x ∷ xs)) s t fits living g (laws.runs.goes_step target q [] _ (h ∙ ap (λ (is : List Item). Go [] (before_items is t)) again)))
  way_met p q x xs s t fits living alone Calls miss g h = call_met p q xs s t (All-tail (Fits count) x xs fits) living (miss refl) g h

  to_goes : (q r : CodePosition) (k : ℕ) → 1 ≤ k → Reaches target q k [] r → Goes target q k [] r
  to_goes q r zero some h = absurd (omega (arith, some))
  to_goes q r (suc k) some h = laws.runs.reaches_goes target q k [] r h

  -- ---- an instruction
  module _ (x : VInstr) (xs : List VInstr) (s t : CodeState) (fits : All (Fits count) (x ∷ xs)) (living : LiveInCells count s t) where
    abbrev p : CodePosition
    p = before_items (named_item x ∷ map named_item xs) s

    abbrev q : CodePosition
    q = before_items (placed (place_instr count x) ++ placed (place_instrs count xs)) t

    pub items_met : source p ≡ act (named_item x) (map named_item xs) s → All (IsApartAccess s.memory) (item_accesses (named_item x) s) → ItemsRun marks (placed_blocks (cells_of code)) count x (map named_item xs) (placed (place_instrs count xs)) s t → On p q ⊎ Later p q
    items_met g apart (inl i) =
        let after : i.steps + 1 ≡ suc i.steps = omega arith in
        let ends : run target q (suc i.steps) ≡ seen [] (Some i.end)
        = ap (run target q) (sym after) ∙ (laws.runs.reaches_run target q i.steps [] i.position i.reaches 1 ∙ ap (before []) (laws.runs.run_halt target i.position [] i.end i.placed 0)) in
        inr (halt_both p q i.end i.steps (g ∙ i.named) ends)
    items_met g apart (inr (inl f)) = inl (go_both p q [] f.steps (Before xs) f.state f.state' (All-tail (Fits count) x xs fits) f.living (g ∙ f.named) (to_goes q _ f.steps f.some f.reaches))
    items_met g apart (inr (inr i)) =
        way_met p q x xs (performed i.left s) (performed i.right t) fits i.living i.alone i.left.way misses (g ∙ i.named) (i.placed ∙ ap (λ (w : Way). onward w (placed_own x) (placed (place_instrs count xs)) (performed i.right t)) (sym i.same))
      where
        misses : i.left.way ≡ Calls → MissCells (buffer_accessed (known ((performed i.left s).cpu.regs 0)) (known ((performed i.left s).cpu.regs 3)) (known ((performed i.left s).cpu.regs 1)) (known ((performed i.left s).cpu.regs 2))) (performed i.left s).memory
        misses w =
            subst (λ (u : CodeState). MissCells (buffer_accessed (known (u.cpu.regs 0)) (known (u.cpu.regs 3)) (known (u.cpu.regs 1)) (known (u.cpu.regs 2))) u.memory) (sym (call_stays (naming_of x.slots) x.instr s i.left i.is_left w))
            (subst (λ (ys : List Access). MissCells ys s.memory) (call_asks (naming_of x.slots) x.instr s i.left i.is_left w) (buffer_misses x s apart))
