-- Named code and its placed code start side by side, so that the placed code does by turns what the code does.
use Rattle.std.proofs.Common.{◌≡◌, ◌⊎◌, inl, inr, ℕ, zero, suc, ◌+◌, ◌-◌, ◌*◌, ◌<◌, ◌≤◌, ◌==◌, ◌&&◌, Bool, true, false, cond, leb, ltb, List, map, length, Option, Some, refl, sym, ap, ◌∙◌, subst, arith}
use Rattle.std.specs.List.{range_with_len}
use Rattle.std.proofs.lemmas.Bool.{le-ltb, lt-leb}
use Rattle.std.proofs.lemmas.Bool.Decides.{eqb_tells}
use Rattle.outside.specs.Environment.{Environment}
use Rattle.x86_values.specs.declared.word.Word.{Word}
use Rattle.traces.specs.Trace.{run}
use Rattle.traces.specs.MoveLaws.{MoveLaws}
use Rattle.traces.specs.SimulationLaws.{SimulationLaws}
use Rattle.memory.specs.Memory.{Place, Memory, wrapped, put_all, kind_of, stack_start, stack_place, with_stack}
use Rattle.memory.specs.MemoryLaws.{MemoryLaws}
use Rattle.x86_values.specs.Words.{word_list}
use Rattle.x86_meaning.specs.Run.{IsStart, first_registers}
use Rattle.private_memory.specs.PrivateArea.{IsUsual, HasPrivateArea, is_clear_access}
use Rattle.private_memory.specs.PrivateAreaLaws.{PrivateAccessLaws}
use Rattle.named_code.specs.declared.named.VBlock.{VBlock}
use Rattle.named_code.specs.declared.placed.Home.{Home}
use Rattle.named_code.specs.Items.{placed_blocks}
use Rattle.named_code.specs.Running.{CodePosition}
use Rattle.named_code.specs.CodeRun.{first_register, first_places, with_cells_from, with_cells, first_state}
use Rattle.named_code.specs.TestedRun.{tested_run}
use Rattle.name_cells.specs.Cells.{cell_at, home_at, homes_of, name_count}
use Rattle.name_cells.specs.CanBePlaced.{CanBePlaced}
use Rattle.name_cells.specs.MovedNames.{StandsIn}
use Rattle.name_cells.specs.OwnSteps.{SameButCells}
use Rattle.name_cells.specs.Placing.{cells_of}
use Rattle.name_cells.specs.Living.{LiveInCells}
use Rattle.name_cells.specs.CellPairs.{ToOld, CellPair, named_position, placed_position}
use Rattle.name_cells.specs.PlacesCode.{KeepsCode}
use Rattle.name_cells.proofs.CellMoves.{area_after}
use Rattle.name_cells.proofs.MovedNames.{put_there, put_elsewhere}
use Rattle.name_cells.proofs.ItemsRun.{cell_put}
use Rattle.name_cells.proofs.Counting.{count_small}
use Rattle.name_cells.proofs.ShortTurns.{short_turns}
use Rattle.name_cells.proofs.Meets.{CellLawsBelow, source, target}
use Rattle.name_cells.proofs.JumpsMeet.{meets}

-- ---- each name stands in its cell at first
module _ (memories : MemoryLaws) (areas : PrivateAccessLaws) (esp0 : ℕ) where
  abbrev filled : ℕ → ℕ → Memory → Memory
  filled a n m = with_cells_from esp0 a (map home_at (range_with_len a n)) m

  abbrev first_filled : ℕ → Memory → Memory
  first_filled a m = put_all (cell_at a) (word_list (first_registers esp0 a)) m

  filled_area : (n a : ℕ) (m : Memory) → HasPrivateArea m → HasPrivateArea (filled a n m)
  filled_area zero a m h = h
  filled_area (suc n) a m h = filled_area n (a + 1) (first_filled a m) (area_after memories areas (cell_at a) _ m h)

  filled_memory : (n a : ℕ) (l m : Memory) → a + n ≤ 1540096 → SameButCells l m → SameButCells l (filled a n m)
  filled_memory zero a l m low h = h
  filled_memory (suc n) a l m low h = filled_memory n (a + 1) l (first_filled a m) (omega (arith, low)) (cell_put memories areas a _ l m (omega (arith, low)) h)

  filled_before : (n a k : ℕ) (w : Word) (m : Memory) → a + n ≤ 1540096 → k < a → StandsIn m k w → StandsIn (filled a n m) k w
  filled_before zero a k w m low less h = h
  filled_before (suc n) a k w m low less h =
      filled_before n (a + 1) k w (first_filled a m) (omega (arith, low)) (omega (arith, less)) (put_elsewhere memories areas k a _ w m (omega (arith, low, less)) (omega (arith, low)) (λ e. omega (arith, less, e)) h)

  filled_there : (n a k : ℕ) (m : Memory) → a + n ≤ 1540096 → a ≤ k → k < a + n → HasPrivateArea m → StandsIn (filled a n m) k (first_registers esp0 k)
  filled_there zero a k m low from to h = absurd (omega (arith, from, to))
  filled_there (suc n) a k m low from to h = by (eqb_tells k a) (λ from. filled_there n (a + 1) k (first_filled a m) (omega (arith, low)) from (omega (arith, to)) (area_after memories areas (cell_at a) _ m h))
    where
      later : (k ≡ a → ⊥) → a + 1 ≤ k
      later other = grind (arith, from, other)

      by : (((k == a) ≡ true) × (k ≡ a)) ⊎ (((k == a) ≡ false) × (k ≡ a → ⊥)) → (a + 1 ≤ k → StandsIn (filled (a + 1) n (first_filled a m)) k (first_registers esp0 k)) → StandsIn (filled (a + 1) n (first_filled a m)) k (first_registers esp0 k)
      by (inl e) behind =
          subst (λ (j : ℕ). StandsIn (filled (a + 1) n (first_filled a m)) j (first_registers esp0 j)) (sym e.1)
          (filled_before n (a + 1) a _ (first_filled a m) (omega (arith, low)) (omega arith) (put_there memories areas a _ m (omega (arith, low)) h))
      by (inr e) behind = behind (later e.1)

  -- ---- the stack lies above the cells
  module _ (stack : List ℕ) (start : IsStart esp0 stack) where
    stack_above : (a : ℕ) → a < 0x75800000 → a < stack_start esp0
    stack_above a low = let high = start.high in omega (arith, low, high)

    off_stack : (m : Memory) (a : ℕ) → a < 0x75800000 → with_stack esp0 stack m a ≡ m a
    unfolding with_stack
    off_stack m a low = ap (λ (b : Bool). cond (b && ltb a (esp0 + length stack)) (Some (stack_place esp0 stack a)) (m a)) (lt-leb (stack_start esp0) a (stack_above a low))

    stack_cell : (m : Memory) (n : ℕ) (w : Word) → n < 1540096 → StandsIn m n w → StandsIn (with_stack esp0 stack m) n w
    stack_cell m n w low h =
        memories.bytes_in_same (with_stack esp0 stack m) m (cell_at n) 4 (record { places = λ k less. off_stack m (wrapped (cell_at n + k)) (omega (arith, low, less)) }) ∙ h

    kinds_by : (b : Bool) (p : Place) (o q : Option Place) → kind_of o ≡ kind_of q → kind_of (cond b (Some p) o) ≡ kind_of (cond b (Some p) q)
    kinds_by true p o q e = refl
    kinds_by false p o q e = e

    stack_memory : (l m : Memory) → SameButCells l m → SameButCells (with_stack esp0 stack l) (with_stack esp0 stack m)
    unfolding with_stack
    stack_memory l m h = record {
      outside = record { places = λ a other. memories.stack_by_place esp0 stack l m a (h.outside.places a other) };
      kinds = λ a. kinds_by (leb (stack_start esp0) a && ltb a (esp0 + length stack)) (stack_place esp0 stack a) (l a) (m a) (h.kinds a);
    }

-- ---- each name holds what the register of its number does
name_holds : (esp0 n : ℕ) → first_places esp0 (8 + n) ≡ first_registers esp0 n
unfolding first_places
name_holds esp0 n =
    let above : 8 ≤ 8 + n = omega arith in
    let back : 8 + n - 8 ≡ n = omega arith in
    ap (λ b. cond b (first_register (8 + n)) (first_registers esp0 (8 + n - 8))) (le-ltb (8 + n) 8 above) ∙ ap (first_registers esp0) back

same_itself : (m : Memory) → SameButCells m m
same_itself m = record { outside = record { places = λ a h. refl }; kinds = λ a. refl }

module _ (laws : CellLawsBelow) (moves : MoveLaws CodePosition) (simulation : (code : List VBlock) → SimulationLaws CodePosition CodePosition (CellPair code)) (code : List VBlock) (can : CanBePlaced code) where
  abbrev count : ℕ
  count = name_count code

  abbrev homes : List Home
  homes = homes_of (count + 1)

  small : count ≤ 1540095
  small = count_small code can

  first_living : (m : Memory) (esp0 : ℕ) (stack : List ℕ) (env : Environment) → IsUsual esp0 m → IsStart esp0 stack → LiveInCells count (first_state (with_stack esp0 stack m) esp0 env) (first_state (with_stack esp0 stack (with_cells esp0 homes m)) esp0 env)
  unfolding with_cells
  first_living m esp0 stack env usual start =
      let area = laws.areas.usual_has esp0 m usual in
      record {
        registers = λ k low. refl;
        flags = refl;
        names = λ n low.
            subst (λ (w : Word). StandsIn (with_stack esp0 stack (with_cells esp0 homes m)) n w) (sym (name_holds esp0 n))
            (stack_cell laws.memories laws.areas esp0 stack start (with_cells esp0 homes m) n _ (omega (arith, low, small)) (filled_there laws.memories laws.areas esp0 (count + 1) 0 n m (omega (arith, small)) (omega arith) (omega (arith, low)) area));
        memory = stack_memory laws.memories laws.areas esp0 stack start m (with_cells esp0 homes m) (filled_memory laws.memories laws.areas esp0 (count + 1) 0 m m (omega (arith, small)) (same_itself m));
        area = laws.areas.stack_has esp0 stack (with_cells esp0 homes m) start (filled_area laws.memories laws.areas esp0 (count + 1) 0 m area);
        left = refl;
      }

  pub keeps : KeepsCode code (cells_of code)
  unfolding tested_run
  keeps marks m entry esp0 stack env short bytes usual start environment =
      let pair : CellPair code = record {
        point = ToOld entry;
        fits = tt;
        named = first_state (with_stack esp0 stack m) esp0 env;
        placed = first_state (with_stack esp0 stack (with_cells esp0 homes m)) esp0 env;
        living = first_living m esp0 stack env usual start;
      } in
      let from = source laws code can marks in
      let to = target laws code can marks in
      let blocks = placed_blocks (cells_of code) in
      let memory = with_cells esp0 homes m in
      let bounds = short_turns code can marks short.0 short.1 short.2 in
      (simulation code).refines_by_meeting from to (named_position code) (placed_position code) (9 * short.1) 0 (meets laws code can marks) pair
      (laws.tested.paced_in_steps is_clear_access marks (λ n. 9 * short.0 n) (9 * short.1) blocks memory entry esp0 stack env bounds)
      (laws.tested.one_event is_clear_access marks blocks memory entry esp0 stack env)
      (moves.starts_by_move to (run from (named_position code pair)) (placed_position code pair) (laws.tested.move_event is_clear_access marks blocks (placed_position code pair)))
