-- A jump to itself never ends, nor does what is written for it.
use Rattle.std.proofs.Common.{◌≡◌, ℕ, ◌+◌, ◌<◌, ◌%◌, ◌^◌, List, [], ◌∷◌, Option, Some, refl, sym, ap, subst, ◌∙◌, arith}
use Rattle.x86_values.specs.Words.{known}
use Rattle.outside.specs.Environment.{Environment}
use Rattle.traces.specs.Trace.{Turn, Move, Go}
use Rattle.traces.specs.Machines.{marked}
use Rattle.traces.specs.Moves.{GoesTo, Holds}
use Rattle.traces.specs.Plain.{NeverEnds}
use Rattle.traces.specs.InvariantLaws.{InvariantLaws}
use Rattle.elf_image.specs.Plain.{plain_image}
use Rattle.memory.specs.Memory.{Memory, wrapped, forget_below}
use Rattle.x86_types.specs.declared.instr.Instr.TheVariants.{Jmp}
use Rattle.x86_grammar.specs.Front.{front}
use Rattle.x86_code.specs.Code.{Code, code_of}
use Rattle.x86_meaning.specs.Step.{State, at_address, settled, settled_by, next}
use Rattle.x86_meaning.specs.Run.{IsStart, first_processor, machine, start_over, run_from}
use Rattle.rewrite_core.specs.Places.{page_start}
use Rattle.rewrite_core.specs.Agreement.{LoopsNeverEnd}
use Rattle.rewrite_core.proofs.BesideStates.{LawsBelow}
use Rattle.rewrite_core.proofs.Agreements.{RunLawsBelow, page_of, new_file_agrees}

module _ (laws : LawsBelow) (code : Code) (here : code page_start ≡ Some (Jmp 0xFFFFFFFE, 2)) (esp0 : ℕ) (small : esp0 < 2 ^ 32) (left : Environment) where
  abbrev state : Memory → State
  state m = record { cpu = first_processor esp0; eip = page_start; memory = m; left = left }

  stays : (m : Memory) → next code (state m) ≡ Go [] (state (forget_below esp0 m))
  unfolding settled
  stays m =
      laws.steps.at_instruction code (state m) (Jmp 0xFFFFFFFE) 2 here ∙ laws.steps.jump 0xFFFFFFFE 2 (state m)
      ∙ ap (λ o. settled_by o [] (at_address (page_start + 2 + 0xFFFFFFFE) (state m))) (laws.words.known_word esp0 small)

  pub never : InvariantLaws State Memory → (m : Memory) → NeverEnds (run_from code (state m))
  unfolding run_from
  never invariants m = invariants.never_ends (machine code) state (λ n. subst (λ x. GoesTo (Holds state) (marked page_start x)) (sym (stays n)) (forget_below esp0 n, refl)) m

jump_first : LawsBelow → (rest : List ℕ) → front (0xEB ∷ 0xFE ∷ rest) ≡ Some (Jmp 0xFFFFFFFE, 2)
jump_first laws rest = laws.equations.jmp_short 0xFE rest

esp_small : (esp0 : ℕ) (stack : List ℕ) → IsStart esp0 stack → esp0 < 2 ^ 32
esp_small esp0 stack s = let w = s.within in omega arith

pub loops_never_end : LawsBelow → RunLawsBelow → InvariantLaws State Memory → LoopsNeverEnd
unfolding start_over
loops_never_end laws below invariants file code rest bytes r begins laid esp0 stack left start environment =
    let page = page_of laws file bytes r in
    let here : code_of (plain_image file) page_start ≡ Some (Jmp 0xFFFFFFFE, 2) = page.stands page_start ∙ ap front begins ∙ jump_first laws rest in
    let old = never laws (code_of (plain_image file)) here esp0 (esp_small esp0 stack start) left invariants _ in
    (old, below.agreement.neither_ends 4096 256 _ _ (new_file_agrees laws below file code bytes r laid esp0 stack left start environment) old)
