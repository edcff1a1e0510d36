-- Worked runs of units.
use Rattle.std.specs.Prelude.{◌≡◌, ℕ, pos, negsuc, false, List, [], ◌∷◌, None, Some}
use Rattle.x86_values.specs.Words.{word_of}
use Rattle.traces.specs.Trace.{Label, Turn, Took, Made, Write, Exited, Stopped, Seen, Stand, seen}
use Rattle.traces.specs.Trace as trace
use Rattle.flag_ir.specs.declared.variable.Var.TheVariants as var
use Rattle.flag_ir.specs.declared.variable.Term.TheVariants as term
use Rattle.flag_ir.specs.declared.operation.Op.{Op}
use Rattle.flag_ir.specs.declared.operation.Op.TheVariants as op
use Rattle.flag_ir.specs.declared.operation.Calc.TheVariants as calc
use Rattle.flag_ir.specs.declared.block.Block.{Block}
use Rattle.flag_ir.specs.declared.block.Exit.{Exit}
use Rattle.flag_ir.specs.declared.block.Exit.TheVariants as exit
use Rattle.flag_ir.specs.declared.procedure.FrameKind.TheVariants.{Sealed, Guarded}
use Rattle.flag_ir.specs.declared.procedure.Proc.{Proc}
use Rattle.flag_ir.specs.Entering.{CodeUnit}
use Rattle.flag_ir.specs.UnitRun.{Before, state_at, first_storage, next, unit_run}
use Rattle.flag_ir.specs.RowParts.{reg, of_reg, of_word, no_outside, row_memory, with_numbers, eight}

abbrev pub block_of : ℕ → ℕ → List Op → Exit → Block
block_of number at ops e = record { number = number; at = at; ops = ops; exit = e }

abbrev pub of_blocks : List Block → CodeUnit
of_blocks blocks = record { lowered = false; whole = blocks; procs = [] }

-- from esp0 0x80001000 on the stack has four bytes for a return word and one for an argument
abbrev pub first_bytes : List ℕ
first_bytes = 0x10 ∷ 0x10 ∷ 0 ∷ 0 ∷ 0x29 ∷ 0 ∷ 0 ∷ 0 ∷ []

abbrev pub seen_of : CodeUnit → ℕ → ℕ → Seen
seen_of unit entry n = unit_run unit row_memory entry 0x80001000 first_bytes no_outside n

-- ---- three blocks: r1 counts from 2 down to 0, then two bytes of the stack are written, and the run exits with 7. The last block begins no turn.
abbrev pub ends_with : List Op
ends_with = op.Set (reg 0) (of_word 4) ∷ op.Set (reg 3) (of_word 1) ∷ op.Set (reg 1) (of_reg 4) ∷ op.Set (reg 2) (of_word 2) ∷ op.System ∷ op.Set (reg 0) (of_word 1) ∷ op.Set (reg 3) (of_word 7) ∷ op.System ∷ []

abbrev pub three_blocks : CodeUnit
three_blocks = of_blocks (block_of 0 0x1000 (op.Set (reg 1) (of_word 2) ∷ []) (exit.Go 1) ∷ block_of 1 0x1010 (op.Calc (reg 1) calc.Sub (of_reg 1) (of_word 1) ∷ []) (exit.Branch (of_reg 1) 1 2) ∷ block_of 2 0 ends_with exit.Stop ∷ [])

abbrev pub three_turns : List Label
three_turns = Turn 0x1000 ∷ Turn 0x1010 ∷ Turn 0x1010 ∷ []

abbrev pub turns_and_write : List Label
turns_and_write = Turn 0x1000 ∷ Turn 0x1010 ∷ Turn 0x1010 ∷ Took ∷ Made (Write 1 (0x10 ∷ 0x10 ∷ []) 2) ∷ []

pub record WholeRows : Type 0 where
  pub none : seen_of three_blocks 0x1000 0 ≡ seen [] None
  pub first : seen_of three_blocks 0x1000 1 ≡ seen (Turn 0x1000 ∷ []) None
  -- an exit is a step of its own
  pub leaves : seen_of three_blocks 0x1000 2 ≡ seen (Turn 0x1000 ∷ []) None
  pub second_turn : seen_of three_blocks 0x1000 4 ≡ seen (Turn 0x1000 ∷ Turn 0x1010 ∷ []) None
  pub third_turn : seen_of three_blocks 0x1000 10 ≡ seen three_turns None
  pub written : seen_of three_blocks 0x1000 11 ≡ seen turns_and_write None
  pub before_the_end : seen_of three_blocks 0x1000 13 ≡ seen turns_and_write None
  pub ended : seen_of three_blocks 0x1000 14 ≡ seen turns_and_write (Some (Exited 7))
  pub stays_ended : seen_of three_blocks 0x1000 20 ≡ seen turns_and_write (Some (Exited 7))
  -- from the second block r1 goes below 0
  pub from_second : seen_of three_blocks 0x1010 5 ≡ seen (Turn 0x1010 ∷ Turn 0x1010 ∷ Turn 0x1010 ∷ []) None
  -- an entry where no block is ends the run without a step
  pub no_block : seen_of three_blocks 0x1020 0 ≡ seen [] (Some (Stopped 0x1020))
  pub no_block_later : seen_of three_blocks 0x1020 3 ≡ seen [] (Some (Stopped 0x1020))
  pub zero : seen_of three_blocks 0 0 ≡ seen [] (Some (Stopped 0))

-- ---- what each block and each turn begins with
abbrev pub two_blocks : List Op → List Op → Exit → CodeUnit
two_blocks first second e = of_blocks (block_of 0 0x1000 first (exit.Go 1) ∷ block_of 1 0 second e ∷ [])

pub record BeginningRows : Type 0 where
  -- esp is given, the other registers are 0, and flags and temporaries are unspecified
  pub registers : eight (first_storage row_memory 0x80001000 first_bytes no_outside).regs ≡ word_of 0 ∷ word_of 0 ∷ word_of 0 ∷ word_of 0 ∷ word_of 0x80001000 ∷ word_of 0 ∷ word_of 0 ∷ word_of 0 ∷ []
  pub flags : seen_of (two_blocks (op.Need (term.Var (var.Flag 0)) ∷ []) [] exit.Stop) 0x1000 1 ≡ seen (Turn 0x1000 ∷ []) (Some trace.Unspecified)
  pub temporaries : seen_of (two_blocks (op.Need (term.Var (var.Temp 0)) ∷ []) [] exit.Stop) 0x1000 1 ≡ seen (Turn 0x1000 ∷ []) (Some trace.Unspecified)
  pub kept_in_a_block : seen_of (two_blocks (op.Set (var.Temp 0) (of_word 1) ∷ op.Need (term.Var (var.Temp 0)) ∷ []) [] exit.Stop) 0x1000 2 ≡ seen (Turn 0x1000 ∷ []) None
  -- a temporary isn't kept over the end of its block, and a flag is
  pub not_kept : seen_of (two_blocks (op.Set (var.Temp 0) (of_word 1) ∷ []) (op.Need (term.Var (var.Temp 0)) ∷ []) exit.Stop) 0x1000 3 ≡ seen (Turn 0x1000 ∷ []) (Some trace.Unspecified)
  pub flag_kept : seen_of (two_blocks (op.Set (var.Flag 0) (of_word 1) ∷ []) (op.Need (term.Var (var.Flag 0)) ∷ []) exit.Stop) 0x1000 3 ≡ seen (Turn 0x1000 ∷ []) None
  -- a stop is at the address of the block that began the turn
  pub stops : seen_of (two_blocks [] [] exit.Stop) 0x1000 2 ≡ seen (Turn 0x1000 ∷ []) (Some (Stopped 0x1000))
  pub not_yet : seen_of (two_blocks [] [] exit.Stop) 0x1000 1 ≡ seen (Turn 0x1000 ∷ []) None
  -- without a block there is no step
  pub past_the_last : next three_blocks (state_at 0 (Before 3) (with_numbers [])) ≡ Stand [] trace.Outside

-- ---- a procedure is entered by the first jump, and returns to a block of the whole part
abbrev pub called_once : CodeUnit
called_once = record {
  lowered = false;
  whole = block_of 0 0x1010 (op.Set (reg 0) (of_word 1) ∷ op.System ∷ []) exit.Stop ∷ [];
  procs = record { entry = 0x3000; kind = Sealed; depth = 8; args = 1; locals = []; blocks = block_of 0 0x3000 (op.Get (reg 3) 4 (pos 4) ∷ []) exit.Return ∷ [] } ∷ [];
}

-- another calls one that adds 1 to its argument
abbrev pub caller : Proc
caller = record {
  entry = 0x3000;
  kind = Sealed;
  depth = 16;
  args = 0;
  locals = [];
  blocks =
      block_of 0 0x3000 (op.Put 4 (negsuc 7) (of_word 0x29) ∷ op.Put 4 (negsuc 11) (of_word 0x3010) ∷ op.Calc (reg 4) calc.Sub (of_reg 4) (of_word 12) ∷ []) (exit.CallProc 0x3100 1) ∷
      block_of 1 0x3010 (op.Get (reg 3) 4 (negsuc 7) ∷ op.Set (reg 0) (of_word 1) ∷ op.System ∷ []) exit.Stop ∷ [];
}

abbrev pub callee : Proc
callee = record { entry = 0x3100; kind = Guarded; depth = 4; args = 1; locals = []; blocks = block_of 0 0x3100 (op.Get (reg 1) 4 (pos 4) ∷ op.Calc (reg 1) calc.Add (of_reg 1) (of_word 1) ∷ op.Put 4 (pos 4) (of_reg 1) ∷ []) exit.Return ∷ [] }

abbrev pub called_twice : CodeUnit
called_twice = record { lowered = false; whole = []; procs = caller ∷ callee ∷ [] }

pub record ProcedureRows : Type 0 where
  pub entered : seen_of called_once 0x3000 1 ≡ seen (Turn 0x3000 ∷ []) None
  pub returned : seen_of called_once 0x3000 3 ≡ seen (Turn 0x3000 ∷ Turn 0x1010 ∷ []) None
  pub ended : seen_of called_once 0x3000 4 ≡ seen (Turn 0x3000 ∷ Turn 0x1010 ∷ []) (Some (Exited 0x29))
  pub called : seen_of called_twice 0x3000 5 ≡ seen (Turn 0x3000 ∷ Turn 0x3100 ∷ []) None
  pub back : seen_of called_twice 0x3000 10 ≡ seen (Turn 0x3000 ∷ Turn 0x3100 ∷ Turn 0x3010 ∷ []) None
  pub argument_back : seen_of called_twice 0x3000 11 ≡ seen (Turn 0x3000 ∷ Turn 0x3100 ∷ Turn 0x3010 ∷ []) (Some (Exited 0x2A))
