-- Rows of the definitions of runs, worked by hand: words, a stack, statuses and lines.
use Rattle.std.specs.Prelude.{◌≡◌, ℕ, [], ◌∷◌, codes, replicate, Some, None}
use Rattle.byte_lists.specs.LittleEndian.{zeros}
use Rattle.mem_pages.specs.declared.end.RunEnd.TheVariants.{Exited, MemoryFault, DivideFault, Outside, OtherCall, Unspecified, Spent}
use Rattle.sw_top.specs.declared.command.Running.{Running}
use Rattle.sw_top.specs.declared.command.Command.TheVariants.{Run}
use Rattle.sw_top.specs.declared.end.End.TheVariants.{Ran}
use Rattle.sw_top.specs.Commands.{command_of}
use Rattle.sw_top.specs.Ends.{status_of, line_of}
use Rattle.sw_top.specs.Stacks.{stack_size, first_esp, start_stack}

-- A run of `in` without arguments.
abbrev pub row_run : ℕ → Running
row_run steps = record { from = codes "in"; words = codes "in" ∷ []; steps = steps }

-- What words spell.
pub record RunCommandRows : Type 0 where
  pub plainly : command_of (codes "run" ∷ codes "in" ∷ []) ≡ Some (Run (row_run 50000000))
  pub args : command_of (codes "run" ∷ codes "in" ∷ [] ∷ codes "in" ∷ []) ≡ Some (Run (record { from = codes "in"; words = codes "in" ∷ [] ∷ codes "in" ∷ []; steps = 50000000 }))
  pub run_alone : command_of (codes "run" ∷ []) ≡ None
  pub with_steps : command_of (codes "run-steps" ∷ codes "7" ∷ codes "in" ∷ []) ≡ Some (Run (row_run 7))
  pub no_steps : command_of (codes "run-steps" ∷ codes "0" ∷ codes "in" ∷ []) ≡ Some (Run (row_run 0))
  pub most_steps : command_of (codes "run-steps" ∷ codes "4000000000" ∷ codes "in" ∷ []) ≡ Some (Run (row_run 4000000000))
  pub more_steps : command_of (codes "run-steps" ∷ codes "4000000001" ∷ codes "in" ∷ []) ≡ None
  pub leading_zero : command_of (codes "run-steps" ∷ codes "07" ∷ codes "in" ∷ []) ≡ None
  pub two_zeros : command_of (codes "run-steps" ∷ codes "00" ∷ codes "in" ∷ []) ≡ None
  pub plus : command_of (codes "run-steps" ∷ codes "+7" ∷ codes "in" ∷ []) ≡ None
  pub minus : command_of (codes "run-steps" ∷ codes "-7" ∷ codes "in" ∷ []) ≡ None
  pub letter : command_of (codes "run-steps" ∷ codes "7a" ∷ codes "in" ∷ []) ≡ None
  pub no_number : command_of (codes "run-steps" ∷ [] ∷ codes "in" ∷ []) ≡ None
  pub steps_alone : command_of (codes "run-steps" ∷ codes "7" ∷ []) ≡ None

-- The stack of the words `a` and `bc`, byte by byte: the count 2, two pointers, four numbers that are 0, the two strings, and the fill.
pub record StackRows : Type 0 where
  pub size : stack_size (codes "a" ∷ codes "bc" ∷ []) ≡ 128
  pub esp : first_esp (codes "a" ∷ codes "bc" ∷ []) ≡ 0xBFFEFF80
  pub bytes : start_stack (codes "a" ∷ codes "bc" ∷ [])
      ≡ 2 ∷ 0 ∷ 0 ∷ 0 ∷ 0x9C ∷ 0xFF ∷ 0xFE ∷ 0xBF ∷ 0x9E ∷ 0xFF ∷ 0xFE ∷ 0xBF ∷ 0 ∷ 0 ∷ 0 ∷ 0 ∷ 0 ∷ 0 ∷ 0 ∷ 0 ∷ 0 ∷ 0 ∷ 0 ∷ 0 ∷ 0 ∷ 0 ∷ 0 ∷ 0 ∷ 0x61 ∷ 0 ∷ 0x62 ∷ 0x63 ∷ 0 ∷ zeros 95
  -- one word of 103 bytes fills 128 bytes, and one of 104 bytes passes them
  pub full : stack_size (replicate 103 0x61 ∷ []) ≡ 128
  pub over : stack_size (replicate 104 0x61 ∷ []) ≡ 144

-- The status and the line of each end of a run.
pub record RunEndRows : Type 0 where
  pub exited : (s : ℕ) → status_of (Ran (Exited s)) ≡ s
  pub memory_fault : status_of (Ran MemoryFault) ≡ 139
  pub divide_fault : status_of (Ran DivideFault) ≡ 136
  pub outside : status_of (Ran Outside) ≡ 132
  pub other_call : (n : ℕ) → status_of (Ran (OtherCall n)) ≡ 117
  pub unspecified : status_of (Ran Unspecified) ≡ 118
  pub spent : status_of (Ran Spent) ≡ 119
  pub exited_line : (s : ℕ) → line_of (Ran (Exited s)) ≡ None
  pub memory_fault_line : line_of (Ran MemoryFault) ≡ None
  pub divide_fault_line : line_of (Ran DivideFault) ≡ None
  pub outside_line : line_of (Ran Outside) ≡ None
  pub first_call : line_of (Ran (OtherCall 0)) ≡ Some (codes "sw: call 0")
  pub last_call : line_of (Ran (OtherCall 4294967295)) ≡ Some (codes "sw: call 4294967295")
  pub unspecified_line : line_of (Ran Unspecified) ≡ Some (codes "sw: unspecified value")
  pub spent_line : line_of (Ran Spent) ≡ Some (codes "sw: steps spent")
