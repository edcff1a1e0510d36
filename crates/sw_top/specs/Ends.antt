-- The status and the line of each end. (own)
use Rattle.std.specs.Prelude.{ℕ, List, ◌++◌, Option, Some, None, codes, decimal}
use Rattle.elf_image.specs.declared.refusal.Refusal.{Refusal}
use Rattle.elf_image.specs.Names.{refusal_name}
use Rattle.mem_pages.specs.declared.end.RunEnd.{RunEnd}
use Rattle.mem_pages.specs.declared.end.RunEnd.TheVariants.{Exited, MemoryFault, DivideFault, Outside, OtherCall, Unspecified, Spent}
use Rattle.sw_top.specs.declared.end.End.{End}
use Rattle.sw_top.specs.declared.end.End.TheVariants.{Done, Ran, Usage, TooLong, Refused, Host, Memory}

-- The exit status of each end of a run. After a fault, and where no instruction stands, it is the one that a shell gives for the
-- signal by which Linux would end the program: 128 and the number of SIGSEGV, SIGFPE or SIGILL.
abbrev pub run_status : RunEnd → ℕ
run_status (Exited s) = s
run_status MemoryFault = 139
run_status DivideFault = 136
run_status Outside = 132
run_status (OtherCall n) = 117
run_status Unspecified = 118
run_status Spent = 119

-- The exit status of each end.
abbrev pub status_of : End → ℕ
status_of Done = 0
status_of (Ran end) = run_status end
status_of Usage = 125
status_of TooLong = 122
status_of (Refused r) = 124
status_of Host = 121
status_of Memory = 120

-- The line of a refusal, which ends with the refusal's name.
abbrev pub refusal_line : Refusal → List ℕ
refusal_line r = codes "sw: refused " ++ refusal_name r

-- The line of each end of a run; one that a program can have under Linux has none. A call is named by its number, in decimal.
abbrev pub run_line : RunEnd → Option (List ℕ)
run_line (Exited s) = None
run_line MemoryFault = None
run_line DivideFault = None
run_line Outside = None
run_line (OtherCall n) = Some (codes "sw: call " ++ decimal n)
run_line Unspecified = Some (codes "sw: unspecified value")
run_line Spent = Some (codes "sw: steps spent")

-- The line of each end, without a newline; Done has none.
abbrev pub line_of : End → Option (List ℕ)
line_of Done = None
line_of (Ran end) = run_line end
line_of Usage = Some (codes "sw: usage")
line_of TooLong = Some (codes "sw: file too long")
line_of (Refused r) = Some (refusal_line r)
line_of Host = Some (codes "sw: host fault")
line_of Memory = Some (codes "sw: no memory")
