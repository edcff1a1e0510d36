-- Worked runs of system calls, jumps and starts. The numbers of calls and errors are those of Linux for the i386.
use Rattle.std.specs.Prelude.{◌≡◌, ℕ, ◌^◌, ◌-◌, true, false, List, [], ◌∷◌, ◌++◌, replicate, Some, None}
use Rattle.x86_values.specs.declared.byte.Byte.TheVariants.{Known}
use Rattle.outside.specs.declared.answer.Answer.TheVariants.{Take, Fail}
use Rattle.outside.specs.Environment.{IsEnvironment}
use Rattle.traces.specs.Trace.{Read, Write, Exited, Outside, OtherCall, Unspecified}
use Rattle.memory.specs.Memory.{Memory}
use Rattle.memory.specs.SystemCall.{Asks, read_plan}
use Rattle.x86_meaning.specs.Run.{IsStart}
use Rattle.x86_meaning.specs.Rows.{stack, esp0, Row, AreSeen, row_of, plain_row, mov_eax, mov_ebx, int80, call}

-- mov ebx, 7; mov eax, 1; int 0x80
abbrev pub exits_seven : List ℕ
exits_seven = mov_ebx 7 ++ (mov_eax 1 ++ int80)

-- ends of runs
abbrev pub end_rows : List Row
end_rows =
    plain_row exits_seven 2 [] None ∷
    plain_row exits_seven 3 [] (Some (Exited 7)) ∷
    -- the status is the lowest byte of ebx
    plain_row (mov_ebx 0x107 ++ (mov_eax 1 ++ int80)) 3 [] (Some (Exited 7)) ∷
    -- other calls
    plain_row (mov_eax 20 ++ int80) 1 [] None ∷
    plain_row (mov_eax 20 ++ int80) 2 [] (Some (OtherCall 20)) ∷
    plain_row (mov_eax 21 ++ int80) 2 [] (Some (OtherCall 21)) ∷
    plain_row int80 1 [] (Some (OtherCall 0)) ∷
    -- 0F 28 C1 is no instruction of the list, so no step is made
    plain_row (0x0F ∷ 0x28 ∷ 0xC1 ∷ []) 0 [] (Some Outside) ∷
    -- EB 00 and E9 with 2: to the next instruction, and over two bytes; EB FE stays
    plain_row (0xEB ∷ 0 ∷ exits_seven) 4 [] (Some (Exited 7)) ∷
    plain_row (0xE9 ∷ 2 ∷ 0 ∷ 0 ∷ 0 ∷ 0xF4 ∷ 0xF4 ∷ exits_seven) 4 [] (Some (Exited 7)) ∷
    plain_row (0xEB ∷ 0xFE ∷ []) 9 [] None ∷
    []

-- three bytes behind the code are written; exit with 0
abbrev pub writes_text : List ℕ
writes_text = call 4 1 0x08049023 3 ++ (mov_ebx 0 ++ (mov_eax 1 ++ (int80 ++ 0xF4 ∷ 0x68 ∷ 0x69 ∷ 0x0A ∷ [])))

-- writes
abbrev pub write_rows : List Row
write_rows =
    plain_row writes_text 4 [] None ∷
    plain_row writes_text 5 (Write 1 (0x68 ∷ 0x69 ∷ 0x0A ∷ []) 3 ∷ []) None ∷
    plain_row writes_text 7 (Write 1 (0x68 ∷ 0x69 ∷ 0x0A ∷ []) 3 ∷ []) None ∷
    plain_row writes_text 8 (Write 1 (0x68 ∷ 0x69 ∷ 0x0A ∷ []) 3 ∷ []) (Some (Exited 0)) ∷
    -- by the answers: fewer bytes, and a failure with its number
    record { text = writes_text; input = []; answers = Take 2 ∷ []; steps = 8; events = Write 1 (0x68 ∷ 0x69 ∷ []) 2 ∷ []; end = Some (Exited 0) } ∷
    record { text = writes_text; input = []; answers = Fail 5 ∷ []; steps = 8; events = Write 1 [] (2 ^ 32 - 5) ∷ []; end = Some (Exited 0) } ∷
    -- answers are taken in their order
    record { text = call 4 1 0x08049000 3 ++ call 4 1 0x08049000 3; input = []; answers = Take 1 ∷ Take 2 ∷ []; steps = 10; events = Write 1 (0xB8 ∷ []) 1 ∷ Write 1 (0xB8 ∷ 4 ∷ []) 2 ∷ []; end = Some Outside } ∷
    -- the stack from esp on
    plain_row (call 4 2 0xBFFEFF80 26) 5 (Write 2 (1 ∷ 0 ∷ 0 ∷ 0 ∷ 0x98 ∷ 0xFF ∷ 0xFE ∷ 0xBF ∷ 0 ∷ 0 ∷ 0 ∷ 0 ∷ 0 ∷ 0 ∷ 0 ∷ 0 ∷ 0 ∷ 0 ∷ 0 ∷ 0 ∷ 0 ∷ 0 ∷ 0 ∷ 0 ∷ 0x61 ∷ 0 ∷ []) 26 ∷ []) (Some Outside) ∷
    -- a byte below esp would be written
    plain_row (call 4 1 0xBFFEFF7F 2) 4 [] None ∷
    plain_row (call 4 1 0xBFFEFF7F 2) 5 [] (Some Unspecified) ∷
    -- from that byte to one past the end of the stack: the whole buffer is looked at before its bytes
    plain_row (call 4 1 0xBFFEFF7F 0x82) 5 (Write 1 [] (2 ^ 32 - 14) ∷ []) (Some Outside) ∷
    -- mov esp: the word below it is forgotten
    plain_row ((0xBC ∷ 0x84 ∷ 0xFF ∷ 0xFE ∷ 0xBF ∷ []) ++ call 4 1 0xBFFEFF80 4) 6 [] (Some Unspecified) ∷
    []

-- reads
abbrev pub read_rows : List Row
read_rows =
    row_of (call 3 0 0x0804A000 1) (0x41 ∷ 0x42 ∷ []) 4 [] None ∷
    row_of (call 3 0 0x0804A000 1) (0x41 ∷ 0x42 ∷ []) 5 (Read 0 (0x41 ∷ []) 1 ∷ []) (Some Outside) ∷
    -- without input nothing is moved
    row_of (call 3 0 0x0804A000 1) [] 5 (Read 0 [] 0 ∷ []) (Some Outside) ∷
    -- the byte that was read is written, and the next is read
    row_of (call 3 0 0x0804A000 1 ++ (call 4 1 0x0804A000 1 ++ call 3 0 0x0804A000 1)) (0x41 ∷ 0x42 ∷ []) 15 (Read 0 (0x41 ∷ []) 1 ∷ Write 1 (0x41 ∷ []) 1 ∷ Read 0 (0x42 ∷ []) 1 ∷ []) (Some Outside) ∷
    -- fewer bytes than were asked for, and then the others; a failure takes none of the input
    record { text = call 3 0 0x0804A000 2 ++ call 3 0 0x0804A000 2; input = 1 ∷ 2 ∷ 3 ∷ []; answers = Take 1 ∷ Take 5 ∷ []; steps = 10; events = Read 0 (1 ∷ []) 1 ∷ Read 0 (2 ∷ 3 ∷ []) 2 ∷ []; end = Some Outside } ∷
    record { text = call 3 0 0x0804A000 2 ++ call 3 0 0x0804A000 2; input = 7 ∷ 8 ∷ []; answers = Fail 5 ∷ Take 1 ∷ []; steps = 10; events = Read 0 [] (2 ^ 32 - 5) ∷ Read 0 (7 ∷ []) 1 ∷ []; end = Some Outside } ∷
    -- into the code, past the end of the second page, at the first byte of the stack's region and below it
    row_of (call 3 0 0x08049000 1) (0x41 ∷ []) 5 (Read 0 [] (2 ^ 32 - 14) ∷ []) (Some Outside) ∷
    row_of (call 3 0 0x0804AFFF 2) (0x41 ∷ []) 5 (Read 0 [] (2 ^ 32 - 14) ∷ []) (Some Outside) ∷
    row_of (call 3 0 0xBF7EF000 1 ++ call 3 0 0xBF7EEFFF 1) (9 ∷ 9 ∷ []) 10 (Read 0 (9 ∷ []) 1 ∷ Read 0 [] (2 ^ 32 - 14) ∷ []) (Some Outside) ∷
    []

-- the order of the rules, what takes no answer, and where results stand
abbrev pub rule_rows : List Row
rule_rows =
    -- another descriptor
    record { text = call 3 1 0x0804A000 1; input = 0x41 ∷ []; answers = Take 1 ∷ []; steps = 5; events = Read 1 [] (2 ^ 32 - 9) ∷ []; end = Some Outside } ∷
    -- that is looked at before the count
    plain_row (call 3 1 0 0 ++ call 4 3 0 0) 10 (Read 1 [] (2 ^ 32 - 9) ∷ Write 3 [] (2 ^ 32 - 9) ∷ []) (Some Outside) ∷
    -- a refused call takes no answer
    record { text = call 4 0 0x0804A000 1 ++ call 4 1 0x0804A000 2; input = []; answers = Take 1 ∷ []; steps = 10; events = Write 0 [] (2 ^ 32 - 9) ∷ Write 1 (0 ∷ []) 1 ∷ []; end = Some Outside } ∷
    -- nor does a read of no bytes, wherever its buffer is
    record { text = call 3 0 0 0 ++ call 4 1 0x0804A000 1; input = 0x41 ∷ []; answers = Fail 5 ∷ []; steps = 10; events = Read 0 [] 0 ∷ Write 1 [] (2 ^ 32 - 5) ∷ []; end = Some Outside } ∷
    -- the number of moved bytes stands in eax: after 1 the next call is exit
    row_of (call 3 0 0x0804A000 1 ++ int80) (0x41 ∷ []) 6 (Read 0 (0x41 ∷ []) 1 ∷ []) (Some (Exited 0)) ∷
    plain_row (call 4 1 0x0804A000 1 ++ int80) 6 (Write 1 (0 ∷ []) 1 ∷ []) (Some (Exited 1)) ∷
    -- so does a failure's number, and a refusal's
    record { text = call 3 0 0x0804A000 1 ++ int80; input = 7 ∷ []; answers = Fail 5 ∷ []; steps = 6; events = Read 0 [] (2 ^ 32 - 5) ∷ []; end = Some (OtherCall (2 ^ 32 - 5)) } ∷
    record { text = call 4 1 0x0804A000 1 ++ int80; input = []; answers = Fail 5 ∷ []; steps = 6; events = Write 1 [] (2 ^ 32 - 5) ∷ []; end = Some (OtherCall (2 ^ 32 - 5)) } ∷
    plain_row (call 4 7 0 1 ++ int80) 6 (Write 7 [] (2 ^ 32 - 9) ∷ []) (Some (OtherCall (2 ^ 32 - 9))) ∷
    []

-- a memory that is mapped everywhere
abbrev pub open_memory : Memory
open_memory a = Some (record { byte = Known 0; can_write = true; on_stack = false })

-- the runs of all rows, and of a jump to itself
pub record WorkedCalls : Type 0 where
  pub ends : AreSeen end_rows
  pub writes : AreSeen write_rows
  pub reads : AreSeen read_rows
  pub rules : AreSeen rule_rows
  -- 65,536 bytes are asked for at most
  pub cap : read_plan open_memory 0 0 65537 ≡ Asks 65536
  -- the stack of the rows is one of a start; the lowest start, with the longest list; one of four more; the highest
  pub stack_is_start : IsStart esp0 stack
  pub lowest_start : IsStart 0x80000000 (replicate 131072 255)
  pub next_start : IsStart 0x80000004 (replicate 128 255)
  pub highest_start : IsStart (0xFFFFE000 - 128) (replicate 128 255)
  -- the widest environment
  pub widest : IsEnvironment (record { input = 0 ∷ 255 ∷ []; answers = Take 0 ∷ Take (2 ^ 32 - 1) ∷ Fail 1 ∷ Fail 4095 ∷ [] })
