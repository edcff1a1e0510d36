-- Worked runs of MOV, with operands of all kinds (Intel SDM volume 2, "MOV", tables 2-2 and 2-3). What a run has stored it
-- writes, or gives as its status.
use Rattle.std.specs.Prelude.{ℕ, List, [], ◌∷◌, ◌++◌, Some, None}
use Rattle.traces.specs.Trace.{Write, Exited, MemoryFault, Outside, Unspecified}
use Rattle.x86_meaning.specs.Rows.{Row, AreSeen, plain_row, mov_eax, mov_ecx, int80, call}

-- A3: mov [0x0804A000], eax, and then a write of five bytes from there
abbrev pub shows_eax : List ℕ
shows_eax = (0xA3 ∷ 0x00 ∷ 0xA0 ∷ 0x04 ∷ 0x08 ∷ []) ++ call 4 1 0x0804A000 5

-- exit with bl
abbrev pub exits : List ℕ
exits = mov_eax 1 ++ int80

abbrev pub register_rows : List Row
register_rows =
    -- the lowest byte is stored first
    plain_row (mov_eax 0x44434241 ++ shows_eax) 7 (Write 1 (0x41 ∷ 0x42 ∷ 0x43 ∷ 0x44 ∷ 0 ∷ []) 5 ∷ []) (Some Outside) ∷
    -- B4 7A: mov ah, 0x7A is the second byte; B0 7A: mov al, 0x7A
    plain_row (mov_eax 0x44434241 ++ (0xB4 ∷ 0x7A ∷ shows_eax)) 8 (Write 1 (0x41 ∷ 0x7A ∷ 0x43 ∷ 0x44 ∷ 0 ∷ []) 5 ∷ []) (Some Outside) ∷
    plain_row (mov_eax 0x44434241 ++ (0xB0 ∷ 0x7A ∷ shows_eax)) 8 (Write 1 (0x7A ∷ 0x42 ∷ 0x43 ∷ 0x44 ∷ 0 ∷ []) 5 ∷ []) (Some Outside) ∷
    -- 66 B8 34 12: mov ax, 0x1234 keeps the upper half
    plain_row (mov_eax 0x44434241 ++ (0x66 ∷ 0xB8 ∷ 0x34 ∷ 0x12 ∷ shows_eax)) 8 (Write 1 (0x34 ∷ 0x12 ∷ 0x43 ∷ 0x44 ∷ 0 ∷ []) 5 ∷ []) (Some Outside) ∷
    -- 88 E3: mov bl, ah; 89 C3: mov ebx, eax; 8B D8 the same; 88 C7: mov bh, al leaves bl
    plain_row ((0xB8 ∷ 0 ∷ 5 ∷ 0 ∷ 0 ∷ 0x88 ∷ 0xE3 ∷ []) ++ exits) 4 [] (Some (Exited 5)) ∷
    plain_row (mov_eax 6 ++ (0x89 ∷ 0xC3 ∷ exits)) 4 [] (Some (Exited 6)) ∷
    plain_row (mov_eax 6 ++ (0x8B ∷ 0xD8 ∷ exits)) 4 [] (Some (Exited 6)) ∷
    plain_row (mov_eax 6 ++ (0x88 ∷ 0xC7 ∷ exits)) 4 [] (Some (Exited 0)) ∷
    []

abbrev pub memory_rows : List Row
memory_rows =
    -- 88 25 disp32: mov [0x0804A001], ah; C6 05: a constant; 66 C7 05: one of two bytes
    plain_row (mov_eax 0x0000427F ++ ((0x88 ∷ 0x25 ∷ 0x01 ∷ 0xA0 ∷ 0x04 ∷ 0x08 ∷ 0xC6 ∷ 0x05 ∷ 0x00 ∷ 0xA0 ∷ 0x04 ∷ 0x08 ∷ 0x41 ∷ 0x66 ∷ 0xC7 ∷ 0x05 ∷ 0x02 ∷ 0xA0 ∷ 0x04 ∷ 0x08 ∷ 0x43 ∷ 0x44 ∷ []) ++ call 4 1 0x0804A000 5)) 9 (Write 1 (0x41 ∷ 0x42 ∷ 0x43 ∷ 0x44 ∷ 0 ∷ []) 5 ∷ []) (Some Outside) ∷
    -- 8A 1D: mov bl, [0x08049000], the first byte of the code
    plain_row ((0x8A ∷ 0x1D ∷ 0x00 ∷ 0x90 ∷ 0x04 ∷ 0x08 ∷ []) ++ exits) 3 [] (Some (Exited 0x8A)) ∷
    -- C6 44 88 04 41: mov byte [eax + 4 * ecx + 4], 0x41, where the sum passes 2^32
    plain_row (mov_eax 0x0804A000 ++ (mov_ecx 0xFFFFFFFF ++ ((0xC6 ∷ 0x44 ∷ 0x88 ∷ 0x04 ∷ 0x41 ∷ []) ++ call 4 1 0x0804A000 1))) 8 (Write 1 (0x41 ∷ []) 1 ∷ []) (Some Outside) ∷
    -- a load where nothing is mapped; a store to the code; each within its step
    plain_row (0xA1 ∷ 0 ∷ 0 ∷ 0 ∷ 0 ∷ []) 0 [] None ∷
    plain_row (0xA1 ∷ 0 ∷ 0 ∷ 0 ∷ 0 ∷ []) 1 [] (Some MemoryFault) ∷
    plain_row (0xA3 ∷ 0x00 ∷ 0x90 ∷ 0x04 ∷ 0x08 ∷ []) 1 [] (Some MemoryFault) ∷
    -- the last byte of a load past the end of a page, and of a store
    plain_row (0xA1 ∷ 0xFD ∷ 0xAF ∷ 0x04 ∷ 0x08 ∷ []) 1 [] (Some MemoryFault) ∷
    plain_row (0xA3 ∷ 0xFD ∷ 0xAF ∷ 0x04 ∷ 0x08 ∷ []) 1 [] (Some MemoryFault) ∷
    -- 8B 44 24 FC: mov eax, [esp - 4] is unspecified, and so is what is stored of it: that ends no run before it is written
    plain_row (0x8B ∷ 0x44 ∷ 0x24 ∷ 0xFC ∷ shows_eax) 6 [] None ∷
    plain_row (0x8B ∷ 0x44 ∷ 0x24 ∷ 0xFC ∷ shows_eax) 7 [] (Some Unspecified) ∷
    -- 8B 08: mov ecx, [eax] then has no address
    plain_row (0x8B ∷ 0x44 ∷ 0x24 ∷ 0xFC ∷ 0x8B ∷ 0x08 ∷ []) 2 [] (Some Unspecified) ∷
    -- 89 44 24 FC: what is stored below esp is forgotten
    plain_row (mov_eax 5 ++ ((0x89 ∷ 0x44 ∷ 0x24 ∷ 0xFC ∷ []) ++ call 4 1 0xBFFEFF7C 1)) 7 [] (Some Unspecified) ∷
    -- 89 04 24: mov [esp], eax is not
    plain_row (mov_eax 5 ++ ((0x89 ∷ 0x04 ∷ 0x24 ∷ []) ++ call 4 1 0xBFFEFF80 1)) 7 (Write 1 (5 ∷ []) 1 ∷ []) (Some Outside) ∷
    -- 01 C0, ADD, isn't built: the run ends within its step
    plain_row (0x01 ∷ 0xC0 ∷ []) 0 [] None ∷
    plain_row (0x01 ∷ 0xC0 ∷ []) 1 [] (Some Outside) ∷
    []

pub record WorkedMoves : Type 0 where
  pub registers : AreSeen register_rows
  pub memory : AreSeen memory_rows
