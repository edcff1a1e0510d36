-- The worked runs, by computation.
use Rattle.std.proofs.Common.{◌≡◌, ℕ, zero, suc, ◌+◌, ◌<◌, ◌^◌, ◌-◌, ltb, ◌&&◌, Bool, true, List, [], ◌∷◌, replicate, refl, arith, All}
use Rattle.std.proofs.lemmas.Bool.{and_parts, ltb-true}
use Rattle.std.proofs.lemmas.List.{length-replicate}
use Rattle.std.proofs.lemmas.List.Elements.{All-nil, All-cons, All-replicate}
use Rattle.outside.specs.declared.answer.Answer.TheVariants.{Take, Fail}
use Rattle.outside.specs.Environment.{IsAnswer, IsEnvironment}
use Rattle.x86_values.specs.Words.{word_of, known, all_known}
use Rattle.traces.specs.Trace.{run}
use Rattle.image.specs.Addresses.{segment_at, code_bytes}
use Rattle.x86_grammar.specs.Front.{front}
use Rattle.x86_grammar.specs.Reading.{read_from, numbers, sib_at, after_m, m_at, plain_at, after_opcode, after_escape, at_opcode}
use Rattle.x86_grammar.specs.Table.{entry_of}
use Rattle.memory.specs.Memory.{AccessKind, Load, Store, put, put_all, allows_all, bytes_at, forget_below, memory_of, with_stack}
use Rattle.memory.specs.SystemCall.{Asks, read_plan, read_call, write_call, system_call}
use Rattle.x86_code.specs.Code.{code_of}
use Rattle.x86_meaning.specs.Registers.{with_register}
use Rattle.x86_meaning.specs.Transfers.{transfer}
use Rattle.x86_meaning.specs.Computing.{compute}
use Rattle.x86_meaning.specs.Effect.{accesses, effect}
use Rattle.x86_meaning.specs.Step.{settled, finish, step, next}
use Rattle.x86_meaning.specs.Run.{IsStart, start_over, run_from}
use Rattle.x86_meaning.specs.Rows.{stack, esp0, AreSeen}
use Rattle.x86_meaning.specs.CallRows.{end_rows, write_rows, read_rows, rule_rows, open_memory}
use Rattle.x86_meaning.specs.MoveRows.{register_rows, memory_rows}

pub end_rows_seen : AreSeen end_rows
unfolding word_of known all_known run segment_at code_bytes front read_from numbers sib_at after_m m_at plain_at after_opcode after_escape at_opcode entry_of put put_all allows_all bytes_at forget_below memory_of with_stack read_call write_call system_call with_register accesses effect settled finish step next code_of start_over run_from transfer compute
end_rows_seen = ((refl, refl), ((refl, refl), ((refl, refl), ((refl, refl), ((refl, refl), ((refl, refl), ((refl, refl), ((refl, refl), ((refl, refl), ((refl, refl), ((refl, refl), tt)))))))))))

pub write_rows_seen : AreSeen write_rows
unfolding word_of known all_known run segment_at code_bytes front read_from numbers sib_at after_m m_at plain_at after_opcode after_escape at_opcode entry_of put put_all allows_all bytes_at forget_below memory_of with_stack read_call write_call system_call with_register accesses effect settled finish step next code_of start_over run_from transfer compute
write_rows_seen = ((refl, refl), ((refl, refl), ((refl, refl), ((refl, refl), ((refl, refl), ((refl, refl), ((refl, refl), ((refl, refl), ((refl, refl), ((refl, refl), ((refl, refl), ((refl, refl), tt))))))))))))

pub read_rows_seen : AreSeen read_rows
unfolding word_of known all_known run segment_at code_bytes front read_from numbers sib_at after_m m_at plain_at after_opcode after_escape at_opcode entry_of put put_all allows_all bytes_at forget_below memory_of with_stack read_call write_call system_call with_register accesses effect settled finish step next code_of start_over run_from transfer compute
read_rows_seen = ((refl, refl), ((refl, refl), ((refl, refl), ((refl, refl), ((refl, refl), ((refl, refl), ((refl, refl), ((refl, refl), ((refl, refl), tt)))))))))

pub rule_rows_seen : AreSeen rule_rows
unfolding word_of known all_known run segment_at code_bytes front read_from numbers sib_at after_m m_at plain_at after_opcode after_escape at_opcode entry_of put put_all allows_all bytes_at forget_below memory_of with_stack read_call write_call system_call with_register accesses effect settled finish step next code_of start_over run_from transfer compute
rule_rows_seen = ((refl, refl), ((refl, refl), ((refl, refl), ((refl, refl), ((refl, refl), ((refl, refl), ((refl, refl), ((refl, refl), ((refl, refl), tt)))))))))

pub register_rows_seen : AreSeen register_rows
unfolding word_of known all_known run segment_at code_bytes front read_from numbers sib_at after_m m_at plain_at after_opcode after_escape at_opcode entry_of put put_all allows_all bytes_at forget_below memory_of with_stack read_call write_call system_call with_register accesses effect settled finish step next code_of start_over run_from transfer compute
register_rows_seen = ((refl, refl), ((refl, refl), ((refl, refl), ((refl, refl), ((refl, refl), ((refl, refl), ((refl, refl), ((refl, refl), tt))))))))

pub memory_rows_seen : AreSeen memory_rows
unfolding word_of known all_known run segment_at code_bytes front read_from numbers sib_at after_m m_at plain_at after_opcode after_escape at_opcode entry_of put put_all allows_all bytes_at forget_below memory_of with_stack read_call write_call system_call with_register accesses effect settled finish step next code_of start_over run_from transfer compute
memory_rows_seen = ((refl, refl), ((refl, refl), ((refl, refl), ((refl, refl), ((refl, refl), ((refl, refl), ((refl, refl), ((refl, refl), ((refl, refl), ((refl, refl), ((refl, refl), ((refl, refl), ((refl, refl), ((refl, refl), ((refl, refl), tt)))))))))))))))

-- ---- starts and environments
all_below : List ℕ → Bool
all_below [] = true
all_below (x ∷ xs) = ltb x 256 && all_below xs

all_bytes : (xs : List ℕ) → all_below xs ≡ true → All (λ b. b < 256) xs
unfolding all_below
all_bytes [] e = All-nil _
all_bytes (x ∷ xs) e = let p = and_parts (ltb x 256) (all_below xs) e in All-cons (λ b. b < 256) x xs (ltb-true x 256 p.0) (all_bytes xs p.1)

pub stack_is_start : IsStart esp0 stack
unfolding all_below
stack_is_start = record { aligned = refl; high = omega arith; at_least = omega arith; at_most = omega arith; bytes = all_bytes stack refl; within = omega arith }

pub lowest_start : IsStart 0x80000000 (replicate 131072 255)
lowest_start = let l = length-replicate {A = ℕ} 131072 255 in record { aligned = refl; high = omega arith; at_least = omega (arith, l); at_most = omega (arith, l); bytes = All-replicate (λ b. b < 256) 131072 255 (omega arith); within = omega (arith, l) }

pub next_start : IsStart 0x80000004 (replicate 128 255)
next_start = let l = length-replicate {A = ℕ} 128 255 in record { aligned = refl; high = omega arith; at_least = omega (arith, l); at_most = omega (arith, l); bytes = All-replicate (λ b. b < 256) 128 255 (omega arith); within = omega (arith, l) }

pub highest_start : IsStart (0xFFFFE000 - 128) (replicate 128 255)
highest_start = let l = length-replicate {A = ℕ} 128 255 in record { aligned = refl; high = omega arith; at_least = omega (arith, l); at_most = omega (arith, l); bytes = All-replicate (λ b. b < 256) 128 255 (omega arith); within = omega (arith, l) }

pub widest : IsEnvironment (record { input = 0 ∷ 255 ∷ []; answers = Take 0 ∷ Take (2 ^ 32 - 1) ∷ Fail 1 ∷ Fail 4095 ∷ [] })
widest = record {
  input = All-cons (λ b. b < 256) 0 (255 ∷ []) (omega arith) (All-cons (λ b. b < 256) 255 [] (omega arith) (All-nil _));
  answers = All-cons IsAnswer (Take 0) (Take (2 ^ 32 - 1) ∷ Fail 1 ∷ Fail 4095 ∷ []) (omega arith) (All-cons IsAnswer (Take (2 ^ 32 - 1)) (Fail 1 ∷ Fail 4095 ∷ []) (omega arith) (All-cons IsAnswer (Fail 1) (Fail 4095 ∷ []) (omega arith, omega arith) (All-cons IsAnswer (Fail 4095) [] (omega arith, omega arith) (All-nil _))));
}

open_all : (kind : AccessKind) (at n : ℕ) → allows_all kind open_memory at n ≡ true
unfolding allows_all
open_all Load at zero = refl
open_all Store at zero = refl
open_all Load at (suc n) = open_all Load (at + 1) n
open_all Store at (suc n) = open_all Store (at + 1) n

pub asks_for_cap : read_plan open_memory 0 0 65537 ≡ Asks 65536
asks_for_cap = rw (open_all Store 0 65537) refl
