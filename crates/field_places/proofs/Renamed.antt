-- An instruction with other registers in its fields does what it does where the fields name their places.
use Rattle.std.proofs.Common.{◌≡◌, ℕ, List, Option, Some, None, refl, ap, ap₂, ◌∙◌}
use Rattle.std.specs.Option.{option_map}
use Rattle.x86_values.specs.declared.word.Word.{Word}
use Rattle.x86_values.specs.declared.word.Flags.{Flags}
use Rattle.x86_values.specs.Words.{known}
use Rattle.x86_types.specs.declared.operand.Address.{Address}
use Rattle.x86_types.specs.declared.operand.Reg.{Reg}
use Rattle.x86_types.specs.declared.operand.Rm.{Rm}
use Rattle.x86_types.specs.declared.operand.Rm.TheVariants as rm
use Rattle.x86_types.specs.declared.operand.Src.{Src}
use Rattle.x86_types.specs.declared.operand.Src.TheVariants as src
use Rattle.x86_types.specs.declared.instr.Instr.{Instr}
use Rattle.x86_types.specs.declared.instr.Instr.TheVariants as instr
use Rattle.x86_types.specs.declared.width.Width.{Width}
use Rattle.x86_types.specs.declared.width.Width.TheVariants.{One, Two, Four}
use Rattle.x86_types.specs.Numbers.{size_of}
use Rattle.x86_types.specs.Registers.{Whole, Index, Renaming, field_of, renamed, renamed_option, renamed_address, renamed_rm, renamed_src}
use Rattle.memory.specs.Memory.{Memory}
use Rattle.x86_meaning.specs.Registers.{Registers, Processor, Naming}
use Rattle.x86_meaning.specs.Operands.{Location, InMemory, Constant, field, address_part, effective_address, location_of, source_of}
use Rattle.x86_meaning.specs.TransferShapes.{Transfer, by_one, by_two, move_transfer, combine_transfer, multiply_by_transfer, exchange_transfer, double_shift_transfer, push_of, pop_to, esp_raised}
use Rattle.x86_meaning.specs.Transfers.{transfer}
use Rattle.x86_meaning.specs.Computing.{compute}
use Rattle.x86_meaning.specs.Effect.{transfer_accesses, accesses, effect_of, effect_by, effect}
use Rattle.field_places.specs.Pairs.{KnowsNoIndex, renamed_naming}

module _ (f : Renaming) (v : Naming) (none : KnowsNoIndex f) where
  abbrev u : Naming
  u = renamed_naming f v

  field_is : (s : Width) (n : Reg) → field v s (f (field_of s) n) ≡ field u s n
  field_is One n = refl
  field_is Two n = refl
  field_is Four n = refl

  base_is : (r : Registers) (o : Option Reg) → address_part v r (renamed_option (f Whole) o) ≡ address_part u r o
  base_is r None = refl
  base_is r (Some n) = refl

  index_is : (r : Registers) (o : Option Reg) → address_part v r (renamed_option (f Index) o) ≡ address_part u r o
  index_is r None = refl
  index_is r (Some n) = ap (λ (m : Reg). known (r (v.whole m))) (none n)

  address_is : (r : Registers) (a : Address) → effective_address v r (renamed_address f a) ≡ effective_address u r a
  address_is r a = rw (base_is r a.base, index_is r a.index) refl

  module _ (r : Registers) where
    location_is : (s : Width) (o : Rm) → location_of v r s (renamed_rm f s o) ≡ location_of u r s o
    location_is s (rm.Reg n) = ap (λ (l : Location). Some l) (field_is s n)
    location_is s (rm.Mem a) = ap (option_map InMemory) (address_is r a)

    source_is : (s : Width) (o : Src) → source_of v r s (renamed_src f s o) ≡ source_of u r s o
    source_is s (src.Reg n) = ap (λ (l : Location). Some l) (field_is s n)
    source_is s (src.Mem a) = ap (option_map InMemory) (address_is r a)
    source_is s (src.Imm n) = refl

    by_rm : (g : Location → Transfer) (s : Width) (o : Rm) → by_one g (location_of v r s (renamed_rm f s o)) ≡ by_one g (location_of u r s o)
    by_rm g s o = ap (by_one g) (location_is s o)

    by_field : (g : Location → Location → Transfer) (s : Width) (n : Reg) (z : Width) (o : Rm) → by_one (g (field v s (f (field_of s) n))) (location_of v r z (renamed_rm f z o)) ≡ by_one (g (field u s n)) (location_of u r z o)
    by_field g s n z o = ap₂ (λ (k : Location) (l : Option Location). by_one (g k) l) (field_is s n) (location_is z o)

    before_field : (g : Location → Location → Transfer) (s : Width) (o : Rm) (z : Width) (n : Reg) → by_two g (location_of v r s (renamed_rm f s o)) (Some (field v z (f (field_of z) n))) ≡ by_two g (location_of u r s o) (Some (field u z n))
    before_field g s o z n = ap₂ (λ (l : Option Location) (k : Location). by_two g l (Some k)) (location_is s o) (field_is z n)

    by_both : (g : Location → Location → Transfer) (s : Width) (to : Rm) (from : Src) → by_two g (location_of v r s (renamed_rm f s to)) (source_of v r s (renamed_src f s from)) ≡ by_two g (location_of u r s to) (source_of u r s from)
    by_both g s to from = ap₂ (by_two g) (location_is s to) (source_is s from)

  transfer_is : (i : Instr) (r : Registers) → transfer v (renamed f i) r ≡ transfer u i r
  unfolding transfer
  transfer_is (instr.Alu op s to from) r = by_both r _ s to from
  transfer_is (instr.Test s to from) r = by_both r _ s to from
  transfer_is (instr.Mov s to from) r = by_both r _ s to from
  transfer_is (instr.Lea s to at) r = ap₂ (λ (k : Location) (n : Option ℕ). Some (move_transfer (size_of s) (size_of s) k (Constant n))) (field_is s to) (address_is r at)
  transfer_is (instr.Inc s to) r = by_rm r _ s to
  transfer_is (instr.Dec s to) r = by_rm r _ s to
  transfer_is (instr.Not s to) r = by_rm r _ s to
  transfer_is (instr.Neg s to) r = by_rm r _ s to
  transfer_is (instr.Mul s from) r = by_rm r _ s from
  transfer_is (instr.ImulWide s from) r = by_rm r _ s from
  transfer_is (instr.Div s from) r = by_rm r _ s from
  transfer_is (instr.Idiv s from) r = by_rm r _ s from
  transfer_is (instr.Imul s to from) r = by_field r (combine_transfer (size_of s)) s to s from
  transfer_is (instr.ImulBy s to from by) r = by_field r (multiply_by_transfer (size_of s) by) s to s from
  transfer_is (instr.Shift op s to n) r = by_rm r _ s to
  transfer_is (instr.Shld to from n) r = before_field r (double_shift_transfer n) Four to Four from
  transfer_is (instr.Shrd to from n) r = before_field r (double_shift_transfer n) Four to Four from
  transfer_is (instr.Push from) r = ap (λ (l : Option Location). push_of l (known (r 4))) (source_is r Four from)
  transfer_is (instr.Pop to) r = ap (λ (l : Option Location). pop_to l (known (r 4))) (location_is (esp_raised (known (r 4)) r) Four to)
  transfer_is (instr.Xchg s to from) r = ap₂ (λ (k : Location) (l : Option Location). by_one (exchange_transfer (size_of s) k) l) (field_is s from) (location_is r s to)
  transfer_is (instr.Movzx wide s to from) r = by_field r (move_transfer (size_of wide) (size_of s)) wide to s from
  transfer_is (instr.Movsx wide s to from) r = by_field r (move_transfer (size_of wide) (size_of s)) wide to s from
  transfer_is (instr.Cmov c s to from) r = by_field r (combine_transfer (size_of s)) s to s from
  transfer_is (instr.Setcc c to) r = by_rm r _ One to
  transfer_is (instr.Extend s) r = refl
  transfer_is (instr.Spread s) r = refl
  transfer_is (instr.Bsf s to from) r = by_field r (move_transfer (size_of s) (size_of s)) s to s from
  transfer_is (instr.Bsr s to from) r = by_field r (move_transfer (size_of s) (size_of s)) s to s from
  transfer_is (instr.Bswap to) r = refl
  transfer_is (instr.Movs s repeat) r = refl
  transfer_is (instr.Stos s repeat) r = refl
  transfer_is (instr.Jmp by) r = refl
  transfer_is (instr.JmpTo to) r = by_rm r _ Four to
  transfer_is (instr.CallTo to) r = ap (λ (l : Option Location). push_of l (known (r 4))) (location_is r Four to)
  transfer_is (instr.Jcc c by) r = refl
  transfer_is (instr.Call by) r = refl
  transfer_is (instr.Ret drop) r = refl
  transfer_is instr.Leave r = refl
  transfer_is instr.Int80 r = refl
  transfer_is instr.Cld r = refl
  transfer_is instr.Nop r = refl

  -- what is computed looks at no field
  compute_is : (i : Instr) (next : ℕ) (flags : Flags) (xs : List Word) → compute (renamed f i) next flags xs ≡ compute i next flags xs
  unfolding compute
  compute_is (instr.Alu op s to from) next flags xs = refl
  compute_is (instr.Test s to from) next flags xs = refl
  compute_is (instr.Mov s to from) next flags xs = refl
  compute_is (instr.Lea s to at) next flags xs = refl
  compute_is (instr.Inc s to) next flags xs = refl
  compute_is (instr.Dec s to) next flags xs = refl
  compute_is (instr.Not s to) next flags xs = refl
  compute_is (instr.Neg s to) next flags xs = refl
  compute_is (instr.Mul s from) next flags xs = refl
  compute_is (instr.ImulWide s from) next flags xs = refl
  compute_is (instr.Div s from) next flags xs = refl
  compute_is (instr.Idiv s from) next flags xs = refl
  compute_is (instr.Imul s to from) next flags xs = refl
  compute_is (instr.ImulBy s to from by) next flags xs = refl
  compute_is (instr.Shift op s to n) next flags xs = refl
  compute_is (instr.Shld to from n) next flags xs = refl
  compute_is (instr.Shrd to from n) next flags xs = refl
  compute_is (instr.Push from) next flags xs = refl
  compute_is (instr.Pop to) next flags xs = refl
  compute_is (instr.Xchg s to from) next flags xs = refl
  compute_is (instr.Movzx wide s to from) next flags xs = refl
  compute_is (instr.Movsx wide s to from) next flags xs = refl
  compute_is (instr.Cmov c s to from) next flags xs = refl
  compute_is (instr.Setcc c to) next flags xs = refl
  compute_is (instr.Extend s) next flags xs = refl
  compute_is (instr.Spread s) next flags xs = refl
  compute_is (instr.Bsf s to from) next flags xs = refl
  compute_is (instr.Bsr s to from) next flags xs = refl
  compute_is (instr.Bswap to) next flags xs = refl
  compute_is (instr.Movs s repeat) next flags xs = refl
  compute_is (instr.Stos s repeat) next flags xs = refl
  compute_is (instr.Jmp by) next flags xs = refl
  compute_is (instr.JmpTo to) next flags xs = refl
  compute_is (instr.CallTo to) next flags xs = refl
  compute_is (instr.Jcc c by) next flags xs = refl
  compute_is (instr.Call by) next flags xs = refl
  compute_is (instr.Ret drop) next flags xs = refl
  compute_is instr.Leave next flags xs = refl
  compute_is instr.Int80 next flags xs = refl
  compute_is instr.Cld next flags xs = refl
  compute_is instr.Nop next flags xs = refl

  pub renamed_accesses : (i : Instr) (r : Registers) → accesses v (renamed f i) r ≡ accesses u i r
  unfolding accesses
  renamed_accesses i r = ap transfer_accesses (transfer_is i r)

  effect_by_is : (o : Option Transfer) (i : Instr) (next : ℕ) (cpu : Processor) (m : Memory) → effect_by o (renamed f i) next cpu m ≡ effect_by o i next cpu m
  effect_by_is None i next cpu m = refl
  effect_by_is (Some t) i next cpu m = ap (effect_of t.writes cpu.regs) (compute_is i next cpu.flags _)

  pub renamed_effect : (i : Instr) (next : ℕ) (cpu : Processor) (m : Memory) → effect v (renamed f i) next cpu m ≡ effect u i next cpu m
  unfolding effect
  renamed_effect i next cpu m = ap (λ (o : Option Transfer). effect_by o (renamed f i) next cpu m) (transfer_is i cpu.regs) ∙ effect_by_is (transfer u i cpu.regs) i next cpu m
