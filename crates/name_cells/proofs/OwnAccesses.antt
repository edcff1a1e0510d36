-- The accesses of an own item are those of its instruction: they miss the cells where these are apart, and are clear.
use Rattle.std.proofs.Common.{◌≡◌, List, [], ◌∷◌, ◌++◌, All, refl, sym, ap₂, ◌∙◌, subst, arith}
use Rattle.std.proofs.lemmas.List.Elements.{All-nil, All-cons, All-head, All-tail}
use Rattle.memory.specs.Memory.{Memory}
use Rattle.memory.specs.MemoryLaws.{MemoryLaws}
use Rattle.x86_types.specs.declared.instr.Instr.{Instr}
use Rattle.x86_types.specs.declared.instr.Instr.TheVariants as instr
use Rattle.x86_meaning.specs.Operands.{Access}
use Rattle.x86_meaning.specs.Effect.{accesses}
use Rattle.private_memory.specs.PrivateArea.{IsApartAccess, IsClearAccess}
use Rattle.private_memory.specs.PrivateAreaLaws.{PrivateAccessLaws}
use Rattle.field_places.specs.Fields.{implicit_registers}
use Rattle.field_places.specs.Pairs.{Pairs, HoldTheSame, PairedWithThemselves}
use Rattle.field_places.specs.FieldPlaceLaws.{FieldPlaceLaws}
use Rattle.named_code.specs.declared.named.VInstr.{VInstr}
use Rattle.named_code.specs.Items.{named_item, naming_of}
use Rattle.named_code.specs.Running.{CodeState}
use Rattle.named_code.specs.TestedRun.{call_buffer, item_accesses}
use Rattle.name_cells.specs.CanBePlaced.{IsInstrPlaceable}
use Rattle.name_cells.specs.Pairs.{pairs_of, own_renaming}
use Rattle.name_cells.specs.OwnSteps.{MissCells, StandsBeside, placed_own}
use Rattle.name_cells.proofs.OwnItems.{uses, own_accesses}
use Rattle.name_cells.proofs.RenamedInstrs.{is_kept}

-- ---- the buffer of a call is told by registers that are paired
module _ (pairs : Pairs) where
  buffer_alike : (i : Instr) (s t : CodeState) → PairedWithThemselves pairs (implicit_registers i) → HoldTheSame pairs s.cpu.regs t.cpu.regs → call_buffer i s ≡ call_buffer i t
  unfolding implicit_registers
  buffer_alike (instr.Alu op w to from) s t h same = refl
  buffer_alike (instr.Test w left right) s t h same = refl
  buffer_alike (instr.Mov w to from) s t h same = refl
  buffer_alike (instr.Lea w to at) s t h same = refl
  buffer_alike (instr.Inc w to) s t h same = refl
  buffer_alike (instr.Dec w to) s t h same = refl
  buffer_alike (instr.Not w to) s t h same = refl
  buffer_alike (instr.Neg w to) s t h same = refl
  buffer_alike (instr.Mul w from) s t h same = refl
  buffer_alike (instr.ImulWide w from) s t h same = refl
  buffer_alike (instr.Div w from) s t h same = refl
  buffer_alike (instr.Idiv w from) s t h same = refl
  buffer_alike (instr.Imul w to from) s t h same = refl
  buffer_alike (instr.ImulBy w to from by) s t h same = refl
  buffer_alike (instr.Shift op w to n) s t h same = refl
  buffer_alike (instr.Shld to from n) s t h same = refl
  buffer_alike (instr.Shrd to from n) s t h same = refl
  buffer_alike (instr.Push from) s t h same = refl
  buffer_alike (instr.Pop to) s t h same = refl
  buffer_alike (instr.Xchg w left right) s t h same = refl
  buffer_alike (instr.Movzx wide w to from) s t h same = refl
  buffer_alike (instr.Movsx wide w to from) s t h same = refl
  buffer_alike (instr.Cmov c w to from) s t h same = refl
  buffer_alike (instr.Setcc c to) s t h same = refl
  buffer_alike (instr.Extend w) s t h same = refl
  buffer_alike (instr.Spread w) s t h same = refl
  buffer_alike (instr.Bsf w to from) s t h same = refl
  buffer_alike (instr.Bsr w to from) s t h same = refl
  buffer_alike (instr.Bswap to) s t h same = refl
  buffer_alike (instr.Movs w repeat) s t h same = refl
  buffer_alike (instr.Stos w repeat) s t h same = refl
  buffer_alike (instr.Jmp by) s t h same = refl
  buffer_alike (instr.JmpTo to) s t h same = refl
  buffer_alike (instr.CallTo to) s t h same = refl
  buffer_alike (instr.Jcc c by) s t h same = refl
  buffer_alike (instr.Call by) s t h same = refl
  buffer_alike (instr.Ret drop) s t h same = refl
  buffer_alike instr.Leave s t h same = refl
  buffer_alike instr.Int80 s t h same = rw (same 0 0 h.0, same 3 3 h.1.1.1.0, same 1 1 h.1.0, same 2 2 h.1.1.0) refl
  buffer_alike instr.Cld s t h same = refl
  buffer_alike instr.Nop s t h same = refl

-- ---- accesses that are apart
apart_misses : (m : Memory) (xs : List Access) → All (IsApartAccess m) xs → MissCells xs m
apart_misses m [] h = tt
apart_misses m (a ∷ xs) h =
    let first = All-head (IsApartAccess m) a xs h in
    (λ allowed. record { apart = λ j k less small. (first.elsewhere allowed).names.apart j k less (omega (arith, small)) }, apart_misses m xs (All-tail (IsApartAccess m) a xs h))

front_apart : (m : Memory) (xs more : List Access) → All (IsApartAccess m) (xs ++ more) → All (IsApartAccess m) xs
front_apart m [] more h = All-nil (IsApartAccess m)
front_apart m (a ∷ xs) more h = All-cons (IsApartAccess m) a xs (All-head (IsApartAccess m) a (xs ++ more) h) (front_apart m xs more (All-tail (IsApartAccess m) a (xs ++ more) h))

rest_apart : (m : Memory) (xs more : List Access) → All (IsApartAccess m) (xs ++ more) → All (IsApartAccess m) more
rest_apart m [] more h = h
rest_apart m (a ∷ xs) more h = rest_apart m xs more (All-tail (IsApartAccess m) a (xs ++ more) h)

pub item_misses : (x : VInstr) (s : CodeState) → All (IsApartAccess s.memory) (item_accesses (named_item x) s) → MissCells (accesses (naming_of x.slots) x.instr s.cpu.regs) s.memory
item_misses x s h = apart_misses s.memory _ (front_apart s.memory (accesses (naming_of x.slots) x.instr s.cpu.regs) (call_buffer x.instr s) h)

pub buffer_misses : (x : VInstr) (s : CodeState) → All (IsApartAccess s.memory) (item_accesses (named_item x) s) → MissCells (call_buffer x.instr s) s.memory
buffer_misses x s h = apart_misses s.memory (call_buffer x.instr s) (rest_apart s.memory (accesses (naming_of x.slots) x.instr s.cpu.regs) (call_buffer x.instr s) h)

module _ (memories : MemoryLaws) (areas : PrivateAccessLaws) (fields : FieldPlaceLaws) (x : VInstr) (placeable : IsInstrPlaceable x) (s t : CodeState) (beside : StandsBeside x s t) where
  same_accesses : item_accesses (placed_own x) t ≡ item_accesses (named_item x) s
  same_accesses =
      let used = uses x placeable s.cpu.regs t.cpu.regs beside.registers in
      ap₂ (λ (xs ys : List Access). xs ++ ys) (sym (own_accesses fields x s.cpu.regs t.cpu.regs placeable beside.registers))
      ((is_kept (own_renaming x) x.instr).3 t ∙ sym (buffer_alike (pairs_of x) x.instr s t used.implicit used.words))

  apart_beside : (a : Access) → IsApartAccess s.memory a → IsApartAccess t.memory a
  apart_beside a h = record { elsewhere = λ allowed. h.elsewhere (memories.allows_by_kinds a.kind s.memory t.memory beside.memory.kinds a.at a.size ∙ allowed) }

  pub own_clear : All (IsApartAccess s.memory) (item_accesses (named_item x) s) → All (IsClearAccess t.memory) (item_accesses (placed_own x) t)
  own_clear h = subst (All (IsClearAccess t.memory)) (sym same_accesses) (λ k d l. areas.apart_is_clear t.memory _ (apart_beside _ (h k d l)))
