-- The effect of an instruction is monotone in what is specified.
use Rattle.std.proofs.Common.{◌≡◌, ℕ, zero, suc, ◌+◌, List, [], ◌∷◌, ◌++◌, length, take, drop, Option, Some, None, Ok, Err, refl, ap, arith}
use Rattle.x86_values.specs.declared.byte.Byte.{Byte}
use Rattle.x86_values.specs.declared.byte.Byte.TheVariants.{Known}
use Rattle.x86_values.specs.declared.word.Word.{Word}
use Rattle.x86_values.specs.Words.{word_of, word_list, padded}
use Rattle.x86_values.specs.LessSpecified.{ByteLessSpecified, WordLessSpecified, BytesLessSpecified}
use Rattle.memory.specs.Memory.{Memory, Stored}
use Rattle.memory.specs.LessSpecified.{MemoryLessSpecified, StoresLessSpecified}
use Rattle.memory.specs.LessSpecifiedLaws.{LessSpecifiedMemoryLaws}
use Rattle.x86_types.specs.declared.instr.Instr.{Instr}
use Rattle.x86_meaning.specs.declared.stop.Stop.TheVariants.{MemoryFault, DivideFault, Unspecified}
use Rattle.x86_meaning.specs.Registers.{Registers, Processor, Naming, with_bytes}
use Rattle.x86_meaning.specs.Operands.{Location, InRegister, InMemory, Constant, SizedOperand, word_if, bytes_in, values_in}
use Rattle.x86_meaning.specs.TransferShapes.{Transfer}
use Rattle.x86_meaning.specs.Outcomes.{Computation}
use Rattle.x86_meaning.specs.Effect.{Effect, written_to, all_written, effect_of, effect_by, effect}
use Rattle.x86_meaning.specs.LessSpecified.{RegistersLessSpecified, ProcessorLessSpecified, EffectLessSpecified, ResultLessSpecified}
use Rattle.x86_meaning.proofs.SameTransfers.{SameWhere, SameLocation, SameOperands, SameTransfer, set_less, transfer_same}
use Rattle.x86_meaning.proofs.ComputedLess.{ValueLaws, WordsLessSpecified, OutcomeLess, compute_less}

-- ---- lists of bytes
bytes_taken : (n : ℕ) (bs cs : List Byte) → BytesLessSpecified bs cs → BytesLessSpecified (take n bs) (take n cs)
bytes_taken zero bs cs h = refl
bytes_taken (suc n) [] cs h = rw h refl
bytes_taken (suc n) (b ∷ bs) [] h = absurd h
bytes_taken (suc n) (b ∷ bs) (c ∷ cs) h = (h.0, bytes_taken n bs cs h.1)

bytes_dropped : (n : ℕ) (bs cs : List Byte) → BytesLessSpecified bs cs → BytesLessSpecified (drop n bs) (drop n cs)
bytes_dropped zero bs cs h = h
bytes_dropped (suc n) [] cs h = rw h refl
bytes_dropped (suc n) (b ∷ bs) [] h = absurd h
bytes_dropped (suc n) (b ∷ bs) (c ∷ cs) h = bytes_dropped n bs cs h.1

bytes_joined : (xs bs cs ds : List Byte) → BytesLessSpecified xs bs → BytesLessSpecified cs ds → BytesLessSpecified (xs ++ cs) (bs ++ ds)
bytes_joined [] bs cs ds h k = rw h k
bytes_joined (x ∷ xs) [] cs ds h k = absurd h
bytes_joined (x ∷ xs) (b ∷ bs) cs ds h k = (h.0, bytes_joined xs bs cs ds h.1 k)

same_length : (bs cs : List Byte) → BytesLessSpecified bs cs → length bs ≡ length cs
same_length [] cs h = rw h refl
same_length (b ∷ bs) [] h = absurd h
same_length (b ∷ bs) (c ∷ cs) h = ap suc (same_length bs cs h.1)

listed : (x u : Word) → WordLessSpecified x u → BytesLessSpecified (word_list x) (word_list u)
listed x u h = (h.b0, (h.b1, (h.b2, (h.b3, refl))))

zero_less : ByteLessSpecified (Known 0) (Known 0)
zero_less = (refl, omega arith)

padded_less : (bs cs : List Byte) → BytesLessSpecified bs cs → WordLessSpecified (padded bs) (padded cs)
padded_less [] cs h = rw h (record { b0 = zero_less; b1 = zero_less; b2 = zero_less; b3 = zero_less })
padded_less (a ∷ []) [] h = absurd h
padded_less (a ∷ []) (e ∷ cs) h = rw h.1 (record { b0 = h.0; b1 = zero_less; b2 = zero_less; b3 = zero_less })
padded_less (a ∷ b ∷ []) [] h = absurd h
padded_less (a ∷ b ∷ []) (e ∷ []) h = absurd h.1
padded_less (a ∷ b ∷ []) (e ∷ f ∷ cs) h = rw h.1.1 (record { b0 = h.0; b1 = h.1.0; b2 = zero_less; b3 = zero_less })
padded_less (a ∷ b ∷ c ∷ []) [] h = absurd h
padded_less (a ∷ b ∷ c ∷ []) (e ∷ []) h = absurd h.1
padded_less (a ∷ b ∷ c ∷ []) (e ∷ f ∷ []) h = absurd h.1.1
padded_less (a ∷ b ∷ c ∷ []) (e ∷ f ∷ g ∷ cs) h = rw h.1.1.1 (record { b0 = h.0; b1 = h.1.0; b2 = h.1.1.0; b3 = zero_less })
padded_less (a ∷ b ∷ c ∷ d ∷ bs) [] h = absurd h
padded_less (a ∷ b ∷ c ∷ d ∷ bs) (e ∷ []) h = absurd h.1
padded_less (a ∷ b ∷ c ∷ d ∷ bs) (e ∷ f ∷ []) h = absurd h.1.1
padded_less (a ∷ b ∷ c ∷ d ∷ bs) (e ∷ f ∷ g ∷ []) h = absurd h.1.1.1
padded_less (a ∷ b ∷ c ∷ d ∷ bs) (e ∷ f ∷ g ∷ i ∷ cs) h = record { b0 = h.0; b1 = h.1.0; b2 = h.1.1.0; b3 = h.1.1.1.0 }

-- ---- stores
stores_joined : (xs ys us vs : List Stored) → StoresLessSpecified xs ys → StoresLessSpecified us vs → StoresLessSpecified (xs ++ us) (ys ++ vs)
stores_joined [] ys us vs h k = rw h k
stores_joined (x ∷ xs) [] us vs h k = absurd h
stores_joined (x ∷ xs) (y ∷ ys) us vs h k = (h.0, h.1, stores_joined xs ys us vs h.2 k)

module _ (laws : ValueLaws) (memories : LessSpecifiedMemoryLaws) where
  number_less : (a b : Option ℕ) → SameWhere a b → WordLessSpecified (word_if a) (word_if b)
  number_less None b h = record { b0 = tt; b1 = tt; b2 = tt; b3 = tt }
  number_less (Some n) b h = rw h (laws.less.itself (word_of n) (laws.words.word_of_bytes n))

  -- ---- what is read
  bytes_less : (size : ℕ) (l k : Location) (r q : Registers) (m n : Memory) → SameLocation l k → RegistersLessSpecified r q → MemoryLessSpecified m n → BytesLessSpecified (bytes_in size l r m) (bytes_in size k q n)
  bytes_less size (InRegister p i) k r q m n e h j = rw e (bytes_taken size _ _ (bytes_dropped i _ _ (listed (r p) (q p) (h p))))
  bytes_less size (InMemory at) k r q m n e h j = rw e (memories.bytes m n at size j)
  bytes_less size (Constant a) (Constant b) r q m n e h j = bytes_taken size _ _ (listed _ _ (number_less a b e))
  bytes_less size (Constant a) (InRegister p i) r q m n e h j = absurd e
  bytes_less size (Constant a) (InMemory at) r q m n e h j = absurd e

  values_less : (os ps : List SizedOperand) (r q : Registers) (m n : Memory) → SameOperands os ps → RegistersLessSpecified r q → MemoryLessSpecified m n → WordsLessSpecified (values_in os r m) (values_in ps q n)
  values_less [] ps r q m n e h j = rw e refl
  values_less (o ∷ os) [] r q m n e h j = absurd e
  values_less (o ∷ os) (p ∷ ps) r q m n e h j = (padded_less _ _ (sized o.size p.size e.0), values_less os ps r q m n e.2 h j)
    where
      sized : (a b : ℕ) → a ≡ b → BytesLessSpecified (bytes_in a o.location r m) (bytes_in b p.location q n)
      sized a b s = rw s (bytes_less b o.location p.location r q m n e.1 h j)

  -- ---- what is written
  part_less : (i : ℕ) (bs cs : List Byte) (x u : Word) → BytesLessSpecified bs cs → WordLessSpecified x u → WordLessSpecified (with_bytes i bs x) (with_bytes i cs u)
  part_less i bs cs x u h k =
      padded_less _ _ (bytes_joined _ _ _ _ (bytes_taken i _ _ (listed x u k)) (bytes_joined bs cs _ _ h (rw (same_length bs cs h) (bytes_dropped (i + length cs) _ _ (listed x u k)))))

  written_less : (size : ℕ) (l : Location) (x u : Word) (d e : Effect) → WordLessSpecified x u → EffectLessSpecified d e → EffectLessSpecified (written_to size l x d) (written_to size l u e)
  written_less size (InRegister p i) x u d e h k = record {
    cpu = record { regs = set_less laws.less laws.words p _ _ _ _ (part_less i _ _ _ _ (bytes_taken size _ _ (listed x u h)) (k.cpu.regs p)) k.cpu.regs; flags = k.cpu.flags };
    stores = k.stores;
    way = k.way;
  }
  written_less size (InMemory at) x u d e h k = record { cpu = k.cpu; stores = stores_joined _ _ _ _ k.stores (refl, bytes_taken size _ _ (listed x u h), refl); way = k.way }
  written_less size (Constant n) x u d e h k = k

  all_written_less : (os : List SizedOperand) (xs us : List Word) (d e : Effect) → WordsLessSpecified xs us → EffectLessSpecified d e → EffectLessSpecified (all_written os xs d) (all_written os us e)
  all_written_less [] xs us d e h k = k
  all_written_less (o ∷ os) [] us d e h k = rw h k
  all_written_less (o ∷ os) (x ∷ xs) [] d e h k = absurd h
  all_written_less (o ∷ os) (x ∷ xs) (u ∷ us) d e h k = all_written_less os xs us _ _ h.1 (written_less o.size o.location x u d e h.0 k)

  -- ---- the effect
  outcome_less : (writes : List SizedOperand) (r q : Registers) (x y : Computation) → OutcomeLess x y → RegistersLessSpecified r q → ResultLessSpecified (effect_of writes r x) (effect_of writes q y)
  outcome_less writes r q (Ok c) (Ok d) h k = all_written_less writes c.values d.values _ _ h.values (record { cpu = record { regs = k; flags = h.flags }; stores = refl; way = h.way })
  outcome_less writes r q (Ok c) (Err x) h k = absurd h
  outcome_less writes r q (Err Unspecified) y h k = tt
  outcome_less writes r q (Err MemoryFault) y h k = rw h refl
  outcome_less writes r q (Err DivideFault) y h k = rw h refl

  module _ (i : Instr) (next : ℕ) (p q : Processor) (m n : Memory) (h : ProcessorLessSpecified p q) (k : MemoryLessSpecified m n) where
    by_less : (o u : Option Transfer) → SameTransfer o u → ResultLessSpecified (effect_by o i next p m) (effect_by u i next q n)
    by_less None u e = tt
    by_less (Some t) None e = absurd e
    by_less (Some t) (Some u) e = rw e.1 (outcome_less u.writes p.regs q.regs _ _ (compute_less laws p.flags q.flags h.flags i next _ _ (values_less t.reads u.reads p.regs q.regs m n e.0 h.regs k)) h.regs)

    pub effect_less : (v : Naming) → ResultLessSpecified (effect v i next p m) (effect v i next q n)
    unfolding effect
    effect_less v = by_less _ _ (transfer_same laws.less laws.words v p.regs q.regs h.regs i)
