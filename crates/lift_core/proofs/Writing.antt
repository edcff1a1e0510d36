-- Operands that are written, and what follows a write of one.
use Rattle.std.proofs.Common.{◌≡◌, ℕ, zero, suc, ◌<◌, ◌==◌, ◌&&◌, Bool, true, false, cond, List, [], ◌∷◌, ◌++◌, take, Option, Ok, Err, refl, sym, ◌∙◌, subst}
use Rattle.x86_values.specs.declared.word.Word.{Word}
use Rattle.x86_values.specs.Words.{word_of, word_list}
use Rattle.x86_values.specs.Sizes.{cut}
use Rattle.x86_values.specs.LessSpecified.{WordLessSpecified, BytesLessSpecified}
use Rattle.traces.specs.Trace.{MemoryFault}
use Rattle.memory.specs.Memory.{Memory, Stored, AccessKind, Store, allows_all, put_all, store_all}
use Rattle.memory.specs.LessSpecified.{MemoryLessSpecified}
use Rattle.memory.specs.LessSpecifiedLaws.{LessSpecifiedMemoryLaws}
use Rattle.memory.specs.MemoryLaws.{MemoryLaws}
use Rattle.x86_types.specs.declared.width.Width.{Width}
use Rattle.x86_types.specs.declared.width.Width.TheVariants.{One, Two, Four}
use Rattle.x86_types.specs.declared.operation.ShiftOp.TheVariants as shiftop
use Rattle.x86_types.specs.Numbers.{size_of}
use Rattle.x86_meaning.specs.Registers.{Registers, with_register, with_bytes}
use Rattle.x86_meaning.specs.Operands.{Location, InRegister, InMemory, Access, access}
use Rattle.x86_meaning.specs.Effect.{Effect, written_to}
use Rattle.x86_meaning.specs.Step.{State, all_allowed, performed}
use Rattle.flag_ir.specs.declared.variable.Term.{Term}
use Rattle.flag_ir.specs.declared.operation.Op.{Op}
use Rattle.flag_ir.specs.declared.operation.Op.TheVariants as op
use Rattle.flag_ir.specs.Calculations.{and_of, or_of, shifted_of}
use Rattle.flag_ir.specs.Storage.{Storage, put_word, term_in}
use Rattle.flag_ir.specs.Operations.{and_then, needed, store, with_memory, perform, performs}
use Rattle.lift_relation.specs.Matching.{StateMatches}
use Rattle.lift_relation.specs.Cores.{CutMatches}
use Rattle.lift_core.specs.declared.way.Way.{Way as Going}
use Rattle.lift_core.specs.declared.operand.Operand.{Operand}
use Rattle.lift_core.specs.declared.operand.Operand.TheVariants as operand
use Rattle.lift_values.specs.Terms.{temp}
use Rattle.lift_core.specs.Pieces.{write_ops}
use Rattle.lift_core.proofs.Words.{IsNumber, known_in}
use Rattle.lift_core.proofs.Parts.{merge_two, merge_low, merge_high, whole}
use Rattle.lift_core.proofs.Addresses.{put_elsewhere}
use Rattle.lift_core.proofs.Meeting.{StoresMeet}
use Rattle.lift_core.proofs.Reading.{IsIndex, Stands}

-- ---- a register that is set on both sides
either : (b : Bool) (v x y z : Word) → WordLessSpecified v y → WordLessSpecified x z → WordLessSpecified (cond b v x) (cond b y z)
either true v x y z h k = h
either false v x y z h k = k

abbrev pub RegistersMatch : Registers → (ℕ → Word) → Type 0
RegistersMatch regs words = (n : ℕ) → n < 8 → WordLessSpecified (regs n) (words n)

pub set_matches : (p : ℕ) (v y : Word) (regs : Registers) (words : ℕ → Word) → WordLessSpecified v y → RegistersMatch regs words → RegistersMatch (with_register p v regs) (put_word p y words)
unfolding with_register
set_matches p v y regs words h k n l = either (n == p) v (regs n) y (words n) h (k n l)

-- the effect's state with other registers
pub with_regs : (e : Effect) (s : State) (u : Storage) (regs : Registers) (words temps : ℕ → Word) → RegistersMatch regs words → StateMatches (performed e s) u → StateMatches (performed (record e { cpu = record e.cpu { regs = regs } }) s) (record u { regs = words; temps = temps })
with_regs e s u regs words temps h k = record { regs = h; flags = k.flags; memory = k.memory; left = k.left; environment = k.environment; frames = k.frames }

-- ---- the bytes of a store
stored_bytes : (w : Width) (v y : Word) → CutMatches (size_of w) v y → BytesLessSpecified (take (size_of w) (word_list v)) (take (size_of w) (word_list y))
unfolding cut
stored_bytes One v y h = (h.b0, refl)
stored_bytes Two v y h = (h.b0, (h.b1, refl))
stored_bytes Four v y h = (h.b0, (h.b1, (h.b2, (h.b3, refl))))

module _ (laws : MemoryLaws) where
  store_last : (xs : List Stored) (x : Stored) (m : Memory) → store_all (xs ++ x ∷ []) m ≡ put_all x.at x.bytes (store_all xs m)
  store_last [] x m = refl
  store_last (y ∷ xs) x m = store_last xs x (put_all y.at y.bytes m)

  allows_still : (kind : AccessKind) (xs : List Stored) (m : Memory) (at size : ℕ) → allows_all kind (store_all xs m) at size ≡ allows_all kind m at size
  allows_still kind [] m at size = refl
  allows_still kind (x ∷ xs) m at size = allows_still kind xs (put_all x.at x.bytes m) at size ∙ laws.allows_after kind x.at x.bytes m at size

module _ (turn : ℕ) (laws : MemoryLaws) (memories : LessSpecifiedMemoryLaws) (s : State) where
  -- the registers, memory aside, and temporaries but 2 and 3 are kept
  abbrev pub KeptByWrite : Storage → Storage → Type 0
  KeptByWrite u v = (j : ℕ) → (j == 2) ≡ false → (j == 3) ≡ false → v.temps j ≡ u.temps j

  module _ (stores : Bool) (e done : Effect) (next : ℕ) (way : Going) (rest : List Op) (v : Word) where
    -- what a write asks of what follows
    abbrev AfterWrite : Width → Location → Storage → Type 0
    AfterWrite w l u = (z : Storage) → StateMatches (performed (written_to (size_of w) l v e) s) z → KeptByWrite u z → StoresMeet stores done next s way (performs turn rest z)

    register_then : (k : ℕ) (w : Width) (p i : ℕ) (u : Storage) → StateMatches (performed e s) u → p < 8 → IsIndex w i → CutMatches (size_of w) v (u.temps k) → (k == 2) ≡ false → AfterWrite w (InRegister p i) u → StoresMeet stores done next s way (performs turn (write_ops k w (operand.Register p i) ++ rest) u)
    unfolding performs perform
    register_then k Four p zero u h l x c q f =
        f (record u { regs = put_word p (u.temps k) u.regs }) (with_regs e s u _ _ u.temps (set_matches p _ _ e.cpu.regs u.regs (whole v (u.temps k) c) h.regs) h) (λ j a b. refl)
    register_then k Four p (suc i) u h l x c q f = absurd x
    register_then k Two p zero u h l x c q f =
        let t1 = put_word 2 (and_of (u.regs p) (word_of 0xFFFF0000)) u.temps in
        let y = or_of (and_of (u.regs p) (word_of 0xFFFF0000)) (t1 k) in
        let m = subst (λ (z : Word). WordLessSpecified (with_bytes 0 (take 2 (word_list v)) (e.cpu.regs p)) (or_of (and_of (u.regs p) (word_of 0xFFFF0000)) z)) (sym (put_elsewhere 2 _ u.temps k q)) (merge_two v (e.cpu.regs p) (u.regs p) (u.temps k) (h.regs p l) c) in
        f (record u { regs = put_word p y u.regs; temps = t1 }) (with_regs e s u _ _ t1 (set_matches p _ y e.cpu.regs u.regs m h.regs) h) (λ j a b. put_elsewhere 2 _ u.temps j a)
    register_then k Two p (suc i) u h l x c q f = absurd x
    register_then k One p zero u h l x c q f =
        let t1 = put_word 2 (and_of (u.regs p) (word_of 0xFFFFFF00)) u.temps in
        let y = or_of (and_of (u.regs p) (word_of 0xFFFFFF00)) (t1 k) in
        let m = subst (λ (z : Word). WordLessSpecified (with_bytes 0 (take 1 (word_list v)) (e.cpu.regs p)) (or_of (and_of (u.regs p) (word_of 0xFFFFFF00)) z)) (sym (put_elsewhere 2 _ u.temps k q)) (merge_low v (e.cpu.regs p) (u.regs p) (u.temps k) (h.regs p l) c) in
        f (record u { regs = put_word p y u.regs; temps = t1 }) (with_regs e s u _ _ t1 (set_matches p _ y e.cpu.regs u.regs m h.regs) h) (λ j a b. put_elsewhere 2 _ u.temps j a)
    register_then k One p (suc zero) u h l x c q f =
        let old = and_of (u.regs p) (word_of 0xFFFF00FF) in
        let t1 = put_word 2 old u.temps in
        let up = shifted_of shiftop.Shl (t1 k) (word_of 8) in
        let t2 = put_word 3 up t1 in
        let t3 = put_word 3 (and_of up (word_of 0xFF00)) t2 in
        let y = or_of old (and_of up (word_of 0xFF00)) in
        let m = subst (λ (z : Word). WordLessSpecified (with_bytes 1 (take 1 (word_list v)) (e.cpu.regs p)) (or_of old (and_of (shifted_of shiftop.Shl z (word_of 8)) (word_of 0xFF00)))) (sym (put_elsewhere 2 old u.temps k q)) (merge_high v (e.cpu.regs p) (u.regs p) (u.temps k) (h.regs p l) c) in
        f (record u { regs = put_word p y u.regs; temps = t3 }) (with_regs e s u _ _ t3 (set_matches p _ y e.cpu.regs u.regs m h.regs) h) (λ j a b. put_elsewhere 3 _ t2 j b ∙ put_elsewhere 3 _ t1 j b ∙ put_elsewhere 2 _ u.temps j a)
    register_then k One p (suc (suc i)) u h l x c q f = absurd x

    stored : (w : Width) (at : ℕ) (y : Word) (u : Storage) (b c : Bool) → b ≡ c → StateMatches (performed (written_to (size_of w) (InMemory at) v e) s) (with_memory u (put_all at (take (size_of w) (word_list y)) u.memory)) → AfterWrite w (InMemory at) u →
        StoresMeet (b && stores) done next s way (and_then (and_then (cond c (Ok (put_all at (take (size_of w) (word_list y)) u.memory)) (Err MemoryFault)) (λ m. Ok (with_memory u m))) (performs turn rest))
    stored w at y u true true q h f = f _ h (λ j a b. refl)
    stored w at y u true false q h f = absurd cc
    stored w at y u false true q h f = absurd cc
    stored w at y u false false q h f = refl

    store_then : (w : Width) (x from : Term) (at : ℕ) (u : Storage) → StateMatches (performed e s) u → IsNumber at (term_in x u) → CutMatches (size_of w) v (term_in from u) → AfterWrite w (InMemory at) u → StoresMeet (allows_all Store s.memory at (size_of w) && stores) done next s way (performs turn (op.Store (size_of w) x from ∷ rest) u)
    unfolding performs perform
    store_then w x from at u h n c f =
        let old = store_all e.stores s.memory in
        let y = term_in from u in
        let bytes = take (size_of w) (word_list v) in
        let there = take (size_of w) (word_list y) in
        let judged : allows_all Store s.memory at (size_of w) ≡ allows_all Store u.memory at (size_of w) = sym (allows_still laws Store e.stores s.memory at (size_of w)) ∙ memories.allows Store old u.memory at (size_of w) h.memory in
        let m : MemoryLessSpecified (store_all (e.stores ++ record { at = at; bytes = bytes } ∷ []) s.memory) (put_all at there u.memory) =
        subst (λ (z : Memory). MemoryLessSpecified z (put_all at there u.memory)) (sym (store_last laws e.stores (record { at = at; bytes = bytes }) s.memory)) (memories.put old u.memory at bytes there (stored_bytes w v y c) h.memory) in
        subst (λ (o : Option ℕ). StoresMeet (allows_all Store s.memory at (size_of w) && stores) done next s way (and_then (and_then (needed o) (λ a. and_then (store (size_of w) y u.memory a) (λ m. Ok (with_memory u m)))) (performs turn rest))) (sym (known_in at (term_in x u) n))
        (stored w at y u (allows_all Store s.memory at (size_of w)) (allows_all Store u.memory at (size_of w)) judged (record { regs = h.regs; flags = h.flags; memory = m; left = h.left; environment = h.environment; frames = h.frames }) f)

  -- what follows a store of a term's word, at an address that a term is
  pub store_term_then : (w : Width) (x from : Term) (at : ℕ) (more : List Access) (e done : Effect) (next : ℕ) (way : Going) (v : Word) (u : Storage) (rest : List Op) → StateMatches (performed e s) u → IsNumber at (term_in x u) → CutMatches (size_of w) v (term_in from u) →
      ((z : Storage) → StateMatches (performed (written_to (size_of w) (InMemory at) v e) s) z → KeptByWrite u z → StoresMeet (all_allowed Store more s.memory) done next s way (performs turn rest z)) → StoresMeet (allows_all Store s.memory at (size_of w) && all_allowed Store more s.memory) done next s way (performs turn (op.Store (size_of w) x from ∷ rest) u)
  store_term_then w x from at more e done next way v u rest h n c f = store_then (all_allowed Store more s.memory) e done next way rest v w x from at u h n c f

  -- what follows a write of an operand that stands somewhere
  pub write_then : (k : ℕ) (w : Width) (o : Operand) (l : Location) (more : List Access) (e done : Effect) (next : ℕ) (way : Going) (v : Word) (u : Storage) (rest : List Op) → StateMatches (performed e s) u → Stands w o l u → CutMatches (size_of w) v (u.temps k) → (k == 2) ≡ false →
      ((z : Storage) → StateMatches (performed (written_to (size_of w) l v e) s) z → KeptByWrite u z → StoresMeet (all_allowed Store more s.memory) done next s way (performs turn rest z)) → StoresMeet (all_allowed Store (access Store (size_of w) l more) s.memory) done next s way (performs turn (write_ops k w o ++ rest) u)
  write_then k w (operand.Register p i) l more e done next way v u rest h x c q f =
      subst (λ (l : Location). AfterWrite (all_allowed Store more s.memory) e done next way rest v w l u → StoresMeet (all_allowed Store (access Store (size_of w) l more) s.memory) done next s way (performs turn (write_ops k w (operand.Register p i) ++ rest) u)) (sym x.is)
      (λ f. register_then (all_allowed Store more s.memory) e done next way rest v k w p i u h x.small x.index c q f) f
  write_then k w (operand.Memory t) l more e done next way v u rest h x c q f =
      subst (λ (l : Location). AfterWrite (all_allowed Store more s.memory) e done next way rest v w l u → StoresMeet (all_allowed Store (access Store (size_of w) l more) s.memory) done next s way (performs turn (write_ops k w (operand.Memory t) ++ rest) u)) (sym x.is)
      (λ f. store_then (all_allowed Store more s.memory) e done next way rest v w t (temp k) x.at u h x.number c f) f
  write_then k w (operand.Constant n) l more e done next way v u rest h x c q f =
      subst (λ (l : Location). AfterWrite (all_allowed Store more s.memory) e done next way rest v w l u → StoresMeet (all_allowed Store (access Store (size_of w) l more) s.memory) done next s way (performs turn rest u)) (sym x) (λ f. f u h (λ j a b. refl)) f
