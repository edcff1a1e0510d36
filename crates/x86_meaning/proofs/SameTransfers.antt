-- What an instruction reads and writes is the same where its registers are less specified, if it reads and writes at all.
use Rattle.std.proofs.Common.{◌≡◌, ℕ, zero, suc, Bool, true, false, cond, List, [], ◌∷◌, Option, Some, None, refl, ap, sym, subst}
use Rattle.std.specs.Option.{option_map}
use Rattle.x86_values.specs.declared.word.Word.{Word}
use Rattle.x86_values.specs.Words.{word_of, known}
use Rattle.x86_values.specs.WordLaws.{WordLaws}
use Rattle.x86_values.specs.LessSpecified.{WordLessSpecified}
use Rattle.x86_values.specs.LessSpecifiedLaws.{LessSpecifiedLaws}
use Rattle.x86_types.specs.declared.operand.Reg.{Reg}
use Rattle.x86_types.specs.declared.operand.Address.{Address}
use Rattle.x86_types.specs.declared.operand.Rm.{Rm}
use Rattle.x86_types.specs.declared.operand.Rm.TheVariants as rm
use Rattle.x86_types.specs.declared.operand.Src.{Src}
use Rattle.x86_types.specs.declared.operand.Src.TheVariants as src
use Rattle.x86_types.specs.declared.instr.Instr.{Instr}
use Rattle.x86_types.specs.declared.instr.Instr.TheVariants as instr
use Rattle.x86_types.specs.declared.width.Width.{Width}
use Rattle.x86_types.specs.declared.width.Width.TheVariants.{One, Four}
use Rattle.x86_types.specs.Numbers.{size_of}
use Rattle.x86_meaning.specs.Registers.{Registers, Naming, with_register}
use Rattle.x86_meaning.specs.Operands.{Location, InRegister, InMemory, Constant, SizedOperand, address_part, address_sum, effective_address, location_of, source_of}
use Rattle.x86_meaning.specs.TransferShapes.{Transfer, register, by_one, by_two, push_transfer, push_of, pop_transfer, pop_to, esp_raised, up, leave_transfer, movs_transfer, stos_transfer, if_counted, string_transfer}
use Rattle.x86_meaning.specs.Transfers.{transfer}
use Rattle.x86_meaning.specs.LessSpecified.{RegistersLessSpecified}

-- what is there on the left is the same on the right
abbrev pub SameWhere : {A : Type 0} → Option A → Option A → Type 0
SameWhere None o = Unit {0}
SameWhere (Some a) o = o ≡ Some a

same_itself : {A : Type 0} (o : Option A) → SameWhere o o
same_itself None = tt
same_itself (Some a) = refl

-- ---- operands: a number of the instruction's own may be known on the right alone
abbrev pub SameLocation : Location → Location → Type 0
SameLocation (InRegister p i) l = l ≡ InRegister p i
SameLocation (InMemory at) l = l ≡ InMemory at
SameLocation (Constant a) (Constant b) = SameWhere a b
SameLocation (Constant a) (InRegister p i) = ⊥
SameLocation (Constant a) (InMemory at) = ⊥

location_itself : (l : Location) → SameLocation l l
location_itself (InRegister p i) = refl
location_itself (InMemory at) = refl
location_itself (Constant a) = same_itself a

abbrev pub SameOperands : List SizedOperand → List SizedOperand → Type 0
SameOperands [] ps = ps ≡ []
SameOperands (o ∷ os) [] = ⊥
SameOperands (o ∷ os) (p ∷ ps) = (o.size ≡ p.size) × SameLocation o.location p.location × SameOperands os ps

operands_themselves : (os : List SizedOperand) → SameOperands os os
operands_themselves [] = refl
operands_themselves (o ∷ os) = (refl, location_itself o.location, operands_themselves os)

abbrev pub SameTransfer : Option Transfer → Option Transfer → Type 0
SameTransfer None u = Unit {0}
SameTransfer (Some t) None = ⊥
SameTransfer (Some t) (Some u) = SameOperands t.reads u.reads × (t.writes ≡ u.writes)

same_transfer : (o u : Option Transfer) → SameWhere o u → SameTransfer o u
same_transfer None u h = tt
same_transfer (Some t) None h = absurd cc
same_transfer (Some t) (Some u) h =
    let e : u ≡ t = cc in
    subst (λ (x : Transfer). SameOperands t.reads x.reads × (t.writes ≡ x.writes)) (sym e) (operands_themselves t.reads, refl)

-- ---- the shapes
one_same : (g : Location → Transfer) (o u : Option Location) → SameWhere o u → SameWhere (by_one g o) (by_one g u)
one_same g None u h = tt
one_same g (Some a) u h = ap (by_one g) h

two_same : (g : Location → Location → Transfer) (o u p q : Option Location) → SameWhere o u → SameWhere p q → SameWhere (by_two g o p) (by_two g u q)
two_same g None u p q h k = tt
two_same g (Some a) u None q h k = tt
two_same g (Some a) u (Some b) q h k = rw (h, k) refl

push_same : (reads : List SizedOperand) (d e : Option ℕ) → SameWhere d e → SameWhere (push_transfer reads d) (push_transfer reads e)
push_same reads None e h = tt
push_same reads (Some at) e h = ap (push_transfer reads) h

push_of_same : (o u : Option Location) (d e : Option ℕ) → SameWhere o u → SameWhere d e → SameWhere (push_of o d) (push_of u e)
push_of_same None u d e h k = tt
push_of_same (Some a) u None e h k = tt
push_of_same (Some a) u (Some at) e h k = rw (h, k) refl

pop_same : (writes : List SizedOperand) (d e : Option ℕ) → SameWhere d e → SameWhere (pop_transfer writes d) (pop_transfer writes e)
pop_same writes None e h = tt
pop_same writes (Some at) e h = ap (pop_transfer writes) h

pop_to_same : (o u : Option Location) (d e : Option ℕ) → SameWhere o u → SameWhere d e → SameWhere (pop_to o d) (pop_to u e)
pop_to_same None u d e h k = tt
pop_to_same (Some a) u None e h k = tt
pop_to_same (Some a) u (Some at) e h k = rw (h, k) refl

leave_same : (d e : Option ℕ) → SameWhere d e → SameWhere (leave_transfer d) (leave_transfer e)
leave_same None e h = tt
leave_same (Some at) e h = ap leave_transfer h

movs_same : (size : ℕ) (a b c d : Option ℕ) (more : List SizedOperand) → SameWhere a b → SameWhere c d → SameWhere (movs_transfer size a c more) (movs_transfer size b d more)
movs_same size None b c d more h k = tt
movs_same size (Some n) b None d more h k = tt
movs_same size (Some n) b (Some m) d more h k = rw (h, k) refl

stos_same : (w : Width) (d e : Option ℕ) (more : List SizedOperand) → SameWhere d e → SameWhere (stos_transfer w d more) (stos_transfer w e more)
stos_same w None e more h = tt
stos_same w (Some at) e more h = rw h refl

counted_same : (c d : Option ℕ) (t u : Option Transfer) → SameWhere c d → SameWhere t u → SameWhere (if_counted c t) (if_counted d u)
counted_same None d t u h k = tt
counted_same (Some zero) d t u h k = rw h refl
counted_same (Some (suc n)) d t u h k = rw h k

string_same : (repeat : Bool) (c d : Option ℕ) (f g : List SizedOperand → Option Transfer) → SameWhere c d → ((more : List SizedOperand) → SameWhere (f more) (g more)) → SameWhere (string_transfer repeat c f) (string_transfer repeat d g)
string_same false c d f g h k = k []
string_same true c d f g h k = counted_same c d (f (register 4 1 ∷ [])) (g (register 4 1 ∷ [])) h (k (register 4 1 ∷ []))

-- ---- addresses
sum_same : (a : Address) (b c i j : Option ℕ) → SameWhere b c → SameWhere i j → SameWhere (address_sum a b i) (address_sum a c j)
sum_same a None c i j h k = tt
sum_same a (Some n) c None j h k = tt
sum_same a (Some n) c (Some m) j h k = rw (h, k) refl

in_memory_same : (a b : Option ℕ) → SameWhere a b → SameWhere (option_map InMemory a) (option_map InMemory b)
in_memory_same None b h = tt
in_memory_same (Some n) b h = ap (option_map InMemory) h

module _ (less : LessSpecifiedLaws) (words : WordLaws) where
  pub known_same : (x y : Word) → WordLessSpecified x y → SameWhere (known x) (known y)
  known_same x y h = go (known x) refl
    where
      go : (o : Option ℕ) → known x ≡ o → SameWhere o (known y)
      go None e = tt
      go (Some n) e = less.same_word x y n h e

  part_same : (v : Naming) (r q : Registers) (o : Option Reg) → RegistersLessSpecified r q → SameWhere (address_part v r o) (address_part v q o)
  part_same v r q None h = refl
  part_same v r q (Some n) h = known_same (r (v.whole n)) (q (v.whole n)) (h (v.whole n))

  address_same : (v : Naming) (r q : Registers) (a : Address) → RegistersLessSpecified r q → SameWhere (effective_address v r a) (effective_address v q a)
  address_same v r q a h = sum_same a _ _ _ _ (part_same v r q a.base h) (part_same v r q a.index h)

  location_same : (v : Naming) (r q : Registers) (w : Width) (o : Rm) → RegistersLessSpecified r q → SameWhere (location_of v r w o) (location_of v q w o)
  location_same v r q w (rm.Reg n) h = refl
  location_same v r q w (rm.Mem a) h = in_memory_same _ _ (address_same v r q a h)

  source_same : (v : Naming) (r q : Registers) (w : Width) (o : Src) → RegistersLessSpecified r q → SameWhere (source_of v r w o) (source_of v q w o)
  source_same v r q w (src.Reg n) h = refl
  source_same v r q w (src.Mem a) h = in_memory_same _ _ (address_same v r q a h)
  source_same v r q w (src.Imm n) h = refl

  either_less : (b : Bool) (x y u v : Word) → WordLessSpecified x u → WordLessSpecified y v → WordLessSpecified (cond b x y) (cond b u v)
  either_less true x y u v h k = h
  either_less false x y u v h k = k

  pub set_less : (n : ℕ) (x u : Word) (r q : Registers) → WordLessSpecified x u → RegistersLessSpecified r q → RegistersLessSpecified (with_register n x r) (with_register n u q)
  unfolding with_register
  set_less n x u r q h k j = either_less _ x (r j) u (q j) h (k j)

  raised_less : (o u : Option ℕ) (r q : Registers) → SameWhere o u → RegistersLessSpecified r q → ((at : ℕ) → o ≡ Some at → RegistersLessSpecified (esp_raised o r) (esp_raised u q))
  raised_less o u r q h k at e = go o e h
    where
      go : (o : Option ℕ) → o ≡ Some at → SameWhere o u → RegistersLessSpecified (esp_raised o r) (esp_raised u q)
      go None e h = absurd cc
      go (Some a) e h = rw h (set_less 4 (word_of (up 4 a)) (word_of (up 4 a)) r q (less.itself (word_of (up 4 a)) (words.word_of_bytes (up 4 a))) k)

  -- POP: where esp isn't known nothing is read, whatever the target
  pop_all : (v : Naming) (r q : Registers) (to : Rm) (o u : Option ℕ) → SameWhere o u → RegistersLessSpecified r q → SameWhere (pop_to (location_of v (esp_raised o r) Four to) o) (pop_to (location_of v (esp_raised u q) Four to) u)
  pop_all v r q to None u h k = none (location_of v r Four to)
    where
      none : (l : Option Location) → SameWhere (pop_to l None) (pop_to (location_of v (esp_raised u q) Four to) u)
      none None = tt
      none (Some a) = tt
  pop_all v r q to (Some at) u h k = pop_to_same _ _ (Some at) u (location_same v (esp_raised (Some at) r) (esp_raised u q) Four to (raised_less (Some at) u r q h k at refl)) h

  module _ (v : Naming) (r q : Registers) (h : RegistersLessSpecified r q) where
    reg_same : (n : ℕ) → SameWhere (known (r n)) (known (q n))
    reg_same n = known_same (r n) (q n) (h n)

    by_rm : (g : Location → Transfer) (w : Width) (o : Rm) → SameTransfer (by_one g (location_of v r w o)) (by_one g (location_of v q w o))
    by_rm g w o = same_transfer _ _ (one_same g _ _ (location_same v r q w o h))

    pub transfer_same : (i : Instr) → SameTransfer (transfer v i r) (transfer v i q)
    unfolding transfer
    transfer_same (instr.Alu op w to from) = same_transfer _ _ (two_same _ _ _ _ _ (location_same v r q w to h) (source_same v r q w from h))
    transfer_same (instr.Test w to from) = same_transfer _ _ (two_same _ _ _ _ _ (location_same v r q w to h) (source_same v r q w from h))
    transfer_same (instr.Mov w to from) = same_transfer _ _ (two_same _ _ _ _ _ (location_same v r q w to h) (source_same v r q w from h))
    transfer_same (instr.Lea w to at) = ((refl, address_same v r q at h, refl), refl)
    transfer_same (instr.Inc w to) = by_rm _ w to
    transfer_same (instr.Dec w to) = by_rm _ w to
    transfer_same (instr.Not w to) = by_rm _ w to
    transfer_same (instr.Neg w to) = by_rm _ w to
    transfer_same (instr.Mul w from) = by_rm _ w from
    transfer_same (instr.ImulWide w from) = by_rm _ w from
    transfer_same (instr.Div w from) = by_rm _ w from
    transfer_same (instr.Idiv w from) = by_rm _ w from
    transfer_same (instr.Imul w to from) = by_rm _ w from
    transfer_same (instr.ImulBy w to from by) = by_rm _ w from
    transfer_same (instr.Shift op w to n) = by_rm _ w to
    transfer_same (instr.Shld to from n) = same_transfer _ _ (two_same _ _ _ _ _ (location_same v r q Four to h) refl)
    transfer_same (instr.Shrd to from n) = same_transfer _ _ (two_same _ _ _ _ _ (location_same v r q Four to h) refl)
    transfer_same (instr.Push from) = same_transfer _ _ (push_of_same _ _ _ _ (source_same v r q Four from h) (reg_same 4))
    transfer_same (instr.Pop to) = same_transfer _ _ (pop_all v r q to _ _ (reg_same 4) h)
    transfer_same (instr.Xchg w to from) = by_rm _ w to
    transfer_same (instr.Movzx wide w to from) = by_rm _ w from
    transfer_same (instr.Movsx wide w to from) = by_rm _ w from
    transfer_same (instr.Cmov c w to from) = by_rm _ w from
    transfer_same (instr.Setcc c to) = by_rm _ One to
    transfer_same (instr.Extend w) = ((refl, refl, refl), refl)
    transfer_same (instr.Spread w) = ((refl, refl, refl), refl)
    transfer_same (instr.Bsf w to from) = by_rm _ w from
    transfer_same (instr.Bsr w to from) = by_rm _ w from
    transfer_same (instr.Bswap to) = ((refl, refl, refl), refl)
    transfer_same (instr.Movs w repeat) = same_transfer _ _ (string_same repeat _ _ _ _ (reg_same 1) (λ more. movs_same (size_of w) _ _ _ _ more (reg_same 6) (reg_same 7)))
    transfer_same (instr.Stos w repeat) = same_transfer _ _ (string_same repeat _ _ _ _ (reg_same 1) (λ more. stos_same w _ _ more (reg_same 7)))
    transfer_same (instr.Jmp by) = (refl, refl)
    transfer_same (instr.JmpTo to) = by_rm _ Four to
    transfer_same (instr.CallTo to) = same_transfer _ _ (push_of_same _ _ _ _ (location_same v r q Four to h) (reg_same 4))
    transfer_same (instr.Jcc c by) = (refl, refl)
    transfer_same (instr.Call by) = same_transfer _ _ (push_same [] _ _ (reg_same 4))
    transfer_same (instr.Ret drop) = same_transfer _ _ (pop_same [] _ _ (reg_same 4))
    transfer_same instr.Leave = same_transfer _ _ (leave_same _ _ (reg_same 5))
    transfer_same instr.Int80 = (refl, refl)
    transfer_same instr.Cld = (refl, refl)
    transfer_same instr.Nop = (refl, refl)
