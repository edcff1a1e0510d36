-- LEA and MOVZX.
use Rattle.std.proofs.Common.{◌≡◌, ℕ, ◌+◌, List, [], ◌∷◌, ◌++◌, take, drop, Option, Some, None, refl, sym, ◌∙◌, ap, subst}
use Rattle.x86_values.specs.declared.byte.Byte.{Byte}
use Rattle.x86_values.specs.declared.word.Word.{Word}
use Rattle.x86_values.specs.Words.{word_of, word_list, padded}
use Rattle.x86_values.specs.Sizes.{cut}
use Rattle.x86_values.specs.LessSpecified.{WordLessSpecified}
use Rattle.memory.specs.Memory.{Memory, wrapped, bytes_at}
use Rattle.memory.specs.MemoryLaws.{MemoryLaws}
use Rattle.memory.specs.LessSpecifiedLaws.{LessSpecifiedMemoryLaws}
use Rattle.x86_types.specs.declared.operand.Reg.{Reg}
use Rattle.x86_types.specs.declared.operand.Address.{Address}
use Rattle.x86_types.specs.declared.operand.Src.{Src}
use Rattle.x86_types.specs.declared.width.Width.{Width}
use Rattle.x86_types.specs.declared.width.Width.TheVariants.{One, Two, Four}
use Rattle.x86_types.specs.Numbers.{size_of}
use Rattle.x86_meaning.specs.Registers.{Registers, machine_naming}
use Rattle.x86_meaning.specs.Operands.{Location, InRegister, InMemory, Constant, operand as sized, field, effective_address, source_of, word_if, value_in}
use Rattle.x86_meaning.specs.Outcomes.{move_computed}
use Rattle.x86_meaning.specs.Step.{State}
use Rattle.flag_ir.specs.Calculations.{and_of}
use Rattle.flag_ir.specs.Storage.{Storage, put_word}
use Rattle.flag_ir.specs.Operations.{perform, performs}
use Rattle.lift_relation.specs.Matching.{StateMatches}
use Rattle.lift_relation.specs.Cores.{CutMatches}
use Rattle.lift_values.specs.Terms.{mask}
use Rattle.lift_values.specs.Extensions.{cut_core}
use Rattle.lift_core.specs.declared.way.Way.TheVariants as way
use Rattle.lift_core.specs.Pieces.{address_ops, field_operand, write_ops, source_ops}
use Rattle.lift_core.specs.Lists.{lea_cut}
use Rattle.lift_core.proofs.Words.{number_itself, mask_cuts}
use Rattle.lift_core.proofs.Parts.{whole_cut}
use Rattle.lift_core.proofs.Addresses.{with_temps, temps_match, NumberIf, address_then}
use Rattle.lift_core.proofs.Reading.{field_stands, source_then}
use Rattle.lift_core.proofs.Written.{Written, ReadAndWritten, moved}

-- ---- the word of an address that may be known
word_if_less : (o : Option ℕ) (y : Word) → NumberIf o y → WordLessSpecified (word_if o) y
word_if_less None y h = record { b0 = tt; b1 = tt; b2 = tt; b3 = tt }
word_if_less (Some n) y h = number_itself n y h

one_address : (x y : Word) → WordLessSpecified x y → CutMatches 1 (padded (x.b0 ∷ [])) (and_of y (word_of 0xFF))
unfolding cut
one_address x y h = mask_cuts One x y h

two_address : (x y : Word) → WordLessSpecified x y → CutMatches 2 (padded (x.b0 ∷ x.b1 ∷ [])) (and_of y (word_of 0xFFFF))
unfolding cut
two_address x y h = mask_cuts Two x y h

-- ---- an operand is no more than its bytes
one_byte : (bs : List Byte) → cut 1 (padded (take 1 bs)) ≡ padded (take 1 bs)
unfolding cut
one_byte [] = refl
one_byte (b ∷ bs) = refl

two_bytes : (bs : List Byte) → cut 2 (padded (take 2 bs)) ≡ padded (take 2 bs)
unfolding cut
two_bytes [] = refl
two_bytes (b ∷ []) = refl
two_bytes (b ∷ c ∷ bs) = refl

four_bytes : (x : Word) → cut 4 x ≡ x
unfolding cut
four_bytes x = refl

one_in_memory : (m : Memory) (at : ℕ) → cut 1 (padded (bytes_at m at 1)) ≡ padded (bytes_at m at 1)
unfolding cut bytes_at
one_in_memory m at = refl

two_in_memory : (m : Memory) (at : ℕ) → cut 2 (padded (bytes_at m at 2)) ≡ padded (bytes_at m at 2)
unfolding cut bytes_at
two_in_memory m at = refl

value_is_cut : (w : Width) (l : Location) (regs : Registers) (m : Memory) → cut (size_of w) (value_in (sized (size_of w) l) regs m) ≡ value_in (sized (size_of w) l) regs m
value_is_cut One (InRegister p i) regs m = one_byte (drop i (word_list (regs p)))
value_is_cut One (InMemory at) regs m = one_in_memory m at
value_is_cut One (Constant n) regs m = one_byte (word_list (word_if n))
value_is_cut Two (InRegister p i) regs m = two_bytes (drop i (word_list (regs p)))
value_is_cut Two (InMemory at) regs m = two_in_memory m at
value_is_cut Two (Constant n) regs m = two_bytes (word_list (word_if n))
value_is_cut Four l regs m = four_bytes (value_in (sized 4 l) regs m)

-- so it has 0 above a width that is no narrower, and is cut by the mask of a narrower one
wider : (n size : ℕ) (x y : Word) → cut n (cut size x) ≡ cut size x → cut size x ≡ x → CutMatches size x y → CutMatches n x y
wider n size x y e c h = subst (λ (z : Word). WordLessSpecified z y) (sym (ap (cut n) (sym c) ∙ e)) h

narrower : (w : Width) (size : ℕ) (x y : Word) → cut (size_of w) (cut size x) ≡ cut (size_of w) x → CutMatches size x y → CutMatches (size_of w) x (and_of y (word_of (mask w)))
narrower w size x y e h = subst (λ (z : Word). WordLessSpecified z (and_of y (word_of (mask w)))) e (mask_cuts w (cut size x) y h)

one_of_two : (x : Word) → cut 1 (cut 2 x) ≡ cut 1 x
unfolding cut
one_of_two x = refl

one_of_four : (x : Word) → cut 1 (cut 4 x) ≡ cut 1 x
unfolding cut
one_of_four x = refl

two_of_one : (x : Word) → cut 2 (cut 1 x) ≡ cut 1 x
unfolding cut
two_of_one x = refl

two_of_four : (x : Word) → cut 2 (cut 4 x) ≡ cut 2 x
unfolding cut
two_of_four x = refl

module _ (turn : ℕ) (laws : MemoryLaws) (memories : LessSpecifiedMemoryLaws) (len : ℕ) (s : State) (u : Storage) (h : StateMatches s u) where
  abbrev value : Width → Location → Word
  value w l = value_in (sized (size_of w) l) s.cpu.regs s.memory

  -- ---- LEA
  cut_and_moved : (w : Width) (to : Reg) (o : Option ℕ) (t : ℕ → Word) → NumberIf o (t 4) → Written turn laws memories len s (sized (size_of w) (field machine_naming w to) ∷ []) (move_computed s.cpu.flags (value w (Constant o))) (performs turn (lea_cut w ++ write_ops 4 w (field_operand w to)) (with_temps t u))
  unfolding performs perform
  cut_and_moved One to o t n =
      let v = with_temps (put_word 4 (and_of (t 4) (word_of 0xFF)) t) u in
      moved turn laws memories len s One (field_operand One to) (field machine_naming One to) _ v (temps_match s u _ h) (field_stands One to v) (one_address (word_if o) (t 4) (word_if_less o (t 4) n))
  cut_and_moved Two to o t n =
      let v = with_temps (put_word 4 (and_of (t 4) (word_of 0xFFFF)) t) u in
      moved turn laws memories len s Two (field_operand Two to) (field machine_naming Two to) _ v (temps_match s u _ h) (field_stands Two to v) (two_address (word_if o) (t 4) (word_if_less o (t 4) n))
  cut_and_moved Four to o t n = moved turn laws memories len s Four (field_operand Four to) (field machine_naming Four to) _ (with_temps t u) (temps_match s u t h) (field_stands Four to (with_temps t u)) (whole_cut (word_if o) (t 4) (word_if_less o (t 4) n))

  pub lea_meets : (w : Width) (to : Reg) (a : Address) →
      ReadAndWritten turn laws memories len s (sized (size_of w) (Constant (effective_address machine_naming s.cpu.regs a)) ∷ []) (sized (size_of w) (field machine_naming w to) ∷ []) (move_computed s.cpu.flags (value w (Constant (effective_address machine_naming s.cpu.regs a))))
      (performs turn (address_ops 4 a ++ (lea_cut w ++ write_ops 4 w (field_operand w to))) u)
  lea_meets w to a =
      address_then turn 4 s u (lea_cut w ++ write_ops 4 w (field_operand w to))
      (λ y. ReadAndWritten turn laws memories len s (sized (size_of w) (Constant (effective_address machine_naming s.cpu.regs a)) ∷ []) (sized (size_of w) (field machine_naming w to) ∷ []) (move_computed s.cpu.flags (value w (Constant (effective_address machine_naming s.cpu.regs a)))) y) h a
      (λ t k n. cut_and_moved w to (effective_address machine_naming s.cpu.regs a) t n)

  -- ---- MOVZX
  kept_and_moved : (wide : Width) (to : Reg) (x : Word) (t : ℕ → Word) → CutMatches (size_of wide) x (t 4) → Written turn laws memories len s (sized (size_of wide) (field machine_naming wide to) ∷ []) (move_computed s.cpu.flags x) (performs turn (write_ops 4 wide (field_operand wide to)) (with_temps t u))
  kept_and_moved wide to x t c = moved turn laws memories len s wide (field_operand wide to) (field machine_naming wide to) x (with_temps t u) (temps_match s u t h) (field_stands wide to (with_temps t u)) c

  masked_and_moved : (wide : Width) (to : Reg) (x : Word) (t : ℕ → Word) → CutMatches (size_of wide) x (and_of (t 4) (word_of (mask wide))) → Written turn laws memories len s (sized (size_of wide) (field machine_naming wide to) ∷ []) (move_computed s.cpu.flags x) (performs turn (write_ops 4 wide (field_operand wide to)) (with_temps (put_word 4 (and_of (t 4) (word_of (mask wide))) t) u))
  masked_and_moved wide to x t c = kept_and_moved wide to x (put_word 4 (and_of (t 4) (word_of (mask wide))) t) c

  extended : (wide w : Width) (to : Reg) (x : Word) (t : ℕ → Word) → cut (size_of w) x ≡ x → CutMatches (size_of w) x (t 4) → Written turn laws memories len s (sized (size_of wide) (field machine_naming wide to) ∷ []) (move_computed s.cpu.flags x) (performs turn (cut_core wide w ++ write_ops 4 wide (field_operand wide to)) (with_temps t u))
  unfolding performs perform
  extended One One to x t e c = kept_and_moved One to x t c
  extended Two One to x t e c = kept_and_moved Two to x t (wider 2 1 x (t 4) (two_of_one x) e c)
  extended Four One to x t e c = kept_and_moved Four to x t (wider 4 1 x (t 4) (four_bytes (cut 1 x)) e c)
  extended One Two to x t e c = masked_and_moved One to x t (narrower One 2 x (t 4) (one_of_two x) c)
  extended Two Two to x t e c = kept_and_moved Two to x t c
  extended Four Two to x t e c = kept_and_moved Four to x t (wider 4 2 x (t 4) (four_bytes (cut 2 x)) e c)
  extended One Four to x t e c = masked_and_moved One to x t (narrower One 4 x (t 4) (one_of_four x) c)
  extended Two Four to x t e c = masked_and_moved Two to x t (narrower Two 4 x (t 4) (two_of_four x) c)
  extended Four Four to x t e c = kept_and_moved Four to x t c

  pub movzx_meets : (wide w : Width) (from : Src) (to : Reg) (k : Location) → source_of machine_naming s.cpu.regs w from ≡ Some k →
      ReadAndWritten turn laws memories len s (sized (size_of w) k ∷ []) (sized (size_of wide) (field machine_naming wide to) ∷ []) (move_computed s.cpu.flags (value w k)) (performs turn (source_ops 4 w from ++ (cut_core wide w ++ write_ops 4 wide (field_operand wide to))) u)
  movzx_meets wide w from to k e =
      source_then turn memories s 4 w from k [] _ _ (s.eip + len) (way.On (wrapped (s.eip + len))) u (cut_core wide w ++ write_ops 4 wide (field_operand wide to)) h e
      (λ t k1 c. extended wide w to (value w k) t (value_is_cut w k s.cpu.regs s.memory) c)
