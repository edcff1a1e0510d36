-- What the chosen instructions load and store.
use Rattle.std.proofs.Common.{◌≡◌, ℕ, ◌+◌, ◌*◌, ◌%◌, ◌/◌, ◌<◌, ◌&&◌, Bool, true, false, List, [], ◌∷◌, take, Option, Some, None, refl, ap, ◌∙◌, arith}
use Rattle.std.specs.Option.{option_map}
use Rattle.traces.specs.Trace.{MemoryFault, Move, Go, Halt}
use Rattle.x86_values.specs.declared.byte.Byte.{Byte}
use Rattle.x86_values.specs.declared.word.Word.{Word}
use Rattle.x86_values.specs.Words.{word_of, known, padded, word_list}
use Rattle.memory.specs.Memory.{Load, Store, allows_all, bytes_at, put_all}
use Rattle.x86_types.specs.declared.operand.Reg.TheVariants.{Eax}
use Rattle.x86_types.specs.declared.width.Width.{Width}
use Rattle.x86_types.specs.declared.width.Width.TheVariants.{One, Two, Four}
use Rattle.x86_types.specs.Numbers.{size_of}
use Rattle.x86_meaning.specs.Operands.{InRegister, InMemory, operand, effective_address}
use Rattle.x86_meaning.specs.Outcomes.{values_alone}
use Rattle.x86_meaning.specs.TransferShapes.{Transfer, by_one, by_two, move_transfer}
use Rattle.x86_meaning.specs.Transfers.{transfer}
use Rattle.x86_meaning.specs.Computing.{compute}
use Rattle.x86_meaning.specs.Effect.{transfer_accesses, accesses, effect_of, effect_by, effect}
use Rattle.x86_meaning.specs.Step.{all_allowed}
use Rattle.flag_ir.specs.declared.variable.Var.{Var}
use Rattle.flag_ir.specs.declared.variable.Term.{Term}
use Rattle.flag_ir.specs.declared.variable.Term.TheVariants as term
use Rattle.named_code.specs.declared.slot.Slot.{Slot}
use Rattle.named_code.specs.declared.slot.Slot.TheVariants.{Fixed}
use Rattle.named_code.specs.Items.{Item, named_item, naming_of, place_of}
use Rattle.named_code.specs.Running.{CodeState, CodePoint, CodePosition, standing_at, by_loads, act}
use Rattle.instr_choose.specs.Lists.{slot_of, with_source, based_on, at_word, address_of, load_by, store_by}
use Rattle.instr_choose.specs.Relation.{place_of_var}
use Rattle.instr_choose.proofs.Items.{with_place, term_at}

-- an item acts by its transfer
abbrev acted : Option Transfer → Item → List Item → CodeState → Move CodePosition
acted t x rest s = by_loads (all_allowed Load (transfer_accesses t) s.memory) (all_allowed Store (transfer_accesses t) s.memory) (effect_by t x.instr 0 s.cpu s.memory) x rest s

by_transfer : (x : Item) (rest : List Item) (s : CodeState) → act x rest s ≡ acted (transfer x.naming x.instr s.cpu.regs) x rest s
unfolding act accesses effect
by_transfer x rest s = refl

-- ---- the address that a term is
number_of_word : (n a : ℕ) → known (word_of n) ≡ Some a → n % 4294967296 ≡ a
unfolding known word_of
number_of_word n a h = let g : n % 256 + 256 * (n / 256 % 256) + 65536 * (n / 65536 % 256) + 16777216 * (n / 16777216 % 256) ≡ a = cc in omega (arith, g)

abbrev pub IsAddress : Term → CodeState → ℕ → Type 0
IsAddress t s a = (known (term_at t s) ≡ Some a) × (a < 4294967296)

summed : (a : ℕ) → a < 4294967296 → (a + 0 * 1 + 0) % 4294967296 ≡ a
summed a h = omega (arith, h)

-- as the second operand, and as the first one
pub second_address : (to : Slot) (t : Term) (s : CodeState) (a : ℕ) → IsAddress t s a → effective_address (naming_of (with_source to t)) s.cpu.regs (address_of t) ≡ Some a
second_address to (term.Var v) s a h = rw h.0 (ap (λ (n : ℕ). Some n) (summed a h.1))
second_address to (term.Word n) s a h = ap (λ (n : ℕ). Some n) (let g = number_of_word n a h.0 in let k : (0 + 0 * 1 + n) % 4294967296 ≡ n % 4294967296 = omega arith in k ∙ g)

pub first_address : (v : Var) (from : Slot) (s : CodeState) (a : ℕ) → IsAddress (term.Var v) s a → effective_address (naming_of (slot_of v ∷ from ∷ [])) s.cpu.regs (based_on Eax) ≡ Some a
first_address v from s a h = rw h.0 (ap (λ (n : ℕ). Some n) (summed a h.1))

pub word_address : (n : ℕ) (from : Slot) (s : CodeState) (a : ℕ) → IsAddress (term.Word n) s a → effective_address (naming_of (from ∷ [])) s.cpu.regs (at_word n) ≡ Some a
word_address n from s a h = ap (λ (n : ℕ). Some n) (let g = number_of_word n a h.0 in let k : (0 + 0 * 1 + n) % 4294967296 ≡ n % 4294967296 = omega arith in k ∙ g)

-- ---- a load
abbrev pub after_load : Bool → ℕ → Word → List Item → CodeState → Move CodePosition
after_load false p w rest s = Halt [] MemoryFault
after_load true p w rest s = Go [] (standing_at (CodePoint.Inside rest) (with_place p w s))

loaded : (b : Bool) (p : ℕ) (w : Word) (x : Item) (rest : List Item) (s : CodeState) → by_loads (b && true) true (effect_of (operand 4 (InRegister p 0) ∷ []) s.cpu.regs (values_alone (w ∷ []) s.cpu.flags)) x rest s ≡ after_load b p w rest s
loaded true p w x rest s = refl
loaded false p w x rest s = refl

pub load_is : (w : Width) (to : Slot) (t : Term) (s : CodeState) (a : ℕ) → IsAddress t s a → (rest : List Item) → act (named_item (load_by w to t)) rest s ≡ after_load (allows_all Load s.memory a (size_of w)) (place_of to) (padded (bytes_at s.memory a (size_of w))) rest s
unfolding transfer compute
load_is Four to t s a h rest =
    by_transfer (named_item (load_by Four to t)) rest s ∙ first t h ∙ loaded (allows_all Load s.memory a 4) (place_of to) (padded (bytes_at s.memory a 4)) (named_item (load_by Four to t)) rest s
  where
    first : (t : Term) → IsAddress t s a → acted (transfer (named_item (load_by Four to t)).naming (named_item (load_by Four to t)).instr s.cpu.regs) (named_item (load_by Four to t)) rest s ≡ acted (by_two (move_transfer 4 4) (Some (InRegister (place_of to) 0)) (option_map InMemory (Some a))) (named_item (load_by Four to t)) rest s
    first (term.Var v) h = ap (λ (o : Option ℕ). acted (by_two (move_transfer 4 4) (Some (InRegister (place_of to) 0)) (option_map InMemory o)) (named_item (load_by Four to (term.Var v))) rest s) (second_address to (term.Var v) s a h)
    first (term.Word n) h = ap (λ (o : Option ℕ). acted (by_two (move_transfer 4 4) (Some (InRegister (place_of to) 0)) (option_map InMemory o)) (named_item (load_by Four to (term.Word n))) rest s) (second_address to (term.Word n) s a h)
load_is Two to t s a h rest =
    by_transfer (named_item (load_by Two to t)) rest s ∙ first t h ∙ loaded (allows_all Load s.memory a 2) (place_of to) (padded (bytes_at s.memory a 2)) (named_item (load_by Two to t)) rest s
  where
    first : (t : Term) → IsAddress t s a → acted (transfer (named_item (load_by Two to t)).naming (named_item (load_by Two to t)).instr s.cpu.regs) (named_item (load_by Two to t)) rest s ≡ acted (by_one (move_transfer 4 2 (InRegister (place_of to) 0)) (option_map InMemory (Some a))) (named_item (load_by Two to t)) rest s
    first (term.Var v) h = ap (λ (o : Option ℕ). acted (by_one (move_transfer 4 2 (InRegister (place_of to) 0)) (option_map InMemory o)) (named_item (load_by Two to (term.Var v))) rest s) (second_address to (term.Var v) s a h)
    first (term.Word n) h = ap (λ (o : Option ℕ). acted (by_one (move_transfer 4 2 (InRegister (place_of to) 0)) (option_map InMemory o)) (named_item (load_by Two to (term.Word n))) rest s) (second_address to (term.Word n) s a h)
load_is One to t s a h rest =
    by_transfer (named_item (load_by One to t)) rest s ∙ first t h ∙ loaded (allows_all Load s.memory a 1) (place_of to) (padded (bytes_at s.memory a 1)) (named_item (load_by One to t)) rest s
  where
    first : (t : Term) → IsAddress t s a → acted (transfer (named_item (load_by One to t)).naming (named_item (load_by One to t)).instr s.cpu.regs) (named_item (load_by One to t)) rest s ≡ acted (by_one (move_transfer 4 1 (InRegister (place_of to) 0)) (option_map InMemory (Some a))) (named_item (load_by One to t)) rest s
    first (term.Var v) h = ap (λ (o : Option ℕ). acted (by_one (move_transfer 4 1 (InRegister (place_of to) 0)) (option_map InMemory o)) (named_item (load_by One to (term.Var v))) rest s) (second_address to (term.Var v) s a h)
    first (term.Word n) h = ap (λ (o : Option ℕ). acted (by_one (move_transfer 4 1 (InRegister (place_of to) 0)) (option_map InMemory o)) (named_item (load_by One to (term.Word n))) rest s) (second_address to (term.Word n) s a h)

-- ---- a store, from a variable or from EAX
abbrev pub after_store : Bool → ℕ → List Byte → List Item → CodeState → Move CodePosition
after_store false a bs rest s = Halt [] MemoryFault
after_store true a bs rest s = Go [] (standing_at (CodePoint.Inside rest) (record s { memory = put_all a bs s.memory }))

stored : (w : Width) (b : Bool) (a : ℕ) (v : Word) (x : Item) (rest : List Item) (s : CodeState) → by_loads true (b && true) (effect_of (operand (size_of w) (InMemory a) ∷ []) s.cpu.regs (values_alone (v ∷ []) s.cpu.flags)) x rest s ≡ after_store b a (take (size_of w) (word_list v)) rest s
stored w true a v x rest s = refl
stored w false a v x rest s = refl

abbrev pub from_of : Option Var → Slot
from_of None = Fixed Eax
from_of (Some v) = slot_of v

module _ (s : CodeState) (a : ℕ) (rest : List Item) where
  abbrev Stores : Width → Term → Option Var → Type 0
  Stores w t from = act (named_item (store_by w t (from_of from))) rest s ≡ after_store (allows_all Store s.memory a (size_of w)) a (take (size_of w) (word_list (s.cpu.regs (place_of (from_of from))))) rest s

  put_at : (w : Width) (x : Item) (p : ℕ) (o : Option ℕ) → o ≡ Some a → acted (by_two (move_transfer (size_of w) (size_of w)) (option_map InMemory o) (Some (InRegister p 0))) x rest s ≡ acted (by_two (move_transfer (size_of w) (size_of w)) (option_map InMemory (Some a)) (Some (InRegister p 0))) x rest s
  put_at w x p o h = ap (λ (o : Option ℕ). acted (by_two (move_transfer (size_of w) (size_of w)) (option_map InMemory o) (Some (InRegister p 0))) x rest s) h

  by_var : (w : Width) (v : Var) (from : Option Var) → IsAddress (term.Var v) s a → Stores w (term.Var v) from
  unfolding transfer compute
  by_var Four v (Some f) h = let x = named_item (store_by Four (term.Var v) (slot_of f)) in by_transfer x rest s ∙ put_at Four x (place_of_var f) _ (first_address v (slot_of f) s a h) ∙ stored Four (allows_all Store s.memory a 4) a (s.cpu.regs (place_of_var f)) x rest s
  by_var Two v (Some f) h = let x = named_item (store_by Two (term.Var v) (slot_of f)) in by_transfer x rest s ∙ put_at Two x (place_of_var f) _ (first_address v (slot_of f) s a h) ∙ stored Two (allows_all Store s.memory a 2) a (padded (take 2 (word_list (s.cpu.regs (place_of_var f))))) x rest s
  by_var One v (Some f) h = let x = named_item (store_by One (term.Var v) (slot_of f)) in by_transfer x rest s ∙ put_at One x (place_of_var f) _ (first_address v (slot_of f) s a h) ∙ stored One (allows_all Store s.memory a 1) a (padded (take 1 (word_list (s.cpu.regs (place_of_var f))))) x rest s
  by_var Four v None h = let x = named_item (store_by Four (term.Var v) (Fixed Eax)) in by_transfer x rest s ∙ put_at Four x 0 _ (first_address v (Fixed Eax) s a h) ∙ stored Four (allows_all Store s.memory a 4) a (s.cpu.regs 0) x rest s
  by_var Two v None h = let x = named_item (store_by Two (term.Var v) (Fixed Eax)) in by_transfer x rest s ∙ put_at Two x 0 _ (first_address v (Fixed Eax) s a h) ∙ stored Two (allows_all Store s.memory a 2) a (padded (take 2 (word_list (s.cpu.regs 0)))) x rest s
  by_var One v None h = let x = named_item (store_by One (term.Var v) (Fixed Eax)) in by_transfer x rest s ∙ put_at One x 0 _ (first_address v (Fixed Eax) s a h) ∙ stored One (allows_all Store s.memory a 1) a (padded (take 1 (word_list (s.cpu.regs 0)))) x rest s

  by_word : (w : Width) (n : ℕ) (from : Option Var) → IsAddress (term.Word n) s a → Stores w (term.Word n) from
  unfolding transfer compute
  by_word Four n (Some f) h = let x = named_item (store_by Four (term.Word n) (slot_of f)) in by_transfer x rest s ∙ put_at Four x (place_of_var f) _ (word_address n (slot_of f) s a h) ∙ stored Four (allows_all Store s.memory a 4) a (s.cpu.regs (place_of_var f)) x rest s
  by_word Two n (Some f) h = let x = named_item (store_by Two (term.Word n) (slot_of f)) in by_transfer x rest s ∙ put_at Two x (place_of_var f) _ (word_address n (slot_of f) s a h) ∙ stored Two (allows_all Store s.memory a 2) a (padded (take 2 (word_list (s.cpu.regs (place_of_var f))))) x rest s
  by_word One n (Some f) h = let x = named_item (store_by One (term.Word n) (slot_of f)) in by_transfer x rest s ∙ put_at One x (place_of_var f) _ (word_address n (slot_of f) s a h) ∙ stored One (allows_all Store s.memory a 1) a (padded (take 1 (word_list (s.cpu.regs (place_of_var f))))) x rest s
  by_word Four n None h = let x = named_item (store_by Four (term.Word n) (Fixed Eax)) in by_transfer x rest s ∙ put_at Four x 0 _ (word_address n (Fixed Eax) s a h) ∙ stored Four (allows_all Store s.memory a 4) a (s.cpu.regs 0) x rest s
  by_word Two n None h = let x = named_item (store_by Two (term.Word n) (Fixed Eax)) in by_transfer x rest s ∙ put_at Two x 0 _ (word_address n (Fixed Eax) s a h) ∙ stored Two (allows_all Store s.memory a 2) a (padded (take 2 (word_list (s.cpu.regs 0)))) x rest s
  by_word One n None h = let x = named_item (store_by One (term.Word n) (Fixed Eax)) in by_transfer x rest s ∙ put_at One x 0 _ (word_address n (Fixed Eax) s a h) ∙ stored One (allows_all Store s.memory a 1) a (padded (take 1 (word_list (s.cpu.regs 0)))) x rest s

pub store_is : (w : Width) (t : Term) (from : Option Var) (s : CodeState) (a : ℕ) → IsAddress t s a → (rest : List Item) → act (named_item (store_by w t (from_of from))) rest s ≡ after_store (allows_all Store s.memory a (size_of w)) a (take (size_of w) (word_list (s.cpu.regs (place_of (from_of from))))) rest s
store_is w (term.Var v) from s a h rest = by_var s a rest w v from h
store_is w (term.Word n) from s a h rest = by_word s a rest w n from h
