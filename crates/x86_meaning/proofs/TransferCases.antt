-- What holds of the operands of an instruction, where it holds of each shape that they can have.
use Rattle.std.proofs.Common.{ℕ, zero, suc, Bool, true, false, List, [], ◌∷◌, Option, Some, None}
use Rattle.x86_types.specs.declared.width.Width.{Width}
use Rattle.x86_types.specs.Numbers.{size_of}
use Rattle.x86_meaning.specs.Operands.{Location, InMemory, SizedOperand, operand}
use Rattle.x86_meaning.specs.TransferShapes.{Transfer, transfer_of, no_transfer, by_one, by_two, esp, register, accumulator, stack_word, down, push_transfer, push_of, pop_transfer, pop_to, leave_transfer, movs_transfer, stos_transfer, if_counted, string_transfer}

module _ (P : Option Transfer → Type 0) (none : P None) where
  pub one : (g : Location → Transfer) (o : Option Location) → ((a : Location) → P (Some (g a))) → P (by_one g o)
  one g None h = none
  one g (Some a) h = h a

  pub two : (g : Location → Location → Transfer) (o u : Option Location) → ((a b : Location) → P (Some (g a b))) → P (by_two g o u)
  two g None u h = none
  two g (Some a) None h = none
  two g (Some a) (Some b) h = h a b

  pub push : (reads : List SizedOperand) (e : Option ℕ) → ((at : ℕ) → P (Some (transfer_of (esp ∷ reads) (stack_word (down 4 at) ∷ esp ∷ [])))) → P (push_transfer reads e)
  push reads None h = none
  push reads (Some at) h = h at

  pub push_from : (o : Option Location) (e : Option ℕ) → ((a : Location) (at : ℕ) → P (Some (transfer_of (esp ∷ operand 4 a ∷ []) (stack_word (down 4 at) ∷ esp ∷ [])))) → P (push_of o e)
  push_from None e h = none
  push_from (Some a) e h = push (operand 4 a ∷ []) e (h a)

  pub pop : (writes : List SizedOperand) (e : Option ℕ) → ((at : ℕ) → P (Some (transfer_of (esp ∷ stack_word at ∷ []) (esp ∷ writes)))) → P (pop_transfer writes e)
  pop writes None h = none
  pop writes (Some at) h = h at

  pub pop_at : (o : Option Location) (e : Option ℕ) → ((a : Location) (at : ℕ) → P (Some (transfer_of (esp ∷ stack_word at ∷ []) (esp ∷ operand 4 a ∷ [])))) → P (pop_to o e)
  pop_at None e h = none
  pop_at (Some a) e h = pop (operand 4 a ∷ []) e (h a)

  pub leave : (b : Option ℕ) → ((at : ℕ) → P (Some (transfer_of (register 4 5 ∷ stack_word at ∷ []) (esp ∷ register 4 5 ∷ [])))) → P (leave_transfer b)
  leave None h = none
  leave (Some at) h = h at

  pub movs : (size : ℕ) (from to : Option ℕ) (more : List SizedOperand) → ((a b : ℕ) → P (Some (transfer_of (operand size (InMemory a) ∷ register 4 6 ∷ register 4 7 ∷ more) (operand size (InMemory b) ∷ register 4 6 ∷ register 4 7 ∷ more)))) → P (movs_transfer size from to more)
  movs size None to more h = none
  movs size (Some a) None more h = none
  movs size (Some a) (Some b) more h = h a b

  pub stos : (w : Width) (to : Option ℕ) (more : List SizedOperand) → ((a : ℕ) → P (Some (transfer_of (accumulator w ∷ register 4 7 ∷ more) (operand (size_of w) (InMemory a) ∷ register 4 7 ∷ more)))) → P (stos_transfer w to more)
  stos w None more h = none
  stos w (Some a) more h = h a

  counted : (n : Option ℕ) (t : Option Transfer) → P no_transfer → P t → P (if_counted n t)
  counted None t z h = none
  counted (Some zero) t z h = z
  counted (Some (suc n)) t z h = h

  -- a string instruction, without a repeat and with one
  pub string : (repeat : Bool) (n : Option ℕ) (g : List SizedOperand → Option Transfer) → P (g []) → P no_transfer → P (g (register 4 1 ∷ [])) → P (string_transfer repeat n g)
  string false n g once done more = once
  string true n g once done more = counted n (g (register 4 1 ∷ [])) done more
