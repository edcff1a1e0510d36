-- Each access along the list of an operation is one of the operation's.
use Rattle.std.proofs.Common.{◌≡◌, ℕ, ◌==◌, ◌||◌, Bool, true, false, not, cond, List, [], ◌∷◌, ◌++◌, map, All, Option, Some, None, Result, Err, refl, sym, ap, ◌∙◌, subst, arith}
use Rattle.std.specs.Option.{option_map}
use Rattle.std.proofs.lemmas.Bool.{and_left, and_right, or_from, eqb-true}
use Rattle.std.proofs.lemmas.List.Elements.{All-nil, All-cons, All-head}
use Rattle.outside.specs.Environment.{Environment}
use Rattle.x86_values.specs.Words.{known, word_of}
use Rattle.x86_types.specs.declared.operand.Reg.TheVariants.{Eax, Ebx, Ecx, Edx}
use Rattle.x86_types.specs.declared.width.Width.{Width}
use Rattle.x86_types.specs.declared.width.Width.TheVariants.{One, Two, Four}
use Rattle.x86_types.specs.declared.instr.Instr.TheVariants as instr
use Rattle.x86_types.specs.Numbers.{size_of}
use Rattle.traces.specs.Trace.{Label, End, Unspecified, Move, Stand, Go, Halt}
use Rattle.memory.specs.Memory.{Memory, Load, Store}
use Rattle.memory.specs.LessSpecified.{MemoryLessSpecified}
use Rattle.memory.specs.SystemCall.{Request, Called, Ends, transfer_call, call_by, system_call}
use Rattle.x86_meaning.specs.Operands.{Access, InRegister, InMemory}
use Rattle.x86_meaning.specs.TransferShapes.{by_one, by_two, move_transfer}
use Rattle.x86_meaning.specs.Transfers.{transfer}
use Rattle.x86_meaning.specs.Effect.{transfer_accesses, accesses}
use Rattle.x86_meaning.specs.Step.{request_of}
use Rattle.private_memory.specs.PrivateArea.{IsApartAccess}
use Rattle.flag_ir.specs.declared.variable.Var.{Var}
use Rattle.flag_ir.specs.declared.variable.Term.{Term}
use Rattle.flag_ir.specs.declared.variable.Term.TheVariants as term
use Rattle.flag_ir.specs.declared.operation.Op.{Op}
use Rattle.flag_ir.specs.declared.operation.Op.TheVariants as op
use Rattle.flag_ir.specs.Storage.{Storage, term_in}
use Rattle.flag_ir.specs.Operations.{and_then, needed, has_buffer, request_in, called, call_in, perform}
use Rattle.flag_ir.specs.Accesses.{accessed, buffer_accessed, op_accesses}
use Rattle.flag_ir.specs.Form.{IsTerm, IsOp, IsFrameless}
use Rattle.named_code.specs.declared.slot.Slot.{Slot}
use Rattle.named_code.specs.declared.slot.Slot.TheVariants.{Fixed, Name}
use Rattle.named_code.specs.declared.named.VInstr.{VInstr}
use Rattle.named_code.specs.Items.{Item, named_item, place_of}
use Rattle.named_code.specs.Running.{CodeState, Inside, CodePosition, standing_at, act}
use Rattle.instr_choose.specs.Lists.{slot_of, made, put, copy, load_by, store_by, width_of, choose_calc, choose_divide, choose_pick, choose_store, choose_system, choose_op}
use Rattle.instr_choose.specs.Relation.{place_of_var, IsBelow}
use Rattle.named_code.specs.TestedRun.{item_accesses}
use Rattle.instr_choose.proofs.Accesses.{IsAddress, second_address, first_address, word_address, from_of}
use Rattle.instr_choose.proofs.Items.{with_place, put_is, copy_is}
use Rattle.instr_choose.proofs.Below.{scratch}
use Rattle.instr_choose.proofs.Rules.{each_size}
use Rattle.instr_choose.proofs.Choosing.{LawsBelow}
use Rattle.instr_choose.proofs.Memories.{address_is, asked_number, asked_fd, asked_at, asked_count, asks_less}
use Rattle.instr_choose.proofs.QuietItems.{AreQuiet, put_quiet, copy_quiet, calc_quiet, divide_list_quiet, pick_quiet}

abbrev pub AreApart : CodeState → List Access → Type 0
AreApart s xs = All (IsApartAccess s.memory) xs

-- each access of the items in front of any others, as they go on
abbrev pub IsSafePath : List Item → CodeState → Type 0
IsSafePath [] s = Unit {0}
IsSafePath (x ∷ xs) s = AreApart s (item_accesses x s) × ((ls : List Label) (t : CodeState) → ((rest : List Item) → act x rest s ≡ Go ls (standing_at (Inside rest) t)) → IsSafePath xs t)

pub none_apart : (s : CodeState) (xs : List Access) → xs ≡ [] → AreApart s xs
none_apart s xs e = subst (AreApart s) (sym e) (All-nil (IsApartAccess s.memory))

pub quiet_path : (xs : List VInstr) → AreQuiet xs → (s : CodeState) → IsSafePath (map named_item xs) s
quiet_path [] h s = tt
quiet_path (x ∷ xs) h s = (none_apart s (item_accesses (named_item x) s) (h.0 s), λ ls t g. quiet_path xs h.1 t)

-- an item whose next state is known
state_in : CodeState → Move CodePosition → CodeState
state_in d (Stand ls e) = d
state_in d (Go ls p) = p.state
state_in d (Halt ls e) = d

same_state : (ls ks : List Label) (t v : CodeState) → Go ls (standing_at (Inside []) t) ≡ Go ks (standing_at (Inside []) v) → t ≡ v
unfolding state_in
same_state ls ks t v e = ap (state_in t) e

path_then : (x : Item) (xs : List Item) (s v : CodeState) → AreApart s (item_accesses x s) → ((rest : List Item) → act x rest s ≡ Go [] (standing_at (Inside rest) v)) → IsSafePath xs v → IsSafePath (x ∷ xs) s
path_then x xs s v apart is behind = (apart, λ ls t g. subst (IsSafePath xs) (same_state [] ls v t (sym (is []) ∙ g [])) behind)

-- ---- the accesses of loads and stores
abbrev load_access : Width → ℕ → Access
load_access w a = record { kind = Load; at = a; size = size_of w }

abbrev store_access : Width → ℕ → Access
store_access w a = record { kind = Store; at = a; size = size_of w }

pub load_accesses : (w : Width) (to : Slot) (t : Term) (s : CodeState) (a : ℕ) → IsAddress t s a → item_accesses (named_item (load_by w to t)) s ≡ load_access w a ∷ []
unfolding accesses transfer
load_accesses Four to (term.Var v) s a h = ap (λ o. transfer_accesses (by_two (move_transfer 4 4) (Some (InRegister (place_of to) 0)) (option_map InMemory o)) ++ []) (second_address to (term.Var v) s a h)
load_accesses Four to (term.Word n) s a h = ap (λ o. transfer_accesses (by_two (move_transfer 4 4) (Some (InRegister (place_of to) 0)) (option_map InMemory o)) ++ []) (second_address to (term.Word n) s a h)
load_accesses Two to (term.Var v) s a h = ap (λ o. transfer_accesses (by_one (move_transfer 4 2 (InRegister (place_of to) 0)) (option_map InMemory o)) ++ []) (second_address to (term.Var v) s a h)
load_accesses Two to (term.Word n) s a h = ap (λ o. transfer_accesses (by_one (move_transfer 4 2 (InRegister (place_of to) 0)) (option_map InMemory o)) ++ []) (second_address to (term.Word n) s a h)
load_accesses One to (term.Var v) s a h = ap (λ o. transfer_accesses (by_one (move_transfer 4 1 (InRegister (place_of to) 0)) (option_map InMemory o)) ++ []) (second_address to (term.Var v) s a h)
load_accesses One to (term.Word n) s a h = ap (λ o. transfer_accesses (by_one (move_transfer 4 1 (InRegister (place_of to) 0)) (option_map InMemory o)) ++ []) (second_address to (term.Word n) s a h)

stored_to : (w : Width) (p a : ℕ) (o : Option ℕ) → o ≡ Some a → transfer_accesses (by_two (move_transfer (size_of w) (size_of w)) (option_map InMemory o) (Some (InRegister p 0))) ++ [] ≡ store_access w a ∷ []
stored_to w p a o e = ap (λ z. transfer_accesses (by_two (move_transfer (size_of w) (size_of w)) (option_map InMemory z) (Some (InRegister p 0))) ++ []) e

store_accesses : (w : Width) (t : Term) (from : Option Var) (s : CodeState) (a : ℕ) → IsAddress t s a → item_accesses (named_item (store_by w t (from_of from))) s ≡ store_access w a ∷ []
unfolding accesses transfer
store_accesses Four (term.Var v) (Some f) s a h = stored_to Four (place_of_var f) a _ (first_address v (slot_of f) s a h)
store_accesses Two (term.Var v) (Some f) s a h = stored_to Two (place_of_var f) a _ (first_address v (slot_of f) s a h)
store_accesses One (term.Var v) (Some f) s a h = stored_to One (place_of_var f) a _ (first_address v (slot_of f) s a h)
store_accesses Four (term.Var v) None s a h = stored_to Four 0 a _ (first_address v (Fixed Eax) s a h)
store_accesses Two (term.Var v) None s a h = stored_to Two 0 a _ (first_address v (Fixed Eax) s a h)
store_accesses One (term.Var v) None s a h = stored_to One 0 a _ (first_address v (Fixed Eax) s a h)
store_accesses Four (term.Word n) (Some f) s a h = stored_to Four (place_of_var f) a _ (word_address n (slot_of f) s a h)
store_accesses Two (term.Word n) (Some f) s a h = stored_to Two (place_of_var f) a _ (word_address n (slot_of f) s a h)
store_accesses One (term.Word n) (Some f) s a h = stored_to One (place_of_var f) a _ (word_address n (slot_of f) s a h)
store_accesses Four (term.Word n) None s a h = stored_to Four 0 a _ (word_address n (Fixed Eax) s a h)
store_accesses Two (term.Word n) None s a h = stored_to Two 0 a _ (word_address n (Fixed Eax) s a h)
store_accesses One (term.Word n) None s a h = stored_to One 0 a _ (word_address n (Fixed Eax) s a h)

-- ---- the buffer of a call
module _ (P : Access → Type 0) where
  no_buffer : (n : ℕ) → (n == 3) ≡ false → (n == 4) ≡ false → (fd at count : Option ℕ) → All P (buffer_accessed (Some n) fd at count)
  no_buffer n three four (Some fd) (Some at) (Some k) =
      let none : has_buffer n fd k ≡ false = and_right (not (k == 0)) _ (or_from _ _ (and_left (n == 3) (fd == 0) three) (and_left (n == 4) (fd == 1 || fd == 2) four)) in
      subst (λ b. All P (cond b (record { kind = cond (n == 3) Store Load; at = at; size = k } ∷ []) [])) (sym none) (All-nil P)
  no_buffer n three four (Some fd) (Some at) None = All-nil P
  no_buffer n three four (Some fd) None count = All-nil P
  no_buffer n three four None at count = All-nil P

  module _ (q r : Request) (m : Memory) (left : Environment) (never : system_call q m left ≡ Ends Unspecified → ⊥) where
    -- a number that asks for no transfer
    not_asked : (n : ℕ) → known q.number ≡ Some n → ((call : ℕ → ℕ → ℕ → Memory → Environment → Called) → transfer_call call (known q.fd) (known q.at) (known q.count) m left ≡ Ends Unspecified) → ((n == 3) ≡ false) × ((n == 4) ≡ false)
    unfolding system_call
    not_asked n e none = (three (n == 3) refl, four (n == 4) refl)
      where
        three : (b : Bool) → (n == 3) ≡ b → b ≡ false
        three true h = absurd (let is : known q.number ≡ Some 3 = e ∙ ap (λ (k : ℕ). Some k) (eqb-true n 3 h) in never (ap (λ o. call_by o q m left) is ∙ none _))
        three false h = refl

        four : (b : Bool) → (n == 4) ≡ b → b ≡ false
        four true h = absurd (let is : known q.number ≡ Some 4 = e ∙ ap (λ (k : ℕ). Some k) (eqb-true n 4 h) in never (ap (λ o. call_by o q m left) is ∙ none _))
        four false h = refl

    unasked : (n : ℕ) → known q.number ≡ Some n → known r.number ≡ Some n → ((call : ℕ → ℕ → ℕ → Memory → Environment → Called) → transfer_call call (known q.fd) (known q.at) (known q.count) m left ≡ Ends Unspecified) → All P (buffer_accessed (known r.number) (known r.fd) (known r.at) (known r.count))
    unasked n e f none = let no = not_asked n e none in subst (λ o. All P (buffer_accessed o (known r.fd) (known r.at) (known r.count))) (sym f) (no_buffer n no.0 no.1 (known r.fd) (known r.at) (known r.count))

    abbrev SameKnown : Type 0
    SameKnown = (n : ℕ) → (known q.number ≡ Some n → known r.number ≡ Some n) × (known q.fd ≡ Some n → known r.fd ≡ Some n) × (known q.at ≡ Some n → known r.at ≡ Some n) × (known q.count ≡ Some n → known r.count ≡ Some n)

    buffer_moved : SameKnown → All P (buffer_accessed (known q.number) (known q.fd) (known q.at) (known q.count)) → All P (buffer_accessed (known r.number) (known r.fd) (known r.at) (known r.count))
    unfolding system_call
    buffer_moved same h = by_parts (known q.number) (known q.fd) (known q.at) (known q.count) refl refl refl refl
      where
        by_parts : (a b c d : Option ℕ) → known q.number ≡ a → known q.fd ≡ b → known q.at ≡ c → known q.count ≡ d → All P (buffer_accessed (known r.number) (known r.fd) (known r.at) (known r.count))
        by_parts None b c d e f g i = absurd (never (ap (λ o. call_by o q m left) e))
        by_parts (Some n) None c d e f g i = unasked n e ((same n).0 e) (λ call. ap (λ o. transfer_call call o (known q.at) (known q.count) m left) f)
        by_parts (Some n) (Some fd) None d e f g i = unasked n e ((same n).0 e) (λ call. ap (λ o. transfer_call call o (known q.at) (known q.count) m left) f ∙ ap (λ o. transfer_call call (Some fd) o (known q.count) m left) g)
        by_parts (Some n) (Some fd) (Some at) None e f g i = unasked n e ((same n).0 e) (λ call. ap (λ o. transfer_call call o (known q.at) (known q.count) m left) f ∙ (ap (λ o. transfer_call call (Some fd) o (known q.count) m left) g ∙ ap (λ o. transfer_call call (Some fd) (Some at) o m left) i))
        by_parts (Some n) (Some fd) (Some at) (Some k) e f g i =
            subst (λ (xs : List Access). All P xs) (λ j. buffer_accessed ((e ∙ sym ((same n).0 e)) j) ((f ∙ sym ((same fd).1 f)) j) ((g ∙ sym ((same at).2 g)) j) ((i ∙ sym ((same k).3 i)) j)) h

-- ---- lists
module _ (laws : LawsBelow) (u : Storage) where
  abbrev UnitApart : List Access → Type 0
  UnitApart xs = All (IsApartAccess u.memory) xs

  -- what is apart for the unit is for the code
  moved_apart : (s : CodeState) (a : Access) → MemoryLessSpecified u.memory s.memory → IsApartAccess u.memory a → IsApartAccess s.memory a
  moved_apart s a less h = record { elsewhere = λ e. h.elsewhere (laws.memory.allows a.kind u.memory s.memory a.at a.size less ∙ e) }

  one_moved : (s : CodeState) (a : Access) (xs : List Access) → xs ≡ a ∷ [] → MemoryLessSpecified u.memory s.memory → UnitApart (a ∷ []) → AreApart s xs
  one_moved s a xs e less h = subst (AreApart s) (sym e) (All-cons (IsApartAccess s.memory) a [] (moved_apart s a less (All-head (IsApartAccess u.memory) a [] h)) (All-nil (IsApartAccess s.memory)))

  -- a term that is known, where the operation doesn't end by its use
  if_known : (o : Option ℕ) (f : ℕ → Result Storage End) (P : Type 0) → (and_then (needed o) f ≡ Err Unspecified → ⊥) → ((a : ℕ) → o ≡ Some a → P) → P
  if_known None f P never h = absurd (never refl)
  if_known (Some a) f P never h = h a refl

  load_path : (w : Width) (to : Var) (at : Term) (f : ℕ → Result Storage End) (s : CodeState) → IsTerm 0 at → IsBelow u s → (and_then (needed (known (term_in at u))) f ≡ Err Unspecified → ⊥)
      → UnitApart (accessed Load (size_of w) (known (term_in at u))) → IsSafePath (map named_item (load_by w (slot_of to) at ∷ [])) s
  load_path w to at f s i h never apart =
      if_known (known (term_in at u)) f _ never
      (λ a e. (one_moved s (load_access w a) _ (load_accesses w (slot_of to) at s a (address_is laws at u s a i h e)) h.memory (subst (λ o. UnitApart (accessed Load (size_of w) o)) e apart), λ ls t g. tt))

  store_item : (w : Width) (at : Term) (from : Option Var) (f : ℕ → Result Storage End) (s : CodeState) → IsTerm 0 at → IsBelow u s → (and_then (needed (known (term_in at u))) f ≡ Err Unspecified → ⊥)
      → UnitApart (accessed Store (size_of w) (known (term_in at u))) → IsSafePath (named_item (store_by w at (from_of from)) ∷ []) s
  store_item w at from f s i h never apart =
      if_known (known (term_in at u)) f _ never
      (λ a e. (one_moved s (store_access w a) _ (store_accesses w at from s a (address_is laws at u s a i h e)) h.memory (subst (λ o. UnitApart (accessed Store (size_of w) o)) e apart), λ ls t g. tt))

  store_path : (w : Width) (at from : Term) (f : ℕ → Result Storage End) (s : CodeState) → IsTerm 0 at → IsBelow u s → (and_then (needed (known (term_in at u))) f ≡ Err Unspecified → ⊥)
      → UnitApart (accessed Store (size_of w) (known (term_in at u))) → IsSafePath (map named_item (choose_store w at from)) s
  store_path w at (term.Var v) f s i h never apart = store_item w at (Some v) f s i h never apart
  store_path w at (term.Word n) f s i h never apart =
      path_then (named_item (put (Fixed Eax) (term.Word n))) (named_item (store_by w at (Fixed Eax)) ∷ []) s (with_place 0 (word_of n) s) (none_apart s _ (put_quiet (Fixed Eax) (term.Word n) s)) (put_is (Fixed Eax) (term.Word n) s)
      (store_item w at None f (with_place 0 (word_of n) s) i (scratch u s 0 (word_of n) (omega arith) h) never apart)

  copied_path : (to from : Slot) (xs : List Item) (s : CodeState) → IsSafePath xs (with_place (place_of to) (s.cpu.regs (place_of from)) s) → IsSafePath (named_item (copy to from) ∷ xs) s
  copied_path to from xs s h = path_then (named_item (copy to from)) xs s (with_place (place_of to) (s.cpu.regs (place_of from)) s) (none_apart s _ (copy_quiet to from s)) (copy_is to from s) h

  all_moved : (s : CodeState) (xs : List Access) → MemoryLessSpecified u.memory s.memory → UnitApart xs → AreApart s xs
  all_moved s xs less h k d l = moved_apart s _ less (h k d l)

  call_path : (s : CodeState) → IsBelow u s → (called (call_in u) u ≡ Err Unspecified → ⊥) → UnitApart (op_accesses op.System u) → IsSafePath (map named_item (made instr.Int80 [] ∷ copy (Name 0) (Fixed Eax) ∷ [])) (asked_count laws s)
  unfolding accesses transfer
  call_path s h never apart =
      let less = asks_less laws u s h in
      let same : (n : ℕ) → _ = λ n. (laws.less.same_word _ _ n less.number, laws.less.same_word _ _ n less.fd, laws.less.same_word _ _ n less.at, laws.less.same_word _ _ n less.count) in (
        buffer_moved (IsApartAccess s.memory) (request_in u) (request_of (asked_count laws s).cpu) u.memory u.left (λ e. never (ap (λ c. called c u) e)) same (all_moved s _ h.memory apart),
        λ ls t g. quiet_path (copy (Name 0) (Fixed Eax) ∷ []) (copy_quiet (Name 0) (Fixed Eax), tt) t,
      )

  abbrev call_items : List Item
  call_items = map named_item (made instr.Int80 [] ∷ copy (Name 0) (Fixed Eax) ∷ [])

  system_path : (s : CodeState) → IsBelow u s → (called (call_in u) u ≡ Err Unspecified → ⊥) → UnitApart (op_accesses op.System u) → IsSafePath (map named_item choose_system) s
  system_path s h never apart =
      copied_path (Fixed Eax) (Name 0) (named_item (copy (Fixed Ebx) (Name 3)) ∷ named_item (copy (Fixed Ecx) (Name 1)) ∷ named_item (copy (Fixed Edx) (Name 2)) ∷ call_items) s
      (copied_path (Fixed Ebx) (Name 3) (named_item (copy (Fixed Ecx) (Name 1)) ∷ named_item (copy (Fixed Edx) (Name 2)) ∷ call_items) (asked_number laws s)
      (copied_path (Fixed Ecx) (Name 1) (named_item (copy (Fixed Edx) (Name 2)) ∷ call_items) (asked_fd laws s)
      (copied_path (Fixed Edx) (Name 2) call_items (asked_at laws s) (call_path s h never apart))))

  -- ---- each operation
  pub op_path : (turn : ℕ) (o : Op) (s : CodeState) → IsOp 0 o → IsFrameless o → IsBelow u s → (perform turn o u ≡ Err Unspecified → ⊥) → UnitApart (op_accesses o u) → IsSafePath (map named_item (choose_op o)) s
  unfolding perform choose_op
  op_path turn (op.Set to from) s i f h never apart = quiet_path (put (slot_of to) from ∷ []) (put_quiet (slot_of to) from, tt) s
  op_path turn (op.Calc to c x y) s i f h never apart = quiet_path (choose_calc c to x y) (calc_quiet c to x y) s
  op_path turn (op.Forget to) s i f h never apart = tt
  op_path turn (op.Pick to test x y) s i f h never apart = quiet_path (choose_pick to test x y) (pick_quiet to test x y) s
  op_path turn (op.Need from) s i f h never apart = tt
  op_path turn (op.Divide q r high low by size signed) s i f h never apart = quiet_path (choose_divide (width_of size) signed q r high low by) (divide_list_quiet (width_of size) signed q r high low by) s
  op_path turn (op.Load to size at) s i f h never apart =
      each_size (λ (n : ℕ). (perform turn (op.Load to n at) u ≡ Err Unspecified → ⊥) → UnitApart (op_accesses (op.Load to n at) u) → IsSafePath (map named_item (load_by (width_of n) (slot_of to) at ∷ [])) s)
      (λ never apart. load_path One to at _ s i.2 h never apart) (λ never apart. load_path Two to at _ s i.2 h never apart) (λ never apart. load_path Four to at _ s i.2 h never apart) size i.1 never apart
  op_path turn (op.Store size at from) s i f h never apart =
      each_size (λ (n : ℕ). (perform turn (op.Store n at from) u ≡ Err Unspecified → ⊥) → UnitApart (op_accesses (op.Store n at from) u) → IsSafePath (map named_item (choose_store (width_of n) at from)) s)
      (λ never apart. store_path One at from _ s i.1 h never apart) (λ never apart. store_path Two at from _ s i.1 h never apart) (λ never apart. store_path Four at from _ s i.1 h never apart) size i.0 never apart
  op_path turn op.System s i f h never apart = system_path s h never apart
  op_path turn (op.NearLoad to size at) s i f h never apart = absurd f
  op_path turn (op.NearStore size at from) s i f h never apart = absurd f
  op_path turn (op.Get to size offset) s i f h never apart = absurd f
  op_path turn (op.Put size offset from) s i f h never apart = absurd f
  op_path turn op.NearSystem s i f h never apart = absurd f
