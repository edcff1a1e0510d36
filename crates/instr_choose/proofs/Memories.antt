-- Loads, stores and calls are met by their lists.
use Rattle.std.proofs.Common.{◌≡◌, ◌≢◌, ℕ, Bool, true, false, cond, List, [], ◌∷◌, All, map, take, Option, Some, None, Ok, Err, refl, sym, ap, ◌∙◌, subst, arith}
use Rattle.std.proofs.lemmas.List.{append-nil}
use Rattle.std.proofs.lemmas.List.Elements.{All-head, All-tail}
use Rattle.outside.specs.Environment.{Environment, IsEnvironment}
use Rattle.traces.specs.Trace.{Label, End, Exited, MemoryFault, DivideFault, Outside, OtherCall, Unspecified, Guard, Stopped}
use Rattle.x86_values.specs.declared.byte.Byte.{Byte}
use Rattle.x86_values.specs.declared.byte.Byte.TheVariants as byte
use Rattle.x86_values.specs.declared.word.Word.{Word}
use Rattle.x86_values.specs.Words.{word_of, known, word_list, padded, IsByte}
use Rattle.x86_values.specs.LessSpecified.{ByteLessSpecified, WordLessSpecified, BytesLessSpecified}
use Rattle.x86_types.specs.declared.operand.Reg.TheVariants.{Eax, Ecx, Edx, Ebx}
use Rattle.x86_types.specs.declared.width.Width.{Width}
use Rattle.x86_types.specs.declared.width.Width.TheVariants.{One, Two, Four}
use Rattle.x86_types.specs.declared.instr.Instr.TheVariants as instr
use Rattle.x86_types.specs.Numbers.{size_of}
use Rattle.memory.specs.Memory.{Memory, Stored, Load, Store, allows_all, bytes_at, put_all, store_all}
use Rattle.memory.specs.SystemCall.{Called, Ends, Gives, system_call}
use Rattle.memory.specs.CallLaws.{CallIsKept, StoresBytes}
use Rattle.memory.specs.LessSpecified.{MemoryLessSpecified, StoresLessSpecified, RequestLessSpecified, EndLessSpecified, CalledLessSpecified}
use Rattle.x86_meaning.specs.Step.{request_of, with_result}
use Rattle.flag_ir.specs.declared.variable.Var.{Var}
use Rattle.flag_ir.specs.declared.variable.Var.TheVariants as var
use Rattle.flag_ir.specs.declared.variable.Term.{Term}
use Rattle.flag_ir.specs.declared.variable.Term.TheVariants as term
use Rattle.flag_ir.specs.Storage.{Storage, put_var, var_in, term_in}
use Rattle.flag_ir.specs.Operations.{and_then, needed, load, store, with_memory, called, labels_of, call_in, request_in}
use Rattle.flag_ir.specs.Form.{IsVar, IsTerm}
use Rattle.named_code.specs.declared.slot.Slot.TheVariants.{Fixed, Name}
use Rattle.named_code.specs.Items.{Item, named_item, place_of}
use Rattle.named_code.specs.Running.{CodeState, after_call, act}
use Rattle.instr_choose.specs.Lists.{made, slot_of, copy, load_by, store_by, choose_store, choose_system}
use Rattle.instr_choose.specs.Relation.{place_of_var, IsBelow}
use Rattle.instr_choose.proofs.Items.{with_place, put_is, copy_is, call_is}
use Rattle.instr_choose.proofs.Accesses.{IsAddress, after_load, load_is, after_store, from_of, store_is}
use Rattle.instr_choose.proofs.Below.{here, elsewhere, but, scratch, sets}
use Rattle.instr_choose.proofs.Comparing.{fits}
use Rattle.instr_choose.proofs.Rules.{Comes, then, shows, fails, ends, needs}
use Rattle.instr_choose.proofs.Choosing.{LawsBelow, value_below, result}

zero_byte : ByteLessSpecified (byte.Known 0) (byte.Known 0)
zero_byte = (refl, omega arith)

padded_less : (w : Width) (m n : Memory) (a : ℕ) → BytesLessSpecified (bytes_at m a (size_of w)) (bytes_at n a (size_of w)) → WordLessSpecified (padded (bytes_at m a (size_of w))) (padded (bytes_at n a (size_of w)))
unfolding bytes_at
padded_less One m n a h = record { b0 = h.0; b1 = zero_byte; b2 = zero_byte; b3 = zero_byte }
padded_less Two m n a h = record { b0 = h.0; b1 = h.1.0; b2 = zero_byte; b3 = zero_byte }
padded_less Four m n a h = record { b0 = h.0; b1 = h.1.0; b2 = h.1.1.0; b3 = h.1.1.1.0 }

taken_less : (w : Width) (x y : Word) → WordLessSpecified x y → BytesLessSpecified (take (size_of w) (word_list x)) (take (size_of w) (word_list y))
taken_less One x y h = (h.b0, refl)
taken_less Two x y h = (h.b0, (h.b1, refl))
taken_less Four x y h = (h.b0, (h.b1, (h.b2, (h.b3, refl))))

pub same_end : {A : Type 0} (e : End) (x y : A) → e ≢ Unspecified → EndLessSpecified e x y → x ≡ y
same_end (Exited n) x y d h = h
same_end MemoryFault x y d h = h
same_end DivideFault x y d h = h
same_end Outside x y d h = h
same_end (OtherCall n) x y d h = h
same_end Unspecified x y d h = absurd (d refl)
same_end (Guard k a) x y d h = h
same_end (Stopped a) x y d h = h

-- another memory and another outside
moved_below : (u : Storage) (s : CodeState) (m n : Memory) (left : Environment) → MemoryLessSpecified m n → IsEnvironment left → IsBelow u s → IsBelow (record u { memory = m; left = left }) (record s { memory = n; left = left })
moved_below u s m n left l e h = record { vars = each; memory = l; left = refl; environment = e; frames = h.frames }
  where
    each : (v : Var) → IsVar 0 v → WordLessSpecified (var_in v (record u { memory = m; left = left })) (s.cpu.regs (place_of_var v))
    each (var.Reg k) i = h.vars (var.Reg k) i
    each (var.Flag k) i = h.vars (var.Flag k) i
    each (var.Temp k) i = h.vars (var.Temp k) i
    each (var.Local k) i = h.vars (var.Local k) i

stored_below : (u : Storage) (s : CodeState) (m n : Memory) → MemoryLessSpecified m n → IsBelow u s → IsBelow (with_memory u m) (record s { memory = n })
stored_below u s m n l h = record { vars = each; memory = l; left = h.left; environment = h.environment; frames = h.frames }
  where
    each : (v : Var) → IsVar 0 v → WordLessSpecified (var_in v (with_memory u m)) (s.cpu.regs (place_of_var v))
    each (var.Reg k) i = h.vars (var.Reg k) i
    each (var.Flag k) i = h.vars (var.Flag k) i
    each (var.Temp k) i = h.vars (var.Temp k) i
    each (var.Local k) i = h.vars (var.Local k) i

stores_themselves : (stores : List Stored) → StoresBytes stores → StoresLessSpecified stores stores
stores_themselves [] h = refl
stores_themselves (x ∷ xs) h = (refl, bytes_themselves x.bytes (All-head (λ (s : Stored). All IsByte s.bytes) x xs h), stores_themselves xs (All-tail (λ (s : Stored). All IsByte s.bytes) x xs h))
  where
    bytes_themselves : (bs : List Byte) → All IsByte bs → BytesLessSpecified bs bs
    bytes_themselves [] h = refl
    bytes_themselves (byte.Known a ∷ bs) h = ((refl, All-head IsByte (byte.Known a) bs h), bytes_themselves bs (All-tail IsByte (byte.Known a) bs h))
    bytes_themselves (byte.Unspecified ∷ bs) h = (tt, bytes_themselves bs (All-tail IsByte byte.Unspecified bs h))

module _ (laws : LawsBelow) where
  pub address_is : (t : Term) (u : Storage) (s : CodeState) (a : ℕ) → IsTerm 0 t → IsBelow u s → known (term_in t u) ≡ Some a → IsAddress t s a
  address_is t u s a i h e = (laws.less.same_word _ _ a (value_below laws t u s i h) e, (fits laws.less laws.words _ _ a (value_below laws t u s i h) e).1)

  pub load_meets : (w : Width) (t : Var) (at : Term) (u : Storage) (s : CodeState) → IsVar 0 t → IsTerm 0 at → IsBelow u s
      → Comes (and_then (needed (known (term_in at u))) (λ a. and_then (load (size_of w) u.memory a) (λ v. Ok (put_var t v u)))) [] (named_item (load_by w (slot_of t) at) ∷ []) s
  load_meets w t at u s i j h = needs (known (term_in at u)) (λ a e. by a (address_is at u s a j h e) (allows_all Load u.memory a (size_of w)) refl)
    where
      by : (a : ℕ) → IsAddress at s a → (b : Bool) → allows_all Load u.memory a (size_of w) ≡ b → Comes (and_then (cond b (Ok (padded (bytes_at u.memory a (size_of w)))) (Err MemoryFault)) (λ v. Ok (put_var t v u))) [] (named_item (load_by w (slot_of t) at) ∷ []) s
      by a at_a true e =
          let v = padded (bytes_at s.memory a (size_of w)) in
          let allowed : allows_all Load s.memory a (size_of w) ≡ true = sym (laws.memory.allows Load u.memory s.memory a (size_of w) h.memory) ∙ e in
          then (with_place (place_of_var t) v s) (λ rest. load_is w (slot_of t) at s a at_a rest ∙ ap (λ (b : Bool). after_load b (place_of_var t) v rest s) allowed)
          (ends (sets t u s _ v i (padded_less w u.memory s.memory a (laws.memory.bytes u.memory s.memory a (size_of w) h.memory)) (but t u s h)))
      by a at_a false e =
          let v = padded (bytes_at s.memory a (size_of w)) in
          let allowed : allows_all Load s.memory a (size_of w) ≡ false = sym (laws.memory.allows Load u.memory s.memory a (size_of w) h.memory) ∙ e in
          fails (λ d rest. load_is w (slot_of t) at s a at_a rest ∙ ap (λ (b : Bool). after_load b (place_of_var t) v rest s) allowed)

  -- a store from a place
  stores : (w : Width) (at : Term) (x : Word) (from : Option Var) (u : Storage) (s : CodeState) → IsTerm 0 at → WordLessSpecified x (s.cpu.regs (place_of (from_of from))) → IsBelow u s
      → Comes (and_then (needed (known (term_in at u))) (λ a. and_then (store (size_of w) x u.memory a) (λ m. Ok (with_memory u m)))) [] (named_item (store_by w at (from_of from)) ∷ []) s
  stores w at x from u s j k h = needs (known (term_in at u)) (λ a e. by a (address_is at u s a j h e) (allows_all Store u.memory a (size_of w)) refl)
    where
      by : (a : ℕ) → IsAddress at s a → (b : Bool) → allows_all Store u.memory a (size_of w) ≡ b → Comes (and_then (cond b (Ok (put_all a (take (size_of w) (word_list x)) u.memory)) (Err MemoryFault)) (λ m. Ok (with_memory u m))) [] (named_item (store_by w at (from_of from)) ∷ []) s
      by a at_a true e =
          let bs = take (size_of w) (word_list (s.cpu.regs (place_of (from_of from)))) in
          let allowed : allows_all Store s.memory a (size_of w) ≡ true = sym (laws.memory.allows Store u.memory s.memory a (size_of w) h.memory) ∙ e in
          then (record s { memory = put_all a bs s.memory }) (λ rest. store_is w at from s a at_a rest ∙ ap (λ (b : Bool). after_store b a bs rest s) allowed)
          (ends (stored_below u s _ _ (laws.memory.put u.memory s.memory a _ bs (taken_less w x _ k) h.memory) h))
      by a at_a false e =
          let bs = take (size_of w) (word_list (s.cpu.regs (place_of (from_of from)))) in
          let allowed : allows_all Store s.memory a (size_of w) ≡ false = sym (laws.memory.allows Store u.memory s.memory a (size_of w) h.memory) ∙ e in
          fails (λ d rest. store_is w at from s a at_a rest ∙ ap (λ (b : Bool). after_store b a bs rest s) allowed)

  pub store_meets : (w : Width) (at from : Term) (u : Storage) (s : CodeState) → IsTerm 0 at → IsTerm 0 from → IsBelow u s
      → Comes (and_then (needed (known (term_in at u))) (λ a. and_then (store (size_of w) (term_in from u) u.memory a) (λ m. Ok (with_memory u m)))) [] (map named_item (choose_store w at from)) s
  store_meets w at (term.Var v) u s i j h = stores w at (var_in v u) (Some v) u s i (h.vars v j) h
  store_meets w at (term.Word n) u s i j h =
      let s1 = with_place 0 (word_of n) s in
      then s1 (put_is (Fixed Eax) (term.Word n) s)
      (stores w at (word_of n) None u s1 i (subst (WordLessSpecified (word_of n)) (sym (here 0 (word_of n) s.cpu.regs)) (value_below laws (term.Word n) u s tt h)) (scratch u s 0 (word_of n) (omega arith) h))

  -- ---- a call
  by_called : (c d : Called) (u : Storage) (s : CodeState) → CalledLessSpecified c d → CallIsKept c → ((rest : List Item) → act (named_item (made instr.Int80 [])) rest s ≡ after_call d rest s) → IsBelow u s
      → Comes (called c u) (labels_of c) (map named_item (made instr.Int80 [] ∷ copy (Name 0) (Fixed Eax) ∷ [])) s
  by_called (Ends e) d u s less kept is h = fails (λ defined rest. is rest ∙ ap (λ (c : Called). after_call c rest s) (sym (same_end e (Ends e) d defined less)))
  by_called (Gives ls n stores left) d u s less kept is h =
      let s1 : CodeState = record { cpu = with_result n s.cpu; memory = store_all stores s.memory; left = left } in
      let u1 : Storage = record u { memory = store_all stores u.memory; left = left } in
      let moved = moved_below u s _ _ left (laws.memory.stored u.memory s.memory stores stores (stores_themselves stores kept.0) h.memory) kept.1 h in
      let below : IsBelow u1 s1 = scratch u1 _ 0 (word_of n) (omega arith) moved in
      subst (λ (ks : List Label). Comes (called (Gives ls n stores left) u) ks (map named_item (made instr.Int80 [] ∷ copy (Name 0) (Fixed Eax) ∷ [])) s) (append-nil ls)
      (shows s1 (λ rest. is rest ∙ ap (λ (c : Called). after_call c rest s) less)
      (result laws (var.Reg 0) (word_of n) (Fixed Eax) u1 s1 (omega arith) (subst (WordLessSpecified (word_of n)) (sym (here 0 (word_of n) s.cpu.regs)) (value_below laws (term.Word n) u s tt h)) below))

  -- the registers by which it is asked
  abbrev pub asked_number : CodeState → CodeState
  asked_number s = with_place 0 (s.cpu.regs 8) s

  abbrev pub asked_fd : CodeState → CodeState
  asked_fd s = with_place 3 ((asked_number s).cpu.regs 11) (asked_number s)

  abbrev pub asked_at : CodeState → CodeState
  asked_at s = with_place 1 ((asked_fd s).cpu.regs 9) (asked_fd s)

  abbrev pub asked_count : CodeState → CodeState
  asked_count s = with_place 2 ((asked_at s).cpu.regs 10) (asked_at s)

  pub asks_less : (u : Storage) (s : CodeState) → IsBelow u s → RequestLessSpecified (request_in u) (request_of (asked_count s).cpu)
  asks_less u s h =
      let s1 = asked_number s in
      let h1 = scratch u s 0 (s.cpu.regs 8) (omega arith) h in
      let s2 = asked_fd s in
      let h2 = scratch u s1 3 (s1.cpu.regs 11) (omega arith) h1 in
      let s3 = asked_at s in
      let h3 = scratch u s2 1 (s2.cpu.regs 9) (omega arith) h2 in
      record {
        number = subst (WordLessSpecified (u.regs 0)) (sym (elsewhere 2 0 (s3.cpu.regs 10) s3.cpu.regs (λ e. omega (arith, e)) ∙ elsewhere 1 0 (s2.cpu.regs 9) s2.cpu.regs (λ e. omega (arith, e)) ∙ elsewhere 3 0 (s1.cpu.regs 11) s1.cpu.regs (λ e. omega (arith, e)) ∙ here 0 (s.cpu.regs 8) s.cpu.regs)) (h.vars (var.Reg 0) (omega arith));
        fd = subst (WordLessSpecified (u.regs 3)) (sym (elsewhere 2 3 (s3.cpu.regs 10) s3.cpu.regs (λ e. omega (arith, e)) ∙ elsewhere 1 3 (s2.cpu.regs 9) s2.cpu.regs (λ e. omega (arith, e)) ∙ here 3 (s1.cpu.regs 11) s1.cpu.regs)) (h1.vars (var.Reg 3) (omega arith));
        at = subst (WordLessSpecified (u.regs 1)) (sym (elsewhere 2 1 (s3.cpu.regs 10) s3.cpu.regs (λ e. omega (arith, e)) ∙ here 1 (s2.cpu.regs 9) s2.cpu.regs)) (h2.vars (var.Reg 1) (omega arith));
        count = subst (WordLessSpecified (u.regs 2)) (sym (here 2 (s3.cpu.regs 10) s3.cpu.regs)) (h3.vars (var.Reg 2) (omega arith));
      }

  pub system_meets : (u : Storage) (s : CodeState) → IsBelow u s → Comes (called (call_in u) u) (labels_of (call_in u)) (map named_item choose_system) s
  system_meets u s h =
      let s1 = asked_number s in
      let s2 = asked_fd s in
      let s3 = asked_at s in
      let s4 = asked_count s in
      let h4 = scratch u s3 2 (s3.cpu.regs 10) (omega arith) (scratch u s2 1 (s2.cpu.regs 9) (omega arith) (scratch u s1 3 (s1.cpu.regs 11) (omega arith) (scratch u s 0 (s.cpu.regs 8) (omega arith) h))) in
      let same : CalledLessSpecified (call_in u) (system_call (request_of s4.cpu) s4.memory s4.left) =
      subst (λ (l : Environment). CalledLessSpecified (call_in u) (system_call (request_of s4.cpu) s4.memory l)) h.left (laws.memory.call (request_in u) (request_of s4.cpu) u.memory s.memory u.left (asks_less u s h) h.memory) in
      then s1 (copy_is (Fixed Eax) (Name 0) s)
      (then s2 (copy_is (Fixed Ebx) (Name 3) s1)
      (then s3 (copy_is (Fixed Ecx) (Name 1) s2)
      (then s4 (copy_is (Fixed Edx) (Name 2) s3)
      (by_called (call_in u) (system_call (request_of s4.cpu) s4.memory s4.left) u s4 same (laws.calls.keep_environment (request_in u) u.memory u.left h.environment) (call_is s4) h4))))
