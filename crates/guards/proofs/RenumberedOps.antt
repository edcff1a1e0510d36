-- An operation with other numbers of temporaries does the same, where those that it writes are told apart from all others.
use Rattle.std.proofs.Common.{◌≡◌, ℕ, ℤ, ◌||◌, Bool, true, false, cond, List, [], ◌∷◌, take, Option, Some, None, Result, Ok, Err, refl, ap, ◌∙◌}
use Rattle.std.specs.Bool.{nat_eq}
use Rattle.std.specs.List.{list_any}
use Rattle.std.proofs.lemmas.Bool.{eq-eqb}
use Rattle.x86_values.specs.declared.word.Word.{Word}
use Rattle.x86_values.specs.declared.divided.Divided.{Divided}
use Rattle.x86_values.specs.declared.divided.Divided.TheVariants as divided
use Rattle.x86_values.specs.Divisions.{divide}
use Rattle.x86_values.specs.Words.{known, word_list}
use Rattle.x86_values.specs.Sizes.{no_word}
use Rattle.traces.specs.Trace.{End, Stopped}
use Rattle.memory.specs.SystemCall.{Called, Ends, Gives}
use Rattle.flag_ir.specs.declared.variable.Var.{Var}
use Rattle.flag_ir.specs.declared.variable.Var.TheVariants as var
use Rattle.flag_ir.specs.declared.variable.Term.{Term}
use Rattle.flag_ir.specs.declared.variable.Term.TheVariants as term
use Rattle.flag_ir.specs.declared.operation.Op.{Op}
use Rattle.flag_ir.specs.declared.operation.Op.TheVariants as op
use Rattle.flag_ir.specs.Calculations.{calculate}
use Rattle.flag_ir.specs.Storage.{Frame, Storage, put_var, var_in, term_in}
use Rattle.flag_ir.specs.Frames.{reached_frames, all_covered, put_near_all, is_judged}
use Rattle.flag_ir.specs.Operations.{and_then, needed, load, store, with_memory, with_frame, near_load, near_store, get_of, put_of, in_frames, judged_buffer, near_call_by, labels_of, called, called_near, call_in, near_call_in, near_system, buffer_in, picked, divided_into, perform, shown_by}
use Rattle.guards.specs.Renumbering.{renumbered_var, renumbered_term, renumbered_op, temp_of, temps_written}
use Rattle.guards.proofs.Numbering.{AreTold, told_first, told_rest}

-- ---- results, mapped
abbrev pub mapped : {A B : Type 0} → (A → B) → Result A End → Result B End
mapped f (Ok a) = Ok (f a)
mapped f (Err e) = Err e

pub then_mapped : {A B C : Type 0} (f : B → C) (r : Result A End) (g : A → Result C End) (h : A → Result B End) → ((a : A) → g a ≡ mapped f (h a)) → and_then r g ≡ mapped f (and_then r h)
then_mapped f (Ok a) g h same = same a
then_mapped f (Err e) g h same = refl

pub cond_mapped : {A B : Type 0} (f : A → B) (b : Bool) (p q : Result B End) (r s : Result A End) → p ≡ mapped f r → q ≡ mapped f s → cond b p q ≡ mapped f (cond b r s)
cond_mapped f true p q r s g h = g
cond_mapped f false p q r s g h = h

pub frame_mapped : {A B : Type 0} (f : A → B) (frames : List Frame) (p : Result B End) (r : Result A End) → p ≡ mapped f r → with_frame frames p ≡ mapped f (with_frame frames r)
frame_mapped f [] p r g = refl
frame_mapped f (x ∷ xs) p r g = g

-- ---- a storage whose temporaries are those with the new numbers
abbrev pub renamed : (ℕ → ℕ) → Storage → Storage
renamed f v = record v { temps = λ k. v.temps (f k) }

module _ (f : ℕ → ℕ) where
  -- the same is read
  pub var_read : (x : Var) (v : Storage) → var_in x (renamed f v) ≡ var_in (renumbered_var f x) v
  var_read (var.Reg n) v = refl
  var_read (var.Flag n) v = refl
  var_read (var.Temp n) v = refl
  var_read (var.Local n) v = refl

  pub term_read : (t : Term) (v : Storage) → term_in t (renamed f v) ≡ term_in (renumbered_term f t) v
  term_read (term.Var x) v = var_read x v
  term_read (term.Word n) v = refl

  -- the same is put
  alone : (n : ℕ) → list_any (nat_eq n) (n ∷ []) ≡ true
  alone n = ap (λ b. b || false) (eq-eqb n n refl)

  put_renamed : (x : Var) (w : Word) (v : Storage) → AreTold f (temp_of x) → put_var x w (renamed f v) ≡ renamed f (put_var (renumbered_var f x) w v)
  put_renamed (var.Reg n) w v told = refl
  put_renamed (var.Flag n) w v told = refl
  put_renamed (var.Temp n) w v told = λ i. record v { temps = λ k. cond (told n (alone n) k i) w (v.temps (f k)) }
  put_renamed (var.Local n) w v told = refl

  put_same : (x : Var) (w z : Word) (v : Storage) → AreTold f (temp_of x) → w ≡ z → put_var x w (renamed f v) ≡ renamed f (put_var (renumbered_var f x) z v)
  put_same x w z v told e = ap (λ y. put_var x y (renamed f v)) e ∙ put_renamed x z v told

  -- ---- the parts of operations
  divided_renamed : (d : Divided) (q r : Var) (v : Storage) → AreTold f (temp_of q) → AreTold f (temp_of r) → divided_into d q r (renamed f v) ≡ mapped (renamed f) (divided_into d (renumbered_var f q) (renumbered_var f r) v)
  divided_renamed (divided.Got a b) q r v first second = ap (λ u. Ok (put_var r b u)) (put_renamed q a v first) ∙ ap Ok (put_renamed r b (put_var (renumbered_var f q) a v) second)
  divided_renamed divided.Fault q r v first second = refl
  divided_renamed divided.Unspecified q r v first second = refl

  called_renamed : (c : Called) (v : Storage) → called c (renamed f v) ≡ mapped (renamed f) (called c v)
  called_renamed (Ends e) v = refl
  called_renamed (Gives labels result stores left) v = refl

  called_near_renamed : (c : Called) (v : Storage) → called_near c (renamed f v) ≡ mapped (renamed f) (called_near c v)
  called_near_renamed (Ends e) v = refl
  called_near_renamed (Gives labels result stores left) v = refl

  system_renamed : (turn : ℕ) (o : Option (ℕ × ℕ)) (v : Storage) → near_system turn o (renamed f v) ≡ mapped (renamed f) (near_system turn o v)
  system_renamed turn None v = called_renamed (call_in v) v
  system_renamed turn (Some p) v = cond_mapped (renamed f) _ _ _ _ _ (called_near_renamed (near_call_in v) v) refl

  put_of_renamed : (size : ℕ) (offset : ℤ) (w : Word) (v : Storage) (frames : List Frame) → put_of size offset w (renamed f v) frames ≡ mapped (renamed f) (put_of size offset w v frames)
  put_of_renamed size offset w v [] = refl
  put_of_renamed size offset w v (x ∷ xs) = cond_mapped (renamed f) _ _ _ _ _ refl refl

  near_stored : (turn size : ℕ) (w : Word) (v : Storage) (at : ℕ) → near_store turn size w (renamed f v) at ≡ mapped (renamed f) (near_store turn size w v at)
  near_stored turn size w v at =
      frame_mapped (renamed f) v.frames (cond (is_judged at v) (near (renamed f v)) (plain (renamed f v))) (cond (is_judged at v) (near v) (plain v))
      (cond_mapped (renamed f) (is_judged at v) (near (renamed f v)) (plain (renamed f v)) (near v) (plain v)
      (cond_mapped (renamed f) (all_covered (reached_frames v.frames) at size) (Ok (put_near (renamed f v))) (Err (Stopped turn)) (Ok (put_near v)) (Err (Stopped turn)) refl refl)
      (then_mapped (renamed f) (store size w v.memory at) (λ m. Ok (with_memory (renamed f v) m)) (λ m. Ok (with_memory v m)) (λ m. refl)))
    where
      put_near : Storage → Storage
      put_near u = record u { frames = put_near_all at (take size (word_list w)) u.frames }

      near : Storage → Result Storage End
      near u = in_frames turn u at size (Ok (put_near u))

      plain : Storage → Result Storage End
      plain u = and_then (store size w u.memory at) (λ m. Ok (with_memory u m))

  judged_same : (v : Storage) (number fd at n : Option ℕ) → judged_buffer (renamed f v) number fd at n ≡ judged_buffer v number fd at n
  judged_same v (Some number) (Some fd) (Some at) (Some n) = refl
  judged_same v None fd at n = refl
  judged_same v (Some number) None at n = refl
  judged_same v (Some number) (Some fd) None n = refl
  judged_same v (Some number) (Some fd) (Some at) None = refl

  buffer_same : (v : Storage) → buffer_in (renamed f v) ≡ buffer_in v
  buffer_same v = judged_same v (known (v.regs 0)) (known (v.regs 3)) (known (v.regs 1)) (known (v.regs 2))

  near_call_same : (o : Option (ℕ × ℕ)) (v : Storage) → near_call_by o (renamed f v) ≡ near_call_by o v
  near_call_same None v = refl
  near_call_same (Some p) v = refl

  -- ---- operations
  pub op_renamed : (turn : ℕ) (o : Op) (v : Storage) → AreTold f (temps_written o) → perform turn o (renamed f v) ≡ mapped (renamed f) (perform turn (renumbered_op f o) v)
  unfolding perform
  op_renamed turn (op.Set to from) v told = ap Ok (put_same to _ _ v told (term_read from v))
  op_renamed turn (op.Calc to c left right) v told = ap Ok (put_same to _ _ v told (λ i. calculate c (term_read left v i) (term_read right v i)))
  op_renamed turn (op.Forget to) v told = ap Ok (put_renamed to no_word v told)
  op_renamed turn (op.Pick to test x y) v told = ap Ok (put_same to _ _ v told (λ i. picked (known (term_read test v i)) (term_read x v i) (term_read y v i)))
  op_renamed turn (op.Need from) v told = ap (λ w. and_then (needed (known w)) (λ n. Ok (renamed f v))) (term_read from v) ∙ then_mapped (renamed f) (needed (known (term_in (renumbered_term f from) v))) (λ n. Ok (renamed f v)) (λ n. Ok v) (λ n. refl)
  op_renamed turn (op.Divide q r high low by size signed) v told =
      ap (λ d. divided_into d q r (renamed f v)) (λ i. divide signed size (term_read high v i) (term_read low v i) (term_read by v i))
      ∙ divided_renamed _ q r v (told_first f (temp_of q) (temp_of r) told) (told_rest f (temp_of q) (temp_of r) told)
  op_renamed turn (op.Load to size at) v told =
      ap (λ w. and_then (needed (known w)) (λ a. and_then (load size v.memory a) (λ z. Ok (put_var to z (renamed f v))))) (term_read at v)
      ∙ then_mapped (renamed f) (needed (known (term_in (renumbered_term f at) v))) _ _ (λ a. then_mapped (renamed f) (load size v.memory a) _ _ (λ w. ap Ok (put_renamed to w v told)))
  op_renamed turn (op.Store size at from) v told =
      (λ i. and_then (needed (known (term_read at v i))) (λ a. and_then (store size (term_read from v i) v.memory a) (λ m. Ok (with_memory (renamed f v) m))))
      ∙ then_mapped (renamed f) (needed (known (term_in (renumbered_term f at) v))) _ _ (λ a. then_mapped (renamed f) (store size (term_in (renumbered_term f from) v) v.memory a) _ _ (λ m. refl))
  op_renamed turn (op.NearLoad to size at) v told =
      ap (λ w. and_then (needed (known w)) (λ a. and_then (near_load turn size v a) (λ z. Ok (put_var to z (renamed f v))))) (term_read at v)
      ∙ then_mapped (renamed f) (needed (known (term_in (renumbered_term f at) v))) _ _ (λ a. then_mapped (renamed f) (near_load turn size v a) _ _ (λ w. ap Ok (put_renamed to w v told)))
  op_renamed turn (op.NearStore size at from) v told =
      (λ i. and_then (needed (known (term_read at v i))) (λ a. near_store turn size (term_read from v i) (renamed f v) a))
      ∙ then_mapped (renamed f) (needed (known (term_in (renumbered_term f at) v))) _ _ (λ a. near_stored turn size (term_in (renumbered_term f from) v) v a)
  op_renamed turn (op.Get to size offset) v told = then_mapped (renamed f) (get_of size offset v.memory v.frames) _ _ (λ w. ap Ok (put_renamed to w v told))
  op_renamed turn (op.Put size offset from) v told = ap (λ w. put_of size offset w (renamed f v) v.frames) (term_read from v) ∙ put_of_renamed size offset (term_in (renumbered_term f from) v) v v.frames
  op_renamed turn op.System v told = called_renamed (call_in v) v
  op_renamed turn op.NearSystem v told = frame_mapped (renamed f) v.frames (near_system turn (buffer_in (renamed f v)) (renamed f v)) (near_system turn (buffer_in v) v) (ap (λ o. near_system turn o (renamed f v)) (buffer_same v) ∙ system_renamed turn (buffer_in v) v)

  -- and shows the same
  pub op_shown : (o : Op) (v : Storage) → shown_by o (renamed f v) ≡ shown_by (renumbered_op f o) v
  op_shown (op.Set to from) v = refl
  op_shown (op.Calc to c left right) v = refl
  op_shown (op.Forget to) v = refl
  op_shown (op.Pick to test x y) v = refl
  op_shown (op.Need from) v = refl
  op_shown (op.Divide q r high low by size signed) v = refl
  op_shown (op.Load to size at) v = refl
  op_shown (op.Store size at from) v = refl
  op_shown (op.NearLoad to size at) v = refl
  op_shown (op.NearStore size at from) v = refl
  op_shown (op.Get to size offset) v = refl
  op_shown (op.Put size offset from) v = refl
  op_shown op.System v = refl
  op_shown op.NearSystem v = ap labels_of (ap (λ o. near_call_by o (renamed f v)) (buffer_same v) ∙ near_call_same (buffer_in v) v)
