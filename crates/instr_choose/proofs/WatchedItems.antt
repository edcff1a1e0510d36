-- Items of the code whose accesses are apart, up to the use of an unspecified value by the unit: along lists, and those of exits.
use Rattle.std.proofs.Common.{◌≡◌, ◌⊎◌, ℕ, ◌+◌, ◌==◌, Bool, true, false, not, cond, List, [], ◌∷◌, ◌++◌, map, length, All, Option, Some, None, Ok, refl, sym, ap, ◌∙◌, subst, append_assoc, inl, inr, arith}
use Rattle.std.proofs.lemmas.List.{append-nil}
use Rattle.std.proofs.lemmas.List.Elements.{All-nil, All-cons}
use Rattle.x86_values.specs.Words.{known}
use Rattle.x86_types.specs.declared.operand.Reg.TheVariants.{Eax}
use Rattle.x86_types.specs.declared.operation.AluOp.TheVariants as alu
use Rattle.x86_types.specs.declared.operation.Cond.TheVariants as condition_of
use Rattle.x86_types.specs.declared.width.Width.TheVariants.{Four}
use Rattle.x86_types.specs.declared.instr.Instr.TheVariants as instr
use Rattle.traces.specs.Trace.{Label, End, Outside, Unspecified, Stopped, Seen, before, Move, Stand, Go, Halt, run}
use Rattle.traces.specs.Machines.{marked}
use Rattle.traces.specs.Steps.{Reaches}
use Rattle.memory.specs.Memory.{Memory}
use Rattle.private_memory.specs.PrivateArea.{IsApartAccess}
use Rattle.flag_ir.specs.declared.variable.Term.{Term}
use Rattle.flag_ir.specs.declared.variable.Term.TheVariants as term
use Rattle.flag_ir.specs.declared.operation.Op.{Op}
use Rattle.flag_ir.specs.declared.block.Exit.{Exit}
use Rattle.flag_ir.specs.declared.block.Exit.TheVariants as exit
use Rattle.flag_ir.specs.Storage.{Frame, Storage, term_in}
use Rattle.flag_ir.specs.Operations.{and_then, needed, perform, shown_by}
use Rattle.flag_ir.specs.Entering.{CodeUnit, before_block, blocks_of, to_number, index_of_number, index_at, jump, leave}
use Rattle.flag_ir.specs.UnitRun.{Before, Within, UnitState, state_at, performed, left_for, within, next}
use Rattle.flag_ir.specs.MoveAccesses.{within_accesses, move_accesses}
use Rattle.flag_ir.specs.Form.{IsTerm, IsExit, IsFramelessExit}
use Rattle.named_code.specs.declared.slot.Slot.TheVariants.{Fixed}
use Rattle.named_code.specs.Items.{Item, CodeBlock, named_item}
use Rattle.named_code.specs.Running.{CodeState, CodePoint, AtNumber, AtOld, Inside, CodePosition, lost, act}
use Rattle.instr_choose.specs.Lists.{made, put, alu_by, load_by}
use Rattle.instr_choose.specs.Blocks.{choose_exit}
use Rattle.instr_choose.specs.Relation.{IsBelow, PassesList, done, more, ListEnds, here, later}
use Rattle.instr_choose.specs.Marks.{marks_of}
use Rattle.instr_choose.specs.States.{LeadsTo, HasNoZero}
use Rattle.named_code.specs.TestedRun.{item_accesses}
use Rattle.instr_choose.specs.Apart.{HasUsedUnspecified}
use Rattle.instr_choose.proofs.Items.{put_is}
use Rattle.instr_choose.proofs.Below.{scratch}
use Rattle.instr_choose.proofs.Naming.{code_blocks, number_missing, address_missing}
use Rattle.instr_choose.proofs.Beginnings.{Begins, same, turn}
use Rattle.instr_choose.proofs.CodeBlocks.{found}
use Rattle.instr_choose.proofs.Exits.{jump_is, nothing_is, after_branch, branch_is, after_old, old_is, lost_below, jump_to_block, with_term, term_known, compared, compared_below, tests, branches, passes, taken, leaves, zero_refused, fault_is}
use Rattle.instr_choose.proofs.QuietItems.{put_quiet, alu_quiet, jump_quiet, branch_quiet, old_quiet, nothing_quiet}
use Rattle.instr_choose.proofs.SafeLists.{AreApart, IsSafePath, none_apart, quiet_path, load_accesses}
use Rattle.instr_choose.proofs.Meets.{UnitLawsBelow, IsAsked, target}

-- what holds where a move goes on
abbrev pub OnGo : (List Label → CodePosition → Type 0) → Move CodePosition → Type 0
OnGo P (Stand ls e) = Unit {0}
OnGo P (Go ls q) = P ls q
OnGo P (Halt ls e) = Unit {0}

-- a move behind the beginning of a turn
begun_go : {S : Type 0} (step : S → Move S) (s t : S) (bs ks : List Label) (v : S) → Begins step s t bs → step t ≡ Go ks v → step s ≡ Go (bs ++ ks) v
begun_go step s t _ ks v (same e) g = e ∙ g
begun_go step s t _ ks v (turn a e) g = e ∙ ap (marked a) g

begun_halt : {S : Type 0} (step : S → Move S) (s t : S) (bs ks : List Label) (f : End) → Begins step s t bs → step t ≡ Halt ks f → step s ≡ Halt (bs ++ ks) f
begun_halt step s t _ ks f (same e) g = e ∙ g
begun_halt step s t _ ks f (turn a e) g = e ∙ ap (marked a) g

module _ (laws : UnitLawsBelow) (u : CodeUnit) (asked : IsAsked u) (start : UnitState) (apart : (n : ℕ) (ls : List Label) (t : UnitState) → Reaches (next u) start n ls t → All (IsApartAccess t.storage.memory) (move_accesses u t)) where
  abbrev pub code : List CodeBlock
  code = code_blocks u.whole

  abbrev pub step : CodePosition → Move CodePosition
  step = target laws u asked

  abbrev pub Used : List Label → Type 0
  Used ls = HasUsedUnspecified (run (next u) start) ls

  pub used_more : (ls ks : List Label) → Used ls → Used (ls ++ ks)
  used_more ls ks h = record { steps = h.steps; ended = h.ended; first = (h.first.0 ++ ks, ap (λ xs. xs ++ ks) h.first.1 ∙ append_assoc _ h.first.0 ks) }

  -- ---- the unit at operations and an exit, with these labels shown, those of a turn that begins with the first of them too
  pub record UnitAt (ls : List Label) (t : ℕ) (ops : List Op) (e : Exit) (w : Storage) : Type 0 where
    pub steps : ℕ
    pub shown : List Label
    pub state : UnitState
    pub reaches : Reaches (next u) start steps shown state
    pub turned : List Label
    pub begun : Begins (next u) state (state_at t (Within ops e) w) turned
    pub is : ls ≡ shown ++ turned
    pub same_accesses : move_accesses u state ≡ within_accesses u ops e w
    pub same_memory : state.storage.memory ≡ w.memory

  relabel : (ls ks : List Label) (t : ℕ) (ops : List Op) (e : Exit) (w : Storage) → ls ≡ ks → UnitAt ls t ops e w → UnitAt ks t ops e w
  relabel ls ks t ops e w eq h = subst (λ xs. UnitAt xs t ops e w) eq h

  pub unit_apart : (ls : List Label) (t : ℕ) (ops : List Op) (e : Exit) (w : Storage) → UnitAt ls t ops e w → All (IsApartAccess w.memory) (within_accesses u ops e w)
  unit_apart ls t ops e w h = subst (λ (m : Memory). All (IsApartAccess m) (within_accesses u ops e w)) h.same_memory (subst (All (IsApartAccess h.state.storage.memory)) h.same_accesses (apart h.steps h.shown h.state h.reaches))

  reach_more : (ls : List Label) (t : ℕ) (ops : List Op) (e : Exit) (w : Storage) (h : UnitAt ls t ops e w) (ks : List Label) (v : UnitState) → within u t ops e w ≡ Go ks v → Reaches (next u) start (h.steps + 1) (ls ++ ks) v
  reach_more ls t ops e w h ks v g =
      let go = begun_go (next u) h.state (state_at t (Within ops e) w) h.turned ks v h.begun (laws.units.moves.by_within u t ops e w ∙ g) in
      subst (λ xs. Reaches (next u) start (h.steps + 1) xs v) (sym (append_assoc h.shown h.turned ks) ∙ ap (λ xs. xs ++ ks) (sym h.is))
      (laws.unit_runs.reaches_then (next u) start h.steps h.shown h.state 1 (h.turned ++ ks) v h.reaches (laws.unit_runs.reaches_step (next u) h.state (h.turned ++ ks) v go))

  pub unit_step : (ls : List Label) (t : ℕ) (o : Op) (os : List Op) (e : Exit) (w v : Storage) → UnitAt ls t (o ∷ os) e w → perform t o w ≡ Ok v → UnitAt (ls ++ shown_by o w) t os e v
  unit_step ls t o os e w v h is = record {
    steps = h.steps + 1;
    shown = ls ++ shown_by o w;
    state = state_at t (Within os e) v;
    reaches = reach_more ls t (o ∷ os) e w h (shown_by o w) (state_at t (Within os e) v) (ap (λ r. performed t (shown_by o w) r os e) is);
    turned = [];
    begun = same refl;
    is = sym (append-nil (ls ++ shown_by o w));
    same_accesses = refl;
    same_memory = refl;
  }

  pub unit_used : (ls : List Label) (t : ℕ) (ops : List Op) (e : Exit) (w : Storage) → UnitAt ls t ops e w → within u t ops e w ≡ Halt [] Unspecified → Used ls
  unit_used ls t ops e w h g =
      let halt = begun_halt (next u) h.state (state_at t (Within ops e) w) h.turned [] Unspecified h.begun (laws.units.moves.by_within u t ops e w ∙ g) in
      let whole = laws.unit_runs.reaches_run (next u) start h.steps h.shown h.state h.reaches 1 ∙ ap (before h.shown) (laws.unit_runs.run_halt (next u) h.state (h.turned ++ []) Unspecified halt 0) in
      let trace : (run (next u) start (h.steps + 1)).trace ≡ ls = ap (λ (z : Seen). z.trace) whole ∙ (ap (λ xs. h.shown ++ xs) (append-nil h.turned) ∙ sym h.is) in
      record { steps = h.steps + 1; ended = ap (λ (z : Seen). z.end) whole; first = ([], sym trace ∙ sym (append-nil (run (next u) start (h.steps + 1)).trace)) }

  -- ---- the code at a jump
  pub data AtJump (ls : List Label) (p : CodePoint) (s : CodeState) : Type 0 where
    leads : (t : ℕ) → (k : ℕ) → (x : Storage) → (n : ℕ) → Reaches (next u) start n ls (state_at t (Before k) x) → LeadsTo u.whole p (Before k) → IsBelow x s → HasNoZero x.memory → AtJump ls p s
    nowhere : found laws.code_runs (marks_of u) code p ≡ None → AtJump ls p s
    excused : Used ls → AtJump ls p s

  -- ---- the code within a block: the accesses of the first item are apart, and what follows is so, or the unit has used an unspecified value
  abbrev pub BehindItem : (List Label → CodeState → Type 0) → List Item → List Label → CodePoint → CodeState → Type 0
  BehindItem G xs ls (Inside items) t = (items ≡ xs) × G ls t
  BehindItem G xs ls (AtNumber n) t = AtJump ls (AtNumber n) t
  BehindItem G xs ls (AtOld a) t = AtJump ls (AtOld a) t

  abbrev pub IsWatched : List Item → List Label → CodeState → Type 0
  IsWatched [] ls s = Unit {0}
  IsWatched (x ∷ xs) ls s = (AreApart s (item_accesses x s) × OnGo (λ ks q. BehindItem (IsWatched xs) xs (ls ++ ks) q.point q.state) (act x xs s)) ⊎ Used ls

  abbrev pub Onto : List Item → List Label → Move CodePosition → Type 0
  Onto xs ls m = OnGo (λ ks q. BehindItem (IsWatched xs) xs (ls ++ ks) q.point q.state) m

  pub used_items : (xs : List Item) (ls : List Label) (s : CodeState) → Used ls → IsWatched xs ls s
  used_items [] ls s h = tt
  used_items (x ∷ xs) ls s h = inr h

  -- along a list
  pub watched_path : (xs rest : List Item) (s t : CodeState) (ks : List Label) → PassesList xs s ks t → IsSafePath xs s → (ls : List Label) → IsWatched rest (ls ++ ks) t → IsWatched (xs ++ rest) ls s
  watched_path _ rest _ t _ (done _) safe ls k = subst (λ zs. IsWatched rest zs t) (append-nil ls) k
  watched_path _ rest s t _ (more x xs _ js m ks _ h p) safe ls k =
      inl (safe.0, subst (Onto (xs ++ rest) ls) (sym (h (xs ++ rest))) (refl, watched_path xs rest m t ks p (safe.1 js m h) (ls ++ js) (subst (λ zs. IsWatched rest zs t) (sym (append_assoc ls js ks)) k)))

  pub watched_end : (xs rest : List Item) (s : CodeState) (e : End) → ListEnds xs s e → IsSafePath xs s → (ls : List Label) → IsWatched (xs ++ rest) ls s
  watched_end _ rest s e (here x xs _ _ h) safe ls = inl (safe.0, subst (Onto (xs ++ rest) ls) (sym (h (xs ++ rest))) tt)
  watched_end _ rest s e (later x xs _ t _ h f) safe ls = inl (safe.0, subst (Onto (xs ++ rest) ls) (sym (h (xs ++ rest))) (refl, watched_end xs rest t e f (safe.1 [] t h) (ls ++ [])))

  -- ---- exits
  module _ (t : ℕ) (e : Exit) (v : Storage) (s : CodeState) (below : IsBelow v s) (no_zero : HasNoZero v.memory) where
    leaves_for : (ls : List Label) (h : UnitAt ls t [] e v) (k : ℕ) (w : Storage) → leave u t e v ≡ Ok (k, w) → Reaches (next u) start (h.steps + 1) ls (state_at t (Before k) w)
    leaves_for ls h k w l = subst (λ xs. Reaches (next u) start (h.steps + 1) xs (state_at t (Before k) w)) (append-nil ls) (reach_more ls t [] e v h [] (state_at t (Before k) w) (ap (left_for t) l))

    number_jump : (n : ℕ) (c : CodeState) → IsBelow v c → leave u t e v ≡ to_number u n v → (ls : List Label) → UnitAt ls t [] e v → AtJump ls (AtNumber n) c
    number_jump n c under l ls h = cases (index_of_number n u.whole) refl
      where
        closed : leave u t e v ≡ before_block (index_of_number n u.whole) Outside v
        closed = l ∙ ap (λ (fs : List Frame). before_block (index_of_number n (blocks_of u fs)) Outside v) below.frames

        cases : (o : Option ℕ) → index_of_number n u.whole ≡ o → AtJump ls (AtNumber n) c
        cases (Some k) i = leads t k v (h.steps + 1) (leaves_for ls h k v (closed ∙ ap (λ z. before_block z Outside v) i)) i under no_zero
        cases None i = nowhere (number_missing n u.whole i)

    old_jump : (a : ℕ) (c : CodeState) → IsBelow v c → leave u t e v ≡ jump u a v → (ls : List Label) → UnitAt ls t [] e v → AtJump ls (AtOld a) c
    old_jump a c under l ls h = cases (index_at a u.whole) refl
      where
        closed : leave u t e v ≡ before_block (index_at a u.whole) (Stopped a) v
        closed = l ∙ jump_to_block u (asked.form.lowered asked.low).procs a v below.frames

        cases : (o : Option ℕ) → index_at a u.whole ≡ o → AtJump ls (AtOld a) c
        cases (Some k) i = leads t k v (h.steps + 1) (leaves_for ls h k v (closed ∙ ap (λ z. before_block z (Stopped a) v) i)) i under no_zero
        cases None i = nowhere (address_missing a u.whole i)

  abbrev pub exit_items : Exit → List Item
  exit_items e = map named_item (choose_exit e)

  more_nil : (ls : List Label) → ls ≡ ls ++ []
  more_nil ls = sym (append-nil ls)

  -- a jump by number
  watched_jump : (t : ℕ) (e : Exit) (v : Storage) (s c : CodeState) → IsBelow v s → HasNoZero v.memory → (n : ℕ) → IsBelow v c → leave u t e v ≡ to_number u n v
      → (ls : List Label) → UnitAt ls t [] e v → IsWatched (named_item (made (instr.Jmp n) []) ∷ []) ls c
  watched_jump t e v s c below no_zero n under l ls h =
      inl (none_apart c _ (jump_quiet n c), subst (Onto [] ls) (sym (jump_is n [] c)) (number_jump t e v s below no_zero n c under l (ls ++ []) (relabel ls (ls ++ []) t [] e v (more_nil ls) h)))

  module _ (t : ℕ) (v : Storage) (s : CodeState) (below : IsBelow v s) (no_zero : HasNoZero v.memory) (test : Term) (m n : ℕ) (i : IsTerm 0 test) where
    abbrev tested : CodeState
    tested = compared laws.below laws.code_runs u (marks_of u) v s below no_zero test m n i

    abbrev ways : List Item
    ways = branches laws.below laws.code_runs u (marks_of u) v s below no_zero test m n i

    under : IsBelow v tested
    under = compared_below laws.below laws.code_runs u (marks_of u) v s below no_zero test m n i

    watched_ways : (a : ℕ) → known (term_in test v) ≡ Some a → leave u t (exit.Branch test m n) v ≡ to_number u (cond (a == 0) n m) v → (ls : List Label) → UnitAt ls t [] (exit.Branch test m n) v → IsWatched ways ls tested
    watched_ways a e l ls h =
        inl (
          none_apart tested _ (branch_quiet condition_of.Ne m tested),
          subst (Onto (map named_item (made (instr.Jmp n) [] ∷ [])) ls) (sym (branch_is m (map named_item (made (instr.Jmp n) [] ∷ [])) tested ∙ ap (λ o. after_branch o m (map named_item (made (instr.Jmp n) [] ∷ [])) tested) (taken laws.below laws.code_runs u (marks_of u) v s below no_zero test m n i a e)))
              (by (a == 0) l),
        )
      where
        behind : UnitAt (ls ++ []) t [] (exit.Branch test m n) v
        behind = relabel ls (ls ++ []) t [] (exit.Branch test m n) v (more_nil ls) h

        by : (z : Bool) → leave u t (exit.Branch test m n) v ≡ to_number u (cond z n m) v → Onto (map named_item (made (instr.Jmp n) [] ∷ [])) ls (after_branch (Some (not z)) m (map named_item (made (instr.Jmp n) [] ∷ [])) tested)
        by true g = (refl, watched_jump t (exit.Branch test m n) v s tested below no_zero n under g (ls ++ []) behind)
        by false g = number_jump t (exit.Branch test m n) v s below no_zero m tested under g (ls ++ []) behind

    watched_branch : (ls : List Label) → UnitAt ls t [] (exit.Branch test m n) v → IsWatched (tests laws.below laws.code_runs u (marks_of u) v s below no_zero test m n i ++ ways) ls s
    unfolding leave
    watched_branch ls h = cases (known (term_in test v)) refl
      where
        cases : (o : Option ℕ) → known (term_in test v) ≡ o → IsWatched (tests laws.below laws.code_runs u (marks_of u) v s below no_zero test m n i ++ ways) ls s
        cases None e = used_items (tests laws.below laws.code_runs u (marks_of u) v s below no_zero test m n i ++ ways) ls s (unit_used ls t [] (exit.Branch test m n) v h (ap (λ o. left_for t (and_then (needed o) (λ a. to_number u (cond (a == 0) n m) v))) e))
        cases (Some a) e =
            watched_path (tests laws.below laws.code_runs u (marks_of u) v s below no_zero test m n i) ways s tested [] (passes laws.below laws.code_runs u (marks_of u) v s below no_zero test m n i) (quiet_path (put (Fixed Eax) test ∷ alu_by alu.Cmp (Fixed Eax) (term.Word 0) ∷ []) (put_quiet (Fixed Eax) test, (alu_quiet alu.Cmp (Fixed Eax) (term.Word 0), tt)) s) ls
            (watched_ways a e (ap (λ o. and_then (needed o) (λ b. to_number u (cond (b == 0) n m) v)) e) (ls ++ []) (relabel ls (ls ++ []) t [] (exit.Branch test m n) v (more_nil ls) h))

  module _ (t : ℕ) (v : Storage) (s : CodeState) (below : IsBelow v s) (no_zero : HasNoZero v.memory) (to : Term) (i : IsTerm 0 to) where
    abbrev moved : CodeState
    moved = with_term laws.below laws.code_runs u (marks_of u) v s below no_zero to

    abbrev way : List Item
    way = leaves laws.below laws.code_runs u (marks_of u) v s below no_zero to i

    watched_way : (a : ℕ) → known (term_in to v) ≡ Some a → leave u t (exit.Jump to) v ≡ jump u a v → (ls : List Label) → UnitAt ls t [] (exit.Jump to) v → IsWatched way ls moved
    watched_way a e l ls h =
        inl (
          none_apart moved _ (old_quiet moved),
          subst (Onto [] ls) (sym (old_is [] moved ∙ ap (λ o. after_old o moved) (term_known laws.below laws.code_runs u (marks_of u) v s below no_zero to a i e)))
              (old_jump t (exit.Jump to) v s below no_zero a (lost moved) (lost_below v moved (scratch v s 0 _ (omega arith) below)) l (ls ++ []) (relabel ls (ls ++ []) t [] (exit.Jump to) v (more_nil ls) h)),
        )

    watched_old : (ls : List Label) → UnitAt ls t [] (exit.Jump to) v → IsWatched (named_item (put (Fixed Eax) to) ∷ way) ls s
    unfolding leave
    watched_old ls h = cases (known (term_in to v)) refl
      where
        cases : (o : Option ℕ) → known (term_in to v) ≡ o → IsWatched (named_item (put (Fixed Eax) to) ∷ way) ls s
        cases None e = inr (unit_used ls t [] (exit.Jump to) v h (ap (λ o. left_for t (and_then (needed o) (λ a. jump u a v))) e))
        cases (Some a) e =
            watched_path (named_item (put (Fixed Eax) to) ∷ []) way s moved [] (more _ [] s [] moved [] moved (put_is (Fixed Eax) to s) (done moved)) (quiet_path (put (Fixed Eax) to ∷ []) (put_quiet (Fixed Eax) to, tt) s) ls
            (watched_way a e (ap (λ o. and_then (needed o) (λ b. jump u b v)) e) (ls ++ []) (relabel ls (ls ++ []) t [] (exit.Jump to) v (more_nil ls) h))

  zero_apart : (v : Storage) (s : CodeState) (below : IsBelow v s) (no_zero : HasNoZero v.memory) → AreApart s (item_accesses (named_item (load_by Four (Fixed Eax) (term.Word 0))) s)
  zero_apart v s below no_zero =
      subst (AreApart s) (sym (load_accesses Four (Fixed Eax) (term.Word 0) s 0 (laws.below.words.known_word 0 (omega arith), omega arith)))
      (All-cons (IsApartAccess s.memory) _ [] (record { elsewhere = λ all. absurd (let no : true ≡ false = sym all ∙ zero_refused laws.below laws.code_runs u (marks_of u) v s below no_zero in cc) }) (All-nil (IsApartAccess s.memory)))

  pub watched_exit : (e : Exit) (t : ℕ) (v : Storage) (s : CodeState) (ls : List Label) → IsFramelessExit e → IsExit 0 (length u.whole) u.procs e → UnitAt ls t [] e v
      → IsBelow v s → HasNoZero v.memory → IsWatched (exit_items e) ls s
  unfolding leave choose_exit
  watched_exit (exit.Go n) t v s ls f i h below no_zero = watched_jump t (exit.Go n) v s s below no_zero n below refl ls h
  watched_exit (exit.Branch test m n) t v s ls f i h below no_zero = watched_branch t v s below no_zero test m n i.0 ls h
  watched_exit (exit.Jump to) t v s ls f i h below no_zero = watched_old t v s below no_zero to i ls h
  watched_exit (exit.CallProc entry back) t v s ls f i h below no_zero = absurd f
  watched_exit exit.Return t v s ls f i h below no_zero = absurd f
  watched_exit exit.Fault t v s ls f i h below no_zero = inl (zero_apart v s below no_zero, subst (Onto [] ls) (sym (fault_is laws.below laws.code_runs u (marks_of u) v s below no_zero)) tt)
  watched_exit exit.Stop t v s ls f i h below no_zero = inl (none_apart s _ (nothing_quiet s), subst (Onto [] ls) (sym (nothing_is [] s)) (refl, tt))
