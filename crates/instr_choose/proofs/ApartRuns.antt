-- The accesses of the code's runs are apart where those of its unit's runs are.
use Rattle.std.proofs.Common.{◌≡◌, ◌⊎◌, ℕ, List, [], ◌∷◌, ◌++◌, map, length, All, Option, Some, None, Result, Ok, Err, refl, sym, ap, ◌∙◌, subst, append_assoc, inl, inr}
use Rattle.std.specs.List.{slice_get}
use Rattle.std.specs.Option.{option_map}
use Rattle.std.proofs.lemmas.List.{append-nil, map-append}
use Rattle.std.proofs.lemmas.List.Elements.{All-nil, All-head, All-tail, All-contains}
use Rattle.outside.specs.Environment.{Environment, IsEnvironment}
use Rattle.traces.specs.Trace.{Label, Turn, End, Outside, Unspecified, Move, Stand, Go, Halt}
use Rattle.traces.specs.Machines.{marked}
use Rattle.traces.specs.Steps.{Reaches, rests, goes}
use Rattle.memory.specs.Memory.{Memory, HasBytes, with_stack}
use Rattle.x86_meaning.specs.Run.{IsStart}
use Rattle.private_memory.specs.PrivateArea.{IsUsual, IsApartAccess}
use Rattle.flag_ir.specs.declared.operation.Op.{Op}
use Rattle.flag_ir.specs.declared.block.Block.{Block}
use Rattle.flag_ir.specs.declared.block.Exit.{Exit}
use Rattle.flag_ir.specs.Storage.{Storage}
use Rattle.flag_ir.specs.Operations.{perform, shown_by}
use Rattle.flag_ir.specs.Entering.{CodeUnit, blocks_of, index_at, jump}
use Rattle.flag_ir.specs.UnitRun.{Before, UnitState, state_at, performed, fresh, next, first_storage, first_state, unit_run}
use Rattle.flag_ir.specs.MoveAccesses.{begun_accesses, move_accesses}
use Rattle.flag_ir.specs.Form.{IsOp, IsExit, IsFrameless, IsFramelessExit, IsFramelessBlock}
use Rattle.named_code.specs.Items.{Item, CodeBlock, named_item}
use Rattle.named_code.specs.Running.{CodeState, CodePoint, AtNumber, AtOld, Inside, CodePosition, standing_at, goes_on}
use Rattle.named_code.specs.CodeRun.{first_state as first_code_state}
use Rattle.instr_choose.specs.Lists.{choose_op, choose_ops}
use Rattle.instr_choose.specs.Blocks.{choose_exit, choose_blocks}
use Rattle.instr_choose.specs.Relation.{IsBelow, ListEnds, PassesTo, IsMetByList}
use Rattle.instr_choose.specs.Marks.{marks_of}
use Rattle.instr_choose.specs.States.{HasNoZero}
use Rattle.named_code.specs.TestedRun.{first_accesses, items_found, items_at, position_accesses, turn_shown, turn_found, turn_at}
use Rattle.instr_choose.specs.Apart.{UnitIsApart, StaysApart}
use Rattle.instr_choose.proofs.Naming.{code_of, among, number_found, address_found, address_missing, mark_is}
use Rattle.instr_choose.proofs.Beginnings.{Begins, same, turn}
use Rattle.instr_choose.proofs.UnitBlocks.{turn_of, begins}
use Rattle.instr_choose.proofs.CodeBlocks.{inside_is, found, IsJump, no_block, block_begins}
use Rattle.instr_choose.proofs.PlainResults.{IsPlainResult, plain_result}
use Rattle.instr_choose.proofs.SafeLists.{AreApart, op_path}
use Rattle.instr_choose.proofs.Meets.{UnitLawsBelow, IsAsked, IsOr, unspecified_or, fresh_below}
use Rattle.instr_choose.proofs.Starting.{point_from, first_is, first_below, first_unmapped}
use Rattle.instr_choose.proofs.WatchedItems.{code, step, Used, used_more, UnitAt, unit_apart, unit_step, unit_used, AtJump, leads, nowhere, excused, BehindItem, IsWatched, Onto, used_items, watched_path, watched_end, watched_exit}

marked_go : {S : Type 0} (a : ℕ) (m : Move S) (ks : List Label) (q : S) → marked a m ≡ Go ks q → (js : List Label) × (m ≡ Go js q) × (Turn a ∷ js ≡ ks)
marked_go a (Stand ls e) ks q h = absurd cc
marked_go a (Go ls s) ks q h = (ls, cc, cc)
marked_go a (Halt ls e) ks q h = absurd cc

module _ (laws : UnitLawsBelow) (u : CodeUnit) (asked : IsAsked u) (start : UnitState) (apart : (n : ℕ) (ls : List Label) (t : UnitState) → Reaches (next u) start n ls t → All (IsApartAccess t.storage.memory) (move_accesses u t)) where
  abbrev Watched : List Item → List Label → CodeState → Type 0
  Watched = IsWatched laws u asked start apart

  abbrev UnitBy : List Label → ℕ → List Op → Exit → Storage → Type 0
  UnitBy = UnitAt laws u asked start apart

  abbrev HasUsed : List Label → Type 0
  HasUsed = Used laws u asked start apart

  abbrev Jumps : List Label → CodePoint → CodeState → Type 0
  Jumps = AtJump laws u asked start apart

  abbrev machine : CodePosition → Move CodePosition
  machine = step laws u asked start apart

  abbrev blocks : List CodeBlock
  blocks = code laws u asked start apart

  -- ---- operations and the exit behind them
  module _ (t : ℕ) (e : Exit) (frameless : IsFramelessExit e) (form : IsExit 0 (length u.whole) u.procs e) where
    one_op : (o : Op) (os : List Op) (w : Storage) (s : CodeState) (ls : List Label) → UnitBy ls t (o ∷ os) e w → IsOp 0 o → IsFrameless o → IsBelow w s → HasNoZero w.memory
        → ((v : Storage) (c : CodeState) (ks : List Label) → UnitBy ks t os e v → IsBelow v c → HasNoZero v.memory → Watched (map named_item (choose_ops os) ++ map named_item (choose_exit e)) ks c)
        → Watched (map named_item (choose_op o) ++ (map named_item (choose_ops os) ++ map named_item (choose_exit e))) ls s
    one_op o os w s ls h i f below no_zero behind = by (perform t o w) refl
      where
        by : (r : Result Storage End) → perform t o w ≡ r → Watched (map named_item (choose_op o) ++ (map named_item (choose_ops os) ++ map named_item (choose_exit e))) ls s
        by (Ok v) is =
            let met : PassesTo (map named_item (choose_op o)) s (shown_by o w) v = subst (λ r. IsMetByList r (shown_by o w) (map named_item (choose_op o)) s) is (laws.choosing.meets t o w s i f below) in
            let kept : HasNoZero v.memory = subst IsPlainResult is (plain_result laws.memory laws.below.calls t o w f no_zero) in
            watched_path laws u asked start apart (map named_item (choose_op o)) (map named_item (choose_ops os) ++ map named_item (choose_exit e)) s met.state (shown_by o w) met.passes
            (op_path laws.below w t o s i f below (λ bad. absurd (let no : Ok v ≡ Err Unspecified = sym is ∙ bad in cc)) (unit_apart laws u asked start apart ls t (o ∷ os) e w h)) ls
            (behind v met.state (ls ++ shown_by o w) (unit_step laws u asked start apart ls t o os e w v h is) met.below kept)
        by (Err d) is = cases (unspecified_or d)
          where
            cases : IsOr d → Watched (map named_item (choose_op o) ++ (map named_item (choose_ops os) ++ map named_item (choose_exit e))) ls s
            cases (inl bad) =
                used_items laws u asked start apart (map named_item (choose_op o) ++ (map named_item (choose_ops os) ++ map named_item (choose_exit e))) ls s
                (unit_used laws u asked start apart ls t (o ∷ os) e w h (ap (λ r. performed t (shown_by o w) r os e) is ∙ ap (λ z. Halt [] z) bad))
            cases (inr other) =
                let met : ListEnds (map named_item (choose_op o)) s d = subst (λ r. IsMetByList r (shown_by o w) (map named_item (choose_op o)) s) is (laws.choosing.meets t o w s i f below) other in
                watched_end laws u asked start apart (map named_item (choose_op o)) (map named_item (choose_ops os) ++ map named_item (choose_exit e)) s d met
                (op_path laws.below w t o s i f below (λ bad. other (let same : Err d ≡ Err Unspecified = sym is ∙ bad in cc)) (unit_apart laws u asked start apart ls t (o ∷ os) e w h)) ls

    watched_ops : (ops : List Op) (w : Storage) (s : CodeState) (ls : List Label) → UnitBy ls t ops e w → All (IsOp 0) ops → All IsFrameless ops → IsBelow w s → HasNoZero w.memory
        → Watched (map named_item (choose_ops ops) ++ map named_item (choose_exit e)) ls s
    unfolding choose_ops
    watched_ops [] w s ls h i f below no_zero = watched_exit laws u asked start apart e t w s ls frameless form h below no_zero
    watched_ops (o ∷ os) w s ls h i f below no_zero =
        subst (λ xs. Watched xs ls s) (sym (ap (λ xs. xs ++ map named_item (choose_exit e)) (map-append named_item (choose_op o) (choose_ops os)) ∙ append_assoc (map named_item (choose_op o)) (map named_item (choose_ops os)) (map named_item (choose_exit e))))
        (one_op o os w s ls h (All-head (IsOp 0) o os i) (All-head IsFrameless o os f) below no_zero (λ v c ks g b z. watched_ops os v c ks g (All-tail (IsOp 0) o os i) (All-tail IsFrameless o os f) b z))

  -- ---- a block
  watched_block : (ls : List Label) (t k n : ℕ) (x : Storage) (s : CodeState) → Reaches (next u) start n ls (state_at t (Before k) x) → IsBelow x s → HasNoZero x.memory
      → (b : Block) → slice_get u.whole k ≡ Some b → Watched (code_of b).items (ls ++ turn_shown b.at) s
  watched_block ls t k n x s reaches below no_zero b is =
      let frameless = All-contains IsFramelessBlock u.whole b (asked.form.lowered asked.low).blocks (among u.whole k b is) in
      let there : slice_get (blocks_of u x.frames) k ≡ Some b = ap (λ frames. slice_get (blocks_of u frames) k) below.frames ∙ is in
      let at : UnitBy (ls ++ turn_shown b.at) (turn_of t b) b.ops b.exit (fresh x) = record {
        steps = n;
        shown = ls;
        state = state_at t (Before k) x;
        reaches = reaches;
        turned = turn_shown b.at;
        begun = begins laws.unit_runs laws.units u t k b x there;
        is = refl;
        same_accesses = ap (λ o. begun_accesses u o x) there;
        same_memory = refl;
      } in
      subst (λ xs. Watched xs (ls ++ turn_shown b.at) s) (sym (map-append named_item (choose_ops b.ops) (choose_exit b.exit)))
      (watched_ops (turn_of t b) b.exit frameless.exit (asked.form.whole.exits b (among u.whole k b is)) b.ops (fresh x) s (ls ++ turn_shown b.at) at (asked.form.whole.ops b (among u.whole k b is)) frameless.ops (fresh_below x s below) no_zero)

  -- ---- a position
  abbrev Tracked : List Label → CodePoint → CodeState → Type 0
  Tracked ls (AtNumber n) s = Jumps ls (AtNumber n) s
  Tracked ls (AtOld a) s = Jumps ls (AtOld a) s
  Tracked ls (Inside items) s = Watched items ls s

  tracked_used : (ls : List Label) (p : CodePoint) (s : CodeState) → HasUsed ls → Tracked ls p s
  tracked_used ls (AtNumber n) s h = excused h
  tracked_used ls (AtOld a) s h = excused h
  tracked_used ls (Inside items) s h = used_items laws u asked start apart items ls s h

  tracked_behind : (xs : List Item) (ls : List Label) (p : CodePoint) (s : CodeState) → BehindItem laws u asked start apart (Watched xs) xs ls p s → Tracked ls p s
  tracked_behind xs ls (AtNumber n) s h = h
  tracked_behind xs ls (AtOld a) s h = h
  tracked_behind xs ls (Inside items) s h = subst (λ ys. Watched ys ls s) (sym h.0) h.1

  -- its items, with the turn that it begins
  record Heads (ls : List Label) (p : CodePoint) (s : CodeState) : Type 0 where
    pub turned : List Label
    pub begun : Begins machine (standing_at p s) (standing_at (Inside (items_at blocks p)) s) turned
    pub is : turn_at (marks_of u) blocks p ≡ turned
    pub watched : Watched (items_at blocks p) (ls ++ turned) s

  record IsStill (p : CodePoint) (s : CodeState) : Type 0 where
    pub none : items_at blocks p ≡ []
    pub stands : machine (standing_at p s) ≡ Stand [] Outside

  abbrev IsAt : List Label → CodePoint → CodeState → Type 0
  IsAt ls p s = Heads ls p s ⊎ (IsStill p s ⊎ HasUsed ls)

  abbrev block_found : CodePoint → Option CodeBlock
  block_found p = found laws.code_runs (marks_of u) blocks p

  block_heads : (ls : List Label) (p : CodePoint) (s : CodeState) → IsJump laws.code_runs (marks_of u) blocks p → items_at blocks p ≡ items_found (block_found p)
      → turn_at (marks_of u) blocks p ≡ turn_found (marks_of u) (block_found p) → (t k n : ℕ) (x : Storage) → Reaches (next u) start n ls (state_at t (Before k) x) → IsBelow x s → HasNoZero x.memory → block_found p ≡ option_map code_of (slice_get u.whole k) → IsAt ls p s
  block_heads ls p s jump items turns t k n x reaches below no_zero finds = cases (slice_get u.whole k) refl finds
    where
      cases : (o : Option Block) → slice_get u.whole k ≡ o → block_found p ≡ option_map code_of o → IsAt ls p s
      cases (Some b) is f =
          let mark = mark_is u asked.form.whole.numbers k b is in
          let same_items : items_at blocks p ≡ (code_of b).items = items ∙ ap items_found f in
          inl (record {
            turned = turn_shown b.at;
            begun = subst (λ xs. Begins machine (standing_at p s) (standing_at (Inside xs) s) (turn_shown b.at)) (sym same_items) (subst (λ a. Begins machine (standing_at p s) (standing_at (Inside (code_of b).items) s) (turn_shown a)) mark (block_begins laws.code_runs (marks_of u) blocks p s (code_of b) jump f));
            is = turns ∙ (ap (turn_found (marks_of u)) f ∙ ap turn_shown mark);
            watched = subst (λ xs. Watched xs (ls ++ turn_shown b.at) s) (sym same_items) (watched_block ls t k n x s reaches below no_zero b is);
          })
      cases None is f = inr (inl (record { none = items ∙ ap items_found f; stands = no_block laws.code_runs (marks_of u) blocks p s jump f }))

  is_at : (ls : List Label) (p : CodePoint) (s : CodeState) → Tracked ls p s → IsAt ls p s
  is_at ls (AtNumber m) s (leads t k x n reaches lead below no_zero) = block_heads ls (AtNumber m) s tt refl refl t k n x reaches below no_zero (number_found m u.whole k lead)
  is_at ls (AtNumber m) s (nowhere none) = inr (inl (record { none = ap items_found none; stands = no_block laws.code_runs (marks_of u) blocks (AtNumber m) s tt none }))
  is_at ls (AtNumber m) s (excused h) = inr (inr h)
  is_at ls (AtOld a) s (leads t k x n reaches lead below no_zero) = block_heads ls (AtOld a) s tt refl refl t k n x reaches below no_zero (address_found a u.whole k lead)
  is_at ls (AtOld a) s (nowhere none) = inr (inl (record { none = ap items_found none; stands = no_block laws.code_runs (marks_of u) blocks (AtOld a) s tt none }))
  is_at ls (AtOld a) s (excused h) = inr (inr h)
  is_at ls (Inside items) s h = inl (record { turned = []; begun = same refl; is = refl; watched = subst (λ ks. Watched items ks s) (sym (append-nil ls)) h })

  -- ---- its accesses
  first_apart : (xs : List Item) (ls ks : List Label) (s : CodeState) → ks ≡ ls → Watched xs ls s → AreApart s (first_accesses xs s) ⊎ HasUsed ks
  first_apart [] ls ks s e h = inl (All-nil (IsApartAccess s.memory))
  first_apart (x ∷ xs) ls ks s e (inl h) = inl h.0
  first_apart (x ∷ xs) ls ks s e (inr h) = inr (subst HasUsed (sym e) h)

  apart_here : (ls : List Label) (p : CodePoint) (s : CodeState) → Tracked ls p s → AreApart s (first_accesses (items_at blocks p) s) ⊎ HasUsed (ls ++ turn_at (marks_of u) blocks p)
  apart_here ls p s h = by (is_at ls p s h)
    where
      by : IsAt ls p s → AreApart s (first_accesses (items_at blocks p) s) ⊎ HasUsed (ls ++ turn_at (marks_of u) blocks p)
      by (inl a) = first_apart (items_at blocks p) (ls ++ a.turned) (ls ++ turn_at (marks_of u) blocks p) s (ap (λ ks. ls ++ ks) a.is) a.watched
      by (inr (inl a)) = inl (subst (λ xs. AreApart s (first_accesses xs s)) (sym a.none) (All-nil (IsApartAccess s.memory)))
      by (inr (inr a)) = inr (used_more laws u asked start apart ls (turn_at (marks_of u) blocks p) a)

  -- ---- and the next position
  next_inside : (xs : List Item) (ls ks : List Label) (s : CodeState) (q : CodePosition) → Watched xs ls s → goes_on xs s ≡ Go ks q → Tracked (ls ++ ks) q.point q.state
  next_inside [] ls ks s q h g = absurd cc
  next_inside (x ∷ xs) ls ks s q (inl h) g = tracked_behind xs (ls ++ ks) q.point q.state (subst (Onto laws u asked start apart xs ls) g h.1)
  next_inside (x ∷ xs) ls ks s q (inr h) g = tracked_used (ls ++ ks) q.point q.state (used_more laws u asked start apart ls ks h)

  next_heads : (xs : List Item) (ls bs ks : List Label) (p : CodePosition) (s : CodeState) (q : CodePosition) → Begins machine p (standing_at (Inside xs) s) bs → Watched xs (ls ++ bs) s → machine p ≡ Go ks q → Tracked (ls ++ ks) q.point q.state
  next_heads xs ls _ ks p s q (same e) w g =
      next_inside xs ls ks s q (subst (λ js. Watched xs js s) (append-nil ls) w) (sym (inside_is laws.code_runs (marks_of u) blocks xs s) ∙ (sym e ∙ g))
  next_heads xs ls _ ks p s q (turn a e) w g =
      let split = marked_go a (machine (standing_at (Inside xs) s)) ks q (sym e ∙ g) in
      subst (λ js. Tracked js q.point q.state) (append_assoc ls (Turn a ∷ []) split.0 ∙ ap (λ js. ls ++ js) split.2)
      (next_inside xs (ls ++ Turn a ∷ []) split.0 s q w (sym (inside_is laws.code_runs (marks_of u) blocks xs s) ∙ split.1))

  next_tracked : (ls ks : List Label) (p : CodePoint) (s : CodeState) (q : CodePosition) → Tracked ls p s → machine (standing_at p s) ≡ Go ks q → Tracked (ls ++ ks) q.point q.state
  next_tracked ls ks p s q h g = by (is_at ls p s h)
    where
      by : IsAt ls p s → Tracked (ls ++ ks) q.point q.state
      by (inl a) = next_heads (items_at blocks p) ls a.turned ks (standing_at p s) s q a.begun a.watched g
      by (inr (inl a)) = absurd (let no : Stand [] Outside ≡ Go ks q = sym a.stands ∙ g in cc)
      by (inr (inr a)) = tracked_used (ls ++ ks) q.point q.state (used_more laws u asked start apart ls ks a)

  reach_tracked : (p q : CodePosition) (n : ℕ) (ks : List Label) → Reaches machine p n ks q → (ls : List Label) → Tracked ls p.point p.state → Tracked (ls ++ ks) q.point q.state
  reach_tracked _ q _ _ (rests _) ls h = subst (λ js. Tracked js q.point q.state) (sym (append-nil ls)) h
  reach_tracked _ q _ _ (goes s js t n rest _ e r) ls h =
      subst (λ zs. Tracked zs q.point q.state) (append_assoc ls js rest) (reach_tracked t q n rest r (ls ++ js) (next_tracked ls js s.point s.state t h e))

  pub apart_reached : (p q : CodePosition) (n : ℕ) (ks : List Label) → Reaches machine p n ks q → Jumps [] p.point p.state
      → ((c : CodeState) → Jumps [] p.point c → Tracked [] p.point c) → AreApart q.state (position_accesses blocks q) ⊎ HasUsed (ks ++ turn_at (marks_of u) blocks q.point)
  apart_reached p q n ks r h k = apart_here ks q.point q.state (reach_tracked p q n ks r [] (k p.state h))

-- ---- from each start
module _ (laws : UnitLawsBelow) (u : CodeUnit) (asked : IsAsked u) where
  first_jump : (m : Memory) (entry esp0 : ℕ) (stack : List ℕ) (env : Environment) (h : UnitIsApart u) (a : HasBytes m) (b : IsUsual esp0 m) (c : IsStart esp0 stack) (d : IsEnvironment env)
      → Jumps laws u asked (first_state u m entry esp0 stack env) (h m entry esp0 stack env a b c d) [] (AtOld entry) (first_code_state (with_stack esp0 stack m) esp0 env)
  first_jump m entry esp0 stack env h a b c d = by (index_at entry u.whole) refl
    where
      first : first_state u m entry esp0 stack env ≡ state_at 0 (point_from (index_at entry u.whole) entry) (first_storage m esp0 stack env)
      first = first_is u (asked.form.lowered asked.low).procs m entry esp0 stack env

      by : (o : Option ℕ) → index_at entry u.whole ≡ o → Jumps laws u asked (first_state u m entry esp0 stack env) (h m entry esp0 stack env a b c d) [] (AtOld entry) (first_code_state (with_stack esp0 stack m) esp0 env)
      by None e = nowhere (address_missing entry u.whole e)
      by (Some k) e =
          let at : first_state u m entry esp0 stack env ≡ state_at 0 (Before k) (first_storage m esp0 stack env) = first ∙ ap (λ o. state_at 0 (point_from o entry) (first_storage m esp0 stack env)) e in
          leads 0 k (first_storage m esp0 stack env) 0 (subst (λ s. Reaches (next u) (first_state u m entry esp0 stack env) 0 [] s) at (rests (first_state u m entry esp0 stack env))) e (first_below laws m esp0 stack env a c d) (first_unmapped laws m esp0 stack env b c)

  pub stays_apart : StaysApart u (choose_blocks u.whole)
  unfolding unit_run
  stays_apart h m entry esp0 stack env a b c d n ls p r =
      apart_reached laws u asked (first_state u m entry esp0 stack env) (h m entry esp0 stack env a b c d) _ p n ls r (first_jump m entry esp0 stack env h a b c d) (λ s j. j)
