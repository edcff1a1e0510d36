-- A step of the machine.
use Rattle.std.proofs.Common.{◌≡◌, ℕ, zero, suc, ◌+◌, ◌<◌, ◌≤◌, ◌==◌, Bool, true, false, cond, List, [], ◌∷◌, ◌++◌, length, drop, get_or, slice_get, Option, Some, None, Result, Ok, Err, refl, sym, ap, ◌∙◌, subst, arith}
use Rattle.std.proofs.lemmas.Bool.{cond-true, cond-false, eq-eqb, ne_eqb}
use Rattle.std.proofs.lemmas.Option.{slice_get-get_or}
use Rattle.std.specs.declared.alloc.AllocError.{AllocError}
use Rattle.outside.specs.Environment.{Environment}
use Rattle.traces.specs.Trace.{Label, Turn, End, Move, Stand, Go, Halt, seen, at_rest}
use Rattle.traces.specs.Machines.{marked}
use Rattle.memory.specs.Memory.{Memory}
use Rattle.mem_pages.specs.declared.end.RunEnd.{RunEnd}
use Rattle.sw_host.specs.Told.{Told, Tells}
use Rattle.sw_host.specs.Chains.{tells_none, tells_map}
use Rattle.system_calls.specs.Given.{environment, HasGiven}
use Rattle.flag_ir.specs.declared.operation.Op.{Op}
use Rattle.flag_ir.specs.declared.block.Block.{Block}
use Rattle.flag_ir.specs.declared.block.Exit.{Exit}
use Rattle.flag_ir.specs.Storage.{Frame, Storage}
use Rattle.flag_ir.specs.Operations.{perform, shown_by}
use Rattle.flag_ir.specs.Entering.{CodeUnit, Onward, blocks_of, leave}
use Rattle.flag_ir.specs.UnitRun.{Point, Within, UnitState, state_at, performed, left_for, within, fresh, begun, move_at, next}
use Rattle.unit_machine.specs.declared.end.UnitEnd.{UnitEnd}
use Rattle.unit_machine.specs.declared.end.UnitEnd.TheVariants as unitend
use Rattle.unit_machine.specs.declared.leave.Left.TheVariants as way
use Rattle.unit_machine.specs.declared.step.Position.{Position}
use Rattle.unit_machine.specs.declared.values.Values.{Values}
use Rattle.unit_machine.specs.Standing.{storage_of}
use Rattle.unit_machine.specs.Performing.{GoesBy, EndsBy, PerformsOp}
use Rattle.unit_machine.specs.Leaving.{EndsSo, LeavesBy}
use Rattle.unit_machine.specs.Moving.{StandsInBlock, point_of, state_in, UnitMoveGoes, UnitMoveHalts, MakesMove, within_from, next_from}
use Rattle.unit_machine.specs.Beginning.{BeginsBlock}
use Rattle.unit_machine.proofs.Giving.{gives_none, gives_turn}

-- ---- the beginning of a block
module _ (b : Block) (s : Position) (w : Values) (first : s.op ≡ 0) (h : (m : Memory) (left : Environment) → storage_of w m left ≡ fresh (storage_of s.values m left)) where
  fresh_values : (m : Memory) (left : Environment) → storage_of w m left ≡ cond (s.op == 0) (fresh (storage_of s.values m left)) (storage_of s.values m left)
  fresh_values m left = h m left ∙ sym (cond-true (s.op == 0) (fresh (storage_of s.values m left)) (storage_of s.values m left) (eq-eqb s.op 0 first))

  pub begins_turn : (b.at ≡ 0 → ⊥) → BeginsBlock b s (record { values = w; turn = b.at; block = s.block; op = s.op })
  begins_turn other = record {
    block = refl;
    op = refl;
    turn = sym (cond-true (s.op == 0) (cond (b.at == 0) s.turn b.at) s.turn (eq-eqb s.op 0 first) ∙ cond-false (b.at == 0) s.turn b.at (ne_eqb b.at 0 other));
    values = fresh_values;
  }

  pub begins_no_turn : b.at ≡ 0 → BeginsBlock b s (record { values = w; turn = s.turn; block = s.block; op = s.op })
  begins_no_turn none = record {
    block = refl;
    op = refl;
    turn = sym (cond-true (s.op == 0) (cond (b.at == 0) s.turn b.at) s.turn (eq-eqb s.op 0 first) ∙ cond-true (b.at == 0) s.turn b.at (eq-eqb b.at 0 none));
    values = fresh_values;
  }

-- ---- within a block
drop_at : (ops : List Op) (i : ℕ) (o : Op) → slice_get ops i ≡ Some o → drop i ops ≡ o ∷ drop (i + 1) ops
drop_at [] i o h = absurd (cc h)
drop_at (p ∷ ops) zero o h = ap (λ x. x ∷ ops) (cc h)
drop_at (p ∷ ops) (suc i) o h = let e : suc i + 1 ≡ suc (i + 1) = omega arith in drop_at ops i o h ∙ ap (λ n. o ∷ drop n (p ∷ ops)) (sym e)

drop_all : (ops : List Op) (i : ℕ) → length ops ≤ i → drop i ops ≡ []
drop_all [] zero h = refl
drop_all [] (suc i) h = refl
drop_all (p ∷ ops) zero h = absurd (omega (arith, h))
drop_all (p ∷ ops) (suc i) h = drop_all ops i (omega (arith, h))

point_after : (b : Block) (k n i : ℕ) → n ≡ suc i → point_of (Some b) k n ≡ Within (drop n b.ops) b.exit
point_after b k zero i h = absurd (omega (arith, h))
point_after b k (suc n) i h = refl

module _ (unit : CodeUnit) (b : Block) (s : Position) (m : Memory) where
  within_op : (o : Op) → slice_get b.ops s.op ≡ Some o → (left : Environment) → within_from unit b s m left ≡ performed s.turn (shown_by o (storage_of s.values m left)) (perform s.turn o (storage_of s.values m left)) (drop (s.op + 1) b.ops) b.exit
  within_op o h left = ap (λ (ops : List Op). within unit s.turn ops b.exit (storage_of s.values m left)) (drop_at b.ops s.op o h)

  within_exit : length b.ops ≤ s.op → (left : Environment) → within_from unit b s m left ≡ left_for s.turn (leave unit s.turn b.exit (storage_of s.values m left))
  within_exit h left = ap (λ (ops : List Op). within unit s.turn ops b.exit (storage_of s.values m left)) (drop_all b.ops s.op h)

  acts_on : (o : Op) (w : Values) (n : Memory) (a c : Told) → slice_get unit.whole s.block ≡ Some b → slice_get b.ops s.op ≡ Some o → GoesBy o s.values m w n a c
      → UnitMoveGoes (within_from unit b s m) (state_in unit (record { values = w; turn = s.turn; block = s.block; op = s.op + 1 }) n) a c
  acts_on o w n a c here there g =
      let e : s.op + 1 ≡ suc s.op = omega arith in
      let at : point_of (slice_get unit.whole s.block) s.block (s.op + 1) ≡ Within (drop (s.op + 1) b.ops) b.exit = ap (λ (x : Option Block). point_of x s.block (s.op + 1)) here ∙ point_after b s.block (s.op + 1) s.op e in
      record {
        answers = g.answers;
        labels = g.labels;
        goes = λ rest. let u = storage_of s.values m (environment a (g.answers ++ rest)) in
            within_op o there (environment a (g.answers ++ rest)) ∙ ap (λ (ls : List Label). performed s.turn ls (perform s.turn o u) (drop (s.op + 1) b.ops) b.exit) (g.shows rest)
            ∙ ap (λ (r : Result Storage End). performed s.turn g.labels r (drop (s.op + 1) b.ops) b.exit) (g.goes s.turn rest) ∙ ap (λ (p : Point). Go g.labels (state_at s.turn p (storage_of w n (environment c rest)))) (sym at);
        host = g.host;
      }

  acts_last : (o : Op) (end : RunEnd) (a c : Told) → slice_get b.ops s.op ≡ Some o → EndsBy o end s.values m a c → UnitMoveHalts (within_from unit b s m) (unitend.Run end) a c
  acts_last o end a c there g = record {
    answers = [];
    labels = [];
    last = g.last;
    is_last = g.is_last;
    halts = λ rest. let u = storage_of s.values m (environment a rest) in
        within_op o there (environment a rest) ∙ ap (λ (r : Result Storage End). performed s.turn (shown_by o u) r (drop (s.op + 1) b.ops) b.exit) (g.ends s.turn rest);
    host = subst (λ (t : Told). HasGiven [] 0 [] a t) (sym g.host) (gives_none a);
  }

  leaves_to : (k : ℕ) (a : Told) → length b.ops ≤ s.op → LeavesBy unit s.turn b.exit (way.To k) s.values m → UnitMoveGoes (within_from unit b s m) (state_in unit (record { values = s.values; turn = s.turn; block = k; op = 0 }) m) a a
  leaves_to k a h l = record { answers = []; labels = []; goes = λ rest. within_exit h (environment a rest) ∙ ap (λ (r : Onward). left_for s.turn r) (l (environment a rest)); host = gives_none a }

  leaves_last : (end : UnitEnd) (a : Told) → length b.ops ≤ s.op → EndsSo unit s.turn b.exit end s.values m → UnitMoveHalts (within_from unit b s m) end a a
  leaves_last end a h l = record { answers = []; labels = []; last = l.last; is_last = l.is_last; halts = λ rest. within_exit h (environment a rest) ∙ ap (λ (r : Onward). left_for s.turn r) (l.ends (environment a rest)); host = gives_none a }

  -- ---- over a host that tells
  module _ (o p : Option Told) where
    pub tells_acts : (x : Op) (w : Values) (n : Memory) → slice_get unit.whole s.block ≡ Some b → slice_get b.ops s.op ≡ Some x → Tells o p (PerformsOp x (Ok None) s.values m w n) → Tells o p (MakesMove (within_from unit b s m) unit (Ok None) (record { values = w; turn = s.turn; block = s.block; op = s.op + 1 }) n)
    tells_acts x w n here there t = tells_map o p (PerformsOp x (Ok None) s.values m w n) (MakesMove (within_from unit b s m) unit (Ok None) (record { values = w; turn = s.turn; block = s.block; op = s.op + 1 }) n) t (λ a c g. acts_on x w n a c here there g)

    pub tells_last : (x : Op) (end : RunEnd) (w : Values) (n : Memory) (t : Position) → slice_get b.ops s.op ≡ Some x → Tells o p (PerformsOp x (Ok (Some end)) s.values m w n) → Tells o p (MakesMove (within_from unit b s m) unit (Ok (Some (unitend.Run end))) t n)
    tells_last x end w n t there told = tells_map o p (PerformsOp x (Ok (Some end)) s.values m w n) (MakesMove (within_from unit b s m) unit (Ok (Some (unitend.Run end))) t n) told (λ a c g. acts_last x end a c there g)

  pub tells_leaves : (o : Option Told) (k : ℕ) → length b.ops ≤ s.op → LeavesBy unit s.turn b.exit (way.To k) s.values m → Tells o o (MakesMove (within_from unit b s m) unit (Ok None) (record { values = s.values; turn = s.turn; block = k; op = 0 }) m)
  tells_leaves o k h l = tells_none o (MakesMove (within_from unit b s m) unit (Ok None) (record { values = s.values; turn = s.turn; block = k; op = 0 }) m) (λ a. leaves_to k a h l)

  pub tells_left : (o : Option Told) (end : UnitEnd) (t : Position) → length b.ops ≤ s.op → EndsSo unit s.turn b.exit end s.values m → Tells o o (MakesMove (within_from unit b s m) unit (Ok (Some end)) t m)
  tells_left o end t h l = tells_none o (MakesMove (within_from unit b s m) unit (Ok (Some end)) t m) (λ a. leaves_last end a h l)

-- ---- the machine's move is that within the block, which may begin a turn
module _ (unit : CodeUnit) (b : Block) (s t : Position) (m : Memory) (here : slice_get unit.whole s.block ≡ Some b) (begins : BeginsBlock b s t) where
  abbrev same_within : Environment → Move UnitState
  same_within left = within unit t.turn (drop t.op b.ops) b.exit (storage_of t.values m left)

  -- before the block
  same_first : (left : Environment) → s.op ≡ 0 → (turn : ℕ) → t.turn ≡ turn → same_within left ≡ within unit turn b.ops b.exit (fresh (storage_of s.values m left))
  same_first left first turn is =
      ap (λ (n : ℕ). within unit n (drop t.op b.ops) b.exit (storage_of t.values m left)) is ∙ ap (λ (n : ℕ). within unit turn (drop n b.ops) b.exit (storage_of t.values m left)) (begins.op ∙ first)
      ∙ ap (λ (u : Storage). within unit turn b.ops b.exit u) (begins.values m left ∙ cond-true (s.op == 0) (fresh (storage_of s.values m left)) (storage_of s.values m left) (eq-eqb s.op 0 first))

  first_turn : s.op ≡ 0 → t.turn ≡ cond (b.at == 0) s.turn b.at
  first_turn first = begins.turn ∙ cond-true (s.op == 0) (cond (b.at == 0) s.turn b.at) s.turn (eq-eqb s.op 0 first)

  before_by : (left : Environment) → s.op ≡ 0 → (x : Bool) → (b.at == 0) ≡ x → next_from unit s m left ≡ cond x (within unit s.turn b.ops b.exit (fresh (storage_of s.values m left))) (marked b.at (within unit b.at b.ops b.exit (fresh (storage_of s.values m left))))
  unfolding next
  before_by left first x is =
      let u = storage_of s.values m left in
      ap (λ (n : ℕ). move_at unit (point_of (slice_get unit.whole s.block) s.block n) s.turn u) first ∙ ap (λ (o : Option Block). begun unit s.turn o u) here
      ∙ ap (λ (y : Bool). cond y (within unit s.turn b.ops b.exit (fresh u)) (marked b.at (within unit b.at b.ops b.exit (fresh u)))) is

  before_same : (left : Environment) → s.op ≡ 0 → (b.at == 0) ≡ true → next_from unit s m left ≡ same_within left
  before_same left first is = before_by left first true is ∙ sym (same_first left first s.turn (first_turn first ∙ cond-true (b.at == 0) s.turn b.at is))

  before_marked : (left : Environment) → s.op ≡ 0 → (b.at == 0) ≡ false → next_from unit s m left ≡ marked b.at (same_within left)
  before_marked left first is = before_by left first false is ∙ ap (λ (x : Move UnitState). marked b.at x) (sym (same_first left first b.at (first_turn first ∙ cond-false (b.at == 0) s.turn b.at is)))

  -- within it
  after_same : (left : Environment) (i : ℕ) → s.op ≡ suc i → next_from unit s m left ≡ same_within left
  unfolding next
  after_same left i later =
      let u = storage_of s.values m left in
      let other : (s.op == 0) ≡ false = ne_eqb s.op 0 (λ e. absurd (omega (arith, e, later))) in
      ap (λ (o : Option Block). move_at unit (point_of o s.block s.op) s.turn u) here ∙ ap (λ (p : Point). move_at unit p s.turn u) (point_after b s.block s.op i later)
      ∙ ap (λ (v : Storage). within unit s.turn (drop s.op b.ops) b.exit v) (sym (begins.values m left ∙ cond-false (s.op == 0) (fresh u) u other))
      ∙ ap (λ (n : ℕ). within unit s.turn (drop n b.ops) b.exit (storage_of t.values m left)) (sym begins.op)
      ∙ ap (λ (n : ℕ). within unit n (drop t.op b.ops) b.exit (storage_of t.values m left)) (sym (begins.turn ∙ cond-false (s.op == 0) (cond (b.at == 0) s.turn b.at) s.turn other))

moves_same : (unit : CodeUnit) (f g : Environment → Move UnitState) → ((left : Environment) → f left ≡ g left) → (r : Result (Option UnitEnd) AllocError) (p : Position) (n : Memory) (a c : Told) → MakesMove g unit r p n a c → MakesMove f unit r p n a c
moves_same unit f g same (Ok None) p n a c h = record { answers = h.answers; labels = h.labels; goes = λ rest. same (environment a (h.answers ++ rest)) ∙ h.goes rest; host = h.host }
moves_same unit f g same (Ok (Some end)) p n a c h = record { answers = h.answers; labels = h.labels; last = h.last; is_last = h.is_last; halts = λ rest. same (environment a (h.answers ++ rest)) ∙ h.halts rest; host = h.host }
moves_same unit f g same (Err e) p n a c h = h

moves_marked : (unit : CodeUnit) (f g : Environment → Move UnitState) (at : ℕ) → ((left : Environment) → f left ≡ marked at (g left)) → (r : Result (Option UnitEnd) AllocError) (p : Position) (n : Memory) (a c : Told) → MakesMove g unit r p n a c → MakesMove f unit r p n a c
moves_marked unit f g at same (Ok None) p n a c h = record {
  answers = h.answers;
  labels = Turn at ∷ h.labels;
  goes = λ rest. same (environment a (h.answers ++ rest)) ∙ ap (λ (x : Move UnitState). marked at x) (h.goes rest);
  host = gives_turn at h.answers 0 h.labels a c h.host;
}
moves_marked unit f g at same (Ok (Some end)) p n a c h = record {
  answers = h.answers;
  labels = Turn at ∷ h.labels;
  last = h.last;
  is_last = h.is_last;
  halts = λ rest. same (environment a (h.answers ++ rest)) ∙ ap (λ (x : Move UnitState). marked at x) (h.halts rest);
  host = gives_turn at h.answers 0 h.labels a c h.host;
}
moves_marked unit f g at same (Err e) p n a c h = h

module _ (unit : CodeUnit) (b : Block) (s t : Position) (m : Memory) (here : slice_get unit.whole s.block ≡ Some b) (begins : BeginsBlock b s t) (r : Result (Option UnitEnd) AllocError) (p : Position) (n : Memory) (a c : Told) where
  first_step : s.op ≡ 0 → (x : Bool) → (b.at == 0) ≡ x → MakesMove (within_from unit b t m) unit r p n a c → MakesMove (next_from unit s m) unit r p n a c
  first_step first true is h = moves_same unit (next_from unit s m) (within_from unit b t m) (λ left. before_same unit b s t m here begins left first is) r p n a c h
  first_step first false is h = moves_marked unit (next_from unit s m) (within_from unit b t m) b.at (λ left. before_marked unit b s t m here begins left first is) r p n a c h

  later_step : (k : ℕ) → s.op ≡ k → MakesMove (within_from unit b t m) unit r p n a c → MakesMove (next_from unit s m) unit r p n a c
  later_step zero first h = first_step first (b.at == 0) refl h
  later_step (suc i) later h = moves_same unit (next_from unit s m) (within_from unit b t m) (λ left. after_same unit b s t m here begins left i later) r p n a c h

pub tells_step : (unit : CodeUnit) (b : Block) (s t : Position) (m : Memory) → slice_get unit.whole s.block ≡ Some b → BeginsBlock b s t → (o q : Option Told) (r : Result (Option UnitEnd) AllocError) (p : Position) (n : Memory)
    → Tells o q (MakesMove (within_from unit b t m) unit r p n) → Tells o q (MakesMove (next_from unit s m) unit r p n)
tells_step unit b s t m here begins o q r p n told = tells_map o q (MakesMove (within_from unit b t m) unit r p n) (MakesMove (next_from unit s m) unit r p n) told (λ a c h. later_step unit b s t m here begins r p n a c s.op refl h)

-- ---- before a block, or an operation or the exit of it, the machine doesn't stand
abbrev IsAwake : Move UnitState → Type 0
IsAwake x = at_rest x ≡ seen [] None

left_awake : (turn : ℕ) (r : Onward) → IsAwake (left_for turn r)
left_awake turn (Ok p) = refl
left_awake turn (Err e) = refl

performed_awake : (turn : ℕ) (labels : List Label) (r : Result Storage End) (ops : List Op) (e : Exit) → IsAwake (performed turn labels r ops e)
performed_awake turn labels (Ok u) ops e = refl
performed_awake turn labels (Err x) ops e = refl

within_awake : (unit : CodeUnit) (turn : ℕ) (ops : List Op) (e : Exit) (u : Storage) → IsAwake (within unit turn ops e u)
within_awake unit turn [] e u = left_awake turn (leave unit turn e u)
within_awake unit turn (o ∷ ops) e u = performed_awake turn (shown_by o u) (perform turn o u) ops e

marked_awake : (at : ℕ) (x : Move UnitState) → IsAwake x → IsAwake (marked at x)
marked_awake at (Stand ls e) h = h
marked_awake at (Go ls s) h = refl
marked_awake at (Halt ls e) h = refl

begun_awake : (unit : CodeUnit) (turn : ℕ) (b : Block) (u : Storage) → IsAwake (begun unit turn (Some b) u)
begun_awake unit turn b u = by (b.at == 0)
  where
    by : (x : Bool) → IsAwake (cond x (within unit turn b.ops b.exit (fresh u)) (marked b.at (within unit b.at b.ops b.exit (fresh u))))
    by true = within_awake unit turn b.ops b.exit (fresh u)
    by false = marked_awake b.at (within unit b.at b.ops b.exit (fresh u)) (within_awake unit b.at b.ops b.exit (fresh u))

point_awake : (unit : CodeUnit) (b : Block) (k i turn : ℕ) (u : Storage) → u.frames ≡ [] → slice_get unit.whole k ≡ Some b → IsAwake (move_at unit (point_of (Some b) k i) turn u)
point_awake unit b k zero turn u none here =
    subst (λ (fs : List Frame). IsAwake (begun unit turn (slice_get (blocks_of unit fs) k) u)) (sym none) (subst (λ (o : Option Block). IsAwake (begun unit turn o u)) (sym here) (begun_awake unit turn b u))
point_awake unit b k (suc i) turn u none here = within_awake unit turn (drop (suc i) b.ops) b.exit u

pub stays_awake : (unit : CodeUnit) (t : Position) (n : Memory) → StandsInBlock unit t → (left : Environment) → at_rest (next unit (state_in unit t n left)) ≡ seen [] None
unfolding next
stays_awake unit t n placed left =
    subst (λ (o : Option Block). IsAwake (move_at unit (point_of o t.block t.op) t.turn (storage_of t.values n left))) (sym placed.there) (point_awake unit placed.block t.block t.op t.turn (storage_of t.values n left) refl placed.there)

-- ---- places
pub placed_at : (unit : CodeUnit) (d : Block) (t : Position) → t.op ≡ 0 → t.block < length unit.whole → StandsInBlock unit t
placed_at unit d t first few = record { block = get_or unit.whole t.block d; there = slice_get-get_or unit.whole t.block d few; within = omega (arith, first) }

some_at : (bs : List Block) (k : ℕ) → k < length bs → (b : Block) × (slice_get bs k ≡ Some b)
some_at [] k few = absurd (omega (arith, few))
some_at (b ∷ bs) zero few = (b, refl)
some_at (b ∷ bs) (suc k) few = some_at bs k (omega (arith, few))

pub placed_first : (unit : CodeUnit) (t : Position) → t.op ≡ 0 → t.block < length unit.whole → StandsInBlock unit t
placed_first unit t first few = let b : (b : Block) × (slice_get unit.whole t.block ≡ Some b) = some_at unit.whole t.block few in record { block = b.0; there = b.1; within = omega (arith, first) }
