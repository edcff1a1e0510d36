-- Turns of code cost what is read off its text.
use Rattle.std.proofs.Common.{◌≡◌, ◌≢◌, ℕ, suc, ◌+◌, ◌*◌, ◌≤◌, ◌==◌, Bool, true, false, cond, List, [], ◌∷◌, find, All, Option, Some, None, refl, sym, ap, ◌∙◌, subst, arith}
use Rattle.std.proofs.lemmas.Bool.{cond_both, eqb-true}
use Rattle.std.proofs.lemmas.List.Elements.{All-head, All-tail}
use Rattle.traces.specs.Trace.{Label, Turn, End, Move, Stand, Go, Halt, turns}
use Rattle.traces.specs.Machines.{marked}
use Rattle.traces.specs.Moves.{OneTurn, PacedMove, Unturned, To, Holds, IsKept}
use Rattle.memory.specs.SystemCall.{Called, Ends, Gives, system_call}
use Rattle.memory.specs.CallLaws.{CallLaws, IsPlainCall}
use Rattle.x86_meaning.specs.Outcomes.{Way, Falls, JumpsBy, JumpsTo, Repeats, Calls}
use Rattle.x86_meaning.specs.Step.{request_of}
use Rattle.named_code.specs.Items.{Item, CodeBlock}
use Rattle.named_code.specs.Running.{CodeState, CodePoint, AtNumber, AtOld, Inside, CodePosition, after_call, onward, performed, goes_on, block_of_number, block_at, Marks, begun, move_at, code_next}
use Rattle.named_code.specs.Weight.{Course, Next, ToBlock, Either, ToOld, Again, course_of, left_at, most_behind, most, first_cost, entry_cost, cost_at, step_cost, IsOnce, IsBounded, BoundsCode, IsWayOf}
use Rattle.named_code.specs.CodeRunLaws.{IsOncePoint, OncePosition}
use Rattle.named_code.proofs.Courses.{way_is}
use Rattle.named_code.proofs.CodeMoves.{act_holds, goes_on_plain}

-- ---- lists
AllOnce : List Item → Type 0
AllOnce xs = All IsOnce xs

found_passes : {X : Type 0} (P : X → Type 0) (test : X → Bool) (xs : List X) → All P xs → (x : X) → find test xs ≡ Some x → P x × (test x ≡ true)
found_passes P test [] h x e = cc
found_passes P test (y ∷ ys) h x e =
    (elim (test y) as (λ b. test y ≡ b → cond b (Some y) (find test ys) ≡ Some x → P x × (test x ≡ true)) [
      | true ↦ λ passes e. let same : y ≡ x = cc in (subst P same (All-head P y ys h), subst (λ z. test z ≡ true) same passes)
      | false ↦ λ fails e. found_passes P test ys (All-tail P y ys h) x e
    ]) refl e

no_turn_first : (ls : List Label) → turns ls ≡ 0 → OneTurn ls
no_turn_first [] h = tt
no_turn_first (Turn a ∷ ls) h = absurd cc
no_turn_first (Rattle.traces.specs.Trace.Label.Took ∷ ls) h = h
no_turn_first (Rattle.traces.specs.Trace.Label.Made e ∷ ls) h = h

-- ---- an item that doesn't come again goes to items that don't
called_once : (c : Called) (rest : List Item) (s : CodeState) → All IsOnce rest → To (λ p. IsOncePoint p.point) (after_call c rest s)
called_once (Ends e) rest s h = tt
called_once (Gives labels result stores left) rest s h = h

onward_once : (w : Way) (x : Item) (rest : List Item) (s : CodeState) → All IsOnce (x ∷ rest) → To (λ p. IsOncePoint p.point) (onward w x rest s)
onward_once Falls x rest s h = All-tail IsOnce x rest h
onward_once (JumpsBy by) x rest s h = tt
onward_once (JumpsTo at) x rest s h = tt
onward_once Repeats x rest s h = h
onward_once Calls x rest s h = called_once (system_call (request_of s.cpu) s.memory s.left) rest s (All-tail IsOnce x rest h)

goes_on_once : (xs : List Item) (s : CodeState) → All IsOnce xs → To (λ p. IsOncePoint p.point) (goes_on xs s)
goes_on_once [] s h = tt
goes_on_once (x ∷ rest) s h = act_holds (To (λ p. IsOncePoint p.point)) x rest s (λ stop. tt) (λ e q. onward_once e.way x rest (performed e s) h)

marked_once : (a : ℕ) (m : Move CodePosition) → To (λ p. IsOncePoint p.point) m → To (λ p. IsOncePoint p.point) (marked a m)
marked_once a (Stand ls e) h = tt
marked_once a (Go ls s) h = h
marked_once a (Halt ls e) h = tt

module _ (calls : CallLaws) (marks : Marks) (cost : Item → ℕ) (rest : ℕ → ℕ) (w : ℕ) where
  -- ---- what is left of the turn
  abbrev left_point : CodePoint → ℕ
  left_point (AtNumber n) = left_at marks rest n
  left_point (AtOld a) = 0
  left_point (Inside items) = most cost (left_at marks rest) items

  abbrev pub left_in : CodePosition → ℕ
  left_in p = left_point p.point

  called_paced : (l c : ℕ) (x : Called) (more : List Item) (s : CodeState) → IsPlainCall x → c + most cost (left_at marks rest) more ≤ l → PacedMove w left_in l c (after_call x more s)
  called_paced l c (Ends e) more s h few = record { one_turn = tt; left = omega (arith, few) }
  called_paced l c (Gives labels result stores left) more s h few = record { one_turn = no_turn_first labels h; left = omega (arith, few) }

  onward_paced : (k : Course) (v : Way) (c : ℕ) (x : Item) (more : List Item) (s : CodeState) → k ≢ Again → IsWayOf k v → PacedMove w left_in (c + most_behind k (left_at marks rest) (most cost (left_at marks rest) more)) c (onward v x more s)
  onward_paced Next Falls c x more s n h = record { one_turn = tt; left = omega arith }
  onward_paced Next Calls c x more s n h = called_paced _ c (system_call (request_of s.cpu) s.memory s.left) more s (calls.are_plain (request_of s.cpu) s.memory s.left) (omega arith)
  onward_paced Next (JumpsBy by) c x more s n h = absurd h
  onward_paced Next (JumpsTo at) c x more s n h = absurd h
  onward_paced Next Repeats c x more s n h = absurd h
  onward_paced (ToBlock m) (JumpsBy by) c x more s n h = record { one_turn = tt; left = rw h (omega arith) }
  onward_paced (ToBlock m) Falls c x more s n h = absurd h
  onward_paced (ToBlock m) Calls c x more s n h = absurd h
  onward_paced (ToBlock m) (JumpsTo at) c x more s n h = absurd h
  onward_paced (ToBlock m) Repeats c x more s n h = absurd h
  onward_paced (Either m) (JumpsBy by) c x more s n h = record { one_turn = tt; left = rw h (grind (arith)) }
  onward_paced (Either m) Falls c x more s n h = record { one_turn = tt; left = grind (arith) }
  onward_paced (Either m) Calls c x more s n h = absurd h
  onward_paced (Either m) (JumpsTo at) c x more s n h = absurd h
  onward_paced (Either m) Repeats c x more s n h = absurd h
  onward_paced ToOld (JumpsTo at) c x more s n h = record { one_turn = tt; left = omega arith }
  onward_paced ToOld (JumpsBy by) c x more s n h = absurd h
  onward_paced ToOld Falls c x more s n h = absurd h
  onward_paced ToOld Calls c x more s n h = absurd h
  onward_paced ToOld Repeats c x more s n h = absurd h
  onward_paced Again v c x more s n h = absurd (n refl)

  goes_on_paced : (xs : List Item) (s : CodeState) → All IsOnce xs → PacedMove w left_in (most cost (left_at marks rest) xs) (first_cost cost xs) (goes_on xs s)
  goes_on_paced [] s h = refl
  goes_on_paced (x ∷ more) s h =
      act_holds (PacedMove w left_in (most cost (left_at marks rest) (x ∷ more)) (cost x)) x more s (λ stop. record { one_turn = tt; left = omega arith })
      (λ e q. onward_paced (course_of x.instr) e.way (cost x) x more (performed e s) (All-head IsOnce x more h) (way_is x.naming x.instr 0 s.cpu s.memory e q))

  -- ---- a block within its bound
  fits_more : (l m c : ℕ) (y : Move CodePosition) → l ≤ m → PacedMove w left_in l c y → PacedMove w left_in m c y
  fits_more l m c (Stand ls e) few h = h
  fits_more l m c (Go ls s) few h = record { one_turn = h.one_turn; left = omega (arith, few, h.left) }
  fits_more l m c (Halt ls e) few h = record { one_turn = h.one_turn; left = omega (arith, few, h.left) }

  paced_sum : (x l : ℕ) (ls : List Label) (a : ℕ) → l ≤ w → turns ls ≡ 0 → x ≤ l + w * turns ls → x ≤ 0 + w * turns (Turn a ∷ ls)
  paced_sum x l ls a few none h = let g : x ≤ l + w * 0 = subst (λ t. x ≤ l + w * t) none h in subst (λ t. x ≤ 0 + w * suc t) (sym none) (omega (arith, few, g))

  marked_paced : (a l c : ℕ) (m : Move CodePosition) → l ≤ w → Unturned m → PacedMove w left_in l c m → PacedMove w left_in 0 c (marked a m)
  marked_paced a l c (Stand ls e) few h k = k
  marked_paced a l c (Go ls s) few h k = record { one_turn = h; left = paced_sum (left_in s + c) l ls a few h k.left }
  marked_paced a l c (Halt ls e) few h k = record { one_turn = h; left = paced_sum (0 + c) l ls a few h k.left }

  begun_paced : (b : CodeBlock) (s : CodeState) (m : ℕ) → IsBounded marks cost rest w b → ((marks b.number == 0) ≡ true → m ≡ rest b.number) → PacedMove w left_in m (first_cost cost b.items) (begun marks (Some b) s)
  begun_paced b s m is same = by (marks b.number == 0) refl
    where
      by : (z : Bool) → (marks b.number == 0) ≡ z → PacedMove w left_in m (first_cost cost b.items) (cond (marks b.number == 0) (goes_on b.items s) (marked (marks b.number) (goes_on b.items s)))
      by true q =
          let few : most cost (left_at marks rest) b.items ≤ rest b.number = subst (λ z. most cost (left_at marks rest) b.items ≤ cond z (rest b.number) w) q is.within in
          subst (λ z. PacedMove w left_in m (first_cost cost b.items) (cond z (goes_on b.items s) (marked (marks b.number) (goes_on b.items s)))) (sym q)
          (fits_more _ m _ (goes_on b.items s) (omega (arith, few, same q)) (goes_on_paced b.items s is.once))
      by false q =
          let few : most cost (left_at marks rest) b.items ≤ w = subst (λ z. most cost (left_at marks rest) b.items ≤ cond z (rest b.number) w) q is.within in
          subst (λ z. PacedMove w left_in m (first_cost cost b.items) (cond z (goes_on b.items s) (marked (marks b.number) (goes_on b.items s)))) (sym q)
          (fits_more 0 m _ (marked (marks b.number) (goes_on b.items s)) (omega arith) (marked_paced (marks b.number) _ _ (goes_on b.items s) few (goes_on_plain calls b.items s).unturned (goes_on_paced b.items s is.once)))

  module _ (code : List CodeBlock) (bounds : BoundsCode marks cost rest w code) where
    number_paced : (n : ℕ) (o : Option CodeBlock) (s : CodeState) → block_of_number n code ≡ o → PacedMove w left_in (left_at marks rest n) (entry_cost cost o) (begun marks o s)
    number_paced n None s e = refl
    number_paced n (Some b) s e =
        let found = found_passes (IsBounded marks cost rest w) (λ (b : CodeBlock). b.number == n) code bounds b e in
        let is : b.number ≡ n = eqb-true b.number n found.1 in
        subst (λ k. PacedMove w left_in (left_at marks rest k) (first_cost cost b.items) (begun marks (Some b) s)) is
        (begun_paced b s (left_at marks rest b.number) found.0 (λ z. ap (λ t. cond t (rest b.number) 0) z))

    old_paced : (a : ℕ) (o : Option CodeBlock) (s : CodeState) → block_at a code ≡ o → PacedMove w left_in 0 (entry_cost cost o) (begun marks o s)
    old_paced a None s e = refl
    old_paced a (Some b) s e = by (a == 0) refl e
      where
        by : (z : Bool) → (a == 0) ≡ z → cond z None (find (λ (b : CodeBlock). b.at == a) code) ≡ Some b → PacedMove w left_in 0 (first_cost cost b.items) (begun marks (Some b) s)
        by true q e = absurd cc
        by false q e =
            let found = found_passes (IsBounded marks cost rest w) (λ (b : CodeBlock). b.at == a) code bounds b e in
            let is : b.at ≡ a = eqb-true b.at a found.1 in
            let marked_at : marks b.number ≢ 0 = found.0.entered (λ z. not_zero a q (sym is ∙ z)) in
            begun_paced b s 0 found.0 (λ z. absurd (marked_at (eqb-true (marks b.number) 0 z)))
          where
            not_zero : (a : ℕ) → (a == 0) ≡ false → a ≢ 0
            not_zero a q z = absurd (let s : (a == 0) ≡ true = ap (λ k. k == 0) z in cc)

    point_paced : (p : CodePoint) (s : CodeState) → IsOncePoint p → PacedMove w left_in (left_point p) (cost_at cost code p) (move_at marks code p s)
    point_paced (AtNumber n) s h = number_paced n _ s refl
    point_paced (AtOld a) s h = old_paced a _ s refl
    point_paced (Inside items) s h = goes_on_paced items s h

    pub next_paced : (p : CodePosition) → IsOncePoint p.point → PacedMove w left_in (left_in p) (step_cost cost code p) (code_next marks code p)
    unfolding code_next
    next_paced p h = point_paced p.point p.state h

    -- ---- no item comes again at once in each position that the run comes to
    begun_once : (o : Option CodeBlock) (s : CodeState) → ((b : CodeBlock) → o ≡ Some b → All IsOnce b.items) → To (λ p. IsOncePoint p.point) (begun marks o s)
    begun_once None s h = tt
    begun_once (Some b) s h =
        let on = goes_on_once b.items s (h b refl) in
        cond_both (marks b.number == 0) _ _ (To (λ p. IsOncePoint p.point)) (λ z. on) (λ z. marked_once (marks b.number) (goes_on b.items s) on)

    point_once : (p : CodePoint) (s : CodeState) → IsOncePoint p → To (λ p. IsOncePoint p.point) (move_at marks code p s)
    point_once (AtNumber n) s h = begun_once (block_of_number n code) s (λ b e. (found_passes (IsBounded marks cost rest w) (λ (b : CodeBlock). b.number == n) code bounds b e).0.once)
    point_once (AtOld a) s h = begun_once (block_at a code) s (λ b e. by (a == 0) b e)
      where
        by : (z : Bool) (b : CodeBlock) → cond z None (find (λ (b : CodeBlock). b.at == a) code) ≡ Some b → All IsOnce b.items
        by true b e = absurd cc
        by false b e = (found_passes (IsBounded marks cost rest w) (λ (b : CodeBlock). b.at == a) code bounds b e).0.once
    point_once (Inside items) s h = goes_on_once items s h

    pub next_once : (p : CodePosition) → IsOncePoint p.point → To (λ p. IsOncePoint p.point) (code_next marks code p)
    unfolding code_next
    next_once p h = point_once p.point p.state h

    pub to_once : (m : Move CodePosition) → To (λ p. IsOncePoint p.point) m → To (Holds (λ (i : OncePosition). i.position)) m
    to_once (Stand ls e) h = tt
    to_once (Go ls s) h = (record { position = s; once = h }, refl)
    to_once (Halt ls e) h = tt

    pub kept : IsKept (λ (i : OncePosition). i.position) (code_next marks code)
    kept i = to_once (code_next marks code i.position) (next_once i.position i.once)

-- ---- where each item costs one, so does each step that goes on
module _ (calls : CallLaws) (marks : Marks) (rest : ℕ → ℕ) (w : ℕ) (code : List CodeBlock) (bounds : BoundsCode marks (λ x. 1) rest w code) where
  abbrev one : Item → ℕ
  one x = 1

  abbrev Costing : ℕ → ℕ → Move CodePosition → Type 0
  Costing l c m = PacedMove w (left_in calls marks one rest w) l c m

  items_one : (l : ℕ) (xs : List Item) (s : CodeState) → Costing l (first_cost one xs) (goes_on xs s) → Costing l 1 (goes_on xs s)
  items_one l [] s h = h
  items_one l (x ∷ xs) s h = h

  block_one : (l a : ℕ) (z : Bool) (xs : List Item) (s : CodeState) → Costing l (first_cost one xs) (cond z (goes_on xs s) (marked a (goes_on xs s))) → Costing l 1 (cond z (goes_on xs s) (marked a (goes_on xs s)))
  block_one l a true [] s h = h
  block_one l a false [] s h = h
  block_one l a true (x ∷ xs) s h = h
  block_one l a false (x ∷ xs) s h = h

  begun_one : (l : ℕ) (o : Option CodeBlock) (s : CodeState) → Costing l (entry_cost one o) (begun marks o s) → Costing l 1 (begun marks o s)
  begun_one l None s h = h
  begun_one l (Some b) s h = block_one l (marks b.number) (marks b.number == 0) b.items s h

  point_one : (l : ℕ) (p : CodePoint) (s : CodeState) → Costing l (cost_at one code p) (move_at marks code p s) → Costing l 1 (move_at marks code p s)
  point_one l (AtNumber n) s h = begun_one l (block_of_number n code) s h
  point_one l (AtOld a) s h = begun_one l (block_at a code) s h
  point_one l (Inside xs) s h = items_one l xs s h

  pub next_in_steps : (p : CodePosition) → IsOncePoint p.point → Costing (left_in calls marks one rest w p) 1 (code_next marks code p)
  unfolding code_next
  next_in_steps p h = point_one _ p.point p.state (next_paced calls marks one rest w code bounds p h)
