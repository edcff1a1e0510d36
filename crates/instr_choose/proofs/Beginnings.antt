-- Runs of a machine that begin as those from another state do, with a turn in front or without one.
use Rattle.std.proofs.Common.{◌≡◌, ℕ, suc, ◌+◌, List, [], ◌∷◌, ◌++◌, Option, Some, None, sym, ap, ◌∙◌, subst₂, append_assoc, arith}
use Rattle.std.proofs.lemmas.List.{append-nil}
use Rattle.traces.specs.Trace.{Label, Turn, End, Move, Go, Halt, seen, before, run}
use Rattle.traces.specs.Steps.{Goes, Reaches}
use Rattle.traces.specs.Machines.{marked}
use Rattle.traces.specs.RunLaws.{RunLaws}

-- ---- a move that is a step
pub data IsStep {S : Type 0} (m : Move S) : Type 0 where
  advances : (ls : List Label) → (t : S) → m ≡ Go ls t → IsStep m
  halts : (ls : List Label) → (e : End) → m ≡ Halt ls e → IsStep m

-- ---- a state from which the machine does what it does from another, with these labels in front
pub data Begins {S : Type 0} (next : S → Move S) (s t : S) : List Label → Type 0 where
  same : next s ≡ next t → Begins next s t []
  turn : (a : ℕ) → next s ≡ marked a (next t) → Begins next s t (Turn a ∷ [])

-- the run ends so after some steps, at least one
pub record RunEnds {S : Type 0} (next : S → Move S) (s : S) (ls : List Label) (e : End) : Type 0 where
  pub steps : ℕ
  pub ends : run next s (suc steps) ≡ seen ls (Some e)

-- the run shows these labels first
pub record RunShows {S : Type 0} (next : S → Move S) (s : S) (ls : List Label) : Type 0 where
  pub steps : ℕ
  pub rest : List Label
  pub end : Option End
  pub shows : run next s (suc steps) ≡ seen (ls ++ rest) end

module _ {S : Type 0} (runs : RunLaws S) (next : S → Move S) where
  pub step_rests : (s : S) → IsStep (next s) → run next s 0 ≡ seen [] None
  step_rests s (advances ls t e) = runs.rest_go next s ls t e
  step_rests s (halts ls f e) = runs.rest_halt next s ls f e

  one_more : (n : ℕ) → n + 1 ≡ suc n
  one_more n = omega arith

  then_more : (n j : ℕ) → n + suc j ≡ suc (n + j)
  then_more n j = omega arith

  -- ---- from a state that is reached
  pub reach_go : (s t w : S) (n : ℕ) (ls : List Label) → Reaches next s n ls t → next t ≡ Go [] w → Goes next s (suc n) ls w
  reach_go s t w n ls r e =
      let both = runs.reaches_then next s n ls t 1 [] w r (runs.reaches_step next t [] w e) in
      runs.reaches_goes next s n ls w (subst₂ (λ k ks. Reaches next s k ks w) (one_more n) (append-nil ls) both)

  pub reach_ends : (s t : S) (n : ℕ) (ls ks : List Label) (e : End) → Reaches next s n ls t → RunEnds next t ks e → RunEnds next s (ls ++ ks) e
  reach_ends s t n ls ks e r h = record {
    steps = n + h.steps;
    ends = ap (run next s) (sym (then_more n h.steps)) ∙ (runs.reaches_run next s n ls t r (suc h.steps) ∙ ap (before ls) h.ends);
  }

  pub reach_shows : (s t : S) (n : ℕ) (ls : List Label) → Reaches next s n ls t → RunShows next s ls
  reach_shows s t n ls r = record {
    steps = n;
    rest = (run next t 1).trace;
    end = (run next t 1).end;
    shows = ap (run next s) (sym (one_more n)) ∙ runs.reaches_run next s n ls t r 1;
  }

  -- ---- from a state that begins so
  pub begun_goes : (s t u : S) (bs ls : List Label) (k : ℕ) → Begins next s t bs → Goes next t k ls u → Goes next s k (bs ++ ls) u
  begun_goes s t u _ ls k (same e) g = runs.same_goes next s t e k ls u g
  begun_goes s t u _ ls k (turn a e) g = runs.marked_goes next s t a e k ls u g

  begun_run : (s t : S) (bs : List Label) → Begins next s t bs → run next t 0 ≡ seen [] None → (n : ℕ) → run next s (suc n) ≡ before bs (run next t (suc n))
  begun_run s t _ (same e) awake n = runs.same_run next s t e (suc n)
  begun_run s t _ (turn a e) awake n = runs.marked_run next s t a e awake n

  pub begun_ends : (s t : S) (bs ls : List Label) (e : End) → Begins next s t bs → run next t 0 ≡ seen [] None → RunEnds next t ls e → RunEnds next s (bs ++ ls) e
  begun_ends s t bs ls e b awake h = record { steps = h.steps; ends = begun_run s t bs b awake h.steps ∙ ap (before bs) h.ends }

  pub begun_shows : (s t : S) (bs ls : List Label) → Begins next s t bs → run next t 0 ≡ seen [] None → RunShows next t ls → RunShows next s (bs ++ ls)
  begun_shows s t bs ls b awake h = record {
    steps = h.steps;
    rest = h.rest;
    end = h.end;
    shows = begun_run s t bs b awake h.steps ∙ (ap (before bs) h.shows ∙ ap (λ ks. seen ks h.end) (sym (append_assoc bs ls h.rest)));
  }
