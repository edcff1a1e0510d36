-- A sweep so far is carried on by one step, and is whole where no bytes are left.
use Rattle.std.proofs.Common.{◌≡◌, ℕ, ◌-◌, ◌<◌, ◌≤◌, List, take, drop, length, sym, ap, subst, ◌∙◌, arith}
use Rattle.std.proofs.lemmas.List.{drop-drop, drop_all, length-drop, take_rest}
use Rattle.linear_sweep.specs.declared.linear.Counts.{Counts}
use Rattle.linear_sweep.specs.Sweep.{CountsGrow, Sweeps, counted_bytes, nothing_counted, passed}
use Rattle.linear_sweep.specs.Sweep.Sweeps.{end, next}

-- each end of a sweep over what is left is one of the whole
abbrev pub IsSoFar : List ℕ → Counts → Type 0
IsSoFar bytes seen = (e : Counts) → Sweeps (drop (counted_bytes seen) bytes) seen e → Sweeps bytes nothing_counted e

-- what is left is the slice from there on
pub grows_left : (bytes : List ℕ) (at : ℕ) (old new : Counts) → at ≡ counted_bytes old → CountsGrow (take (length bytes - at) (drop at bytes)) old new → CountsGrow (drop (counted_bytes old) bytes) old new
grows_left bytes at old new is g = subst (λ (l : List ℕ). CountsGrow l old new) (take_rest bytes at ∙ ap (λ (n : ℕ). drop n bytes) is) g

pub so_far_next : (bytes : List ℕ) (old new : Counts) → counted_bytes old < length bytes → CountsGrow (drop (counted_bytes old) bytes) old new → IsSoFar bytes old → IsSoFar bytes new
so_far_next bytes old new less g before e rest =
    let at = counted_bytes old in
    let p = passed g.front in
    let some : 0 < length (drop at bytes) = omega (arith, less, length-drop at bytes) in
    let same : drop (counted_bytes new) bytes ≡ drop p (drop at bytes) = ap (λ (n : ℕ). drop n bytes) g.sum ∙ sym (drop-drop p at bytes) in
    let then : Sweeps (drop p (drop at bytes)) new e = subst (λ (l : List ℕ). Sweeps l new e) same rest in
    before e (next (drop at bytes) old e g.front some g.decodes (subst (λ (c : Counts). Sweeps (drop p (drop at bytes)) c e) g.is then))

pub so_far_whole : (bytes : List ℕ) (seen : Counts) → length bytes ≤ counted_bytes seen → IsSoFar bytes seen → Sweeps bytes nothing_counted seen
so_far_whole bytes seen le before = before seen (subst (λ (l : List ℕ). Sweeps l seen seen) (sym (drop_all (counted_bytes seen) bytes le)) (end seen))
