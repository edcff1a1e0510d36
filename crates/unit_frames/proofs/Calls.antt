-- Whether the words of a call stand in the innermost frame.
use Rattle.std.proofs.Common.{◌≡◌, ℕ, ◌+◌, ◌*◌, ◌<◌, ◌≤◌, ◌&&◌, Bool, true, false, leb, List, [], ◌∷◌, Option, Some, None, refl, sym, ap, ◌∙◌, arith}
use Rattle.std.specs.List.{slice_get}
use Rattle.std.proofs.lemmas.Bool.Decides.{nat_tests}
use Rattle.flag_ir.specs.declared.procedure.Proc.{Proc}
use Rattle.unit_frames.specs.declared.frame.OpenFrame.{OpenFrame}
use Rattle.unit_frames.specs.Kept.{frames_of}
use Rattle.unit_frames.specs.Places.{holds_call}

pub no_call : (procs : List Proc) (height : ℕ) (p : Proc) (fs : List OpenFrame) → slice_get fs 0 ≡ None → false ≡ holds_call height p (frames_of procs fs)
no_call procs height p [] h = refl
no_call procs height p (f ∷ more) h = absurd (cc h)

by_first : (procs : List Proc) (height : ℕ) (p : Proc) (fs : List OpenFrame) (f : OpenFrame) → slice_get fs 0 ≡ Some f → (leb f.height (height + 4 + f.depth) && leb (height + 4 + 4 * p.args) f.height) ≡ holds_call height p (frames_of procs fs)
by_first procs height p [] f h = absurd (cc h)
by_first procs height p (g ∷ more) f h = let same : f ≡ g = cc h in ap (λ (x : OpenFrame). leb x.height (height + 4 + x.depth) && leb (height + 4 + 4 * p.args) x.height) same

pub held : (procs : List Proc) (height : ℕ) (p : Proc) (fs : List OpenFrame) (f : OpenFrame) (t : Bool) → slice_get fs 0 ≡ Some f → f.height ≤ height + 4 + f.depth → t ≡ leb (height + 4 + 4 * p.args) f.height → t ≡ holds_call height p (frames_of procs fs)
held procs height p fs f t h low is =
    let first : leb f.height (height + 4 + f.depth) ≡ true = grind (arith, nat_tests) in
    is ∙ sym (ap (λ (x : Bool). x && leb (height + 4 + 4 * p.args) f.height) first) ∙ by_first procs height p fs f h

pub not_held : (procs : List Proc) (height : ℕ) (p : Proc) (fs : List OpenFrame) (f : OpenFrame) → slice_get fs 0 ≡ Some f → height + 4 + f.depth < f.height → false ≡ holds_call height p (frames_of procs fs)
not_held procs height p fs f h low =
    let first : leb f.height (height + 4 + f.depth) ≡ false = grind (arith, nat_tests) in
    sym (ap (λ (x : Bool). x && leb (height + 4 + 4 * p.args) f.height) first) ∙ by_first procs height p fs f h
