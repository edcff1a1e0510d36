-- What the load of IN gave, where a file of at most so many bytes is wanted.
use Rattle.std.proofs.Common.{◌≡◌, ℕ, ◌+◌, ◌<◌, ◌≤◌, min, false, Bool, true, cond, List, length, take, Option, option_map, Ok, Err, Some, None, Vec, refl, sym, ap, ◌∙◌, subst, arith, length-take}
use Rattle.std.proofs.lemmas.List.{take_all}
use Rattle.std.specs.FinMap.{get}
use Rattle.std.specs.declared.alloc.Global.{Global}
use Rattle.sw_host.specs.declared.host.HostFault.TheVariants.{Failed}
use Rattle.sw_host.specs.Told.{Told}
use Rattle.sw_host.specs.Calls.{called, fails, loaded, Loads}
use Rattle.sw_top.specs.Loading.{front_of, IsLoadedWhole, IsLonger, HasFile}

-- a front that is shorter than it may be is the whole
whole : (n : ℕ) (file full : List ℕ) → take n full ≡ file → length file < n → full ≡ file
whole n file full e h =
    let size : min n (length full) ≡ length file = sym (length-take n full) ∙ ap length e in
    sym (take_all n full (omega (arith, size, h))) ∙ e

had_file : (b : Bool) (o : Option (List ℕ)) (n : ℕ) (file : List ℕ) → cond b None (option_map (take n) o) ≡ Some file → length file < n → o ≡ Some file
had_file true o n file e h = cc
had_file false None n file e h = cc
had_file false (Some full) n file e h = let same : take n full ≡ file = cc in ap Some (whole n file full same h)

-- a load that gave fewer bytes than were asked for gave the file
loaded_whole : (a : Told) (name : List ℕ) (n : ℕ) (file : List ℕ) → loaded (called a) name n ≡ Some file → length file < n → get a.files name ≡ Some file
unfolding loaded called
loaded_whole a name n file e h = had_file (fails (called a)) (get a.files name) n file e h

-- a front that is longer than m is one of a file that is longer, and has all n bytes where n is the next number
longer : (n m : ℕ) (front full : List ℕ) → take n full ≡ front → n ≡ m + 1 → m < length front → (length front ≡ n) × (m < length full)
longer n m front full e next h =
    let size : min n (length full) ≡ length front = sym (length-take n full) ∙ ap length e in
    (omega (arith, size, next, h), omega (arith, size, next, h))

had_longer : (b : Bool) (o : Option (List ℕ)) (n m : ℕ) (front : List ℕ) → cond b None (option_map (take n) o) ≡ Some front → n ≡ m + 1 → m < length front → (length front ≡ n) × (full : List ℕ) × (o ≡ Some full) × (m < length full)
had_longer true o n m front e next h = cc
had_longer false None n m front e next h = cc
had_longer false (Some full) n m front e next h =
    let same : take n full ≡ front = cc in
    let both = longer n m front full same next h in
    (both.0, full, refl, both.1)

loaded_longer : (a : Told) (name : List ℕ) (n m : ℕ) (front : List ℕ) → loaded (called a) name n ≡ Some front → n ≡ m + 1 → m < length front → (length front ≡ n) × (full : List ℕ) × (get a.files name ≡ Some full) × (m < length full)
unfolding loaded called
loaded_longer a name n m front e next h = had_longer (fails (called a)) (get a.files name) n m front e next h

-- what is loaded of a file that is there, where the load isn't to fail
pub front-of_file : (most : ℕ) (name : List ℕ) (a : Told) (file : List ℕ) → HasFile name a file → front_of most name a ≡ Some (take (most + 1) file)
unfolding loaded called
front-of_file most name a file g = rw (g.loads, g.whole) refl

gives : (n : ℕ) (b : Bool) (o : Option (List ℕ)) (front : List ℕ) → cond b None (option_map (take n) o) ≡ Some front → b ≡ false
gives n true o front e = cc
gives n false o front e = refl

loads : (most : ℕ) (name : List ℕ) (a : Told) (front : List ℕ) → front_of most name a ≡ Some front → fails (called a) ≡ false
unfolding loaded
loads most name a front e = gives (most + 1) (fails (called a)) (get (called a).files name) front e

module _ (most : ℕ) (name : List ℕ) (a : Told) where
  -- by the answer of the load
  pub failed_load : (b : Told) → Loads name (most + 1) (Err Failed) a b → front_of most name a ≡ None
  failed_load b p = subst (λ t. loaded t name (most + 1) ≡ None) p.0 p.1

  gave : (v : Vec ℕ Global) (b : Told) → Loads name (most + 1) (Ok v) a b → front_of most name a ≡ Some v.items
  gave v b p = subst (λ t. loaded t name (most + 1) ≡ Some v.items) p.0 p.1

  pub longer_load : (v : Vec ℕ Global) (b : Told) → most < length v.items → Loads name (most + 1) (Ok v) a b → IsLonger most name a
  longer_load v b h p =
      let given = gave v b p in
      let found = loaded_longer a name (most + 1) most v.items given refl h in
      record { front = v.items; gave = given; full = found.0; file = found.1; whole = found.2; over = found.3 }

  pub whole_load : (v : Vec ℕ Global) (b : Told) → length v.items ≤ most → Loads name (most + 1) (Ok v) a b → IsLoadedWhole most name a v.items
  whole_load v b h p =
      let given = gave v b p in
      record { gave = given; fits = h; whole = loaded_whole a name (most + 1) v.items given (omega (arith, h)) }

  -- what was loaded is there
  pub whole_has : (file : List ℕ) → IsLoadedWhole most name a file → HasFile name a file
  whole_has file w = record { loads = loads most name a file w.gave; whole = w.whole }

  pub longer_has : (l : IsLonger most name a) → HasFile name a l.file
  longer_has l = record { loads = loads most name a l.front l.gave; whole = l.whole }

  -- what is there is loaded
  pub has_whole : (file : List ℕ) → HasFile name a file → length file ≤ most → IsLoadedWhole most name a file
  has_whole file g h =
      record { gave = front-of_file most name a file g ∙ ap Some (take_all (most + 1) file (omega (arith, h))); fits = h; whole = g.whole }

  pub has_longer : (file : List ℕ) → HasFile name a file → most < length file → IsLonger most name a
  has_longer file g h =
      let size : length (take (most + 1) file) ≡ min (most + 1) (length file) = length-take (most + 1) file in
      record { front = take (most + 1) file; gave = front-of_file most name a file g; full = omega (arith, size, h); file = file; whole = g.whole; over = h }

  -- a load gives one thing
  pub one_whole : (file other : List ℕ) → IsLoadedWhole most name a file → IsLoadedWhole most name a other → other ≡ file
  one_whole file other p q = let one = p.gave in let two = q.gave in cc

  pub not_none : (file : List ℕ) → IsLoadedWhole most name a file → front_of most name a ≡ None → ⊥
  not_none file p e = let one = p.gave in cc

  pub longer_not_none : IsLonger most name a → front_of most name a ≡ None → ⊥
  longer_not_none p e = let one = p.gave in cc

  pub not_longer : (file : List ℕ) → IsLoadedWhole most name a file → IsLonger most name a → ⊥
  not_longer file p q =
      let one = p.gave in
      let two = q.gave in
      let same : q.front ≡ file = cc in
      let size = subst (λ f. length f ≡ most + 1) same q.full in
      omega (arith, size, p.fits)
