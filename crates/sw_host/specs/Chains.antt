-- What several calls of a host tell together.
use Rattle.std.specs.Prelude.{Option}
use Rattle.sw_host.specs.Told.{Told, Tells}

-- no call
pub tells_none : (o : Option Told) (P : Told → Told → Type 0) → ((a : Told) → P a a) → Tells o o P
tells_none o P p = record { at = λ a e. (a, e, p a) }

-- what one call tells, and more that follows from it
pub tells_map : (o p : Option Told) (P Q : Told → Told → Type 0) → Tells o p P → ((a b : Told) → P a b → Q a b) → Tells o p Q
tells_map o p P Q t f = record { at = λ a e. let one = t.at a e in (one.0, one.1, f a one.0 one.2) }

-- two calls, one after another
pub tells_then : (o p q : Option Told) (P Q R : Told → Told → Type 0) → Tells o p P → Tells p q Q → ((a b c : Told) → P a b → Q b c → R a c) → Tells o q R
tells_then o p q P Q R t u f = record {
  at = λ a e.
      let one = t.at a e in
      let two = u.at one.0 one.1 in
      (two.0, two.1, f a one.0 two.0 one.2 two.2);
}

-- three
pub tells_three : (o p q r : Option Told) (P Q R S : Told → Told → Type 0) → Tells o p P → Tells p q Q → Tells q r R → ((a b c d : Told) → P a b → Q b c → R c d → S a d) → Tells o r S
tells_three o p q r P Q R S t u v f = record {
  at = λ a e.
      let one = t.at a e in
      let two = u.at one.0 one.1 in
      let three = v.at two.0 two.1 in
      (three.0, three.1, f a one.0 two.0 three.0 one.2 two.2 three.2);
}
