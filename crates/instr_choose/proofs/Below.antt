-- Places that a storage is below, and what writes to places keep of it.
use Rattle.std.proofs.Common.{◌≡◌, ◌≢◌, ℕ, ◌+◌, ◌<◌, ◌==◌, Bool, true, false, cond, Some, None, refl, sym, ap, ◌∙◌, subst, arith}
use Rattle.std.proofs.lemmas.Bool.{cond-true, cond-false, eqb-true, eq-eqb, ne_eqb}
use Rattle.outside.specs.Environment.{IsEnvironment}
use Rattle.x86_values.specs.declared.word.Word.{Word}
use Rattle.x86_values.specs.declared.word.Flags.{Flags}
use Rattle.x86_values.specs.Words.{word_of}
use Rattle.x86_values.specs.WordLaws.{WordLaws}
use Rattle.x86_values.specs.Sizes.{no_word}
use Rattle.x86_values.specs.LessSpecified.{WordLessSpecified}
use Rattle.x86_values.specs.LessSpecifiedLaws.{LessSpecifiedLaws}
use Rattle.memory.specs.LessSpecified.{MemoryLessSpecified}
use Rattle.x86_meaning.specs.Registers.{Registers, with_register}
use Rattle.flag_ir.specs.declared.variable.Var.{Var}
use Rattle.flag_ir.specs.declared.variable.Var.TheVariants as var
use Rattle.flag_ir.specs.declared.variable.Term.{Term}
use Rattle.flag_ir.specs.declared.variable.Term.TheVariants as term
use Rattle.flag_ir.specs.Storage.{Storage, put_word, put_var, var_in, term_in}
use Rattle.flag_ir.specs.Form.{IsVar, IsTerm}
use Rattle.named_code.specs.Running.{CodeState}
use Rattle.instr_choose.specs.Lists.{name_of}
use Rattle.instr_choose.specs.Relation.{place_of_var, IsBelow}
use Rattle.instr_choose.proofs.Items.{with_place, with_flags, term_at, IsApart}

-- ---- a place that is written, and another one
pub here : (p : ℕ) (w : Word) (regs : Registers) → with_register p w regs p ≡ w
unfolding with_register
here p w regs = cond-true (p == p) w (regs p) (eq-eqb p p refl)

pub elsewhere : (p q : ℕ) (w : Word) (regs : Registers) → q ≢ p → with_register p w regs q ≡ regs q
unfolding with_register
elsewhere p q w regs h = cond-false (q == p) w (regs q) (ne_eqb q p h)

differs : (p q : ℕ) → (p == q) ≡ false → q ≢ p
differs p q h e = absurd (let t : (p == q) ≡ true = eq-eqb p q (sym e) in cc)

-- a term doesn't stand in the place of a register, and what stands elsewhere stays
pub apart_scratch : (p : ℕ) (t : Term) → p < 8 → IsApart p t
apart_scratch p (term.Var v) h = ne_eqb p (place_of_var v) (λ e. omega (arith, e, h))
apart_scratch p (term.Word n) h = tt

pub term_apart : (p : ℕ) (t : Term) (w : Word) (s : CodeState) → IsApart p t → term_at t (with_place p w s) ≡ term_at t s
term_apart p (term.Var v) w s h = elsewhere p (place_of_var v) w s.cpu.regs (differs p (place_of_var v) h)
term_apart p (term.Word n) w s h = refl

-- ---- below, but for one variable, whose place may hold anything
pub record IsBelowBut (t : Var) (u : Storage) (s : CodeState) : Type 0 where
  pub vars : (v : Var) → IsVar 0 v → name_of v ≢ name_of t → WordLessSpecified (var_in v u) (s.cpu.regs (place_of_var v))
  pub memory : MemoryLessSpecified u.memory s.memory
  pub left : u.left ≡ s.left
  pub environment : IsEnvironment u.left
  pub frames : u.frames ≡ Rattle.std.proofs.Common.[]

pub but : (t : Var) (u : Storage) (s : CodeState) → IsBelow u s → IsBelowBut t u s
but t u s h = record { vars = λ v i n. h.vars v i; memory = h.memory; left = h.left; environment = h.environment; frames = h.frames }

pub over : (t : Var) (u : Storage) (s : CodeState) (w : Word) → IsBelowBut t u s → IsBelowBut t u (with_place (place_of_var t) w s)
over t u s w h = record {
  vars = λ v i n. subst (WordLessSpecified (var_in v u)) (sym (elsewhere (place_of_var t) (place_of_var v) w s.cpu.regs (λ e. n (omega (arith, e))))) (h.vars v i n);
  memory = h.memory;
  left = h.left;
  environment = h.environment;
  frames = h.frames;
}

pub flagged_but : (t : Var) (u : Storage) (s : CodeState) (f : Flags) → IsBelowBut t u s → IsBelowBut t u (with_flags f s)
flagged_but t u s f h = record { vars = h.vars; memory = h.memory; left = h.left; environment = h.environment; frames = h.frames }

-- ---- scratch places and flags
pub scratch : (u : Storage) (s : CodeState) (p : ℕ) (w : Word) → p < 8 → IsBelow u s → IsBelow u (with_place p w s)
scratch u s p w l h = record {
  vars = λ v i. subst (WordLessSpecified (var_in v u)) (sym (elsewhere p (place_of_var v) w s.cpu.regs (λ e. omega (arith, e, l)))) (h.vars v i);
  memory = h.memory;
  left = h.left;
  environment = h.environment;
  frames = h.frames;
}

pub flagged : (u : Storage) (s : CodeState) (f : Flags) → IsBelow u s → IsBelow u (with_flags f s)
flagged u s f h = record { vars = h.vars; memory = h.memory; left = h.left; environment = h.environment; frames = h.frames }

-- ---- a variable is written on both sides
one_set : (m n p q : ℕ) (x y : Word) (g : ℕ → Word) (regs : Registers) → (m ≡ n → q ≡ p) → (m ≢ n → q ≢ p) → WordLessSpecified x y → (m ≢ n → WordLessSpecified (g m) (regs q)) → WordLessSpecified (put_word n x g m) (with_register p y regs q)
one_set m n p q x y g regs same apart h k = cases (m == n) refl
  where
    cases : (b : Bool) → (m == n) ≡ b → WordLessSpecified (cond (m == n) x (g m)) (with_register p y regs q)
    cases true e = subst (λ b. WordLessSpecified (cond b x (g m)) (with_register p y regs q)) (sym e) (subst (λ k. WordLessSpecified x (with_register p y regs k)) (sym (same (eqb-true m n e))) (subst (WordLessSpecified x) (sym (here p y regs)) h))
    cases false e =
        let other : m ≢ n = λ z. absurd (let t : (m == n) ≡ true = eq-eqb m n z in cc) in
        subst (λ b. WordLessSpecified (cond b x (g m)) (with_register p y regs q)) (sym e) (subst (WordLessSpecified (g m)) (sym (elsewhere p q y regs (apart other))) (k other))

other_set : (v : Word) (p q : ℕ) (y : Word) (regs : Registers) → q ≢ p → WordLessSpecified v (regs q) → WordLessSpecified v (with_register p y regs q)
other_set v p q y regs n h = subst (WordLessSpecified v) (sym (elsewhere p q y regs n)) h

pub sets : (t : Var) (u : Storage) (s : CodeState) (x y : Word) → IsVar 0 t → WordLessSpecified x y → IsBelowBut t u s → IsBelow (put_var t x u) (with_place (place_of_var t) y s)
sets (var.Reg n) u s x y i h b = record { vars = each; memory = b.memory; left = b.left; environment = b.environment; frames = b.frames }
  where
    each : (v : Var) → IsVar 0 v → WordLessSpecified (var_in v (put_var (var.Reg n) x u)) (with_register (place_of_var (var.Reg n)) y s.cpu.regs (place_of_var v))
    each (var.Reg m) j = one_set m n _ _ x y u.regs s.cpu.regs (λ e. omega (arith, e)) (λ o e. o (omega (arith, e))) h (λ o. b.vars (var.Reg m) j (λ e. o e))
    each (var.Flag m) j = other_set _ _ _ y s.cpu.regs (λ e. omega (arith, e, i)) (b.vars (var.Flag m) j (λ e. omega (arith, e, i)))
    each (var.Temp m) j = other_set _ _ _ y s.cpu.regs (λ e. omega (arith, e, i)) (b.vars (var.Temp m) j (λ e. omega (arith, e, i)))
    each (var.Local m) j = absurd (omega (arith, j))
sets (var.Flag n) u s x y i h b = record { vars = each; memory = b.memory; left = b.left; environment = b.environment; frames = b.frames }
  where
    each : (v : Var) → IsVar 0 v → WordLessSpecified (var_in v (put_var (var.Flag n) x u)) (with_register (place_of_var (var.Flag n)) y s.cpu.regs (place_of_var v))
    each (var.Reg m) j = other_set _ _ _ y s.cpu.regs (λ e. omega (arith, e, j)) (b.vars (var.Reg m) j (λ e. omega (arith, e, j)))
    each (var.Flag m) j = one_set m n _ _ x y u.flags s.cpu.regs (λ e. omega (arith, e)) (λ o e. o (omega (arith, e))) h (λ o. b.vars (var.Flag m) j (λ e. o (omega (arith, e))))
    each (var.Temp m) j = other_set _ _ _ y s.cpu.regs (λ e. omega (arith, e, i)) (b.vars (var.Temp m) j (λ e. omega (arith, e, i)))
    each (var.Local m) j = absurd (omega (arith, j))
sets (var.Temp n) u s x y i h b = record { vars = each; memory = b.memory; left = b.left; environment = b.environment; frames = b.frames }
  where
    each : (v : Var) → IsVar 0 v → WordLessSpecified (var_in v (put_var (var.Temp n) x u)) (with_register (place_of_var (var.Temp n)) y s.cpu.regs (place_of_var v))
    each (var.Reg m) j = other_set _ _ _ y s.cpu.regs (λ e. omega (arith, e, j)) (b.vars (var.Reg m) j (λ e. omega (arith, e, j)))
    each (var.Flag m) j = other_set _ _ _ y s.cpu.regs (λ e. omega (arith, e, j)) (b.vars (var.Flag m) j (λ e. omega (arith, e, j)))
    each (var.Temp m) j = one_set m n _ _ x y u.temps s.cpu.regs (λ e. omega (arith, e)) (λ o e. o (omega (arith, e))) h (λ o. b.vars (var.Temp m) j (λ e. o (omega (arith, e))))
    each (var.Local m) j = absurd (omega (arith, j))
sets (var.Local n) u s x y i h b = absurd (omega (arith, i))

-- nothing known is less specified than every word
pub nothing : (y : Word) → WordLessSpecified no_word y
nothing y = record { b0 = tt; b1 = tt; b2 = tt; b3 = tt }

-- a variable that is forgotten may hold anything
none_put : (b : Bool) (x y : Word) → WordLessSpecified x y → WordLessSpecified (cond b no_word x) y
none_put true x y h = nothing y
none_put false x y h = h

pub forgotten : (t : Var) (u : Storage) (s : CodeState) → IsVar 0 t → IsBelow u s → IsBelow (put_var t no_word u) s
forgotten (var.Reg n) u s i h = record { vars = each; memory = h.memory; left = h.left; environment = h.environment; frames = h.frames }
  where
    each : (v : Var) → IsVar 0 v → WordLessSpecified (var_in v (put_var (var.Reg n) no_word u)) (s.cpu.regs (place_of_var v))
    each (var.Reg m) j = none_put (m == n) _ _ (h.vars (var.Reg m) j)
    each (var.Flag m) j = h.vars (var.Flag m) j
    each (var.Temp m) j = h.vars (var.Temp m) j
    each (var.Local m) j = absurd (omega (arith, j))
forgotten (var.Flag n) u s i h = record { vars = each; memory = h.memory; left = h.left; environment = h.environment; frames = h.frames }
  where
    each : (v : Var) → IsVar 0 v → WordLessSpecified (var_in v (put_var (var.Flag n) no_word u)) (s.cpu.regs (place_of_var v))
    each (var.Reg m) j = h.vars (var.Reg m) j
    each (var.Flag m) j = none_put (m == n) _ _ (h.vars (var.Flag m) j)
    each (var.Temp m) j = h.vars (var.Temp m) j
    each (var.Local m) j = absurd (omega (arith, j))
forgotten (var.Temp n) u s i h = record { vars = each; memory = h.memory; left = h.left; environment = h.environment; frames = h.frames }
  where
    each : (v : Var) → IsVar 0 v → WordLessSpecified (var_in v (put_var (var.Temp n) no_word u)) (s.cpu.regs (place_of_var v))
    each (var.Reg m) j = h.vars (var.Reg m) j
    each (var.Flag m) j = h.vars (var.Flag m) j
    each (var.Temp m) j = none_put (m == n) _ _ (h.vars (var.Temp m) j)
    each (var.Local m) j = absurd (omega (arith, j))
forgotten (var.Local n) u s i h = absurd (omega (arith, i))

module _ (less : LessSpecifiedLaws) (words : WordLaws) where
  pub word_itself : (n : ℕ) → WordLessSpecified (word_of n) (word_of n)
  word_itself n = less.itself (word_of n) (words.word_of_bytes n)

  pub term_below : (t : Term) (u : Storage) (s : CodeState) → IsTerm 0 t → IsBelow u s → WordLessSpecified (term_in t u) (term_at t s)
  term_below (term.Var v) u s i h = h.vars v i
  term_below (term.Word n) u s i h = word_itself n
