-- Storages side by side: what they have in common, and how it goes on.
use Rattle.std.proofs.Common.{◌≡◌, ℕ, ◌<◌, ◌==◌, true, cond, [], Option, Some, None, Result, Ok, Err, refl, sym, ap, ap₂, ◌∙◌, subst}
use Rattle.x86_values.specs.declared.word.Word.{Word}
use Rattle.traces.specs.Trace.{End}
use Rattle.memory.specs.Memory.{Memory}
use Rattle.flag_ir.specs.declared.variable.Var.{Var}
use Rattle.flag_ir.specs.declared.variable.Var.TheVariants as var
use Rattle.flag_ir.specs.declared.variable.Term.{Term}
use Rattle.flag_ir.specs.declared.variable.Term.TheVariants as term
use Rattle.flag_ir.specs.Storage.{Storage, put_word, with_local, local_in, put_var, var_in, term_in}
use Rattle.flag_ir.specs.Operations.{and_then, needed, performs}
use Rattle.private_memory.specs.PrivateArea.{is_private}
use Rattle.guards.specs.Temporaries.{IsVarBelow, IsTermBelow}
use Rattle.guards.specs.States.{DiffersByArea}

-- ---- the same is read of both
pub var_same : (x : Var) (u v : Storage) → DiffersByArea u v → IsVarBelow 1399997 x → var_in x u ≡ var_in x v
var_same (var.Reg n) u v h b = ap (λ (words : ℕ → Word). words n) h.regs
var_same (var.Flag n) u v h b = ap (λ (words : ℕ → Word). words n) h.flags
var_same (var.Temp n) u v h b = h.temps n b
var_same (var.Local n) u v h b = ap (local_in n) (h.no_frame ∙ sym h.no_frame')

pub term_same : (t : Term) (u v : Storage) → DiffersByArea u v → IsTermBelow 1399997 t → term_in t u ≡ term_in t v
term_same (term.Var x) u v h b = var_same x u v h b
term_same (term.Word n) u v h b = refl

-- ---- the same is put into both
pub put_beside : (x : Var) (w z : Word) (u v : Storage) → DiffersByArea u v → w ≡ z → DiffersByArea (put_var x w u) (put_var x z v)
put_beside (var.Reg n) w z u v h e = record { regs = ap₂ (put_word n) e h.regs; flags = h.flags; temps = h.temps; memory = h.memory; left = h.left; no_frame = h.no_frame; no_frame' = h.no_frame'; esp0 = h.esp0 }
put_beside (var.Flag n) w z u v h e = record { regs = h.regs; flags = ap₂ (put_word n) e h.flags; temps = h.temps; memory = h.memory; left = h.left; no_frame = h.no_frame; no_frame' = h.no_frame'; esp0 = h.esp0 }
put_beside (var.Temp n) w z u v h e = record { regs = h.regs; flags = h.flags; temps = λ k l. ap₂ (cond (k == n)) e (h.temps k l); memory = h.memory; left = h.left; no_frame = h.no_frame; no_frame' = h.no_frame'; esp0 = h.esp0 }
put_beside (var.Local n) w z u v h e = record { regs = h.regs; flags = h.flags; temps = h.temps; memory = h.memory; left = h.left; no_frame = ap (with_local n w) h.no_frame; no_frame' = ap (with_local n z) h.no_frame'; esp0 = h.esp0 }

pub put_memory : (x : Var) (w : Word) (v : Storage) → (put_var x w v).memory ≡ v.memory
put_memory (var.Reg n) w v = refl
put_memory (var.Flag n) w v = refl
put_memory (var.Temp n) w v = refl
put_memory (var.Local n) w v = refl

-- the second may have other fresh temporaries
pub fresh_beside : (u v : Storage) (words : ℕ → Word) → DiffersByArea u v → ((k : ℕ) → k < 1399997 → words k ≡ v.temps k) → DiffersByArea u (record v { temps = words })
fresh_beside u v words h same = record { regs = h.regs; flags = h.flags; temps = λ k l. h.temps k l ∙ sym (same k l); memory = h.memory; left = h.left; no_frame = h.no_frame; no_frame' = h.no_frame'; esp0 = h.esp0 }

-- ---- results
-- the area is as it was
pub record SameArea (m n : Memory) : Type 0 where
  pub places : (a : ℕ) → is_private a ≡ true → n a ≡ m a

pub record BothGo (m : Memory) (u v : Storage) : Type 0 where
  pub beside : DiffersByArea u v
  pub area : SameArea m v.memory

abbrev pub Meets : Memory → Result Storage End → Result Storage End → Type 0
Meets m (Ok u) (Ok v) = BothGo m u v
Meets m (Ok u) (Err e) = ⊥
Meets m (Err e) (Ok v) = ⊥
Meets m (Err e) (Err f) = e ≡ f

pub put_meets : (x : Var) (w z : Word) (u v : Storage) → DiffersByArea u v → w ≡ z → BothGo v.memory (put_var x w u) (put_var x z v)
put_meets x w z u v h e = record { beside = put_beside x w z u v h e; area = record { places = λ a p. ap (λ (m : Memory). m a) (put_memory x z v) } }

pub needed_meets : (m : Memory) (o p : Option ℕ) (f g : ℕ → Result Storage End) → o ≡ p → ((n : ℕ) → p ≡ Some n → Meets m (f n) (g n)) → Meets m (and_then (needed o) f) (and_then (needed p) g)
needed_meets m o p f g e h = subst (λ q. Meets m (and_then (needed q) f) (and_then (needed p) g)) (sym e) (by p refl)
  where
    by : (q : Option ℕ) → p ≡ q → Meets m (and_then (needed q) f) (and_then (needed q) g)
    by None r = refl
    by (Some n) r = h n r

-- a list of one
pub alone : (turn : ℕ) (m : Memory) (r s : Result Storage End) → Meets m r s → Meets m r (and_then s (performs turn []))
unfolding performs
alone turn m r (Ok v) h = h
alone turn m r (Err e) h = h
