-- Storages that agree on some locations, and go on agreeing where the same is put into both.
use Rattle.std.proofs.Common.{◌≡◌, ◌⊎◌, ℕ, zero, suc, ◌<◌, ◌==◌, cond, List, [], ◌∷◌, length, get_or, slice_get, Contains, refl, sym, ap, ◌∙◌, subst, inl, inr, arith}
use Rattle.std.proofs.lemmas.Bool.{cond-true, cond-false, eq-eqb, ne_eqb}
use Rattle.x86_values.specs.declared.word.Word.{Word}
use Rattle.outside.specs.Environment.{Environment}
use Rattle.memory.specs.Memory.{Memory}
use Rattle.flag_ir.specs.declared.variable.Var.{Var}
use Rattle.flag_ir.specs.declared.variable.Var.TheVariants as var
use Rattle.flag_ir.specs.declared.procedure.Proc.{Proc}
use Rattle.flag_ir.specs.Storage.{Frame, Storage, put_word, cut_to, with_local, local_in, put_var, var_in}
use Rattle.flag_ir.specs.Reads.{StorageLocation, InVar, InMemory, InOutside, InFrames, images, SameAt, Outline, outline, outlines, SameOutline, AgreesOn}
use Rattle.flag_ir.proofs.BareFrames.{heads}

-- ---- lists of locations
pub first_in : (x : StorageLocation) (ls : List StorageLocation) → Contains (x ∷ ls) x
first_in x ls = (0, omega arith, refl)

pub later_in : (x y : StorageLocation) (ls : List StorageLocation) → Contains ls y → Contains (x ∷ ls) y
later_in x y ls h = (suc h.0, omega (arith, h.1), h.2)

pub in_cases : (x y : StorageLocation) (ls : List StorageLocation) → Contains (x ∷ ls) y → (x ≡ y) ⊎ Contains ls y
in_cases x y ls h = go h.0 h.1 h.2
  where
    go : (k : ℕ) → k < suc (length ls) → get_or (x ∷ ls) k y ≡ y → (x ≡ y) ⊎ Contains ls y
    go zero less is = inl is
    go (suc k) less is = inr (k, omega (arith, less), is)

-- ---- variables
pub var_same : (x : Var) (u v : Storage) → u.regs ≡ v.regs → u.flags ≡ v.flags → u.temps ≡ v.temps → ((n : ℕ) → local_in n u.frames ≡ local_in n v.frames) → var_in x u ≡ var_in x v
var_same (var.Reg n) u v r f t l = ap (λ (words : ℕ → Word). words n) r
var_same (var.Flag n) u v r f t l = ap (λ (words : ℕ → Word). words n) f
var_same (var.Temp n) u v r f t l = ap (λ (words : ℕ → Word). words n) t
var_same (var.Local n) u v r f t l = l n

put_here : (n : ℕ) (w : Word) (words : ℕ → Word) → put_word n w words n ≡ w
put_here n w words = cond-true (n == n) w (words n) (eq-eqb n n refl)

pub put_elsewhere : (n m : ℕ) (w : Word) (words : ℕ → Word) → (n ≡ m → ⊥) → put_word n w words m ≡ words m
put_elsewhere n m w words h = cond-false (m == n) w (words m) (ne_eqb m n (λ e. h (sym e)))

proc_same : (f g : Frame) (fs gs : List Frame) → outlines (f ∷ fs) ≡ outlines (g ∷ gs) → f.proc ≡ g.proc
proc_same f g fs gs h = ap (λ (o : Outline). o.proc) (heads (outline f) (outline g) (outlines fs) (outlines gs) h)

pub local_put : (n : ℕ) (w : Word) (fs gs : List Frame) → outlines fs ≡ outlines gs → local_in n (with_local n w fs) ≡ local_in n (with_local n w gs)
local_put n w [] [] h = refl
local_put n w [] (g ∷ gs) h = absurd cc
local_put n w (f ∷ fs) [] h = absurd cc
local_put n w (f ∷ fs) (g ∷ gs) h =
    put_here n (cut_to (slice_get f.proc.locals n) w) f.locals ∙ ap (λ (p : Proc). cut_to (slice_get p.locals n) w) (proc_same f g fs gs h) ∙ sym (put_here n (cut_to (slice_get g.proc.locals n) w) g.locals)

local_keeps : (n m : ℕ) (w : Word) (fs gs : List Frame) → outlines fs ≡ outlines gs → local_in m fs ≡ local_in m gs → local_in m (with_local n w fs) ≡ local_in m (with_local n w gs)
local_keeps n m w [] [] h k = refl
local_keeps n m w [] (g ∷ gs) h k = absurd cc
local_keeps n m w (f ∷ fs) [] h k = absurd cc
local_keeps n m w (f ∷ fs) (g ∷ gs) h k =
    ap (λ (x : Word). cond (m == n) (cut_to (slice_get f.proc.locals n) w) x) k ∙ ap (λ (p : Proc). cond (m == n) (cut_to (slice_get p.locals n) w) (g.locals m)) (proc_same f g fs gs h)

-- the new value of a variable, and those of the others
put_at : (x : Var) (w : Word) (u v : Storage) → outlines u.frames ≡ outlines v.frames → var_in x (put_var x w u) ≡ var_in x (put_var x w v)
put_at (var.Reg n) w u v h = put_here n w u.regs ∙ sym (put_here n w v.regs)
put_at (var.Flag n) w u v h = put_here n w u.flags ∙ sym (put_here n w v.flags)
put_at (var.Temp n) w u v h = put_here n w u.temps ∙ sym (put_here n w v.temps)
put_at (var.Local n) w u v h = local_put n w u.frames v.frames h

put_keeps : (x y : Var) (w : Word) (u v : Storage) → outlines u.frames ≡ outlines v.frames → var_in y u ≡ var_in y v → var_in y (put_var x w u) ≡ var_in y (put_var x w v)
put_keeps (var.Reg n) (var.Reg m) w u v h k = ap (λ (z : Word). cond (m == n) w z) k
put_keeps (var.Flag n) (var.Flag m) w u v h k = ap (λ (z : Word). cond (m == n) w z) k
put_keeps (var.Temp n) (var.Temp m) w u v h k = ap (λ (z : Word). cond (m == n) w z) k
put_keeps (var.Local n) (var.Local m) w u v h k = local_keeps n m w u.frames v.frames h k
put_keeps x y w u v h k = k

local_outlines : (n : ℕ) (w : Word) (fs : List Frame) → outlines (with_local n w fs) ≡ outlines fs
local_outlines n w [] = refl
local_outlines n w (f ∷ fs) = refl

local_images : (n : ℕ) (w : Word) (fs : List Frame) → images (with_local n w fs) ≡ images fs
local_images n w [] = refl
local_images n w (f ∷ fs) = refl

pub put_outlines : (x : Var) (w : Word) (u : Storage) → outlines (put_var x w u).frames ≡ outlines u.frames
put_outlines (var.Local n) w u = local_outlines n w u.frames
put_outlines x w u = refl

pub put_images : (x : Var) (w : Word) (u : Storage) → images (put_var x w u).frames ≡ images u.frames
put_images (var.Local n) w u = local_images n w u.frames
put_images x w u = refl

pub put_memory : (x : Var) (w : Word) (u : Storage) → (put_var x w u).memory ≡ u.memory
put_memory (var.Reg n) w u = refl
put_memory x w u = refl

pub put_left : (x : Var) (w : Word) (u : Storage) → (put_var x w u).left ≡ u.left
put_left (var.Reg n) w u = refl
put_left x w u = refl

pub put_esp0 : (x : Var) (w : Word) (u : Storage) → (put_var x w u).esp0 ≡ u.esp0
put_esp0 (var.Reg n) w u = refl
put_esp0 x w u = refl

-- ---- agreement
extended : (x : StorageLocation) (ls : List StorageLocation) (u v s t : Storage) → AgreesOn ls u v → SameOutline s t → SameAt x s t → ((l : StorageLocation) → SameAt l u v → SameAt l s t) → AgreesOn (x ∷ ls) s t
extended x ls u v s t agree outlined at keeps = record { outline = outlined; same = λ l h. go l (in_cases x l ls h) }
  where
    go : (l : StorageLocation) → (x ≡ l) ⊎ Contains ls l → SameAt l s t
    go l (inl e) = subst (λ (y : StorageLocation). SameAt y s t) e at
    go l (inr k) = keeps l (agree.same l k)

-- a variable
put_one : (x : Var) (w : Word) (ls : List StorageLocation) (u v : Storage) → AgreesOn ls u v → AgreesOn (InVar x ∷ ls) (put_var x w u) (put_var x w v)
put_one x w ls u v h =
    extended (InVar x) ls u v _ _ h (record { frames = put_outlines x w u ∙ h.outline.frames ∙ sym (put_outlines x w v); esp0 = put_esp0 x w u ∙ h.outline.esp0 ∙ sym (put_esp0 x w v) }) (put_at x w u v h.outline.frames) keeps
  where
    keeps : (l : StorageLocation) → SameAt l u v → SameAt l (put_var x w u) (put_var x w v)
    keeps (InVar y) k = put_keeps x y w u v h.outline.frames k
    keeps InMemory k = put_memory x w u ∙ k ∙ sym (put_memory x w v)
    keeps InOutside k = put_left x w u ∙ k ∙ sym (put_left x w v)
    keeps InFrames k = put_images x w u ∙ k ∙ sym (put_images x w v)

pub put_agrees : (x : Var) (w z : Word) (ls : List StorageLocation) (u v : Storage) → w ≡ z → AgreesOn ls u v → AgreesOn (InVar x ∷ ls) (put_var x w u) (put_var x z v)
put_agrees x w z ls u v e h = subst (λ (y : Word). AgreesOn (InVar x ∷ ls) (put_var x w u) (put_var x y v)) e (put_one x w ls u v h)

-- memory
pub memory_agrees : (m n : Memory) (ls : List StorageLocation) (u v : Storage) → m ≡ n → AgreesOn ls u v → AgreesOn (InMemory ∷ ls) (record u { memory = m }) (record v { memory = n })
memory_agrees m n ls u v e h = extended InMemory ls u v (record u { memory = m }) (record v { memory = n }) h (record { frames = h.outline.frames; esp0 = h.outline.esp0 }) e keeps
  where
    keeps : (l : StorageLocation) → SameAt l u v → SameAt l (record u { memory = m }) (record v { memory = n })
    keeps (InVar x) k = var_same x (record u { memory = m }) u refl refl refl (λ i. refl) ∙ k ∙ var_same x v (record v { memory = n }) refl refl refl (λ i. refl)
    keeps InMemory k = e
    keeps InOutside k = k
    keeps InFrames k = k

-- the outside
pub outside_agrees : (a b : Environment) (ls : List StorageLocation) (u v : Storage) → a ≡ b → AgreesOn ls u v → AgreesOn (InOutside ∷ ls) (record u { left = a }) (record v { left = b })
outside_agrees a b ls u v e h = extended InOutside ls u v (record u { left = a }) (record v { left = b }) h (record { frames = h.outline.frames; esp0 = h.outline.esp0 }) e keeps
  where
    keeps : (l : StorageLocation) → SameAt l u v → SameAt l (record u { left = a }) (record v { left = b })
    keeps (InVar x) k = var_same x (record u { left = a }) u refl refl refl (λ i. refl) ∙ k ∙ var_same x v (record v { left = b }) refl refl refl (λ i. refl)
    keeps InMemory k = k
    keeps InOutside k = e
    keeps InFrames k = k

-- the frames, of which outlines and locals stay
pub record StaysFrames (fs gs : List Frame) : Type 0 where
  pub outlines : outlines gs ≡ outlines fs
  pub locals : (n : ℕ) → local_in n gs ≡ local_in n fs

pub frames_agree : (fs gs : List Frame) (ls : List StorageLocation) (u v : Storage) → StaysFrames u.frames fs → StaysFrames v.frames gs → images fs ≡ images gs → AgreesOn ls u v → AgreesOn (InFrames ∷ ls) (record u { frames = fs }) (record v { frames = gs })
frames_agree fs gs ls u v p q e h =
    extended InFrames ls u v _ _ h (record { frames = p.outlines ∙ h.outline.frames ∙ sym q.outlines; esp0 = h.outline.esp0 }) e keeps
  where
    keeps : (l : StorageLocation) → SameAt l u v → SameAt l (record u { frames = fs }) (record v { frames = gs })
    keeps (InVar x) k = var_same x (record u { frames = fs }) u refl refl refl p.locals ∙ k ∙ var_same x v (record v { frames = gs }) refl refl refl (λ n. sym (q.locals n))
    keeps InMemory k = k
    keeps InOutside k = k
    keeps InFrames k = e
