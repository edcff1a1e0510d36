-- The blocks of a unit and those that are made of them: the same are found by number and by address, and exits lead to the same.
use Rattle.std.proofs.Common.{◌≡◌, ℕ, zero, suc, ◌+◌, ◌==◌, ◌&&◌, ◌||◌, Bool, true, false, not, cond, List, [], ◌∷◌, map, Option, Some, None, Ok, Err, refl, sym, ap, ap₂, ◌∙◌, subst}
use Rattle.std.specs.List.{slice_get, position, position_or_len}
use Rattle.std.specs.Bool.{nat_lt}
use Rattle.std.proofs.lemmas.List.{length-map}
use Rattle.x86_values.specs.Words.{known}
use Rattle.traces.specs.Trace.{End, Outside, MemoryFault, Unspecified, Stopped}
use Rattle.flag_ir.specs.declared.variable.Term.{Term}
use Rattle.flag_ir.specs.declared.block.Block.{Block}
use Rattle.flag_ir.specs.declared.block.Exit.{Exit}
use Rattle.flag_ir.specs.declared.block.Exit.TheVariants as exit
use Rattle.flag_ir.specs.declared.procedure.Proc.{Proc}
use Rattle.flag_ir.specs.Storage.{Storage, term_in}
use Rattle.flag_ir.specs.Operations.{and_then, needed}
use Rattle.flag_ir.specs.Entering.{CodeUnit, Onward, before_block, blocks_of, index_of_number, index_at, procedure_at, to_number, jump, jump_by, jump_with, stop_at, leave}
use Rattle.flag_ir.specs.Form.{IsFramelessExit}
use Rattle.guards.specs.Temporaries.{IsExitBelow}
use Rattle.guards.specs.Guarding.{is_stop, has_loose_stop, guarded_block, guarded_unit}
use Rattle.guards.specs.States.{DiffersByArea, NamesTurn}
use Rattle.guards.proofs.Sides.{term_same}

-- ---- lists
pub mapped_there : {X Y : Type 0} (f : X → Y) (xs : List X) (k : ℕ) (x : X) → slice_get xs k ≡ Some x → slice_get (map f xs) k ≡ Some (f x)
mapped_there f [] k x e = absurd cc
mapped_there f (y ∷ ys) zero x e = let same : y ≡ x = cc in ap (λ z. Some (f z)) same
mapped_there f (y ∷ ys) (suc k) x e = mapped_there f ys k x e

pub mapped_none : {X Y : Type 0} (f : X → Y) (xs : List X) (k : ℕ) → slice_get xs k ≡ None → slice_get (map f xs) k ≡ None
mapped_none f [] k e = refl
mapped_none f (y ∷ ys) zero e = absurd cc
mapped_none f (y ∷ ys) (suc k) e = mapped_none f ys k e

length_mapped : (p : Block → Bool) (f : Block → Block) → ((b : Block) → p (f b) ≡ p b) → (bs : List Block) → position_or_len p (map f bs) ≡ position_or_len p bs
length_mapped p f same [] = refl
length_mapped p f same (b ∷ bs) = λ i. cond (not (same b i)) (1 + length_mapped p f same bs i) 0

pub position_mapped : (p : Block → Bool) (f : Block → Block) → ((b : Block) → p (f b) ≡ p b) → (bs : List Block) → position p (map f bs) ≡ position p bs
position_mapped p f same bs = λ i. cond (nat_lt (length_mapped p f same bs i) (length-map bs f i)) (Some (length_mapped p f same bs i)) None

pub number_mapped : (loose : Bool) (n : ℕ) (bs : List Block) → index_of_number n (map (guarded_block loose) bs) ≡ index_of_number n bs
unfolding index_of_number
number_mapped loose n bs = position_mapped (λ b. b.number == n) (guarded_block loose) (λ b. refl) bs

pub address_mapped : (loose : Bool) (a : ℕ) (bs : List Block) → index_at a (map (guarded_block loose) bs) ≡ index_at a bs
unfolding index_at
address_mapped loose a bs = ap (cond (a == 0) None) (position_mapped (λ b. b.at == a) (guarded_block loose) (λ b. refl) bs)

-- ---- a block that begins no turn and stops
or_later : (b c : Bool) → c ≡ true → (b || c) ≡ true
or_later true c e = refl
or_later false c e = e

pub loose_here : (bs : List Block) (k : ℕ) (b : Block) → slice_get bs k ≡ Some b → (b.at == 0) ≡ true → is_stop b.exit ≡ true → has_loose_stop bs ≡ true
loose_here [] k b e z s = absurd cc
loose_here (c ∷ cs) zero b e z s =
    let same : c ≡ b = cc in
    subst (λ (d : Block). ((d.at == 0 && is_stop d.exit) || has_loose_stop cs) ≡ true) (sym same) (ap₂ (λ p q. (p && q) || has_loose_stop cs) z s)
loose_here (c ∷ cs) (suc k) b e z s = or_later (c.at == 0 && is_stop c.exit) (has_loose_stop cs) (loose_here cs k b e z s)

-- ---- jumps, where no frame is open and no procedure is there
no_procedure : (a : ℕ) → procedure_at a [] ≡ None
unfolding procedure_at
no_procedure a = elim (a == 0) as (λ z. cond z (let o : Option Proc = None in o) None ≡ None) [ true ↦ refl | false ↦ refl ]

pub jump_is : (unit : CodeUnit) → unit.procs ≡ [] → (a : ℕ) (x : Storage) → x.frames ≡ [] → jump unit a x ≡ before_block (index_at a unit.whole) (Stopped a) x
unfolding jump
jump_is unit alone a x closed =
    ap (λ frames. jump_with frames unit a x) closed
    ∙ (ap (λ procs. jump_by (procedure_at a procs) unit a x) alone ∙ ap (λ o. jump_by o unit a x) (no_procedure a))

number_is : (unit : CodeUnit) (n : ℕ) (x : Storage) → x.frames ≡ [] → to_number unit n x ≡ before_block (index_of_number n unit.whole) Outside x
number_is unit n x closed = ap (λ frames. before_block (index_of_number n (blocks_of unit frames)) Outside x) closed

-- ---- exits
pub data LeaveAlike (u v : CodeUnit) (t : ℕ) (e : Exit) (x y : Storage) : Type 0 where
  goes : (k : ℕ) → leave u t e x ≡ Ok (k, x) → leave v t e y ≡ Ok (k, y) → LeaveAlike u v t e x y
  ends : (f : End) → leave u t e x ≡ Err f → leave v t e y ≡ Err f → LeaveAlike u v t e x y

alike_by : (u v : CodeUnit) (t : ℕ) (e : Exit) (x y : Storage) (o : Option ℕ) (f : End) → leave u t e x ≡ before_block o f x → leave v t e y ≡ before_block o f y → LeaveAlike u v t e x y
alike_by u v t e x y None f g h = ends f g h
alike_by u v t e x y (Some k) f g h = goes k g h

module _ (u : CodeUnit) (plain : u.lowered ≡ false) (alone : u.procs ≡ []) (t : ℕ) (x y : Storage) (h : DiffersByArea x y) where
  leaves_go : (n : ℕ) → LeaveAlike u (guarded_unit u) t (exit.Go n) x y
  unfolding leave
  leaves_go n = alike_by u (guarded_unit u) t (exit.Go n) x y (index_of_number n u.whole) Outside (number_is u n x h.no_frame) (number_is (guarded_unit u) n y h.no_frame' ∙ ap (λ o. before_block o Outside y) (number_mapped (has_loose_stop u.whole) n u.whole))

  leaves_branch : (test : Term) (m n : ℕ) → IsExitBelow 1399997 (exit.Branch test m n) → LeaveAlike u (guarded_unit u) t (exit.Branch test m n) x y
  unfolding leave
  leaves_branch test m n b = by (known (term_in test y)) refl
    where
      same : known (term_in test x) ≡ known (term_in test y)
      same = ap known (term_same test x y h b)

      by : (o : Option ℕ) → known (term_in test y) ≡ o → LeaveAlike u (guarded_unit u) t (exit.Branch test m n) x y
      by None e = ends Unspecified (ap (λ o. and_then (needed o) (λ v. to_number u (cond (v == 0) n m) x)) (same ∙ e)) (ap (λ o. and_then (needed o) (λ v. to_number (guarded_unit u) (cond (v == 0) n m) y)) e)
      by (Some a) e =
          let to = cond (a == 0) n m in
          alike_by u (guarded_unit u) t (exit.Branch test m n) x y (index_of_number (cond (a == 0) n m) u.whole) Outside
          (ap (λ o. and_then (needed o) (λ v. to_number u (cond (v == 0) n m) x)) (same ∙ e) ∙ number_is u (cond (a == 0) n m) x h.no_frame)
          (ap (λ o. and_then (needed o) (λ v. to_number (guarded_unit u) (cond (v == 0) n m) y)) e ∙ (number_is (guarded_unit u) (cond (a == 0) n m) y h.no_frame' ∙ ap (λ o. before_block o Outside y) (number_mapped (has_loose_stop u.whole) (cond (a == 0) n m) u.whole)))

  leaves_jump : (to : Term) → IsExitBelow 1399997 (exit.Jump to) → LeaveAlike u (guarded_unit u) t (exit.Jump to) x y
  unfolding leave
  leaves_jump to b = by (known (term_in to y)) refl
    where
      same : known (term_in to x) ≡ known (term_in to y)
      same = ap known (term_same to x y h b)

      by : (o : Option ℕ) → known (term_in to y) ≡ o → LeaveAlike u (guarded_unit u) t (exit.Jump to) x y
      by None e = ends Unspecified (ap (λ o. and_then (needed o) (λ a. jump u a x)) (same ∙ e)) (ap (λ o. and_then (needed o) (λ a. jump (guarded_unit u) a y)) e)
      by (Some a) e =
          alike_by u (guarded_unit u) t (exit.Jump to) x y (index_at a u.whole) (Stopped a)
          (ap (λ o. and_then (needed o) (λ c. jump u c x)) (same ∙ e) ∙ jump_is u alone a x h.no_frame)
          (ap (λ o. and_then (needed o) (λ c. jump (guarded_unit u) c y)) e ∙ (jump_is (guarded_unit u) refl a y h.no_frame' ∙ ap (λ o. before_block o (Stopped a) y) (address_mapped (has_loose_stop u.whole) a u.whole)))

  leaves_stop : NamesTurn y.memory t → LeaveAlike u (guarded_unit u) t exit.Stop x y
  unfolding leave
  leaves_stop named = ends (Stopped t) (ap (λ b. stop_at b t x) plain) (ap (λ o. and_then (needed o) (λ a. let r : Onward = Err (Stopped a) in r)) named)

  leaves_fault : LeaveAlike u (guarded_unit u) t exit.Fault x y
  unfolding leave
  leaves_fault = ends MemoryFault refl refl

  pub leaves_alike : (e : Exit) → IsFramelessExit e → IsExitBelow 1399997 e → (is_stop e ≡ true → NamesTurn y.memory t) → LeaveAlike u (guarded_unit u) t e x y
  leaves_alike (exit.Go n) f b s = leaves_go n
  leaves_alike (exit.Branch test m n) f b s = leaves_branch test m n b
  leaves_alike (exit.Jump to) f b s = leaves_jump to b
  leaves_alike (exit.CallProc entry back) f b s = absurd f
  leaves_alike exit.Return f b s = absurd f
  leaves_alike exit.Fault f b s = leaves_fault
  leaves_alike exit.Stop f b s = leaves_stop (s refl)
