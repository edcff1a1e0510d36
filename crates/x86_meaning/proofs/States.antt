-- What holds of the states of a run: esp is known, no byte of the stack below it, and nothing is mapped or permitted by a step.
use Rattle.std.proofs.Common.{◌≡◌, ℕ, ◌+◌, ◌<◌, Bool, true, false, cond, ltb, List, [], ◌∷◌, Option, Some, None, refl, sym, ◌∙◌, ap, subst, arith}
use Rattle.std.specs.Option.{option_map}
use Rattle.std.proofs.lemmas.Bool.{lt-ltb}
use Rattle.x86_values.specs.declared.byte.Byte.{Byte}
use Rattle.x86_values.specs.declared.byte.Byte.TheVariants.{Unspecified}
use Rattle.x86_values.specs.WordLaws.{WordLaws}
use Rattle.outside.specs.Environment.{Environment}
use Rattle.traces.specs.Trace.{Label, Move, Stand, Go, Halt}
use Rattle.image.specs.declared.image.Image.{Image}
use Rattle.image.specs.declared.image.Segment.{Segment}
use Rattle.image.specs.Addresses.{segment_at}
use Rattle.memory.specs.Memory.{Place, Memory, Stored, put_all, store_all, forgotten, forget_below, place_in, memory_of, with_stack, kind_of}
use Rattle.memory.specs.MemoryLaws.{MemoryLaws}
use Rattle.memory.specs.SystemCall.{Called, Ends, Gives, system_call}
use Rattle.x86_code.specs.Code.{Code}
use Rattle.x86_meaning.specs.Outcomes.{Way}
use Rattle.x86_meaning.specs.Step.{State, settled, at_address, request_of, after_call, finish, performed, next}
use Rattle.x86_meaning.specs.Run.{start_over, start_of, IsStart}
use Rattle.x86_meaning.specs.StepLaws.{IsForgotten}
use Rattle.x86_meaning.proofs.Cases.{settled_holds, finish_holds, step_holds, next_holds}

-- what holds of the state to which a move goes, if it goes on
abbrev pub Reaches : (State → Type 0) → Move State → Type 0
Reaches P (Stand ls e) = Unit {0}
Reaches P (Go ls s) = P s
Reaches P (Halt ls e) = Unit {0}

pub reached : (P : State → Type 0) (m : Move State) (ls : List Label) (t : State) → m ≡ Go ls t → Reaches P m → P t
reached P (Stand l e) ls t h p = cc
reached P (Go l s) ls t h p = let e : s ≡ t = cc in subst P e p
reached P (Halt l e) ls t h p = cc

-- ---- what is forgotten
stack_byte : (p : Place) (o : Option Place) → forgotten o ≡ Some p → p.on_stack ≡ true → p.byte ≡ Unspecified
stack_byte p None h s = cc
stack_byte p (Some q) h s =
    let x : Place = record q { byte = cond q.on_stack Unspecified q.byte } in
    let e : x ≡ p = cc in
    let on : q.on_stack ≡ true = ap (λ (y : Place). y.on_stack) e ∙ s in
    sym (ap (λ (y : Place). y.byte) e) ∙ ap (λ t. cond t Unspecified q.byte) on

module _ (laws : MemoryLaws) where
  forgotten_below : (esp : ℕ) (m : Memory) (a : ℕ) (p : Place) → a < esp → forget_below esp m a ≡ Some p → p.on_stack ≡ true → p.byte ≡ Unspecified
  forgotten_below esp m a p h e s = stack_byte p (m a) (sym (laws.forget_below esp m a h) ∙ e) s

  abbrev Kept : Memory → Memory → Type 0
  Kept m n = (a : ℕ) → kind_of (n a) ≡ kind_of (m a)

  stores_keep : (stores : List Stored) (m : Memory) → Kept m (store_all stores m)
  stores_keep [] m = λ a. refl
  stores_keep (x ∷ xs) m = λ a. stores_keep xs (put_all x.at x.bytes m) a ∙ laws.put_all_keeps_kinds x.at x.bytes m a

  abbrev pub IsAfter : Memory → State → Type 0
  IsAfter m s = IsForgotten s × Kept m s.memory

  after_settled : (m : Memory) (ls : List Label) (s : State) → Kept m s.memory → Reaches (IsAfter m) (settled ls s)
  after_settled m ls s k = settled_holds (Reaches (IsAfter m)) ls s tt (λ esp h. (
    record { esp = esp; is_esp = h; below = λ a p l e x. forgotten_below esp s.memory a p l e x },
    λ a. laws.forget_keeps_kinds esp s.memory a ∙ k a,
  ))

  after_called : (m : Memory) (x : Called) (s : State) → Kept m s.memory → Reaches (IsAfter m) (after_call x s)
  after_called m (Ends e) s k = tt
  after_called m (Gives ls result stores left) s k = after_settled m ls _ (λ a. stores_keep stores s.memory a ∙ k a)

  after_finish : (m : Memory) (w : Way) (n : ℕ) (t : State) → Kept m t.memory → Reaches (IsAfter m) (finish w n t)
  after_finish m w n t k =
      finish_holds (Reaches (IsAfter m)) w n t (λ a. after_settled m [] (at_address a t) k) (after_settled m [] t k) (λ a. after_called m (system_call (request_of t.cpu) t.memory t.left) (at_address a t) k)

  after_next : (code : Code) (s : State) → Reaches (IsAfter s.memory) (next code s)
  after_next code s = next_holds (Reaches (IsAfter s.memory)) code s tt (λ i len. step_holds (Reaches (IsAfter s.memory)) i len s (λ x. tt) (λ e h. after_finish s.memory e.way (s.eip + len) (performed e s) (stores_keep e.stores s.memory)))

  pub step_forgets : (code : Code) (s t : State) (ls : List Label) → next code s ≡ Go ls t → IsForgotten t
  step_forgets code s t ls h = (reached (IsAfter s.memory) (next code s) ls t h (after_next code s)).0

  pub step_keeps_kinds : (code : Code) (s t : State) (ls : List Label) → next code s ≡ Go ls t → (a : ℕ) → kind_of (t.memory a) ≡ kind_of (s.memory a)
  step_keeps_kinds code s t ls h = (reached (IsAfter s.memory) (next code s) ls t h (after_next code s)).1

-- ---- the start
-- no place of an image is on the stack
image_place : (a : ℕ) (o : Option Segment) (p : Place) → option_map (place_in a) o ≡ Some p → p.on_stack ≡ true → p.byte ≡ Unspecified
image_place a None p h s = cc
image_place a (Some x) p h s =
    let e : place_in a x ≡ p = cc in
    let f : false ≡ true = ap (λ (y : Place). y.on_stack) e ∙ s in
    cc

start_place : (t u : Bool) (b : Byte) (o : Option Place) (p : Place) → u ≡ true → (o ≡ Some p → p.on_stack ≡ true → p.byte ≡ Unspecified) → cond t (Some (record { byte = cond u Unspecified b; can_write = true; on_stack = true })) o ≡ Some p → p.on_stack ≡ true → p.byte ≡ Unspecified
start_place false u b o p l k h s = k h s
start_place true u b o p l k h s =
    let x : Place = record { byte = cond u Unspecified b; can_write = true; on_stack = true } in
    let e : x ≡ p = cc in
    sym (ap (λ (y : Place). y.byte) e) ∙ ap (λ y. cond y Unspecified b) l

pub start_is_forgotten : WordLaws → (image : Image) (esp0 : ℕ) (stack : List ℕ) (left : Environment) → IsStart esp0 stack → IsForgotten (start_of image esp0 stack left)
unfolding start_over with_stack memory_of
start_is_forgotten words image esp0 stack left h = record {
  esp = esp0;
  is_esp = words.known_word esp0 (omega (arith, h.within, h.at_least));
  below = λ a p l e s. start_place _ (ltb a esp0) _ _ p (lt-ltb a esp0 l) (image_place a (segment_at image a) p) e s;
}
