-- Exits that need no frame.
use Rattle.std.proofs.Common.{◌≡◌, ℕ, ◌+◌, ◌<◌, ◌==◌, ◌&&◌, ltb, Bool, true, false, cond, List, [], ◌∷◌, length, get_or, position, Option, Some, None, Ok, Err, refl, sym, ap, ◌∙◌, lt-ltb, arith}
use Rattle.std.specs.List.{position_or_len}
use Rattle.std.proofs.lemmas.Bool.{eq-eqb, ne_eqb, cond-true, cond-false, ltb-true}
use Rattle.std.proofs.lemmas.Option.{slice_get-get_or}
use Rattle.std.proofs.lemmas.List.Sums.{position_or_len_is}
use Rattle.outside.specs.Environment.{Environment}
use Rattle.x86_values.specs.declared.byte.Byte.{Byte}
use Rattle.x86_values.specs.declared.word.Word.{Word}
use Rattle.x86_values.specs.declared.byte.Byte.TheVariants.{Known, Unspecified}
use Rattle.x86_values.specs.Words.{known, known_bytes, padded}
use Rattle.traces.specs.Trace.{End, Outside, Stopped, MemoryFault}
use Rattle.traces.specs.Trace as trace
use Rattle.memory.specs.Memory.{Place, Memory, Load, wrapped, byte_of, allows, allows_all, bytes_at}
use Rattle.mem_pages.specs.Accesses.{loaded}
use Rattle.mem_pages.specs.declared.end.RunEnd.TheVariants as run
use Rattle.flag_ir.specs.declared.variable.Term.{Term}
use Rattle.flag_ir.specs.declared.block.Block.{Block}
use Rattle.flag_ir.specs.declared.block.Exit.{Exit}
use Rattle.flag_ir.specs.declared.block.Exit.TheVariants as exit
use Rattle.flag_ir.specs.declared.procedure.Proc.{Proc}
use Rattle.flag_ir.specs.Storage.{Frame, Storage, term_in}
use Rattle.flag_ir.specs.Operations.{and_then, needed}
use Rattle.flag_ir.specs.Entering.{CodeUnit, Onward, index_of_number, index_at, procedure_at, before_block, to_number, jump_by, jump_with, jump, stop_at, leave}
use Rattle.unit_machine.specs.declared.end.UnitEnd.TheVariants as unitend
use Rattle.unit_machine.specs.declared.leave.Left.TheVariants as way
use Rattle.unit_machine.specs.declared.values.Values.{Values}
use Rattle.unit_machine.specs.Standing.{storage_of}
use Rattle.unit_machine.specs.Leaving.{EndsSo, LeavesBy, AreNumbered}
use Rattle.unit_machine.proofs.Computing.{IsTermWord}

-- ---- the block of a number is the one with this index
numbered_at : (unit : CodeUnit) → AreNumbered unit → (k : ℕ) (d : Block) → k < length unit.whole → (get_or unit.whole k d).number ≡ k
numbered_at unit h k d few = h k (get_or unit.whole k d) (slice_get-get_or unit.whole k d few)

first_of_number : (blocks : List Block) (n : ℕ) → n < length blocks → ((k : ℕ) (d : Block) → k < length blocks → (get_or blocks k d).number ≡ k) → position (λ b. b.number == n) blocks ≡ Some n
first_of_number [] n few h = absurd (omega (arith, few))
first_of_number (b ∷ bs) n few h =
    let at : position_or_len (λ x. x.number == n) (b ∷ bs) ≡ n = position_or_len_is (λ x. x.number == n) (b ∷ bs) n b (omega (arith, few))
    (λ k before. ne_eqb (get_or (b ∷ bs) k b).number n (λ e. let g : (get_or (b ∷ bs) k b).number ≡ k = h k b (omega (arith, before, few)) in absurd (omega (arith, before, e, g))))
    (λ low. eq-eqb (get_or (b ∷ bs) n b).number n (h n b few)) in
    ap (λ i. cond (ltb i (length (b ∷ bs))) (Some i) None) at ∙ cond-true (ltb n (length (b ∷ bs))) (Some n) None (lt-ltb n (length (b ∷ bs)) few)

index_is : (unit : CodeUnit) → AreNumbered unit → (n : ℕ) → n < length unit.whole → index_of_number n unit.whole ≡ Some n
unfolding index_of_number
index_is unit h n few = first_of_number unit.whole n few (λ k d less. numbered_at unit h k d less)

goes_to : (unit : CodeUnit) → AreNumbered unit → (n : ℕ) → n < length unit.whole → (v : Values) (m : Memory) (left : Environment) → to_number unit n (storage_of v m left) ≡ Ok (n, storage_of v m left)
goes_to unit h n few v m left = ap (λ (o : Option ℕ). before_block o Outside (storage_of v m left)) (index_is unit h n few)

pub leaves_go : (unit : CodeUnit) → AreNumbered unit → (n : ℕ) → n < length unit.whole → (v : Values) (m : Memory) (turn : ℕ) → LeavesBy unit turn (exit.Go n) (way.To n) v m
unfolding leave
leaves_go unit h n few v m turn left = goes_to unit h n few v m left

-- ---- by what has to be known
module _ (unit : CodeUnit) (v : Values) (m : Memory) (t : Term) (x : Word) (is : IsTermWord x t v) (turn : ℕ) (e : Exit) (g : ℕ → Storage → Onward) (by : (u : Storage) → leave unit turn e u ≡ and_then (needed (known (term_in t u))) (λ a. g a u)) where
  known_so : (o : Option ℕ) → known x ≡ o → (left : Environment) → leave unit turn e (storage_of v m left) ≡ and_then (needed o) (λ a. g a (storage_of v m left))
  known_so o is_o left = let u = storage_of v m left in by u ∙ ap (λ (p : Option ℕ). and_then (needed p) (λ a. g a u)) (ap known (sym (is m left)) ∙ is_o)

  unknown_ends : known x ≡ None → EndsSo unit turn e (unitend.Run run.Unspecified) v m
  unknown_ends none = record { last = trace.Unspecified; is_last = refl; ends = λ left. known_so None none left }

module _ (unit : CodeUnit) (v : Values) (m : Memory) (t : Term) (x : Word) (is : IsTermWord x t v) (turn : ℕ) where
  module _ (first second : ℕ) where
    pub branch_unknown : known x ≡ None → EndsSo unit turn (exit.Branch t first second) (unitend.Run run.Unspecified) v m
    unfolding leave
    branch_unknown none = unknown_ends unit v m t x is turn (exit.Branch t first second) (λ a u. to_number unit (cond (a == 0) second first) u) (λ u. refl) none

    branch_at : (a : ℕ) → known x ≡ Some a → (left : Environment) → leave unit turn (exit.Branch t first second) (storage_of v m left) ≡ to_number unit (cond (a == 0) second first) (storage_of v m left)
    unfolding leave
    branch_at a some left = known_so unit v m t x is turn (exit.Branch t first second) (λ b u. to_number unit (cond (b == 0) second first) u) (λ u. refl) (Some a) some left

    pub branch_no : AreNumbered unit → second < length unit.whole → (a : ℕ) → known x ≡ Some a → a ≡ 0 → LeavesBy unit turn (exit.Branch t first second) (way.To second) v m
    branch_no h few a some none left = branch_at a some left ∙ ap (λ k. to_number unit k (storage_of v m left)) (cond-true (a == 0) second first (eq-eqb a 0 none)) ∙ goes_to unit h second few v m left

    pub branch_yes : AreNumbered unit → first < length unit.whole → (a : ℕ) → known x ≡ Some a → (a ≡ 0 → ⊥) → LeavesBy unit turn (exit.Branch t first second) (way.To first) v m
    branch_yes h few a some other left = branch_at a some left ∙ ap (λ k. to_number unit k (storage_of v m left)) (cond-false (a == 0) second first (ne_eqb a 0 other)) ∙ goes_to unit h first few v m left

  -- ---- jumps
  pub jump_unknown : known x ≡ None → EndsSo unit turn (exit.Jump t) (unitend.Run run.Unspecified) v m
  unfolding leave
  jump_unknown none = unknown_ends unit v m t x is turn (exit.Jump t) (λ a u. jump unit a u) (λ u. refl) none

jump_with_none : (unit : CodeUnit) → unit.procs ≡ [] → (a : ℕ) (u : Storage) → jump_by (procedure_at a unit.procs) unit a u ≡ before_block (index_at a unit.whole) (Stopped a) u
unfolding procedure_at
jump_with_none unit none a u = ap (λ (ps : List Proc). jump_by (procedure_at a ps) unit a u) none ∙ neither (a == 0)
  where
    neither : (b : Bool) → jump_by (cond b None None) unit a u ≡ before_block (index_at a unit.whole) (Stopped a) u
    neither true = refl
    neither false = refl

-- where no frame is open
pub jump_free : (unit : CodeUnit) → unit.procs ≡ [] → (a : ℕ) (u : Storage) → u.frames ≡ [] → jump unit a u ≡ before_block (index_at a unit.whole) (Stopped a) u
unfolding jump
jump_free unit none a u free = ap (λ (fs : List Frame). jump_with fs unit a u) free ∙ jump_with_none unit none a u

pub jump_is : (unit : CodeUnit) → unit.procs ≡ [] → (a : ℕ) (v : Values) (m : Memory) (left : Environment) → jump unit a (storage_of v m left) ≡ before_block (index_at a unit.whole) (Stopped a) (storage_of v m left)
jump_is unit none a v m left = jump_free unit none a (storage_of v m left) refl

module _ (unit : CodeUnit) (v : Values) (m : Memory) (t : Term) (x : Word) (is : IsTermWord x t v) (turn : ℕ) (procs : unit.procs ≡ []) (a : ℕ) (some : known x ≡ Some a) where
  jump_at : (left : Environment) → leave unit turn (exit.Jump t) (storage_of v m left) ≡ before_block (index_at a unit.whole) (Stopped a) (storage_of v m left)
  unfolding leave
  jump_at left = known_so unit v m t x is turn (exit.Jump t) (λ b u. jump unit b u) (λ u. refl) (Some a) some left ∙ jump_is unit procs a v m left

  pub jump_nowhere : index_at a unit.whole ≡ None → EndsSo unit turn (exit.Jump t) (unitend.Stopped a) v m
  jump_nowhere none = record { last = Stopped a; is_last = refl; ends = λ left. jump_at left ∙ ap (λ (o : Option ℕ). before_block o (Stopped a) (storage_of v m left)) none }

  pub jump_there : (k : ℕ) → index_at a unit.whole ≡ Some k → LeavesBy unit turn (exit.Jump t) (way.To k) v m
  jump_there k there left = jump_at left ∙ ap (λ (o : Option ℕ). before_block o (Stopped a) (storage_of v m left)) there

-- a block that is found is one of the list
pub index_within : (a : ℕ) (blocks : List Block) (k : ℕ) → index_at a blocks ≡ Some k → k < length blocks
unfolding index_at
index_within a blocks k h = at (a == 0) h
  where
    found : (b : Bool) (i : ℕ) → ltb i (length blocks) ≡ b → cond b (Some i) None ≡ Some k → k < length blocks
    found true i few e = let same : i ≡ k = cc e in let less : i < length blocks = ltb-true i (length blocks) few in omega (arith, same, less)
    found false i few e = absurd (cc e)

    at : (b : Bool) → cond b None (position (λ x. x.at == a) blocks) ≡ Some k → k < length blocks
    at true e = absurd (cc e)
    at false e = found (ltb (position_or_len (λ x. x.at == a) blocks) (length blocks)) (position_or_len (λ x. x.at == a) blocks) refl e

-- ---- stops
pub stops_plain : (unit : CodeUnit) (turn : ℕ) (v : Values) (m : Memory) → unit.lowered ≡ false → EndsSo unit turn exit.Stop (unitend.Stopped turn) v m
unfolding leave
stops_plain unit turn v m plain = record { last = Stopped turn; is_last = refl; ends = λ left. ap (λ (b : Bool). stop_at b turn (storage_of v m left)) plain }

abbrev stop_word : Memory → Word
stop_word m = padded (bytes_at m 0x75000004 4)

stops_by : (unit : CodeUnit) (turn : ℕ) (v : Values) (m : Memory) (o : Option ℕ) → unit.lowered ≡ true → known (stop_word m) ≡ o → (left : Environment) → leave unit turn exit.Stop (storage_of v m left) ≡ and_then (needed o) (λ a. Err (Stopped a))
unfolding leave
stops_by unit turn v m o low is left = ap (λ (b : Bool). stop_at b turn (storage_of v m left)) low ∙ ap (λ (p : Option ℕ). and_then (needed p) (λ a. Err (Stopped a))) is

pub stops_known : (unit : CodeUnit) (turn : ℕ) (v : Values) (m : Memory) (a : ℕ) → unit.lowered ≡ true → known (stop_word m) ≡ Some a → EndsSo unit turn exit.Stop (unitend.Stopped a) v m
stops_known unit turn v m a low is = record { last = Stopped a; is_last = refl; ends = stops_by unit turn v m (Some a) low is }

pub stops_unknown : (unit : CodeUnit) (turn : ℕ) (v : Values) (m : Memory) → unit.lowered ≡ true → known (stop_word m) ≡ None → EndsSo unit turn exit.Stop (unitend.Run run.Unspecified) v m
stops_unknown unit turn v m low is = record { last = trace.Unspecified; is_last = refl; ends = stops_by unit turn v m None low is }

-- a word that is loaded is that of the bytes; where a byte isn't mapped, one is unspecified
pub loaded_word : (m : Memory) (at : ℕ) (w : Word) → loaded m at 4 ≡ Some w → padded (bytes_at m at 4) ≡ w
loaded_word m at w h = go (allows_all Load m at 4) h
  where
    go : (b : Bool) → cond b (Some (padded (bytes_at m at 4))) None ≡ Some w → padded (bytes_at m at 4) ≡ w
    go true e = cc e
    go false e = absurd (cc e)

no_second : (a c d : Byte) → known_bytes a Unspecified c d ≡ None
no_second (Known a) c d = refl
no_second Unspecified c d = refl

no_third : (a b d : Byte) → known_bytes a b Unspecified d ≡ None
no_third (Known a) (Known b) d = refl
no_third (Known a) Unspecified d = refl
no_third Unspecified b d = refl

no_fourth : (a b c : Byte) → known_bytes a b c Unspecified ≡ None
no_fourth (Known a) (Known b) (Known c) = refl
no_fourth (Known a) (Known b) Unspecified = refl
no_fourth (Known a) Unspecified c = refl
no_fourth Unspecified b c = refl

four_unmapped : (a b c d : Option Place) → (allows Load a && (allows Load b && (allows Load c && (allows Load d && true)))) ≡ false → known (padded (byte_of a ∷ byte_of b ∷ byte_of c ∷ byte_of d ∷ [])) ≡ None
unfolding known
four_unmapped None b c d h = refl
four_unmapped (Some a) None c d h = no_second a.byte (byte_of c) (byte_of d)
four_unmapped (Some a) (Some b) None d h = no_third a.byte b.byte (byte_of d)
four_unmapped (Some a) (Some b) (Some c) None h = no_fourth a.byte b.byte c.byte
four_unmapped (Some a) (Some b) (Some c) (Some d) h = absurd (cc h)

not_all : (m : Memory) (at : ℕ) → loaded m at 4 ≡ None → allows_all Load m at 4 ≡ false
not_all m at h = go (allows_all Load m at 4) h
  where
    go : (b : Bool) → cond b (Some (padded (bytes_at m at 4))) None ≡ None → b ≡ false
    go true e = absurd (cc e)
    go false e = refl

four_bytes : (m : Memory) (at : ℕ) → allows_all Load m at 4 ≡ false → known (padded (bytes_at m at 4)) ≡ None
unfolding allows_all bytes_at
four_bytes m at h = four_unmapped (m (wrapped at)) (m (wrapped (at + 1))) (m (wrapped (at + 1 + 1))) (m (wrapped (at + 1 + 1 + 1))) h

pub unmapped_word : (m : Memory) (at : ℕ) → loaded m at 4 ≡ None → known (padded (bytes_at m at 4)) ≡ None
unmapped_word m at h = four_bytes m at (not_all m at h)

pub ends_fault : (unit : CodeUnit) (turn : ℕ) (v : Values) (m : Memory) → EndsSo unit turn exit.Fault (unitend.Run run.MemoryFault) v m
unfolding leave
ends_fault unit turn v m = record { last = MemoryFault; is_last = refl; ends = λ left. refl }
