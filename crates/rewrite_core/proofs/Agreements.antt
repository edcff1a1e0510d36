-- The run of the written code agrees with that of the old one, over any data and over those of the two images.
use Rattle.std.proofs.Common.{◌≡◌, ◌⊎◌, ℕ, ◌+◌, ◌<◌, ◌≤◌, Bool, true, false, cond, List, length, drop, All, Some, None, option_map, refl, ap, inl, inr, arith, length-drop}
use Rattle.std.proofs.lemmas.List.{length-take-le}
use Rattle.std.proofs.lemmas.Bool.{and_parts, eqb-true}
use Rattle.std.proofs.lemmas.Bool.Decides.{nat_tests}
use Rattle.image.specs.declared.image.Segment.{Segment}
use Rattle.image.specs.Addresses.{holds, segment_at}
use Rattle.elf_image.specs.Plain.{is_plain, plain_image, text_segment, room_segment}
use Rattle.memory.specs.Memory.{Place, Memory, place_in, memory_of, stack_start}
use Rattle.outside.specs.Environment.{Environment}
use Rattle.x86_code.specs.Code.{code_of}
use Rattle.x86_meaning.specs.Step.{State}
use Rattle.x86_meaning.specs.Run.{IsStart, machine, start_over, run_from}
use Rattle.rewrite_core.specs.Met.{IsFree, IsRewritable}
use Rattle.rewrite_core.specs.Places.{page_start, IsLaid}
use Rattle.rewrite_core.specs.Layout.{code_start, whole_pages, kept_segment, code_segment, new_image, text_of}
use Rattle.rewrite_core.specs.Agreement.{HasMore, NewFileAgrees, NewCodeAgrees}
use Rattle.rewrite_core.specs.Beside.{Away, Beside, NewCode, IsNew, Pair}
use Rattle.traces.specs.Trace.{Behaviour}
use Rattle.traces.specs.Agree.{Covers, Follows}
use Rattle.traces.specs.AgreementLaws.{AgreementLaws}
use Rattle.traces.specs.RunLaws.{RunLaws}
use Rattle.traces.specs.SimulationLaws.{SimulationLaws}
use Rattle.rewrite_core.proofs.PlainPage.{HasPage, text_bytes, plain_page}
use Rattle.rewrite_core.proofs.MoreMemory.{more_stack}
use Rattle.rewrite_core.proofs.BesideStates.{LawsBelow, constant_away}
use Rattle.rewrite_core.proofs.PlaceRuns.{one_step}

pub plain_whole : (file : List ℕ) → IsRewritable file → length (text_of file) ≡ 4096
unfolding is_plain
plain_whole file r =
    let size : length file ≡ 8192 = eqb-true (length file) 8192 (and_parts _ _ (and_parts _ _ (and_parts _ _ r.plain).0).0).0 in
    length-take-le 4096 (drop 4096 file) (omega (arith, length-drop 4096 file))

-- ---- two starts
apart_is_away : (high k : ℕ) → high ≤ 0x7C000000 → IsFree k → Away code_start high k
apart_is_away high k h (inl p) = inl p
apart_is_away high k h (inr p) = inr (omega arith)

-- the stack stands above every room of code
stack_is_high : (esp0 : ℕ) (stack : List ℕ) → IsStart esp0 stack → 0x7C000000 ≤ stack_start esp0
stack_is_high esp0 stack s = let h = s.high in omega arith

code_end : (page code : List ℕ) → IsLaid page code → code_start + whole_pages (length code) ≤ 0x7C000000
code_end page code laid = let few = laid.few in omega arith

-- what the lemmas take from the laws of runs
pub record RunLawsBelow : Type 0 where
  pub runs : RunLaws State
  pub simulation : (x : NewCode) → SimulationLaws State State (Pair x)
  pub agreement : AgreementLaws

module _ (laws : LawsBelow) where
  starts_beside : (x : NewCode) → ((k : ℕ) → IsFree k → Away code_start x.high k) → (m n : Memory) → HasMore code_start x.high m n → (esp0 : ℕ) (stack : List ℕ) (left : Environment) → x.high ≤ stack_start esp0 → code_start ≤ stack_start esp0
      → Beside code_start x.high (IsNew x) (start_over m page_start esp0 stack left) (start_over n code_start esp0 stack left)
  unfolding start_over
  starts_beside x apart m n more esp0 stack left h k = record {
    same = refl;
    places = record { new = 0; at = x.laid.first; is = refl };
    memory = more_stack laws.memory code_start x.high m n esp0 stack k h more;
    buffer = constant_away laws.words code_start x.high 0 (omega arith) (apart 0 (inl (omega arith)));
  }

  pub page_of : (file : List ℕ) → All (λ b. b < 256) file → IsRewritable file → HasPage (plain_image file) (text_of file)
  page_of file bytes r = plain_page laws.spelling laws.equations file (plain_whole file r) (text_bytes file bytes)

  -- ---- over any data
  pub new_code_agrees : RunLawsBelow → NewCodeAgrees
  unfolding run_from
  new_code_agrees below file code bytes r laid m n more esp0 stack left start environment =
      let text : List ℕ = text_of file in
      let x : NewCode = record { page = text; code = code; laid = laid; high = code_start + whole_pages (length code) } in
      let low : x.high ≤ 0x7C000000 = code_end text code laid in
      let above : 0x7C000000 ≤ stack_start esp0 = stack_is_high esp0 stack start in
      let apart : (k : ℕ) → IsFree k → Away code_start x.high k = λ k. apart_is_away x.high k low in
      let s : State = start_over m page_start esp0 stack left in
      let t : State = start_over n code_start esp0 stack left in
      let first : Pair x = record { old = s; new = t; beside = starts_beside x apart m n more esp0 stack left (omega arith) (omega arith) } in
      let old = code_of (plain_image file) in
      let new = code_of (new_image text code) in
      let follows : Covers (Follows 2 0) (run_from old s) (run_from new t) =
      (below.simulation x).forward_simulation (machine old) (machine new) (λ p. p.old) (λ p. p.new) 2 0 (one_step laws x apart (plain_image file) (page_of file bytes r) below.runs) first in
      below.agreement.follows_plainly 2 0 4096 256 (run_from old s) (run_from new t) (omega arith) (omega arith) (laws.programs.grow new t) (laws.programs.never_stop old s) follows

-- ---- over those of the images
not_held : (a : ℕ) (s : Segment) → (a < s.start) ⊎ (s.start + s.size ≤ a) → holds a s ≡ false
not_held a s h = grind (arith, nat_tests)

none_there : (f : Segment → Place) (x y : Segment) (b c : Bool) → b ≡ false → c ≡ false → option_map f (cond b (Some x) (cond c (Some y) None)) ≡ None
none_there f x y b c p q = rw (p, q) refl

same_there : (f : Segment → Place) (x x' y z : Segment) (b c d : Bool) → f x ≡ f x' → d ≡ false → option_map f (cond b (Some x) (cond c (Some y) None)) ≡ option_map f (cond b (Some x') (cond c (Some y) (cond d (Some z) None)))
same_there f x x' y z true c d e q = ap Some e
same_there f x x' y z false true d e q = refl
same_there f x x' y z false false d e q = rw q refl

free_place : (file : List ℕ) (a : ℕ) → 0x5FFFFFFF ≤ a → memory_of (plain_image file) a ≡ None
unfolding memory_of segment_at
free_place file a h =
    none_there (place_in a) (text_segment file) room_segment (holds a (text_segment file)) (holds a room_segment)
    (not_held a (text_segment file) (inr (omega arith))) (not_held a room_segment (inr (omega arith)))

same_place : (file code : List ℕ) (a : ℕ) → (a < code_start) ⊎ (code_start + whole_pages (length code) ≤ a) → memory_of (plain_image file) a ≡ memory_of (new_image (text_of file) code) a
unfolding memory_of segment_at
same_place file code a h =
    same_there (place_in a) (text_segment file) (kept_segment (text_of file)) room_segment (code_segment code) (holds a (text_segment file)) (holds a room_segment) (holds a (code_segment code))
    refl (not_held a (code_segment code) h)

images_more : (file code : List ℕ) → HasMore code_start (code_start + whole_pages (length code)) (memory_of (plain_image file)) (memory_of (new_image (text_of file) code))
images_more file code = record {
  free = λ a p q. free_place file a (omega arith);
  edge = λ a p. free_place file a (omega arith);
  below = λ a p. same_place file code a (inl p);
  above = λ a p. same_place file code a (inr p);
}

-- the images' own memories are such data
pub new_file_agrees : LawsBelow → RunLawsBelow → NewFileAgrees
new_file_agrees laws below file code bytes r laid esp0 stack left start environment =
    new_code_agrees laws below file code bytes r laid (memory_of (plain_image file)) (memory_of (new_image (text_of file) code)) (images_more file code) esp0 stack left start environment
