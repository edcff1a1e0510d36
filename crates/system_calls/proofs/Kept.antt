-- Places that are mapped and kept.
use Rattle.std.proofs.Common.{◌≡◌, ℕ, zero, suc, ◌+◌, ◌<◌, ◌≤◌, ◌&&◌, Bool, true, false, List, length, refl, sym, ap, ◌∙◌, subst, add-zero, arith, Result, Ok, Err, Option, Some, None}
use Rattle.mem_pages.specs.declared.pages.Pages.{Pages}
use Rattle.mem_pages.specs.declared.fault.PageFault.{PageFault}
use Rattle.mem_pages.specs.declared.fault.PageFault.TheVariants as fault
use Rattle.memory.specs.Memory.{Place, Memory, AccessKind, Load, Store, allows, allows_all, wrapped}
use Rattle.mem_pages.specs.Contents.{memory_in, is_kept}
use Rattle.mem_pages.specs.Accesses.{SameMemory, Fills, IsNotAllKept}
use Rattle.system_calls.specs.Plans.{AreKept}

both_left : (a b : Bool) → a && b ≡ true → a ≡ true
both_left true b h = refl
both_left false b h = h

both_right : (a b : Bool) → a && b ≡ true → b ≡ true
both_right true b h = h
both_right false b h = cc

both : (a b : Bool) → a ≡ true → b ≡ true → a && b ≡ true
both a b h k = rw (h, k) refl

-- where each place of a range allows an access, the one at an offset does, and the other way round
pub each_allowed : (kind : AccessKind) (m : Memory) (at n k : ℕ) → allows_all kind m at n ≡ true → k < n → allows kind (m (wrapped (at + k))) ≡ true
unfolding allows_all
each_allowed kind m at zero k h l = absurd (omega arith)
each_allowed kind m at (suc n) zero h l = rw (add-zero at) (both_left (allows kind (m (wrapped at))) (allows_all kind m (at + 1) n) h)
each_allowed kind m at (suc n) (suc k) h l =
    let same : at + suc k ≡ at + 1 + k = omega arith in
    rw same (each_allowed kind m (at + 1) n k (both_right (allows kind (m (wrapped at))) (allows_all kind m (at + 1) n) h) (omega arith))

pub all_allowed : (kind : AccessKind) (m : Memory) (at n : ℕ) → ((k : ℕ) → k < n → allows kind (m (wrapped (at + k))) ≡ true) → allows_all kind m at n ≡ true
unfolding allows_all
all_allowed kind m at zero h = refl
all_allowed kind m at (suc n) h =
    both (allows kind (m (wrapped at))) (allows_all kind m (at + 1) n) (rw (add-zero at) at (h 0 (omega arith))) (all_allowed kind m (at + 1) n (λ k l.
    let same : at + 1 + k ≡ at + suc k = omega arith in
    rw same (h (suc k) (omega arith))))

-- a place that can be written is mapped
mapped_if_writable : (p : Option Place) → allows Store p ≡ true → allows Load p ≡ true
mapped_if_writable None h = h
mapped_if_writable (Some p) h = refl

-- the places of a front of a range that can be written, whose pages were then kept
pub front_is_kept : (at room n : ℕ) (p q : Pages) → allows_all Store (memory_in p) at room ≡ true → SameMemory p q → ((k : ℕ) → k < room → allows Load (memory_in p (wrapped (at + k))) ≡ true → is_kept q (wrapped (at + k)) ≡ true) → n ≤ room → AreKept at n q
front_is_kept at room n p q h same kept few = record {
  mapped = λ k l. rw same.memory (mapped_if_writable (memory_in p (wrapped (at + k))) (each_allowed Store (memory_in p) at room k h (omega arith)));
  kept = λ k l. kept k (omega arith) (mapped_if_writable (memory_in p (wrapped (at + k))) (each_allowed Store (memory_in p) at room k h (omega arith)));
}

-- filling them has no fault
pub fills_kept : (at : ℕ) (bytes : List ℕ) (e : PageFault) (p q : Pages) → AreKept at (length bytes) p → Fills at bytes (Err e) p q → ⊥
fills_kept at bytes fault.NotMapped p q k f = let all : allows_all Load (memory_in p) at (length bytes) ≡ true = all_allowed Load (memory_in p) at (length bytes) k.mapped in let none : allows_all Load (memory_in p) at (length bytes) ≡ false = f.0 in cc
fills_kept at bytes fault.NotWritable p q k f = f
fills_kept at bytes fault.Memory p q k f =
    let is : is_kept p (wrapped (at + f.0.offset)) ≡ true = k.kept f.0.offset f.0.within in
    let not : is_kept p (wrapped (at + f.0.offset)) ≡ false = f.0.not_kept in
    cc
