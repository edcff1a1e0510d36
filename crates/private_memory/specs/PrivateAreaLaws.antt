-- The laws of the private area.
use Rattle.std.specs.Prelude.{◌≡◌, ℕ, suc, ◌+◌, ◌<◌, ◌≤◌, true, false, List}
use Rattle.x86_values.specs.declared.byte.Byte.{Byte}
use Rattle.memory.specs.Memory.{Memory, AccessKind, wrapped, put_all, allows_all, bytes_at, with_stack, HasBytes}
use Rattle.x86_meaning.specs.Operands.{Access}
use Rattle.x86_meaning.specs.Run.{IsStart}
use Rattle.private_memory.specs.PrivateArea.{is_private, without_private, IsUsual, IsOfProgram, with_private, IsApartAccess, is_apart_access, HasPrivateArea, IsClearAccess, is_clear_access}

-- each memory of a program is that of a usual memory, which has known bytes where it has them
pub record UsualLaws : Type 0 where
  pub usual : (esp0 : ℕ) (m : Memory) → IsOfProgram m → IsUsual esp0 (with_private esp0 m)
  pub without : (esp0 : ℕ) (m : Memory) → IsOfProgram m → (a : ℕ) → without_private (with_private esp0 m) a ≡ m a
  pub bytes : (esp0 : ℕ) (m : Memory) → HasBytes m → HasBytes (with_private esp0 m)
  pub bytes_without : (m : Memory) → HasBytes m → HasBytes (without_private m)
  -- the stack lies above the area
  pub stack : (esp0 : ℕ) (stack : List ℕ) (m : Memory) → IsStart esp0 stack → (a : ℕ) → without_private (with_stack esp0 stack m) a ≡ with_stack esp0 stack (without_private m) a
  pub store : (at : ℕ) (bs : List Byte) (m : Memory) (a : ℕ) → without_private (put_all at bs m) a ≡ put_all at bs (without_private m) a

-- an access that doesn't start in the area is judged as without it, and reaches nothing of it where it is allowed
pub record PrivateAccessLaws : Type 0 where
  pub usual_has : (esp0 : ℕ) (m : Memory) → IsUsual esp0 m → HasPrivateArea m
  pub stack_has : (esp0 : ℕ) (stack : List ℕ) (m : Memory) → IsStart esp0 stack → HasPrivateArea m → HasPrivateArea (with_stack esp0 stack m)
  pub store_has : (at : ℕ) (bs : List Byte) (m : Memory) → HasPrivateArea m → HasPrivateArea (put_all at bs m)
  pub outside : (kind : AccessKind) (m : Memory) (at n : ℕ) → HasPrivateArea m → is_private (wrapped at) ≡ false → allows_all kind m at n ≡ true → (k : ℕ) → k < n → is_private (wrapped (at + k)) ≡ false
  pub allows : (kind : AccessKind) (m : Memory) (at n : ℕ) → HasPrivateArea m → is_private (wrapped at) ≡ false → allows_all kind (without_private m) at n ≡ allows_all kind m at n
  pub loads : (kind : AccessKind) (m : Memory) (at n : ℕ) → HasPrivateArea m → is_private (wrapped at) ≡ false → allows_all kind m at n ≡ true → bytes_at (without_private m) at n ≡ bytes_at m at n
  -- one that starts there is refused without the area, and so is one at address 0 with it
  pub refuses : (kind : AccessKind) (m : Memory) (at n : ℕ) → is_private (wrapped at) ≡ true → allows_all kind (without_private m) at (suc n) ≡ false
  pub refuses_zero : (kind : AccessKind) (m : Memory) (n : ℕ) → HasPrivateArea m → allows_all kind m 0 (suc n) ≡ false
  pub allows_area : (kind : AccessKind) (m : Memory) (at n : ℕ) → HasPrivateArea m → 0x60000000 ≤ at → at + n ≤ 0x7C000000 → allows_all kind m at n ≡ true
  pub apart : (m : Memory) (a : Access) → HasPrivateArea m → is_private (wrapped a.at) ≡ false → IsApartAccess m a
  -- the test passes exactly the accesses that are apart
  pub apart_passes : (m : Memory) (a : Access) → IsApartAccess m a → is_apart_access m a ≡ true
  pub passes_apart : (m : Memory) (a : Access) → is_apart_access m a ≡ true → IsApartAccess m a
  -- and so with those that are clear; what is apart is clear
  pub clear_passes : (m : Memory) (a : Access) → IsClearAccess m a → is_clear_access m a ≡ true
  pub passes_clear : (m : Memory) (a : Access) → is_clear_access m a ≡ true → IsClearAccess m a
  pub apart_is_clear : (m : Memory) (a : Access) → IsApartAccess m a → IsClearAccess m a
