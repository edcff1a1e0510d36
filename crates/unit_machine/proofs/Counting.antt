-- The worked unit is in form, and needs no frame.
use Rattle.std.proofs.Common.{◌≡◌, ℕ, zero, suc, ◌<◌, [], get_or, slice_get, All, Contains, Some, refl, sym, ap, subst, arith}
use Rattle.flag_ir.specs.declared.block.Block.{Block}
use Rattle.flag_ir.specs.Entering.{CodeUnit}
use Rattle.flag_ir.specs.Form.{IsOp, IsExit, IsFrameless, IsFramelessBlock, IsInForm, IsLoweredInForm}
use Rattle.unit_machine.specs.Worked.{count_ops, step_ops, last_ops, first_block, loop_block, last_block, counting}

abbrev Three : (P : Block → Type 0) → ℕ → Type 0
Three P n = P (first_block n) × P loop_block × P last_block

-- what holds of the three blocks holds of each
of_three : (P : Block → Type 0) (n k : ℕ) (d : Block) → Three P n → k < 3 → P (get_or (counting n).whole k d)
of_three P n zero d h few = h.0
of_three P n (suc zero) d h few = h.1
of_three P n (suc (suc zero)) d h few = h.2
of_three P n (suc (suc (suc k))) d h few = absurd (omega (arith, few))

count_form : (n : ℕ) → All (IsOp 0) (count_ops n)
count_form n zero d few = (omega arith, tt)
count_form n (suc k) d few = absurd (omega (arith, few))

count_frameless : (n : ℕ) → All IsFrameless (count_ops n)
count_frameless n zero d few = tt
count_frameless n (suc k) d few = absurd (omega (arith, few))

step_form : All (IsOp 0) step_ops
step_form zero d few = (omega arith, omega arith, tt)
step_form (suc k) d few = absurd (omega (arith, few))

step_frameless : All IsFrameless step_ops
step_frameless zero d few = tt
step_frameless (suc k) d few = absurd (omega (arith, few))

last_form : All (IsOp 0) last_ops
last_form zero d few = (omega arith, tt)
last_form (suc zero) d few = (omega arith, tt)
last_form (suc (suc zero)) d few = (omega arith, omega arith)
last_form (suc (suc (suc zero))) d few = (omega arith, tt)
last_form (suc (suc (suc (suc zero)))) d few = tt
last_form (suc (suc (suc (suc (suc zero))))) d few = (omega arith, tt)
last_form (suc (suc (suc (suc (suc (suc zero)))))) d few = (omega arith, tt)
last_form (suc (suc (suc (suc (suc (suc (suc zero))))))) d few = tt
last_form (suc (suc (suc (suc (suc (suc (suc (suc k)))))))) d few = absurd (omega (arith, few))

last_frameless : All IsFrameless last_ops
last_frameless zero d few = tt
last_frameless (suc zero) d few = tt
last_frameless (suc (suc zero)) d few = tt
last_frameless (suc (suc (suc zero))) d few = tt
last_frameless (suc (suc (suc (suc zero)))) d few = tt
last_frameless (suc (suc (suc (suc (suc zero))))) d few = tt
last_frameless (suc (suc (suc (suc (suc (suc zero)))))) d few = tt
last_frameless (suc (suc (suc (suc (suc (suc (suc zero))))))) d few = tt
last_frameless (suc (suc (suc (suc (suc (suc (suc (suc k)))))))) d few = absurd (omega (arith, few))

ops_form : (n : ℕ) → Three (λ b. All (IsOp 0) b.ops) n
ops_form n = (count_form n, step_form, last_form)

exits_form : (n : ℕ) → Three (λ b. IsExit 0 3 [] b.exit) n
exits_form n = (omega arith, (omega arith, omega arith, omega arith), tt)

all_frameless : (n : ℕ) → Three IsFramelessBlock n
all_frameless n = (record { ops = count_frameless n; exit = tt }, record { ops = step_frameless; exit = tt }, record { ops = last_frameless; exit = tt })

numbers : (n k : ℕ) (b : Block) → slice_get (counting n).whole k ≡ Some b → b.number ≡ k
numbers n zero b h = let e : first_block n ≡ b = cc h in sym (ap (λ x. x.number) e)
numbers n (suc zero) b h = let e : loop_block ≡ b = cc h in sym (ap (λ x. x.number) e)
numbers n (suc (suc zero)) b h = let e : last_block ≡ b = cc h in sym (ap (λ x. x.number) e)
numbers n (suc (suc (suc k))) b h = absurd (cc h)

-- of each block of the list
of_block : (P : Block → Type 0) (n : ℕ) (b : Block) → Three P n → Contains (counting n).whole b → P b
of_block P n b h c = subst P c.2 (of_three P n c.0 b h c.1)

none_in : {X : Type 0} (x : X) → Contains [] x → ⊥
none_in x h = let few = h.1 in omega (arith, few)

low : (n : ℕ) → IsLoweredInForm (counting n)
low n = record { procs = refl; blocks = λ k d few. of_three IsFramelessBlock n k d (all_frameless n) few }

form : (n : ℕ) → IsInForm (counting n)
form n = record {
  whole = record {
    numbers = numbers n;
    ops = λ b c. of_block (λ x. All (IsOp 0) x.ops) n b (ops_form n) c;
    exits = λ b c. of_block (λ x. IsExit 0 3 [] x.exit) n b (exits_form n) c;
  };
  procs = λ p c. absurd (none_in p c);
  lowered = λ _. low n;
}

pub in_form : (unit : CodeUnit) (n : ℕ) → unit ≡ counting n → IsInForm unit
in_form unit n is = subst (λ (u : CodeUnit). IsInForm u) (sym is) (form n)

pub needs_no_frame : (unit : CodeUnit) (n : ℕ) → unit ≡ counting n → IsLoweredInForm unit
needs_no_frame unit n is = subst (λ (u : CodeUnit). IsLoweredInForm u) (sym is) (low n)
