-- What the fields of a host in memory tell.
use Rattle.std.proofs.Common.{◌≡◌, ℕ, ◌+◌, ◌==◌, ◌||◌, ◌<◌, Bool, cond, List, [], ◌∷◌, ◌++◌, map, length, drop, get_or, Some, Result, Ok, Err, refl, sym, ap, ◌∙◌, subst, add-one, drop-cons, arith}
use Rattle.std.proofs.lemmas.Grind.{common_steps}
use Rattle.std.proofs.lemmas.List.Folds.{list_any-append}
use Rattle.std.specs.Bool.{nat_eq}
use Rattle.std.proofs.lemmas.Cmp.{nat_list_cmp_total}
use Rattle.std.specs.Cmp.Lexicographic.{pointwise, texts_ties}
use Rattle.std.specs.FinMap.{get, get-from_entries}
use Rattle.sw_host.specs.Told.{Told, Tells, HasCause}
use Rattle.sw_host.specs.declared.host.HostFault.{HostFault}
use Rattle.sw_host.specs.declared.host.HostFault.TheVariants.{Failed, Memory}
use Rattle.sw_host.specs.Memory.{entry, files_of, find_file, fails_at, CountsFault}
use Rattle.sw_host.specs.declared.memory.File.{File}

-- what is left from the i-th file on begins with it
head-drop : (files : List File) (i : ℕ) (f : File) → i < length files → f ≡ get_or files i f → drop i files ≡ f ∷ drop (i + 1) files
head-drop files i f lt e = rw (add-one, drop-cons files i f lt, ← e) refl

-- the first file has the name or is passed over
find-cons : (f : File) (files : List File) (name : List ℕ) (b : Bool) → b ≡ pointwise nat_eq name f.name.items → find_file (f ∷ files) name ≡ cond b (Some f.bytes.items) (find_file files name)
find-cons f files name b e = ap (λ t. cond t (Some f.bytes.items) (find_file files name)) (sym (e ∙ texts_ties name f.name.items))

-- what is found from the i-th file on, by whether that file has the name
pub find-drop : (files : List File) (i : ℕ) (f : File) (name : List ℕ) (b : Bool) → b ≡ pointwise nat_eq name f.name.items → i < length files → f ≡ get_or files i f → find_file (drop i files) name ≡ cond b (Some f.bytes.items) (find_file (drop (i + 1) files) name)
find-drop files i f name b e lt is =
    ap (λ xs. find_file xs name) (head-drop files i f lt is) ∙ find-cons f (drop (i + 1) files) name b e

-- the map finds what the list of files has first
pub get-files_of : (files : List File) (name : List ℕ) → get (files_of files) name ≡ find_file files name
get-files_of files name = get-from_entries nat_list_cmp_total (map entry files) name

-- one more number, for one call
at-push : (failing : List ℕ) (number call : ℕ) → fails_at (failing ++ number ∷ []) call ≡ (fails_at failing call || (number == call))
at-push failing number call = rw (list_any-append (λ n. nat_eq n call) failing (number ∷ [])) (grind (arith, common_steps))

-- one more number, for each call
pub fails_at-push : (failing : List ℕ) (number : ℕ) → fails_at (failing ++ number ∷ []) ≡ (λ n. fails_at failing n || (number == n))
fails_at-push failing number i call = at-push failing number call i

-- a count that rises exactly at `Failed` has its cause
pub HasCause-counted : {T : Type 0} (before now : ℕ) (r : Result T HostFault) → CountsFault before now r → HasCause before now r
HasCause-counted before now (Ok x) e = omega arith
HasCause-counted before now (Err Failed) e = (omega (arith, e.0, e.1), omega (arith, e.0, e.1))
HasCause-counted before now (Err Memory) e = omega arith

same_told : (a b : Told) → Some a ≡ Some b → a ≡ b
same_told a b e = cc

-- of a host that tells before and after, what holds of the two is told
pub plainly_tells : (x y : Told) (P : Told → Told → Type 0) → P x y → Tells (Some x) (Some y) P
plainly_tells x y P p = record { at = λ a e. (y, refl, subst (λ t. P t y) (same_told x a e) p) }

pub ruleset telling = (get-files_of, fails_at-push)
