-- The store of a turn's old address, with which some blocks begin.
use Rattle.std.proofs.Common.{◌≡◌, ℕ, ◌+◌, ◌%◌, ◌^◌, ◌<◌, ◌==◌, ◌&&◌, ◌||◌, Bool, true, false, not, cond, List, [], ◌∷◌, length, All, Option, None, Ok, Err, refl, sym, ap, ap₂, ◌∙◌, arith}
use Rattle.std.proofs.lemmas.Bool.{le-leb, lt-ltb}
use Rattle.std.proofs.lemmas.List.Elements.{All-from_recursion}
use Rattle.x86_values.specs.declared.byte.Byte.{Byte}
use Rattle.x86_values.specs.Words.{word_of, known, word_list, padded}
use Rattle.x86_values.specs.WordLaws.{WordLaws}
use Rattle.traces.specs.Trace.{MemoryFault}
use Rattle.memory.specs.Memory.{Memory, Store, wrapped, allows_all, put_all}
use Rattle.memory.specs.MemoryLaws.{MemoryLaws}
use Rattle.flag_ir.specs.declared.block.Exit.{Exit}
use Rattle.flag_ir.specs.Storage.{Storage}
use Rattle.flag_ir.specs.Operations.{and_then, with_memory, perform, performs, shown_with, shown_by_all}
use Rattle.flag_ir.specs.UnitLaws.{UnitLaws}
use Rattle.flag_ir.specs.Form.{IsFrameless}
use Rattle.private_memory.specs.PrivateArea.{is_private, without_private}
use Rattle.private_memory.specs.PrivateAreaLaws.{PrivateAccessLaws}
use Rattle.guards.specs.Guarding.{is_stop, turn_store, turn_stores}
use Rattle.guards.specs.States.{DiffersByArea, IsLoweredStorage, NamesTurn}
use Rattle.guards.proofs.Sides.{SameArea}
use Rattle.guards.proofs.Keeping.{ops_keep}

-- ---- the word's place
word_inside : (k : ℕ) → k < 4 → is_private (wrapped (0x75000004 + k)) ≡ true
unfolding is_private
word_inside k l =
    let here : (0x75000004 + k) % 4294967296 ≡ 0x75000004 + k = omega arith in
    ap₂ (λ b c. b && c) (le-leb 0x60000000 (wrapped (0x75000004 + k)) (omega arith)) (lt-ltb (wrapped (0x75000004 + k)) 0x7C000000 (omega arith))

-- the word is named as long as the area is as it was
pub names_same : MemoryLaws → (m n : Memory) (turn : ℕ) → SameArea m n → NamesTurn m turn → NamesTurn n turn
names_same memory m n turn same named =
    ap (λ bs. known (padded bs)) (memory.bytes_in_same n m 0x75000004 4 (record { places = λ k l. same.places (wrapped (0x75000004 + k)) (word_inside k l) })) ∙ named

module _ (words : WordLaws) (memory : MemoryLaws) (area : PrivateAccessLaws) (turn : ℕ) where
  abbrev stored_at : ℕ → Storage → Storage
  stored_at at v = with_memory v (put_all 0x75000004 (word_list (word_of at)) v.memory)

  allowed : (v : Storage) → IsLoweredStorage v → allows_all Store v.memory 0x75000004 4 ≡ true
  allowed v kept = area.allows_area Store v.memory 0x75000004 4 kept.area (omega arith) (omega arith)

  store_runs : (at : ℕ) (v : Storage) → IsLoweredStorage v → performs turn (turn_store at ∷ []) v ≡ Ok (stored_at at v)
  unfolding performs perform known word_of
  store_runs at v kept = ap (λ b. and_then (and_then (cond b (Ok (put_all 0x75000004 (word_list (word_of at)) v.memory)) (Err MemoryFault)) (λ m. Ok (with_memory v m))) (performs turn [])) (allowed v kept)

  store_shows : (at : ℕ) (v : Storage) → IsLoweredStorage v → shown_by_all turn (turn_store at ∷ []) v ≡ []
  unfolding shown_by_all perform known word_of
  store_shows at v kept = ap (λ b. shown_with (and_then (cond b (Ok (put_all 0x75000004 (word_list (word_of at)) v.memory)) (Err MemoryFault)) (λ m. Ok (with_memory v m))) [] (shown_by_all turn [])) (allowed v kept)

  names_stored : (at : ℕ) (v : Storage) → IsLoweredStorage v → at < 2 ^ 32 → NamesTurn (stored_at at v).memory at
  names_stored at v kept small =
      ap (λ bs. known (padded bs)) (memory.stored_is_loaded Store 0x75000004 (word_list (word_of at)) v.memory (omega arith) (allowed v kept))
      ∙ (ap known (words.padded_list (word_of at)) ∙ words.known_word at small)

  hidden : (m : Memory) (a : ℕ) (b : Bool) → is_private a ≡ b → without_private m a ≡ cond b (let o : Option _ = None in o) (m a)
  unfolding without_private
  hidden m a b e = ap (λ c. cond c None (m a)) e

  stored_elsewhere : (bs : List Byte) (m : Memory) (a : ℕ) → length bs ≡ 4 → is_private a ≡ false → put_all 0x75000004 bs m a ≡ m a
  stored_elsewhere bs m a four p = memory.put_all_elsewhere 0x75000004 bs m a (λ k l e. let both : true ≡ false = sym (word_inside k (omega arith)) ∙ (ap is_private (sym e) ∙ p) in absurd cc)

  same_without : (at : ℕ) (m : Memory) (a : ℕ) → without_private (put_all 0x75000004 (word_list (word_of at)) m) a ≡ without_private m a
  same_without at m a = cases (is_private a) refl
    where
      cases : (b : Bool) → is_private a ≡ b → without_private (put_all 0x75000004 (word_list (word_of at)) m) a ≡ without_private m a
      cases true e = hidden (put_all 0x75000004 (word_list (word_of at)) m) a true e ∙ sym (hidden m a true e)
      cases false e = hidden (put_all 0x75000004 (word_list (word_of at)) m) a false e ∙ (stored_elsewhere (word_list (word_of at)) m a refl e ∙ sym (hidden m a false e))

  stored_beside : (at : ℕ) (u v : Storage) → DiffersByArea u v → DiffersByArea u (stored_at at v)
  stored_beside at u v h = record { regs = h.regs; flags = h.flags; temps = h.temps; memory = h.memory ∙ sym (λ i a. same_without at v.memory a i); left = h.left; no_frame = h.no_frame; no_frame' = h.no_frame'; esp0 = h.esp0 }

  -- ---- what stands before the list of a block
  pub record Begun (loose : Bool) (at : ℕ) (e : Exit) (u v : Storage) : Type 0 where
    pub storage : Storage
    pub runs : performs turn (turn_stores loose at e) v ≡ Ok storage
    pub shows : shown_by_all turn (turn_stores loose at e) v ≡ []
    pub beside : DiffersByArea u storage
    pub kept : IsLoweredStorage storage
    pub stays : (at == 0) ≡ true → storage ≡ v
    pub names : (at == 0) ≡ false → (loose || is_stop e) ≡ true → NamesTurn storage.memory at

  module _ (units : UnitLaws) where
    one_frameless : (at : ℕ) → All IsFrameless (turn_store at ∷ [])
    one_frameless at = All-from_recursion IsFrameless (turn_store at ∷ []) (tt, tt)

    pub begun : (loose : Bool) (at : ℕ) (e : Exit) (u v : Storage) → at < 2 ^ 32 → DiffersByArea u v → IsLoweredStorage v → Begun loose at e u v
    unfolding performs shown_by_all
    begun loose at e u v small h kept = cases (at == 0) (loose || is_stop e) refl refl
      where
        nothing : (t : Bool) → (not (at == 0) && (loose || is_stop e)) ≡ false → ((at == 0) ≡ false → (loose || is_stop e) ≡ true → ⊥) → Begun loose at e u v
        nothing t f never = record {
          storage = v;
          runs = ap (λ b. performs turn (cond b (turn_store at ∷ []) []) v) f;
          shows = ap (λ b. shown_by_all turn (cond b (turn_store at ∷ []) []) v) f;
          beside = h;
          kept = kept;
          stays = λ z. refl;
          names = λ z s. absurd (never z s);
        }

        one : (at == 0) ≡ false → (not (at == 0) && (loose || is_stop e)) ≡ true → Begun loose at e u v
        one z f = record {
          storage = stored_at at v;
          runs = ap (λ b. performs turn (cond b (turn_store at ∷ []) []) v) f ∙ store_runs at v kept;
          shows = ap (λ b. shown_by_all turn (cond b (turn_store at ∷ []) []) v) f ∙ store_shows at v kept;
          beside = stored_beside at u v h;
          kept = ops_keep area units turn (turn_store at ∷ []) v (stored_at at v) (one_frameless at) kept (store_runs at v kept);
          stays = λ y. let both : true ≡ false = sym y ∙ z in absurd cc;
          names = λ y s. names_stored at v kept small;
        }

        cases : (z s : Bool) → (at == 0) ≡ z → (loose || is_stop e) ≡ s → Begun loose at e u v
        cases true s y f = nothing true (ap (λ b. not b && (loose || is_stop e)) y) (λ n g. let both : true ≡ false = sym y ∙ n in absurd cc)
        cases false false y f = nothing true (ap₂ (λ b c. not b && c) y f) (λ n g. let both : true ≡ false = sym g ∙ f in absurd cc)
        cases false true y f = one y (ap₂ (λ b c. not b && c) y f)
