-- The accesses and the effects of an instruction over places that are paired.
use Rattle.std.proofs.Common.{◌≡◌, ◌⊎◌, inl, inr, ℕ, ◌==◌, Bool, true, false, cond, List, [], ◌∷◌, take, Option, Some, None, Ok, Err, refl, ap, ◌∙◌}
use Rattle.std.proofs.lemmas.Bool.Decides.{eqb_tells}
use Rattle.x86_values.specs.declared.word.Word.{Word}
use Rattle.x86_values.specs.declared.word.Flags.{Flags}
use Rattle.x86_values.specs.Words.{padded, word_list}
use Rattle.memory.specs.Memory.{Memory, AccessKind, Load, Store}
use Rattle.x86_types.specs.declared.instr.Instr.{Instr}
use Rattle.x86_meaning.specs.Registers.{Registers, Naming, with_register, with_bytes}
use Rattle.x86_meaning.specs.Operands.{Location, InRegister, InMemory, Constant, SizedOperand, Access, access, accesses_of, bytes_in, value_in, values_in}
use Rattle.x86_meaning.specs.TransferShapes.{Transfer}
use Rattle.x86_meaning.specs.Outcomes.{Computation}
use Rattle.x86_meaning.specs.Effect.{Effect, transfer_accesses, accesses, written_to, all_written, effect_of, effect_by, effect}
use Rattle.field_places.specs.Pairs.{Pairs, IsOneToOne, HoldTheSame, UsesPairs, EffectsAlike, ResultsAlike}
use Rattle.field_places.specs.FieldPlaceLaws.{FieldPlaceLaws, processor}
use Rattle.field_places.proofs.Places.{Both, SameLocation, SameOperands, SameTransfer, with_the_same}
use Rattle.field_places.proofs.SameTransfers.{transfer_same}
use Rattle.field_places.proofs.Renamed.{renamed_accesses, renamed_effect}

module _ (pairs : Pairs) where
  -- ---- accesses
  access_same : (kind : AccessKind) (size : ℕ) (l k : Location) (xs ys : List Access) → SameLocation pairs l k → xs ≡ ys → access kind size l xs ≡ access kind size k ys
  access_same kind size (InRegister p i) k xs ys h e = rw (h.2, e) refl
  access_same kind size (InMemory at) k xs ys h e = rw (h, e) refl
  access_same kind size (Constant n) k xs ys h e = rw (h, e) refl

  all_same : (kind : AccessKind) (os ps : List SizedOperand) → SameOperands pairs os ps → accesses_of kind os ≡ accesses_of kind ps
  all_same kind [] ps h = rw h refl
  all_same kind (o ∷ os) [] h = absurd h
  all_same kind (o ∷ os) (p ∷ ps) h = access_same kind o.size o.location p.location _ _ h.1 (all_same kind os ps h.2) ∙ ap (λ (n : ℕ). access kind n p.location (accesses_of kind ps)) h.0

  transfers_same : (o u : Option Transfer) → Both (SameTransfer pairs) o u → transfer_accesses o ≡ transfer_accesses u
  transfers_same None None h = refl
  transfers_same None (Some u) h = absurd h
  transfers_same (Some t) None h = absurd h
  transfers_same (Some t) (Some u) h = rw (all_same Load t.reads u.reads h.0, all_same Store t.writes u.writes h.1) refl

  -- ---- what is read
  module _ (r q : Registers) (m : Memory) (same : HoldTheSame pairs r q) where
    bytes_same : (size : ℕ) (l k : Location) → SameLocation pairs l k → bytes_in size l r m ≡ bytes_in size k q m
    bytes_same size (InRegister p i) k h = rw (h.2, same p h.0 h.1) refl
    bytes_same size (InMemory at) k h = rw h refl
    bytes_same size (Constant n) k h = rw h refl

    values_same : (os ps : List SizedOperand) → SameOperands pairs os ps → values_in os r m ≡ values_in ps q m
    values_same [] ps h = rw h refl
    values_same (o ∷ os) [] h = absurd h
    values_same (o ∷ os) (p ∷ ps) h =
        let first : value_in o r m ≡ value_in p q m = ap padded (ap (λ (n : ℕ). bytes_in n o.location r m) h.0 ∙ bytes_same p.size o.location p.location h.1) in
        let rest : values_in os r m ≡ values_in ps q m = values_same os ps h.2 in
        cc

  -- ---- what is written
  module _ (once : IsOneToOne pairs) (r q : Registers) where
    other : (n k : ℕ) (x y : Word) → (k ≡ n → ⊥) → cond (k == n) x y ≡ y
    other n k x y h = by (eqb_tells k n)
      where
        by : (((k == n) ≡ true) × (k ≡ n)) ⊎ (((k == n) ≡ false) × (k ≡ n → ⊥)) → cond (k == n) x y ≡ y
        by (inl e) = absurd (h e.1)
        by (inr e) = ap (λ (t : Bool). cond t x y) e.0

    elsewhere : (n k : ℕ) (x y : Word) (regs : Registers) → (k ≡ n → ⊥) → regs k ≡ y → with_register n x regs k ≡ y
    unfolding with_register
    elsewhere n k x y regs h e = other n k x (regs k) h ∙ e

    written_same : (size : ℕ) (l k : Location) (x : Word) (d e : Effect) → SameLocation pairs l k → EffectsAlike pairs r q d e → EffectsAlike pairs r q (written_to size l x d) (written_to size k x e)
    written_same size (InRegister p i) k x d e h s =
        rw h.2 (record {
          stores = s.stores;
          flags = s.flags;
          way = s.way;
          words = with_the_same pairs once p h.0 _ _ d.cpu.regs e.cpu.regs h.1 (ap (with_bytes i (take size (word_list x))) (s.words p h.0 h.1)) s.words;
          others_left = λ a none. elsewhere p a _ _ d.cpu.regs (λ z. none h.0 (rw z h.1)) (s.others_left a none);
          others_right = λ b none. elsewhere h.0 b _ _ e.cpu.regs (λ z. none p (rw z h.1)) (s.others_right b none);
        })
    written_same size (InMemory at) k x d e h s = rw h (record { stores = rw s.stores refl; flags = s.flags; way = s.way; words = s.words; others_left = s.others_left; others_right = s.others_right })
    written_same size (Constant n) k x d e h s = rw h s

    all_written_same : (os ps : List SizedOperand) (xs : List Word) (d e : Effect) → SameOperands pairs os ps → EffectsAlike pairs r q d e → EffectsAlike pairs r q (all_written os xs d) (all_written ps xs e)
    all_written_same [] ps xs d e h s = rw h s
    all_written_same (o ∷ os) [] xs d e h s = absurd h
    all_written_same (o ∷ os) (p ∷ ps) [] d e h s = s
    all_written_same (o ∷ os) (p ∷ ps) (x ∷ xs) d e h s = all_written_same os ps xs _ _ h.2 (rw h.0 (written_same p.size o.location p.location x d e h.1 s))

    outcome_same : (os ps : List SizedOperand) (c : Computation) → HoldTheSame pairs r q → SameOperands pairs os ps → ResultsAlike pairs r q (effect_of os r c) (effect_of ps q c)
    outcome_same os ps (Ok c) same h = all_written_same os ps c.values _ _ h (record { stores = refl; flags = refl; way = refl; words = same; others_left = λ a none. refl; others_right = λ b none. refl })
    outcome_same os ps (Err x) same h = refl

  -- ---- the effect
  effect_by_same : (o u : Option Transfer) (i : Instr) (next : ℕ) (flags : Flags) (r q : Registers) (m : Memory) → IsOneToOne pairs → HoldTheSame pairs r q → Both (SameTransfer pairs) o u
      → ResultsAlike pairs r q (effect_by o i next (processor r flags) m) (effect_by u i next (processor q flags) m)
  effect_by_same None None i next flags r q m once same h = refl
  effect_by_same None (Some u) i next flags r q m once same h = absurd h
  effect_by_same (Some t) None i next flags r q m once same h = absurd h
  effect_by_same (Some t) (Some u) i next flags r q m once same h = rw (values_same r q m same t.reads u.reads h.0) (outcome_same once r q t.writes u.writes _ same h.1)

  same_accesses : (v w : Naming) (i : Instr) (r q : Registers) → UsesPairs pairs v w i r q → accesses v i r ≡ accesses w i q
  unfolding accesses
  same_accesses v w i r q h = transfers_same _ _ (transfer_same pairs v w h.one_to_one r q h.words i h.by_field h.implicit)

  same_effect : (v w : Naming) (i : Instr) (next : ℕ) (flags : Flags) (r q : Registers) (m : Memory) → UsesPairs pairs v w i r q → ResultsAlike pairs r q (effect v i next (processor r flags) m) (effect w i next (processor q flags) m)
  unfolding effect
  same_effect v w i next flags r q m h = effect_by_same _ _ i next flags r q m h.one_to_one h.words (transfer_same pairs v w h.one_to_one r q h.words i h.by_field h.implicit)

pub field_place_laws : FieldPlaceLaws
field_place_laws = record {
  same_accesses = same_accesses;
  same_effect = same_effect;
  renamed_accesses = λ f v i r h. renamed_accesses f v h i r;
  renamed_effect = λ f v i next cpu m h. renamed_effect f v h i next cpu m;
}
