-- What the front of some bytes is at a byte that is taken, and what that says of the place.
use Rattle.std.proofs.Common.{◌≡◌, ◌≢◌, ℕ, zero, suc, ◌+◌, ◌*◌, ◌^◌, ◌<◌, ◌≤◌, ◌==◌, Bool, true, false, cond, List, [], ◌∷◌, length, take, All, Option, Some, None, refl, sym, ap, ◌∙◌, subst, inl, inr, arith}
use Rattle.std.proofs.lemmas.Bool.Decides.{eqb_tells, nat_tests}
use Rattle.x86_types.specs.declared.operand.Reg.{Reg}
use Rattle.x86_types.specs.declared.operand.Reg.TheVariants.{Eax, Ecx, Edx, Ebx, Esp, Ebp, Esi, Edi}
use Rattle.x86_types.specs.declared.instr.Instr.{Instr}
use Rattle.x86_types.specs.declared.instr.Instr.TheVariants.{Jmp, Int80}
use Rattle.x86_types.specs.Numbers.{number_of_reg}
use Rattle.x86_grammar.specs.Front.{front}
use Rattle.x86_grammar.specs.FrontLaws.{FrontEquations}
use Rattle.rewrite_core.specs.declared.places.Judgement.{Judgement}
use Rattle.rewrite_core.specs.declared.places.Judgement.TheVariants.{GoesOn, Jumps, Ends, LeftOut}
use Rattle.rewrite_core.specs.Met.{mov_word, is_taken_byte}
use Rattle.rewrite_core.specs.Places.{is_apart, target_of, judged_as, judged_by, judged_from}

abbrev pub Found : Type 0
Found = Option (Instr × ℕ)

-- an instruction has one to five bytes, of those that stand there
abbrev pub Short : ℕ → ℕ → Type 0
Short n len = (1 ≤ len) × (len ≤ 5) × (len ≤ n)

-- at a taken byte stands a move of a constant, a jump, a call, or nothing
pub data TakenFound (n : ℕ) : Found → Type 0 where
  none : TakenFound n None
  moves : (to : Reg) → (from len : ℕ) → Short n len → TakenFound n (Some (mov_word to from, len))
  jumps : (by len : ℕ) → Short n len → TakenFound n (Some (Jmp by, len))
  calls : (len : ℕ) → Short n len → TakenFound n (Some (Int80, len))

-- which bytes are taken
data Taken (b : ℕ) : Type 0 where
  mov : (r : Reg) → b ≡ 0xB8 + number_of_reg r → Taken b
  far : b ≡ 0xE9 → Taken b
  near : b ≡ 0xEB → Taken b
  int : b ≡ 0xCD → Taken b
  hlt : b ≡ 0xF4 → Taken b

which : (b : ℕ) → is_taken_byte b ≡ true → Taken b
which b h = elim (eqb_tells b 0xB8) [
  | inl e ↦ mov Eax e.1
  | inr n0 ↦ elim (eqb_tells b 0xB9) [
    | inl e ↦ mov Ecx e.1
    | inr n1 ↦ elim (eqb_tells b 0xBA) [
      | inl e ↦ mov Edx e.1
      | inr n2 ↦ elim (eqb_tells b 0xBB) [
        | inl e ↦ mov Ebx e.1
        | inr n3 ↦ elim (eqb_tells b 0xBC) [
          | inl e ↦ mov Esp e.1
          | inr n4 ↦ elim (eqb_tells b 0xBD) [
            | inl e ↦ mov Ebp e.1
            | inr n5 ↦ elim (eqb_tells b 0xBE) [
              | inl e ↦ mov Esi e.1
              | inr n6 ↦ elim (eqb_tells b 0xBF) [
                | inl e ↦ mov Edi e.1
                | inr n7 ↦ elim (eqb_tells b 0xE9) [
                  | inl e ↦ far e.1
                  | inr n8 ↦ elim (eqb_tells b 0xEB) [
                    | inl e ↦ near e.1
                    | inr n9 ↦ elim (eqb_tells b 0xCD) [
                      | inl e ↦ int e.1
                      | inr n10 ↦ elim (eqb_tells b 0xF4) [
                        | inl e ↦ hlt e.1
                        | inr n11 ↦ absurd (none_left b h n0.1 n1.1 n2.1 n3.1 n4.1 n5.1 n6.1 n7.1 n8.1 n9.1 n10.1 n11.1)
                      ]
                    ]
                  ]
                ]
              ]
            ]
          ]
        ]
      ]
    ]
  ]
]
  where
    none_left : (b : ℕ) → is_taken_byte b ≡ true → b ≢ 0xB8 → b ≢ 0xB9 → b ≢ 0xBA → b ≢ 0xBB → b ≢ 0xBC → b ≢ 0xBD → b ≢ 0xBE → b ≢ 0xBF → b ≢ 0xE9 → b ≢ 0xEB → b ≢ 0xCD → b ≢ 0xF4 → ⊥
    none_left b h n0 n1 n2 n3 n4 n5 n6 n7 n8 n9 n10 n11 = grind (arith, nat_tests)

module _ (laws : FrontEquations) where
  along : (b c : ℕ) (bs : List ℕ) → b ≡ c → TakenFound (suc (length bs)) (front (c ∷ bs)) → TakenFound (suc (length bs)) (front (b ∷ bs))
  along b c bs e h = subst (λ (x : ℕ). TakenFound (suc (length bs)) (front (x ∷ bs))) (sym e) h

  at_mov : (r : Reg) (bs : List ℕ) → TakenFound (suc (length bs)) (front ((0xB8 + number_of_reg r) ∷ bs))
  at_mov r [] = rw (laws.mov_cut r [] (omega arith)) none
  at_mov r (a ∷ []) = rw (laws.mov_cut r (a ∷ []) (omega arith)) none
  at_mov r (a ∷ b ∷ []) = rw (laws.mov_cut r (a ∷ b ∷ []) (omega arith)) none
  at_mov r (a ∷ b ∷ c ∷ []) = rw (laws.mov_cut r (a ∷ b ∷ c ∷ []) (omega arith)) none
  at_mov r (a ∷ b ∷ c ∷ d ∷ rest) = rw (laws.mov r a b c d rest) (moves r _ 5 (omega arith, omega arith, omega arith))

  at_far : (bs : List ℕ) → TakenFound (suc (length bs)) (front (0xE9 ∷ bs))
  at_far [] = rw (laws.jmp_near_cut [] (omega arith)) none
  at_far (a ∷ []) = rw (laws.jmp_near_cut (a ∷ []) (omega arith)) none
  at_far (a ∷ b ∷ []) = rw (laws.jmp_near_cut (a ∷ b ∷ []) (omega arith)) none
  at_far (a ∷ b ∷ c ∷ []) = rw (laws.jmp_near_cut (a ∷ b ∷ c ∷ []) (omega arith)) none
  at_far (a ∷ b ∷ c ∷ d ∷ rest) = rw (laws.jmp_near a b c d rest) (jumps _ 5 (omega arith, omega arith, omega arith))

  at_near : (bs : List ℕ) → TakenFound (suc (length bs)) (front (0xEB ∷ bs))
  at_near [] = rw laws.jmp_short_cut none
  at_near (a ∷ rest) = rw (laws.jmp_short a rest) (jumps _ 2 (omega arith, omega arith, omega arith))

  at_int : (bs : List ℕ) → TakenFound (suc (length bs)) (front (0xCD ∷ bs))
  at_int [] = rw laws.int_cut none
  at_int (a ∷ rest) = elim (eqb_tells a 0x80) [
    | inl e ↦ subst (λ (x : ℕ). TakenFound (suc (suc (length rest))) (front (0xCD ∷ x ∷ rest))) (sym e.1) (rw (laws.int80 rest) (calls 2 (omega arith, omega arith, omega arith)))
    | inr n ↦ rw (laws.other_int a rest n.1) none
  ]

  taken_found : (b : ℕ) (bs : List ℕ) → Taken b → TakenFound (suc (length bs)) (front (b ∷ bs))
  taken_found b bs (mov r e) = along b (0xB8 + number_of_reg r) bs e (at_mov r bs)
  taken_found b bs (far e) = along b 0xE9 bs e (at_far bs)
  taken_found b bs (near e) = along b 0xEB bs e (at_near bs)
  taken_found b bs (int e) = along b 0xCD bs e (at_int bs)
  taken_found b bs (hlt e) = along b 0xF4 bs e (rw (laws.hlt bs) none)

  pub taken_front : (b : ℕ) (bs : List ℕ) → is_taken_byte b ≡ true → TakenFound (suc (length bs)) (front (b ∷ bs))
  taken_front b bs h = taken_found b bs (which b h)

-- where a list has a first byte
abbrev pub first_of : List ℕ → Option ℕ
first_of [] = None
first_of (b ∷ bs) = Some b

-- what stands at a place that is judged so
pub data Stood (p : ℕ) (bs : List ℕ) : Judgement → Type 0 where
  by_none : front bs ≡ None → Stood p bs Ends
  by_mov : (to : Reg) → (from len : ℕ) → front bs ≡ Some (mov_word to from, len) → is_apart from ≡ true → Stood p bs (GoesOn len)
  by_call : (len : ℕ) → front bs ≡ Some (Int80, len) → Stood p bs (GoesOn len)
  by_jump : (by len : ℕ) → front bs ≡ Some (Jmp by, len) → Stood p bs (Jumps (target_of (p + len) by))
  by_first : (b : ℕ) → first_of bs ≡ Some b → is_taken_byte b ≡ false → Stood p bs LeftOut
  by_constant : (to : Reg) → (from len : ℕ) → front bs ≡ Some (mov_word to from, len) → is_apart from ≡ false → Stood p bs LeftOut

taken_stood : (p n : ℕ) (bs : List ℕ) (o : Found) → TakenFound n o → front bs ≡ o → Stood p bs (judged_by p o)
taken_stood p n bs _ none e = by_none e
taken_stood p n bs _ (moves to from len s) e = either (is_apart from) refl
  where
    either : (b : Bool) → is_apart from ≡ b → Stood p bs (cond b (GoesOn len) LeftOut)
    either true h = by_mov to from len e h
    either false h = by_constant to from len e h
taken_stood p n bs _ (jumps by len s) e = by_jump by len e
taken_stood p n bs _ (calls len s) e = by_call len e

pub stood : FrontEquations → (p : ℕ) (bs : List ℕ) → Stood p bs (judged_from p bs)
unfolding judged_from
stood laws p [] = by_none laws.nothing
stood laws p (x ∷ bs) = either (is_taken_byte x) refl
  where
    either : (b : Bool) → is_taken_byte x ≡ b → Stood p (x ∷ bs) (cond b (judged_by p (front (x ∷ bs))) LeftOut)
    either true h = taken_stood p (suc (length bs)) (x ∷ bs) (front (x ∷ bs)) (taken_front laws x bs h) refl
    either false h = by_first x refl h

pub stood_as : FrontEquations → (p : ℕ) (bs : List ℕ) (j : Judgement) → judged_from p bs ≡ j → Stood p bs j
stood_as laws p bs j e = subst (Stood p bs) e (stood laws p bs)

-- a place that isn't left out is judged by its instruction alone, and begins with a byte that is taken
pub not_left : FrontEquations → (p : ℕ) (bs : List ℕ) → judged_from p bs ≢ LeftOut → judged_from p bs ≡ judged_by p (front bs)
unfolding judged_from
not_left laws p [] h = sym (ap (judged_by p) laws.nothing)
not_left laws p (x ∷ bs) h =
    (elim (is_taken_byte x) as (λ t. cond t (judged_by p (front (x ∷ bs))) LeftOut ≢ LeftOut → cond t (judged_by p (front (x ∷ bs))) LeftOut ≡ judged_by p (front (x ∷ bs))) [
      | true ↦ λ k. refl
      | false ↦ λ k. absurd (k refl)
    ]) h

pub taken_first : (p : ℕ) (bs : List ℕ) (b : ℕ) → judged_from p bs ≢ LeftOut → first_of bs ≡ Some b → is_taken_byte b ≡ true
unfolding judged_from
taken_first p [] b h e = cc
taken_first p (x ∷ bs) b h e =
    let same : x ≡ b = cc in
    (elim (is_taken_byte x) as (λ t. is_taken_byte x ≡ t → cond t (judged_by p (front (x ∷ bs))) LeftOut ≢ LeftOut → is_taken_byte b ≡ true) [
      | true ↦ λ q _. ap is_taken_byte (sym same) ∙ q
      | false ↦ λ q k. absurd (k refl)
    ]) refl h

-- a MOV that isn't left out goes on, and moves no address of the written file's own
pub goes_mov : FrontEquations → (p : ℕ) (bs : List ℕ) (to : Reg) (from len : ℕ) → judged_from p bs ≢ LeftOut → front bs ≡ Some (mov_word to from, len) → (judged_from p bs ≡ GoesOn len) × (is_apart from ≡ true)
goes_mov laws p bs to from len h e =
    let same : judged_from p bs ≡ cond (is_apart from) (GoesOn len) LeftOut = not_left laws p bs h ∙ ap (judged_by p) e in
    let at = moved_on (is_apart from) len (λ z. h (same ∙ z)) in
    (same ∙ at.0, at.1)
  where
    moved_on : (b : Bool) (len : ℕ) → cond b (GoesOn len) LeftOut ≢ LeftOut → (cond b (GoesOn len) LeftOut ≡ GoesOn len) × (b ≡ true)
    moved_on true len k = (refl, refl)
    moved_on false len k = absurd (k refl)

-- so does a call
pub goes_call : FrontEquations → (p : ℕ) (bs : List ℕ) (len : ℕ) → judged_from p bs ≢ LeftOut → front bs ≡ Some (Int80, len) → judged_from p bs ≡ GoesOn len
goes_call laws p bs len h e = not_left laws p bs h ∙ ap (judged_by p) e

-- and a jump leads to its target
pub goes_jump : FrontEquations → (p : ℕ) (bs : List ℕ) (by len : ℕ) → judged_from p bs ≢ LeftOut → front bs ≡ Some (Jmp by, len) → judged_from p bs ≡ Jumps (target_of (p + len) by)
goes_jump laws p bs by len h e = not_left laws p bs h ∙ ap (judged_by p) e
