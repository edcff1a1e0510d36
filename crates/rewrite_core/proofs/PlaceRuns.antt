-- The old code at a place and the new code at its new place go on beside each other, the new code maybe by one more jump.
use Rattle.std.proofs.Common.{◌≡◌, ℕ, ◌+◌, ◌%◌, ◌^◌, ◌<◌, ◌≤◌, ltb, true, List, [], ◌∷◌, ◌++◌, take, drop, All, Option, Some, None, refl, sym, ap, ◌∙◌, subst, inl, inr, arith}
use Rattle.std.proofs.lemmas.Bool.{ltb-true}
use Rattle.std.proofs.lemmas.List.Elements.{All-drop}
use Rattle.x86_values.specs.Words.{word_of}
use Rattle.image.specs.declared.image.Image.{Image}
use Rattle.traces.specs.Trace.{Label, Turn, Took, Made, events, End, Seen, Move, Stand, Go, Halt, seen}
use Rattle.traces.specs.Steps.{Goes}
use Rattle.traces.specs.Machines.{marked}
use Rattle.traces.specs.Simulation.{Simulates, Fits, SameEvents, Paired}
use Rattle.traces.specs.RunLaws.{RunLaws}
use Rattle.x86_types.specs.declared.operand.Reg.{Reg}
use Rattle.x86_types.specs.declared.instr.Instr.{Instr}
use Rattle.x86_types.specs.declared.instr.Instr.TheVariants.{Jmp, Int80}
use Rattle.x86_grammar.specs.Front.{front}
use Rattle.x86_code.specs.Code.{Code, code_of}
use Rattle.x86_meaning.specs.Step.{State, next}
use Rattle.x86_meaning.specs.Run.{machine}
use Rattle.x86_meaning.specs.StepLaws.{IsForgotten}
use Rattle.rewrite_core.specs.declared.places.Judgement.{Judgement}
use Rattle.rewrite_core.specs.declared.places.Judgement.TheVariants.{GoesOn}
use Rattle.rewrite_core.specs.Met.{mov_word, IsFree}
use Rattle.rewrite_core.specs.Places.{is_apart, place_of, target_of, stop, judged_at, JumpsTo, Continues, StandsFor}
use Rattle.rewrite_core.specs.Layout.{code_start, new_image}
use Rattle.rewrite_core.specs.Beside.{Away, IsAway, Beside, NewCode, IsNew, Pair}
use Rattle.rewrite_core.proofs.Fronts.{Stood, by_none, by_mov, by_call, by_jump, by_first, by_constant, stood_as}
use Rattle.rewrite_core.proofs.PageAddresses.{address_after, place_jumped}
use Rattle.rewrite_core.proofs.PlainPage.{HasPage}
use Rattle.rewrite_core.proofs.MetPlaces.{apart-true, stands_within, stands_for}
use Rattle.rewrite_core.proofs.NewPlaces.{new_stop, new_jump, new_same, same_within, jump_within, new_within, jump_leads}
use Rattle.rewrite_core.proofs.BesideStates.{LawsBelow, Alike, stands, goes, halts, constant_away, none_alike, mov_alike, call_alike, jump_alike, at_places, jumped, jump_goes, beside_jumped}

-- a turn behind some labels adds no event
events-turn : (ls : List Label) (a : ℕ) → events (ls ++ (Turn a ∷ [])) ≡ events ls
events-turn [] a = refl
events-turn (Turn b ∷ ls) a = events-turn ls a
events-turn (Took ∷ ls) a = events-turn ls a
events-turn (Made e ∷ ls) a = ap (λ es. e ∷ es) (events-turn ls a)

-- two addresses: of a place, and of one from which the new code goes on at its new place
pub record IsBefore (x : NewCode) (a b : ℕ) : Type 0 where
  pub new : ℕ
  pub on : Continues x.code x.laid.table new (place_of a)
  pub is : b ≡ code_start + new

new_before : (x : NewCode) (a b : ℕ) → IsNew x a b → IsBefore x a b
new_before x a b p = record { new = p.new; on = inl p.at; is = p.is }

module _ (laws : LawsBelow) (x : NewCode) (apart : (k : ℕ) → IsFree k → Away code_start x.high k) (image : Image) (has : HasPage image x.page) where
  abbrev page : List ℕ
  page = x.page

  abbrev code : List ℕ
  code = x.code

  abbrev old : Code
  old = code_of image

  abbrev new : Code
  new = code_of (new_image x.page x.code)

  abbrev Both : State → State → Type 0
  Both s t = Beside code_start x.high (IsNew x) s t

  abbrev Nearly : State → State → Type 0
  Nearly s t = Beside code_start x.high (IsBefore x) s t

  -- ---- where an instruction leads
  after_same : (a a' q : ℕ) (i : Instr) (len : ℕ) → a' ≡ code_start + q → front (drop (place_of a) page) ≡ Some (i, len) → take len (drop q code) ≡ take len (drop (place_of a) page) → Continues code x.laid.table (q + len) (place_of a + len)
      → IsBefore x ((a + len) % 4294967296) ((a' + len) % 4294967296)
  after_same a a' q i len is e same on =
      let w = stands_within laws.spelling page (place_of a) i len has.whole has.bytes e in
      let within = same_within laws page code has.bytes (place_of a) q i len e same in
      record {
        new = q + len;
        on = subst (Continues code x.laid.table (q + len)) (sym (address_after a len w.inside w.ends)) on;
        is = omega (arith, is, within, x.laid.few);
      }

  after_jump : (a a' q by len : ℕ) → a' ≡ code_start + q → front (drop (place_of a) page) ≡ Some (Jmp by, len) → (j : JumpsTo code x.laid.table q (target_of (place_of a + len) by)) → (by' : ℕ) → (a' + 5 + by') % 4294967296 ≡ code_start + j.to
      → IsBefore x ((a + len + by) % 4294967296) ((a' + 5 + by') % 4294967296)
  after_jump a a' q by len is e j by' leads =
      let w = stands_within laws.spelling page (place_of a) (Jmp by) len has.whole has.bytes e in
      record { new = j.to; on = inl (ap x.laid.table (sym (place_jumped a len by w.inside)) ∙ j.at); is = leads }

  -- ---- one step, by what stands at the place
  module _ (s t : State) (p : Both s t) where
    abbrev place : ℕ
    place = place_of s.eip

    abbrev here : ℕ
    here = p.places.new

    nearly : Nearly s t
    nearly = at_places code_start x.high (IsNew x) (IsBefore x) s t p (new_before x s.eip t.eip p.places)

    old_at : (o : Option (Instr × ℕ)) → front (drop place page) ≡ o → old s.eip ≡ o
    old_at o e = has.stands s.eip ∙ e

    new_at : (o : Option (Instr × ℕ)) → new (code_start + here) ≡ o → new t.eip ≡ o
    new_at o e = ap new p.places.is ∙ e

    step_none : front (drop place page) ≡ None → take 2 (drop here code) ≡ stop → Alike Nearly (next old s) (next new t)
    step_none e st = none_alike laws code_start x.high (IsBefore x) old new s t (old_at None e) (new_at None (new_stop laws page code has.bytes here st))

    -- the constant is below 2^32, since its four bytes are below 256
    small : (to : Reg) (from len : ℕ) → front (drop place page) ≡ Some (mov_word to from, len) → from < 2 ^ 32
    small to from len e =
        let spelled = (laws.spelling.exact (drop place page) (All-drop (λ b. b < 256) place page has.bytes) (mov_word to from) len).0 e in
        let fits : ltb from (256 ^ 4) ≡ true = (laws.fields (mov_word to from)).1 (record { bytes = take len (drop place page); spells = spelled.spells }) in
        omega (arith, ltb-true from (256 ^ 4) fits)

    step_mov : (to : Reg) (from len : ℕ) → front (drop place page) ≡ Some (mov_word to from, len) → is_apart from ≡ true → StandsFor page code x.laid.table place here (GoesOn len) → Alike Nearly (next old s) (next new t)
    step_mov to from len e k st =
        let i : Option (Instr × ℕ) = Some (mov_word to from, len) in
        let constant : IsAway code_start x.high (word_of from) = constant_away laws.words code_start x.high from (small to from len e) (apart from (apart-true from k)) in
        let on = after_same s.eip t.eip here (mov_word to from) len p.places.is e st.0 st.1 in
        mov_alike laws code_start x.high (IsBefore x) old new s t p.memory p.buffer p.same to from len (old_at i e) (new_at i (new_same laws page code has.bytes place here (mov_word to from) len e st.0)) on constant

    step_call : (len : ℕ) → front (drop place page) ≡ Some (Int80, len) → StandsFor page code x.laid.table place here (GoesOn len) → Alike Nearly (next old s) (next new t)
    step_call len e st =
        let i : Option (Instr × ℕ) = Some (Int80, len) in
        let on = after_same s.eip t.eip here Int80 len p.places.is e st.0 st.1 in
        call_alike laws code_start x.high (IsBefore x) old new s t p.memory p.buffer p.same len (old_at i e) (new_at i (new_same laws page code has.bytes place here Int80 len e st.0)) on

    step_jump : (by len : ℕ) → front (drop place page) ≡ Some (Jmp by, len) → JumpsTo code x.laid.table here (target_of (place + len) by) → Alike Nearly (next old s) (next new t)
    step_jump by len e j =
        let stands = new_jump laws page code has.bytes here j.to j.jump in
        let from = jump_within laws page code has.bytes here j.to j.jump in
        let to = new_within laws page code has.bytes x.laid (target_of (place + len) by) j.to j.at in
        let leads = jump_leads t.eip here j.to p.places.is (omega (arith, from, x.laid.few)) (omega (arith, to, x.laid.few)) in
        jump_alike laws code_start x.high (IsBefore x) old new s t p.memory p.buffer p.same by len _ 5 (old_at (Some (Jmp by, len)) e) (new_at _ stands) (after_jump s.eip t.eip here by len p.places.is e j _ leads)

    step_by : (j : Judgement) → Stood place (drop place page) j → StandsFor page code x.laid.table place here j → Alike Nearly (next old s) (next new t)
    step_by _ (by_none e) st = step_none e st
    step_by _ (by_mov to from len e k) st = step_mov to from len e k st
    step_by _ (by_call len e) st = step_call len e st
    step_by _ (by_jump by len e) st = step_jump by len e st
    step_by _ (by_first b e k) st = absurd st
    step_by _ (by_constant to from len e k) st = absurd st

    nearly_step : Alike Nearly (next old s) (next new t)
    nearly_step =
        step_by (judged_at page place) (stood_as laws.equations place (drop place page) (judged_at page place) refl) (stands_for page code x.laid place here (judged_at page place) p.places.at refl)

  -- ---- one step of the old machine is one or two of the new one
  abbrev source : State → Move State
  source = machine old

  abbrev target : State → Move State
  target = machine new

  abbrev Related : State → State → Type 0
  Related = Paired {P = Pair x} (λ p. p.old) (λ p. p.new)

  paired : (s t : State) → Both s t → Related s t
  paired s t p = (record { old = s; new = t; beside = p }, refl, refl)

  -- after the second's step, it is at the new place, or a jump to that stands there
  module _ (runs : RunLaws State) (s t : State) where
    gone : (ls : List Label) (u v : State) → next new t ≡ Go ls v → Nearly u v → Simulates target Fits SameEvents Related 2 0 (Go (Turn s.eip ∷ ls) u) t
    gone ls u v e p = on p.places.on
      where
        one : Goes target t 1 (Turn t.eip ∷ ls) v
        one = runs.goes_step target t (Turn t.eip ∷ ls) v (ap (marked t.eip) e)

        on : Continues code x.laid.table p.places.new (place_of u.eip) → Simulates target Fits SameEvents Related 2 0 (Go (Turn s.eip ∷ ls) u) t
        on (inl at) = record {
          steps = 1;
          few = omega arith;
          trace = Turn t.eip ∷ ls;
          state = v;
          fits = refl;
          goes = one;
          related = paired u v (at_places code_start x.high (IsBefore x) (IsNew x) u v p (record { new = p.places.new; at = at; is = p.places.is }));
        }
        on (inr j) =
            let f : IsForgotten v = laws.states.step_forgets new t v ls e in
            let stands = ap new p.places.is ∙ new_jump laws page code has.bytes p.places.new j.to j.jump in
            let from = jump_within laws page code has.bytes p.places.new j.to j.jump in
            let to = new_within laws page code has.bytes x.laid (place_of u.eip) j.to j.at in
            let leads = jump_leads v.eip p.places.new j.to p.places.is (omega (arith, from, x.laid.few)) (omega (arith, to, x.laid.few)) in
            let w : State = jumped v f (v.eip + 5 + _) in
            let more : Goes target v 1 (Turn v.eip ∷ []) w = runs.goes_step target v (Turn v.eip ∷ []) w (ap (marked v.eip) (jump_goes laws.steps new v f _ 5 stands)) in
            record {
              steps = 2;
              few = omega arith;
              trace = (Turn t.eip ∷ ls) ++ (Turn v.eip ∷ []);
              state = w;
              fits = events-turn ls v.eip;
              goes = runs.goes_then target t 1 (Turn t.eip ∷ ls) v 1 (Turn v.eip ∷ []) w one more;
              related = paired u w (beside_jumped laws.memory code_start x.high (IsBefore x) (IsNew x) u v f _ p (record { new = j.to; at = j.at; is = leads }));
            }

    simulated : (m n : Move State) → next old s ≡ m → next new t ≡ n → Alike Nearly m n → Simulates target Fits SameEvents Related 2 0 (marked s.eip m) t
    simulated _ _ d e (stands ls end own) =
        record { steps = 0; few = omega arith; fits = rw (runs.run_stand target t ls end (ap (marked t.eip) e) 0) (record { same_events = refl; same_end = λ z. ap Some (sym own) }) }
    simulated _ _ d e (goes ls u v p) = gone ls u v e p
    simulated _ _ d e (halts ls end own) = (
      record { steps = 1; few = omega arith; fits = rw (runs.run_halt target t (Turn t.eip ∷ ls) end (ap (marked t.eip) e) 0) (record { same_events = refl; same_end = λ z. ap Some (sym own) }) },
      runs.rest_halt target t (Turn t.eip ∷ ls) end (ap (marked t.eip) e),
    )

  pub one_step : RunLaws State → (p : Pair x) → Simulates target Fits SameEvents Related 2 0 (source p.old) p.new
  one_step runs p = simulated runs p.old p.new (next old p.old) (next new p.new) refl refl (nearly_step p.old p.new p.beside)
