-- The store of an effect, and how a step is finished.
use Rattle.std.proofs.Common.{◌≡◌, ℕ, zero, suc, ◌+◌, ◌&&◌, Bool, true, false, [], Option, Some, None, Result, Ok, Err, take, length, refl, sym, ap, ◌∙◌}
use Rattle.outside.specs.Environment.{Environment}
use Rattle.traces.specs.Trace.{Move, Go, Halt}
use Rattle.traces.specs.Trace as trace
use Rattle.x86_values.specs.declared.word.Word.{Word}
use Rattle.x86_values.specs.Words.{known, word_list}
use Rattle.memory.specs.Memory.{Memory, Place, Load, Store, allows, allows_all, put_all, store_all, wrapped, forget_below}
use Rattle.mem_pages.specs.declared.pages.Pages.{Pages}
use Rattle.mem_pages.specs.declared.fault.PageFault.{PageFault}
use Rattle.mem_pages.specs.declared.fault.PageFault.TheVariants as fault
use Rattle.mem_pages.specs.Contents.{memory_in}
use Rattle.mem_pages.specs.Accesses.{KeepsPages, IsStored, Stores}
use Rattle.x86_meaning.specs.declared.state.Cpu.{Cpu}
use Rattle.x86_meaning.specs.Outcomes as outcomes
use Rattle.x86_meaning.specs.Outcomes.{Falls, JumpsBy, JumpsTo, Repeats, Calls}
use Rattle.x86_meaning.specs.Step.{State, settled, settled_by, finish, by_stores, performed}
use Rattle.x86_step.specs.declared.operand.Size.{Size}
use Rattle.x86_step.specs.declared.operand.Size.TheVariants as size
use Rattle.x86_step.specs.declared.effect.Stored.{Stored}
use Rattle.x86_step.specs.declared.effect.Effect.{Effect}
use Rattle.x86_step.specs.Transferred.{bytes_in_size}
use Rattle.x86_step.specs.Computed.{way_of}
use Rattle.x86_step.specs.Judged.{store_allowed, stores_of, effect_seen, eip_after}
use Rattle.x86_step.specs.Steps.{registers_of, state_of}
use Rattle.x86_step.specs.Finishing.{is_call, StoresIf, HaltsBy, rest_of_step}

pub keeps_itself : (p : Pages) → KeepsPages p p
keeps_itself p = record { kept = λ a h. h }

pub no_bytes : (at : ℕ) (p : Pages) → IsStored at [] p p
unfolding allows_all put_all
no_bytes at p = record { allowed = refl; memory = refl }

-- what can be written is mapped
place_allows : (o : Option Place) → allows Load o ≡ false → allows Store o ≡ false
place_allows None h = refl
place_allows (Some p) h = cc

both_false : (a b c d : Bool) → (a ≡ false → c ≡ false) → (b ≡ false → d ≡ false) → (a && b) ≡ false → (c && d) ≡ false
both_false true b true d f g h = g h
both_false true b false d f g h = refl
both_false false b c d f g h = rw (f refl) refl

pub unmapped : (m : Memory) (at n : ℕ) → allows_all Load m at n ≡ false → allows_all Store m at n ≡ false
unfolding allows_all
unmapped m at zero h = cc
unmapped m at (suc n) h = both_false (allows Load (m (wrapped at))) (allows_all Load m (at + 1) n) (allows Store (m (wrapped at))) (allows_all Store m (at + 1) n) (place_allows (m (wrapped at))) (unmapped m (at + 1) n) h

sized : (s : Size) (w : Word) (P : ℕ → Type 0) → P (length (take (bytes_in_size s) (word_list w))) → P (bytes_in_size s)
sized size.Zero w P h = h
sized size.One w P h = h
sized size.Two w P h = h
sized size.Four w P h = h

pub stores_if : (s : Stored) (r : Result (Unit {0}) PageFault) (p q : Pages) → Stores s.at (bytes_in_size s.size) s.word r p q → StoresIf (Some s) r p q
stores_if s (Ok _) p q h = (sized s.size s.word (λ n. allows_all Store (memory_in p) s.at n ≡ true) h.allowed, h.memory)
stores_if s (Err fault.NotMapped) p q h = (unmapped (memory_in p) s.at (bytes_in_size s.size) h.0, h.1)
stores_if s (Err fault.NotWritable) p q h = (h.1, h.2)
stores_if s (Err fault.Memory) p q h = h.1

pub no_size : (at : ℕ) (s : Size) (w : Word) (p : Pages) → s ≡ size.Zero → IsStored at (take (bytes_in_size s) (word_list w)) p p
no_size at s w p e = rw e (no_bytes at p)

-- ---- the finish
-- a step that makes no call is finished at its next address
finish_settles : (w : outcomes.Way) (next : ℕ) (s : State) → is_call w ≡ false → finish w next s ≡ settled_by (known (s.cpu.regs 4)) [] (record s { eip = eip_after w s.eip next })
unfolding finish settled
finish_settles Falls next s h = refl
finish_settles (JumpsBy by) next s h = refl
finish_settles (JumpsTo target) next s h = refl
finish_settles Repeats next s h = refl
finish_settles Calls next s h = cc

rest_settles : (e : Effect) (len : ℕ) (c : Cpu) (m : Memory) (left : Environment) → is_call (way_of e.way) ≡ false → store_allowed e.store m ≡ true
    → rest_of_step e len c m left ≡ settled_by (known (registers_of e.regs 4)) [] (record (performed (effect_seen e) (state_of c m left)) { eip = eip_after (way_of e.way) c.eip (c.eip + len) })
rest_settles e len c m left h k = ap (λ b. by_stores b (effect_seen e) (c.eip + len) (state_of c m left)) k ∙ finish_settles (way_of e.way) (c.eip + len) (performed (effect_seen e) (state_of c m left)) h

pub ends_unspecified : (e : Effect) (len : ℕ) (c : Cpu) (m : Memory) → is_call (way_of e.way) ≡ false → store_allowed e.store m ≡ true → known (registers_of e.regs 4) ≡ None → HaltsBy (rest_of_step e len c m) trace.Unspecified c m c m
ends_unspecified e len c m h k u = record { halts = λ left. rest_settles e len c m left h k ∙ ap (λ o. settled_by o [] (record (performed (effect_seen e) (state_of c m left)) { eip = eip_after (way_of e.way) c.eip (c.eip + len) })) u; cpu = refl; memory = refl }

pub goes_on : (e : Effect) (len : ℕ) (c : Cpu) (m n : Memory) (esp eip : ℕ) → is_call (way_of e.way) ≡ false → store_allowed e.store m ≡ true → known (registers_of e.regs 4) ≡ Some esp
    → eip ≡ eip_after (way_of e.way) c.eip (c.eip + len) → n ≡ forget_below esp (store_all (stores_of e.store) m)
    → (left : Environment) → rest_of_step e len c m left ≡ Go [] (state_of (record { regs = e.regs; flags = e.flags; eip = eip }) n left)
goes_on e len c m n esp eip h k u a b left = rest_settles e len c m left h k ∙ (ap (λ o. settled_by o [] (record (performed (effect_seen e) (state_of c m left)) { eip = eip_after (way_of e.way) c.eip (c.eip + len) })) u ∙ (let f : ℕ → Memory → Move State = λ x y. Go [] (state_of (record { regs = e.regs; flags = e.flags; eip = x }) y left) in ap (λ x. f x (forget_below esp (store_all (stores_of e.store) m))) (sym a) ∙ ap (λ y. f eip y) (sym b)))
