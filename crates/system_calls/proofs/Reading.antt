-- What the calls of read and write come to, by what the host did.
use Rattle.std.proofs.Common.{◌≡◌, ℕ, ◌+◌, ◌^◌, ◌≤◌, ◌==◌, ◌&&◌, Bool, true, false, cond, leb, List, [], ◌∷◌, ◌++◌, length, map, take, drop, min, refl, sym, ap, ◌∙◌, subst, rules, arith, Result, Ok, Err, Option, Some, None}
use Rattle.std.proofs.lemmas.Bool.{leb-true}
use Rattle.std.proofs.lemmas.List.{length-take-le, take-append-le, take_all}
use Rattle.std.specs.declared.alloc.AllocError.{AllocError}
use Rattle.outside.specs.declared.answer.Answer.{Answer}
use Rattle.outside.specs.declared.answer.Answer.TheVariants.{Take, Fail}
use Rattle.outside.specs.Environment.{Environment, next_answer}
use Rattle.traces.specs.Trace.{Label, Took, Made, Read, Write, End, Unspecified}
use Rattle.x86_values.specs.declared.byte.Byte.TheVariants.{Known}
use Rattle.outside.specs.Environment.{cap}
use Rattle.memory.specs.Memory.{Memory, Store, allows_all, put_all}
use Rattle.memory.specs.SystemCall.{Called, Ends, Gives, Plan, Refused, Stops, Asks, error, read_by, write_by, reads, writes, read_call, write_call, read_plan, write_plan, passes, EBADF, EFAULT}
use Rattle.sw_host.specs.Told.{Told}
use Rattle.sw_host.specs.Calls.{called, with_answer, with_taken, with_moved, Takes, Puts}
use Rattle.system_calls.specs.Given.{HasGiven, environment}
use Rattle.system_calls.specs.declared.outcome.CallOutcome.{CallOutcome}
use Rattle.system_calls.specs.Making.{EndsRun, GivesResult, CallWantsMemory, Makes}
use Rattle.system_calls.proofs.Kept.{each_allowed, all_allowed}
use Rattle.system_calls.proofs.Giving.{gives_nothing, gives_no_read, gives_no_write, gives_no_answer, gives_taken, gives_no_input, gives_moved}

-- ---- whatever the call
-- the host wasn't called
pub wants_memory : (m n : Memory) (a : Told) → n ≡ m → CallWantsMemory m n a a
wants_memory m n a h = record { memory = h; calls = 0; host = gives_nothing a }

-- its call gave no answer
pub wants_memory_after : (m n : Memory) (a b : Told) → n ≡ m → b ≡ called a → CallWantsMemory m n a b
wants_memory_after m n a b h e = record { memory = h; calls = 1; host = (rw e (gives_no_answer a)) }

-- the run ends
pub ends_run : (call : Environment → Called) (end : End) (m : Memory) (a : Told) → ((left : Environment) → call left ≡ Ends end) → EndsRun call end m m a a
ends_run call end m a h = record { ends = λ answers. h (environment a answers); memory = refl; host = refl }

-- ---- read
pub read_refused : (fd at count result : ℕ) (m : Memory) (a : Told) → read_plan m fd at count ≡ Refused result → GivesResult (λ left. read_call fd at count m left) result m m a a
unfolding read_call
read_refused fd at count result m a h = record {
  answers = [];
  labels = Made (Read fd [] result) ∷ [];
  stores = [];
  gives = λ rest. ap (λ p. reads p fd at (environment a rest)) h;
  memory = refl;
  host = gives_no_read fd result a;
}

-- what a read comes to that asks for so many bytes
pub asked_result : (fd at count room : ℕ) (m n : Memory) (a b : Told) (result : Result CallOutcome AllocError) → read_plan m fd at count ≡ Asks room → Makes (λ left. read_by (next_answer left.answers) fd at room left) result m n a b → Makes (λ left. read_call fd at count m left) result m n a b
unfolding read_call
asked_result fd at count room m n a b result h made =
    let same : (λ (left : Environment). read_by (next_answer left.answers) fd at room left) ≡ (λ left. read_call fd at count m left) = λ i left. ap (λ p. reads p fd at left) (sym h) i in
    let P : (Environment → Called) → Type 0 = λ call. Makes call result m n a b in
    subst P same made

both_left : (a b : Bool) → a && b ≡ true → a ≡ true
both_left true b h = refl
both_left false b h = h

both_right : (a b : Bool) → a && b ≡ true → b ≡ true
both_right true b h = h
both_right false b h = cc

asks_if : (x y z : Bool) (k r s t room : ℕ) → cond x (cond y (Refused r) (cond z (Asks k) (Refused s))) (Refused t) ≡ Asks room → (z ≡ true) × (k ≡ room)
asks_if true true z k r s t room h = cc
asks_if true false true k r s t room h = (refl, cc)
asks_if true false false k r s t room h = cc
asks_if false y z k r s t room h = cc

-- a read asks for bytes that it can store
pub asks_for_room : (fd at count room : ℕ) (m : Memory) → read_plan m fd at count ≡ Asks room → (allows_all Store m at room ≡ true) × (at + room ≤ 2 ^ 32)
asks_for_room fd at count room m h =
    let asks = asks_if (fd == 0) (count == 0) (passes Store m at count) (min count cap) 0 (error EFAULT) (error EBADF) room h in
    let within : at + count ≤ 4294967296 = leb-true _ _ (both_left _ _ asks.0) in
    let least : min count cap ≡ room = asks.1 in
    let few : room ≤ count = grind arith in
    let allowed : allows_all Store m at count ≡ true = both_right _ _ asks.0 in
    (all_allowed Store m at room (λ k l. each_allowed Store m at count k allowed (omega arith)), omega arith)

-- the host gave the first k bytes of its input, and they were stored
pub read_taken : (fd at room k : ℕ) (before now : List ℕ) (m n : Memory) (a b : Told) → length before ≡ room → n ≡ put_all at (map Known (take k now)) m → Takes before now (Ok (Take k)) a b → GivesResult (λ left. read_by (next_answer left.answers) fd at room left) k m n a b
unfolding with_taken called
read_taken fd at room k before now m n a b same e t =
    let few : k ≤ length before = t.0 in
    let fits : length (take k a.left) ≡ k = length-take-le k a.left t.1 in
    let whole : k ≤ length (take k a.left) = omega (arith, fits) in
    let within : length (take k a.left) ≤ k = omega (arith, fits) in
    let front : take k now ≡ take k a.left = ap (take k) t.2 ∙ take-append-le k (take k a.left) (drop k before) whole ∙ take_all k (take k a.left) within in
    let least : min k room ≡ k = grind arith in
    let shown : List Answer → ℕ → ℕ → Called =
    λ rest j l.
    Gives (Took ∷ Made (Read fd (take j a.left) l) ∷ []) l (record { at = at; bytes = map Known (take j a.left) } ∷ []) (record { input = drop j a.left; answers = rest })
    in
    record {
      answers = Take k ∷ [];
      labels = Took ∷ Made (Read fd (take k a.left) k) ∷ [];
      stores = record { at = at; bytes = map Known (take k a.left) } ∷ [];
      gives = λ rest.
          ap (λ j. shown rest j (length (take j a.left))) least
          ∙ ap (shown rest k) fits
          ∙ ap (λ (c : Told). Gives (Took ∷ Made (Read fd (take k a.left) k) ∷ []) k (record { at = at; bytes = map Known (take k a.left) } ∷ []) (environment c rest)) (sym t.3);
      memory = e ∙ ap (λ bs. put_all at (map Known bs) m) front;
      host = rw t.3 (gives_taken k fd k a t.1);
    }

-- the host answered with an error
pub read_failed : (fd at room e result : ℕ) (before now : List ℕ) (m n : Memory) (a b : Told) → n ≡ m → result ≡ error e → Takes before now (Ok (Fail e)) a b → GivesResult (λ left. read_by (next_answer left.answers) fd at room left) result m n a b
unfolding with_answer called
read_failed fd at room e result before now m n a b h is t = rw is (record {
  answers = Fail e ∷ [];
  labels = Took ∷ Made (Read fd [] (error e)) ∷ [];
  stores = [];
  gives = λ rest. ap (λ (c : Told). Gives (Took ∷ Made (Read fd [] (error e)) ∷ []) (error e) [] (environment c rest)) (sym t.1);
  memory = h;
  host = rw t.1 (gives_no_input e fd (error e) a);
})

-- ---- write
pub write_refused : (fd at count result : ℕ) (m : Memory) (a : Told) → write_plan m fd at count ≡ Refused result → GivesResult (λ left. write_call fd at count m left) result m m a a
unfolding write_call
write_refused fd at count result m a h = record {
  answers = [];
  labels = Made (Write fd [] result) ∷ [];
  stores = [];
  gives = λ rest. ap (λ p. writes p fd (environment a rest)) h;
  memory = refl;
  host = gives_no_write fd result a;
}

pub write_stopped : (fd at count : ℕ) (m : Memory) (a : Told) → write_plan m fd at count ≡ Stops → EndsRun (λ left. write_call fd at count m left) Unspecified m m a a
unfolding write_call
write_stopped fd at count m a h = ends_run (λ left. write_call fd at count m left) Unspecified m a (λ left. ap (λ p. writes p fd left) h)

-- the host moved the first k bytes
pub write_moved : (fd at count k : ℕ) (bytes : List ℕ) (m : Memory) (a b : Told) → write_plan m fd at count ≡ Asks bytes → Puts fd bytes (Ok (Take k)) a b → GivesResult (λ left. write_call fd at count m left) k m m a b
unfolding write_call with_moved called
write_moved fd at count k bytes m a b h t =
    let fits : length (take k bytes) ≡ k = length-take-le k bytes t.0 in
    record {
      answers = Take k ∷ [];
      labels = Took ∷ Made (Write fd (take k bytes) k) ∷ [];
      stores = [];
      gives = λ rest.
          ap (λ p. writes p fd (environment a (Take k ∷ rest))) h
          ∙ ap (λ l. Gives (Took ∷ Made (Write fd (take k bytes) l) ∷ []) l [] (record { input = a.left; answers = rest })) fits
          ∙ ap (λ (c : Told). Gives (Took ∷ Made (Write fd (take k bytes) k) ∷ []) k [] (environment c rest)) (sym t.1);
      memory = refl;
      host = rw t.1 (gives_moved (Take k) fd k (take k bytes) a);
    }

-- the host answered with an error
pub write_failed : (fd at count e result : ℕ) (bytes : List ℕ) (m : Memory) (a b : Told) → write_plan m fd at count ≡ Asks bytes → result ≡ error e → Puts fd bytes (Ok (Fail e)) a b → GivesResult (λ left. write_call fd at count m left) result m m a b
unfolding write_call with_moved called
write_failed fd at count e result bytes m a b h is t = rw is (record {
  answers = Fail e ∷ [];
  labels = Took ∷ Made (Write fd [] (error e)) ∷ [];
  stores = [];
  gives = λ rest.
      ap (λ p. writes p fd (environment a (Fail e ∷ rest))) h
      ∙ ap (λ (c : Told). Gives (Took ∷ Made (Write fd [] (error e)) ∷ []) (error e) [] (environment c rest)) (sym t);
  memory = refl;
  host = rw t (gives_moved (Fail e) fd (error e) [] a);
})
