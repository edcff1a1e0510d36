-- Calls over memories that are less specified than others.
use Rattle.std.proofs.Common.{◌≡◌, ℕ, ◌+◌, ◌==◌, ◌&&◌, ◌||◌, Bool, true, false, cond, leb, min, List, [], ◌∷◌, Option, Some, None, refl, ap, subst}
use Rattle.outside.specs.Environment.{Environment, cap, next_answer}
use Rattle.traces.specs.Trace.{End, Exited, MemoryFault, DivideFault, Outside, OtherCall, Unspecified, Guard, Stopped}
use Rattle.x86_values.specs.declared.byte.Byte.{Byte}
use Rattle.x86_values.specs.Words.{known, known_byte, with_number, all_known}
use Rattle.x86_values.specs.LessSpecified.{ByteLessSpecified, BytesLessSpecified}
use Rattle.x86_values.specs.LessSpecifiedLaws as values
use Rattle.memory.specs.Memory.{Memory, AccessKind, Load, Store}
use Rattle.memory.specs.SystemCall.{Request, Called, Ends, Gives, error, EBADF, EFAULT, passes, Refused, Asks, asks_known, writes, write_by, reads, read_call, write_call, exit_call, transfer_call, call_by, system_call}
use Rattle.memory.specs.LessSpecified.{MemoryLessSpecified, RequestLessSpecified, EndLessSpecified, CalledLessSpecified}
use Rattle.memory.proofs.LessSpecified as less

-- what is known on the left is the same on the right
abbrev StaysKnown : {A : Type 0} → Option A → Option A → Type 0
StaysKnown {A} x y = (n : A) → x ≡ Some n → y ≡ Some n

-- ---- outcomes
end_itself : (e : End) (x : Called) → EndLessSpecified e x x
end_itself Unspecified x = tt
end_itself (Exited n) x = refl
end_itself MemoryFault x = refl
end_itself DivideFault x = refl
end_itself Outside x = refl
end_itself (OtherCall n) x = refl
end_itself (Guard k a) x = refl
end_itself (Stopped a) x = refl

pub called_itself : (x : Called) → CalledLessSpecified x x
called_itself (Ends e) = end_itself e (Ends e)
called_itself (Gives ls result stores left) = refl

called_same : (x y : Called) → x ≡ y → CalledLessSpecified x y
called_same x y e = subst (λ (z : Called). CalledLessSpecified x z) e (called_itself x)

either : (t : Bool) (x y u v : Called) → CalledLessSpecified x u → CalledLessSpecified y v → CalledLessSpecified (cond t x y) (cond t u v)
either true x y u v h k = h
either false x y u v h k = k

exit_less : (x y : Option ℕ) → StaysKnown x y → CalledLessSpecified (exit_call x) (exit_call y)
exit_less None y h = tt
exit_less (Some n) y h = rw (h n refl) refl

writes_less : (one filled passing : Bool) (x y : Option (List ℕ)) (fd : ℕ) (left : Environment) → StaysKnown x y → CalledLessSpecified (writes (cond one (cond filled (Refused 0) (cond passing (asks_known x) (Refused (error EFAULT)))) (Refused (error EBADF))) fd left) (writes (cond one (cond filled (Refused 0) (cond passing (asks_known y) (Refused (error EFAULT)))) (Refused (error EBADF))) fd left)
writes_less false filled passing x y fd left h = refl
writes_less true true passing x y fd left h = refl
writes_less true false false x y fd left h = refl
writes_less true false true None y fd left h = tt
writes_less true false true (Some ns) y fd left h = rw (h ns refl) (called_itself (write_by (next_answer left.answers) fd ns left))

-- ---- over two memories
module _ (m n : Memory) (same : MemoryLessSpecified m n) where
  same_passes : (kind : AccessKind) (at count : ℕ) → passes kind m at count ≡ passes kind n at count
  same_passes kind at count = ap (λ t. leb (at + count) 4294967296 && t) (less.allows kind m n at count same)

  read_less : (fd at count : ℕ) (left : Environment) → CalledLessSpecified (read_call fd at count m left) (read_call fd at count n left)
  unfolding read_call
  read_less fd at count left = called_same _ _ (ap (λ t. reads (cond (fd == 0) (cond (count == 0) (Refused 0) (cond t (Asks (min count cap)) (Refused (error EFAULT)))) (Refused (error EBADF))) fd at left) (same_passes Store at count))

module _ (laws : values.LessSpecifiedLaws) where
  number_stays : (b c : Byte) (x y : Option (List ℕ)) → ByteLessSpecified b c → StaysKnown x y → StaysKnown (with_number (known_byte b) x) (with_number (known_byte c) y)
  number_stays b c x y h k ns e = go (known_byte b) x refl refl e
    where
      go : (u : Option ℕ) (v : Option (List ℕ)) → known_byte b ≡ u → x ≡ v → with_number u v ≡ Some ns → with_number (known_byte c) y ≡ Some ns
      go None v p q e = absurd cc
      go (Some a) None p q e = absurd cc
      go (Some a) (Some more) p q e = rw ((laws.same_byte b c a h p).0, k more q) e

  all_stay : (bs cs : List Byte) → BytesLessSpecified bs cs → StaysKnown (all_known bs) (all_known cs)
  unfolding all_known
  all_stay [] [] h ns e = e
  all_stay [] (c ∷ cs) h ns e = absurd cc
  all_stay (b ∷ bs) [] h ns e = absurd h
  all_stay (b ∷ bs) (c ∷ cs) h ns e = number_stays b c (all_known bs) (all_known cs) h.0 (all_stay bs cs h.1) ns e

  module _ (m n : Memory) (same : MemoryLessSpecified m n) (left : Environment) where
    write_less : (fd at count : ℕ) → CalledLessSpecified (write_call fd at count m left) (write_call fd at count n left)
    unfolding write_call
    write_less fd at count = rw (same_passes m n same Load at count) (writes_less (fd == 1 || fd == 2) (count == 0) (passes Load n at count) _ _ fd left (all_stay _ _ (less.bytes m n at (min count cap) same)))

    transfer_less : (call : ℕ → ℕ → ℕ → Memory → Environment → Called) → ((fd at count : ℕ) → CalledLessSpecified (call fd at count m left) (call fd at count n left)) → (fd at count fd2 at2 count2 : Option ℕ) → StaysKnown fd fd2 → StaysKnown at at2 → StaysKnown count count2 → CalledLessSpecified (transfer_call call fd at count m left) (transfer_call call fd2 at2 count2 n left)
    transfer_less call h None at count fd2 at2 count2 p q r = tt
    transfer_less call h (Some fd) None count fd2 at2 count2 p q r = tt
    transfer_less call h (Some fd) (Some at) None fd2 at2 count2 p q r = tt
    transfer_less call h (Some fd) (Some at) (Some count) fd2 at2 count2 p q r = rw (p fd refl, q at refl, r count refl) (h fd at count)

    call_less : (number number2 : Option ℕ) (q r : Request) → StaysKnown number number2 → RequestLessSpecified q r → CalledLessSpecified (call_by number q m left) (call_by number2 r n left)
    call_less None number2 q r stays h = tt
    call_less (Some k) number2 q r stays h =
        let fd : StaysKnown (known q.fd) (known r.fd) = λ i. laws.same_word q.fd r.fd i h.fd in
        let at : StaysKnown (known q.at) (known r.at) = λ i. laws.same_word q.at r.at i h.at in
        let count : StaysKnown (known q.count) (known r.count) = λ i. laws.same_word q.count r.count i h.count in
        rw (stays k refl)
        (either (k == 1) _ _ _ _ (exit_less _ _ (λ i e. (laws.same_byte q.fd.b0 r.fd.b0 i h.fd.b0 e).0))
        (either (k == 3) _ _ _ _ (transfer_less read_call (λ f a c. read_less m n same f a c left) _ _ _ _ _ _ fd at count)
        (either (k == 4) _ _ _ _ (transfer_less write_call write_less _ _ _ _ _ _ fd at count) (called_itself (Ends (OtherCall k))))))

  pub call : (q r : Request) (m n : Memory) (left : Environment) → RequestLessSpecified q r → MemoryLessSpecified m n → CalledLessSpecified (system_call q m left) (system_call r n left)
  unfolding system_call
  call q r m n left h same = call_less m n same left (known q.number) (known r.number) q r (λ i. laws.same_word q.number r.number i h.number) h
