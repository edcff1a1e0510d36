-- What a host gave to two traces, one after another.
use Rattle.std.proofs.Common.{◌≡◌, ℕ, zero, suc, ◌+◌, min, Bool, true, false, List, [], ◌∷◌, ◌++◌, length, refl, sym, ap, ◌∙◌, append_assoc, append-nil, length-append, zero-add, arith}
use Rattle.outside.specs.declared.answer.Answer.{Answer}
use Rattle.traces.specs.Trace.{Label, Turn, Took, Made, Read, Write, taken, input_left}
use Rattle.traces.specs.TraceLaws.{TraceLaws}
use Rattle.sw_host.specs.Told.{Told, last_count}
use Rattle.system_calls.specs.Given.{HasGiven, writes_from, writes_answered, took_after, count_after}

-- the writes of two traces, and whether they end where an answer was taken
writes_from-append : (took : Bool) (ls more : List Label) → writes_from took (ls ++ more) ≡ writes_from took ls ++ writes_from (took_after took ls) more
writes_from-append took [] more = refl
writes_from-append took (Turn a ∷ ls) more = writes_from-append false ls more
writes_from-append took (Took ∷ ls) more = writes_from-append true ls more
writes_from-append took (Made (Read fd bytes result) ∷ ls) more = writes_from-append false ls more
writes_from-append true (Made (Write fd bytes result) ∷ ls) more = ap (λ rest. (fd, bytes) ∷ rest) (writes_from-append false ls more)
writes_from-append false (Made (Write fd bytes result) ∷ ls) more = writes_from-append false ls more

took_after-append : (took : Bool) (ls more : List Label) → took_after took (ls ++ more) ≡ took_after (took_after took ls) more
took_after-append took [] more = refl
took_after-append took (Turn a ∷ ls) more = took_after-append false ls more
took_after-append took (Took ∷ ls) more = took_after-append true ls more
took_after-append took (Made e ∷ ls) more = took_after-append false ls more

writes_answered-append : (ls more : List Label) → took_after false ls ≡ false → writes_answered (ls ++ more) ≡ writes_answered ls ++ writes_answered more
writes_answered-append ls more shown = writes_from-append false ls more ∙ ap (λ took. writes_from false ls ++ writes_from took more) shown

-- a count after some more, and then others
count_after-add : (m n count : ℕ) → count_after (m + n) count ≡ count_after n (count_after m count)
count_after-add zero n count = ap (λ k. count_after k count) (zero-add n)
count_after-add (suc m) n count =
    let e : suc m + n ≡ suc (m + n) = omega arith in
    ap (λ k. count_after k count) e ∙ count_after-add m n (min (count + 1) last_count)

-- what was given to the first, and then to the second
pub gives_then : (laws : TraceLaws) (first second : List Answer) (more : ℕ) (ls ms : List Label) (a b c : Told) → HasGiven first 0 ls a b → HasGiven second more ms b c → HasGiven (first ++ second) more (ls ++ ms) a c
gives_then laws first second more ls ms a b c g h = record {
  given = h.given ∙ ap (λ given. given ++ second) g.given ∙ append_assoc a.given first second;
  taken = laws.taken_append ls ms ∙ ap (λ n. n + taken ms) g.taken ∙ ap (λ n. length first + n) h.taken ∙ sym (length-append first second);
  left = h.left ∙ ap (λ left. input_left left ms) g.left ∙ sym (laws.input_left_append a.left ls ms);
  moved = h.moved ∙ ap (λ moved. moved ++ writes_answered ms) g.moved ∙ append_assoc a.moved (writes_answered ls) (writes_answered ms) ∙ ap (λ w. a.moved ++ w) (sym (writes_answered-append ls ms g.shown));
  shown = took_after-append false ls ms ∙ ap (λ took. took_after took ms) g.shown ∙ h.shown;
  calls =
      let e : length (first ++ second) + more ≡ (length first + 0) + (length second + more) = omega (arith, length-append first second) in
      h.calls ∙ ap (count_after (length second + more)) g.calls ∙ sym (count_after-add (length first + 0) (length second + more) a.calls) ∙ ap (λ n. count_after n a.calls) (sym e);
  files = h.files ∙ g.files;
  lines = h.lines ∙ g.lines;
  failing = h.failing ∙ g.failing;
}

-- nothing was given to no call
pub gives_none : (a : Told) → HasGiven [] 0 [] a a
gives_none a = record { given = sym (append-nil a.given); taken = refl; left = refl; moved = sym (append-nil a.moved); shown = refl; calls = refl; files = refl; lines = refl; failing = refl }

-- a turn begins, and the host isn't asked for it
pub gives_turn : (at : ℕ) (answers : List Answer) (more : ℕ) (ls : List Label) (a b : Told) → HasGiven answers more ls a b → HasGiven answers more (Turn at ∷ ls) a b
gives_turn at answers more ls a b g = record { given = g.given; taken = g.taken; left = g.left; moved = g.moved; shown = g.shown; calls = g.calls; files = g.files; lines = g.lines; failing = g.failing }
