-- System calls, and operations over a host that tells.
use Rattle.std.proofs.Common.{◌≡◌, ℕ, true, false, List, [], ◌++◌, Option, Some, None, Result, Ok, Err, refl, sym, ap, ◌∙◌, subst}
use Rattle.std.specs.declared.alloc.AllocError.{AllocError}
use Rattle.outside.specs.declared.answer.Answer.{Answer}
use Rattle.outside.specs.Environment.{Environment}
use Rattle.x86_values.specs.declared.word.Word.{Word}
use Rattle.x86_values.specs.Words.{word_of}
use Rattle.traces.specs.Trace.{End}
use Rattle.memory.specs.Memory.{Memory}
use Rattle.memory.specs.SystemCall.{Request, Called, Gives, system_call}
use Rattle.mem_pages.specs.Ends.{end_of_run}
use Rattle.mem_pages.specs.declared.end.RunEnd.{RunEnd}
use Rattle.sw_host.specs.Told.{Told, Tells}
use Rattle.sw_host.specs.Chains.{tells_none, tells_map}
use Rattle.system_calls.specs.declared.outcome.CallOutcome.{CallOutcome}
use Rattle.system_calls.specs.declared.outcome.CallOutcome.TheVariants as outcome
use Rattle.system_calls.specs.Given.{environment}
use Rattle.system_calls.specs.Making.{EndsAs, GivesResult, Makes}
use Rattle.flag_ir.specs.declared.variable.Var.TheVariants as var
use Rattle.flag_ir.specs.declared.operation.Op.{Op}
use Rattle.flag_ir.specs.declared.operation.Op.TheVariants as op
use Rattle.flag_ir.specs.Storage.{Storage, put_word}
use Rattle.flag_ir.specs.Operations.{request_in, called, labels_of, call_in, perform, shown_by}
use Rattle.flag_ir.specs.Form.{IsFrameless}
use Rattle.unit_machine.specs.declared.values.Values.{Values}
use Rattle.unit_machine.specs.Standing.{storage_of, Puts}
use Rattle.unit_machine.specs.Computing.{is_system, Computes}
use Rattle.unit_machine.specs.Performing.{GoesBy, EndsBy, PerformsOp}
use Rattle.unit_machine.proofs.Giving.{gives_none}

-- ---- a call
module _ (v : Values) (m : Memory) (q : Request) (is : (left : Environment) → q ≡ request_in (storage_of v m left)) where
  called_by : (left : Environment) → call_in (storage_of v m left) ≡ system_call q m left
  called_by left = ap (λ (r : Request). system_call r m left) (sym (is left))

  ends_so : (end : RunEnd) (o : Option End) (n : Memory) (a b : Told) → end_of_run end ≡ o → EndsAs o (system_call q m) m n a b → EndsBy op.System end v m a b
  unfolding perform
  ends_so end None n a b last h = absurd h
  ends_so end (Some e) n a b last h = record {
    last = e;
    is_last = last;
    ends = λ turn rest. let u = storage_of v m (environment a rest) in ap (λ (c : Called). called c u) (called_by (environment a rest) ∙ h.ends rest);
    host = h.host;
  }

  goes_so : (result : ℕ) (n : Memory) (w : Values) (word : Word) (a b : Told) → word ≡ word_of result → Puts (var.Reg 0) word v w → GivesResult (system_call q m) result m n a b → GoesBy op.System v m w n a b
  unfolding perform
  goes_so result n w word a b same puts g =
      let by : (rest : List Answer) → call_in (storage_of v m (environment a (g.answers ++ rest))) ≡ Gives g.labels result g.stores (environment b rest) = λ rest. called_by (environment a (g.answers ++ rest)) ∙ g.gives rest in
      record {
        answers = g.answers;
        labels = g.labels;
        goes = λ turn rest. let u = storage_of v m (environment a (g.answers ++ rest)) in
            ap (λ (c : Called). called c u) (by rest) ∙ ap (λ (k : Memory). Ok (record u { regs = put_word 0 (word_of result) u.regs; memory = k; left = environment b rest })) (sym g.memory)
            ∙ ap (λ (x : Word). Ok (record u { regs = put_word 0 x u.regs; memory = n; left = environment b rest })) (sym same) ∙ ap Ok (sym (puts n (environment b rest)));
        shows = λ rest. ap labels_of (by rest);
        host = g.host;
      }

  module _ (o p : Option Told) (n : Memory) where
    pub tells_wanting : (e : AllocError) → Tells o p (Makes (system_call q m) (Err e) m n) → Tells o p (PerformsOp op.System (Err e) v m v n)
    tells_wanting e t = tells_map o p (Makes (system_call q m) (Err e) m n) (PerformsOp op.System (Err e) v m v n) t (λ a b w. record { calls = w.calls; host = w.host })

    pub tells_ended : (r : CallOutcome) (end : RunEnd) → r ≡ outcome.Ended end → Tells o p (Makes (system_call q m) (Ok r) m n) → Tells o p (PerformsOp op.System (Ok (Some end)) v m v n)
    tells_ended r end e t =
        let at : Tells o p (Makes (system_call q m) (Ok (outcome.Ended end)) m n) = subst (λ (x : CallOutcome). Tells o p (Makes (system_call q m) (Ok x) m n)) e t in
        tells_map o p (Makes (system_call q m) (Ok (outcome.Ended end)) m n) (PerformsOp op.System (Ok (Some end)) v m v n) at (λ a b h. ends_so end (end_of_run end) n a b refl h)

    pub tells_returned : (r : CallOutcome) (result : ℕ) (w : Values) (word : Word) → r ≡ outcome.Returned result → word ≡ word_of result → Puts (var.Reg 0) word v w → Tells o p (Makes (system_call q m) (Ok r) m n) → Tells o p (PerformsOp op.System (Ok None) v m w n)
    tells_returned r result w word e same puts t =
        let at : Tells o p (GivesResult (system_call q m) result m n) = subst (λ (x : CallOutcome). Tells o p (Makes (system_call q m) (Ok x) m n)) e t in
        tells_map o p (GivesResult (system_call q m) result m n) (PerformsOp op.System (Ok None) v m w n) at (λ a b g. goes_so result n w word a b same puts g)

-- ---- operations
pub system_is : (o : Op) → is_system o ≡ true → o ≡ op.System
system_is (op.Set to from) h = absurd (cc h)
system_is (op.Calc to calc left right) h = absurd (cc h)
system_is (op.Forget to) h = absurd (cc h)
system_is (op.Pick to test x y) h = absurd (cc h)
system_is (op.Need from) h = absurd (cc h)
system_is (op.Divide quotient remainder high low by size signed) h = absurd (cc h)
system_is (op.Load to size at) h = absurd (cc h)
system_is (op.Store size at from) h = absurd (cc h)
system_is (op.NearLoad to size at) h = absurd (cc h)
system_is (op.NearStore size at from) h = absurd (cc h)
system_is (op.Get to size offset) h = absurd (cc h)
system_is (op.Put size offset from) h = absurd (cc h)
system_is op.System h = refl
system_is op.NearSystem h = absurd (cc h)

-- one that makes no call and needs no frame shows nothing
shows_none : (o : Op) → is_system o ≡ false → IsFrameless o → (u : Storage) → shown_by o u ≡ []
shows_none (op.Set to from) h f u = refl
shows_none (op.Calc to calc left right) h f u = refl
shows_none (op.Forget to) h f u = refl
shows_none (op.Pick to test x y) h f u = refl
shows_none (op.Need from) h f u = refl
shows_none (op.Divide quotient remainder high low by size signed) h f u = refl
shows_none (op.Load to size at) h f u = refl
shows_none (op.Store size at from) h f u = refl
shows_none (op.NearLoad to size at) h f u = refl
shows_none (op.NearStore size at from) h f u = refl
shows_none (op.Get to size offset) h f u = refl
shows_none (op.Put size offset from) h f u = refl
shows_none op.System h f u = absurd (cc h)
shows_none op.NearSystem h f u = absurd f

computed : (o : Op) (r : Result (Option RunEnd) AllocError) (v : Values) (m : Memory) (w : Values) (n : Memory) → is_system o ≡ false → IsFrameless o → Computes o r v m w n → (a : Told) → PerformsOp o r v m w n a a
computed o (Ok None) v m w n plain frameless h a = record {
  answers = [];
  labels = [];
  goes = λ turn rest. h turn (environment a rest);
  shows = λ rest. shows_none o plain frameless (storage_of v m (environment a rest));
  host = gives_none a;
}
computed o (Ok (Some end)) v m w n plain frameless h a =
    let same : (turn : ℕ) → (h turn).last ≡ (h 0).last = λ turn. let e : Some (h turn).last ≡ Some (h 0).last = sym (h turn).is_last ∙ (h 0).is_last in cc e in
    record { last = (h 0).last; is_last = (h 0).is_last; ends = λ turn rest. (h turn).ends (environment a rest) ∙ ap Err (same turn); host = refl }
computed o (Err e) v m w n plain frameless h a = record { calls = 0; host = gives_none a }

pub tells_computed : (t : Option Told) (o : Op) (r : Result (Option RunEnd) AllocError) (v : Values) (m : Memory) (w : Values) (n : Memory) → is_system o ≡ false → IsFrameless o → Computes o r v m w n → Tells t t (PerformsOp o r v m w n)
tells_computed t o r v m w n plain frameless h = tells_none t (PerformsOp o r v m w n) (λ a. computed o r v m w n plain frameless h a)
