-- What a machine that started with a program did, in terms of the program's run.
use Rattle.std.proofs.Common.{◌≡◌, ℕ, List, [], ◌++◌, None, Result, Ok, Err, refl, sym, ap, ◌∙◌, subst, append-nil, add-zero}
use Rattle.std.specs.declared.alloc.AllocError.{AllocError}
use Rattle.outside.specs.declared.answer.Answer.{Answer}
use Rattle.traces.specs.Trace.{IsPrefix, seen, run}
use Rattle.traces.specs.RunLaws.{RunLaws}
use Rattle.image.specs.declared.image.Image.{Image}
use Rattle.mem_pages.specs.declared.end.RunEnd.{RunEnd}
use Rattle.mem_pages.specs.declared.end.RunEnd.TheVariants.{Exited, MemoryFault, DivideFault, Outside, OtherCall, Unspecified, Spent}
use Rattle.x86_code.specs.Code.{code_of}
use Rattle.x86_meaning.specs.Step.{State}
use Rattle.x86_meaning.specs.Run.{machine, run_from, start_of}
use Rattle.sw_host.specs.Told.{Told}
use Rattle.sw_host.specs.Calls.{called}
use Rattle.system_calls.specs.Given.{environment, HasGiven}
use Rattle.x86_machine.specs.declared.machine.Machine.{Machine}
use Rattle.x86_machine.specs.Standing.{StandsAtStart, code_in, state_in, ended_in}
use Rattle.x86_machine.specs.Running.{GoesOn, HasEnded, IsSpent, Runs, RunsFrom}
use Rattle.sw_top.specs.declared.command.Running.{Running}
use Rattle.sw_top.specs.Stacks.{first_esp, start_stack}
use Rattle.sw_top.specs.Running.{run_over, IsProgram, RunsProgram, StopsInRun}

-- a call that was counted leaves the input
left_called : (a : Told) → (called a).left ≡ a.left
unfolding called
left_called a = refl

module _ (laws : RunLaws State) (running : Running) (image : Image) (m n : Machine) (start : StandsAtStart image (first_esp running.words) (start_stack running.words) m) (a c b : Told) (after : c ≡ called a) where
  -- the machine's run is the program's
  same_environment : (answers : List Answer) → environment c answers ≡ environment a answers
  same_environment answers = ap (λ left. record { input = left; answers = answers }) (ap (λ t. t.left) after ∙ left_called a)

  same_run : (answers : List Answer) → run_from (code_in m) (state_in m (environment c answers)) ≡ run_over image running.words a answers
  same_run answers =
      ap (λ code. run_from code (state_in m (environment c answers))) start.code
      ∙ ap (run_from (code_of image)) (start.state (environment c answers) ∙ ap (λ left. start_of image (first_esp running.words) (start_stack running.words) left) (same_environment answers))

  same_steps : (answers : List Answer) (k : ℕ) → run_from (code_in m) (state_in m (environment c (answers ++ []))) k ≡ run_over image running.words a answers k
  same_steps answers k = ap (λ r. r k) (same_run (answers ++ [])) ∙ ap (λ xs. run_over image running.words a xs k) (append-nil answers)

  -- it ended
  ended : (end : RunEnd) → IsProgram running a image → HasEnded running.steps end m n c b → RunsProgram running end a b
  ended end program h = record {
    image = image;
    is_program = program;
    answers = h.answers;
    labels = h.labels;
    run = sym (same_steps h.answers running.steps) ∙ h.run [];
    host = subst (λ t. HasGiven h.answers 0 h.labels t b) after h.host;
  }

  -- it didn't, within the steps, all of which it made
  spent_seen : (g : GoesOn running.steps 0 m n c b) → (run_from (code_in m) (state_in m (environment c (g.answers ++ []))) running.steps).end ≡ None → run_from (code_in m) (state_in m (environment c (g.answers ++ []))) running.steps ≡ seen g.labels None
  unfolding run_from
  spent_seen g e =
      let s = state_in m (environment c (g.answers ++ [])) in
      let reached = laws.running_reaches (machine (code_in m)) s running.steps e in
      let once = laws.reaches_once (machine (code_in m)) s running.steps _ _ _ _ reached.1 (g.reaches []) in
      ap (λ ls. seen ls (run (machine (code_in m)) s running.steps).end) once.0 ∙ ap (seen g.labels) e

  spent : IsProgram running a image → IsSpent running.steps m n c b → RunsProgram running Spent a b
  spent program h = record {
    image = image;
    is_program = program;
    answers = h.goes_on.answers;
    labels = h.goes_on.labels;
    run = sym (same_steps h.goes_on.answers running.steps) ∙ spent_seen h.goes_on (h.run []);
    host = subst (λ t. HasGiven h.goes_on.answers 0 h.goes_on.labels t b) after h.goes_on.host;
  }

  runs : (end : RunEnd) → IsProgram running a image → Runs running.steps (Ok end) m n c b → RunsProgram running end a b
  runs Spent program h = spent program h
  runs (Exited status) program h = ended (Exited status) program h
  runs MemoryFault program h = ended MemoryFault program h
  runs DivideFault program h = ended DivideFault program h
  runs Outside program h = ended Outside program h
  runs (OtherCall number) program h = ended (OtherCall number) program h
  runs Unspecified program h = ended Unspecified program h

  fresh : (result : Result RunEnd AllocError) → RunsFrom (ended_in m) running.steps result m n c b → Runs running.steps result m n c b
  fresh result h = subst (λ o. RunsFrom o running.steps result m n c b) start.ended h

  pub ran : (end : RunEnd) → IsProgram running a image → RunsFrom (ended_in m) running.steps (Ok end) m n c b → RunsProgram running end a b
  ran end program h = runs end program (fresh (Ok end) h)

  -- it stopped for want of memory
  shown : (k : ℕ) (more : ℕ) (g : GoesOn k more m n c b) (rest : List Answer) → IsPrefix g.labels (run_from (code_in m) (state_in m (environment c (g.answers ++ rest))) k).trace
  unfolding run_from
  shown k more g rest =
      let s = state_in m (environment c (g.answers ++ rest)) in
      let t = state_in n (environment b rest) in
      let e = laws.reaches_run (machine (code_in m)) s k g.labels t (g.reaches rest) 0 in
      let at = ap (run (machine (code_in m)) s) (add-zero k) in
      ((run (machine (code_in m)) t 0).trace, ap (λ r. r.trace) (sym at ∙ e))

  pub stopped : (error : AllocError) → IsProgram running a image → RunsFrom (ended_in m) running.steps (Err error) m n c b → StopsInRun running a b
  stopped error program h =
      let stop = fresh (Err error) h in
      let g = stop.3 in
      record {
        image = image;
        is_program = program;
        answers = g.answers;
        labels = g.labels;
        more = stop.1;
        steps = stop.0;
        within = stop.2;
        run = λ rest. subst (λ r. IsPrefix g.labels r.trace) (ap (λ r. r stop.0) (same_run (g.answers ++ rest))) (shown stop.0 stop.1 g rest);
        host = subst (λ t. HasGiven g.answers stop.1 g.labels t b) after g.host;
      }
