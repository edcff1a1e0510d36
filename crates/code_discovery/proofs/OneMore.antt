-- One thing more is kept.
use Rattle.std.proofs.Common.{◌≡◌, ◌⊎◌, ℕ, ◌≤◌, List, [], ◌∷◌, ◌++◌, length, Contains, Option, Some, refl, sym, subst, inl, inr, arith}
use Rattle.std.proofs.lemmas.Bool.{cases_eq}
use Rattle.std.proofs.lemmas.List.{length_push}
use Rattle.std.proofs.lemmas.List.Elements.{Contains-append_left, Contains-push, Contains-push_cases}
use Rattle.image.specs.declared.image.Image.{Image}
use Rattle.plan_types.specs.declared.table.Table.{Table}
use Rattle.plan_types.specs.FoundCode.{Stands, IsLeader, IsProcedureFrom, IsTableFrom}
use Rattle.code_discovery.specs.declared.work.Work.{Work}
use Rattle.code_discovery.specs.declared.work.Work.TheVariants.{Instruction, Leader}
use Rattle.code_discovery.specs.Tables.{IsPut}
use Rattle.code_discovery.specs.Kept.{FoundSoFar, GivenIn, IsFoundAt, IsLedAt, IsNamedAt, IsWorkKept, IsSoundSoFar}
use Rattle.code_discovery.specs.Added.{IsInserted, with_code, with_leaders, with_procedures, with_tables, IsCodeAdded, IsLeaderAdded, IsProcedureAdded, IsTableAdded}
use Rattle.code_discovery.specs.Settled.{IsAsLong, IsCovered, KeepsFound, IsMore}
use Rattle.code_discovery.proofs.Growth.{as_long_itself, code_still, leader_still, more_then}

-- an address is there, or is one of those before
in_new : (old new : List ℕ) (at : ℕ) → IsInserted old at new → Contains new at
in_new old new at i = (i.members at).1 (inl refl)

in_old : (old new : List ℕ) (at a : ℕ) → IsInserted old at new → Contains old a → Contains new a
in_old old new at a i c = (i.members a).1 (inr c)

-- what is still to be looked at stays so
todo_still : (now : Option Work) (old : List Work) (w v : Work) → Contains old w ⊎ (now ≡ Some w) → Contains (old ++ v ∷ []) w ⊎ (now ≡ Some w)
todo_still now old w v c = elim c [ inl there ↦ inl (Contains-append_left old (v ∷ []) w there) | inr is ↦ inr is ]

-- what is kept stays kept
kept_by : (old new : FoundSoFar) → ((a : ℕ) → Contains old.code a → Contains new.code a) → ((a : ℕ) → Contains old.leaders a → Contains new.leaders a) → (w : Work) → IsWorkKept old w → IsWorkKept new w
kept_by old new code leaders (Instruction a) c = code a c
kept_by old new code leaders (Leader a) c = leaders a c

kept_push : (k : FoundSoFar) (todo : List Work) (v : Work) → ((w : Work) → Contains todo w → IsWorkKept k w) → IsWorkKept k v → (w : Work) → Contains (todo ++ v ∷ []) w → IsWorkKept k w
kept_push k todo v each last w c = elim (Contains-push_cases todo v w c) [ inl old ↦ each w old | inr same ↦ subst (λ (u : Work). IsWorkKept k u) same last ]

module _ (image : Image) (k : FoundSoFar) (sound : IsSoundSoFar image k) where
  -- ---- an instruction
  module _ (at : ℕ) (code : List ℕ) (i : IsInserted k.code at code) (found : IsFoundAt image k.stored at) where
    code_grows : KeepsFound k (with_code k code at)
    code_grows = record { code = λ a c. in_old k.code code at a i c; leaders = λ a c. c; procs = λ a c. c; tables = λ t c. as_long_itself k.tables t c }

    code_more : IsMore image k (with_code k code at)
    code_more = record {
      sound = record {
        code = λ a c. elim ((i.members a).0 c) [ inl same ↦ subst (λ n. IsFoundAt image k.stored n) same found | inr old ↦ sound.code a old ];
        leaders = λ a c. let led = sound.leaders a c in record { leader = led.leader; code = in_old k.code code at a i led.code };
        procs = λ a c. let named = sound.procs a c in record { procedure = named.procedure; leads = named.leads };
        tables = λ t c. sound.tables t c;
        todo = kept_push (with_code k code at) k.todo (Instruction at) (λ w c. kept_by k (with_code k code at) code_grows.code code_grows.leaders w (sound.todo w c)) (in_new k.code code at i);
      };
      grows = code_grows;
      settling = λ now s. record {
        code = λ a c. elim ((i.members a).0 c) [
          | inl same ↦ inr (inl (subst (λ n. Contains (k.todo ++ Instruction at ∷ []) (Instruction n)) same (Contains-push k.todo (Instruction at))))
          | inr old ↦ elim (s.code a old) [
            | inl done ↦ inl (code_still image k (with_code k code at) code_grows a done)
            | inr open_one ↦ inr (todo_still now k.todo (Instruction a) (Instruction at) open_one)
          ]
        ];
        leaders = λ a c. elim (s.leaders a c) [
          | inl done ↦ inl (leader_still image k (with_code k code at) code_grows a done)
          | inr open_one ↦ inr (todo_still now k.todo (Leader a) (Instruction at) open_one)
        ];
      };
      sized = omega (arith, i.size, length_push k.todo (Instruction at));
      stored = refl;
    }

  -- ---- a leader
  module _ (at : ℕ) (leaders : List ℕ) (i : IsInserted k.leaders at leaders) (leader : IsLeader image (GivenIn image k.stored) at) (there : Contains k.code at) where
    leader_grows : KeepsFound k (with_leaders k leaders at)
    leader_grows = record { code = λ a c. c; leaders = λ a c. in_old k.leaders leaders at a i c; procs = λ a c. c; tables = λ t c. as_long_itself k.tables t c }

    its_leader : IsLedAt image (with_leaders k leaders at) at
    its_leader = record { leader = leader; code = there }

    leader_more : IsMore image k (with_leaders k leaders at)
    leader_more = record {
      sound = record {
        code = λ a c. sound.code a c;
        leaders = λ a c. elim ((i.members a).0 c) [
          | inl same ↦ subst (λ n. IsLedAt image (with_leaders k leaders at) n) same its_leader
          | inr old ↦ let led = sound.leaders a old in record { leader = led.leader; code = led.code }
        ];
        procs = λ a c. let named = sound.procs a c in record { procedure = named.procedure; leads = in_old k.leaders leaders at a i named.leads };
        tables = λ t c. sound.tables t c;
        todo = kept_push (with_leaders k leaders at) k.todo (Leader at) (λ w c. kept_by k (with_leaders k leaders at) leader_grows.code leader_grows.leaders w (sound.todo w c)) (in_new k.leaders leaders at i);
      };
      grows = leader_grows;
      settling = λ now s. record {
        code = λ a c. elim (s.code a c) [
          | inl done ↦ inl (code_still image k (with_leaders k leaders at) leader_grows a done)
          | inr open_one ↦ inr (todo_still now k.todo (Instruction a) (Leader at) open_one)
        ];
        leaders = λ a c. elim ((i.members a).0 c) [
          | inl same ↦ inr (inl (subst (λ n. Contains (k.todo ++ Leader at ∷ []) (Leader n)) same (Contains-push k.todo (Leader at))))
          | inr old ↦ elim (s.leaders a old) [
            | inl done ↦ inl (leader_still image k (with_leaders k leaders at) leader_grows a done)
            | inr open_one ↦ inr (todo_still now k.todo (Leader a) (Leader at) open_one)
          ]
        ];
      };
      sized = omega (arith, i.size, length_push k.todo (Leader at));
      stored = refl;
    }

  -- ---- a procedure
  module _ (at : ℕ) (procs : List ℕ) (i : IsInserted k.procs at procs) (procedure : IsProcedureFrom image (GivenIn image k.stored) at) (there : Contains k.leaders at) where
    procedure_grows : KeepsFound k (with_procedures k procs)
    procedure_grows = record { code = λ a c. c; leaders = λ a c. c; procs = λ a c. in_old k.procs procs at a i c; tables = λ t c. as_long_itself k.tables t c }

    its_name : IsNamedAt image (with_procedures k procs) at
    its_name = record { procedure = procedure; leads = there }

    procedure_more : IsMore image k (with_procedures k procs)
    procedure_more = record {
      sound = record {
        code = λ a c. sound.code a c;
        leaders = λ a c. let led = sound.leaders a c in record { leader = led.leader; code = led.code };
        procs = λ a c. elim ((i.members a).0 c) [
          | inl same ↦ subst (λ n. IsNamedAt image (with_procedures k procs) n) same its_name
          | inr old ↦ let named = sound.procs a old in record { procedure = named.procedure; leads = named.leads }
        ];
        tables = λ t c. sound.tables t c;
        todo = λ w c. kept_by k (with_procedures k procs) procedure_grows.code procedure_grows.leaders w (sound.todo w c);
      };
      grows = procedure_grows;
      settling = λ now s. record {
        code = λ a c. elim (s.code a c) [
          | inl done ↦ inl (code_still image k (with_procedures k procs) procedure_grows a done)
          | inr open_one ↦ inr open_one
        ];
        leaders = λ a c. elim (s.leaders a c) [
          | inl done ↦ inl (leader_still image k (with_procedures k procs) procedure_grows a done)
          | inr open_one ↦ inr open_one
        ];
      };
      sized = refl;
      stored = refl;
    }

  -- ---- a table that is at least as long as the one of its jump
  module _ (table : Table) (tables : List Table) (put : IsPut k.tables table tables) (found : IsTableFrom image (GivenIn image k.stored) table)
      (longest : (t : Table) → Contains k.tables t → t.jump ≡ table.jump → length t.targets ≤ length table.targets) where
    put_there : IsAsLong tables table
    put_there = as_long_itself tables table ((put.members table).1 (inl refl))

    as_long : (t : Table) → Contains k.tables t → (d : (t.jump ≡ table.jump) ⊎ (t.jump ≡ table.jump → ⊥)) → IsAsLong tables t
    as_long t c (inl same) = record { kept = table; listed = (put.members table).1 (inl refl); jump = sym same; longer = longest t c same }
    as_long t c (inr other) = as_long_itself tables t ((put.members t).1 (inr (c, other)))

    table_grows : KeepsFound k (with_tables k tables)
    table_grows = record { code = λ a c. c; leaders = λ a c. c; procs = λ a c. c; tables = λ t c. as_long t c (cases_eq t.jump table.jump) }

    table_more : IsMore image k (with_tables k tables)
    table_more = record {
      sound = record {
        code = λ a c. sound.code a c;
        leaders = λ a c. let led = sound.leaders a c in record { leader = led.leader; code = led.code };
        procs = λ a c. let named = sound.procs a c in record { procedure = named.procedure; leads = named.leads };
        tables = λ t c. elim ((put.members t).0 c) [ inl same ↦ subst (λ u. IsTableFrom image (GivenIn image k.stored) u) same found | inr old ↦ sound.tables t old.0 ];
        todo = λ w c. kept_by k (with_tables k tables) table_grows.code table_grows.leaders w (sound.todo w c);
      };
      grows = table_grows;
      settling = λ now s. record {
        code = λ a c. elim (s.code a c) [
          | inl done ↦ inl (code_still image k (with_tables k tables) table_grows a done)
          | inr open_one ↦ inr open_one
        ];
        leaders = λ a c. elim (s.leaders a c) [
          | inl done ↦ inl (leader_still image k (with_tables k tables) table_grows a done)
          | inr open_one ↦ inr open_one
        ];
      };
      sized = refl;
      stored = refl;
    }

  -- ---- the same of what the calls gave
  pub added_code : (at : ℕ) (new : FoundSoFar) → IsCodeAdded k at new → IsFoundAt image k.stored at → IsMore image k new × Contains new.code at
  added_code at new added found =
      subst (λ s. IsMore image k s × Contains s.code at) (sym added.is) (code_more at added.code added.inserted found, in_new k.code added.code at added.inserted)

  pub added_leader : (at : ℕ) (new : FoundSoFar) → IsLeaderAdded k at new → IsLeader image (GivenIn image k.stored) at → Contains k.code at → IsMore image k new × Contains new.leaders at
  added_leader at new added led there =
      subst (λ s. IsMore image k s × Contains s.leaders at) (sym added.is) (leader_more at added.leaders added.inserted led there, in_new k.leaders added.leaders at added.inserted)

  pub added_procedure : (at : ℕ) (new : FoundSoFar) → IsProcedureAdded k at new → IsProcedureFrom image (GivenIn image k.stored) at → Contains k.leaders at → IsMore image k new × Contains new.procs at
  added_procedure at new added procedure there =
      subst (λ s. IsMore image k s × Contains s.procs at) (sym added.is) (procedure_more at added.procs added.inserted procedure there, in_new k.procs added.procs at added.inserted)

  pub added_table : (table : Table) (new : FoundSoFar) → IsTableAdded k table new → IsTableFrom image (GivenIn image k.stored) table
      → ((t : Table) → Contains k.tables t → t.jump ≡ table.jump → length t.targets ≤ length table.targets) → IsMore image k new × IsAsLong new.tables table
  added_table table new added found longest =
      subst (λ s. IsMore image k s × IsAsLong s.tables table) (sym added.is) (table_more table added.tables added.put found longest, put_there table added.tables added.put found longest)

-- ---- the same after something else
module _ (image : Image) (old mid new : FoundSoFar) (first : IsMore image old mid) where
  pub leader_then : (at : ℕ) → IsLeader image (GivenIn image old.stored) at → Contains mid.code at → IsLeaderAdded mid at new → IsMore image old new × Contains new.leaders at
  leader_then at led there added =
      let second = added_leader image mid first.sound at new added (subst (λ b. IsLeader image (GivenIn image b) at) (sym first.stored) led) there in
      (more_then image old mid new first second.0, second.1)

  pub procedure_then : (at : ℕ) → IsProcedureFrom image (GivenIn image old.stored) at → Contains mid.leaders at → IsProcedureAdded mid at new → IsMore image old new × Contains new.procs at
  procedure_then at procedure there added =
      let second = added_procedure image mid first.sound at new added (subst (λ b. IsProcedureFrom image (GivenIn image b) at) (sym first.stored) procedure) there in
      (more_then image old mid new first second.0, second.1)

  pub table_then : (table : Table) → IsTableFrom image (GivenIn image old.stored) table
      → ((t : Table) → Contains mid.tables t → t.jump ≡ table.jump → length t.targets ≤ length table.targets)
      → ((a : ℕ) → Contains table.targets a → Stands image a → Contains mid.leaders a)
      → IsTableAdded mid table new → IsMore image old new × IsCovered image new table
  table_then table found longest targets added =
      let second = added_table image mid first.sound table new added (subst (λ b. IsTableFrom image (GivenIn image b) table) (sym first.stored) found) longest in
      (more_then image old mid new first second.0, record { kept = second.1; targets = λ a c stands. second.0.grows.leaders a (targets a c stands) })
