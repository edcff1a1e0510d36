-- What is found code of an image, by its rules.
use Rattle.std.proofs.Common.{◌≡◌, ℕ, zero, suc, ◌+◌, ◌<◌, ◌≤◌, false, List, [], length, Contains, Option, Some, None, refl, sym, ap, ◌∙◌, subst, inl, inr, arith}
use Rattle.std.proofs.lemmas.Bool.{cases_lt}
use Rattle.image.specs.declared.image.Image.{Image}
use Rattle.image.specs.declared.room.Room.TheVariants.{Any}
use Rattle.image.specs.Rooms.{room_end}
use Rattle.image.specs.Addresses.{code_byte_at, code_bytes}
use Rattle.image.specs.Wanted.{FitsWideRoom}
use Rattle.x86_types.specs.declared.operand.Reg.{Reg}
use Rattle.x86_types.specs.declared.instr.Instr.{Instr}
use Rattle.x86_types.specs.declared.instr.Instr.TheVariants.{Call}
use Rattle.x86_grammar.specs.Front.{front}
use Rattle.x86_code.specs.Code.{code_of}
use Rattle.plan_types.specs.declared.place.Place.{Place}
use Rattle.plan_types.specs.declared.table.Table.{Table}
use Rattle.plan_types.specs.Contents.{FoundContents}
use Rattle.plan_types.specs.Ascending.{Ascends}
use Rattle.plan_types.specs.Straight.{place_with, ends_run}
use Rattle.plan_types.specs.Tables.{table_jump}
use Rattle.plan_types.specs.Leading.{next_of, target_of, procedures_in}
use Rattle.plan_types.specs.Body.{successors_of, HasPlace}
use Rattle.plan_types.specs.FoundCode as spec
use Rattle.plan_types.specs.FoundCode.{Stands, run_in, IsLeader, IsFoundFrom, IsTableFrom, IsProcedureFrom, IsStored, IsFound, IsProcedure, IsTable, IsFoundCode}
use Rattle.plan_types.specs.FoundLaws.{IsTableOf, HasTable}
use Rattle.plan_types.proofs.Members.{head_in, map_in, some_of, HasKey, with_key, without, key_in}
use Rattle.plan_types.proofs.Runs.{StandsThere, stands_in, begins, goes_on, last_in}
use Rattle.plan_types.proofs.Tables.{in_run, jump_ends, has_one}
use Rattle.plan_types.proofs.Ordered.{rises, rises_itself, same_list}
use Rattle.plan_types.proofs.Ways.{IsWay, on, leads, by_table, way_of, table_of_target}
use Rattle.plan_types.proofs.Within.{byte_within, bytes_within}

-- ---- instructions
pub stands_of : (image : Image) (p : Place) → IsFound image p → StandsThere (code_of image) p
stands_of image p f = stands_in (code_of image) f.n f.from p f.within

module _ (image : Image) (found : FoundContents) (is : IsFoundCode image found) where
  pub listed : (p : Place) → Contains found.code p → IsFound image p
  listed p c = (is.code p).0 c

  has_place : (p : Place) → IsFound image p → HasPlace found p.at
  has_place p f = map_in (λ (p : Place). p.at) found.code p ((is.code p).1 f)

  -- a leader is found
  pub leads_there : (a : ℕ) → IsLeader image (IsStored image) a → Stands image a → HasPlace found a
  leads_there a led stands =
      let there = some_of (code_of image a) stands in
      has_place (place_with a there.0.0 there.0.1) (record { from = a; n = 1; leader = led; within = begins (code_of image) 0 a there.0 there.1 })

  next_there : (p : Place) → IsFound image p → ends_run p.instr ≡ false → Stands image (next_of p) → HasPlace found (next_of p)
  next_there p f e stands =
      let there = some_of (code_of image (next_of p)) stands in
      has_place (place_with (next_of p) there.0.0 there.0.1) (record { from = f.from; n = suc f.n; leader = f.leader; within = goes_on (code_of image) f.n f.from p there.0 f.within e there.1 })

  by_way : (p : Place) (a : ℕ) → IsFound image p → IsWay found p p.instr a → Stands image a → HasPlace found a
  by_way p a f (on e next) stands = subst (λ b. Stands image b → HasPlace found b) next (λ stands. next_there p f e stands) stands
  by_way p a f (leads c) stands = leads_there a (spec.leader f.from f.n p f.leader f.within c stands) stands
  by_way p a f (by_table c) stands =
      let t = table_of_target found p.at a c in
      let u = ((is.tables t.table).0 t.listed).found in
      leads_there a (spec.target u.from u.n t.table u.leader u.table t.target stands) stands

  pub goes_there : (p : Place) (a : ℕ) → Contains found.code p → Contains (successors_of found p) a → Stands image a → HasPlace found a
  goes_there p a c s stands = by_way p a (listed p c) (way_of found p p.instr a s) stands

  -- ---- procedures
  pub procedure_there : (a : ℕ) → IsProcedure image a → HasPlace found a
  procedure_there a (spec.entry stands) = leads_there a (spec.entry stands) stands
  procedure_there a (spec.given g stands) = leads_there a (spec.given g stands) stands
  procedure_there a (spec.named p f c stands) = leads_there a (spec.procedure f.from f.n p f.leader f.within c stands) stands

  pub called_there : (p : Place) (by : ℕ) → Contains found.code p → p.instr ≡ Call by → Stands image (target_of p by) → Contains found.procs (target_of p by)
  called_there p by c e stands =
      (is.procs (target_of p by)).1 (spec.named p (listed p c) (subst (λ i. Contains (procedures_in image p i) (target_of p by)) (sym e) (head_in (target_of p by) [])) stands)

  -- ---- tables
  table_there : (t : Table) → IsTableFrom image (IsStored image) t → IsTableOf image found t
  table_there t u =
      let h = in_run image (run_in image u.n u.from) t u.table in
      record {
        place = h.place;
        found_there = (is.code h.place).1 (record { from = u.from; n = u.n; leader = u.leader; within = h.there });
        at = h.at;
        index = h.index;
        jump = h.jump;
        few = h.few.0;
        words = h.few.1;
      }

  pub table_is : (t : Table) → Contains found.tables t → IsTableOf image found t
  table_is t c = table_there t ((is.tables t).0 c).found

  -- Where none is listed for a jump there is none: of those of its runs one would be the longest. No table longer than the bound, then
  -- none longer than any given one, by the room that is left up to the bound.
  not_listed : (at : ℕ) → ((t : Table) → Contains found.tables t → t.jump ≡ at → ⊥) → (t : Table) → IsTableFrom image (IsStored image) t → t.jump ≡ at
      → ((v : Table) → IsTableFrom image (IsStored image) v → v.jump ≡ at → length t.targets < length v.targets → ⊥) → ⊥
  not_listed at none t u e no_longer =
      none t ((is.tables t).1 (record {
        found = u;
        longest = λ v w same. elim (cases_lt (length t.targets) (length v.targets)) [ inl longer ↦ absurd (no_longer v w (same ∙ e) longer) | inr short ↦ short ];
      })) e

  none_from : (at : ℕ) → ((t : Table) → Contains found.tables t → t.jump ≡ at → ⊥) → (k : ℕ) (t : Table) → IsTableFrom image (IsStored image) t → t.jump ≡ at → 1024 ≤ length t.targets + k → ⊥
  none_from at none zero t u e near = not_listed at none t u e (λ v w same longer. let few = (table_there v w).few in omega arith)
  none_from at none (suc k) t u e near = not_listed at none t u e (λ v w same longer. none_from at none k v w same (omega arith))

  -- ---- table jumps
  start_is : (p q : Place) (a s : Reg × ℕ) → StandsThere (code_of image) p → StandsThere (code_of image) q → q.at ≡ p.at → table_jump p.instr ≡ Some a → table_jump q.instr ≡ Some s → s.1 ≡ a.1
  start_is p q a s sp sq at jp jq =
      let there : ◌≡◌ {A = Option (Instr × ℕ)} (Some (q.instr, q.len)) (Some (p.instr, p.len)) = sym sq ∙ (ap (λ b. code_of image b) at ∙ sp) in
      let pair : ◌≡◌ {A = Instr × ℕ} (q.instr, q.len) (p.instr, p.len) = cc in
      let instr : q.instr ≡ p.instr = ap (λ (r : Instr × ℕ). r.0) pair in
      let both : Some s ≡ Some a = sym jq ∙ (ap (λ i. table_jump i) instr ∙ jp) in
      let same : s ≡ a = cc in
      ap (λ (r : Reg × ℕ). r.1) same

  listed_for : (p : Place) (j : Reg × ℕ) → Contains found.code p → table_jump p.instr ≡ Some j → HasKey (λ (t : Table). t.jump) found.tables p.at → HasTable found p.at j.1
  listed_for p j c e (with_key t l at) =
      let of = table_is t l in
      record {
        table = t;
        listed = l;
        jump = at;
        from = start_is p of.place j (of.index, t.start) (stands_of image p (listed p c)) (stands_of image of.place (listed of.place of.found_there)) (of.at ∙ at) e of.jump;
      }
  listed_for p j c e (without none) =
      let f = listed p c in
      let h = has_one image (run_in image f.n f.from) p j (last_in (code_of image) f.n f.from p f.within (jump_ends p.instr j e)) e in
      absurd (none_from p.at none 1024 h.table (record { from = f.from; n = f.n; leader = f.leader; table = h.is }) h.jump (omega arith))

  pub jump_has_table : (p : Place) (j : Reg × ℕ) → Contains found.code p → table_jump p.instr ≡ Some j → HasTable found p.at j.1
  jump_has_table p j c e = listed_for p j c e (key_in (λ (t : Table). t.jump) p.at found.tables)

-- ---- one found code
pub only_one : (image : Image) (f g : FoundContents) → Ascends f.code f.procs f.tables → Ascends g.code g.procs g.tables → IsFoundCode image f → IsFoundCode image g → f ≡ g
only_one image f g af ag isf isg =
    let code : f.code ≡ g.code = same_list (λ (p : Place). p.at) f.code g.code (rises (λ (p : Place). p.at) f.code af.by_place) (rises (λ (p : Place). p.at) g.code ag.by_place)
    (λ p. (λ c. (isg.code p).1 ((isf.code p).0 c), λ c. (isf.code p).1 ((isg.code p).0 c))) in
    let procs : f.procs ≡ g.procs = same_list (λ (a : ℕ). a) f.procs g.procs (rises_itself f.procs af.by_procedure) (rises_itself g.procs ag.by_procedure)
    (λ a. (λ c. (isg.procs a).1 ((isf.procs a).0 c), λ c. (isf.procs a).1 ((isg.procs a).0 c))) in
    let tables : f.tables ≡ g.tables = same_list (λ (t : Table). t.jump) f.tables g.tables (rises (λ (t : Table). t.jump) f.tables af.by_jump) (rises (λ (t : Table). t.jump) g.tables ag.by_jump)
    (λ t. (λ c. (isg.tables t).1 ((isf.tables t).0 c), λ c. (isf.tables t).1 ((isg.tables t).0 c))) in
    together f.code g.code f.procs g.procs f.tables g.tables code procs tables
  where
    together : (c d : List Place) (p q : List ℕ) (t u : List Table) → c ≡ d → p ≡ q → t ≡ u → ◌≡◌ {A = FoundContents} (record { code = c; procs = p; tables = t }) (record { code = d; procs = q; tables = u })
    together c d p q t u e1 e2 e3 = cc

-- ---- the room
module _ (image : Image) (fits : FitsWideRoom image.segments image.entry)
    (there : (bytes : List ℕ) (i : Instr) (len : ℕ) → front bytes ≡ Some (i, len) → len ≤ length bytes)
    (none : (image : Image) (a : ℕ) → code_byte_at image a ≡ None → code_of image a ≡ None) where
  begins_within : (a : ℕ) (i : Instr) (len : ℕ) → code_of image a ≡ Some (i, len) → (o : Option ℕ) → code_byte_at image a ≡ o → a < room_end Any
  begins_within a i len e None h = let no = none image a h in cc
  begins_within a i len e (Some b) h = byte_within image fits a b h

  ends_within : (a : ℕ) (i : Instr) (len : ℕ) → code_of image a ≡ Some (i, len) → a + len ≤ room_end Any
  unfolding code_of
  ends_within a i len e = elim (cases_lt 0 (length (code_bytes image a 15))) [
    | inl some ↦ let last = bytes_within image fits 15 a some in let short = there (code_bytes image a 15) i len e in omega arith
    | inr none_short ↦ let first = begins_within a i len e (code_byte_at image a) refl in let short = there (code_bytes image a 15) i len e in omega arith
  ]

  pub place_within : (p : Place) → IsFound image p → p.at + p.len ≤ room_end Any
  place_within p f = ends_within p.at p.instr p.len (stands_of image p f)
