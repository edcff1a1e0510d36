-- What is kept at the end is the found code.
use Rattle.std.proofs.Common.{◌≡◌, ℕ, ◌≤◌, Bool, true, false, List, [], ◌∷◌, length, map, Contains, Option, Some, None, refl, sym, ap, ◌∙◌, subst, inl, inr, arith}
use Rattle.std.specs.Option.{IsSome}
use Rattle.std.specs.List.{filter_map, cons_option}
use Rattle.std.specs.List.Sorted.{IsStrictlyIncreasing}
use Rattle.std.proofs.lemmas.List.{length-map}
use Rattle.image.specs.declared.image.Image.{Image}
use Rattle.x86_types.specs.declared.instr.Instr.{Instr}
use Rattle.x86_code.specs.Code.{code_of}
use Rattle.plan_types.specs.declared.place.Place.{Place}
use Rattle.plan_types.specs.declared.table.Table.{Table}
use Rattle.plan_types.specs.Ascending.{addresses_of, Ascends}
use Rattle.plan_types.specs.RunLaws.{RunLaws}
use Rattle.plan_types.specs.FoundCode.{Stands, IsStored, IsFound, IsTable, IsTableFrom, NoneGiven, IsFoundCode}
use Rattle.code_scan.specs.Places.{placed, standing_place}
use Rattle.code_discovery.specs.declared.work.Work.{Work}
use Rattle.code_discovery.specs.declared.work.Work.TheVariants.{Instruction, Leader}
use Rattle.code_discovery.specs.Kept.{FoundSoFar, GivenIn, IsFoundAt, IsWorkKept, IsSoundSoFar}
use Rattle.code_discovery.specs.Settled.{IsSettling, IsClosed, KeepsFound}
use Rattle.code_discovery.specs.Whole.{HasEntry, IsAllFound, TellsApart, with_stored}
use Rattle.code_discovery.proofs.Members.{none_in, head_in, tail_in, cases_in}
use Rattle.code_discovery.proofs.Settle.{place_stands, same_place}
use Rattle.code_discovery.proofs.MoreGiven.{leader_more, found_more, table_more, procedure_more}
use Rattle.code_discovery.proofs.TooMany.{found_of}
use Rattle.code_discovery.proofs.SameTables.{same_table, apart_from_shorter, one_of_jump}
use Rattle.code_discovery.proofs.Growth.{as_long_itself, code_still, leader_still}
use Rattle.code_discovery.proofs.Complete.{all_found, all_procedures, all_tables}

-- ---- the places at addresses
abbrev pub places_at : Image → List ℕ → List Place
places_at image xs = filter_map (standing_place image) xs

-- an instruction stands at one of the addresses
pub record IsOneAt (image : Image) (xs : List ℕ) (p : Place) : Type 0 where
  pub among : Contains xs p.at
  pub stands : code_of image p.at ≡ Some (p.instr, p.len)

later_at : (image : Image) (x : ℕ) (xs : List ℕ) (p : Place) → IsOneAt image xs p → IsOneAt image (x ∷ xs) p
later_at image x xs p one = record { among = tail_in x xs p.at one.among; stands = one.stands }

first_at : (image : Image) (x : ℕ) (xs : List ℕ) (p : Place) → Some p ≡ standing_place image x → IsOneAt image (x ∷ xs) p
first_at image x xs p is = let s = place_stands image x p is in record { among = subst (λ n. Contains (x ∷ xs) n) (sym s.at) (head_in x xs); stands = s.stands }

one_by : (image : Image) (x : ℕ) (xs : List ℕ) (p : Place) (more : List Place) → (Contains more p → IsOneAt image xs p) → (o : Option Place) → standing_place image x ≡ o → Contains (cons_option o more) p → IsOneAt image (x ∷ xs) p
one_by image x xs p more later None is c = later_at image x xs p (later c)
one_by image x xs p more later (Some q) is c = elim (cases_in q more p c) [
  | inl same ↦ first_at image x xs p (sym (ap Some same) ∙ sym is)
  | inr there ↦ later_at image x xs p (later there)
]

pub one_at : (image : Image) (xs : List ℕ) (p : Place) → Contains (places_at image xs) p → IsOneAt image xs p
one_at image [] p c = absurd (none_in p c)
one_at image (x ∷ xs) p c = one_by image x xs p (places_at image xs) (λ c. one_at image xs p c) (standing_place image x) refl c

-- of what may be led by one
led : (o : Option Place) (more : List Place) (p : Place) → Contains more p → Contains (cons_option o more) p
led None more p c = c
led (Some q) more p c = tail_in q more p c

stands_in : (image : Image) (p : Place) → code_of image p.at ≡ Some (p.instr, p.len) → standing_place image p.at ≡ Some p
stands_in image p stands = ap (λ o. placed p.at o) stands

pub in_places : (image : Image) (xs : List ℕ) (p : Place) → Contains xs p.at → code_of image p.at ≡ Some (p.instr, p.len) → Contains (places_at image xs) p
in_places image [] p c stands = absurd (none_in p.at c)
in_places image (x ∷ xs) p c stands = elim (cases_in x xs p.at c) [
  | inl same ↦
      let is : standing_place image x ≡ Some p = ap (λ n. standing_place image n) same ∙ stands_in image p stands in
      subst (λ o. Contains (cons_option o (places_at image xs)) p) (sym is) (head_in p (places_at image xs))
  | inr more ↦ led (standing_place image x) (places_at image xs) p (in_places image xs p more stands)
]

addresses_by : (image : Image) (x : ℕ) (xs : List ℕ) (more : List Place) → addresses_of more ≡ xs → (o : Option Place) → standing_place image x ≡ o → Stands image x → addresses_of (cons_option o more) ≡ x ∷ xs
addresses_by image x xs more e None is stands = absurd (none_there (code_of image x) is stands)
  where
    none_there : (o : Option (Instr × ℕ)) → placed x o ≡ None → IsSome o → ⊥
    none_there None is s = let no : ⊥ = cc in no
    none_there (Some q) is s = let no : ⊥ = cc in no
addresses_by image x xs more e (Some q) is stands =
    let at : q.at ≡ x = (place_stands image x q (sym is)).at in
    ap (λ n. n ∷ addresses_of more) at ∙ ap (λ ys. x ∷ ys) e

pub addresses_at : (image : Image) (xs : List ℕ) → ((a : ℕ) → Contains xs a → Stands image a) → addresses_of (places_at image xs) ≡ xs
addresses_at image [] each = refl
addresses_at image (x ∷ xs) each = addresses_by image x xs (places_at image xs) (addresses_at image xs (λ a c. each a (tail_in x xs a c))) (standing_place image x) refl (each x (head_in x xs))

-- where an instruction is found one stands
pub found_stands : (image : Image) (laws : RunLaws) (stored : Bool) (a : ℕ) → IsFoundAt image stored a → Stands image a
found_stands image laws stored a f =
    let stands = laws.stands image f.found.n f.found.from f.place f.found.within in
    subst (λ n. Stands image n) f.at (subst (λ o. IsSome o) (sym stands) refl)

-- ---- the end
module _ (image : Image) (k : FoundSoFar) (laws : RunLaws) (sound : IsSoundSoFar image k) (whole : IsAllFound image k) (up : IsStrictlyIncreasing (map (λ (t : Table). t.jump) k.tables)) where
  stored_only : (a : ℕ) → GivenIn image k.stored a → IsStored image a
  stored_only a g = g.1

  table_found : (t : Table) → Contains k.tables t → IsTableFrom image (IsStored image) t
  table_found t c = table_more image (GivenIn image k.stored) (IsStored image) stored_only t (sound.tables t c)

  is_table : (t : Table) → Contains k.tables t → IsTable image t
  is_table t c = record {
    found = table_found t c;
    longest = λ u f same.
        let covered = all_tables image k laws sound whole.closed (IsStored image) whole.entry whole.stored u f in
        let one : covered.kept.kept ≡ t = one_of_jump k.tables up covered.kept.kept t covered.kept.listed c (covered.kept.jump ∙ same) in
        subst (λ (v : Table). length u.targets ≤ length v.targets) one covered.kept.longer;
  }

  table_listed : (t : Table) → IsTable image t → Contains k.tables t
  table_listed t is =
      let covered = all_tables image k laws sound whole.closed (IsStored image) whole.entry whole.stored t is.found in
      let v : Table = covered.kept.kept in
      let fv = table_found v covered.kept.listed in
      let longest : length v.targets ≤ length t.targets = is.longest v fv covered.kept.jump in
      let same : v ≡ t = same_table image laws (IsStored image) (IsStored image) v t fv is.found covered.kept.jump (let l = covered.kept.longer in omega arith) in
      subst (λ (u : Table). Contains k.tables u) same covered.kept.listed

  place_found : (p : Place) → Contains (places_at image k.code) p → IsFound image p
  place_found p c =
      let one = one_at image k.code p c in
      let f = sound.code p.at one.among in
      let stands = laws.stands image f.found.n f.found.from f.place f.found.within in
      subst (λ (q : Place). IsFound image q) (same_place (code_of image) f.place p f.at stands one.stands) (found_of image k.stored p.at f)

  place_listed : (p : Place) → IsFound image p → Contains (places_at image k.code) p
  place_listed p f = in_places image k.code p (all_found image k laws sound whole.closed (IsStored image) whole.entry whole.stored p f) (laws.stands image f.n f.from p f.within)

  pub whole_found : IsFoundCode image (record { code = places_at image k.code; procs = k.procs; tables = k.tables })
  whole_found = record {
    code = λ p. (λ c. place_found p c, λ f. place_listed p f);
    procs = λ a. (
      λ c. procedure_more image (GivenIn image k.stored) (IsStored image) stored_only a (sound.procs a c).procedure,
      λ f. all_procedures image k laws sound whole.closed (IsStored image) whole.entry whole.stored a f,
    );
    tables = λ t. (λ c. is_table t c, λ is. table_listed t is);
  }

-- the lists ascend
pub whole_ascends : (image : Image) (k : FoundSoFar) (laws : RunLaws) → IsSoundSoFar image k → IsStrictlyIncreasing k.code → IsStrictlyIncreasing k.procs → IsStrictlyIncreasing (map (λ (t : Table). t.jump) k.tables)
    → Ascends (places_at image k.code) k.procs k.tables
whole_ascends image k laws sound code procs tables = record {
  by_place = subst (λ (xs : List ℕ). IsStrictlyIncreasing xs) (sym (addresses_at image k.code (λ a c. found_stands image laws k.stored a (sound.code a c)))) code;
  by_procedure = procs;
  by_jump = tables;
}

pub whole_length : (image : Image) (k : FoundSoFar) (laws : RunLaws) → IsSoundSoFar image k → length (places_at image k.code) ≡ length k.code
whole_length image k laws sound =
    sym (length-map (places_at image k.code) (λ (p : Place). p.at)) ∙ ap (λ (xs : List ℕ). length xs) (addresses_at image k.code (λ a c. found_stands image laws k.stored a (sound.code a c)))

-- ---- from what is found where nothing is given to the stored addresses
module _ (image : Image) (k : FoundSoFar) (laws : RunLaws) (sound : IsSoundSoFar image k) (closed : IsClosed image k) (entry : HasEntry image k) where
  pub tells_apart : TellsApart image k.tables
  tells_apart at apart t f =
      let covered = all_tables image k laws sound closed NoneGiven entry (λ a g s. absurd g) t f in
      let u : Table = covered.kept.kept in
      apart_from_shorter image laws NoneGiven (GivenIn image k.stored) t u f (sound.tables u covered.kept.listed) (sym covered.kept.jump) at covered.kept.longer (apart u covered.kept.listed)

-- tables that are found where the stored addresses aren't given are found where nothing is
pub none_given : (image : Image) (t : Table) → IsTableFrom image (GivenIn image false) t → IsTableFrom image NoneGiven t
none_given image t f = table_more image (GivenIn image false) NoneGiven (λ a g. let no : false ≡ true = g.0 in cc) t f

pub stored_grows : (k : FoundSoFar) → KeepsFound k (with_stored k)
stored_grows k = record { code = λ a c. c; leaders = λ a c. c; procs = λ a c. c; tables = λ t c. as_long_itself k.tables t c }

given_stored : (image : Image) (stored : Bool) (a : ℕ) → GivenIn image stored a → GivenIn image true a
given_stored image stored a g = (refl, g.1)

pub stored_sound : (image : Image) (k : FoundSoFar) → IsSoundSoFar image k → IsSoundSoFar image (with_stored k)
stored_sound image k sound = record {
  code = λ a c. let f = sound.code a c in record { place = f.place; at = f.at; found = found_more image (GivenIn image k.stored) (GivenIn image true) (given_stored image k.stored) f.place f.found };
  leaders = λ a c. let led = sound.leaders a c in record { leader = leader_more image (GivenIn image k.stored) (GivenIn image true) (given_stored image k.stored) a led.leader; code = led.code };
  procs = λ a c. let named = sound.procs a c in record { procedure = procedure_more image (GivenIn image k.stored) (GivenIn image true) (given_stored image k.stored) a named.procedure; leads = named.leads };
  tables = λ t c. table_more image (GivenIn image k.stored) (GivenIn image true) (given_stored image k.stored) t (sound.tables t c);
  todo = λ w c. kept_stored w (sound.todo w c);
}
  where
    kept_stored : (w : Work) → IsWorkKept k w → IsWorkKept (with_stored k) w
    kept_stored (Instruction a) c = c
    kept_stored (Leader a) c = c

pub stored_settling : (image : Image) (k : FoundSoFar) → IsClosed image k → IsSettling image (with_stored k) None
stored_settling image k closed = record {
  code = λ a c. inl (code_still image k (with_stored k) (stored_grows k) a (closed.code a c));
  leaders = λ a c. inl (leader_still image k (with_stored k) (stored_grows k) a (closed.leaders a c));
}
