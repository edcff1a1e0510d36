-- How the new code of a page comes about: its parts, and the new place of each old one.
use Rattle.std.specs.Prelude.{◌≡◌, ◌⊎◌, ℕ, ◌+◌, ◌-◌, ◌*◌, ◌%◌, ◌<◌, ◌≤◌, List, [], ◌∷◌, ◌++◌, length, take, drop, slice_index_or, All, Bool, Option, Some, None}
use Rattle.std.specs.Bool.{MatchBool}
use Rattle.std.specs.List.{sum_by}
use Rattle.std.specs.Option.{unwrap_or}
use Rattle.byte_lists.specs.LittleEndian.{word_bytes}
use Rattle.rewrite_core.specs.declared.places.Judgement.{Judgement}
use Rattle.rewrite_core.specs.declared.places.Judgement.TheVariants.{GoesOn, Jumps, Ends, LeftOut}
use Rattle.rewrite_core.specs.declared.placing.Part.{Part}
use Rattle.rewrite_core.specs.declared.placing.Part.TheVariants.{Kept, Leads, Stops}
use Rattle.rewrite_core.specs.declared.placing.Next.{Next}
use Rattle.rewrite_core.specs.declared.placing.Next.TheVariants.{On, Done, Refused}
use Rattle.rewrite_core.specs.declared.placing.Placing.{Placing}
use Rattle.rewrite_core.specs.Places.{Table, Reached, Straight, IsLeftOut, judged_at, stop}

-- the new place of a place
abbrev pub place_at : List (Option ℕ) → ℕ → Option ℕ
place_at places p = slice_index_or places p None

-- how many bytes a part has
abbrev pub part_size : Part → ℕ
part_size (Kept from len) = len
part_size (Leads to) = 5
part_size Stops = 2

abbrev pub parts_size : List Part → ℕ
parts_size parts = sum_by part_size parts

-- E9 rel32 to another place of the new code
abbrev pub jump_bytes : ℕ → ℕ → List ℕ
jump_bytes q to = 0xE9 ∷ word_bytes ((to + 4294967296 - (q + 5)) % 4294967296)

-- the bytes of a part at a place of the new code
abbrev pub part_code : List ℕ → Table → ℕ → Part → List ℕ
part_code page table q (Kept from len) = take len (drop from page)
part_code page table q (Leads to) = jump_bytes q (unwrap_or (table to) 0)
part_code page table q Stops = stop

-- a part is added to the code
abbrev pub with_part : List ℕ → List (Option ℕ) → List ℕ → Part → List ℕ
with_part page places code part = code ++ part_code page (place_at places) (length code) part

-- the bytes of the parts, from a place of the new code on
unfoldable pub parts_code : List ℕ → Table → ℕ → List Part → List ℕ
parts_code page table q [] = []
parts_code page table q (part ∷ parts) = part_code page table q part ++ parts_code page table (q + part_size part) parts

-- kept bytes are bytes of the page, and what a jump leads to can be reached
abbrev pub IsFine : List ℕ → Part → Type 0
IsFine page (Kept from len) = (from + len ≤ length page) × (len ≤ 5)
IsFine page (Leads to) = (to ≤ length page) × Reached page to
IsFine page Stops = Unit {0}

-- a part stands at a place of the new code
pub record Has (parts : List Part) (q : ℕ) (part : Part) : Type 0 where
  pub before : List Part
  pub after : List Part
  pub is : parts ≡ before ++ part ∷ after
  pub size : q ≡ parts_size before

-- The run of the new code goes on at the new place of p: it is q, or a jump to it stands there; or p is the place that is
-- placed next, at the end.
abbrev pub Leaves : List (Option ℕ) → List Part → ℕ → Option ℕ → ℕ → ℕ → Type 0
Leaves places parts size next q p = (place_at places p ≡ Some q) ⊎ (Has parts q (Leads p) ⊎ ((next ≡ Some p) × (q ≡ size)))

-- what stands at the new place of p
abbrev pub Settled : List (Option ℕ) → List Part → ℕ → Option ℕ → ℕ → ℕ → Judgement → Type 0
Settled places parts size next p q (GoesOn len) = Has parts q (Kept p len) × Leaves places parts size next (q + len) (p + len)
Settled places parts size next p q (Jumps to) = Has parts q (Leads to)
Settled places parts size next p q Ends = Has parts q Stops
Settled places parts size next p q LeftOut = ⊥

-- how many places have no new place
abbrev pub is_wanting : Option ℕ → ℕ
is_wanting None = 1
is_wanting (Some q) = 0

abbrev pub wanting : List (Option ℕ) → ℕ
wanting places = sum_by is_wanting places

-- at the new place of each place that has one stands what it is
pub record ArePlaced (page : List ℕ) (places : List (Option ℕ)) (parts : List Part) (size : ℕ) (next : Option ℕ) : Type 0 where
  pub all : length places ≡ length page + 1
  pub settled : (p q : ℕ) → place_at places p ≡ Some q → Settled places parts size next p q (judged_at page p)
  pub fine : All (IsFine page) parts
  pub sized : size ≡ parts_size parts
  pub small : size ≤ 5 * length parts
  pub room : length parts + 2 * wanting places ≤ 2 * (length page + 1)

-- a place that is placed next
pub record IsNext (page : List ℕ) (places : List (Option ℕ)) (parts : List Part) (size at : ℕ) : Type 0 where
  pub placed : ArePlaced page places parts size (Some at)
  pub free : place_at places at ≡ None
  pub reached : Reached page at
  pub within : at ≤ length page

-- every place that has a new place is settled, or one is placed next
abbrev pub IsSettled : List ℕ → Placing → Type 0
IsSettled page s = ArePlaced page s.places.items s.parts.items s.size None

abbrev pub IsOpenPlace : List ℕ → Placing → ℕ → Type 0
IsOpenPlace page s at = IsNext page s.places.items s.parts.items s.size at

-- a part is added at the end
pub record IsAdded (old new : Placing) (part : Part) : Type 0 where
  pub places : new.places.items ≡ old.places.items
  pub parts : new.parts.items ≡ old.parts.items ++ part ∷ []
  pub size : new.size ≡ old.size + part_size part

-- what has a new place keeps it, and the parts stay where they are
pub record PlacingGrows (places : List (Option ℕ)) (parts : List Part) (new_places : List (Option ℕ)) (new_parts : List Part) : Type 0 where
  pub keeps : (p q : ℕ) → place_at places p ≡ Some q → place_at new_places p ≡ Some q
  pub begins : take (length parts) new_parts ≡ parts

abbrev pub Grew : Placing → Placing → Type 0
Grew old new = PlacingGrows old.places.items old.parts.items new.places.items new.parts.items

-- a place has a new place
abbrev pub HasPlace : List (Option ℕ) → ℕ → Type 0
HasPlace places p = (q : ℕ) × (place_at places p ≡ Some q)

-- what a jump leads to has a new place
abbrev pub IsMet : List (Option ℕ) → Part → Type 0
IsMet places (Kept from len) = Unit {0}
IsMet places (Leads to) = HasPlace places to
IsMet places Stops = Unit {0}

-- ---- the straight list from the first place
-- a part of a list without jumps
abbrev pub IsNoJump : Part → Type 0
IsNoJump (Kept from len) = Unit {0}
IsNoJump (Leads to) = ⊥
IsNoJump Stops = Unit {0}

-- the parts so far are the front of the page
pub record IsFront (page : List ℕ) (places : List (Option ℕ)) (parts : List Part) (at : ℕ) : Type 0 where
  pub straight : Straight page at
  pub code : (table : Table) → parts_code page table 0 parts ≡ take at page
  pub no_jump : All IsNoJump parts
  pub below : (p q : ℕ) → place_at places p ≡ Some q → p < at

-- the parts are a front of the page of so many bytes, and a stop
pub record IsWhole (page : List ℕ) (parts : List Part) (n : ℕ) : Type 0 where
  pub code : (table : Table) → parts_code page table 0 parts ≡ take n page ++ stop
  pub no_jump : All IsNoJump parts

-- where the page is one straight list, so are the parts
abbrev pub IsList : List ℕ → Placing → Type 0
IsList page s = (n : ℕ) → Straight page n → judged_at page n ≡ Ends → IsWhole page s.parts.items n

abbrev pub Begins : List ℕ → Placing → ℕ → Type 0
Begins page s at = IsFront page s.places.items s.parts.items at

-- what then comes after the placing of a place
abbrev pub ListGoes : List ℕ → Placing → Next → Type 0
ListGoes page s (On next) = Begins page s next
ListGoes page s Done = IsList page s
ListGoes page s Refused = Unit {0}

-- what comes after the placing of a place
abbrev pub PlacingGoes : List ℕ → ℕ → Placing → Next → Type 0
PlacingGoes page at s (On next) = (at < next) × IsOpenPlace page s next
PlacingGoes page at s Done = IsSettled page s
PlacingGoes page at s Refused = IsLeftOut page

pub record IsPlaced (page : List ℕ) (old new : Placing) (at : ℕ) (next : Next) : Type 0 where
  pub goes : PlacingGoes page at new next
  pub grew : Grew old new
  pub placed : place_at new.places.items at ≡ Some old.size
  pub list : Begins page old at → ListGoes page new next

-- a run is followed to its end
pub record IsFollowed (page : List ℕ) (old new : Placing) (from : ℕ) : Type 0 where
  pub settled : IsSettled page new
  pub grew : Grew old new
  pub placed : place_at new.places.items from ≡ Some old.size
  pub list : Begins page old from → IsList page new

abbrev pub FollowsPlaces : List ℕ → Placing → Placing → ℕ → Bool → Type 0
FollowsPlaces page old new from all = MatchBool all (IsFollowed page old new from) (IsLeftOut page)

-- what a part leads to is placed
pub record IsMetBy (page : List ℕ) (old new : Placing) (index : ℕ) : Type 0 where
  pub settled : IsSettled page new
  pub grew : Grew old new
  pub met : IsMet new.places.items (slice_index_or old.parts.items index Stops)
  pub list : IsList page old → IsList page new

abbrev pub MeetsPlaces : List ℕ → Placing → Placing → ℕ → Bool → Type 0
MeetsPlaces page old new index all = MatchBool all (IsMetBy page old new index) (IsLeftOut page)

-- all that a run can reach is placed
pub record IsFinished (page : List ℕ) (s : Placing) : Type 0 where
  pub settled : IsSettled page s
  pub first : place_at s.places.items 0 ≡ Some 0
  pub met : All (IsMet s.places.items) s.parts.items
  pub list : IsList page s
