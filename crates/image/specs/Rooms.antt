-- The limits of the two rooms, and the greatest and the least number of a list. (the limits own)
use Rattle.std.specs.Prelude.{ℕ, List, [], ◌∷◌, max, min}
use Rattle.image.specs.declared.room.Room.{Room}
use Rattle.image.specs.declared.room.Room.TheVariants.{Source, Any}

-- the address at which a room ends (own)
abbrev pub room_end : Room → ℕ
room_end Source = 0x50000000
room_end Any = 0x7C000000

-- the greatest span of code in a room: 4 MiB and 320 MiB (own)
abbrev pub room_span : Room → ℕ
room_span Source = 0x400000
room_span Any = 0x14000000

-- the greatest size of all pages in a room: 64 MiB and 512 MiB (own)
abbrev pub room_size : Room → ℕ
room_size Source = 0x4000000
room_size Any = 0x20000000

-- the greatest number of a list, 0 of an empty one
abbrev pub greatest : List ℕ → ℕ
greatest [] = 0
greatest (x ∷ xs) = max x (greatest xs)

-- the least number of a list, 0 of an empty one
abbrev pub least : List ℕ → ℕ
least [] = 0
least (x ∷ []) = x
least (x ∷ y ∷ xs) = min x (least (y ∷ xs))
