-- Found code that is worked by hand.
use Rattle.std.specs.Prelude.{ℕ, List, [], ◌∷◌}

-- the addresses of its instructions and of its procedures
abbrev pub worked_addresses : List ℕ
worked_addresses = 0x08049000 ∷ 0x08049002 ∷ 0x08049004 ∷ 0x08049009 ∷ 0x0804900C ∷ 0x0804900E ∷ 0x08049013 ∷ 0x08049016 ∷ 0x0804901A ∷ 0x0804901E ∷ []

abbrev pub worked_procedures : List ℕ
worked_procedures = 0x08049000 ∷ 0x08049016 ∷ []
