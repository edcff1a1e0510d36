-- Worked rows of the conditions. A flag that isn't named is unspecified where a condition is known; where one that is named is
-- unspecified, all others are known.
use Rattle.std.specs.Prelude.{◌≡◌, true, false, Bool, List, [], ◌∷◌, map, Option, Some, None}
use Rattle.x86_types.specs.declared.operation.Cond.TheVariants as cond
use Rattle.x86_values.specs.declared.word.Flags.{Flags}
use Rattle.x86_values.specs.Conditions.{condition}
use Rattle.x86_values.specs.WrittenOut.{flag, flags, unknown_flags}

abbrev pub is_true : Option Bool
is_true = Some true

abbrev pub is_false : Option Bool
is_false = Some false

-- one flag, 1 and 0, of which alone anything is known
abbrev pub cf_alone : List Flags
cf_alone = map (λ n. record unknown_flags { cf = flag n }) (1 ∷ 0 ∷ [])

abbrev pub pf_alone : List Flags
pf_alone = map (λ n. record unknown_flags { pf = flag n }) (1 ∷ 0 ∷ [])

abbrev pub zf_alone : List Flags
zf_alone = map (λ n. record unknown_flags { zf = flag n }) (1 ∷ 0 ∷ [])

abbrev pub sf_alone : List Flags
sf_alone = map (λ n. record unknown_flags { sf = flag n }) (1 ∷ 0 ∷ [])

abbrev pub of_alone : List Flags
of_alone = map (λ n. record unknown_flags { of = flag n }) (1 ∷ 0 ∷ [])

-- one flag, of which alone nothing is known; the others are all 1, and all 0
abbrev pub all_alike : List Flags
all_alike = flags 1 1 1 1 1 ∷ flags 0 0 0 0 0 ∷ []

abbrev pub without_cf : List Flags
without_cf = map (λ (f : Flags). record f { cf = None }) all_alike

abbrev pub without_pf : List Flags
without_pf = map (λ (f : Flags). record f { pf = None }) all_alike

abbrev pub without_zf : List Flags
without_zf = map (λ (f : Flags). record f { zf = None }) all_alike

abbrev pub without_sf : List Flags
without_sf = map (λ (f : Flags). record f { sf = None }) all_alike

abbrev pub without_of : List Flags
without_of = map (λ (f : Flags). record f { of = None }) all_alike

-- the conditions that name one flag
pub record OfOneFlag : Type 0 where
  pub overflow : map (condition cond.O) of_alone ≡ is_true ∷ is_false ∷ []
  pub no_overflow : map (condition cond.No) of_alone ≡ is_false ∷ is_true ∷ []
  pub below : map (condition cond.B) cf_alone ≡ is_true ∷ is_false ∷ []
  pub above_or_equal : map (condition cond.Ae) cf_alone ≡ is_false ∷ is_true ∷ []
  pub equal : map (condition cond.E) zf_alone ≡ is_true ∷ is_false ∷ []
  pub not_equal : map (condition cond.Ne) zf_alone ≡ is_false ∷ is_true ∷ []
  pub sign : map (condition cond.S) sf_alone ≡ is_true ∷ is_false ∷ []
  pub no_sign : map (condition cond.Ns) sf_alone ≡ is_false ∷ is_true ∷ []
  pub parity_even : map (condition cond.P) pf_alone ≡ is_true ∷ is_false ∷ []
  pub parity_odd : map (condition cond.Np) pf_alone ≡ is_false ∷ is_true ∷ []

pub record OfOneUnspecified : Type 0 where
  pub overflow : map (condition cond.O) without_of ≡ None ∷ None ∷ []
  pub no_overflow : map (condition cond.No) without_of ≡ None ∷ None ∷ []
  pub below : map (condition cond.B) without_cf ≡ None ∷ None ∷ []
  pub above_or_equal : map (condition cond.Ae) without_cf ≡ None ∷ None ∷ []
  pub equal : map (condition cond.E) without_zf ≡ None ∷ None ∷ []
  pub not_equal : map (condition cond.Ne) without_zf ≡ None ∷ None ∷ []
  pub sign : map (condition cond.S) without_sf ≡ None ∷ None ∷ []
  pub no_sign : map (condition cond.Ns) without_sf ≡ None ∷ None ∷ []
  pub parity_even : map (condition cond.P) without_pf ≡ None ∷ None ∷ []
  pub parity_odd : map (condition cond.Np) without_pf ≡ None ∷ None ∷ []

-- CF and ZF: 1 and 1, 1 and 0, 0 and 1, 0 and 0
abbrev pub carry_and_zero : List Flags
carry_and_zero = map (λ (f : Flags). record f { pf = None; sf = None; of = None }) (flags 1 0 1 0 0 ∷ flags 1 0 0 0 0 ∷ flags 0 0 1 0 0 ∷ flags 0 0 0 0 0 ∷ [])

-- SF and OF, likewise
abbrev pub sign_and_overflow : List Flags
sign_and_overflow = map (λ (f : Flags). record f { cf = None; pf = None; zf = None }) (flags 0 0 0 1 1 ∷ flags 0 0 0 1 0 ∷ flags 0 0 0 0 1 ∷ flags 0 0 0 0 0 ∷ [])

-- the conditions that name two flags
pub record OfTwoFlags : Type 0 where
  pub below_or_equal : map (condition cond.Be) carry_and_zero ≡ is_true ∷ is_true ∷ is_true ∷ is_false ∷ []
  pub above : map (condition cond.A) carry_and_zero ≡ is_false ∷ is_false ∷ is_false ∷ is_true ∷ []
  pub less : map (condition cond.L) sign_and_overflow ≡ is_false ∷ is_true ∷ is_true ∷ is_false ∷ []
  pub greater_or_equal : map (condition cond.Ge) sign_and_overflow ≡ is_true ∷ is_false ∷ is_false ∷ is_true ∷ []

-- also where the other flag alone would decide
pub record OfTwoUnspecified : Type 0 where
  pub below_or_equal_cf : map (condition cond.Be) without_cf ≡ None ∷ None ∷ []
  pub below_or_equal_zf : map (condition cond.Be) without_zf ≡ None ∷ None ∷ []
  pub above_cf : map (condition cond.A) without_cf ≡ None ∷ None ∷ []
  pub above_zf : map (condition cond.A) without_zf ≡ None ∷ None ∷ []
  pub less_sf : map (condition cond.L) without_sf ≡ None ∷ None ∷ []
  pub less_of : map (condition cond.L) without_of ≡ None ∷ None ∷ []
  pub greater_or_equal_sf : map (condition cond.Ge) without_sf ≡ None ∷ None ∷ []
  pub greater_or_equal_of : map (condition cond.Ge) without_of ≡ None ∷ None ∷ []

-- ZF, SF and OF: ZF 1 before ZF 0, and each of the two with SF and OF as above
abbrev pub zero_sign_and_overflow : List Flags
zero_sign_and_overflow =
    map (λ (f : Flags). record f { cf = None; pf = None }) (flags 0 0 1 1 1 ∷ flags 0 0 1 1 0 ∷ flags 0 0 1 0 1 ∷ flags 0 0 1 0 0 ∷ flags 0 0 0 1 1 ∷ flags 0 0 0 1 0 ∷ flags 0 0 0 0 1 ∷ flags 0 0 0 0 0 ∷ [])

-- SF differs from OF, so that ZF isn't wanted; ZF is set, so that neither of the others is
abbrev pub decided : List Flags
decided = record (flags 0 0 0 1 0) { zf = None } ∷ record (flags 0 0 0 0 1) { zf = None } ∷ record (flags 0 0 1 0 1) { sf = None } ∷ record (flags 0 0 1 1 0) { of = None } ∷ []

-- the conditions that name three flags
pub record OfThreeFlags : Type 0 where
  pub less_or_equal : map (condition cond.Le) zero_sign_and_overflow ≡ is_true ∷ is_true ∷ is_true ∷ is_true ∷ is_false ∷ is_true ∷ is_true ∷ is_false ∷ []
  pub greater : map (condition cond.G) zero_sign_and_overflow ≡ is_false ∷ is_false ∷ is_false ∷ is_false ∷ is_true ∷ is_false ∷ is_false ∷ is_true ∷ []
  pub less_or_equal_zf : map (condition cond.Le) without_zf ≡ None ∷ None ∷ []
  pub less_or_equal_sf : map (condition cond.Le) without_sf ≡ None ∷ None ∷ []
  pub less_or_equal_of : map (condition cond.Le) without_of ≡ None ∷ None ∷ []
  pub less_or_equal_decided : map (condition cond.Le) decided ≡ None ∷ None ∷ None ∷ None ∷ []
  pub greater_zf : map (condition cond.G) without_zf ≡ None ∷ None ∷ []
  pub greater_sf : map (condition cond.G) without_sf ≡ None ∷ None ∷ []
  pub greater_of : map (condition cond.G) without_of ≡ None ∷ None ∷ []
  pub greater_decided : map (condition cond.G) decided ≡ None ∷ None ∷ None ∷ None ∷ []
