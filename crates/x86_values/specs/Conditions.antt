-- The conditions (Intel SDM volume 1, appendix B, table B-1). Each flag that a condition names is read: where one of them is
-- unspecified so is the condition, whatever the other is (own).
use Rattle.std.specs.Prelude.{◌||◌, Bool, not, Option, Some, None}
use Rattle.std.specs.Option.{option_map}
use Rattle.x86_types.specs.declared.operation.Cond.{Cond}
use Rattle.x86_types.specs.declared.operation.Cond.TheVariants as cond
use Rattle.x86_values.specs.declared.word.Flags.{Flags}
use Rattle.x86_values.specs.Results.{differ}

-- a test of two flags, or of three, where each is known
abbrev pub of_two : (Bool → Bool → Bool) → Option Bool → Option Bool → Option Bool
of_two f (Some a) (Some b) = Some (f a b)
of_two f _ _ = None

abbrev pub of_three : (Bool → Bool → Bool → Bool) → Option Bool → Option Bool → Option Bool → Option Bool
of_three f (Some a) (Some b) (Some c) = Some (f a b c)
of_three f _ _ _ = None

-- CF or ZF
abbrev pub is_below_or_equal : Bool → Bool → Bool
is_below_or_equal cf zf = cf || zf

-- ZF, or SF differs from OF
abbrev pub is_less_or_equal : Bool → Bool → Bool → Bool
is_less_or_equal zf sf of = zf || differ sf of

abbrev pub condition : Cond → Flags → Option Bool
condition cond.O f = f.of
condition cond.No f = option_map not f.of
condition cond.B f = f.cf
condition cond.Ae f = option_map not f.cf
condition cond.E f = f.zf
condition cond.Ne f = option_map not f.zf
condition cond.Be f = of_two is_below_or_equal f.cf f.zf
condition cond.A f = option_map not (of_two is_below_or_equal f.cf f.zf)
condition cond.S f = f.sf
condition cond.Ns f = option_map not f.sf
condition cond.P f = f.pf
condition cond.Np f = option_map not f.pf
condition cond.L f = of_two differ f.sf f.of
condition cond.Ge f = option_map not (of_two differ f.sf f.of)
condition cond.Le f = of_three is_less_or_equal f.zf f.sf f.of
condition cond.G f = option_map not (of_three is_less_or_equal f.zf f.sf f.of)
