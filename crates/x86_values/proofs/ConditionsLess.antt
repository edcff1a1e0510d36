-- Conditions are monotone in what is specified.
use Rattle.std.proofs.Common.{Bool, not, Option, Some, None, refl}
use Rattle.std.specs.Option.{option_map}
use Rattle.x86_types.specs.declared.operation.Cond.{Cond}
use Rattle.x86_types.specs.declared.operation.Cond.TheVariants as cond
use Rattle.x86_values.specs.declared.word.Flags.{Flags}
use Rattle.x86_values.specs.Conditions.{of_two, of_three, is_below_or_equal, is_less_or_equal, condition}
use Rattle.x86_values.specs.ConditionLaws.{ConditionLaws}
use Rattle.x86_values.specs.LessSpecified.{FlagLessSpecified, FlagsLessSpecified}
use Rattle.x86_values.specs.Results.{differ}

not_less : (a x : Option Bool) → FlagLessSpecified a x → FlagLessSpecified (option_map not a) (option_map not x)
not_less (Some a) x h = rw h refl
not_less None x h = tt

two_less : (f : Bool → Bool → Bool) (a b x y : Option Bool) → FlagLessSpecified a x → FlagLessSpecified b y → FlagLessSpecified (of_two f a b) (of_two f x y)
two_less f (Some a) (Some b) x y h k = rw (h, k) refl
two_less f (Some a) None x y h k = tt
two_less f None b x y h k = tt

three_less : (f : Bool → Bool → Bool → Bool) (a b c x y z : Option Bool) → FlagLessSpecified a x → FlagLessSpecified b y → FlagLessSpecified c z → FlagLessSpecified (of_three f a b c) (of_three f x y z)
three_less f (Some a) (Some b) (Some c) x y z h k l = rw (h, k, l) refl
three_less f (Some a) (Some b) None x y z h k l = tt
three_less f (Some a) None c x y z h k l = tt
three_less f None b c x y z h k l = tt

condition_less : (c : Cond) (f g : Flags) → FlagsLessSpecified f g → FlagLessSpecified (condition c f) (condition c g)
condition_less cond.O f g h = h.of
condition_less cond.No f g h = not_less f.of g.of h.of
condition_less cond.B f g h = h.cf
condition_less cond.Ae f g h = not_less f.cf g.cf h.cf
condition_less cond.E f g h = h.zf
condition_less cond.Ne f g h = not_less f.zf g.zf h.zf
condition_less cond.Be f g h = two_less is_below_or_equal f.cf f.zf g.cf g.zf h.cf h.zf
condition_less cond.A f g h = not_less (of_two is_below_or_equal f.cf f.zf) (of_two is_below_or_equal g.cf g.zf) (two_less is_below_or_equal f.cf f.zf g.cf g.zf h.cf h.zf)
condition_less cond.S f g h = h.sf
condition_less cond.Ns f g h = not_less f.sf g.sf h.sf
condition_less cond.P f g h = h.pf
condition_less cond.Np f g h = not_less f.pf g.pf h.pf
condition_less cond.L f g h = two_less differ f.sf f.of g.sf g.of h.sf h.of
condition_less cond.Ge f g h = not_less (of_two differ f.sf f.of) (of_two differ g.sf g.of) (two_less differ f.sf f.of g.sf g.of h.sf h.of)
condition_less cond.Le f g h = three_less is_less_or_equal f.zf f.sf f.of g.zf g.sf g.of h.zf h.sf h.of
condition_less cond.G f g h = not_less (of_three is_less_or_equal f.zf f.sf f.of) (of_three is_less_or_equal g.zf g.sf g.of) (three_less is_less_or_equal f.zf f.sf f.of g.zf g.sf g.of h.zf h.sf h.of)

pub condition_laws : ConditionLaws
condition_laws = record { condition_less = condition_less }
