-- The commands that the words of a call spell. (own)
use Rattle.std.specs.Prelude.{ℕ, List, [], ◌∷◌, map, codes, bytes_eq, decimal, leb, ◌&&◌, Option, Some, None, if◌then◌else◌}
use Rattle.std.specs.Str.Parse.{digits_value}
use Rattle.sw_top.specs.declared.command.Command.{Command}
use Rattle.sw_top.specs.declared.command.Command.TheVariants.{Rewrite, Run}
use Rattle.sw_top.specs.Stacks.{stack_size, greatest_stack}

-- After `rewrite` come IN, OUT and MAP, and OUT and MAP are different.
abbrev pub rewrite_of : List (List ℕ) → Option Command
rewrite_of (from ∷ to ∷ map ∷ []) = if bytes_eq to map then None else Some (Rewrite (record { from = from; to = to; map = map }))
rewrite_of _ = None

-- After `run` come IN and ARGS, any number of them, with a stack of at most 128 KiB.
abbrev pub running_of : ℕ → List (List ℕ) → Option Command
running_of steps [] = None
running_of steps (from ∷ args) = if leb (stack_size (from ∷ args)) greatest_stack then Some (Run (record { from = from; words = from ∷ args; steps = steps })) else None

-- The steps of `run`.
abbrev pub plain_steps : ℕ
plain_steps = 50000000

-- The most steps that `run-steps` allows.
abbrev pub most_steps : ℕ
most_steps = 4000000000

-- The number of steps that a text says: decimal digits as a number is written, so without sign and without leading zero.
abbrev pub steps_of : List ℕ → Option ℕ
steps_of text = let number = digits_value 10 text in if bytes_eq text (decimal number) && leb number most_steps then Some number else None

-- After `run-steps` come the number of steps, IN and ARGS.
abbrev pub running_with : Option ℕ → List (List ℕ) → Option Command
running_with None words = None
running_with (Some steps) words = running_of steps words

abbrev pub run_steps_of : List (List ℕ) → Option Command
run_steps_of [] = None
run_steps_of (number ∷ words) = running_with (steps_of number) words

-- The first word says which command it is, and the words after it what it is about.
abbrev pub command_of : List (List ℕ) → Option Command
command_of [] = None
command_of (first ∷ rest) =
    if bytes_eq first (codes "rewrite") then rewrite_of rest
    else if bytes_eq first (codes "run") then running_of plain_steps rest
    else if bytes_eq first (codes "run-steps") then run_steps_of rest
    else None
