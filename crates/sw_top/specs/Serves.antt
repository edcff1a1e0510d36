-- What the top call does to a host that tells, by the command that its words spell.
use Rattle.std.specs.Prelude.{◌≡◌, ℕ, List, Option, Some, None, Result}
use Rattle.sw_host.specs.declared.host.HostFault.{HostFault}
use Rattle.sw_host.specs.Told.{Told}
use Rattle.sw_host.specs.Calls.{Lines}
use Rattle.sw_top.specs.declared.command.Command.{Command}
use Rattle.sw_top.specs.declared.command.Command.TheVariants.{Rewrite, Run}
use Rattle.sw_top.specs.declared.end.End.{End}
use Rattle.sw_top.specs.declared.end.End.TheVariants.{Usage}
use Rattle.sw_top.specs.Ends.{line_of}
use Rattle.sw_top.specs.Rewriting.{PerformsRewrite}
use Rattle.sw_top.specs.Running.{PerformsRun}

-- A line is said once, where there is one, and its call changes nothing else, whatever it answers.
abbrev pub SaysLine : Option (List ℕ) → Told → Told → Type 0
SaysLine None a b = b ≡ a
SaysLine (Some text) a b = (answer : Result (Unit {0}) HostFault) × Lines text answer a b

-- The calls of a command that ends so, before the line.
abbrev pub Performs : Command → End → Told → Told → Type 0
Performs (Rewrite names) end a b = PerformsRewrite names end a b
Performs (Run running) end a b = PerformsRun running end a b

-- The calls of the command come first, and then the line of its end.
pub record PerformsThenSays (command : Command) (end : End) (a b : Told) : Type 0 where
  pub before_line : Told
  pub performs : Performs command end a before_line
  pub says : SaysLine (line_of end) before_line b

-- The words spell no command: the line of Usage is all.
pub record SaysUsage (end : End) (a b : Told) : Type 0 where
  pub is_usage : end ≡ Usage
  pub says : SaysLine (line_of Usage) a b

-- What a call does whose words spell this command, or none.
abbrev pub Serves : Option Command → End → Told → Told → Type 0
Serves None end a b = SaysUsage end a b
Serves (Some command) end a b = PerformsThenSays command end a b
