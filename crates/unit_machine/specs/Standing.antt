-- Where the machine of a unit stands: what its values and its memory are of a storage. No frame is open. All of this is own.
use Rattle.std.specs.Prelude.{◌≡◌, ℕ, List, [], slice_index_or, Option, Some}
use Rattle.outside.specs.Environment.{Environment}
use Rattle.x86_values.specs.declared.word.Word.{Word}
use Rattle.x86_values.specs.Words.{word_of}
use Rattle.x86_values.specs.Sizes.{no_word}
use Rattle.memory.specs.Memory.{Memory}
use Rattle.flag_ir.specs.declared.variable.Var.{Var}
use Rattle.flag_ir.specs.Storage.{Storage, put_var}
use Rattle.traces.specs.Trace.{End, Stopped}
use Rattle.mem_pages.specs.Ends.{end_of_run}
use Rattle.unit_machine.specs.declared.end.UnitEnd.{UnitEnd}
use Rattle.unit_machine.specs.declared.end.UnitEnd.TheVariants as unitend
use Rattle.unit_machine.specs.declared.values.Values.{Values}

-- words by number; a further one is unspecified, and a further register 0
abbrev pub words_of : List Word → ℕ → Word
words_of ws k = slice_index_or ws k no_word

abbrev pub registers_of : List Word → ℕ → Word
registers_of ws k = slice_index_or ws k (word_of 0)

abbrev pub storage_of : Values → Memory → Environment → Storage
storage_of v m left = record { regs = registers_of v.regs; flags = words_of v.flags; temps = words_of v.temps.items; memory = m; left = left; frames = []; esp0 = v.esp0 }

-- the values after a variable is made another word
abbrev pub Puts : Var → Word → Values → Values → Type 0
Puts to word v w = (m : Memory) (left : Environment) → storage_of w m left ≡ put_var to word (storage_of v m left)

-- the end of a run of a unit that has ended
abbrev pub end_of_unit : UnitEnd → Option End
end_of_unit (unitend.Run end) = end_of_run end
end_of_unit (unitend.Stopped a) = Some (Stopped a)
