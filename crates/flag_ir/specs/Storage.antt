-- What the operations of a unit work on: registers, flags, temporaries, memory, the outside, and the open frames. All of this is own.
use Rattle.std.specs.Prelude.{ℕ, ◌==◌, cond, List, [], ◌∷◌, slice_get, Option, Some, None}
use Rattle.x86_values.specs.declared.byte.Byte.{Byte}
use Rattle.x86_values.specs.declared.word.Word.{Word}
use Rattle.x86_values.specs.Words.{word_of}
use Rattle.x86_values.specs.Sizes.{cut, no_word}
use Rattle.outside.specs.Environment.{Environment}
use Rattle.memory.specs.Memory.{Memory}
use Rattle.flag_ir.specs.declared.variable.Var.{Var}
use Rattle.flag_ir.specs.declared.variable.Var.TheVariants as var
use Rattle.flag_ir.specs.declared.variable.Term.{Term}
use Rattle.flag_ir.specs.declared.variable.Term.TheVariants as term
use Rattle.flag_ir.specs.declared.procedure.LocalSlot.{LocalSlot}
use Rattle.flag_ir.specs.declared.procedure.Proc.{Proc}

-- An open frame of a procedure: esp at the entry, which is the address of the return word; the return word and ebp as they were then;
-- the block of the caller behind the call, none where a jump opened the frame; the bytes of the frame by address; and its locals.
pub record Frame : Type 0 where
  pub proc : Proc
  pub height : ℕ
  pub word : Word
  pub ebp : Word
  pub back : Option ℕ
  pub image : ℕ → Byte
  pub locals : ℕ → Word

-- the innermost frame comes first; esp0 is esp at the start of the run
pub record Storage : Type 0 where
  pub regs : ℕ → Word
  pub flags : ℕ → Word
  pub temps : ℕ → Word
  pub memory : Memory
  pub left : Environment
  pub frames : List Frame
  pub esp0 : ℕ

-- one place has another word
abbrev pub put_word : ℕ → Word → (ℕ → Word) → ℕ → Word
put_word n w words k = cond (k == n) w (words k)

-- ---- locals: one of a size holds so many bytes
abbrev pub cut_to : Option LocalSlot → Word → Word
cut_to None w = w
cut_to (Some s) w = cut s.size w

abbrev pub with_local : ℕ → Word → List Frame → List Frame
with_local n w [] = []
with_local n w (f ∷ more) = record f { locals = put_word n (cut_to (slice_get f.proc.locals n) w) f.locals } ∷ more

abbrev pub local_in : ℕ → List Frame → Word
local_in n [] = no_word
local_in n (f ∷ more) = f.locals n

-- ---- variables and terms
abbrev pub put_var : Var → Word → Storage → Storage
put_var (var.Reg n) w u = record u { regs = put_word n w u.regs }
put_var (var.Flag n) w u = record u { flags = put_word n w u.flags }
put_var (var.Temp n) w u = record u { temps = put_word n w u.temps }
put_var (var.Local n) w u = record u { frames = with_local n w u.frames }

abbrev pub var_in : Var → Storage → Word
var_in (var.Reg n) u = u.regs n
var_in (var.Flag n) u = u.flags n
var_in (var.Temp n) u = u.temps n
var_in (var.Local n) u = local_in n u.frames

abbrev pub term_in : Term → Storage → Word
term_in (term.Var v) u = var_in v u
term_in (term.Word n) u = word_of n
