-- The best of a form spells the instruction.
use Rattle.std.proofs.Common.{◌≡◌, ℕ, Bool, true, false, not, eqb, ◌||◌, List, ◌++◌, Option, refl, sym, ap, arith}
use Rattle.std.specs.List.{AllByRecursion}
use Rattle.x86_types.specs.Numbers.{reg_of, number_of_reg}
use Rattle.x86_types.specs.declared.operand.Reg.{Reg}
use Rattle.x86_types.specs.declared.operand.Rm.{Rm}
use Rattle.x86_types.specs.declared.instr.Instr.{Instr}
use Rattle.x86_grammar.specs.declared.row.Form.{Form}
use Rattle.x86_grammar.specs.declared.row.Row.{Row}
use Rattle.x86_grammar.specs.Rows.{opcode_of, has_operand}
use Rattle.x86_grammar.specs.Attributes.{has_operand_size, imm_size, rep_fits}
use Rattle.x86_grammar.specs.FormLaws.{FormSuits, FormFits}
use Rattle.x86_grammar.specs.Forms.{In, forms}
use Rattle.byte_lists.specs.LittleEndian.{le}
use Rattle.x86_grammar.specs.Operand.{Operand}
use Rattle.x86_grammar.specs.Spells.{is_prefix, counts_of, prefixes_fit, operand_size_in, opcode_bytes, operand_part, spelling_bytes, Spelling, Spells}
use Rattle.x86_encode.specs.BestForm.{best_prefixes, best_operand, best_part, form_best}
use Rattle.x86_encode.proofs.ReadBack.{Shown, operand_shown}
use Rattle.x86_encode.proofs.Short.{suited_short}

-- ---- the prefixes

-- the best prefixes are ones that the row knows, and say what the form says
record PrefixesServe (r : Row) (h p : Bool) : Type 0 where
  are : AllByRecursion (λ b. is_prefix b ≡ true) (best_prefixes h p)
  fit : prefixes_fit r (counts_of (best_prefixes h p)) ≡ true
  operand_size : h ≡ operand_size_in r (counts_of (best_prefixes h p))
  rep : p ≡ eqb (counts_of (best_prefixes h p)).repeats 1

prefixes_serve : (r : Row) (h p : Bool) → (not h || has_operand_size r) ≡ true → rep_fits r p ≡ true → PrefixesServe r h p
prefixes_serve r true true a b = record { are = (refl, (refl, tt)); fit = rw (a, b) refl; operand_size = sym a; rep = refl }
prefixes_serve r true false a b = record { are = (refl, tt); fit = rw (a, b) refl; operand_size = sym a; rep = refl }
prefixes_serve r false true a b = record { are = (refl, tt); fit = rw b refl; operand_size = refl; rep = refl }
prefixes_serve r false false a b = record { are = tt; fit = rw b refl; operand_size = refl; rep = refl }

-- ---- the whole

part_is : (b : Bool) (x : Option Rm) (n : ℕ) (o : Operand) → operand_part true o ≡ best_operand x n → operand_part b o ≡ best_part b x n
part_is true x n o e = e
part_is false x n o e = refl

module _ (again : (r : Reg) → reg_of (number_of_reg r) ≡ r) (i : Instr) (f : Form) (among : In f (forms i)) (fits : FormFits f) (suits : FormSuits f) where
  shown : Shown f.reg_field f.rm (best_operand f.rm f.reg_field)
  shown = operand_shown again f.reg_field fits.reg_field f.rm fits.operand

  spelling : Spelling
  spelling = record { prefixes = best_prefixes f.operand_size f.rep; form = f; operand = shown.operand }

  bytes_are : form_best f ≡ spelling_bytes spelling
  unfolding spelling
  bytes_are = ap (λ (x : List ℕ). best_prefixes f.operand_size f.rep ++ (opcode_bytes (opcode_of f.row) ++ (x ++ le (imm_size f.row f.operand_size) f.imm))) (sym (part_is (has_operand f.row) f.rm f.reg_field shown.operand shown.bytes_are))

  pub form_spelled : Spells (form_best f) i
  unfolding spelling
  form_spelled =
      let s = suited_short f suits in
      let front = prefixes_serve f.row f.operand_size f.rep suits.operand_size suits.rep in
      record {
        spelling = spelling;
        right = record {
          among = among;
          prefixes = front.are;
          fit = front.fit;
          operand_size = front.operand_size;
          rep = front.rep;
          operand = λ e. record { is = shown.is; reg_field = shown.reg_field; rm = shown.rm };
          imm = fits.imm;
        };
        bytes_are = bytes_are;
        short = omega arith;
      }

  pub form_is : (form_spelled).spelling.form ≡ f
  unfolding spelling form_spelled
  form_is = refl
