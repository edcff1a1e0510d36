-- In part written by tools/worked.py.
-- Worked spellings of each row of the list, by the manual's pages, and bytes that spell nothing. Each is
-- computed by the checker.
use Rattle.std.proofs.Common.{◌≡◌, ℕ, ◌/◌, ◌%◌, ◌^◌, Bool, true, false, not, ltb, leb, eqb, ◌&&◌, ◌||◌, List, [], ◌∷◌, length, Some, None, inl, inr, refl, sym, ap, ◌∙◌, arith}
use Rattle.std.proofs.lemmas.Bool.{ltb-true, leb-true, eqb-true, false≢true}
use Rattle.std.proofs.lemmas.List.{append-nil}
use Rattle.std.specs.Prelude.{IfSome}
use Rattle.std.specs.List.{AllByRecursion}
use Rattle.x86_types.specs.declared.operand.Reg.TheVariants as reg
use Rattle.x86_types.specs.declared.operand.Rm.TheVariants as rm
use Rattle.x86_types.specs.declared.operand.Src.TheVariants as src
use Rattle.x86_types.specs.declared.operation.AluOp.TheVariants as alu
use Rattle.x86_types.specs.declared.operation.ShiftOp.TheVariants as shift
use Rattle.x86_types.specs.declared.operation.Count.TheVariants as count
use Rattle.x86_types.specs.declared.operation.Cond.TheVariants as cond
use Rattle.x86_types.specs.declared.width.Width.TheVariants.{One, Two, Four}
use Rattle.x86_types.specs.declared.instr.Instr.{Instr}
use Rattle.x86_types.specs.declared.instr.Instr.TheVariants as instr
use Rattle.x86_grammar.specs.declared.row.Form.{Form}
use Rattle.x86_grammar.specs.declared.reading.Seen.TheVariants.{Found, Never}
use Rattle.x86_grammar.specs.Table.{entry_of}
use Rattle.x86_grammar.specs.Rows.{has_operand}
use Rattle.x86_grammar.specs.Attributes.{imm_size}
use Rattle.x86_grammar.specs.Forms.{forms, In}
use Rattle.x86_grammar.specs.Operand.{Operand, IsOperand, has_sib, disp_size, rm_of}
use Rattle.x86_grammar.specs.Spells.{is_prefix, counts_of, prefixes_fit, operand_size_in, spelling_bytes, Spells}
use Rattle.x86_grammar.specs.Reading.{numbers, sib_at, after_m, m_at, plain_at, after_opcode, after_escape, at_opcode, read_from, read}
use Rattle.x86_grammar.specs.Worked.{at, AllSpelled, NoneSpelled}
use Rattle.x86_grammar.proofs.Map.{and_left, and_right}
use Rattle.x86_grammar.proofs.Whole.{spells_whole}

abbrev operand : ℕ → ℕ → ℕ → Operand
operand m s d = record { m = m; sib = s; disp = d }

abbrev all_prefixes : List ℕ → Bool
all_prefixes [] = true
all_prefixes (b ∷ bs) = is_prefix b && all_prefixes bs

abbrev agree : Bool → Bool → Bool
agree true b = b
agree false b = not b

abbrev is_operand : Operand → ℕ → Bool
is_operand o n = ltb o.m 256 && (ltb o.sib 256 && ((has_sib o.m || eqb o.sib 0) && (ltb o.disp (256 ^ disp_size o.m o.sib) && eqb (o.m / 8 % 8) n)))

abbrev right : List ℕ → Form → Operand → Bool
right ps f o = all_prefixes ps && (prefixes_fit f.row (counts_of ps) && (agree f.operand_size (operand_size_in f.row (counts_of ps)) && (agree f.rep (eqb (counts_of ps).repeats 1) && ((not (has_operand f.row) || is_operand o f.reg_field) && (ltb f.imm (256 ^ imm_size f.row f.operand_size) && leb (length (spelling_bytes (record { prefixes = ps; form = f; operand = o }))) 15)))))

prefixes_all : (ps : List ℕ) → all_prefixes ps ≡ true → AllByRecursion (λ b. is_prefix b ≡ true) ps
prefixes_all [] h = tt
prefixes_all (b ∷ bs) h = (and_left (is_prefix b) (all_prefixes bs) h, prefixes_all bs (and_right (is_prefix b) (all_prefixes bs) h))

agrees : (a b : Bool) → agree a b ≡ true → a ≡ b
agrees true true h = refl
agrees true false h = absurd (false≢true h)
agrees false true h = absurd (false≢true h)
agrees false false h = refl

or_right : (a b : Bool) → (not a || b) ≡ true → a ≡ true → b ≡ true
or_right true b h e = h
or_right false b h e = absurd (false≢true e)

or_zero : (a b : Bool) → (a || b) ≡ true → a ≡ false → b ≡ true
or_zero true b h e = absurd (false≢true (sym e))
or_zero false b h e = h

operand_is : (o : Operand) (n : ℕ) → is_operand o n ≡ true → IsOperand o × (o.m / 8 % 8 ≡ n)
operand_is o n h =
    let b = and_right (ltb o.m 256) _ h in
    let c = and_right (ltb o.sib 256) _ b in
    let d = and_right (has_sib o.m || eqb o.sib 0) _ c in
    (record { m = ltb-true _ _ (and_left (ltb o.m 256) _ h); sib = ltb-true _ _ (and_left (ltb o.sib 256) _ b); none = λ e. eqb-true _ _ (or_zero (has_sib o.m) (eqb o.sib 0) (and_left (has_sib o.m || eqb o.sib 0) _ c) e); disp = ltb-true _ _ (and_left (ltb o.disp (256 ^ disp_size o.m o.sib)) _ d) }, eqb-true _ _ (and_right (ltb o.disp (256 ^ disp_size o.m o.sib)) _ d))

pub spelled : (ps : List ℕ) (f : Form) (o : Operand) (i : Instr) → In f (forms i) → IfSome f.rm (λ m. rm_of o.m o.sib o.disp ≡ m) → right ps f o ≡ true → Spells (spelling_bytes (record { prefixes = ps; form = f; operand = o })) i
spelled ps f o i among rm h =
    let h1 = and_right (all_prefixes ps) _ h in
    let h2 = and_right (prefixes_fit f.row (counts_of ps)) _ h1 in
    let h3 = and_right (agree f.operand_size (operand_size_in f.row (counts_of ps))) _ h2 in
    let h4 = and_right (agree f.rep (eqb (counts_of ps).repeats 1)) _ h3 in
    let h5 = and_right (not (has_operand f.row) || is_operand o f.reg_field) _ h4 in
    record {
      spelling = record { prefixes = ps; form = f; operand = o };
      right = record {
        among = among;
        prefixes = prefixes_all ps (and_left (all_prefixes ps) _ h);
        fit = and_left (prefixes_fit f.row (counts_of ps)) _ h1;
        operand_size = agrees _ _ (and_left (agree f.operand_size (operand_size_in f.row (counts_of ps))) _ h2);
        rep = agrees _ _ (and_left (agree f.rep (eqb (counts_of ps).repeats 1)) _ h3);
        operand = λ e. let w = operand_is o f.reg_field (or_right (has_operand f.row) (is_operand o f.reg_field) (and_left (not (has_operand f.row) || is_operand o f.reg_field) _ h4) e) in record { is = w.0; reg_field = w.1; rm = rm };
        imm = ltb-true _ _ (and_left (ltb f.imm (256 ^ imm_size f.row f.operand_size)) _ h5);
      };
      bytes_are = refl;
      short = leb-true _ _ (and_right (ltb f.imm (256 ^ imm_size f.row f.operand_size)) _ h5);
    }

-- ---- what is spelled, by tools/worked.py

-- 00 C8
spelled_0 : Spells (0x00 ∷ 0xC8 ∷ []) (instr.Alu alu.Add One (rm.Reg reg.Eax) (src.Reg reg.Ecx))
spelled_0 = spelled ([]) _ (operand 0xC8 0 0) _ (inl refl) refl refl

-- 66 83 C0 FF
spelled_1 : Spells (0x66 ∷ 0x83 ∷ 0xC0 ∷ 0xFF ∷ []) (instr.Alu alu.Add Two (rm.Reg reg.Eax) (src.Imm 0xFFFF))
spelled_1 = spelled (0x66 ∷ []) _ (operand 0xC0 0 0) _ (inr (inr (inl refl))) refl refl

-- 2B 0C 24
spelled_2 : Spells (0x2B ∷ 0x0C ∷ 0x24 ∷ []) (instr.Alu alu.Sub Four (rm.Reg reg.Ecx) (src.Mem (at (Some reg.Esp) None 1 0)))
spelled_2 = spelled ([]) _ (operand 0x0C 0x24 0) _ (inl refl) refl refl

-- 3D 78 56 34 12
spelled_3 : Spells (0x3D ∷ 0x78 ∷ 0x56 ∷ 0x34 ∷ 0x12 ∷ []) (instr.Alu alu.Cmp Four (rm.Reg reg.Eax) (src.Imm 0x12345678))
spelled_3 = spelled ([]) _ (operand 0 0 0) _ (inr (inl refl)) tt refl

-- 85 C0
spelled_4 : Spells (0x85 ∷ 0xC0 ∷ []) (instr.Test Four (rm.Reg reg.Eax) (src.Reg reg.Eax))
spelled_4 = spelled ([]) _ (operand 0xC0 0 0) _ (inl refl) refl refl

-- A8 01
spelled_5 : Spells (0xA8 ∷ 0x01 ∷ []) (instr.Test One (rm.Reg reg.Eax) (src.Imm 1))
spelled_5 = spelled ([]) _ (operand 0 0 0) _ (inr (inl refl)) tt refl

-- 66 F7 45 FC 34 12
spelled_6 : Spells (0x66 ∷ 0xF7 ∷ 0x45 ∷ 0xFC ∷ 0x34 ∷ 0x12 ∷ []) (instr.Test Two (rm.Mem (at (Some reg.Ebp) None 1 0xFFFFFFFC)) (src.Imm 0x1234))
spelled_6 = spelled (0x66 ∷ []) _ (operand 0x45 0 0xFC) _ (inl refl) refl refl

-- B8 01 00 00 00
spelled_7 : Spells (0xB8 ∷ 0x01 ∷ 0x00 ∷ 0x00 ∷ 0x00 ∷ []) (instr.Mov Four (rm.Reg reg.Eax) (src.Imm 1))
spelled_7 = spelled ([]) _ (operand 0 0 0) _ (inr (inl refl)) tt refl

-- 8A A0 00 01 00 00
spelled_8 : Spells (0x8A ∷ 0xA0 ∷ 0x00 ∷ 0x01 ∷ 0x00 ∷ 0x00 ∷ []) (instr.Mov One (rm.Reg reg.Esp) (src.Mem (at (Some reg.Eax) None 1 0x100)))
spelled_8 = spelled ([]) _ (operand 0xA0 0 0x100) _ (inl refl) refl refl

-- A1 00 A0 04 08
spelled_9 : Spells (0xA1 ∷ 0x00 ∷ 0xA0 ∷ 0x04 ∷ 0x08 ∷ []) (instr.Mov Four (rm.Reg reg.Eax) (src.Mem (at None None 1 0x804A000)))
spelled_9 = spelled ([]) _ (operand 0 0 0) _ (inr (inl refl)) tt refl

-- 66 A3 00 A0 04 08
spelled_10 : Spells (0x66 ∷ 0xA3 ∷ 0x00 ∷ 0xA0 ∷ 0x04 ∷ 0x08 ∷ []) (instr.Mov Two (rm.Mem (at None None 1 0x804A000)) (src.Reg reg.Eax))
spelled_10 = spelled (0x66 ∷ []) _ (operand 0 0 0) _ (inr (inl refl)) tt refl

-- 8B 44 8D FC
spelled_11 : Spells (0x8B ∷ 0x44 ∷ 0x8D ∷ 0xFC ∷ []) (instr.Mov Four (rm.Reg reg.Eax) (src.Mem (at (Some reg.Ebp) (Some reg.Ecx) 4 0xFFFFFFFC)))
spelled_11 = spelled ([]) _ (operand 0x44 0x8D 0xFC) _ (inl refl) refl refl

-- 8B 04 64
spelled_12 : Spells (0x8B ∷ 0x04 ∷ 0x64 ∷ []) (instr.Mov Four (rm.Reg reg.Eax) (src.Mem (at (Some reg.Esp) None 1 0)))
spelled_12 = spelled ([]) _ (operand 0x04 0x64 0) _ (inl refl) refl refl

-- 66 B8 34 12
spelled_13 : Spells (0x66 ∷ 0xB8 ∷ 0x34 ∷ 0x12 ∷ []) (instr.Mov Two (rm.Reg reg.Eax) (src.Imm 0x1234))
spelled_13 = spelled (0x66 ∷ []) _ (operand 0 0 0) _ (inr (inl refl)) tt refl

-- B4 01
spelled_14 : Spells (0xB4 ∷ 0x01 ∷ []) (instr.Mov One (rm.Reg reg.Esp) (src.Imm 1))
spelled_14 = spelled ([]) _ (operand 0 0 0) _ (inr (inl refl)) tt refl

-- 88 E9
spelled_15 : Spells (0x88 ∷ 0xE9 ∷ []) (instr.Mov One (rm.Reg reg.Ecx) (src.Reg reg.Ebp))
spelled_15 = spelled ([]) _ (operand 0xE9 0 0) _ (inl refl) refl refl

-- 8A FE
spelled_16 : Spells (0x8A ∷ 0xFE ∷ []) (instr.Mov One (rm.Reg reg.Edi) (src.Reg reg.Esi))
spelled_16 = spelled ([]) _ (operand 0xFE 0 0) _ (inr (inl refl)) refl refl

-- 8D 04 8D 00 00 00 00
spelled_17 : Spells (0x8D ∷ 0x04 ∷ 0x8D ∷ 0x00 ∷ 0x00 ∷ 0x00 ∷ 0x00 ∷ []) (instr.Lea Four reg.Eax (at None (Some reg.Ecx) 4 0))
spelled_17 = spelled ([]) _ (operand 0x04 0x8D 0) _ (inl refl) refl refl

-- 2E 66 2E 8D 41 01
spelled_18 : Spells (0x2E ∷ 0x66 ∷ 0x2E ∷ 0x8D ∷ 0x41 ∷ 0x01 ∷ []) (instr.Lea Two reg.Eax (at (Some reg.Ecx) None 1 1))
spelled_18 = spelled (0x2E ∷ 0x66 ∷ 0x2E ∷ []) _ (operand 0x41 0 0x01) _ (inl refl) refl refl

-- 40
spelled_19 : Spells (0x40 ∷ []) (instr.Inc Four (rm.Reg reg.Eax))
spelled_19 = spelled ([]) _ (operand 0 0 0) _ (inr (inl refl)) tt refl

-- FE 00
spelled_20 : Spells (0xFE ∷ 0x00 ∷ []) (instr.Inc One (rm.Mem (at (Some reg.Eax) None 1 0)))
spelled_20 = spelled ([]) _ (operand 0 0 0) _ (inl refl) refl refl

-- 66 4F
spelled_21 : Spells (0x66 ∷ 0x4F ∷ []) (instr.Dec Two (rm.Reg reg.Edi))
spelled_21 = spelled (0x66 ∷ []) _ (operand 0 0 0) _ (inr (inl refl)) tt refl

-- FF 0D 00 00 00 10
spelled_22 : Spells (0xFF ∷ 0x0D ∷ 0x00 ∷ 0x00 ∷ 0x00 ∷ 0x10 ∷ []) (instr.Dec Four (rm.Mem (at None None 1 0x10000000)))
spelled_22 = spelled ([]) _ (operand 0x0D 0 0x10000000) _ (inl refl) refl refl

-- F6 D4
spelled_23 : Spells (0xF6 ∷ 0xD4 ∷ []) (instr.Not One (rm.Reg reg.Esp))
spelled_23 = spelled ([]) _ (operand 0xD4 0 0) _ (inl refl) refl refl

-- 66 F7 D0
spelled_24 : Spells (0x66 ∷ 0xF7 ∷ 0xD0 ∷ []) (instr.Not Two (rm.Reg reg.Eax))
spelled_24 = spelled (0x66 ∷ []) _ (operand 0xD0 0 0) _ (inl refl) refl refl

-- F7 D8
spelled_25 : Spells (0xF7 ∷ 0xD8 ∷ []) (instr.Neg Four (rm.Reg reg.Eax))
spelled_25 = spelled ([]) _ (operand 0xD8 0 0) _ (inl refl) refl refl

-- F6 18
spelled_26 : Spells (0xF6 ∷ 0x18 ∷ []) (instr.Neg One (rm.Mem (at (Some reg.Eax) None 1 0)))
spelled_26 = spelled ([]) _ (operand 0x18 0 0) _ (inl refl) refl refl

-- F7 E1
spelled_27 : Spells (0xF7 ∷ 0xE1 ∷ []) (instr.Mul Four (rm.Reg reg.Ecx))
spelled_27 = spelled ([]) _ (operand 0xE1 0 0) _ (inl refl) refl refl

-- 66 F7 E9
spelled_28 : Spells (0x66 ∷ 0xF7 ∷ 0xE9 ∷ []) (instr.ImulWide Two (rm.Reg reg.Ecx))
spelled_28 = spelled (0x66 ∷ []) _ (operand 0xE9 0 0) _ (inl refl) refl refl

-- F6 F1
spelled_29 : Spells (0xF6 ∷ 0xF1 ∷ []) (instr.Div One (rm.Reg reg.Ecx))
spelled_29 = spelled ([]) _ (operand 0xF1 0 0) _ (inl refl) refl refl

-- F7 F9
spelled_30 : Spells (0xF7 ∷ 0xF9 ∷ []) (instr.Idiv Four (rm.Reg reg.Ecx))
spelled_30 = spelled ([]) _ (operand 0xF9 0 0) _ (inl refl) refl refl

-- 0F AF C1
spelled_31 : Spells (0x0F ∷ 0xAF ∷ 0xC1 ∷ []) (instr.Imul Four reg.Eax (rm.Reg reg.Ecx))
spelled_31 = spelled ([]) _ (operand 0xC1 0 0) _ (inl refl) refl refl

-- 66 0F AF 01
spelled_32 : Spells (0x66 ∷ 0x0F ∷ 0xAF ∷ 0x01 ∷ []) (instr.Imul Two reg.Eax (rm.Mem (at (Some reg.Ecx) None 1 0)))
spelled_32 = spelled (0x66 ∷ []) _ (operand 0x01 0 0) _ (inl refl) refl refl

-- 69 C1 E8 03 00 00
spelled_33 : Spells (0x69 ∷ 0xC1 ∷ 0xE8 ∷ 0x03 ∷ 0x00 ∷ 0x00 ∷ []) (instr.ImulBy Four reg.Eax (rm.Reg reg.Ecx) 0x3E8)
spelled_33 = spelled ([]) _ (operand 0xC1 0 0) _ (inl refl) refl refl

-- 66 6B C1 80
spelled_34 : Spells (0x66 ∷ 0x6B ∷ 0xC1 ∷ 0x80 ∷ []) (instr.ImulBy Two reg.Eax (rm.Reg reg.Ecx) 0xFF80)
spelled_34 = spelled (0x66 ∷ []) _ (operand 0xC1 0 0) _ (inr (inl refl)) refl refl

-- C1 E0 05
spelled_35 : Spells (0xC1 ∷ 0xE0 ∷ 0x05 ∷ []) (instr.Shift shift.Shl Four (rm.Reg reg.Eax) (count.Imm 5))
spelled_35 = spelled ([]) _ (operand 0xE0 0 0) _ (inl refl) refl refl

-- 66 D1 F8
spelled_36 : Spells (0x66 ∷ 0xD1 ∷ 0xF8 ∷ []) (instr.Shift shift.Sar Two (rm.Reg reg.Eax) (count.Imm 1))
spelled_36 = spelled (0x66 ∷ []) _ (operand 0xF8 0 0) _ (inr (inl refl)) refl refl

-- D2 C8
spelled_37 : Spells (0xD2 ∷ 0xC8 ∷ []) (instr.Shift shift.Ror One (rm.Reg reg.Eax) count.Cl)
spelled_37 = spelled ([]) _ (operand 0xC8 0 0) _ (inl refl) refl refl

-- 0F A4 C8 03
spelled_38 : Spells (0x0F ∷ 0xA4 ∷ 0xC8 ∷ 0x03 ∷ []) (instr.Shld (rm.Reg reg.Eax) reg.Ecx (count.Imm 3))
spelled_38 = spelled ([]) _ (operand 0xC8 0 0) _ (inl refl) refl refl

-- 0F A5 C8
spelled_39 : Spells (0x0F ∷ 0xA5 ∷ 0xC8 ∷ []) (instr.Shld (rm.Reg reg.Eax) reg.Ecx count.Cl)
spelled_39 = spelled ([]) _ (operand 0xC8 0 0) _ (inl refl) refl refl

-- 0F AC C8 03
spelled_40 : Spells (0x0F ∷ 0xAC ∷ 0xC8 ∷ 0x03 ∷ []) (instr.Shrd (rm.Reg reg.Eax) reg.Ecx (count.Imm 3))
spelled_40 = spelled ([]) _ (operand 0xC8 0 0) _ (inl refl) refl refl

-- 0F AD C8
spelled_41 : Spells (0x0F ∷ 0xAD ∷ 0xC8 ∷ []) (instr.Shrd (rm.Reg reg.Eax) reg.Ecx count.Cl)
spelled_41 = spelled ([]) _ (operand 0xC8 0 0) _ (inl refl) refl refl

-- 55
spelled_42 : Spells (0x55 ∷ []) (instr.Push (src.Reg reg.Ebp))
spelled_42 = spelled ([]) _ (operand 0 0 0) _ (inr (inl refl)) tt refl

-- 6A FF
spelled_43 : Spells (0x6A ∷ 0xFF ∷ []) (instr.Push (src.Imm 0xFFFFFFFF))
spelled_43 = spelled ([]) _ (operand 0 0 0) _ (inr (inl refl)) tt refl

-- FF 74 24 08
spelled_44 : Spells (0xFF ∷ 0x74 ∷ 0x24 ∷ 0x08 ∷ []) (instr.Push (src.Mem (at (Some reg.Esp) None 1 8)))
spelled_44 = spelled ([]) _ (operand 0x74 0x24 0x08) _ (inl refl) refl refl

-- 5D
spelled_45 : Spells (0x5D ∷ []) (instr.Pop (rm.Reg reg.Ebp))
spelled_45 = spelled ([]) _ (operand 0 0 0) _ (inr (inl refl)) tt refl

-- 8F 00
spelled_46 : Spells (0x8F ∷ 0x00 ∷ []) (instr.Pop (rm.Mem (at (Some reg.Eax) None 1 0)))
spelled_46 = spelled ([]) _ (operand 0 0 0) _ (inl refl) refl refl

-- 87 C8
spelled_47 : Spells (0x87 ∷ 0xC8 ∷ []) (instr.Xchg Four (rm.Reg reg.Eax) reg.Ecx)
spelled_47 = spelled ([]) _ (operand 0xC8 0 0) _ (inl refl) refl refl

-- 66 97
spelled_48 : Spells (0x66 ∷ 0x97 ∷ []) (instr.Xchg Two (rm.Reg reg.Eax) reg.Edi)
spelled_48 = spelled (0x66 ∷ []) _ (operand 0 0 0) _ (inr (inl refl)) tt refl

-- 0F B6 C1
spelled_49 : Spells (0x0F ∷ 0xB6 ∷ 0xC1 ∷ []) (instr.Movzx Four One reg.Eax (rm.Reg reg.Ecx))
spelled_49 = spelled ([]) _ (operand 0xC1 0 0) _ (inl refl) refl refl

-- 0F B7 C1
spelled_50 : Spells (0x0F ∷ 0xB7 ∷ 0xC1 ∷ []) (instr.Movzx Four Two reg.Eax (rm.Reg reg.Ecx))
spelled_50 = spelled ([]) _ (operand 0xC1 0 0) _ (inl refl) refl refl

-- 66 0F BE C1
spelled_51 : Spells (0x66 ∷ 0x0F ∷ 0xBE ∷ 0xC1 ∷ []) (instr.Movsx Two One reg.Eax (rm.Reg reg.Ecx))
spelled_51 = spelled (0x66 ∷ []) _ (operand 0xC1 0 0) _ (inl refl) refl refl

-- 0F BF 00
spelled_52 : Spells (0x0F ∷ 0xBF ∷ 0x00 ∷ []) (instr.Movsx Four Two reg.Eax (rm.Mem (at (Some reg.Eax) None 1 0)))
spelled_52 = spelled ([]) _ (operand 0 0 0) _ (inl refl) refl refl

-- 0F 44 C1
spelled_53 : Spells (0x0F ∷ 0x44 ∷ 0xC1 ∷ []) (instr.Cmov cond.E Four reg.Eax (rm.Reg reg.Ecx))
spelled_53 = spelled ([]) _ (operand 0xC1 0 0) _ (inl refl) refl refl

-- 66 0F 4F C1
spelled_54 : Spells (0x66 ∷ 0x0F ∷ 0x4F ∷ 0xC1 ∷ []) (instr.Cmov cond.G Two reg.Eax (rm.Reg reg.Ecx))
spelled_54 = spelled (0x66 ∷ []) _ (operand 0xC1 0 0) _ (inl refl) refl refl

-- 0F 94 C0
spelled_55 : Spells (0x0F ∷ 0x94 ∷ 0xC0 ∷ []) (instr.Setcc cond.E (rm.Reg reg.Eax))
spelled_55 = spelled ([]) _ (operand 0xC0 0 0) _ (inl refl) refl refl

-- 0F 92 04 24
spelled_56 : Spells (0x0F ∷ 0x92 ∷ 0x04 ∷ 0x24 ∷ []) (instr.Setcc cond.B (rm.Mem (at (Some reg.Esp) None 1 0)))
spelled_56 = spelled ([]) _ (operand 0x04 0x24 0) _ (inl refl) refl refl

-- 66 98
spelled_57 : Spells (0x66 ∷ 0x98 ∷ []) (instr.Extend Two)
spelled_57 = spelled (0x66 ∷ []) _ (operand 0 0 0) _ (inl refl) tt refl

-- 98
spelled_58 : Spells (0x98 ∷ []) (instr.Extend Four)
spelled_58 = spelled ([]) _ (operand 0 0 0) _ (inl refl) tt refl

-- 66 99
spelled_59 : Spells (0x66 ∷ 0x99 ∷ []) (instr.Spread Two)
spelled_59 = spelled (0x66 ∷ []) _ (operand 0 0 0) _ (inl refl) tt refl

-- 99
spelled_60 : Spells (0x99 ∷ []) (instr.Spread Four)
spelled_60 = spelled ([]) _ (operand 0 0 0) _ (inl refl) tt refl

-- 0F BC C1
spelled_61 : Spells (0x0F ∷ 0xBC ∷ 0xC1 ∷ []) (instr.Bsf Four reg.Eax (rm.Reg reg.Ecx))
spelled_61 = spelled ([]) _ (operand 0xC1 0 0) _ (inl refl) refl refl

-- 66 0F BD C1
spelled_62 : Spells (0x66 ∷ 0x0F ∷ 0xBD ∷ 0xC1 ∷ []) (instr.Bsr Two reg.Eax (rm.Reg reg.Ecx))
spelled_62 = spelled (0x66 ∷ []) _ (operand 0xC1 0 0) _ (inl refl) refl refl

-- 0F C8
spelled_63 : Spells (0x0F ∷ 0xC8 ∷ []) (instr.Bswap reg.Eax)
spelled_63 = spelled ([]) _ (operand 0 0 0) _ (inl refl) tt refl

-- 0F CF
spelled_64 : Spells (0x0F ∷ 0xCF ∷ []) (instr.Bswap reg.Edi)
spelled_64 = spelled ([]) _ (operand 0 0 0) _ (inl refl) tt refl

-- F3 66 A5
spelled_65 : Spells (0xF3 ∷ 0x66 ∷ 0xA5 ∷ []) (instr.Movs Two true)
spelled_65 = spelled (0xF3 ∷ 0x66 ∷ []) _ (operand 0 0 0) _ (inl refl) tt refl

-- 66 F3 A5
spelled_66 : Spells (0x66 ∷ 0xF3 ∷ 0xA5 ∷ []) (instr.Movs Two true)
spelled_66 = spelled (0x66 ∷ 0xF3 ∷ []) _ (operand 0 0 0) _ (inl refl) tt refl

-- A4
spelled_67 : Spells (0xA4 ∷ []) (instr.Movs One false)
spelled_67 = spelled ([]) _ (operand 0 0 0) _ (inl refl) tt refl

-- F3 AB
spelled_68 : Spells (0xF3 ∷ 0xAB ∷ []) (instr.Stos Four true)
spelled_68 = spelled (0xF3 ∷ []) _ (operand 0 0 0) _ (inl refl) tt refl

-- EB FE
spelled_69 : Spells (0xEB ∷ 0xFE ∷ []) (instr.Jmp 0xFFFFFFFE)
spelled_69 = spelled ([]) _ (operand 0 0 0) _ (inr (inl refl)) tt refl

-- E9 00 01 00 00
spelled_70 : Spells (0xE9 ∷ 0x00 ∷ 0x01 ∷ 0x00 ∷ 0x00 ∷ []) (instr.Jmp 0x100)
spelled_70 = spelled ([]) _ (operand 0 0 0) _ (inl refl) tt refl

-- 3E FF E0
spelled_71 : Spells (0x3E ∷ 0xFF ∷ 0xE0 ∷ []) (instr.JmpTo (rm.Reg reg.Eax))
spelled_71 = spelled (0x3E ∷ []) _ (operand 0xE0 0 0) _ (inl refl) refl refl

-- FF 24 85 54 90 04 08
spelled_72 : Spells (0xFF ∷ 0x24 ∷ 0x85 ∷ 0x54 ∷ 0x90 ∷ 0x04 ∷ 0x08 ∷ []) (instr.JmpTo (rm.Mem (at None (Some reg.Eax) 4 0x8049054)))
spelled_72 = spelled ([]) _ (operand 0x24 0x85 0x8049054) _ (inl refl) refl refl

-- FF D0
spelled_73 : Spells (0xFF ∷ 0xD0 ∷ []) (instr.CallTo (rm.Reg reg.Eax))
spelled_73 = spelled ([]) _ (operand 0xD0 0 0) _ (inl refl) refl refl

-- 70 23
spelled_74 : Spells (0x70 ∷ 0x23 ∷ []) (instr.Jcc cond.O 0x23)
spelled_74 = spelled ([]) _ (operand 0 0 0) _ (inr (inl refl)) tt refl

-- 71 23
spelled_75 : Spells (0x71 ∷ 0x23 ∷ []) (instr.Jcc cond.No 0x23)
spelled_75 = spelled ([]) _ (operand 0 0 0) _ (inr (inl refl)) tt refl

-- 72 23
spelled_76 : Spells (0x72 ∷ 0x23 ∷ []) (instr.Jcc cond.B 0x23)
spelled_76 = spelled ([]) _ (operand 0 0 0) _ (inr (inl refl)) tt refl

-- 73 23
spelled_77 : Spells (0x73 ∷ 0x23 ∷ []) (instr.Jcc cond.Ae 0x23)
spelled_77 = spelled ([]) _ (operand 0 0 0) _ (inr (inl refl)) tt refl

-- 74 23
spelled_78 : Spells (0x74 ∷ 0x23 ∷ []) (instr.Jcc cond.E 0x23)
spelled_78 = spelled ([]) _ (operand 0 0 0) _ (inr (inl refl)) tt refl

-- 75 23
spelled_79 : Spells (0x75 ∷ 0x23 ∷ []) (instr.Jcc cond.Ne 0x23)
spelled_79 = spelled ([]) _ (operand 0 0 0) _ (inr (inl refl)) tt refl

-- 76 23
spelled_80 : Spells (0x76 ∷ 0x23 ∷ []) (instr.Jcc cond.Be 0x23)
spelled_80 = spelled ([]) _ (operand 0 0 0) _ (inr (inl refl)) tt refl

-- 77 23
spelled_81 : Spells (0x77 ∷ 0x23 ∷ []) (instr.Jcc cond.A 0x23)
spelled_81 = spelled ([]) _ (operand 0 0 0) _ (inr (inl refl)) tt refl

-- 78 23
spelled_82 : Spells (0x78 ∷ 0x23 ∷ []) (instr.Jcc cond.S 0x23)
spelled_82 = spelled ([]) _ (operand 0 0 0) _ (inr (inl refl)) tt refl

-- 79 23
spelled_83 : Spells (0x79 ∷ 0x23 ∷ []) (instr.Jcc cond.Ns 0x23)
spelled_83 = spelled ([]) _ (operand 0 0 0) _ (inr (inl refl)) tt refl

-- 7A 23
spelled_84 : Spells (0x7A ∷ 0x23 ∷ []) (instr.Jcc cond.P 0x23)
spelled_84 = spelled ([]) _ (operand 0 0 0) _ (inr (inl refl)) tt refl

-- 7B 23
spelled_85 : Spells (0x7B ∷ 0x23 ∷ []) (instr.Jcc cond.Np 0x23)
spelled_85 = spelled ([]) _ (operand 0 0 0) _ (inr (inl refl)) tt refl

-- 7C 23
spelled_86 : Spells (0x7C ∷ 0x23 ∷ []) (instr.Jcc cond.L 0x23)
spelled_86 = spelled ([]) _ (operand 0 0 0) _ (inr (inl refl)) tt refl

-- 7D 23
spelled_87 : Spells (0x7D ∷ 0x23 ∷ []) (instr.Jcc cond.Ge 0x23)
spelled_87 = spelled ([]) _ (operand 0 0 0) _ (inr (inl refl)) tt refl

-- 7E 23
spelled_88 : Spells (0x7E ∷ 0x23 ∷ []) (instr.Jcc cond.Le 0x23)
spelled_88 = spelled ([]) _ (operand 0 0 0) _ (inr (inl refl)) tt refl

-- 7F 23
spelled_89 : Spells (0x7F ∷ 0x23 ∷ []) (instr.Jcc cond.G 0x23)
spelled_89 = spelled ([]) _ (operand 0 0 0) _ (inr (inl refl)) tt refl

-- 0F 84 FA FF FF FF
spelled_90 : Spells (0x0F ∷ 0x84 ∷ 0xFA ∷ 0xFF ∷ 0xFF ∷ 0xFF ∷ []) (instr.Jcc cond.E 0xFFFFFFFA)
spelled_90 = spelled ([]) _ (operand 0 0 0) _ (inl refl) tt refl

-- E8 10 00 00 00
spelled_91 : Spells (0xE8 ∷ 0x10 ∷ 0x00 ∷ 0x00 ∷ 0x00 ∷ []) (instr.Call 0x10)
spelled_91 = spelled ([]) _ (operand 0 0 0) _ (inl refl) tt refl

-- E8 FA FF FF FF
spelled_92 : Spells (0xE8 ∷ 0xFA ∷ 0xFF ∷ 0xFF ∷ 0xFF ∷ []) (instr.Call 0xFFFFFFFA)
spelled_92 = spelled ([]) _ (operand 0 0 0) _ (inl refl) tt refl

-- C3
spelled_93 : Spells (0xC3 ∷ []) (instr.Ret 0)
spelled_93 = spelled ([]) _ (operand 0 0 0) _ (inr (inl refl)) tt refl

-- F3 C3
spelled_94 : Spells (0xF3 ∷ 0xC3 ∷ []) (instr.Ret 0)
spelled_94 = spelled (0xF3 ∷ []) _ (operand 0 0 0) _ (inr (inr (inl refl))) tt refl

-- C2 08 00
spelled_95 : Spells (0xC2 ∷ 0x08 ∷ 0x00 ∷ []) (instr.Ret 8)
spelled_95 = spelled ([]) _ (operand 0 0 0) _ (inl refl) tt refl

-- C9
spelled_96 : Spells (0xC9 ∷ []) (instr.Leave)
spelled_96 = spelled ([]) _ (operand 0 0 0) _ (inl refl) tt refl

-- CD 80
spelled_97 : Spells (0xCD ∷ 0x80 ∷ []) (instr.Int80)
spelled_97 = spelled ([]) _ (operand 0 0 0) _ (inl refl) tt refl

-- FC
spelled_98 : Spells (0xFC ∷ []) (instr.Cld)
spelled_98 = spelled ([]) _ (operand 0 0 0) _ (inl refl) tt refl

-- 66 66 90
spelled_99 : Spells (0x66 ∷ 0x66 ∷ 0x90 ∷ []) (instr.Nop)
spelled_99 = spelled (0x66 ∷ 0x66 ∷ []) _ (operand 0 0 0) _ (inl refl) tt refl

-- 66 66 66 66 66 66 66 66 66 66 66 66 66 66 90
spelled_100 : Spells (0x66 ∷ 0x66 ∷ 0x66 ∷ 0x66 ∷ 0x66 ∷ 0x66 ∷ 0x66 ∷ 0x66 ∷ 0x66 ∷ 0x66 ∷ 0x66 ∷ 0x66 ∷ 0x66 ∷ 0x66 ∷ 0x90 ∷ []) (instr.Nop)
spelled_100 = spelled (0x66 ∷ 0x66 ∷ 0x66 ∷ 0x66 ∷ 0x66 ∷ 0x66 ∷ 0x66 ∷ 0x66 ∷ 0x66 ∷ 0x66 ∷ 0x66 ∷ 0x66 ∷ 0x66 ∷ 0x66 ∷ []) _ (operand 0 0 0) _ (inl refl) tt refl

-- 66 66 2E 0F 1F 84 00 00 00 00 00
spelled_101 : Spells (0x66 ∷ 0x66 ∷ 0x2E ∷ 0x0F ∷ 0x1F ∷ 0x84 ∷ 0x00 ∷ 0x00 ∷ 0x00 ∷ 0x00 ∷ 0x00 ∷ []) (instr.Nop)
spelled_101 = spelled (0x66 ∷ 0x66 ∷ 0x2E ∷ []) _ (operand 0x84 0 0) _ (inr (inl refl)) tt refl

-- F3 0F 1E FB
spelled_102 : Spells (0xF3 ∷ 0x0F ∷ 0x1E ∷ 0xFB ∷ []) (instr.Nop)
spelled_102 = spelled (0xF3 ∷ []) _ (operand 0 0 0) _ (inr (inr (inl refl))) tt refl

-- ---- reading in vain

never_found : (i : Instr) (left : ℕ) → Never ≡ Found i left → ⊥
never_found i left e = cc

none_spelled : (t : List ℕ) → read t ≡ Never → (i : Instr) → Spells t i → ⊥
none_spelled t h i s = never_found i 0 (sym h ∙ ap read (sym (append-nil t)) ∙ spells_whole t [] i s)

-- ---- what spells nothing, by tools/worked.py

-- 82 C0 01: opcode 82
nothing_0 : (i : Instr) → Spells (0x82 ∷ 0xC0 ∷ 0x01 ∷ []) i → ⊥
unfolding entry_of numbers sib_at after_m m_at plain_at after_opcode after_escape at_opcode read_from
nothing_0 = none_spelled (0x82 ∷ 0xC0 ∷ 0x01 ∷ []) refl

-- F6 C8 01: F6 /1
nothing_1 : (i : Instr) → Spells (0xF6 ∷ 0xC8 ∷ 0x01 ∷ []) i → ⊥
unfolding entry_of numbers sib_at after_m m_at plain_at after_opcode after_escape at_opcode read_from
nothing_1 = none_spelled (0xF6 ∷ 0xC8 ∷ 0x01 ∷ []) refl

-- F7 C8 01 00 00 00: F7 /1
nothing_2 : (i : Instr) → Spells (0xF7 ∷ 0xC8 ∷ 0x01 ∷ 0x00 ∷ 0x00 ∷ 0x00 ∷ []) i → ⊥
unfolding entry_of numbers sib_at after_m m_at plain_at after_opcode after_escape at_opcode read_from
nothing_2 = none_spelled (0xF7 ∷ 0xC8 ∷ 0x01 ∷ 0x00 ∷ 0x00 ∷ 0x00 ∷ []) refl

-- C1 D0 01: a rotate through carry, /2
nothing_3 : (i : Instr) → Spells (0xC1 ∷ 0xD0 ∷ 0x01 ∷ []) i → ⊥
unfolding entry_of numbers sib_at after_m m_at plain_at after_opcode after_escape at_opcode read_from
nothing_3 = none_spelled (0xC1 ∷ 0xD0 ∷ 0x01 ∷ []) refl

-- D1 D8: a rotate through carry, /3
nothing_4 : (i : Instr) → Spells (0xD1 ∷ 0xD8 ∷ []) i → ⊥
unfolding entry_of numbers sib_at after_m m_at plain_at after_opcode after_escape at_opcode read_from
nothing_4 = none_spelled (0xD1 ∷ 0xD8 ∷ []) refl

-- D3 F0: a shift with /6
nothing_5 : (i : Instr) → Spells (0xD3 ∷ 0xF0 ∷ []) i → ⊥
unfolding entry_of numbers sib_at after_m m_at plain_at after_opcode after_escape at_opcode read_from
nothing_5 = none_spelled (0xD3 ∷ 0xF0 ∷ []) refl

-- 66 0F C8: 66 before BSWAP
nothing_6 : (i : Instr) → Spells (0x66 ∷ 0x0F ∷ 0xC8 ∷ []) i → ⊥
unfolding entry_of numbers sib_at after_m m_at plain_at after_opcode after_escape at_opcode read_from
nothing_6 = none_spelled (0x66 ∷ 0x0F ∷ 0xC8 ∷ []) refl

-- F3 0F BC C1: F3 before BSF
nothing_7 : (i : Instr) → Spells (0xF3 ∷ 0x0F ∷ 0xBC ∷ 0xC1 ∷ []) i → ⊥
unfolding entry_of numbers sib_at after_m m_at plain_at after_opcode after_escape at_opcode read_from
nothing_7 = none_spelled (0xF3 ∷ 0x0F ∷ 0xBC ∷ 0xC1 ∷ []) refl

-- 0F 28: MOVAPS
nothing_8 : (i : Instr) → Spells (0x0F ∷ 0x28 ∷ []) i → ⊥
unfolding entry_of numbers sib_at after_m m_at plain_at after_opcode after_escape at_opcode read_from
nothing_8 = none_spelled (0x0F ∷ 0x28 ∷ []) refl

-- F3 90: PAUSE
nothing_9 : (i : Instr) → Spells (0xF3 ∷ 0x90 ∷ []) i → ⊥
unfolding entry_of numbers sib_at after_m m_at plain_at after_opcode after_escape at_opcode read_from
nothing_9 = none_spelled (0xF3 ∷ 0x90 ∷ []) refl

-- 66 8F C0: 66 before POP
nothing_10 : (i : Instr) → Spells (0x66 ∷ 0x8F ∷ 0xC0 ∷ []) i → ⊥
unfolding entry_of numbers sib_at after_m m_at plain_at after_opcode after_escape at_opcode read_from
nothing_10 = none_spelled (0x66 ∷ 0x8F ∷ 0xC0 ∷ []) refl

-- 3E C3: 3E before RET
nothing_11 : (i : Instr) → Spells (0x3E ∷ 0xC3 ∷ []) i → ⊥
unfolding entry_of numbers sib_at after_m m_at plain_at after_opcode after_escape at_opcode read_from
nothing_11 = none_spelled (0x3E ∷ 0xC3 ∷ []) refl

-- 66 66 05 01 00: two 66
nothing_12 : (i : Instr) → Spells (0x66 ∷ 0x66 ∷ 0x05 ∷ 0x01 ∷ 0x00 ∷ []) i → ⊥
unfolding entry_of numbers sib_at after_m m_at plain_at after_opcode after_escape at_opcode read_from
nothing_12 = none_spelled (0x66 ∷ 0x66 ∷ 0x05 ∷ 0x01 ∷ 0x00 ∷ []) refl

-- 8D C0: LEA of a register
nothing_13 : (i : Instr) → Spells (0x8D ∷ 0xC0 ∷ []) i → ⊥
unfolding entry_of numbers sib_at after_m m_at plain_at after_opcode after_escape at_opcode read_from
nothing_13 = none_spelled (0x8D ∷ 0xC0 ∷ []) refl

-- CD 81: another interrupt
nothing_14 : (i : Instr) → Spells (0xCD ∷ 0x81 ∷ []) i → ⊥
unfolding entry_of numbers sib_at after_m m_at plain_at after_opcode after_escape at_opcode read_from
nothing_14 = none_spelled (0xCD ∷ 0x81 ∷ []) refl

-- F3 0F 1E FA: ENDBR64
nothing_15 : (i : Instr) → Spells (0xF3 ∷ 0x0F ∷ 0x1E ∷ 0xFA ∷ []) i → ⊥
unfolding entry_of numbers sib_at after_m m_at plain_at after_opcode after_escape at_opcode read_from
nothing_15 = none_spelled (0xF3 ∷ 0x0F ∷ 0x1E ∷ 0xFA ∷ []) refl

-- 2E 90: 2E before NOP
nothing_16 : (i : Instr) → Spells (0x2E ∷ 0x90 ∷ []) i → ⊥
unfolding entry_of numbers sib_at after_m m_at plain_at after_opcode after_escape at_opcode read_from
nothing_16 = none_spelled (0x2E ∷ 0x90 ∷ []) refl

-- F3 F3 A4: two F3
nothing_17 : (i : Instr) → Spells (0xF3 ∷ 0xF3 ∷ 0xA4 ∷ []) i → ⊥
unfolding entry_of numbers sib_at after_m m_at plain_at after_opcode after_escape at_opcode read_from
nothing_17 = none_spelled (0xF3 ∷ 0xF3 ∷ 0xA4 ∷ []) refl

-- 66 66 66 66 66 66 66 66 66 66 66 66 66 66 66 90: NOP on 16 bytes
too_long_0 : (i : Instr) → Spells (0x66 ∷ 0x66 ∷ 0x66 ∷ 0x66 ∷ 0x66 ∷ 0x66 ∷ 0x66 ∷ 0x66 ∷ 0x66 ∷ 0x66 ∷ 0x66 ∷ 0x66 ∷ 0x66 ∷ 0x66 ∷ 0x66 ∷ 0x90 ∷ []) i → ⊥
too_long_0 i s = let h = s.short in absurd (omega arith)

-- 2E 2E 2E 2E 2E 2E 2E 2E 2E 2E 2E 2E 2E 2E 2E 2E: 16 prefixes
too_long_1 : (i : Instr) → Spells (0x2E ∷ 0x2E ∷ 0x2E ∷ 0x2E ∷ 0x2E ∷ 0x2E ∷ 0x2E ∷ 0x2E ∷ 0x2E ∷ 0x2E ∷ 0x2E ∷ 0x2E ∷ 0x2E ∷ 0x2E ∷ 0x2E ∷ 0x2E ∷ []) i → ⊥
too_long_1 i s = let h = s.short in absurd (omega arith)

-- ---- the end of the rows

pub all_spelled : AllSpelled
all_spelled = (
  spelled_0,
  (
    spelled_1,
    (
      spelled_2,
      (
        spelled_3,
        (
          spelled_4,
          (
            spelled_5,
            (
              spelled_6,
              (
                spelled_7,
                (
                  spelled_8,
                  (
                    spelled_9,
                    (
                      spelled_10,
                      (
                        spelled_11,
                        (
                          spelled_12,
                          (
                            spelled_13,
                            (
                              spelled_14,
                              (
                                spelled_15,
                                (
                                  spelled_16,
                                  (
                                    spelled_17,
                                    (
                                      spelled_18,
                                      (
                                        spelled_19,
                                        (
                                          spelled_20,
                                          (
                                            spelled_21,
                                            (
                                              spelled_22,
                                              (
                                                spelled_23,
                                                (
                                                  spelled_24,
                                                  (
                                                    spelled_25,
                                                    (
                                                      spelled_26,
                                                      (
                                                        spelled_27,
                                                        (
                                                          spelled_28,
                                                          (
                                                            spelled_29,
                                                            (
                                                              spelled_30,
                                                              (
                                                                spelled_31,
                                                                (
                                                                  spelled_32,
                                                                  (
                                                                    spelled_33,
                                                                    (
                                                                      spelled_34,
                                                                      (
                                                                        spelled_35,
                                                                        (
                                                                          spelled_36,
                                                                          (
                                                                            spelled_37,
                                                                            (
                                                                              spelled_38,
                                                                              (
                                                                                spelled_39,
                                                                                (
                                                                                  spelled_40,
                                                                                  (
                                                                                    spelled_41,
                                                                                    (
                                                                                      spelled_42,
                                                                                      (
                                                                                        spelled_43,
                                                                                        (
                                                                                          spelled_44,
                                                                                          (
                                                                                            spelled_45,
                                                                                            (
                                                                                              spelled_46,
                                                                                              (
                                                                                                spelled_47,
                                                                                                (
                                                                                                  spelled_48,
                                                                                                  (
                                                                                                    spelled_49,
                                                                                                    (
                                                                                                      spelled_50,
                                                                                                      (
                                                                                                        spelled_51,
                                                                                                        (
                                                                                                          spelled_52,
                                                                                                          (
                                                                                                            spelled_53,
                                                                                                            (
                                                                                                              spelled_54,
                                                                                                              (
                                                                                                                spelled_55,
                                                                                                                (
                                                                                                                  spelled_56,
                                                                                                                  (
                                                                                                                    spelled_57,
                                                                                                                    (
                                                                                                                      spelled_58,
                                                                                                                      (
                                                                                                                        spelled_59,
                                                                                                                        (
                                                                                                                          spelled_60,
                                                                                                                          (
                                                                                                                            spelled_61,
                                                                                                                            (
                                                                                                                              spelled_62,
                                                                                                                              (
                                                                                                                                spelled_63,
                                                                                                                                (
                                                                                                                                  spelled_64,
                                                                                                                                  (
                                                                                                                                    spelled_65,
                                                                                                                                    (
                                                                                                                                      spelled_66,
                                                                                                                                      (
                                                                                                                                        spelled_67,
                                                                                                                                        (
                                                                                                                                          spelled_68,
                                                                                                                                          (
                                                                                                                                            spelled_69,
                                                                                                                                            (
                                                                                                                                              spelled_70,
                                                                                                                                              (
                                                                                                                                                spelled_71,
                                                                                                                                                (
                                                                                                                                                  spelled_72,
                                                                                                                                                  (
                                                                                                                                                    spelled_73,
                                                                                                                                                    (
                                                                                                                                                      spelled_74,
                                                                                                                                                      (
                                                                                                                                                        spelled_75,
                                                                                                                                                        (
                                                                                                                                                          spelled_76,
                                                                                                                                                          (
                                                                                                                                                            spelled_77,
                                                                                                                                                            (
                                                                                                                                                              spelled_78,
                                                                                                                                                              (
                                                                                                                                                                spelled_79,
                                                                                                                                                                (
                                                                                                                                                                  spelled_80,
                                                                                                                                                                  (
                                                                                                                                                                    spelled_81,
                                                                                                                                                                    (
                                                                                                                                                                      spelled_82,
                                                                                                                                                                      (
                                                                                                                                                                        spelled_83,
                                                                                                                                                                        (
                                                                                                                                                                          spelled_84,
                                                                                                                                                                          (
                                                                                                                                                                            spelled_85,
                                                                                                                                                                            (
                                                                                                                                                                              spelled_86,
                                                                                                                                                                              (
                                                                                                                                                                                spelled_87,
                                                                                                                                                                                (
                                                                                                                                                                                  spelled_88,
                                                                                                                                                                                  (
                                                                                                                                                                                    spelled_89,
                                                                                                                                                                                    (
                                                                                                                                                                                      spelled_90,
                                                                                                                                                                                      (
                                                                                                                                                                                        spelled_91,
                                                                                                                                                                                        (
                                                                                                                                                                                          spelled_92,
                                                                                                                                                                                          (
                                                                                                                                                                                            spelled_93,
                                                                                                                                                                                            (
                                                                                                                                                                                              spelled_94,
                                                                                                                                                                                              (
                                                                                                                                                                                                spelled_95,
                                                                                                                                                                                                (
                                                                                                                                                                                                  spelled_96,
                                                                                                                                                                                                  (
                                                                                                                                                                                                    spelled_97,
                                                                                                                                                                                                    (
                                                                                                                                                                                                      spelled_98,
                                                                                                                                                                                                      (
                                                                                                                                                                                                        spelled_99,
                                                                                                                                                                                                        (
                                                                                                                                                                                                          spelled_100,
                                                                                                                                                                                                          (
                                                                                                                                                                                                            spelled_101,
                                                                                                                                                                                                            (
                                                                                                                                                                                                              spelled_102,
                                                                                                                                                                                                              tt,
                                                                                                                                                                                                            ),
                                                                                                                                                                                                          ),
                                                                                                                                                                                                        ),
                                                                                                                                                                                                      ),
                                                                                                                                                                                                    ),
                                                                                                                                                                                                  ),
                                                                                                                                                                                                ),
                                                                                                                                                                                              ),
                                                                                                                                                                                            ),
                                                                                                                                                                                          ),
                                                                                                                                                                                        ),
                                                                                                                                                                                      ),
                                                                                                                                                                                    ),
                                                                                                                                                                                  ),
                                                                                                                                                                                ),
                                                                                                                                                                              ),
                                                                                                                                                                            ),
                                                                                                                                                                          ),
                                                                                                                                                                        ),
                                                                                                                                                                      ),
                                                                                                                                                                    ),
                                                                                                                                                                  ),
                                                                                                                                                                ),
                                                                                                                                                              ),
                                                                                                                                                            ),
                                                                                                                                                          ),
                                                                                                                                                        ),
                                                                                                                                                      ),
                                                                                                                                                    ),
                                                                                                                                                  ),
                                                                                                                                                ),
                                                                                                                                              ),
                                                                                                                                            ),
                                                                                                                                          ),
                                                                                                                                        ),
                                                                                                                                      ),
                                                                                                                                    ),
                                                                                                                                  ),
                                                                                                                                ),
                                                                                                                              ),
                                                                                                                            ),
                                                                                                                          ),
                                                                                                                        ),
                                                                                                                      ),
                                                                                                                    ),
                                                                                                                  ),
                                                                                                                ),
                                                                                                              ),
                                                                                                            ),
                                                                                                          ),
                                                                                                        ),
                                                                                                      ),
                                                                                                    ),
                                                                                                  ),
                                                                                                ),
                                                                                              ),
                                                                                            ),
                                                                                          ),
                                                                                        ),
                                                                                      ),
                                                                                    ),
                                                                                  ),
                                                                                ),
                                                                              ),
                                                                            ),
                                                                          ),
                                                                        ),
                                                                      ),
                                                                    ),
                                                                  ),
                                                                ),
                                                              ),
                                                            ),
                                                          ),
                                                        ),
                                                      ),
                                                    ),
                                                  ),
                                                ),
                                              ),
                                            ),
                                          ),
                                        ),
                                      ),
                                    ),
                                  ),
                                ),
                              ),
                            ),
                          ),
                        ),
                      ),
                    ),
                  ),
                ),
              ),
            ),
          ),
        ),
      ),
    ),
  ),
)

pub none_spelled_there : NoneSpelled
none_spelled_there = (
  nothing_0,
  (
    nothing_1,
    (
      nothing_2,
      (
        nothing_3,
        (
          nothing_4,
          (
            nothing_5,
            (
              nothing_6,
              (
                nothing_7,
                (
                  nothing_8,
                  (
                    nothing_9,
                    (
                      nothing_10,
                      (
                        nothing_11,
                        (
                          nothing_12,
                          (
                            nothing_13,
                            (
                              nothing_14,
                              (
                                nothing_15,
                                (
                                  nothing_16,
                                  (
                                    nothing_17,
                                    (
                                      too_long_0,
                                      (
                                        too_long_1,
                                        tt,
                                      ),
                                    ),
                                  ),
                                ),
                              ),
                            ),
                          ),
                        ),
                      ),
                    ),
                  ),
                ),
              ),
            ),
          ),
        ),
      ),
    ),
  ),
)
