-- Worked steps of Jcc (Intel SDM volume 2, "Jcc"; volume 1, appendix B, table B-1). It affects no flag. The next instruction stands at
-- 0x3002, and the jumps of the table go on by 0x10. A row of the table differs from one with another answer in one flag, or in all
-- that its condition doesn't name.
use Rattle.std.specs.Prelude.{◌≡◌, true, false, [], ◌∷◌, ◌++◌, Some, None}
use Rattle.traces.specs.Trace.{Unspecified}
use Rattle.x86_values.specs.declared.word.Flags.{Flags}
use Rattle.x86_types.specs.declared.instr.Instr.TheVariants.{Jcc}
use Rattle.x86_types.specs.declared.operation.Cond.{Cond}
use Rattle.x86_types.specs.declared.operation.Cond.TheVariants as cc
use Rattle.x86_meaning.specs.StepRows.{five_flags, known_flags, all_set, all_cleared, unknown, unknown_below, bytes_of, Shown, Now, Ended, see}
use Rattle.x86_meaning.specs.RowParts.{distinct, with_word, with_value, lost}

-- one flag is set, and the others are cleared
abbrev pub only_cf : Flags
only_cf = known_flags true false false false false

abbrev pub only_pf : Flags
only_pf = known_flags false true false false false

abbrev pub only_zf : Flags
only_zf = known_flags false false true false false

abbrev pub only_sf : Flags
only_sf = known_flags false false false true false

abbrev pub only_of : Flags
only_of = known_flags false false false false true

-- one flag is cleared, and the others are set
abbrev pub all_but_cf : Flags
all_but_cf = known_flags false true true true true

abbrev pub all_but_pf : Flags
all_but_pf = known_flags true false true true true

abbrev pub all_but_zf : Flags
all_but_zf = known_flags true true false true true

abbrev pub all_but_sf : Flags
all_but_sf = known_flags true true true false true

abbrev pub all_but_of : Flags
all_but_of = known_flags true true true true false

-- SF and OF are the same, and ZF is cleared
abbrev pub sf_and_of : Flags
sf_and_of = known_flags false false false true true

abbrev pub cf_and_pf : Flags
cf_and_pf = known_flags true true false false false

-- neither CF nor ZF
abbrev pub neither_cf_nor_zf : Flags
neither_cf_nor_zf = known_flags false true false true true

-- a jump by 0x10, and where it comes to
abbrev pub jump : Cond → Flags → Shown
jump c f = see (Jcc c 0x10) distinct f 0 0

abbrev pub Jumps : Cond → Flags → Type 0
Jumps c f = jump c f ≡ Now distinct f 0x3012 []

abbrev pub FallsThrough : Cond → Flags → Type 0
FallsThrough c f = jump c f ≡ Now distinct f 0x3002 []

pub record JccTableRows : Type 0 where
  pub o : Jumps cc.O only_of × FallsThrough cc.O all_but_of
  pub no : Jumps cc.No all_but_of × FallsThrough cc.No only_of
  pub b : Jumps cc.B only_cf × FallsThrough cc.B all_but_cf
  pub ae : Jumps cc.Ae all_but_cf × FallsThrough cc.Ae only_cf
  pub e : Jumps cc.E only_zf × FallsThrough cc.E all_but_zf
  pub ne : Jumps cc.Ne all_but_zf × FallsThrough cc.Ne only_zf
  pub be : Jumps cc.Be only_cf × (Jumps cc.Be only_zf × (Jumps cc.Be all_set × FallsThrough cc.Be neither_cf_nor_zf))
  pub a : Jumps cc.A neither_cf_nor_zf × (FallsThrough cc.A only_cf × (FallsThrough cc.A only_zf × FallsThrough cc.A all_set))
  pub s : Jumps cc.S only_sf × FallsThrough cc.S all_but_sf
  pub ns : Jumps cc.Ns all_but_sf × FallsThrough cc.Ns only_sf
  pub p : Jumps cc.P only_pf × FallsThrough cc.P all_but_pf
  pub np : Jumps cc.Np all_but_pf × FallsThrough cc.Np only_pf
  -- signed: SF and OF differ
  pub l : Jumps cc.L only_sf × (Jumps cc.L only_of × (FallsThrough cc.L all_set × FallsThrough cc.L cf_and_pf))
  pub ge : Jumps cc.Ge all_set × (Jumps cc.Ge cf_and_pf × (FallsThrough cc.Ge only_sf × FallsThrough cc.Ge only_of))
  -- or ZF
  pub le : Jumps cc.Le only_zf × (Jumps cc.Le only_sf × (Jumps cc.Le only_of × (Jumps cc.Le all_set × (Jumps cc.Le all_but_of × (FallsThrough cc.Le sf_and_of × FallsThrough cc.Le cf_and_pf)))))
  pub g : Jumps cc.G sf_and_of × (Jumps cc.G cf_and_pf × (FallsThrough cc.G only_zf × (FallsThrough cc.G only_sf × (FallsThrough cc.G only_of × (FallsThrough cc.G all_set × FallsThrough cc.G all_but_of)))))

-- the same by another distance, and with unspecified flags
pub record JccRows : Type 0 where
  pub back : see (Jcc cc.E 0xFFFFFFFE) distinct only_zf 0x8000 2 ≡ Now distinct only_zf 0x3000 (bytes_of (0x50 ∷ 0x51 ∷ []))
  -- 0x3002 + 0xFFFFD000; a distance isn't added where the condition doesn't hold
  pub wraps : see (Jcc cc.Ne 0xFFFFD000) distinct all_cleared 0 0 ≡ Now distinct all_cleared 2 []
  pub stays : see (Jcc cc.E 0xFFFFD000) distinct all_cleared 0 0 ≡ Now distinct all_cleared 0x3002 []
  -- registers aren't looked at
  pub unknown_registers : see (Jcc cc.B 0x20) (with_word 1 unknown distinct) all_set 0x1008 2 ≡ Now (with_word 1 unknown distinct) all_set 0x3022 (lost 1 ++ bytes_of (0xA9 ∷ []))
  -- a condition reads the flags that it names, and no other
  pub others_unknown : see (Jcc cc.E 0x20) distinct (five_flags None None (Some true) None None) 0 0 ≡ Now distinct (five_flags None None (Some true) None None) 0x3022 []
  pub two_known : see (Jcc cc.L 0x20) distinct (five_flags None None None (Some true) (Some true)) 0 0 ≡ Now distinct (five_flags None None None (Some true) (Some true)) 0x3002 []
  -- each of those, whatever the others are
  pub cf_unknown : jump cc.Ae (five_flags None (Some true) (Some true) (Some true) (Some true)) ≡ Ended Unspecified
  pub zf_unknown : jump cc.Ne (five_flags (Some true) (Some true) None (Some true) (Some true)) ≡ Ended Unspecified
  pub be_by_cf : jump cc.Be (five_flags None (Some true) (Some true) (Some true) (Some true)) ≡ Ended Unspecified
  pub be_by_zf : jump cc.Be (five_flags (Some true) (Some true) None (Some true) (Some true)) ≡ Ended Unspecified
  pub le_by_sf : jump cc.Le (five_flags (Some true) (Some true) (Some true) None (Some true)) ≡ Ended Unspecified
  pub g_by_zf : jump cc.G (five_flags (Some true) (Some true) None (Some true) (Some false)) ≡ Ended Unspecified
  pub ge_by_of : jump cc.Ge (five_flags (Some true) (Some true) (Some true) (Some true) None) ≡ Ended Unspecified
  pub pf_unknown : jump cc.Np (five_flags (Some true) None (Some true) (Some true) (Some true)) ≡ Ended Unspecified
  pub below_esp : see (Jcc cc.S 0x20) (with_value 4 0x8004 distinct) all_set 0x8003 2 ≡ Now (with_value 4 0x8004 distinct) all_set 0x3022 (lost 1 ++ bytes_of (0x54 ∷ []))
  pub unknown_esp : see (Jcc cc.E 0x20) (with_word 4 (unknown_below 0x8000) distinct) all_set 0 0 ≡ Ended Unspecified
