use Rattle.std.proofs.Common.{arith}
use Rattle.sw_host.specs.Chains.{tells_map, tells_then, tells_three}
use Rattle.sw_top.specs.declared.command.Names.{Names}
use Rattle.sw_top.proofs.TellLemmas.{load_failed, too_long, refused, wants_memory, out_failed, out_wants, map_failed, map_wants, finished}
use Rattle.sw_top.proofs.rewriting.perform_rewrite.Goals as goal

pub returns-in-Err-Failed-clause-performs : goal.returns-in-Err-Failed-clause-performs
returns-in-Err-Failed-clause-performs g c =
    let names : Names = c.args.names.now in
    let told = rw (c.in-Err-Failed.field-0-is, c.as_str.ensures) at c.in-Err-Failed.ensures.told in
    tells_map _ _ _ _ told (load_failed names)

pub returns-in-Err-Memory-clause-performs : goal.returns-in-Err-Memory-clause-performs
returns-in-Err-Memory-clause-performs g c =
    let names : Names = c.args.names.now in
    let told = rw (c.in-Err-Memory.field-0-is, c.as_str.ensures) at c.in-Err-Memory.ensures.told in
    tells_map _ _ _ _ told (wants_memory names)

pub returns-then-len-gt-GREATEST_SIZE-clause-performs : goal.returns-then-len-gt-GREATEST_SIZE-clause-performs
returns-then-len-gt-GREATEST_SIZE-clause-performs g c =
    let names : Names = c.args.names.now in
    let load = rw c.as_str.ensures at c.in-Ok.ensures.told in
    let over = rw c.len.ensures at c.if-len-gt-GREATEST_SIZE.true in
    tells_map _ _ _ _ load (λ a b. too_long names a c.in-Ok.bytes b (omega (arith, over)))

pub returns-in-Err-Refused-clause-performs : goal.returns-in-Err-Refused-clause-performs
returns-in-Err-Refused-clause-performs g c =
    let names : Names = c.args.names.now in
    let load = rw c.as_str.ensures at c.in-Ok.ensures.told in
    let fits = rw c.len.ensures at c.if-len-gt-GREATEST_SIZE.false in
    let is = rw (c.in-Err-Refused.field-0-is, c.as_slice.ensures.value) at c.in-Err-Refused.ensures in
    tells_map _ _ _ _ load (λ a b. refused names a c.in-Ok.bytes c.in-Err-Refused.refusal b (omega (arith, fits)) is)

pub returns-in-Err-Memory-rewrite-clause-performs : goal.returns-in-Err-Memory-rewrite-clause-performs
returns-in-Err-Memory-rewrite-clause-performs g c =
    let names : Names = c.args.names.now in
    let load = rw c.as_str.ensures at c.in-Ok.ensures.told in
    tells_map _ _ _ _ load (λ a b p. wants_memory names a b p.0)

pub returns-in-Err-Failed-store-clause-performs : goal.returns-in-Err-Failed-store-clause-performs
returns-in-Err-Failed-store-clause-performs g c =
    let names : Names = c.args.names.now in
    let load = rw c.as_str.ensures at c.in-Ok.ensures.told in
    let fits = rw c.len.ensures at c.if-len-gt-GREATEST_SIZE.false in
    let written = rw c.as_slice.ensures.value at c.in-Ok-rewrite.ensures in
    let told = rw (c.in-Err-Failed-store.field-0-is, c.as_str-2.ensures, c.as_slice-2.ensures) at c.in-Err-Failed-store.ensures.told in
    tells_then _ _ _ _ _ _ load told (λ a b d. out_failed names a c.in-Ok.bytes _ (omega (arith, fits)) written b d)

pub returns-in-Err-Memory-store-clause-performs : goal.returns-in-Err-Memory-store-clause-performs
returns-in-Err-Memory-store-clause-performs g c =
    let names : Names = c.args.names.now in
    let load = rw c.as_str.ensures at c.in-Ok.ensures.told in
    let fits = rw c.len.ensures at c.if-len-gt-GREATEST_SIZE.false in
    let written = rw c.as_slice.ensures.value at c.in-Ok-rewrite.ensures in
    let told = rw (c.in-Err-Memory-store.field-0-is, c.as_str-2.ensures, c.as_slice-2.ensures) at c.in-Err-Memory-store.ensures.told in
    tells_then _ _ _ _ _ _ load told (λ a b d. out_wants names a c.in-Ok.bytes _ (omega (arith, fits)) written b d)

pub returns-in-Ok-store-2-clause-performs : goal.returns-in-Ok-store-2-clause-performs
returns-in-Ok-store-2-clause-performs g c =
    let names : Names = c.args.names.now in
    let load = rw c.as_str.ensures at c.in-Ok.ensures.told in
    let fits = rw c.len.ensures at c.if-len-gt-GREATEST_SIZE.false in
    let written = rw c.as_slice.ensures.value at c.in-Ok-rewrite.ensures in
    let told = rw (c.as_str-2.ensures, c.as_slice-2.ensures) at c.in-Ok-store.ensures.told in
    let last = rw (c.as_str-3.ensures, c.as_bytes.ensures.value) at c.in-Ok-store-2.ensures.told in
    tells_three _ _ _ _ _ _ _ _ load told last (λ a b d e. finished names a c.in-Ok.bytes _ (omega (arith, fits)) written b d e)

pub returns-in-Err-Failed-store-2-clause-performs : goal.returns-in-Err-Failed-store-2-clause-performs
returns-in-Err-Failed-store-2-clause-performs g c =
    let names : Names = c.args.names.now in
    let load = rw c.as_str.ensures at c.in-Ok.ensures.told in
    let fits = rw c.len.ensures at c.if-len-gt-GREATEST_SIZE.false in
    let written = rw c.as_slice.ensures.value at c.in-Ok-rewrite.ensures in
    let told = rw (c.as_str-2.ensures, c.as_slice-2.ensures) at c.in-Ok-store.ensures.told in
    let last = rw (c.in-Err-Failed-store-2.field-0-is, c.as_str-3.ensures, c.as_bytes.ensures.value) at c.in-Err-Failed-store-2.ensures.told in
    tells_three _ _ _ _ _ _ _ _ load told last (λ a b d e. map_failed names a c.in-Ok.bytes _ (omega (arith, fits)) written b d e)

pub returns-clause-performs : goal.returns-clause-performs
returns-clause-performs g c =
    let names : Names = c.args.names.now in
    let load = rw c.as_str.ensures at c.in-Ok.ensures.told in
    let fits = rw c.len.ensures at c.if-len-gt-GREATEST_SIZE.false in
    let written = rw c.as_slice.ensures.value at c.in-Ok-rewrite.ensures in
    let told = rw (c.as_str-2.ensures, c.as_slice-2.ensures) at c.in-Ok-store.ensures.told in
    let last = rw (c.in-Err-Memory-store-2.field-0-is, c.as_str-3.ensures, c.as_bytes.ensures.value) at c.in-Err-Memory-store-2.ensures.told in
    tells_three _ _ _ _ _ _ _ _ load told last (λ a b d e. map_wants names a c.in-Ok.bytes _ (omega (arith, fits)) written b d e)
