use Rattle.std.proofs.Common.{arith}
use Rattle.sw_top.specs.declared.command.Running.{Running}
use Rattle.sw_top.specs.Running.{greatest_program, before_run}
use Rattle.sw_host.specs.Chains.{tells_map}
use Rattle.sw_top.proofs.LoadLemmas.{failed_load, longer_load, whole_load}
use Rattle.sw_top.proofs.running.load_program.Goals as goal

pub returns-in-Err-Failed-clause-loads : goal.returns-in-Err-Failed-clause-loads
returns-in-Err-Failed-clause-loads g c =
    let running : Running = c.args.running.now in
    let told = rw (c.in-Err-Failed.field-0-is, c.as_str.ensures) at c.in-Err-Failed.ensures.told in
    tells_map _ _ _ _ told (λ a b p. record { gave = failed_load greatest_program running.from a b p; after = p.0 })

pub returns-in-Err-Memory-clause-loads : goal.returns-in-Err-Memory-clause-loads
returns-in-Err-Memory-clause-loads g c =
    let told = rw (c.in-Err-Memory.field-0-is, c.as_str.ensures) at c.in-Err-Memory.ensures.told in
    tells_map _ _ _ _ told (λ a b p. before_run p)

pub returns-then-len-gt-GREATEST_SIZE-clause-loads : goal.returns-then-len-gt-GREATEST_SIZE-clause-loads
returns-then-len-gt-GREATEST_SIZE-clause-loads g c =
    let running : Running = c.args.running.now in
    let load = rw c.as_str.ensures at c.in-Ok.ensures.told in
    let over = rw c.len.ensures at c.if-len-gt-GREATEST_SIZE.true in
    tells_map _ _ _ _ load (λ a b p. record { longer = longer_load greatest_program running.from a c.in-Ok.bytes b (omega (arith, over)) p; after = p.0 })

pub returns-in-Ok-read_image-clause-loads : goal.returns-in-Ok-read_image-clause-loads
returns-in-Ok-read_image-clause-loads g c =
    let running : Running = c.args.running.now in
    let load = rw c.as_str.ensures at c.in-Ok.ensures.told in
    let fits = rw c.len.ensures at c.if-len-gt-GREATEST_SIZE.false in
    let read = rw c.as_slice.ensures.value at c.in-Ok-read_image.ensures in
    tells_map _ _ _ _ load (λ a b p. (record { file = c.in-Ok.bytes.items; is_whole = whole_load greatest_program running.from a c.in-Ok.bytes b (omega (arith, fits)) p; read = read.is }, p.0))

pub returns-in-Err-Refused-clause-loads : goal.returns-in-Err-Refused-clause-loads
returns-in-Err-Refused-clause-loads g c =
    let running : Running = c.args.running.now in
    let load = rw c.as_str.ensures at c.in-Ok.ensures.told in
    let fits = rw c.len.ensures at c.if-len-gt-GREATEST_SIZE.false in
    let read = rw (c.in-Err-Refused.field-0-is, c.as_slice.ensures.value) at c.in-Err-Refused.ensures in
    tells_map _ _ _ _ load (λ a b p. record { file = c.in-Ok.bytes.items; is_whole = whole_load greatest_program running.from a c.in-Ok.bytes b (omega (arith, fits)) p; refused = read.is; after = p.0 })

pub returns-clause-loads : goal.returns-clause-loads
returns-clause-loads g c =
    let load = rw c.as_str.ensures at c.in-Ok.ensures.told in
    tells_map _ _ _ _ load (λ a b p. before_run p.0)
