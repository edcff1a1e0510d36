use Rattle.std.proofs.Common.{sym, ap, ◌∙◌}
use Rattle.memory.specs.Memory.{Store, allows_all}
use Rattle.mem_pages.specs.Contents.{memory_in}
use Rattle.unit_machine.proofs.Computing.{no_load_no_store, word_size, store_unknown, store_fault, store_word}
use Rattle.unit_machine.proofs.compute.store.Goals as goal

pub returns-in-None : goal.returns-in-None
returns-in-None c = store_unknown c.args.values.now (memory_in c.args.pages.now) (memory_in c.args.pages.now) c.args.size c.args.at c.args.from c.term.result c.term-word.result c.term.ensures c.term-word.ensures (sym c.known.ensures ∙ c.in-None.is)

pub returns-in-Ok : goal.returns-in-Ok
returns-in-Ok c =
    let stored = c.in-Ok.ensures.stores in
    store_word c.args.values.now (memory_in c.args.pages.now) (memory_in c.store.new.self) c.args.size c.args.at c.args.from c.term.result c.term-word.result c.term.ensures c.term-word.ensures c.in-Some.at (sym c.known.ensures ∙ c.in-Some.is)
    (ap (λ n. allows_all Store (memory_in c.args.pages.now) c.in-Some.at n) (sym (word_size c.args.size c.term-word.result c.requires.size)) ∙ stored.allowed) stored.memory

pub returns-in-Err-NotMapped : goal.returns-in-Err-NotMapped
returns-in-Err-NotMapped c =
    let failed = rw c.in-Err-NotMapped.field-0-is at c.in-Err-NotMapped.ensures.stores in
    store_fault c.args.values.now (memory_in c.args.pages.now) (memory_in c.store.new.self) c.args.size c.args.at c.args.from c.term.result c.term-word.result c.term.ensures c.term-word.ensures c.in-Some.at (sym c.known.ensures ∙ c.in-Some.is)
    (no_load_no_store (memory_in c.args.pages.now) c.args.size c.in-Some.at failed.0)

pub returns-in-Err-NotWritable : goal.returns-in-Err-NotWritable
returns-in-Err-NotWritable c =
    let failed = rw c.in-Err-NotWritable.field-0-is at c.in-Err-NotWritable.ensures.stores in
    store_fault c.args.values.now (memory_in c.args.pages.now) (memory_in c.store.new.self) c.args.size c.args.at c.args.from c.term.result c.term-word.result c.term.ensures c.term-word.ensures c.in-Some.at (sym c.known.ensures ∙ c.in-Some.is) failed.1
