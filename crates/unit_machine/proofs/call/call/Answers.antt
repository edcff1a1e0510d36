use Rattle.mem_pages.specs.Contents.{memory_in}
use Rattle.system_calls.specs.Making.{as_request}
use Rattle.unit_machine.proofs.Calling.{tells_wanting, tells_ended, tells_returned}
use Rattle.unit_machine.proofs.call.call.Goals as goal

pub returns-in-Err-clause-calls : goal.returns-in-Err-clause-calls
returns-in-Err-clause-calls g c =
    tells_wanting c.args.values.now (memory_in c.args.pages.now) (as_request c.request-request.result) (c.request-request.ensures (memory_in c.args.pages.now)) _ _ _ c.in-Err.error c.in-Err.ensures.makes

pub returns-in-Ok-Ended-clause-calls : goal.returns-in-Ok-Ended-clause-calls
returns-in-Ok-Ended-clause-calls g c =
    tells_ended c.args.values.now (memory_in c.args.pages.now) (as_request c.request-request.result) (c.request-request.ensures (memory_in c.args.pages.now)) _ _ _ c.in-Ok-Ended.field-0 c.in-Ok-Ended.end c.in-Ok-Ended.field-0-is c.in-Ok-Ended.ensures.makes

pub returns-in-Ok-Returned-clause-calls : goal.returns-in-Ok-Returned-clause-calls
returns-in-Ok-Returned-clause-calls g c =
    tells_returned c.args.values.now (memory_in c.args.pages.now) (as_request c.request-request.result) (c.request-request.ensures (memory_in c.args.pages.now)) _ _ _ c.in-Ok-Returned.field-0 c.in-Ok-Returned.result c.put_result.new.values c.word_of.result
    c.in-Ok-Returned.field-0-is c.word_of.ensures c.put_result.ensures c.in-Ok-Returned.ensures.makes
