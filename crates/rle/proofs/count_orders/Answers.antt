-- `count_orders` meets its contract: what was counted, or the report of a refusal. Assumes nothing.
use Rattle.rle.specs.Reporting.{not_decoded}
use Rattle.rle.proofs.Calls.{unwrapped}
use Rattle.rle.proofs.count_orders.Goals as goal

pub returns : goal.returns
returns c = rw (unwrapped not_decoded c.count_in.result c.unwrap_or_else.result c.unwrap_or_else.ensures) c.count_in.ensures
