-- `decompress` meets its contract: what was decoded, or the report of a refusal. Assumes nothing.
use Rattle.rle.specs.Reporting.{not_decoded}
use Rattle.rle.proofs.Calls.{unwrapped}
use Rattle.rle.proofs.decompress.Goals as goal

pub returns : goal.returns
returns c = rw (unwrapped not_decoded c.decompress_by.result c.unwrap_or_else.result c.unwrap_or_else.ensures) c.decompress_by.ensures
