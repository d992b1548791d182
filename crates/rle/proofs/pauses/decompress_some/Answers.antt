-- `decompress_some` meets its contract: what was decoded, or the report of a refusal. Assumes nothing.
use Rattle.rle.specs.Pausing.{not_resumed}
use Rattle.rle.proofs.Calls.{unwrapped}
use Rattle.rle.proofs.pauses.decompress_some.Goals as goal

pub returns : goal.returns
returns c = rw (unwrapped not_resumed c.resume.result c.unwrap_or_else.result c.unwrap_or_else.ensures) c.resume.ensures
