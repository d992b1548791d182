-- The answer, and then its lines. Assumes nothing.
use Rattle.tile_text.proofs.Replying.{answered_else, replied}
use Rattle.tile_text.proofs.answer.reply.Goals as goal

pub returns : goal.returns
returns c =
    replied (answered_else _ _ c.decode.ensures c.unwrap_or_else-answer.ensures) c.put_lines.ensures.writes c.put_lines.ensures.out_len
