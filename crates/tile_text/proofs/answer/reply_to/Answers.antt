-- `reply_to` meets its contract: the parser undoes the text, and the array starts with 8,192 bytes. Assumes nothing.
use Prim.Native.Nat.{ℕ}
use lib.ListN.{length-replicate}
use Rattle.tile_text.proofs.Inverse.{replied_to}
use Rattle.tile_text.proofs.answer.reply_to.Goals as goal

pub returns : goal.returns
returns c = replied_to _ _ _ _ c.new-p.ensures c.feed.ensures (length-replicate {A = ℕ} 8192 0) c.reply.ensures
