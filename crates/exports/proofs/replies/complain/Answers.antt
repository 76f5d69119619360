-- The message stands at the front (`put_said`).
use Rattle.exports.proofs.ReplyLaws.{put_said}
use Rattle.exports.proofs.replies.complain.Goals as goal

pub returns : goal.returns
returns c = put_said c.requires c.put_bytes.ensures
