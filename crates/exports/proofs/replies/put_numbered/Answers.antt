-- The piece, and behind it the digits.
use mathlib.Core.Path.{refl}
use borrow.Author.Rules.{rules}
use Rattle.wire.proofs.EncodingLaws.{put_both, put_same}
use Rattle.exports.proofs.replies.put_numbered.Goals as goal

pub returns : goal.returns
returns c = put_both (record { is = refl }) c.put_bytes-next.ensures (put_same (search rules) c.put_bytes.ensures)
