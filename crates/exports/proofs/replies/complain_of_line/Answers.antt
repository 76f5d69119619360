-- What is wrong behind the number of the line.
use mathlib.Core.Path.{refl}
use native.Mathlib.Omega.{arith}
use Rattle.wire.proofs.EncodingLaws.{put_both}
use Rattle.exports.proofs.ReplyLaws.{decimal_short, line_message_short, put_said}
use Rattle.exports.proofs.replies.complain_of_line.Goals as goal

pub put_bytes-requires : goal.put_bytes-requires
put_bytes-requires c = omega (arith, c.put_numbered-next.ensures.next, decimal_short c.args.line (omega arith), c.requires, c.put_numbered-next.auto.text)

pub returns : goal.returns
returns c = put_said (omega (arith, line_message_short c.args.line c.args.what.now (omega arith), c.requires)) (put_both (record { is = refl }) c.put_numbered-next.ensures c.put_bytes.ensures)
