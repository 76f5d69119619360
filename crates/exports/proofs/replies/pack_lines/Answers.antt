-- The batch, or what is wrong with a line (`batch_said`, `line_said`).
use mathlib.Core.Path.{refl, ap, ◌∙◌}
use Rattle.std.specs.Prelude.{Err}
use Rattle.exports.proofs.ReplyLaws.{batch_said, line_said}
use Rattle.exports.proofs.replies.pack_lines.Goals as goal

pub returns-in-Ok : goal.returns-in-Ok
returns-in-Ok c = batch_said c.args.lines.now c.requires.1 c.pack.ensures c.in-Ok.n c.in-Ok.is

pub returns-in-Err-BadLine : goal.returns-in-Err-BadLine
returns-in-Err-BadLine c = line_said c.args.lines.now c.requires.1 c.pack.ensures (c.in-Err-BadLine.is ∙ ap Err c.in-Err-BadLine.field-0-is) refl c.complain_of_line.auto.text c.complain_of_line.ensures

pub returns-in-Err-TooLong : goal.returns-in-Err-TooLong
returns-in-Err-TooLong c = line_said c.args.lines.now c.requires.1 c.pack.ensures (c.in-Err-TooLong.is ∙ ap Err c.in-Err-TooLong.field-0-is) refl c.complain_of_line-in-Err-TooLong.auto.text c.complain_of_line-in-Err-TooLong.ensures
