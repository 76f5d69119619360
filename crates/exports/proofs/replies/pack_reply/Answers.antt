-- By what came in: the lines of the text, or a message.
use mathlib.Core.Path.{◌≡◌}
use borrow.Author.Rules.{rules}
use Rattle.console.specs.declared.input.StreamError.TheVariants.{Full}
use Rattle.std.specs.Prelude.{Err}
use Rattle.console.proofs.InputLaws.{arrived_stream, streamed}
use Rattle.exports.proofs.ReplyLaws.{pack_said, pack_complained, too_long_said}
use Rattle.exports.proofs.replies.pack_reply.Goals as goal

pub slice_bounds-pack_lines-end : goal.slice_bounds-pack_lines-end
slice_bounds-pack_lines-end c = (streamed c.args.lines.now c.args.arrived.stream c.in-Ok.n c.in-Ok.is (arrived_stream c.args.lines.now c.args.arrived c.requires.read_in)).1

pub returns-in-Err-Full : goal.returns-in-Err-Full
returns-in-Err-Full c = let e : c.args.arrived.stream ≡ Err Full = search rules in pack_said c.args.lines.now e (too_long_said c.args.lines.now c.requires.lines_size (pack_complained c.complain-in-Err-Full.auto.text c.complain-in-Err-Full.ensures))
