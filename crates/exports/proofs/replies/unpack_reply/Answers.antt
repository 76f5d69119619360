-- By what came in: a batch, or what is none by its length, or a message.
use mathlib.Core.Path.{◌≡◌}
use borrow.Author.Rules.{rules}
use Rattle.console.specs.declared.input.StreamError.TheVariants.{Full}
use Rattle.std.specs.Prelude.{Err}
use Rattle.console.proofs.InputLaws.{arrived_stream, streamed}
use Rattle.exports.proofs.ReplyLaws.{unpack_said, full_said}
use Rattle.exports.proofs.replies.unpack_reply.Goals as goal

pub slice_bounds-unpack_batch-end : goal.slice_bounds-unpack_batch-end
slice_bounds-unpack_batch-end c = (streamed c.args.buf.now c.args.arrived.stream c.in-Ok.n c.in-Ok.is (arrived_stream c.args.buf.now c.args.arrived c.requires.read_in)).1

pub returns-in-Err-Full : goal.returns-in-Err-Full
returns-in-Err-Full c = let e : c.args.arrived.stream ≡ Err Full = search rules in unpack_said c.args.buf.now e (full_said c.args.buf.now c.requires.buf_size c.unpack_batch-in-Err-Full.ensures)
