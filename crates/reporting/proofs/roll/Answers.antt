-- `roll` is safe, and tells what was heard of the stream that was read: the buffer is longer than a batch may be.
use Rattle.console.proofs.InputLaws.{arrived_stream}
use borrow.Author.Rules.{rules}
use Rattle.reporting.proofs.roll.Goals as goal

pub hear-requires : goal.hear-requires
hear-requires g c = (search rules, arrived_stream c.read_all-arrived.new.buf c.read_all-arrived.result c.read_all-arrived.ensures.arrived)
