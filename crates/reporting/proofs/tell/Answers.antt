-- `tell` hands over what is to be said of the stream.
use Rattle.reporting.proofs.ReportLaws.{responds}
use Rattle.reporting.proofs.tell.Goals as goal

pub hand_over-requires : goal.hand_over-requires
hand_over-requires g c = (c.requires.0, responds c.args.buf.now c.requires.1 c.respond-said.ensures)
