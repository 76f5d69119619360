-- `read_cases` meets its contract: the count is that of `read_all`, or 0.
use Rattle.console.proofs.InputLaws.{arrived_stream, streamed}
use Rattle.console.proofs.input.read_cases.Goals as goal

pub returns-in-Ok : goal.returns-in-Ok
returns-in-Ok g c = (streamed c.read_all.new.buf c.read_all.result.stream c.in-Ok.n c.in-Ok.is (arrived_stream c.read_all.new.buf c.read_all.result c.read_all.ensures.arrived), c.read_all.ensures.free)
