-- `respond` meets its contract: the text of the report, or the message.
use native.Mathlib.Omega.{arith}
use Rattle.reporting.proofs.ReportLaws.{said_batch, said_nothing}
use Rattle.reporting.proofs.respond.Goals as goal

pub returns-in-Some : goal.returns-in-Some
returns-in-Some c = said_batch c.args.answers.now c.args.out.now c.args.text.now c.in-Some.is c.put_report.ensures

pub returns-in-None : goal.returns-in-None
returns-in-None c = said_nothing c.args.answers.now c.args.out.now c.args.text.now c.in-None.is (omega (arith)) c.put_bytes.ensures
