-- `put_report` meets its contract: the lines, the ending, the four numbers and the state, each behind the last. The buffer takes them all.
use mathlib.Core.Path.{sym}
use Prim.Native.Nat.{◌≤◌}
use native.Mathlib.Omega.{arith}
use lib.ListN.{length}
use lib.Seq.{length-take-le}
use Rattle.wire.proofs.EncodingLaws.{put_both}
use Rattle.reporting.proofs.TextLaws.{report_are}
use Rattle.reporting.proofs.text.put_report.Goals as goal

pub returns : goal.returns
returns c = let r = c.args.r in
    let f = report_are r c.args.answers.now c.args.out.now in
    let fits : c.put_state.result ≤ length c.put_state.new.text = omega (arith, c.put_state.auto.text, c.put_answers-lines.ensures.1, length-take-le r.rolled.records c.args.answers.now c.requires.records_in, c.requires.records_few, c.put_ending-chain.ensures.room, c.put_numbers-numbers.ensures.room, c.put_state.ensures.room, c.requires.written_few) in (
      put_both f.first c.put_answers-lines.ensures.0 (put_both f.second c.put_ending-chain.ensures.put (put_both f.third c.put_numbers-numbers.ensures.put c.put_state.ensures.put)),
      (fits, sym (length-take-le c.put_state.result c.put_state.new.text fits)),
    )
