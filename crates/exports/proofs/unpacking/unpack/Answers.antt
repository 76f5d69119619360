-- The measure, and the text (`unpack_broken`, `unpack_long`, `unpack_text`).
use Rattle.std.proofs.Common.{arith}
use Rattle.exports.proofs.UnpackLaws.{unpack_broken, unpack_long, unpack_text}
use Rattle.exports.proofs.unpacking.unpack.Goals as goal

pub returns-in-Ok : goal.returns-in-Ok
returns-in-Ok c =
    let m = c.in-Ok.ensures.measured in
    unpack_long c.args.batch.now c.args.text.now m.0 (omega (arith, m.1, c.if-text-n.true))

pub returns-in-Ok-2 : goal.returns-in-Ok-2
returns-in-Ok-2 c =
    let m = c.in-Ok-2.ensures.measured in
    let long = c.in-Ok.ensures.measured in
    unpack_text c.args.batch.now c.args.text.now m.0 c.put_lines.new.text c.put_lines.result (omega (arith, long.1, c.if-text-n.false)) c.put_lines.ensures

pub returns-in-Err : goal.returns-in-Err
returns-in-Err c = unpack_broken c.args.batch.now c.args.text.now c.in-Err.error c.text_len.ensures.counted c.in-Err.ensures.measured
