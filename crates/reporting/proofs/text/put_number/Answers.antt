-- `put_number` meets its contract: the digits of the signed number, and the byte behind them.
use Rattle.std.proofs.Common.{◌∙◌, rules, FitsSigned, w64}
use Rattle.std.specs.Int.{cast_unsigned}
use Rattle.wire.proofs.EncodingLaws.{put_both, put_same}
use Rattle.reporting.proofs.NumberLaws.{signed_is, signed_is_short, number_is}
use Rattle.reporting.proofs.text.put_number.Goals as goal

pub returns-clause-put : goal.returns-clause-put
returns-clause-put c =
    let fits : FitsSigned w64 c.args.v = search rules in
    let size = signed_is_short c.args.v fits in
    put_both (number_is (cast_unsigned w64 c.args.v) c.args.end) (put_same (search rules ∙ signed_is c.args.v fits) c.put_bytes-next.ensures) c.put_bytes.ensures
