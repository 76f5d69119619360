-- `put_answer` meets its contract: two numbers, the second behind the first.
use Rattle.std.proofs.Common.{◌≡◌, ℕ, ap, arith, to_z, of_z, to_z-of_z, w64}
use Rattle.std.proofs.Math.Facts.{of_z-to_z}
use Rattle.wire.proofs.EncodingLaws.{put_both, put_same}
use Rattle.reporting.specs.Numbers.{number_text}
use Rattle.reporting.proofs.TextLaws.{answer_is}
use Rattle.reporting.proofs.text.put_answer.Goals as goal

pub returns-clause-put : goal.returns-clause-put
returns-clause-put c =
    let first : of_z w64 (to_z w64 (of_z w64 c.cast_signed.result)) ≡ c.args.ordinal = grind (arith, to_z-of_z, of_z-to_z) in
    let second : of_z w64 (to_z w64 (of_z w64 c.from.result)) ≡ c.args.answer = grind (arith, to_z-of_z, of_z-to_z) in
    put_both (answer_is c.args.ordinal c.args.answer) (put_same (ap (λ (v : ℕ). number_text v 32) first) c.put_number-next.ensures.put) (put_same (ap (λ (v : ℕ). number_text v 10) second) c.put_number.ensures.put)
