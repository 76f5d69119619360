-- `put_numbers` meets its contract: four numbers, each behind the last.
use Rattle.std.proofs.Common.{ℕ, ap, arith, to_z-of_z}
use Rattle.std.proofs.Math.Facts.{of_z-to_z}
use Rattle.wire.proofs.EncodingLaws.{put_both, put_same}
use Rattle.reporting.specs.Numbers.{number_text}
use Rattle.reporting.proofs.TextLaws.{numbers_are}
use Rattle.reporting.proofs.text.put_numbers.Goals as goal

pub returns-clause-put : goal.returns-clause-put
returns-clause-put c =
    let f = numbers_are c.args.a c.args.not_zero in
    put_both f.first (put_same (ap (λ (v : ℕ). number_text v 32) (grind (arith, to_z-of_z, of_z-to_z))) c.put_number-second.ensures.put)
    (put_both f.second (put_same (ap (λ (v : ℕ). number_text v 32) (grind (arith, to_z-of_z, of_z-to_z))) c.put_number-third.ensures.put)
    (put_both f.third (put_same (ap (λ (v : ℕ). number_text v 32) (grind (arith, to_z-of_z, of_z-to_z))) c.put_number-fourth.ensures.put) (put_same (ap (λ (v : ℕ). number_text v 10) (grind (arith, to_z-of_z, of_z-to_z))) c.put_number.ensures.put)))
