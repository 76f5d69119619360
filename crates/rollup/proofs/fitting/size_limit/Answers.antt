-- A one shifted by p - 2 is 2^(p-2), at most 2^22.
use Rattle.rollup.proofs.FitLaws.{limit_code}
use Rattle.rollup.proofs.fitting.size_limit.Goals as goal

pub returns : goal.returns
returns c = limit_code c.args.p c.requires.1
