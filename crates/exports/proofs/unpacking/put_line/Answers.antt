-- The digits into the part from `at` on, and a newline behind them (`line_put`).
use Prim.Native.Nat.{◌-◌}
use native.Mathlib.Omega.{arith}
use lib.ListN.{length}
use Rattle.exports.proofs.UnpackLaws.{line_length, line_put}
use Rattle.exports.proofs.unpacking.put_line.Goals as goal

pub hex-requires : goal.hex-requires
hex-requires c = omega (arith, line_length c.args.state.now, c.requires)

pub returns : goal.returns
returns c = line_put c.args.text.now c.hex.new.out c.args.state.now c.args.at c.hex.result (length c.args.text.now - c.args.at) c.requires (omega arith) c.hex.ensures
