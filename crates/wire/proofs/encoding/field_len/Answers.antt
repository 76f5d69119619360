-- An absent field takes nothing; a present one its prefix and its bytes, which fit since a slice is shorter than 2 ^ 63.
use mathlib.Core.Path.{sym, ap}
use mathlib.Core.List.{List}
use Prim.Native.Nat.{ℕ, ◌/◌}
use native.Mathlib.Omega.{arith}
use lib.ListN.{length}
use Rattle.wire.specs.State.{lent_field}
use Rattle.wire.proofs.EncodingLaws.{field_none, field_is, pair_le, two_length}
use Rattle.wire.proofs.encoding.field_len.Goals as goal

pub returns-in_default : goal.returns-in_default
returns-in_default c = sym (ap (λ (l : List ℕ). length l) (field_none (c.args.tag / 8) (ap lent_field c.in_default.is)))

pub overflow_add-result : goal.overflow_add-result
overflow_add-result c = omega (arith, c.pair_len.ensures, pair_le c.args.tag (length c.in-Some.d.now), rw c.in-Some.is at c.well_formed)

pub returns : goal.returns
returns c = omega (arith, c.pair_len.ensures, two_length (field_is c.args.tag c.requires (ap lent_field c.in-Some.is)))
