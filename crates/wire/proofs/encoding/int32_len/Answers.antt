-- The value that is left out takes nothing, and any other is a number field of the sign-extended value.
use mathlib.Core.Path.{sym, ap, ◌∙◌}
use mathlib.Core.List.{List}
use Prim.Native.Nat.{ℕ, ◌/◌}
use lib.ListN.{length}
use Rattle.wire.proofs.EncodingLaws.{int32_none, int32_is}
use Rattle.wire.proofs.encoding.int32_len.Goals as goal

pub returns-then-v-omitted : goal.returns-then-v-omitted
returns-then-v-omitted c = sym (ap (λ (l : List ℕ). length l) (int32_none c.args.omitted (c.args.tag / 8) c.args.v c.if-v-omitted.true))

pub returns : goal.returns
returns c = c.pair_len.ensures
    ∙ sym (ap (λ (l : List ℕ). length l) (int32_is c.args.omitted c.args.tag c.args.v c.requires c.if-v-omitted.false c.sign_extended.ensures))
