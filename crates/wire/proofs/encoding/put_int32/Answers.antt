-- The value that is left out puts nothing, and any other is put as a number field of the sign-extended value.
use mathlib.Core.Path.{sym}
use Prim.Native.Nat.{◌/◌}
use Rattle.wire.proofs.EncodingLaws.{put_none, put_same, same_room, int32_none, int32_is}
use Rattle.wire.proofs.encoding.put_int32.Goals as goal

pub returns-then-v-omitted : goal.returns-then-v-omitted
returns-then-v-omitted c = put_none c.args.out.now c.args.at (int32_none c.args.omitted (c.args.tag / 8) c.args.v c.if-v-omitted.true)

pub put_pair-requires : goal.put_pair-requires
put_pair-requires c =
    same_room c.args.out.now c.args.at _ _
    (int32_is c.args.omitted c.args.tag c.args.v c.requires.wire_type c.if-v-omitted.false c.sign_extended.ensures) c.requires.room

pub returns : goal.returns
returns c =
    put_same (sym (int32_is c.args.omitted c.args.tag c.args.v c.requires.wire_type c.if-v-omitted.false c.sign_extended.ensures)) c.put_pair.ensures
