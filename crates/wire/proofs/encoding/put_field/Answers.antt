-- An absent field puts nothing; a present one its prefix and then its bytes.
use mathlib.Core.Path.{ap}
use Prim.Native.Nat.{◌/◌}
use Rattle.wire.specs.State.{lent_field}
use Rattle.wire.proofs.EncodingLaws.{first_room, next_room, put_both, put_none, field_none, field_is}
use Rattle.wire.proofs.encoding.put_field.Goals as goal

pub returns-in_default : goal.returns-in_default
returns-in_default c = put_none c.args.out.now c.args.at (field_none (c.args.tag / 8) (ap lent_field c.in_default.is))

pub put_pair-next-requires : goal.put_pair-next-requires
put_pair-next-requires c = first_room c.args.out.now c.args.at (field_is c.args.tag c.requires.wire_type (ap lent_field c.in-Some.is)) c.requires.room

pub put_bytes-requires : goal.put_bytes-requires
put_bytes-requires c = next_room (field_is c.args.tag c.requires.wire_type (ap lent_field c.in-Some.is)) c.put_pair-next.ensures c.requires.room

pub returns : goal.returns
returns c = put_both (field_is c.args.tag c.requires.wire_type (ap lent_field c.in-Some.is)) c.put_pair-next.ensures c.put_bytes.ensures
