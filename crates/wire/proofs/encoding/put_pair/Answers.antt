-- The tag is put, and then the number.
use Rattle.wire.proofs.EncodingLaws.{first_room, next_room, put_both, pair_is}
use Rattle.wire.proofs.encoding.put_pair.Goals as goal

pub put_varint-next-requires : goal.put_varint-next-requires
put_varint-next-requires c = first_room c.args.out.now c.args.at (pair_is c.from.ensures c.args.v) c.requires

pub put_varint-requires : goal.put_varint-requires
put_varint-requires c = next_room (pair_is c.from.ensures c.args.v) c.put_varint-next.ensures c.requires

pub returns : goal.returns
returns c = put_both (pair_is c.from.ensures c.args.v) c.put_varint-next.ensures c.put_varint.ensures
