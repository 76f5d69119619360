-- The part that was copied into is the whole with the bytes in the place of as many.
use Rattle.wire.proofs.EncodingLaws.{put_part}
use Rattle.wire.proofs.encoding.put_bytes.Goals as goal

pub returns : goal.returns
returns c = put_part c.args.out.now c.args.d.now c.args.at c.requires c.copy_from_slice.ensures.after
