-- The three parts of a record, one behind the other (`put_both`).
use native.Mathlib.Omega.{arith}
use lib.ListN.{length}
use Rattle.wire.proofs.EncodingLaws.{put_both, next_room, mid_room}
use Rattle.batch.proofs.PackingLaws.{record_three, record_length, word_length}
use Rattle.batch.proofs.packing.put_last.Goals as goal

pub put_word-size_at-requires : goal.put_word-size_at-requires
put_word-size_at-requires c = omega (arith, record_length 0 c.args.state.now, c.requires)

pub put_word-start-requires : goal.put_word-start-requires
put_word-start-requires c = omega (arith, mid_room (record_three 0 c.args.state.now).first c.put_word-size_at.ensures (record_three 0 c.args.state.now).second c.requires, word_length (length c.args.state.now))

pub put_bytes-requires : goal.put_bytes-requires
put_bytes-requires c =
    let t = record_three 0 c.args.state.now in
    next_room t.second c.put_word-start.ensures (next_room t.first c.put_word-size_at.ensures c.requires)

pub returns : goal.returns
returns c =
    let t = record_three 0 c.args.state.now in
    put_both t.first c.put_word-size_at.ensures (put_both t.second c.put_word-start.ensures c.put_bytes.ensures)
