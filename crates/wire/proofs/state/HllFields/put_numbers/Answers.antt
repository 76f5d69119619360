-- The three numbers are put one after the other.
use mathlib.Core.List.{[]}
use Rattle.wire.specs.State.{hll_of}
use Rattle.wire.proofs.EncodingLaws.{first_room, mid_room, next_room, put_both, hll_numbers_are}
use Rattle.wire.proofs.state.HllFields.put_numbers.Goals as goal

pub put_int32-second-requires-clause-room : goal.put_int32-second-requires-clause-room
put_int32-second-requires-clause-room c =
    let t = hll_numbers_are (hll_of [] c.args.self) in
    first_room c.args.out.now c.args.at t.first c.requires

pub put_int32-third-requires-clause-room : goal.put_int32-third-requires-clause-room
put_int32-third-requires-clause-room c =
    let t = hll_numbers_are (hll_of [] c.args.self) in
    mid_room t.first c.put_int32-second.ensures t.second c.requires

pub put_int32-requires-clause-room : goal.put_int32-requires-clause-room
put_int32-requires-clause-room c =
    let t = hll_numbers_are (hll_of [] c.args.self) in
    next_room t.second c.put_int32-third.ensures (next_room t.first c.put_int32-second.ensures c.requires)

pub returns : goal.returns
returns c =
    let t = hll_numbers_are (hll_of [] c.args.self) in
    put_both t.first c.put_int32-second.ensures (put_both t.second c.put_int32-third.ensures c.put_int32.ensures)
