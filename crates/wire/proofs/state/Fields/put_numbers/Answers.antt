-- The four numbers are put one after the other.
use mathlib.Core.Path.{ap, sym}
use mathlib.Core.List.{[]}
use Rattle.wire.specs.State.{state_of}
use Rattle.wire.specs.Varints.{PutPost}
use Rattle.wire.specs.Encoding.{number_field, sign_extended}
use Rattle.wire.proofs.EncodingLaws.{first_room, mid_room, next_room, put_both, put_same, same_room, outer_numbers_are}
use Rattle.wire.proofs.state.Fields.put_numbers.Goals as goal

pub put_pair-second-requires : goal.put_pair-second-requires
put_pair-second-requires c = same_room c.args.out.now c.args.at _ _ (ap (number_field 1) (sym c.sign_extended.ensures))
    (first_room c.args.out.now c.args.at (outer_numbers_are (state_of [] c.args.self)).first c.requires)

pub put_pair-third-requires : goal.put_pair-third-requires
put_pair-third-requires c =
    let first : PutPost c.args.out.now c.args.at (number_field 1 (sign_extended c.args.self.aggregator_type)) c.put_pair-second.result c.put_pair-second.new.out = put_same (ap (number_field 1) c.sign_extended.ensures) c.put_pair-second.ensures in
    let t = outer_numbers_are (state_of [] c.args.self) in
    mid_room t.first first t.second c.requires

pub put_int32-fourth-requires-clause-room : goal.put_int32-fourth-requires-clause-room
put_int32-fourth-requires-clause-room c =
    let first : PutPost c.args.out.now c.args.at (number_field 1 (sign_extended c.args.self.aggregator_type)) c.put_pair-second.result c.put_pair-second.new.out = put_same (ap (number_field 1) c.sign_extended.ensures) c.put_pair-second.ensures in
    let t = outer_numbers_are (state_of [] c.args.self) in
    mid_room t.second c.put_pair-third.ensures t.third (next_room t.first first c.requires)

pub put_int32-requires-clause-room : goal.put_int32-requires-clause-room
put_int32-requires-clause-room c =
    let first : PutPost c.args.out.now c.args.at (number_field 1 (sign_extended c.args.self.aggregator_type)) c.put_pair-second.result c.put_pair-second.new.out = put_same (ap (number_field 1) c.sign_extended.ensures) c.put_pair-second.ensures in
    let t = outer_numbers_are (state_of [] c.args.self) in
    next_room t.third c.put_int32-fourth.ensures (next_room t.second c.put_pair-third.ensures (next_room t.first first c.requires))

pub returns : goal.returns
returns c =
    let first : PutPost c.args.out.now c.args.at (number_field 1 (sign_extended c.args.self.aggregator_type)) c.put_pair-second.result c.put_pair-second.new.out = put_same (ap (number_field 1) c.sign_extended.ensures) c.put_pair-second.ensures in
    let t = outer_numbers_are (state_of [] c.args.self) in
    put_both t.first first (put_both t.second c.put_pair-third.ensures (put_both t.third c.put_int32-fourth.ensures c.put_int32.ensures))
