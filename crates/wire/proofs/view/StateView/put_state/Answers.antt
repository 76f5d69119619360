-- The start is put with the length of the nested message, and then field 6.
use mathlib.Core.Path.{◌≡◌, ap, sym}
use Prim.Native.Nat.{◌+◌, ◌≤◌}
use native.Mathlib.Omega.{arith}
use lib.ListN.{length}
use Rattle.wire.specs.View.{viewed}
use Rattle.wire.specs.State.{State, lent_field}
use Rattle.wire.specs.Encoding.{bytes_field, start_of, encode_of}
use Rattle.wire.proofs.EncodingLaws.{Two, two_length, front_room, next_room, put_both, put_same, same_room, encode_is, encode_ge}
use Rattle.wire.proofs.view.StateView.put_state.Goals as goal

pub hll_len-requires : goal.hll_len-requires
hll_len-requires c =
    let state : State = viewed c.args.self in
    omega (arith, encode_ge state, c.requires)

pub put_start-at-requires : goal.put_start-at-requires
put_start-at-requires c =
    let state : State = viewed c.args.self in
    let parts : Two (encode_of state) (start_of state c.hll_len.result) (bytes_field 6 state.hll.sparse_data) = encode_is state c.hll_len.result c.hll_len.ensures in
    omega (arith, two_length parts, c.requires)

pub put_field-requires-clause-room : goal.put_field-requires-clause-room
put_field-requires-clause-room c =
    let state : State = viewed c.args.self in
    let parts : Two (encode_of state) (start_of state c.hll_len.result) (bytes_field 6 state.hll.sparse_data) = encode_is state c.hll_len.result c.hll_len.ensures in
    let room : 0 + length (encode_of state) ≤ length c.args.out.now = front_room c.args.out.now (encode_of state) c.requires in
    let field : bytes_field 6 (lent_field c.sparse_data_field.result) ≡ bytes_field 6 state.hll.sparse_data = ap (bytes_field 6) c.sparse_data_field.ensures in
    same_room c.put_start-at.new.out c.put_start-at.result _ _ (sym field) (next_room parts c.put_start-at.ensures room)

pub returns : goal.returns
returns c =
    let state : State = viewed c.args.self in
    let parts : Two (encode_of state) (start_of state c.hll_len.result) (bytes_field 6 state.hll.sparse_data) = encode_is state c.hll_len.result c.hll_len.ensures in
    let field : bytes_field 6 (lent_field c.sparse_data_field.result) ≡ bytes_field 6 state.hll.sparse_data = ap (bytes_field 6) c.sparse_data_field.ensures in
    put_both parts c.put_start-at.ensures (put_same field c.put_field.ensures)
