-- The four parts are put one after the other; the numbers do not depend on `bytes`.
use mathlib.Core.Path.{◌≡◌, ap, sym}
use Prim.Native.Nat.{◌+◌, ◌≤◌}
use lib.ListN.{length}
use Rattle.wire.specs.View.{viewed}
use Rattle.wire.specs.State.{State, lent_field}
use Rattle.wire.specs.Varints.{PutPost}
use Rattle.wire.specs.Encoding.{length_prefix, outer_numbers, hll_numbers, bytes_field, start_of}
use Rattle.wire.proofs.EncodingLaws.{Four, front_room, first_room, mid_room, next_room, put_both, put_same, same_room, start_is, outer_numbers_any, hll_numbers_any}
use Rattle.wire.proofs.view.StateView.put_start.Goals as goal

pub put_numbers-prefix-requires : goal.put_numbers-prefix-requires
put_numbers-prefix-requires c =
    let state : State = viewed c.args.self in
    let parts : Four (start_of state c.args.n) (outer_numbers state) (length_prefix 112 c.args.n) (hll_numbers state.hll) (bytes_field 5 state.hll.«data») = start_is state c.args.n in
    let room : 0 + length (start_of state c.args.n) ≤ length c.args.out.now = front_room c.args.out.now (start_of state c.args.n) c.requires in
    same_room c.args.out.now 0 _ _ (sym (outer_numbers_any c.args.self.bytes.now c.args.self.fields)) (first_room c.args.out.now 0 parts.first room)

pub put_pair-numbers-requires : goal.put_pair-numbers-requires
put_pair-numbers-requires c =
    let state : State = viewed c.args.self in
    let parts : Four (start_of state c.args.n) (outer_numbers state) (length_prefix 112 c.args.n) (hll_numbers state.hll) (bytes_field 5 state.hll.«data») = start_is state c.args.n in
    let room : 0 + length (start_of state c.args.n) ≤ length c.args.out.now = front_room c.args.out.now (start_of state c.args.n) c.requires in
    let outer : PutPost c.args.out.now 0 (outer_numbers state) c.put_numbers-prefix.result c.put_numbers-prefix.new.out = put_same (outer_numbers_any c.args.self.bytes.now c.args.self.fields) c.put_numbers-prefix.ensures in
    mid_room parts.first outer parts.second room

pub put_numbers-field-requires : goal.put_numbers-field-requires
put_numbers-field-requires c =
    let state : State = viewed c.args.self in
    let parts : Four (start_of state c.args.n) (outer_numbers state) (length_prefix 112 c.args.n) (hll_numbers state.hll) (bytes_field 5 state.hll.«data») = start_is state c.args.n in
    let room : 0 + length (start_of state c.args.n) ≤ length c.args.out.now = front_room c.args.out.now (start_of state c.args.n) c.requires in
    let outer : PutPost c.args.out.now 0 (outer_numbers state) c.put_numbers-prefix.result c.put_numbers-prefix.new.out = put_same (outer_numbers_any c.args.self.bytes.now c.args.self.fields) c.put_numbers-prefix.ensures in
    same_room c.put_pair-numbers.new.out c.put_pair-numbers.result _ _ (sym (hll_numbers_any c.args.self.bytes.now c.args.self.fields.hll))
    (mid_room parts.second c.put_pair-numbers.ensures parts.third (next_room parts.first outer room))

pub put_field-requires-clause-room : goal.put_field-requires-clause-room
put_field-requires-clause-room c =
    let state : State = viewed c.args.self in
    let parts : Four (start_of state c.args.n) (outer_numbers state) (length_prefix 112 c.args.n) (hll_numbers state.hll) (bytes_field 5 state.hll.«data») = start_is state c.args.n in
    let room : 0 + length (start_of state c.args.n) ≤ length c.args.out.now = front_room c.args.out.now (start_of state c.args.n) c.requires in
    let outer : PutPost c.args.out.now 0 (outer_numbers state) c.put_numbers-prefix.result c.put_numbers-prefix.new.out = put_same (outer_numbers_any c.args.self.bytes.now c.args.self.fields) c.put_numbers-prefix.ensures in
    let numbers : PutPost c.put_pair-numbers.new.out c.put_pair-numbers.result (hll_numbers state.hll) c.put_numbers-field.result c.put_numbers-field.new.out = put_same (hll_numbers_any c.args.self.bytes.now c.args.self.fields.hll) c.put_numbers-field.ensures in
    let field : bytes_field 5 (lent_field c.data_field.result) ≡ bytes_field 5 state.hll.«data» = ap (bytes_field 5) c.data_field.ensures in
    same_room c.put_numbers-field.new.out c.put_numbers-field.result _ _ (sym field)
    (next_room parts.third numbers
    (next_room parts.second c.put_pair-numbers.ensures (next_room parts.first outer room)))

pub returns : goal.returns
returns c =
    let state : State = viewed c.args.self in
    let parts : Four (start_of state c.args.n) (outer_numbers state) (length_prefix 112 c.args.n) (hll_numbers state.hll) (bytes_field 5 state.hll.«data») = start_is state c.args.n in
    let outer : PutPost c.args.out.now 0 (outer_numbers state) c.put_numbers-prefix.result c.put_numbers-prefix.new.out = put_same (outer_numbers_any c.args.self.bytes.now c.args.self.fields) c.put_numbers-prefix.ensures in
    let numbers : PutPost c.put_pair-numbers.new.out c.put_pair-numbers.result (hll_numbers state.hll) c.put_numbers-field.result c.put_numbers-field.new.out = put_same (hll_numbers_any c.args.self.bytes.now c.args.self.fields.hll) c.put_numbers-field.ensures in
    let field : bytes_field 5 (lent_field c.data_field.result) ≡ bytes_field 5 state.hll.«data» = ap (bytes_field 5) c.data_field.ensures in
    put_both parts.first outer
    (put_both parts.second c.put_pair-numbers.ensures
    (put_both parts.third numbers (put_same field c.put_field.ensures)))
