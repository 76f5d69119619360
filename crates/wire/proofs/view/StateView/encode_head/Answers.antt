-- The start is put with the length of the nested message, and then the prefix of the sparse data. What is required gives the sums room.
use Prim.Native.Nat.{ℕ, ◌+◌, ◌≤◌}
use native.Mathlib.Omega.{arith}
use lib.ListN.{length}
use Rattle.wire.specs.View.{viewed}
use Rattle.wire.specs.State.{State}
use Rattle.wire.specs.Encoding.{head_of}
use Rattle.wire.proofs.EncodingLaws.{two_length, next_room, put_both, head_is, head_length_ge}
use Rattle.wire.proofs.view.StateView.encode_head.Goals as goal

pub nested_len-requires : goal.nested_len-requires
nested_len-requires c =
    let state : State = viewed c.args.self in
    let len : ℕ = c.args.self.fields.hll.sparse_data.len in
    omega (arith, head_length_ge state len, c.requires)

pub put_start-at-requires : goal.put_start-at-requires
put_start-at-requires c =
    let state : State = viewed c.args.self in
    let len : ℕ = c.args.self.fields.hll.sparse_data.len in
    omega (arith, two_length (head_is state len c.nested_len.result c.nested_len.ensures), c.requires)

pub put_pair-requires : goal.put_pair-requires
put_pair-requires c =
    let state : State = viewed c.args.self in
    let len : ℕ = c.args.self.fields.hll.sparse_data.len in
    let room : 0 + length (head_of state len) ≤ length c.args.out.now = omega (arith, c.requires) in
    next_room (head_is state len c.nested_len.result c.nested_len.ensures) c.put_start-at.ensures room

pub returns : goal.returns
returns c =
    let state : State = viewed c.args.self in
    let len : ℕ = c.args.self.fields.hll.sparse_data.len in
    put_both (head_is state len c.nested_len.result c.nested_len.ensures) c.put_start-at.ensures c.put_pair.ensures
