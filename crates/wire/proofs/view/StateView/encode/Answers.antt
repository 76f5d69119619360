-- Where one or both of the data fields have no room, neither has the whole. Past these two tests the length can be taken, and it decides.
use mathlib.Core.Path.{◌≡◌, ap}
use mathlib.Core.List.{List}
use Prim.Native.Nat.{ℕ, ◌<◌}
use native.Mathlib.Omega.{arith}
use lib.ListN.{length}
use Rattle.wire.specs.View.{viewed}
use Rattle.wire.specs.State.{State, bytes_or_none}
use Rattle.wire.specs.Encoding.{encode_of}
use Rattle.wire.proofs.view.StateView.encode.Goals.{then-out-dense-via-then-out-dense, then-out-dense-via-else-out-dense+then-out-dense-2, then-out-dense-via-else-out-dense+else-out-dense-2+then-out-encoded_len}
use Rattle.wire.proofs.EncodingLaws.{encode_ge, encode_short, encode_written}
use Rattle.wire.proofs.view.StateView.encode.Goals as goal

pub returns-then-out-dense : goal.returns-then-out-dense
returns-then-out-dense c =
    let state : State = viewed c.args.self in
    let dense : length c.data-dense.result.now ≡ length (bytes_or_none state.hll.«data») = ap (λ (l : List ℕ). length l) c.data-dense.ensures in
    let sparse : length c.sparse_data-sparse.result.now ≡ length (bytes_or_none state.hll.sparse_data) = ap (λ (l : List ℕ). length l) c.sparse_data-sparse.ensures in
    let short : length c.args.out.now < length (encode_of state) = elim c.then-out-dense.branch [
      | then-out-dense-via-then-out-dense w ↦ omega (arith, encode_ge state, dense, w.if-out-dense.true)
      | then-out-dense-via-else-out-dense+then-out-dense-2 w ↦ omega (arith, encode_ge state, dense, sparse, w.if-out-dense.false, w.if-out-dense-2.true)
      | then-out-dense-via-else-out-dense+else-out-dense-2+then-out-encoded_len w ↦ omega (arith, w.encoded_len.ensures, w.if-out-encoded_len.true)
    ] in
    encode_short state c.args.out.now short

pub returns : goal.returns
returns c =
    let state : State = viewed c.args.self in
    encode_written state c.args.out.now c.put_state.result _ (omega (arith, c.encoded_len.ensures, c.if-out-encoded_len.false)) c.put_state.ensures
