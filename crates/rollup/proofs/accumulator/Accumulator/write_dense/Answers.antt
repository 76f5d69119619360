-- The register bytes are the data field (`dense_23`, `dense_put`).
use Rattle.std.proofs.Common.{ℕ, length, sym, ap, ◌∙◌, subst, Result, Err}
use Rattle.wire.specs.declared.state.Fields.{Fields}
use Rattle.std.proofs.lemmas.Result.{err_from_is_err_and}
use Rattle.std.proofs.Math.Option.{none, some}
use Rattle.wire.specs.Encoding.{encode_step}
use Rattle.lists.specs.Registers.{registers_of}
use Rattle.rollup.specs.declared.refusal.Refusal.{Refusal}
use Rattle.rollup.specs.Refusals.{answer_of, length_of}
use Rattle.rollup.specs.Writing.{state_with}
use Rattle.rollup.specs.WritingPaths.{Writes, with_data}
use Rattle.rollup.proofs.WriteLaws.{dense_23, dense_put}
use Rattle.rollup.proofs.accumulator.Accumulator.write_dense.Goals as goal

pub returns-in_err-encode : goal.returns-in_err-encode
returns-in_err-encode c =
    let a = c.args.self in
    let y = err_from_is_err_and c.from_residual.result c.from_residual.ensures.1 in
    subst
    (λ (r : Result ℕ Refusal).
    Writes (encode_step (state_with a a.sparse_size (some (registers_of a.precision c.args.registers.now)) none) (length c.args.out.now)) c.args.out.now (answer_of r)
    (length_of r) c.encode.new.out) (sym (y.1 ∙ ap Err y.2))
    (dense_23 a c.args.registers.now c.args.out.now (with_data c.fields-fields.result c.register_bytes-fields.result) c.register_bytes-fields.result c.register_bytes-fields.ensures.0
    (ap (λ (f : Fields). with_data f c.register_bytes-fields.result) c.fields-fields.ensures) c.in_err-encode.field-0.0 _ c.in_err-encode.ensures)

pub returns : goal.returns
returns c =
    dense_put c.args.self c.args.registers.now c.args.out.now (with_data c.fields-fields.result c.register_bytes-fields.result) c.register_bytes-fields.result
    c.register_bytes-fields.ensures.0 (ap (λ (f : Fields). with_data f c.register_bytes-fields.result) c.fields-fields.ensures) c.in_ok-encode.field-0 _ c.in_ok-encode.ensures
