-- Each refusal is the definition's, and so is the state (`read_2` to `read_yes`).
use Rattle.std.proofs.Common.{ℕ, List, ap, sym, ◌∙◌, subst, Err, Bor}
use Rattle.std.proofs.lemmas.Result.{err_from_is_err_and}
use Rattle.rollup.specs.Judging.{HeaderPost}
use Rattle.rollup.proofs.JudgeLaws.{read_2, read_refused, read_no, read_yes}
use Rattle.rollup.proofs.judging.read_header.Goals as goal

pub returns-then-bytes-gt-MAX_STATE_BYTES-clause-read : goal.returns-then-bytes-gt-MAX_STATE_BYTES-clause-read
returns-then-bytes-gt-MAX_STATE_BYTES-clause-read c = read_2 c.args.bytes.now c.if-bytes-gt-MAX_STATE_BYTES.true

pub returns-in_err-view-clause-read : goal.returns-in_err-view-clause-read
returns-in_err-view-clause-read c =
    let s = c.args.bytes.now in
    let y = err_from_is_err_and c.from_residual.result c.from_residual.ensures.1 in
    subst (HeaderPost s) (sym (y.1 ∙ ap Err y.2)) (read_refused s c.if-bytes-gt-MAX_STATE_BYTES.false c.in_err-view.field-0.0 c.in_err-view.ensures.read)

pub returns-in_err-validate_header-clause-read : goal.returns-in_err-validate_header-clause-read
returns-in_err-validate_header-clause-read c =
    let s = c.args.bytes.now in
    let y = err_from_is_err_and c.from_residual-in_err-validate_header.result c.from_residual-in_err-validate_header.ensures.1 in
    subst (HeaderPost s) (sym (y.1 ∙ ap Err y.2))
    (read_no s c.if-bytes-gt-MAX_STATE_BYTES.false c.in_ok-view.view c.in_ok-view.ensures.read (ap (λ (b : Bor (List ℕ)). b.now) c.in_ok-view.ensures.same) c.in_err-validate_header.field-0.0 c.in_err-validate_header.ensures)

pub returns-clause-read : goal.returns-clause-read
returns-clause-read c =
    let s = c.args.bytes.now in
    read_yes s c.if-bytes-gt-MAX_STATE_BYTES.false c.in_ok-view.view c.in_ok-view.ensures.read (ap (λ (b : Bor (List ℕ)). b.now) c.in_ok-view.ensures.same) c.in_ok-validate_header.ensures
