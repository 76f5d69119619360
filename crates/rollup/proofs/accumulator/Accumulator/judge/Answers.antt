-- What the questions before refuse is refused; else the match answers (`judge_no`, `judge_yes`).
use Rattle.std.proofs.Common.{◌∙◌, ap, sym, subst, Err}
use Rattle.std.proofs.lemmas.Result.{err_from_is_err_and}
use Rattle.rollup.specs.Judging.{JudgePost}
use Rattle.rollup.proofs.JudgeLaws.{judge_refused, judge_no, judge_yes}
use Rattle.rollup.proofs.accumulator.Accumulator.judge.Goals as goal

pub returns-in_err-state-clause-read : goal.returns-in_err-state-clause-read
returns-in_err-state-clause-read c =
    let y = err_from_is_err_and c.from_residual.result c.from_residual.ensures.1 in
    subst (JudgePost c.args.self c.args.bytes.now) (sym (y.1 ∙ ap Err y.2))
    (judge_refused c.args.self c.args.bytes.now c.in_err-state.field-0.0 c.in_err-state.ensures.read)

pub returns-in_err-validate_match-clause-read : goal.returns-in_err-validate_match-clause-read
returns-in_err-validate_match-clause-read c =
    let y = err_from_is_err_and c.from_residual-in_err-validate_match.result c.from_residual-in_err-validate_match.ensures.1 in
    subst (JudgePost c.args.self c.args.bytes.now) (sym (y.1 ∙ ap Err y.2))
    (judge_no c.args.self c.args.bytes.now c.in_ok-state.state c.in_ok-state.ensures.read c.in_err-validate_match.field-0.0 c.in_err-validate_match.ensures)

pub returns-clause-read : goal.returns-clause-read
returns-clause-read c = judge_yes c.args.self c.args.bytes.now c.in_ok-state.state c.in_ok-state.ensures.read c.in_ok-validate_match.ensures
