-- The line, or all of it but the last byte.
use borrow.Author.Rules.{rules}
use Rattle.exports.proofs.LineLaws.{trim_none, trim_return, trim_other}
use Rattle.exports.proofs.lines.trim.Goals as goal

pub returns-in-13 : goal.returns-in-13
returns-in-13 c = trim_return c.args.line.now c.in-13.len_at_least (search rules)

pub returns-in_default : goal.returns-in_default
returns-in_default c = trim_none c.args.line.now c.in_default.len_below

pub returns-in_default-2 : goal.returns-in_default-2
returns-in_default-2 c = trim_other c.args.line.now c.in_default.len_at_least (search rules)
