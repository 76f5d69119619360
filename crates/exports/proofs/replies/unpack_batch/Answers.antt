-- The text, or what is wrong with the batch (`text_said`, `message_said`).
use mathlib.Core.Path.{refl, ap, ◌∙◌}
use Rattle.std.specs.Prelude.{Err}
use native.Mathlib.Omega.{arith}
use Rattle.exports.proofs.ReplyLaws.{text_said, message_said, broken_records}
use Rattle.exports.proofs.replies.unpack_batch.Goals as goal

pub complain_of_chain-requires : goal.complain_of_chain-requires
complain_of_chain-requires c = (broken_records c.requires c.unpack.ensures c.in-Err-Broken.records c.in-Err-Broken.error (c.in-Err-Broken.is ∙ ap Err c.in-Err-Broken.field-0-is), omega (arith, c.requires, c.unpack.auto.text))

pub returns-in-Ok : goal.returns-in-Ok
returns-in-Ok c = text_said c.requires c.unpack.ensures c.in-Ok.len c.in-Ok.is

pub returns-in-Err-Broken : goal.returns-in-Err-Broken
returns-in-Err-Broken c = message_said c.requires c.unpack.ensures (c.in-Err-Broken.is ∙ ap Err c.in-Err-Broken.field-0-is) refl refl c.complain_of_chain.ensures

pub returns-in-Err-TooLong : goal.returns-in-Err-TooLong
returns-in-Err-TooLong c = message_said c.requires c.unpack.ensures (c.in-Err-TooLong.is ∙ ap Err c.in-Err-TooLong.field-0-is) refl refl c.complain.ensures
