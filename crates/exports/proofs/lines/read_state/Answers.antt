-- Hexadecimal, or else base64.
use Rattle.exports.specs.Hexadecimal.{any_digit_of}
use Rattle.exports.proofs.WordLaws.{pairs_decoded}
use Rattle.exports.proofs.LineLaws.{spelled_hex, not_hex}
use Rattle.exports.proofs.lines.read_state.Goals as goal

pub returns-in-Some : goal.returns-in-Some
returns-in-Some c = spelled_hex c.args.word.now c.args.out.now c.decode_hex.new.out c.in-Some.n c.decode_hex.result c.in-Some.is (pairs_decoded any_digit_of c.args.word.now c.args.out.now c.decode_hex.new.out c.decode_hex.result c.requires c.decode_hex.ensures)

pub returns-in-None : goal.returns-in-None
returns-in-None c = not_hex c.args.word.now c.args.out.now c.decode_hex.new.out c.decode_base64.new.out c.decode_hex.result c.decode_base64.result c.in-None.is (pairs_decoded any_digit_of c.args.word.now c.args.out.now c.decode_hex.new.out c.decode_hex.result c.requires c.decode_hex.ensures) c.decode_base64.ensures
