-- A line that holds a state, whose record fits (`turn_next`).
use native.Mathlib.Omega.{arith}
use lib.ListN.{take}
use borrow.Author.Rules.{rules}
use Rattle.exports.proofs.WordLaws.{decoded_counts, decoded_some}
use Rattle.exports.proofs.PackLaws.{turn_next}
use Rattle.exports.proofs.packing.pack_line.Goals as goal

pub returns : goal.returns
returns c = let counts = decoded_counts _ _ c.read_state.new.out c.read_state.result c.read_state.ensures c.in-Some.len c.in-Some.is in
    turn_next c.args.word.now c.args.out.now c.args.n c.args.p (search rules) (take c.in-Some.len c.read_state.new.out) (decoded_some _ _ c.read_state.new.out c.read_state.result c.read_state.ensures c.in-Some.len c.in-Some.is) _ c.put_record-end.result (omega (arith, c.if-out-p.false, counts.1, c.requires.inside)) c.put_record-end.ensures
