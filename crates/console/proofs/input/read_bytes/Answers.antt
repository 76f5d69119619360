-- `read_bytes` meets its contract: what is counted lies inside.
use Rattle.console.specs.Input.{digit_of}
use Rattle.console.proofs.TextLaws.{pairs_inside}
use Rattle.console.proofs.input.read_bytes.Goals as goal

pub returns-clause-inside : goal.returns-clause-inside
returns-clause-inside c = pairs_inside digit_of c.args.word.now c.args.out.now c.read_pairs.new.out c.read_pairs.result (c.read_pairs.ensures digit_of (λ b r small post. post.0))
