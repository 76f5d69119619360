-- `word` meets its contract: each turn leaves a word behind.
use mathlib.Core.Path.{◌≡◌, sym, ap, ◌∙◌}
use mathlib.Core.List.{List}
use Prim.Native.Nat.{ℕ, ◌-◌}
use native.Mathlib.Omega.{arith}
use lib.ListN.{take}
use Rattle.console.specs.Input.{up_to}
use Rattle.console.specs.Text.{words_from}
use Rattle.console.proofs.TextLaws.{words_turn, words_done}
use Rattle.console.proofs.text.word.Goals as goal

pub loop-preserved : goal.loop-preserved
loop-preserved c = let l = c.loop in words_turn c.args.k l.counter c.args.line.now l.rest.now _ (omega arith) l.invariant c.cut.ensures.rest

pub returns : goal.returns
returns c =
    let l = c.loop in
    let done : l.rest.now ≡ words_from c.args.k c.args.line.now = sym (l.invariant ∙ ap (λ (n : ℕ). words_from n l.rest.now) (let e : c.args.k - l.counter ≡ 0 = omega arith in e) ∙ words_done l.rest.now) in
    c.cut-2.ensures.first ∙ ap (λ (r : List ℕ). take (up_to 32 r) r) done
