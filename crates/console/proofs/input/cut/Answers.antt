-- `cut` meets its contract: the search finds the place of the definition. In `n` are that place and the one where the rest begins.
use mathlib.Core.Path.{◌≡◌, ap, sym, ◌∙◌}
use mathlib.Core.Logic.{◌≢◌}
use Prim.Native.Nat.{ℕ, ◌+◌}
use lib.ListN.{take, drop, length}
use borrow.Author.Rules.{rules}
use borrow.Author.Tests.{tests}
use Rattle.std.proofs.Common.{arith, min}
use Rattle.std.proofs.lemmas.Iterator.{IsFirst-from_position, YieldsList-from_slice}
use Rattle.console.specs.Input.{up_to}
use Rattle.console.proofs.InputLaws.{up_to_place, rest_behind}
use Rattle.console.proofs.input.cut.Goals.{in-Some, in-None}
use Rattle.console.proofs.input.cut.Goals as goal

pub returns : goal.returns
returns c =
    let b = c.args.b in
    let s = c.args.s.now in
    let e = up_to_place b s c.position.result (IsFirst-from_position _ _ _ (λ x. x ≡ b) (λ x. x ≢ b) c.position.ensures.ran (YieldsList-from_slice s cc) (λ x q k. search (rules, tests)) (λ x q k. search (rules, tests))) in
    let n = c.match-position.n in
    let k : (n.0 ≡ up_to b s) × (n.1 ≡ min (n.0 + 1) (length s)) = elim c.match-position.branch [
      | in-Some w ↦ rw w.n-is (sym (rw w.in-Some.is at e), search (rules, w.in-Some.ensures.bound))
      | in-None w ↦ rw w.n-is (sym (rw w.in-None.is at e), omega arith)
    ] in
    record { first = ap (λ (m : ℕ). take m s) k.0; rest = rest_behind s n.0 n.1 k.1 ∙ ap (λ (m : ℕ). drop (m + 1) s) k.0 }
