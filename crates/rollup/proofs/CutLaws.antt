-- No state that is cut off is accepted: it ends inside a field, which is 3, or before field 112 and so has p = 0, which 11 refuses, if no question before does.
use Rattle.std.proofs.Common.{◌≡◌, ℕ, Bool, true, false, List, take, sym, refl, ap, ◌∙◌, arith}
use Rattle.wire.proofs.CutLaws.{cut_reading}
use Rattle.rollup.specs.declared.accumulator.Accumulator.{Accumulator}
use Rattle.rollup.specs.Accumulator.{Mem, fits}
use Rattle.rollup.specs.Adding.{Outcome, judge, add_outcome}
use Rattle.rollup.specs.Cuts.{NoCutAccepted}
use Rattle.rollup.proofs.JudgeLaws.{Refuses, cut_judged}
use Rattle.rollup.proofs.AddLaws.{add_unfit, add_judged}

not_accepted : (a : Accumulator) (m : Mem) (room : ℕ) (bytes : List ℕ) (t : Bool) → fits a m ≡ t → Refuses (judge a bytes)
    → (add_outcome a m room bytes).answer ≡ 0 → ⊥
not_accepted a m room bytes true f x e =
    omega (arith, x.above, sym (ap (λ (o : Outcome). o.answer) (add_judged a m room bytes x.number f x.is)) ∙ e)
not_accepted a m room bytes false f x e = omega (arith, sym (ap (λ (o : Outcome). o.answer) (add_unfit a m room bytes f)) ∙ e)

pub no_cut : NoCutAccepted
unfolding NoCutAccepted
no_cut bytes last k h a m room = not_accepted a m room (take k bytes) (fits a m) refl (cut_judged a (take k bytes) (cut_reading bytes last k h))
