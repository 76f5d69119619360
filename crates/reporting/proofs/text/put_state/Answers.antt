-- `put_state` meets its contract: the bytes in hexadecimal with a newline behind them, or a number.
use Prim.Native.Nat.{ℕ, ◌-◌}
use mathlib.Core.Path.{refl, sym, ap, ◌∙◌}
use Rattle.reporting.specs.Numbers.{number_text}
use native.Mathlib.Omega.{arith}
use lib.ListN.{length, take}
use lib.Seq.{length-take-le}
use Rattle.std.proofs.Common.{◌≡◌, ◌≤◌, Result, to_z, of_z, to_z-of_z, w64}
use Rattle.std.proofs.Math.Facts.{of_z-to_z}
use Rattle.wire.proofs.EncodingLaws.{put_same}
use Rattle.rollup.specs.declared.refusal.Refusal.{Refusal}
use Rattle.rollup.specs.Refusals.{answer_of, length_of}
use Rattle.rollup.proofs.RefusalLaws.{number_some}
use Rattle.console.proofs.OutputLaws.{hex_size}
use Rattle.reporting.specs.Text.{state_text}
use Rattle.reporting.proofs.TextLaws.{state_refused, state_written, hex_put}
use Rattle.reporting.proofs.text.put_state.Goals as goal

pub bounds-text-end : goal.bounds-text-end
bounds-text-end c =
    let e = ap length_of c.in-Ok.is in
    let h : c.in-Ok.len ≤ length c.args.out.now = omega (arith, e, c.requires.0) in
    omega (arith, length-take-le c.in-Ok.len c.args.out.now h, hex_size c.hex.ensures, c.requires.1, e)

pub returns-in-Ok-clause-put : goal.returns-in-Ok-clause-put
returns-in-Ok-clause-put c =
    let t = c.args.text.now in
    let s = take c.in-Ok.len c.args.out.now in
    let e = ap length_of c.in-Ok.is in
    let h : c.in-Ok.len ≤ length c.args.out.now = omega (arith, e, c.requires.0) in
    put_same (state_written s refl ∙ ap (λ (w : Result ℕ Refusal). state_text (answer_of w) (take (length_of w) c.args.out.now)) (sym c.in-Ok.is))
    (hex_put t c.hex.new.out s c.args.at c.hex.result (length t - c.args.at) (omega arith) (omega (arith, length-take-le c.in-Ok.len c.args.out.now h, e, c.requires.1)) c.hex.ensures)

pub returns-in-Err-clause-put : goal.returns-in-Err-clause-put
returns-in-Err-clause-put c =
    let bits : of_z w64 (to_z w64 (of_z w64 c.from.result)) ≡ c.number.result = grind (arith, to_z-of_z, of_z-to_z) in
    put_same
    (ap (λ (v : ℕ). number_text v 10) bits
    ∙ state_refused (take 0 c.args.out.now) (λ (z : c.number.result ≡ 0). number_some c.in-Err.e (sym c.number.ensures ∙ z))
    ∙ ap (λ (n : ℕ). state_text n (take 0 c.args.out.now)) c.number.ensures
    ∙ ap (λ (w : Result ℕ Refusal). state_text (answer_of w) (take (length_of w) c.args.out.now)) (sym c.in-Err.is)) c.put_number.ensures.put

pub returns-in-Ok-clause-room : goal.returns-in-Ok-clause-room
returns-in-Ok-clause-room c =
    let e = ap length_of c.in-Ok.is in
    let h : c.in-Ok.len ≤ length c.args.out.now = omega (arith, e, c.requires.0) in
    omega (arith, length-take-le c.in-Ok.len c.args.out.now h, hex_size c.hex.ensures, e)
