-- Laws of reports, and of what is said of a stream.
use mathlib.Core.Path.{◌≡◌, refl, sym, ap, ◌∙◌, subst}
use mathlib.Core.List.{List}
use mathlib.Core.Bool.{false}
use Rattle.std.specs.Prelude.{Option, Some, None, Err}
use Prim.Native.Nat.{ℕ, ◌<◌, ◌≤◌}
use native.Mathlib.Omega.{arith}
use lib.ListN.{length, get_or}
use lib.Seq.{length-sets}
use Rattle.std.specs.Counts.{IsPrefixLen}
use Rattle.console.specs.declared.input.StreamError.TheVariants.{Full}
use Rattle.console.specs.Input.{Stream}
use Rattle.console.specs.declared.output.Said.{Said}
use Rattle.console.specs.declared.output.Said.TheVariants.{Out, Err as ErrSaid}
use Rattle.wire.specs.Varints.{PutPost}
use Rattle.console.specs.Output.{out, SaidPost}
use Rattle.console.proofs.OutputLaws.{said_out, said_err}
use Rattle.batch.specs.declared.closing.Report.{Report}
use Rattle.batch.specs.Chain.{is_batch}
use Rattle.batch.proofs.ClosingLaws.{few_records, written_inside}
use Rattle.batch.proofs.CountLaws.{reported_few}
use Rattle.batch.proofs.NoBatchLaws.{no_batch_report}
use Rattle.reporting.specs.Text.{report_text}
use Rattle.reporting.specs.Report.{ReportOf, RolledUp, input_of, unreadable, too_long_message, Hears, HeardPost, saying_for, Response, Responds}
use Rattle.reporting.proofs.TextLaws.{text_24}

-- There are no more records than cells, nor than a batch can have, and what was written lies inside the output.
pub rolled_up : {batch answers output : List ℕ} {r : Report} → ((k : ℕ) → get_or batch k 0 < 256) → ReportOf batch r answers output → RolledUp batch r answers output
rolled_up byte p =
    let few = few_records p.post in
    let fewer = reported_few byte p.post in
    let inside = written_inside p.post in
    let c = p.cells_lent in
    let o = p.output_lent in
    record { promised = p; inside = record { records_in = omega arith; records_few = fewer; written_in = inside; written_few = omega arith } }

-- Bytes that are no batch are 24.
reports_24 : {batch answers output : List ℕ} {r : Report} → is_batch batch ≡ false → ReportOf batch r answers output
    → report_text r answers output ≡ too_long_message
reports_24 {answers = answers} {output = output} e p = text_24 answers output (no_batch_report e p.post)

-- ---- what is said

-- A report that was put is said on standard output, and the message on standard error.
module _ {h : Option Report} (answers output before : List ℕ) {after : List ℕ} where
  pub said_batch : {r : Report} {n : ℕ} → h ≡ Some r → PutPost before 0 (report_text r answers output) n after × IsPrefixLen n after
      → SaidPost (saying_for h answers output) before (Out n) after
  said_batch {r} {n} e p =
      let text = report_text r answers output in
      subst (λ (x : Option Report). SaidPost (saying_for x answers output) before (Out n) after) (sym e)
      (said_out before text (omega (arith, p.1.0, p.0.next, ap (λ (l : List ℕ). length l) p.0.output ∙ length-sets before 0 text)) (omega (arith, p.0.next)) p.0.output)

  pub said_nothing : {n : ℕ} → h ≡ None → 36 ≤ length before → PutPost before 0 unreadable n after
      → SaidPost (saying_for h answers output) before (ErrSaid n) after
  said_nothing {n} e room put =
      subst (λ (x : Option Report). SaidPost (saying_for x answers output) before (ErrSaid n) after) (sym e)
      (said_err before unreadable room (omega (arith, put.next)) put.output)

module _ (answers output : List ℕ) where
  -- What is said of what was heard is what is to be said of the input ..
  responded : (input : Option (List ℕ)) (h : Option Report) → Hears input h answers output → Response input (saying_for h answers output)
  responded (Some batch) (Some r) p = record { report = r; answers = answers; output = output; promised = p.promised; all = refl }
  responded (Some batch) None p = absurd p
  responded None (Some r) p = absurd p
  responded None None p = refl

  -- .. and 24 where that is no batch.
  full_24 : (buf : List ℕ) (h : Option Report) → is_batch buf ≡ false → Hears (Some buf) h answers output → saying_for h answers output ≡ out too_long_message
  full_24 buf (Some r) e p = ap out (reports_24 e p.promised)
  full_24 buf None e p = absurd p

pub responds : {stream : Stream} (buf : List ℕ) {h : Option Report} {answers output before after : List ℕ} {r : Said} → HeardPost stream buf h answers output
    → SaidPost (saying_for h answers output) before r after → Responds stream buf r after
responds {stream} buf {h} {answers} {output} p q =
    record {
      response = subst (Response (input_of stream buf)) (sym q.says) (responded answers output (input_of stream buf) h p.hears);
      counts = q.counts;
      too_long =
          λ (e : stream ≡ Err Full).
          q.says ∙ full_24 answers output buf h (p.too_long e) (subst (λ (s : Stream). Hears (input_of s buf) h answers output) e p.hears);
    }
