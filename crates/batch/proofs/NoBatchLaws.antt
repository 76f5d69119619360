-- What is reported of bytes that are no batch: no record and 24, a fresh roll-up, and the refusal to write it.
use Prim.Native.Nat.{ℕ}
use mathlib.Core.Path.{◌≡◌, refl, sym, ap, ◌∙◌}
use mathlib.Core.List.{List, [], ◌∷◌, map}
use mathlib.Core.Bool.{Bool, true, false, cond, true≢false}
use native.Mathlib.Omega.{arith}
use lib.ListN.{length, take}
use lib.Seq.{take-nil}
use borrow.Author.Tests.{le-leb}
use Rattle.std.specs.Prelude.{Some, Err}
use Rattle.batch.specs.declared.chain.ChainError.TheVariants.{NoBatch}
use Rattle.rollup.specs.declared.accumulator.Accumulator.{Accumulator}
use Rattle.rollup.specs.Accumulator.{Mem, fresh}
use Rattle.wire.specs.Encoding.{Output}
use Rattle.rollup.specs.Refusals.{answer_of}
use Rattle.rollup.specs.Writing.{write_outcome}
use Rattle.rollup.specs.Calls.{Call, Steps, begun, adding, writing, moving}
use Rattle.rollup.proofs.ViewLaws.{fresh_fits}
use Rattle.rollup.proofs.WriteLaws.{write_fresh}
use Rattle.batch.specs.declared.records.Ending.TheVariants.{Refused, Full}
use Rattle.batch.specs.declared.closing.Report.{Report}
use Rattle.batch.specs.Chain.{state_at, Chain, is_batch}
use Rattle.batch.specs.Batch.{added_all, ending_for, states_for}
use Rattle.batch.specs.Closing.{count_for, ReportPost}
use Rattle.batch.proofs.ChainLaws.{chain_is}

abbrev is_none : List Call → Bool
is_none [] = true
is_none (c ∷ calls) = false

-- With no calls the head is as it was.
steps_none : {a₀ : Accumulator} {m₀ : Mem} {calls : List Call} {a : Accumulator} {m : Mem} → calls ≡ [] → Steps a₀ m₀ calls a m → a ≡ a₀
steps_none e begun = refl
steps_none e (adding room bytes answer head n steps post) = absurd (true≢false (sym (ap is_none e)))
steps_none e (writing room out answer len n after steps post) = absurd (true≢false (sym (ap is_none e)))
steps_none e (moving n steps post) = absurd (true≢false (sym (ap is_none e)))

pub record NoneRolled (r : Report) : Type 0 where
  pub records : r.rolled.records ≡ 0
  pub ending : r.rolled.ending ≡ Err (Refused NoBatch)
  pub head : r.rolled.head ≡ fresh
  pub count : r.not_zero ≡ Some 0
  pub written : answer_of r.written ≡ 21

pub no_batch_report : {batch : List ℕ} {first : Mem} {room : ℕ} {old : List ℕ} {space : ℕ} {out : List ℕ} {r : Report} {m : Mem} {answers after : List ℕ}
    → is_batch batch ≡ false → ReportPost batch first room old space out r m answers after → NoneRolled r
unfolding added_all count_for
no_batch_report {batch} {room = room} {old = old} {space = space} {out = out} {r = r} {answers = answers} e p =
    record {
      records = p.rolled.records ∙ ap length none;
      ending = p.rolled.ending ∙ ap (λ (c : Chain). ending_for c (length old)) (chain_is batch e) ∙ ap (λ (t : Bool). cond t (Err (Refused NoBatch)) (Err Full)) (le-leb 0 (length old) (omega arith));
      head = head;
      count = p.count ∙ ap (λ (a : Accumulator). count_for a.form a p.between space) head;
      written =
          p.written.answered
          ∙ ap (λ (a : Accumulator). (write_outcome a p.between room (length out)).answer) head
          ∙ ap (λ (o : Output). o.answer) (write_fresh fresh p.between room (length out) (fresh_fits p.between) refl);
    }
  where
    none : states_for batch (length old) ≡ []
    none = ap (λ (c : Chain). take (length old) (map (state_at batch) c.indices)) (chain_is batch e) ∙ take-nil (length old)

    head : r.rolled.head ≡ fresh
    head = steps_none (ap (λ (l : List (List ℕ)). added_all room l (take r.rolled.records answers) []) none) p.rolled.run
