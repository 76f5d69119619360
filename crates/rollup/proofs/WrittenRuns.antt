-- What is written of a roll-up is its state, with its registers, and no proper prefix of it is accepted: the theorems, from `WrittenLaws`.
use Rattle.std.proofs.Common.{◌≡◌, ℕ, ◌^◌, ◌<◌, ◌≤◌, Bool, true, false, cond, eqb, List, [], ◌++◌, length, take, drop, sym, refl, ap, ◌∙◌, subst, true≢false, append-nil, arith, take_at, pow_pos, ne_eqb, eqb-true}
use mathlib.Core.Option.{none, some}
use lib.Seq.{take-append-le}
use borrow.Author.Tests.{eqb-false}
use Rattle.wire.specs.Reading.{got}
use Rattle.wire.specs.State.{State, empty_state, read_state}
use Rattle.lists.specs.Lists.{encode_list}
use Rattle.lists.proofs.RegisterLaws.{of_length}
use Rattle.rollup.specs.declared.accumulator.Form.{Form}
use Rattle.rollup.specs.declared.accumulator.Form.TheVariants.{Unstarted, Sparse, Dense}
use Rattle.rollup.specs.declared.accumulator.Accumulator.{Accumulator}
use Rattle.rollup.specs.Accumulator.{Mem, kept_of, waiting_of, is_started}
use Rattle.rollup.specs.Header.{data_of, is_empty}
use Rattle.rollup.specs.Adding.{listed_in, add_outcome}
use Rattle.rollup.specs.Writing.{flushed, current_size, state_with, state_form, write_outcome, WritePost}
use Rattle.rollup.specs.Calls.{value_or, state_in, values_in, list_registers, registers_in, rollup_registers, WrittenReads, NoPrefixAccepted}
use Rattle.rollup.proofs.FitLaws.{fit_dense}
use Rattle.rollup.proofs.WriteLaws.{WroteFacts, wrote_facts, flushed_none, flushed_some, list_state_lem, dense_state_lem}
use Rattle.rollup.proofs.WrittenLaws.{read_back, list_back, data_back, no_prefix_accepted}
use Rattle.rollup.proofs.AgreementLaws.{list_merged, registers_list, registers_dense}

-- ---- the state that is written

module _ (a : Accumulator) (m : Mem) (room space : ℕ) (wrote : (write_outcome a m room space).answer ≡ 0) where
  facts : WroteFacts a m room space
  facts = wrote_facts a m room space wrote

  abbrev state : State
  state = state_form a.form a m

  -- The list that is written has the registers of kept and waiting.
  flushed_registers : list_registers a.precision a.sparse_precision (flushed a m) ≡ rollup_registers Sparse a m
  flushed_registers = go (eqb a.pending_len 0) refl ∙ sym (registers_list a m)
    where
      go : (t : Bool) → eqb a.pending_len 0 ≡ t
          → list_registers a.precision a.sparse_precision (flushed a m)
          ≡ list_registers a.precision a.sparse_precision (kept_of a m ++ waiting_of a m)
      go true e =
          let none = eqb-true a.pending_len 0 e in
          ap (list_registers a.precision a.sparse_precision)
          (flushed_none a m none ∙ sym (append-nil (kept_of a m)) ∙ ap (λ (k : ℕ). kept_of a m ++ take k m.pending) (sym none))
      go false e =
          ap (list_registers a.precision a.sparse_precision) (flushed_some a m (eqb-false a.pending_len 0 e))
          ∙ list_merged a.precision a.sparse_precision (kept_of a m) (waiting_of a m)

  list_registers_lem : a.form ≡ Sparse → registers_in state ≡ rollup_registers a.form a m
  unfolding registers_in values_in
  list_registers_lem e =
      let st = state_with a (current_size a m) none (some (encode_list (flushed a m))) in
      let same = list_state_lem a m e in
      let values : value_or [] (listed_in st) ≡ flushed a m = ap (value_or []) (ap listed_in (sym same) ∙ list_back a m room space wrote e) in
      ap registers_in same
      ∙ ap (list_registers a.precision a.sparse_precision) values
      ∙ flushed_registers
      ∙ ap (λ (f : Form). rollup_registers f a m) (sym e)

  dense_registers : a.form ≡ Dense → registers_in state ≡ rollup_registers a.form a m
  unfolding registers_in
  dense_registers e =
      let fit = fit_dense a m facts.fit e in
      let p = a.precision in
      let d = data_back a m room space wrote e in
      let long : length (data_of state) ≡ 2 ^ p = ap length d ∙ of_length p m.registers fit.room in
      let full : is_empty (data_of state) ≡ false =
      ne_eqb (length (data_of state)) 0 (λ (z : length (data_of state) ≡ 0). let h = pow_pos p in let g : ⊥ = omega arith in g) in
      let list = list_registers state.hll.precision state.hll.sparse_precision (values_in state) in
      ap (λ (t : Bool). cond t list (data_of state)) full
      ∙ d
      ∙ sym (registers_dense a m)
      ∙ ap (λ (f : Form). rollup_registers f a m) (sym e)

  record StateIs : Type 0 where
    precision : state.hll.precision ≡ a.precision
    sparse_precision : state.hll.sparse_precision ≡ a.sparse_precision
    registers : registers_in state ≡ rollup_registers a.form a m

  state_is : StateIs
  state_is = by_form a.form refl
    where
      by_form : (f : Form) → a.form ≡ f → StateIs
      by_form Unstarted e = absurd (true≢false (sym facts.started ∙ ap is_started e))
      by_form Sparse e =
          record {
            precision = ap (λ (st : State). st.hll.precision) (list_state_lem a m e);
            sparse_precision = ap (λ (st : State). st.hll.sparse_precision) (list_state_lem a m e);
            registers = list_registers_lem e;
          }
      by_form Dense e =
          record {
            precision = ap (λ (st : State). st.hll.precision) (dense_state_lem a m e);
            sparse_precision = ap (λ (st : State). st.hll.sparse_precision) (dense_state_lem a m e);
            registers = dense_registers e;
          }

-- ---- the theorems

module _ (a : Accumulator) (m : Mem) (room : ℕ) (out : List ℕ) (answer len : ℕ) (n : Mem) (after : List ℕ) (post : WritePost a m room out answer len n after) where
  abbrev bytes : List ℕ
  bytes = (write_outcome a m room (length out)).bytes

  -- The bytes that were written are the front of the output.
  front : take len after ≡ bytes
  front = ap (λ (l : List ℕ). take len l) post.output ∙ take_at bytes (drop (length bytes) out) len (sym post.counted)

  shorter : (k : ℕ) → k < len → take k after ≡ take k bytes
  shorter k h =
      ap (λ (l : List ℕ). take k l) post.output
      ∙ take-append-le k bytes (drop (length bytes) out) (let g : k ≤ length bytes = omega (arith, post.counted) in g)

pub written_reads : WrittenReads
unfolding WrittenReads state_in
written_reads a m room out answer len n after w post z =
    let wrote : (write_outcome a m room (length out)).answer ≡ 0 = sym post.answered ∙ z in
    let read : read_state (take len after) ≡ got (state_form a.form a m) [] =
    ap read_state (front a m room out answer len n after post) ∙ read_back a m room (length out) wrote w in
    let same : state_in (take len after) ≡ state_form a.form a m = ap (value_or empty_state) read in
    let is = state_is a m room (length out) wrote in
    record {
      read = read;
      precision = ap (λ (st : State). st.hll.precision) same ∙ is.precision;
      sparse_precision = ap (λ (st : State). st.hll.sparse_precision) same ∙ is.sparse_precision;
      registers = ap registers_in same ∙ is.registers;
    }

pub no_prefix : NoPrefixAccepted
unfolding NoPrefixAccepted
no_prefix a m room out answer len n after w post z k h b l room' e =
    let wrote : (write_outcome a m room (length out)).answer ≡ 0 = sym post.answered ∙ z in
    no_prefix_accepted a m room (length out) wrote w k (subst (λ (x : ℕ). k < x) post.counted h) b l room'
    (subst (λ (x : List ℕ). (add_outcome b l room' x).answer ≡ 0) (shorter a m room out answer len n after post k h) e)
