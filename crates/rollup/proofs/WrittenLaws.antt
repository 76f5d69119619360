-- What is written of a roll-up is read back, and no proper prefix of it is accepted: for readers of what was written.
use Rattle.std.proofs.Common.{◌≡◌, ℕ, ◌+◌, ◌^◌, ◌<◌, ◌≤◌, List, [], length, take, sym, refl, ap, ◌∙◌, subst, true≢false, arith, pow_mono}
use mathlib.Core.Option.{Option, none, some}
use Rattle.wire.specs.Reading.{got}
use Rattle.wire.specs.State.{State, bytes_or_none, read_state}
use Rattle.wire.specs.Encoding.{FitsWidths}
use Rattle.wire.specs.Layout.{nested_last}
use Rattle.wire.proofs.EncodingLaws.{hll_le}
use Rattle.wire.proofs.RoundTrip.{round_trip, encode_last}
use Rattle.lists.specs.Lists.{encode_list}
use Rattle.lists.specs.Registers.{registers_of}
use Rattle.lists.proofs.MergeLaws.{length_encode}
use Rattle.lists.proofs.DecodingLaws.{decode_encode}
use Rattle.lists.proofs.RegisterLaws.{of_length}
use Rattle.rollup.specs.declared.accumulator.Form.{Form}
use Rattle.rollup.specs.declared.accumulator.Form.TheVariants.{Unstarted, Sparse, Dense}
use Rattle.rollup.specs.declared.accumulator.Accumulator.{Accumulator}
use Rattle.rollup.specs.Accumulator.{Mem, HeadWidths, is_started}
use Rattle.rollup.specs.Header.{data_of}
use Rattle.rollup.specs.Adding.{listed_in, add_outcome}
use Rattle.rollup.specs.Cuts.{NoCutAccepted}
use Rattle.rollup.specs.Writing.{flushed, current_size, state_with, state_form, write_outcome}
use Rattle.rollup.proofs.FitLaws.{fit_sparse, fit_dense, limit_small}
use Rattle.rollup.proofs.CutLaws.{no_cut}
use Rattle.rollup.proofs.WriteLaws.{WroteFacts, wrote_facts, list_state_lem, dense_state_lem, list_below, flushed_order, flushed_valid, size_fits}

module _ (a : Accumulator) (m : Mem) (room space : ℕ) (wrote : (write_outcome a m room space).answer ≡ 0) where
  facts : WroteFacts a m room space
  facts = wrote_facts a m room space wrote

  abbrev state : State
  state = state_form a.form a m

  -- A state with the head's numbers, where its nested message is not too long.
  state_widths : (size : ℕ) (d l : Option (List ℕ)) → HeadWidths a → size < 2 ^ 32 → a.precision ≤ 24
      → length (bytes_or_none d) + length (bytes_or_none l) ≤ 2 ^ 27 → FitsWidths (state_with a size d l)
  state_widths size d l w h p short =
      record {
        aggregator_type = omega arith;
        num_values = w.count;
        encoding_version = omega arith;
        value_type = w.value_type;
        sparse_size = h;
        precision = omega arith;
        sparse_precision = w.sparse_precision;
        nested = omega (arith, hll_le (state_with a size d l).hll);
      }

  -- A list roll-up's state has a list below the limit, a dense one's 2^p data bytes.
  list_widths : a.form ≡ Sparse → HeadWidths a → FitsWidths state
  list_widths e w =
      let fit = fit_sparse a m facts.fit e in
      subst FitsWidths (sym (list_state_lem a m e))
      (state_widths (current_size a m) none (some (encode_list (flushed a m))) w (size_fits a m fit w.size) fit.pair.high
      (omega (arith, length_encode (flushed a m), list_below a m e facts.below, limit_small a.precision fit.pair.high)))

  dense_widths : a.form ≡ Dense → HeadWidths a → FitsWidths state
  dense_widths e w =
      let fit = fit_dense a m facts.fit e in
      subst FitsWidths (sym (dense_state_lem a m e))
      (state_widths a.sparse_size (some (registers_of a.precision m.registers)) none w w.size fit.high
      (omega (arith, of_length a.precision m.registers fit.room, pow_mono fit.high)))

  widths : HeadWidths a → FitsWidths state
  widths w = by_form a.form refl
    where
      by_form : (f : Form) → a.form ≡ f → FitsWidths state
      by_form Unstarted e = absurd (true≢false (sym facts.started ∙ ap is_started e))
      by_form Sparse e = list_widths e w
      by_form Dense e = dense_widths e w

  -- Where a roll-up was written, reading the bytes gives its state, and nothing is left over.
  pub read_back : HeadWidths a → read_state (write_outcome a m room space).bytes ≡ got state []
  read_back w = ap read_state facts.bytes ∙ round_trip state (widths w)

  -- The list of a list roll-up's state reads as the values that were kept and waited, as one list.
  pub list_back : a.form ≡ Sparse → listed_in state ≡ got (flushed a m) []
  list_back e =
      let fit = fit_sparse a m facts.fit e in
      ap listed_in (list_state_lem a m e) ∙ decode_encode fit.pair (flushed a m) (flushed_order a m fit) (flushed_valid a m fit)

  -- The data of a dense roll-up's state are its registers.
  pub data_back : a.form ≡ Dense → data_of state ≡ registers_of a.precision m.registers
  data_back e = ap data_of (dense_state_lem a m e)

  -- No proper prefix of what was written is accepted, whatever the roll-up that it is added to: its nested message stands last.
  pub no_prefix_accepted : HeadWidths a → (k : ℕ) → k < length (write_outcome a m room space).bytes → (b : Accumulator) (n : Mem) (room' : ℕ)
      → (add_outcome b n room' (take k (write_outcome a m room space).bytes)).answer ≡ 0 → ⊥
  unfolding NoCutAccepted
  no_prefix_accepted w = no_cut (write_outcome a m room space).bytes (ap nested_last facts.bytes ∙ encode_last state (widths w))
