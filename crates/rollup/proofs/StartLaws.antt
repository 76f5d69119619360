-- What is taken in first: its values are kept, or its row becomes the registers.
use Rattle.std.proofs.Common.{◌≡◌, ℕ, ◌+◌, Bool, cond, List, [], ◌++◌, length, take, sym, refl, ap, ◌∙◌, subst, pos_of_ne-zero, zero-add, length-take-le, eq-eqb, ne_eqb}
use mathlib.Core.List.{Permᴰ}
use Rattle.lists.specs.Registers.{registers_of, with_registers, BothHold}
use Rattle.lists.proofs.RegisterLaws.{row_holds, row_registers}
use Rattle.rollup.specs.declared.accumulator.Accumulator.{Accumulator}
use Rattle.rollup.specs.declared.incoming.Incoming.{Incoming}
use Rattle.rollup.specs.Accumulator.{Mem, mem}
use Rattle.rollup.specs.Taking.{list_head, dense_head, start_list, start_dense, start_after, Shows}
use Rattle.rollup.specs.Stages.{StartPre}
use Rattle.rollup.proofs.DenseLaws.{dense_shown}

module _ {registers sparse scratch : List ℕ} {x : Incoming} {row : List ℕ} {k : ℕ} (pre : StartPre registers sparse scratch x row k) where
  abbrev vs : List ℕ
  vs = take k scratch

  pub start_load : (length row ≡ 0 → ⊥) → BothHold x.precision registers row
  start_load h =
      record {
        into = record { high = pre.high; room = pre.in_registers };
        from = record { high = pre.high; room = row_holds x.precision row (pre.size (pos_of_ne-zero h)) };
      }

  module _ (pending : List ℕ) where
    abbrev before : Mem
    before = mem registers sparse pending

    pub start_list_lem : {r : Accumulator} {left : List ℕ} → length row ≡ 0 → take (0 + length vs) left ≡ take 0 sparse ++ vs
        → r ≡ list_head x.mask x.value_type x.num_values x.precision x.sparse_precision x.sparse_size k x.list_bytes 0
        → Shows (start_after before x row vs) r (mem registers left pending)
    unfolding start_after
    start_list_lem {r} {left} h copied head =
        subst (λ (t : Bool). Shows (cond t (start_list before x vs) (start_dense before x row)) r (mem registers left pending))
        (sym (eq-eqb (length row) 0 h))
        (record {
          head =
              head
              ∙ ap (λ (n : ℕ). list_head x.mask x.value_type x.num_values x.precision x.sparse_precision x.sparse_size n x.list_bytes 0)
              (sym (length-take-le k scratch pre.inside));
          registers = refl;
          kept = ap (λ (y : Accumulator). take y.sparse_len left) head ∙ ap (λ (n : ℕ). take n left) (sym (length-take-le k scratch pre.inside) ∙ sym (zero-add (length vs))) ∙ copied;
          waiting = subst (λ (l : List ℕ). Permᴰ l []) (sym (ap (λ (y : Accumulator). take y.pending_len pending) head)) Permᴰ.nil;
        })

    pub start_dense_lem : {r : Accumulator} {after : List ℕ} → (length row ≡ 0 → ⊥) → after ≡ with_registers x.precision (registers_of x.precision row) registers
        → r ≡ dense_head x.mask x.value_type x.num_values x.precision x.sparse_precision x.sparse_size 0
        → Shows (start_after before x row vs) r (mem after sparse pending)
    unfolding start_after
    start_dense_lem {r} {after} h loaded head =
        subst (λ (t : Bool). Shows (cond t (start_list before x vs) (start_dense before x row)) r (mem after sparse pending))
        (sym (ne_eqb (length row) 0 h))
        (dense_shown (start_dense before x row) r after head
        (loaded ∙ ap (λ (l : List ℕ). with_registers x.precision l registers) (row_registers x.precision row (pre.size (pos_of_ne-zero h)))) refl refl refl
        refl sparse pending)
