-- The paths of a dense roll-up: what the calls of each function leave is what the definitions have.
use Rattle.std.proofs.Common.{◌≡◌, ℕ, ◌+◌, ◌-◌, ◌^◌, ◌<◌, ◌≤◌, min, List, [], ◌++◌, length, take, replicate, sym, refl, ap, ◌∙◌, subst, ap₂, append-nil, le_trans, arith, length-append, pow_mono}
use mathlib.Core.List.{Permᴰ}
use native.Mathlib.Nat.{min-le_left, min-le_right}
use lib.ListN.{length-replicate}
use Rattle.lists.specs.Registers.{register_bytes, registers_of, with_registers, larger, lowered, largest, lowered_in_place, BothHold, DowngradePre}
use Rattle.lists.proofs.RegisterLaws.{with_room, of_length, with_of, row_holds, row_registers, fewer_bytes, of_front, with_front}
use Rattle.lists.proofs.RankLaws.{registers_same, lowered_length}
use Rattle.rollup.specs.declared.accumulator.Accumulator.{Accumulator}
use Rattle.rollup.specs.declared.incoming.Incoming.{Incoming}
use Rattle.rollup.specs.Accumulator.{mem}
use Rattle.rollup.specs.Taking.{After, dense_head, counted, signed_min, raised_to, dense_after, Shows}
use Rattle.rollup.specs.Stages.{LowerOwnPre, LowerOwnPost, RaiseByRowPre, RaisePre, DensePre}

-- ---- the roll-up's own registers

-- Lowered by no bits, they are as they were.
own_same : (p : ℕ) (registers : List ℕ) → register_bytes p ≤ length registers
    → with_registers p (lowered_in_place p p (registers_of p registers)) registers ≡ registers
own_same p registers room =
    ap₂ (λ (d n : ℕ). with_registers p (lowered d p (registers_of p registers) ++ replicate n 0) registers)
    (let e : p - p ≡ 0 = omega arith in e) (let e : 2 ^ p - 2 ^ p ≡ 0 = omega arith in e)
    ∙ ap (λ (l : List ℕ). with_registers p l registers)
    (append-nil (lowered 0 p (registers_of p registers)) ∙ registers_same p (registers_of p registers) (of_length p registers room))
    ∙ with_of p registers room

module _ (p other : ℕ) (registers : List ℕ) (pre : LowerOwnPre p registers) where
  abbrev lowered_to : ℕ → List ℕ
  lowered_to q = with_registers p (lowered_in_place p q (registers_of p registers)) registers

  pub own_kept : {q : ℕ} → q ≡ min p other → p ≤ q → LowerOwnPost p other registers q registers
  own_kept e h =
      let f : p ≡ min p other = omega (arith, e) in
      record { smaller = e; left = sym (own_same p registers pre.room) ∙ ap lowered_to f }

-- ---- a row

module _ (q p : ℕ) (row registers : List ℕ) (pre : RaiseByRowPre q p row registers) where
  pub row_lower : q < p → DowngradePre q (p - q) row registers
  row_lower h =
      let e : p ≡ q + (p - q) = omega arith in
      let f : registers_of (q + (p - q)) row ≡ row = ap (λ (n : ℕ). registers_of n row) (sym e) ∙ row_registers p row pre.size in
      record {
        from =
            record {
              holds =
                  record {
                    high = omega (arith, pre.high);
                    room = subst (λ (n : ℕ). register_bytes n ≤ length row) e (row_holds p row pre.size);
                  };
              fewer = omega arith;
              small =
                  subst (λ (l : List ℕ). largest l + (p - q) < 256) (sym f)
                  (let g : largest row + (p - q) < 256 = omega (arith, pre.small) in g);
            };
        into = record { high = omega (arith, pre.high); room = pre.room };
      }

  pub row_lowered : (after : List ℕ) → q < p
      → after ≡ with_registers q (larger (registers_of q registers) (lowered (p - q) q (registers_of (q + (p - q)) row))) registers
      → after ≡ with_registers q (larger (registers_of q registers) (lowered (p - q) q row)) registers
  row_lowered after h e =
      e
      ∙ ap (λ (l : List ℕ). with_registers q (larger (registers_of q registers) (lowered (p - q) q l)) registers)
      (ap (λ (n : ℕ). registers_of n row) (let g : q + (p - q) ≡ p = omega arith in g) ∙ row_registers p row pre.size)

  row_at : p ≤ q → length row ≡ 2 ^ q
  row_at h = pre.size ∙ ap (λ (n : ℕ). 2 ^ n) (let g : p ≡ q = omega (arith, pre.order) in g)

  pub row_both : p ≤ q → BothHold q registers row
  row_both h =
      record {
        into = record { high = omega (arith, pre.order, pre.high); room = pre.room };
        from = record { high = omega (arith, pre.order, pre.high); room = row_holds q row (row_at h) };
      }

  pub row_larger : (after : List ℕ) → p ≤ q → after ≡ with_registers q (larger (registers_of q registers) (registers_of q row)) registers
      → after ≡ with_registers q (larger (registers_of q registers) (lowered (p - q) q row)) registers
  row_larger after h e =
      e
      ∙ ap (λ (l : List ℕ). with_registers q (larger (registers_of q registers) l) registers)
      (row_registers q row (row_at h)
      ∙ sym (ap (λ (d : ℕ). lowered d q row) (let g : p - q ≡ 0 = omega arith in g) ∙ registers_same q row (row_at h)))

-- ---- a dense roll-up

-- What a dense head and its registers show, whatever the lists are that it leaves alone.
pub dense_shown : (x : After) (r : Accumulator) (after : List ℕ) → r ≡ x.head → after ≡ x.registers → x.head.sparse_len ≡ 0 → x.head.pending_len ≡ 0
    → x.kept ≡ [] → x.waiting ≡ [] → (sparse pending : List ℕ) → Shows x r (mem after sparse pending)
dense_shown x r after e f kept waiting no_kept no_waiting sparse pending =
    record {
      head = e;
      registers = f;
      kept = ap (λ (y : Accumulator). take y.sparse_len sparse) e ∙ ap (λ (n : ℕ). take n sparse) kept ∙ sym no_kept;
      waiting =
          subst (λ (l : List ℕ). Permᴰ l x.waiting)
          (sym (ap (λ (y : Accumulator). take y.pending_len pending) e ∙ ap (λ (n : ℕ). take n pending) waiting))
          (subst (λ (l : List ℕ). Permᴰ [] l) (sym no_waiting) Permᴰ.nil);
    }

module _ {a : Accumulator} {registers scratch : List ℕ} {x : Incoming} {row : List ℕ} {k : ℕ} (pre : DensePre a registers scratch x row k) where
  abbrev vs : List ℕ
  vs = take k scratch

  -- The smaller precision, the registers of it and those that are freed.
  abbrev common : ℕ
  common = min a.precision x.precision

  abbrev own : List ℕ
  own = lowered (a.precision - common) common (registers_of a.precision registers)

  abbrev freed : List ℕ
  freed = replicate (2 ^ a.precision - 2 ^ common) 0

  own_length : length own ≡ 2 ^ common
  own_length = lowered_length (a.precision - common) common (registers_of a.precision registers)

  both_length : length (own ++ freed) ≡ 2 ^ a.precision
  both_length =
      let l : 2 ^ common ≤ 2 ^ a.precision = pow_mono (min-le_left a.precision x.precision) in
      omega (arith, length-append own freed, own_length, length-replicate {A = ℕ} (2 ^ a.precision - 2 ^ common) 0, l)

  common_low : 4 ≤ common
  common_low = omega (arith, pre.own_low, pre.low)

  module _ {q : ℕ} {after : List ℕ} (post : LowerOwnPost a.precision x.precision registers q after) where
    after_room : register_bytes common ≤ length after
    after_room =
        le_trans (fewer_bytes common a.precision (min-le_left a.precision x.precision))
        (with_room a.precision registers pre.own.room (own ++ freed) both_length after post.left)

    pub dense_raise : RaisePre q x row vs after
    dense_raise =
        subst (λ (n : ℕ). RaisePre n x row vs after) (sym post.smaller)
        (record {
          low = common_low;
          order = min-le_right a.precision x.precision;
          lowers = pre.lowers;
          room = after_room;
        })

    raised_all : (last : List ℕ) → last ≡ with_registers q (raised_to q x row vs (registers_of q after)) after
        → last ≡ with_registers a.precision (raised_to common x row vs own ++ freed) registers
    raised_all last e =
        e
        ∙ ap (λ (n : ℕ). with_registers n (raised_to n x row vs (registers_of n after)) after) post.smaller
        ∙ ap (λ (l : List ℕ). with_registers common (raised_to common x row vs (registers_of common l)) l) post.left
        ∙ ap (λ (l : List ℕ). with_registers common (raised_to common x row vs l) (with_registers a.precision (own ++ freed) registers))
        (of_front common a.precision own freed registers own_length)
        ∙ with_front common a.precision own freed registers own_length (raised_to common x row vs own)

    pub dense_post : {h : Accumulator} {s : ℕ} {last : List ℕ} → last ≡ with_registers q (raised_to q x row vs (registers_of q after)) after
        → h ≡ counted a x → s ≡ signed_min a.sparse_precision x.sparse_precision → (sparse pending : List ℕ)
        → Shows (dense_after a (mem registers sparse pending) x row vs)
        (dense_head h.allowed h.value_type h.num_values q s h.sparse_size h.sparse_bytes) (mem last sparse pending)
    unfolding dense_after
    dense_post {h} {s} {last} e e1 e2 sparse pending =
        dense_shown (dense_after a (mem registers sparse pending) x row vs) (head h q s) last
        (ap (λ (g : Accumulator). head g q s) e1 ∙ ap₂ (λ (n t : ℕ). head (counted a x) n t) post.smaller e2) (raised_all last e) refl refl refl refl sparse pending
      where
        head : Accumulator → ℕ → ℕ → Accumulator
        head g n t = dense_head g.allowed g.value_type g.num_values n t g.sparse_size g.sparse_bytes
