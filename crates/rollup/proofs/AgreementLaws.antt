-- One call and what is compared by demand 3. A refusal and a write leave it as it was. What is taken in is one equation, whatever the roll-up's form:
-- the precision, the sparse precision and the mask become the smaller ones and the common bits, and the registers the larger of the roll-up's and of
-- those that come in, both lowered to the smaller precision.
use Rattle.std.proofs.Common.{◌≡◌, ℕ, ◌+◌, ◌-◌, ◌^◌, min, max, Bool, true, false, cond, ltb, List, [], ◌++◌, length, replicate, sym, refl, ap, ◌∙◌, subst, ap₂, append_assoc, append-nil, le_of_eq, arith}
use mathlib.Core.List.{Permᴰ}
use native.Mathlib.Nat.{min-le_right, min-eq_left}
use Rattle.wire.proofs.BoolLaws.{either}
use Rattle.lists.specs.Values.{Pair}
use Rattle.lists.specs.Lists.{all_valid, written, merged}
use Rattle.lists.specs.Registers.{registers_of, zeros, rank_at, raised_by, raised_lower, larger, lowered}
use Rattle.lists.proofs.MergeLaws.{valid_append, merged_valid}
use Rattle.lists.proofs.RankLaws.{rank_append, rank_perm, rank_merged, zeros_raised, raised_append, raised_larger, raised_lowered, lower_larger, larger_length, lowered_length, registers_same, valid_inside, valid_inside_lower, row_raised, row_same}
use Rattle.lists.proofs.RegisterLaws.{of_with, of_front}
use Rattle.rollup.specs.declared.accumulator.Form.{Form}
use Rattle.rollup.specs.declared.accumulator.Form.TheVariants.{Unstarted, Sparse, Dense}
use Rattle.rollup.specs.declared.accumulator.Accumulator.{Accumulator}
use Rattle.rollup.specs.declared.incoming.Incoming.{Incoming}
use Rattle.rollup.specs.Accumulator.{Mem, kept_of, waiting_of, limit, is_started}
use Rattle.rollup.specs.Header.{is_empty}
use Rattle.rollup.specs.Stages.{TakePre}
use Rattle.rollup.specs.Calls.{Moved, list_registers, taken_registers, rollup_registers}
use Rattle.rollup.specs.Taking.{After, unchanged, common_mask, counted, start_list, start_dense, start_after, as_list, as_dense, settle, waits, inserts, list_path, all_merged, as_waiting, list_after, row_taken, sparse_after, signed_key, signed_min, raised_to, dense_after, taken_after, Shows}
use Rattle.rollup.proofs.FitLaws.{FitSparse, fit_sparse}
use Rattle.rollup.proofs.JudgeLaws.{none_is}
use Rattle.rollup.proofs.KeepsLaws.{no_data, some_data, registers_room, vs_valid, both_valid}
use Rattle.rollup.proofs.WaysLaws.{start_ways, settle_ways, list_ways, sparse_ways}

-- ---- the registers of a list

-- They depend on the largest ranks alone: order, and what a merge drops, change nothing.
list_same : (p s : ℕ) (a b : List ℕ) → ((j : ℕ) → rank_at p s j a ≡ rank_at p s j b) → list_registers p s a ≡ list_registers p s b
unfolding list_registers
list_same p s a b e = row_same p s a b e

pub list_merged : (p s : ℕ) (a b : List ℕ) → list_registers p s (merged p s a b) ≡ list_registers p s (a ++ b)
list_merged p s a b = list_same p s (merged p s a b) (a ++ b) (λ (j : ℕ). rank_merged p s j a b)

-- Of valid values they are what the values make of zeros.
module _ (p s : ℕ) (pair : Pair p s) where
  pub list_row : (l : List ℕ) → all_valid p s l ≡ true → list_registers p s l ≡ raised_by p s (zeros p) l
  unfolding list_registers
  list_row l ok = row_raised p s l (valid_inside p s l pair ok)

  list_length : (l : List ℕ) → all_valid p s l ≡ true → length (list_registers p s l) ≡ 2 ^ p
  list_length l ok = ap length (list_row l ok) ∙ zeros_raised p s l

  list_append : (a b : List ℕ) → all_valid p s a ≡ true → all_valid p s b ≡ true
      → list_registers p s (a ++ b) ≡ larger (list_registers p s a) (list_registers p s b)
  list_append a b f g =
      list_row (a ++ b) (valid_append p s a b f g)
      ∙ raised_append p s (zeros p) a b
      ∙ raised_larger p s (raised_by p s (zeros p) a) b (zeros_raised p s a) (valid_inside p s b pair g)
      ∙ sym (ap₂ larger (list_row a f) (list_row b g))

-- Registers of the precision itself are not changed by lowering.
pub lowered_here : (p q : ℕ) (regs : List ℕ) → q ≡ p → length regs ≡ 2 ^ p → lowered (p - q) q regs ≡ regs
lowered_here p q regs e f =
    ap₂ (λ (d k : ℕ). lowered d k regs) (let z : p - q ≡ 0 = omega arith in z) e ∙ registers_same p regs f

-- ---- what a call left

-- The roll-up's registers, by its form.
pub registers_list : (a : Accumulator) (m : Mem) → rollup_registers Sparse a m ≡ list_registers a.precision a.sparse_precision (kept_of a m ++ waiting_of a m)
unfolding rollup_registers
registers_list a m = refl

pub registers_dense : (a : Accumulator) (m : Mem) → rollup_registers Dense a m ≡ registers_of a.precision m.registers
unfolding rollup_registers
registers_dense a m = refl

-- The order of the values that wait does not count.
perm_registers : (p s : ℕ) {kept kept' waiting waiting' : List ℕ} → kept ≡ kept' → Permᴰ waiting waiting'
    → list_registers p s (kept ++ waiting) ≡ list_registers p s (kept' ++ waiting')
perm_registers p s {kept} {kept'} {waiting} {waiting'} e f =
    list_same p s (kept ++ waiting) (kept' ++ waiting')
    (λ (j : ℕ).
    rank_append p s j kept waiting
    ∙ ap₂ max (ap (rank_at p s j) e) (rank_perm p s j f)
    ∙ sym (rank_append p s j kept' waiting'))

module _ (x : After) (r : Accumulator) (n : Mem) (sh : Shows x r n) where
  left_form : (f : Form) → x.head.form ≡ f → rollup_registers r.form r n ≡ rollup_registers f r n
  left_form f e = ap (λ (g : Form). rollup_registers g r n) (ap (λ (h : Accumulator). h.form) sh.head ∙ e)

  left_none : x.head.form ≡ Unstarted → rollup_registers r.form r n ≡ []
  unfolding rollup_registers
  left_none e = left_form Unstarted e

  left_list : x.head.form ≡ Sparse
      → rollup_registers r.form r n ≡ list_registers x.head.precision x.head.sparse_precision (x.kept ++ x.waiting)
  unfolding rollup_registers
  left_list e =
      left_form Sparse e
      ∙ perm_registers r.precision r.sparse_precision sh.kept sh.waiting
      ∙ ap (λ (h : Accumulator). list_registers h.precision h.sparse_precision (x.kept ++ x.waiting)) sh.head

  left_dense : x.head.form ≡ Dense → rollup_registers r.form r n ≡ registers_of x.head.precision x.registers
  unfolding rollup_registers
  left_dense e = left_form Dense e ∙ ap₂ registers_of (ap (λ (h : Accumulator). h.precision) sh.head) sh.registers

-- A refusal and a write.
pub same_registers : (a : Accumulator) (m : Mem) (r : Accumulator) (n : Mem) → Shows (unchanged a m) r n
    → rollup_registers r.form r n ≡ rollup_registers a.form a m
unfolding rollup_registers
same_registers a m r n sh = by_form a.form refl
  where
    by_form : (f : Form) → a.form ≡ f → rollup_registers r.form r n ≡ rollup_registers a.form a m
    by_form Unstarted e = left_none (unchanged a m) r n sh e ∙ sym (ap (λ (f : Form). rollup_registers f a m) e)
    by_form Sparse e = left_list (unchanged a m) r n sh e ∙ sym (ap (λ (f : Form). rollup_registers f a m) e)
    by_form Dense e = left_dense (unchanged a m) r n sh e ∙ sym (ap (λ (f : Form). rollup_registers f a m) e)

-- The same head with other memory.
pub moved_registers : (a : Accumulator) (m n : Mem) → Moved a m n → rollup_registers a.form a n ≡ rollup_registers a.form a m
unfolding rollup_registers
moved_registers a m n mv = by_form a.form refl
  where
    by_form : (f : Form) → a.form ≡ f → rollup_registers f a n ≡ rollup_registers f a m
    by_form Unstarted e = refl
    by_form Sparse e = perm_registers a.precision a.sparse_precision mv.kept mv.waiting
    by_form Dense e = mv.registers e

-- What is compared, of a roll-up that was started.
pub record Took (p s bits : ℕ) (regs : List ℕ) (r : Accumulator) (n : Mem) : Type 0 where
  pub started : is_started r.form ≡ true
  pub precision : r.precision ≡ p
  pub sparse_precision : r.sparse_precision ≡ s
  pub mask : r.allowed ≡ bits
  pub registers : rollup_registers r.form r n ≡ regs

module _ (x : After) (r : Accumulator) (n : Mem) (regs : List ℕ) (sh : Shows x r n) where
  with_form : (f : Form) → x.head.form ≡ f → is_started f ≡ true → rollup_registers r.form r n ≡ regs
      → Took x.head.precision x.head.sparse_precision x.head.allowed regs r n
  with_form f e s g =
      record {
        started = ap is_started (ap (λ (h : Accumulator). h.form) sh.head ∙ e) ∙ s;
        precision = ap (λ (h : Accumulator). h.precision) sh.head;
        sparse_precision = ap (λ (h : Accumulator). h.sparse_precision) sh.head;
        mask = ap (λ (h : Accumulator). h.allowed) sh.head;
        registers = g;
      }

  took_list : x.head.form ≡ Sparse → list_registers x.head.precision x.head.sparse_precision (x.kept ++ x.waiting) ≡ regs
      → Took x.head.precision x.head.sparse_precision x.head.allowed regs r n
  took_list e g = with_form Sparse e refl (left_list x r n sh e ∙ g)

  took_dense : x.head.form ≡ Dense → registers_of x.head.precision x.registers ≡ regs
      → Took x.head.precision x.head.sparse_precision x.head.allowed regs r n
  took_dense e g = with_form Dense e refl (left_dense x r n sh e ∙ g)

-- The smaller of two that are the same.
signed_same : (x y : ℕ) → y ≡ x → signed_min x y ≡ x
signed_same x y e = go (ltb (signed_key y) (signed_key x))
  where
    go : (b : Bool) → cond b y x ≡ x
    go true = e
    go false = refl

-- ---- what is taken in

module _ (a : Accumulator) (m : Mem) (room : ℕ) (x : Incoming) (row vs : List ℕ) (pre : TakePre a m room x row vs) where
  abbrev p : ℕ
  p = x.precision

  abbrev s : ℕ
  s = x.sparse_precision

  -- Its registers: 2^p of them.
  abbrev regs : List ℕ
  regs = taken_registers x row vs

  in_row : is_empty row ≡ false → regs ≡ row
  in_row e = ap (λ (b : Bool). cond b (list_registers p s vs) row) e

  in_list : is_empty row ≡ true → regs ≡ list_registers p s vs
  in_list e = ap (λ (b : Bool). cond b (list_registers p s vs) row) e

  pub taken_length : length (taken_registers x row vs) ≡ 2 ^ x.precision
  taken_length =
      either (λ (l : List ℕ). length l ≡ 2 ^ p) (is_empty row) (list_registers p s vs) row
      (λ (e : is_empty row ≡ true). list_length p s (pre.pair (no_data row e)) vs pre.all)
      (λ (e : is_empty row ≡ false). pre.size (some_data row e))

  module _ (r : Accumulator) (n : Mem) where
    -- ---- the first

    start_took : a.form ≡ Unstarted → Shows (start_after m x row vs) r n → Took p s x.mask regs r n
    start_took f =
        start_ways (λ (y : After). Shows y r n → Took p s x.mask regs r n) m x row vs
        (λ (e : is_empty row ≡ true) (sh : Shows (start_list m x vs) r n).
        took_list (start_list m x vs) r n regs sh refl (ap (list_registers p s) (append-nil vs) ∙ sym (in_list e)))
        (λ (e : is_empty row ≡ false) (sh : Shows (start_dense m x row) r n).
        took_dense (start_dense m x row) r n regs sh refl
        (of_with p m.registers (registers_room a m room x row vs pre Unstarted f) row (pre.size (some_data row e)) ∙ sym (in_row e)))

    -- ---- one more, at a list roll-up: precisions are the same, so nothing is lowered

    module _ (sparse : a.form ≡ Sparse) where
      abbrev ap' : ℕ
      ap' = a.precision

      abbrev as' : ℕ
      as' = a.sparse_precision

      abbrev own : List ℕ
      own = kept_of a m ++ waiting_of a m

      -- The larger of its registers and of those that come in.
      abbrev joint : List ℕ
      joint = larger (list_registers ap' as' own) regs

      abbrev Joined : After → Type 0
      Joined y = Shows y r n → Took ap' as' (common_mask a x.mask) joint r n

      fit_s : FitSparse a m
      fit_s = fit_sparse a m pre.fit sparse

      own_valid : all_valid ap' as' own ≡ true
      own_valid = both_valid a m room x row vs pre sparse

      new_valid : all_valid ap' as' vs ≡ true
      new_valid = vs_valid a m room x row vs pre sparse

      -- Values come to those that are there.
      with_values : is_empty row ≡ true → list_registers ap' as' (own ++ vs) ≡ joint
      with_values e =
          list_append ap' as' fit_s.pair own vs own_valid new_valid
          ∙ ap (larger (list_registers ap' as' own))
          (sym (in_list e ∙ ap₂ (λ (p s : ℕ). list_registers p s vs) (pre.same_normal sparse) (pre.same_sparse sparse)))

      settle_took : (l : List ℕ) (bytes : ℕ) → all_valid ap' as' l ≡ true → list_registers ap' as' l ≡ joint → Joined (settle (counted a x) m.registers l bytes)
      settle_took l bytes ok g =
          let h = counted a x in
          settle_ways Joined h m.registers l bytes
          (λ (e : ltb bytes (limit ap') ≡ true) (sh : Shows (as_list h m.registers l bytes) r n).
          took_list (as_list h m.registers l bytes) r n joint sh refl (ap (list_registers ap' as') (append-nil l) ∙ g))
          (λ (e : ltb bytes (limit ap') ≡ false) (sh : Shows (as_dense h m.registers l) r n).
          took_dense (as_dense h m.registers l) r n joint sh refl
          (of_with ap' m.registers (registers_room a m room x row vs pre Sparse sparse) (raised_by ap' as' (zeros ap') l) (zeros_raised ap' as' l)
          ∙ sym (list_row ap' as' fit_s.pair l ok)
          ∙ g))

      -- Merged or not, the values kept, waiting and coming in are all that there is.
      list_took : is_empty row ≡ true → Joined (list_after (list_path a (kept_of a m) x (length vs)) (counted a x) m vs)
      list_took e =
          let h = counted a x in
          let kept = kept_of a m in
          let waiting = waiting_of a m in
          let one : list_registers ap' as' (kept ++ (waiting ++ vs)) ≡ joint =
          ap (list_registers ap' as') (sym (append_assoc kept waiting vs)) ∙ with_values e in
          let merge : (bytes : ℕ) → Joined (settle h m.registers (all_merged h m vs) bytes) =
          λ (bytes : ℕ).
          settle_took (all_merged h m vs) bytes
          (merged_valid ap' as' kept (waiting ++ vs) fit_s.kept_valid (valid_append ap' as' waiting vs fit_s.waiting_valid new_valid))
          (list_merged ap' as' kept (waiting ++ vs) ∙ one) in
          list_ways Joined h m vs a x refl
          (λ (z : length vs ≡ 0) (sh : Shows (unchanged h m) r n).
          took_list (unchanged h m) r n joint sh sparse
          (ap (list_registers ap' as') (sym (append-nil own) ∙ ap (λ (l : List ℕ). own ++ l) (sym (none_is vs z))) ∙ with_values e))
          (λ (w : waits a x (length vs) ≡ true) (sh : Shows (as_waiting h m vs) r n). took_list (as_waiting h m vs) r n joint sh refl one)
          (merge (written (all_merged h m vs)))
          (λ (z : a.pending_len ≡ 0) (i : inserts a kept (length vs) ≡ true). merge (h.sparse_bytes + written (all_merged h m vs) - written kept))

      sparse_joined : Joined (sparse_after a m x row vs)
      sparse_joined =
          sparse_ways Joined a m x row vs list_took
          (λ (e : is_empty row ≡ false) (sh : Shows (row_taken (counted a x) m row) r n).
          let raised = raised_by ap' as' (zeros ap') own in
          took_dense (row_taken (counted a x) m row) r n joint sh refl
          (of_with ap' m.registers (registers_room a m room x row vs pre Sparse sparse) (larger raised row)
          (larger_length raised row ∙ zeros_raised ap' as' own)
          ∙ ap₂ larger (sym (list_row ap' as' fit_s.pair own own_valid)) (sym (in_row e))))

    -- ---- one more, whatever the form

    abbrev least : ℕ
    least = min a.precision p

    abbrev larger_of : List ℕ → List ℕ
    larger_of l = larger (lowered (a.precision - least) least l) (lowered (p - least) least regs)

    abbrev More : Type 0
    More = Took least (signed_min a.sparse_precision s) (common_mask a x.mask) (larger_of (rollup_registers a.form a m)) r n

    sparse_took : a.form ≡ Sparse → Shows (sparse_after a m x row vs) r n → More
    unfolding rollup_registers
    sparse_took f sh =
        let t = sparse_joined f sh in
        let same : least ≡ a.precision = min-eq_left (le_of_eq (sym (pre.same_normal f))) in
        record {
          started = t.started;
          precision = t.precision ∙ sym same;
          sparse_precision = t.sparse_precision ∙ sym (signed_same a.sparse_precision s (pre.same_sparse f));
          mask = t.mask;
          registers =
              t.registers
              ∙ sym
              (ap larger_of (ap (λ (g : Form). rollup_registers g a m) f)
              ∙ ap₂ larger
              (lowered_here a.precision least (list_registers a.precision a.sparse_precision (own f)) same
              (list_length a.precision a.sparse_precision (fit_s f).pair (own f) (own_valid f)))
              (lowered_here p least regs (same ∙ sym (pre.same_normal f)) taken_length));
        }

    -- ---- a dense roll-up

    module _ (dense : a.form ≡ Dense) where
      abbrev low : List ℕ
      low = lowered (a.precision - least) least (registers_of a.precision m.registers)

      low_long : length low ≡ 2 ^ least
      low_long = lowered_length (a.precision - least) least (registers_of a.precision m.registers)

      split : p ≡ least + (p - least)
      split = omega (arith, min-le_right a.precision p)

      -- Values, each lowered, raise as their registers lowered do.
      by_list : is_empty row ≡ true → raised_lower p s (p - least) low vs ≡ larger low (lowered (p - least) least regs)
      by_list e =
          let pair = pre.pair (no_data row e) in
          let rows : regs ≡ raised_by p s (zeros p) vs = in_list e ∙ list_row p s pair vs pre.all in
          lower_larger p s (p - least) least low vs low_long (valid_inside_lower p s (p - least) least vs split pair pre.all)
          ∙ ap (larger low)
          (sym (raised_lowered p s (p - least) least vs split pair pre.all) ∙ ap (lowered (p - least) least) (sym rows))

      by_either : raised_to least x row vs low ≡ larger low (lowered (p - least) least regs)
      by_either =
          either (λ (l : List ℕ). l ≡ larger low (lowered (p - least) least regs)) (is_empty row) (raised_lower p s (p - least) low vs)
          (larger low (lowered (p - least) least row)) by_list
          (λ (e : is_empty row ≡ false). ap (λ (l : List ℕ). larger low (lowered (p - least) least l)) (sym (in_row e)))

      dense_took : Shows (dense_after a m x row vs) r n → More
      unfolding dense_after rollup_registers
      dense_took sh =
          let front = raised_to least x row vs low in
          let freed = replicate {A = ℕ} (2 ^ a.precision - 2 ^ least) 0 in
          took_dense (dense_after a m x row vs) r n (larger_of (rollup_registers a.form a m)) sh refl
          (of_front least a.precision front freed m.registers
          (ap length by_either ∙ larger_length low (lowered (p - least) least regs) ∙ low_long)
          ∙ by_either
          ∙ ap larger_of (sym (ap (λ (g : Form). rollup_registers g a m) dense)))

    -- ---- both

    pub first_took : a.form ≡ Unstarted → Shows (taken_after a.form a m x row vs) r n
        → Took x.precision x.sparse_precision x.mask (taken_registers x row vs) r n
    first_took f sh = start_took f (subst (λ (g : Form). Shows (taken_after g a m x row vs) r n) f sh)

    pub more_took : is_started a.form ≡ true → Shows (taken_after a.form a m x row vs) r n → More
    more_took t = by_form a.form refl t
      where
        by_form : (f : Form) → a.form ≡ f → is_started f ≡ true → Shows (taken_after f a m x row vs) r n → More
        by_form Unstarted e t = absurd (let z : ◌≡◌ {A = ℕ} 0 1 = cc in omega arith)
        by_form Sparse e t = sparse_took e
        by_form Dense e t = dense_took e
