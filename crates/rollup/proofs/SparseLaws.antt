-- The paths of a list roll-up: what the calls of each function leave is what the definitions have.
use Rattle.std.proofs.Common.{◌≡◌, ℕ, ◌+◌, ◌-◌, ◌^◌, ◌<◌, ◌≤◌, Bool, true, cond, ◌⊎◌, List, [], ◌++◌, length, take, sym, refl, ap, ◌∙◌, subst, ap₂, ⊎_elim, pos_of_ne-zero, arith, length-append, length-take, length-take-le, le-ltb, lt-ltb, eq-eqb, ne_eqb, Option, Some, None}
use mathlib.Core.List.Permᴰ
use mathlib.Core.List.{Permᴰ}
use native.Mathlib.Nat.{min-le_left}
use lib.ListN.{length-replicate}
use Rattle.std.proofs.lemmas.Bool.{cases_lt as side}
use Rattle.lists.specs.declared.values.Sparse.{Sparse as Encoding}
use Rattle.lists.specs.declared.merging.Merged.{Merged}
use Rattle.lists.specs.Pairs.{NewPost}
use Rattle.lists.specs.Sorting.{ascends, sort_of}
use Rattle.lists.specs.Lists.{all_valid, written, merged, MergePost, InsertPost}
use Rattle.lists.specs.Merging.{MergePre}
use Rattle.lists.specs.Registers.{register_bytes, registers_of, with_registers, zeros, raised_by, larger}
use Rattle.lists.proofs.OrderLaws.{ascends_sort, length_sort, perm_sort}
use Rattle.lists.proofs.MergeLaws.{valid_append, valid_sort, merged_perm, merged_valid, length_merged}
use Rattle.lists.proofs.RegisterLaws.{of_with, with_room, with_with, row_registers}
use Rattle.lists.proofs.RankLaws.{raised_append, zeros_raised}
use Rattle.rollup.specs.declared.accumulator.Form.{Form}
use Rattle.rollup.specs.declared.accumulator.Form.TheVariants.{Sparse}
use Rattle.rollup.specs.declared.accumulator.Accumulator.{Accumulator}
use Rattle.rollup.specs.declared.incoming.Incoming.{Incoming}
use Rattle.rollup.specs.declared.paths.Path.{Path}
use Rattle.rollup.specs.declared.paths.Path.TheVariants.{Waits, Sorts, Inserts, Merges}
use Rattle.rollup.specs.Accumulator.{Mem, mem, kept_of, waiting_of, limit}
use Rattle.rollup.specs.Taking.{After, counted, with_list, densed, as_list, as_dense, settle, list_path, all_merged, as_waiting, list_after, row_taken, sparse_after, Shows}
use Rattle.rollup.specs.Adding.{wanted_precision}
use Rattle.rollup.specs.Stages.{SettlePre, Leaves, BackPre, ListReady, ListRoom, MergeInPre, InsertInPre, DensifyPre, TakingPre}
use Rattle.rollup.proofs.FitLaws.{FitSparse, fit_sparse, counts_short}
use Rattle.rollup.proofs.PathLaws.{is_some, path_form, path_some, path_inserts}

-- ---- an encoding's precisions

module _ {p s : ℕ} {enc : Encoding} (n : NewPost p s enc) (P : ℕ → ℕ → Type 0) where
  pub at_pair : P enc.normal_precision enc.sparse_precision → P p s
  at_pair x = subst (λ (q : ℕ). P q s) n.normal (subst (λ (t : ℕ). P enc.normal_precision t) n.sparse x)

  pub of_pair : P p s → P enc.normal_precision enc.sparse_precision
  of_pair x = subst (λ (q : ℕ). P q enc.sparse_precision) (sym n.normal) (subst (λ (t : ℕ). P p t) (sym n.sparse) x)

-- ---- registers

module _ (p s : ℕ) (bytes : List ℕ) (room : register_bytes p ≤ length bytes) where
  module _ (regs before : List ℕ) (size : length regs ≡ 2 ^ p) (e : before ≡ with_registers p regs bytes) where
    set_over : (l after : List ℕ) → after ≡ with_registers p (raised_by p s (registers_of p before) l) before
        → after ≡ with_registers p (raised_by p s regs l) bytes
    set_over l after f =
        f
        ∙ ap (λ (x : List ℕ). with_registers p (raised_by p s (registers_of p x) l) x) e
        ∙ ap (λ (x : List ℕ). with_registers p (raised_by p s x l) (with_registers p regs bytes)) (of_with p bytes room regs size)
        ∙ with_with p bytes room regs size (raised_by p s regs l)

    max_over : (row after : List ℕ) → length row ≡ 2 ^ p → after ≡ with_registers p (larger (registers_of p before) (registers_of p row)) before
        → after ≡ with_registers p (larger regs row) bytes
    max_over row after g f =
        f
        ∙ ap (λ (x : List ℕ). with_registers p (larger (registers_of p x) (registers_of p row)) x) e
        ∙ ap₂ (λ (x y : List ℕ). with_registers p (larger x y) (with_registers p regs bytes)) (of_with p bytes room regs size) (row_registers p row g)
        ∙ with_with p bytes room regs size (larger regs row)

  -- Cleared, and then a list is set.
  pub cleared_set : (l cleared after : List ℕ) → cleared ≡ with_registers p (zeros p) bytes → after ≡ with_registers p (raised_by p s (registers_of p cleared) l) cleared
      → after ≡ with_registers p (raised_by p s (zeros p) l) bytes
  cleared_set l cleared after e f = set_over (zeros p) cleared (length-replicate (2 ^ p) 0) e l after f

  pub set_room : (l after : List ℕ) → after ≡ with_registers p (raised_by p s (zeros p) l) bytes → register_bytes p ≤ length after
  set_room l after e = with_room p bytes room (raised_by p s (zeros p) l) (zeros_raised p s l) after e

  -- A list was set, and a second one is set.
  pub both_set : (kept waiting first second : List ℕ) → first ≡ with_registers p (raised_by p s (zeros p) kept) bytes
      → second ≡ with_registers p (raised_by p s (registers_of p first) waiting) first → second ≡ with_registers p (raised_by p s (zeros p) (kept ++ waiting)) bytes
  both_set kept waiting first second e f =
      set_over (raised_by p s (zeros p) kept) first (zeros_raised p s kept) e waiting second f
      ∙ ap (λ (x : List ℕ). with_registers p x bytes) (sym (raised_append p s (zeros p) kept waiting))

  -- A list was set, and a row of registers is taken in.
  pub row_over : (l row before after : List ℕ) → length row ≡ 2 ^ p → before ≡ with_registers p (raised_by p s (zeros p) l) bytes
      → after ≡ with_registers p (larger (registers_of p before) (registers_of p row)) before → after ≡ with_registers p (larger (raised_by p s (zeros p) l) row) bytes
  row_over l row before after g e h = max_over (raised_by p s (zeros p) l) before (zeros_raised p s l) e row after g h

-- ---- after a merge

module _ (h : Accumulator) (registers l : List ℕ) (bytes : ℕ) where
  settle_low : bytes < limit h.precision → settle h registers l bytes ≡ as_list h registers l bytes
  unfolding settle
  settle_low e = ap (λ (b : Bool). cond b (as_list h registers l bytes) (as_dense h registers l)) (lt-ltb _ _ e)

  settle_high : limit h.precision ≤ bytes → settle h registers l bytes ≡ as_dense h registers l
  unfolding settle
  settle_high e = ap (λ (b : Bool). cond b (as_list h registers l bytes) (as_dense h registers l)) (le-ltb _ _ e)

  pub settle_list : {top n : ℕ} → top ≡ limit h.precision → bytes < top → length l ≡ n → Leaves (settle h registers l bytes) (with_list h n n bytes 0) registers
  settle_list {top} {n} t e f =
      subst (λ (x : After). Leaves x (with_list h n n bytes 0) registers) (sym (settle_low (let g : bytes < limit h.precision = omega arith in g)))
      (record { head = ap (λ (k : ℕ). with_list h k k bytes 0) (sym f); registers_left = refl })

  pub settle_dense : {top : ℕ} {r : Accumulator} {after : List ℕ} → top ≡ limit h.precision → top ≤ bytes → r ≡ densed h
      → after ≡ with_registers h.precision (raised_by h.precision h.sparse_precision (zeros h.precision) l) registers
      → Leaves (settle h registers l bytes) r after
  settle_dense {top} {r} {after} t e f g =
      subst (λ (x : After). Leaves x r after) (sym (settle_high (let k : limit h.precision ≤ bytes = omega arith in k)))
      (record { head = f; registers_left = g })

  -- The list stands at the start of `sparse`, and nothing waits.
  settled_shows : (r : Accumulator) (after sparse pending : List ℕ) (n : ℕ) → n ≡ length l → take n sparse ≡ l → Leaves (settle h registers l bytes) r after
      → Shows (settle h registers l bytes) r (mem after sparse pending)
  settled_shows r after sparse pending n e f x =
      ⊎_elim
      (λ (low : bytes < limit h.precision).
      let s = settle_low low in
      let head : r ≡ with_list h (length l) (length l) bytes 0 = x.head ∙ ap (λ (y : After). y.head) s in
      subst (λ (y : After). Shows y r (mem after sparse pending)) (sym s)
      (record {
        head = head;
        registers = x.registers_left ∙ ap (λ (y : After). y.registers) s;
        kept = ap (λ (y : Accumulator). take y.sparse_len sparse) head ∙ ap (λ (k : ℕ). take k sparse) (sym e) ∙ f;
        waiting = none_wait r pending (ap (λ (y : Accumulator). y.pending_len) head);
      }))
      (λ (high : limit h.precision ≤ bytes).
      let s = settle_high high in
      let head : r ≡ densed h = x.head ∙ ap (λ (y : After). y.head) s in
      subst (λ (y : After). Shows y r (mem after sparse pending)) (sym s)
      (record {
        head = head;
        registers = x.registers_left ∙ ap (λ (y : After). y.registers) s;
        kept = ap (λ (y : Accumulator). take y.sparse_len sparse) head;
        waiting = none_wait r pending (ap (λ (y : Accumulator). y.pending_len) head);
      }))
      (side bytes (limit h.precision))
    where
      none_wait : (r : Accumulator) (pending : List ℕ) → r.pending_len ≡ 0 → Permᴰ (take r.pending_len pending) []
      none_wait r pending z = subst (λ (k : ℕ). Permᴰ (take k pending) []) (sym z) (Permᴰ.refl [])

-- ---- merges

-- What stands behind the first n is counted by the values that were put there.
pub appended : (n : ℕ) {k : ℕ} (values list : List ℕ) {l : List ℕ} → k ≤ length values → take (n + length (take k values)) list ≡ l → take (n + k) list ≡ l
appended n {k} values list h e = ap (λ (j : ℕ). take (n + j) list) (sym (length-take-le k values h)) ∙ e

module _ (p s : ℕ) where
  merged_sort : (a b : List ℕ) → merged p s a (sort_of b) ≡ merged p s a b
  merged_sort a b = merged_perm p s a (sort_of b) a b (Permᴰ.append_left a (perm_sort b))

  merge_post : (a b c : List ℕ) (r : Merged) (after : List ℕ) → merged p s a b ≡ merged p s a c → MergePost p s a b r after → MergePost p s a c r after
  merge_post a b c r after e m =
      record { count = m.count ∙ ap length e; bytes = m.bytes ∙ ap written e; values = m.values ∙ e }

-- Values that were put in order, and the merge of them and of those kept.
module _ (enc : Encoding) (vs : List ℕ) {ordered : List ℕ} (e : ordered ≡ sort_of vs) {kept : List ℕ} where
  pub sorted_merge : {spare : List ℕ} → ascends kept ≡ true → all_valid enc.normal_precision enc.sparse_precision kept ≡ true
      → all_valid enc.normal_precision enc.sparse_precision vs ≡ true → length kept + length vs ≤ length spare → MergePre enc kept ordered spare
  sorted_merge {spare} order ok new room =
      let p = enc.normal_precision in
      let s = enc.sparse_precision in
      record {
        left_order = order;
        left_valid = ok;
        right_order = ap ascends e ∙ ascends_sort vs;
        right_valid = ap (all_valid p s) e ∙ valid_sort p s vs new;
        room = omega (arith, room, ap length e, length_sort vs);
      }

  pub sorted_post : {r : Merged} {after : List ℕ} → MergePost enc.normal_precision enc.sparse_precision kept ordered r after
      → MergePost enc.normal_precision enc.sparse_precision kept vs r after
  sorted_post {r} {after} m =
      let p = enc.normal_precision in
      let s = enc.sparse_precision in
      merge_post p s kept ordered vs r after (ap (merged p s kept) e ∙ merged_sort p s kept vs) m

module _ {enc : Encoding} {sparse : List ℕ} {n : ℕ} {incoming scratch : List ℕ} (pre : BackPre enc sparse n incoming scratch) {r : Merged} {after : List ℕ}
    (post : MergePost enc.normal_precision enc.sparse_precision (take n sparse) incoming r after) where
  pub back_fits : r.len ≤ n + length incoming
  back_fits =
      omega (
        arith,
        post.count,
        length_merged enc.normal_precision enc.sparse_precision (take n sparse) incoming,
        length-take-le n sparse (let h : n ≤ length sparse = omega (arith, pre.room) in h),
      )

  pub back_scratch : length after ≡ length scratch → r.len ≤ length after
  back_scratch e =
      omega (
        arith,
        back_fits,
        pre.merge.room,
        length-take-le n sparse (let h : n ≤ length sparse = omega (arith, pre.room) in h),
      )

-- ---- all values as one list

-- The merge of two lists, with so many bytes to go with it.
record OneList (p s : ℕ) (a b : List ℕ) (bytes : ℕ) (u : Merged) (after : List ℕ) : Type 0 where
  count : u.len ≡ length (merged p s a b)
  sum : u.bytes ≡ bytes
  values : take u.len after ≡ merged p s a b

module _ {h : Accumulator} {kept waiting vs : List ℕ} (ready : ListReady h.precision h.sparse_precision h kept waiting vs)
    (few : length kept + length waiting ≤ 2147483647) {bytes : ℕ} {u : Merged} {after : List ℕ}
    (one : OneList h.precision h.sparse_precision kept (waiting ++ vs) bytes u after) where
  one_count : u.len ≤ length kept + length waiting + length vs
  one_count =
      omega (arith, one.count, length_merged h.precision h.sparse_precision kept (waiting ++ vs), length-append waiting vs)

  one_settle : {registers : List ℕ} {enc : Encoding} → register_bytes h.precision ≤ length registers → NewPost h.precision h.sparse_precision enc
      → u.len ≤ length after → SettlePre h enc registers after u
  one_settle {registers} {enc} room new inside =
      let p = h.precision in
      let s = h.sparse_precision in
      record {
        same = new;
        inside = inside;
        all =
            of_pair new (λ (p s : ℕ). all_valid p s (take u.len after) ≡ true)
            (ap (all_valid p s) one.values
            ∙ merged_valid p s kept (waiting ++ vs) ready.kept_valid (valid_append p s waiting vs ready.waiting_valid ready.incoming_valid));
        room = of_pair new (λ (p s : ℕ). register_bytes p ≤ length registers) room;
        few = omega (arith, one_count, few, ready.incoming_short);
      }

  one_shows : (registers : List ℕ) {left : List ℕ} {r : Accumulator} (rest : List ℕ) → Leaves (settle h registers (take u.len after) u.bytes) r left
      → Shows (settle h registers (merged h.precision h.sparse_precision kept (waiting ++ vs)) bytes) r (mem left after rest)
  one_shows registers {left} {r} rest x =
      settled_shows h registers (merged h.precision h.sparse_precision kept (waiting ++ vs)) bytes r left after rest u.len one.count one.values
      (subst (λ (y : After). Leaves y r left) (ap₂ (settle h registers) one.values one.sum) x)

taken_length : (n : ℕ) (l : List ℕ) → length (take n l) ≤ n
taken_length n l = omega (arith, length-take n l, min-le_left n (length l))

-- They are merged.
module _ {h : Accumulator} {registers sparse pending scratch : List ℕ} {k : ℕ} (pre : MergeInPre h registers sparse pending scratch k) {enc : Encoding}
    (new : NewPost h.precision h.sparse_precision enc) where
  abbrev kept : List ℕ
  kept = take h.sparse_len sparse

  abbrev waiting : List ℕ
  waiting = take h.pending_len pending

  abbrev vs : List ℕ
  vs = take k scratch

  merged_few : length kept + length waiting ≤ 2147483647
  merged_few = omega (arith, pre.ready.short, taken_length h.sparse_len sparse, taken_length h.pending_len pending)

  -- Those that wait and those that come in were put in order.
  module _ {ordered : List ℕ} (in_order : ordered ≡ sort_of (waiting ++ vs)) where
    pub merged_back : {spare : List ℕ} → length spare ≡ length scratch → BackPre enc sparse h.sparse_len ordered spare
    merged_back {spare} same =
        let kept_length = taken_length h.sparse_len sparse in
        let both_length : length (waiting ++ vs) ≤ h.pending_len + k = omega (arith, length-append waiting vs, taken_length h.pending_len pending, taken_length k scratch) in
        record {
          merge =
              sorted_merge enc (waiting ++ vs) in_order pre.ready.order
              (of_pair new (λ (p s : ℕ). all_valid p s kept ≡ true) pre.ready.kept_valid)
              (of_pair new (λ (p s : ℕ). all_valid p s (waiting ++ vs) ≡ true)
              (valid_append h.precision h.sparse_precision waiting vs pre.ready.waiting_valid pre.ready.incoming_valid))
              (omega (arith, pre.room.in_scratch, same, kept_length, both_length));
          room = omega (arith, pre.room.in_sparse, ap length in_order, length_sort (waiting ++ vs), both_length);
        }

    module _ {u : Merged} {after : List ℕ} (post : MergePost enc.normal_precision enc.sparse_precision kept ordered u after) where
      merged_one : OneList h.precision h.sparse_precision kept (waiting ++ vs)
          (written (merged h.precision h.sparse_precision kept (waiting ++ vs))) u after
      merged_one =
          let x = at_pair new (λ (p s : ℕ). MergePost p s kept (waiting ++ vs) u after) (sorted_post enc (waiting ++ vs) in_order post) in
          record { count = x.count; sum = x.bytes; values = x.values }

      pub merged_inside : length after ≡ length sparse → u.len ≤ length after
      merged_inside e =
          omega (
            arith,
            one_count pre.ready merged_few merged_one,
            pre.room.in_sparse,
            taken_length h.sparse_len sparse,
            taken_length h.pending_len pending,
            taken_length k scratch,
          )

      pub merged_settle : length after ≡ length sparse → SettlePre h enc registers after u
      merged_settle e = one_settle pre.ready merged_few merged_one pre.in_registers new (merged_inside e)

      pub merged_shows : {left : List ℕ} {r : Accumulator} (rest : List ℕ) → Leaves (settle h registers (take u.len after) u.bytes) r left
          → Shows (settle h registers (all_merged h (mem registers sparse pending) vs) (written (all_merged h (mem registers sparse pending) vs))) r (mem left after rest)
      merged_shows = one_shows pre.ready merged_few merged_one registers

-- They are inserted.
module _ {h : Accumulator} {registers sparse scratch : List ℕ} {k : ℕ} (pre : InsertInPre h registers sparse scratch k) {enc : Encoding}
    (new : NewPost h.precision h.sparse_precision enc) where
  abbrev new_values : List ℕ
  new_values = take k scratch

  new_length : length new_values ≡ k
  new_length = length-take-le k scratch pre.inside

  abbrev own : List ℕ
  own = take h.sparse_len sparse

  abbrev bytes_of : List ℕ → ℕ
  bytes_of l = h.sparse_bytes + written l - written own

  inserted_few : length own + 0 ≤ 2147483647
  inserted_few = omega (arith, pre.ready.short, taken_length h.sparse_len sparse)

  module _ {u : Merged} {after : List ℕ}
      (post : InsertPost enc.normal_precision enc.sparse_precision sparse h.sparse_len new_values h.sparse_bytes u after) where
    inserted_one : OneList h.precision h.sparse_precision own new_values (bytes_of (merged h.precision h.sparse_precision own new_values)) u after
    inserted_one =
        let x = at_pair new (λ (p s : ℕ). InsertPost p s sparse h.sparse_len new_values h.sparse_bytes u after) post in
        record { count = x.count; sum = omega (arith, x.bytes); values = x.values }

    pub inserted_inside : length after ≡ length sparse → u.len ≤ length after
    inserted_inside e =
        omega (arith, one_count pre.ready inserted_few inserted_one, pre.in_sparse, new_length, taken_length h.sparse_len sparse)

    pub inserted_settle : length after ≡ length sparse → SettlePre h enc registers after u
    inserted_settle e = one_settle pre.ready inserted_few inserted_one pre.in_registers new (inserted_inside e)

    pub inserted_shows : {left : List ℕ} {r : Accumulator} (pending : List ℕ) → Leaves (settle h registers (take u.len after) u.bytes) r left
        → Shows
        (settle h registers (all_merged h (mem registers sparse pending) new_values) (bytes_of (all_merged h (mem registers sparse pending) new_values))) r (mem left after pending)
    inserted_shows {left} {r} pending x =
        subst
        (λ (w : List ℕ).
        let l = merged h.precision h.sparse_precision own (w ++ new_values) in
        Shows (settle h registers l (bytes_of l)) r (mem left after pending)) (sym (ap (λ (w : ℕ). take w pending) pre.none))
        (one_shows pre.ready inserted_few inserted_one registers pending x)

-- They wait.
module _ (h : Accumulator) (registers sparse pending scratch : List ℕ) (k : ℕ) (form : h.form ≡ Sparse) (inside : k ≤ length scratch) where
  pub waiting_shows : {after : List ℕ} → take (h.pending_len + length (take k scratch)) after ≡ take h.pending_len pending ++ take k scratch
      → Shows (as_waiting h (mem registers sparse pending) (take k scratch)) (record h { pending_len = h.pending_len + k }) (mem registers sparse after)
  waiting_shows {after} e =
      record {
        head =
            ap (λ (f : Form). record h { form = f; pending_len = h.pending_len + k }) form
            ∙ ap (λ (n : ℕ). with_list h h.sparse_size h.sparse_len h.sparse_bytes (h.pending_len + n)) (sym (length-take-le k scratch inside));
        registers = refl;
        kept = refl;
        waiting = subst (λ (l : List ℕ). Permᴰ l (take h.pending_len pending ++ take k scratch)) (sym (appended h.pending_len scratch after inside e)) (Permᴰ.refl _);
      }

-- All are registers.
pub densified_shows : (h : Accumulator) (registers sparse pending row : List ℕ) {after : List ℕ} {r : Accumulator} → r ≡ densed h
    → after
    ≡ with_registers h.precision
    (larger (raised_by h.precision h.sparse_precision (zeros h.precision) (take h.sparse_len sparse ++ take h.pending_len pending)) row) registers
    → Shows (row_taken h (mem registers sparse pending) row) r (mem after sparse pending)
densified_shows h registers sparse pending row {after} {r} e g =
    record {
      head = e;
      registers = g;
      kept = ap (λ (y : Accumulator). take y.sparse_len sparse) e;
      waiting = subst (λ (y : Accumulator). Permᴰ (take y.pending_len pending) []) (sym e) (Permᴰ.refl []);
    }

-- ---- what comes to a list roll-up

module _ {a : Accumulator} {m : Mem} {scratch : List ℕ} {x : Incoming} {path : Option Path} {row : List ℕ} {k : ℕ} (f : a.form ≡ Sparse)
    (pre : TakingPre a m scratch x path row k) where
  pub taking_fit : FitSparse a m
  taking_fit = fit_sparse a m pre.taken.fit f

  taking_registers : register_bytes a.precision ≤ length m.registers
  taking_registers =
      subst (λ (g : Form). register_bytes (wanted_precision g a x.precision) ≤ length m.registers) f pre.taken.in_registers

  taken_values : length (take k scratch) ≡ k
  taken_values = length-take-le k scratch pre.inside

  its : path ≡ list_path a (kept_of a m) x k
  its = pre.its ∙ path_form Sparse a (kept_of a m) x k f

  taking_room : is_some path ≡ true → ListRoom a k (length m.sparse) (length m.pending) (length scratch)
  taking_room e =
      let some : 0 < length (take k scratch) = omega (arith, path_some a (kept_of a m) x k path its e, taken_values) in
      subst (λ (n : ℕ). ListRoom a n (length m.sparse) (length m.pending) (length scratch)) taken_values (pre.taken.in_lists some)

  taking_ready : ListReady a.precision a.sparse_precision (counted a x) (kept_of a m) (waiting_of a m) (take k scratch)
  taking_ready =
      let t = pre.taken in
      let fit = taking_fit in
      record {
        pair = fit.pair;
        order = fit.order;
        kept_valid = fit.kept_valid;
        waiting_valid = fit.waiting_valid;
        incoming_order = t.order;
        incoming_valid = ap₂ (λ (p s : ℕ). all_valid p s (take k scratch)) (sym (t.same_normal f)) (sym (t.same_sparse f)) ∙ t.all;
        bytes_low = fit.bytes_low;
        bytes_high = fit.bytes_high;
        short = counts_short fit;
        incoming_short = t.incoming_short;
      }

  -- The head is counted; its lists are as they were.
  module _ {h : Accumulator} (c : h ≡ counted a x) where
    pub densify_pre : (length row ≡ 0 → ⊥) → DensifyPre h m.registers m.sparse m.pending row
    densify_pre n =
        let fit = taking_fit in
        subst (λ (y : Accumulator). DensifyPre y m.registers m.sparse m.pending row) (sym c)
        (record {
          pair = fit.pair;
          kept_in = fit.kept_in;
          waiting_in = fit.waiting_in;
          kept_valid = fit.kept_valid;
          waiting_valid = fit.waiting_valid;
          room = taking_registers;
          size = pre.taken.size (pos_of_ne-zero n) ∙ ap (λ (q : ℕ). 2 ^ q) (pre.taken.same_normal f);
        })

    pub merge_pre : is_some path ≡ true → MergeInPre h m.registers m.sparse m.pending scratch k
    merge_pre e =
        let r = taking_room e in
        subst (λ (y : Accumulator). MergeInPre y m.registers m.sparse m.pending scratch k) (sym c)
        (record {
          ready = taking_ready;
          room = record { in_sparse = r.in_sparse; in_pending = r.in_pending; in_scratch = r.in_scratch };
          in_registers = taking_registers;
        })

    pub insert_pre : path ≡ Some Inserts → InsertInPre h m.registers m.sparse scratch k
    insert_pre e =
        let t = path_inserts a (kept_of a m) x k (sym e ∙ its) in
        subst (λ (y : Accumulator). InsertInPre y m.registers m.sparse scratch k) (sym c)
        (record {
          inside = pre.inside;
          ready =
              subst (λ (w : List ℕ). ListReady a.precision a.sparse_precision (counted a x) (kept_of a m) w (take k scratch))
              (ap (λ (w : ℕ). take w m.pending) t.0) taking_ready;
          none = t.0;
          distinct = t.1;
          in_sparse = omega (arith, (taking_room (ap is_some e)).in_sparse);
          in_registers = taking_registers;
        })

    -- Registers: all values are registers now.
    pub shows_row : (length row ≡ 0 → ⊥) → {r : Accumulator} {n : Mem} → Shows (row_taken h m row) r n → Shows (sparse_after a m x row (take k scratch)) r n
    unfolding sparse_after
    shows_row e {r} {n} s =
        let list = list_after (list_path a (kept_of a m) x (length (take k scratch))) (counted a x) m (take k scratch) in
        subst (λ (y : After). Shows y r n)
        (ap (λ (y : Accumulator). row_taken y m row) c ∙ sym (ap (λ (b : Bool). cond b list (row_taken (counted a x) m row)) (ne_eqb (length row) 0 e))) s

    -- None, and values by their path.
    module _ (z : length row ≡ 0) where
      shows_path : (q : Option Path) → path ≡ q → {r : Accumulator} {n : Mem} → Shows (list_after q h m (take k scratch)) r n
          → Shows (sparse_after a m x row (take k scratch)) r n
      unfolding sparse_after
      shows_path q e {r} {n} s =
          let vs = take k scratch in
          let path_is : q ≡ list_path a (kept_of a m) x (length vs) = sym e ∙ its ∙ ap (list_path a (kept_of a m) x) (sym taken_values) in
          subst (λ (y : After). Shows y r n)
          (ap₂ (λ (p : Option Path) (y : Accumulator). list_after p y m vs) path_is c
          ∙ sym
          (ap (λ (b : Bool). cond b (list_after (list_path a (kept_of a m) x (length vs)) (counted a x) m vs) (row_taken (counted a x) m row)) (eq-eqb (length row) 0 z)))
          s

      pub shows_none : path ≡ None → Shows (sparse_after a m x row (take k scratch)) h m
      unfolding list_after
      shows_none e = shows_path None e (record { head = refl; registers = refl; kept = refl; waiting = Permᴰ.refl (waiting_of h m) })

      pub shows_waits : path ≡ Some Waits → {r : Accumulator} {n : Mem} → Shows (as_waiting h m (take k scratch)) r n
          → Shows (sparse_after a m x row (take k scratch)) r n
      unfolding list_after
      shows_waits e s = shows_path (Some Waits) e s

      pub shows_inserted : path ≡ (Some Inserts) → {r : Accumulator} {n : Mem}
          → Shows
          (settle h m.registers (all_merged h m (take k scratch)) (h.sparse_bytes + written (all_merged h m (take k scratch)) - written (kept_of h m))) r n
          → Shows (sparse_after a m x row (take k scratch)) r n
      unfolding list_after
      shows_inserted e s = shows_path (Some Inserts) e s

      pub shows_merged : {q : Path} → path ≡ Some q → (q ≡ Sorts) ⊎ (q ≡ Merges) → {r : Accumulator} {n : Mem}
          → Shows (settle h m.registers (all_merged h m (take k scratch)) (written (all_merged h m (take k scratch)))) r n
          → Shows (sparse_after a m x row (take k scratch)) r n
      unfolding list_after
      shows_merged {q} e either s = ⊎_elim (λ (p : q ≡ Sorts). shows_path (Some Sorts) (e ∙ ap Some p) s) (λ (p : q ≡ Merges). shows_path (Some Merges) (e ∙ ap Some p) s) either
