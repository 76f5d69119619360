-- Laws of the distinct sparse indices of a list in order: plain values and marked ones, each with indices that ascend, side by side.
use Rattle.std.proofs.Common.{◌≡◌, ℕ, zero, suc, ◌+◌, ◌-◌, ◌*◌, ◌/◌, ◌^◌, ◌<◌, ◌≤◌, Bool, true, false, cond, ◌||◌, eqb, leb, ◌≢◌, ◌⊎◌, List, [], ◌∷◌, ◌++◌, length, get_or, take, drop, sym, refl, ap, ◌∙◌, subst, ap₂, ⊎_elim, mul-lt-mul_of_pos_right, ne_of_gt, ne_of_lt, arith, length-drop, take-append-drop, drop_of_length-le, length-take-le, get_or-drop, drop-cons, get_or-take, pow_pos, eq-eqb, ne_eqb, eqb-true, le-leb}
use mathlib.Core.List.{Permᴰ}
use lib.Seq.{slice, slice-cons}
use borrow.Author.Tests.{eqb-false, lt-leb}
use Rattle.std.proofs.lemmas.Bool.{cases_lt as side}
use Rattle.lists.specs.declared.values.Sparse.{Sparse}
use Rattle.lists.specs.Values.{mark, marked, valid, sparse_index}
use Rattle.lists.specs.Sorting.{ascends, sort_of}
use Rattle.lists.specs.Lists.{all_valid, slot, same_slot_first, last_of_slots, merged, distinct_slots, index_in, distinct_indices, IndexPre}
use Rattle.lists.specs.Order.{Ascending, Below, Least}
use Rattle.lists.specs.Merging.{Splits}
use Rattle.lists.proofs.ValueLaws.{decided, mark_64, below_mark, sparse_plain, sparse_marked}
use Rattle.lists.proofs.OrderLaws.{ascending, ascending_take, ascending_drop, perm_sort}
use Rattle.lists.proofs.MergeLaws.{valid_at, valid_from_mark, slot_marked, slot_plain, slot_group, mark_groups, marked_group, last_same, last_apart}
use Rattle.lists.proofs.InsertLaws.{distinct_head, distinct_take, distinct_drop}

module _ (p s : ℕ) where
  -- ---- lists whose indices ascend

  -- Each value's index is above n.
  abbrev Above : ℕ → List ℕ → Type 0
  Above n [] = Unit
  Above n (x ∷ l) = (n < sparse_index p s x) × Above n l

  abbrev pub Rises : List ℕ → Type 0
  Rises [] = Unit
  Rises (x ∷ l) = Above (sparse_index p s x) l × Rises l

  above_lower : (m n : ℕ) (l : List ℕ) → m ≤ n → Above n l → Above m l
  above_lower m n [] h q = tt
  above_lower m n (x ∷ l) h q = (omega (arith, q.0), above_lower m n l h q.1)

  -- An index that is below all the others is not among them, and has no part in what is.
  apart : (v w : ℕ) (t : Bool) → sparse_index p s v ≢ sparse_index p s w → (eqb (sparse_index p s v) (sparse_index p s w) || t) ≡ t
  apart v w t h = ap (λ (b : Bool). b || t) (ne_eqb (sparse_index p s v) (sparse_index p s w) h)

  past : (v : ℕ) (a b : List ℕ) → Above (sparse_index p s v) a → index_in p s v (a ++ b) ≡ index_in p s v b
  past v [] b q = refl
  past v (x ∷ a) b q = apart v x (index_in p s v (a ++ b)) (ne_of_lt q.0) ∙ past v a b q.1

  absent : (v : ℕ) (l : List ℕ) → Above (sparse_index p s v) l → index_in p s v l ≡ false
  absent v [] q = refl
  absent v (x ∷ l) q = apart v x (index_in p s v l) (ne_of_lt q.0) ∙ absent v l q.1

  -- ---- counting

  -- How many of the first list's indices the second has.
  pub shared_of : List ℕ → List ℕ → ℕ
  shared_of [] b = 0
  shared_of (v ∷ a) b = cond (index_in p s v b) 1 0 + shared_of a b

  shared_cons : (v : ℕ) (a b : List ℕ) (t : Bool) → index_in p s v b ≡ t → shared_of (v ∷ a) b ≡ cond t 1 0 + shared_of a b
  unfolding shared_of
  shared_cons v a b t e = ap (λ (x : Bool). cond x 1 0 + shared_of a b) e

  none_shared : (b : List ℕ) → shared_of [] b ≡ 0
  unfolding shared_of
  none_shared b = refl

  shared_none : (a : List ℕ) → shared_of a [] ≡ 0
  unfolding shared_of
  shared_none [] = refl
  shared_none (v ∷ a) = omega (arith, shared_none a)

  index_there : (v : ℕ) (l : List ℕ) → index_in p s v l ≡ true → distinct_indices p s (v ∷ l) ≡ distinct_indices p s l
  unfolding distinct_indices
  index_there v l e = rw e

  index_new : (v : ℕ) (l : List ℕ) → index_in p s v l ≡ false → distinct_indices p s (v ∷ l) ≡ 1 + distinct_indices p s l
  unfolding distinct_indices
  index_new v l e = rw e

  rises_count : (l : List ℕ) → Rises l → distinct_indices p s l ≡ length l
  unfolding distinct_indices
  rises_count [] q = refl
  rises_count (v ∷ l) q = omega (arith, index_new v l (absent v l q.0), rises_count l q.1)

  counted : (a b : List ℕ) → Rises a → Rises b → distinct_indices p s (a ++ b) + shared_of a b ≡ length (a ++ b)
  unfolding shared_of
  counted [] b q r = omega (arith, rises_count b r)
  counted (v ∷ a) b q r =
      ⊎_elim
      (λ (e : index_in p s v b ≡ true).
      omega (arith, index_there v (a ++ b) (past v a b q.0 ∙ e), shared_cons v a b true e, counted a b q.1 r))
      (λ (e : index_in p s v b ≡ false).
      omega (arith, index_new v (a ++ b) (past v a b q.0 ∙ e), shared_cons v a b false e, counted a b q.1 r))
      (decided (index_in p s v b))

  -- ---- the walk

  -- A first index of the second list that is below all of the first has no part.
  skip : (y : ℕ) (a b : List ℕ) → Above (sparse_index p s y) a → shared_of a (y ∷ b) ≡ shared_of a b
  unfolding shared_of
  skip y [] b q = refl
  skip y (v ∷ a) b q =
      ap₂ (λ (t : Bool) (n : ℕ). cond t 1 0 + n) (apart v y (index_in p s v b) (ne_of_gt q.0)) (skip y a b q.1)

  module _ (x y : ℕ) (a b : List ℕ) (q : Rises (x ∷ a)) (r : Rises (y ∷ b)) where
    shared_less : sparse_index p s x < sparse_index p s y → shared_of (x ∷ a) (y ∷ b) ≡ shared_of a (y ∷ b)
    shared_less h =
        shared_cons x a (y ∷ b) false
        (absent x (y ∷ b) (h, above_lower (sparse_index p s x) (sparse_index p s y) b (let z : sparse_index p s x ≤ sparse_index p s y = omega arith in z) r.0))
        ∙ (let z : 0 + shared_of a (y ∷ b) ≡ shared_of a (y ∷ b) = omega arith in z)

    shared_more : sparse_index p s y < sparse_index p s x → shared_of (x ∷ a) (y ∷ b) ≡ shared_of (x ∷ a) b
    shared_more h =
        skip y (x ∷ a) b
        (h, above_lower (sparse_index p s y) (sparse_index p s x) a (let z : sparse_index p s y ≤ sparse_index p s x = omega arith in z) q.0)

    shared_equal : sparse_index p s x ≡ sparse_index p s y → shared_of (x ∷ a) (y ∷ b) ≡ 1 + shared_of a b
    shared_equal e =
        shared_cons x a (y ∷ b) true (ap (λ (t : Bool). t || index_in p s x b) (eq-eqb (sparse_index p s x) (sparse_index p s y) e))
        ∙ ap (λ (n : ℕ). 1 + n) (skip y a b (subst (λ (n : ℕ). Above n a) e q.0))

  -- ---- where the indices of a list ascend

  module _ (In : ℕ → Type 0)
      (step : (x y : ℕ) → In x → In y → x ≤ y → (slot p s x ≡ slot p s y → ⊥) → sparse_index p s x < sparse_index p s y) where
    rises_of : (n : ℕ) (l : List ℕ) → Ascending n l → distinct_slots p s l ≡ true → ((i : ℕ) → i < length l → In (get_or l i 0)) → Rises l
    rises_of n [] q d h = tt
    rises_of n (x ∷ []) q d h = (tt, tt)
    rises_of n (x ∷ y ∷ l) q d h =
        let t = distinct_head p s x (y ∷ l) d in
        let r = rises_of x (y ∷ l) q.1 t.1 (λ i k. h (suc i) (omega arith)) in
        let lt : sparse_index p s x < sparse_index p s y = step x y (h 0 (omega arith)) (h 1 (omega arith)) q.1.0 (eqb-false (slot p s x) (slot p s y) t.0) in
        ((lt, above_lower (sparse_index p s x) (sparse_index p s y) l (let z : sparse_index p s x ≤ sparse_index p s y = omega arith in z) r.0), r)

  plain_index : (x : ℕ) → x < mark p s → sparse_index p s x ≡ x
  plain_index x h = sparse_plain p s x (below_mark p s x h)

  plain_step : (x y : ℕ) → x < mark p s → y < mark p s → x ≤ y → (slot p s x ≡ slot p s y → ⊥) → sparse_index p s x < sparse_index p s y
  plain_step x y hx hy l d =
      ⊎_elim (λ (g : x < y). omega (arith, plain_index x hx, plain_index y hy))
      (λ (g : y ≤ x). absurd (d (ap (slot p s) (let z : x ≡ y = omega arith in z)))) (side x y)

  marked_step : (x y : ℕ) → (mark p s ≤ x) × (valid p s x ≡ true) → (mark p s ≤ y) × (valid p s y ≡ true) → x ≤ y
      → (slot p s x ≡ slot p s y → ⊥) → sparse_index p s x < sparse_index p s y
  marked_step x y hx hy l d =
      let ex = valid_from_mark p s x hx.1 hx.0 in
      let ey = valid_from_mark p s y hy.1 hy.0 in
      let lt : (x - mark p s) / 64 < (y - mark p s) / 64 =
      ⊎_elim (λ (g : x / 64 < y / 64). let z : (x - mark p s) / 64 < (y - mark p s) / 64 = omega (arith, mark_64 p s, hx.0, hy.0) in z)
      (λ (g : y / 64 ≤ x / 64).
      absurd
      (d
      (slot_marked p s x ex
      ∙ ap (λ (n : ℕ). n * 64) (let z : x / 64 ≡ y / 64 = omega arith in z)
      ∙ sym (slot_marked p s y ey)))) (side (x / 64) (y / 64)) in
      omega (
        arith,
        sparse_marked p s x ex,
        sparse_marked p s y ey,
        mul-lt-mul_of_pos_right lt (pow_pos (s - p)),
      )

  below_at : (n : ℕ) (l : List ℕ) (i : ℕ) → Below n l → i < length l → get_or l i 0 < n
  below_at n [] i q h = absurd (let z : ⊥ = omega arith in z)
  below_at n (x ∷ l) zero q h = q.0
  below_at n (x ∷ l) (suc i) q h = below_at n l i q.1 (omega arith)

  least_at : (n : ℕ) (l : List ℕ) (i : ℕ) → Least n l → i < length l → n ≤ get_or l i 0
  least_at n [] i q h = absurd (let z : ⊥ = omega arith in z)
  least_at n (x ∷ l) zero q h = q.0
  least_at n (x ∷ l) (suc i) q h = least_at n l i q.1 (omega arith)

  -- Where the walk is: k indices were met twice, and the rests of the plain and of the marked values start at i and at j.
  pub record Walking (l : List ℕ) (m i j k : ℕ) : Type 0 where
    pub parts : Splits l (mark p s) m
    pub allowed : all_valid p s l ≡ true
    pub left_in : i ≤ m
    pub right_from : m ≤ j
    pub right_in : j ≤ length l
    pub few : k ≤ i
    pub left : Rises (slice i m l)
    pub right : Rises (drop j l)
    pub all : distinct_indices p s l + shared_of (take m l) (drop m l) ≡ length l
    pub whole : shared_of (take m l) (drop m l) ≡ k + shared_of (slice i m l) (drop j l)

  pub walk_in : (l : List ℕ) (m : ℕ) → ascends l ≡ true → all_valid p s l ≡ true → distinct_slots p s l ≡ true → Splits l (mark p s) m → Walking l m 0 m 0
  walk_in l m rises allowed distinct parts =
      let a = ascending l rises in
      let left = rises_of (λ x. x < mark p s) plain_step 0 (take m l) (ascending_take m 0 l a) (distinct_take p s m l distinct)
      (λ i h. below_at (mark p s) (take m l) i parts.low h) in
      let right = rises_of (λ x. (mark p s ≤ x) × (valid p s x ≡ true)) marked_step 0 (drop m l) (ascending_drop m 0 l a) (distinct_drop p s m l distinct)
      (λ i h. (
        least_at (mark p s) (drop m l) i parts.high h,
        subst (λ (x : ℕ). valid p s x ≡ true) (sym (get_or-drop m l i 0)) (valid_at p s l (m + i) allowed (omega (arith, length-drop m l))),
      )) in
      record {
        parts = parts;
        allowed = allowed;
        left_in = omega arith;
        right_from = omega arith;
        right_in = parts.inside;
        few = omega arith;
        left = left;
        right = right;
        all =
            subst (λ (t : List ℕ). distinct_indices p s t + shared_of (take m l) (drop m l) ≡ length t) (take-append-drop m l)
            (counted (take m l) (drop m l) left right);
        whole = omega arith;
      }

  module _ (l : List ℕ) (m i j k : ℕ) (g : Walking l m i j k) where
    -- x and y are the two indices that the code has read, e, a and b what it adds for them
    module _ (x y e a b : ℕ) (im : i < m) (jl : j < length l) (ex : x ≡ get_or l i 0) (ey : y ≡ sparse_index p s (get_or l j 0))
        (ee : e ≡ cond (eqb x y) 1 0) (ea : a ≡ cond (leb x y) 1 0) (eb : b ≡ cond (leb y x) 1 0) where
      left_cons : slice i m l ≡ get_or l i 0 ∷ slice (suc i) m l
      left_cons = slice-cons i m l 0 im g.parts.inside

      right_cons : drop j l ≡ get_or l j 0 ∷ drop (suc j) l
      right_cons = drop-cons l j 0 jl

      left_rises : Rises (get_or l i 0 ∷ slice (suc i) m l)
      left_rises = subst Rises left_cons g.left

      right_rises : Rises (get_or l j 0 ∷ drop (suc j) l)
      right_rises = subst Rises right_cons g.right

      index_left : sparse_index p s (get_or l i 0) ≡ x
      index_left = plain_index (get_or l i 0)
          (subst (λ (v : ℕ). v < mark p s) (get_or-take m l i 0 im)
          (below_at (mark p s) (take m l) i g.parts.low (omega (arith, length-take-le m l g.parts.inside))))
          ∙ sym ex

      both : shared_of (slice i m l) (drop j l) ≡ shared_of (get_or l i 0 ∷ slice (suc i) m l) (get_or l j 0 ∷ drop (suc j) l)
      both = ap₂ shared_of left_cons right_cons

      -- Where the rests start then.
      record Next : Type 0 where
        at_left : Rises (slice (i + a) m l)
        at_right : Rises (drop (j + b) l)
        count : shared_of (slice i m l) (drop j l) ≡ e + shared_of (slice (i + a) m l) (drop (j + b) l)
        counts : (e ≤ a) × (a ≤ 1) × (b ≤ 1)

      next_less : x < y → Next
      next_less h =
          let e0 : e ≡ 0 = ee ∙ ap (λ (t : Bool). cond t 1 0) (ne_eqb x y (λ (f : x ≡ y). omega arith)) in
          let a1 : a ≡ 1 = ea ∙ ap (λ (t : Bool). cond t 1 0) (le-leb x y (omega arith)) in
          let b0 : b ≡ 0 = eb ∙ ap (λ (t : Bool). cond t 1 0) (lt-leb y x h) in
          let to_left : suc i ≡ i + a = omega arith in
          let to_right : j ≡ j + b = omega arith in
          record {
            at_left = subst (λ (n : ℕ). Rises (slice n m l)) to_left left_rises.1;
            at_right = subst (λ (n : ℕ). Rises (drop n l)) to_right g.right;
            count =
                both
                ∙ shared_less (get_or l i 0) (get_or l j 0) (slice (suc i) m l) (drop (suc j) l) left_rises right_rises (omega (arith, index_left, ey))
                ∙ ap (shared_of (slice (suc i) m l)) (sym right_cons)
                ∙ ap₂ (λ (u w : ℕ). shared_of (slice u m l) (drop w l)) to_left to_right
                ∙ (let z : shared_of (slice (i + a) m l) (drop (j + b) l) ≡ e + shared_of (slice (i + a) m l) (drop (j + b) l) = omega arith in z);
            counts = (omega arith, omega arith, omega arith);
          }

      next_more : y < x → Next
      next_more h =
          let e0 : e ≡ 0 = ee ∙ ap (λ (t : Bool). cond t 1 0) (ne_eqb x y (λ (f : x ≡ y). omega arith)) in
          let a0 : a ≡ 0 = ea ∙ ap (λ (t : Bool). cond t 1 0) (lt-leb x y h) in
          let b1 : b ≡ 1 = eb ∙ ap (λ (t : Bool). cond t 1 0) (le-leb y x (omega arith)) in
          let to_left : i ≡ i + a = omega arith in
          let to_right : suc j ≡ j + b = omega arith in
          record {
            at_left = subst (λ (n : ℕ). Rises (slice n m l)) to_left g.left;
            at_right = subst (λ (n : ℕ). Rises (drop n l)) to_right right_rises.1;
            count =
                both
                ∙ shared_more (get_or l i 0) (get_or l j 0) (slice (suc i) m l) (drop (suc j) l) left_rises right_rises (omega (arith, index_left, ey))
                ∙ ap (λ (t : List ℕ). shared_of t (drop (suc j) l)) (sym left_cons)
                ∙ ap₂ (λ (u w : ℕ). shared_of (slice u m l) (drop w l)) to_left to_right
                ∙ (let z : shared_of (slice (i + a) m l) (drop (j + b) l) ≡ e + shared_of (slice (i + a) m l) (drop (j + b) l) = omega arith in z);
            counts = (omega arith, omega arith, omega arith);
          }

      next_equal : x ≡ y → Next
      next_equal h =
          let e1 : e ≡ 1 = ee ∙ ap (λ (t : Bool). cond t 1 0) (eq-eqb x y h) in
          let a1 : a ≡ 1 = ea ∙ ap (λ (t : Bool). cond t 1 0) (le-leb x y (omega arith)) in
          let b1 : b ≡ 1 = eb ∙ ap (λ (t : Bool). cond t 1 0) (le-leb y x (omega arith)) in
          let to_left : suc i ≡ i + a = omega arith in
          let to_right : suc j ≡ j + b = omega arith in
          record {
            at_left = subst (λ (n : ℕ). Rises (slice n m l)) to_left left_rises.1;
            at_right = subst (λ (n : ℕ). Rises (drop n l)) to_right right_rises.1;
            count =
                both
                ∙ shared_equal (get_or l i 0) (get_or l j 0) (slice (suc i) m l) (drop (suc j) l) left_rises right_rises (index_left ∙ h ∙ ey)
                ∙ ap (λ (n : ℕ). 1 + n) (ap₂ (λ (u w : ℕ). shared_of (slice u m l) (drop w l)) to_left to_right)
                ∙ ap (λ (n : ℕ). n + shared_of (slice (i + a) m l) (drop (j + b) l)) (sym e1);
            counts = (omega arith, omega arith, omega arith);
          }

      next : Next
      next =
          ⊎_elim (λ (h : x < y). next_less h)
          (λ (h : y ≤ x). ⊎_elim (λ (f : y < x). next_more f) (λ (f : x ≤ y). next_equal (omega arith)) (side y x)) (side x y)

      pub walk_on : Walking l m (i + a) (j + b) (k + e)
      walk_on =
          let n = next in
          record {
            parts = g.parts;
            allowed = g.allowed;
            left_in = omega (arith, n.counts.1);
            right_from = omega (arith, g.right_from);
            right_in = omega (arith, n.counts.2);
            few = omega (arith, g.few, n.counts.0);
            left = n.at_left;
            right = n.at_right;
            all = g.all;
            whole = omega (arith, g.whole, n.count);
          }

    pub walk_out : (m ≤ i) ⊎ (length l ≤ j) → length l - k ≡ distinct_indices p s l
    walk_out w =
        let none : shared_of (slice i m l) (drop j l) ≡ 0 =
        ⊎_elim
        (λ (h : m ≤ i).
        ap (λ (t : List ℕ). shared_of t (drop j l)) (drop_of_length-le (take m l) {i = i} (omega (arith, length-take-le m l g.parts.inside)))
        ∙ none_shared (drop j l))
        (λ (h : length l ≤ j). ap (shared_of (slice i m l)) (drop_of_length-le l {i = j} h) ∙ shared_none (slice i m l)) w in
        omega (arith, g.all, g.whole, none)

-- The walk starts at the first marked value.
pub walk_start : (enc : Sparse) (l : List ℕ) (flag m : ℕ) → IndexPre enc l → flag ≡ mark enc.normal_precision enc.sparse_precision
    → Splits l flag m → Walking enc.normal_precision enc.sparse_precision l m 0 m 0
walk_start enc l flag m q f parts =
    walk_in enc.normal_precision enc.sparse_precision l m q.rises q.allowed q.distinct (subst (λ (n : ℕ). Splits l n m) f parts)

-- ---- the indices of a merge

module _ (p s : ℕ) where
  -- Values of one slot have one index.
  slot_index : (v w : ℕ) → slot p s v ≡ slot p s w → sparse_index p s v ≡ sparse_index p s w
  slot_index v w e =
      let g : v / 64 ≡ w / 64 = omega (arith, (slot_group p s v).0, (slot_group p s v).1, (slot_group p s w).0, (slot_group p s w).1) in
      ⊎_elim
      (λ (f : marked p s v ≡ true).
      sparse_marked p s v f
      ∙ ap (λ (k : ℕ). k * 2 ^ (s - p))
      (let h : (v - mark p s) / 64 ≡ (w - mark p s) / 64 = omega (arith, mark_groups p s) in h)
      ∙ sym (sparse_marked p s w (sym (marked_group p s v w g) ∙ f)))
      (λ (f : marked p s v ≡ false).
      let h = sym (marked_group p s v w g) ∙ f in
      sparse_plain p s v f ∙ sym (slot_plain p s v f) ∙ e ∙ slot_plain p s w h ∙ sym (sparse_plain p s w h))
      (decided (marked p s v))

  -- An index of which one value goes and another stays is as it was.
  twice : (a b t : Bool) → a ≡ b → (a || (b || t)) ≡ (b || t)
  twice true b t e = ap (λ (x : Bool). x || t) e
  twice false b t e = refl

  index_last : (v : ℕ) (l : List ℕ) → index_in p s v (last_of_slots p s l) ≡ index_in p s v l
  unfolding last_of_slots
  index_last v [] = refl
  index_last v (x ∷ []) = refl
  index_last v (x ∷ y ∷ l) =
      ⊎_elim
      (λ (h : same_slot_first p s x (y ∷ l) ≡ true).
      ap (index_in p s v) (last_same p s x (y ∷ l) h)
      ∙ index_last v (y ∷ l)
      ∙ sym
      (twice (eqb (sparse_index p s v) (sparse_index p s x)) (eqb (sparse_index p s v) (sparse_index p s y)) (index_in p s v l)
      (ap (eqb (sparse_index p s v)) (slot_index x y (eqb-true (slot p s x) (slot p s y) h)))))
      (λ (h : same_slot_first p s x (y ∷ l) ≡ false).
      ap (index_in p s v) (last_apart p s x (y ∷ l) h)
      ∙ ap (λ (t : Bool). eqb (sparse_index p s v) (sparse_index p s x) || t) (index_last v (y ∷ l)))
      (decided (same_slot_first p s x (y ∷ l)))

  -- Whether the index is among the others decides.
  pub index_cons : (v : ℕ) (l : List ℕ) → distinct_indices p s (v ∷ l) ≡ cond (index_in p s v l) (distinct_indices p s l) (1 + distinct_indices p s l)
  unfolding distinct_indices
  index_cons v l = refl

  distinct_last_of : (l : List ℕ) → distinct_indices p s (last_of_slots p s l) ≡ distinct_indices p s l
  unfolding last_of_slots
  distinct_last_of [] = refl
  distinct_last_of (x ∷ []) = refl
  distinct_last_of (x ∷ y ∷ l) =
      ⊎_elim
      (λ (h : same_slot_first p s x (y ∷ l) ≡ true).
      ap (distinct_indices p s) (last_same p s x (y ∷ l) h)
      ∙ distinct_last_of (y ∷ l)
      ∙ sym
      (index_there p s x (y ∷ l)
      (ap (λ (t : Bool). t || index_in p s x l)
      (eq-eqb (sparse_index p s x) (sparse_index p s y) (slot_index x y (eqb-true (slot p s x) (slot p s y) h))))))
      (λ (h : same_slot_first p s x (y ∷ l) ≡ false).
      ap (distinct_indices p s) (last_apart p s x (y ∷ l) h)
      ∙ index_cons x (last_of_slots p s (y ∷ l))
      ∙ ap₂ (λ (t : Bool) (k : ℕ). cond t k (1 + k)) (index_last x (y ∷ l)) (distinct_last_of (y ∷ l))
      ∙ sym (index_cons x (y ∷ l)))
      (decided (same_slot_first p s x (y ∷ l)))

  -- The order of the values has no part in it.
  swap_or : (a b t : Bool) → (a || (b || t)) ≡ (b || (a || t))
  swap_or true true t = refl
  swap_or true false t = refl
  swap_or false b t = refl

  index_perm : (v : ℕ) {a b : List ℕ} → Permᴰ a b → index_in p s v a ≡ index_in p s v b
  index_perm v Permᴰ.nil = refl
  index_perm v (Permᴰ.cons e d) = ap₂ (λ (x : ℕ) (t : Bool). eqb (sparse_index p s v) (sparse_index p s x) || t) e (index_perm v d)
  index_perm v (Permᴰ.swap {a = a} {b = b} {l = l} e f) =
      swap_or (eqb (sparse_index p s v) (sparse_index p s a)) (eqb (sparse_index p s v) (sparse_index p s b)) (index_in p s v l)
      ∙ ap₂ (λ (x y : ℕ). eqb (sparse_index p s v) (sparse_index p s x) || (eqb (sparse_index p s v) (sparse_index p s y) || index_in p s v l)) f e
  index_perm v (Permᴰ.trans d f) = index_perm v d ∙ index_perm v f

  -- The number of a list's indices and of two more values, of which i and j tell whether their index is there, and e whether they have one index.
  both_counted : (i j e : Bool) (k : ℕ) → (e ≡ true → i ≡ j)
      → cond (e || i) (cond j k (1 + k)) (1 + cond j k (1 + k)) ≡ cond (e || j) (cond i k (1 + k)) (1 + cond i k (1 + k))
  both_counted i j true k f = ap (λ (t : Bool). cond t k (1 + k)) (sym (f refl))
  both_counted true true false k f = refl
  both_counted true false false k f = refl
  both_counted false true false k f = refl
  both_counted false false false k f = refl

  same_index : (v w : ℕ) (l : List ℕ) → sparse_index p s v ≡ sparse_index p s w → index_in p s v l ≡ index_in p s w l
  same_index v w [] e = refl
  same_index v w (x ∷ l) e = ap₂ (λ (n : ℕ) (t : Bool). eqb n (sparse_index p s x) || t) e (same_index v w l e)

  eqb_swap : (m n : ℕ) → eqb m n ≡ eqb n m
  eqb_swap m n =
      ⊎_elim (λ (e : eqb m n ≡ true). e ∙ sym (eq-eqb n m (sym (eqb-true m n e))))
      (λ (e : eqb m n ≡ false). e ∙ sym (ne_eqb n m (λ (f : n ≡ m). eqb-false m n e (sym f)))) (decided (eqb m n))

  distinct_swap : (x y : ℕ) (l : List ℕ) → distinct_indices p s (x ∷ y ∷ l) ≡ distinct_indices p s (y ∷ x ∷ l)
  distinct_swap x y l =
      let i = sparse_index p s x in
      let j = sparse_index p s y in
      let k = distinct_indices p s l in
      index_cons x (y ∷ l)
      ∙ ap (λ (n : ℕ). cond (eqb i j || index_in p s x l) n (1 + n)) (index_cons y l)
      ∙ both_counted (index_in p s x l) (index_in p s y l) (eqb i j) k (λ (e : eqb i j ≡ true). same_index x y l (eqb-true i j e))
      ∙ ap₂ (λ (t : Bool) (n : ℕ). cond (t || index_in p s y l) n (1 + n)) (eqb_swap i j) (sym (index_cons x l))
      ∙ sym (index_cons y (x ∷ l))

  pub distinct_perm : {a b : List ℕ} → Permᴰ a b → distinct_indices p s a ≡ distinct_indices p s b
  distinct_perm Permᴰ.nil = refl
  distinct_perm (Permᴰ.cons {a = a} {b = b} {l₁ = l} {l₂ = k} e d) =
      index_cons a l
      ∙ ap₂ (λ (t : Bool) (n : ℕ). cond t n (1 + n)) (index_perm a d) (distinct_perm d)
      ∙ sym (index_cons a k)
      ∙ ap (λ (x : ℕ). distinct_indices p s (x ∷ k)) e
  distinct_perm (Permᴰ.swap {a = a} {b = b} {l = l} e f) =
      distinct_swap a b l ∙ ap₂ (λ (x y : ℕ). distinct_indices p s (x ∷ y ∷ l)) f e
  distinct_perm (Permᴰ.trans d f) = distinct_perm d ∙ distinct_perm f

  -- A merge has the indices of both lists.
  pub distinct_merged : (a b : List ℕ) → distinct_indices p s (merged p s a b) ≡ distinct_indices p s (a ++ b)
  unfolding merged
  distinct_merged a b = distinct_last_of (sort_of (a ++ b)) ∙ distinct_perm (perm_sort (a ++ b))

  -- They are no more than the values.
  pub distinct_le : (l : List ℕ) → distinct_indices p s l ≤ length l
  unfolding distinct_indices
  distinct_le [] = omega arith
  distinct_le (v ∷ l) =
      ⊎_elim (λ (e : index_in p s v l ≡ true). omega (arith, index_there p s v l e, distinct_le l))
      (λ (e : index_in p s v l ≡ false). omega (arith, index_new p s v l e, distinct_le l)) (decided (index_in p s v l))
