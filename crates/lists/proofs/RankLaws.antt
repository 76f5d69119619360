-- Registers of lists, the larger of registers, registers lowered: laws over the definitions alone.
use Rattle.std.proofs.Common.{◌≡◌, ℕ, zero, suc, ◌+◌, ◌-◌, ◌/◌, ◌^◌, ◌<◌, ◌≤◌, max, Bool, true, false, cond, eqb, ◌⊎◌, List, [], ◌∷◌, ◌++◌, length, get_or, replicate, sym, refl, ap, ◌∙◌, subst, ap₂, inl, inr, ⊎_elim, true≢false, zero-le, le_trans, le_of_eq, le_refl, div-lt_iff_lt-mul, le_antisymm, div-one, arith, length-set, get_or-set_other, get_or-set_same, ext_get_or, pow_pos, pow-add, shr-shr, shr_lt, eq-eqb, ne_eqb, eqb-true}
use mathlib.Core.List.Memᴰ
use mathlib.Core.List.{Memᴰ, Permᴰ}
use native.Mathlib.Nat.{max_comm, max-le, max-zero, zero-max, le-max_left, le-max_right, max-eq_left, max-eq_right}
use lib.ListN.{length-replicate, get_or-replicate, get_or-eq_default}
use borrow.Author.Tests.{eqb-false}
use Rattle.std.proofs.lemmas.Bool.{cases_lt as side}
use Rattle.lists.proofs.ValueLaws.{decided, register_marked, rank_marked, lowered_register_lem, register_zero, lowered_none, lowered_register_none, lowered_register_twice, lowered_register_mono, lowered_register_le, lowered_le, register_lt, rank_le, valid_ranked}
use Rattle.lists.proofs.MergeLaws.{mark_groups, marked_group, slot_plain, slot_marked, merged_from, merged_has, valid_mem}
use Rattle.lists.specs.Lists.{slot, merged, all_valid}
use Rattle.lists.specs.Values.{Pair, mark, marked, register, rank, largest_rank, lowered_rank, lowered_register}
use Rattle.lists.specs.Registers.{zeros, raise, rank_at, rank_at_lower, raised_by, raised_lower, larger, lowered_at, tabulate, lowered, largest}

-- ---- the larger of numbers

pub max_assoc : (a b d : ℕ) → max (max a b) d ≡ max a (max b d)
max_assoc a b d =
    let p = le-max_left a b in
    let q = le-max_right a b in
    let r = le-max_left (max a b) d in
    let s = le-max_right (max a b) d in
    let p' = le-max_left a (max b d) in
    let q' = le-max_right a (max b d) in
    let r' = le-max_left b d in
    let s' = le-max_right b d in
    let x : max (max a b) d ≤ max a (max b d) = max-le (max-le p' (omega arith)) (omega arith) in
    let y : max a (max b d) ≤ max (max a b) d = max-le (omega arith) (max-le (omega arith) s) in
    omega arith

pub max_swap : (a b d : ℕ) → max a (max b d) ≡ max b (max a d)
max_swap a b d = sym (max_assoc a b d) ∙ ap (λ (n : ℕ). max n d) (max_comm a b) ∙ max_assoc b a d

pub max_same : (a : ℕ) → max a a ≡ a
max_same a = max-eq_left (le_refl a)

-- The larger of two pairs' larger.
pub max_pairs : (a b c d : ℕ) → max (max a b) (max c d) ≡ max (max a c) (max b d)
max_pairs a b c d = max_assoc a b (max c d) ∙ ap (λ (n : ℕ). max a n) (max_swap b c d) ∙ sym (max_assoc a c (max b d))

le_left : {a b : ℕ} (c : ℕ) → a ≤ b → a ≤ max b c
le_left {a} {b} c h = le_trans h (le-max_left b c)

le_right : {a c : ℕ} (b : ℕ) → a ≤ c → a ≤ max b c
le_right {a} {c} b h = le_trans h (le-max_right b c)

-- ---- tests of equality

pub equal_or_not : (a b : ℕ) → (a ≡ b) ⊎ (a ≡ b → ⊥)
equal_or_not a b = go (eqb a b) refl
  where
    go : (t : Bool) → eqb a b ≡ t → (a ≡ b) ⊎ (a ≡ b → ⊥)
    go true e = inl (eqb-true a b e)
    go false e = inr (eqb-false a b e)

pub if_alike : (a b x y : ℕ) → a ≡ b → cond (eqb a b) x y ≡ x
if_alike a b x y e = ap (λ (t : Bool). cond t x y) (eq-eqb a b e)

pub if_other : (a b x y : ℕ) → (a ≡ b → ⊥) → cond (eqb a b) x y ≡ y
if_other a b x y e = ap (λ (t : Bool). cond t x y) (ne_eqb a b e)

-- ---- the largest rank of a list's values at an index, for any two functions that give a value's index and rank

unfoldable pub peak : (ℕ → ℕ) → (ℕ → ℕ) → ℕ → List ℕ → ℕ
peak ix rk j [] = 0
peak ix rk j (v ∷ l) = max (cond (eqb (ix v) j) (rk v) 0) (peak ix rk j l)

unfoldable pub raised_with : (ℕ → ℕ) → (ℕ → ℕ) → List ℕ → List ℕ → List ℕ
raised_with ix rk regs [] = regs
raised_with ix rk regs (v ∷ l) = raised_with ix rk (raise regs (ix v) (rk v)) l

-- A value that has it.
pub record Best (ix rk : ℕ → ℕ) (j : ℕ) (l : List ℕ) : Type 0 where
  pub value : ℕ
  pub listed : Memᴰ value l
  pub index : ix value ≡ j
  pub best : peak ix rk j l ≡ rk value

module _ (ix rk : ℕ → ℕ) (j : ℕ) where
  pub peak_upper : (l : List ℕ) (v : ℕ) → Memᴰ v l → ix v ≡ j → rk v ≤ peak ix rk j l
  unfolding peak
  peak_upper [] v m e = absurd (Memᴰ.not-nil m)
  peak_upper (w ∷ l) v m e =
      ⊎_elim
      (λ (h : v ≡ w). le_left (peak ix rk j l) (le_of_eq (ap rk h ∙ sym (if_alike (ix w) j (rk w) 0 (sym (ap ix h) ∙ e)))))
      (λ (h : Memᴰ v l). le_right (cond (eqb (ix w) j) (rk w) 0) (peak_upper l v h e)) (Memᴰ.cases_cons m)

  rest_best : (w : ℕ) (l : List ℕ) → peak ix rk j (w ∷ l) ≡ peak ix rk j l → (peak ix rk j l ≡ 0) ⊎ Best ix rk j l
      → (peak ix rk j (w ∷ l) ≡ 0) ⊎ Best ix rk j (w ∷ l)
  rest_best w l e (inl z) = inl (e ∙ z)
  rest_best w l e (inr b) = inr (record { value = b.value; listed = Memᴰ.tail b.listed; index = b.index; best = e ∙ b.best })

  pub peak_reached : (l : List ℕ) → (peak ix rk j l ≡ 0) ⊎ Best ix rk j l
  unfolding peak
  peak_reached [] = inl refl
  peak_reached (w ∷ l) =
      ⊎_elim
      (λ (e : ix w ≡ j).
      ⊎_elim
      (λ (h : rk w < peak ix rk j l).
      rest_best w l
      (ap (λ (n : ℕ). max n (peak ix rk j l)) (if_alike (ix w) j (rk w) 0 e) ∙ max-eq_right (let g : rk w ≤ peak ix rk j l = omega arith in g))
      (peak_reached l))
      (λ (h : peak ix rk j l ≤ rk w).
      inr (record {
        value = w;
        listed = Memᴰ.head refl;
        index = e;
        best = ap (λ (n : ℕ). max n (peak ix rk j l)) (if_alike (ix w) j (rk w) 0 e) ∙ max-eq_left h;
      })) (side (rk w) (peak ix rk j l)))
      (λ (e : ix w ≡ j → ⊥).
      rest_best w l (ap (λ (n : ℕ). max n (peak ix rk j l)) (if_other (ix w) j (rk w) 0 e) ∙ zero-max (peak ix rk j l)) (peak_reached l))
      (equal_or_not (ix w) j)

  pub peak_least : (l : List ℕ) (m : ℕ) → ((v : ℕ) → Memᴰ v l → ix v ≡ j → rk v ≤ m) → peak ix rk j l ≤ m
  peak_least l m f =
      ⊎_elim (λ (z : peak ix rk j l ≡ 0). omega arith)
      (λ (b : Best ix rk j l). le_trans (le_of_eq b.best) (f b.value b.listed b.index)) (peak_reached l)

  pub peak_append : (a b : List ℕ) → peak ix rk j (a ++ b) ≡ max (peak ix rk j a) (peak ix rk j b)
  unfolding peak
  peak_append [] b = sym (zero-max (peak ix rk j b))
  peak_append (v ∷ a) b =
      ap (λ (n : ℕ). max (cond (eqb (ix v) j) (rk v) 0) n) (peak_append a b)
      ∙ sym (max_assoc (cond (eqb (ix v) j) (rk v) 0) (peak ix rk j a) (peak ix rk j b))

  pub peak_perm : {a b : List ℕ} → Permᴰ a b → peak ix rk j a ≡ peak ix rk j b
  unfolding peak
  peak_perm Permᴰ.nil = refl
  peak_perm (Permᴰ.cons {a = v} {b = w} {l₁ = k} {l₂ = l} e q) =
      ap (λ (x : ℕ). max (cond (eqb (ix x) j) (rk x) 0) (peak ix rk j k)) e ∙ ap (λ (n : ℕ). max (cond (eqb (ix w) j) (rk w) 0) n) (peak_perm q)
  peak_perm (Permᴰ.swap {a = v} {b = w} {a' = v'} {b' = w'} {l = l} e f) =
      max_swap (cond (eqb (ix v) j) (rk v) 0) (cond (eqb (ix w) j) (rk w) 0) (peak ix rk j l)
      ∙ ap (λ (x : ℕ). max (cond (eqb (ix w) j) (rk w) 0) (max (cond (eqb (ix x) j) (rk x) 0) (peak ix rk j l))) e
      ∙ ap (λ (x : ℕ). max (cond (eqb (ix x) j) (rk x) 0) (max (cond (eqb (ix w') j) (rk w') 0) (peak ix rk j l))) f
  peak_perm (Permᴰ.trans p q) = peak_perm p ∙ peak_perm q

  -- Raising: each value raises the register of its index and no other.
  raise_at : (regs : List ℕ) (i r : ℕ) → i < length regs → get_or (raise regs i r) j 0 ≡ max (get_or regs j 0) (cond (eqb i j) r 0)
  raise_at regs i r h =
      ⊎_elim
      (λ (e : i ≡ j).
      ap (λ (x : ℕ). get_or (raise regs i r) x 0) (sym e)
      ∙ get_or-set_same regs i (max (get_or regs i 0) r) 0 h
      ∙ ap₂ (λ (x y : ℕ). max (get_or regs x 0) y) e (sym (if_alike i j r 0 e)))
      (λ (e : i ≡ j → ⊥).
      get_or-set_other regs i j (max (get_or regs i 0) r) 0 (λ (q : j ≡ i). e (sym q))
      ∙ sym (max-zero (get_or regs j 0))
      ∙ ap (λ (y : ℕ). max (get_or regs j 0) y) (sym (if_other i j r 0 e))) (equal_or_not i j)

  with_at : (regs l : List ℕ) → ((v : ℕ) → Memᴰ v l → ix v < length regs) → get_or (raised_with ix rk regs l) j 0 ≡ max (get_or regs j 0) (peak ix rk j l)
  unfolding raised_with peak
  with_at regs [] f = sym (max-zero (get_or regs j 0))
  with_at regs (v ∷ l) f =
      with_at (raise regs (ix v) (rk v)) l
      (λ (w : ℕ) (m : Memᴰ w l).
      subst (λ (n : ℕ). ix w < n) (sym (length-set regs (ix v) (max (get_or regs (ix v) 0) (rk v)))) (f w (Memᴰ.tail m)))
      ∙ ap (λ (n : ℕ). max n (peak ix rk j l)) (raise_at regs (ix v) (rk v) (f v (Memᴰ.head refl)))
      ∙ max_assoc (get_or regs j 0) (cond (eqb (ix v) j) (rk v) 0) (peak ix rk j l)

raised_with_length : (ix rk : ℕ → ℕ) (regs l : List ℕ) → length (raised_with ix rk regs l) ≡ length regs
unfolding raised_with
raised_with_length ix rk regs [] = refl
raised_with_length ix rk regs (v ∷ l) = raised_with_length ix rk (raise regs (ix v) (rk v)) l ∙ length-set regs (ix v) (max (get_or regs (ix v) 0) (rk v))

-- ---- the registers of a list

-- A value's index and rank d bits lower.
abbrev pub lower_index : ℕ → ℕ → ℕ → ℕ → ℕ
lower_index p s d v = register p s v / 2 ^ d

abbrev pub lower_rank : ℕ → ℕ → ℕ → ℕ → ℕ
lower_rank p s d v = lowered_rank d (register p s v) (rank p s v)

pub rank_peak : (p s j : ℕ) (l : List ℕ) → rank_at p s j l ≡ peak (register p s) (rank p s) j l
unfolding rank_at peak
rank_peak p s j [] = refl
rank_peak p s j (v ∷ l) = ap (λ (n : ℕ). max (cond (eqb (register p s v) j) (rank p s v) 0) n) (rank_peak p s j l)

pub lower_peak : (p s d j : ℕ) (l : List ℕ) → rank_at_lower p s d j l ≡ peak (lower_index p s d) (lower_rank p s d) j l
unfolding rank_at_lower peak
lower_peak p s d j [] = refl
lower_peak p s d j (v ∷ l) = ap (λ (n : ℕ). max (cond (eqb (lower_index p s d v) j) (lower_rank p s d v) 0) n) (lower_peak p s d j l)

pub raised_with_lem : (p s : ℕ) (regs l : List ℕ) → raised_by p s regs l ≡ raised_with (register p s) (rank p s) regs l
unfolding raised_by raised_with
raised_with_lem p s regs [] = refl
raised_with_lem p s regs (v ∷ l) = raised_with_lem p s (raise regs (register p s v) (rank p s v)) l

pub lower_with : (p s d : ℕ) (regs l : List ℕ) → raised_lower p s d regs l ≡ raised_with (lower_index p s d) (lower_rank p s d) regs l
unfolding raised_lower raised_with
lower_with p s d regs [] = refl
lower_with p s d regs (v ∷ l) = lower_with p s d (raise regs (lower_index p s d v) (lower_rank p s d v)) l

-- No bits lower is where they are.
pub lower_none : (p s : ℕ) (regs l : List ℕ) → raised_lower p s 0 regs l ≡ raised_by p s regs l
unfolding raised_lower raised_by
lower_none p s regs [] = refl
lower_none p s regs (v ∷ l) =
    ap₂ (λ (i r : ℕ). raised_lower p s 0 (raise regs i r) l) (div-one (register p s v)) (lowered_none (register p s v) (rank p s v))
    ∙ lower_none p s (raise regs (register p s v) (rank p s v)) l

pub raised_length : (p s : ℕ) (regs l : List ℕ) → length (raised_by p s regs l) ≡ length regs
raised_length p s regs l = ap length (raised_with_lem p s regs l) ∙ raised_with_length (register p s) (rank p s) regs l

-- Of no registers yet.
pub zeros_raised : (p s : ℕ) (l : List ℕ) → length (raised_by p s (zeros p) l) ≡ 2 ^ p
zeros_raised p s l = raised_length p s (zeros p) l ∙ length-replicate (2 ^ p) 0

pub lower_length : (p s d : ℕ) (regs l : List ℕ) → length (raised_lower p s d regs l) ≡ length regs
lower_length p s d regs l = ap length (lower_with p s d regs l) ∙ raised_with_length (lower_index p s d) (lower_rank p s d) regs l

pub raised_at : (p s j : ℕ) (regs l : List ℕ) → ((v : ℕ) → Memᴰ v l → register p s v < length regs)
    → get_or (raised_by p s regs l) j 0 ≡ max (get_or regs j 0) (rank_at p s j l)
raised_at p s j regs l f =
    ap (λ (x : List ℕ). get_or x j 0) (raised_with_lem p s regs l)
    ∙ with_at (register p s) (rank p s) j regs l f
    ∙ ap (λ (n : ℕ). max (get_or regs j 0) n) (sym (rank_peak p s j l))

pub lower_at : (p s d j : ℕ) (regs l : List ℕ) → ((v : ℕ) → Memᴰ v l → register p s v / 2 ^ d < length regs)
    → get_or (raised_lower p s d regs l) j 0 ≡ max (get_or regs j 0) (rank_at_lower p s d j l)
lower_at p s d j regs l f =
    ap (λ (x : List ℕ). get_or x j 0) (lower_with p s d regs l)
    ∙ with_at (lower_index p s d) (lower_rank p s d) j regs l f
    ∙ ap (λ (n : ℕ). max (get_or regs j 0) n) (sym (lower_peak p s d j l))

-- A zero register, or none.
pub zeros_at : (n j : ℕ) → ◌≡◌ {A = ℕ} (get_or (replicate n 0) j 0) 0
zeros_at n j =
    ⊎_elim (λ (h : j < n). get_or-replicate n j 0 0 h)
    (λ (h : n ≤ j). get_or-eq_default (replicate n 0) 0 (subst (λ (k : ℕ). k ≤ j) (sym (length-replicate n 0)) h)) (side j n)

pub raised_zeros : (p s j : ℕ) (l : List ℕ) → ((v : ℕ) → Memᴰ v l → register p s v < 2 ^ p) → get_or (raised_by p s (zeros p) l) j 0 ≡ rank_at p s j l
raised_zeros p s j l f =
    raised_at p s j (zeros p) l (λ (v : ℕ) (m : Memᴰ v l). subst (λ (n : ℕ). register p s v < n) (sym (length-replicate (2 ^ p) 0)) (f v m))
    ∙ ap (λ (n : ℕ). max n (rank_at p s j l)) (zeros_at (2 ^ p) j)
    ∙ zero-max (rank_at p s j l)

pub lower_zeros : (p s d q j : ℕ) (l : List ℕ) → ((v : ℕ) → Memᴰ v l → register p s v / 2 ^ d < 2 ^ q)
    → get_or (raised_lower p s d (zeros q) l) j 0 ≡ rank_at_lower p s d j l
lower_zeros p s d q j l f =
    lower_at p s d j (zeros q) l
    (λ (v : ℕ) (m : Memᴰ v l). subst (λ (n : ℕ). register p s v / 2 ^ d < n) (sym (length-replicate (2 ^ q) 0)) (f v m))
    ∙ ap (λ (n : ℕ). max n (rank_at_lower p s d j l)) (zeros_at (2 ^ q) j)
    ∙ zero-max (rank_at_lower p s d j l)

pub rank_append : (p s j : ℕ) (a b : List ℕ) → rank_at p s j (a ++ b) ≡ max (rank_at p s j a) (rank_at p s j b)
rank_append p s j a b =
    rank_peak p s j (a ++ b)
    ∙ peak_append (register p s) (rank p s) j a b
    ∙ sym (ap₂ max (rank_peak p s j a) (rank_peak p s j b))

pub rank_perm : (p s j : ℕ) {a b : List ℕ} → Permᴰ a b → rank_at p s j a ≡ rank_at p s j b
rank_perm p s j {a} {b} q = rank_peak p s j a ∙ peak_perm (register p s) (rank p s) j q ∙ sym (rank_peak p s j b)

-- A listed value's rank is at most that of its index, which one of the values has unless it is 0.
pub rank_upper : (p s j : ℕ) (l : List ℕ) (v : ℕ) → Memᴰ v l → register p s v ≡ j → rank p s v ≤ rank_at p s j l
rank_upper p s j l v m e = le_trans (peak_upper (register p s) (rank p s) j l v m e) (le_of_eq (sym (rank_peak p s j l)))

pub rank_least : (p s j : ℕ) (l : List ℕ) (m : ℕ) → ((v : ℕ) → Memᴰ v l → register p s v ≡ j → rank p s v ≤ m) → rank_at p s j l ≤ m
rank_least p s j l m f = le_trans (le_of_eq (rank_peak p s j l)) (peak_least (register p s) (rank p s) j l m f)

-- A value of a list that stands for another: of its register, with no smaller rank.
pub record Stands (p s v : ℕ) (l : List ℕ) : Type 0 where
  pub value : ℕ
  pub listed : Memᴰ value l
  pub index : register p s value ≡ register p s v
  pub larger_rank : rank p s v ≤ rank p s value

-- Two lists whose values stand for each other's have the same registers: repeats, and values of a slot that are not its largest, change nothing.
covered_le : (p s j : ℕ) (a b : List ℕ) → ((v : ℕ) → Memᴰ v a → Stands p s v b) → rank_at p s j a ≤ rank_at p s j b
covered_le p s j a b f =
    rank_least p s j a (rank_at p s j b)
    (λ (v : ℕ) (m : Memᴰ v a) (e : register p s v ≡ j).
    let w = f v m in le_trans w.larger_rank (rank_upper p s j b w.value w.listed (w.index ∙ e)))

pub rank_covered : (p s j : ℕ) (a b : List ℕ) → ((v : ℕ) → Memᴰ v a → Stands p s v b) → ((v : ℕ) → Memᴰ v b → Stands p s v a)
    → rank_at p s j a ≡ rank_at p s j b
rank_covered p s j a b f g = le_antisymm (covered_le p s j a b f) (covered_le p s j b a g)

pub stands_itself : (p s v : ℕ) (l : List ℕ) → Memᴰ v l → Stands p s v l
stands_itself p s v l m = record { value = v; listed = m; index = refl; larger_rank = le_refl (rank p s v) }

-- A value that is listed already changes nothing.
pub rank_repeat : (p s j v : ℕ) (l : List ℕ) → Memᴰ v l → rank_at p s j (v ∷ l) ≡ rank_at p s j l
rank_repeat p s j v l m =
    rank_covered p s j (v ∷ l) l
    (λ (w : ℕ) (n : Memᴰ w (v ∷ l)).
    ⊎_elim (λ (e : w ≡ v). record { value = v; listed = m; index = ap (register p s) (sym e); larger_rank = le_of_eq (ap (rank p s) e) })
    (λ (k : Memᴰ w l). stands_itself p s w l k) (Memᴰ.cases_cons n))
    (λ (w : ℕ) (n : Memᴰ w l). stands_itself p s w (v ∷ l) (Memᴰ.tail n))

-- ---- the larger of registers

pub larger_length : (a b : List ℕ) → length (larger a b) ≡ length a
unfolding larger
larger_length [] b = refl
larger_length (x ∷ a) [] = refl
larger_length (x ∷ a) (y ∷ b) = ap suc (larger_length a b)

pub larger_at : (a b : List ℕ) → length a ≡ length b → (j : ℕ) → get_or (larger a b) j 0 ≡ max (get_or a j 0) (get_or b j 0)
unfolding larger
larger_at [] [] e j = refl
larger_at [] (y ∷ b) e j = absurd (let z : ⊥ = omega arith in z)
larger_at (x ∷ a) [] e j = absurd (let z : ⊥ = omega arith in z)
larger_at (x ∷ a) (y ∷ b) e zero = refl
larger_at (x ∷ a) (y ∷ b) e (suc j) = larger_at a b (omega arith) j

pub larger_comm : (a b : List ℕ) → length a ≡ length b → larger a b ≡ larger b a
larger_comm a b e =
    ext_get_or 0 (larger a b) (larger b a) (larger_length a b ∙ e ∙ sym (larger_length b a))
    (λ (j : ℕ) (h : j < length (larger a b)). larger_at a b e j ∙ max_comm (get_or a j 0) (get_or b j 0) ∙ sym (larger_at b a (sym e) j))

pub larger_assoc : (a b c : List ℕ) → length a ≡ length b → length b ≡ length c → larger (larger a b) c ≡ larger a (larger b c)
larger_assoc a b c e f =
    ext_get_or 0 (larger (larger a b) c) (larger a (larger b c)) (larger_length (larger a b) c ∙ larger_length a b ∙ sym (larger_length a (larger b c)))
    (λ (j : ℕ) (h : j < length (larger (larger a b) c)).
    larger_at (larger a b) c (larger_length a b ∙ e ∙ f) j
    ∙ ap (λ (n : ℕ). max n (get_or c j 0)) (larger_at a b e j)
    ∙ max_assoc (get_or a j 0) (get_or b j 0) (get_or c j 0)
    ∙ ap (λ (n : ℕ). max (get_or a j 0) n) (sym (larger_at b c f j))
    ∙ sym (larger_at a (larger b c) (e ∙ sym (larger_length b c)) j))

pub larger_same : (a : List ℕ) → larger a a ≡ a
larger_same a =
    ext_get_or 0 (larger a a) a (larger_length a a) (λ (j : ℕ) (h : j < length (larger a a)). larger_at a a refl j ∙ max_same (get_or a j 0))

-- The largest is at least each, and one of them.
pub largest_upper : (a : List ℕ) (j : ℕ) → get_or a j 0 ≤ largest a
unfolding largest
largest_upper [] j = zero-le
largest_upper (x ∷ a) zero = le-max_left x (largest a)
largest_upper (x ∷ a) (suc j) = le_right x (largest_upper a j)

pub largest_least : (a : List ℕ) (m : ℕ) → ((j : ℕ) → j < length a → get_or a j 0 ≤ m) → largest a ≤ m
unfolding largest
largest_least [] m f = zero-le
largest_least (x ∷ a) m f = max-le (f 0 (omega arith)) (largest_least a m (λ (j : ℕ) (h : j < length a). f (suc j) (omega arith)))

-- ---- ranks lowered

-- A register grows by no more than the bits.
pub lowered_register_grows : (d i r : ℕ) → lowered_register d i r ≤ r + d
lowered_register_grows d i r = le_trans (lowered_register_le d i r) (lowered_le d i r)

pub lowered_register_max : (d i r s : ℕ) → lowered_register d i (max r s) ≡ max (lowered_register d i r) (lowered_register d i s)
lowered_register_max d i r s =
    ⊎_elim
    (λ (h : r < s).
    let g : r ≤ s = omega arith in ap (lowered_register d i) (max-eq_right g) ∙ sym (max-eq_right (lowered_register_mono d i r s g)))
    (λ (h : s ≤ r). ap (lowered_register d i) (max-eq_left h) ∙ sym (max-eq_left (lowered_register_mono d i s r h))) (side r s)

-- ---- registers lowered

-- A register from which an index's lowered one comes.
record Comes (d j i : ℕ) (regs : List ℕ) : Type 0 where
  pub place : ℕ
  pub inside : place < length regs
  pub index : (i + place) / 2 ^ d ≡ j
  pub best : lowered_at d i regs j ≡ lowered_register d (i + place) (get_or regs place 0)

module _ (d j : ℕ) where
  comes_upper : (i : ℕ) (regs : List ℕ) (k : ℕ) → k < length regs → (i + k) / 2 ^ d ≡ j → lowered_register d (i + k) (get_or regs k 0) ≤ lowered_at d i regs j
  unfolding lowered_at
  comes_upper i [] k h e = absurd (let z : ⊥ = omega arith in z)
  comes_upper i (r ∷ regs) zero h e =
      let z : i + 0 ≡ i = omega arith in
      le_left (lowered_at d (i + 1) regs j)
      (le_of_eq
      (ap (λ (n : ℕ). lowered_register d n r) z
      ∙ sym (if_alike (i / 2 ^ d) j (lowered_register d i r) 0 (ap (λ (n : ℕ). n / 2 ^ d) (sym z) ∙ e))))
  comes_upper i (r ∷ regs) (suc k) h e =
      let z : i + suc k ≡ i + 1 + k = omega arith in
      le_right (cond (eqb (i / 2 ^ d) j) (lowered_register d i r) 0)
      (le_trans (le_of_eq (ap (λ (n : ℕ). lowered_register d n (get_or regs k 0)) z))
      (comes_upper (i + 1) regs k (omega arith) (ap (λ (n : ℕ). n / 2 ^ d) (sym z) ∙ e)))

  rest_comes : (i r : ℕ) (regs : List ℕ) → lowered_at d i (r ∷ regs) j ≡ lowered_at d (i + 1) regs j
      → (lowered_at d (i + 1) regs j ≡ 0) ⊎ Comes d j (i + 1) regs → (lowered_at d i (r ∷ regs) j ≡ 0) ⊎ Comes d j i (r ∷ regs)
  rest_comes i r regs e (inl z) = inl (e ∙ z)
  rest_comes i r regs e (inr b) =
      let z : i + 1 + b.place ≡ i + suc b.place = omega arith in
      inr (record {
        place = suc b.place;
        inside = omega (arith, b.inside);
        index = ap (λ (n : ℕ). n / 2 ^ d) (sym z) ∙ b.index;
        best = e ∙ b.best ∙ ap (λ (n : ℕ). lowered_register d n (get_or regs b.place 0)) z;
      })

  comes : (i : ℕ) (regs : List ℕ) → (lowered_at d i regs j ≡ 0) ⊎ Comes d j i regs
  unfolding lowered_at
  comes i [] = inl refl
  comes i (r ∷ regs) =
      ⊎_elim
      (λ (e : i / 2 ^ d ≡ j).
      ⊎_elim
      (λ (h : lowered_register d i r < lowered_at d (i + 1) regs j).
      rest_comes i r regs
      (ap (λ (n : ℕ). max n (lowered_at d (i + 1) regs j)) (if_alike (i / 2 ^ d) j (lowered_register d i r) 0 e)
      ∙ max-eq_right (let g : lowered_register d i r ≤ lowered_at d (i + 1) regs j = omega arith in g)) (comes (i + 1) regs))
      (λ (h : lowered_at d (i + 1) regs j ≤ lowered_register d i r).
      let z : i ≡ i + 0 = omega arith in
      inr (record {
        place = 0;
        inside = omega arith;
        index = ap (λ (n : ℕ). n / 2 ^ d) (sym z) ∙ e;
        best =
            ap (λ (n : ℕ). max n (lowered_at d (i + 1) regs j)) (if_alike (i / 2 ^ d) j (lowered_register d i r) 0 e)
            ∙ max-eq_left h
            ∙ ap (λ (n : ℕ). lowered_register d n r) z;
      })) (side (lowered_register d i r) (lowered_at d (i + 1) regs j)))
      (λ (e : i / 2 ^ d ≡ j → ⊥).
      rest_comes i r regs
      (ap (λ (n : ℕ). max n (lowered_at d (i + 1) regs j)) (if_other (i / 2 ^ d) j (lowered_register d i r) 0 e) ∙ zero-max (lowered_at d (i + 1) regs j))
      (comes (i + 1) regs)) (equal_or_not (i / 2 ^ d) j)

  -- The register at an index lands, lowered, at most as large as what is there.
  pub lowered_upper : (regs : List ℕ) (k : ℕ) → k / 2 ^ d ≡ j → lowered_register d k (get_or regs k 0) ≤ lowered_at d 0 regs j
  lowered_upper regs k e =
      let z : 0 + k ≡ k = omega arith in
      ⊎_elim
      (λ (h : k < length regs).
      subst (λ (n : ℕ). lowered_register d n (get_or regs k 0) ≤ lowered_at d 0 regs j) z
      (comes_upper 0 regs k h (ap (λ (n : ℕ). n / 2 ^ d) z ∙ e)))
      (λ (h : length regs ≤ k).
      subst (λ (n : ℕ). n ≤ lowered_at d 0 regs j) (sym (ap (lowered_register d k) (get_or-eq_default regs 0 h) ∙ register_zero d k)) zero-le)
      (side k (length regs))

  -- And what is there is the least such number.
  pub lowered_least : (regs : List ℕ) (m : ℕ) → ((k : ℕ) → k / 2 ^ d ≡ j → lowered_register d k (get_or regs k 0) ≤ m) → lowered_at d 0 regs j ≤ m
  lowered_least regs m f =
      ⊎_elim (λ (z : lowered_at d 0 regs j ≡ 0). subst (λ (n : ℕ). n ≤ m) (sym z) zero-le)
      (λ (b : Comes d j 0 regs).
      let z : 0 + b.place ≡ b.place = omega arith in
      le_trans (le_of_eq (b.best ∙ ap (λ (n : ℕ). lowered_register d n (get_or regs b.place 0)) z))
      (f b.place (ap (λ (n : ℕ). n / 2 ^ d) (sym z) ∙ b.index))) (comes 0 regs)

-- A function that grows with its argument and keeps 0, of what is there.
pub lowered_least_of : (d j : ℕ) (regs : List ℕ) (f : ℕ → ℕ) (m : ℕ) → f 0 ≡ 0
    → ((k : ℕ) → k / 2 ^ d ≡ j → f (lowered_register d k (get_or regs k 0)) ≤ m) → f (lowered_at d 0 regs j) ≤ m
lowered_least_of d j regs f m e g =
    ⊎_elim (λ (z : lowered_at d 0 regs j ≡ 0). subst (λ (n : ℕ). n ≤ m) (sym (ap f z ∙ e)) zero-le)
    (λ (b : Comes d j 0 regs).
    let z : 0 + b.place ≡ b.place = omega arith in
    le_trans (le_of_eq (ap f (b.best ∙ ap (λ (n : ℕ). lowered_register d n (get_or regs b.place 0)) z)))
    (g b.place (ap (λ (n : ℕ). n / 2 ^ d) (sym z) ∙ b.index))) (comes d j 0 regs)

tab_length : (f : ℕ → ℕ) (i n : ℕ) → length (tabulate f i n) ≡ n
unfolding tabulate
tab_length f i zero = refl
tab_length f i (suc n) = ap suc (tab_length f (i + 1) n)

tab_at : (f : ℕ → ℕ) (i n k : ℕ) → k < n → get_or (tabulate f i n) k 0 ≡ f (i + k)
unfolding tabulate
tab_at f i zero k h = absurd (let z : ⊥ = omega arith in z)
tab_at f i (suc n) zero h = ap f (let z : i ≡ i + 0 = omega arith in z)
tab_at f i (suc n) (suc k) h = tab_at f (i + 1) n k (omega arith) ∙ ap f (let z : i + 1 + k ≡ i + suc k = omega arith in z)

pub lowered_length : (d q : ℕ) (regs : List ℕ) → length (lowered d q regs) ≡ 2 ^ q
unfolding lowered
lowered_length d q regs = tab_length (λ (j : ℕ). lowered_at d 0 regs j) 0 (2 ^ q)

pub lowered_at_lem : (d q : ℕ) (regs : List ℕ) (j : ℕ) → j < 2 ^ q → get_or (lowered d q regs) j 0 ≡ lowered_at d 0 regs j
unfolding lowered
lowered_at_lem d q regs j h =
    tab_at (λ (k : ℕ). lowered_at d 0 regs k) 0 (2 ^ q) j h ∙ ap (λ (k : ℕ). lowered_at d 0 regs k) (let z : 0 + j ≡ j = omega arith in z)

-- Two rows of registers are the same if they are at every index.
lowered_is : (d q : ℕ) (regs other : List ℕ) → length other ≡ 2 ^ q → ((j : ℕ) → j < 2 ^ q → lowered_at d 0 regs j ≡ get_or other j 0) → lowered d q regs ≡ other
lowered_is d q regs other e f =
    ext_get_or 0 (lowered d q regs) other (lowered_length d q regs ∙ sym e)
    (λ (j : ℕ) (h : j < length (lowered d q regs)).
    let g : j < 2 ^ q = subst (λ (n : ℕ). j < n) (lowered_length d q regs) h in lowered_at_lem d q regs j g ∙ f j g)

pub registers_mono : (d j : ℕ) (a b : List ℕ) → ((k : ℕ) → get_or a k 0 ≤ get_or b k 0) → lowered_at d 0 a j ≤ lowered_at d 0 b j
registers_mono d j a b f =
    lowered_least d j a (lowered_at d 0 b j)
    (λ (k : ℕ) (e : k / 2 ^ d ≡ j). le_trans (lowered_register_mono d k (get_or a k 0) (get_or b k 0) (f k)) (lowered_upper d j b k e))

-- Only the registers that land on an index count there.
pub lowered_agree : (d j : ℕ) (a b : List ℕ) → ((k : ℕ) → k / 2 ^ d ≡ j → get_or a k 0 ≡ get_or b k 0) → lowered_at d 0 a j ≡ lowered_at d 0 b j
lowered_agree d j a b f =
    le_antisymm
    (lowered_least d j a (lowered_at d 0 b j)
    (λ (k : ℕ) (e : k / 2 ^ d ≡ j). le_trans (le_of_eq (ap (lowered_register d k) (f k e))) (lowered_upper d j b k e)))
    (lowered_least d j b (lowered_at d 0 a j)
    (λ (k : ℕ) (e : k / 2 ^ d ≡ j). le_trans (le_of_eq (ap (lowered_register d k) (sym (f k e)))) (lowered_upper d j a k e)))

-- What lowering leaves is at most the bits more than the largest.
pub registers_le : (d j : ℕ) (regs : List ℕ) (m : ℕ) → ((k : ℕ) → get_or regs k 0 ≤ m) → lowered_at d 0 regs j ≤ m + d
registers_le d j regs m f =
    lowered_least d j regs (m + d)
    (λ (k : ℕ) (e : k / 2 ^ d ≡ j). let g = f k in let h = lowered_register_grows d k (get_or regs k 0) in omega arith)

lowered_at_larger : (d j : ℕ) (a b : List ℕ) → length a ≡ length b → lowered_at d 0 (larger a b) j ≡ max (lowered_at d 0 a j) (lowered_at d 0 b j)
lowered_at_larger d j a b e =
    le_antisymm
    (lowered_least d j (larger a b) (max (lowered_at d 0 a j) (lowered_at d 0 b j))
    (λ (k : ℕ) (h : k / 2 ^ d ≡ j).
    le_trans
    (le_of_eq (ap (lowered_register d k) (larger_at a b e k) ∙ lowered_register_max d k (get_or a k 0) (get_or b k 0)))
    (max-le (le_left (lowered_at d 0 b j) (lowered_upper d j a k h)) (le_right (lowered_at d 0 a j) (lowered_upper d j b k h)))))
    (max-le
    (registers_mono d j a (larger a b) (λ (k : ℕ). le_trans (le-max_left (get_or a k 0) (get_or b k 0)) (le_of_eq (sym (larger_at a b e k)))))
    (registers_mono d j b (larger a b) (λ (k : ℕ). le_trans (le-max_right (get_or a k 0) (get_or b k 0)) (le_of_eq (sym (larger_at a b e k))))))

pub registers_larger : (d q : ℕ) (a b : List ℕ) → length a ≡ length b → lowered d q (larger a b) ≡ larger (lowered d q a) (lowered d q b)
registers_larger d q a b e =
    lowered_is d q (larger a b) (larger (lowered d q a) (lowered d q b)) (larger_length (lowered d q a) (lowered d q b) ∙ lowered_length d q a)
    (λ (j : ℕ) (h : j < 2 ^ q).
    lowered_at_larger d j a b e
    ∙ sym (ap₂ max (lowered_at_lem d q a j h) (lowered_at_lem d q b j h))
    ∙ sym (larger_at (lowered d q a) (lowered d q b) (lowered_length d q a ∙ sym (lowered_length d q b)) j))

pub registers_same : (q : ℕ) (regs : List ℕ) → length regs ≡ 2 ^ q → lowered 0 q regs ≡ regs
registers_same q regs e =
    lowered_is 0 q regs regs e
    (λ (j : ℕ) (h : j < 2 ^ q).
    le_antisymm
    (lowered_least 0 j regs (get_or regs j 0)
    (λ (k : ℕ) (i : k / 1 ≡ j).
    le_of_eq (lowered_register_none k (get_or regs k 0) ∙ ap (λ (n : ℕ). get_or regs n 0) (sym (div-one k) ∙ i))))
    (le_trans (le_of_eq (sym (lowered_register_none j (get_or regs j 0)))) (lowered_upper 0 j regs j (div-one j))))

module _ (d e q : ℕ) (regs : List ℕ) (j : ℕ) (inside : j < 2 ^ q) where
  inner_at : (k : ℕ) → k / 2 ^ e ≡ j → get_or (lowered d (q + e) regs) k 0 ≡ lowered_at d 0 regs k
  inner_at k h =
      lowered_at_lem d (q + e) regs k
      (subst (λ (n : ℕ). k < n) (sym (pow-add 2 q e)) ((div-lt_iff_lt-mul (pow_pos e)).0 (subst (λ (n : ℕ). n < 2 ^ q) (sym h) inside)))

  twice_le : lowered_at e 0 (lowered d (q + e) regs) j ≤ lowered_at (d + e) 0 regs j
  twice_le =
      lowered_least e j (lowered d (q + e) regs) (lowered_at (d + e) 0 regs j)
      (λ (k : ℕ) (h : k / 2 ^ e ≡ j).
      le_trans (le_of_eq (ap (lowered_register e k) (inner_at k h)))
      (lowered_least_of d k regs (lowered_register e k) (lowered_at (d + e) 0 regs j) (register_zero e k)
      (λ (i : ℕ) (f : i / 2 ^ d ≡ k).
      le_trans
      (le_of_eq
      (ap (λ (n : ℕ). lowered_register e n (lowered_register d i (get_or regs i 0))) (sym f) ∙ lowered_register_twice d e i (get_or regs i 0)))
      (lowered_upper (d + e) j regs i (sym (shr-shr i d e) ∙ ap (λ (n : ℕ). n / 2 ^ e) f ∙ h)))))

  twice_ge : lowered_at (d + e) 0 regs j ≤ lowered_at e 0 (lowered d (q + e) regs) j
  twice_ge =
      lowered_least (d + e) j regs (lowered_at e 0 (lowered d (q + e) regs) j)
      (λ (i : ℕ) (f : i / 2 ^ (d + e) ≡ j).
      let h : i / 2 ^ d / 2 ^ e ≡ j = shr-shr i d e ∙ f in
      le_trans (le_of_eq (sym (lowered_register_twice d e i (get_or regs i 0))))
      (le_trans
      (lowered_register_mono e (i / 2 ^ d) (lowered_register d i (get_or regs i 0)) (lowered_at d 0 regs (i / 2 ^ d)) (lowered_upper d (i / 2 ^ d) regs i refl))
      (le_trans (le_of_eq (ap (lowered_register e (i / 2 ^ d)) (sym (inner_at (i / 2 ^ d) h))))
      (lowered_upper e j (lowered d (q + e) regs) (i / 2 ^ d) h))))

-- Lowering by d bits and then by e is lowering by both.
pub registers_twice : (d e q : ℕ) (regs : List ℕ) → lowered e q (lowered d (q + e) regs) ≡ lowered (d + e) q regs
registers_twice d e q regs =
    lowered_is e q (lowered d (q + e) regs) (lowered (d + e) q regs) (lowered_length (d + e) q regs)
    (λ (j : ℕ) (h : j < 2 ^ q).
    le_antisymm (twice_le d e q regs j h) (twice_ge d e q regs j h) ∙ sym (lowered_at_lem (d + e) q regs j h))

-- ---- valid lists

-- Their registers are of p bits, and their ranks fit.
pub valid_inside : (p s : ℕ) (l : List ℕ) → Pair p s → all_valid p s l ≡ true → (v : ℕ) → Memᴰ v l → register p s v < 2 ^ p
valid_inside p s l pair ok v m = register_lt p s v pair (valid_mem p s v l ok m)

pub valid_inside_lower : (p s d q : ℕ) (l : List ℕ) → p ≡ q + d → Pair p s → all_valid p s l ≡ true → (v : ℕ) → Memᴰ v l → register p s v / 2 ^ d < 2 ^ q
valid_inside_lower p s d q l e pair ok v m = shr_lt q d (subst (λ (n : ℕ). register p s v < 2 ^ n) e (valid_inside p s l pair ok v m))

pub valid_ranks : (p s : ℕ) (l : List ℕ) → Pair p s → all_valid p s l ≡ true → (v : ℕ) → Memᴰ v l → rank p s v ≤ largest_rank p
valid_ranks p s l pair ok v m = rank_le p s v pair (valid_mem p s v l ok m)

pub valid_positive : (p s : ℕ) (l : List ℕ) → Pair p s → all_valid p s l ≡ true → (v : ℕ) → Memᴰ v l → 0 < rank p s v
valid_positive p s l pair ok v m = (valid_ranked p s v pair (valid_mem p s v l ok m)).1

-- ---- a list's registers lowered

-- Of valid values, whose ranks are all above 0, lowering each is lowering the registers.
module _ (p s d j : ℕ) (l : List ℕ) (pair : Pair p s) (ok : all_valid p s l ≡ true) where
  list_le : rank_at_lower p s d j l ≤ lowered_at d 0 (raised_by p s (zeros p) l) j
  list_le =
      le_trans (le_of_eq (lower_peak p s d j l))
      (peak_least (lower_index p s d) (lower_rank p s d) j l (lowered_at d 0 (raised_by p s (zeros p) l) j)
      (λ (v : ℕ) (m : Memᴰ v l) (e : lower_index p s d v ≡ j).
      le_trans (le_of_eq (sym (lowered_register_lem d (register p s v) (rank p s v) (valid_positive p s l pair ok v m))))
      (le_trans
      (lowered_register_mono d (register p s v) (rank p s v) (rank_at p s (register p s v) l) (rank_upper p s (register p s v) l v m refl))
      (le_trans (le_of_eq (ap (lowered_register d (register p s v)) (sym (raised_zeros p s (register p s v) l (valid_inside p s l pair ok)))))
      (lowered_upper d j (raised_by p s (zeros p) l) (register p s v) e)))))

  list_ge : lowered_at d 0 (raised_by p s (zeros p) l) j ≤ rank_at_lower p s d j l
  list_ge =
      lowered_least d j (raised_by p s (zeros p) l) (rank_at_lower p s d j l)
      (λ (k : ℕ) (e : k / 2 ^ d ≡ j).
      le_trans (le_of_eq (ap (lowered_register d k) (raised_zeros p s k l (valid_inside p s l pair ok) ∙ rank_peak p s k l)))
      (⊎_elim
      (λ (z : peak (register p s) (rank p s) k l ≡ 0).
      subst (λ (n : ℕ). n ≤ rank_at_lower p s d j l) (sym (ap (lowered_register d k) z ∙ register_zero d k)) zero-le)
      (λ (b : Best (register p s) (rank p s) k l).
      le_trans
      (le_of_eq
      (ap (lowered_register d k) b.best
      ∙ lowered_register_lem d k (rank p s b.value) (valid_positive p s l pair ok b.value b.listed)
      ∙ ap (λ (n : ℕ). lowered_rank d n (rank p s b.value)) (sym b.index)))
      (le_trans
      (peak_upper (lower_index p s d) (lower_rank p s d) j l b.value b.listed (ap (λ (n : ℕ). n / 2 ^ d) b.index ∙ e))
      (le_of_eq (sym (lower_peak p s d j l)))))
      (peak_reached (register p s) (rank p s) k l)))

  list_lowered : rank_at_lower p s d j l ≡ lowered_at d 0 (raised_by p s (zeros p) l) j
  list_lowered = le_antisymm list_le list_ge

-- The same of all registers.
pub raised_lowered : (p s d q : ℕ) (l : List ℕ) → p ≡ q + d → Pair p s → all_valid p s l ≡ true
    → lowered d q (raised_by p s (zeros p) l) ≡ raised_lower p s d (zeros q) l
raised_lowered p s d q l e pair ok =
    lowered_is d q (raised_by p s (zeros p) l) (raised_lower p s d (zeros q) l) (lower_length p s d (zeros q) l ∙ length-replicate (2 ^ q) 0)
    (λ (j : ℕ) (h : j < 2 ^ q). sym (list_lowered p s d j l pair ok) ∙ sym (lower_zeros p s d q j l (valid_inside_lower p s d q l e pair ok)))

-- Raising by a list is the larger of the registers and the list's.
pub raised_larger : (p s : ℕ) (regs l : List ℕ) → length regs ≡ 2 ^ p → ((v : ℕ) → Memᴰ v l → register p s v < 2 ^ p)
    → raised_by p s regs l ≡ larger regs (raised_by p s (zeros p) l)
raised_larger p s regs l e inside =
    let z : length (raised_by p s (zeros p) l) ≡ 2 ^ p = raised_length p s (zeros p) l ∙ length-replicate (2 ^ p) 0 in
    ext_get_or 0 (raised_by p s regs l) (larger regs (raised_by p s (zeros p) l))
    (raised_length p s regs l ∙ sym (larger_length regs (raised_by p s (zeros p) l)))
    (λ (j : ℕ) (h : j < length (raised_by p s regs l)).
    raised_at p s j regs l (λ (v : ℕ) (m : Memᴰ v l). subst (λ (n : ℕ). register p s v < n) (sym e) (inside v m))
    ∙ ap (λ (n : ℕ). max (get_or regs j 0) n) (sym (raised_zeros p s j l inside))
    ∙ sym (larger_at regs (raised_by p s (zeros p) l) (e ∙ sym z) j))

pub lower_larger : (p s d q : ℕ) (regs l : List ℕ) → length regs ≡ 2 ^ q → ((v : ℕ) → Memᴰ v l → register p s v / 2 ^ d < 2 ^ q)
    → raised_lower p s d regs l ≡ larger regs (raised_lower p s d (zeros q) l)
lower_larger p s d q regs l e inside =
    let z : length (raised_lower p s d (zeros q) l) ≡ 2 ^ q = lower_length p s d (zeros q) l ∙ length-replicate (2 ^ q) 0 in
    ext_get_or 0 (raised_lower p s d regs l) (larger regs (raised_lower p s d (zeros q) l))
    (lower_length p s d regs l ∙ sym (larger_length regs (raised_lower p s d (zeros q) l)))
    (λ (j : ℕ) (h : j < length (raised_lower p s d regs l)).
    lower_at p s d j regs l (λ (v : ℕ) (m : Memᴰ v l). subst (λ (n : ℕ). register p s v / 2 ^ d < n) (sym e) (inside v m))
    ∙ ap (λ (n : ℕ). max (get_or regs j 0) n) (sym (lower_zeros p s d q j l inside))
    ∙ sym (larger_at regs (raised_lower p s d (zeros q) l) (e ∙ sym z) j))

-- ---- a merge

-- Two values of one slot are the same, or both marked and alike but for their low six bits.
module _ (p s v w : ℕ) (e : slot p s w ≡ slot p s v) where
  same_slot : (w ≡ v) ⊎ ((marked p s w ≡ true) × (marked p s v ≡ true) × (w / 64 ≡ v / 64))
  same_slot =
      ⊎_elim
      (λ (m : marked p s v ≡ true).
      ⊎_elim
      (λ (n : marked p s w ≡ true).
      inr (n, m, (let f : w / 64 ≡ v / 64 = omega (arith, e, slot_marked p s v m, slot_marked p s w n) in f)))
      (λ (n : marked p s w ≡ false).
      let f : w / 64 ≡ v / 64 = omega (arith, e, slot_marked p s v m, slot_plain p s w n) in
      absurd (true≢false (sym m ∙ sym (marked_group p s w v f) ∙ n))) (decided (marked p s w)))
      (λ (m : marked p s v ≡ false).
      ⊎_elim
      (λ (n : marked p s w ≡ true).
      let f : w / 64 ≡ v / 64 = omega (arith, e, slot_plain p s v m, slot_marked p s w n) in
      absurd (true≢false (sym n ∙ marked_group p s w v f ∙ m)))
      (λ (n : marked p s w ≡ false). inl (sym (slot_plain p s w n) ∙ e ∙ slot_plain p s v m)) (decided (marked p s w))) (decided (marked p s v))

  pub slot_register : register p s w ≡ register p s v
  slot_register =
      ⊎_elim (λ (f : w ≡ v). ap (register p s) f)
      (λ (f : (marked p s w ≡ true) × (marked p s v ≡ true) × (w / 64 ≡ v / 64)).
      let g : (w - mark p s) / 64 ≡ (v - mark p s) / 64 = omega (arith, mark_groups p s, f.2) in
      register_marked p s w f.0 ∙ g ∙ sym (register_marked p s v f.1)) same_slot

  pub slot_rank : v ≤ w → rank p s v ≤ rank p s w
  slot_rank h =
      ⊎_elim (λ (f : w ≡ v). le_of_eq (ap (rank p s) (sym f)))
      (λ (f : (marked p s w ≡ true) × (marked p s v ≡ true) × (w / 64 ≡ v / 64)).
      omega (arith, rank_marked p s w f.0, rank_marked p s v f.1, f.2)) same_slot

-- Each value of a merge is of one of the lists, and each of theirs has one that stands for it.
merge_stands : (p s : ℕ) (a b : List ℕ) (v : ℕ) → Memᴰ v (merged p s a b) → Stands p s v (a ++ b)
merge_stands p s a b v m =
    stands_itself p s v (a ++ b)
    (⊎_elim (λ (n : Memᴰ v a). Memᴰ.append_left b n) (λ (n : Memᴰ v b). Memᴰ.append_right a n) (merged_from p s a b v m))

stands_merge : (p s : ℕ) (a b : List ℕ) (v : ℕ) → Memᴰ v (a ++ b) → Stands p s v (merged p s a b)
stands_merge p s a b v m =
    let k = merged_has p s a b v (Memᴰ.append_cases a m) in
    record {
      value = k.value;
      listed = k.here;
      index = slot_register p s v k.value k.slots;
      larger_rank = slot_rank p s v k.value k.slots k.no_smaller;
    }

-- A merge has the registers of both lists.
pub rank_merged : (p s j : ℕ) (a b : List ℕ) → rank_at p s j (merged p s a b) ≡ rank_at p s j (a ++ b)
rank_merged p s j a b = rank_covered p s j (merged p s a b) (a ++ b) (merge_stands p s a b) (stands_merge p s a b)

-- ---- whole rows of registers

module _ (p s : ℕ) (regs : List ℕ) where
  -- The same registers at every index, the same row.
  raised_same : (a b : List ℕ) → ((v : ℕ) → Memᴰ v a → register p s v < length regs) → ((v : ℕ) → Memᴰ v b → register p s v < length regs)
      → ((j : ℕ) → rank_at p s j a ≡ rank_at p s j b) → raised_by p s regs a ≡ raised_by p s regs b
  raised_same a b f g e =
      ext_get_or 0 (raised_by p s regs a) (raised_by p s regs b) (raised_length p s regs a ∙ sym (raised_length p s regs b))
      (λ (j : ℕ) (h : j < length (raised_by p s regs a)).
      raised_at p s j regs a f ∙ ap (max (get_or regs j 0)) (e j) ∙ sym (raised_at p s j regs b g))

  pub raised_merged : (a b : List ℕ) → ((v : ℕ) → Memᴰ v (merged p s a b) → register p s v < length regs)
      → ((v : ℕ) → Memᴰ v (a ++ b) → register p s v < length regs) → raised_by p s regs (merged p s a b) ≡ raised_by p s regs (a ++ b)
  raised_merged a b f g = raised_same (merged p s a b) (a ++ b) f g (λ (j : ℕ). rank_merged p s j a b)

pub raised_append : (p s : ℕ) (regs a b : List ℕ) → raised_by p s regs (a ++ b) ≡ raised_by p s (raised_by p s regs a) b
unfolding raised_by
raised_append p s regs [] b = refl
raised_append p s regs (v ∷ a) b = raised_append p s (raise regs (register p s v) (rank p s v)) a b

-- ---- the largest register

pub largest_zeros : (n : ℕ) → largest (replicate n 0) ≡ 0
unfolding largest
largest_zeros zero = refl
largest_zeros (suc n) = zero-max (largest (replicate n 0)) ∙ largest_zeros n

pub largest_larger : (a b : List ℕ) → length a ≡ length b → largest (larger a b) ≡ max (largest a) (largest b)
unfolding largest larger
largest_larger [] [] e = refl
largest_larger [] (y ∷ b) e = absurd (let z : ⊥ = omega arith in z)
largest_larger (x ∷ a) [] e = absurd (let z : ⊥ = omega arith in z)
largest_larger (x ∷ a) (y ∷ b) e = ap (max (max x y)) (largest_larger a b (omega arith)) ∙ max_pairs x y (largest a) (largest b)

pub largest_lowered : (d q : ℕ) (regs : List ℕ) → largest (lowered d q regs) ≤ largest regs + d
largest_lowered d q regs =
    largest_least (lowered d q regs) (largest regs + d)
    (λ (j : ℕ) (h : j < length (lowered d q regs)).
    le_trans (le_of_eq (lowered_at_lem d q regs j (subst (λ (n : ℕ). j < n) (lowered_length d q regs) h)))
    (registers_le d j regs (largest regs) (largest_upper regs)))

pub largest_raised : (p s : ℕ) (regs l : List ℕ) (m : ℕ) → ((v : ℕ) → Memᴰ v l → register p s v < length regs) → largest regs ≤ m
    → ((v : ℕ) → Memᴰ v l → rank p s v ≤ m) → largest (raised_by p s regs l) ≤ m
largest_raised p s regs l m inside h f =
    largest_least (raised_by p s regs l) m
    (λ (j : ℕ) (k : j < length (raised_by p s regs l)).
    le_trans (le_of_eq (raised_at p s j regs l inside))
    (max-le (le_trans (largest_upper regs j) h) (rank_least p s j l m (λ (v : ℕ) (n : Memᴰ v l) (e : register p s v ≡ j). f v n))))

pub largest_raised_lower : (p s d : ℕ) (regs l : List ℕ) (m : ℕ) → ((v : ℕ) → Memᴰ v l → register p s v / 2 ^ d < length regs)
    → largest regs ≤ m + d → ((v : ℕ) → Memᴰ v l → rank p s v ≤ m) → largest (raised_lower p s d regs l) ≤ m + d
largest_raised_lower p s d regs l m inside h f =
    largest_least (raised_lower p s d regs l) (m + d)
    (λ (j : ℕ) (k : j < length (raised_lower p s d regs l)).
    le_trans (le_of_eq (lower_at p s d j regs l inside ∙ ap (max (get_or regs j 0)) (lower_peak p s d j l)))
    (max-le (le_trans (largest_upper regs j) h)
    (peak_least (lower_index p s d) (lower_rank p s d) j l (m + d)
    (λ (v : ℕ) (n : Memᴰ v l) (e : lower_index p s d v ≡ j).
    let u = lowered_le d (register p s v) (rank p s v) in let w = f v n in omega arith))))

-- ---- the registers of a list as a row

-- The largest ranks of all 2^p indices are what the list's values make of zeros.
pub row_raised : (p s : ℕ) (l : List ℕ) → ((v : ℕ) → Memᴰ v l → register p s v < 2 ^ p)
    → tabulate (λ j. rank_at p s j l) 0 (2 ^ p) ≡ raised_by p s (zeros p) l
row_raised p s l inside =
    let ranks : ℕ → ℕ = λ j. rank_at p s j l in
    ext_get_or 0 (tabulate ranks 0 (2 ^ p)) (raised_by p s (zeros p) l)
    (tab_length ranks 0 (2 ^ p) ∙ sym (raised_length p s (zeros p) l ∙ length-replicate (2 ^ p) 0))
    (λ (j : ℕ) (h : j < length (tabulate ranks 0 (2 ^ p))).
    tab_at ranks 0 (2 ^ p) j (subst (λ (n : ℕ). j < n) (tab_length ranks 0 (2 ^ p)) h)
    ∙ ap ranks (let z : 0 + j ≡ j = omega arith in z)
    ∙ sym (raised_zeros p s j l inside))

-- It depends on the largest ranks alone.
tab_same : (f g : ℕ → ℕ) → ((j : ℕ) → f j ≡ g j) → (i n : ℕ) → tabulate f i n ≡ tabulate g i n
unfolding tabulate
tab_same f g e i zero = refl
tab_same f g e i (suc n) = ap₂ (λ (x : ℕ) (l : List ℕ). x ∷ l) (e i) (tab_same f g e (i + 1) n)

pub row_same : (p s : ℕ) (a b : List ℕ) → ((j : ℕ) → rank_at p s j a ≡ rank_at p s j b)
    → tabulate (λ j. rank_at p s j a) 0 (2 ^ p) ≡ tabulate (λ j. rank_at p s j b) 0 (2 ^ p)
row_same p s a b e = tab_same (λ j. rank_at p s j a) (λ j. rank_at p s j b) e 0 (2 ^ p)
