-- One thing of all, `over`: what holds of it whatever the operation is, and the four operations that are used.
-- The law `over_set`: with an operation that is associative, commutative and idempotent it depends on the set of the things alone.
use Rattle.std.proofs.Common.{◌≡◌, ℕ, ◌+◌, ◌*◌, ◌/◌, ◌%◌, ◌^◌, ◌<◌, min, Bool, true, false, cond, ltb, List, [], ◌∷◌, length, sym, refl, ap, ◌∙◌, ap₂, ⊎_elim, le_of_lt, arith, ltb-false, ltb-true}
use mathlib.Core.List.Memᴰ
use mathlib.Core.List.{Memᴰ}
use native.Mathlib.Nat.{min_comm, min-eq_left, min-eq_right}
use lib.Arith.{bin_ind}
use lib.Bits.{bit_and, and_step, and_comm, and_self}
use Rattle.lists.specs.Registers.{larger}
use Rattle.lists.proofs.RankLaws.{larger_length, larger_assoc, larger_comm, larger_same}
use Rattle.rollup.specs.Calls.{over}
use Rattle.rollup.specs.Taking.{signed_key, signed_min}

-- ---- one step, and a function of the whole

module _ {A B : Type 0} (none : A) (both : A → A → A) (of : B → A) where
  pub over_one : (x : B) → over none both of (x ∷ []) ≡ of x
  unfolding over
  over_one x = refl

  pub over_more : (x y : B) (l : List B) → over none both of (x ∷ y ∷ l) ≡ both (over none both of (y ∷ l)) (of x)
  unfolding over
  over_more x y l = refl

module _ {A B : Type 0} (good : A → Type 0) (none : A) (both : A → A → A) (of : B → A) (closed : (x y : A) → good x → good y → good (both x y)) where
  -- What holds of each, and of two together, holds of the whole.
  pub over_good : (x : B) (l : List B) → ((s : B) → Memᴰ s (x ∷ l) → good (of s)) → good (over none both of (x ∷ l))
  unfolding over
  over_good x [] f = f x (Memᴰ.head refl)
  over_good x (y ∷ l) f =
      closed (over none both of (y ∷ l)) (of x) (over_good y l (λ (s : B) (i : Memᴰ s (y ∷ l)). f s (Memᴰ.tail i)))
      (f x (Memᴰ.head refl))

  -- A function that commutes with the operations goes through.
  module _ {C : Type 0} (none' : C) (both' : C → C → C) (of' : B → C) (f : A → C)
      (commutes : (x y : A) → good x → good y → f (both x y) ≡ both' (f x) (f y)) where
    pub over_through : (x : B) (l : List B) → ((s : B) → Memᴰ s (x ∷ l) → good (of s)) → ((s : B) → Memᴰ s (x ∷ l) → f (of s) ≡ of' s)
        → f (over none both of (x ∷ l)) ≡ over none' both' of' (x ∷ l)
    unfolding over
    over_through x [] g e = e x (Memᴰ.head refl)
    over_through x (y ∷ l) g e =
        let g' : (s : B) → Memᴰ s (y ∷ l) → good (of s) = λ (s : B) (i : Memᴰ s (y ∷ l)). g s (Memᴰ.tail i) in
        commutes (over none both of (y ∷ l)) (of x) (over_good y l g') (g x (Memᴰ.head refl))
        ∙ ap₂ both' (over_through y l g' (λ (s : B) (i : Memᴰ s (y ∷ l)). e s (Memᴰ.tail i))) (e x (Memᴰ.head refl))

-- ---- the set alone

-- An operation that is associative, commutative and idempotent, on what is good.
pub record Joins {A : Type 0} (good : A → Type 0) (both : A → A → A) : Type 0 where
  pub closed : (x y : A) → good x → good y → good (both x y)
  pub assoc : (x y z : A) → good x → good y → good z → both (both x y) z ≡ both x (both y z)
  pub comm : (x y : A) → good x → good y → both x y ≡ both y x
  pub same : (x : A) → good x → both x x ≡ x

module _ {A B : Type 0} (good : A → Type 0) (none : A) (both : A → A → A) (of : B → A) (joins : Joins good both) where
  -- Each of them is in the whole already.
  pub absorbed : (x : B) (l : List B) → ((s : B) → Memᴰ s (x ∷ l) → good (of s)) → (s : B) → Memᴰ s (x ∷ l)
      → both (over none both of (x ∷ l)) (of s) ≡ over none both of (x ∷ l)
  unfolding over
  absorbed x [] f s i =
      ⊎_elim (λ (e : s ≡ x). ap (λ (y : B). both (of x) (of y)) e ∙ joins.same (of x) (f x (Memᴰ.head refl)))
      (λ (j : Memᴰ s []). absurd (Memᴰ.not-nil j)) (Memᴰ.cases_cons i)
  absorbed x (y ∷ l) f s i =
      let whole = over none both of (y ∷ l) in
      let f' : (s : B) → Memᴰ s (y ∷ l) → good (of s) = λ (s : B) (j : Memᴰ s (y ∷ l)). f s (Memᴰ.tail j) in
      let w : good whole = over_good good none both of joins.closed y l f' in
      let g : good (of x) = f x (Memᴰ.head refl) in
      joins.assoc whole (of x) (of s) w g (f s i)
      ∙ ⊎_elim (λ (e : s ≡ x). ap (λ (y : B). both whole (both (of x) (of y))) e ∙ ap (both whole) (joins.same (of x) g))
      (λ (j : Memᴰ s (y ∷ l)).
      ap (both whole) (joins.comm (of x) (of s) g (f s i))
      ∙ sym (joins.assoc whole (of s) (of x) w (f s i) g)
      ∙ ap (λ (v : A). both v (of x)) (absorbed y l f' s j)) (Memᴰ.cases_cons i)

  -- And what has each of them in it has the whole in it.
  pub absorbs : (z : A) → good z → (x : B) (l : List B) → ((s : B) → Memᴰ s (x ∷ l) → good (of s))
      → ((s : B) → Memᴰ s (x ∷ l) → both z (of s) ≡ z) → both z (over none both of (x ∷ l)) ≡ z
  unfolding over
  absorbs z h x [] f e = e x (Memᴰ.head refl)
  absorbs z h x (y ∷ l) f e =
      let f' : (s : B) → Memᴰ s (y ∷ l) → good (of s) = λ (s : B) (j : Memᴰ s (y ∷ l)). f s (Memᴰ.tail j) in
      sym
      (joins.assoc z (over none both of (y ∷ l)) (of x) h (over_good good none both of joins.closed y l f') (f x (Memᴰ.head refl)))
      ∙ ap (λ (v : A). both v (of x)) (absorbs z h y l f' (λ (s : B) (j : Memᴰ s (y ∷ l)). e s (Memᴰ.tail j)))
      ∙ e x (Memᴰ.head refl)

  pub over_set : (c d : List B) → ((s : B) → Memᴰ s c → Memᴰ s d) → ((s : B) → Memᴰ s d → Memᴰ s c)
      → ((s : B) → Memᴰ s c → good (of s)) → over none both of c ≡ over none both of d
  over_set [] [] there back f = refl
  over_set [] (t ∷ ts) there back f = absurd (Memᴰ.not-nil (back t (Memᴰ.head refl)))
  over_set (s ∷ ss) [] there back f = absurd (Memᴰ.not-nil (there s (Memᴰ.head refl)))
  over_set (s ∷ ss) (t ∷ ts) there back f =
      let x = over none both of (s ∷ ss) in
      let y = over none both of (t ∷ ts) in
      let g : (u : B) → Memᴰ u (t ∷ ts) → good (of u) = λ (u : B) (i : Memᴰ u (t ∷ ts)). f u (back u i) in
      let gx : good x = over_good good none both of joins.closed s ss f in
      let gy : good y = over_good good none both of joins.closed t ts g in
      sym (absorbs x gx t ts g (λ (u : B) (i : Memᴰ u (t ∷ ts)). absorbed s ss f u (back u i)))
      ∙ joins.comm x y gx gy
      ∙ absorbs y gy s ss f (λ (u : B) (i : Memᴰ u (s ∷ ss)). absorbed t ts g u (there u i))

-- ---- three operations on numbers

abbrev pub Any : ℕ → Type 0
Any n = Unit

min_assoc : (x y z : ℕ) → min (min x y) z ≡ min x (min y z)
min_assoc x y z = omega arith

min_same : (x : ℕ) → min x x ≡ x
min_same x = omega arith

pub min_joins : Joins Any min
min_joins =
    record {
      closed = λ (x y : ℕ) (h k : Unit). tt;
      assoc = λ (x y z : ℕ) (h k l : Unit). min_assoc x y z;
      comm = λ (x y : ℕ) (h k : Unit). min_comm x y;
      same = λ (x : ℕ) (h : Unit). min_same x;
    }

-- Bits.
digit : (n h x y : ℕ) → n ≡ h * 2 + min (x % 2) (y % 2) → (n / 2 ≡ h) × (n % 2 ≡ min (x % 2) (y % 2))
digit n h x y e = (omega arith, omega arith)

and_half : (a b : ℕ) → bit_and a b / 2 ≡ bit_and (a / 2) (b / 2)
and_half a b = (digit (bit_and a b) (bit_and (a / 2) (b / 2)) a b (and_step a b)).0

and_odd : (a b : ℕ) → bit_and a b % 2 ≡ min (a % 2) (b % 2)
and_odd a b = (digit (bit_and a b) (bit_and (a / 2) (b / 2)) a b (and_step a b)).1

and_assoc : (a b c : ℕ) → bit_and (bit_and a b) c ≡ bit_and a (bit_and b c)
and_assoc =
    bin_ind (λ (n : ℕ). (b c : ℕ) → bit_and (bit_and n b) c ≡ bit_and n (bit_and b c)) (λ b c. refl)
    (λ n ih b c.
    and_step (bit_and n b) c
    ∙ ap₂ (λ (x y : ℕ). x * 2 + y)
    (ap (λ (x : ℕ). bit_and x (c / 2)) (and_half n b) ∙ ih (b / 2) (c / 2) ∙ ap (bit_and (n / 2)) (sym (and_half b c)))
    (ap (λ (x : ℕ). min x (c % 2)) (and_odd n b)
    ∙ min_assoc (n % 2) (b % 2) (c % 2)
    ∙ ap (min (n % 2)) (sym (and_odd b c)))
    ∙ sym (and_step n (bit_and b c)))

pub and_joins : Joins Any bit_and
and_joins =
    record {
      closed = λ (x y : ℕ) (h k : Unit). tt;
      assoc = λ (x y z : ℕ) (h k l : Unit). and_assoc x y z;
      comm = λ (x y : ℕ) (h k : Unit). and_comm x y;
      same = λ (x : ℕ) (h : Unit). and_self x;
    }

-- Numbers of 32 bits, signed. The key tells them apart, and orders them.
abbrev pub Small : ℕ → Type 0
Small n = n < 2 ^ 32

key_apart : (x y : ℕ) → Small x → Small y → signed_key x ≡ signed_key y → x ≡ y
key_apart x y h k e = omega arith

signed_small : (x y : ℕ) → Small x → Small y → Small (signed_min x y)
signed_small x y h k = go (ltb (signed_key y) (signed_key x))
  where
    go : (b : Bool) → Small (cond b y x)
    go true = k
    go false = h

-- The key of the smaller one is the smaller key.
key_min : (x y : ℕ) → signed_key (signed_min x y) ≡ min (signed_key x) (signed_key y)
key_min x y = go (ltb (signed_key y) (signed_key x)) refl
  where
    go : (b : Bool) → ltb (signed_key y) (signed_key x) ≡ b → signed_key (cond b y x) ≡ min (signed_key x) (signed_key y)
    go true e = sym (min-eq_right (le_of_lt (ltb-true (signed_key y) (signed_key x) e)))
    go false e = sym (min-eq_left (ltb-false (signed_key y) (signed_key x) e))

pub signed_joins : Joins Small signed_min
signed_joins =
    record {
      closed = signed_small;
      assoc = λ (x y z : ℕ) (h : Small x) (k : Small y) (l : Small z).
          key_apart (signed_min (signed_min x y) z) (signed_min x (signed_min y z)) (signed_small (signed_min x y) z (signed_small x y h k) l)
          (signed_small x (signed_min y z) h (signed_small y z k l))
          (key_min (signed_min x y) z
          ∙ ap (λ (n : ℕ). min n (signed_key z)) (key_min x y)
          ∙ min_assoc (signed_key x) (signed_key y) (signed_key z)
          ∙ sym (key_min x (signed_min y z) ∙ ap (min (signed_key x)) (key_min y z)));
      comm = λ (x y : ℕ) (h : Small x) (k : Small y).
          key_apart (signed_min x y) (signed_min y x) (signed_small x y h k) (signed_small y x k h)
          (key_min x y ∙ min_comm (signed_key x) (signed_key y) ∙ sym (key_min y x));
      same = λ (x : ℕ) (h : Small x).
          key_apart (signed_min x x) x (signed_small x x h h) h (key_min x x ∙ min_same (signed_key x));
    }

-- ---- rows of registers

pub larger_joins : (q : ℕ) → Joins (λ (l : List ℕ). length l ≡ 2 ^ q) larger
larger_joins q =
    record {
      closed = λ (x y : List ℕ) (h : length x ≡ 2 ^ q) (k : length y ≡ 2 ^ q). larger_length x y ∙ h;
      assoc = λ (x y z : List ℕ) (h : length x ≡ 2 ^ q) (k : length y ≡ 2 ^ q) (l : length z ≡ 2 ^ q). larger_assoc x y z (h ∙ sym k) (k ∙ sym l);
      comm = λ (x y : List ℕ) (h : length x ≡ 2 ^ q) (k : length y ≡ 2 ^ q). larger_comm x y (h ∙ sym k);
      same = λ (x : List ℕ) (h : length x ≡ 2 ^ q). larger_same x;
    }
