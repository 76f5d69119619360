-- What value counts come to: after a list of calls the roll-up's is that of its start and those of the accepted states, added as numbers of 64 bits.
use Rattle.std.proofs.Common.{◌≡◌, ℕ, ◌+◌, ◌%◌, ◌^◌, ◌<◌, Bool, true, false, cond, ltb, List, [], ◌∷◌, map, length, sym, refl, ap, ◌∙◌, subst, ⊎_elim, arith, eq-eqb, ne_eqb}
use Rattle.wire.specs.State.{State}
use Rattle.rollup.specs.declared.accumulator.Form.{Form}
use Rattle.rollup.specs.declared.accumulator.Form.TheVariants.{Unstarted, Sparse, Dense}
use Rattle.rollup.specs.declared.accumulator.Accumulator.{Accumulator}
use Rattle.rollup.specs.declared.incoming.Incoming.{Incoming}
use Rattle.rollup.specs.Accumulator.{Mem, kept_of, limit, fits, HeadWidths, count_of}
use Rattle.rollup.specs.Header.{data_of, is_empty}
use Rattle.rollup.specs.Taking.{After, counted, settle, waits, inserts, dense_after, taken_after}
use Rattle.rollup.specs.Adding.{state_numbers}
use Rattle.rollup.specs.Calls.{Call, Steps, begun, adding, writing, moving, Run, accepted, state_in, values_in, states}
use Rattle.rollup.proofs.WaysLaws.{start_ways, settle_ways, list_ways, sparse_ways}
use Rattle.rollup.proofs.ViewLaws.{IsRefused, IsAccepted, add_view, fresh_fits, steps_fit}
use Rattle.rollup.proofs.WidthLaws.{NumberWidths, state_widths, fresh_widths}

-- ---- what is taken in

module _ (a : Accumulator) (m : Mem) (x : Incoming) (row vs : List ℕ) (given : NumberWidths x) where
  abbrev Adds : ℕ → After → Type 0
  Adds old y = count_of y.head.form y.head ≡ (old + x.num_values) % 2 ^ 64

  merge_adds : (l : List ℕ) (bytes : ℕ) → Adds a.num_values (settle (counted a x) m.registers l bytes)
  merge_adds l bytes =
      settle_ways (Adds a.num_values) (counted a x) m.registers l bytes (λ (e : ltb bytes (limit a.precision) ≡ true). refl)
      (λ (e : ltb bytes (limit a.precision) ≡ false). refl)

  pub taken_count : Adds (count_of a.form a) (taken_after a.form a m x row vs)
  unfolding dense_after
  taken_count = by_form a.form refl
    where
      first : x.num_values ≡ (0 + x.num_values) % 2 ^ 64
      first = omega (arith, given.count)

      by_form : (f : Form) → a.form ≡ f → Adds (count_of f a) (taken_after f a m x row vs)
      by_form Unstarted e = start_ways (Adds 0) m x row vs (λ (t : is_empty row ≡ true). first) (λ (t : is_empty row ≡ false). first)
      by_form Sparse e =
          sparse_ways (Adds a.num_values) a m x row vs
          (λ (t : is_empty row ≡ true).
          list_ways (Adds a.num_values) (counted a x) m vs a x refl (λ (z : length vs ≡ 0). ap (λ (f : Form). count_of f (counted a x)) e)
          (λ (t : waits a x (length vs) ≡ true). refl) (merge_adds _ _)
          (λ (z : a.pending_len ≡ 0) (t : inserts a (kept_of a m) (length vs) ≡ true). merge_adds _ _))
          (λ (t : is_empty row ≡ false). refl)
      by_form Dense e = refl

-- ---- lists of calls

unfoldable pub sum_of_counts : List State → ℕ
sum_of_counts [] = 0
sum_of_counts (st ∷ sts) = st.num_values + sum_of_counts sts

count_small : (f : Form) (a : Accumulator) → HeadWidths a → count_of f a < 2 ^ 64
count_small Unstarted a w = omega arith
count_small Sparse a w = w.count
count_small Dense a w = w.count

abbrev CountIs : ℕ → List (List ℕ) → Accumulator → Type 0
CountIs old given h = count_of h.form h ≡ (old + sum_of_counts (map state_in given)) % 2 ^ 64

pub steps_count : {a₀ : Accumulator} {m₀ : Mem} {calls : List Call} {a : Accumulator} {m : Mem} → Steps a₀ m₀ calls a m → fits a₀ m₀ ≡ true → HeadWidths a₀
    → count_of a.form a ≡ (count_of a₀.form a₀ + sum_of_counts (states calls)) % 2 ^ 64
unfolding accepted sum_of_counts
steps_count (begun {a = a}) fit w = omega (arith, count_small a.form a w)
steps_count {a₀ = a₀} (adding {calls = calls} {a = a} {m = m} room bytes answer head n steps post) fit w =
    let old = count_of a₀.form a₀ in
    let before = steps_count steps fit w in
    let given : Bool → List (List ℕ) = λ b. cond b (bytes ∷ accepted calls) (accepted calls) in
    ⊎_elim
    (λ (x : IsRefused a m answer head n).
    subst (λ (b : Bool). CountIs old (given b) head) (sym (ne_eqb answer 0 x.number))
    (subst (CountIs old (accepted calls)) (sym x.same.head) before))
    (λ (x : IsAccepted a m room bytes answer head n).
    let st = state_in bytes in
    let vs = values_in st in
    let sum = sum_of_counts (states calls) in
    let more : ((old + sum) % 2 ^ 64 + st.num_values) % 2 ^ 64 ≡ (old + (st.num_values + sum)) % 2 ^ 64 = omega arith in
    subst (λ (b : Bool). CountIs old (given b) head) (sym (eq-eqb answer 0 x.none))
    (subst (CountIs old (bytes ∷ accepted calls)) (sym x.shows.head)
    (taken_count a m (state_numbers st vs) (data_of st) vs (state_widths bytes vs) ∙ ap (λ (k : ℕ). (k + st.num_values) % 2 ^ 64) before ∙ more)))
    (add_view a m room bytes answer head n (steps_fit steps fit) post)
steps_count (writing room out answer len n after steps post) fit w = steps_count steps fit w
steps_count (moving n steps post) fit w = steps_count steps fit w

pub run_count : {first : Mem} {calls : List Call} {a : Accumulator} {m : Mem} → Run first calls a m → count_of a.form a ≡ sum_of_counts (states calls) % 2 ^ 64
run_count {first = m} {calls = calls} run =
    steps_count run (fresh_fits m) fresh_widths
    ∙ (let e : (0 + sum_of_counts (states calls)) % 2 ^ 64 ≡ sum_of_counts (states calls) % 2 ^ 64 = omega arith in e)
