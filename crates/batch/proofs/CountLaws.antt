-- How many records a batch can have. Records may overlap, but an index, being below 65,536, ends in two zero bytes: a record that begins one or two bytes past the one
-- before leads back, or nowhere. So each step of a chain but the last is of three bytes or more, and there are no more than 21,844 records.
use Prim.Native.Nat.{ℕ, zero, suc, ◌+◌, ◌*◌, ◌≤◌, ◌<◌}
use mathlib.Core.Path.{◌≡◌, refl, ap}
use mathlib.Core.List.{List}
use mathlib.Core.Bool.{Bool, true, false, cond}
use mathlib.Core.Logic.{◌⊎◌, inl, inr, ⊎_elim}
use native.Mathlib.Omega.{arith}
use lib.Dec.{eqb}
use lib.ListN.{length, get_or, length-take, length-map}
use Rattle.std.specs.Prelude.{Ok, Err}
use Rattle.std.proofs.lemmas.Bool.{cases_lt as side}
use Rattle.batch.specs.declared.chain.ChainError.TheVariants.{Broken}
use Rattle.rollup.specs.Accumulator.{Mem}
use Rattle.batch.specs.declared.closing.Report.{Report}
use Rattle.batch.specs.Chain.{word_at, next_at, state_at, is_record, Chain, ends, onto, chain_from, is_batch, chain_of, states_of}
use Rattle.batch.specs.Closing.{ReportPost}
use Rattle.batch.proofs.ChainLaws.{Inside, record_inside, batch_size, chain_is}

module _ (b : List ℕ) (byte : (k : ℕ) → get_or b k 0 < 256) (short : length b ≤ 65536) where
  -- Of three records in a row the second begins three bytes past the first, or further on.
  far : (i j k : ℕ) → j ≡ next_at b i → k ≡ next_at b j → Inside b i j → Inside b j k → i + 3 ≤ j
  unfolding word_at
  far i j k e f p q = ⊎_elim (λ (h : j < i + 3). ⊎_elim one two (side j (i + 2))) (λ (h : i + 3 ≤ j). h) (side j (i + 3))
    where
      at : {m n : ℕ} → m ≡ n → get_or b m 0 ≡ get_or b n 0
      at g = ap (λ (n : ℕ). get_or b n 0) g

      one : j < i + 2 → i + 3 ≤ j
      one h =
          let g : j ≡ i + 1 = omega (arith, p.above) in
          let z : ⊥ = omega (arith, e, f, p.inside, q.inside, q.above, byte i, byte (i + 1), byte (i + 2), byte (i + 3), at g, at (let x : j + 1 ≡ i + 2 = omega arith in x), at (let x : j + 2 ≡ i + 3 = omega arith in x)) in
          absurd z

      two : i + 2 ≤ j → i + 3 ≤ j
      two h =
          ⊎_elim
          (λ (l : j < i + 3).
          let g : j ≡ i + 2 = omega arith in
          let z : ⊥ = omega (arith, e, f, p.inside, q.inside, q.low, byte i, byte (i + 1), byte (i + 2), byte (i + 3), at g, at (let x : j + 1 ≡ i + 3 = omega arith in x)) in
          absurd z)
          (λ (l : i + 3 ≤ j). l)
          (side j (i + 3))

  abbrev count : ℕ → ℕ → ℕ → ℕ
  count n before i = length (chain_from n b before i).indices

  opened : (n before i : ℕ) → (count (suc n) before i ≡ 0) ⊎ (Inside b before i × (count (suc n) before i ≡ suc (count n i (next_at b i))))
  unfolding chain_from
  opened n before i = go (eqb i 0) (is_record b before i) refl
    where
      rest : Chain
      rest = onto i (chain_from n b i (next_at b i))

      go : (x y : Bool) → is_record b before i ≡ y
          → (length (cond x (ends (Ok tt)) (cond y rest (ends (Err Broken)))).indices ≡ 0)
          ⊎ (Inside b before i × (length (cond x (ends (Ok tt)) (cond y rest (ends (Err Broken)))).indices ≡ suc (count n i (next_at b i))))
      go true y e = inl refl
      go false false e = inl refl
      go false true e = inr (record_inside b before i e, refl)

  none : (before i : ℕ) → count zero before i ≡ 0
  unfolding chain_from
  none before i = refl

  one_record : (n before i : ℕ) → 1 ≤ count n before i → Inside b before i
  one_record zero before i h = let z : ⊥ = omega (arith, none before i) in absurd z
  one_record (suc n) before i h =
      ⊎_elim (λ e. let z : ⊥ = omega (arith, e) in absurd z) (λ e. e.0) (opened n before i)

  two_records : (n before i : ℕ) → 2 ≤ count n before i → Inside b before i × Inside b i (next_at b i)
  two_records zero before i h = let z : ⊥ = omega (arith, none before i) in absurd z
  two_records (suc n) before i h =
      ⊎_elim (λ e. let z : ⊥ = omega (arith, e) in absurd z) (λ e. (e.0, one_record n i (next_at b i) (omega (arith, e.1)))) (opened n before i)

  few : (n before i : ℕ) → (count n before i ≡ 0) ⊎ (3 * count n before i + i ≤ 65534)
  few zero before i = inl (none before i)
  few (suc n) before i = ⊎_elim inl (λ e. inr (next e.0 e.1 (few n i (next_at b i)))) (opened n before i)
    where
      next : Inside b before i → count (suc n) before i ≡ suc (count n i (next_at b i))
          → (count n i (next_at b i) ≡ 0) ⊎ (3 * count n i (next_at b i) + next_at b i ≤ 65534)
          → 3 * count (suc n) before i + i ≤ 65534
      next p e (inl h) = omega (arith, p.inside)
      next p e (inr h) =
          ⊎_elim
          (λ (l : 1 < count n i (next_at b i)).
          let q = two_records n i (next_at b i) l in
          let g = far i (next_at b i) (next_at b (next_at b i)) refl refl q.0 q.1 in
          omega arith)
          (λ (l : count n i (next_at b i) ≤ 1). omega (arith, p.inside))
          (side 1 (count n i (next_at b i)))

pub records_few : (b : List ℕ) → ((k : ℕ) → get_or b k 0 < 256) → length (chain_of b).indices ≤ 21844
records_few b byte = go (is_batch b) refl
  where
    go : (t : Bool) → is_batch b ≡ t → length (chain_of b).indices ≤ 21844
    go true e =
        ⊎_elim
        (λ h. omega (arith, h, ap (λ (c : Chain). length c.indices) (chain_is b e)))
        (λ h. omega (arith, h, ap (λ (c : Chain). length c.indices) (chain_is b e)))
        (few b byte (batch_size b e).1 (length b) 0 (word_at b 0))
    go false e = omega (arith, ap (λ (c : Chain). length c.indices) (chain_is b e))

-- So a report has no more, whatever cells are lent for the answers.
pub reported_few : {batch : List ℕ} {first : Mem} {room : ℕ} {old : List ℕ} {space : ℕ} {out : List ℕ} {r : Report} {m : Mem} {answers after : List ℕ}
    → ((k : ℕ) → get_or batch k 0 < 256) → ReportPost batch first room old space out r m answers after → r.rolled.records ≤ 21844
reported_few {batch} {old = old} byte p = omega (arith, p.rolled.records, length-take (length old) (states_of batch), length-map (chain_of batch).indices (state_at batch), records_few batch byte)
