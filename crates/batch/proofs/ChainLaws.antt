-- The chain of a batch: what its records say of the bytes, what is left of it after each, and a walk over all of them. One law for the start, one for a turn, and
-- one for each way that a walk ends.
use Prim.Native.Nat.{ℕ, zero, suc, ◌+◌, ◌-◌, ◌<◌, ◌≤◌}
use mathlib.Core.Path.{◌≡◌, refl, sym, ap, ◌∙◌}
use mathlib.Core.List.{List, [], ◌∷◌, ◌++◌, append_assoc, append-nil}
use mathlib.Core.Bool.{Bool, true, false, cond, ◌&&◌}
use native.Mathlib.Omega.{arith}
use lib.Dec.{ltb, leb, eqb}
use lib.ListN.{length, drop, set, get_or, length-append}
use lib.Seq.{drop-set-lt, drop-drop}
use borrow.Author.Tests.{leb-true, leb-false, ltb-true, lt-ltb, le-leb, lt-leb, eq-eqb, ne_eqb}
use Rattle.std.specs.Prelude.{⊤, Result, Ok, Err}
use Rattle.wire.proofs.BoolLaws.{both_true, either}
use Rattle.batch.specs.declared.chain.ChainError.{ChainError}
use Rattle.batch.specs.declared.chain.ChainError.TheVariants.{NoBatch, Broken}
use Rattle.batch.specs.Chain.{word_at, next_at, length_at, is_record, Chain, ends, onto, chain_from, is_batch, chain_of}

-- ---- records

-- What 25 says of an index.
pub record Inside (b : List ℕ) (before i : ℕ) : Type 0 where
  pub low : 4 ≤ i
  pub above : before < i
  pub inside : i + 8 + length_at b i ≤ length b

pub record_inside : (b : List ℕ) (before i : ℕ) → is_record b before i ≡ true → Inside b before i
unfolding is_record
record_inside b before i e =
    let x = both_true (leb 4 i && ltb before i) (leb (i + 8 + length_at b i) (length b)) e in
    let y = both_true (leb 4 i) (ltb before i) x.0 in
    record {
      low = leb-true 4 i y.0;
      above = ltb-true before i y.1;
      inside = leb-true (i + 8 + length_at b i) (length b) x.1;
    }

-- The last test of an index with differences for sums, where the others were passed.
pub record_tested : (b : List ℕ) (before i n : ℕ) → 4 ≤ i → before < i → 8 ≤ length b → i ≤ length b - 8 → n ≡ length_at b i
    → leb n (length b - 8 - i) ≡ is_record b before i
unfolding is_record
record_tested b before i n low above eight within e =
    ap (λ (k : ℕ). leb k (length b - 8 - i)) e
    ∙ go (leb (length_at b i) (length b - 8 - i)) refl
    ∙ sym
    (ap (λ (t : Bool). t && ltb before i && leb (i + 8 + length_at b i) (length b)) (le-leb 4 i low)
    ∙ ap (λ (t : Bool). t && leb (i + 8 + length_at b i) (length b)) (lt-ltb before i above))
  where
    go : (t : Bool) → leb (length_at b i) (length b - 8 - i) ≡ t → leb (length_at b i) (length b - 8 - i) ≡ leb (i + 8 + length_at b i) (length b)
    go true f =
        let h = leb-true (length_at b i) (length b - 8 - i) f in
        f ∙ sym (le-leb (i + 8 + length_at b i) (length b) (let g : i + 8 + length_at b i ≤ length b = omega arith in g))
    go false f =
        let h = leb-false (length_at b i) (length b - 8 - i) f in
        f ∙ sym (lt-leb (i + 8 + length_at b i) (length b) (let g : length b < i + 8 + length_at b i = omega arith in g))

pub batch_size : (b : List ℕ) → is_batch b ≡ true → (4 ≤ length b) × (length b ≤ 65536)
batch_size b e =
    let x = both_true (leb 4 (length b)) (leb (length b) 65536) e in
    (leb-true 4 (length b) x.0, leb-true (length b) 65536 x.1)

-- ---- the chain from an index on

pub chain_end : (n : ℕ) (b : List ℕ) (before i : ℕ) → i ≡ 0 → chain_from n b before i ≡ ends (Ok tt)
unfolding chain_from
chain_end zero b before i e = refl
chain_end (suc n) b before i e =
    ap (λ (t : Bool). cond t (ends (Ok tt)) (cond (is_record b before i) (onto i (chain_from n b i (next_at b i))) (ends (Err Broken)))) (eq-eqb i 0 e)

pub chain_bad : (n : ℕ) (b : List ℕ) (before i : ℕ) → (i ≡ 0 → ⊥) → is_record b before i ≡ false → chain_from (suc n) b before i ≡ ends (Err Broken)
unfolding chain_from
chain_bad n b before i index e =
    let next = onto i (chain_from n b i (next_at b i)) in
    ap (λ (t : Bool). cond t (ends (Ok tt)) (cond (is_record b before i) next (ends (Err Broken)))) (ne_eqb i 0 index)
    ∙ ap (λ (t : Bool). cond t next (ends (Err Broken))) e

pub chain_next : (n : ℕ) (b : List ℕ) (before i : ℕ) → (i ≡ 0 → ⊥) → is_record b before i ≡ true
    → chain_from (suc n) b before i ≡ onto i (chain_from n b i (next_at b i))
unfolding chain_from
chain_next n b before i index e =
    let next = onto i (chain_from n b i (next_at b i)) in
    ap (λ (t : Bool). cond t (ends (Ok tt)) (cond (is_record b before i) next (ends (Err Broken)))) (ne_eqb i 0 index)
    ∙ ap (λ (t : Bool). cond t next (ends (Err Broken))) e

-- Which bound it is counts for nothing, where it is large enough.
pub chain_same : (n m : ℕ) (b : List ℕ) (before i : ℕ) → before < length b → length b ≤ before + n → length b ≤ before + m
    → chain_from n b before i ≡ chain_from m b before i
unfolding chain_from
chain_same zero m b before i within h k = absurd (let z : ⊥ = omega arith in z)
chain_same (suc n) zero b before i within h k = absurd (let z : ⊥ = omega arith in z)
chain_same (suc n) (suc m) b before i within h k =
    ap (cond (eqb i 0) (ends (Ok tt)))
    (either (λ (c : Chain). c ≡ cond (is_record b before i) (onto i (chain_from m b i (next_at b i))) (ends (Err Broken))) (is_record b before i) (onto i (chain_from n b i (next_at b i))) (ends (Err Broken))
    (λ (e : is_record b before i ≡ true).
    let x = record_inside b before i e in
    ap (onto i) (chain_same n m b i (next_at b i) (omega (arith, x.inside)) (omega (arith, x.above)) (omega (arith, x.above)))
    ∙ sym (ap (λ (t : Bool). cond t (onto i (chain_from m b i (next_at b i))) (ends (Err Broken))) e))
    (λ (e : is_record b before i ≡ false). sym (ap (λ (t : Bool). cond t (onto i (chain_from m b i (next_at b i))) (ends (Err Broken))) e)))

-- A chain has no more records than its bound.
chain_few : (n : ℕ) (b : List ℕ) (before i : ℕ) → length (chain_from n b before i).indices ≤ n
unfolding chain_from
chain_few zero b before i = omega arith
chain_few (suc n) b before i = go (eqb i 0) (is_record b before i) (chain_few n b i (next_at b i))
  where
    go : (x y : Bool) → length (chain_from n b i (next_at b i)).indices ≤ n
        → length (cond x (ends (Ok tt)) (cond y (onto i (chain_from n b i (next_at b i))) (ends (Err Broken)))).indices ≤ suc n
    go true y h = omega arith
    go false false h = omega arith
    go false true h = omega arith

-- Each record stands above the one before, so that no more stand in front of an index than that.
pub chain_last : (n : ℕ) (b : List ℕ) (before i : ℕ) (done : List ℕ) (at : ℕ) (rest : List ℕ) → (chain_from n b before i).indices ≡ done ++ at ∷ rest → before + length done < at
unfolding chain_from
chain_last zero b before i done at rest e = omega (arith, ap length e, length-append done (at ∷ rest))
chain_last (suc n) b before i done at rest e = go (eqb i 0) (is_record b before i) refl (λ d h. chain_last n b i (next_at b i) d at rest h) done e
  where
    go : (x y : Bool) → is_record b before i ≡ y → ((d : List ℕ) → (chain_from n b i (next_at b i)).indices ≡ d ++ at ∷ rest → i + length d < at)
        → (d : List ℕ) → (cond x (ends (Ok tt)) (cond y (onto i (chain_from n b i (next_at b i))) (ends (Err Broken)))).indices ≡ d ++ at ∷ rest → before + length d < at
    go true y f k d h = omega (arith, ap length h, length-append d (at ∷ rest))
    go false false f k d h = omega (arith, ap length h, length-append d (at ∷ rest))
    go false true f k [] h = omega (arith, (record_inside b before i f).above, ap (λ (l : List ℕ). get_or l 0 0) h)
    go false true f k (x ∷ d) h = omega (arith, (record_inside b before i f).above, k d (ap (λ (l : List ℕ). drop 1 l) h))

pub chain_is : (b : List ℕ) {t : Bool} → is_batch b ≡ t → chain_of b ≡ cond t (chain_from (length b) b 0 (word_at b 0)) (ends (Err NoBatch))
unfolding chain_of
chain_is b e = ap (λ (t : Bool). cond t (chain_from (length b) b 0 (word_at b 0)) (ends (Err NoBatch))) e

-- So no bytes have a chain of more than 65,536 records.
pub chain_short : (b : List ℕ) → length (chain_of b).indices ≤ 65536
chain_short b = go (is_batch b) refl
  where
    go : (t : Bool) → is_batch b ≡ t → length (chain_of b).indices ≤ 65536
    go true f = omega (arith, ap (λ (c : Chain). length c.indices) (chain_is b f), chain_few (length b) b 0 (word_at b 0), (batch_size b f).1)
    go false f = omega (arith, ap (λ (c : Chain). length c.indices) (chain_is b f))

-- ---- the chain that is still to come, with the bound that it has there

pub left_first : (b : List ℕ) (next : ℕ) → is_batch b ≡ true → next ≡ word_at b 0 → chain_of b ≡ chain_from (suc (length b)) b 0 next
left_first b next e f =
    chain_is b e
    ∙ chain_same (length b) (suc (length b)) b 0 (word_at b 0) (omega (arith, (batch_size b e).0)) (omega arith) (omega arith)
    ∙ ap (chain_from (suc (length b)) b 0) (sym f)

pub left_next : (b : List ℕ) (before i next : ℕ) → (i ≡ 0 → ⊥) → is_record b before i ≡ true → next ≡ next_at b i
    → chain_from (suc (length b)) b before i ≡ onto i (chain_from (suc (length b)) b i next)
left_next b before i next index e f =
    let x = record_inside b before i e in
    chain_next (length b) b before i index e
    ∙ ap (onto i)
    (chain_same (length b) (suc (length b)) b i (next_at b i) (omega (arith, x.inside)) (omega (arith, x.low)) (omega (arith, x.low))
    ∙ ap (chain_from (suc (length b)) b i) (sym f))

-- ---- a walk

-- The records that are done, and those that are left, are the chain's.
pub record Walk (batch : List ℕ) (done : List ℕ) (rest : Chain) : Type 0 where
  pub indices : (chain_of batch).indices ≡ done ++ rest.indices
  pub ending : (chain_of batch).ending ≡ rest.ending

pub walk_start : {batch : List ℕ} {rest : Chain} → chain_of batch ≡ rest → Walk batch [] rest
walk_start e = record { indices = ap (λ (c : Chain). c.indices) e; ending = ap (λ (c : Chain). c.ending) e }

module _ {batch done : List ℕ} {rest : Chain} (w : Walk batch done rest) where
  -- Where the chain ends, the records that are done are all of its records.
  pub walk_all : {r : Result ⊤ ChainError} → rest ≡ ends r → (chain_of batch).indices ≡ done
  walk_all e = w.indices ∙ ap (λ (c : Chain). done ++ c.indices) e ∙ append-nil done

  pub walk_ending : {r : Result ⊤ ChainError} → rest ≡ ends r → (chain_of batch).ending ≡ r
  walk_ending e = w.ending ∙ ap (λ (c : Chain). c.ending) e

  pub walk_turn : {i : ℕ} {next : Chain} → rest ≡ onto i next → Walk batch (done ++ i ∷ []) next
  walk_turn {i} {next} e =
      record {
        indices = w.indices ∙ ap (λ (c : Chain). done ++ c.indices) e ∙ sym (append_assoc done (i ∷ []) next.indices);
        ending = w.ending ∙ ap (λ (c : Chain). c.ending) e;
      }

  -- With the one that is next, no more are done than its index.
  pub walk_last : is_batch batch ≡ true → {i : ℕ} {next : Chain} → rest ≡ onto i next → length done + 1 ≤ i
  walk_last ok {i} {next} e =
      omega (
        arith,
        chain_last (length batch) batch 0 (word_at batch 0) done i next.indices
            (sym (ap (λ (c : Chain). c.indices) (chain_is batch ok)) ∙ w.indices ∙ ap (λ (c : Chain). done ++ c.indices) e),
      )

  -- While one is left, fewer are done than a batch can have.
  pub walk_few : {i : ℕ} {next : Chain} → rest ≡ onto i next → length done < 65536
  walk_few {i} {next} e =
      omega (arith, chain_short batch, ap length (w.indices ∙ ap (λ (c : Chain). done ++ c.indices) e), length-append done (i ∷ next.indices))

-- A store to the first of the cells that are as they were leaves those behind it so.
pub untouched_next : (cells old : List ℕ) (k v : ℕ) → drop k cells ≡ drop k old → drop (k + 1) (set cells k v) ≡ drop (k + 1) old
untouched_next cells old k v e =
    drop-set-lt (k + 1) cells k v (omega arith) ∙ sym (drop-drop 1 k cells) ∙ ap (λ (l : List ℕ). drop 1 l) e ∙ drop-drop 1 k old
