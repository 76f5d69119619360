-- Laws of what is read: a position found, decimal numbers, byte strings.
use mathlib.Core.Path.{◌≡◌, refl, sym, ap, ap₂, ◌∙◌, subst}
use mathlib.Core.List.{List, [], ◌∷◌, ◌++◌, append-nil}
use mathlib.Core.Bool.{Bool, true, false, cond}
use mathlib.Core.Logic.{⊎_elim, ◌≢◌}
use Rattle.std.specs.Prelude.{min, Option, Some, None, Result, Ok, Err, MatchOption, unwrap_or}
use Prim.Native.Nat.{ℕ, zero, suc, ◌+◌, ◌*◌, ◌-◌, ◌/◌, ◌%◌, ◌^◌, ◌<◌, ◌≤◌}
use native.Mathlib.Numerals.{add-one}
use native.Mathlib.Omega.{arith}
use lib.ListN.{length, set, drop, take, get_or, length-drop, drop_of_length-le}
use lib.Seq.{length-take-le, drop-cons, drop-drop, append_snoc, take-suc-set, drop-set-lt}
use lib.Dec.{ltb}
use borrow.Author.Tests.{lt-ltb, le-ltb, ltb-true, eq-eqb, ne_eqb}
use Rattle.std.specs.Char.{is_ascii_digit}
use Rattle.std.specs.Counts.{IsPrefixLen}
use Rattle.std.specs.List.{AllWithin, HoldsAt}
use Rattle.std.proofs.lemmas.Iterator.{index_from_first}
use Rattle.std.proofs.lemmas.List.{take_all}
use Rattle.std.proofs.lemmas.Bool.{cases_lt as side}
use Rattle.std.specs.declared.ops.ControlFlow.{ControlFlow}
use Rattle.std.specs.declared.ops.ControlFlow.TheVariants.{Continue, Break}
use Rattle.console.specs.declared.input.StreamError.TheVariants.{Failed, Full}
use Rattle.console.specs.declared.input.Arrived.{Arrived}
use Rattle.console.specs.Input.{Stream, so_far, reading_of, ArrivedIn, StreamPost, FrontOnly, up_to, decimal_from, below64, cons_to, byte_then, pairs_of, PairsPost, onto}

-- ---- a position

pub up_to_nil : (b : ℕ) → up_to b [] ≡ 0
unfolding up_to
up_to_nil b = refl

pub up_to_hit : (b x : ℕ) (l : List ℕ) → x ≡ b → up_to b (x ∷ l) ≡ 0
unfolding up_to
up_to_hit b x l e = rw (eq-eqb x b e)

pub up_to_miss : (b x : ℕ) (l : List ℕ) → x ≢ b → up_to b (x ∷ l) ≡ up_to b l + 1
unfolding up_to
up_to_miss b x l n = rw (ne_eqb x b n) (omega arith)

-- The place that a search finds, or the end.
pub up_to_place : (b : ℕ) (s : List ℕ) (r : Option ℕ)
    → MatchOption r (AllWithin (λ x. x ≢ b) s 0 (length s)) (λ i. (i < length s) × HoldsAt (λ x. x ≡ b) s i × AllWithin (λ x. x ≢ b) s 0 i)
    → up_to b s ≡ unwrap_or r (length s)
up_to_place b s r = index_from_first (up_to b) (λ x. x ≡ b) (λ x. x ≢ b) (up_to_nil b) (up_to_hit b) (up_to_miss b) s r

-- What stands behind it.
pub rest_behind : (s : List ℕ) (n m : ℕ) → m ≡ min (n + 1) (length s) → take (length s - m) (drop m s) ≡ drop (n + 1) s
rest_behind s n m e =
    ⊎_elim
    (λ (h : n + 1 < length s). let k : m ≡ n + 1 = omega arith in subst (λ (j : ℕ). take (length s - j) (drop j s) ≡ drop (n + 1) s) (sym k) (take_all (length s - (n + 1)) (drop (n + 1) s) (omega (arith, length-drop (n + 1) s))))
    (λ (h : length s ≤ n + 1). let k : length s - m ≡ 0 = omega arith in ap (λ (j : ℕ). take j (drop m s)) k ∙ sym (drop_of_length-le s h))
    (side (n + 1) (length s))

-- ---- decimal numbers

module _ (word : List ℕ) (v i : ℕ) where
  pub decimal_end : length word ≤ i → decimal_from v (drop i word) ≡ Some v
  unfolding decimal_from
  decimal_end h = rw drop_of_length-le

  pub decimal_more : i < length word → is_ascii_digit (get_or word i 0) ≡ true
      → decimal_from v (drop i word) ≡ decimal_from (v * 10 + (get_or word i 0 - 48)) (drop (i + 1) word)
  unfolding decimal_from
  decimal_more h e = rw (drop-cons word i 0, e, add-one)

  pub decimal_other : i < length word → is_ascii_digit (get_or word i 0) ≡ false → decimal_from v (drop i word) ≡ None
  unfolding decimal_from
  decimal_other h e = rw (drop-cons word i 0, e)

-- Once too large, a number stays too large.
pub decimal_large : (l : List ℕ) (v : ℕ) → 2 ^ 64 ≤ v → below64 (decimal_from v l) ≡ None
unfolding decimal_from
decimal_large [] v h = rw (le-ltb v (2 ^ 64) h)
decimal_large (b ∷ l) v h = go (is_ascii_digit b) (decimal_large l (v * 10 + (b - 48)) (omega arith))
  where
    go : (t : Bool) → below64 (decimal_from (v * 10 + (b - 48)) l) ≡ None → below64 (cond t (decimal_from (v * 10 + (b - 48)) l) None) ≡ None
    go true e = e
    go false e = refl

-- The same of a number that is too large with its next digit.
pub decimal_over : (word : List ℕ) (v i : ℕ) → i < length word → is_ascii_digit (get_or word i 0) ≡ true → 2 ^ 64 ≤ v * 10 + (get_or word i 0 - 48)
    → below64 (decimal_from v (drop i word)) ≡ None
decimal_over word v i h e l = ap below64 (decimal_more word v i h e) ∙ decimal_large (drop (i + 1) word) (v * 10 + (get_or word i 0 - 48)) l

-- ---- byte strings

pub onto_nothing : (r : Option (List ℕ)) → r ≡ onto [] r
onto_nothing None = refl
onto_nothing (Some l) = refl

-- A number that is stored behind those that stand there.
pub onto_stored : (out : List ℕ) (i x : ℕ) → i < length out → (r : Option (List ℕ)) → onto (take i out) (cons_to x r) ≡ onto (take (i + 1) (set out i x)) r
onto_stored out i x h None = refl
onto_stored out i x h (Some l) = ap Some (sym (append_snoc (take i out) x l) ∙ ap (λ (f : List ℕ). f ++ l) (sym front))
  where
    front : take (i + 1) (set out i x) ≡ take i out ++ (x ∷ [])
    front = ap (λ (n : ℕ). take n (set out i x)) (add-one i) ∙ take-suc-set out i x h

byte_none : (high low : Option ℕ) → byte_then high low None ≡ None
byte_none None low = refl
byte_none (Some h) None = refl
byte_none (Some h) (Some l) = refl

byte_low : (high : Option ℕ) (r : Option (List ℕ)) → byte_then high None r ≡ None
byte_low None r = refl
byte_low (Some h) r = refl

pub pairs_odd : (value : ℕ → Option ℕ) (l : List ℕ) → length l % 2 ≡ 1 → pairs_of value l ≡ None
unfolding pairs_of
pairs_odd value [] h = let z : ⊥ = omega arith in absurd z
pairs_odd value (a ∷ []) h = refl
pairs_odd value (a ∷ b ∷ l) h = ap (byte_then (value a) (value b)) (pairs_odd value l (omega arith)) ∙ byte_none (value a) (value b)

-- The first pair of digits of what is left.
first_pair : (value : ℕ → Option ℕ) (pair rest : List ℕ) → length pair ≡ 2
    → pairs_of value (pair ++ rest) ≡ byte_then (value (get_or pair 0 0)) (value (get_or pair 1 0)) (pairs_of value rest)
unfolding pairs_of
first_pair value [] rest h = let z : ⊥ = omega arith in absurd z
first_pair value (a ∷ []) rest h = let z : ⊥ = omega arith in absurd z
first_pair value (a ∷ b ∷ []) rest h = refl
first_pair value (a ∷ b ∷ c ∷ pair) rest h = let z : ⊥ = omega arith in absurd z

module _ (value : ℕ → Option ℕ) (pair rest : List ℕ) {left : List ℕ} (e : left ≡ pair ++ rest) (two : length pair ≡ 2) where
  byte_first : pairs_of value left ≡ byte_then (value (get_or pair 0 0)) (value (get_or pair 1 0)) (pairs_of value rest)
  byte_first = ap (pairs_of value) e ∙ first_pair value pair rest two

  pub pair_high : None ≡ value (get_or pair 0 0) → (done : List ℕ) → onto done (pairs_of value left) ≡ None
  pair_high n done = ap (onto done) (byte_first ∙ ap (λ (d : Option ℕ). byte_then d (value (get_or pair 1 0)) (pairs_of value rest)) (sym n))

  pub pair_low : None ≡ value (get_or pair 1 0) → (done : List ℕ) → onto done (pairs_of value left) ≡ None
  pair_low n done =
      ap (onto done)
      (byte_first ∙ ap (λ (d : Option ℕ). byte_then (value (get_or pair 0 0)) d (pairs_of value rest)) (sym n) ∙ byte_low (value (get_or pair 0 0)) (pairs_of value rest))

  pub pair_next : (out : List ℕ) (i a b : ℕ)
      → i < length out
      → Some a ≡ value (get_or pair 0 0)
      → Some b ≡ value (get_or pair 1 0)
      → onto (take i out) (pairs_of value left) ≡ onto (take (i + 1) (set out i (a * 16 + b))) (pairs_of value rest)
  pair_next out i a b room ea eb =
      ap (onto (take i out)) (byte_first ∙ ap₂ (λ (m n : Option ℕ). byte_then m n (pairs_of value rest)) (sym ea) (sym eb))
      ∙ onto_stored out i (a * 16 + b) room (pairs_of value rest)

pub pairs_end : (value : ℕ → Option ℕ) (rest done : List ℕ) → length rest ≡ 0 → onto done (pairs_of value rest) ≡ Some done
unfolding pairs_of
pairs_end value [] done h = ap Some (append-nil done)
pairs_end value (b ∷ rest) done h = let z : ⊥ = omega arith in absurd z

-- Where all cells from i on are as they were, so are those further on.
drop_further : (out before : List ℕ) (i k : ℕ) → drop i out ≡ drop i before → drop (i + k) out ≡ drop (i + k) before
drop_further out before i k e = sym (drop-drop k i out) ∙ ap (drop k) e ∙ drop-drop k i before

-- What is behind a stored cell is as it was.
pub drop_next : (out before : List ℕ) (i x : ℕ) → drop i out ≡ drop i before → drop (i + 1) (set out i x) ≡ drop (i + 1) before
drop_next out before i x e = drop-set-lt (i + 1) out i x (omega arith) ∙ drop_further out before i 1 e

-- What a word that is refused leaves, where i cells were put for at least two bytes each.
pub refused_free : (word out before : List ℕ) (i : ℕ) → 2 * i ≤ length word → drop i out ≡ drop i before → length out ≡ length before
    → FrontOnly (length word / 2) before out
refused_free word out before i h e same = (
  subst (λ (n : ℕ). drop n out ≡ drop n before) (let n : i + (length word / 2 - i) ≡ length word / 2 = omega arith in n)
      (drop_further out before i (length word / 2 - i) e),
  same,
)

-- All pairs are read.
pub pairs_done : (value : ℕ → Option ℕ) (word before out rest : List ℕ) (i n : ℕ)
    → i ≡ n
    → length rest ≡ 0
    → n ≤ length out
    → pairs_of value word ≡ onto (take i out) (pairs_of value rest)
    → drop i out ≡ drop i before
    → length out ≡ length before
    → PairsPost value word before (Some n) out
pairs_done value word before out rest i n e none room whole behind same = (
  whole ∙ pairs_end value rest (take i out) none ∙ ap (λ (k : ℕ). Some (take k out)) e,
  (subst (λ (k : ℕ). drop k out ≡ drop k before) e behind, same),
  (room, sym (length-take-le n out room)),
)

-- ---- a read

-- What a read makes of a stream, case by case: the laws that docs/PORT.md names. They are for a reader; the check of `after_read` unfolds `reading_of` itself.
pub reading_failed : {E : Type 0} (n len : ℕ) {got : Result ℕ E} {x : E} → got ≡ Err x → Break (Err Failed) ≡ reading_of n got len
unfolding reading_of
reading_failed {E} n len e = ap (λ (r : Result ℕ E). reading_of n r len) (sym e)

module _ {E : Type 0} (n len k : ℕ) {got : Result ℕ E} (e : got ≡ Ok k) where
  abbrev counted_by : Result ℕ E
  counted_by = Ok k

  counted_is : reading_of n counted_by len ≡ reading_of n got len
  counted_is = ap (λ (x : Result ℕ E). reading_of n x len) (sym e)

  pub reading_full : len ≤ n + k → Break (Err Full) ≡ reading_of n got len
  unfolding reading_of
  reading_full full = sym (rw (le-ltb (n + k) len full)) ∙ counted_is

  pub reading_all : n + k < len → k ≡ 0 → Break (Ok n) ≡ reading_of n got len
  unfolding reading_of
  reading_all room end = sym (rw (lt-ltb (n + k) len room) (ap (λ (j : ℕ). so_far j n) end)) ∙ counted_is

  pub reading_more : n + k < len → 0 < k → Continue (n + k) ≡ reading_of n got len
  unfolding reading_of
  reading_more room came = sym (rw (lt-ltb (n + k) len room) (next k came)) ∙ counted_is
    where
      next : (k : ℕ) → 0 < k → so_far k n ≡ Continue (n + k)
      next zero h = let z : ⊥ = omega arith in absurd z
      next (suc k) h = refl

-- More bytes than before have come, and the buffer has room for others; or what is known of the stream is what `read_all` promises.
abbrev pub Goes : ℕ → List ℕ → ControlFlow Stream ℕ → Type 0
Goes n buf (Continue m) = (n < m) × (m < length buf)
Goes n buf (Break stream) = StreamPost buf stream

reading_goes : {E : Type 0} (buf : List ℕ) (n : ℕ) (got : Result ℕ E) → Goes n buf (reading_of n got (length buf))
unfolding reading_of
reading_goes buf n (Err e) = tt
reading_goes buf n (Ok k) = go k (ltb (n + k) (length buf)) refl
  where
    go : (k : ℕ) (t : Bool) → ltb (n + k) (length buf) ≡ t → Goes n buf (cond t (so_far k n) (Break (Err Full)))
    go zero true e = let h = ltb-true (n + 0) (length buf) e in (omega arith, (omega arith, sym (length-take-le n buf (omega arith))))
    go (suc k) true e = (omega arith, ltb-true (n + suc k) (length buf) e)
    go k false e = tt

pub reading_next : {E : Type 0} (buf : List ℕ) (n : ℕ) (got : Result ℕ E) {r s : ControlFlow Stream ℕ} → r ≡ s → r ≡ reading_of n got (length buf) → Goes n buf s
reading_next buf n got e h = subst (Goes n buf) (sym h ∙ e) (reading_goes buf n got)

-- What is known of a stream that was read.
pub arrived_stream : (buf : List ℕ) (r : Arrived) → ArrivedIn buf r → StreamPost buf r.stream
arrived_stream buf r e = subst (Goes r.before buf) e (reading_goes buf r.before r.got)

-- ---- for callers: the front that an answer counts

pub streamed : (buf : List ℕ) (r : Stream) (n : ℕ) → r ≡ Ok n → StreamPost buf r → IsPrefixLen n buf
streamed buf r n e p = (subst (StreamPost buf) e p).1
