-- A batch made of states: what appending a record leaves is the batch of one more state, and walking a batch so made finds its states in order.
use Prim.Native.Nat.{ℕ, zero, suc, ◌+◌, ◌-◌, ◌^◌, ◌<◌, ◌≤◌}
use mathlib.Core.Path.{◌≡◌, refl, sym, ap, ap₂, ◌∙◌, subst}
use mathlib.Core.List.{List, [], ◌∷◌, ◌++◌, append_assoc, append-nil, map}
use mathlib.Core.Bool.{Bool, true, ◌&&◌}
use native.Mathlib.Omega.{arith}
use lib.Dec.{ltb, leb}
use lib.ListN.{length, get_or, take, drop, length-append, length-drop, take-append-drop}
use lib.Seq.{sets, sets-eq, length-sets, take_at, drop_at, get_or-drop, drop-drop}
use borrow.Author.Tests.{le-leb, lt-ltb}
use Rattle.std.proofs.lemmas.Nat.{from_le_bytes-to_le_bytes_4}
use Rattle.std.specs.Prelude.{Ok}
use Rattle.wire.proofs.EncodingLaws.{Three, three}
use Rattle.batch.specs.Chain.{word_at, next_at, length_at, state_at, is_record, Chain, onto, chain_from, is_batch, chain_of}
use Rattle.batch.specs.Packing.{word_bytes, record_bytes, index_of, records_at, packed, RecordPost}
use Rattle.batch.proofs.ChainLaws.{chain_end, chain_next, chain_is}

-- ---- words

pub word_length : (v : ℕ) → length (word_bytes v) ≡ 4
unfolding word_bytes
word_length v = refl

word_front : (v : ℕ) (l : List ℕ) → v < 2 ^ 32 → word_at (word_bytes v ++ l) 0 ≡ v
unfolding word_at word_bytes
word_front v l h = omega (arith, from_le_bytes-to_le_bytes_4 v h)

word_drop : (b : List ℕ) (i : ℕ) → word_at b i ≡ word_at (drop i b) 0
unfolding word_at
word_drop b i =
    let e : get_or (drop i b) 0 0 ≡ get_or b i 0 = get_or-drop i b 0 0 ∙ ap (λ (k : ℕ). get_or b k 0) (let z : i + 0 ≡ i = omega arith in z) in
    omega (arith, e, get_or-drop i b 1 0, get_or-drop i b 2 0, get_or-drop i b 3 0)

-- A word that stands at the front of the rest.
word_there : (b : List ℕ) (i v : ℕ) (l : List ℕ) → v < 2 ^ 32 → drop i b ≡ word_bytes v ++ l → word_at b i ≡ v
word_there b i v l h e = word_drop b i ∙ ap (λ (x : List ℕ). word_at x 0) e ∙ word_front v l h

-- ---- records

pub record_length : (next : ℕ) (s : List ℕ) → length (record_bytes next s) ≡ 8 + length s
unfolding record_bytes
record_length next s =
    omega (arith, length-append (word_bytes next) (word_bytes (length s) ++ s), length-append (word_bytes (length s)) s, word_length next, word_length (length s))

pub record_three : (next : ℕ) (s : List ℕ) → Three (record_bytes next s) (word_bytes next) (word_bytes (length s)) s
unfolding record_bytes
record_three next s = three (word_bytes next) (word_bytes (length s)) s refl

-- ---- walking

-- What stands at the index of a record: its next index, its length, its state, and then the rest.
module _ (b : List ℕ) (e next : ℕ) (s rest : List ℕ) (at-e : drop e b ≡ record_bytes next s ++ rest) where
  all_there : drop e b ≡ word_bytes next ++ (word_bytes (length s) ++ (s ++ rest))
  unfolding record_bytes
  all_there =
      at-e
      ∙ append_assoc (word_bytes next) (word_bytes (length s) ++ s) rest
      ∙ ap (λ (l : List ℕ). word_bytes next ++ l) (append_assoc (word_bytes (length s)) s rest)

  size_there : drop (e + 4) b ≡ word_bytes (length s) ++ (s ++ rest)
  size_there = sym (drop-drop 4 e b) ∙ ap (drop 4) all_there ∙ drop_at (word_bytes next) (word_bytes (length s) ++ (s ++ rest)) 4 (word_length next)

  state_there : drop (e + 8) b ≡ s ++ rest
  state_there =
      ap (λ (k : ℕ). drop k b) (let z : e + 8 ≡ e + 4 + 4 = omega arith in z)
      ∙ sym (drop-drop 4 (e + 4) b)
      ∙ ap (drop 4) size_there
      ∙ drop_at (word_bytes (length s)) (s ++ rest) 4 (word_length (length s))

  rest_there : drop (e + 8 + length s) b ≡ rest
  rest_there = sym (drop-drop (length s) (e + 8) b) ∙ ap (drop (length s)) state_there ∙ drop_at s rest (length s) refl

  next_is : next < 2 ^ 32 → next_at b e ≡ next
  next_is h = word_there b e next (word_bytes (length s) ++ (s ++ rest)) h all_there

  length_is : length s < 2 ^ 32 → length_at b e ≡ length s
  length_is h = word_there b (e + 4) (length s) (s ++ rest) h size_there

  state_is : length s < 2 ^ 32 → state_at b e ≡ s
  state_is h = ap₂ (λ (n : ℕ) (l : List ℕ). take n l) (length_is h) state_there ∙ take_at s rest (length s) refl

index_low : (e : ℕ) (states : List (List ℕ)) → index_of e states ≤ e
index_low e [] = omega arith
index_low e (s ∷ states) = omega arith

record_yes : (b : List ℕ) (before i : ℕ) → 4 ≤ i → before < i → i + 8 + length_at b i ≤ length b → is_record b before i ≡ true
unfolding is_record
record_yes b before i low above inside =
    ap (λ (t : Bool). t && ltb before i && leb (i + 8 + length_at b i) (length b)) (le-leb 4 i low)
    ∙ ap (λ (t : Bool). t && leb (i + 8 + length_at b i) (length b)) (lt-ltb before i above)
    ∙ le-leb (i + 8 + length_at b i) (length b) inside

-- A chain of the batch b that has these states, and ends with an index of zero.
pub record Finds (b : List ℕ) (c : Chain) (states : List (List ℕ)) : Type 0 where
  pub found : map (state_at b) c.indices ≡ states
  pub ending : c.ending ≡ Ok tt

-- From a record on, the chain has the states whose records stand there.
walks : (states : List (List ℕ)) (b : List ℕ) (n before e : ℕ) → length b ≤ 65536 → 4 ≤ e → before < e → e ≤ length b → length b ≤ before + n
    → drop e b ≡ records_at e states → Finds b (chain_from n b before (index_of e states)) states
unfolding records_at
walks [] b n before e short low above inside bound at-e = subst (λ (c : Chain). Finds b c []) (sym (chain_end n b before 0 refl)) (record { found = refl; ending = refl })
walks (s ∷ states) b zero before e short low above inside bound at-e = absurd (let z : ⊥ = omega arith in z)
walks (s ∷ states) b (suc n) before e short low above inside bound at-e =
    let past = e + 8 + length s in
    let next = index_of past states in
    let rest = records_at past states in
    let there : length b - e ≡ 8 + length s + length rest =
    sym (length-drop e b) ∙ ap (λ (l : List ℕ). length l) at-e ∙ length-append (record_bytes next s) rest ∙ ap (λ (k : ℕ). k + length rest) (record_length next s) in
    let in_b : past ≤ length b = omega arith in
    let small : length s < 2 ^ 32 = omega arith in
    let next_small : next < 2 ^ 32 = omega (arith, index_low past states) in
    let long : length_at b e ≡ length s = length_is b e next s rest at-e small in
    let ok : is_record b before e ≡ true = record_yes b before e low above (subst (λ (k : ℕ). e + 8 + k ≤ length b) (sym long) in_b) in
    let index : (e ≡ 0 → ⊥) = λ (z : e ≡ 0). let y : ⊥ = omega arith in y in
    let others = walks states b n e past short (omega arith) (omega arith) in_b (omega arith) (rest_there b e next s rest at-e) in
    subst (λ (c : Chain). Finds b c (s ∷ states))
    (sym (chain_next n b before e index ok ∙ ap (λ (k : ℕ). onto e (chain_from n b e k)) (next_is b e next s rest at-e next_small)))
    (record { found = ap₂ (λ (x : List ℕ) (l : List (List ℕ)). x ∷ l) (state_is b e next s rest at-e small) others.found; ending = others.ending })

-- Packing and walking agree: the chain of a batch made of states has these states, in order, and ends with an index of zero.
pub packed_chain : (states : List (List ℕ)) → length (packed states) ≤ 65536 → Finds (packed states) (chain_of (packed states)) states
unfolding packed
packed_chain states short =
    let b = word_bytes (index_of 4 states) ++ records_at 4 states in
    let size : length b ≡ 4 + length (records_at 4 states) = length-append (word_bytes (index_of 4 states)) (records_at 4 states) ∙ ap (λ (k : ℕ). k + length (records_at 4 states)) (word_length (index_of 4 states)) in
    let four_up : 4 ≤ length b = omega arith in
    let ok : is_batch b ≡ true = ap (λ (t : Bool). t && leb (length b) 65536) (le-leb 4 (length b) four_up) ∙ le-leb (length b) 65536 short in
    subst (λ (c : Chain). Finds b c states)
    (sym
    (chain_is b ok
    ∙ ap (λ (i : ℕ). chain_from (length b) b 0 i) (word_front (index_of 4 states) (records_at 4 states) (omega (arith, index_low 4 states)))))
    (walks states b (length b) 0 4 short (omega arith) (omega arith) four_up (omega arith) (drop_at (word_bytes (index_of 4 states)) (records_at 4 states) 4 (word_length (index_of 4 states))))

-- ---- appending

-- The batch of the states so far, which ends at `end`. Its chain ends with the index at `last`; what more states make of it is known.
pub record Open (done : List (List ℕ)) (last end : ℕ) (bytes : List ℕ) : Type 0 where
  pub front : List ℕ
  pub back : List ℕ
  pub size : length bytes ≡ end
  pub place : length front ≡ last
  pub whole : bytes ≡ front ++ (word_bytes 0 ++ back)
  pub more : (states : List (List ℕ)) → packed (done ++ states) ≡ front ++ (word_bytes (index_of end states) ++ (back ++ records_at end states))

pub open_start : Open [] 0 4 (word_bytes 0)
unfolding packed
open_start =
    record {
      front = [];
      back = [];
      size = word_length 0;
      place = refl;
      whole = sym (append-nil (word_bytes 0));
      more = λ (states : List (List ℕ)). refl;
    }

pub open_packed : {done : List (List ℕ)} {last end : ℕ} {bytes : List ℕ} → Open done last end bytes → bytes ≡ packed done
unfolding records_at
open_packed {done} o =
    o.whole
    ∙ ap (λ (l : List ℕ). o.front ++ (word_bytes 0 ++ l)) (sym (append-nil o.back))
    ∙ sym (o.more [])
    ∙ ap packed (append-nil done)

pub open_behind : {done : List (List ℕ)} {last end : ℕ} {bytes : List ℕ} → Open done last end bytes → last + 4 ≤ end
open_behind o =
    omega (arith, ap (λ (l : List ℕ). length l) o.whole ∙ length-append o.front (word_bytes 0 ++ o.back), length-append (word_bytes 0) o.back, word_length 0, o.size, o.place)

-- Another list in the place of the word between two lists.
word_between : (front back rest : List ℕ) (v w : ℕ)
    → sets ((front ++ (word_bytes v ++ back)) ++ rest) (length front) (word_bytes w) ≡ (front ++ (word_bytes w ++ back)) ++ rest
word_between front back rest v w =
    let l = (front ++ (word_bytes v ++ back)) ++ rest in
    let flat : l ≡ front ++ (word_bytes v ++ (back ++ rest)) =
    append_assoc front (word_bytes v ++ back) rest ∙ ap (λ (x : List ℕ). front ++ x) (append_assoc (word_bytes v) back rest) in
    let long : length l ≡ length front + (4 + length (back ++ rest)) =
    ap (λ (x : List ℕ). length x) flat ∙ length-append front (word_bytes v ++ (back ++ rest)) ∙ ap (λ (k : ℕ). length front + k) (length-append (word_bytes v) (back ++ rest) ∙ ap (λ (k : ℕ). k + length (back ++ rest)) (word_length v)) in
    let behind : drop (length front + length (word_bytes w)) l ≡ back ++ rest =
    ap₂ (λ (k : ℕ) (x : List ℕ). drop k x) (ap (λ (k : ℕ). length front + k) (word_length w)) flat
    ∙ sym (drop-drop 4 (length front) (front ++ (word_bytes v ++ (back ++ rest))))
    ∙ ap (drop 4) (drop_at front (word_bytes v ++ (back ++ rest)) (length front) refl)
    ∙ drop_at (word_bytes v) (back ++ rest) 4 (word_length v) in
    sets-eq (word_bytes w) l (length front) (omega (arith, long, word_length w))
    ∙ ap₂ (λ (x y : List ℕ). x ++ word_bytes w ++ y) (ap (take (length front)) flat ∙ take_at front (word_bytes v ++ (back ++ rest)) (length front) refl) behind
    ∙ append_assoc front (word_bytes w) (back ++ rest)
    ∙ ap (λ (x : List ℕ). front ++ x) (sym (append_assoc (word_bytes w) back rest))
    ∙ sym (append_assoc front (word_bytes w ++ back) rest)

-- One more record.
pub open_next : {done : List (List ℕ)} {last end : ℕ} (out s after : List ℕ) (r : ℕ) → end + 8 + length s ≤ length out → Open done last end (take end out)
    → RecordPost out last end s r after → Open (done ++ s ∷ []) end r (take r after)
unfolding records_at record_bytes
open_next {done} {last} {end} out s after r room o p =
    let front = o.front in
    let back = o.back in
    let tail = drop end out in
    let start = front ++ (word_bytes end ++ back) in
    let new = record_bytes 0 s in
    let size : length (take end out) ≡ end = o.size in
    let split : out ≡ (front ++ (word_bytes 0 ++ back)) ++ tail = sym (take-append-drop end out) ∙ ap (λ (l : List ℕ). l ++ tail) o.whole in
    let linked : sets out last (word_bytes end) ≡ start ++ tail =
    ap₂ (λ (l : List ℕ) (k : ℕ). sets l k (word_bytes end)) split (sym o.place) ∙ word_between front back tail 0 end in
    let e_start : length start ≡ end =
    length-append front (word_bytes end ++ back)
    ∙ ap (λ (k : ℕ). length front + k) (length-append (word_bytes end) back ∙ ap (λ (k : ℕ). k + length back) (word_length end ∙ sym (word_length 0)) ∙ sym (length-append (word_bytes 0) back))
    ∙ sym (length-append front (word_bytes 0 ++ back))
    ∙ ap (λ (l : List ℕ). length l) (sym o.whole)
    ∙ size in
    let e_r : r ≡ end + length new = p.put.next in
    let fits : end + length new ≤ length (start ++ tail) =
    omega (arith, record_length 0 s, ap (λ (l : List ℕ). length l) linked, length-sets out last (word_bytes end)) in
    let shown : after ≡ start ++ new ++ drop (end + length new) (start ++ tail) =
    p.put.output
    ∙ ap (λ (l : List ℕ). sets l end new) linked
    ∙ sets-eq new (start ++ tail) end fits
    ∙ ap (λ (l : List ℕ). l ++ new ++ drop (end + length new) (start ++ tail)) (take_at start tail end e_start) in
    let now : take r after ≡ start ++ new =
    ap₂ (λ (k : ℕ) (l : List ℕ). take k l) e_r shown
    ∙ take_at (start ++ new) (drop (end + length new) (start ++ tail)) (end + length new) (length-append start new ∙ ap (λ (k : ℕ). k + length new) e_start) in
    let e_past : end + 8 + length s ≡ r = omega (arith, record_length 0 s) in
    record {
      front = start;
      back = word_bytes (length s) ++ s;
      size = ap (λ (l : List ℕ). length l) now ∙ length-append start new ∙ ap (λ (k : ℕ). k + length new) e_start ∙ sym e_r;
      place = e_start;
      whole = now;
      more =
          λ (states : List (List ℕ)).
          ap packed (append_assoc done (s ∷ []) states)
          ∙ o.more (s ∷ states)
          ∙ ap (λ (k : ℕ). front ++ (word_bytes end ++ (back ++ (record_bytes (index_of k states) s ++ records_at k states)))) e_past
          ∙ ap (λ (l : List ℕ). front ++ (word_bytes end ++ (back ++ l))) (append_assoc (word_bytes (index_of r states)) (word_bytes (length s) ++ s) (records_at r states))
          ∙ ap (λ (l : List ℕ). front ++ l) (sym (append_assoc (word_bytes end) back (word_bytes (index_of r states) ++ ((word_bytes (length s) ++ s) ++ records_at r states))))
          ∙ sym (append_assoc front (word_bytes end ++ back) (word_bytes (index_of r states) ++ ((word_bytes (length s) ++ s) ++ records_at r states)));
    }
