-- Laws of packing lines: one line, the loop over all of them, and the batch that stands at the end.
use mathlib.Core.Path.{◌≡◌, refl, sym, ap, ap₂, ◌∙◌, subst}
use mathlib.Core.List.{List, [], ◌∷◌, ◌++◌, append_assoc, append-nil}
use mathlib.Core.Bool.{Bool, true, false, cond}
use mathlib.Core.Logic.{◌≢◌}
use Rattle.std.specs.Prelude.{Some, Result, Ok, Err}
use Prim.Native.Nat.{ℕ, suc, ◌+◌, ◌≤◌}
use native.Mathlib.Omega.{arith}
use lib.Dec.{leb}
use lib.ListN.{length, take, drop, set, take-append-drop}
use lib.Seq.{sets, sets-eq, length-sets, take_at, drop-drop, drop-set-lt, length-take-le}
use borrow.Author.Tests.{le-leb, leb-true}
use Rattle.wire.specs.Varints.{PutPost}
use Rattle.batch.specs.Chain.{chain_of}
use Rattle.batch.specs.Packing.{word_bytes, record_bytes, packed, RecordPost}
use Rattle.batch.proofs.PackingLaws.{Open, open_start, open_packed, open_behind, open_next, word_length, record_length, Finds, packed_chain}
use Rattle.std.specs.Counts.{IsPrefixLen}
use Rattle.console.specs.Input.{PieceOf}
use Rattle.exports.specs.declared.packing.Place.{Place}
use Rattle.exports.specs.declared.packing.PackError.{PackError}
use Rattle.exports.specs.declared.packing.PackError.TheVariants.{BadLine, TooLong}
use Rattle.exports.specs.Lines.{lines_of, trimmed, state_of, Held, nothing, state, other, held_by, held}
use Rattle.exports.specs.Packing.{Stop, finished, bad, long, Packing, stops, after, line_then, packing, packing_of, FitPost, LinePost, packed_by, PackedPost}
use Rattle.exports.proofs.LineLaws.{line_at, line_left}

-- ---- one line

held_by_lem : (word : List ℕ) → length word ≢ 0 → held word ≡ held_by (state_of word)
held_by_lem [] n = absurd (n refl)
held_by_lem (b ∷ word) n = refl

module _ (word out : List ℕ) (n : ℕ) (p : Place) (some : length word ≢ 0) (s : List ℕ) (e : state_of word ≡ Some s) where
  turn_state : (r : Result Place PackError) (now : List ℕ) (t : Bool) → leb (p.end + 8 + length s) (length out) ≡ t → FitPost t n out p s r now → LinePost (held word) n out p r now
  turn_state r now t f post =
      subst (λ (x : Held). LinePost x n out p r now) (sym (held_by_lem word some ∙ ap held_by e)) (subst (λ (b : Bool). FitPost b n out p s r now) (sym f) post)

  -- Its record fits.
  pub turn_next : (now : List ℕ) (r : ℕ) → p.end + 8 + length s ≤ length out → RecordPost out p.last p.end s r now → LinePost (held word) n out p (Ok (record { last = p.end; end = r })) now
  turn_next now r h post =
      let f : r ≡ p.end + 8 + length s = omega (arith, post.put.next, record_length 0 s) in
      turn_state (Ok (record { last = p.end; end = r })) now true (le-leb (p.end + 8 + length s) (length out) h)
      (ap (λ (k : ℕ). Ok (record { last = p.end; end = k })) f, subst (λ (k : ℕ). RecordPost out p.last p.end s k now) f post)

-- ---- all lines

after_twice : (a b : List (List ℕ)) (x : Packing) → after a (after b x) ≡ after (a ++ b) x
after_twice a b x = ap (λ (l : List (List ℕ)). record { states = l; stop = x.stop }) (sym (append_assoc a b x.states))

-- Bytes past those that were put are as they were.
drop_sets : (bytes out : List ℕ) (at k : ℕ) → at + length bytes ≤ k → drop k (sets out at bytes) ≡ drop k out
drop_sets [] out at k h = refl
drop_sets (b ∷ bytes) out at k h = drop_sets bytes (set out at b) (suc at) k (omega arith) ∙ drop-set-lt k out at b (omega arith)

put_past : (out bytes now : List ℕ) (at r : ℕ) → PutPost out at bytes r now → drop r now ≡ drop r out
put_past out bytes now at r p = ap (drop r) p.output ∙ drop_sets bytes out at r (omega (arith, p.next))

record_past : (out s now : List ℕ) (last end r : ℕ) → last + 4 ≤ end → RecordPost out last end s r now → drop r now ≡ drop r out
record_past out s now last end r behind p =
    put_past (sets out last (word_bytes end)) (record_bytes 0 s) now end r p.put
    ∙ drop_sets (word_bytes end) out last r (omega (arith, word_length end, p.put.next))

-- Further on, too.
further : (out old : List ℕ) (i k n : ℕ) → i + k ≡ n → drop i out ≡ drop i old → drop n out ≡ drop n old
further out old i k n e same =
    ap (λ (j : ℕ). drop j out) (sym e)
    ∙ sym (drop-drop k i out)
    ∙ ap (drop k) same
    ∙ drop-drop k i old
    ∙ ap (λ (j : ℕ). drop j old) e

-- Bytes at the front, and the rest as it was.
front_put : (out bytes now : List ℕ) (n : ℕ) → n ≡ length bytes → n ≤ length out → take n now ≡ bytes → drop n now ≡ drop n out → now ≡ sets out 0 bytes
front_put out bytes now n e room front rest =
    sym (take-append-drop n now)
    ∙ ap₂ (λ (a b : List ℕ). a ++ b) front rest
    ∙ sym (sets-eq bytes out 0 (omega arith) ∙ ap (λ (k : ℕ). bytes ++ drop k out) (let z : 0 + length bytes ≡ n = omega arith in z))

-- The batch of the states so far, and what the lines that are left make of it. `old` is what `out` was with the batch of no states.
pub record Packs (text old out : List ℕ) (p : Place) (rest : List ℕ) (line : ℕ) : Type 0 where
  pub done : List (List ℕ)
  pub opened : Open done p.last p.end (take p.end out)
  pub inside : p.end ≤ length out
  pub size : length out ≡ length old
  pub untouched : drop p.end out ≡ drop p.end old
  pub counted : line + length rest ≤ length text
  pub whole : packing_of (length old) text ≡ after done (packing (length old) line p.end (lines_of rest))

pub packs_start : (text rest out now : List ℕ) (r : ℕ) → rest ≡ text → 4 ≤ length out → PutPost out 0 (word_bytes 0) r now
    → Packs text now now (record { last = 0; end = r }) rest 0
packs_start text rest out now r all room post =
    let e : r ≡ 4 = omega (arith, post.next, word_length 0) in
    let same : length now ≡ length out = ap (λ (l : List ℕ). length l) post.output ∙ length-sets out 0 (word_bytes 0) in
    let fits : 0 + length (word_bytes 0) ≤ length out = omega (arith, word_length 0) in
    let front : word_bytes 0 ≡ take r now =
    sym
    (ap₂ (λ (k : ℕ) (l : List ℕ). take k l) e (post.output ∙ sets-eq (word_bytes 0) out 0 fits)
    ∙ take_at (word_bytes 0) (drop (0 + length (word_bytes 0)) out) 4 (word_length 0)) in
    record {
      done = [];
      opened = subst (λ (k : ℕ). Open [] 0 k (take r now)) (sym e) (subst (λ (l : List ℕ). Open [] 0 4 l) front open_start);
      inside = omega arith;
      size = refl;
      untouched = refl;
      counted = omega (arith, ap length all);
      whole = ap₂ (λ (k : ℕ) (l : List ℕ). packing (length now) 0 k (lines_of l)) (sym e) (sym all);
    }

-- Packing stops here: the batch of the lines so far stands there, and nothing past it was touched.
module _ (text entry spare left old : List ℕ) (first : ℕ) (began : PutPost entry 0 (word_bytes 0) first old) (free : length left ≡ length spare)
    (out : List ℕ) (p : Place) (rest : List ℕ) (line : ℕ) (g : Packs text old out p rest line) where
  stands : (stop : Stop) → packing_of (length old) text ≡ after g.done (stops stop)
      → PackedPost (packing_of (length entry) text) spare entry (packed_by stop p.end) left out
  stands stop whole =
      let same : length old ≡ length entry = ap (λ (l : List ℕ). length l) began.output ∙ length-sets entry 0 (word_bytes 0) in
      let front : take p.end out ≡ packed g.done = open_packed g.opened in
      let count : p.end ≡ length (packed g.done) = sym (length-take-le p.end out g.inside) ∙ ap (λ (l : List ℕ). length l) front in
      let inside : p.end ≤ length entry = omega (arith, g.inside, g.size) in
      let past : drop p.end out ≡ drop p.end entry =
      g.untouched ∙ ap (drop p.end) began.output ∙ drop_sets (word_bytes 0) entry 0 p.end (omega (arith, word_length 0, open_behind g.opened)) in
      let states : packing_of (length entry) text ≡ record { states = g.done; stop = stop } =
      ap (λ (k : ℕ). packing_of k text) (sym same) ∙ whole ∙ ap (λ (l : List (List ℕ)). record { states = l; stop = stop }) (append-nil g.done) in
      subst (λ (x : Packing). PackedPost x spare entry (packed_by stop p.end) left out) (sym states)
      (record {
        answer = ap (packed_by stop) count;
        output = front_put entry (packed g.done) out p.end count inside front past;
        inside = omega arith;
        free = free;
      })

  -- No line is left.
  pub packs_end : length rest ≡ 0 → PackedPost (packing_of (length entry) text) spare entry (Ok p.end) left out
  unfolding packing lines_of
  packs_end h = stands finished (g.whole ∙ ap (after g.done) (go rest h))
    where
      go : (l : List ℕ) → length l ≡ 0 → packing (length old) line p.end (lines_of l) ≡ stops finished
      go [] h = refl
      go (b ∷ l) h = absurd (let z : ⊥ = omega arith in z)

module _ (text old out : List ℕ) (p : Place) (rest : List ℕ) (line : ℕ) (g : Packs text old out p rest line) (piece next word : List ℕ)
    (first : PieceOf 10 rest piece next) (is : word ≡ trimmed piece) where
  more : ℕ → Packing
  more e = packing (length old) (line + 1) e (lines_of next)

  opened_line : packing_of (length old) text ≡ after g.done (line_then (length old) (line + 1) p.end (held word) more)
  unfolding packing more
  opened_line =
      g.whole
      ∙ ap (λ (l : List (List ℕ)). after g.done (packing (length old) line p.end l)) (line_at rest piece next first)
      ∙ ap (λ (w : List ℕ). after g.done (line_then (length old) (line + 1) p.end (held w) more)) (sym is)

  -- Whether the record of s fits.
  fitted : (s : List ℕ) (t : Bool) → leb (p.end + 8 + length s) (length out) ≡ t
      → packing_of (length old) text ≡ after g.done (line_then (length old) (line + 1) p.end (state s) more)
      → packing_of (length old) text ≡ after g.done (cond t (after (s ∷ []) (more (p.end + 8 + length s))) (stops (long (line + 1))))
  fitted s t f whole =
      whole
      ∙ ap (λ (b : Bool). after g.done (cond b (after (s ∷ []) (more (p.end + 8 + length s))) (stops (long (line + 1)))))
      (ap (leb (p.end + 8 + length s)) (sym g.size) ∙ f)

  turned : (q : Place) (now : List ℕ) → length now ≡ length out → (h : Held)
      → packing_of (length old) text ≡ after g.done (line_then (length old) (line + 1) p.end h more) → LinePost h (line + 1) out p (Ok q) now
      → Packs text old now q next (line + 1)
  unfolding more
  turned q now same nothing whole post =
      let f : p ≡ q = cc post.0 in
      subst (λ (x : Place). Packs text old now x next (line + 1)) f
      (record {
        done = g.done;
        opened = subst (λ (l : List ℕ). Open g.done p.last p.end (take p.end l)) (sym post.1) g.opened;
        inside = omega (arith, g.inside);
        size = same ∙ g.size;
        untouched = ap (drop p.end) post.1 ∙ g.untouched;
        counted = omega (arith, g.counted, line_left rest piece next first);
        whole = whole;
      })
  turned q now same (state s) whole post = fit (leb (p.end + 8 + length s) (length out)) refl post
    where
      fit : (t : Bool) → leb (p.end + 8 + length s) (length out) ≡ t → FitPost t (line + 1) out p s (Ok q) now → Packs text old now q next (line + 1)
      fit true f post =
          let room_for : p.end + 8 + length s ≤ length out = leb-true (p.end + 8 + length s) (length out) f in
          let k : record { last = p.end; end = p.end + 8 + length s } ≡ q = cc post.0 in
          subst (λ (x : Place). Packs text old now x next (line + 1)) k
          (record {
            done = g.done ++ s ∷ [];
            opened = open_next out s now (p.end + 8 + length s) room_for g.opened post.1;
            inside = omega arith;
            size = same ∙ g.size;
            untouched =
                record_past out s now p.last p.end (p.end + 8 + length s) (open_behind g.opened) post.1
                ∙ further out old p.end (8 + length s) (p.end + 8 + length s) (omega arith) g.untouched;
            counted = omega (arith, g.counted, line_left rest piece next first);
            whole = fitted s true f whole ∙ after_twice g.done (s ∷ []) (more (p.end + 8 + length s));
          })
      fit false f post = let m = post.0 in absurd (let z : ◌≡◌ {A = ℕ} 0 1 = cc in omega arith)
  turned q now same other whole post = let m = post.0 in absurd (let z : ◌≡◌ {A = ℕ} 0 1 = cc in omega arith)

  pub packs_turn : (q : Place) (now : List ℕ) → length now ≡ length out → LinePost (held word) (line + 1) out p (Ok q) now → Packs text old now q next (line + 1)
  packs_turn q now same post = turned q now same (held word) opened_line post

  -- A line is refused, which leaves everything as it was.
  module _ (entry spare left : List ℕ) (begins : ℕ) (began : PutPost entry 0 (word_bytes 0) begins old) (free : length left ≡ length spare) (e : PackError) (now : List ℕ) where
    refuses : (stop : Stop) → packing_of (length old) text ≡ after g.done (stops stop) → Err e ≡ packed_by stop p.end → now ≡ out
        → PackedPost (packing_of (length entry) text) spare entry (Err e) left now
    refuses stop whole answer same =
        subst (λ (y : Result ℕ PackError). PackedPost (packing_of (length entry) text) spare entry y left now) (sym answer)
        (subst (λ (o : List ℕ). PackedPost (packing_of (length entry) text) spare entry (packed_by stop p.end) left o) (sym same)
        (stands text entry spare left old begins began free out p rest line g stop whole))

    same_error : (f : PackError) → ◌≡◌ {A = Result Place PackError} (Err e) (Err f) → ◌≡◌ {A = Result ℕ PackError} (Err e) (Err f)
    same_error f h = cc

    stopped : (h : Held) → packing_of (length old) text ≡ after g.done (line_then (length old) (line + 1) p.end h more) → LinePost h (line + 1) out p (Err e) now
        → PackedPost (packing_of (length entry) text) spare entry (Err e) left now
    stopped nothing whole post = let m = post.0 in absurd (let z : ◌≡◌ {A = ℕ} 0 1 = cc in omega arith)
    stopped (state s) whole post = fit (leb (p.end + 8 + length s) (length out)) refl post
      where
        fit : (t : Bool) → leb (p.end + 8 + length s) (length out) ≡ t → FitPost t (line + 1) out p s (Err e) now → PackedPost (packing_of (length entry) text) spare entry (Err e) left now
        fit true f post = let m = post.0 in absurd (let z : ◌≡◌ {A = ℕ} 0 1 = cc in omega arith)
        fit false f post = refuses (long (line + 1)) (fitted s false f whole) (same_error (TooLong (line + 1)) post.0) post.1
    stopped other whole post = refuses (bad (line + 1)) whole (same_error (BadLine (line + 1)) post.0) post.1

    pub packs_refused : LinePost (held word) (line + 1) out p (Err e) now → PackedPost (packing_of (length entry) text) spare entry (Err e) left now
    packs_refused post = stopped (held word) opened_line post

-- ---- for callers: the batch lies inside, and walking it finds the states of the lines

module _ {x : Packing} {spare out : List ℕ} {r : Result ℕ PackError} {left now : List ℕ} {n : ℕ} (e : r ≡ Ok n) (post : PackedPost x spare out r left now) where
  -- Only packing that ends with the last line makes a batch.
  made_is : (stop : Stop) → r ≡ packed_by stop (length (packed x.states)) → n ≡ length (packed x.states)
  made_is finished f = cc
  made_is (bad line) f = absurd (let z : ◌≡◌ {A = ℕ} 0 1 = cc in omega arith)
  made_is (long line) f = absurd (let z : ◌≡◌ {A = ℕ} 0 1 = cc in omega arith)

  pub made_bytes : take n now ≡ packed x.states
  made_bytes =
      ap₂ (λ (k : ℕ) (l : List ℕ). take k l) (made_is x.stop post.answer) (post.output ∙ sets-eq (packed x.states) out 0 (omega (arith, post.inside)))
      ∙ take_at (packed x.states) (drop (0 + length (packed x.states)) out) (length (packed x.states)) refl

  pub made_counts : IsPrefixLen n now
  made_counts =
      let inside : n ≤ length now =
      omega (arith, made_is x.stop post.answer, post.inside, ap (λ (l : List ℕ). length l) post.output ∙ length-sets out 0 (packed x.states)) in
      (inside, sym (length-take-le n now inside))

  -- What is packed into 65,536 bytes at most, walks as the states of the lines in order.
  pub made_walks : length out ≤ 65536 → Finds (take n now) (chain_of (take n now)) x.states
  made_walks short =
      subst (λ (b : List ℕ). Finds b (chain_of b) x.states) (sym made_bytes) (packed_chain x.states (omega (arith, post.inside)))
