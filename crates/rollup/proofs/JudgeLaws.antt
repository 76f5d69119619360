-- Questions 2 to 20, taken apart: what is known of a state that was accepted, fact by fact, and each question's answer on its own.
use Rattle.std.proofs.Common.{◌≡◌, ℕ, zero, suc, ◌+◌, ◌^◌, ◌<◌, ◌≤◌, Bool, true, false, cond, not, ◌&&◌, ◌||◌, eqb, leb, List, [], ◌∷◌, length, sym, refl, ap, ◌∙◌, subst, ap₂, Result, Ok, Err, pos_of_ne-zero, arith, eq-eqb, ne_eqb, eqb-true, le-leb, leb-true}
use mathlib.Core.Option.{Option, none, some}
use borrow.Author.Tests.{lt-leb, eqb-false, not-true}
use Rattle.wire.proofs.BoolLaws.{both, both_true}
use Rattle.wire.proofs.BoundLaws.{sparse_data_within, read_number}
use Rattle.wire.specs.Reading.{Read, got, refused, and_then}
use Rattle.wire.specs.State.{HllState, State, bytes_or_none, state_of, read_state}
use Rattle.wire.specs.Layout.{CutReading, cut_refused, cut_before_hll}
use Rattle.wire.specs.declared.view.StateView.{StateView}
use Rattle.lists.specs.Values.{Pair, largest_rank}
use Rattle.lists.specs.Lists.{decode_of}
use Rattle.lists.specs.Registers.{register_bytes, registers_of, largest, Holds}
use Rattle.lists.proofs.RankLaws.{largest_least}
use Rattle.lists.proofs.RegisterLaws.{row_holds, row_registers}
use Rattle.lists.proofs.DecodingLaws.{decode_none}
use Rattle.rollup.specs.declared.accumulator.Form.{Form}
use Rattle.rollup.specs.declared.accumulator.Form.TheVariants.{Unstarted, Sparse, Dense}
use Rattle.rollup.specs.declared.accumulator.Accumulator.{Accumulator}
use Rattle.rollup.specs.declared.refusal.Refusal.{Refusal}
use Rattle.rollup.specs.declared.refusal.Refusal.TheVariants.{TooLong, Unread}
use Rattle.rollup.specs.Refusals.{number}
use Rattle.wire.specs.View.{ViewPost}
use Rattle.lists.specs.Lists.{Decodes}
use Rattle.wire.specs.declared.read_error.ReadError.{ReadError}
use Rattle.rollup.proofs.RefusalLaws.{number_some}
use Rattle.rollup.specs.Accumulator.{Mem, normal_range, sparse_range}
use Rattle.rollup.specs.Header.{viewed, ask, first_no, data_of, list_of, is_empty, kind_answer, list_has_precision, data_has_length, needs_pair, pair_in_range, structure_answer, registers_in_range, header_answer, passing, read_header}
use Rattle.rollup.specs.Adding.{masks_meet, has_field, has_both, same_pair, carried, match_answer, judge, judge_answer, wanted_precision, wanted_registers, wanted_cells, has_room, listed_in}
use Rattle.rollup.specs.Judging.{judged_means, HeaderPost, JudgePost, RoomPre, ListedPre}
use Rattle.rollup.proofs.FitLaws.{above_zero, range_of, ranges_pair, fit_sparse, fit_dense, fit_short}

-- ---- Bools

pub either_no : {a : Bool} (b : Bool) → a ≡ false → b ≡ a || b
either_no b e = sym (ap (λ (x : Bool). x || b) e)

or_second : (a b : Bool) → a || b ≡ true → a ≡ false → b ≡ true
or_second a b e f = either_no b f ∙ e

or_true : (a : Bool) → a || true ≡ true
or_true true = refl
or_true false = refl

empty_yes : (l : List ℕ) → length l ≡ 0 → is_empty l ≡ true
empty_yes l e = eq-eqb (length l) 0 e

empty_no : (l : List ℕ) → (length l ≡ 0 → ⊥) → is_empty l ≡ false
empty_no l h = ne_eqb (length l) 0 h

not_empty : (l : List ℕ) → 0 < length l → is_empty l ≡ false
not_empty l h = empty_no l (λ (e : length l ≡ 0). let z : ⊥ = omega arith in z)

-- ---- questions in a row

pub go : {b : Bool} (n next : ℕ) → b ≡ true → ask b n next ≡ next
go n next e = ap (λ (t : Bool). ask t n next) e

pub stop : {b : Bool} (n next : ℕ) → b ≡ false → ask b n next ≡ n
stop n next e = ap (λ (t : Bool). ask t n next) e

-- One that was passed, of those in a row.
asked : (b : Bool) (n next : ℕ) → ask b (suc n) next ≡ 0 → (b ≡ true) × (next ≡ 0)
asked true n next e = (refl, e)
asked false n next e = absurd (let z : ⊥ = omega arith in z)

-- Some that were answered with n, and others that follow.
module _ (n k next : ℕ) (e : n ≡ k) where
  first_go : n ≡ 0 → first_no k next ≡ next
  first_go z = go k next (eq-eqb k 0 (sym e ∙ z))

first_zero : (k next : ℕ) → first_no k next ≡ 0 → (k ≡ 0) × (next ≡ 0)
first_zero k next e = pick (eqb k 0) refl e
  where
    pick : (b : Bool) → eqb k 0 ≡ b → ask b k next ≡ 0 → (k ≡ 0) × (next ≡ 0)
    pick true f e = (eqb-true k 0 f, e)
    pick false f e = absurd (eqb-false k 0 f e)

-- A state that was read, with the answer n.
module _ (n : ℕ) (st : State) where
  pass_yes : n ≡ 0 → passing n st ≡ got st []
  pass_yes e = ap (λ (b : Bool). cond b (got st []) (refused n)) (eq-eqb n 0 e)

  pass_no : (n ≡ 0 → ⊥) → passing n st ≡ refused n
  pass_no h = ap (λ (b : Bool). cond b (got st []) (refused n)) (ne_eqb n 0 h)

  passed : (x : State) (rest : List ℕ) → passing n st ≡ got x rest → (n ≡ 0) × (st ≡ x)
  passed x rest = pick (eqb n 0) refl
    where
      pick : (b : Bool) → eqb n 0 ≡ b → cond b (got st []) (refused n) ≡ got x rest → (n ≡ 0) × (st ≡ x)
      pick true f e = (eqb-true n 0 f, cc)
      pick false f e = absurd (let z : ◌≡◌ {A = ℕ} 0 1 = cc in omega arith)

  pass_number : (k : ℕ) → passing n st ≡ refused k → 0 < k
  pass_number k = pick (eqb n 0) refl
    where
      pick : (b : Bool) → eqb n 0 ≡ b → cond b (got st []) (refused n) ≡ refused k → 0 < k
      pick true f e = absurd (let z : ◌≡◌ {A = ℕ} 0 1 = cc in omega arith)
      pick false f e = let z : n ≡ k = cc in let h = pos_of_ne-zero (eqb-false n 0 f) in omega arith

-- ---- 10 to 13

-- What is left of the questions after each that is passed.
abbrev pub from13 : State → ℕ
from13 st = ask (pair_in_range st) 13 0

abbrev pub from12 : State → ℕ
from12 st = ask (data_has_length st) 12 (from13 st)

abbrev pub from11 : State → ℕ
from11 st = ask (normal_range st.hll.precision) 11 (from12 st)

abbrev pub from10 : State → ℕ
from10 st = ask (list_has_precision st) 10 (from11 st)

-- 13, where it is asked.
pub pair_asked : (st : State) → needs_pair st ≡ true → sparse_range st.hll.precision st.hll.sparse_precision ≡ pair_in_range st
pair_asked st e = either_no _ (ap not e)

-- ---- 14

-- What 10 to 13 tell where all answers are yes, and 10 to 14.
record StructureFacts (st : State) : Type 0 where
  listed : list_has_precision st ≡ true
  normal : normal_range st.hll.precision ≡ true
  size : data_has_length st ≡ true
  sparse : pair_in_range st ≡ true

structure_facts : (st : State) → structure_answer st ≡ 0 → StructureFacts st
unfolding structure_answer
structure_facts st e =
    let whole = first_zero (kind_answer st) (from10 st) e in
    let e10 = asked (list_has_precision st) 9 _ whole.1 in
    let e11 = asked (normal_range st.hll.precision) 10 _ e10.1 in
    let e12 = asked (data_has_length st) 11 _ e11.1 in
    record {
      listed = e10.0;
      normal = e11.0;
      size = e12.0;
      sparse = (asked (pair_in_range st) 12 _ e12.1).0;
    }

header_facts : (st : State) → header_answer st ≡ 0 → StructureFacts st × (registers_in_range st ≡ true)
unfolding header_answer
header_facts st e =
    let whole = first_zero (structure_answer st) (ask (registers_in_range st) 14 0) e in
    (structure_facts st whole.0, (asked (registers_in_range st) 13 0 whole.1).0)

-- The registers that the data bytes hold are those bytes.
module _ (st : State) (e : structure_answer st ≡ 0) where
  pub data_high : st.hll.precision ≤ 24
  data_high = (range_of st.hll.precision (structure_facts st e).normal).1

  module _ (d : List ℕ) (same : d ≡ data_of st) where
    pub registers_none : length d ≡ 0 → true ≡ registers_in_range st
    registers_none h =
        let z : length (data_of st) ≡ 0 = sym (ap length same) ∙ h in
        let l : largest (data_of st) ≤ 0 =
        largest_least (data_of st) 0 (λ (j : ℕ) (k : j < length (data_of st)). absurd (let y : ⊥ = omega arith in y)) in
        sym (le-leb _ _ (let y : largest (data_of st) ≤ largest_rank st.hll.precision = omega arith in y))

    module _ (some_data : length d ≡ 0 → ⊥) where
      data_size : length d ≡ 2 ^ st.hll.precision
      data_size =
          ap length same
          ∙ eqb-true _ _ (or_second (is_empty (data_of st)) (eqb (length (data_of st)) (2 ^ st.hll.precision)) (structure_facts st e).size
          (empty_no (data_of st) (λ (z : length (data_of st) ≡ 0). some_data (ap length same ∙ z))))

      pub data_holds : Holds st.hll.precision d
      data_holds = record { high = data_high; room = row_holds st.hll.precision d data_size }

      pub registers_some : (r top : ℕ) → r ≡ largest (registers_of st.hll.precision d) → top ≡ largest_rank st.hll.precision → leb r top ≡ registers_in_range st
      registers_some r top h g = ap₂ leb (h ∙ ap largest (row_registers st.hll.precision d data_size ∙ same)) g

-- ---- 2 to 14

module _ (s : List ℕ) where
  pub read_2 : 2147483647 < length s → HeaderPost s (Err TooLong)
  unfolding read_header
  read_2 h =
      record {
        answer =
            sym (ap (λ (b : Bool). cond b (and_then (read_state s) (λ st nothing. passing (header_answer st) st)) (refused 2)) (lt-leb (length s) 2147483647 h));
        inside = tt;
      }

  module _ (h : length s ≤ 2147483647) where
    read_is : (x : Read State) → read_state s ≡ x → read_header s ≡ and_then x (λ st nothing. passing (header_answer st) st)
    unfolding read_header
    read_is x e =
        ap₂ (λ (b : Bool) (y : Read State). cond b (and_then y (λ st nothing. passing (header_answer st) st)) (refused 2)) (le-leb (length s) 2147483647 h) e

    pub read_refused : (e : ReadError) → ViewPost s (Err e) → HeaderPost s (Err (Unread e))
    read_refused e p = record { answer = sym (read_is (refused (number (Unread e))) (sym p.answer)); inside = tt }

    module _ (v : StateView) (p : ViewPost s (Ok v)) (same : v.bytes.now ≡ s) where
      read_answered : (n : ℕ) → n ≡ header_answer (viewed v) → passing n (viewed v) ≡ read_header s
      read_answered n e =
          ap (λ (k : ℕ). passing k (viewed v)) e
          ∙ sym (read_is (got (viewed v) []) (sym p.answer ∙ ap (λ (l : List ℕ). got (state_of l v.fields) []) (sym same)))

      pub read_no : (e : Refusal) → number e ≡ header_answer (viewed v) → HeaderPost s (Err e)
      read_no e f = record { answer = sym (pass_no (number e) (viewed v) (number_some e)) ∙ read_answered (number e) f; inside = tt }

      pub read_yes : 0 ≡ header_answer (viewed v) → HeaderPost s (Ok v)
      read_yes f = record { answer = sym (pass_yes 0 (viewed v) refl) ∙ read_answered 0 f; inside = p.inside }

-- What a state that passed them was.
pub record HeaderRead (bytes : List ℕ) (st : State) : Type 0 where
  pub short : length bytes ≤ 2147483647
  pub rest : List ℕ
  pub read : read_state bytes ≡ got st rest
  pub header : header_answer st ≡ 0

pub header_got : (bytes : List ℕ) (st : State) (rest : List ℕ) → read_header bytes ≡ got st rest → HeaderRead bytes st
unfolding read_header
header_got bytes st rest = by_length (leb (length bytes) 2147483647) refl
  where
    by_read : length bytes ≤ 2147483647 → (x : Read State) → read_state bytes ≡ x → and_then x (λ st nothing. passing (header_answer st) st) ≡ got st rest
        → HeaderRead bytes st
    by_read l (refused n) f e = absurd (let z : ◌≡◌ {A = ℕ} 0 1 = cc in omega arith)
    by_read l (got read more) f e =
        let x = passed (header_answer read) read st rest e in
        record { short = l; rest = more; read = f ∙ ap (λ (y : State). got y more) x.1; header = ap header_answer (sym x.1) ∙ x.0 }

    by_length : (b : Bool) → leb (length bytes) 2147483647 ≡ b
        → cond b (and_then (read_state bytes) (λ st nothing. passing (header_answer st) st)) (refused 2) ≡ got st rest → HeaderRead bytes st
    by_length true l e = by_read (leb-true (length bytes) 2147483647 l) (read_state bytes) refl e
    by_length false l e = absurd (let z : ◌≡◌ {A = ℕ} 0 1 = cc in omega arith)

-- And one that did not has a number above 0.
pub header_number : (bytes : List ℕ) (n : ℕ) → read_header bytes ≡ refused n → 0 < n
unfolding read_header
header_number bytes n = by_length (leb (length bytes) 2147483647)
  where
    by_read : (x : Read State) → read_state bytes ≡ x → and_then x (λ st nothing. passing (header_answer st) st) ≡ refused n → 0 < n
    by_read (refused k) f e = let z : k ≡ n = cc in let p = read_number bytes k f in omega arith
    by_read (got st more) f e = pass_number (header_answer st) st n e

    by_length : (b : Bool) → cond b (and_then (read_state bytes) (λ st nothing. passing (header_answer st) st)) (refused 2) ≡ refused n → 0 < n
    by_length true e = by_read (read_state bytes) refl e
    by_length false e = let z : 2 ≡ n = cc in omega arith

-- ---- 15 and 16

module _ (a : Accumulator) (st : State) where
  match_facts : match_answer a st ≡ 0 → (masks_meet a st ≡ true) × (carried a st ≡ true)
  unfolding match_answer
  match_facts e = let x = asked (masks_meet a st) 14 _ e in (x.0, (asked (carried a st) 15 0 x.1).0)

-- ---- 2 to 16

module _ (a : Accumulator) (s : List ℕ) where
  judge_is : (r : Result StateView Refusal) → HeaderPost s r → judge a s ≡ and_then (judged_means r) (λ st nothing. passing (match_answer a st) st)
  unfolding judge
  judge_is r post = ap (λ (y : Read State). and_then y (λ st nothing. passing (match_answer a st) st)) (sym post.answer)

  pub judge_refused : (e : Refusal) → HeaderPost s (Err e) → JudgePost a s (Err e)
  judge_refused e post = record { answer = sym (judge_is (Err e) post); inside = tt }

  module _ (v : StateView) (post : HeaderPost s (Ok v)) where
    judge_answered : (n : ℕ) → n ≡ match_answer a (viewed v) → passing n (viewed v) ≡ judge a s
    judge_answered n g = ap (λ (k : ℕ). passing k (viewed v)) g ∙ sym (judge_is (Ok v) post)

    pub judge_no : (e : Refusal) → number e ≡ match_answer a (viewed v) → JudgePost a s (Err e)
    judge_no e g = record { answer = sym (pass_no (number e) (viewed v) (number_some e)) ∙ judge_answered (number e) g; inside = tt }

    pub judge_yes : 0 ≡ match_answer a (viewed v) → JudgePost a s (Ok v)
    judge_yes g = record { answer = sym (pass_yes 0 (viewed v) refl) ∙ judge_answered 0 g; inside = post.inside }

-- What a state that passed them was, and that one that did not has a number above 0.
pub record JudgedRead (a : Accumulator) (bytes : List ℕ) (st : State) : Type 0 where
  pub header : HeaderRead bytes st
  pub judged : judge_answer a st ≡ 0

pub judge_got : (a : Accumulator) (bytes : List ℕ) (st : State) (rest : List ℕ) → judge a bytes ≡ got st rest → JudgedRead a bytes st
unfolding judge
judge_got a bytes st rest = by_header (read_header bytes) refl
  where
    by_header : (x : Read State) → read_header bytes ≡ x → and_then x (λ st nothing. passing (match_answer a st) st) ≡ got st rest → JudgedRead a bytes st
    by_header (refused n) f e = absurd (let z : ◌≡◌ {A = ℕ} 0 1 = cc in omega arith)
    by_header (got read more) f e =
        let x = passed (match_answer a read) read st rest e in
        let h = header_got bytes st more (f ∙ ap (λ (y : State). got y more) x.1) in
        record { header = h; judged = first_go 0 (header_answer st) (match_answer a st) (sym h.header) refl ∙ ap (match_answer a) (sym x.1) ∙ x.0 }

pub judge_number : (a : Accumulator) (bytes : List ℕ) (n : ℕ) → judge a bytes ≡ refused n → 0 < n
unfolding judge
judge_number a bytes n = by_header (read_header bytes) refl
  where
    by_header : (x : Read State) → read_header bytes ≡ x → and_then x (λ st nothing. passing (match_answer a st) st) ≡ refused n → 0 < n
    by_header (refused k) f e = let z : k ≡ n = cc in let p = header_number bytes k f in omega arith
    by_header (got st more) f e = pass_number (match_answer a st) st n e

pub list_short : (a : Accumulator) (bytes : List ℕ) (st : State) → JudgedRead a bytes st → length (list_of st) ≤ 2147483647
list_short a bytes st x = omega (arith, sparse_data_within bytes st x.header.rest x.header.read, x.header.short)

-- The same of what `judge` answered.
module _ (a : Accumulator) (s : List ℕ) (v : StateView) (post : JudgePost a s (Ok v)) where
  judged_read : JudgedRead a s (viewed v)
  judged_read = judge_got a s (viewed v) [] (sym post.answer)

  pub judged_state : judge_answer a (viewed v) ≡ 0
  judged_state = judged_read.judged

  pub judged_short : length (list_of (viewed v)) ≤ 2147483647
  judged_short = list_short a s (viewed v) judged_read

-- ---- what is known of a state that was judged and accepted

pub record JudgedFacts (a : Accumulator) (st : State) : Type 0 where
  pub low : 4 ≤ st.hll.precision
  pub high : st.hll.precision ≤ 24
  pub sparse : 0 < st.hll.sparse_precision
  -- Data, where there is any.
  pub size : 0 < length (data_of st) → length (data_of st) ≡ 2 ^ st.hll.precision
  pub registers : largest (data_of st) ≤ largest_rank st.hll.precision
  pub alone : 0 < length (data_of st) → st.hll.sparse_data ≡ none
  -- No data: a list, or neither.
  pub pair : length (data_of st) ≡ 0 → Pair st.hll.precision st.hll.sparse_precision
  -- The roll-up.
  pub same_normal : a.form ≡ Sparse → st.hll.precision ≡ a.precision
  pub same_sparse : a.form ≡ Sparse → st.hll.sparse_precision ≡ a.sparse_precision

-- The parts of question 16.
has_none : {A : Type 0} (o : Option A) → has_field o ≡ false → o ≡ none
has_none none e = refl
has_none (some x) e = let z : true ≡ false = e in cc

data_alone : (l : List ℕ) (o : Option (List ℕ)) → not (not (is_empty l) && has_field o) ≡ true → 0 < length l → o ≡ none
data_alone l o e h =
    has_none o (not-true (has_field o) (subst (λ (b : Bool). not (not b && has_field o) ≡ true) (not_empty l h) e))

same_pair_lem : (f : Form) (a : Accumulator) (st : State) → same_pair f a st ≡ true → f ≡ Sparse
    → eqb a.precision st.hll.precision && eqb a.sparse_precision st.hll.sparse_precision ≡ true
same_pair_lem f a st e g = subst (λ (x : Form). same_pair x a st ≡ true) g e

-- 13 is asked where there is no data and s is not 0.
pair_needed : (st : State) → length (data_of st) ≡ 0 → not (eqb st.hll.sparse_precision 0) ≡ true → needs_pair st ≡ true
pair_needed st h e =
    ap (λ (b : Bool). not (is_empty (list_of st)) || b) (both (empty_yes (data_of st) h) e) ∙ or_true (not (is_empty (list_of st)))

pub judged_facts : (a : Accumulator) (st : State) → judge_answer a st ≡ 0 → JudgedFacts a st
judged_facts a st e =
    let p = st.hll.precision in
    let s = st.hll.sparse_precision in
    let whole = first_zero (header_answer st) (match_answer a st) e in
    let y = header_facts st whole.0 in
    let x = match_facts a st whole.1 in
    let pairs = both_true (not (eqb s 0) && not (has_both st)) (same_pair a.form a st) x.1 in
    let z = both_true (not (eqb s 0)) (not (has_both st)) pairs.0 in
    let range = range_of p y.0.normal in
    record {
      low = range.0;
      high = range.1;
      sparse = above_zero s z.0;
      size = λ (h : 0 < length (data_of st)).
          eqb-true _ _ (or_second (is_empty (data_of st)) (eqb (length (data_of st)) (2 ^ p)) y.0.size (not_empty (data_of st) h));
      registers = leb-true _ _ y.1;
      alone = data_alone (data_of st) st.hll.sparse_data z.1;
      pair = λ (h : length (data_of st) ≡ 0). ranges_pair p s (both y.0.normal (pair_asked st (pair_needed st h z.0) ∙ y.0.sparse));
      same_normal = λ (h : a.form ≡ Sparse).
          sym (eqb-true _ _ (both_true (eqb a.precision p) (eqb a.sparse_precision s) (same_pair_lem a.form a st pairs.1 h)).0);
      same_sparse = λ (h : a.form ≡ Sparse).
          sym (eqb-true _ _ (both_true (eqb a.precision p) (eqb a.sparse_precision s) (same_pair_lem a.form a st pairs.1 h)).1);
    }

-- A list that is not empty: no data beside it, and a pair.
module _ (a : Accumulator) (st : State) (x : JudgedFacts a st) (h : 0 < length (list_of st)) where
  list_alone : length (data_of st) ≡ 0
  list_alone = go (length (data_of st)) refl
    where
      go : (n : ℕ) → length (data_of st) ≡ n → length (data_of st) ≡ 0
      go zero e = e
      go (suc n) e =
          let f : length (list_of st) ≡ 0 = ap (λ (o : Option (List ℕ)). length (bytes_or_none o)) (x.alone (omega arith)) in
          absurd (let z : ⊥ = omega arith in z)

  list_pair : Pair st.hll.precision st.hll.sparse_precision
  list_pair = x.pair list_alone

-- ---- 17

pub wanted_high : (a : Accumulator) (m : Mem) (st : State) → RoomPre a m st → wanted_precision a.form a st.hll.precision ≤ 24
wanted_high a m st x = by_form a.form refl
  where
    by_form : (g : Form) → a.form ≡ g → wanted_precision g a st.hll.precision ≤ 24
    by_form Unstarted e = (judged_facts a st x.judged).high
    by_form Sparse e = (fit_sparse a m x.fit e).pair.high
    by_form Dense e = (fit_dense a m x.fit e).high

pub wanted_small : (a : Accumulator) (m : Mem) (st : State) → RoomPre a m st → a.sparse_len + a.pending_len + length (list_of st) < 2 ^ 64
wanted_small a m st x = let h = fit_short a.form a m refl x.fit in let k = x.short in omega arith

-- The code's four tests.

-- What 17 tells where its answer is yes: of the cells, for a list that is not empty.
pub record Room (a : Accumulator) (m : Mem) (room : ℕ) (st : State) : Type 0 where
  pub registers : register_bytes (wanted_precision a.form a st.hll.precision) ≤ length m.registers
  pub sparse : 0 < length (list_of st) → a.sparse_len + a.pending_len + length (list_of st) ≤ length m.sparse
  pub pending : 0 < length (list_of st) → a.sparse_len + a.pending_len + length (list_of st) ≤ length m.pending
  pub scratch : 0 < length (list_of st) → a.sparse_len + a.pending_len + length (list_of st) ≤ room

pub room_facts : (a : Accumulator) (m : Mem) (room : ℕ) (st : State) → has_room a m room st ≡ true → Room a m room st
unfolding has_room
room_facts a m room st e =
    let r = leb (wanted_registers a st.hll.precision) (length m.registers) in
    let w = wanted_cells a (length (list_of st)) in
    let e3 = (both_true (r && leb w (length m.sparse) && leb w (length m.pending)) (leb w room) e).0 in
    let e2 = (both_true (r && leb w (length m.sparse)) (leb w (length m.pending)) e3).0 in
    record {
      registers = leb-true _ _ (both_true r (leb w (length m.sparse)) e2).0;
      sparse = λ (h : 0 < length (list_of st)). cells h (length m.sparse) (both_true r (leb w (length m.sparse)) e2).1;
      pending = λ (h : 0 < length (list_of st)).
          cells h (length m.pending) (both_true (r && leb w (length m.sparse)) (leb w (length m.pending)) e3).1;
      scratch = λ (h : 0 < length (list_of st)).
          cells h room (both_true (r && leb w (length m.sparse) && leb w (length m.pending)) (leb w room) e).1;
    }
  where
    cells : 0 < length (list_of st) → (n : ℕ) → leb (wanted_cells a (length (list_of st))) n ≡ true → a.sparse_len + a.pending_len + length (list_of st) ≤ n
    cells h n x =
        subst (λ (w : ℕ). w ≤ n)
        (ap (λ (b : Bool). cond b 0 (a.sparse_len + a.pending_len + length (list_of st))) (not_empty (list_of st) h)) (leb-true _ _ x)

-- ---- 18 to 20

pub listed_pre : (a : Accumulator) (m : Mem) (room : ℕ) (st : State) → judge_answer a st ≡ 0 → has_room a m room st ≡ true → ListedPre st room
listed_pre a m room st e h =
    record {
      pair = λ (l : 0 < length (list_of st)). list_pair a st (judged_facts a st e) l;
      space = fewer (length (list_of st)) refl;
    }
  where
    fewer : (n : ℕ) → length (list_of st) ≡ n → length (list_of st) ≤ room
    fewer zero k = omega arith
    fewer (suc n) k = let x = (room_facts a m room st h).scratch (omega arith) in omega arith

pub none_is : (l : List ℕ) → length l ≡ 0 → l ≡ []
none_is [] e = refl
none_is (x ∷ l) e = absurd (let z : ⊥ = omega arith in z)

module _ (st : State) (d out : List ℕ) (same : d ≡ list_of st) where
  pub listed_none : length d ≡ 0 → Decodes (listed_in st) (Ok 0) out
  listed_none z =
      subst (λ (r : Read (List ℕ)). Decodes r (Ok 0) out)
      (sym (ap (decode_of st.hll.precision st.hll.sparse_precision) (sym same ∙ none_is d z)
      ∙ decode_none st.hll.precision st.hll.sparse_precision))
      (refl, refl)

-- ---- a state that is cut off

-- An answer is a number above 0.
pub record Refuses {A : Type 0} (x : Read A) : Type 0 where
  pub number : ℕ
  pub above : 0 < number
  pub is : x ≡ refused number

-- A precision below 4 is refused by 11, if no question before does.
low_refused : (st : State) → st.hll.precision < 4 → Refuses (passing (header_answer st) st)
low_refused st h =
    let no : header_answer st ≡ 0 → ⊥ = λ (e : header_answer st ≡ 0). omega (arith, (range_of st.hll.precision (header_facts st e).0.normal).0) in
    record { number = header_answer st; above = pos_of_ne-zero no; is = pass_no (header_answer st) st no }

cut_header_then : (r : Read State) → CutReading r → Refuses (and_then r (λ st nothing. passing (header_answer st) st))
cut_header_then r cut_refused = record { number = 3; above = omega arith; is = refl }
cut_header_then r (cut_before_hll st f) =
    low_refused st (subst (λ (h : HllState). h.precision < 4) (sym f) (let z : 0 < 4 = omega arith in z))

pub cut_header : (s : List ℕ) → CutReading (read_state s) → Refuses (read_header s)
unfolding read_header
cut_header s c = pick (leb (length s) 2147483647)
  where
    pick : (b : Bool) → Refuses (cond b (and_then (read_state s) (λ st nothing. passing (header_answer st) st)) (refused 2))
    pick true = cut_header_then (read_state s) c
    pick false = record { number = 2; above = omega arith; is = refl }

pub cut_judged : (a : Accumulator) (s : List ℕ) → CutReading (read_state s) → Refuses (judge a s)
unfolding judge
cut_judged a s c =
    let x = cut_header s c in
    record {
      number = x.number;
      above = x.above;
      is = ap (λ (r : Read State). and_then r (λ st nothing. passing (match_answer a st) st)) x.is;
    }
