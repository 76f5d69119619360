-- Laws of reading lists: a gap, one value after another, what an accepted list is, and that what is written is read back.
use Rattle.std.proofs.Common.{◌≡◌, ℕ, zero, suc, ◌+◌, ◌-◌, ◌*◌, ◌%◌, ◌^◌, ◌<◌, ◌≤◌, Bool, true, false, cond, not, ◌&&◌, ◌||◌, eqb, ltb, leb, ◌⊎◌, List, [], ◌∷◌, ◌++◌, length, get_or, take, drop, set, sym, refl, ap, ◌∙◌, subst, ap₂, inl, inr, ⊎_elim, append_assoc, append-nil, le_trans, le_refl, lt_of_le_of_lt, add-one, arith, length-append, length-drop, drop_of_length-le, length-take-le, take-suc-set, pow_pos, ltb-false, ltb-true, le-ltb, lt-ltb, le-leb, leb-true, Result, Ok, Err, IsErrAnd}
use mathlib.Core.Bool.{and_assoc, and-true}
use borrow.Author.Tests.{not-false}
use Rattle.wire.proofs.BoolLaws.{both, both_true, absorbed, whichever}
use Rattle.wire.specs.Reading.{Read, got, refused, and_then}
use Rattle.wire.specs.Varints.{varint_of, varint_bytes}
use Rattle.wire.proofs.VarintLaws.{Begun, begun_none, begun_long, begun_end, begun_last, begun_more, len_pos, there_and_back, short_varint}
use Rattle.std.proofs.lemmas.Bool.{cases_lt as side}
use Rattle.lists.specs.declared.decoding.DecodeError.{DecodeError}
use Rattle.lists.specs.declared.decoding.DecodeError.TheVariants.{GapTooLong, InvalidValue}
use Rattle.lists.specs.Values.{mark, marked, marked_end, least_marked_rank, marked_rank_fits, valid, Pair}
use Rattle.lists.specs.Sorting.{not_before, ascends}
use Rattle.lists.specs.Lists.{gap_answer, gap_of, BytePost, GapPost, decode_refusal, refused_here, before, sums_of, step_of, NextValuePost, all_valid, no_plain, later_plain, ends_valid, decode_of, Decodes, encode_from, encode_list, written_from, written}
use Rattle.lists.proofs.UnfitRank.{unfit_rank}
use Rattle.lists.proofs.ValueLaws.{decided, mark_64, mark_index, plain_end_mark, least_le, above_mark, small_valid, valid_plain, valid_index, valid_fits, marked_near, marked_fitting, valid_lt}

-- What `?` hands on.
pub handed_on : {T E : Type 0} (P : Result T E → Type 0) (r : Result T E) (e : E) → IsErrAnd r (λ (x : E). x ≡ e) → P (Err e) → P r
handed_on P (Ok v) e h p = absurd h
handed_on {E = E} P (Err x) e h p = subst (λ (y : E). P (Err y)) (sym h) p

-- ---- a gap

gap_is : (l : List ℕ) (r : Read ℕ) → varint_of 5 l ≡ r → gap_answer r ≡ gap_of l
unfolding gap_of
gap_is l r e = ap gap_answer (sym e)

gap_small : (v : ℕ) (rest : List ℕ) → v < 2 ^ 32 → gap_answer (got v rest) ≡ got v rest
gap_small v rest h = rw (lt-ltb v (2 ^ 32) h)

gap_large : (v : ℕ) (rest : List ℕ) → 2 ^ 32 ≤ v → gap_answer (got v rest) ≡ refused 19
gap_large v rest h = rw (le-ltb v (2 ^ 32) h)

module _ {s : List ℕ} {start at w x : ℕ} (n : ℕ) (g : Begun 5 s start at (suc n) w x) where
  gap_cut : {e : DecodeError} → BytePost s at (Err e) → GapPost s start (Err e)
  gap_cut f =
      record {
        answer = ap (λ (e : DecodeError). refused (decode_refusal e)) f.1 ∙ gap_is (drop start s) (refused 3) (begun_end n g f.0);
        inside = tt;
      }

  module _ {b : ℕ} (f : BytePost s at (Ok b)) {next : ℕ} (on : next ≡ at + 1) where
    gap_last : {v : ℕ} → b < 128 → v ≡ x + b * w → v < 2 ^ 32 → GapPost s start (Ok (v, next))
    gap_last {v} l e h =
        subst (λ (k : ℕ). GapPost s start (Ok (v, k))) (sym on)
        (record {
          answer =
              sym (gap_small v (drop (at + 1) s) h)
              ∙ gap_is (drop start s) (got v (drop (at + 1) s)) (begun_last n g f.0 f.1 l ∙ ap (λ (y : ℕ). got y (drop (at + 1) s)) (sym e));
          inside = (omega (arith, g.on), omega (arith, f.0));
        })

    -- A byte that another follows has 128 too much.
    gap_more : {z : ℕ} → 128 ≤ b → z ≡ x + (b - 128) * w → Begun 5 s start next n (w * 128) z
    gap_more {z} l e =
        subst (λ (k : ℕ). Begun 5 s start k n (w * 128) z) (sym on)
        (begun_more n g f.0 f.1 l (e ∙ ap (λ (y : ℕ). x + y * w) (let h : b - 128 ≡ b % 128 = omega (arith, f.2) in h)))

-- A fifth byte with a bit of f0: of 16 to 127 it makes a value of 2^32 or more, and of 128 or more one of more than five bytes.
pub gap_long : {s : List ℕ} {start at x b : ℕ} → Begun 5 s start at 1 0x1000_0000 x → at < length s → b ≡ get_or s at 0 → 16 ≤ b → GapPost s start (Err GapTooLong)
gap_long {s} {start} {at} {x} {b} g inside e h =
    ⊎_elim
    (λ (l : b < 128).
    long (sym (gap_large (x + b * 0x1000_0000) (drop (at + 1) s) (omega arith)) ∙ gap_is (drop start s) _ (begun_last 0 g inside e l)))
    (λ (l : 128 ≤ b). long (gap_is (drop start s) (refused 4) (begun_long (begun_more 0 g inside e l refl)))) (side b 128)
  where
    long : refused 19 ≡ gap_of (drop start s) → GapPost s start (Err GapTooLong)
    long f = record { answer = f; inside = tt }

-- The bytes of a gap one after the other, as the code sums them up.
module _ (s : List ℕ) (at : ℕ) where
  pub cut_1 : {e : DecodeError} → BytePost s at (Err e) → GapPost s at (Err e)
  cut_1 = gap_cut 4 (begun_none 5 s at)

  module _ (a : ℕ) (fa : BytePost s at (Ok a)) where
    pub last_1 : a < 128 → GapPost s at (Ok (a, at + 1))
    last_1 l = gap_last 4 (begun_none 5 s at) fa refl l (omega arith) (omega arith)

    module _ (la : 128 ≤ a) where
      past_1 : Begun 5 s at (at + 1) 4 128 (a - 128)
      past_1 = gap_more 4 (begun_none 5 s at) fa refl la (omega arith)

      pub cut_2 : {e : DecodeError} → BytePost s (at + 1) (Err e) → GapPost s at (Err e)
      cut_2 = gap_cut 3 past_1

      module _ (b : ℕ) (fb : BytePost s (at + 1) (Ok b)) where
        abbrev two : ℕ
        two = a - 128 + b * 128

        pub last_2 : b < 128 → GapPost s at (Ok (two, at + 2))
        last_2 l = gap_last 3 past_1 fb (omega arith) l (omega arith) (omega (arith, past_1.small))

        module _ (lb : 128 ≤ b) where
          past_2 : Begun 5 s at (at + 2) 3 16384 (two - 16384)
          past_2 = gap_more 3 past_1 fb (omega arith) lb (omega arith)

          pub cut_3 : {e : DecodeError} → BytePost s (at + 2) (Err e) → GapPost s at (Err e)
          cut_3 = gap_cut 2 past_2

          module _ (c : ℕ) (fc : BytePost s (at + 2) (Ok c)) where
            abbrev three : ℕ
            three = two - 16384 + c * 16384

            pub last_3 : c < 128 → GapPost s at (Ok (three, at + 3))
            last_3 l = gap_last 2 past_2 fc (omega arith) l (omega arith) (omega (arith, past_2.small))

            module _ (lc : 128 ≤ c) where
              past_3 : Begun 5 s at (at + 3) 2 2097152 (three - 2097152)
              past_3 = gap_more 2 past_2 fc (omega arith) lc (omega arith)

              pub cut_4 : {e : DecodeError} → BytePost s (at + 3) (Err e) → GapPost s at (Err e)
              cut_4 = gap_cut 1 past_3

              module _ (d : ℕ) (fd : BytePost s (at + 3) (Ok d)) where
                abbrev four : ℕ
                four = three - 2097152 + d * 2097152

                pub last_4 : d < 128 → GapPost s at (Ok (four, at + 4))
                last_4 l = gap_last 1 past_3 fd (omega arith) l (omega arith) (omega (arith, past_3.small))

                module _ (ld : 128 ≤ d) where
                  past_4 : Begun 5 s at (at + 4) 1 268435456 (four - 268435456)
                  past_4 = gap_more 1 past_3 fd (omega arith) ld (omega arith)

                  pub cut_5 : {e : DecodeError} → BytePost s (at + 4) (Err e) → GapPost s at (Err e)
                  cut_5 = gap_cut 0 past_4

                  module _ (e : ℕ) (fe : BytePost s (at + 4) (Ok e)) where
                    pub last_5 : e < 16 → GapPost s at (Ok (four - 268435456 + e * 268435456, at + 5))
                    last_5 l = gap_last 0 past_4 fe (omega arith) (omega arith) (omega arith) (omega (arith, past_4.small))

                    pub long_5 : 16 ≤ e → GapPost s at (Err GapTooLong)
                    long_5 l = gap_long past_4 fe.0 fe.1 l

-- ---- tests

or_left : (a b : Bool) → (a || b) ≡ false → a ≡ false
or_left true b e = e
or_left false b e = refl

-- What is refused where it is read, by the code's questions.
module _ (p s last v : ℕ) where
  abbrev unfit : Bool
  unfit = unfit_rank p s v

  by_rank : last ≤ v → (marked p s v && unfit) ≡ refused_here p s last v
  by_rank h = sym (ap (λ (t : Bool). t || (marked p s v && unfit)) (le-ltb v last h))

  refused_plain : last ≤ v → marked p s v ≡ false → false ≡ refused_here p s last v
  refused_plain h m = sym (ap (λ (t : Bool). t && unfit) m) ∙ by_rank h

  refused_rank : last ≤ v → marked p s v ≡ true → unfit ≡ refused_here p s last v
  refused_rank h m = sym (ap (λ (t : Bool). t && unfit) m) ∙ by_rank h

  -- What is not.
  not_less : refused_here p s last v ≡ false → last ≤ v
  not_less e = ltb-false v last (or_left (ltb v last) (marked p s v && unfit) e)

  rank_fits : refused_here p s last v ≡ false → marked p s v ≡ true → marked_rank_fits p s v ≡ true
  rank_fits e m = not-false (marked_rank_fits p s v) (refused_rank (not_less e) m ∙ e)

  valid_taken : last ≤ v → valid p s v ≡ true → refused_here p s last v ≡ false
  valid_taken h t =
      ⊎_elim (λ (m : marked p s v ≡ true). sym (refused_rank h m) ∙ ap not (valid_fits p s v m t))
      (λ (m : marked p s v ≡ false). sym (refused_plain h m)) (decided (marked p s v))

-- ---- all values valid, from two of them

pub all_append : (p s : ℕ) (a b : List ℕ) → all_valid p s (a ++ b) ≡ (all_valid p s a && all_valid p s b)
unfolding all_valid
all_append p s [] b = refl
all_append p s (v ∷ a) b = ap (λ (t : Bool). valid p s v && t) (all_append p s a b) ∙ sym (and_assoc (valid p s v) (all_valid p s a) (all_valid p s b))

all_more : (p s : ℕ) (vs : List ℕ) (v : ℕ) → all_valid p s (vs ++ (v ∷ [])) ≡ (all_valid p s vs && valid p s v)
unfolding all_valid
all_more p s vs v = all_append p s vs (v ∷ []) ∙ ap (λ (t : Bool). all_valid p s vs && t) (and-true (valid p s v))

-- Of values that do not descend, and of which none was refused where it was read: the last one, or 0, and the last with the mark bit clear, or `no_plain`. They
-- decide for all: no plain value is above that one, and no index above that of the last.
pub record Checked (p s : ℕ) (vs : List ℕ) (last plain : ℕ) : Type 0 where
  pub below : (valid p s plain ≡ true) ⊎ (plain ≤ last)
  pub ends : ends_valid p s plain last ≡ all_valid p s vs

-- Its low six bits are 1, which is a rank at every pair.
no_plain_valid : (p s : ℕ) → Pair p s → valid p s (no_plain p s) ≡ true
no_plain_valid p s pair =
    let one : (mark p s + 1) % 64 ≡ 1 = omega (arith, mark_64 p s) in
    marked_near p s (mark p s + 1) (above_mark p s 1 (omega (arith, mark_index p s, pow_pos p))) (omega (arith, pow_pos p))
    ∙ both (le-leb (least_marked_rank p s) ((mark p s + 1) % 64) (omega (arith, least_le p s))) (le-leb ((mark p s + 1) % 64) (65 - s) (omega (arith, pair.top)))

checked_none : (p s : ℕ) → Pair p s → Checked p s [] 0 (no_plain p s)
unfolding all_valid
checked_none p s pair =
    record {
      below = inl (no_plain_valid p s pair);
      ends = both (no_plain_valid p s pair) (lt-ltb 0 (marked_end p s) (omega (arith, pow_pos p)));
    }

-- The middle one of three follows from the last.
middle : (a b c : Bool) → (c ≡ true → b ≡ true) → (a && c) ≡ ((a && b) && c)
middle true b c f = sym (absorbed b c f)
middle false b c f = refl

-- What follows from the first of two adds nothing.
implied : (a b : Bool) → (a ≡ true → b ≡ true) → (a && b) ≡ a
implied true b f = f refl
implied false b f = refl

module _ {p s : ℕ} {vs : List ℕ} {last plain : ℕ} (c : Checked p s vs last plain) (v : ℕ) (here : refused_here p s last v ≡ false) where
  -- The two of one value more decide, where those before do.
  ends_more : (q : ℕ) → ends_valid p s q v ≡ (ends_valid p s plain last && valid p s v) → ends_valid p s q v ≡ all_valid p s (vs ++ (v ∷ []))
  ends_more q e = e ∙ ap (λ (t : Bool). t && valid p s v) c.ends ∙ sym (all_more p s vs v)

  -- What comes before a valid value with the mark bit clear is below the end of the plain values, as that is.
  before_plain : marked p s v ≡ false → valid p s v ≡ true → ends_valid p s plain last ≡ true
  before_plain m t =
      let h = valid_plain p s v m t in
      let le = not_less p s last v here in
      both
      (⊎_elim (λ (e : valid p s plain ≡ true). e) (λ (l : plain ≤ last). small_valid p s plain (omega arith)) c.below) (lt-ltb last (marked_end p s) (omega (arith, plain_end_mark p s)))

  more_plain : marked p s v ≡ false → Checked p s (vs ++ (v ∷ [])) v v
  more_plain m =
      record {
        below = inr (le_refl v);
        ends =
            ends_more v
            (implied (valid p s v) (ltb v (marked_end p s))
            (λ (t : valid p s v ≡ true). lt-ltb v (marked_end p s) (omega (arith, valid_plain p s v m t, plain_end_mark p s)))
            ∙ sym (absorbed (ends_valid p s plain last) (valid p s v) (before_plain m)));
      }

  -- Of a marked value that was not refused the index alone is open, and the last one is no larger.
  more_marked : marked p s v ≡ true → Checked p s (vs ++ (v ∷ [])) v plain
  more_marked m =
      let le = not_less p s last v here in
      record {
        below = ⊎_elim (λ (e : valid p s plain ≡ true). inl e) (λ (l : plain ≤ last). inr (le_trans l le)) c.below;
        ends =
            ends_more plain
            (ap (λ (t : Bool). valid p s plain && t) (sym (marked_fitting p s v m (rank_fits p s last v here m)))
            ∙ middle (valid p s plain) (ltb last (marked_end p s)) (valid p s v)
            (λ (t : valid p s v ≡ true). lt-ltb last (marked_end p s) (lt_of_le_of_lt le (valid_index p s v m t))));
      }

  checked_more : {q : ℕ} → q ≡ later_plain p s plain v → Checked p s (vs ++ (v ∷ [])) v q
  checked_more e =
      ⊎_elim
      (λ (m : marked p s v ≡ true).
      subst (λ (x : ℕ). Checked p s (vs ++ (v ∷ [])) v x) (sym (e ∙ ap (λ (t : Bool). cond t plain v) m)) (more_marked m))
      (λ (m : marked p s v ≡ false).
      subst (λ (x : ℕ). Checked p s (vs ++ (v ∷ [])) v x) (sym (e ∙ ap (λ (t : Bool). cond t plain v) m)) (more_plain m))
      (decided (marked p s v))

-- ---- one value

-- What a gap makes of the value before.
abbrev step_from : ℕ → ℕ → ℕ → ℕ → List ℕ → Read ℕ
step_from p s last gap rest = let v = (last + gap) % 2 ^ 32 in cond (refused_here p s last v) (refused 20) (got v rest)

module _ (p s : ℕ) (bytes : List ℕ) (at last : ℕ) where
  step_of_lem : (r : Read ℕ) → r ≡ gap_of (drop at bytes) → and_then r (step_from p s last) ≡ step_of p s (drop at bytes) last
  unfolding step_of
  step_of_lem r e = ap (λ (x : Read ℕ). and_then x (step_from p s last)) e

  step_is : (gap next v : ℕ) → GapPost bytes at (Ok (gap, next)) → v ≡ (last + gap) % 2 ^ 32 → (t : Bool) → t ≡ refused_here p s last v
      → cond t (refused 20) (got v (drop next bytes)) ≡ step_of p s (drop at bytes) last
  step_is gap next v g e t f =
      ap (λ (x : Bool). cond x (refused 20) (got v (drop next bytes))) f
      ∙ ap (λ (x : ℕ). cond (refused_here p s last x) (refused 20) (got x (drop next bytes))) e
      ∙ step_of_lem (got gap (drop next bytes)) g.answer

module _ {p s : ℕ} {bytes : List ℕ} {at last : ℕ} where
  pub step_no_gap : (e : DecodeError) → GapPost bytes at (Err e) → NextValuePost p s bytes at last (Err e)
  step_no_gap e g = record { answer = step_of_lem p s bytes at last (refused (decode_refusal e)) g.answer; inside = tt }

  pub step_refused : {gap next : ℕ} (v : ℕ) → GapPost bytes at (Ok (gap, next)) → v ≡ (last + gap) % 2 ^ 32 → true ≡ refused_here p s last v
      → NextValuePost p s bytes at last (Err InvalidValue)
  step_refused {gap} {next} v g e f = record { answer = step_is p s bytes at last gap next v g e true f; inside = tt }

  pub step_next : {gap next v : ℕ} → GapPost bytes at (Ok (gap, next)) → v ≡ (last + gap) % 2 ^ 32 → false ≡ refused_here p s last v
      → NextValuePost p s bytes at last (Ok (v, next))
  step_next {gap} {next} {v} g e f = record { answer = step_is p s bytes at last gap next v g e false f; inside = g.inside }

-- What is known of a value that was read: its gap, and that it was not refused.
pub record Stepped (p s : ℕ) (l : List ℕ) (last v : ℕ) (rest : List ℕ) : Type 0 where
  pub gap : ℕ
  pub bytes : gap_of l ≡ got gap rest
  pub sum : v ≡ (last + gap) % 2 ^ 32
  pub here : refused_here p s last v ≡ false

pub stepped : (p s : ℕ) (l : List ℕ) (last : ℕ) {v : ℕ} {rest : List ℕ} → step_of p s l last ≡ got v rest → Stepped p s l last v rest
unfolding step_of
stepped p s l last {v} {rest} e = go (gap_of l) refl e
  where
    go : (r : Read ℕ) → gap_of l ≡ r → and_then r (step_from p s last) ≡ got v rest → Stepped p s l last v rest
    go (refused k) f g = absurd (let z : ◌≡◌ {A = ℕ} 0 1 = cc in omega arith)
    go (got gap rest') f g = pick (refused_here p s last ((last + gap) % 2 ^ 32)) refl g
      where
        pick : (t : Bool) → refused_here p s last ((last + gap) % 2 ^ 32) ≡ t → cond t (refused 20) (got ((last + gap) % 2 ^ 32) rest') ≡ got v rest
            → Stepped p s l last v rest
        pick true h k = absurd (let z : ◌≡◌ {A = ℕ} 0 1 = cc in omega arith)
        pick false h k =
            let a : (last + gap) % 2 ^ 32 ≡ v = cc in
            let b : rest' ≡ rest = cc in
            record {
              gap = gap;
              bytes = f ∙ ap (λ (x : List ℕ). got gap x) b;
              sum = sym a;
              here = subst (λ (x : ℕ). refused_here p s last x ≡ false) a h;
            }

-- ---- one value after another

-- What follows the first value.
abbrev pub sums_from : ℕ → ℕ → ℕ → ℕ → List ℕ → Read (List ℕ)
sums_from p s n v rest = before v (sums_of p s n rest v)

module _ (p s n last : ℕ) where
  -- The values of bytes that are not at their end: the first one, and those of the rest.
  pub sums_step : (l : List ℕ) → 0 < length l → sums_of p s (suc n) l last ≡ and_then (step_of p s l last) (sums_from p s n)
  unfolding sums_of
  sums_step [] h = absurd (let z : ⊥ = omega arith in z)
  sums_step (b ∷ l) h = refl

pub sums_none : (p s n last : ℕ) → sums_of p s n [] last ≡ got [] []
unfolding sums_of
sums_none p s zero last = refl
sums_none p s (suc n) last = refl

-- ---- the loop over the values

-- Values in front.
abbrev joined : List ℕ → Read (List ℕ) → Read (List ℕ)
joined l (got vs rest) = got (l ++ vs) rest
joined l (refused n) = refused n

joined_none : (r : Read (List ℕ)) → r ≡ joined [] r
joined_none (got vs rest) = refl
joined_none (refused n) = refl

joined_before : (l : List ℕ) (v : ℕ) (r : Read (List ℕ)) → joined l (before v r) ≡ joined (l ++ (v ∷ [])) r
joined_before l v (got vs rest) = ap (λ (x : List ℕ). got x rest) (sym (append_assoc l (v ∷ []) vs))
joined_before l v (refused n) = refl

-- What is left to ask of all values.
abbrev asked : ℕ → ℕ → List ℕ → List ℕ → Read (List ℕ)
asked p s vs rest = cond (all_valid p s vs) (got vs rest) (refused 20)

-- Where a walk over a list is that has read the values vs: at most `bound` are left, and the list's values are these and those of the rest.
pub record Going (p s : ℕ) (bytes vs : List ℕ) (at last plain : ℕ) : Type 0 where
  pub bound : ℕ
  pub enough : length bytes ≤ at + bound
  pub inside : at ≤ length bytes
  pub fewer : length vs ≤ at
  pub whole : sums_of p s (length bytes) bytes 0 ≡ joined vs (sums_of p s bound (drop at bytes) last)
  pub checked : Checked p s vs last plain

pub going_start : (p s : ℕ) (bytes : List ℕ) → Pair p s → Going p s bytes [] 0 0 (no_plain p s)
going_start p s bytes pair =
    record {
      bound = length bytes;
      enough = omega arith;
      inside = omega arith;
      fewer = omega arith;
      whole = joined_none (sums_of p s (length bytes) bytes 0);
      checked = checked_none p s pair;
    }

module _ {p s : ℕ} {bytes vs : List ℕ} {at last plain : ℕ} (g : Going p s bytes vs at last plain) where
  module _ (h : at < length bytes) where
    -- With the next value in front of the rest.
    one_more : (n : ℕ) × (length bytes ≤ at + 1 + n)
        × (sums_of p s (length bytes) bytes 0 ≡ joined vs (and_then (step_of p s (drop at bytes) last) (sums_from p s n)))
    one_more = go g.bound g.enough g.whole
      where
        go : (n : ℕ) → length bytes ≤ at + n → sums_of p s (length bytes) bytes 0 ≡ joined vs (sums_of p s n (drop at bytes) last)
            → (n : ℕ) × (length bytes ≤ at + 1 + n)
            × (sums_of p s (length bytes) bytes 0 ≡ joined vs (and_then (step_of p s (drop at bytes) last) (sums_from p s n)))
        go zero e w = absurd (let z : ⊥ = omega arith in z)
        go (suc n) e w = (n, omega arith, w ∙ ap (joined vs) (sums_step p s n last (drop at bytes) (omega (arith, length-drop at bytes))))

    stepped_to : (r : Read ℕ) → r ≡ step_of p s (drop at bytes) last
        → sums_of p s (length bytes) bytes 0 ≡ joined vs (and_then r (sums_from p s one_more.0))
    stepped_to r e = one_more.2 ∙ ap (λ (x : Read ℕ). joined vs (and_then x (sums_from p s one_more.0))) (sym e)

    pub going_stopped : {e : DecodeError} → NextValuePost p s bytes at last (Err e) → decode_of p s bytes ≡ refused (decode_refusal e)
    unfolding decode_of
    going_stopped {e} a = ap (λ (x : Read (List ℕ)). and_then x (asked p s)) (stepped_to (refused (decode_refusal e)) a.answer)

    pub going_next : {v next q : ℕ} → NextValuePost p s bytes at last (Ok (v, next)) → q ≡ later_plain p s plain v → Going p s bytes (vs ++ (v ∷ [])) next v q
    going_next {v} {next} a e =
        record {
          bound = one_more.0;
          enough = omega (arith, one_more.1, a.inside.0);
          inside = a.inside.1;
          fewer = omega (arith, g.fewer, a.inside.0, length-append vs (v ∷ []));
          whole =
              stepped_to (got v (drop next bytes)) a.answer ∙ joined_before vs v (sums_of p s one_more.0 (drop next bytes) v);
          checked = checked_more g.checked v (stepped p s (drop at bytes) last (sym a.answer)).here e;
        }

  -- At the end of the bytes the two values decide.
  module _ (h : length bytes ≤ at) where
    all_read : sums_of p s (length bytes) bytes 0 ≡ got vs []
    all_read =
        g.whole
        ∙ ap (joined vs) (ap (λ (l : List ℕ). sums_of p s g.bound l last) (drop_of_length-le bytes h) ∙ sums_none p s g.bound last)
        ∙ ap (λ (l : List ℕ). got l []) (append-nil vs)

    pub going_end : (t : Bool) → ends_valid p s plain last ≡ t → decode_of p s bytes ≡ cond t (got vs []) (refused 20)
    unfolding decode_of
    going_end t e =
        ap (λ (x : Read (List ℕ)). and_then x (asked p s)) all_read
        ∙ ap (λ (x : Bool). cond x (got vs []) (refused 20)) (sym g.checked.ends ∙ e)

-- A list whose values are read into the first k cells.
pub going_stored : {p s : ℕ} {bytes : List ℕ} {at last plain : ℕ} (out : List ℕ) (k v : ℕ) → k < length out
    → Going p s bytes (take k out ++ (v ∷ [])) at last plain → Going p s bytes (take (k + 1) (set out k v)) at last plain
going_stored {p} {s} {bytes} {at} {last} {plain} out k v h g =
    subst (λ (l : List ℕ). Going p s bytes l at last plain)
    (sym (ap (λ (n : ℕ). take n (set out k v)) (add-one k) ∙ take-suc-set out k v h)) g

pub stored_stopped : {r : Read (List ℕ)} (e : DecodeError) (out : List ℕ) → r ≡ refused (decode_refusal e) → Decodes r (Err e) out
stored_stopped e out f = subst (λ (x : Read (List ℕ)). Decodes x (Err e) out) (sym f) refl

pub stored_end : {r : Read (List ℕ)} (out : List ℕ) (k : ℕ) → k ≤ length out → r ≡ got (take k out) [] → Decodes r (Ok k) out
stored_end out k h e =
    subst (λ (x : Read (List ℕ)). Decodes x (Ok k) out) (sym e)
    (sym (length-take-le k out h), refl)

-- ---- what an accepted list is

-- What is known of a gap that was read.
record Gapped (l : List ℕ) (gap : ℕ) (rest : List ℕ) : Type 0 where
  small : gap < 2 ^ 32
  short : length (varint_bytes 5 gap) + length rest ≤ length l

gapped : (l : List ℕ) {gap : ℕ} {rest : List ℕ} → gap_of l ≡ got gap rest → Gapped l gap rest
unfolding gap_of
gapped l {gap} {rest} e = go (varint_of 5 l) refl e
  where
    go : (r : Read ℕ) → varint_of 5 l ≡ r → gap_answer r ≡ got gap rest → Gapped l gap rest
    go (refused n) f g = absurd (let z : ◌≡◌ {A = ℕ} 0 1 = cc in omega arith)
    go (got v rest') f g = pick (ltb v (2 ^ 32)) refl g
      where
        pick : (t : Bool) → ltb v (2 ^ 32) ≡ t → cond t (got v rest') (refused 19) ≡ got gap rest → Gapped l gap rest
        pick false h k = absurd (let z : ◌≡◌ {A = ℕ} 0 1 = cc in omega arith)
        pick true h k =
            let a : v ≡ gap = cc in
            let b : rest' ≡ rest = cc in
            record {
              small = subst (λ (x : ℕ). x < 2 ^ 32) a (ltb-true v (2 ^ 32) h);
              short = short_varint 5 l gap rest (f ∙ ap₂ (λ (x : ℕ) (y : List ℕ). got x y) a b);
            }

-- A sum that wraps is smaller than the last one, so that a sum that is not smaller has not wrapped.
no_wrap : (last gap v : ℕ) → last < 2 ^ 32 → gap < 2 ^ 32 → v ≡ (last + gap) % 2 ^ 32 → last ≤ v → v - last ≡ gap
no_wrap last gap v h k e l = omega arith

-- What the values of bytes after the value `last` are.
record ValuesAfter (l : List ℕ) (last : ℕ) (vs rest : List ℕ) : Type 0 where
  end : rest ≡ []
  rises : not_before last vs ≡ true
  some : 0 < length l → 0 < length vs
  fewer : length vs ≤ length l
  short : written_from last vs ≤ length l

module _ {p s : ℕ} {l : List ℕ} {last v : ℕ} {rest : List ℕ} (h : last < 2 ^ 32) (t : Stepped p s l last v rest) where
  step_lt : v < 2 ^ 32
  step_lt = omega (arith, t.sum)

  step_fewer : length rest < length l
  step_fewer = omega (arith, (gapped l t.bytes).short, len_pos 4 t.gap)

  values_more : {ws end : List ℕ} → ValuesAfter rest v ws end → ValuesAfter l last (v ∷ ws) end
  unfolding written_from
  values_more r =
      let g = gapped l t.bytes in
      let le = not_less p s last v t.here in
      record {
        end = r.end;
        rises = both (le-leb last v le) r.rises;
        some = λ h. omega arith;
        fewer = omega (arith, r.fewer, step_fewer);
        short =
            omega (arith, r.short, g.short, ap (λ (k : ℕ). length (varint_bytes 5 k)) (no_wrap last t.gap v h g.small t.sum le));
      }

joined_got : (l : List ℕ) (r : Read (List ℕ)) {vs rest : List ℕ} → joined l r ≡ got vs rest → (ws : List ℕ) × (vs ≡ l ++ ws) × (r ≡ got ws rest)
joined_got l (refused n) e = absurd (let z : ◌≡◌ {A = ℕ} 0 1 = cc in omega arith)
joined_got l (got ws rest') {vs} {rest} e =
    let a : l ++ ws ≡ vs = cc in
    let b : rest' ≡ rest = cc in
    (ws, sym a, ap (λ (x : List ℕ). got ws x) b)

module _ (p s : ℕ) where
  values_none : (n : ℕ) (l : List ℕ) (last : ℕ) {vs rest : List ℕ} → length l ≡ 0 → sums_of p s n l last ≡ got vs rest → ValuesAfter l last vs rest
  unfolding written_from
  values_none n [] last {vs} {rest} h e =
      let f : got [] [] ≡ got vs rest = sym (sums_none p s n last) ∙ e in
      let a : [] ≡ vs = cc in
      let b : [] ≡ rest = cc in
      subst (λ (x : List ℕ). ValuesAfter [] last x rest) a (record { end = sym b; rises = refl; some = λ z. z; fewer = omega arith; short = omega arith })
  values_none n (b ∷ l) last h e = absurd (let z : ⊥ = omega arith in z)

  values_after : (n : ℕ) (l : List ℕ) (last : ℕ) (vs rest : List ℕ) → length l ≤ n → last < 2 ^ 32 → sums_of p s n l last ≡ got vs rest → ValuesAfter l last vs rest
  values_after zero l last vs rest h k e = values_none zero l last (omega arith) e
  values_after (suc n) l last vs rest h k e =
      ⊎_elim (λ (z : length l < 1). values_none (suc n) l last (omega arith) e)
      (λ (z : 1 ≤ length l). go (values_after n) (step_of p s l last) refl (sym (sums_step p s n last l z) ∙ e)) (side (length l) 1)
    where
      go : ((l : List ℕ) (last : ℕ) (vs rest : List ℕ) → length l ≤ n → last < 2 ^ 32 → sums_of p s n l last ≡ got vs rest → ValuesAfter l last vs rest)
          → (r : Read ℕ) → step_of p s l last ≡ r → and_then r (sums_from p s n) ≡ got vs rest → ValuesAfter l last vs rest
      go ih (refused j) f g = absurd (let z : ◌≡◌ {A = ℕ} 0 1 = cc in omega arith)
      go ih (got v more) f g =
          let r = sums_of p s n more v in
          let b = joined_got (v ∷ []) r (sym (joined_none (before v r) ∙ joined_before [] v r) ∙ g) in
          let t = stepped p s l last f in
          subst (λ (x : List ℕ). ValuesAfter l last x rest) (sym b.1)
          (values_more k t (ih more v b.0 rest (omega (arith, step_fewer k t)) (step_lt k t) b.2))

-- What a list that is accepted is: read to its end, never descending, every value valid, of a value or more where it has bytes, and no longer when it
-- is written than it was.
pub record Accepted (p s : ℕ) (l vs rest : List ℕ) : Type 0 where
  pub sums : sums_of p s (length l) l 0 ≡ got vs rest
  pub end : rest ≡ []
  pub rises : ascends vs ≡ true
  pub all : all_valid p s vs ≡ true
  pub some : 0 < length l → 0 < length vs
  pub fewer : length vs ≤ length l
  pub short : written vs ≤ length l

pub accepted : (p s : ℕ) (l : List ℕ) {vs rest : List ℕ} → decode_of p s l ≡ got vs rest → Accepted p s l vs rest
unfolding decode_of ascends written
accepted p s l {vs} {rest} e = go (sums_of p s (length l) l 0) refl e
  where
    go : (r : Read (List ℕ)) → sums_of p s (length l) l 0 ≡ r → and_then r (asked p s) ≡ got vs rest → Accepted p s l vs rest
    go (refused n) f g = absurd (let z : ◌≡◌ {A = ℕ} 0 1 = cc in omega arith)
    go (got ws end) f g = pick (all_valid p s ws) refl g
      where
        pick : (t : Bool) → all_valid p s ws ≡ t → cond t (got ws end) (refused 20) ≡ got vs rest → Accepted p s l vs rest
        pick false h k = absurd (let z : ◌≡◌ {A = ℕ} 0 1 = cc in omega arith)
        pick true h k =
            let a : ws ≡ vs = cc in
            let b : end ≡ rest = cc in
            let sums = f ∙ ap₂ (λ (x y : List ℕ). got x y) a b in
            let m = values_after p s (length l) l 0 vs rest (omega arith) (omega arith) sums in
            record {
              sums = sums;
              end = m.end;
              rises = m.rises;
              all = subst (λ (x : List ℕ). all_valid p s x ≡ true) a h;
              some = m.some;
              fewer = m.fewer;
              short = m.short;
            }

-- A walk over a list that is accepted: it is not stopped, its values so far are the list's first ones, each is valid, and at the end they are all.
module _ {p s : ℕ} {bytes vs : List ℕ} {at last plain : ℕ} {all rest : List ℕ} (e : decode_of p s bytes ≡ got all rest) (g : Going p s bytes vs at last plain) where
  pub going_front : (more : List ℕ) × (all ≡ vs ++ more)
  going_front = let j = joined_got vs (sums_of p s g.bound (drop at bytes) last) (sym g.whole ∙ (accepted p s bytes e).sums) in (j.0, j.1)

  pub going_valid : all_valid p s vs ≡ true
  going_valid =
      let f = going_front in
      (both_true (all_valid p s vs) (all_valid p s f.0)
      (sym (ap (all_valid p s) f.1 ∙ all_append p s vs f.0) ∙ (accepted p s bytes e).all)).0

  pub going_whole : length bytes ≤ at → all ≡ vs
  going_whole h = let f : got all rest ≡ got vs [] = sym (accepted p s bytes e).sums ∙ all_read g h in cc

  pub going_unstopped : at < length bytes → {x : DecodeError} → NextValuePost p s bytes at last (Err x) → ⊥
  going_unstopped h a = let f = going_stopped g h a in absurd (let z : ◌≡◌ {A = ℕ} 0 1 = cc in omega arith)

pub going_value : {p s : ℕ} {bytes vs : List ℕ} {at last plain : ℕ} {all rest : List ℕ} {v next : ℕ} → decode_of p s bytes ≡ got all rest
    → Going p s bytes vs at last plain → at < length bytes → NextValuePost p s bytes at last (Ok (v, next)) → valid p s v ≡ true
going_value {p} {s} {vs = vs} {v = v} e g h a =
    (both_true (all_valid p s vs) (valid p s v) (sym (all_more p s vs v) ∙ going_valid e (going_next g h a refl))).1

-- No bytes are a list of no values, whatever the precisions are.
pub decode_none : (p s : ℕ) → decode_of p s [] ≡ got [] []
unfolding decode_of sums_of all_valid
decode_none p s = refl

-- ---- what is written is read back

gap_back : (gap : ℕ) (l : List ℕ) → gap < 2 ^ 32 → gap_of (varint_bytes 5 gap ++ l) ≡ got gap l
gap_back gap l h =
    sym (gap_is (varint_bytes 5 gap ++ l) (got gap l) (there_and_back 4 gap l (let k : gap < 2 ^ 35 = omega arith in k))) ∙ gap_small gap l h

module _ {p s : ℕ} (pair : Pair p s) where
  step_back : (last v : ℕ) (l : List ℕ) → last ≤ v → valid p s v ≡ true → step_of p s (varint_bytes 5 (v - last) ++ l) last ≡ got v l
  unfolding step_of
  step_back last v l h t =
      let lt = valid_lt p s v pair t in
      let f : (last + (v - last)) % 2 ^ 32 ≡ v = omega arith in
      ap (λ (x : Read ℕ). and_then x (step_from p s last)) (gap_back (v - last) l (omega arith))
      ∙ ap (λ (x : ℕ). cond (refused_here p s last x) (refused 20) (got x l)) f
      ∙ ap (λ (x : Bool). cond x (refused 20) (got v l)) (valid_taken p s last v h t)

  sums_back : (vs : List ℕ) (n last : ℕ) → not_before last vs ≡ true → all_valid p s vs ≡ true → length (encode_from last vs) ≤ n
      → sums_of p s n (encode_from last vs) last ≡ got vs []
  unfolding encode_from all_valid
  sums_back [] n last a e h = sums_none p s n last
  sums_back (v ∷ vs) zero last a e h =
      absurd (let z : ⊥ = omega (arith, length-append (varint_bytes 5 (v - last)) (encode_from v vs), len_pos 4 (v - last)) in z)
  sums_back (v ∷ vs) (suc n) last a e h =
      let len = length-append (varint_bytes 5 (v - last)) (encode_from v vs) in
      let pos = len_pos 4 (v - last) in
      sums_step p s n last (varint_bytes 5 (v - last) ++ encode_from v vs) (omega arith)
      ∙ ap (λ (r : Read ℕ). and_then r (sums_from p s n))
      (step_back last v (encode_from v vs) (leb-true last v (both_true (leb last v) (not_before v vs) a).0) (both_true (valid p s v) (all_valid p s vs) e).0)
      ∙ ap (before v)
      (sums_back vs n v (both_true (leb last v) (not_before v vs) a).1 (both_true (valid p s v) (all_valid p s vs) e).1 (omega arith))

  pub decode_encode : (vs : List ℕ) → ascends vs ≡ true → all_valid p s vs ≡ true → decode_of p s (encode_list vs) ≡ got vs []
  unfolding ascends encode_list decode_of
  decode_encode vs a e =
      ap (λ (r : Read (List ℕ)). and_then r (asked p s)) (sums_back vs (length (encode_from 0 vs)) 0 a e (omega arith))
      ∙ ap (λ (t : Bool). cond t (got vs []) (refused 20)) e

-- ---- a refusal has a number above 0

abbrev Numbered : {A : Type 0} → Read A → Type 0
Numbered (got x l) = Unit
Numbered (refused n) = 0 < n

numbered_then : {A B : Type 0} (r : Read A) (next : A → List ℕ → Read B) → Numbered r → ((x : A) (l : List ℕ) → Numbered (next x l)) → Numbered (and_then r next)
numbered_then (got x l) next h f = f x l
numbered_then (refused n) next h f = h

gap_numbered : (l : List ℕ) → Numbered (gap_of l)
unfolding gap_of
gap_numbered l = go (varint_of 5 l)
  where
    cut : (b : Bool) → 0 < cond b 18 19
    cut true = omega arith
    cut false = omega arith

    go : (r : Read ℕ) → Numbered (gap_answer r)
    go (got v rest) = whichever Numbered (ltb v (2 ^ 32)) (got v rest) (refused 19) tt (omega arith)
    go (refused n) = cut (eqb n 3)

step_numbered : (p s : ℕ) (l : List ℕ) (last : ℕ) → Numbered (step_of p s l last)
unfolding step_of
step_numbered p s l last =
    numbered_then (gap_of l) (step_from p s last) (gap_numbered l)
    (λ (gap : ℕ) (rest : List ℕ).
    let v = (last + gap) % 2 ^ 32 in
    whichever Numbered (refused_here p s last v) (refused 20) (got v rest) (omega arith) tt)

sums_numbered : (p s n : ℕ) (l : List ℕ) (last : ℕ) → Numbered (sums_of p s n l last)
unfolding sums_of
sums_numbered p s zero l last = tt
sums_numbered p s (suc n) [] last = tt
sums_numbered p s (suc n) (b ∷ l) last =
    numbered_then (step_of p s (b ∷ l) last) (sums_from p s n) (step_numbered p s (b ∷ l) last)
    (λ (v : ℕ) (rest : List ℕ). more v (sums_of p s n rest v) (sums_numbered p s n rest v))
  where
    more : (v : ℕ) (r : Read (List ℕ)) → Numbered r → Numbered (before v r)
    more v (got vs l) h = tt
    more v (refused k) h = h

pub decode_number : (p s : ℕ) (l : List ℕ) (n : ℕ) → decode_of p s l ≡ refused n → 0 < n
unfolding decode_of
decode_number p s l n e =
    subst Numbered e
    (numbered_then (sums_of p s (length l) l 0) (asked p s) (sums_numbered p s (length l) l 0)
    (λ (vs rest : List ℕ). whichever Numbered (all_valid p s vs) (got vs rest) (refused 20) tt (omega arith)))
