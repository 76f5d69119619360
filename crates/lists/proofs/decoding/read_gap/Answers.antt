-- Each byte of 128 or more makes just the weight of the next, which is taken off where that one is added.
use Rattle.lists.specs.Lists.{GapPost}
use Rattle.lists.proofs.DecodingLaws.{handed_on, cut_1, last_1, cut_2, last_2, cut_3, last_3, cut_4, last_4, cut_5, last_5, long_5}
use Rattle.lists.proofs.decoding.read_gap.Goals as goal

pub returns-in_err-a : goal.returns-in_err-a
returns-in_err-a c = handed_on (GapPost c.args.bytes.now c.args.at) c.from_residual.result c.in_err-a.field-0.0 c.from_residual.ensures.1
    (cut_1 c.args.bytes.now c.args.at (rw c.in_err-a.was at c.gap_byte.ensures))

pub returns-then-a-lt128 : goal.returns-then-a-lt128
returns-then-a-lt128 c = last_1 c.args.bytes.now c.args.at c.in_ok-a.a (rw c.in_ok-a.was at c.gap_byte.ensures) c.if-a-lt128.true

pub returns-in_err-b : goal.returns-in_err-b
returns-in_err-b c = handed_on (GapPost c.args.bytes.now c.args.at) c.from_residual-in_err-b.result c.in_err-b.field-0.0 c.from_residual-in_err-b.ensures.1
    (cut_2 c.args.bytes.now c.args.at c.in_ok-a.a (rw c.in_ok-a.was at c.gap_byte.ensures) c.if-a-lt128.false (rw c.in_err-b.was at c.gap_byte-2.ensures))

pub returns-then-b-lt128 : goal.returns-then-b-lt128
returns-then-b-lt128 c = last_2 c.args.bytes.now c.args.at c.in_ok-a.a (rw c.in_ok-a.was at c.gap_byte.ensures) c.if-a-lt128.false c.in_ok-b.b (rw c.in_ok-b.was at c.gap_byte-2.ensures) c.if-b-lt128.true

pub returns-in_err-c : goal.returns-in_err-c
returns-in_err-c c = handed_on (GapPost c.args.bytes.now c.args.at) c.from_residual-in_err-c.result c.in_err-c.field-0.0 c.from_residual-in_err-c.ensures.1
    (cut_3 c.args.bytes.now c.args.at c.in_ok-a.a (rw c.in_ok-a.was at c.gap_byte.ensures) c.if-a-lt128.false c.in_ok-b.b (rw c.in_ok-b.was at c.gap_byte-2.ensures) c.if-b-lt128.false (rw c.in_err-c.was at c.gap_byte-3.ensures))

pub returns-then-c-lt128 : goal.returns-then-c-lt128
returns-then-c-lt128 c = last_3 c.args.bytes.now c.args.at c.in_ok-a.a (rw c.in_ok-a.was at c.gap_byte.ensures) c.if-a-lt128.false c.in_ok-b.b (rw c.in_ok-b.was at c.gap_byte-2.ensures) c.if-b-lt128.false c.in_ok-c.c (rw c.in_ok-c.was at c.gap_byte-3.ensures) c.if-c-lt128.true

pub returns-in_err-d : goal.returns-in_err-d
returns-in_err-d c = handed_on (GapPost c.args.bytes.now c.args.at) c.from_residual-in_err-d.result c.in_err-d.field-0.0 c.from_residual-in_err-d.ensures.1
    (cut_4 c.args.bytes.now c.args.at c.in_ok-a.a (rw c.in_ok-a.was at c.gap_byte.ensures) c.if-a-lt128.false c.in_ok-b.b (rw c.in_ok-b.was at c.gap_byte-2.ensures) c.if-b-lt128.false c.in_ok-c.c (rw c.in_ok-c.was at c.gap_byte-3.ensures) c.if-c-lt128.false (rw c.in_err-d.was at c.gap_byte-4.ensures))

pub returns-then-d-lt128 : goal.returns-then-d-lt128
returns-then-d-lt128 c = last_4 c.args.bytes.now c.args.at c.in_ok-a.a (rw c.in_ok-a.was at c.gap_byte.ensures) c.if-a-lt128.false c.in_ok-b.b (rw c.in_ok-b.was at c.gap_byte-2.ensures) c.if-b-lt128.false c.in_ok-c.c (rw c.in_ok-c.was at c.gap_byte-3.ensures) c.if-c-lt128.false c.in_ok-d.d (rw c.in_ok-d.was at c.gap_byte-4.ensures) c.if-d-lt128.true

pub returns-in_err-e : goal.returns-in_err-e
returns-in_err-e c = handed_on (GapPost c.args.bytes.now c.args.at) c.from_residual-in_err-e.result c.in_err-e.field-0.0 c.from_residual-in_err-e.ensures.1
    (cut_5 c.args.bytes.now c.args.at c.in_ok-a.a (rw c.in_ok-a.was at c.gap_byte.ensures) c.if-a-lt128.false c.in_ok-b.b (rw c.in_ok-b.was at c.gap_byte-2.ensures) c.if-b-lt128.false c.in_ok-c.c (rw c.in_ok-c.was at c.gap_byte-3.ensures) c.if-c-lt128.false c.in_ok-d.d (rw c.in_ok-d.was at c.gap_byte-4.ensures) c.if-d-lt128.false (rw c.in_err-e.was at c.gap_byte-5.ensures))

pub returns-then-e-lt16 : goal.returns-then-e-lt16
returns-then-e-lt16 c = last_5 c.args.bytes.now c.args.at c.in_ok-a.a (rw c.in_ok-a.was at c.gap_byte.ensures) c.if-a-lt128.false c.in_ok-b.b (rw c.in_ok-b.was at c.gap_byte-2.ensures) c.if-b-lt128.false c.in_ok-c.c (rw c.in_ok-c.was at c.gap_byte-3.ensures) c.if-c-lt128.false c.in_ok-d.d (rw c.in_ok-d.was at c.gap_byte-4.ensures) c.if-d-lt128.false c.in_ok-e.e (rw c.in_ok-e.was at c.gap_byte-5.ensures) c.if-e-lt16.true

pub returns : goal.returns
returns c = long_5 c.args.bytes.now c.args.at c.in_ok-a.a (rw c.in_ok-a.was at c.gap_byte.ensures) c.if-a-lt128.false c.in_ok-b.b (rw c.in_ok-b.was at c.gap_byte-2.ensures) c.if-b-lt128.false c.in_ok-c.c (rw c.in_ok-c.was at c.gap_byte-3.ensures) c.if-c-lt128.false c.in_ok-d.d (rw c.in_ok-d.was at c.gap_byte-4.ensures) c.if-d-lt128.false c.in_ok-e.e (rw c.in_ok-e.was at c.gap_byte-5.ensures) c.if-e-lt16.false
