-- The wire type picks the same arm of the code and of the definition, and the calls answer as that arm does.
use Rattle.wire.proofs.ReadingLaws.{skip_number, skip_fixed64, skip_bytes, skip_fixed32, skipped_past, skip_failed, skip_unknown}
use Rattle.wire.proofs.fields.skip.Goals as goal

pub returns-in_err-read_varint-in-0 : goal.returns-in_err-read_varint-in-0
returns-in_err-read_varint-in-0 c = skip_failed (skip_number c.args.tag c.in-0.is) c.in_err-read_varint-in-0.ensures _ c.from_residual.ensures.1

pub returns-in_err-take-in-1 : goal.returns-in_err-take-in-1
returns-in_err-take-in-1 c =
    skip_failed (skip_fixed64 c.args.tag c.in-1.is) c.in_err-take-in-1.ensures.read _ c.from_residual-in_err-take-in-1.ensures.1

pub returns-in_err-length_delimited-in-2 : goal.returns-in_err-length_delimited-in-2
returns-in_err-length_delimited-in-2 c =
    skip_failed (skip_bytes c.args.tag c.in-2.is) c.in_err-length_delimited-in-2.ensures.read _
    c.from_residual-in_err-length_delimited-in-2.ensures.1

pub returns-in_err-next-in-5 : goal.returns-in_err-next-in-5
returns-in_err-next-in-5 c =
    skip_failed (skip_fixed32 c.args.tag c.in-5.is) c.in_err-next-in-5.ensures.read _ c.from_residual-in_err-next-in-5.ensures.1

pub returns-in_default : goal.returns-in_default
returns-in_default c =
    let r = c.in_default.in_default-own.rest in
    skip_unknown _ _ c.args.tag r.0.0.0.1 r.0.0.1 r.0.1 r.1

pub returns-in_ok-read_varint-in-0 : goal.returns-in_ok-read_varint-in-0
returns-in_ok-read_varint-in-0 c = skipped_past (skip_number c.args.tag c.in-0.is) c.in_ok-read_varint-in-0.ensures

pub returns-in_ok-take-in-1 : goal.returns-in_ok-take-in-1
returns-in_ok-take-in-1 c = skipped_past (skip_fixed64 c.args.tag c.in-1.is) c.in_ok-take-in-1.ensures.read

pub returns-in_ok-length_delimited-in-2 : goal.returns-in_ok-length_delimited-in-2
returns-in_ok-length_delimited-in-2 c = skipped_past (skip_bytes c.args.tag c.in-2.is) c.in_ok-length_delimited-in-2.ensures.read

pub returns-in_ok-next-in-5 : goal.returns-in_ok-next-in-5
returns-in_ok-next-in-5 c = skipped_past (skip_fixed32 c.args.tag c.in-5.is) c.in_ok-next-in-5.ensures.read
