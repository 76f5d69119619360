-- A turn puts an index, by what `next` gave.
use Rattle.std.proofs.Common.{Some, subst, sym, ◌≤◌, ℕ}
use Rattle.batch.specs.Records.{GivesRecord}
use Rattle.batch.proofs.UnpackingLaws.{room_left, walking_turn}
use Rattle.batch.proofs.unpacking.put_indices.Goals as goal

pub bounds-indices-records : goal.bounds-indices-records
bounds-indices-records c =
    let gives = subst (λ r. GivesRecord c.loop-record.record-iterator (Some r) c.next.new.self) c.in_ok-indices.was c.in-Some.ensures.steps in
    room_left c.loop-record.invariant (subst (λ (n : ℕ). 65536 ≤ n) (sym c.loop-record.auto.indices) c.requires.1) gives.0

pub loop-record-preserved : goal.loop-record-preserved
loop-record-preserved c =
    let gives = subst (λ r. GivesRecord c.loop-record.record-iterator (Some r) c.next.new.self) c.in_ok-indices.was c.in-Some.ensures.steps in
    walking_turn c.loop-record.invariant (subst (λ (n : ℕ). 65536 ≤ n) (sym c.loop-record.auto.indices) c.requires.1) gives.0
