-- The tests of a hand-in. Assumes nothing.
use Rattle.std.specs.Prelude.{Ok, Err, Result}
use Rattle.faults.specs.declared.handin.HandInFault.{HandInFault}
use Rattle.faults.specs.Faults.{Said, hand_in_fault, in_part_one}
use Rattle.faults.specs.Outcomes.{Outcome, accepted, refused}

-- a test of a hand-in passes, or fails with what is said
pub data Tried : Type 0 where
  passes : Tried
  fails : Said → Tried

-- tests in turn: a later one is tried only where the earlier pass
abbrev pub and_then : Tried → Tried → Tried
and_then passes next = next
and_then (fails x) next = fails x

abbrev pub tried : {X : Type 0} → Result X HandInFault → Tried
tried (Ok x) = passes
tried (Err e) = fails (hand_in_fault e)

abbrev pub filled : Outcome → Tried
filled accepted = passes
filled (refused n values) = fails (in_part_one (refused n values))
