-- What the fields of a run show. Assumes nothing.
use Rattle.arrays.specs.declared.array.Array.{Ghosts as ArrayOf}
use Rattle.arrays.specs.declared.array.Placement.{Ghosts as PlacementOf}
use Rattle.instances.specs.Instances.{Instance, instance_of}
use Rattle.tallies.specs.Tally.{State}
use Rattle.runs.specs.declared.run.Run.TheInside.{Inside}
use Rattle.runs.specs.Standing.{Standing}

-- what does not change in a run
abbrev pub run_instance : {X : Type 0} (P : PlacementOf X) (A : ArrayOf X) → Inside X A P → Instance
run_instance P A r = instance_of P A r.setting r.array

-- where it stands
abbrev pub run_state : {X : Type 0} {P : PlacementOf X} (A : ArrayOf X) → Inside X A P → State
run_state A r =
    record { void = r.void; cursor = r.cursor; elapsed = r.elapsed; stall = r.stall; orders = r.orders; cache = r.cache; disks = A.held r.array }

abbrev pub standing : {X : Type 0} (P : PlacementOf X) (A : ArrayOf X) → Inside X A P → Standing X
standing P A r =
    record { setting = r.setting; array = r.array; instance = run_instance P A r; state = run_state A r; counted = record { within = r.within; spent = r.spent; bounded = r.bounded } }
