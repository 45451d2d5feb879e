use Rattle.std.proofs.Common.{◌≡◌, ◌++◌, map, take, drop}
use Rattle.arrays.specs.Disks.{arrivals, step_disk}
use Rattle.arrays.specs.Tables.{contents}
use Rattle.arrays.proofs.table.Table.step.Given as goal

-- the disks before the place are stepped, and the others are as they were
abbrev pub invariant-loop-disk : goal.invariant-loop-disk
invariant-loop-disk l =
    let os = contents l.initial.disk-items in record {
      stepped : contents l.disk-items ≡ map step_disk (take l.disk-index os) ++ drop l.disk-index os;
      delivered : l.arrived ≡ arrivals (take l.disk-index os);
    }
