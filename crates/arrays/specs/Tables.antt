-- A table of disk records. Assumes nothing.
use Rattle.std.specs.Prelude.{List, map}
use Rattle.arrays.specs.declared.disk.Disk.{Disk}
use Rattle.arrays.specs.Disks.{Disks}

-- what the disks of a table have under way
abbrev pub contents : List Disk → Disks
contents disks = map (λ (d : Disk). d.fetch) disks
