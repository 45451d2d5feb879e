-- The text of a unit that went by. Assumes nothing.
use Rattle.std.specs.Prelude.{ℕ, List, [], ◌++◌, Some, None, Option, codes, decimal}
use Rattle.std.specs.List.{flat_map}
use Rattle.tallies.specs.declared.call.Order.{Order}
use Rattle.tallies.specs.Texts.{order_text, progress_text}
use Rattle.schedules.specs.declared.record.UnitRecord.{UnitRecord}

-- an order behind a blank, where a disk has one
abbrev pub disk_text : Option Order → List ℕ
disk_text None = []
disk_text (Some o) = codes " " ++ order_text o

-- as 1 s 0 +3-2, the orders lowest disk first
abbrev pub record_text : UnitRecord → List ℕ
record_text u = (decimal u.number ++ (codes " " ++ progress_text u.progress)) ++ flat_map disk_text u.orders
