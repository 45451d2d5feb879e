-- The text of a report, line by line; each line ends with a newline. Assumes nothing.
use Rattle.std.specs.Prelude.{ℕ, List, [], ◌∷◌, ◌++◌, codes, decimal}
use Rattle.std.specs.List.{flat_map}
use Rattle.faults.specs.Faults.{Said}
use Rattle.faults.specs.Texts.{refusal_text}
use Rattle.schedules.specs.declared.record.UnitRecord.{UnitRecord}
use Rattle.schedules.specs.Texts.{record_text}
use Rattle.handins.specs.declared.report.Counts.{Counts}
use Rattle.handins.specs.Tests.{Tried, passes, fails}
use Rattle.handins.specs.Marking.{Marked}

-- as stall 2 of 7
abbrev pub counts_text : Counts → List ℕ
counts_text c = codes "stall " ++ (decimal c.stall ++ (codes " of " ++ decimal c.elapsed))

abbrev pub newline : List ℕ
newline = 10 ∷ []

-- the lines of a unit, of the counts, and of a refusal
abbrev pub unit_text : UnitRecord → List ℕ
unit_text u = record_text u ++ newline

abbrev pub last_text : Counts → List ℕ
last_text c = counts_text c ++ newline

abbrev pub refused_text : Said → List ℕ
refused_text x = refusal_text x ++ newline

-- a line for each unit that ran, then the last line or the refusal
abbrev pub ending_text : Tried → Counts → List ℕ
ending_text passes c = last_text c
ending_text (fails x) c = refused_text x

abbrev pub listing_text : Marked → List ℕ
listing_text m = flat_map unit_text m.units ++ ending_text m.ending m.counts
