-- The texts of an order and of what a unit did. Assumes nothing.
use Rattle.std.specs.Prelude.{ℕ, List, ◌++◌, codes, decimal}
use Rattle.tallies.specs.declared.call.Order.{Order}
use Rattle.tallies.specs.declared.reply.Progress.{Progress}
use Rattle.tallies.specs.declared.reply.Progress.TheVariants.{Served, Stalled}

-- an order as +3-2
abbrev pub order_text : Order → List ℕ
order_text o = codes "+" ++ (decimal o.fetch ++ (codes "-" ++ decimal o.evict))

-- the block that was served, as s 0, or waited for, as . 0
abbrev pub progress_text : Progress → List ℕ
progress_text (Served b) = codes "s " ++ decimal b
progress_text (Stalled b) = codes ". " ++ decimal b
