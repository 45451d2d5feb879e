use Rattle.std.proofs.Common.{is_some, ◌∙◌, refl, rules, tests}
use Rattle.std.proofs.lemmas.Iterator.{YieldsList-from_range}
use Rattle.std.proofs.lemmas.Iterator.Search.{any_from_yields_List}
use Rattle.arrays.specs.Disks.{holds}
use Rattle.runs.proofs.Busy.{busy_of_four}
use Rattle.runs.proofs.turns.is_busy.Goals as goal

pub returns : goal.returns
returns g c =
    let x = c.args.array.now in
    let os = g.A.Array.held x in
    any_from_yields_List (λ d. is_some (holds os d)) _ _ c.any.result c.any.ensures.ran (YieldsList-from_range 0 4 4 refl refl) (λ d b q k. search (rules, tests))
    ∙ busy_of_four os (g.met.A.Array.working x).four
