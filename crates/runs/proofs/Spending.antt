-- In every run time adds up. Assumes nothing.
use Rattle.std.proofs.Common.{arith}
use Rattle.std.proofs.lemmas.Bool.{eqb-true}
use Rattle.runs.specs.Standing.{Standing, Spent}

pub spent : {X : Type 0} (v : Standing X) → Spent v.instance v.state
spent v = let kept = v.counted in record { adds_up = kept.spent; at_finish = λ e. omega (arith, kept.spent, eqb-true v.state.cursor _ e) }
