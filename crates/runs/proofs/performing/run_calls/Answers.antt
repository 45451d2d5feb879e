use Rattle.tallies.proofs.Lawfulness.{lawful_above}
use Rattle.runs.proofs.performing.run_calls.Goals as goal

pub returns-clause-laws : goal.returns-clause-laws
returns-clause-laws g c = let x = c.args.array in lawful_above c.args.setting _ _ _ (g.met.A.Placement.housed x) (g.met.A.Array.working x) c.args.calls.now

pub returns-in_err-replies-clause-laws : goal.returns-in_err-replies-clause-laws
returns-in_err-replies-clause-laws g c = let x = c.args.array in lawful_above c.args.setting _ _ _ (g.met.A.Placement.housed x) (g.met.A.Array.working x) c.args.calls.now
