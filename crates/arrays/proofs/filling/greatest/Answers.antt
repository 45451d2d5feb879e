use Rattle.std.proofs.Common.{refl, arith, rules}
use Rattle.std.proofs.lemmas.Grind.{common_steps}
use Rattle.std.proofs.lemmas.List.Recursion.{max_bounds, max_least}
use Rattle.arrays.specs.Filling.{greatest}
use Rattle.arrays.proofs.filling.greatest.Goals as goal

pub returns : goal.returns
returns c =
    let bounds = max_bounds greatest (λ h. h) refl (λ _ _. refl) c.args.homes.now in
    let least = max_least greatest (λ h. h) refl (λ _ _. refl) c.args.homes.now 0 c.unwrap_or.result (search rules) in
    grind (arith, common_steps, bounds, least)
