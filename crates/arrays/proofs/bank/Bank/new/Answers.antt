use Rattle.std.proofs.Common.{refl, arith}
use Rattle.arrays.specs.Layouts.{all_first}
use Rattle.arrays.specs.Homes.{first_home}
use Rattle.arrays.proofs.bank.Bank.new.Goals as goal

pub invariant_of-result-2-clause-housed : goal.invariant_of-result-2-clause-housed
unfolding all_first
invariant_of-result-2-clause-housed c = λ b. omega (arith, first_home b)

pub returns-clause-homes : goal.returns-clause-homes
unfolding all_first
returns-clause-homes c = refl
