use Rattle.std.proofs.Common.{arith}
use Rattle.arrays.proofs.Spreads.{below_greatest, few_homes}
use Rattle.arrays.proofs.bank.Bank.fill.Goals as goal

pub overflow_add-count : goal.overflow_add-count
overflow_add-count c = omega (arith, c.greatest-count.ensures, few_homes 0 c.args.homes.now c.in_ok-try_homes.ensures)

pub invariant_of-self-clause-few : goal.invariant_of-self-clause-few
invariant_of-self-clause-few c = omega (arith, c.greatest-count.ensures, few_homes 0 c.args.homes.now c.in_ok-try_homes.ensures)

pub invariant_of-self-clause-housed : goal.invariant_of-self-clause-housed
invariant_of-self-clause-housed c = λ b. omega (arith, c.greatest-count.ensures, below_greatest c.args.homes.now b)
