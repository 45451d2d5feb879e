-- The text of a refusal. Assumes nothing.
use Rattle.std.specs.Prelude.{ℕ, List, ◌++◌, codes, decimal}
use Rattle.faults.specs.Outcomes.{number_of}
use Rattle.faults.specs.Faults.{Said}

-- as refused 10 part 2
abbrev pub refusal_text : Said → List ℕ
refusal_text x = codes "refused " ++ (decimal (number_of x.said) ++ (codes " part " ++ decimal x.part))
