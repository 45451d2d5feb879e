-- Calls in two parts. Assumes nothing.
use Rattle.std.proofs.Common.{◌≡◌, List, [], ◌∷◌, ◌++◌, refl, ap}
use Rattle.instances.specs.Instances.{Instance}
use Rattle.tallies.specs.declared.call.Call.{Call}
use Rattle.tallies.specs.Tally.{State, answer, next, after, answers}

pub after_append : (w : Instance) (s : State) (first rest : List Call) → after w s (first ++ rest) ≡ after w (after w s first) rest
after_append w s [] rest = refl
after_append w s (c ∷ first) rest = after_append w (next w s c) first rest

pub answers_append : (w : Instance) (s : State) (first rest : List Call) → answers w s (first ++ rest) ≡ answers w s first ++ answers w (after w s first) rest
answers_append w s [] rest = refl
answers_append w s (c ∷ first) rest = ap (λ l. answer w s c ∷ l) (answers_append w (next w s c) first rest)
