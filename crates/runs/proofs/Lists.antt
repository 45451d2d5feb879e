-- A list of calls, call by call. Assumes nothing.
use Rattle.std.proofs.Common.{◌≡◌, ℕ, ◌+◌, ◌<◌, List, [], ◌∷◌, ◌++◌, length, get_or, take, ap, ◌∙◌}
use Rattle.std.proofs.lemmas.List.{take_more, take_all, map_push}
use Rattle.instances.specs.Instances.{Instance}
use Rattle.tallies.specs.declared.call.Call.{Call}
use Rattle.tallies.specs.Tally.{State, answer, next, after, answers}
use Rattle.tallies.proofs.Appending.{after_append, answers_append}

module _ (w : Instance) (s : State) (cs : List Call) (i : ℕ) (d : Call) (more : i < length cs) where
  pub after_more : after w s (take (i + 1) cs) ≡ next w (after w s (take i cs)) (get_or cs i d)
  after_more = ap (after w s) (take_more cs i d more) ∙ after_append w s (take i cs) (get_or cs i d ∷ [])

  pub answers_more : answers w s (take (i + 1) cs) ≡ answers w s (take i cs) ++ answer w (after w s (take i cs)) (get_or cs i d) ∷ []
  answers_more = ap (answers w s) (take_more cs i d more) ∙ answers_append w s (take i cs) (get_or cs i d ∷ [])

pub ruleset call_steps = (after_more, answers_more, map_push, take_all)
