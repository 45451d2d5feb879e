-- What a call answers that may refuse. Assumes nothing.
use Rattle.std.specs.Prelude.{ℕ, List, Ok, Err, Result}

-- accepted, or refused: the refusal's number and the values that it returns
pub data Outcome : Type 0 where
  accepted : Outcome
  refused : ℕ → List ℕ → Outcome

-- two tests in turn: the second is tried only where the first accepts
abbrev pub and_then : Outcome → Outcome → Outcome
and_then accepted next = next
and_then (refused n values) next = refused n values

-- the number of a refusal; an acceptance has none
abbrev pub number_of : Outcome → ℕ
number_of accepted = 0
number_of (refused n values) = n

-- what a result says, where `said` tells what each of its errors says
abbrev pub answered : {X E : Type 0} → (E → Outcome) → Result X E → Outcome
answered said (Ok x) = accepted
answered said (Err e) = said e
