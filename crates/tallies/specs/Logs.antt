-- A list of calls with their answers, and what can be read off it. Assumes nothing.
use Rattle.std.specs.Prelude.{◌≡◌, ℕ, ◌+◌, ◌≤◌, true, ◌⊎◌, List, [], ◌∷◌}
use Rattle.maps.specs.Maps.{has}
use Rattle.faults.specs.Outcomes.{accepted}
use Rattle.instances.specs.Instances.{Instance}
use Rattle.tallies.specs.declared.call.Call.{Call}
use Rattle.tallies.specs.declared.call.Call.TheVariants as call
use Rattle.tallies.specs.Tally.{State, Answer, told, served, stalled, answer, next}

-- a call with its answer
pub record Entry : Type 0 where
  pub call : Call
  pub answer : Answer

abbrev pub log : Instance → State → List Call → List Entry
log w s [] = []
log w s (c ∷ cs) = record { call = c; answer = answer w s c } ∷ log w (next w s c) cs

-- 1 for an answer that serves, or that stalls, and 0 for any other
abbrev pub serves : Answer → ℕ
serves (told o) = 0
serves (served b) = 1
serves (stalled b) = 0

abbrev pub stalls : Answer → ℕ
stalls (told o) = 0
stalls (served b) = 0
stalls (stalled b) = 1

-- how many entries of a log are of a kind
abbrev pub count : (Answer → ℕ) → List Entry → ℕ
count kind [] = 0
count kind (e ∷ es) = kind e.answer + count kind es

-- the units that went by: each serves or stalls
abbrev pub units : List Entry → ℕ
units es = count (λ a. serves a + stalls a) es

-- an accepted order fetches block b, or evicts it
abbrev pub Fetches : ℕ → Call → Answer → Type 0
Fetches b (call.Order x) a = (a ≡ told accepted) × (x.fetch ≡ b)
Fetches b call.Unit a = ⊥

abbrev pub Evicts : ℕ → Call → Answer → Type 0
Evicts b (call.Order x) a = (a ≡ told accepted) × (x.evict ≡ b)
Evicts b call.Unit a = ⊥

-- some entry evicts block b, or none does
abbrev pub Evicted : ℕ → List Entry → Type 0
Evicted b [] = ⊥
Evicted b (e ∷ es) = Evicts b e.call e.answer ⊎ Evicted b es

abbrev pub Unevicted : ℕ → List Entry → Type 0
Unevicted b [] = Unit {0}
Unevicted b (e ∷ es) = (Evicts b e.call e.answer → ⊥) × Unevicted b es

-- some entry fetches block b, a whole fetch time has gone by since, and nothing has evicted it since
abbrev pub Arrived : ℕ → ℕ → List Entry → Type 0
Arrived time b [] = ⊥
Arrived time b (e ∷ es) = (Fetches b e.call e.answer × (time ≤ units es) × Unevicted b es) ⊎ Arrived time b es

-- block b was in the initial cache or has arrived, and was not evicted since
abbrev pub Resident : Instance → List Entry → ℕ → Type 0
Resident w es b = ((has w.initial b ≡ true) × Unevicted b es) ⊎ Arrived w.time b es
