-- When a setting is filled, and what refuses it. Assumes nothing.
use Rattle.std.specs.Prelude.{◌≡◌, ℕ, suc, ◌^◌, cond, ◌&&◌, ◌||◌, List, [], ◌∷◌, length, ◌==◌, count_ones, nat_lt}
use Rattle.faults.specs.Outcomes.{Outcome, accepted, refused, and_then}
use Rattle.settings.specs.Contents.{Content, Within}

-- the figures m, k and n in turn: 1 to 64 blocks, 1 to m of them cached, at most 200 requests
abbrev pub try_figures : ℕ → ℕ → ℕ → Outcome
try_figures m k n =
    cond (nat_lt m 1 || nat_lt 64 m) (refused 1 (1 ∷ [])) (cond (nat_lt k 1 || nat_lt m k) (refused 1 (2 ∷ [])) (cond (nat_lt 200 n) (refused 1 (3 ∷ [])) accepted))

-- the initial map is k blocks below m
abbrev pub try_initial : ℕ → ℕ → ℕ → Outcome
try_initial m k map = cond (nat_lt map (2 ^ m) && count_ones map == k) accepted (refused 2 (count_ones map ∷ []))

-- each request names a block below m; the first of the list is request c
abbrev pub try_requests : ℕ → ℕ → List ℕ → Outcome
try_requests m c [] = accepted
try_requests m c (r ∷ rs) = cond (nat_lt r m) (try_requests m (suc c) rs) (refused 3 (c ∷ []))

-- figures, initial map and requests, in this order
abbrev pub try_content : Content → Outcome
try_content new =
    and_then (try_figures new.blocks new.size (length new.requests))
    (and_then (try_initial new.blocks new.size new.initial) (try_requests new.blocks 1 new.requests))

-- a setting can be filled with exactly what is within the limits
abbrev pub FillsWithin : Content → Outcome → Type 0
FillsWithin new o = (o ≡ accepted → Within new) × (Within new → o ≡ accepted)

-- what a setting holds after an attempt to fill it: a refusal changes nothing
abbrev pub filled : Outcome → Content → Content → Content
filled accepted new old = new
filled (refused n values) new old = old
