-- The laws that the tally of every list of calls keeps. Assumes nothing: these are statements.
use Rattle.std.specs.Prelude.{◌≡◌, ℕ, suc, ◌+◌, ◌-◌, ◌<◌, ◌≤◌, true, false, ◌⊎◌, List, [], ◌∷◌, ◌++◌, length, Some, None, ◌≢◌, count_ones}
use Rattle.maps.specs.Maps.{has}
use Rattle.faults.specs.Outcomes.{accepted}
use Rattle.arrays.specs.declared.fetch.Fetch.{Fetch}
use Rattle.arrays.specs.Disks.{Disks, holds}
use Rattle.instances.specs.Instances.{Instance, Sound, asked, home}
use Rattle.tallies.specs.declared.call.Call.{Call}
use Rattle.tallies.specs.declared.call.Order.{Order}
use Rattle.tallies.specs.declared.call.Call.TheVariants as call
use Rattle.tallies.specs.Tally.{State, Answer, told, served, stalled, beginning, answer, next, tally}
use Rattle.tallies.specs.Logs.{Entry, log, serves, stalls, count, Evicted, Resident}

-- time adds up: each unit that goes by serves a request or stalls
pub record Times (s : State) (es : List Entry) : Type 0 where
  pub cursor : s.cursor ≡ count serves es
  pub stall : s.stall ≡ count stalls es
  pub elapsed : s.elapsed ≡ s.cursor + s.stall

-- a fetch lasts exactly F units: of block i, ordered in state s, when the entries es have led to t
pub record Lasts (w : Instance) (s : State) (i : ℕ) (es : List Entry) (t : State) : Type 0 where
  -- before its time is over its home disk has it under way, and accepts no other fetch, and the block is not cached
  pub flies : t.elapsed < s.elapsed + w.time → holds t.disks (home w i) ≡ Some (record { block = i; left = s.elapsed + w.time - t.elapsed })
  pub alone : t.elapsed < s.elapsed + w.time → (x : Order) → home w x.fetch ≡ home w i → answer w t (call.Order x) ≢ told accepted
  pub absent : t.elapsed < s.elapsed + w.time → has t.cache i ≡ false
  -- from then on the block is cached, unless an order has evicted it since
  pub lands : s.elapsed + w.time ≤ t.elapsed → (has t.cache i ≡ true) ⊎ Evicted i es

-- how many disks have a fetch under way
abbrev pub flights : Disks → ℕ
flights [] = 0
flights (None ∷ os) = flights os
flights (Some f ∷ os) = suc (flights os)

-- blocks cached and blocks in flight are together as many as the cache holds, and no block is both
pub record Shared (w : Instance) (s : State) : Type 0 where
  pub full : count_ones s.cache + flights s.disks ≡ w.size
  pub apart : (d : ℕ) (f : Fetch) → holds s.disks d ≡ Some f → has s.cache f.block ≡ false

-- a block is cached exactly when it was there at the start or has arrived, and was not evicted since
abbrev pub Residents : Instance → List Entry → State → Type 0
Residents w es s = (b : ℕ) → (has s.cache b ≡ true → Resident w es b) × (Resident w es b → has s.cache b ≡ true)

-- a unit serves the block asked for only where it was cached as the unit began, and stalls only where it was not
abbrev pub AnswersCached : Instance → State → Answer → Type 0
AnswersCached w s (told o) = Unit {0}
AnswersCached w s (served b) = (b ≡ asked w s.cursor) × (has s.cache b ≡ true)
AnswersCached w s (stalled b) = (b ≡ asked w s.cursor) × (has s.cache b ≡ false)

-- all of them, of the tally of one list of calls; where a law speaks of one call, it stands anywhere in the list
pub record Lawful (w : Instance) (disks : Disks) (calls : List Call) : Type 0 where
  pub times : Times (tally w disks calls) (log w (beginning w disks) calls)
  pub lasts : (first rest : List Call) (x : Order) → calls ≡ first ++ call.Order x ∷ rest
      → answer w (tally w disks first) (call.Order x) ≡ told accepted
      → Lasts w (tally w disks first) x.fetch (log w (next w (tally w disks first) (call.Order x)) rest) (tally w disks calls)
  pub shared : (tally w disks calls).void ≡ false → Shared w (tally w disks calls)
  pub residents : (tally w disks calls).void ≡ false → Residents w (log w (beginning w disks) calls) (tally w disks calls)
  pub cached : (first rest : List Call) → calls ≡ first ++ call.Unit ∷ rest → AnswersCached w (tally w disks first) (answer w (tally w disks first) call.Unit)

-- the tally of every list of calls, of every sound instance, is lawful, whatever the four disks had under way at the start
abbrev pub TalliesLawful : Type 0
TalliesLawful = (w : Instance) (disks : Disks) (calls : List Call) → Sound w → length disks ≡ 4 → Lawful w disks calls
