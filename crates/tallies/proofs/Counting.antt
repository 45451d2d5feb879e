-- Each unit that goes by is counted once, by its answer. Assumes nothing.
use Rattle.std.proofs.Common.{◌≡◌, ℕ, ◌+◌, List, [], ◌∷◌, refl, arith}
use Rattle.arrays.specs.Disks.{Disks}
use Rattle.instances.specs.Instances.{Instance}
use Rattle.tallies.specs.declared.call.Call.{Call}
use Rattle.tallies.specs.Tally.{State, beginning, answer, next, after, tally}
use Rattle.tallies.specs.Logs.{Entry, log, serves, stalls, count, units}
use Rattle.tallies.specs.Laws.{Times}
use Rattle.tallies.proofs.Moves.{move_by}

-- what calls add to the counts, when so many units serve and so many stall
record Counted (s t : State) (served stalled : ℕ) : Type 0 where
  cursor : t.cursor ≡ s.cursor + served
  stall : t.stall ≡ s.stall + stalled
  elapsed : t.elapsed ≡ s.elapsed + (served + stalled)

counted : (w : Instance) (s : State) (c : Call) → Counted s (next w s c) (serves (answer w s c)) (stalls (answer w s c))
counted w s c =
    move_by w s (λ c a t. Counted s t (serves a) (stalls a)) (λ c n values. grind arith) (λ x ok. grind arith) (λ b g. grind arith) (λ b g. grind arith) c

counted_all : (w : Instance) (s : State) (cs : List Call) → Counted s (after w s cs) (count serves (log w s cs)) (count stalls (log w s cs))
counted_all w s [] = grind arith
counted_all w s (c ∷ cs) = grind (arith, counted w s c, counted_all w (next w s c) cs)

units_add : (es : List Entry) → units es ≡ count serves es + count stalls es
units_add [] = refl
units_add (e ∷ es) = omega (arith, units_add es)

pub next_elapsed : (w : Instance) (s : State) (c : Call) → (next w s c).elapsed ≡ s.elapsed + (serves (answer w s c) + stalls (answer w s c))
next_elapsed w s c = (counted w s c).elapsed

pub after_elapsed : (w : Instance) (s : State) (cs : List Call) → (after w s cs).elapsed ≡ s.elapsed + units (log w s cs)
after_elapsed w s cs = omega (arith, (counted_all w s cs).elapsed, units_add (log w s cs))

pub times : (w : Instance) (disks : Disks) (calls : List Call) → Times (tally w disks calls) (log w (beginning w disks) calls)
times w disks calls = grind (arith, counted_all w (beginning w disks) calls)
