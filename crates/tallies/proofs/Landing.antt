-- How long a fetch lasts. Assumes nothing.
use Rattle.std.proofs.Common.{◌≡◌, ℕ, ◌+◌, ◌-◌, ◌<◌, ◌≤◌, true, ◌⊎◌, List, [], ◌∷◌, length, Some, None, sym, refl, ap, ◌∙◌, inl, inr, ⊎_elim, arith, get_or-set_other, get_or-set_same}
use lib.Bits.{bit_or}
use Rattle.std.proofs.lemmas.Bool.{or_right, cases_eq, ne_eqb}
use Rattle.maps.specs.Maps.{has}
use Rattle.faults.specs.Outcomes.{accepted, refused}
use Rattle.maps.proofs.Maps.{has_or, without_other}
use Rattle.arrays.specs.Disks.{Disks, holds, arrivals}
use Rattle.arrays.proofs.Steps.{stepped_at}
use Rattle.instances.specs.Instances.{Instance, Sound, home}
use Rattle.tallies.specs.declared.call.Call.{Call}
use Rattle.tallies.specs.declared.call.Order.{Order}
use Rattle.tallies.specs.declared.call.Call.TheVariants as call
use Rattle.tallies.specs.Tally.{State, Answer, told, served, stalled, passed, answer, next, after, tally}
use Rattle.tallies.specs.Logs.{Entry, log, serves, stalls, units, Evicts, Evicted, Unevicted}
use Rattle.tallies.specs.Laws.{Lasts}
use Rattle.tallies.proofs.Counting.{next_elapsed, after_elapsed}
use Rattle.tallies.proofs.Flying.{arrives}
use Rattle.tallies.proofs.Keeping.{Kept, kept_next, kept_after, kept_tally}
use Rattle.tallies.proofs.Moves.{Allowed, order_by, move_by}

-- a cached block stays until an order evicts it
stay_next : (w : Instance) (s : State) (b : ℕ) → has s.cache b ≡ true → (c : Call) → (Evicts b c (answer w s c) → ⊥) → has (next w s c).cache b ≡ true
stay_next w s b h c =
    let more : has (bit_or s.cache (arrivals s.disks)) b ≡ true = rw (has_or, h) refl in
    move_by w s (λ c a t. (Evicts b c a → ⊥) → has t.cache b ≡ true) (λ c n values left. h)
    (λ x ok left. without_other s.cache x.evict b (λ e. left (refl, sym e)) ∙ h) (λ x g left. more) (λ x g left. more) c

pub stays : (w : Instance) (s : State) (b : ℕ) (cs : List Call) → has s.cache b ≡ true → Unevicted b (log w s cs) → has (after w s cs).cache b ≡ true
stays w s b [] h u = h
stays w s b (c ∷ cs) h u = stays w (next w s c) b cs (stay_next w s b h c u.0) u.1

-- what a call that takes u units makes of a fetch with n units left
data Flown (d b n u : ℕ) (t : State) : Type 0 where
  still : u ≡ 0 → holds t.disks d ≡ Some (record { block = b; left = n }) → Flown d b n u t
  nearer : u ≡ 1 → 1 < n → holds t.disks d ≡ Some (record { block = b; left = n - 1 }) → Flown d b n u t
  landed : u ≡ 1 → n ≡ 1 → has t.cache b ≡ true → Flown d b n u t

module _ (w : Instance) (s : State) (d b n : ℕ) (up : holds s.disks d ≡ Some (record { block = b; left = n })) (one : 1 ≤ n) where
  flown_passed : (u cursor stall : ℕ) → u ≡ 1 → Flown d b n u (passed s cursor stall)
  flown_passed u cursor stall is = ⊎_elim
      (λ e. landed is e (has_or s.cache (arrivals s.disks) b ∙ or_right _ _ (arrives s.disks d (record { block = b; left = n }) up e)))
      (λ ne. nearer is (omega arith) (rw (stepped_at, up, ne_eqb n 1 ne) refl))
      (cases_eq n 1)

  flown : (c : Call) → Flown d b n (serves (answer w s c) + stalls (answer w s c)) (next w s c)
  flown c =
      move_by w s (λ c a t. Flown d b n (serves a + stalls a) t) (λ c k values. still refl up)
      (λ x ok. still refl (get_or-set_other s.disks (home w x.fetch) d _ None (λ e. cc ok.idle) ∙ up))
      (λ x g. flown_passed 1 (s.cursor + 1) s.stall refl) (λ x g. flown_passed 1 s.cursor (s.stall + 1) refl) c

-- a fetch under way lands when its units are over
pub lands : (w : Instance) (s : State) (d b n : ℕ) (cs : List Call) → holds s.disks d ≡ Some (record { block = b; left = n }) → 1 ≤ n
    → n ≤ units (log w s cs) → Unevicted b (log w s cs) → has (after w s cs).cache b ≡ true
lands w s d b n [] up one long u = absurd (omega arith)
lands w s d b n (c ∷ cs) up one long u =
    elim (flown w s d b n up one c) [
      | still z h ↦ lands w (next w s c) d b n cs h one (omega (arith, z)) u.1
      | nearer z lt h ↦ lands w (next w s c) d b (n - 1) cs h (omega arith) (omega (arith, z)) u.1
      | landed z e h ↦ stays w (next w s c) b cs h u.1
    ]

-- and until then it is under way
flies : (w : Instance) (s : State) (d b n : ℕ) (cs : List Call) → holds s.disks d ≡ Some (record { block = b; left = n }) → 1 ≤ n
    → units (log w s cs) < n → holds (after w s cs).disks d ≡ Some (record { block = b; left = n - units (log w s cs) })
flies w s d b n [] up one short = let all : n - 0 ≡ n = omega arith in rw all up
flies w s d b n (c ∷ cs) up one short =
    elim (flown w s d b n up one c) [
      | still z h ↦ let left : n - units (log w (next w s c) cs) ≡ n - units (log w s (c ∷ cs)) = omega (arith, z) in rw (← left) (flies w (next w s c) d b n cs h one (omega (arith, z)))
      | nearer z lt h ↦ let left : n - 1 - units (log w (next w s c) cs) ≡ n - units (log w s (c ∷ cs)) = omega (arith, z) in
          rw (← left) (flies w (next w s c) d b (n - 1) cs h (omega arith) (omega (arith, z)))
      | landed z e h ↦ absurd (omega (arith, z))
    ]

-- an order of the list evicts the block, or none does
evicts_or : (b : ℕ) (c : Call) (a : Answer) → Evicts b c a ⊎ (Evicts b c a → ⊥)
evicts_or b (call.Order x) (told accepted) = ⊎_elim (λ e. inl (refl, e)) (λ ne. inr (λ h. ne h.1)) (cases_eq x.evict b)
evicts_or b (call.Order x) (told (refused n values)) = inr (λ h. cc)
evicts_or b (call.Order x) (served c) = inr (λ h. cc)
evicts_or b (call.Order x) (stalled c) = inr (λ h. cc)
evicts_or b call.Unit a = inr (λ h. h)

evicted_or : (b : ℕ) (es : List Entry) → Evicted b es ⊎ Unevicted b es
evicted_or b [] = inr tt
evicted_or b (e ∷ es) = ⊎_elim (λ h. inl (inl h)) (λ h. ⊎_elim (λ r. inl (inr r)) (λ r. inr (h, r)) (evicted_or b es)) (evicts_or b e.call e.answer)

-- what an accepted order found
pub allowed : (w : Instance) (s : State) (x : Order) → answer w s (call.Order x) ≡ told accepted → Allowed w s x
allowed w s x =
    order_by w s x (λ r t. told r ≡ told accepted → Allowed w s x) (λ n values e. cc) (λ ok e. ok)

-- an accepted order begins a fetch that has all its units left
pub begins : (w : Instance) (s : State) (x : Order) → Kept w s → answer w s (call.Order x) ≡ told accepted
    → holds (next w s (call.Order x)).disks (home w x.fetch) ≡ Some (record { block = x.fetch; left = w.time })
begins w s x kept =
    order_by w s x (λ r t. told r ≡ told accepted → holds t.disks (home w x.fetch) ≡ Some (record { block = x.fetch; left = w.time }))
    (λ n values e. cc) (λ ok e. get_or-set_same s.disks (home w x.fetch) _ None (kept.room x.fetch))

pub lasts : (w : Instance) (disks : Disks) (first : List Call) (x : Order) (rest : List Call) → Sound w → length disks ≡ 4
    → answer w (tally w disks first) (call.Order x) ≡ told accepted
    → Lasts w (tally w disks first) x.fetch (log w (next w (tally w disks first) (call.Order x)) rest) (after w (tally w disks first) (call.Order x ∷ rest))
lasts w disks first x rest sound four ok =
    let s = tally w disks first in
    let t = next w s (call.Order x) in
    let end = after w t rest in
    let kept = kept_tally w disks first sound four (allowed w s x ok).sane in
    let up = begins w s x kept ok in
    let took : ◌≡◌ {A = ℕ} (serves (answer w s (call.Order x)) + stalls (answer w s (call.Order x))) 0 = ap (λ a. serves a + stalls a) ok in
    let gone = after_elapsed w t rest in
    let same = next_elapsed w s (call.Order x) in
    let flight : units (log w t rest) < w.time → holds end.disks (home w x.fetch) ≡ Some (record { block = x.fetch; left = w.time - units (log w t rest) }) =
    flies w t (home w x.fetch) x.fetch w.time rest up sound.lasting in
    let soon : end.elapsed < s.elapsed + w.time → units (log w t rest) < w.time = λ early. omega (arith, took, gone, same) in
    record {
      flies = λ early.
          let left : w.time - units (log w t rest) ≡ s.elapsed + w.time - end.elapsed = omega (arith, took, gone, same) in
          flight (soon early) ∙ ap (λ k. Some (record { block = x.fetch; left = k })) left;
      alone = λ early y at_home begun.
          cc (flight (soon early), (allowed w end y begun).idle);
      absent = λ early. (kept_after w t rest (kept_next w s kept (call.Order x))).apart (home w x.fetch) (record { block = x.fetch; left = w.time - units (log w t rest) }) (flight (soon early));
      lands = λ over. ⊎_elim (λ e. inr e)
          (λ u. inl (lands w t (home w x.fetch) x.fetch w.time rest up sound.lasting (omega (arith, took, gone, same)) u))
          (evicted_or x.fetch (log w t rest));
    }
