-- What every call keeps: blocks in flight are on their home disks and not cached, and all blocks fill the cache. Assumes nothing.
use Rattle.std.proofs.Common.{◌≡◌, ℕ, ◌+◌, ◌<◌, false, List, [], ◌∷◌, length, Some, sym, refl, ap, ◌∙◌, ⊎_elim, arith, length-set}
use lib.Count.{ones}
use lib.ListN.{length-map}
use Rattle.std.proofs.lemmas.Bool.{cases_Bool}
use Rattle.maps.specs.Maps.{has, without}
use Rattle.maps.proofs.Maps.{has_or, has_without, ones_without}
use Rattle.arrays.specs.declared.fetch.Fetch.{Fetch}
use Rattle.arrays.specs.Disks.{Disks, holds, arrivals}
use Rattle.instances.specs.Instances.{Instance, Sound, home}
use Rattle.tallies.specs.declared.call.Call.{Call}
use Rattle.tallies.specs.declared.call.Order.{Order}
use Rattle.tallies.specs.Tally.{State, any_busy, beginning, passed, next, after, tally}
use Rattle.tallies.specs.Laws.{flights}
use Rattle.tallies.proofs.Flying.{idle_all, begun_holds, idle_flights, flights_set, arriving, before, step_full}
use Rattle.tallies.proofs.Moves.{Allowed, began, move_by}

pub record Kept (w : Instance) (s : State) : Type 0 where
  pub room : (b : ℕ) → home w b < length s.disks
  pub homely : (d : ℕ) (f : Fetch) → holds s.disks d ≡ Some f → home w f.block ≡ d
  pub apart : (d : ℕ) (f : Fetch) → holds s.disks d ≡ Some f → has s.cache f.block ≡ false
  pub full : ones s.cache + flights s.disks ≡ w.size

-- what is not in a map is not in it with one block less
without_keeps : (m o b : ℕ) → has m b ≡ false → has (without m o) b ≡ false
without_keeps m o b down = grind (arith, has_without)

module _ (w : Instance) (s : State) (kept : Kept w s) where
  kept_began : (x : Order) → Allowed w s x → Kept w (began w s x)
  kept_began x ok =
      let d = home w x.fetch in
      let new : Fetch = record { block = x.fetch; left = w.time } in
      let held = λ (e : ℕ) (f : Fetch). begun_holds s.disks d e new f (kept.room x.fetch) in
      record {
        room = λ b. rw length-set (kept.room b);
        homely = λ e f h. ⊎_elim (λ p. cc (p.0, p.1)) (kept.homely e f) (held e f h);
        apart = λ e f h. without_keeps s.cache x.evict f.block (⊎_elim (λ p. cc (p.1, ok.absent)) (kept.apart e f) (held e f h));
        full = omega (arith, kept.full, ones_without s.cache x.evict ok.present, flights_set s.disks d new (kept.room x.fetch) ok.idle);
      }

  -- the block of a fetch that stays under way does not arrive
  pub late : (d : ℕ) (f : Fetch) → holds s.disks d ≡ Some f → (f.left ≡ 1 → ⊥) → has (arrivals s.disks) f.block ≡ false
  late d f h more = ⊎_elim
      (λ e.
      let a = arriving s.disks f.block e in
      let same : a.place ≡ d = cc (kept.homely a.place a.fetch a.there, kept.homely d f h) in
      absurd (more (cc (a.there, a.final))))
      (λ e. e)
      (cases_Bool (has (arrivals s.disks) f.block))

  kept_passed : (cursor stall : ℕ) → Kept w (passed s cursor stall)
  kept_passed cursor stall = record {
    room = λ b. rw length-map (kept.room b);
    homely = λ d g h.
        let was = before s.disks d g h in
        ap (home w) (sym was.same) ∙ kept.homely d was.fetch was.there;
    apart = λ d g h.
        let was = before s.disks d g h in
        rw (← was.same, has_or, kept.apart d was.fetch was.there) (late d was.fetch was.there was.more);
    full = step_full w.homes s.disks 0 s.cache (λ d f h. kept.homely d f h ∙ omega arith) kept.apart ∙ kept.full;
  }

  pub kept_next : (c : Call) → Kept w (next w s c)
  kept_next c = move_by w s (λ c a t. Kept w t) (λ c n values. kept) kept_began (λ b g. kept_passed (s.cursor + 1) s.stall) (λ b g. kept_passed s.cursor (s.stall + 1)) c

pub kept_after : (w : Instance) (s : State) (cs : List Call) → Kept w s → Kept w (after w s cs)
kept_after w s [] kept = kept
kept_after w s (c ∷ cs) kept = kept_after w (next w s c) cs (kept_next w s kept c)

-- no call makes a run void, or a void run sane
void_next : (w : Instance) (s : State) (c : Call) → (next w s c).void ≡ s.void
void_next w s c = move_by w s (λ c a t. t.void ≡ s.void) (λ c n values. refl) (λ x ok. refl) (λ b g. refl) (λ b g. refl) c

pub void_after : (w : Instance) (s : State) (cs : List Call) → (after w s cs).void ≡ s.void
void_after w s [] = refl
void_after w s (c ∷ cs) = void_after w (next w s c) cs ∙ void_next w s c

pub kept_first : (w : Instance) (disks : Disks) → Sound w → length disks ≡ 4 → any_busy disks ≡ false → Kept w (beginning w disks)
kept_first w disks sound four idle = record {
  room = λ b. omega (arith, sound.housed b, sound.few_disks, four);
  homely = λ d f h. cc (idle_all disks idle d);
  apart = λ d f h. cc (idle_all disks idle d);
  full = omega (arith, sound.full, idle_flights disks idle);
}

pub kept_tally : (w : Instance) (disks : Disks) (calls : List Call) → Sound w → length disks ≡ 4 → (tally w disks calls).void ≡ false → Kept w (tally w disks calls)
kept_tally w disks calls sound four sane =
    kept_after w (beginning w disks) calls (kept_first w disks sound four (sym (void_after w (beginning w disks) calls) ∙ sane))
