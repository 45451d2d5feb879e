-- Which blocks are cached, by the calls and their answers. Assumes nothing.
use Rattle.std.proofs.Common.{◌≡◌, ℕ, ◌+◌, ◌≤◌, true, false, List, [], ◌∷◌, length, Some, sym, refl, ap, ◌∙◌, inl, inr, ⊎_elim, arith}
use Rattle.std.proofs.lemmas.Bool.{or_cases}
use Rattle.maps.specs.Maps.{has}
use Rattle.faults.specs.Outcomes.{accepted, refused}
use Rattle.maps.proofs.Maps.{has_or, without_same, without_other}
use Rattle.arrays.specs.declared.fetch.Fetch.{Fetch}
use Rattle.arrays.specs.Disks.{Disks, holds, arrivals}
use Rattle.instances.specs.Instances.{Instance, Sound, home}
use Rattle.tallies.specs.declared.call.Call.{Call}
use Rattle.tallies.specs.declared.call.Order.{Order}
use Rattle.tallies.specs.declared.call.Call.TheVariants as call
use Rattle.tallies.specs.Tally.{State, Answer, told, served, stalled, any_busy, beginning, passed, answer, next, after, tally}
use Rattle.tallies.specs.Logs.{Entry, log, serves, stalls, units, Fetches, Evicts, Unevicted, Arrived, Resident}
use Rattle.tallies.specs.Laws.{Residents}
use Rattle.tallies.proofs.Flying.{idle_all, begun_holds, arriving, before}
use Rattle.tallies.proofs.Keeping.{Kept, kept_next, kept_first, void_after}
use Rattle.tallies.proofs.Landing.{stays, lands, begins}
use Rattle.tallies.proofs.Moves.{Allowed, began, move_by}

-- where a cached block came from, looking back from the end of the entries to state s
data Whence (w : Instance) (s : State) (b : ℕ) (es : List Entry) : Type 0 where
  kept_in : has s.cache b ≡ true → Unevicted b es → Whence w s b es
  flew_in : (d : ℕ) (f : Fetch) → holds s.disks d ≡ Some f → f.block ≡ b → f.left ≤ units es → Unevicted b es → Whence w s b es
  came_in : Arrived w.time b es → Whence w s b es

refused_evicts : (b : ℕ) (c : Call) (n : ℕ) (values : List ℕ) → Evicts b c (told (refused n values)) → ⊥
refused_evicts b (call.Order x) n values e = cc
refused_evicts b call.Unit n values e = e

module _ (w : Instance) (s : State) (kept : Kept w s) (b : ℕ) (es : List Entry) where
  whence_refused : (c : Call) (n : ℕ) (values : List ℕ) → Whence w s b es → Whence w s b (record { call = c; answer = told (refused n values) } ∷ es)
  whence_refused c n values (kept_in h u) = kept_in h (refused_evicts b c n values, u)
  whence_refused c n values (flew_in d f h is l u) = flew_in d f h is (omega arith) (refused_evicts b c n values, u)
  whence_refused c n values (came_in a) = came_in (inr a)

  whence_began : (x : Order) → Allowed w s x → Whence w (began w s x) b es → Whence w s b (record { call = call.Order x; answer = told accepted } ∷ es)
  whence_began x ok (kept_in h u) =
      let ne : b ≡ x.evict → ⊥ = λ e. let gone = without_same s.cache x.evict in cc in
      kept_in (sym (without_other s.cache x.evict b ne) ∙ h) ((λ e. ne (sym e.1)), u)
  whence_began x ok (flew_in e f h is l u) =
      ⊎_elim
      (λ p. let left : f.left ≡ w.time = cc p.1 in came_in (inl ((refl, (cc p.1)), omega arith, u)))
      (λ old. flew_in e f old is (omega arith) ((λ ev. cc (kept.apart e f old, ok.present)), u))
      (begun_holds s.disks (home w x.fetch) e (record { block = x.fetch; left = w.time }) f (kept.room x.fetch) h)
  whence_began x ok (came_in a) = came_in (inr a)

  whence_passed : (cursor stall : ℕ) (a : Answer) → serves a + stalls a ≡ 1 → Whence w (passed s cursor stall) b es → Whence w s b (record { call = call.Unit; answer = a } ∷ es)
  whence_passed cursor stall a one (kept_in h u) =
      ⊎_elim
      (λ e. kept_in e ((λ x. x), u))
      (λ e. let got = arriving s.disks b e in flew_in got.place got.fetch got.there got.is (omega (arith, got.final, one)) ((λ x. x), u))
      (or_cases (has s.cache b) (has (arrivals s.disks) b) (sym (has_or s.cache (arrivals s.disks) b) ∙ h))
  whence_passed cursor stall a one (flew_in d g h is l u) =
      let was = before s.disks d g h in
      flew_in d was.fetch was.there (was.same ∙ is) (omega (arith, was.left, one)) ((λ x. x), u)
  whence_passed cursor stall a one (came_in x) = came_in (inr x)

  whence_next : (c : Call) → Whence w (next w s c) b es → Whence w s b (record { call = c; answer = answer w s c } ∷ es)
  whence_next c =
      move_by w s (λ c a t. Whence w t b es → Whence w s b (record { call = c; answer = a } ∷ es)) whence_refused whence_began
      (λ x g. whence_passed (s.cursor + 1) s.stall (served x) refl) (λ x g. whence_passed s.cursor (s.stall + 1) (stalled x) refl) c

whence : (w : Instance) (s : State) → Kept w s → (b : ℕ) (cs : List Call) → has (after w s cs).cache b ≡ true → Whence w s b (log w s cs)
whence w s kept b [] h = kept_in h tt
whence w s kept b (c ∷ cs) h = whence_next w s kept b (log w (next w s c) cs) c (whence w (next w s c) (kept_next w s kept c) b cs h)

fetched_lands : (w : Instance) (s : State) → Kept w s → 1 ≤ w.time → (b : ℕ) (c : Call) (cs : List Call) → Fetches b c (answer w s c)
    → w.time ≤ units (log w (next w s c) cs) → Unevicted b (log w (next w s c) cs) → has (after w (next w s c) cs).cache b ≡ true
fetched_lands w s kept slow b (call.Order x) cs got long u =
    let up = begins w s x kept got.0 in
    let at : holds (next w s (call.Order x)).disks (home w x.fetch) ≡ Some (record { block = b; left = w.time }) = up ∙ ap (λ n. Some (record { block = n; left = w.time })) got.1 in
    lands w (next w s (call.Order x)) (home w x.fetch) b w.time cs at slow long u
fetched_lands w s kept slow b call.Unit cs got long u = absurd got

arrived_lands : (w : Instance) (s : State) → Kept w s → 1 ≤ w.time → (b : ℕ) (cs : List Call) → Arrived w.time b (log w s cs) → has (after w s cs).cache b ≡ true
arrived_lands w s kept slow b [] a = absurd a
arrived_lands w s kept slow b (c ∷ cs) (inl got) = fetched_lands w s kept slow b c cs got.0 got.1 got.2
arrived_lands w s kept slow b (c ∷ cs) (inr a) = arrived_lands w (next w s c) (kept_next w s kept c) slow b cs a

from_start : (w : Instance) (disks : Disks) → any_busy disks ≡ false → (b : ℕ) (es : List Entry) → Whence w (beginning w disks) b es → Resident w es b
from_start w disks idle b es (kept_in h u) = inl (h, u)
from_start w disks idle b es (flew_in d f h is l u) = cc (idle_all disks idle d)
from_start w disks idle b es (came_in a) = inr a

pub residents : (w : Instance) (disks : Disks) (calls : List Call) → Sound w → length disks ≡ 4 → (tally w disks calls).void ≡ false
    → Residents w (log w (beginning w disks) calls) (tally w disks calls)
residents w disks calls sound four sane b =
    let s = beginning w disks in
    let idle = sym (void_after w s calls) ∙ sane in
    let kept = kept_first w disks sound four idle in (
      (λ h. from_start w disks idle b (log w s calls) (whence w s kept b calls h)),
      (λ r. ⊎_elim (λ x. stays w s b calls x.0 x.1) (λ a. arrived_lands w s kept sound.lasting b calls a) r),
    )
