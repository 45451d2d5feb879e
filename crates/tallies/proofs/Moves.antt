-- What a call can make of a state: every law over runs rests on `move-by`. Assumes nothing.
use Rattle.std.proofs.Common.{◌≡◌, ℕ, ◌+◌, ◌<◌, Bool, true, false, eqb, ltb, leb, List, set, Some, None, Option, refl}
use Rattle.std.proofs.lemmas.Bool.{cond_both, leb-false, eqb-false}
use Rattle.maps.specs.Maps.{has, without}
use Rattle.faults.specs.Outcomes.{Outcome, accepted, refused, and_then}
use Rattle.faults.proofs.Outcomes.{passed_test, held_test}
use Rattle.arrays.specs.declared.fetch.Fetch.{Fetch}
use Rattle.arrays.specs.Disks.{holds, begin_outcome}
use Rattle.instances.specs.Instances.{Instance, asked, home}
use Rattle.tallies.specs.declared.call.Call.{Call}
use Rattle.tallies.specs.declared.call.Order.{Order}
use Rattle.tallies.specs.declared.call.Call.TheVariants as call
use Rattle.tallies.specs.Tally.{State, Answer, told, served, stalled, finished, layout, admit, order_outcome, ordered, unit_answer, unit_state, passed, answer, next}

-- the state after an accepted order
abbrev pub began : Instance → State → Order → State
began w s x =
    record { void = s.void; cursor = s.cursor; elapsed = s.elapsed; stall = s.stall; orders = s.orders + 1; cache = without s.cache x.evict; disks = set s.disks (home w x.fetch) (Some (record { block = x.fetch; left = w.time })) }

-- what an accepted order found
pub record Allowed (w : Instance) (s : State) (x : Order) : Type 0 where
  pub sane : s.void ≡ false
  pub going : finished w s ≡ false
  pub in_known : x.fetch < w.blocks
  pub out_known : x.evict < w.blocks
  pub absent : has s.cache x.fetch ≡ false
  pub present : has s.cache x.evict ≡ true
  pub idle : holds s.disks (home w x.fetch) ≡ None

-- what a unit that goes by found, where t says whether block b was cached
pub record Going (w : Instance) (s : State) (b : ℕ) (t : Bool) : Type 0 where
  pub sane : s.void ≡ false
  pub going : finished w s ≡ false
  pub short : s.elapsed ≡ 65535 → ⊥
  pub asks : b ≡ asked w s.cursor
  pub found : has s.cache b ≡ t

-- an order that passes its own tests evicts a cached block
pub evicts_cached : (w : Instance) (s : State) (x : Order) → admit w s x ≡ accepted → has s.cache x.evict ≡ true
evicts_cached w s x e =
    let (sane, past-void) = passed_test s.void 4 _ _ e in
    let (going, past-finish) = passed_test (finished w s) 5 _ _ past-void in
    let (in_known, past-in) = passed_test (leb w.blocks x.fetch) 7 _ _ past-finish in
    let (out_known, past-out) = passed_test (leb w.blocks x.evict) 7 _ _ past-in in
    let (absent, past-cached) = passed_test (has s.cache x.fetch) 8 _ _ past-out in
    (held_test (has s.cache x.evict) accepted 9 _ past-cached).0

-- the array's part of an order
begin_by : (w : Instance) (s : State) (x : Order) (P : Outcome → State → Type 0)
    → ((n : ℕ) (values : List ℕ) → P (refused n values) s)
    → (holds s.disks (home w x.fetch) ≡ None → P accepted (began w s x))
    → (t : Bool) → ltb 63 x.fetch ≡ t → (held : Option Fetch) → holds s.disks (home w x.fetch) ≡ held
    → P (begin_outcome (layout w) s.disks x.fetch) (ordered (begin_outcome (layout w) s.disks x.fetch) w s x)
begin_by w s x P halt goes true e held h = simp e (halt _ _)
begin_by w s x P halt goes false e (Some f) h = simp (e, h) (halt _ _)
begin_by w s x P halt goes false e None h = simp (e, h) (goes h)

pub order_by : (w : Instance) (s : State) (x : Order) (P : Outcome → State → Type 0)
    → ((n : ℕ) (values : List ℕ) → P (refused n values) s)
    → (Allowed w s x → P accepted (began w s x))
    → P (order_outcome w s x) (ordered (order_outcome w s x) w s x)
order_by w s x P halt goes =
    let F : Outcome → Type 0 = λ r. P (and_then r (begin_outcome (layout w) s.disks x.fetch)) (ordered (and_then r (begin_outcome (layout w) s.disks x.fetch)) w s x) in
    cond_both s.void _ _ F (λ e. halt _ _) (λ sane.
    cond_both (finished w s) _ _ F (λ e. halt _ _) (λ going.
    cond_both (leb w.blocks x.fetch) _ _ F (λ e. halt _ _) (λ in_known.
    cond_both (leb w.blocks x.evict) _ _ F (λ e. halt _ _) (λ out_known.
    cond_both (has s.cache x.fetch) _ _ F (λ e. halt _ _) (λ absent.
    cond_both (has s.cache x.evict) _ _ F (λ present.
    begin_by w s x P halt
    (λ idle. goes record { sane = sane; going = going; in_known = leb-false w.blocks x.fetch in_known; out_known = leb-false w.blocks x.evict out_known; absent = absent; present = present; idle = idle })
    (ltb 63 x.fetch) refl (holds s.disks (home w x.fetch)) refl)
    (λ e. halt _ _))))))

pub unit_by : (w : Instance) (s : State) (P : Answer → State → Type 0)
    → ((n : ℕ) (values : List ℕ) → P (told (refused n values)) s)
    → ((b : ℕ) → Going w s b true → P (served b) (passed s (s.cursor + 1) s.stall))
    → ((b : ℕ) → Going w s b false → P (stalled b) (passed s s.cursor (s.stall + 1)))
    → P (answer w s call.Unit) (next w s call.Unit)
unit_by w s P halt hit miss =
    let F : Outcome → Type 0 = λ r. P (unit_answer r w s) (unit_state (unit_answer r w s) s) in
    let G : Answer → Type 0 = λ a. P a (unit_state a s) in
    cond_both s.void _ _ F (λ e. halt _ _) (λ sane.
    cond_both (finished w s) _ _ F (λ e. halt _ _) (λ going.
    cond_both (eqb s.elapsed 65535) _ _ F (λ e. halt _ _) (λ short.
    cond_both (has s.cache (asked w s.cursor)) _ _ G
    (λ found. hit (asked w s.cursor) record { sane = sane; going = going; short = eqb-false s.elapsed 65535 short; asks = refl; found = found })
    (λ found. miss (asked w s.cursor) record { sane = sane; going = going; short = eqb-false s.elapsed 65535 short; asks = refl; found = found }))))

-- every call is refused, is an accepted order, or is a unit that goes by
pub move_by : (w : Instance) (s : State) (P : Call → Answer → State → Type 0)
    → ((c : Call) (n : ℕ) (values : List ℕ) → P c (told (refused n values)) s)
    → ((x : Order) → Allowed w s x → P (call.Order x) (told accepted) (began w s x))
    → ((b : ℕ) → Going w s b true → P call.Unit (served b) (passed s (s.cursor + 1) s.stall))
    → ((b : ℕ) → Going w s b false → P call.Unit (stalled b) (passed s s.cursor (s.stall + 1)))
    → (c : Call) → P c (answer w s c) (next w s c)
move_by w s P halt goes hit miss (call.Order x) =
    order_by w s x (λ r t. P (call.Order x) (told r) t) (λ n values. halt (call.Order x) n values) (λ a. goes x a)
move_by w s P halt goes hit miss call.Unit = unit_by w s (λ r t. P call.Unit r t) (λ n values. halt call.Unit n values) hit miss
