-- A setting is filled exactly where its content is within the limits. Assumes nothing.
use Rattle.std.proofs.Common.{◌≡◌, ℕ, zero, suc, ◌^◌, ◌<◌, ◌≤◌, List, [], ◌∷◌, length, get_or, count_ones, Ok, Err, Result, OnOk, refl, sym, arith, rules}
use Rattle.std.proofs.lemmas.List.{get_or_past}
use Rattle.std.proofs.lemmas.Bool.Decides.{nat_tests}
use Rattle.faults.specs.declared.setting.SettingFault.{SettingFault}
use Rattle.faults.specs.Faults.{setting_fault}
use Rattle.faults.specs.Outcomes.{accepted, answered}
use Rattle.faults.proofs.Outcomes.{and_then_parts}
use Rattle.settings.specs.declared.setting.Setting.{Setting}
use Rattle.settings.specs.Contents.{Content, Within, content}
use Rattle.settings.specs.Filling.{try_figures, try_initial, try_requests, try_content, FillsWithin}

-- the figures that pass
pub record Figured (m k n : ℕ) : Type 0 where
  pub some_block : 1 ≤ m
  pub few_blocks : m ≤ 64
  pub some_held : 1 ≤ k
  pub few_held : k ≤ m
  pub few_requests : n ≤ 200

pub figured : (m k n : ℕ) → try_figures m k n ≡ accepted → Figured m k n
figured m k n e = grind (arith, nat_tests)

pub initial_passed : (m k map : ℕ) → try_initial m k map ≡ accepted → (map < 2 ^ m) × (count_ones map ≡ k)
initial_passed m k map e = grind (arith, nat_tests)

pub named : (m c : ℕ) (rs : List ℕ) → try_requests m c rs ≡ accepted → (i : ℕ) → i < length rs → get_or rs i 0 < m
named m c [] e i h = absurd (omega arith)
named m c (r ∷ rs) e zero h = grind (arith, nat_tests)
named m c (r ∷ rs) e (suc i) h = named m (suc c) rs (grind (arith, nat_tests)) i (omega arith)

pub within : (new : Content) → try_content new ≡ accepted → Within new
within new e =
    let (figures, rest) = and_then_parts (try_figures new.blocks new.size (length new.requests)) _ e in
    let (initial, requests) = and_then_parts (try_initial new.blocks new.size new.initial) _ rest in
    let f = figured _ _ _ figures in
    let (known, full) = initial_passed _ _ _ initial in
    record {
      some_block = f.some_block;
      few_blocks = f.few_blocks;
      some_held = f.some_held;
      few_held = f.few_held;
      few_requests = f.few_requests;
      full = full;
      known = known;
      named = named _ 1 new.requests requests;
    }

-- so what passes is within the limits
pub within_ok : (new : Content) (r : Result (Unit {0}) SettingFault) → answered setting_fault r ≡ try_content new → OnOk r (Within new)
within_ok new (Ok x) is = within new (sym is)
within_ok new (Err e) is = tt

all_named : (m c : ℕ) (rs : List ℕ) → ((i : ℕ) → i < length rs → get_or rs i 0 < m) → try_requests m c rs ≡ accepted
all_named m c [] h = refl
all_named m c (r ∷ rs) h =
    let first = h 0 (omega arith) in
    let rest = all_named m (suc c) rs (λ i l. h (suc i) (omega arith)) in
    grind (arith, nat_tests)

accepts : (new : Content) → Within new → try_content new ≡ accepted
accepts new w =
    let figures : try_figures new.blocks new.size (length new.requests) ≡ accepted = grind (arith, nat_tests) in
    let initial : try_initial new.blocks new.size new.initial ≡ accepted = grind (arith, nat_tests) in
    let requests = all_named new.blocks 1 new.requests w.named in
    cc

pub fills_within : (new : Content) → FillsWithin new (try_content new)
fills_within new = (within new, accepts new)

-- what is said of each place of a list, said of every number: past its end the default is 0
pub each_place : (rs : List ℕ) (m : ℕ) → 1 ≤ m → ((i : ℕ) → i < length rs → get_or rs i 0 < m) → (i : ℕ) → get_or rs i 0 < m
each_place rs m some h i = grind (arith, get_or_past)

-- every setting is within the limits
pub setting_within : (s : Setting) → Within (content s)
setting_within s = search rules
