-- Laws of outcomes. Assumes nothing.
use Rattle.std.proofs.Common.{◌≡◌, ℕ, Bool, true, false, cond, List, refl, arith}
use Rattle.faults.specs.Outcomes.{Outcome, accepted, refused, and_then}

pub refused_never : {n : ℕ} {values : List ℕ} → refused n values ≡ accepted → ⊥
refused_never e = let z : ◌≡◌ {A = ℕ} 0 1 = cc in omega arith

-- what two tests accept in turn, each accepts
pub and_then_parts : (a b : Outcome) → and_then a b ≡ accepted → (a ≡ accepted) × (b ≡ accepted)
and_then_parts accepted b e = (refl, e)
and_then_parts (refused n values) b e = absurd (refused_never e)

-- a test that accepted has found t true, where it refuses otherwise
pub held_test : (t : Bool) (o : Outcome) (n : ℕ) (values : List ℕ) → cond t o (refused n values) ≡ accepted → (t ≡ true) × (o ≡ accepted)
held_test true o n values e = (refl, e)
held_test false o n values e = absurd (refused_never e)

-- and false, where it refuses then
pub passed_test : (t : Bool) (n : ℕ) (values : List ℕ) (o : Outcome) → cond t (refused n values) o ≡ accepted → (t ≡ false) × (o ≡ accepted)
passed_test true n values o e = absurd (refused_never e)
passed_test false n values o e = (refl, e)
