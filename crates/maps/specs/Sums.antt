-- Finite sums. Assumes nothing.
use Rattle.std.specs.Prelude.{ℕ, zero, suc, ◌+◌, ◌-◌}

-- f 0 + … + f (n - 1)
unfoldable pub below : ℕ → (ℕ → ℕ) → ℕ
below zero f = 0
below (suc n) f = below n f + f n

-- f p + … + f (q - 1)
abbrev pub span : ℕ → ℕ → (ℕ → ℕ) → ℕ
span p q f = below (q - p) (λ i. f (p + i))
