-- Laws of finite sums. Assumes nothing.
use Rattle.std.proofs.Common.{◌≡◌, ℕ, zero, suc, ◌+◌, ◌-◌, ◌*◌, ◌<◌, ◌≤◌, ◌≢◌, refl, ⊎_elim, add-zero, add-suc, arith}
use Rattle.std.proofs.lemmas.Bool.{cases_eq}
use Rattle.maps.specs.Sums.{below, span}

pub below_none : (f : ℕ → ℕ) → below 0 f ≡ 0
unfolding below
below_none f = refl

pub below_more : (n : ℕ) (f : ℕ → ℕ) → below (suc n) f ≡ below n f + f n
unfolding below
below_more n f = refl

pub below_zero : (n : ℕ) → below n (λ i. 0) ≡ 0
unfolding below
below_zero zero = refl
below_zero (suc n) = omega (arith, below_zero n)

pub below_le : (n : ℕ) (f g : ℕ → ℕ) → ((i : ℕ) → i < n → f i ≤ g i) → below n f ≤ below n g
unfolding below
below_le zero f g h = omega arith
below_le (suc n) f g h = omega (arith, below_le n f g (λ i l. h i (omega arith)), h n (omega arith))

pub below_same : (n : ℕ) (f g : ℕ → ℕ) → ((i : ℕ) → i < n → f i ≡ g i) → below n f ≡ below n g
unfolding below
below_same zero f g h = refl
below_same (suc n) f g h = omega (arith, below_same n f g (λ i l. h i (omega arith)), h n (omega arith))

pub below_add : (n : ℕ) (f g : ℕ → ℕ) → below n (λ i. f i + g i) ≡ below n f + below n g
unfolding below
below_add zero f g = refl
below_add (suc n) f g = omega (arith, below_add n f g)

pub below_times : (n k : ℕ) (f : ℕ → ℕ) → below n (λ i. k * f i) ≡ k * below n f
unfolding below
below_times zero k f = omega arith
below_times (suc n) k f = omega (arith, below_times n k f)

pub below_front : (n : ℕ) (f : ℕ → ℕ) → below (suc n) f ≡ f 0 + below n (λ i. f (suc i))
unfolding below
below_front zero f = omega arith
below_front (suc n) f = omega (arith, below_front n f)

-- two sums compared term by term, but at one place with an amount on either side
pub below_le_at : (n : ℕ) (f g : ℕ → ℕ) (k x y : ℕ) → k < n → ((i : ℕ) → i < n → i ≢ k → f i ≤ g i) → f k + x ≤ g k + y
    → below n f + x ≤ below n g + y
unfolding below
below_le_at zero f g k x y l h e = omega arith
below_le_at (suc n) f g k x y l h e = ⊎_elim
    (λ (s : k ≡ n). omega (arith, below_le n f g (λ i j. h i (omega arith) (omega arith)), at n s))
    (λ (s : k ≡ n → ⊥). omega (arith, below_le_at n f g k x y (omega (arith, s)) (λ i j. h i (omega arith)) e, h n (omega arith) (λ r. s (omega arith))))
    (cases_eq k n)
  where
    at : (n : ℕ) → k ≡ n → f n + x ≤ g n + y
    at n s = rw s at e

-- two sums of equal terms but at one place
pub below_at : (n : ℕ) (f g : ℕ → ℕ) (k : ℕ) → k < n → ((i : ℕ) → i < n → i ≢ k → f i ≡ g i) → below n f + g k ≡ below n g + f k
below_at n f g k l h =
    omega (
      arith,
      below_le_at n f g k (g k) (f k) l (λ i j e. omega (arith, h i j e)) (omega arith),
      below_le_at n g f k (f k) (g k) l (λ i j e. omega (arith, h i j e)) (omega arith),
    )

pub term_le : (n : ℕ) (f : ℕ → ℕ) (k : ℕ) → k < n → f k ≤ below n f
term_le n f k l = omega (arith, below_le_at n (λ i. 0) f k (f k) 0 l (λ i j e. omega arith) (omega arith), below_zero n)

pub span_none : (p : ℕ) (f : ℕ → ℕ) → span p p f ≡ 0
span_none p f = let none : p - p ≡ 0 = omega arith in rw (none, below_none) refl

-- one term more at the end of a span
pub span_more : (p q : ℕ) (f : ℕ → ℕ) → p ≤ q → span p (suc q) f ≡ span p q f + f q
span_more p q f h =
    let long : suc q - p ≡ suc (q - p) = omega arith in
    let end : p + (q - p) ≡ q = omega arith in
    rw (long, below_more, end) refl

pub below_split : (p q : ℕ) (f : ℕ → ℕ) → p ≤ q → below q f ≡ below p f + span p q f
unfolding below
below_split p q f h = let end : p + (q - p) ≡ q = omega arith in rw end at (split (q - p))
  where
    split : (j : ℕ) → below (p + j) f ≡ below p f + below j (λ i. f (p + i))
    split zero = rw (add-zero p) (omega arith)
    split (suc j) = rw add-suc (omega (arith, split j))
