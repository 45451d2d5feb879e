-- The fields of a header that is read in one piece. Assumes nothing.
use Rattle.std.proofs.Common.{◌≡◌, ℕ, ◌-◌, ◌<◌, List, length, get_or, take, drop, ap, ◌∙◌, arith}
use Rattle.std.proofs.lemmas.List.{get_or-take, drop-take, take-take}

module _ (bytes h : List ℕ) (is : h ≡ take 13 bytes) (long : length h ≡ 13) where
  pub header_at : (i : ℕ) → i < 13 → get_or h i 0 ≡ get_or bytes i 0
  header_at i low = ap (λ l. get_or l i 0) is ∙ get_or-take 13 bytes i 0 low

  pub header_map : take 8 (take (length h - 5) (drop 5 h)) ≡ take 8 (drop 5 bytes)
  header_map =
      let eight : length h - 5 ≡ 8 = omega (arith, long) in
      ap (λ n. take 8 (take n (drop 5 h))) eight ∙ ap (λ l. take 8 (take 8 (drop 5 l))) is
      ∙ ap (λ l. take 8 (take 8 l)) (drop-take 5 8 bytes) ∙ take-take 8 8 (take 8 (drop 5 bytes)) (omega arith) ∙ take-take 8 8 (drop 5 bytes) (omega arith)
