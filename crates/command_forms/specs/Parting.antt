-- Texts that are parted at a mark.
use Rattle.std.specs.Prelude.{ℕ, ◌+◌, ◌==◌, List, take, drop, Option, option_map, position}

-- what stands before a mark and behind it
pub record Parts : Type 0 where
  pub before : List ℕ
  pub behind : List ℕ

-- a text parted at a mark where that stands first; none where it doesn't
abbrev pub parted : ℕ → List ℕ → Option Parts
parted mark text =
    option_map (λ n. record { before = take n text; behind = drop (n + 1) text }) (position (λ c. c == mark) text)
