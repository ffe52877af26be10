-- The lines of a text as texts that are searched.
use Rattle.std.specs.Prelude.{ℕ, ◌-◌, List, map}
use Rattle.std.specs.List.{range_with_len}
use Rattle.text_model.specs.Texts.{nth_line}
use Rattle.highlight_paint.specs.Overs.{line_bytes}

-- the bytes of the lines from one to before another, without their newlines
abbrev pub bytes_between : List ℕ → ℕ → ℕ → List (List ℕ)
bytes_between text top below = map (λ n. line_bytes (nth_line text n)) (range_with_len top (below - top))
