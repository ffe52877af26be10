use Rattle.std.proofs.Common.{◌≡◌, ℕ, ◌+◌, false, if◌then◌else◌, List, length, Option, sym, ap, subst, ◌∙◌}
use Rattle.std.specs.Prelude.{slice_index}
use Rattle.text_model.specs.declared.coords.Coord.{Coord}
use Rattle.motion_keys.specs.declared.bracket_kinds.Bracket.{Bracket}
use Rattle.motion_keys.specs.Extremes.{least_between, greatest_below}
use Rattle.motion_keys.specs.Places.{OffsetsAre}
use Rattle.motion_keys.specs.Jumps.{are_even, match_of}
use Rattle.motion_keys.proofs.bracket_moves.find_match.Goals as goal

match-behind : (text : List ℕ) (o own : ℕ) (b : Bracket) (found : Option Coord) → b.opens ≡ false → own ≡ slice_index text o → OffsetsAre text found (greatest_below (λ n. are_even text own b.other n o) o) → OffsetsAre text found (match_of text o b)
match-behind text o own b found e r h =
    subst (OffsetsAre text found) (ap (λ c. greatest_below (λ n. are_even text c b.other n o) o) r ∙ sym (ap (λ t. if t then least_between (are_even text (slice_index text o) b.other o) (o + 1) (length text) else greatest_below (λ n. are_even text (slice_index text o) b.other n o) o) e)) h

pub returns : goal.returns
returns c = record { gives = match-behind c.args.lines.now _ _ c.args.bracket _ c.if-bracket.false c.char_at-own.ensures c.match_behind.ensures.gives }
