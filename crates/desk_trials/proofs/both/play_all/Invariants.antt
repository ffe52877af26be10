use Rattle.session_desk.specs.Tokens.{IsSamePass}
use Rattle.desk_trials.specs.Tally.{TallyHasPlayed}
use Rattle.desk_trials.proofs.both.play_all.Given as goal

-- under its number stand the moves so far
abbrev pub invariant-loop-played : goal.invariant-loop-played
invariant-loop-played g l = record { same : IsSamePass l.fn.pass l.pass; so_far : TallyHasPlayed l.pass.seen l.fn.pass.number l.moves l.played }
