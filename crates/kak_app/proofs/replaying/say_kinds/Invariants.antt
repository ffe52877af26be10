use Rattle.std.proofs.Common.{◌≡◌, drop, map, string_bytes}
use Rattle.session_replay.specs.Players.{kinds_of}
use Rattle.kak_app.specs.Replays.{say_kinds}
use Rattle.kak_app.proofs.replaying.say_kinds.Given as goal

-- the words so far say the kinds of their user interfaces
abbrev pub invariant-loop-n : goal.invariant-loop-n
invariant-loop-n g l =
    say_kinds (map (λ word. string_bytes word) (drop l.n l.words)) (kinds_of g.U.Ui.shown (drop l.n l.uis))
    ≡ say_kinds (map (λ word. string_bytes word) l.words) (kinds_of g.U.Ui.shown l.uis)
