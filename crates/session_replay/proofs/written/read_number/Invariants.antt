use Rattle.std.proofs.Common.{◌≡◌, ◌<◌, ◌≤◌, ◌^◌, drop}
use Rattle.session_replay.specs.Written.{read_number}
use Rattle.session_replay.proofs.written.read_number.Given as goal

abbrev pub invariant-loop-i : goal.invariant-loop-i
invariant-loop-i l =
    (l.i ≤ 4) × (l.number < 10 ^ l.i) × (read_number l.number l.i (drop l.i l.line) ≡ read_number 0 0 l.line)
