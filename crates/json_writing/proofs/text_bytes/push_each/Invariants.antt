use Rattle.std.proofs.Common.{◌≡◌, ◌+◌, ◌-◌, ◌≤◌, ◌++◌, length, take, vec_len}
use Rattle.std.specs.Vec.{vec_capacity}
use Rattle.json_writing.specs.Grows.{Grows}
use Rattle.json_writing.specs.JsonText.{all_escaped}
use Rattle.json_writing.proofs.text_bytes.push_each.Given as goal

abbrev pub invariant-loop-i : goal.invariant-loop-i
invariant-loop-i l =
    (l.out.items ≡ l.fn.out.items ++ all_escaped (take l.i l.text))
    × (vec_len l.out + (length l.text - l.i) ≤ vec_capacity l.out)
    × Grows l.fn.out.items l.out.items
