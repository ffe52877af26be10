use Rattle.std.proofs.Common.{◌≡◌, ◌++◌, length}
use Rattle.json_writing.specs.Grows.{Grows}
use Rattle.json_writing.specs.JsonText.{all_escaped}
use Rattle.json_writing.proofs.text_bytes.push_characters.Given as goal

-- what was written and what is left are the whole
abbrev pub invariant-loop-rest : goal.invariant-loop-rest
invariant-loop-rest l = record {
  whole : l.out.items ++ all_escaped l.rest ≡ l.fn.out.items ++ all_escaped l.text;
  grown : Grows l.fn.out.items l.out.items;
}

abbrev pub decreases-loop-rest : goal.decreases-loop-rest
decreases-loop-rest l = length l.rest
