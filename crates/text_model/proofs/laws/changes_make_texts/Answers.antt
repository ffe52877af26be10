use Rattle.text_model.proofs.ChangeLemmas.{IsText-inserted, insertion-changes, length-inserted, IsText-erased, erasure-changes, replacement-inside, replacement-to_end}
use Rattle.text_model.proofs.laws.changes_make_texts.Goals as goal

pub returns : goal.returns
returns c = record {
  insertion_makes_text = IsText-inserted;
  insertion_changes = insertion-changes;
  insertion_length = length-inserted;
  erasure_makes_text = IsText-erased;
  erasure_changes = erasure-changes;
  replaced_inside = replacement-inside;
  replaced_to_end = replacement-to_end;
}
