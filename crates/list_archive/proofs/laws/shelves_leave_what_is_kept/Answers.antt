use Rattle.list_archive.proofs.TrimLemmas.{brought-keeps, listed-keeps, corner-keeps, trimmed-lists, trimmed-keeps, trimmed-is, trimmed-up}
use Rattle.list_archive.proofs.laws.shelves_leave_what_is_kept.Goals as goal

pub returns : goal.returns
returns c = record {
  brought_up = brought-keeps;
  added = listed-keeps;
  other_corner = corner-keeps;
  trimmed = λ text shelf a st kept. let lists = trimmed-lists text shelf a st kept in (lists, (trimmed-keeps text shelf a st lists kept, trimmed-is text shelf a st kept));
  trimmed_up = trimmed-up;
}
