use Rattle.text_model.proofs.MappingLemmas.{moved-mono, shifted-mono, shifted-le, kept_by_insertion, kept_by_erasure}
use Rattle.text_model.proofs.laws.mapping_keeps_order.Goals as goal

pub returns : goal.returns
returns c = record { monotone = moved-mono; monotone_with_cut = shifted-mono; inside = shifted-le; kept_by_insertion = kept_by_insertion; kept_by_erasure = kept_by_erasure }
