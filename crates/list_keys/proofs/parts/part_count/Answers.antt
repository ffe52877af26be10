use Rattle.list_keys.proofs.PartLemmas.{parts-count}
use Rattle.list_keys.proofs.parts.part_count.Goals as goal

pub returns-in-AtLineEnds-clause-value : goal.returns-in-AtLineEnds-clause-value
returns-in-AtLineEnds-clause-value c = λ text t h. rw c.in-AtLineEnds.is (parts-count text c.args.sel t h c.requires)
