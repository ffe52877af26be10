use Rattle.std.proofs.Common.{ap, sym, ◌∙◌, arith}
use Rattle.buffer_store.specs.Seen.{Branch}
use Rattle.buffer_store.proofs.WalkLemmas.{branch-read}
use Rattle.buffer_store.proofs.GoneLemmas.{told-current, heir-kept}
use Rattle.buffer_store.proofs.history.History.heir.Goals as goal

pub index-branch-requires : goal.index-branch-requires
index-branch-requires c = omega (arith, c.self.inside.branches.ok.0, told-current _ _ _ _ _ c.self.invariant.told)

pub returns : goal.returns
returns c = ap (λ (b : Branch). b.heir) (c.branch.view_is ∙ branch-read _ _ _ (told-current _ _ _ _ _ c.self.invariant.told) c.index-branch.ensures) ∙ sym (heir-kept _ _ _ _ _ _ c.self.invariant.told c.self.view_is)
