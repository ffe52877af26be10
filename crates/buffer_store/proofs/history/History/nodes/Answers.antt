use Rattle.std.proofs.Common.{◌≡◌, length, ap, sym, ◌∙◌, arith}
use Rattle.undo_model.specs.Stories.{Story}
use Rattle.buffer_store.specs.Histories.{seen_pending}
use Rattle.buffer_store.proofs.HistoryLemmas.{story-nodes, few-branches}
use Rattle.buffer_store.proofs.history.History.nodes.Goals as goal

pub overflow_cast-result : goal.overflow_cast-result
overflow_cast-result c = omega (arith, c.len.ensures, c.self.inside.branches.ok.0, few-branches c.self.inside.lines c.self.inside.branches.items c.self.inside.current c.self.inside.saved _ c.self.invariant.told)

pub returns : goal.returns
returns c =
    let long : length c.args.self.now.nodes ≡ length c.self.inside.branches.items = ap (λ (s : Story). length s.nodes) (sym c.self.view_is) ∙ story-nodes c.self.inside.lines c.self.inside.branches.items c.self.inside.current c.self.inside.saved (seen_pending c.self.inside.pending) in
    omega (arith, c.len.ensures, c.self.inside.branches.ok.0)
