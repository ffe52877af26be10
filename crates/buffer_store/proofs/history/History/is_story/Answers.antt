use Rattle.buffer_store.proofs.HistoryLemmas.{history-story}
use Rattle.buffer_store.proofs.history.History.is_story.Goals as goal

pub returns : goal.returns
returns c = history-story c.self.inside.lines c.self.inside.branches.items c.self.inside.current c.self.inside.saved _ c.args.self.now c.self.invariant.told c.self.view_is
