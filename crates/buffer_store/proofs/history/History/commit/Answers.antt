use Rattle.std.proofs.Common.{ap, ◌∙◌, arith}
use Rattle.std.specs.Vec.{vec_len, vec_capacity}
use Rattle.undo_model.specs.Stories.{committed}
use Rattle.buffer_store.specs.Histories.{seen_pending}
use Rattle.buffer_store.proofs.HistoryLemmas.{few-branches, history-committed}
use Rattle.buffer_store.proofs.history.History.commit.Goals as goal

pub commit-requires : goal.commit-requires
commit-requires c = record {
  few = omega (arith, c.self.inside.branches.ok.0, few-branches c.self.inside.lines c.self.inside.branches.items c.self.inside.current c.self.inside.saved (seen_pending c.self.inside.pending) c.self.invariant.told);
  place = c.self.invariant.room;
}

pub invariant_of-self : goal.invariant_of-self
invariant_of-self c =
    (history-committed c.self.inside.lines c.self.inside.branches.items c.commit.new.branches.items c.self.inside.current c.self.inside.saved c.commit.new.current _ _ (vec_len c.commit.new.branches) (vec_capacity c.commit.new.branches) (seen_pending c.self.inside.pending) c.commit.new.pending c.self.invariant c.commit.ensures.branches c.commit.ensures.current c.commit.ensures.group).0

pub returns : goal.returns
returns c =
    (history-committed c.self.inside.lines c.self.inside.branches.items c.commit.new.branches.items c.self.inside.current c.self.inside.saved c.commit.new.current _ _ (vec_len c.commit.new.branches) (vec_capacity c.commit.new.branches) (seen_pending c.self.inside.pending) c.commit.new.pending c.self.invariant c.commit.ensures.branches c.commit.ensures.current c.commit.ensures.group).1 ∙ ap committed c.self.view_is
