use Rattle.std.proofs.Common.{ap, ◌∙◌}
use Rattle.undo_model.specs.Stories.{Story}
use Rattle.kak_world.specs.Flat.{Buffer, committed_for}
use Rattle.kak_world.proofs.WorldLaws.{committed_by-text}
use Rattle.kak_world.proofs.ListLemmas.{kept-as, shelf-of}
use Rattle.kak_world.specs.Seen.{buffer_seen}
use Rattle.kak_world.proofs.buffer.WorldBuffer.commit.Goals as goal

pub invariant_of-self : goal.invariant_of-self
invariant_of-self c = shelf-of _ _ _ (ap (λ (s : Story). s.text) c.commit.ensures ∙ committed_by-text c.args.who c.self.inside.store) c.self.invariant

pub returns : goal.returns
returns c =
    let old = buffer_seen c.self.inside.name c.self.inside.is_file c.self.inside.store c.self.inside.shelf in
    kept-as _ _ _ _ _ _ _ (committed_for c.args.who) c.self.view_is (ap (λ (s : Story). s.text) c.commit.ensures ∙ committed_by-text c.args.who c.self.inside.store)
    (ap (λ s. let x : Buffer = record { name = old.name; is_file = old.is_file; story = s; lists = old.lists } in x) c.commit.ensures)
