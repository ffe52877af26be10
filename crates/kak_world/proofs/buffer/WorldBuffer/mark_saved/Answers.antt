use Rattle.std.proofs.Common.{true, ap, ◌∙◌}
use Rattle.undo_model.specs.Stories.{Story}
use Rattle.undo_model.proofs.StoryLemmas.{committed-text}
use Rattle.kak_world.specs.Flat.{Buffer}
use Rattle.kak_world.specs.Saving.{marked_as_saved}
use Rattle.kak_world.specs.Seen.{buffer_seen}
use Rattle.kak_world.proofs.ListLemmas.{kept-as, shelf-of}
use Rattle.kak_world.proofs.buffer.WorldBuffer.mark_saved.Goals as goal

pub invariant_of-self : goal.invariant_of-self
invariant_of-self c = shelf-of _ _ _ (ap (λ (s : Story). s.text) c.set_saved.ensures ∙ committed-text c.self.inside.store) c.self.invariant

pub returns : goal.returns
returns c =
    let old = buffer_seen c.self.inside.name c.self.inside.is_file c.self.inside.store c.self.inside.shelf in
    kept-as _ _ _ _ _ _ _ marked_as_saved c.self.view_is (ap (λ (s : Story). s.text) c.set_saved.ensures ∙ committed-text c.self.inside.store)
    (ap (λ s. let x : Buffer = record { name = old.name; is_file = true; story = s; lists = old.lists } in x) c.set_saved.ensures)
