use Rattle.std.proofs.Common.{◌≡◌, ap, subst, ◌∙◌}
use Rattle.std.specs.Prelude.{OnOk}
use Rattle.kak_world.specs.Flat.{is_joined}
use Rattle.kak_world.proofs.WorldLaws.{joined_rest}
use Rattle.kak_world.proofs.EventLaws.{coming-now}
use Rattle.kak_world.proofs.world.World.note_coming.Goals as goal

pub note_client-requires : goal.note_client-requires
note_client-requires g c = ap (is_joined c.args.who) c.in_ok-note_displayed.ensures.notes ∙ joined_rest c.args.who _ _ ∙ c.requires

pub returns-clause-notes : goal.returns-clause-notes
returns-clause-notes g c =
    subst (λ flat. OnOk c.note_client.result (c.note_client.new.self.flat ≡ flat))
    (coming-now c.args.who _ c.args.self.now.flat c.in_ok-note_displayed.ensures.notes)
    c.note_client.ensures.notes
