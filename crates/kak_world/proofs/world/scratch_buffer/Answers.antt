use Rattle.std.proofs.Common.{◌≡◌, [], true, false, ap, ◌∙◌}
use Rattle.std.specs.Prelude.{codes}
use Rattle.std.specs.Str.{chars}
use Rattle.kak_world.specs.Flat.{made_buffer, scratch}
use Rattle.change_list.specs.declared.log.TheConstants.{MAX_STAMP}
use Rattle.list_shelf.specs.Shelves.{empty_shelf}
use Rattle.kak_world.specs.Stored.{just_opened}
use Rattle.kak_world.specs.Seen.{KeptBuffer, buffer_made}
use Rattle.kak_world.proofs.AnswerLemmas.{if-ok}
use Rattle.kak_world.proofs.world.scratch_buffer.Goals as goal

pub returns : goal.returns
unfolding chars
returns c = if-ok (λ b. b ≡ buffer_made c.in_ok-name.name false c.in_ok-lines.lines) (λ (b : KeptBuffer). (b.seen ≡ scratch) × (b.shelf.rows ≡ []) × (b.since.is_new ≡ true) × (b.shelf ≡ empty_shelf MAX_STAMP) × (b.since ≡ just_opened)) c.new.result c.new.ensures
    (λ b e. (
      ap (λ (x : KeptBuffer). x.seen) e ∙ ap (λ n. made_buffer n false c.in_ok-lines.lines) c.in_ok-name.ensures ∙ ap (made_buffer (codes "*scratch*") false) (c.in_ok-lines.ensures ∙ c.in_ok-text.ensures),
      ap (λ (x : KeptBuffer). x.shelf.rows) e,
      ap (λ (x : KeptBuffer). x.since.is_new) e,
      ap (λ (x : KeptBuffer). x.shelf) e,
      ap (λ (x : KeptBuffer). x.since) e,
    ))
