use Rattle.std.proofs.Common.{ℕ, List, true, ap, ◌∙◌}
use Rattle.std.specs.Str.{chars}
use Rattle.kak_world.specs.Flat.{Flat}
use Rattle.kak_world.specs.Showing.{buffer_opened}
use Rattle.kak_world.proofs.AnswerLemmas.{on-err}
use Rattle.kak_world.proofs.KeepingLaws.{acts_kept}
use Rattle.command_set.proofs.FileLaws.{acts_opened, there_opened}
use Rattle.command_set.proofs.WantingLemmas.{part-made}
use Rattle.command_set.proofs.files.open_empty.Goals as goal

pub show-requires-clause-acts : goal.show-requires-clause-acts
show-requires-clause-acts g c = acts_opened c.args.who _ _ _ _ c.requires c.in_ok-n.ensures.ok

pub show-requires-clause-there : goal.show-requires-clause-there
show-requires-clause-there g c = there_opened _ _ _ _ _ c.in_ok-n.ensures.number c.in_ok-n.ensures.ok

pub note_made-requires : goal.note_made-requires
note_made-requires g c =
    acts_kept c.args.who c.open.new.world.flat c.show.new.self.flat c.in_ok-show.ensures.keeps ∙ acts_opened c.args.who _ _ _ _ c.requires c.in_ok-n.ensures.ok

pub returns-in_err-note_made-clause-err : goal.returns-in_err-note_made-clause-err
returns-in_err-note_made-clause-err g c =
    let name = c.args.name.now in
    let old : Flat = c.args.world.now.flat in
    on-err c.from_residual-in_err-note_made.result
    (part-made name c.in_ok-n.n c.args.who c.open.new.world.flat c.show.new.self.flat old c.note_made.new.world.flat c.in_ok-n.ensures.number
    (c.in_ok-n.ensures.ok ∙ ap (λ (t : List ℕ). buffer_opened (chars name) true t old) (c.in_ok-of_text.ensures ∙ c.in_ok-text.ensures)) c.in_ok-show.ensures.ok c.in_err-note_made.ensures.err)
