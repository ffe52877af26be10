use Rattle.std.proofs.Common.{◌∙◌, ap, sym, inr}
use Rattle.key_rows.specs.Entering.{place_row}
use Rattle.kak_world.specs.declared.own.Mode.TheVariants.{Insert}
use Rattle.kak_world.specs.Events.{mode_entered}
use Rattle.kak_world.specs.Flat.{is_joined}
use Rattle.kak_world.specs.Rows.{RowEnd}
use Rattle.kak_world.proofs.EventLaws.{keeps_entered}
use Rattle.kak_world.proofs.WorldLaws.{acts_joined}
use Rattle.key_rows.proofs.KeepingLaws.{keeps_place, stays}
use Rattle.key_rows.proofs.WantingLemmas.{placed-calm}
use Rattle.key_rows.proofs.entries.enter_insert.Goals as goal

pub note_entered-requires : goal.note_entered-requires
note_entered-requires g c =
    acts_joined c.args.who c.place.new.world.flat
    (stays (place_row c.args.entry c.args.register c.args.who) c.args.who c.args.world.now.flat c.place.new.world.flat (keeps_place c.args.entry c.args.register c.args.who) c.in_ok-place.ensures.row c.requires)

pub own_mut-own-requires : goal.own_mut-own-requires
own_mut-own-requires g c =
    ap (is_joined c.args.who) c.in_ok-note_entered.ensures.notes
    ∙ (keeps_entered Insert c.args.who c.place.new.world.flat).joined c.args.who
    ∙ acts_joined c.args.who c.place.new.world.flat
    (stays (place_row c.args.entry c.args.register c.args.who) c.args.who c.args.world.now.flat c.place.new.world.flat (keeps_place c.args.entry c.args.register c.args.who) c.in_ok-place.ensures.row c.requires)

pub returns-in_err-note_entered-clause-wanting : goal.returns-in_err-note_entered-clause-wanting
returns-in_err-note_entered-clause-wanting g c = λ is. inr (c.in_err-note_entered.ensures.held, c.in_err-note_entered.ensures.err ∙ ap (λ (x : RowEnd). x.world) (sym c.in_ok-place.ensures.row))

pub returns-in_err-note_entered-clause-few : goal.returns-in_err-note_entered-clause-few
returns-in_err-note_entered-clause-few g c = λ calm few first. absurd (placed-calm c.args.entry c.args.register c.args.who c.args.world.now.flat c.place.new.world.flat c.note_entered.new.self.flat c.in_ok-place.ensures.row c.in_err-note_entered.ensures.err c.in_err-note_entered.ensures.held calm first)
