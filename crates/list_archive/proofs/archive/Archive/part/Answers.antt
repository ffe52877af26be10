use Rattle.std.proofs.Common.{◌≡◌, true, cond, ap, sym, ◌∙◌}
use Rattle.list_shelf.specs.declared.lag.Lag.{Lag}
use Rattle.list_archive.specs.declared.saved.Saved.{Saved}
use Rattle.list_archive.specs.declared.saved.Saved.TheVariants.{Own}
use Rattle.list_archive.specs.Archives.{Archived, own_up, is_had_by, parted}
use Rattle.list_archive.proofs.archive.Archive.part.Goals as goal

pub returns-clause-ok : goal.returns-clause-ok
returns-clause-ok c =
    let with_saved : Saved → Archived = λ saved. record { saved = saved; trails = c.self.inside.trails.items; marks = c.self.inside.marks.items } in
    let had : is_had_by c.args.who c.self.inside.saved ≡ true = sym c.is_had_by.ensures ∙ c.if-not-is_had_by.false in
    ap (λ (lag : Lag). with_saved (Own c.args.who lag)) c.in_ok-lag.ensures.ok
    ∙ sym (ap (λ b. with_saved (cond b (Own c.args.who (own_up c.args.who c.args.shelf.now)) c.self.inside.saved)) had)
    ∙ ap (parted c.args.who c.args.shelf.now) c.self.view_is
