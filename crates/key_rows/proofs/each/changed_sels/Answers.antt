use Rattle.std.proofs.Common.{map, refl, ap, ◌∙◌}
use Rattle.window_view.specs.Views.{window_seen}
use Rattle.selection_set.specs.Listing.{ranges_of}
use Rattle.key_rows.specs.Each.{each_range}
use Rattle.key_rows.proofs.EachLemmas.{settles-moved}
use Rattle.key_rows.proofs.each.changed_sels.Goals as goal

pub returns-in-Ok-clause-changes : goal.returns-in-Ok-clause-changes
returns-in-Ok-clause-changes c =
    settles-moved c.args.lines.now (each_range c.args.change (window_seen c.args.window.now) c.args.tabstop.columns c.args.lines.now) c.args.sels.now _ c.in_ok-list.list.items _ _ refl c.main.ensures.value c.requires.held c.in_ok-list.ensures.inside
    (c.in_ok-list.ensures.changes ∙ ap (λ l. map (each_range c.args.change (window_seen c.args.window.now) c.args.tabstop.columns c.args.lines.now) (ranges_of c.args.lines.now l)) c.as_slice.ensures.value) c.in-Ok.ensures.settles
