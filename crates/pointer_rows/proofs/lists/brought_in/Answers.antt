use Rattle.std.proofs.Common.{◌≡◌, ℕ, ◌<◌, false, Some, refl, sym, ap, ap₂, ◌∙◌, FitsSigned, w64, arith}
use Rattle.std.proofs.lemmas.Option.{none-some}
use Rattle.std.specs.Prelude.{unwrap_or}
use Rattle.std.specs.declared.option.Option.{Option}
use Rattle.list_model.specs.Ranges.{Range}
use Rattle.text_model.specs.Texts.{line_count}
use Rattle.selection_set.specs.Inside.{range_of}
use Rattle.selection_set.specs.Held.{selected, main_of}
use Rattle.selection_set.proofs.HeldLemmas.{IsMain, main-sel, one-selected}
use Rattle.window_view.specs.Views.{window_seen}
use Rattle.motion_keys.specs.Motions.{line_by, aim, landed}
use Rattle.pointer_rows.specs.Windows.{shows_line, nearest_shown}
use Rattle.pointer_rows.proofs.ScrollLemmas.{line-found, line-there, line-apart, arrives}
use Rattle.pointer_rows.proofs.lists.brought_in.Goals as goal

pub returns-then-shows_line-clause-stays : goal.returns-then-shows_line-clause-stays
returns-then-shows_line-clause-stays c =
    let text = c.args.lines.now in
    let is : IsMain text c.args.sels.now c.at-main.result = main-sel text c.args.sels.now c.main.result c.at-main.result c.main.ensures.value c.at-main.ensures c.requires.held in
    λ _. ap (shows_line (window_seen c.args.window.now)) (line-found text c.args.sels.now c.at-main.result c.cursor-line.result is c.cursor-line.ensures) ∙ sym c.shows_line.ensures ∙ c.if-shows_line.true

pub vertical-requires : goal.vertical-requires
vertical-requires c =
    let is : IsMain c.args.lines.now c.args.sels.now c.at-main.result = main-sel c.args.lines.now c.args.sels.now c.main.result c.at-main.result c.main.ensures.value c.at-main.ensures c.requires.held in
    record { inside = is.inside }

pub unreachable-requires : goal.unreachable-requires
unreachable-requires c =
    let text = c.args.lines.now in
    let is : IsMain text c.args.sels.now c.at-main.result = main-sel text c.args.sels.now c.main.result c.at-main.result c.main.ensures.value c.at-main.ensures c.requires.held in
    let hidden : shows_line (window_seen c.args.window.now) c.cursor-line.result.line ≡ false = sym c.shows_line.ensures ∙ c.if-shows_line.false in
    let there : c.nearest_shown-to.result < line_count text = omega (arith, c.nearest_shown-to.ensures.there, c.line_count.ensures.value) in
    let leads : line_by (line_count text) c.cursor-line.result.line c.lines_to.result ≡ Some c.nearest_shown-to.result =
    c.lines_to.ensures (line_count text) (line-there text c.args.sels.now c.at-main.result c.cursor-line.result is c.cursor-line.ensures) there
    (line-apart c.line_count.result (window_seen c.args.window.now) c.cursor-line.result.line c.nearest_shown-to.result c.args.window.now.some_rows hidden c.nearest_shown-to.ensures.value) in
    let fits : FitsSigned w64 c.lines_to.result = record { sfits = c.lines_to.type_inv } in
    none-some _ (sym (c.in-None.ensures.none refl) ∙ arrives text c.args.sels.now c.at-main.result c.cursor-line.result c.lines_to.result c.args.tabstop.columns c.nearest_shown-to.result is c.cursor-line.ensures fits leads)

pub returns-clause-leaves : goal.returns-clause-leaves
returns-clause-leaves c =
    let text = c.args.lines.now in
    let is : IsMain text c.args.sels.now c.at-main.result = main-sel text c.args.sels.now c.main.result c.at-main.result c.main.ensures.value c.at-main.ensures c.requires.held in
    ap (shows_line (window_seen c.args.window.now)) (line-found text c.args.sels.now c.at-main.result c.cursor-line.result is c.cursor-line.ensures) ∙ sym c.shows_line.ensures ∙ c.if-shows_line.false

pub returns-clause-brings : goal.returns-clause-brings
returns-clause-brings c =
    let text = c.args.lines.now in
    let is : IsMain text c.args.sels.now c.at-main.result = main-sel text c.args.sels.now c.main.result c.at-main.result c.main.ensures.value c.at-main.ensures c.requires.held in
    let hidden : shows_line (window_seen c.args.window.now) c.cursor-line.result.line ≡ false = sym c.shows_line.ensures ∙ c.if-shows_line.false in
    let there : c.nearest_shown-to.result < line_count text = omega (arith, c.nearest_shown-to.ensures.there, c.line_count.ensures.value) in
    let leads : line_by (line_count text) c.cursor-line.result.line c.lines_to.result ≡ Some c.nearest_shown-to.result =
    c.lines_to.ensures (line_count text) (line-there text c.args.sels.now c.at-main.result c.cursor-line.result is c.cursor-line.ensures) there
    (line-apart c.line_count.result (window_seen c.args.window.now) c.cursor-line.result.line c.nearest_shown-to.result c.args.window.now.some_rows hidden c.nearest_shown-to.ensures.value) in
    let fits : FitsSigned w64 c.lines_to.result = record { sfits = c.lines_to.type_inv } in
    let aimed : ℕ = aim text (main_of (selected text c.args.sels.now)) c.args.tabstop.columns in
    let same = ap (λ (found : Option Range). unwrap_or found (range_of text c.in-Some.sel)) (sym c.in-Some.ensures.some ∙ arrives text c.args.sels.now c.at-main.result c.cursor-line.result c.lines_to.result c.args.tabstop.columns c.nearest_shown-to.result is c.cursor-line.ensures fits leads) in
    let nearest : c.nearest_shown-to.result ≡ nearest_shown (line_count text) (window_seen c.args.window.now) _ =
    c.nearest_shown-to.ensures.value ∙ ap₂ (λ n l. nearest_shown n (window_seen c.args.window.now) l) c.line_count.ensures.value (sym (line-found text c.args.sels.now c.at-main.result c.cursor-line.result is c.cursor-line.ensures)) in
    one-selected text c.in-Some.sel c.one.result _ c.one.ensures (same ∙ ap (landed text aimed c.args.tabstop.columns) nearest)
