use Rattle.std.proofs.Common.{◌++◌, sym, ap, ◌∙◌}
use Rattle.std.proofs.lemmas.Result.{on_ok_weaker}
use Rattle.compact_chars.specs.Rows.{chars_of}
use Rattle.line_painting.proofs.RunLemmas.{grown-pushed}
use Rattle.line_painting.proofs.growing.Growing.push_chars.Goals as goal

pub returns-in-Wide : goal.returns-in-Wide
returns-in-Wide c =
    on_ok_weaker c.extend_from_slice.result
    (λ e. grown-pushed c.self.inside.done.items c.self.inside.face c.self.inside.waiting c.extend_from_slice.new.self (chars_of c.args.chars) c.args.self.now (e ∙ ap (λ t. c.self.inside.waiting ++ chars_of t) (sym c.in-Wide.is)) c.self.view_is)
    c.extend_from_slice.ensures.ok

pub returns-in-Narrow : goal.returns-in-Narrow
returns-in-Narrow c =
    on_ok_weaker c.add_bytes.result
    (λ e. grown-pushed c.self.inside.done.items c.self.inside.face c.self.inside.waiting c.add_bytes.new.chars (chars_of c.args.chars) c.args.self.now (e ∙ ap (λ t. c.self.inside.waiting ++ chars_of t) (sym c.in-Narrow.is)) c.self.view_is)
    c.add_bytes.ensures
