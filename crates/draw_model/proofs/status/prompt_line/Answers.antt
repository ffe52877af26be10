use Rattle.std.proofs.Common.{List, ap, ap₂, ◌∙◌}
use Rattle.drawings.specs.declared.drawing.Atom.{Atom}
use Rattle.std.specs.Str.{chars}
use Rattle.edit_line.specs.Halves.{Halves}
use Rattle.line_painting.specs.Atoms.{atoms_of}
use Rattle.draw_model.specs.Drawings.{prompt_shown}
use Rattle.draw_model.proofs.StatusLemmas.{name-chars, prompt-drawn}
use Rattle.draw_model.proofs.status.prompt_line.Goals as goal

pub returns : goal.returns
returns c =
    ap (λ (a : List Atom). record { atoms = a })
    (c.of_vec.ensures ∙ prompt-drawn c.args.palette.now c.args.purpose c.new-atoms.result.items c.push_run.new.atoms.items c.push_run-2.new.atoms.items c.push_shown.new.atoms.items c.push_run-3.new.atoms.items
    c.as_slice.result.now c.before-2.result.now c.behind-behind.result.now c.past_cursor.result.now c.under_cursor-under.result
    (c.as_slice.ensures ∙ c.in_ok-name.ensures ∙ ap chars c.prompt_name.ensures ∙ name-chars c.args.purpose)
    c.under_cursor-under.ensures c.past_cursor.ensures c.new-atoms.ensures.items c.in_ok-push_run.ensures c.in_ok-push_run-2.ensures c.in_ok-push_shown.ensures c.in_ok-push_run-3.ensures
    ∙ ap₂ (λ a b. atoms_of (prompt_shown c.args.palette.now c.args.purpose (let x : Halves = record { before = a; behind = b } in x))) c.before-2.ensures c.behind-behind.ensures)
