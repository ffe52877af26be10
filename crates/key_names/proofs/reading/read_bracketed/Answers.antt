use Rattle.std.proofs.Common.{ap, sym, ◌∙◌}
use Rattle.key_names.specs.Reading.{modified_key, none_held}
use Rattle.key_names.proofs.ReadingLemmas.{bracket-unclosed, bracket-no_key, bracket-key}
use Rattle.key_names.proofs.reading.read_bracketed.Goals as goal

pub returns-in_err-end-clause-none : goal.returns-in_err-end-clause-none
returns-in_err-end-clause-none c =
    let none = bracket-unclosed c.args.rest.now (sym c.closing.ensures.place ∙ c.in_err-end.was) in
    rw c.from_residual.ensures none

pub returns-in_err-read_modified-clause-none : goal.returns-in_err-read_modified-clause-none
returns-in_err-read_modified-clause-none c =
    let none = bracket-no_key c.args.rest.now c.in_ok-end.end (sym c.closing.ensures.place ∙ c.in_ok-end.was) (ap (modified_key none_held) (sym c.split_at.ensures.front) ∙ sym c.read_modified.ensures ∙ c.in_err-read_modified.was) in
    rw c.from_residual-in_err-read_modified.ensures none

pub returns-clause-key : goal.returns-clause-key
returns-clause-key c =
    bracket-key c.args.rest.now c.in_ok-end.end c.in_ok-read_modified.field-0 (sym c.closing.ensures.place ∙ c.in_ok-end.was) (ap (modified_key none_held) (sym c.split_at.ensures.front) ∙ sym c.read_modified.ensures ∙ c.in_ok-read_modified.was)
