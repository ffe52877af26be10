use Rattle.std.proofs.Common.{◌≡◌, ◌++◌, List, ℕ, [], take, drop, get_or, ap, ◌∙◌}
use Rattle.std.proofs.lemmas.Result.{on_ok_weaker}
use Rattle.text_model.specs.Texts.{lines_of}
use Rattle.line_buffer.proofs.RowLemmas.{last-front, split_rows}
use Rattle.line_buffer.proofs.rows.Rows.split.Goals as goal

pub returns-clause-ok : goal.returns-clause-ok
returns-clause-ok c =
    let front : List (List ℕ) = c.move_gap.new.front.items in
    let line : List ℕ = get_or c.args.self.now c.args.n [] in
    let same : get_or front c.args.n [] ≡ line = last-front front c.move_gap.new.back.items c.args.self.now c.args.n [] (c.move_gap.ensures.same ∙ c.self.view_is) c.in_ok-move_gap.ensures.moved in
    on_ok_weaker c.split_last.result
    (λ e. split_rows c.args.self.now front c.split_last.new.front.items c.move_gap.new.back.items (lines_of (take c.args.column line ++ (c.args.chars.now ++ drop c.args.column line))) c.args.n (c.move_gap.ensures.same ∙ c.self.view_is) c.in_ok-move_gap.ensures.moved
    (e ∙ ap (λ l. take c.args.n front ++ lines_of (take c.args.column l ++ (c.args.chars.now ++ drop c.args.column l))) same))
    c.split_last.ensures.ok
