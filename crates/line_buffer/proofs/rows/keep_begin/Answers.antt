use Rattle.std.proofs.Common.{◌≡◌, ◌++◌, List, ℕ, [], length, take, drop, get_or, set, ap, ap₂, subst, ◌∙◌, arith}
use Rattle.std.proofs.lemmas.List.{get_or_read}
use Rattle.text_model.specs.Texts.{IsLine, lines_of}
use Rattle.text_model.proofs.PlaceLemmas.{some_lines}
use Rattle.line_buffer.proofs.BufferLemmas.{split_last}
use Rattle.line_buffer.proofs.rows.keep_begin.Goals as goal

pub remove-first-requires : goal.remove-first-requires
remove-first-requires c =
    omega (arith, ap length c.in_ok-fresh.ensures.lines, some_lines (c.args.chars.now ++ drop c.args.column c.index.result.now) c.in_ok-fresh.ensures.text, c.in_ok-fresh.fresh.ok.0)

pub returns-clause-ok : goal.returns-clause-ok
returns-clause-ok c =
    let front : List (List ℕ) = c.args.front.now.items in
    let at : c.index.result.now ≡ get_or front c.args.n [] = get_or_read front c.args.n c.index.result.now (omega (arith, c.requires.last)) c.index.ensures [] in
    let line : IsLine (get_or front c.args.n []) = subst IsLine at c.in_ok-fresh.ensures.valid in
    let fresh : c.in_ok-fresh.fresh.items ≡ lines_of (c.args.chars.now ++ drop c.args.column (get_or front c.args.n [])) = c.in_ok-fresh.ensures.lines ∙ ap (λ l. lines_of (c.args.chars.now ++ drop c.args.column l)) at in
    split_last front c.end_line.new.front.items c.append.new.self.items c.in_ok-fresh.fresh.items c.remove-first.new.self.items c.args.n c.args.column c.args.chars.now c.remove-first.result c.requires.last line c.requires.column fresh c.remove-first.ensures.value c.remove-first.ensures.items
    (c.in_ok-end_line.ensures.ok ∙ ap₂ (λ x y. set x c.args.n (take c.args.column (get_or x c.args.n []) ++ y)) c.reserve.ensures.items c.as_chars.ensures.value)
    c.in_ok-append.ensures.items
