use Rattle.std.proofs.Common.{◌≡◌, ◌++◌, ◌∷◌, List, ℕ, [], take, drop, get_or, set, option_to_list, ap, subst, ◌∙◌, arith}
use Rattle.std.proofs.lemmas.List.{get_or_read}
use Rattle.text_model.specs.Texts.{IsLine, lines_of}
use Rattle.line_buffer.proofs.SplitLemmas.{kept_end}
use Rattle.line_buffer.proofs.rows.keep_end.Goals as goal

pub returns-clause-ok : goal.returns-clause-ok
returns-clause-ok c =
    let front : List (List ℕ) = c.args.front.now.items in
    let at : c.index.result.now ≡ get_or front c.args.n [] = get_or_read front c.args.n c.index.result.now (omega (arith, c.requires.last)) c.index.ensures [] in
    let line : IsLine (get_or front c.args.n []) = subst IsLine at c.in_ok-fresh.ensures.valid in
    kept_end front c.begin_line.new.front.items c.pop.new.self.items c.in_ok-fresh.fresh.items c.push_reserved.new.self.items c.append.new.self.items c.args.n c.args.column c.args.lines.now c.args.rest.now c.unwrap.result c.requires.last line c.requires.column c.requires.lines c.requires.rest
    (c.in_ok-begin_line.ensures.ok ∙ ap (λ x. set x c.args.n (c.args.rest.now ++ drop c.args.column (get_or x c.args.n []))) c.reserve.ensures.items)
    (c.pop.ensures.items ∙ ap (λ x. c.pop.new.self.items ++ option_to_list x) c.unwrap.ensures)
    (c.in_ok-fresh.ensures.lines ∙ ap (λ l. lines_of (take c.args.column l ++ c.args.lines.now)) at)
    (c.push_reserved.ensures.items ∙ ap (λ t. t ++ c.unwrap.result ∷ []) c.reserve-2.ensures.items)
    c.in_ok-append.ensures.items
