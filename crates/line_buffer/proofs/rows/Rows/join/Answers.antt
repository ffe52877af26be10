use Rattle.std.proofs.Common.{◌≡◌, ◌-◌, ◌++◌, List, ℕ, [], length, take, drop, get_or, set, ap, ap₂, ◌∙◌, arith}
use Rattle.line_buffer.proofs.RowLemmas.{item-back, last-front, joined_rows}
use Rattle.line_buffer.proofs.rows.Rows.join.Goals as goal

pub rest-requires : goal.rest-requires
rest-requires c =
    let m : c.len.result - (c.args.last - c.args.first) ≡ length c.move_gap.new.back.items - 1 - (c.args.last - length c.move_gap.new.front.items) = omega (arith, c.len.ensures, c.move_gap.new.back.ok.0, c.in_ok-move_gap.ensures.moved, c.requires.ordered) in
    let last : c.index-line.result.now ≡ get_or c.args.self.now c.args.last [] =
    item-back c.move_gap.new.front.items c.move_gap.new.back.items c.args.self.now c.args.last (c.len.result - (c.args.last - c.args.first)) c.index-line.result.now [] (c.move_gap.ensures.same ∙ c.self.view_is) (omega (arith, c.in_ok-move_gap.ensures.moved, c.requires.ordered)) c.requires.inside m c.index-line.ensures in
    omega (arith, ap length last, c.requires.from)

pub returns-clause-ok : goal.returns-clause-ok
returns-clause-ok c =
    let front : List (List ℕ) = c.move_gap.new.front.items in
    let back : List (List ℕ) = c.move_gap.new.back.items in
    let m : c.len.result - (c.args.last - c.args.first) ≡ length back - 1 - (c.args.last - length front) = omega (arith, c.len.ensures, c.move_gap.new.back.ok.0, c.in_ok-move_gap.ensures.moved, c.requires.ordered) in
    let left : c.len.result - (c.args.last - c.args.first) ≡ length back - (c.args.last - c.args.first) = omega (arith, c.len.ensures, c.move_gap.new.back.ok.0) in
    let last : c.index-line.result.now ≡ get_or c.args.self.now c.args.last [] =
    item-back front back c.args.self.now c.args.last (c.len.result - (c.args.last - c.args.first)) c.index-line.result.now [] (c.move_gap.ensures.same ∙ c.self.view_is) (omega (arith, c.in_ok-move_gap.ensures.moved, c.requires.ordered)) c.requires.inside m c.index-line.ensures in
    let first : get_or front c.args.first [] ≡ get_or c.args.self.now c.args.first [] = last-front front back c.args.self.now c.args.first [] (c.move_gap.ensures.same ∙ c.self.view_is) c.in_ok-move_gap.ensures.moved in
    joined_rows c.args.self.now front c.end_line.new.front.items back c.truncate.new.self.items c.args.first c.args.last (take c.args.column (get_or c.args.self.now c.args.first []) ++ drop c.args.from (get_or c.args.self.now c.args.last [])) (c.move_gap.ensures.same ∙ c.self.view_is) c.in_ok-move_gap.ensures.moved c.requires.ordered c.requires.inside
    (c.in_ok-end_line.ensures.ok ∙ ap₂ (λ x y. set front c.args.first (take c.args.column x ++ y)) first (c.rest.ensures.value ∙ ap (drop c.args.from) last))
    (c.truncate.ensures.items ∙ ap (λ n. take n back) left)
